-- Which prefixes of slot lists some rows let begin a set, by the ties of each.
use Rattle.std.specs.Prelude.{ℕ, zero, suc, ◌≡◌, ◌+◌, ◌-◌, ◌/◌, ◌<◌, ◌==◌, nat_le, nat_lt, min, Bool, true, false, not, ◌&&◌, ◌||◌, if◌then◌else◌, IsTrue, All, List, [], ◌∷◌, ◌++◌, length, count_by, slice_index, slice_index_or}
use Rattle.std.specs.List.{list_all, list_any, range_with_len}
use Rattle.std.specs.Option.{is_none, option_map_or}
use Rattle.std.specs.declared.option.Option.{Option}
use Rattle.std.specs.declared.option.Option.TheVariants.{None, Some}
use Rattle.raid_params.specs.Size.{redundancy}
use Rattle.raid_params.specs.Slots.{empties, stands}
use Rattle.raid_params.specs.Validity.{is_valid_head}
use Rattle.raid_params.specs.declared.types.Head.{Head}
use Rattle.raid_params.specs.declared.types.Level.{Level}
use Rattle.raid_params.specs.declared.types.Level.TheVariants.{Raid0, Raid5, Raid6}
use Rattle.raid_terms.specs.Cells.{part_of}
use Rattle.relation_prefix.specs.declared.condition.TheConstants.{MOST_TIES}
use Rattle.relation_prefix.specs.declared.equation.Equation.{Equation}
use Rattle.relation_prefix.specs.declared.equation.Equation.TheVariants.{OfP, OfQ}
use Rattle.relation_prefix.specs.declared.row_ties.RowTies.{RowTies}
use Rattle.relation_prefix.specs.declared.sampled.PrefixTest.{PrefixTest}
use Rattle.relation_prefix.specs.declared.sampled.SampledRow.{SampledRow}
use Rattle.relation_prefix.specs.declared.weights.RowWeights.{RowWeights}
use Rattle.relation_prefix.specs.Equations.{left_without, slot_weight}
use Rattle.relation_prefix.specs.Systems.{sum_at}
use Rattle.relation_prefix.specs.Ties.{coefficients_of, tells_much, AreWeightsOf, FitTies}

-- some list of n bytes passes a test
unfoldable pub some_bytes : ℕ → (List ℕ → Bool) → Bool
some_bytes zero test = test []
some_bytes (suc n) test = list_any (λ b. some_bytes n (λ rest. test (b ∷ rest))) (range_with_len 0 256)

-- where the ties of a row have these weights, an image has this one: an image of zeros has any
abbrev pub has_weight : RowTies → List ℕ → ℕ → ℕ → Bool
has_weight ties x image weight = slice_index_or ties.zeros image false || (sum_at (coefficients_of ties image) (slice_index x) == weight)

-- the image in a slot has the weight of the slot in an equation of a row of chunks
abbrev pub has_slot_weight : RowTies → Head → ℕ → List (Option ℕ) → Equation → List ℕ → ℕ → Bool
has_slot_weight ties head row slots equation x slot =
    option_map_or (λ image. has_weight ties x image (slot_weight head row equation slot)) (slice_index_or slots slot None) true

-- so has each, and once there are all slots each image in none has the weight 0
abbrev pub has_weights : RowTies → Head → ℕ → List (Option ℕ) → Equation → List ℕ → Bool
has_weights ties head row slots equation x =
    list_all (has_slot_weight ties head row slots equation x) (range_with_len 0 (length slots))
    && (nat_lt (length slots) head.members || list_all (λ image. stands image slots || has_weight ties x image 0) (range_with_len 0 ties.images))

-- some relation of the row, told by the weights of its ties, may be the equation
unfoldable pub allows_by : RowTies → Head → ℕ → List (Option ℕ) → Equation → Bool
allows_by ties head row slots equation = some_bytes MOST_TIES (has_weights ties head row slots equation)

-- the equations of a row by level
abbrev pub equations_of : Level → List Equation
equations_of Raid0 = []
equations_of Raid5 = OfP ∷ []
equations_of Raid6 = OfP ∷ OfQ ∷ []

-- those that need no lost block, where no slot is lost, or this one alone
abbrev pub equations_left : Head → ℕ → Option ℕ → List Equation
equations_left head row None = equations_of head.level
equations_left head row (Some slot) = left_without (part_of head row slot) ∷ []

-- each of them may be a relation of the row
abbrev pub row_allows : RowTies → Head → ℕ → List (Option ℕ) → Option ℕ → Bool
row_allows ties head row slots lost = list_all (allows_by ties head row slots) (equations_left head row lost)

-- the row is tested, and refuses that the slots of a set with this slot lost begin so
abbrev pub refuses : PrefixTest → List (Option ℕ) → Option ℕ → SampledRow → Bool
refuses test slots lost sampled =
    nat_lt sampled.row test.tested && not (row_allows sampled.ties test.head (sampled.row / test.head.chunk) slots lost)

-- no more rows refuse it than may be unsound
abbrev pub few_refuse : List SampledRow → PrefixTest → List (Option ℕ) → Option ℕ → Bool
few_refuse rows test slots lost = nat_le (count_by (refuses test slots lost) rows) test.badrows

abbrev pub is_raid6 : Level → Bool
is_raid6 Raid0 = false
is_raid6 Raid5 = false
is_raid6 Raid6 = true

-- a slot may be the only lost one: it is empty, or it is still to come and none is
abbrev pub may_be_lost : PrefixTest → List (Option ℕ) → ℕ → Bool
may_be_lost test slots slot =
    if nat_lt slot (length slots) then (empties slots == 1) && is_none (slice_index_or slots slot None) else (empties slots == 0) && nat_le 1 test.missing

-- no slot may be lost; or this one alone may, at level 6
abbrev pub may_lose : PrefixTest → List (Option ℕ) → Option ℕ → Bool
may_lose test slots None = empties slots == 0
may_lose test slots (Some slot) = is_raid6 test.head.level && may_be_lost test slots slot

-- as many slots as the level survives are lost, or may come to be: then nothing is tested
abbrev pub is_untested : PrefixTest → List (Option ℕ) → Bool
is_untested test slots = nat_le (redundancy test.head.level) (min test.missing (empties slots + (test.head.members - length slots)))

-- the slots of a set whose other lost slots are this one alone, or none, may begin so
abbrev pub may_begin_with : List SampledRow → PrefixTest → List (Option ℕ) → Option ℕ → Bool
may_begin_with rows test slots lost = may_lose test slots lost && few_refuse rows test slots lost

-- the slots of a set of at most `missing` lost slots may begin so: nothing is tested, or no more rows refuse it than may be
-- unsound, with no slot lost or with some one
abbrev pub may_begin : List SampledRow → PrefixTest → List (Option ℕ) → Bool
may_begin rows test slots = is_untested test slots || may_begin_with rows test slots None
    || list_any (λ slot. may_begin_with rows test slots (Some slot)) (range_with_len 0 test.head.members)

-- the weights of the slots in P's equation and in Q's
pub record AreRowWeights (head : Head) (row : ℕ) (weights : RowWeights) : Type 0 where
  pub p : AreWeightsOf head row OfP head.members weights.p
  pub q : AreWeightsOf head row OfQ head.members weights.q

-- those of the rows of chunks in which the first n of some rows lie
abbrev pub AreAllWeights : Head → List SampledRow → ℕ → List RowWeights → Type 0
AreAllWeights head rows n weights = (number : ℕ) (none : SampledRow) (blank : RowWeights) → number < n →
    AreRowWeights head ((slice_index_or rows number none).row / head.chunk) (slice_index_or weights number blank)

-- rows by which prefixes are tested for a head, with the weights of its slots in each
pub record CanTest (head : Head) (rows : List SampledRow) (weights : List RowWeights) : Type 0 where
  pub valid : IsTrue (is_valid_head head)
  pub fit : All (λ sampled. FitTies sampled.ties) rows
  pub long : length weights ≡ length rows
  pub each : AreAllWeights head rows (length rows) weights

-- some rows as contracts see them: of how many images, how many there is room for at least, and the list
pub record KeptRows : Type 0 where
  pub images : ℕ
  pub most : ℕ
  pub list : List SampledRow

-- they are of so many images
pub record AreKeptRows (count : ℕ) (rows : List SampledRow) : Type 0 where
  pub fit : All (λ sampled. FitTies sampled.ties) rows
  pub images : All (λ sampled. sampled.ties.images ≡ count) rows

-- each row is above those that are kept
abbrev pub AreBelow : ℕ → List SampledRow → Type 0
AreBelow row rows = All (λ sampled. sampled.row < row) rows

-- a row of these ties was kept
abbrev pub with_row : KeptRows → ℕ → RowTies → KeptRows
with_row rows row ties = record { images = rows.images; most = rows.most; list = rows.list ++ record { row = row; ties = ties } ∷ [] }

-- each row tells much
abbrev pub all_tell : List SampledRow → Bool
all_tell rows = list_all (λ sampled. tells_much sampled.ties) rows

-- what is asked of rows, as contracts see it
pub record Asked : Type 0 where
  pub rows : KeptRows
  pub test : PrefixTest
