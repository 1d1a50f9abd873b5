-- A walk over the sets of a search for mirrors.
use Rattle.std.specs.Prelude.{ℕ, ◌≡◌, ◌+◌, ◌-◌, ◌*◌, ◌<◌, ◌≤◌, ◌^◌, ◌⊎◌, Bool, false, if◌then◌else◌, IsTrue, MatchOption, List, take, length, slice_get}
use Rattle.std.specs.List.{AllByRecursion, sum_by}
use Rattle.std.specs.Option.{option_map, option_map_or}
use Rattle.std.specs.declared.option.Option.{Option}
use Rattle.std.specs.declared.option.Option.TheVariants.{Some}
use Rattle.outside.specs.Causes.{Rose}
use Rattle.outside.specs.Seen.{OnlyReads, Seen}
use Rattle.slot_math.specs.Space.{lists_of}
use Rattle.candidate_enum.specs.Left.{overlaps}
use Rattle.candidate_enum.specs.Survivors.{all_admitted}
use Rattle.page_loop.specs.Parts.{Added, Fills}
use Rattle.near_mirror.specs.Heads.{is_valid_near}
use Rattle.near_tables.specs.Reading.{read_of}
use Rattle.near_tables.specs.declared.torn_table.TableFault.{TableFault}
use Rattle.near_tables.specs.declared.torn_table.TableFault.TheVariants.{ReadFault, Memory}
use Rattle.near_tables.specs.Torn.{with_slots}
use Rattle.near_search.specs.Product.{near_heads, near_numbered, near_product, near_space, near_total, passes_at, set_count}
use Rattle.near_search.specs.declared.ask.NearAsk.{NearAsk}
use Rattle.near_search.specs.declared.heads.NearSets.{NearSets}
use Rattle.near_search.specs.declared.parts.NearLine.{NearLine}

-- the line holds the set of its rank
abbrev pub HoldsNear : ℕ → NearAsk → NearLine → Type 0
HoldsNear images ask line = slice_get (near_product images ask) line.rank ≡ Some line.set

-- the sets of one head of a search, which stand at the ranks from its first on
pub record IsHeadSets (images : ℕ) (ask : NearAsk) (sets : NearSets) : Type 0 where
  pub valid : 1 ≤ sets.count → IsTrue (is_valid_near sets.head)
  pub offset : sets.head.offset < 2 ^ 55
  pub space : sets.space ≡ near_space images ask sets.head
  pub count : sets.count ≡ length (lists_of sets.space)
  pub stand : (k : ℕ) (slots : List (Option ℕ)) → slice_get (lists_of sets.space) k ≡ Some slots → slice_get (near_product images ask) (sets.first + k) ≡ Some (with_slots sets.head slots)
  pub within : sets.first + sets.count ≤ near_total images ask

-- a range of the ranks of a head
pub record IsPart (sets : NearSets) (from to : ℕ) : Type 0 where
  pub begins : sets.first ≤ from
  pub ordered : from ≤ to
  pub ends : to ≤ sets.first + sets.count

-- each prefix of the slot list at a rank of the head is admitted
abbrev pub list_passes : (List (Option ℕ) → Bool) → NearSets → ℕ → Bool
list_passes admits sets rank = option_map_or (all_admitted admits) (slice_get (lists_of sets.space) (rank - sets.first)) false

-- the ranks that pass of a range were appended, and the page has fewer lines than it may; or it was full before
abbrev pub Gathers : Option (ℕ → Bool) → ℕ → ℕ → ℕ → List ℕ → List ℕ → Option ℕ → Type 0
Gathers passes size from to old new full = MatchOption full (Added passes from to old new × (length new < size)) (Fills passes size from to old new)

-- which ranks pass, over the bytes of the images where they are known
abbrev pub passes_told : Option (List (List ℕ)) → ℕ → NearAsk → Option (ℕ → Bool)
passes_told told images ask = option_map (λ bytes. passes_at bytes images ask) told

-- why a walk ended: the images failed; or memory ran out, and no fault was counted
abbrev pub EndsWalk : Seen → Seen → TableFault → Type 0
EndsWalk old new ReadFault = Rose old.faults new.faults
EndsWalk old new Memory = new.faults ≡ old.faults

-- the sectors of each image that are read for the heads of which a rank lies from one up to another
unfoldable pub near_cost : ℕ → NearAsk → ℕ → ℕ → ℕ
near_cost images ask from to = sum_by (λ sets. if overlaps from to sets.first sets.count then read_of sets.head ask.end ask.window else 0) (near_numbered images ask)

-- no head has ranks both before this one and from it on
abbrev pub IsEdge : ℕ → NearAsk → ℕ → Type 0
IsEdge images ask rank = AllByRecursion (λ sets. (sets.first + sets.count ≤ rank) ⊎ (rank ≤ sets.first)) (near_numbered images ask)

-- the rank of the first set of the head at this place
abbrev pub first_at : ℕ → NearAsk → ℕ → ℕ
first_at images ask place = sum_by (set_count images ask) (take place (near_heads ask))

-- and how many sets that head has
abbrev pub count_at : ℕ → NearAsk → ℕ → ℕ
count_at images ask place = option_map_or (set_count images ask) (slice_get (near_heads ask) place) 0

-- what was read from one rank up to another: each image at most once for each head. Before the end of a page it is read for whole
-- heads
pub record ReadsNear (images : ℕ) (ask : NearAsk) (from to : ℕ) (whole : Bool) (old new : Seen) : Type 0 where
  pub reads : OnlyReads old new (images * near_cost images ask from to)
  pub quiet : new.faults ≡ old.faults
  pub edge : whole ≡ false → (from ≡ to) ⊎ IsEdge images ask to

-- why ranks up to a stop were not gathered, and what was read for them
pub record FailsNear (images : ℕ) (ask : NearAsk) (from stop : ℕ) (old new : Seen) (fault : TableFault) : Type 0 where
  pub reads : OnlyReads old new (images * near_cost images ask from stop)
  pub ends : EndsWalk old new fault
