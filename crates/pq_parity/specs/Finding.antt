-- What finds the missing data cells of a row.
use Rattle.std.specs.Prelude.{ℕ, ◌≡◌, ◌≢◌, ◌<◌, Bool, true, ◌&&◌, ◌⊎◌, IfSome, List, length, slice_index_or}
use Rattle.std.specs.List.{AllByRecursion}
use Rattle.std.specs.declared.option.Option.{Option}
use Rattle.std.specs.declared.option.Option.TheVariants.{None, Some}
use Rattle.raid_params.specs.declared.types.Cell.{Cell}
use Rattle.raid_terms.specs.Parity.{in_p, in_q, is_data}
use Rattle.raid_terms.specs.Solving.{lost_byte}
use Rattle.row_parity.specs.Known.{no_cell}
use Rattle.lane_kernels.specs.Formulas.{weighed_sum}
use Rattle.row_parity.specs.Syndromes.{known_sum}
use Rattle.pq_parity.specs.declared.finders.Finder.{Finder}

-- the cell at this place is missing and holds data
abbrev pub is_lost_at : List Cell → ℕ → Bool
is_lost_at cells place = (slice_index_or cells place no_cell).missing && is_data (slice_index_or cells place no_cell).part

-- with these weights the sums of what is known of a column give the lost byte of this place
abbrev pub FindsAt : List Cell → ℕ → ℕ → ℕ → Type 0
FindsAt cells place a b = (column : List ℕ) → length column ≡ length cells → AllByRecursion (λ byte. byte < 256) column →
    lost_byte cells column place ≡ weighed_sum a b (known_sum in_p cells column) (known_sum in_q cells column)

-- the factors find the missing data cell at the place
pub record IsFinder (cells : List Cell) (finder : Finder) : Type 0 where
  pub lost : is_lost_at cells finder.place ≡ true
  pub finds : FindsAt cells finder.place finder.by_p.factor finder.by_q.factor

-- there is a finder, and it is for this place
abbrev pub IsFor : Option Finder → ℕ → Type 0
IsFor None place = ⊥
IsFor (Some finder) place = place ≡ finder.place

-- each missing data cell has a finder
pub record AreFinders (cells : List Cell) (one : Finder) (other : Option Finder) : Type 0 where
  pub first : IsFinder cells one
  pub second : IfSome other (IsFinder cells)
  pub apart : IfSome other (λ finder. one.place ≢ finder.place)
  pub all : (place : ℕ) → is_lost_at cells place ≡ true → (place ≡ one.place) ⊎ IsFor other place
