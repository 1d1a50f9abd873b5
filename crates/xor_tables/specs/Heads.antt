-- How many rows break for a head, by the images that its slots hold.
use Rattle.std.specs.Prelude.{ℕ, ◌≡◌, ◌+◌, ◌-◌, ◌^◌, ◌<◌, min, Bool, true, nat_le, List, [], length, slice_index, slice_index_or}
use Rattle.std.specs.List.{range_with_len, sum_by}
use Rattle.std.specs.Option.{option_map_or}
use Rattle.std.specs.declared.option.Option.{Option}
use Rattle.std.specs.declared.option.Option.TheVariants.{None}
use Rattle.raid_params.specs.Size.{rows}
use Rattle.raid_params.specs.Validity.{is_valid_head}
use Rattle.raid_params.specs.declared.limits.TheConstants.{MOST}
use Rattle.raid_params.specs.declared.types.Head.{Head}
use Rattle.slot_math.specs.Ways.{IsPrefixOf}
use Rattle.search_plan.specs.Plans.{IsPlan}
use Rattle.search_plan.specs.declared.plan.Plan.{Plan}
use Rattle.xor_tables.specs.Xors.{rows_hold_by, RowTable}

-- whose rows they are: a plan, a head, and the table of the head's pace and offset, where it needs one
pub record HeadTable : Type 0 where
  pub plan : Plan
  pub head : Head
  pub xors : Option RowTable

-- what breaks where a prefix puts an image on a slot, by a number for each slot and image
abbrev pub broken_at : List (List ℕ) → List (Option ℕ) → ℕ → ℕ
broken_at placed prefix slot = option_map_or (λ i. slice_index (slice_index_or placed slot []) i) (slice_index_or prefix slot None) 0

-- and in all its slots
abbrev pub broken_by : List (List ℕ) → List (Option ℕ) → ℕ
broken_by placed prefix = sum_by (broken_at placed prefix) (range_with_len 0 (length prefix))

-- nothing breaks in the slots before this one
abbrev pub AreBrokenFrom : ℕ → List (List ℕ) → Type 0
AreBrokenFrom first placed = (slot i : ℕ) → slot < first → i < MOST → slice_index (slice_index_or placed slot []) i ≡ 0

-- that, and what always breaks, answers as the table does
abbrev pub IsAnswer : Option RowTable → Plan → Head → ℕ → List (List ℕ) → Type 0
IsAnswer xors plan head always placed = (prefix : List (Option ℕ)) → IsPrefixOf (length plan.lengths.items) head.members prefix →
    nat_le (min (always + broken_by placed prefix) (2 ^ 64 - 1)) plan.limits.badrows ≡ rows_hold_by xors plan head prefix

-- what is kept of the rows of a head: whether it has a whole one, and what breaks
pub record AreHeadRows (of : HeadTable) (has_row : Bool) (always : ℕ) (placed : List (List ℕ)) (from : ℕ) : Type 0 where
  pub is_plan : IsPlan of.plan
  pub valid : is_valid_head of.head ≡ true
  pub whole : has_row ≡ nat_le 1 (rows of.head of.plan.end)
  pub long : length placed ≡ MOST
  pub first : AreBrokenFrom from placed
  pub answer : IsAnswer of.xors of.plan of.head always placed
