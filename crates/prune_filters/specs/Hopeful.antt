-- When a prefix of a slot list may still lead to a parameter set that passes.
use Rattle.std.specs.Prelude.{ℕ, Bool, ◌&&◌, nat_le, List, length}
use Rattle.std.specs.declared.option.Option.{Option}
use Rattle.raid_params.specs.Size.{rows}
use Rattle.raid_params.specs.declared.types.Head.{Head}
use Rattle.slot_math.specs.Ways.{IsPrefixOf}
use Rattle.search_plan.specs.declared.plan.Plan.{Plan}
use Rattle.mark_tables.specs.Marks.{groups_may_hold}
use Rattle.xor_tables.specs.Rows.{rows_may_hold}
use Rattle.xor_tables.specs.Xors.{rows_hold_by, RowTable}

-- a prefix is hopeful for a plan and a head, over the bytes of the images: there is a whole row, each group may
-- still hold, and no more rows are broken already than may be
abbrev pub is_hopeful : List (List ℕ) → Plan → Head → List (Option ℕ) → Bool
is_hopeful images plan head prefix =
    nat_le 1 (rows head plan.end) && (groups_may_hold plan head prefix && rows_may_hold images plan head prefix)

-- a prefix is hopeful by a table of rows, where the head needs one
abbrev pub is_hopeful_by : Option RowTable → Plan → Head → List (Option ℕ) → Bool
is_hopeful_by xors plan head prefix =
    nat_le 1 (rows head plan.end) && (groups_may_hold plan head prefix && rows_hold_by xors plan head prefix)

-- a prefix of a slot list of the head: no more places than members, with images of the plan
abbrev pub IsPrefix : Plan → Head → List (Option ℕ) → Type 0
IsPrefix plan head prefix = IsPrefixOf (length plan.lengths.items) head.members prefix
