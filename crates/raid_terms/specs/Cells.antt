-- The cells of a row: for each slot, what its block is for the parity equations, and whether its member is missing.
use Rattle.std.specs.Prelude.{ℕ, ◌+◌, Bool, ◌==◌, if◌then◌else◌, List, [], ◌∷◌}
use Rattle.std.specs.Option.{is_none, option_map_or}
use Rattle.std.specs.declared.option.Option.{Option}
use Rattle.raid_params.specs.declared.types.Cell.{Cell}
use Rattle.raid_params.specs.declared.types.Geometry.{Geometry}
use Rattle.raid_params.specs.declared.types.Head.{Head}
use Rattle.raid_params.specs.declared.types.Level.{Level}
use Rattle.raid_params.specs.declared.types.Level.TheVariants.{Raid0, Raid5, Raid6}
use Rattle.raid_params.specs.declared.types.Part.{Part}
use Rattle.raid_params.specs.declared.types.Part.TheVariants.{Block, P, Q}
use Rattle.raid_terms.specs.Exponent.{exponent_of}
use Rattle.raid_terms.specs.Role.{p_of, q_of}
use Rattle.std.specs.Prelude.{false}

-- there is a place, and it is this slot
abbrev pub stands_in : ℕ → Option ℕ → Bool
stands_in slot place = option_map_or (λ p. p == slot) place false

-- the exponent of the power of 2 by which Q weighs a data block at level 6; 0 below, where there is no Q
abbrev pub weight_at : Level → Head → ℕ → ℕ → ℕ
weight_at Raid0 head row slot = 0
weight_at Raid5 head row slot = 0
weight_at Raid6 head row slot = exponent_of head row slot

-- what the block of a slot is in a row
abbrev pub part_of : Head → ℕ → ℕ → Part
part_of head row slot =
    if stands_in slot (p_of head row) then P
    else if stands_in slot (q_of head row) then Q
    else Block (weight_at head.level head row slot)

-- the cells of the slots from number `slot` on
abbrev pub cells_from : Head → ℕ → ℕ → List (Option ℕ) → List Cell
cells_from head row slot [] = []
cells_from head row slot (held ∷ slots) = record { part = part_of head row slot; missing = is_none held } ∷ cells_from head row (slot + 1) slots

-- the cells of a row, one for each slot
abbrev pub row_cells : Geometry → ℕ → List Cell
row_cells geo row = cells_from geo.head row 0 geo.slots.items
