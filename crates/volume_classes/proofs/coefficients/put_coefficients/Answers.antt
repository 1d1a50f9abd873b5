use Rattle.std.proofs.Common.{◌∙◌, ℕ, List, arith, ap, get_or, length, sym, subst}
use Rattle.std.specs.declared.option.Option.{Option}
use Rattle.std.specs.declared.option.Option.TheVariants.{None}
use Rattle.raid_layouts.proofs.Counts.{cells_length}
use Rattle.raid_layouts.proofs.Shapes.{shaped_head, shaped_slots}
use Rattle.raid_layouts.proofs.Solvable.{row_is}
use Rattle.raid_terms.specs.Parity.{IsRow}
use Rattle.volume_classes.proofs.SlotSectors.{lost_coefficient, missing_at}
use Rattle.volume_classes.proofs.coefficients.put_coefficients.Goals as goal

pub slot_of_item-slot-requires-clause-head : goal.slot_of_item-slot-requires-clause-head
slot_of_item-slot-requires-clause-head c = shaped_head c.args.geo.now c.requires.shape.0 c.requires.shape.1

pub solve-requires-clause-cells : goal.solve-requires-clause-cells
solve-requires-clause-cells c = subst IsRow (sym c.requires.cells) (row_is c.args.geo.now c.requires.shape.0 c.args.row c.requires.shape.1)

pub solve-requires-clause-row : goal.solve-requires-clause-row
solve-requires-clause-row c =
    let cells = ap length c.requires.cells in
    let long = cells_length c.args.geo.now.head c.args.row 0 c.args.geo.now.slots.items in
    let units = c.requires.units.long in
    omega arith

pub solve-requires-clause-place : goal.solve-requires-clause-place
solve-requires-clause-place c =
    let cells = ap length c.requires.cells in
    let long = cells_length c.args.geo.now.head c.args.row 0 c.args.geo.now.slots.items in
    let slots = shaped_slots c.args.geo.now c.requires.shape.0 c.requires.shape.1 in
    let below = c.slot_of_item-slot.ensures.below in
    omega arith

pub solve-requires-clause-missing : goal.solve-requires-clause-missing
solve-requires-clause-missing c =
    let slots = shaped_slots c.args.geo.now c.requires.shape.0 c.requires.shape.1 in
    let below = c.slot_of_item-slot.ensures.below in
    missing_at c.args.geo.now c.args.row c.slot_of_item-slot.result c.args.cells.now c.requires.cells (omega arith) (ap (λ (xs : List (Option ℕ)). get_or xs c.slot_of_item-slot.result None) (sym c.deref.ensures.0) ∙ c.in-None.is)

pub returns-in-None-clause-bytes : goal.returns-in-None-clause-bytes
returns-in-None-clause-bytes c image small =
    c.solve.ensures.lost image small
    ∙ lost_coefficient c.args.geo.now c.args.units.now c.args.cells.now c.args.row c.args.item c.slot_of_item-slot.result image c.requires.cells c.slot_of_item-slot.ensures.there
    (ap (λ (xs : List (Option ℕ)). get_or xs c.slot_of_item-slot.result None) (sym c.deref.ensures.0) ∙ c.in-None.is) c.requires.units small
