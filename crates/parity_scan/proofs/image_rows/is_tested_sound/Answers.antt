use Rattle.std.proofs.Common.{◌∙◌}
use Rattle.member_regions.proofs.Sets.{testable_row}
use Rattle.parity_scan.proofs.ImageRows.{held_sound}
use Rattle.parity_scan.proofs.image_rows.is_tested_sound.Goals as goal

pub row_holds-requires-clause-cells : goal.row_holds-requires-clause-cells
row_holds-requires-clause-cells c = testable_row c.args.geo.now c.args.row.now.at c.deref-cells.result.now c.requires.set (c.deref-cells.ensures.0 ∙ c.requires.cells)

pub returns-clause-sound : goal.returns-clause-sound
returns-clause-sound c = held_sound c.args.geo.now c.args.regions.now c.copy_row.new.row c.args.place c.args.row.now.at c.args.row.now.cells.items c.deref-cells.result.now c.row_holds.result c.copy_row.ensures.copied c.requires.cells c.deref-cells.ensures.0 c.row_holds.ensures
