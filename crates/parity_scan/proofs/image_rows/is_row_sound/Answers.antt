use Rattle.parity_scan.proofs.ImageRows.{tested_met, told_sound}
use Rattle.parity_scan.proofs.image_rows.is_row_sound.Goals as goal

pub returns-in-Some-told-clause-sound : goal.returns-in-Some-told-clause-sound
returns-in-Some-told-clause-sound c =
    told_sound c.args.regions.now c.args.geo.now.slots.items c.args.place c.args.row.now.cells.items c.args.row.now.factors c.in-Some.factors c.told.result c.in-Some-told.sound c.are_bytes.ensures c.requires.factors c.in-Some.is
    (c.told.ensures c.args.regions.now c.requires.known) c.in-Some-told.is

pub returns-clause-known : goal.returns-clause-known
returns-clause-known c =
    c.note.ensures c.args.regions.now c.requires.known
    (tested_met c.args.regions.now c.args.geo.now.slots.items c.args.place c.args.row.now.cells.items c.args.row.now.factors c.in-Some.factors c.is_tested_sound-sound.result c.are_bytes.ensures c.requires.factors c.in-Some.is c.is_tested_sound-sound.ensures.sound)
