use Rattle.std.proofs.Common.{◌∙◌, ◌≡◌, Bool, ap, subst, Option, IfSome}
use Rattle.raid_terms.specs.Cells.{row_cells}
use Rattle.raid_terms.specs.Parity.{is_sound}
use Rattle.parity_scan.specs.ImageSums.{slots_column}
use Rattle.parity_scan.proofs.WholeRows.{place_sound}
use Rattle.parity_scan.proofs.image_rows.is_sound_at.Goals as goal

pub returns-clause-sound : goal.returns-clause-sound
returns-clause-sound c = λ images run t hold below at here.
    c.is_row_sound.ensures.sound
    ∙ place_sound images c.args.geo.now run c.args.regions.now c.args.place t c.args.row.now.cells.items hold below at (c.requires.row.cells ∙ ap (row_cells c.args.geo.now) here)

pub returns-in-Some-clause-sound : goal.returns-in-Some-clause-sound
returns-in-Some-clause-sound c = λ images run t hold below at here.
    let told = c.told_sound.ensures c.args.regions.now c.args.geo.now c.requires.sums c.requires.set c.requires.row in
    let sound : c.in-Some.sound ≡ is_sound c.args.row.now.cells.items (slots_column c.args.regions.now c.args.geo.now.slots.items c.args.place) =
    subst (λ (o : Option Bool). IfSome o (λ s. s ≡ is_sound c.args.row.now.cells.items (slots_column c.args.regions.now c.args.geo.now.slots.items c.args.place))) c.in-Some.is told in
    sound ∙ place_sound images c.args.geo.now run c.args.regions.now c.args.place t c.args.row.now.cells.items hold below at (c.requires.row.cells ∙ ap (row_cells c.args.geo.now) here)
