use Rattle.std.proofs.Common.{◌≡◌, ◌++◌, ◌∷◌, [], rules, ap, ◌∙◌}
use Rattle.image_source.proofs.Files.{attaches}
use Rattle.reraid_rows.proofs.long_images.LongImages.attach.Goals as goal

pub returns-clause-attached : goal.returns-clause-attached
returns-clause-attached c =
    let items : c.push.new.self.items ≡ c.self.inside.lengths.items ++ c.length_of-sectors.result ∷ [] = search rules in
    attaches c.args.self.now (record { lengths = c.push.new.self.items; faults = c.self.inside.faults; sectors_read = 0 }) c.args.name.now c.length_of-sectors.result
    (items ∙ ap (λ s. s.lengths ++ c.length_of-sectors.result ∷ []) c.self.view_is) (ap (λ s. s.sectors_read) c.self.view_is) c.length_of-sectors.ensures
