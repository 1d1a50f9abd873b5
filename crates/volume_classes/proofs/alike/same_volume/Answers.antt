use Rattle.volume_classes.proofs.Telling.{tell}
use Rattle.volume_classes.proofs.alike.same_volume.Goals as goal

pub returns : goal.returns
returns c =
    let told = tell c.args.one.now c.args.other.now c.args.images c.args.end c.requires.one c.requires.other in
    (λ is. told.1 (c.have_equal_coefficients.ensures.0 is), λ alike. c.have_equal_coefficients.ensures.1 (told.0 alike))
