use Rattle.volume_classes.proofs.Telling.{tell}
use Rattle.volume_classes.proofs.laws.coefficients_tell.Goals as goal

pub returns : goal.returns
returns c = tell
