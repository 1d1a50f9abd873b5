use Rattle.volume_classes.proofs.Volumes.{are_sums}
use Rattle.volume_classes.proofs.laws.volumes_are_sums.Goals as goal

pub returns : goal.returns
returns c = are_sums
