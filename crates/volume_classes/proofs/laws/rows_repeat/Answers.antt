use Rattle.volume_classes.proofs.Repeats.{repeat}
use Rattle.volume_classes.proofs.laws.rows_repeat.Goals as goal

pub returns : goal.returns
returns c = repeat
