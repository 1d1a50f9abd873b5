use Rattle.volume_classes.proofs.Weighed.{each_item}
use Rattle.volume_classes.proofs.laws.each_item_is_weighed.Goals as goal

pub returns : goal.returns
returns c = each_item
