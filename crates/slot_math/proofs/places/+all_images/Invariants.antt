use Rattle.std.proofs.Common.{length}
use Rattle.slot_math.proofs.places.+all_images.Given as goal

abbrev pub decreases-all_images : goal.decreases-all_images
decreases-all_images l = length l.list.now
