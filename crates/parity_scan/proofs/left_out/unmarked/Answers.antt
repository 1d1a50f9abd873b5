use Rattle.parity_scan.proofs.ImageSums.{unmarked_none}
use Rattle.parity_scan.proofs.left_out.unmarked.Goals as goal

pub loop-image-init : goal.loop-image-init
loop-image-init c = unmarked_none c.args.marks.now
