use Rattle.parity_scan.proofs.ImageSums.{is_added_so}
use Rattle.parity_scan.proofs.left_out.turn_mark.Goals as goal

pub returns-then-added-clause-sums : goal.returns-then-added-clause-sums
returns-then-added-clause-sums c = λ f n inside long. is_added_so f c.args.marks.now n c.args.image c.args.added c.if-added.true inside long
