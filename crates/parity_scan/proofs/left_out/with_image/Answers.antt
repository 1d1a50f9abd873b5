use Rattle.std.proofs.Common.{◌∙◌}
use Rattle.parity_scan.proofs.ImageSums.{unmarked_first, unmarked_more}
use Rattle.parity_scan.proofs.left_out.with_image.Goals as goal

pub returns-then-marked : goal.returns-then-marked
returns-then-marked c = λ marks here is. unmarked_more marks c.args.image c.args.out (here ∙ c.if-marked.true) is

pub returns-in-Nobody : goal.returns-in-Nobody
returns-in-Nobody c = λ marks here is. unmarked_first marks c.args.image c.args.out c.in-Nobody.is (here ∙ c.if-marked.false) is
