use Rattle.run_ends.proofs.OneByOne.{attached_front}
use Rattle.run_ends.proofs.attaching.attach_front.Goals as goal

pub returns-clause-some : goal.returns-clause-some
returns-clause-some g c = attached_front (g.I.Images.seen c.args.images.now) (g.I.Images.seen c.attach_all.new.images) c.args.names.now c.min.result c.attach_all.ensures.some
