use Rattle.std.proofs.Common.{refl}
use Rattle.run_ends.proofs.Printed.{does_printed}
use Rattle.run_ends.specs.Jobs.{around, named, stream}
use Rattle.near_jobs.specs.Mirroring.{mirrors_job}
use Rattle.near_jobs.proofs.mirroring.mirrors.Goals as goal

pub returns-clause-does : goal.returns-clause-does
returns-clause-does g c source =
    let seen = g.I.Images.seen c.args.images.now in
    does_printed (mirrors_job c.args.asked) (named c.args.names seen.attached) (around seen source) (around (g.I.Images.seen c.answer.new.images) source)
    (stream (g.K.Sink.gained c.args.out.now) (g.K.Sink.faults c.args.out.now)) (stream (g.K.Sink.gained c.print.new.out) (g.K.Sink.faults c.print.new.out)) c.answer.result c.print.result refl
    (c.answer.ensures.answers source) c.print.ensures
