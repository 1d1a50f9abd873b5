use Rattle.std.proofs.Common.{refl, arith}
use Rattle.run_ends.proofs.Printed.{does_printed}
use Rattle.run_ends.specs.Jobs.{around, named, stream}
use Rattle.plan_jobs.proofs.Prepared.{prepared, unprepared}
use Rattle.plan_jobs.specs.Checking.{check_job, check_over}
use Rattle.plan_jobs.proofs.checking.check.Goals as goal

pub returns-in-Ok-clause-does : goal.returns-in-Ok-clause-does
returns-in-Ok-clause-does g c =
    let seen = g.I.Images.seen c.args.images.now in
    let new = g.I.Images.seen c.text_over.new.images in
    let source = stream (g.S.Source.left c.args.source.now) (g.S.Source.faults c.args.source.now) in
    let taken = stream (g.S.Source.left c.prepare.new.source) (g.S.Source.faults c.prepare.new.source) in
    does_printed (check_job c.args.set.now) (named c.args.names seen.attached) (around seen source) (around new taken)
    (stream (g.K.Sink.gained c.args.out.now) (g.K.Sink.faults c.args.out.now)) (stream (g.K.Sink.gained c.print.new.out) (g.K.Sink.faults c.print.new.out)) c.text_over.result c.print.result refl
    (prepared (check_over c.args.set.now) c.args.names seen new source taken c.in-Ok.plan c.text_over.result c.in-Ok.ensures.prepared c.prepare.ensures.takes c.in-Ok.ensures.end c.in-Ok.ensures.faults c.text_over.ensures)
    c.print.ensures

pub returns-in-Err-clause-does : goal.returns-in-Err-clause-does
returns-in-Err-clause-does g c =
    let seen = g.I.Images.seen c.args.images.now in
    unprepared (check_over c.args.set.now) c.args.names seen (stream (g.S.Source.left c.args.source.now) (g.S.Source.faults c.args.source.now)) (stream (g.S.Source.left c.prepare.new.source) (g.S.Source.faults c.prepare.new.source))
    (stream (g.K.Sink.gained c.args.out.now) (g.K.Sink.faults c.args.out.now)) c.in-Err.stop c.in-Err.ensures.ends c.prepare.ensures.takes c.in-Err.ensures.faults (λ plan. omega arith)
