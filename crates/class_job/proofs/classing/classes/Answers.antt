use Rattle.std.proofs.Common.{refl}
use Rattle.run_ends.proofs.Printed.{does_printed}
use Rattle.run_ends.specs.Jobs.{around, stream}
use Rattle.class_job.specs.Classing.{classes_job}
use Rattle.class_job.proofs.classing.classes.Goals as goal

pub returns : goal.returns
returns g c seen given =
    does_printed (classes_job c.args.images c.args.end) given (around seen (stream (g.S.Source.left c.args.source.now) (g.S.Source.faults c.args.source.now))) (around seen (stream (g.S.Source.left c.answer.new.source) (g.S.Source.faults c.answer.new.source)))
    (stream (g.K.Sink.gained c.args.out.now) (g.K.Sink.faults c.args.out.now)) (stream (g.K.Sink.gained c.print.new.out) (g.K.Sink.faults c.print.new.out)) c.answer.result c.print.result refl
    (c.answer.ensures seen given) c.print.ensures
