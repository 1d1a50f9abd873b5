use Rattle.std.proofs.Common.{refl, arith}
use Rattle.run_ends.proofs.Printed.{does_printed}
use Rattle.run_ends.proofs.Refusals.{early_answers}
use Rattle.run_ends.specs.Jobs.{around, stream}
use Rattle.sample_job.specs.Sampling.{sample_job}
use Rattle.sample_job.proofs.sampling.sample.Goals as goal

pub returns : goal.returns
returns g c given images source =
    let job = sample_job c.args.number c.args.set.now c.args.rows c.args.xfs in
    does_printed job given (around images source) (around images source)
    (stream (g.K.Sink.gained c.args.out.now) (g.K.Sink.faults c.args.out.now)) (stream (g.K.Sink.gained c.print.new.out) (g.K.Sink.faults c.print.new.out)) c.answer.result c.print.result refl
    (early_answers job given (around images source) c.answer.result refl c.answer.ensures.early (λ said. c.answer.ensures.refuses) (λ said. c.answer.ensures.text) (λ said. omega arith))
    c.print.ensures
