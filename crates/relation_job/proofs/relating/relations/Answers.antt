use Rattle.std.proofs.Common.{arith, refl}
use Rattle.run_ends.proofs.Refusals.{does_refused}
use Rattle.run_ends.specs.Jobs.{around, named, stream}
use Rattle.run_ends.specs.declared.stop.Refusal.TheVariants.{Images}
use Rattle.relation_job.specs.Relating.{relations_job}
use Rattle.relation_job.proofs.Done.{does_report, images_refused}
use Rattle.relation_job.proofs.relating.relations.Goals as goal

pub returns-in-Ok-clause-does : goal.returns-in-Ok-clause-does
returns-in-Ok-clause-does g c source =
    let e = c.report_rows.ensures in
    does_report c.args.asked c.args.names c.deref.result.now c.in-Ok.sampling c.style_of.result (g.I.Images.seen c.args.images.now) (g.I.Images.seen c.report_rows.new.images) source (stream (g.K.Sink.gained c.args.out.now) (g.K.Sink.faults c.args.out.now))
    (stream (g.K.Sink.gained c.report_rows.new.out) (g.K.Sink.faults c.report_rows.new.out)) c.report_rows.result c.in-Ok.ensures.allowed c.deref.ensures.0 c.in-Ok.ensures.sampling c.style_of.ensures
    (record { put = e.put; ends = e.ends; reads = e.reads; images = e.images; out = e.out })

pub returns-in-Err-clause-does : goal.returns-in-Err-clause-does
returns-in-Err-clause-does g c source =
    let seen = g.I.Images.seen c.args.images.now in
    does_refused (relations_job c.args.asked) (named c.args.names seen.attached) (around seen source) (stream (g.K.Sink.gained c.args.out.now) (g.K.Sink.faults c.args.out.now)) (Images c.in-Err.fault) refl
    (λ said. images_refused c.args.asked c.args.names seen.attached c.in-Err.fault c.in-Err.ensures.refused) (λ said. omega arith)
