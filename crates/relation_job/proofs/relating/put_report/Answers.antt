use Rattle.run_ends.specs.Jobs.{stream}
use Rattle.relation_job.proofs.Reported.{cut_last, ends_from, reported}
use Rattle.relation_job.proofs.relating.put_report.Goals as goal

pub returns-in-Ok-finish-clause-put : goal.returns-in-Ok-finish-clause-put
returns-in-Ok-finish-clause-put g c =
    let attached = (g.I.Images.seen c.args.images.now).attached in
    reported attached c.args.offsets.now c.args.sampling c.args.looking.report.style c.args.sampling.rows c.args.looking.report c.add_rows.new.self.report (g.K.Sink.gained c.args.out.now) (g.K.Sink.gained c.add_rows.new.out) (g.K.Sink.gained c.finish.new.out)
    c.requires.report c.in-Ok.ensures.ok c.in-Ok-finish.ensures.put

pub returns-in-Err-finish-clause-ends : goal.returns-in-Err-finish-clause-ends
returns-in-Err-finish-clause-ends g c =
    let attached = (g.I.Images.seen c.args.images.now).attached in
    cut_last attached c.args.offsets.now c.args.sampling c.args.looking.report.style c.args.sampling.rows c.args.looking.report c.add_rows.new.self.report (g.K.Sink.gained c.args.out.now) (g.K.Sink.gained c.add_rows.new.out) (g.K.Sink.gained c.finish.new.out)
    c.requires.report c.in-Ok.ensures.ok c.in-Err-finish.ensures.put

pub returns-in-Err-clause-ends : goal.returns-in-Err-clause-ends
returns-in-Err-clause-ends g c =
    let attached = (g.I.Images.seen c.args.images.now).attached in
    ends_from attached c.args.offsets.now c.args.sampling c.args.looking.report.style c.args.sampling.rows c.args.looking.report (g.I.Images.seen c.args.images.now) (g.I.Images.seen c.add_rows.new.images)
    (stream (g.K.Sink.gained c.args.out.now) (g.K.Sink.faults c.args.out.now)) (stream (g.K.Sink.gained c.add_rows.new.out) (g.K.Sink.faults c.add_rows.new.out)) c.in-Err.stop c.requires.report c.in-Err.ensures.err
