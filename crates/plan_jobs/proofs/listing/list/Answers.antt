use Rattle.std.proofs.Common.{refl}
use Rattle.run_ends.proofs.Printed.{does_printed}
use Rattle.run_ends.specs.Jobs.{around, named, stream}
use Rattle.outside.specs.Attached.{told_all}
use Rattle.plan_jobs.proofs.PagesRead.{none_read}
use Rattle.plan_jobs.proofs.Prepared.{images_agree, prepared, unprepared}
use Rattle.plan_jobs.specs.Listing.{list_job, list_over}
use Rattle.plan_jobs.proofs.listing.list.Goals as goal

pub text_over-requires-clause-lengths : goal.text_over-requires-clause-lengths
text_over-requires-clause-lengths g c lifetimes outlive =
    images_agree c.in-Ok.plan c.args.names (g.I.Images.seen c.args.images.now).attached c.in-Ok.ensures.plan c.requires.attached c.in-Ok.ensures.agrees

pub returns-in-Ok-clause-does : goal.returns-in-Ok-clause-does
returns-in-Ok-clause-does g c =
    let seen = g.I.Images.seen c.args.images.now in
    let new = g.I.Images.seen c.text_over.new.images in
    let source = stream (g.S.Source.left c.args.source.now) (g.S.Source.faults c.args.source.now) in
    let taken = stream (g.S.Source.left c.prepare.new.source) (g.S.Source.faults c.prepare.new.source) in
    let over = list_over c.args.asked.now in
    does_printed (list_job c.args.asked.now) (named c.args.names seen.attached) (around seen source) (around new taken)
    (stream (g.K.Sink.gained c.args.out.now) (g.K.Sink.faults c.args.out.now)) (stream (g.K.Sink.gained c.print.new.out) (g.K.Sink.faults c.print.new.out)) c.text_over.result c.print.result refl
    (prepared over c.args.names seen new source taken c.in-Ok.plan c.text_over.result c.in-Ok.ensures.prepared c.prepare.ensures.takes c.in-Ok.ensures.end c.in-Ok.ensures.faults (c.text_over.ensures c.args.names))
    c.print.ensures

pub returns-in-Err-clause-does : goal.returns-in-Err-clause-does
returns-in-Err-clause-does g c =
    let seen = g.I.Images.seen c.args.images.now in
    unprepared (list_over c.args.asked.now) c.args.names seen (stream (g.S.Source.left c.args.source.now) (g.S.Source.faults c.args.source.now)) (stream (g.S.Source.left c.prepare.new.source) (g.S.Source.faults c.prepare.new.source))
    (stream (g.K.Sink.gained c.args.out.now) (g.K.Sink.faults c.args.out.now)) c.in-Err.stop c.in-Err.ensures.ends c.prepare.ensures.takes c.in-Err.ensures.faults
    (λ plan. none_read (told_all seen.attached) c.args.asked.now plan _ seen.sectors_read)

pub returns-in-Ok-clause-kept : goal.returns-in-Ok-clause-kept
returns-in-Ok-clause-kept g c = (c.text_over.ensures c.args.names).attached
