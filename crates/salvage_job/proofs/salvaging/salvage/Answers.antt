use Rattle.std.proofs.Common.{Bool, true, None, refl, sym, subst, Err}
use Rattle.run_ends.proofs.Printed.{does_printed}
use Rattle.run_ends.specs.Jobs.{Does, around, named, stream}
use Rattle.salvage_job.specs.Salvaging.{salvage_job}
use Rattle.salvage_job.proofs.Salvages.{does_salvage, lost_answers, ready_damaged}
use Rattle.set_jobs.proofs.Written.{cut_short}
use Rattle.set_jobs.specs.Faults.{stop_of_volume}
use Rattle.set_jobs.specs.Writing.{told_for}
use Rattle.rescue_map.specs.Salvaged.{reads_for_all, salvaged}
use Rattle.raid_params.specs.Size.{volume_sectors}
use Rattle.salvage_job.proofs.salvaging.salvage.Goals as goal

pub lost_answer-requires : goal.lost_answer-requires
lost_answer-requires g c = ready_damaged c.args.set.now c.args.end c.args.names (g.I.Images.seen c.args.images.now).attached (g.S.Source.left c.args.source.now) c.in_ok-ready.ready c.in_ok-ready.ensures.ready

pub returns-then-lost-clause-does : goal.returns-then-lost-clause-does
returns-then-lost-clause-does g c =
    let set = c.args.set.now in
    let seen = g.I.Images.seen c.args.images.now in
    let old = stream (g.S.Source.left c.args.source.now) (g.S.Source.faults c.args.source.now) in
    let new = stream (g.S.Source.left c.prepare.new.source) (g.S.Source.faults c.prepare.new.source) in
    let out = stream (g.K.Sink.gained c.args.out.now) (g.K.Sink.faults c.args.out.now) in
    let put = stream (g.K.Sink.gained c.print.new.out) (g.K.Sink.faults c.print.new.out) in
    subst (λ (b : Bool). Does (salvage_job set b c.args.end) (named c.args.names seen.attached) (around seen old) (around seen new) out put c.print.result) (sym c.if-lost.true)
    (does_printed (salvage_job set true c.args.end) (named c.args.names seen.attached) (around seen old) (around seen new) out put c.lost_answer.result c.print.result refl
    (lost_answers set c.args.end c.args.names seen old new c.in_ok-ready.ready c.lost_answer.result c.in_ok-ready.ensures.ready
    (record { takes = c.prepare.ensures.takes; end = c.in_ok-ready.ensures.end; faults = c.in_ok-ready.ensures.faults.stays (λ e. absurd (cc)) }) c.lost_answer.ensures)
    c.print.ensures)

pub returns-clause-does : goal.returns-clause-does
returns-clause-does g c =
    let set = c.args.set.now in
    let ready = c.in_ok-ready.ready in
    let seen = g.I.Images.seen c.args.images.now in
    let left = g.I.Images.seen c.salvage.new.images in
    let old = stream (g.S.Source.left c.args.source.now) (g.S.Source.faults c.args.source.now) in
    let new = stream (g.S.Source.left c.prepare.new.source) (g.S.Source.faults c.prepare.new.source) in
    let out = stream (g.K.Sink.gained c.args.out.now) (g.K.Sink.faults c.args.out.now) in
    let put = stream (g.K.Sink.gained c.salvage.new.sink) (g.K.Sink.faults c.salvage.new.sink) in
    let e = c.in-Err.ensures in
    rw c.stop_of.ensures
    (subst (λ (b : Bool). Does {T = Unit {0}} (salvage_job set b c.args.end) (named c.args.names seen.attached) (around seen old) (around left new) out put (Err (stop_of_volume c.in-Err.fault))) (sym c.if-lost.false)
    (does_salvage set c.args.end c.args.names seen left old new out put ready (Err (stop_of_volume c.in-Err.fault)) c.in_ok-ready.ensures.ready
    (record { takes = c.prepare.ensures.takes; end = c.in_ok-ready.ensures.end; faults = c.in_ok-ready.ensures.faults.stays (λ e. absurd (cc)) })
    (cut_short (λ given. told_for set given.attached) (λ given. None) (λ given images. salvaged images ready.rescue set ready.end) (λ given. reads_for_all ready.rescue set 0 (volume_sectors set.geo.head ready.end))
    c.args.names seen left old out put c.in-Err.fault refl
    (record { written = tt; front = e.put; whole = e.whole; memory = e.memory; faults = e.faults; reads = e.reads; later = e.later }))))
