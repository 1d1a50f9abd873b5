use Rattle.std.proofs.Common.{refl, arith, ℕ, subst, Ok, Err}
use Rattle.raid_terms.specs.Volume.{member}
use Rattle.run_ends.proofs.Refusals.{does_refused}
use Rattle.run_ends.specs.Agreement.{end_of}
use Rattle.run_ends.specs.Jobs.{Named, around, named, stream}
use Rattle.set_jobs.specs.Writing.{Writes, rebuild_job, rebuild_refusal, told_for, volume_reads, volume_reads_to}
use Rattle.set_jobs.proofs.Written.{cut_short, written}
use Rattle.set_jobs.proofs.writing.rebuild.Goals as goal

pub returns-in-Ok-rebuild_based-clause-does : goal.returns-in-Ok-rebuild_based-clause-does
returns-in-Ok-rebuild_based-clause-does g c source =
    let set = c.args.set.now in
    let old = g.I.Images.seen c.args.images.now in
    let new = g.I.Images.seen c.rebuild_based.new.images in
    let out = stream (g.K.Sink.gained c.args.out.now) (g.K.Sink.faults c.args.out.now) in
    let put = stream (g.K.Sink.gained c.rebuild_based.new.sink) (g.K.Sink.faults c.rebuild_based.new.sink) in
    written (λ (given : Named). told_for set given.attached) (λ (given : Named). rebuild_refusal set c.args.end c.args.slot given.names given.attached) (λ (given : Named) images. member images set.geo (end_of c.args.end given.attached) c.args.slot) (λ (given : Named). volume_reads set c.args.end given.attached)
    c.args.names old new source out put c.in-Ok.ensures.allowed
    (subst (λ (n : ℕ). Writes (volume_reads_to set n) (λ bytes. member bytes set.geo n c.args.slot) (told_for set old.attached) old new out put (Ok tt)) c.in-Ok.ensures.end c.in-Ok-rebuild_based.ensures.does)

pub returns-in-Err-rebuild_based-clause-does : goal.returns-in-Err-rebuild_based-clause-does
returns-in-Err-rebuild_based-clause-does g c source =
    let set = c.args.set.now in
    let old = g.I.Images.seen c.args.images.now in
    let new = g.I.Images.seen c.rebuild_based.new.images in
    let out = stream (g.K.Sink.gained c.args.out.now) (g.K.Sink.faults c.args.out.now) in
    let put = stream (g.K.Sink.gained c.rebuild_based.new.sink) (g.K.Sink.faults c.rebuild_based.new.sink) in
    rw c.stop_of.ensures
    (cut_short (λ (given : Named). told_for set given.attached) (λ (given : Named). rebuild_refusal set c.args.end c.args.slot given.names given.attached) (λ (given : Named) images. member images set.geo (end_of c.args.end given.attached) c.args.slot) (λ (given : Named). volume_reads set c.args.end given.attached)
    c.args.names old new source out put c.in-Err-rebuild_based.fault c.in-Ok.ensures.allowed
    (subst (λ (n : ℕ). Writes (volume_reads_to set n) (λ bytes. member bytes set.geo n c.args.slot) (told_for set old.attached) old new out put (Err c.in-Err-rebuild_based.fault)) c.in-Ok.ensures.end c.in-Err-rebuild_based.ensures.does))

pub returns-in-Err-clause-does : goal.returns-in-Err-clause-does
returns-in-Err-clause-does g c source =
    let seen = g.I.Images.seen c.args.images.now in
    does_refused (rebuild_job c.args.set.now c.args.end c.args.slot) (named c.args.names seen.attached) (around seen source) (stream (g.K.Sink.gained c.args.out.now) (g.K.Sink.faults c.args.out.now)) c.in-Err.refusal refl
    (λ said. c.in-Err.ensures.refused) (λ said. omega arith)
