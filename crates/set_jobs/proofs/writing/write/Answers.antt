use Rattle.std.proofs.Common.{refl, arith, ℕ, subst, Ok, Err}
use Rattle.raid_terms.specs.Volume.{volume}
use Rattle.run_ends.proofs.Refusals.{does_refused}
use Rattle.run_ends.specs.Agreement.{end_of}
use Rattle.run_ends.specs.Jobs.{Named, around, named, stream}
use Rattle.set_jobs.specs.Mapping.{set_refusal}
use Rattle.set_jobs.specs.Writing.{Writes, write_job, told_for, volume_reads, volume_reads_to}
use Rattle.set_jobs.proofs.Written.{cut_short, written}
use Rattle.set_jobs.proofs.writing.write.Goals as goal

pub returns-in-Ok-write_based-clause-does : goal.returns-in-Ok-write_based-clause-does
returns-in-Ok-write_based-clause-does g c source =
    let set = c.args.set.now in
    let old = g.I.Images.seen c.args.images.now in
    let new = g.I.Images.seen c.write_based.new.images in
    let out = stream (g.K.Sink.gained c.args.out.now) (g.K.Sink.faults c.args.out.now) in
    let put = stream (g.K.Sink.gained c.write_based.new.sink) (g.K.Sink.faults c.write_based.new.sink) in
    written (λ (given : Named). told_for set given.attached) (λ (given : Named). set_refusal set c.args.end given.names given.attached) (λ (given : Named) images. volume images set.geo (end_of c.args.end given.attached)) (λ (given : Named). volume_reads set c.args.end given.attached)
    c.args.names old new source out put c.in-Ok.ensures.allowed
    (subst (λ (n : ℕ). Writes (volume_reads_to set n) (λ bytes. volume bytes set.geo n) (told_for set old.attached) old new out put (Ok tt)) c.in-Ok.ensures.end c.in-Ok-write_based.ensures.does)

pub returns-in-Err-write_based-clause-does : goal.returns-in-Err-write_based-clause-does
returns-in-Err-write_based-clause-does g c source =
    let set = c.args.set.now in
    let old = g.I.Images.seen c.args.images.now in
    let new = g.I.Images.seen c.write_based.new.images in
    let out = stream (g.K.Sink.gained c.args.out.now) (g.K.Sink.faults c.args.out.now) in
    let put = stream (g.K.Sink.gained c.write_based.new.sink) (g.K.Sink.faults c.write_based.new.sink) in
    rw c.stop_of.ensures
    (cut_short (λ (given : Named). told_for set given.attached) (λ (given : Named). set_refusal set c.args.end given.names given.attached) (λ (given : Named) images. volume images set.geo (end_of c.args.end given.attached)) (λ (given : Named). volume_reads set c.args.end given.attached)
    c.args.names old new source out put c.in-Err-write_based.fault c.in-Ok.ensures.allowed
    (subst (λ (n : ℕ). Writes (volume_reads_to set n) (λ bytes. volume bytes set.geo n) (told_for set old.attached) old new out put (Err c.in-Err-write_based.fault)) c.in-Ok.ensures.end c.in-Err-write_based.ensures.does))

pub returns-in-Err-clause-does : goal.returns-in-Err-clause-does
returns-in-Err-clause-does g c source =
    let seen = g.I.Images.seen c.args.images.now in
    does_refused (write_job c.args.set.now c.args.end) (named c.args.names seen.attached) (around seen source) (stream (g.K.Sink.gained c.args.out.now) (g.K.Sink.faults c.args.out.now)) c.in-Err.refusal refl
    (λ said. c.in-Err.ensures.refused) (λ said. omega arith)
