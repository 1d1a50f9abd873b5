use Rattle.std.proofs.Common.{refl, arith, ℕ, subst, Ok, Err}
use Rattle.outside.specs.Attached.{told_all}
use Rattle.near_mirror.specs.Copies.{near_sectors}
use Rattle.near_volume.specs.Sectors.{near_volume}
use Rattle.run_ends.proofs.Refusals.{does_refused}
use Rattle.run_ends.specs.Agreement.{end_of}
use Rattle.run_ends.specs.Jobs.{Named, around, named, stream}
use Rattle.set_jobs.specs.Writing.{Writes}
use Rattle.set_jobs.proofs.Written.{cut_short, written}
use Rattle.near_jobs.specs.MirrorWriting.{mirror_reads, mirror_refusal, mirrorwrite_job}
use Rattle.near_jobs.proofs.mirror_writing.mirrorwrite.Goals as goal

pub returns-in-Ok-write_near-clause-does : goal.returns-in-Ok-write_near-clause-does
returns-in-Ok-write_near-clause-does g c source =
    let set = c.args.set.now in
    let old = g.I.Images.seen c.args.images.now in
    let new = g.I.Images.seen c.write_near.new.images in
    let out = stream (g.K.Sink.gained c.args.out.now) (g.K.Sink.faults c.args.out.now) in
    let put = stream (g.K.Sink.gained c.write_near.new.sink) (g.K.Sink.faults c.write_near.new.sink) in
    let e = c.in-Ok-write_near.ensures in
    let done : Writes (near_sectors set.head c.in-Ok.end) (λ bytes. near_volume bytes set c.in-Ok.end) (told_all old.attached) old new out put (Ok tt)
    = record { written = e.written; front = e.front; whole = e.whole; memory = e.memory; faults = e.faults; reads = c.write_near.ensures.reads; later = c.write_near.ensures.later } in
    written (λ (given : Named). told_all given.attached) (λ (given : Named). mirror_refusal set c.args.end given.names given.attached) (λ (given : Named) images. near_volume images set (end_of c.args.end given.attached)) (λ (given : Named). mirror_reads set c.args.end given.attached)
    c.args.names old new source out put c.in-Ok.ensures.allowed
    (subst (λ (n : ℕ). Writes (near_sectors set.head n) (λ bytes. near_volume bytes set n) (told_all old.attached) old new out put (Ok tt)) c.in-Ok.ensures.end done)

pub returns-in-Err-write_near-clause-does : goal.returns-in-Err-write_near-clause-does
returns-in-Err-write_near-clause-does g c source =
    let set = c.args.set.now in
    let old = g.I.Images.seen c.args.images.now in
    let new = g.I.Images.seen c.write_near.new.images in
    let out = stream (g.K.Sink.gained c.args.out.now) (g.K.Sink.faults c.args.out.now) in
    let put = stream (g.K.Sink.gained c.write_near.new.sink) (g.K.Sink.faults c.write_near.new.sink) in
    let e = c.in-Err-write_near.ensures in
    let done : Writes (near_sectors set.head c.in-Ok.end) (λ bytes. near_volume bytes set c.in-Ok.end) (told_all old.attached) old new out put (Err c.in-Err-write_near.fault)
    = record { written = e.written; front = e.front; whole = e.whole; memory = e.memory; faults = e.faults; reads = c.write_near.ensures.reads; later = c.write_near.ensures.later } in
    rw c.stop_of.ensures
    (cut_short (λ (given : Named). told_all given.attached) (λ (given : Named). mirror_refusal set c.args.end given.names given.attached) (λ (given : Named) images. near_volume images set (end_of c.args.end given.attached)) (λ (given : Named). mirror_reads set c.args.end given.attached)
    c.args.names old new source out put c.in-Err-write_near.fault c.in-Ok.ensures.allowed
    (subst (λ (n : ℕ). Writes (near_sectors set.head n) (λ bytes. near_volume bytes set n) (told_all old.attached) old new out put (Err c.in-Err-write_near.fault)) c.in-Ok.ensures.end done))

pub returns-in-Err-clause-does : goal.returns-in-Err-clause-does
returns-in-Err-clause-does g c source =
    let seen = g.I.Images.seen c.args.images.now in
    does_refused (mirrorwrite_job c.args.set.now c.args.end) (named c.args.names seen.attached) (around seen source) (stream (g.K.Sink.gained c.args.out.now) (g.K.Sink.faults c.args.out.now)) c.in-Err.refusal refl
    (λ said. c.in-Err.ensures.refused) (λ said. omega arith)
