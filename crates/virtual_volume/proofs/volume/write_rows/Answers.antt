use Rattle.std.proofs.Common.{ℕ, ◌≡◌, ◌+◌, ◌-◌, ◌≤◌, List, ◌++◌, Option, IfSome, refl, sym, ◌∙◌, subst, arith, rules}
use Rattle.outside.specs.Attached.{told_all}
use Rattle.outside.specs.Streams.{AppendsFront, AppendsSectors}
use Rattle.outside.proofs.Reading.{reads_none, reads_up}
use Rattle.virtual_volume.specs.Parts.{rows_of}
use Rattle.virtual_volume.specs.Waiting.{Passed, Passes}
use Rattle.virtual_volume.proofs.Fronts.{passed_err, passes_join, passes_sectors}
use Rattle.member_regions.proofs.IfTold.{if_any, if_both, if_told}
use Rattle.virtual_volume.proofs.Puts.{rows_cut, rows_start}
use Rattle.virtual_volume.proofs.Sets.{batch_held, batch_inside, needed_on}
use Rattle.virtual_volume.proofs.Whole.{rows_join}
use Rattle.virtual_volume.proofs.Ahead.{ahead_at_end, ahead_at_error}
use Rattle.virtual_volume.proofs.volume.write_rows.Goals as goal

pub loop-first-init : goal.loop-first-init
loop-first-init g c = record {
  passes =
      if_any (told_all (g.I.Images.seen c.args.images.now).attached)
      (λ bytes. Passes (g.K.Sink.gained c.args.sink.now) (g.K.Sink.gained c.args.sink.now) c.args.pending.now c.args.pending.now (rows_of bytes c.args.geo.now 0 0))
      (λ bytes. rows_start bytes c.args.geo.now 0 (g.K.Sink.gained c.args.sink.now) c.args.pending.now);
  reads = reads_up (g.I.Images.seen c.args.images.now) (g.I.Images.seen c.args.images.now) (reads_none (g.I.Images.seen c.args.images.now)) (omega arith);
  few = omega arith;
  images_stay = refl;
  sink_stays = refl;
  later = omega arith;
  within = omega arith;
  room = record { members = refl; stride = refl };
}

pub write_batch-requires-clause-held : goal.write_batch-requires-clause-held
write_batch-requires-clause-held g c =
    let few : c.loop-first.first + c.min-count.result ≤ c.args.rows = omega arith in
    batch_held (g.I.Images.seen c.args.images.now).attached (g.I.Images.seen c.loop-first.images).attached c.args.geo.now.head.offset c.loop-first.first c.min-count.result c.args.rows c.args.geo.now.head.chunk c.args.geo.now.slots.items
    c.loop-first.invariant.reads.attached few c.requires.held

pub write_batch-requires-clause-near : goal.write_batch-requires-clause-near
write_batch-requires-clause-near g c =
    let few : c.loop-first.first + c.min-count.result ≤ c.args.rows = omega arith in
    let inside = batch_inside c.loop-first.first c.min-count.result c.args.rows c.args.geo.now.head.chunk few in
    omega arith

pub returns-in_err-write_batch-clause-passed : goal.returns-in_err-write_batch-clause-passed
returns-in_err-write_batch-clause-passed g c =
    let few : c.loop-first.first + c.min-count.result ≤ c.args.rows = omega arith in
    if_both (told_all (g.I.Images.seen c.args.images.now).attached)
    (λ bytes. Passes (g.K.Sink.gained c.args.sink.now) (g.K.Sink.gained c.loop-first.sink) c.args.pending.now c.loop-first.pending (rows_of bytes c.args.geo.now 0 c.loop-first.first))
    (λ bytes. AppendsFront (g.K.Sink.gained c.loop-first.sink) (g.K.Sink.gained c.write_batch.new.sink) (c.loop-first.pending ++ rows_of bytes c.args.geo.now c.loop-first.first c.min-count.result))
    (λ bytes. Passed (g.K.Sink.gained c.args.sink.now) (g.K.Sink.gained c.write_batch.new.sink) c.args.pending.now c.write_batch.new.pending c.from_residual.result (rows_of bytes c.args.geo.now 0 c.args.rows))
    (λ bytes p q.
    passed_err (g.K.Sink.gained c.args.sink.now) (g.K.Sink.gained c.write_batch.new.sink) c.args.pending.now c.write_batch.new.pending (rows_of bytes c.args.geo.now 0 c.args.rows) c.from_residual.result c.from_residual.ensures.0
    (rows_cut bytes c.args.geo.now 0 c.loop-first.first c.min-count.result c.args.rows c.loop-first.first (g.K.Sink.gained c.args.sink.now) (g.K.Sink.gained c.loop-first.sink) (g.K.Sink.gained c.write_batch.new.sink) c.args.pending.now c.loop-first.pending
    few (omega arith) p q))
    c.loop-first.invariant.passes
    (rw (← c.loop-first.invariant.reads.attached) c.in_err-write_batch.ensures.passed)

pub returns-in_err-write_batch-clause-whole : goal.returns-in_err-write_batch-clause-whole
returns-in_err-write_batch-clause-whole g c = λ is.
    let few : c.loop-first.first ≤ c.args.rows = omega arith in
    let still : g.K.Sink.gained c.write_batch.new.sink ≡ g.K.Sink.gained c.loop-first.sink = c.in_err-write_batch.ensures.unput (search rules) in
    subst (λ (gained : Option (List ℕ)). IfSome (told_all (g.I.Images.seen c.args.images.now).attached)
    (λ bytes. AppendsSectors (g.K.Sink.gained c.args.sink.now) gained (c.args.pending.now ++ rows_of bytes c.args.geo.now 0 c.args.rows))) (sym still)
    (if_told (told_all (g.I.Images.seen c.args.images.now).attached)
    (λ bytes. Passes (g.K.Sink.gained c.args.sink.now) (g.K.Sink.gained c.loop-first.sink) c.args.pending.now c.loop-first.pending (rows_of bytes c.args.geo.now 0 c.loop-first.first))
    (λ bytes. AppendsSectors (g.K.Sink.gained c.args.sink.now) (g.K.Sink.gained c.loop-first.sink) (c.args.pending.now ++ rows_of bytes c.args.geo.now 0 c.args.rows))
    (λ bytes p.
    passes_sectors (g.K.Sink.gained c.args.sink.now) (g.K.Sink.gained c.loop-first.sink) c.args.pending.now c.loop-first.pending
    (rows_of bytes c.args.geo.now 0 c.loop-first.first) (rows_of bytes c.args.geo.now c.loop-first.first (c.args.rows - c.loop-first.first)) (rows_of bytes c.args.geo.now 0 c.args.rows)
    (rows_join bytes c.args.geo.now 0 c.loop-first.first (c.args.rows - c.loop-first.first) c.args.rows c.loop-first.first (omega arith) (omega arith)) p)
    c.loop-first.invariant.passes)

pub returns-in_err-write_batch-clause-reads : goal.returns-in_err-write_batch-clause-reads
returns-in_err-write_batch-clause-reads g c =
    needed_on (g.I.Images.seen c.args.images.now) (g.I.Images.seen c.loop-first.images) (g.I.Images.seen c.write_batch.new.images) c.args.geo.now c.loop-first.first c.min-count.result c.args.rows c.args.geo.now.head.chunk
    c.loop-first.invariant.reads c.write_batch.ensures.reads (omega arith)

pub loop-first-preserved : goal.loop-first-preserved
loop-first-preserved g c = record {
  passes =
      if_both (told_all (g.I.Images.seen c.args.images.now).attached)
      (λ bytes. Passes (g.K.Sink.gained c.args.sink.now) (g.K.Sink.gained c.loop-first.sink) c.args.pending.now c.loop-first.pending (rows_of bytes c.args.geo.now 0 c.loop-first.first))
      (λ bytes. Passes (g.K.Sink.gained c.loop-first.sink) (g.K.Sink.gained c.write_batch.new.sink) c.loop-first.pending c.write_batch.new.pending (rows_of bytes c.args.geo.now c.loop-first.first c.min-count.result))
      (λ bytes. Passes (g.K.Sink.gained c.args.sink.now) (g.K.Sink.gained c.write_batch.new.sink) c.args.pending.now c.write_batch.new.pending (rows_of bytes c.args.geo.now 0 (c.loop-first.first + c.min-count.result)))
      (λ bytes p q.
      passes_join (g.K.Sink.gained c.args.sink.now) (g.K.Sink.gained c.loop-first.sink) (g.K.Sink.gained c.write_batch.new.sink) c.args.pending.now c.loop-first.pending c.write_batch.new.pending
      (rows_of bytes c.args.geo.now 0 c.loop-first.first) (rows_of bytes c.args.geo.now c.loop-first.first c.min-count.result) (rows_of bytes c.args.geo.now 0 (c.loop-first.first + c.min-count.result))
      (rows_join bytes c.args.geo.now 0 c.loop-first.first c.min-count.result (c.loop-first.first + c.min-count.result) c.loop-first.first refl (omega arith)) p q)
      c.loop-first.invariant.passes
      (rw (← c.loop-first.invariant.reads.attached) c.in_ok-write_batch.ensures.passed);
  reads =
      needed_on (g.I.Images.seen c.args.images.now) (g.I.Images.seen c.loop-first.images) (g.I.Images.seen c.write_batch.new.images) c.args.geo.now c.loop-first.first c.min-count.result (c.loop-first.first + c.min-count.result) c.args.geo.now.head.chunk
      c.loop-first.invariant.reads c.write_batch.ensures.reads (omega arith);
  few = omega (arith, c.in_ok-write_batch.ensures.few);
  images_stay = (let still : (g.I.Images.seen c.write_batch.new.images).faults ≡ (g.I.Images.seen c.loop-first.images).faults = search rules in still ∙ c.loop-first.invariant.images_stay);
  sink_stays = (let still : g.K.Sink.faults c.write_batch.new.sink ≡ g.K.Sink.faults c.loop-first.sink = search rules in still ∙ c.loop-first.invariant.sink_stays);
  later = omega (arith, c.write_batch.ensures.later);
  within = omega arith;
  room = record { members = c.write_batch.ensures.room.members ∙ c.loop-first.invariant.room.members; stride = c.write_batch.ensures.room.stride ∙ c.loop-first.invariant.room.stride };
}

pub returns-in_err-write_batch-clause-ahead : goal.returns-in_err-write_batch-clause-ahead
returns-in_err-write_batch-clause-ahead g c =
    ahead_at_error (told_all (g.I.Images.seen c.args.images.now).attached) (g.I.Images.seen c.args.images.now) (g.I.Images.seen c.loop-first.images) (g.I.Images.seen c.write_batch.new.images) c.args.geo.now
    c.loop-first.first c.min-count.result c.args.batch
    (g.K.Sink.gained c.args.sink.now) (g.K.Sink.gained c.loop-first.sink) (g.K.Sink.gained c.write_batch.new.sink) c.args.pending.now c.loop-first.pending
    c.requires.set (omega arith) c.loop-first.invariant.few c.loop-first.invariant.reads c.write_batch.ensures.reads c.loop-first.invariant.passes (rw (← c.loop-first.invariant.reads.attached) c.in_err-write_batch.ensures.passed)

pub returns-clause-ahead : goal.returns-clause-ahead
returns-clause-ahead g c =
    ahead_at_end (told_all (g.I.Images.seen c.args.images.now).attached) (g.I.Images.seen c.args.images.now) (g.I.Images.seen c.loop-first.images) c.args.geo.now c.loop-first.first c.args.batch
    (g.K.Sink.gained c.args.sink.now) (g.K.Sink.gained c.loop-first.sink) c.args.pending.now c.loop-first.pending c.requires.set c.loop-first.invariant.few c.loop-first.invariant.reads c.loop-first.invariant.passes
