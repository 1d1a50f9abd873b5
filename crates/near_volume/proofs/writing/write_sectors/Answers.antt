use Rattle.std.proofs.Common.{ℕ, ◌≡◌, ◌+◌, ◌≤◌, List, Option, IfSome, refl, sym, ◌∙◌, subst, arith, rules}
use Rattle.std.specs.Io.KnownBytes.{Appends}
use Rattle.outside.specs.Attached.{told_all}
use Rattle.outside.specs.Streams.{AppendsFront, AppendsSectors, Puts}
use Rattle.outside.proofs.Reading.{reads_join, reads_none, reads_up}
use Rattle.virtual_volume.proofs.Fronts.{appends_none, puts_err, sectors_cut, sectors_first, sectors_on}
use Rattle.member_regions.proofs.IfTold.{if_any, if_both, if_told}
use Rattle.member_regions.specs.declared.regions.TheConstants.{BLOCK}
use Rattle.near_volume.specs.Sectors.{near_sector, sectors_of}
use Rattle.near_mirror.specs.Volume.{home_copy}
use Rattle.near_volume.proofs.Parts.{ahead_at_end, ahead_at_error}
use Rattle.near_volume.proofs.Runs.{copy_long}
use Rattle.near_volume.proofs.writing.write_sectors.Goals as goal

pub loop-first-init : goal.loop-first-init
unfolding sectors_of
loop-first-init g c = record {
  put =
      if_any (told_all (g.I.Images.seen c.args.images.now).attached)
      (λ bytes. Appends (g.K.Sink.gained c.args.sink.now) (g.K.Sink.gained c.args.sink.now) (sectors_of bytes c.args.set.now c.args.end 0 0))
      (λ bytes. appends_none (g.K.Sink.gained c.args.sink.now));
  reads = reads_up (g.I.Images.seen c.args.images.now) (g.I.Images.seen c.args.images.now) (reads_none (g.I.Images.seen c.args.images.now)) (omega arith);
  images_stay = refl;
  sink_stays = refl;
  later = omega arith;
  within = omega arith;
  room = refl;
}

pub write_block-requires-clause-set : goal.write_block-requires-clause-set
write_block-requires-clause-set g c = rw c.loop-first.invariant.reads.attached c.requires.set

pub returns-in_err-write_block-clause-put : goal.returns-in_err-write_block-clause-put
unfolding sectors_of
returns-in_err-write_block-clause-put g c =
    let few : c.loop-first.first + c.min-count.result ≤ c.args.sectors = omega arith in
    if_both (told_all (g.I.Images.seen c.args.images.now).attached)
    (λ bytes. Appends (g.K.Sink.gained c.args.sink.now) (g.K.Sink.gained c.loop-first.sink) (sectors_of bytes c.args.set.now c.args.end 0 c.loop-first.first))
    (λ bytes. AppendsFront (g.K.Sink.gained c.loop-first.sink) (g.K.Sink.gained c.write_block.new.sink) (sectors_of bytes c.args.set.now c.args.end c.loop-first.first c.min-count.result))
    (λ bytes. Puts (g.K.Sink.gained c.args.sink.now) (g.K.Sink.gained c.write_block.new.sink) c.from_residual.result (sectors_of bytes c.args.set.now c.args.end 0 c.args.sectors))
    (λ bytes p q.
    puts_err (g.K.Sink.gained c.args.sink.now) (g.K.Sink.gained c.write_block.new.sink) (sectors_of bytes c.args.set.now c.args.end 0 c.args.sectors) c.from_residual.result c.from_residual.ensures.0
    (sectors_cut (near_sector bytes c.args.set.now c.args.end) c.loop-first.first c.min-count.result c.args.sectors (g.K.Sink.gained c.args.sink.now) (g.K.Sink.gained c.loop-first.sink) (g.K.Sink.gained c.write_block.new.sink) few p q))
    c.loop-first.invariant.put
    (rw (← c.loop-first.invariant.reads.attached) c.in_err-write_block.ensures.put)

pub returns-in_err-write_block-clause-whole : goal.returns-in_err-write_block-clause-whole
unfolding sectors_of
returns-in_err-write_block-clause-whole g c = λ is.
    let few : c.loop-first.first ≤ c.args.sectors = omega arith in
    let still : g.K.Sink.gained c.write_block.new.sink ≡ g.K.Sink.gained c.loop-first.sink = c.in_err-write_block.ensures.unput (search rules) in
    subst (λ (gained : Option (List ℕ)). IfSome (told_all (g.I.Images.seen c.args.images.now).attached)
    (λ bytes. AppendsSectors (g.K.Sink.gained c.args.sink.now) gained (sectors_of bytes c.args.set.now c.args.end 0 c.args.sectors))) (sym still)
    (if_told (told_all (g.I.Images.seen c.args.images.now).attached)
    (λ bytes. Appends (g.K.Sink.gained c.args.sink.now) (g.K.Sink.gained c.loop-first.sink) (sectors_of bytes c.args.set.now c.args.end 0 c.loop-first.first))
    (λ bytes. AppendsSectors (g.K.Sink.gained c.args.sink.now) (g.K.Sink.gained c.loop-first.sink) (sectors_of bytes c.args.set.now c.args.end 0 c.args.sectors))
    (λ bytes p. sectors_first (near_sector bytes c.args.set.now c.args.end) c.loop-first.first c.args.sectors (g.K.Sink.gained c.args.sink.now) (g.K.Sink.gained c.loop-first.sink) (λ v. copy_long bytes c.args.set.now c.args.end v (home_copy c.args.set.now v)) few p)
    c.loop-first.invariant.put)

pub returns-in_err-write_block-clause-ahead : goal.returns-in_err-write_block-clause-ahead
returns-in_err-write_block-clause-ahead g c =
    ahead_at_error (told_all (g.I.Images.seen c.args.images.now).attached) (g.I.Images.seen c.args.images.now) (g.I.Images.seen c.loop-first.images) (g.I.Images.seen c.write_block.new.images) c.args.set.now c.args.end
    BLOCK c.loop-first.first c.min-count.result (g.K.Sink.gained c.args.sink.now) (g.K.Sink.gained c.loop-first.sink) (g.K.Sink.gained c.write_block.new.sink)
    (omega arith) c.loop-first.invariant.reads c.write_block.ensures.reads c.loop-first.invariant.put (rw (← c.loop-first.invariant.reads.attached) c.in_err-write_block.ensures.put)

pub loop-first-preserved : goal.loop-first-preserved
unfolding sectors_of
loop-first-preserved g c = record {
  put =
      if_both (told_all (g.I.Images.seen c.args.images.now).attached)
      (λ bytes. Appends (g.K.Sink.gained c.args.sink.now) (g.K.Sink.gained c.loop-first.sink) (sectors_of bytes c.args.set.now c.args.end 0 c.loop-first.first))
      (λ bytes. Appends (g.K.Sink.gained c.loop-first.sink) (g.K.Sink.gained c.write_block.new.sink) (sectors_of bytes c.args.set.now c.args.end c.loop-first.first c.min-count.result))
      (λ bytes. Appends (g.K.Sink.gained c.args.sink.now) (g.K.Sink.gained c.write_block.new.sink) (sectors_of bytes c.args.set.now c.args.end 0 (c.loop-first.first + c.min-count.result)))
      (λ bytes p q.
      sectors_on (near_sector bytes c.args.set.now c.args.end) c.loop-first.first c.min-count.result (g.K.Sink.gained c.args.sink.now) (g.K.Sink.gained c.loop-first.sink) (g.K.Sink.gained c.write_block.new.sink) p q)
      c.loop-first.invariant.put
      (rw (← c.loop-first.invariant.reads.attached) c.in_ok-write_block.ensures.put);
  reads =
      reads_join (g.I.Images.seen c.args.images.now) (g.I.Images.seen c.loop-first.images) (g.I.Images.seen c.write_block.new.images) c.loop-first.invariant.reads c.write_block.ensures.reads;
  images_stay = (let still : (g.I.Images.seen c.write_block.new.images).faults ≡ (g.I.Images.seen c.loop-first.images).faults = search rules in still ∙ c.loop-first.invariant.images_stay);
  sink_stays = (let still : g.K.Sink.faults c.write_block.new.sink ≡ g.K.Sink.faults c.loop-first.sink = search rules in still ∙ c.loop-first.invariant.sink_stays);
  later = omega (arith, c.write_block.ensures.later);
  within = omega arith;
  room = c.write_block.ensures.room ∙ c.loop-first.invariant.room;
}

pub returns-clause-ahead : goal.returns-clause-ahead
returns-clause-ahead g c =
    ahead_at_end (told_all (g.I.Images.seen c.args.images.now).attached) (g.I.Images.seen c.args.images.now) (g.I.Images.seen c.loop-first.images) c.args.set.now c.args.end
    BLOCK c.loop-first.first (g.K.Sink.gained c.args.sink.now) (g.K.Sink.gained c.loop-first.sink) c.loop-first.invariant.reads c.loop-first.invariant.put
