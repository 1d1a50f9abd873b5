use Rattle.std.proofs.Common.{ℕ, ◌≡◌, ◌+◌, ◌≤◌, List, Option, IfSome, refl, sym, ◌∙◌, subst, arith, rules}
use Rattle.std.specs.Io.KnownBytes.{Appends}
use Rattle.outside.specs.Attached.{told_all}
use Rattle.outside.specs.Streams.{AppendsFront, AppendsSectors, Puts}
use Rattle.outside.proofs.Reading.{reads_none, reads_up}
use Rattle.member_regions.proofs.Held.{reads_on}
use Rattle.raid_params.specs.Size.{data_blocks}
use Rattle.virtual_volume.proofs.Fronts.{appends_none, puts_err, sectors_cut, sectors_first, sectors_on}
use Rattle.member_regions.proofs.IfTold.{if_any, if_both, if_told}
use Rattle.member_rebuild.specs.Sectors.{sectors_of}
use Rattle.member_regions.specs.declared.regions.TheConstants.{BLOCK}
use Rattle.member_rebuild.proofs.Ahead.{ahead_at_end, ahead_at_error}
use Rattle.member_rebuild.proofs.Parts.{block_held}
use Rattle.raid_terms.specs.Volume.{member_sector}
use Rattle.virtual_volume.proofs.Blocks.{sector_long}
use Rattle.member_rebuild.proofs.member.write_sectors.Goals as goal

pub loop-first-init : goal.loop-first-init
unfolding sectors_of
loop-first-init g c = record {
  put =
      if_any (told_all (g.I.Images.seen c.args.images.now).attached)
      (λ bytes. Appends (g.K.Sink.gained c.args.sink.now) (g.K.Sink.gained c.args.sink.now) (sectors_of bytes c.args.geo.now c.args.slot 0 0))
      (λ bytes. appends_none (g.K.Sink.gained c.args.sink.now));
  reads = reads_up (g.I.Images.seen c.args.images.now) (g.I.Images.seen c.args.images.now) (reads_none (g.I.Images.seen c.args.images.now)) (omega arith);
  images_stay = refl;
  sink_stays = refl;
  later = omega arith;
  within = omega arith;
  room = record { members = refl; stride = refl };
}

pub write_block-requires-clause-held : goal.write_block-requires-clause-held
write_block-requires-clause-held g c =
    let few : c.loop-first.first + c.min-count.result ≤ c.args.sectors = omega arith in
    block_held (g.I.Images.seen c.args.images.now).attached (g.I.Images.seen c.loop-first.images).attached c.args.geo.now.head.offset c.loop-first.first c.min-count.result c.args.sectors c.args.geo.now.slots.items
    c.loop-first.invariant.reads.attached few c.requires.held

pub returns-in_err-write_block-clause-put : goal.returns-in_err-write_block-clause-put
unfolding sectors_of
returns-in_err-write_block-clause-put g c =
    let few : c.loop-first.first + c.min-count.result ≤ c.args.sectors = omega arith in
    if_both (told_all (g.I.Images.seen c.args.images.now).attached)
    (λ bytes. Appends (g.K.Sink.gained c.args.sink.now) (g.K.Sink.gained c.loop-first.sink) (sectors_of bytes c.args.geo.now c.args.slot 0 c.loop-first.first))
    (λ bytes. AppendsFront (g.K.Sink.gained c.loop-first.sink) (g.K.Sink.gained c.write_block.new.sink) (sectors_of bytes c.args.geo.now c.args.slot c.loop-first.first c.min-count.result))
    (λ bytes. Puts (g.K.Sink.gained c.args.sink.now) (g.K.Sink.gained c.write_block.new.sink) c.from_residual.result (sectors_of bytes c.args.geo.now c.args.slot 0 c.args.sectors))
    (λ bytes p q.
    puts_err (g.K.Sink.gained c.args.sink.now) (g.K.Sink.gained c.write_block.new.sink) (sectors_of bytes c.args.geo.now c.args.slot 0 c.args.sectors) c.from_residual.result c.from_residual.ensures.0
    (sectors_cut (member_sector bytes c.args.geo.now c.args.slot) c.loop-first.first c.min-count.result c.args.sectors (g.K.Sink.gained c.args.sink.now) (g.K.Sink.gained c.loop-first.sink) (g.K.Sink.gained c.write_block.new.sink) few p q))
    c.loop-first.invariant.put
    (rw (← c.loop-first.invariant.reads.attached) c.in_err-write_block.ensures.put)

pub returns-in_err-write_block-clause-whole : goal.returns-in_err-write_block-clause-whole
unfolding sectors_of
returns-in_err-write_block-clause-whole g c = λ is.
    let few : c.loop-first.first ≤ c.args.sectors = omega arith in
    let still : g.K.Sink.gained c.write_block.new.sink ≡ g.K.Sink.gained c.loop-first.sink = c.in_err-write_block.ensures.unput (search rules) in
    subst (λ (gained : Option (List ℕ)). IfSome (told_all (g.I.Images.seen c.args.images.now).attached)
    (λ bytes. AppendsSectors (g.K.Sink.gained c.args.sink.now) gained (sectors_of bytes c.args.geo.now c.args.slot 0 c.args.sectors))) (sym still)
    (if_told (told_all (g.I.Images.seen c.args.images.now).attached)
    (λ bytes. Appends (g.K.Sink.gained c.args.sink.now) (g.K.Sink.gained c.loop-first.sink) (sectors_of bytes c.args.geo.now c.args.slot 0 c.loop-first.first))
    (λ bytes. AppendsSectors (g.K.Sink.gained c.args.sink.now) (g.K.Sink.gained c.loop-first.sink) (sectors_of bytes c.args.geo.now c.args.slot 0 c.args.sectors))
    (λ bytes p. sectors_first (member_sector bytes c.args.geo.now c.args.slot) c.loop-first.first c.args.sectors (g.K.Sink.gained c.args.sink.now) (g.K.Sink.gained c.loop-first.sink) (sector_long bytes c.args.geo.now c.args.slot) few p)
    c.loop-first.invariant.put)

pub returns-in_err-write_block-clause-reads : goal.returns-in_err-write_block-clause-reads
returns-in_err-write_block-clause-reads g c =
    let few : c.loop-first.first + c.min-count.result ≤ c.args.sectors = omega arith in
    reads_on (g.I.Images.seen c.args.images.now) (g.I.Images.seen c.loop-first.images) (g.I.Images.seen c.write_block.new.images) (data_blocks c.args.geo.now.head)
    c.loop-first.first c.min-count.result c.args.sectors c.loop-first.invariant.reads c.write_block.ensures.reads few

pub loop-first-preserved : goal.loop-first-preserved
unfolding sectors_of
loop-first-preserved g c = record {
  put =
      if_both (told_all (g.I.Images.seen c.args.images.now).attached)
      (λ bytes. Appends (g.K.Sink.gained c.args.sink.now) (g.K.Sink.gained c.loop-first.sink) (sectors_of bytes c.args.geo.now c.args.slot 0 c.loop-first.first))
      (λ bytes. Appends (g.K.Sink.gained c.loop-first.sink) (g.K.Sink.gained c.write_block.new.sink) (sectors_of bytes c.args.geo.now c.args.slot c.loop-first.first c.min-count.result))
      (λ bytes. Appends (g.K.Sink.gained c.args.sink.now) (g.K.Sink.gained c.write_block.new.sink) (sectors_of bytes c.args.geo.now c.args.slot 0 (c.loop-first.first + c.min-count.result)))
      (λ bytes p q.
      sectors_on (member_sector bytes c.args.geo.now c.args.slot) c.loop-first.first c.min-count.result (g.K.Sink.gained c.args.sink.now) (g.K.Sink.gained c.loop-first.sink) (g.K.Sink.gained c.write_block.new.sink) p q)
      c.loop-first.invariant.put
      (rw (← c.loop-first.invariant.reads.attached) c.in_ok-write_block.ensures.put);
  reads =
      reads_on (g.I.Images.seen c.args.images.now) (g.I.Images.seen c.loop-first.images) (g.I.Images.seen c.write_block.new.images) (data_blocks c.args.geo.now.head)
      c.loop-first.first c.min-count.result (c.loop-first.first + c.min-count.result) c.loop-first.invariant.reads c.write_block.ensures.reads (omega arith);
  images_stay = (let still : (g.I.Images.seen c.write_block.new.images).faults ≡ (g.I.Images.seen c.loop-first.images).faults = search rules in still ∙ c.loop-first.invariant.images_stay);
  sink_stays = (let still : g.K.Sink.faults c.write_block.new.sink ≡ g.K.Sink.faults c.loop-first.sink = search rules in still ∙ c.loop-first.invariant.sink_stays);
  later = omega (arith, c.write_block.ensures.later);
  within = omega arith;
  room = record { members = c.write_block.ensures.room.members ∙ c.loop-first.invariant.room.members; stride = c.write_block.ensures.room.stride ∙ c.loop-first.invariant.room.stride };
}

pub returns-in_err-write_block-clause-ahead : goal.returns-in_err-write_block-clause-ahead
returns-in_err-write_block-clause-ahead g c =
    ahead_at_error (told_all (g.I.Images.seen c.args.images.now).attached) (g.I.Images.seen c.args.images.now) (g.I.Images.seen c.loop-first.images) (g.I.Images.seen c.write_block.new.images) c.args.geo.now c.args.slot
    (data_blocks c.args.geo.now.head) BLOCK c.loop-first.first c.min-count.result (g.K.Sink.gained c.args.sink.now) (g.K.Sink.gained c.loop-first.sink) (g.K.Sink.gained c.write_block.new.sink)
    (omega arith) c.loop-first.invariant.reads c.write_block.ensures.reads c.loop-first.invariant.put (rw (← c.loop-first.invariant.reads.attached) c.in_err-write_block.ensures.put)

pub returns-clause-ahead : goal.returns-clause-ahead
returns-clause-ahead g c =
    ahead_at_end (told_all (g.I.Images.seen c.args.images.now).attached) (g.I.Images.seen c.args.images.now) (g.I.Images.seen c.loop-first.images) c.args.geo.now c.args.slot
    (data_blocks c.args.geo.now.head) BLOCK c.loop-first.first (g.K.Sink.gained c.args.sink.now) (g.K.Sink.gained c.loop-first.sink) c.loop-first.invariant.reads c.loop-first.invariant.put
