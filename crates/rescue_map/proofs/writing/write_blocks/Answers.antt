use Rattle.std.proofs.Common.{ℕ, ◌≡◌, ◌+◌, ◌*◌, ◌/◌, ◌≤◌, List, Option, IfSome, take, length, refl, sym, ◌∙◌, subst, arith, rules}
use Rattle.std.proofs.lemmas.List.{length-take}
use Rattle.std.specs.Io.KnownBytes.{Appends}
use Rattle.std.specs.Prelude.{Result, Ok, Err, IfErr}
use Rattle.std.specs.Result.{IsErrOf}
use Rattle.virtual_volume.specs.Served.{IsFault}
use Rattle.virtual_volume.specs.declared.volume.VolumeFault.{VolumeFault}
use Rattle.virtual_volume.specs.declared.volume.VolumeFault.TheVariants.{ReadFault, WriteFault, Memory}
use Rattle.outside.specs.Attached.{told_all}
use Rattle.outside.specs.Streams.{AppendsFront, AppendsSectors, Puts}
use Rattle.virtual_volume.proofs.Fronts.{appends_none, puts_err, sectors_cut, sectors_first, sectors_on}
use Rattle.member_regions.proofs.IfTold.{if_any, if_both, if_told}
use Rattle.rescue_map.specs.Salvaged.{salvaged_sector, salvaged_sectors}
use Rattle.rescue_map.proofs.Blocks.{part_count, reads_next, reads_some, reads_start}
use Rattle.rescue_map.proofs.Found.{salvaged_long}
use Rattle.rescue_map.proofs.ReadAhead.{ahead_at_end, ahead_at_error}
use Rattle.rescue_map.proofs.writing.write_blocks.Goals as goal

pub loop-first-init : goal.loop-first-init
unfolding salvaged_sectors
loop-first-init g c =
    let damage = c.args.damage.now in record {
      put =
          if_any (told_all (g.I.Images.seen c.args.images.now).attached)
          (λ bytes. Appends (g.K.Sink.gained c.args.sink.now) (g.K.Sink.gained c.args.sink.now) (salvaged_sectors bytes damage.rescue.now damage.set.now 0 0))
          (λ bytes. appends_none (g.K.Sink.gained c.args.sink.now));
      reads = reads_start (g.I.Images.seen c.args.images.now) damage.rescue.now damage.set.now;
      images_stay = refl;
      sink_stays = refl;
      later = omega arith;
      within = omega arith;
      block_long = refl;
      rows_long = refl;
    }

pub loop-first-preserved : goal.loop-first-preserved
unfolding salvaged_sectors
loop-first-preserved g c =
    let damage = c.args.damage.now in
    let count = c.min-count.result in
    let size = c.min-count.ensures in
    let long = c.loop-first.invariant.block_long in
    let room = c.requires.block in
    let same = part_count c.loop-first.block count (omega arith) in record {
      put =
          if_both (told_all (g.I.Images.seen c.args.images.now).attached)
          (λ bytes. Appends (g.K.Sink.gained c.args.sink.now) (g.K.Sink.gained c.loop-first.sink) (salvaged_sectors bytes damage.rescue.now damage.set.now 0 c.loop-first.first))
          (λ bytes. Appends (g.K.Sink.gained c.loop-first.sink) (g.K.Sink.gained c.write_block.new.sink) (salvaged_sectors bytes damage.rescue.now damage.set.now c.loop-first.first (length (take (512 * count) c.loop-first.block) / 512)))
          (λ bytes. Appends (g.K.Sink.gained c.args.sink.now) (g.K.Sink.gained c.write_block.new.sink) (salvaged_sectors bytes damage.rescue.now damage.set.now 0 (c.loop-first.first + count)))
          (λ bytes p q.
          sectors_on (salvaged_sector bytes damage.rescue.now damage.set.now) c.loop-first.first count (g.K.Sink.gained c.args.sink.now) (g.K.Sink.gained c.loop-first.sink) (g.K.Sink.gained c.write_block.new.sink) p
          (subst (λ (k : ℕ). Appends (g.K.Sink.gained c.loop-first.sink) (g.K.Sink.gained c.write_block.new.sink) (salvaged_sectors bytes damage.rescue.now damage.set.now c.loop-first.first k)) same q))
          c.loop-first.invariant.put
          (rw (← c.loop-first.invariant.reads.attached) c.in_ok-write_block.ensures.put);
      reads = reads_next (g.I.Images.seen c.args.images.now) (g.I.Images.seen c.loop-first.images) (g.I.Images.seen c.write_block.new.images) damage.rescue.now damage.set.now c.loop-first.first (length (take (512 * count) c.loop-first.block) / 512) count same c.loop-first.invariant.reads c.write_block.ensures.reads;
      images_stay = (let still : (g.I.Images.seen c.write_block.new.images).faults ≡ (g.I.Images.seen c.loop-first.images).faults = search rules in still ∙ c.loop-first.invariant.images_stay);
      sink_stays = (let still : g.K.Sink.faults c.write_block.new.sink ≡ g.K.Sink.faults c.loop-first.sink = search rules in still ∙ c.loop-first.invariant.sink_stays);
      later = omega (arith, c.write_block.ensures.later);
      within = omega arith;
      block_long = (let short = length-take (512 * count) c.loop-first.block in omega (arith, c.write_block.ensures.lengths.block));
      rows_long = c.write_block.ensures.lengths.rows ∙ c.loop-first.invariant.rows_long;
    }

no_memory : {T : Type 0} (result : Result T VolumeFault) → IfErr result IsFault → IsErrOf result Memory → ⊥
no_memory (Ok value) ends is = absurd (cc)
no_memory (Err ReadFault) ends is = absurd (cc)
no_memory (Err WriteFault) ends is = absurd (cc)
no_memory (Err Memory) ends is = ends

pub returns-in_err-write_block-clause-salvages : goal.returns-in_err-write_block-clause-salvages
unfolding salvaged_sectors
returns-in_err-write_block-clause-salvages g c =
    let damage = c.args.damage.now in
    let count = c.min-count.result in
    let size = c.min-count.ensures in
    let few : c.loop-first.first + count ≤ c.args.sectors = omega arith in
    let same = part_count c.loop-first.block count (let long = c.loop-first.invariant.block_long in let room = c.requires.block in omega arith) in record {
      put =
          if_both (told_all (g.I.Images.seen c.args.images.now).attached)
          (λ bytes. Appends (g.K.Sink.gained c.args.sink.now) (g.K.Sink.gained c.loop-first.sink) (salvaged_sectors bytes damage.rescue.now damage.set.now 0 c.loop-first.first))
          (λ bytes. AppendsFront (g.K.Sink.gained c.loop-first.sink) (g.K.Sink.gained c.write_block.new.sink) (salvaged_sectors bytes damage.rescue.now damage.set.now c.loop-first.first (length (take (512 * count) c.loop-first.block) / 512)))
          (λ bytes. Puts (g.K.Sink.gained c.args.sink.now) (g.K.Sink.gained c.write_block.new.sink) c.from_residual.result (salvaged_sectors bytes damage.rescue.now damage.set.now 0 c.args.sectors))
          (λ bytes p q.
          puts_err (g.K.Sink.gained c.args.sink.now) (g.K.Sink.gained c.write_block.new.sink) (salvaged_sectors bytes damage.rescue.now damage.set.now 0 c.args.sectors) c.from_residual.result c.from_residual.ensures.0
          (sectors_cut (salvaged_sector bytes damage.rescue.now damage.set.now) c.loop-first.first count c.args.sectors (g.K.Sink.gained c.args.sink.now) (g.K.Sink.gained c.loop-first.sink) (g.K.Sink.gained c.write_block.new.sink) few p
          (subst (λ (k : ℕ). AppendsFront (g.K.Sink.gained c.loop-first.sink) (g.K.Sink.gained c.write_block.new.sink) (salvaged_sectors bytes damage.rescue.now damage.set.now c.loop-first.first k)) same q)))
          c.loop-first.invariant.put
          (rw (← c.loop-first.invariant.reads.attached) c.in_err-write_block.ensures.put);
      whole = λ is.
          let before : c.loop-first.first ≤ c.args.sectors = omega arith in
          let still : g.K.Sink.gained c.write_block.new.sink ≡ g.K.Sink.gained c.loop-first.sink = c.in_err-write_block.ensures.unput (search rules) in
          subst (λ (gained : Option (List ℕ)). IfSome (told_all (g.I.Images.seen c.args.images.now).attached)
          (λ bytes. AppendsSectors (g.K.Sink.gained c.args.sink.now) gained (salvaged_sectors bytes damage.rescue.now damage.set.now 0 c.args.sectors))) (sym still)
          (if_told (told_all (g.I.Images.seen c.args.images.now).attached)
          (λ bytes. Appends (g.K.Sink.gained c.args.sink.now) (g.K.Sink.gained c.loop-first.sink) (salvaged_sectors bytes damage.rescue.now damage.set.now 0 c.loop-first.first))
          (λ bytes. AppendsSectors (g.K.Sink.gained c.args.sink.now) (g.K.Sink.gained c.loop-first.sink) (salvaged_sectors bytes damage.rescue.now damage.set.now 0 c.args.sectors))
          (λ bytes p. sectors_first (salvaged_sector bytes damage.rescue.now damage.set.now) c.loop-first.first c.args.sectors (g.K.Sink.gained c.args.sink.now) (g.K.Sink.gained c.loop-first.sink) (salvaged_long bytes damage.rescue.now damage.set.now) before p)
          c.loop-first.invariant.put);
      memory = λ is. absurd (no_memory c.from_residual.result (search rules) is);
      reads =
          reads_some (g.I.Images.seen c.args.images.now) (g.I.Images.seen c.write_block.new.images) damage.rescue.now damage.set.now 0 (c.loop-first.first + count) c.args.sectors few
          (reads_next (g.I.Images.seen c.args.images.now) (g.I.Images.seen c.loop-first.images) (g.I.Images.seen c.write_block.new.images) damage.rescue.now damage.set.now c.loop-first.first (length (take (512 * count) c.loop-first.block) / 512) count same c.loop-first.invariant.reads c.write_block.ensures.reads);
      ahead =
          ahead_at_error (told_all (g.I.Images.seen c.args.images.now).attached) damage.rescue.now damage.set.now (g.I.Images.seen c.args.images.now) (g.I.Images.seen c.loop-first.images) (g.I.Images.seen c.write_block.new.images)
          c.args.sectors c.loop-first.first count (length (take (512 * count) c.loop-first.block) / 512)
          (g.K.Sink.gained c.args.sink.now) (g.K.Sink.gained c.loop-first.sink) (g.K.Sink.gained c.write_block.new.sink) same (omega arith) (omega arith)
          c.loop-first.invariant.reads c.write_block.ensures.reads c.loop-first.invariant.put (rw (← c.loop-first.invariant.reads.attached) c.in_err-write_block.ensures.put);
      later = omega (arith, c.write_block.ensures.later);
      faults = search rules;
    }

pub returns-clause-salvages : goal.returns-clause-salvages
returns-clause-salvages g c =
    let damage = c.args.damage.now in
    let all : c.loop-first.first ≡ c.args.sectors = omega arith in record {
      put =
          subst (λ (n : ℕ). IfSome (told_all (g.I.Images.seen c.args.images.now).attached)
          (λ bytes. Appends (g.K.Sink.gained c.args.sink.now) (g.K.Sink.gained c.loop-first.sink) (salvaged_sectors bytes damage.rescue.now damage.set.now 0 n))) all c.loop-first.invariant.put;
      whole = λ is. absurd (cc);
      memory = λ is. absurd (cc);
      reads = reads_some (g.I.Images.seen c.args.images.now) (g.I.Images.seen c.loop-first.images) damage.rescue.now damage.set.now 0 c.loop-first.first c.args.sectors c.loop-first.invariant.within c.loop-first.invariant.reads;
      ahead =
          ahead_at_end (told_all (g.I.Images.seen c.args.images.now).attached) damage.rescue.now damage.set.now (g.I.Images.seen c.args.images.now) (g.I.Images.seen c.loop-first.images) c.args.sectors c.loop-first.first
          (g.K.Sink.gained c.args.sink.now) (g.K.Sink.gained c.loop-first.sink) c.loop-first.invariant.within c.loop-first.invariant.reads c.loop-first.invariant.put;
      later = c.loop-first.invariant.later;
      faults = search rules;
    }
