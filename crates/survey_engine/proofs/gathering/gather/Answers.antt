use Rattle.std.proofs.Common.{◌≡◌, ◌-◌, ℕ, ◌*◌, ◌≤◌, List, IfSome, length, slice_index, map, fold, replicate, [], ltb, refl, ap, sym, ◌∙◌, arith, rules}
use Rattle.std.proofs.lemmas.Bool.Decides.{nat_tests}
use Rattle.std.proofs.lemmas.List.{length-map}
use Rattle.outside.specs.Attached.{told_all}
use Rattle.outside.specs.Seen.{Image, lengths_of}
use Rattle.outside.proofs.Reading.{reads_none, reads_up}
use Rattle.survey_engine.specs.Sweep.{next_count, next_of, sectors_of, GoesOn}
use Rattle.raid_params.specs.declared.limits.TheConstants.{MOST}
use Rattle.survey_engine.specs.Blocks.{found_in_block}
use Rattle.survey_engine.specs.Kept.{kept_with}
use Rattle.survey_engine.specs.Sightings.{is_early}
use Rattle.survey_engine.proofs.Order.{before_none}
use Rattle.survey_engine.proofs.Sweeping.{few_fold, few_is, few_none, end_near, long_lengths, reads_next, reads_of, reads_to, starts, told_block, told_end, told_start}
use Rattle.survey_engine.proofs.gathering.gather.Goals as goal

-- there are as many lengths as images
as_many : (attached : List Image) (lengths : List ℕ) → lengths ≡ lengths_of attached → length attached ≡ length lengths
as_many attached lengths are = sym (ap length are ∙ length-map attached (λ image. image.sectors))

pub loop-counted-init : goal.loop-counted-init
loop-counted-init g c =
    let first = c.min-first.result in
    let images = length c.args.lengths.now in
    let made : c.in_ok-sweep.sweep ≡ record { first = first; count = 0; end = c.args.ask.now.end; blocks = replicate images [] } = search rules in
    let begun = starts c.in_ok-sweep.sweep first images c.args.ask.now.end made (omega arith) in
    let before = g.I.Images.seen c.args.images.now in
    record {
      reads = reads_up before before (reads_none before) (omega arith);
      told = rw c.new-counted.ensures (told_start before.attached c.args.ask.now c.args.lengths.now (next_of c.in_ok-sweep.sweep) (omega (arith, begun.0)));
      before = rw c.new-counted.ensures (before_none c.args.lengths.now (next_of c.in_ok-sweep.sweep * MOST));
      few = rw c.new-counted.ensures few_none;
      end = begun.1;
      images = begun.2;
      within = begun.3;
      after = omega (arith, begun.0);
      stays = refl;
    }

pub returns-in_err-map_err-clause-reads : goal.returns-in_err-map_err-clause-reads
returns-in_err-map_err-clause-reads g c =
    let same = as_many (g.I.Images.seen c.args.images.now).attached c.args.lengths.now c.requires.lengths in
    let inner = ap length c.loop-counted.invariant.reads.attached in
    let before = g.I.Images.seen c.args.images.now in
    reads_of before (g.I.Images.seen c.advance.new.images) (length c.args.lengths.now) (length before.attached) (c.args.ask.now.end - c.min-first.result) (c.args.ask.now.end - slice_index c.args.ask.now.bounds.offsets.items 0) (sym same) (omega arith)
    (reads_to before (g.I.Images.seen c.loop-counted.images) (g.I.Images.seen c.advance.new.images) (length c.args.lengths.now) _ (next_of c.loop-counted.sweep - c.min-first.result) (next_count c.loop-counted.sweep) (c.args.ask.now.end - c.min-first.result)
    c.loop-counted.invariant.reads c.advance.ensures.reads (inner ∙ same) (omega arith))

pub look_at_block-requires-clause-long : goal.look_at_block-requires-clause-long
look_at_block-requires-clause-long g c =
    let goes : GoesOn c.loop-counted.sweep c.advance.new.self (next_count c.loop-counted.sweep) = search rules in
    long_lengths (g.I.Images.seen c.args.images.now).attached c.args.lengths.now c.args.ask.now.end (next_of c.advance.new.self) c.requires.lengths (omega arith) c.requires.set.long

pub look_at_block-requires-clause-near : goal.look_at_block-requires-clause-near
look_at_block-requires-clause-near g c =
    let goes : GoesOn c.loop-counted.sweep c.advance.new.self (next_count c.loop-counted.sweep) = search rules in
    omega (arith, end_near (g.I.Images.seen c.args.images.now).attached c.args.ask.now.end c.requires.set.some c.requires.set.short c.requires.set.long)

pub loop-counted-preserved : goal.loop-counted-preserved
loop-counted-preserved g c =
    let goes : GoesOn c.loop-counted.sweep c.advance.new.self (next_count c.loop-counted.sweep) = search rules in
    let same = as_many (g.I.Images.seen c.args.images.now).attached c.args.lengths.now c.requires.lengths in
    let inner = ap length c.loop-counted.invariant.reads.attached in
    let before = g.I.Images.seen c.args.images.now in
    let blocks : IfSome (told_all (g.I.Images.seen c.loop-counted.images).attached) (λ bytes. c.advance.new.self.blocks ≡ map (sectors_of c.advance.new.self.first c.advance.new.self.count) bytes) = search rules in
    let found : c.look_at_block.new.counted ≡ fold (kept_with is_early) c.loop-counted.counted (found_in_block c.args.ask.now c.args.lengths.now c.advance.new.self c.advance.new.self.count) = search rules in
    record {
      reads = reads_next before (g.I.Images.seen c.loop-counted.images) (g.I.Images.seen c.advance.new.images) (length c.args.lengths.now) _ (next_of c.loop-counted.sweep - c.min-first.result) (next_count c.loop-counted.sweep) (next_of c.advance.new.self - c.min-first.result)
          c.loop-counted.invariant.reads c.advance.ensures.reads (inner ∙ same) (omega arith);
      told = told_block before.attached c.args.ask.now c.args.lengths.now c.advance.new.self (next_of c.loop-counted.sweep) c.loop-counted.counted c.look_at_block.new.counted same (sym goes.first)
          c.loop-counted.invariant.told (rw (← c.loop-counted.invariant.reads.attached) blocks) found;
      before = search rules;
      few = rw found (few_fold c.loop-counted.counted (found_in_block c.args.ask.now c.args.lengths.now c.advance.new.self c.advance.new.self.count) c.loop-counted.invariant.few);
      end = goes.end ∙ c.loop-counted.invariant.end;
      images = goes.images ∙ c.loop-counted.invariant.images;
      within = omega arith;
      after = omega arith;
      stays = let now : (g.I.Images.seen c.advance.new.images).faults ≡ (g.I.Images.seen c.loop-counted.images).faults = search rules in now ∙ c.loop-counted.invariant.stays;
    }

pub returns-in_err-map_err-2-clause-reads : goal.returns-in_err-map_err-2-clause-reads
returns-in_err-map_err-2-clause-reads g c =
    let same = as_many (g.I.Images.seen c.args.images.now).attached c.args.lengths.now c.requires.lengths in
    let inner = ap length c.loop-counted.invariant.reads.attached in
    let before = g.I.Images.seen c.args.images.now in
    reads_of before (g.I.Images.seen c.advance.new.images) (length c.args.lengths.now) (length before.attached) (c.args.ask.now.end - c.min-first.result) (c.args.ask.now.end - slice_index c.args.ask.now.bounds.offsets.items 0) (sym same) (omega arith)
    (reads_to before (g.I.Images.seen c.loop-counted.images) (g.I.Images.seen c.advance.new.images) (length c.args.lengths.now) _ (next_of c.loop-counted.sweep - c.min-first.result) (next_count c.loop-counted.sweep) (c.args.ask.now.end - c.min-first.result)
    c.loop-counted.invariant.reads c.advance.ensures.reads (inner ∙ same) (omega arith))

pub returns-clause-reads : goal.returns-clause-reads
returns-clause-reads g c =
    let same = as_many (g.I.Images.seen c.args.images.now).attached c.args.lengths.now c.requires.lengths in
    let inner = ap length c.loop-counted.invariant.reads.attached in
    let before = g.I.Images.seen c.args.images.now in
    reads_of before (g.I.Images.seen c.advance.new.images) (length c.args.lengths.now) (length before.attached) (c.args.ask.now.end - c.min-first.result) (c.args.ask.now.end - slice_index c.args.ask.now.bounds.offsets.items 0) (sym same) (omega arith)
    (reads_to before (g.I.Images.seen c.loop-counted.images) (g.I.Images.seen c.advance.new.images) (length c.args.lengths.now) _ (next_of c.loop-counted.sweep - c.min-first.result) (next_count c.loop-counted.sweep) (c.args.ask.now.end - c.min-first.result)
    c.loop-counted.invariant.reads c.advance.ensures.reads (inner ∙ same) (omega arith))

pub returns-clause-told : goal.returns-clause-told
returns-clause-told g c =
    let more : c.in_ok-map_err.field-0 ≡ ltb 0 (next_count c.loop-counted.sweep) = search rules in
    let none : next_count c.loop-counted.sweep ≤ 0 = grind (arith, nat_tests) in
    let before = g.I.Images.seen c.args.images.now in
    rw c.into_vec.ensures (told_end before.attached c.args.ask.now c.args.lengths.now (next_of c.loop-counted.sweep) c.loop-counted.counted (omega arith) c.requires.lengths c.loop-counted.invariant.told)

pub returns-clause-sightings : goal.returns-clause-sightings
returns-clause-sightings g c = rw c.into_vec.ensures (record {
  each = c.loop-counted.invariant.before.each;
  rising = c.loop-counted.invariant.before.rising;
  few = few_is c.loop-counted.counted c.loop-counted.invariant.few;
})
