use Rattle.std.proofs.Common.{◌≡◌, ◌+◌, ◌<◌, ◌∙◌, IfSome, length, map, refl, arith, rules}
use Rattle.outside.specs.Attached.{told_all}
use Rattle.survey_engine.specs.Telling.{told_by}
use Rattle.survey_engine.proofs.Leaves.{alike_at, alike_long, are_alike, in_images_at}
use Rattle.survey_engine.proofs.Told.{none_to, one_read, reads_some, told_all_of, told_more, told_none}
use Rattle.survey_engine.proofs.telling.tell.Goals as goal

pub loop-place-init : goal.loop-place-init
loop-place-init g c =
    let before = g.I.Images.seen c.args.images.now in
    record {
      told = told_none (told_all before.attached) c.args.asked.now c.args.lengths.now c.args.found.now;
      alike = refl;
      reads = none_to before c.args.asked.now c.args.lengths.now c.args.found.now;
      stays = refl;
    }

pub tell_by-requires-clause-by : goal.tell_by-requires-clause-by
tell_by-requires-clause-by g c =
    let long = alike_long c.args.found.now c.loop-place.found c.loop-place.invariant.alike in
    in_images_at c.args.lengths.now c.loop-place.found c.loop-place.place c.index-found-place.result
    (are_alike c.args.lengths.now c.args.found.now c.loop-place.found c.loop-place.invariant.alike c.requires.found) (omega arith) c.index-found-place.is

pub loop-place-preserved : goal.loop-place-preserved
loop-place-preserved g c =
    let before = g.I.Images.seen c.args.images.now in
    let by = c.index-found-place.result in
    let long = alike_long c.args.found.now c.loop-place.found c.loop-place.invariant.alike in
    let below : c.loop-place.place < length c.args.found.now = omega arith in
    let same = alike_at c.args.found.now c.loop-place.found c.loop-place.place by c.loop-place.invariant.alike c.index-found-place.is in
    let adds : IfSome (told_all (g.I.Images.seen c.loop-place.images).attached) (λ bytes. c.tell_by.new.found ≡ map (λ s. told_by c.args.asked.now c.args.lengths.now bytes s by) c.loop-place.found) = search rules in
    record {
      told = told_more (told_all before.attached) c.args.asked.now c.args.lengths.now c.args.found.now c.loop-place.found c.tell_by.new.found c.loop-place.place by below same c.loop-place.invariant.told (rw (← c.loop-place.invariant.reads.attached) adds);
      alike = c.tell_by.ensures.alike ∙ c.loop-place.invariant.alike;
      reads = one_read before (g.I.Images.seen c.loop-place.images) (g.I.Images.seen c.tell_by.new.images) c.args.asked.now c.args.lengths.now c.args.found.now c.loop-place.place by below same c.loop-place.invariant.reads c.tell_by.ensures.reads;
      stays = let now : (g.I.Images.seen c.tell_by.new.images).faults ≡ (g.I.Images.seen c.loop-place.images).faults = search rules in now ∙ c.loop-place.invariant.stays;
    }

pub returns-in_err-tell_by-clause-reads : goal.returns-in_err-tell_by-clause-reads
returns-in_err-tell_by-clause-reads g c =
    let before = g.I.Images.seen c.args.images.now in
    let by = c.index-found-place.result in
    let long = alike_long c.args.found.now c.loop-place.found c.loop-place.invariant.alike in
    let same = alike_at c.args.found.now c.loop-place.found c.loop-place.place by c.loop-place.invariant.alike c.index-found-place.is in
    reads_some before (g.I.Images.seen c.tell_by.new.images) c.args.asked.now c.args.lengths.now c.args.found.now (c.loop-place.place + 1)
    (one_read before (g.I.Images.seen c.loop-place.images) (g.I.Images.seen c.tell_by.new.images) c.args.asked.now c.args.lengths.now c.args.found.now c.loop-place.place by (omega arith) same c.loop-place.invariant.reads c.tell_by.ensures.reads)

pub returns-clause-told : goal.returns-clause-told
returns-clause-told g c =
    told_all_of (told_all (g.I.Images.seen c.args.images.now).attached) c.args.asked.now c.args.lengths.now c.args.found.now c.loop-place.found c.loop-place.place (omega arith) c.loop-place.invariant.told

pub returns-clause-sightings : goal.returns-clause-sightings
returns-clause-sightings g c = are_alike c.args.lengths.now c.args.found.now c.loop-place.found c.loop-place.invariant.alike c.requires.found

pub returns-clause-reads : goal.returns-clause-reads
returns-clause-reads g c = reads_some (g.I.Images.seen c.args.images.now) (g.I.Images.seen c.loop-place.images) c.args.asked.now c.args.lengths.now c.args.found.now c.loop-place.place c.loop-place.invariant.reads
