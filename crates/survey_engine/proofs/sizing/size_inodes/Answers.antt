use Rattle.std.proofs.Common.{◌≡◌, ◌+◌, ◌<◌, ◌∙◌, length, refl, arith, rules}
use Rattle.outside.specs.Attached.{told_all}
use Rattle.survey_engine.proofs.Leaves.{alike_long, are_alike, in_images_at}
use Rattle.survey_engine.proofs.Sizes.{alike_more, later_at, later_more, none_sized, one_sized, sized_all, sized_more, sized_none, some_sized}
use Rattle.survey_engine.proofs.sizing.size_inodes.Goals as goal

pub loop-place-init : goal.loop-place-init
loop-place-init g c =
    let before = g.I.Images.seen c.args.images.now in
    record {
      sized = sized_none (told_all before.attached) c.args.asked c.args.lengths.now c.args.found.now;
      alike = refl;
      later = refl;
      reads = none_sized before c.args.asked c.args.lengths.now c.args.found.now;
      stays = refl;
    }

pub sized-requires-clause-sighting : goal.sized-requires-clause-sighting
sized-requires-clause-sighting g c =
    let long = alike_long c.args.found.now c.loop-place.found c.loop-place.invariant.alike in
    in_images_at c.args.lengths.now c.loop-place.found c.loop-place.place c.index-found-place.result
    (are_alike c.args.lengths.now c.args.found.now c.loop-place.found c.loop-place.invariant.alike c.requires.found) (omega arith) c.index-found-place.is

pub loop-place-preserved : goal.loop-place-preserved
loop-place-preserved g c =
    let before = g.I.Images.seen c.args.images.now in
    let s = c.index-found-place.result in
    let long = alike_long c.args.found.now c.loop-place.found c.loop-place.invariant.alike in
    let below : c.loop-place.place < length c.args.found.now = omega arith in
    let there = later_at c.args.found.now c.loop-place.found c.loop-place.place s c.loop-place.invariant.later c.index-found-place.is in
    record {
      sized = sized_more (told_all before.attached) c.args.asked c.args.lengths.now c.args.found.now c.loop-place.found c.loop-place.place s _ below c.loop-place.invariant.sized c.index-found-place.is (search rules);
      alike = alike_more c.args.found.now c.loop-place.found c.loop-place.place s _ c.loop-place.invariant.alike c.index-found-place.is (search rules);
      later = later_more c.args.found.now c.loop-place.found c.loop-place.place _ c.loop-place.invariant.later;
      reads = one_sized before (g.I.Images.seen c.loop-place.images) (g.I.Images.seen c.sized.new.images) c.args.asked c.args.lengths.now c.args.found.now c.loop-place.place s below there c.loop-place.invariant.reads c.sized.ensures.reads;
      stays = let now : (g.I.Images.seen c.sized.new.images).faults ≡ (g.I.Images.seen c.loop-place.images).faults = search rules in now ∙ c.loop-place.invariant.stays;
    }

pub returns-in_err-found-clause-reads : goal.returns-in_err-found-clause-reads
returns-in_err-found-clause-reads g c =
    let before = g.I.Images.seen c.args.images.now in
    let s = c.index-found-place.result in
    let long = alike_long c.args.found.now c.loop-place.found c.loop-place.invariant.alike in
    let there = later_at c.args.found.now c.loop-place.found c.loop-place.place s c.loop-place.invariant.later c.index-found-place.is in
    some_sized before (g.I.Images.seen c.sized.new.images) c.args.asked c.args.lengths.now c.args.found.now (c.loop-place.place + 1)
    (one_sized before (g.I.Images.seen c.loop-place.images) (g.I.Images.seen c.sized.new.images) c.args.asked c.args.lengths.now c.args.found.now c.loop-place.place s (omega arith) there c.loop-place.invariant.reads c.sized.ensures.reads)

pub returns-clause-sized : goal.returns-clause-sized
returns-clause-sized g c =
    sized_all (told_all (g.I.Images.seen c.args.images.now).attached) c.args.asked c.args.lengths.now c.args.found.now c.loop-place.found c.loop-place.place (omega arith) c.loop-place.invariant.sized

pub returns-clause-reads : goal.returns-clause-reads
returns-clause-reads g c = some_sized (g.I.Images.seen c.args.images.now) (g.I.Images.seen c.loop-place.images) c.args.asked c.args.lengths.now c.args.found.now c.loop-place.place c.loop-place.invariant.reads
