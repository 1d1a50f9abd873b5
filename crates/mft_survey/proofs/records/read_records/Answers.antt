use Rattle.std.proofs.Common.{[], ◌≡◌, ◌+◌, ◌<◌, ◌∙◌, length, refl, arith, rules}
use Rattle.outside.specs.Attached.{told_all}
use Rattle.mft_survey.proofs.Reading.{few_none, looked_step, none_looked, part_all, part_none, part_step, sound_none, tables_all, tables_none, tables_step, whole_all, whole_none, whole_step}
use Rattle.mft_survey.proofs.records.read_records.Goals as goal

pub loop-one-init : goal.loop-one-init
loop-one-init g c =
    let before = g.I.Images.seen c.args.images.now in
    record {
      whole = whole_none (told_all before.attached) c.args.lengths.now c.args.seen.now c.new.result (search rules);
      tables = tables_none (told_all before.attached) c.args.lengths.now c.args.boots.now c.args.seen.now c.new-2.result (search rules);
      part = part_none [] c.new.result (search rules);
      sound = sound_none c.new-2.result (search rules);
      few = few_none c.new-2.result (search rules);
      reads = none_looked before c.args.lengths.now c.args.seen.now;
      stays = refl;
    }

pub loop-one-preserved : goal.loop-one-preserved
loop-one-preserved g c =
    let before = g.I.Images.seen c.args.images.now in
    let now = g.I.Images.seen c.loop-one.images in
    let below : c.loop-one.one-index < length c.args.seen.now = omega arith in
    record {
      whole = whole_step before now c.args.lengths.now c.args.seen.now c.loop-one.one-index _ c.loop-one.records.whole c.look_at.new.records.whole c.loop-one.invariant.reads.attached below c.loop-one.invariant.whole c.in_ok-look_at.ensures.whole;
      tables = tables_step before now c.args.lengths.now c.args.boots.now c.args.seen.now c.loop-one.one-index _ c.loop-one.records.tables c.look_at.new.records.tables c.loop-one.invariant.reads.attached below c.loop-one.invariant.tables c.in_ok-look_at.ensures.tables;
      part = part_step c.args.seen.now c.loop-one.one-index _ c.loop-one.records.whole c.look_at.new.records.whole _ below c.loop-one.invariant.part c.in_ok-look_at.ensures.grows;
      sound = c.in_ok-look_at.ensures.sound;
      few = c.in_ok-look_at.ensures.few;
      reads = looked_step before now (g.I.Images.seen c.look_at.new.images) c.args.lengths.now c.args.seen.now c.loop-one.one-index _ below c.loop-one.invariant.reads c.look_at.ensures.reads;
      stays = c.in_ok-look_at.ensures.stays ∙ c.loop-one.invariant.stays;
    }

pub returns-clause-part : goal.returns-clause-part
returns-clause-part g c = part_all c.args.seen.now c.loop-one.records.whole c.loop-one.one-index (omega arith) c.loop-one.invariant.part

pub returns-clause-whole : goal.returns-clause-whole
returns-clause-whole g c =
    whole_all (told_all (g.I.Images.seen c.args.images.now).attached) c.args.lengths.now c.args.seen.now c.loop-one.records.whole c.loop-one.one-index (omega arith) c.loop-one.invariant.whole

pub returns-clause-tables : goal.returns-clause-tables
returns-clause-tables g c =
    tables_all (told_all (g.I.Images.seen c.args.images.now).attached) c.args.lengths.now c.args.boots.now c.args.seen.now c.loop-one.records.tables c.loop-one.one-index (omega arith) c.loop-one.invariant.tables
