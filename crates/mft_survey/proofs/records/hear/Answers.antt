use Rattle.std.proofs.Common.{◌+◌, ◌<◌, length, arith}
use Rattle.mft_survey.proofs.Reading.{heard_step}
use Rattle.mft_survey.proofs.records.hear.Goals as goal

pub loop-boot-preserved : goal.loop-boot-preserved
loop-boot-preserved c =
    let below : c.loop-boot.boot-index < length c.args.boots.now = omega arith in
    record {
      tables = heard_step c.args.file.now c.args.boots.now c.args.tables.now c.loop-boot.boot-index _ c.loop-boot.tables c.hear_of.new.tables below c.loop-boot.invariant.tables c.in_ok-hear_of.ensures.tables;
      sound = c.in_ok-hear_of.ensures.sound;
      few = c.in_ok-hear_of.ensures.few;
    }
