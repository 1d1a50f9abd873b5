use Rattle.std.proofs.Common.{◌+◌, ◌<◌, length, arith}
use Rattle.mft_survey.proofs.Marked.{marks_step}
use Rattle.mft_survey.proofs.marks.marks_by.Goals as goal

pub loop-one-preserved : goal.loop-one-preserved
loop-one-preserved c =
    let below : c.loop-one.one-index < length c.args.whole.now = omega arith in
    record {
      marks = marks_step c.args.most c.args.whole.now c.args.table.now c.loop-one.one-index _ c.loop-one.marks c.mark_one.new.marks below c.loop-one.invariant.marks c.in_ok-mark_one.ensures.marks;
      near = c.in_ok-mark_one.ensures.near;
    }
