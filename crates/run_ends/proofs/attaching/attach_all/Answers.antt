use Rattle.std.proofs.Common.{◌∙◌}
use Rattle.run_ends.proofs.OneByOne.{so_far_more}
use Rattle.run_ends.proofs.attaching.attach_all.Goals as goal

pub loop-name-preserved : goal.loop-name-preserved
loop-name-preserved g c =
    so_far_more _ (g.I.Images.seen c.loop-name.images) _ _ c.loop-name.name-index c.in_ok-attach.field-0 c.as_str.result.now c.name-item.result
    c.loop-name.invariant c.loop-name-test.true (c.as_str.ensures ∙ c.name-item.is) c.in_ok-attach.ensures.attached c.in_ok-attach.ensures.cause.stays
