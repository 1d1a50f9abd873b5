use Rattle.std.proofs.Common.{◌≤◌, length, subst}
use Rattle.raid_params.specs.declared.limits.TheConstants.{MOST}
use Rattle.slot_math.proofs.Held.{more_images}
use Rattle.xor_tables.specs.Heads.{HeadTable}
use Rattle.xor_tables.proofs.head_rows.HeadRows.may_hold.Goals as goal

pub count_broken-requires-clause-images : goal.count_broken-requires-clause-images
count_broken-requires-clause-images c =
    more_images (length c.args.self.now.plan.lengths.items) MOST c.args.prefix.now
    (subst (λ (of : HeadTable). length of.plan.lengths.items ≤ MOST) c.self.view_is c.self.invariant.is_plan.lengths.most) c.requires.prefix.images
