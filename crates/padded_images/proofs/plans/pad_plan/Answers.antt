use Rattle.std.proofs.Common.{◌^◌, sym, ◌∙◌, arith, rules}
use Rattle.image_padding.proofs.Images.{fold_below}
use Rattle.padded_images.proofs.Lengths.{agree}
use Rattle.padded_images.proofs.Marks.{near_sectors}
use Rattle.padded_images.proofs.Planned.{is_plan}
use Rattle.padded_images.proofs.plans.pad_plan.Goals as goal

pub padded_groups-requires-clause-near : goal.padded_groups-requires-clause-near
padded_groups-requires-clause-near c = rw c.greatest_of-greatest.ensures (fold_below (2 ^ 54) 0 c.args.bases.now (omega arith) c.requires.near)

pub padded_groups-requires-clause-short : goal.padded_groups-requires-clause-short
padded_groups-requires-clause-short c = near_sectors (2 ^ 54) c.args.plan.now.lengths.items c.args.plan.now.groups c.requires.short c.requires.plan.groups.marks

pub padded_lengths-requires-clause-near : goal.padded_lengths-requires-clause-near
padded_lengths-requires-clause-near c = rw c.greatest_of-greatest.ensures (fold_below (2 ^ 54) 0 c.args.bases.now (omega arith) c.requires.near)

pub returns-clause-agree : goal.returns-clause-agree
returns-clause-agree c = λ attached same. agree c.args.bases.now attached c.args.plan.now.lengths.items same ∙ sym c.padded_lengths.ensures

pub returns-clause-plan : goal.returns-clause-plan
returns-clause-plan c = is_plan c.args.bases.now c.args.plan.now _ (search rules) c.requires.plan c.requires.near c.requires.short
