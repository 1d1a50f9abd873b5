use Rattle.std.proofs.Common.{◌≡◌, ◌≤◌, length, filter, take}
use Rattle.set_product.specs.Blocks.{suits as suits_level}
use Rattle.set_product.specs.Pairs.{pairs}
use Rattle.set_product.proofs.block.rotations_of.Given as goal

abbrev pub invariant-loop-rank : goal.invariant-loop-rank
invariant-loop-rank l = record {
  kept : l.kept.items ≡ filter (suits_level l.level l.members) (take l.rank (pairs l.plan.bounds.patterns.items l.plan.bounds.delays.items));
  few : length l.kept.items ≤ l.rank;
}
