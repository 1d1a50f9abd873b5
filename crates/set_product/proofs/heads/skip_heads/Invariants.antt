use Rattle.std.proofs.Common.{◌≡◌, ◌+◌}
use Rattle.plan_sets.specs.Sets.{total_of}
use Rattle.set_product.specs.Heads.{count_in, numbered}
use Rattle.set_product.specs.Left.{left_heads, MayBeOpened}
use Rattle.set_product.proofs.HeadByHead.{blocks_left, ending_after}
use Rattle.set_product.proofs.heads.skip_heads.Given as goal

abbrev pub invariant-loop-block : goal.invariant-loop-block
invariant-loop-block l = record {
  left : ending_after l.rank (numbered l.plan l.first (left_heads l.plan l.opened)) ≡ ending_after l.rank (numbered l.plan l.fn.first (left_heads l.plan l.fn.opened));
  opened : MayBeOpened l.plan l.opened;
  count : l.first + count_in l.plan (left_heads l.plan l.opened) ≡ total_of l.plan;
}

abbrev pub decreases-loop-block : goal.decreases-loop-block
decreases-loop-block l = blocks_left l.plan l.opened
