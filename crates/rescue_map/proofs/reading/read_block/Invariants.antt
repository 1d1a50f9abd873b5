use Rattle.std.proofs.Common.{ℕ, ◌≡◌, ◌-◌, ◌<◌, ◌≤◌, IfSome, length}
use Rattle.outside.specs.Attached.{told_all}
use Rattle.outside.specs.Seen.{OnlyReads}
use Rattle.rescue_map.specs.Salvaged.{reads_for_all, IsRead}
use Rattle.rescue_map.specs.Ways.{to_find}
use Rattle.rescue_map.proofs.reading.read_block.Given as goal

abbrev pub invariant-loop-j : goal.invariant-loop-j
invariant-loop-j g l = record {
  within : l.j ≤ l.count;
  few : l.found ≤ l.j;
  found : l.found ≡ to_find l.damage.rescue.now l.damage.set.now l.first l.j;
  block_long : length l.block ≡ length l.fn.block;
  rows_long : length l.rows ≡ length l.fn.rows;
  reads : OnlyReads (g.I.Images.seen l.fn.images) (g.I.Images.seen l.images) (reads_for_all l.damage.rescue.now l.damage.set.now l.first l.j);
  stays : (g.I.Images.seen l.images).faults ≡ (g.I.Images.seen l.fn.images).faults;
  told : IfSome (told_all (g.I.Images.seen l.fn.images).attached) (λ bytes. (j : ℕ) → j < l.j → IsRead bytes l.damage.rescue.now l.damage.set.now l.first l.rows l.block j);
}

abbrev pub decreases-loop-j : goal.decreases-loop-j
decreases-loop-j g l = l.count - l.j
