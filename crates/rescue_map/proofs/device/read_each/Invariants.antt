use Rattle.std.proofs.Common.{◌≡◌, ◌-◌, ◌≤◌, IfSome, length}
use Rattle.outside.specs.Attached.{told_all}
use Rattle.outside.specs.Seen.{OnlyReads}
use Rattle.rescue_map.specs.Salvaged.{reads_for_all, AreSalvaged}
use Rattle.rescue_map.specs.Ways.{to_find}
use Rattle.rescue_map.proofs.device.read_each.Given as goal

abbrev pub invariant-loop-j : goal.invariant-loop-j
invariant-loop-j g l = record {
  within : l.j ≤ l.count;
  few : l.found ≤ l.j;
  found : l.found ≡ to_find l.damage.rescue.now l.damage.set.now l.first l.j;
  long : length l.to ≡ length l.fn.to;
  row : length l.row ≡ length l.fn.row;
  reads : OnlyReads (g.I.Images.seen l.fn.images) (g.I.Images.seen l.images) (reads_for_all l.damage.rescue.now l.damage.set.now l.first l.j);
  stays : (g.I.Images.seen l.images).faults ≡ (g.I.Images.seen l.fn.images).faults;
  told : IfSome (told_all (g.I.Images.seen l.fn.images).attached) (λ bytes. AreSalvaged bytes l.damage.rescue.now l.damage.set.now l.first l.j l.to);
}

abbrev pub decreases-loop-j : goal.decreases-loop-j
decreases-loop-j g l = l.count - l.j
