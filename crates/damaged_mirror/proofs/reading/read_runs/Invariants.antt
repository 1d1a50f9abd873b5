use Rattle.std.proofs.Common.{◌≡◌, ◌-◌, ◌*◌, ◌≤◌, IfSome, length, take}
use Rattle.outside.specs.Attached.{told_all}
use Rattle.outside.specs.Seen.{OnlyReads}
use Rattle.damaged_mirror.specs.Damaged.{mended_sectors}
use Rattle.damaged_mirror.proofs.reading.read_runs.Given as goal

abbrev pub invariant-loop-done : goal.invariant-loop-done
invariant-loop-done g l = record {
  within : l.done ≤ l.count;
  long : length l.to ≡ length l.fn.to;
  told : IfSome (told_all (g.I.Images.seen l.fn.images).attached) (λ images. take (512 * l.done) l.to ≡ mended_sectors images l.damage.rescue.now l.damage.set.now l.damage.end l.first l.done);
  reads : OnlyReads (g.I.Images.seen l.fn.images) (g.I.Images.seen l.images) l.done;
  stays : (g.I.Images.seen l.images).faults ≡ (g.I.Images.seen l.fn.images).faults;
}

abbrev pub decreases-loop-done : goal.decreases-loop-done
decreases-loop-done g l = l.count - l.done
