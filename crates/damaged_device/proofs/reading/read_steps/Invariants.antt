use Rattle.std.proofs.Common.{◌≡◌, ◌-◌, ◌*◌, ◌≤◌, IfSome, length, take}
use Rattle.outside.specs.Attached.{told_all}
use Rattle.outside.specs.Seen.{OnlyReads}
use Rattle.rescue_map.specs.Salvaged.{reads_for_all, salvaged_sectors}
use Rattle.damaged_device.specs.Reading.{CanReadDamaged}
use Rattle.damaged_device.proofs.reading.read_steps.Given as goal

abbrev pub invariant-loop-at : goal.invariant-loop-at
invariant-loop-at g l = record {
  within : l.at ≤ l.count;
  long : length l.to ≡ length l.fn.to;
  can : CanReadDamaged l.damage.set.now l.damage.end (g.I.Images.seen l.images).attached l.kept l.row;
  reads : OnlyReads (g.I.Images.seen l.fn.images) (g.I.Images.seen l.images) (reads_for_all l.damage.rescue.now l.damage.set.now l.first l.at);
  stays : (g.I.Images.seen l.images).faults ≡ (g.I.Images.seen l.fn.images).faults;
  told : IfSome (told_all (g.I.Images.seen l.fn.images).attached) (λ images. take (512 * l.at) l.to ≡ salvaged_sectors images l.damage.rescue.now l.damage.set.now l.first l.at);
}

abbrev pub decreases-loop-at : goal.decreases-loop-at
decreases-loop-at g l = l.count - l.at
