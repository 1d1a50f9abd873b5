use Rattle.std.proofs.Common.{◌≡◌, ◌+◌, ◌-◌, ◌*◌, ◌%◌, ◌<◌, ◌≤◌, IfSome, take}
use Rattle.outside.specs.Attached.{told_all}
use Rattle.volume_device.specs.Cost.{row_sectors}
use Rattle.volume_device.specs.Kept.{HasRead}
use Rattle.volume_device.specs.Sectors.{sectors_of}
use Rattle.volume_device.proofs.Costs.{front_cost}
use Rattle.volume_device.proofs.ranges.read_range.Given as goal

abbrev pub invariant-loop-at : goal.invariant-loop-at
invariant-loop-at g l = record {
  within : l.at ≤ l.count;
  begins : 0 < l.at → l.at < l.count → (l.first + l.at) % row_sectors l.geo.head ≡ 0;
  told : IfSome (told_all (g.I.Images.seen l.fn.images).attached) (λ bytes. take (512 * l.at) l.to ≡ sectors_of bytes l.geo l.first l.at);
  read : HasRead l.geo (front_cost l.geo l.first l.count l.at) (g.I.Images.seen l.fn.images) (g.I.Images.seen l.images) l.fn.kept l.kept;
  stays : (g.I.Images.seen l.images).faults ≡ (g.I.Images.seen l.fn.images).faults;
}

abbrev pub decreases-loop-at : goal.decreases-loop-at
decreases-loop-at g l = l.count - l.at
