use Rattle.std.proofs.Common.{◌≡◌, ◌-◌, ◌*◌, ◌≤◌, IfSome, take}
use Rattle.outside.specs.Attached.{told_all}
use Rattle.volume_device.specs.Cost.{part_cost}
use Rattle.volume_device.specs.Kept.{HasRead, LieAmong}
use Rattle.volume_device.specs.Sectors.{sectors_of}
use Rattle.volume_device.proofs.runs.read_part.Given as goal

abbrev pub invariant-loop-at : goal.invariant-loop-at
invariant-loop-at g l = record {
  within : l.at ≤ l.count;
  told : IfSome (told_all (g.I.Images.seen l.fn.images).attached) (λ bytes. take (512 * l.at) l.to ≡ sectors_of bytes l.geo l.first l.at);
  still : LieAmong l.geo.head l.fn.kept.first l.fn.kept.count l.first l.count → (l.kept ≡ l.fn.kept) × (g.I.Images.seen l.images ≡ g.I.Images.seen l.fn.images);
  read : HasRead l.geo (part_cost l.geo l.first l.at) (g.I.Images.seen l.fn.images) (g.I.Images.seen l.images) l.fn.kept l.kept;
  stays : (g.I.Images.seen l.images).faults ≡ (g.I.Images.seen l.fn.images).faults;
}

abbrev pub decreases-loop-at : goal.decreases-loop-at
decreases-loop-at g l = l.count - l.at
