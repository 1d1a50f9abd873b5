use Rattle.std.proofs.Common.{◌≡◌, ◌*◌, IfSome, length, take}
use Rattle.outside.specs.Attached.{told_all}
use Rattle.outside.specs.Seen.{OnlyReads}
use Rattle.member_regions.specs.Members.{held}
use Rattle.member_regions.specs.Regions.{HoldRead}
use Rattle.member_regions.proofs.regions.Regions.read.Given as goal

abbrev pub invariant-loop-slot : goal.invariant-loop-slot
invariant-loop-slot g l = record {
  stride : l.stride ≡ l.fn.self.stride;
  long : length l.sectors ≡ l.stride * l.fn.self.members;
  reads : OnlyReads (g.I.Images.seen l.fn.images) (g.I.Images.seen l.images) (held (take l.slot l.slots) * l.count);
  stays : (g.I.Images.seen l.images).faults ≡ (g.I.Images.seen l.fn.images).faults;
  told : IfSome (told_all (g.I.Images.seen l.fn.images).attached) (λ bytes. HoldRead bytes l.slots l.offset l.stride l.first (512 * l.count) l.slot l.sectors);
}
