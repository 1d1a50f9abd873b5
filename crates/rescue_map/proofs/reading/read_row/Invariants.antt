use Rattle.std.proofs.Common.{◌≡◌, ◌*◌, IfSome, length, take}
use Rattle.outside.specs.Attached.{told_all}
use Rattle.outside.specs.Seen.{OnlyReads}
use Rattle.member_regions.specs.Members.{held}
use Rattle.rescue_map.specs.Salvaged.{HoldCells}
use Rattle.rescue_map.proofs.reading.read_row.Given as goal

abbrev pub invariant-loop-slot : goal.invariant-loop-slot
invariant-loop-slot g l = record {
  long : length l.row ≡ length l.fn.row;
  reads : OnlyReads (g.I.Images.seen l.fn.images) (g.I.Images.seen l.images) (held (take l.slot l.geo.slots.items) * 1);
  stays : (g.I.Images.seen l.images).faults ≡ (g.I.Images.seen l.fn.images).faults;
  told : IfSome (told_all (g.I.Images.seen l.fn.images).attached) (λ bytes. HoldCells bytes l.geo.slots.items l.geo.head.offset l.sector l.slot l.row);
}
