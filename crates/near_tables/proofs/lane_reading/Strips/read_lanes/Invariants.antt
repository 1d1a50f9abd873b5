use Rattle.std.proofs.Common.{ℕ, ◌≡◌, ◌<◌, ◌*◌, IfSome}
use Rattle.outside.specs.Attached.{told_all}
use Rattle.outside.specs.Seen.{OnlyReads}
use Rattle.near_tables.specs.Reading.{HasRoom, HoldsLane, KeepsStrips, rests_of}
use Rattle.near_tables.proofs.lane_reading.Strips.read_lanes.Given as goal

abbrev pub invariant-loop-lane : goal.invariant-loop-lane
invariant-loop-lane g l = record {
  faults : (g.I.Images.seen l.images).faults ≡ (g.I.Images.seen l.fn.images).faults;
  reads : OnlyReads (g.I.Images.seen l.fn.images) (g.I.Images.seen l.images) (l.fn.self.many * rests_of l.fn.self.head l.fn.self.limit l.at l.count l.lane);
  told : IfSome (told_all (g.I.Images.seen l.fn.images).attached)
      (λ bytes. (a : ℕ) → a < l.lane → HoldsLane bytes l.fn.self.many l.fn.self.head l.fn.self.end l.fn.self.limit l.at l.count l.self.lanes.items a);
  keeps : KeepsStrips l.fn.self l.self;
  room : HasRoom l.self;
}
