use Rattle.std.proofs.Common.{◌≡◌, ◌<◌, ◌≤◌, ◌*◌, ◌-◌, ◌^◌, IfSome}
use Rattle.outside.specs.Attached.{told_all}
use Rattle.outside.specs.Seen.{OnlyReads}
use Rattle.near_tables.specs.Reading.{HasRoom, KeepsStrips}
use Rattle.near_tables.specs.Tables.{CountsFirst, lane_depth}
use Rattle.near_tables.proofs.Reach.{spent_of}
use Rattle.near_tables.proofs.torn_table.TornTable.add_strips.Given as goal

abbrev pub invariant-loop-sector : goal.invariant-loop-sector
invariant-loop-sector g l = record {
  sector : l.sector ≡ lane_depth l.fn.strips.head 0 l.at;
  late : l.at ≤ l.sector;
  short : l.fn.strips.limit < 2 ^ 55;
  within : l.at ≤ l.fn.strips.limit;
  faults : (g.I.Images.seen l.images).faults ≡ (g.I.Images.seen l.fn.images).faults;
  reads : OnlyReads (g.I.Images.seen l.fn.images) (g.I.Images.seen l.images) (l.fn.strips.many * spent_of l.fn.strips.head l.fn.strips.limit l.at);
  told : IfSome (told_all (g.I.Images.seen l.fn.images).attached) (λ bytes. CountsFirst bytes l.fn.strips.many l.fn.strips.head l.fn.strips.end l.fn.strips.limit l.at l.self);
  keeps : KeepsStrips l.fn.strips l.strips;
  room : HasRoom l.strips;
}

abbrev pub decreases-loop-sector : goal.decreases-loop-sector
decreases-loop-sector g l = l.fn.strips.limit - l.at
