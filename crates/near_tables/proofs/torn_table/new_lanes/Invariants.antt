use Rattle.std.proofs.Common.{◌≡◌, ℕ, ◌<◌, length}
use Rattle.member_regions.specs.Regions.{IsRoomFor}
use Rattle.member_regions.specs.declared.regions.TheConstants.{BLOCK}
use Rattle.near_tables.specs.Reading.{lane_room}
use Rattle.near_tables.proofs.torn_table.new_lanes.Given as goal

abbrev pub invariant-loop : goal.invariant-loop
invariant-loop l = record {
  long : length l.rooms.items ≡ l.counter;
  blocks : (lane : ℕ) → lane < l.counter → IsRoomFor l.many BLOCK (lane_room l.rooms.items lane);
}
