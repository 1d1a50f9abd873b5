use Rattle.std.proofs.Common.{◌≡◌, ◌≤◌, ◌*◌, ◌-◌, IfSome, length}
use Rattle.outside.specs.Attached.{told_all}
use Rattle.outside.specs.Seen.{OnlyReads}
use Rattle.member_regions.specs.Regions.{IsRoomFor}
use Rattle.member_regions.specs.declared.regions.TheConstants.{BLOCK}
use Rattle.xor_tables.specs.Paces.{span}
use Rattle.xor_tables.specs.Xors.{AreFew, CountRows}
use Rattle.xor_tables.proofs.xor_table.tally_rows.Given as goal

abbrev pub invariant-loop-first : goal.invariant-loop-first
invariant-loop-first g l = record {
  faults : (g.I.Images.seen l.images).faults ≡ (g.I.Images.seen l.fn.images).faults;
  reads : OnlyReads (g.I.Images.seen l.fn.images) (g.I.Images.seen l.images) (length l.plan.lengths.items * l.first);
  told : IfSome (told_all (g.I.Images.seen l.fn.images).attached) (λ bytes. CountRows bytes (length l.plan.lengths.items) (span l.fn.pace) l.offset l.first l.tally);
  few : AreFew l.first l.tally;
  within : l.first ≤ l.rows;
  room : IsRoomFor (length l.plan.lengths.items) BLOCK l.regions;
}

abbrev pub decreases-loop-first : goal.decreases-loop-first
decreases-loop-first g l = l.rows - l.first
