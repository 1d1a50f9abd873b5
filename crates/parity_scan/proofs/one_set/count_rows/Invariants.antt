use Rattle.std.proofs.Common.{◌≡◌, ◌≤◌, ◌*◌, ◌-◌, IfSome}
use Rattle.outside.specs.Attached.{told_all}
use Rattle.outside.specs.Seen.{OnlyReads}
use Rattle.raid_terms.specs.Parity.{unsound_rows}
use Rattle.member_regions.specs.Members.{held}
use Rattle.member_regions.specs.Regions.{KeepsRoom}
use Rattle.parity_scan.proofs.one_set.count_rows.Given as goal

abbrev pub invariant-loop-first : goal.invariant-loop-first
invariant-loop-first g l = record {
  quiet : (g.I.Images.seen l.images).faults ≡ (g.I.Images.seen l.fn.images).faults;
  reads : OnlyReads (g.I.Images.seen l.fn.images) (g.I.Images.seen l.images) (held l.geo.slots.items * l.first);
  told : IfSome (told_all (g.I.Images.seen l.fn.images).attached) (λ bytes. l.sum ≡ unsound_rows bytes l.geo l.first);
  few : l.sum ≤ l.first;
  within : l.first ≤ l.rows;
  room : KeepsRoom l.fn.regions l.regions;
}

abbrev pub decreases-loop-first : goal.decreases-loop-first
decreases-loop-first g l = l.rows - l.first
