use Rattle.std.proofs.Common.{◌≡◌, ◌+◌, ◌-◌, ◌≤◌, IfSome}
use Rattle.outside.specs.Attached.{told_all}
use Rattle.outside.specs.Seen.{OnlyReads}
use Rattle.lost_members.specs.Needs.{HoldNeededOf, needed_of}
use Rattle.lost_members.proofs.reading.read_runs.Given as goal

abbrev pub invariant-loop-at : goal.invariant-loop-at
invariant-loop-at g l = record {
  from : l.first ≤ l.at;
  to : l.at ≤ l.end;
  end : l.end ≡ l.first + l.count;
  reads : OnlyReads (g.I.Images.seen l.fn.images) (g.I.Images.seen l.images) (needed_of l.geo l.first (l.at - l.first) l.slot);
  stays : (g.I.Images.seen l.images).faults ≡ (g.I.Images.seen l.fn.images).faults;
  told : IfSome (told_all (g.I.Images.seen l.fn.images).attached) (λ bytes. HoldNeededOf bytes l.geo l.slot l.first (l.at - l.first) l.to);
}

abbrev pub decreases-loop-at : goal.decreases-loop-at
decreases-loop-at g l = l.end - l.at
