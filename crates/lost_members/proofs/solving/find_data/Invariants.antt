use Rattle.std.proofs.Common.{◌≡◌, ℕ, ◌+◌, ◌-◌, ◌≤◌, List}
use Rattle.lost_members.specs.Needs.{HoldNeeded}
use Rattle.lost_members.proofs.DataFound.{HoldFound}
use Rattle.lost_members.proofs.solving.find_data.Given as goal

abbrev pub invariant-loop-at : goal.invariant-loop-at
invariant-loop-at l = record {
  from : l.first ≤ l.at;
  to : l.at ≤ l.end;
  end : l.end ≡ l.first + l.count;
  needed : (bytes : List (List ℕ)) → HoldNeeded bytes l.geo l.stride l.first l.count l.fn.sectors → HoldNeeded bytes l.geo l.stride l.first l.count l.sectors;
  found : (bytes : List (List ℕ)) → HoldNeeded bytes l.geo l.stride l.first l.count l.fn.sectors → HoldFound bytes l.geo l.stride l.first (l.at - l.first) l.sectors;
}

abbrev pub decreases-loop-at : goal.decreases-loop-at
decreases-loop-at l = l.end - l.at
