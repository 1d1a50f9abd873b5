use Rattle.std.proofs.Common.{◌≡◌, ℕ, ◌+◌, ◌-◌, ◌≤◌, List}
use Rattle.member_regions.specs.Members.{HoldBytes}
use Rattle.lost_members.specs.Needs.{HoldData}
use Rattle.member_regions.specs.Regions.{HoldSlot}
use Rattle.lost_members.proofs.solving.find_parity.Given as goal

abbrev pub invariant-loop-at : goal.invariant-loop-at
invariant-loop-at l = record {
  from : l.first ≤ l.at;
  to : l.at ≤ l.end;
  end : l.end ≡ l.first + l.count;
  kept : (bytes : List (List ℕ)) → HoldBytes bytes → HoldData bytes l.geo l.stride l.first l.count l.fn.sectors → HoldData bytes l.geo l.stride l.first l.count l.sectors;
  found : (bytes : List (List ℕ)) → HoldBytes bytes → HoldData bytes l.geo l.stride l.first l.count l.fn.sectors → HoldSlot bytes l.geo l.stride l.first (l.at - l.first) l.slot l.sectors;
}

abbrev pub decreases-loop-at : goal.decreases-loop-at
decreases-loop-at l = l.end - l.at
