use Rattle.std.proofs.Common.{ℕ, ◌≡◌, ◌-◌, ◌<◌, ◌≤◌}
use Rattle.lost_members.specs.Needs.{is_needed}
use Rattle.lost_members.proofs.needs.run_end.Given as goal

abbrev pub invariant-loop-at : goal.invariant-loop-at
invariant-loop-at l = record {
  goes_on : l.sector < l.at;
  end : l.at ≤ l.end;
  alike : (t : ℕ) → l.sector ≤ t → t < l.at → is_needed l.geo l.slot t ≡ is_needed l.geo l.slot l.sector;
}

abbrev pub decreases-loop-at : goal.decreases-loop-at
decreases-loop-at l = l.end - l.at
