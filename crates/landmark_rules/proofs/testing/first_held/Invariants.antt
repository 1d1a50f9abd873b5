use Rattle.std.proofs.Common.{◌≡◌, ℕ, ◌<◌, get_or, false}
use Rattle.landmark_rules.specs.Groups.{holds_at}
use Rattle.landmark_rules.proofs.testing.first_held.Given as goal

abbrev pub invariant-loop-origin : goal.invariant-loop-origin
invariant-loop-origin l = (k : ℕ) → k < l.origin-index → holds_at l.geo l.end l.tests l.group (get_or l.origins k 0) ≡ false
