use Rattle.std.proofs.Common.{◌≡◌, ◌<◌, ◌≤◌, ℕ, length, get_or}
use Rattle.parity_scan.specs.Pass.{IsAnew}
use Rattle.parity_scan.specs.declared.tally.Tally.{Tally}
use Rattle.parity_scan.proofs.samples.count_anew.Given as goal

abbrev pub invariant-loop-i : goal.invariant-loop-i
invariant-loop-i l = record {
  long : length l.tallies ≡ length l.initial.tallies;
  done : (i : ℕ) (d : Tally) → i < l.i → IsAnew l.scope.limits.badrows (get_or l.initial.tallies i d) (get_or l.tallies i d);
  rest : (i : ℕ) (d : Tally) → l.i ≤ i → get_or l.tallies i d ≡ get_or l.initial.tallies i d;
}
