use Rattle.std.proofs.Common.{◌≡◌, ◌<◌, ℕ, Bool, length, get_or}
use Rattle.parity_scan.specs.Tallies.{has_passed}
use Rattle.parity_scan.specs.declared.tally.Tally.{Tally}
use Rattle.parity_scan.proofs.many_sets.tell_verdicts.Given as goal

abbrev pub invariant-loop-i : goal.invariant-loop-i
invariant-loop-i l = record {
  long : length l.passed ≡ length l.tallies;
  told : (i : ℕ) (d : Bool) (e : Tally) → i < l.i → get_or l.passed i d ≡ has_passed (get_or l.tallies i e);
}
