use Rattle.std.specs.Prelude.{MatchOption}
use Rattle.parity_scan.specs.Pass.{IsNextRun, NothingLeft}
use Rattle.parity_scan.proofs.runs.next_run.Given as goal

abbrev pub invariant-loop-k : goal.invariant-loop-k
invariant-loop-k l = MatchOption l.next (NothingLeft l.scanned.scope.now l.scanned.sets.now l.tallies l.k l.at) (IsNextRun l.scanned.scope.now l.scanned.sets.now l.tallies l.k l.at)
