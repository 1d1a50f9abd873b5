use Rattle.parity_scan.proofs.equations.normal.Given as goal

abbrev pub invariant-loop-image : goal.invariant-loop-image
invariant-loop-image l = Unit {0}
