use Rattle.mft.proofs.runs.+runs_from.Given as goal

abbrev pub decreases-runs_from : goal.decreases-runs_from
decreases-runs_from l = l.left
