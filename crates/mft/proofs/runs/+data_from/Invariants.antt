use Rattle.mft.proofs.runs.+data_from.Given as goal

abbrev pub decreases-data_from : goal.decreases-data_from
decreases-data_from l = l.left
