use Rattle.std.proofs.Common.{◌≡◌, slice_get}
use Rattle.survey_engine.specs.Telling.{spot_of}
use Rattle.survey_engine.proofs.Leaves.{spots_from}
use Rattle.survey_engine.proofs.telling.spot_of.Given as goal

abbrev pub invariant-loop-index : goal.invariant-loop-index
invariant-loop-index l = spot_of l.leaf l.address ≡ slice_get (spots_from l.leaf l.address l.index) 0
