use Rattle.std.proofs.Common.{◌≡◌}
use Rattle.survey_engine.proofs.Leaves.{heard_to}
use Rattle.survey_engine.proofs.telling.hear.Given as goal

abbrev pub invariant-loop-place : goal.invariant-loop-place
invariant-loop-place l = l.found ≡ heard_to l.leaf l.by l.fn.found l.place
