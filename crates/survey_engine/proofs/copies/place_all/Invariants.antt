use Rattle.std.proofs.Common.{◌≡◌}
use Rattle.survey_engine.proofs.Descriptors.{placed_to}
use Rattle.survey_engine.proofs.copies.place_all.Given as goal

abbrev pub invariant-loop-place : goal.invariant-loop-place
invariant-loop-place l = l.found ≡ placed_to l.copy l.tables l.fn.found l.place
