use Rattle.std.proofs.Common.{◌≡◌}
use Rattle.survey_engine.proofs.Recorded.{marks_to}
use Rattle.survey_engine.proofs.tables.marks_of.Given as goal

abbrev pub invariant-loop-one : goal.invariant-loop-one
invariant-loop-one l = l.marks ≡ marks_to l.records l.one-index
