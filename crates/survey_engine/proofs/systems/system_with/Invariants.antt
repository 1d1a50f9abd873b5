use Rattle.std.proofs.Common.{◌≡◌}
use Rattle.survey_engine.specs.Systems.{system_with}
use Rattle.survey_engine.proofs.Stated.{with_from}
use Rattle.survey_engine.proofs.systems.system_with.Given as goal

abbrev pub invariant-loop-one : goal.invariant-loop-one
invariant-loop-one l = system_with l.systems l.identifier ≡ with_from l.systems l.identifier l.one-index
