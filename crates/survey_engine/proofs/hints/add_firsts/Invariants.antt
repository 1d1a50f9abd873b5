use Rattle.std.proofs.Common.{◌≡◌}
use Rattle.survey_engine.specs.Origins.{AreOrigins}
use Rattle.survey_engine.proofs.Firsts.{firsts_to}
use Rattle.survey_engine.proofs.hints.add_firsts.Given as goal

abbrev pub invariant-loop-first : goal.invariant-loop-first
invariant-loop-first l = record {
  items : l.origins.items ≡ firsts_to l.fn.origins.items l.firsts l.first-index;
  origins : AreOrigins l.origins.items;
}
