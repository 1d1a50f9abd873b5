use Rattle.std.proofs.Common.{◌≡◌}
use Rattle.survey_engine.proofs.Stated.{firsts_to}
use Rattle.survey_engine.proofs.systems.firsts.Given as goal

abbrev pub invariant-loop-next : goal.invariant-loop-next
invariant-loop-next l = l.firsts ≡ firsts_to l.all l.next-index
