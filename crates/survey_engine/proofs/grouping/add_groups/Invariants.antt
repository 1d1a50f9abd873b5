use Rattle.std.proofs.Common.{◌≡◌}
use Rattle.survey_engine.proofs.Groups.{groups_to}
use Rattle.survey_engine.proofs.grouping.add_groups.Given as goal

abbrev pub invariant-loop-owner : goal.invariant-loop-owner
invariant-loop-owner l = l.groups ≡ groups_to l.found l.alone l.owner-items l.fn.groups l.owner-index
