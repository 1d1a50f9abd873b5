use Rattle.std.proofs.Common.{◌≡◌}
use Rattle.survey_engine.proofs.Groups.{kinds_to}
use Rattle.survey_engine.proofs.grouping.add_kinds.Given as goal

abbrev pub invariant-loop-kind : goal.invariant-loop-kind
invariant-loop-kind l = l.groups ≡ kinds_to l.asked l.found l.fn.groups l.kinds l.kind-index
