use Rattle.std.proofs.Common.{◌≡◌, not}
use Rattle.relation_lines.specs.Sets.{is_in, set_where}
use Rattle.relation_lines.proofs.report.untied.Given as goal

abbrev pub invariant-loop-image : goal.invariant-loop-image
invariant-loop-image l = l.others ≡ set_where l.image (λ image. not (is_in l.set image))
