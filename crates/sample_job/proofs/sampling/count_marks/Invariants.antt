use Rattle.std.proofs.Common.{◌≡◌, length, take}
use Rattle.std.specs.Prelude.{sum_by}
use Rattle.sample_job.proofs.sampling.count_marks.Given as goal

abbrev pub invariant-loop-group : goal.invariant-loop-group
invariant-loop-group l = l.marks ≡ sum_by (λ group. length group.marks) (take l.group-index l.groups)
