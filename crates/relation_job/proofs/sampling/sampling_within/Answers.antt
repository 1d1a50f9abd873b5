use Rattle.std.proofs.Common.{◌≤◌, ◌<◌, ◌^◌, IfSome, List, Option, ℕ, arith, ap, subst}
use Rattle.relation_job.specs.Sampling.{common_rows}
use Rattle.relation_job.proofs.CommonRows.{has_rows}
use Rattle.relation_job.proofs.sampling.sampling_within.Goals as goal
use Rattle.relation_job.proofs.sampling.sampling_within.Goals.{in-Some, in-None}

pub returns-clause-rows : goal.returns-clause-rows
returns-clause-rows g c =
    let attached = (g.I.Images.seen c.args.images.now).attached in
    let offsets = c.args.asked.now.offsets.items in
    let some : 1 ≤ c.match-asked.step = elim c.match-asked.branch [
      | in-Some w ↦ (let h = subst (λ (o : Option ℕ). IfSome o (λ step. (1 ≤ step) × (step < 2 ^ 55))) w.in-Some.is c.requires.step in omega (arith, h.0, w.step-is))
      | in-None w ↦ omega (arith, w.least_step-step.ensures.some, w.step-is)
    ] in
    let left = ap (λ (l : List ℕ). common_rows l attached) c.deref.ensures.0 in
    let within : c.unwrap_or-end.result ≤ common_rows offsets attached = omega (arith, c.common_rows-left.ensures.rows, left) in
    has_rows offsets attached (record { from = c.args.asked.now.from; step = c.match-asked.step; rows = c.count_to-rows.result }) c.unwrap_or-end.result some within c.count_to-rows.ensures
