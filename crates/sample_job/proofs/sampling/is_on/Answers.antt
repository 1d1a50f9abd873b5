use Rattle.std.proofs.Common.{nat_eq, List, sym, ap, ◌∙◌}
use Rattle.std.specs.List.{list_any}
use Rattle.head_walk.specs.declared.parts.Line.{Line}
use Rattle.sample_job.proofs.Sampled.{among_is}
use Rattle.sample_job.proofs.sampling.is_on.Goals as goal

pub returns-in-Some : goal.returns-in-Some
returns-in-Some c =
    among_is c.args.plan.now c.args.set.now c.args.page.now.lines c.in-Some.rank c.has_rank.result (sym c.product_rank.ensures ∙ c.in-Some.is)
    (c.has_rank.ensures ∙ ap (λ (lines : List Line). list_any (λ held. nat_eq held.rank c.in-Some.rank) lines) c.as_slice.ensures)
