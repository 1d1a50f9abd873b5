use Rattle.std.proofs.Common.{refl, arith, Err}
use Rattle.run_ends.proofs.Refusals.{early_answers}
use Rattle.run_ends.specs.Jobs.{around, named}
use Rattle.run_ends.specs.declared.stop.Stop.TheVariants.{Refused}
use Rattle.set_jobs.specs.Mapping.{map_job}
use Rattle.set_jobs.proofs.SetRefusals.{map_answered, map_set_refused}
use Rattle.set_jobs.proofs.mapping.answer.Goals as goal

pub returns-in-Ok : goal.returns-in-Ok
returns-in-Ok g c source =
    let seen = g.I.Images.seen c.args.images.now in
    early_answers (map_job c.args.set.now c.args.end c.args.sector) (named c.args.names seen.attached) (around seen source) c.place_text.result refl c.place_text.ensures.early
    (λ said. map_answered c.args.set.now c.args.end c.args.sector c.args.names c.in-Ok.end seen.attached c.place_text.result c.in-Ok.ensures.allowed c.in-Ok.ensures.end.0 c.place_text.ensures.refuses)
    (λ said. c.place_text.ensures.text) (λ said. omega arith)

pub returns-in-Err : goal.returns-in-Err
returns-in-Err g c source =
    let seen = g.I.Images.seen c.args.images.now in
    early_answers (map_job c.args.set.now c.args.end c.args.sector) (named c.args.names seen.attached) (around seen source) (Err (Refused c.in-Err.refusal)) refl tt
    (λ said. record { ends = map_set_refused c.args.set.now c.args.end c.args.sector c.args.names seen.attached c.in-Err.refusal c.in-Err.ensures.refused; passes = tt })
    (λ said. tt) (λ said. omega arith)
