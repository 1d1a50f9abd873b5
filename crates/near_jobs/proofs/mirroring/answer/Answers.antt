use Rattle.std.proofs.Common.{sym, ◌∙◌, ap, refl, arith, Err}
use Rattle.run_ends.proofs.Refusals.{early_answers}
use Rattle.run_ends.specs.Jobs.{around, named}
use Rattle.run_ends.specs.declared.stop.Refusal.TheVariants.{Images}
use Rattle.run_ends.specs.declared.stop.Stop.TheVariants.{Refused}
use Rattle.near_jobs.specs.Mirroring.{ask_of, mirrors_job}
use Rattle.near_jobs.proofs.Paged.{has_images, images_refused, mirrors_answers, near_ask}
use Rattle.near_jobs.proofs.mirroring.answer.Goals as goal

pub returns-in-Some-clause-answers : goal.returns-in-Some-clause-answers
returns-in-Some-clause-answers g c source =
    let seen = g.I.Images.seen c.args.images.now in
    early_answers (mirrors_job c.args.asked) (named c.args.names seen.attached) (around seen source) (Err (Refused (Images c.in-Some.fault))) refl tt
    (λ said. record { ends = images_refused c.args.asked c.args.names seen.attached c.in-Some.fault (sym c.limits_fault.ensures ∙ c.in-Some.is); passes = tt })
    (λ said. tt) (λ said. omega arith)

pub page_lines-requires-clause-ask : goal.page_lines-requires-clause-ask
page_lines-requires-clause-ask g c =
    let attached = (g.I.Images.seen c.args.images.now).attached in
    rw c.ask_of-ask.ensures (near_ask c.args.asked c.args.names c.end_of-end.result attached (sym c.limits_fault.ensures ∙ c.in_default.is) c.requires.asked c.requires.small c.end_of-end.ensures)

pub page_lines-requires-clause-images : goal.page_lines-requires-clause-images
page_lines-requires-clause-images g c =
    let attached = (g.I.Images.seen c.args.images.now).attached in
    rw c.ask_of-ask.ensures (has_images c.args.asked c.args.names c.end_of-end.result attached (sym c.limits_fault.ensures ∙ c.in_default.is) c.requires.attached c.end_of-end.ensures)

pub returns-clause-answers : goal.returns-clause-answers
returns-clause-answers g c source =
    let seen = g.I.Images.seen c.args.images.now in
    let new = g.I.Images.seen c.page_lines.new.images in
    let none = sym c.limits_fault.ensures ∙ c.in_default.is in
    mirrors_answers c.args.asked c.args.names seen new source c.ask_of-ask.result c.page_lines.result none c.requires.attached (c.ask_of-ask.ensures ∙ ap (ask_of c.args.asked c.args.names) c.end_of-end.ensures)
    c.page_lines.ensures.text c.page_lines.ensures.refuses c.page_lines.ensures.order c.page_lines.ensures.early c.page_lines.ensures.reads c.page_lines.ensures.quiet
