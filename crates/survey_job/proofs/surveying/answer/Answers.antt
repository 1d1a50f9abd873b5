use Rattle.std.proofs.Common.{sym, ◌∙◌, refl, arith, Err}
use Rattle.outside.specs.Attached.{told_all}
use Rattle.run_ends.proofs.Refusals.{early_answers}
use Rattle.run_ends.specs.Jobs.{around, named}
use Rattle.run_ends.specs.declared.stop.Refusal.TheVariants.{Images}
use Rattle.run_ends.specs.declared.stop.Stop.TheVariants.{Refused}
use Rattle.survey_job.specs.Surveying.{survey_job}
use Rattle.survey_job.proofs.Surveyed.{images_refused, read_for, survey_answers, surveyable, text_told}
use Rattle.survey_job.proofs.surveying.answer.Goals as goal

pub returns-in-Some-clause-answers : goal.returns-in-Some-clause-answers
returns-in-Some-clause-answers g c source =
    let seen = g.I.Images.seen c.args.images.now in
    early_answers (survey_job c.args.asked) (named c.args.names seen.attached) (around seen source) (Err (Refused (Images c.in-Some.fault))) refl tt
    (λ said. record { ends = images_refused c.args.asked c.args.names seen.attached c.in-Some.fault (sym c.images_fault.ensures ∙ c.in-Some.is); passes = tt })
    (λ said. tt) (λ said. omega arith)

pub plan_lines-requires : goal.plan_lines-requires
plan_lines-requires g c =
    let attached = (g.I.Images.seen c.args.images.now).attached in
    rw c.ask_of-ask.ensures (rw c.end_of-end.ensures (surveyable c.args.asked c.args.names attached (sym c.images_fault.ensures ∙ c.in_default.is) c.requires.asked c.requires.small c.requires.attached))

pub returns-clause-answers : goal.returns-clause-answers
returns-clause-answers g c source =
    let seen = g.I.Images.seen c.args.images.now in
    let new = g.I.Images.seen c.plan_lines.new.images in
    let none = sym c.images_fault.ensures ∙ c.in_default.is in
    survey_answers c.args.asked c.args.names seen new source c.plan_lines.result none
    (text_told c.args.asked c.args.names c.end_of-end.result seen.attached (told_all seen.attached) c.plan_lines.result c.ask_of-ask.result c.end_of-end.ensures c.ask_of-ask.ensures c.plan_lines.ensures.text)
    (read_for c.args.asked c.args.names c.end_of-end.result seen new c.ask_of-ask.result none c.requires.attached c.end_of-end.ensures c.ask_of-ask.ensures c.plan_lines.ensures.reads)
    c.plan_lines.ensures.quiet c.plan_lines.ensures.ends
