use Rattle.outside.specs.Attached.{told_all}
use Rattle.survey_job.proofs.Surveyed.{plan_told}
use Rattle.survey_job.proofs.surveying.plan_lines.Goals as goal

pub returns-in_ok-write_plan-in-Ok-clause-text : goal.returns-in_ok-write_plan-in-Ok-clause-text
returns-in_ok-write_plan-in-Ok-clause-text g c =
    let attached = (g.I.Images.seen c.args.images.now).attached in
    plan_told c.args.ask.now attached (told_all attached) c.in-Ok.plan _ c.in-Ok.ensures.repeats c.in-Ok.ensures.adds c.in_ok-write_plan-in-Ok.ensures
