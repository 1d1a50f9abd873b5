use Rattle.std.proofs.Common.{sym, ap, ◌∙◌}
use Rattle.near_mirror.specs.Validity.{first_fault}
use Rattle.near_jobs.proofs.Mirrored.{images_refused, mirrored, rule_refused}
use Rattle.near_jobs.proofs.mirror_writing.mirrored_end.Goals as goal

pub returns-in-Some-clause-refused : goal.returns-in-Some-clause-refused
returns-in-Some-clause-refused g c = images_refused c.args.set.now c.args.end c.args.names (g.I.Images.seen c.args.images.now).attached c.in-Some.fault (sym c.limits_fault.ensures ∙ c.in-Some.is)

pub returns-in-Err-clause-refused : goal.returns-in-Err-clause-refused
returns-in-Err-clause-refused g c =
    rule_refused c.args.set.now c.args.end c.args.names (g.I.Images.seen c.args.images.now).attached c.in-Err.rule (sym c.limits_fault.ensures ∙ c.in_default.is)
    (ap (first_fault c.args.set.now c.args.names) (sym c.end_of-end.ensures) ∙ c.in-Err.ensures.rule)

pub returns-in-Ok-clause-mirrored : goal.returns-in-Ok-clause-mirrored
returns-in-Ok-clause-mirrored g c =
    mirrored c.args.set.now c.args.end c.args.names c.end_of-end.result (g.I.Images.seen c.args.images.now).attached (sym c.limits_fault.ensures ∙ c.in_default.is) c.in-Ok.ensures.rule c.end_of-end.ensures
    c.requires.small c.requires.end c.requires.attached
