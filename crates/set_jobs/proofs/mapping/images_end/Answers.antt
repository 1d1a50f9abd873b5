use Rattle.std.proofs.Common.{sym, ◌∙◌}
use Rattle.set_jobs.proofs.SetRefusals.{length_refused, limits_refused}
use Rattle.set_jobs.proofs.mapping.images_end.Goals as goal

pub returns-in-Some-clause-refused : goal.returns-in-Some-clause-refused
returns-in-Some-clause-refused g c = limits_refused c.args.set.now c.args.end c.args.names (g.I.Images.seen c.args.images.now).attached c.in-Some.fault (sym c.limits_fault.ensures ∙ c.in-Some.is)

pub returns-in-Some-long_for-clause-refused : goal.returns-in-Some-long_for-clause-refused
returns-in-Some-long_for-clause-refused g c =
    length_refused c.args.set.now c.args.end c.args.names (g.I.Images.seen c.args.images.now).attached c.in-Some-long_for.fault (sym c.limits_fault.ensures ∙ c.in_default.is) (sym c.long_for.ensures ∙ c.in-Some-long_for.is)
