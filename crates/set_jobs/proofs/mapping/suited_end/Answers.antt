use Rattle.std.proofs.Common.{sym, ◌∙◌}
use Rattle.set_jobs.proofs.SetRefusals.{late_refused}
use Rattle.set_jobs.proofs.mapping.suited_end.Goals as goal

pub returns-in-Some-clause-refused : goal.returns-in-Some-clause-refused
returns-in-Some-clause-refused g c =
    late_refused c.args.set.now c.args.end c.args.names (g.I.Images.seen c.args.images.now).attached c.in-Some.refusal c.in-Ok.ensures.allowed (sym c.late_fault.ensures ∙ c.in-Some.is)
