use Rattle.std.proofs.Common.{sym, ◌∙◌}
use Rattle.set_jobs.proofs.SetRefusals.{all_kept, late_none}
use Rattle.set_jobs.proofs.Written.{served}
use Rattle.set_jobs.proofs.writing.missing_end.Goals as goal

pub returns-in-None-clause-served : goal.returns-in-None-clause-served
returns-in-None-clause-served g c =
    let set = c.args.set.now in
    let kept = late_none set c.args.names (sym c.late_fault.ensures ∙ c.in-None.is) in
    served set c.args.end c.args.names c.in-Ok.end (g.I.Images.seen c.args.images.now).attached c.in-Ok.ensures.allowed kept.0 c.requires.set c.requires.small c.requires.end c.requires.attached c.in-Ok.ensures.end.0
    (all_kept set c.args.names c.in-Ok.end c.in-Ok.ensures.valid kept.1)
