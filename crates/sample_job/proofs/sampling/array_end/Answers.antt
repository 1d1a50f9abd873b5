use Rattle.std.proofs.Common.{rules}
use Rattle.sample_job.proofs.Refusals.{delay_refused, set_refused}
use Rattle.sample_job.proofs.sampling.array_end.Goals as goal

pub returns-in-Err-clause-refused : goal.returns-in-Err-clause-refused
returns-in-Err-clause-refused c = set_refused c.args.set.now c.args.rows c.args.xfs c.in-Err.fault (search rules)

pub returns-in-Err-delay_kept-clause-refused : goal.returns-in-Err-delay_kept-clause-refused
returns-in-Err-delay_kept-clause-refused c =
    delay_refused c.args.set.now c.args.rows c.args.xfs c.in-Err-delay_kept.refusal (search rules) (search rules) (search rules) (search rules) c.in-Err-delay_kept.ensures
