use Rattle.sample_job.proofs.Sampled.{found_refuses, refused_before}
use Rattle.sample_job.proofs.sampling.answer.Goals as goal

pub returns-in-Ok-clause-refuses : goal.returns-in-Ok-clause-refuses
returns-in-Ok-clause-refuses g c = found_refuses c.args.number c.args.set.now c.args.rows c.args.xfs c.array_text.result c.in-Ok.ensures.allowed c.array_text.ensures.refuses

pub returns-in-Err-clause-refuses : goal.returns-in-Err-clause-refuses
returns-in-Err-clause-refuses g c = record { ends = refused_before c.args.number c.args.set.now c.args.rows c.args.xfs c.in-Err.refusal c.in-Err.ensures.refused; passes = tt }
