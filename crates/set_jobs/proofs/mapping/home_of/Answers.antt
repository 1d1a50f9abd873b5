use Rattle.set_jobs.proofs.Homes.{home_near}
use Rattle.set_jobs.proofs.mapping.home_of.Goals as goal

pub returns-in-Some-clause-near : goal.returns-in-Some-clause-near
returns-in-Some-clause-near c = home_near c.args.head.now c.args.end c.args.sector c.in-Some.home c.requires.head c.in-Some.ensures c.requires.end
