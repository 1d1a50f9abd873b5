use Rattle.std.proofs.Common.{◌≡◌, None, Some, rules, arith}
use Rattle.set_jobs.specs.Mapping.{base_at}
use Rattle.set_jobs.proofs.Bases.{base_near}
use Rattle.set_jobs.proofs.mapping.base_of.Goals as goal

pub returns-in-Some-clause-near : goal.returns-in-Some-clause-near
returns-in-Some-clause-near c =
    let near = base_near c.args.set.now (Some c.in-Some.image) c.requires in
    let same : c.unwrap_or.result ≡ base_at c.args.set.now (Some c.in-Some.image) = search rules in
    omega arith

pub returns-in-None-clause-near : goal.returns-in-None-clause-near
returns-in-None-clause-near c = base_near c.args.set.now None c.requires
