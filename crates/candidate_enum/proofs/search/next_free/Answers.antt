use Rattle.std.proofs.Common.{arith}
use Rattle.candidate_enum.proofs.Keeping.{none_from, next_bit}
use Rattle.candidate_enum.proofs.search.next_free.Goals as goal

pub returns-then-rest-eq0-clause-others : goal.returns-then-rest-eq0-clause-others
returns-then-rest-eq0-clause-others c = λ i lo hi. none_from c.args.free c.args.first i c.if-rest-eq0.true lo

pub returns-clause-free : goal.returns-clause-free
returns-clause-free c = (next_bit c.args.free c.args.first c.args.images c.min.result (omega arith) c.ranges.free.fits c.min.ensures).set

pub returns-clause-others : goal.returns-clause-others
returns-clause-others c = (next_bit c.args.free c.args.first c.args.images c.min.result (omega arith) c.ranges.free.fits c.min.ensures).others
