use Rattle.std.proofs.Common.{arith}
use Rattle.parity_scan.proofs.Judging.{passed_of}
use Rattle.parity_scan.proofs.many_sets.tell_verdicts.Goals as goal

pub returns : goal.returns
returns c = passed_of c.loop-i.passed c.args.tallies.now c.loop-i.invariant.long (λ i d e below. c.loop-i.invariant.told i d e (omega arith))
