use Rattle.std.proofs.Common.{arith}
use Rattle.survey_engine.proofs.Stated.{decided_next}
use Rattle.survey_engine.proofs.systems.deciding.Goals as goal

pub loop-next-preserved : goal.loop-next-preserved
loop-next-preserved c =
    decided_next c.args.all.now c.args.first.now c.loop-next.best c.next-item.result c.stronger-best.result c.loop-next.next-index (omega arith) c.next-item.is c.loop-next.invariant c.stronger-best.ensures
