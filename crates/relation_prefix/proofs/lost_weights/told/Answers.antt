use Rattle.std.proofs.Common.{arith}
use Rattle.relation_prefix.proofs.Joints.{lost_is_not_q, lost_is_q}
use Rattle.relation_prefix.proofs.lost_weights.told.Goals as goal

pub returns-then-left-ne0-clause-lost : goal.returns-then-left-ne0-clause-lost
returns-then-left-ne0-clause-lost c part e =
    let left = c.args.left.now in
    lost_is_not_q part left.p left.q c.divide.result (omega arith) (omega arith) c.if-left-ne0.true c.divide.ensures.only e

pub returns-then-left-ne0-2-clause-lost : goal.returns-then-left-ne0-2-clause-lost
returns-then-left-ne0-2-clause-lost c part e =
    let left = c.args.left.now in
    lost_is_q part left.p left.q (omega arith) c.if-left-ne0.false c.if-left-ne0-2.true e
