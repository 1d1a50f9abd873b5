use Rattle.std.proofs.Common.{◌+◌, refl, arith}
use Rattle.row_parity.proofs.Lanes.{put_after, put_before, put_inside}
use Rattle.row_parity.proofs.strips.store.Goals as goal

pub returns-clause-before : goal.returns-clause-before
returns-clause-before c = λ p h. put_before c.args.at c.args.to.now c.args.lanes p h

pub returns-clause-lanes : goal.returns-clause-lanes
returns-clause-lanes c = λ lane below.
    put_inside c.args.at c.args.to.now c.args.lanes lane (c.args.at + lane) refl (let h = c.requires.lanes in omega arith) (let h = c.requires.lanes in omega (arith, c.requires.to))

pub returns-clause-after : goal.returns-clause-after
returns-clause-after c = λ p h. put_after c.args.at c.args.to.now c.args.lanes p (let long = c.requires.lanes in omega arith)
