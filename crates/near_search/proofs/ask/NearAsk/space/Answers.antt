use Rattle.std.proofs.Common.{arith}
use Rattle.near_search.proofs.Spaces.{may_both, may_not, no_space, some_space}
use Rattle.near_search.proofs.ask.NearAsk.space.Goals as goal
use Rattle.near_search.proofs.ask.NearAsk.space.Goals.{else-head-members-via-then-head-members+else-images-held, else-head-members-via-else-head-members}

pub returns-then-images-held : goal.returns-then-images-held
returns-then-images-held c =
    some_space c.args.self.now c.args.images c.args.head.now c.min.result (may_both c.args.images c.args.self.now c.args.head.now c.if-head-members.true c.if-images-held.true) c.min.ensures

pub returns-else-head-members : goal.returns-else-head-members
returns-else-head-members c =
    no_space c.args.self.now c.args.images c.args.head.now (may_not c.args.images c.args.self.now c.args.head.now (λ a b. elim c.else-head-members.branch [
      | else-head-members-via-then-head-members+else-images-held w ↦ (let f = w.if-images-held.false in omega arith)
      | else-head-members-via-else-head-members w ↦ (let f = w.if-head-members.false in omega arith)
    ]))
