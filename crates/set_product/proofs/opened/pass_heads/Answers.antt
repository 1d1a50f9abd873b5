use Rattle.std.proofs.Common.{◌+◌, ◌∙◌, refl, arith}
use Rattle.set_product.specs.Left.{heads_from}
use Rattle.set_product.proofs.HeadByHead.{at_last}
use Rattle.set_product.proofs.opened.pass_heads.Goals as goal

pub returns-then-opened-clause-left : goal.returns-then-opened-clause-left
unfolding heads_from
returns-then-opened-clause-left c = refl

pub returns-clause-left : goal.returns-clause-left
returns-clause-left c =
    c.open_from.ensures.left
    ∙ at_last c.args.plan.now c.args.opened (c.args.opened.next + c.args.count) (let heads = c.requires.opened.heads in let past = c.if-opened.false in omega arith)
