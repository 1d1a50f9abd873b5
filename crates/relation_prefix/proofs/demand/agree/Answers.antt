use Rattle.std.proofs.Common.{sym, ◌∙◌, arith}
use Rattle.std.proofs.lemmas.Bool.{eqb-false}
use Rattle.relation_prefix.proofs.Demands.{agree}
use Rattle.relation_prefix.proofs.demand.agree.Goals as goal

pub returns : goal.returns
returns c e x hx asks also =
    eqb-false c.mul.result c.mul-2.result e
    (c.mul.ensures ∙ agree c.args.one.now c.args.other.now x (omega arith) (omega arith) asks also ∙ sym c.mul-2.ensures)
