use Rattle.std.proofs.Common.{sym, ◌∙◌}
use Rattle.relation_prefix.specs.Ties.{coefficients_of}
use Rattle.relation_prefix.proofs.Demands.{first_alone}
use Rattle.relation_prefix.proofs.demand.demand_of.Goals as goal

pub returns : goal.returns
returns c = λ x has. sym (first_alone (coefficients_of c.args.ties.now c.args.image) x (c.is_first_alone.ensures c.if-not-is_first_alone.false)) ∙ has c.if-ties-image.false
