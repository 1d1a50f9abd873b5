use Rattle.std.proofs.Common.{sym, ap₂, ◌∙◌, bit_xor}
use Rattle.gf256.specs.Field.{product}
use Rattle.relation_prefix.proofs.Left.{left_of_others, left_of_q}
use Rattle.relation_prefix.proofs.weights.left_weight.Goals as goal

pub returns-then-lost_p-eq0 : goal.returns-then-lost_p-eq0
returns-then-lost_p-eq0 c = λ part lost p q lost_p lost_q. p ∙ left_of_q part lost (sym lost_p ∙ c.if-lost_p-eq0.true)

pub returns-else-lost_p-eq0 : goal.returns-else-lost_p-eq0
returns-else-lost_p-eq0 c = λ part lost p q lost_p lost_q.
    c.add.ensures ∙ ap₂ bit_xor q (c.mul.ensures ∙ ap₂ product lost_q p) ∙ left_of_others part lost (λ none. c.if-lost_p-eq0.false (lost_p ∙ none))
