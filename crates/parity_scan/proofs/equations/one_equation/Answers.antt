use Rattle.std.proofs.Common.{Some, ap, sym, subst, ◌∙◌}
use Rattle.parity_scan.specs.Equations.{MixDecides}
use Rattle.parity_scan.proofs.Factors.{if_all, mix_without_data, mix_without_p, mix_without_q}
use Rattle.parity_scan.proofs.equations.one_equation.Goals as goal

pub returns-in-None : goal.returns-in-None
returns-in-None c =
    if_all c.args.cells.now c.equation_of_all.result c.missing_part.result c.requires (λ e. c.if-missing_count-parity_count.false (c.missing_count.ensures ∙ e ∙ sym c.parity_count.ensures))
    c.missing_part.ensures c.in-None.is c.equation_of_all.ensures

pub returns-in-Some-P : goal.returns-in-Some-P
returns-in-Some-P c =
    mix_without_p c.args.cells.now c.missing_part.result c.requires (λ e. c.if-missing_count-parity_count.false (c.missing_count.ensures ∙ e ∙ sym c.parity_count.ensures))
    c.missing_part.ensures (c.in-Some-P.is ∙ ap Some c.in-Some-P.field-0-is)

pub returns-in-Some-Q : goal.returns-in-Some-Q
returns-in-Some-Q c =
    mix_without_q c.args.cells.now c.missing_part.result c.requires (λ e. c.if-missing_count-parity_count.false (c.missing_count.ensures ∙ e ∙ sym c.parity_count.ensures))
    c.missing_part.ensures (c.in-Some-Q.is ∙ ap Some c.in-Some-Q.field-0-is)

pub returns-in-Some-Block : goal.returns-in-Some-Block
returns-in-Some-Block c =
    subst (λ power. MixDecides c.args.cells.now (record { p = power; q = 1 })) (sym c.power.ensures)
    (mix_without_data c.args.cells.now c.missing_part.result c.in-Some-Block.k c.requires (λ e. c.if-missing_count-parity_count.false (c.missing_count.ensures ∙ e ∙ sym c.parity_count.ensures))
    c.missing_part.ensures (c.in-Some-Block.is ∙ ap Some c.in-Some-Block.field-0-is))
