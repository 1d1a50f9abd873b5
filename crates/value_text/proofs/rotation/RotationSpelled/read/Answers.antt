use Rattle.std.proofs.Common.{arith, sym, ◌∙◌}
use Rattle.value_text.proofs.Rotations.{none_alone, parts_at_star}
use Rattle.value_text.proofs.Spellings.{none_then}
use Rattle.value_text.proofs.rotation.RotationSpelled.read.Goals as goal

pub returns-in_err-pattern-in-None : goal.returns-in_err-pattern-in-None
returns-in_err-pattern-in-None c =
    none_then _ _ c.from_residual.result c.from_residual.ensures (λ x is e. none_alone c.args.text.now c.in-None.ensures c.in_err-pattern-in-None.ensures x e)

pub returns-in_err-pattern-in-Some : goal.returns-in_err-pattern-in-Some
returns-in_err-pattern-in-Some c =
    none_then _ _ c.from_residual-in_err-pattern-in-Some.result c.from_residual-in_err-pattern-in-Some.ensures
    (λ x is e. c.in_err-pattern-in-Some.ensures x.pattern tt (parts_at_star c.args.text.now c.in-Some.name.now c.in-Some.number.now c.in-Some.ensures x e).1)
