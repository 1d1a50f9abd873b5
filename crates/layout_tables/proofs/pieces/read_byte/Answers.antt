use Rattle.std.proofs.Common.{◌∷◌, [], ℕ, ap, ◌∙◌, arith, inl, inr}
use Rattle.layout_tables.proofs.Names.{dash, digit_is, letter_p, letter_q, no_byte}
use Rattle.layout_tables.proofs.pieces.read_byte.Goals as goal

pub returns-in-80 : goal.returns-in-80
returns-in-80 c = (omega arith, ap (λ (b : ℕ). b ∷ []) c.in-80.is ∙ letter_p)

pub returns-in-81 : goal.returns-in-81
returns-in-81 c = (omega arith, ap (λ (b : ℕ). b ∷ []) c.in-81.is ∙ letter_q)

pub returns-in-45 : goal.returns-in-45
returns-in-45 c = (omega arith, ap (λ (b : ℕ). b ∷ []) c.in-45.is ∙ dash)

pub returns-in-48-to-57 : goal.returns-in-48-to-57
returns-in-48-to-57 c = (omega arith, digit_is c.args.byte (omega arith) (omega arith))

pub returns-in_default : goal.returns-in_default
returns-in_default c cell is e = no_byte c.args.byte cell (λ x. omega arith) (λ x. omega arith) (λ x. omega arith) (inl (omega arith)) is e

pub returns-in_default-2 : goal.returns-in_default-2
returns-in_default-2 c cell is e = no_byte c.args.byte cell (λ x. omega arith) (λ x. omega arith) (λ x. omega arith) (inr (omega arith)) is e
