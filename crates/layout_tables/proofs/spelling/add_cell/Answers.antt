use Rattle.std.proofs.Common.{◌+◌, ◌/◌, ◌%◌, ℕ, List, [], ◌∷◌, ◌++◌, sym, ap, ◌∙◌, arith}
use Rattle.layout_tables.specs.Cells.{cell_name}
use Rattle.layout_tables.proofs.Names.{dash, letter_p, letter_q}
use Rattle.layout_tables.proofs.Writing.{digit_name, digits_name, two_pushed}
use Rattle.layout_tables.proofs.spelling.add_cell.Goals as goal

pub returns-in-24-clause-name : goal.returns-in-24-clause-name
returns-in-24-clause-name c = c.push.ensures.items ∙ ap (λ (x : List ℕ). c.args.text.now.items ++ x) (letter_p ∙ ap cell_name (sym c.in-24.is))

pub returns-in-25-clause-name : goal.returns-in-25-clause-name
returns-in-25-clause-name c = c.push-in-25.ensures.items ∙ ap (λ (x : List ℕ). c.args.text.now.items ++ x) (letter_q ∙ ap cell_name (sym c.in-25.is))

pub returns-in-26-clause-name : goal.returns-in-26-clause-name
returns-in-26-clause-name c = c.push-in-26.ensures.items ∙ ap (λ (x : List ℕ). c.args.text.now.items ++ x) (dash ∙ ap cell_name (sym c.in-26.is))

pub returns-in-0-to-9-clause-name : goal.returns-in-0-to-9-clause-name
returns-in-0-to-9-clause-name c = c.push-in-0-to-9.ensures.items ∙ ap (λ (x : List ℕ). c.args.text.now.items ++ x) (digit_name c.args.byte (omega arith))

pub returns-in_default-clause-name : goal.returns-in_default-clause-name
returns-in_default-clause-name c =
    let byte = c.args.byte in
    c.push-in_default-2.ensures.items ∙ ap (λ (x : List ℕ). x ++ (48 + byte % 10) ∷ []) c.push-in_default.ensures.items
    ∙ two_pushed c.args.text.now.items (48 + byte / 10) (48 + byte % 10) (cell_name byte) (digits_name byte (omega arith) (omega arith))
