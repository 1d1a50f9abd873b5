use Rattle.std.proofs.Common.{◌≡◌, ◌+◌, ℕ, List, None, Some, length, arith, codes, ap, ap₂, sym, subst, ◌∙◌}
use Rattle.command_words.specs.Commands.{command_of}
use Rattle.command_words.specs.declared.operands.Operand.{Operand}
use Rattle.command_words.proofs.Refusals.{early_dashes, names_too_many, refused_after}
use Rattle.command_words.specs.Operands.{AreFitting}
use Rattle.command_words.proofs.LookUps.{operands_fit}
use Rattle.command_words.proofs.reading.read_names.Goals as goal

pub build-requires : goal.build-requires
build-requires c = subst (λ (os : List Operand). AreFitting c.args.verb os) (sym c.deref.ensures.0) (operands_fit c.args.verb c.args.operands.now.items c.requires.are.each)

pub returns-in_default : goal.returns-in_default
returns-in_default c =
    let built = c.build.ensures ∙ ap₂ (λ (os : List Operand) (n : ℕ). command_of c.args.verb os (n + 2)) c.deref.ensures.0 c.len-names.ensures.value in
    let none : command_of c.args.verb c.args.operands.now.items (length c.args.operands.now.items + 2) ≡ None = sym built ∙ c.in_default.is in
    refused_after c.args.verb c.args.words.now c.args.operands.now.items (codes "--") c.requires.names _ c.requires.at (ap (λ (n : ℕ). n + 2) c.len-names.ensures.value) c.requires.are c.requires.going
    (early_dashes c.args.verb c.args.operands.now.items c.requires.are none)

pub returns-then-names-words : goal.returns-then-names-words
returns-then-names-words c =
    let built = c.build.ensures ∙ ap₂ (λ (os : List Operand) (n : ℕ). command_of c.args.verb os (n + 2)) c.deref.ensures.0 c.len-names.ensures.value in
    let says : command_of c.args.verb c.args.operands.now.items (length c.args.operands.now.items + 2) ≡ Some c.in-Some.command = sym built ∙ c.in-Some.is in
    let more = c.if-names-words.true in
    let count = c.len-names.ensures.value in
    names_too_many c.args.verb c.args.words.now c.args.operands.now.items c.requires.names c.in-Some.command _ (cc) c.requires.at (omega arith) c.requires.are says (omega arith)
