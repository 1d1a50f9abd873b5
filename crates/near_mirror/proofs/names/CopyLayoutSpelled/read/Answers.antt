use Rattle.std.proofs.Common.{◌≡◌, IsTrue, decimal, sym, ◌∙◌, subst, arith, ℕ}
use Rattle.std.proofs.lemmas.Fmt.{decimal_injective}
use Rattle.near_mirror.specs.Heads.{are_copies}
use Rattle.near_mirror.specs.NameLaws.{few_copies, same_copying}
use Rattle.near_mirror.proofs.names.CopyLayoutSpelled.read.Goals as goal

pub returns-else-are_copies : goal.returns-else-are_copies
returns-else-are_copies c x spelled e =
    let parts = same_copying c.in_ok-copying.copying x.copying c.in_ok-copying.number.now (decimal x.copies) (sym c.in_ok-copying.ensures ∙ e) in
    let number = c.in_ok-copies.ensures in
    let few = few_copies x.copies spelled in
    let same : c.in_ok-copies.copies ≡ x.copies = decimal_injective c.in_ok-copies.copies x.copies (omega (arith, number.0)) (omega (arith, few)) (sym number.1 ∙ parts.1) in
    let there : IsTrue (are_copies c.in_ok-copies.copies) = subst (λ (n : ℕ). IsTrue (are_copies n)) (sym same) spelled in
    let test = c.if-are_copies.false in
    let is = c.are_copies.ensures in
    absurd cc
