use Rattle.std.proofs.Common.{◌≡◌, [], length, ap, sym, ◌∙◌, arith}
use Rattle.std.proofs.lemmas.Bool.Decides.{nat_tests}
use Rattle.raid_params.specs.declared.wide.Wide.{Wide}
use Rattle.value_text.proofs.SetWords.{one_spelling}
use Rattle.value_text.proofs.Spellings.{none_then}
use Rattle.value_text.specs.SetText.{common}
use Rattle.value_text.proofs.set_word.read_common_set.Goals as goal

pub returns-in_err-set : goal.returns-in_err-set
returns-in_err-set c = none_then _ _ c.from_residual.result c.from_residual.ensures (λ geo has e. c.in_err-set.ensures (common geo) has e)

pub returns-else-is_empty : goal.returns-else-is_empty
returns-else-is_empty c geo has e =
    let same = one_spelling c.in_ok-set.set (common geo) c.in_ok-set.ensures.0 has (sym c.in_ok-set.ensures.1 ∙ e) in
    let none : c.in_ok-set.set.bases.items ≡ [] = ap (λ (set : Wide). set.bases.items) same in
    let empty : length c.in_ok-set.set.bases.items ≡ 0 = ap length none in
    let told = c.is_empty.ensures in
    let fails = c.if-is_empty.false in
    grind (arith, nat_tests)
