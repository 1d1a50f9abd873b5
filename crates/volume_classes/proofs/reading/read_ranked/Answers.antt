use Rattle.std.proofs.Common.{◌≡◌, sym, ap, ◌∙◌}
use Rattle.std.specs.declared.option.Option.TheVariants.{None, Some}
use Rattle.raid_params.specs.declared.types.Geometry.{Geometry}
use Rattle.raid_params.specs.Validity.{first_fault}
use Rattle.value_text.specs.SetText.{common, set_word}
use Rattle.value_text.proofs.SetWords.{one_common}
use Rattle.value_text.proofs.Spellings.{none_then}
use Rattle.volume_classes.proofs.SetLines.{same_number}
use Rattle.volume_classes.proofs.reading.read_ranked.Goals as goal

pub returns-in_err-set : goal.returns-in_err-set
returns-in_err-set c =
    none_then _ _ c.from_residual-in_err-set.result c.from_residual-in_err-set.ensures (λ rank geo fits has ruled e.
    c.in_err-set.ensures geo has (same_number c.in_ok-word.field-0-0 rank c.in_ok-word.word.now (set_word (common geo)) c.in_ok-word.ensures.0 fits (sym c.in_ok-word.ensures.1 ∙ e)).1)

pub returns-in-Err : goal.returns-in-Err
returns-in-Err c rank geo fits has ruled e =
    let word = (same_number c.in_ok-word.field-0-0 rank c.in_ok-word.word.now (set_word (common geo)) c.in_ok-word.ensures.0 fits (sym c.in_ok-word.ensures.1 ∙ e)).1 in
    let same = one_common c.in_ok-set.set geo c.in_ok-set.ensures.0 has (sym c.in_ok-set.ensures.1 ∙ word) in
    let broken = c.in-Err.ensures in
    let none : first_fault c.in_ok-set.set c.args.images c.args.end ≡ None = ap (λ (g : Geometry). first_fault g c.args.images c.args.end) same ∙ ruled in
    absurd (let both : Some c.in-Err.field-0 ≡ None = sym broken ∙ none in cc)
