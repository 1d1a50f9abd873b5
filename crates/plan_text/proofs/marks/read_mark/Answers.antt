use Rattle.plan_text.proofs.Entries.{after_kind, after_image, after_sector}
use Rattle.value_text.proofs.Spellings.{none_then}
use Rattle.plan_text.proofs.marks.read_mark.Goals as goal

pub returns-in_err-sector : goal.returns-in_err-sector
returns-in_err-sector c =
    none_then _ _ c.from_residual-in_err-sector.result c.from_residual-in_err-sector.ensures (λ mark is e.
    let one = after_kind mark c.args.text.now c.in_ok-kind.kind c.in_ok-kind.after_kind.now c.in_ok-kind.ensures e in
    let two = after_image mark is c.in_ok-kind.after_kind.now c.in_ok-image.image c.in_ok-image.after_image.now c.in_ok-image.ensures one.1 in
    c.in_err-sector.ensures mark.sector _ is.sector two.1)

pub returns-in_err-rule : goal.returns-in_err-rule
returns-in_err-rule c =
    none_then _ _ c.from_residual-in_err-rule.result c.from_residual-in_err-rule.ensures (λ mark is e.
    let one = after_kind mark c.args.text.now c.in_ok-kind.kind c.in_ok-kind.after_kind.now c.in_ok-kind.ensures e in
    let two = after_image mark is c.in_ok-kind.after_kind.now c.in_ok-image.image c.in_ok-image.after_image.now c.in_ok-image.ensures one.1 in
    let three = after_sector mark is c.in_ok-image.after_image.now c.in_ok-sector.sector c.in_ok-sector.after_sector.now c.in_ok-sector.ensures two.1 in
    c.in_err-rule.ensures mark.rule is.rule three.1)
