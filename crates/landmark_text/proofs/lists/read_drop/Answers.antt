use Rattle.std.proofs.Common.{◌≡◌, arith}
use Rattle.value_text.proofs.Spellings.{none_then}
use Rattle.landmark_text.proofs.Drops.{numbers, parts, without_colon}
use Rattle.landmark_text.proofs.lists.read_drop.Goals as goal
use Rattle.landmark_text.proofs.lists.read_drop.Goals.{else-from-lt-MOST-via-then-from-lt-MOST+else-sector-lt-SECTORS_END, else-from-lt-MOST-via-else-from-lt-MOST}

pub returns-in_err-image_text : goal.returns-in_err-image_text
returns-in_err-image_text c = none_then _ _ c.from_residual.result c.from_residual.ensures (λ x is e. without_colon c.args.text.now c.in_err-image_text.ensures x e)

pub returns-in_err-image : goal.returns-in_err-image
returns-in_err-image c =
    none_then _ _ c.from_residual-in_err-image.result c.from_residual-in_err-image.ensures (λ x is e.
    let few = is.image in
    c.in_err-image.ensures x.image (omega arith) (parts c.args.text.now c.in_ok-image_text.image_text.now c.in_ok-image_text.sector_text.now x c.in_ok-image_text.ensures.0 c.in_ok-image_text.ensures.1 is e).0)

pub returns-in_err-sector : goal.returns-in_err-sector
returns-in_err-sector c =
    none_then _ _ c.from_residual-in_err-sector.result c.from_residual-in_err-sector.ensures (λ x is e.
    let near = is.sector in
    c.in_err-sector.ensures x.sector (omega arith) (parts c.args.text.now c.in_ok-image_text.image_text.now c.in_ok-image_text.sector_text.now x c.in_ok-image_text.ensures.0 c.in_ok-image_text.ensures.1 is e).1)

pub returns-else-from-lt-MOST : goal.returns-else-from-lt-MOST
returns-else-from-lt-MOST c x is e =
    let same = numbers c.args.text.now c.in_ok-image_text.image_text.now c.in_ok-image_text.sector_text.now x c.in_ok-image.image c.in_ok-sector.sector c.in_ok-image_text.ensures.0 c.in_ok-image_text.ensures.1 c.in_ok-image.ensures c.in_ok-sector.ensures is e in
    let image : c.in_ok-image.image ≡ x.image = same.0 in
    let sector : c.in_ok-sector.sector ≡ x.sector = same.1 in
    let few = is.image in
    let near = is.sector in
    elim c.else-from-lt-MOST.branch [ else-from-lt-MOST-via-then-from-lt-MOST+else-sector-lt-SECTORS_END w ↦ omega (arith, w.if-sector-lt-SECTORS_END.false) | else-from-lt-MOST-via-else-from-lt-MOST w ↦ omega (arith, w.if-from-lt-MOST.false, c.from.ensures) ]
