use Rattle.std.proofs.Common.{refl, sym}
use Rattle.std.proofs.lemmas.Bool.{iff_false}
use Rattle.value_text.proofs.Spellings.{none_then}
use Rattle.volume_classes.specs.SetLists.{SetAt}
use Rattle.volume_classes.proofs.SetLines.{no_entry, no_share, same_line, share_entry}
use Rattle.volume_classes.proofs.reading.read_entry.Goals as goal

pub returns-in_err-read_ranked-in-None : goal.returns-in_err-read_ranked-in-None
returns-in_err-read_ranked-in-None c =
    none_then _ _ c.from_residual.result c.from_residual.ensures (λ entry is e. no_entry c.args.images c.args.end c.args.line.now entry c.in-None.ensures c.in_err-read_ranked-in-None.ensures is e)

pub returns-in-Some : goal.returns-in-Some
returns-in-Some c =
    let found = share_entry c.args.images c.args.end c.args.line.now c.in-Some.share.now c.in-Some.ensures (c.is_share.ensures.0 c.if-is_share.true) in
    (found.0, found.1, found.2, sym found.3)

pub returns-in-Some-2 : goal.returns-in-Some-2
returns-in-Some-2 c entry is e = no_share c.args.images c.args.end c.args.line.now c.in-Some.share.now entry c.in-Some.ensures (iff_false c.is_share.ensures c.if-is_share.false) is e

pub returns-in_ok-read_ranked-in-None : goal.returns-in_ok-read_ranked-in-None
returns-in_ok-read_ranked-in-None c =
    let set = c.in_ok-read_ranked-in-None.field-0 in
    let told = c.in_ok-read_ranked-in-None.ensures in
    (SetAt told.0 c.in_ok-read_ranked-in-None.field-0, (told.1, told.2, told.3), same_line c.args.line.now (SetAt told.0 c.in_ok-read_ranked-in-None.field-0) told.4, refl)
