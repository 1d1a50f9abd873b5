use Rattle.std.proofs.Common.{◌∙◌, ◌≡◌, ◌&&◌, ap, sym, false, List, []}
use Rattle.raid_params.specs.declared.types.Cell.{Cell}
use Rattle.raid_terms.specs.Parity.{has_q}
use Rattle.parity_scan.proofs.BlankRows.{blank_sound}
use Rattle.parity_scan.proofs.WholeRows.{told_row}
use Rattle.parity_scan.proofs.image_rows.told_sound.Goals as goal

pub returns : goal.returns
returns c = λ room geo are set row.
    let no : (c.in_ok-holds.holds && has_q c.args.row.now.cells.items) ≡ false =
    ap (λ (cells : List Cell). c.in_ok-holds.holds && has_q cells) (sym c.deref.ensures.0) ∙ sym c.needs_q.ensures ∙ c.if-needs_q.false in
    told_row geo c.args.sums.now.images c.args.place room c.args.row.now c.in_ok-out.out c.in_ok-holds.holds set row c.in_ok-out.was
    (are.each c.args.place (record { is_zero = false; is_blank = false; is_image = [] }) c.in_ok-holds.ensures.there).bytes
    (λ but. c.in_ok-holds.ensures.holds room c.args.row.now.cells.items geo.slots.items are but) no

pub returns-then-is_blank : goal.returns-then-is_blank
returns-then-is_blank c = λ room geo are set row. blank_sound geo c.args.sums.now.images c.args.place room c.args.row.now row c.if-row.true (c.is_blank.ensures c.if-is_blank.true room are)
