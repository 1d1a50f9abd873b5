use Rattle.std.proofs.Common.{◌+◌, ◌*◌, ◌%◌, ◌≤◌, ◌∙◌, ℕ, List, length, take, drop, ap, ap₂, sym, subst}
use Rattle.raid_params.specs.declared.types.Head.{Head}
use Rattle.raid_params.specs.Size.{data_blocks}
use Rattle.raid_terms.specs.Role.{turn}
use Rattle.volume_classes.specs.Coefficients.{turns}
use Rattle.volume_classes.proofs.TableRows.{table_fits, table_row, table_valid}
use Rattle.volume_classes.proofs.tables.row_of.Goals as goal

pub data_blocks-requires : goal.data_blocks-requires
data_blocks-requires c = table_valid c.requires.geo c.args.images c.requires.end c.args.table.now c.requires.is

pub turn-requires : goal.turn-requires
turn-requires c = table_valid c.requires.geo c.args.images c.requires.end c.args.table.now c.requires.is

pub row_at-requires : goal.row_at-requires
row_at-requires c =
    let is = c.requires.is in
    let wide = ap₂ (λ (a b : ℕ). a * b) (c.from.ensures ∙ c.data_blocks.ensures ∙ ap (λ (h : Head). data_blocks h) is.head) c.from-2.ensures in
    let place = ap₂ (λ (t n : ℕ). t % n) (c.turn.ensures ∙ ap (λ (h : Head). turn h c.args.row) is.head) (c.from-3.ensures ∙ c.turns.ensures ∙ ap (λ (h : Head). turns h) is.head) in
    subst (λ (bytes : List ℕ). c.from.result * c.from-2.result * (c.turn.result % c.from-3.result) + c.from.result * c.from-2.result ≤ length bytes) (sym c.as_slice.ensures)
    (subst (λ (p : ℕ). c.from.result * c.from-2.result * p + c.from.result * c.from-2.result ≤ length c.args.table.now.coefficients) (sym place)
    (table_fits c.requires.geo c.args.images c.requires.end c.args.row (c.from.result * c.from-2.result) c.args.table.now is c.requires.below wide))

pub returns : goal.returns
returns c geo end is below =
    let wide = ap₂ (λ (a b : ℕ). a * b) (c.from.ensures ∙ c.data_blocks.ensures ∙ ap (λ (h : Head). data_blocks h) is.head) c.from-2.ensures in
    let place = ap₂ (λ (t n : ℕ). t % n) (c.turn.ensures ∙ ap (λ (h : Head). turn h c.args.row) is.head) (c.from-3.ensures ∙ c.turns.ensures ∙ ap (λ (h : Head). turns h) is.head) in
    c.row_at.ensures
    ∙ ap (λ (bytes : List ℕ). take (c.from.result * c.from-2.result) (drop (c.from.result * c.from-2.result * (c.turn.result % c.from-3.result)) bytes)) c.as_slice.ensures
    ∙ ap (λ (p : ℕ). take (c.from.result * c.from-2.result) (drop (c.from.result * c.from-2.result * p) c.args.table.now.coefficients)) place
    ∙ table_row geo c.args.images end c.args.row (c.from.result * c.from-2.result) c.args.table.now is below wide
