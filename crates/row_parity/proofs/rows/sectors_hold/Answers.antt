use Rattle.std.proofs.Common.{Some, ap, sym, ◌∙◌}
use Rattle.std.proofs.lemmas.Bool.Decides.{same_from_decides}
use Rattle.raid_params.specs.declared.types.Part.TheVariants.{Block, P}
use Rattle.raid_terms.specs.Parity.{is_sound}
use Rattle.std.proofs.Common.{length}
use Rattle.row_parity.proofs.Soundness.{q_there, region_columns, sound_where_full, sound_where_whole, sound_without_p, sound_without_q, sound_without_data}
use Rattle.row_parity.specs.Regions.{region_column}
use Rattle.row_parity.proofs.rows.sectors_hold.Goals as goal

pub returns-then-missing_count-parity_count : goal.returns-then-missing_count-parity_count
returns-then-missing_count-parity_count c =
    sym (sound_where_full c.args.cells.now (region_column (length c.args.cells.now) c.args.stride c.args.sectors.now c.args.j) c.requires.cells (region_columns c.args.cells.now c.args.sectors.now c.args.stride c.args.j c.type_inv.sectors) (sym c.missing_count.ensures ∙ c.if-missing_count-parity_count.true ∙ c.parity_count.ensures))

pub returns-in-None : goal.returns-in-None
returns-in-None c =
    same_from_decides c.all_cancel.result (is_sound c.args.cells.now (region_column (length c.args.cells.now) c.args.stride c.args.sectors.now c.args.j)) c.all_cancel.ensures
    (sound_where_whole c.args.cells.now (region_column (length c.args.cells.now) c.args.stride c.args.sectors.now c.args.j) c.missing_part.result c.requires.cells (λ e. c.if-missing_count-parity_count.false (c.missing_count.ensures ∙ e ∙ sym c.parity_count.ensures)) (region_columns c.args.cells.now c.args.sectors.now c.args.stride c.args.j c.type_inv.sectors)
    c.missing_part.ensures c.in-None.is)

pub returns-in-Some-P : goal.returns-in-Some-P
returns-in-Some-P c =
    same_from_decides c.cancels.result (is_sound c.args.cells.now (region_column (length c.args.cells.now) c.args.stride c.args.sectors.now c.args.j)) c.cancels.ensures
    (sound_without_p c.args.cells.now (region_column (length c.args.cells.now) c.args.stride c.args.sectors.now c.args.j) c.missing_part.result c.requires.cells (λ e. c.if-missing_count-parity_count.false (c.missing_count.ensures ∙ e ∙ sym c.parity_count.ensures)) (region_columns c.args.cells.now c.args.sectors.now c.args.stride c.args.j c.type_inv.sectors)
    c.missing_part.ensures (c.in-Some-P.is ∙ ap Some c.in-Some-P.field-0-is))

pub returns-in-Some-Q : goal.returns-in-Some-Q
returns-in-Some-Q c =
    same_from_decides c.p_cancels.result (is_sound c.args.cells.now (region_column (length c.args.cells.now) c.args.stride c.args.sectors.now c.args.j)) c.p_cancels.ensures
    (sound_without_q c.args.cells.now (region_column (length c.args.cells.now) c.args.stride c.args.sectors.now c.args.j) c.missing_part.result c.requires.cells (λ e. c.if-missing_count-parity_count.false (c.missing_count.ensures ∙ e ∙ sym c.parity_count.ensures)) (region_columns c.args.cells.now c.args.sectors.now c.args.stride c.args.j c.type_inv.sectors)
    c.missing_part.ensures (c.in-Some-Q.is ∙ ap Some c.in-Some-Q.field-0-is))

pub returns-in-Some-Block : goal.returns-in-Some-Block
returns-in-Some-Block c =
    same_from_decides c.cancels-in-Some-Block.result (is_sound c.args.cells.now (region_column (length c.args.cells.now) c.args.stride c.args.sectors.now c.args.j)) c.cancels-in-Some-Block.ensures
    (sound_without_data c.args.cells.now (region_column (length c.args.cells.now) c.args.stride c.args.sectors.now c.args.j) c.missing_part.result c.in-Some-Block.k c.requires.cells (λ e. c.if-missing_count-parity_count.false (c.missing_count.ensures ∙ e ∙ sym c.parity_count.ensures)) (region_columns c.args.cells.now c.args.sectors.now c.args.stride c.args.j c.type_inv.sectors)
    c.missing_part.ensures (c.in-Some-Block.is ∙ ap Some c.in-Some-Block.field-0-is))

pub cancels-requires-clause-q : goal.cancels-requires-clause-q
cancels-requires-clause-q c =
    q_there c.args.cells.now c.missing_part.result P c.requires.cells (λ e. c.if-missing_count-parity_count.false (c.missing_count.ensures ∙ e ∙ sym c.parity_count.ensures))
    c.missing_part.ensures (c.in-Some-P.is ∙ ap Some c.in-Some-P.field-0-is)

pub cancels-requires-in-Some-Block-clause-q : goal.cancels-requires-in-Some-Block-clause-q
cancels-requires-in-Some-Block-clause-q c =
    q_there c.args.cells.now c.missing_part.result (Block c.in-Some-Block.k) c.requires.cells (λ e. c.if-missing_count-parity_count.false (c.missing_count.ensures ∙ e ∙ sym c.parity_count.ensures))
    c.missing_part.ensures (c.in-Some-Block.is ∙ ap Some c.in-Some-Block.field-0-is)
