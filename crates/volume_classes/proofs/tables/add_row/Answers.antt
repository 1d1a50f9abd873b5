use Rattle.std.proofs.Common.{◌++◌, ◌∙◌, List, ap, sym, append_assoc, ℕ, arith}
use Rattle.std.specs.List.{flat_map, range_with_len}
use Rattle.raid_layouts.proofs.Shapes.{shaped_head}
use Rattle.volume_classes.specs.Coefficients.{item_coefficients}
use Rattle.volume_classes.proofs.TableRows.{flat_more, found_front}
use Rattle.volume_classes.proofs.tables.add_row.Goals as goal

pub loop-item-preserved : goal.loop-item-preserved
loop-item-preserved c =
    let before = flat_map (item_coefficients c.args.geo.now c.args.images c.args.row) (range_with_len 0 c.loop-item.item) in
    let front = found_front c.args.geo.now c.args.images c.args.row c.loop-item.item c.put_coefficients.new.to c.put_coefficients.ensures.length c.ranges.images.fits c.put_coefficients.ensures.bytes in
    let added = c.in_ok-extend_from_slice.ensures.ok in
    added ∙ ap (λ (bytes : List ℕ). c.loop-item.coefficients ++ bytes) front
    ∙ ap (λ (bytes : List ℕ). bytes ++ item_coefficients c.args.geo.now c.args.images c.args.row c.loop-item.item) c.loop-item.invariant
    ∙ append_assoc c.args.coefficients.now before (item_coefficients c.args.geo.now c.args.images c.args.row c.loop-item.item)
    ∙ ap (λ (bytes : List ℕ). c.args.coefficients.now ++ bytes) (sym (flat_more (item_coefficients c.args.geo.now c.args.images c.args.row) 0 c.loop-item.item c.loop-item.item (omega arith)))

pub row_cells-cells-requires-clause-head : goal.row_cells-cells-requires-clause-head
row_cells-cells-requires-clause-head c = shaped_head c.args.geo.now c.args.images c.requires.shape

pub data_blocks-item-end-requires : goal.data_blocks-item-end-requires
data_blocks-item-end-requires c = shaped_head c.args.geo.now c.args.images c.requires.shape
