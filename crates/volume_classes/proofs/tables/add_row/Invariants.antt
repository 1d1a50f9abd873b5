use Rattle.std.proofs.Common.{◌≡◌, ◌++◌}
use Rattle.std.specs.List.{flat_map, range_with_len}
use Rattle.volume_classes.specs.Coefficients.{item_coefficients}
use Rattle.volume_classes.proofs.tables.add_row.Given as goal

abbrev pub invariant-loop-item : goal.invariant-loop-item
invariant-loop-item l = l.coefficients ≡ l.fn.coefficients ++ flat_map (item_coefficients l.geo l.images l.row) (range_with_len 0 l.item)
