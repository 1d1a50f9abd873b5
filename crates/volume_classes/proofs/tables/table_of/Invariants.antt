use Rattle.std.proofs.Common.{◌≡◌}
use Rattle.std.specs.List.{flat_map, range_with_len}
use Rattle.volume_classes.specs.Coefficients.{turn_coefficients}
use Rattle.volume_classes.proofs.tables.table_of.Given as goal

abbrev pub invariant-loop-turn : goal.invariant-loop-turn
invariant-loop-turn l = l.coefficients ≡ flat_map (turn_coefficients l.geo l.images) (range_with_len 0 l.turn)
