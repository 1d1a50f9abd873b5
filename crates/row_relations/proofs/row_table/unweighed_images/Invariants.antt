use Rattle.std.proofs.Common.{◌≡◌, replicate}
use Rattle.row_relations.specs.Tables.{no_weights}
use Rattle.row_relations.proofs.row_table.unweighed_images.Given as goal

abbrev pub invariant-loop : goal.invariant-loop
invariant-loop l = l.weights.items ≡ replicate l.counter no_weights
