use Rattle.std.proofs.Common.{◌≡◌, ◌/◌, length, map}
use Rattle.gf256.specs.Field.{product}
use Rattle.sample_arrays.specs.Arrays.{row_sector, sum_of, weight_of}
use Rattle.sample_arrays.specs.Marks.{volume_sector}
use Rattle.sample_arrays.proofs.members.q_sector.Given as goal

abbrev pub invariant-loop-item : goal.invariant-loop-item
invariant-loop-item l =
    (l.sum ≡ sum_of (λ item. map (product (weight_of l.head (l.sector / l.head.chunk) item)) (volume_sector l.filling.number l.filling.blocks (row_sector l.head l.sector item))) l.item)
    × (length l.sum ≡ 512)
