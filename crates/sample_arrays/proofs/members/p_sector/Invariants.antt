use Rattle.std.proofs.Common.{◌≡◌, length}
use Rattle.sample_arrays.specs.Arrays.{row_sector, sum_of}
use Rattle.sample_arrays.specs.Marks.{volume_sector}
use Rattle.sample_arrays.proofs.members.p_sector.Given as goal

abbrev pub invariant-loop-item : goal.invariant-loop-item
invariant-loop-item l =
    (l.sum ≡ sum_of (λ item. volume_sector l.filling.number l.filling.blocks (row_sector l.head l.sector item)) l.item) × (length l.sum ≡ 512)
