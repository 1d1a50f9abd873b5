use Rattle.std.proofs.Common.{◌≡◌, []}
use Rattle.std.specs.List.{range_with_len}
use Rattle.sample_arrays.specs.Arrays.{sampled}
use Rattle.sample_job.proofs.sampling.array_images.Given as goal

abbrev pub invariant-loop-image : goal.invariant-loop-image
invariant-loop-image l =
    (l.images.files ≡ sampled l.number l.set l.rows l.xfs) × (l.images.attached ≡ range_with_len 0 l.image) × (l.images.failing ≡ [])
