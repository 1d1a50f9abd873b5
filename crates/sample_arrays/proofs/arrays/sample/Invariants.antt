use Rattle.std.proofs.Common.{◌≡◌, All}
use Rattle.sample_arrays.specs.Arrays.{end_of, IsFile}
use Rattle.image_source.specs.Memory.{no_images}
use Rattle.sample_arrays.proofs.Sampled.{sampled_front}
use Rattle.sample_arrays.proofs.arrays.sample.Given as goal

abbrev pub invariant-loop-image : goal.invariant-loop-image
invariant-loop-image l =
    (l.images ≡ record no_images { files = sampled_front l.number l.geo l.rows l.xfs l.image })
    × All (IsFile (end_of l.geo.head l.rows)) (sampled_front l.number l.geo l.rows l.xfs l.image)
