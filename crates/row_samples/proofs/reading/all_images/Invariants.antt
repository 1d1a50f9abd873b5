use Rattle.std.proofs.Common.{◌≡◌, map, Some}
use Rattle.std.specs.List.{range_with_len}
use Rattle.row_samples.proofs.reading.all_images.Given as goal

abbrev pub invariant-loop-image : goal.invariant-loop-image
invariant-loop-image l = l.slots.items ≡ map (λ i. Some i) (range_with_len 0 l.image)
