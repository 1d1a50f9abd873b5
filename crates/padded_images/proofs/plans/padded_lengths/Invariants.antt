use Rattle.std.proofs.Common.{◌≡◌, take, length}
use Rattle.image_padding.specs.Padded.{greatest_base}
use Rattle.padded_images.specs.Plans.{lengths_to}
use Rattle.padded_images.proofs.plans.padded_lengths.Given as goal

abbrev pub invariant-loop-image : goal.invariant-loop-image
invariant-loop-image l = (length l.padded.items ≡ l.image) × (l.padded.items ≡ take l.image (lengths_to (greatest_base l.bases) l.bases l.lengths.items))
