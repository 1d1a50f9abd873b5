use Rattle.std.proofs.Common.{◌≡◌, length}
use Rattle.image_source.specs.Memory.{seen_of}
use Rattle.test_objects.proofs.joining.attached.Given as goal

abbrev pub invariant-loop-place : goal.invariant-loop-place
invariant-loop-place l = length (seen_of l.images).attached ≡ l.place
