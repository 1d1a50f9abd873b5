use Rattle.std.proofs.Common.{ℕ, ◌<◌, IsSomeAnd, slice_get}
use Rattle.test_objects.proofs.lengths.are_below.Given as goal

abbrev pub invariant-loop-i : goal.invariant-loop-i
invariant-loop-i g l = (k : ℕ) → k < l.i → IsSomeAnd (slice_get (g.I.Images.seen l.images).attached k) (λ image. image.sectors < l.most)
