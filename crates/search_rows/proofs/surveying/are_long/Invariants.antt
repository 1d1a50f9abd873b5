use Rattle.std.proofs.Common.{ℕ, ◌<◌}
use Rattle.image_source.specs.Memory.{seen_of}
use Rattle.search_rows.proofs.TestAsks.{IsLong}
use Rattle.search_rows.proofs.surveying.are_long.Given as goal

abbrev pub invariant-loop-image : goal.invariant-loop-image
invariant-loop-image l = (i : ℕ) → i < l.image → IsLong (seen_of l.images).attached l.end i
