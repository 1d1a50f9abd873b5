use Rattle.std.proofs.Common.{◌≡◌, ◌+◌}
use Rattle.slot_math.specs.Ways.{images_before}
use Rattle.slot_math.proofs.space.Space.place_at.Given as goal

abbrev pub invariant-loop-image : goal.invariant-loop-image
invariant-loop-image l = l.rank ≡ images_before l.self l.prefix l.image + l.rest
