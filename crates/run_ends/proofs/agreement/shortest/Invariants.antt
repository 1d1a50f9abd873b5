use Rattle.std.proofs.Common.{◌≡◌, take}
use Rattle.outside.specs.Seen.{lengths_of}
use Rattle.run_ends.specs.Agreement.{shortest}
use Rattle.run_ends.proofs.agreement.shortest.Given as goal

abbrev pub invariant-loop-image : goal.invariant-loop-image
invariant-loop-image g l = l.least ≡ shortest (take l.image (lengths_of (g.I.Images.seen l.images).attached))
