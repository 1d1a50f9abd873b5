use Rattle.std.proofs.Common.{◌≡◌, take}
use Rattle.outside.specs.Seen.{lengths_of}
use Rattle.survey_engine.proofs.planning.lengths.Given as goal

abbrev pub invariant-loop-image : goal.invariant-loop-image
invariant-loop-image g l = l.lengths.items ≡ take l.image (lengths_of (g.I.Images.seen l.images).attached)
