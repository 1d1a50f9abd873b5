use Rattle.std.proofs.Common.{◌≡◌, take, max}
use Rattle.std.specs.List.{fold}
use Rattle.image_padding.proofs.padded.greatest_of.Given as goal

abbrev pub invariant-loop-base : goal.invariant-loop-base
invariant-loop-base l = l.greatest ≡ fold max 0 (take l.base-index l.bases)
