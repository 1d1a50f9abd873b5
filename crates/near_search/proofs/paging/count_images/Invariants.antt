use Rattle.std.proofs.Common.{◌≤◌, length}
use Rattle.near_search.proofs.paging.count_images.Given as goal

abbrev pub invariant-loop-image : goal.invariant-loop-image
invariant-loop-image g l = l.image ≤ length (g.I.Images.seen l.images).attached
