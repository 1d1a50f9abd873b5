use Rattle.std.proofs.Common.{ℕ, ◌≡◌, ◌<◌, None, Some, slice_index_or}
use Rattle.relation_rows.proofs.prefixes.are_there.Given as goal

abbrev pub invariant-loop-slot : goal.invariant-loop-slot
invariant-loop-slot l = (k image : ℕ) → k < l.slot → slice_index_or l.slots k None ≡ Some image → image < l.images
