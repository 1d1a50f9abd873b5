use Rattle.std.proofs.Common.{◌≡◌, ℕ, ◌<◌, get_or, Some}
use Rattle.std.specs.List.{slice_get}
use Rattle.std.specs.Option.{option_map}
use Rattle.reraid_rows.proofs.paged.agree.Given as goal

abbrev pub invariant-loop-image : goal.invariant-loop-image
invariant-loop-image g l = (i : ℕ) → i < l.image → option_map (λ one. one.sectors) (slice_get (g.I.Images.seen l.images).attached i) ≡ Some (get_or l.planned i 0)
