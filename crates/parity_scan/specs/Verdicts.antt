-- The verdicts on parameter sets.
use Rattle.std.specs.Prelude.{ℕ, Bool, List, map}
use Rattle.raid_params.specs.declared.types.Geometry.{Geometry}
use Rattle.raid_terms.specs.Parity.{passes_parity}
use Rattle.search_scope.specs.declared.scope.Scope.{Scope}

-- for each set whether it passes the parity test of the scope, over the bytes of the images
abbrev pub verdicts_of : List (List ℕ) → Scope → List Geometry → List Bool
verdicts_of images scope sets = map (λ geo. passes_parity images geo scope.end scope.limits.window scope.limits.badrows) sets

-- the image sectors at which the members of the sets begin
abbrev pub offsets_of : List Geometry → List ℕ
offsets_of sets = map (λ geo. geo.head.offset) sets
