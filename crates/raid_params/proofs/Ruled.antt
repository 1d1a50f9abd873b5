-- What a set that breaks no rule is.
use Rattle.std.proofs.Common.{ℕ, zero, suc, ◌≡◌, ◌≤◌, Bool, true, false, Option, Some, None, refl, sym, ap, ◌∙◌, arith}
use Rattle.std.specs.Option.{is_none}
use Rattle.std.specs.Prelude.{nat_eq, ◌&&◌, if◌then◌else◌}
use Rattle.raid_params.specs.Size.{rows}
use Rattle.raid_params.specs.Validity.{delay_fault, early_fault, first_fault, has_delay, is_shaped, row_fault, shape_fault}
use Rattle.raid_params.specs.Wide.{bases_fault, late_fault, wide_fault}
use Rattle.raid_params.specs.declared.types.GeoFault.{GeoFault}
use Rattle.raid_params.specs.declared.types.GeoFault.TheVariants.{Delay, NoRow}
use Rattle.raid_params.specs.declared.types.Geometry.{Geometry}
use Rattle.raid_params.specs.declared.types.Head.{Head}
use Rattle.raid_params.specs.declared.wide.Wide.{Wide}
use Rattle.raid_params.specs.declared.wide.WideFault.{WideFault}
use Rattle.raid_params.specs.declared.wide.WideFault.TheVariants.{Geo}

-- a rule that is kept
kept : {F : Type 0} (b : Bool) (fault : F) → (if b then None else Some fault) ≡ None → b ≡ true
kept true fault e = refl
kept false fault e = absurd (cc)

-- no other rule is broken, and the delay suits the pattern
ruled_early : (head : Head) (fault : Option GeoFault) → delay_fault head fault ≡ None → (fault ≡ None) × (has_delay head.pattern head.delay ≡ true)
ruled_early head (Some fault) e = absurd (cc)
ruled_early head None e = (refl, kept (has_delay head.pattern head.delay) (Delay head.delay) e)

shape_of : (fault : Option GeoFault) (geo : Geometry) (end : ℕ) → row_fault geo end fault ≡ None → is_none fault ≡ true
shape_of None geo end e = refl
shape_of (Some fault) geo end e = absurd (cc)

row_of : (fault : Option GeoFault) (geo : Geometry) (end : ℕ) → row_fault geo end fault ≡ None → 1 ≤ rows geo.head end
row_of (Some fault) geo end e = absurd (cc)
row_of None geo end e = by (rows geo.head end) e
  where
    by : (n : ℕ) → (if nat_eq n 0 then Some (NoRow geo.head.offset) else None) ≡ None → 1 ≤ n
    by zero f = absurd (cc)
    by (suc n) f = omega arith

-- it has a sensible shape
pub ruled_shape : (geo : Geometry) (images end : ℕ) → first_fault geo images end ≡ None → is_shaped geo images ≡ true
ruled_shape geo images end ruled =
    let parts = ruled_early geo.head (early_fault geo images end) ruled in
    ap (λ (b : Bool). b && has_delay geo.head.pattern geo.head.delay) (shape_of (shape_fault geo images) geo end parts.0) ∙ parts.1

-- and a whole row
pub ruled_row : (geo : Geometry) (images end : ℕ) → first_fault geo images end ≡ None → 1 ≤ rows geo.head end
ruled_row geo images end ruled =
    row_of (shape_fault geo images) geo end (ruled_early geo.head (early_fault geo images end) ruled).0

bases_early : (set : Wide) (images : ℕ) (fault : Option GeoFault) → bases_fault set images fault ≡ None → fault ≡ None
bases_early set images None e = refl
bases_early set images (Some fault) e = absurd (cc)

late_early : (set : Wide) (fault : Option WideFault) → late_fault set fault ≡ None → (fault ≡ None) × (has_delay set.geo.head.pattern set.geo.head.delay ≡ true)
late_early set (Some fault) e = absurd (cc)
late_early set None e = (refl, kept (has_delay set.geo.head.pattern set.geo.head.delay) (Geo (Delay set.geo.head.delay)) e)

-- where a set with bases breaks no rule, its geometry breaks none
pub wide_ruled : (set : Wide) (images end : ℕ) → wide_fault set images end ≡ None → first_fault set.geo images end ≡ None
wide_ruled set images end ruled =
    let parts = late_early set (bases_fault set images (early_fault set.geo images end)) ruled in
    ap (delay_fault set.geo.head) (bases_early set images (early_fault set.geo images end) parts.0)
    ∙ ap (λ (b : Bool). if b then None else Some (Delay set.geo.head.delay)) parts.1

-- and its bases suit the images and the slots
pub wide_bases : (set : Wide) (images end : ℕ) → wide_fault set images end ≡ None → bases_fault set images None ≡ None
wide_bases set images end ruled =
    let parts = late_early set (bases_fault set images (early_fault set.geo images end)) ruled in
    sym (ap (bases_fault set images) (bases_early set images (early_fault set.geo images end) parts.0)) ∙ parts.0

pub wide_shape : (set : Wide) (images end : ℕ) → wide_fault set images end ≡ None → is_shaped set.geo images ≡ true
wide_shape set images end ruled = ruled_shape set.geo images end (wide_ruled set images end ruled)
