-- What may be written over the images of the tests.
use Rattle.std.proofs.Common.{◌≡◌, ℕ, ◌≤◌, ◌<◌, ◌^◌, List, length, ap, ◌∙◌, arith, None, All}
use Rattle.outside.specs.Seen.{Image}
use Rattle.near_mirror.specs.Validity.{first_fault as near_fault}
use Rattle.near_mirror.specs.declared.types.NearSet.{NearSet}
use Rattle.near_volume.specs.Mirrored.{IsMirrored}
use Rattle.raid_params.specs.Validity.{first_fault}
use Rattle.raid_params.specs.Wide.{wide_fault}
use Rattle.raid_params.specs.declared.wide.Wide.{Wide}
use Rattle.rescue_map.specs.Damaged.{IsDamaged}
use Rattle.rescue_map.specs.Salvaged.{IsSalvaged}
use Rattle.raid_params.proofs.Ruled.{wide_shape}
use Rattle.rescue_map.proofs.Passed.{damage_of}
use Rattle.raid_params.specs.declared.types.Geometry.{Geometry}
use Rattle.virtual_volume.specs.Served.{IsServed}

-- over images that reach to the end the volume of a set that breaks no rule can be written
pub long_served : (geo : Geometry) (end n : ℕ) (attached : List Image) → first_fault geo n end ≡ None → geo.head.offset < 2 ^ 55 → end < 2 ^ 55 →
    (length attached ≡ n) × All (λ image. end ≤ image.sectors) attached → IsServed geo end attached
long_served geo end n attached ruled offset near long = record {
  ruled = ap (λ (m : ℕ). first_fault geo m end) long.0 ∙ ruled;
  offset = offset;
  near = near;
  long = long.1;
}

-- and that of a mirror that breaks none
pub long_mirrored : (set : NearSet) (end n : ℕ) (attached : List Image) → near_fault set n end ≡ None → end < 2 ^ 55 →
    (length attached ≡ n) × All (λ image. end ≤ image.sectors) attached → IsMirrored set end attached
long_mirrored set end n attached ruled near long = record {
  ruled = ap (λ (m : ℕ). near_fault set m end) long.0 ∙ ruled;
  near = near;
  long = long.1;
}

-- and the volume of one without bases can be salvaged
pub wide_salvaged : (set : Wide) (end n : ℕ) (attached : List Image) → wide_fault set n end ≡ None → end < 2 ^ 55 → length set.bases.items ≡ 0 →
    (length attached ≡ n) × All (λ image. end ≤ image.sectors) attached → IsSalvaged set end attached
wide_salvaged set end n attached ruled near none long = record {
  ruled = ap (λ (m : ℕ). wide_fault set m end) long.0 ∙ ruled;
  near = near;
  long = long.1;
  short = λ some. absurd (omega arith);
}

pub wide_damaged : (set : Wide) (end n : ℕ) → wide_fault set n end ≡ None → end < 2 ^ 55 → IsDamaged set end
wide_damaged set end n ruled near =
    damage_of set end (record { images = n; shaped = wide_shape set n end ruled }) near
