-- Which sectors of images are sightings, and which of them count.
use Rattle.std.specs.Prelude.{ℕ, ◌+◌, ◌*◌, ◌<◌, ◌≤◌, All, IsSomeAnd, slice_get, length, Bool, not, ◌&&◌, ◌==◌, nat_le, nat_lt, List, map, count_by, Option, Some, None, option_and_then, if◌then◌else◌, slice_index, slice_index_or, slice_range, [], ◌∷◌}
use Rattle.std.specs.List.{filter_map, flat_map, list_any, range_with_len}
use Rattle.raid_params.specs.declared.limits.TheConstants.{MOST}
use Rattle.mark_kinds.specs.Table.{kind_place}
use Rattle.mark_kinds.specs.declared.table.Kind.{Kind}
use Rattle.survey_engine.specs.Kept.{kept}
use Rattle.survey_engine.specs.Landmarks.{is_asked, kind_of, is_own, landmark_in, IsSound}
use Rattle.survey_engine.specs.declared.ask.Ask.{Ask}
use Rattle.survey_engine.specs.declared.landmark.Landmark.{Landmark}
use Rattle.survey_engine.specs.declared.sighting.Sighting.{Sighting}

-- the bytes of a sector of an image
abbrev pub sector_of : List ℕ → ℕ → List ℕ
sector_of bytes sector = slice_range bytes (512 * sector) (512 * sector + 512)

-- a place: a sector, and the image that it is of
pub record Place : Type 0 where
  pub sector : ℕ
  pub image : ℕ

-- all sectors below `end` of `images` images, in order of sector, then image
abbrev pub places : ℕ → ℕ → List Place
places images end = flat_map (λ sector. map (λ image. record { sector = sector; image = image }) (range_with_len 0 images)) (range_with_len 0 end)

-- a sector is dropped
abbrev pub is_dropped : Ask → Place → Bool
is_dropped ask at = list_any (λ drop. drop.image == at.image && drop.sector == at.sector) ask.drops.items

-- a landmark is a sighting, in an image of that length: it is looked for, it does not lie before the
-- smallest offset (which is the first, since offsets rise), it is not dropped, and it is not of the
-- image's own table
abbrev pub is_sighting : Ask → ℕ → Place → Landmark → Bool
is_sighting ask length at landmark =
    is_asked ask.kinds landmark
    && nat_le (slice_index ask.bounds.offsets.items 0) at.sector
    && not (is_dropped ask at)
    && not (is_own landmark at.sector length)

-- the sighting that a sector with these bytes is, if it is one
unfoldable pub sighting_in : Ask → ℕ → Place → List ℕ → Option Sighting
sighting_in ask length at bytes =
    option_and_then (λ landmark. if is_sighting ask length at landmark
    then Some (record { image = at.image; sector = at.sector; landmark = landmark }) else None)
    (landmark_in ask.unit bytes)

-- all sightings in images of these lengths and bytes, in order of sector, then image
abbrev pub sighting_at : Ask → List ℕ → List (List ℕ) → Place → Option Sighting
sighting_at ask lengths images at = sighting_in ask (slice_index lengths at.image) at (sector_of (slice_index_or images at.image []) at.sector)

unfoldable pub sightings : Ask → List ℕ → List (List ℕ) → ℕ → List Sighting
sightings ask lengths images number = filter_map (sighting_at ask lengths images) (places number ask.end)

-- the sighting is of this kind
abbrev pub is_same_kind : Kind → Sighting → Bool
is_same_kind kind s = kind_place (kind_of s.landmark) == kind_place kind

-- fewer than 4,096 sightings of its kind stand before it
abbrev pub is_early : List Sighting → Sighting → Bool
is_early before s = nat_lt (count_by (is_same_kind (kind_of s.landmark)) before) 4096

-- the sightings that count: of each kind the first 4,096
unfoldable pub counted : List Sighting → List Sighting
counted found = kept is_early found

-- where a sighting is
abbrev pub sighted_at : Sighting → Place
sighted_at s = record { sector = s.sector; image = s.image }

-- the place of a sighting in the order of all sectors
abbrev pub sighting_place : Sighting → ℕ
sighting_place s = s.sector * MOST + s.image

-- a sighting lies in an image, and its numbers are within limits
pub record IsInImages (lengths : List ℕ) (s : Sighting) : Type 0 where
  pub image : s.image < MOST
  pub sector : IsSomeAnd (slice_get lengths s.image) (λ n. s.sector < n)
  pub sound : IsSound s.landmark

-- the sightings rise strictly in that order
abbrev pub AreRising : List Sighting → Type 0
AreRising [] = Unit {0}
AreRising (s ∷ found) = All (λ later. sighting_place s < sighting_place later) found × AreRising found

-- sightings of these images that rise, all of them before this place in the order
pub record AreBefore (lengths : List ℕ) (place : ℕ) (found : List Sighting) : Type 0 where
  pub each : All (IsInImages lengths) found
  pub rising : AreRising found
  pub below : All (λ s. sighting_place s < place) found

-- sightings of these images that rise, at most 4,096 of each kind
pub record AreSightings (lengths : List ℕ) (found : List Sighting) : Type 0 where
  pub each : All (IsInImages lengths) found
  pub rising : AreRising found
  pub few : (kind : Kind) → count_by (is_same_kind kind) found ≤ 4096
