-- Sectors of the volume and of a member, one after the other.
use Rattle.std.specs.Prelude.{ℕ, ◌≡◌, ◌+◌, ◌<◌, ◌≤◌, true, List, IfSome}
use Rattle.std.specs.List.{flat_map, range_with_len}
use Rattle.outside.specs.Attached.{told_all}
use Rattle.outside.specs.Seen.{Image}
use Rattle.raid_params.specs.declared.types.Geometry.{Geometry}
use Rattle.raid_terms.specs.Volume.{member_sector, volume_sector}
use Rattle.lost_members.specs.Needs.{is_data_at}

-- n sectors of the volume from a sector on
unfoldable pub sectors_of : List (List ℕ) → Geometry → ℕ → ℕ → List ℕ
sectors_of images geo first n = flat_map (volume_sector images geo) (range_with_len first n)

-- the bytes are n sectors of the volume from a sector on, where the images are known
abbrev pub AreSectors : List Image → Geometry → ℕ → ℕ → List ℕ → Type 0
AreSectors attached geo first n bytes = IfSome (told_all attached) (λ images. bytes ≡ sectors_of images geo first n)

-- n sectors of the member of a slot from a sector on
unfoldable pub run_of : List (List ℕ) → Geometry → ℕ → ℕ → ℕ → List ℕ
run_of images geo slot first n = flat_map (member_sector images geo slot) (range_with_len first n)

-- n sectors of the member of a slot from a sector on are data
abbrev pub AreData : Geometry → ℕ → ℕ → ℕ → Type 0
AreData geo slot first n = (t : ℕ) → first ≤ t → t < first + n → is_data_at geo slot t ≡ true
