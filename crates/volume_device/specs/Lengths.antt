-- The bytes of volumes, where the images are known: 512 for each sector.
use Rattle.std.proofs.Common.{ℕ, ◌≡◌, ◌*◌, List, length, Option, None, Some, arith}
use Rattle.std.specs.List.{flat_map, range_with_len}
use Rattle.std.specs.Option.{option_map}
use Rattle.raid_params.specs.Size.{volume_sectors}
use Rattle.raid_params.specs.declared.types.Geometry.{Geometry}
use Rattle.raid_terms.specs.Address.{home_sector, home_slot}
use Rattle.raid_terms.specs.Volume.{volume, volume_sector}
use Rattle.near_mirror.specs.Copies.{near_sectors}
use Rattle.near_mirror.specs.Volume.{home_copy}
use Rattle.near_mirror.specs.declared.types.NearSet.{NearSet}
use Rattle.near_volume.specs.Sectors.{near_sector, near_volume}
use Rattle.virtual_volume.proofs.Blocks.{sector_long}
use Rattle.virtual_volume.proofs.Ranges.{flat_long as lists_long}
use Rattle.near_volume.proofs.Runs.{copy_long}
use Rattle.block_device.specs.Content.{IsContent}

-- lists of 512 bytes, one after the other
pub flat_long : (f : ℕ → List ℕ) (first n : ℕ) → ((v : ℕ) → length (f v) ≡ 512) → length (flat_map f (range_with_len first n)) ≡ 512 * n
flat_long f first n each = omega (arith, lists_long f 512 first n each)

-- the volume of a set, and that of a mirror
abbrev pub volume_told : Option (List (List ℕ)) → Geometry → ℕ → Option (List ℕ)
volume_told told geo end = option_map (λ images. volume images geo end) told

abbrev pub mirror_told : Option (List (List ℕ)) → NearSet → ℕ → Option (List ℕ)
mirror_told told set end = option_map (λ images. near_volume images set end) told

pub volume_whole : (told : Option (List (List ℕ))) (geo : Geometry) (end : ℕ) → IsContent (volume_told told geo end) (volume_sectors geo.head end)
volume_whole None geo end = tt
volume_whole (Some images) geo end =
    flat_long (volume_sector images geo) 0 (volume_sectors geo.head end) (λ v. sector_long images geo (home_slot geo.head v) (home_sector geo.head v))

pub mirror_whole : (told : Option (List (List ℕ))) (set : NearSet) (end : ℕ) → IsContent (mirror_told told set end) (near_sectors set.head end)
mirror_whole None set end = tt
mirror_whole (Some images) set end = flat_long (near_sector images set end) 0 (near_sectors set.head end) (λ v. copy_long images set end v (home_copy set v))
