-- The bytes of the volume of a mirror of damaged images, where the images are known: 512 for each sector.
use Rattle.std.proofs.Common.{ℕ, ◌≡◌, List, length, Option, None, Some, refl}
use Rattle.std.specs.Option.{option_map}
use Rattle.block_device.specs.Content.{IsContent}
use Rattle.near_mirror.specs.Copies.{near_sectors}
use Rattle.near_mirror.specs.declared.types.NearSet.{NearSet}
use Rattle.rescue_text.specs.declared.section.Section.{Section}
use Rattle.near_volume.proofs.Runs.{copy_long}
use Rattle.volume_device.specs.Lengths.{flat_long}
use Rattle.damaged_mirror.specs.Damaged.{good_copy, mended_sector, mended_sectors, mended_volume, taken_copy}

taken_long : (images : List (List ℕ)) (set : NearSet) (end v : ℕ) (copy : Option ℕ) → length (taken_copy images set end v copy) ≡ 512
taken_long images set end v None = refl
taken_long images set end v (Some copy) = copy_long images set end v copy

pub mended_long : (images : List (List ℕ)) (sections : List Section) (set : NearSet) (end v : ℕ) → length (mended_sector images sections set end v) ≡ 512
mended_long images sections set end v = taken_long images set end v (good_copy sections set end v)

-- the volume
abbrev pub mended_told : Option (List (List ℕ)) → List Section → NearSet → ℕ → Option (List ℕ)
mended_told told sections set end = option_map (λ images. mended_volume images sections set end) told

pub mended_whole : (told : Option (List (List ℕ))) (sections : List Section) (set : NearSet) (end : ℕ) → IsContent (mended_told told sections set end) (near_sectors set.head end)
unfolding mended_sectors
mended_whole None sections set end = tt
mended_whole (Some images) sections set end = flat_long (mended_sector images sections set end) 0 (near_sectors set.head end) (mended_long images sections set end)
