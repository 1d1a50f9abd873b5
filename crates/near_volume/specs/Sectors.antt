-- The bytes of the volume of a mirror.
use Rattle.std.specs.Prelude.{ℕ, List, map}
use Rattle.std.specs.List.{flat_map, range_with_len}
use Rattle.near_mirror.specs.Copies.{copy_sector, near_sectors}
use Rattle.near_mirror.specs.Volume.{copy_image, home_copy}
use Rattle.near_mirror.specs.declared.types.NearSet.{NearSet}
use Rattle.raid_terms.specs.Parity.{member_byte}

-- a copy of volume sector v: the member sector of the image that its slot holds
unfoldable pub copy_bytes : List (List ℕ) → NearSet → ℕ → ℕ → ℕ → List ℕ
copy_bytes images set end v copy = map (λ x. member_byte images set.head.offset (copy_sector set.head end copy v) x (copy_image set copy v)) (range_with_len 0 512)

-- n sectors of the volume from a sector on, by one of their copies
unfoldable pub copies_of : List (List ℕ) → NearSet → ℕ → ℕ → ℕ → ℕ → List ℕ
copies_of images set end copy first n = flat_map (λ v. copy_bytes images set end v copy) (range_with_len first n)

-- volume sector v: its first copy whose slot holds an image
abbrev pub near_sector : List (List ℕ) → NearSet → ℕ → ℕ → List ℕ
near_sector images set end v = copy_bytes images set end v (home_copy set v)

-- n sectors of the volume from a sector on
unfoldable pub sectors_of : List (List ℕ) → NearSet → ℕ → ℕ → ℕ → List ℕ
sectors_of images set end first n = flat_map (near_sector images set end) (range_with_len first n)

-- the bytes of the volume: all its sectors, in order
abbrev pub near_volume : List (List ℕ) → NearSet → ℕ → List ℕ
near_volume images set end = flat_map (near_sector images set end) (range_with_len 0 (near_sectors set.head end))
