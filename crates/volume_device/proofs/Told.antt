-- What was read of a range so far, where the images are known.
use Rattle.std.proofs.Common.{◌≡◌, ℕ, ◌+◌, ◌-◌, ◌*◌, ◌≤◌, List, length, take, Option, None, Some, IfSome, OnOk, Result, Ok, Err, refl, sym, ap, ◌∙◌, arith, slice_range}
use Rattle.std.specs.List.{flat_map, range_with_len}
use Rattle.std.specs.Option.{option_map}
use borrow.Rule.Slice.PartMut.{put_mid}
use Rattle.member_regions.proofs.IfTold.{if_both, if_told}
use Rattle.near_mirror.specs.Copies.{near_sectors}
use Rattle.near_mirror.specs.Volume.{home_copy}
use Rattle.near_mirror.specs.declared.types.NearSet.{NearSet}
use Rattle.near_volume.specs.Sectors.{near_sector, near_volume, sectors_of as near_sectors_of}
use Rattle.raid_params.specs.Size.{volume_sectors}
use Rattle.raid_params.specs.declared.types.Geometry.{Geometry}
use Rattle.raid_terms.specs.Address.{home_sector, home_slot}
use Rattle.raid_terms.specs.Volume.{volume, volume_sector}
use Rattle.volume_device.specs.Sectors.{sectors_of}
use Rattle.virtual_volume.proofs.Blocks.{flat_on, sector_long}
use Rattle.near_volume.proofs.Runs.{copy_long}
use Rattle.volume_device.proofs.Blocks.{all_blocks, flat_slice}

pub told_start : (told : Option (List (List ℕ))) (f : List (List ℕ) → ℕ → List ℕ) (first : ℕ) (to : List ℕ) → IfSome told (λ bytes. take (512 * 0) to ≡ flat_map (f bytes) (range_with_len first 0))
told_start None f first to = tt
told_start (Some images) f first to = refl

pub told_on : (told : Option (List (List ℕ))) (f : List (List ℕ) → ℕ → List ℕ) (first at next n k : ℕ) (to run : List ℕ) → at ≤ next → n ≡ next - at → length run ≡ 512 * n → 512 * at ≤ length to →
    IfSome told (λ bytes. take (512 * at) to ≡ flat_map (f bytes) (range_with_len first at)) → IfSome told (λ bytes. run ≡ flat_map (f bytes) (range_with_len (first + at) n)) →
    IfSome told (λ bytes. take (512 * next) (put_mid (512 * at) k to run) ≡ flat_map (f bytes) (range_with_len first next))
told_on told f first at next n k to run le is long within before here =
    if_both told (λ bytes. take (512 * at) to ≡ flat_map (f bytes) (range_with_len first at)) (λ bytes. run ≡ flat_map (f bytes) (range_with_len (first + at) n))
    (λ bytes. take (512 * next) (put_mid (512 * at) k to run) ≡ flat_map (f bytes) (range_with_len first next))
    (λ bytes p q. flat_on (f bytes) first at n next k to run (omega arith) long within p q)
    before here

pub told_all_of : (told : Option (List (List ℕ))) (f : List (List ℕ) → ℕ → List ℕ) (first at n : ℕ) (to : List ℕ) → at ≡ n → length to ≡ 512 * n →
    IfSome told (λ bytes. take (512 * at) to ≡ flat_map (f bytes) (range_with_len first at)) → IfSome told (λ bytes. to ≡ flat_map (f bytes) (range_with_len first n))
told_all_of told f first at n to e long before =
    if_told told (λ bytes. take (512 * at) to ≡ flat_map (f bytes) (range_with_len first at)) (λ bytes. to ≡ flat_map (f bytes) (range_with_len first n))
    (λ bytes p. all_blocks to (flat_map (f bytes) (range_with_len first n)) at n e long (p ∙ ap (λ (m : ℕ). flat_map (f bytes) (range_with_len first m)) e)) before

-- sectors of the volume: none yet, more of them, and all
pub part_start : (told : Option (List (List ℕ))) (geo : Geometry) (first : ℕ) (to : List ℕ) → IfSome told (λ bytes. take (512 * 0) to ≡ sectors_of bytes geo first 0)
unfolding sectors_of
part_start told geo first to = told_start told (λ images v. volume_sector images geo v) first to

pub part_on : (told : Option (List (List ℕ))) (geo : Geometry) (first at next n k : ℕ) (to run : List ℕ) → at ≤ next → n ≡ next - at → length run ≡ 512 * n → 512 * at ≤ length to →
    IfSome told (λ bytes. take (512 * at) to ≡ sectors_of bytes geo first at) → IfSome told (λ bytes. run ≡ sectors_of bytes geo (first + at) n) →
    IfSome told (λ bytes. take (512 * next) (put_mid (512 * at) k to run) ≡ sectors_of bytes geo first next)
unfolding sectors_of
part_on told geo first at next n k to run le is long within before here = told_on told (λ images v. volume_sector images geo v) first at next n k to run le is long within before here

pub part_whole : (told : Option (List (List ℕ))) (geo : Geometry) (first at n : ℕ) (to : List ℕ) → at ≡ n → length to ≡ 512 * n →
    IfSome told (λ bytes. take (512 * at) to ≡ sectors_of bytes geo first at) → IfSome told (λ bytes. to ≡ sectors_of bytes geo first n)
unfolding sectors_of
part_whole told geo first at n to e long before = told_all_of told (λ images v. volume_sector images geo v) first at n to e long before

-- the sectors that were read are those of the device
pub device_told : {T E : Type 0} (told : Option (List (List ℕ))) (geo : Geometry) (end first n bytes : ℕ) (result : Result T E) (to : List ℕ) → bytes ≡ 512 * n → first + n ≤ volume_sectors geo.head end →
    OnOk result (IfSome told (λ images. to ≡ sectors_of images geo first n)) →
    OnOk result (IfSome (option_map (λ images. volume images geo end) told) (λ content. to ≡ slice_range content (512 * first) (512 * first + bytes)))
unfolding sectors_of
device_told told geo end first n bytes (Err e) to size inside read = tt
device_told None geo end first n bytes (Ok r) to size inside read = tt
device_told (Some images) geo end first n bytes (Ok r) to size inside read =
    read ∙ sym (flat_slice (volume_sector images geo) (volume_sectors geo.head end) first n (λ v. sector_long images geo (home_slot geo.head v) (home_sector geo.head v)) inside)
    ∙ ap (λ (k : ℕ). slice_range (volume images geo end) (512 * first) (512 * first + k)) (sym size)

pub near_told : {T E : Type 0} (told : Option (List (List ℕ))) (set : NearSet) (end first n bytes : ℕ) (result : Result T E) (to : List ℕ) → bytes ≡ 512 * n → first + n ≤ near_sectors set.head end →
    OnOk result (IfSome told (λ images. to ≡ near_sectors_of images set end first n)) →
    OnOk result (IfSome (option_map (λ images. near_volume images set end) told) (λ content. to ≡ slice_range content (512 * first) (512 * first + bytes)))
unfolding near_sectors_of
near_told told set end first n bytes (Err e) to size inside read = tt
near_told None set end first n bytes (Ok r) to size inside read = tt
near_told (Some images) set end first n bytes (Ok r) to size inside read =
    read ∙ sym (flat_slice (near_sector images set end) (near_sectors set.head end) first n (λ v. copy_long images set end v (home_copy set v)) inside)
    ∙ ap (λ (k : ℕ). slice_range (near_volume images set end) (512 * first) (512 * first + k)) (sym size)
