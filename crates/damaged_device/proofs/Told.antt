-- What was read of a damaged volume so far, where the images are known.
use Rattle.std.proofs.Common.{ℕ, ◌≡◌, ◌+◌, ◌-◌, ◌*◌, ◌≤◌, List, length, take, Option, None, Some, IfSome, OnOk, Result, Ok, Err, sym, ap, ◌∙◌, slice_range}
use borrow.Rule.Slice.PartMut.{put_mid}
use Rattle.raid_params.specs.Size.{volume_sectors}
use Rattle.raid_params.specs.declared.wide.Wide.{Wide}
use Rattle.rescue_map.specs.Damaged.{IsMendable}
use Rattle.rescue_map.specs.Salvaged.{salvaged, salvaged_sector, salvaged_sectors}
use Rattle.rescue_map.proofs.Found.{salvaged_long}
use Rattle.rescue_text.specs.declared.section.Section.{Section}
use Rattle.volume_device.specs.Sectors.{sectors_of}
use Rattle.volume_device.proofs.Blocks.{flat_slice}
use Rattle.volume_device.proofs.Told.{told_all_of, told_on, told_start}
use Rattle.damaged_device.specs.Lengths.{salvaged_told}
use Rattle.damaged_device.specs.Reading.{AreGoodRows, AreSectorsOf}
use Rattle.damaged_device.proofs.GoodRows.{good_sectors}

-- none yet, more of them, and all
pub part_start : (told : Option (List (List ℕ))) (sections : List Section) (set : Wide) (first : ℕ) (to : List ℕ) → IfSome told (λ images. take (512 * 0) to ≡ salvaged_sectors images sections set first 0)
unfolding salvaged_sectors
part_start told sections set first to = told_start told (λ images v. salvaged_sector images sections set v) first to

pub part_on : (told : Option (List (List ℕ))) (sections : List Section) (set : Wide) (first at next n k : ℕ) (to run : List ℕ) → at ≤ next → n ≡ next - at → length run ≡ 512 * n → 512 * at ≤ length to →
    IfSome told (λ images. take (512 * at) to ≡ salvaged_sectors images sections set first at) → AreSectorsOf told sections set (first + at) n run →
    IfSome told (λ images. take (512 * next) (put_mid (512 * at) k to run) ≡ salvaged_sectors images sections set first next)
unfolding salvaged_sectors
part_on told sections set first at next n k to run le is long within before here = told_on told (λ images v. salvaged_sector images sections set v) first at next n k to run le is long within before here

pub part_whole : (told : Option (List (List ℕ))) (sections : List Section) (set : Wide) (first at n : ℕ) (to : List ℕ) → at ≡ n → length to ≡ 512 * n →
    IfSome told (λ images. take (512 * at) to ≡ salvaged_sectors images sections set first at) → AreSectorsOf told sections set first n to
unfolding salvaged_sectors
part_whole told sections set first at n to e long before = told_all_of told (λ images v. salvaged_sector images sections set v) first at n to e long before

-- sectors beside which all is good are those of the undamaged volume
pub good_told : {T E : Type 0} (told : Option (List (List ℕ))) (sections : List Section) (set : Wide) (end first n : ℕ) (result : Result T E) (to : List ℕ) → IsMendable set end → AreGoodRows sections set first n →
    OnOk result (IfSome told (λ images. to ≡ sectors_of images set.geo first n)) → OnOk result (AreSectorsOf told sections set first n to)
good_told told sections set end first n (Err e) to m all read = tt
good_told None sections set end first n (Ok r) to m all read = tt
good_told (Some images) sections set end first n (Ok r) to m all read = read ∙ good_sectors images sections set end first n m all

-- the sectors that were read are those of the device
pub device_told : {T E : Type 0} (told : Option (List (List ℕ))) (sections : List Section) (set : Wide) (end first n bytes : ℕ) (result : Result T E) (to : List ℕ) → bytes ≡ 512 * n → first + n ≤ volume_sectors set.geo.head end →
    OnOk result (AreSectorsOf told sections set first n to) →
    OnOk result (IfSome (salvaged_told told sections set end) (λ content. to ≡ slice_range content (512 * first) (512 * first + bytes)))
unfolding salvaged_sectors
device_told told sections set end first n bytes (Err e) to size inside read = tt
device_told None sections set end first n bytes (Ok r) to size inside read = tt
device_told (Some images) sections set end first n bytes (Ok r) to size inside read =
    read ∙ sym (flat_slice (salvaged_sector images sections set) (volume_sectors set.geo.head end) first n (salvaged_long images sections set) inside)
    ∙ ap (λ (k : ℕ). slice_range (salvaged images sections set end) (512 * first) (512 * first + k)) (sym size)
