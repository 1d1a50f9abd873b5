-- What was read of a mirror of damaged images so far, where the images are known.
use Rattle.std.proofs.Common.{ℕ, ◌≡◌, ◌+◌, ◌-◌, ◌*◌, ◌<◌, ◌≤◌, List, length, take, Option, None, Some, IfSome, OnOk, Result, Ok, Err, sym, ap, ◌∙◌, slice_range, arith}
use borrow.Rule.Slice.PartMut.{put_mid}
use Rattle.near_mirror.specs.Copies.{near_sectors}
use Rattle.near_mirror.specs.declared.types.NearSet.{NearSet}
use Rattle.near_volume.specs.Sectors.{copies_of, copy_bytes}
use Rattle.rescue_text.specs.declared.section.Section.{Section}
use Rattle.virtual_volume.proofs.Ranges.{flat_same}
use Rattle.volume_device.proofs.Blocks.{flat_slice}
use Rattle.volume_device.proofs.Told.{told_all_of, told_on, told_start}
use Rattle.damaged_mirror.specs.Damaged.{good_copy, mended_sector, mended_sectors, mended_volume, taken_copy}
use Rattle.damaged_mirror.specs.Lengths.{mended_long, mended_told}

-- sectors of which one copy is taken are read by it
taken_is : (images : List (List ℕ)) (sections : List Section) (set : NearSet) (end copy v n : ℕ) → ((i : ℕ) → i < n → good_copy sections set end (v + i) ≡ Some copy) →
    copies_of images set end copy v n ≡ mended_sectors images sections set end v n
unfolding copies_of mended_sectors
taken_is images sections set end copy v n same =
    flat_same (λ w. copy_bytes images set end w copy) (mended_sector images sections set end) v n
    (λ w low high.
    let at : v + (w - v) ≡ w = omega arith in
    let taken : good_copy sections set end w ≡ Some copy = ap (λ (u : ℕ). good_copy sections set end u) (sym at) ∙ same (w - v) (omega arith) in
    ap (λ (o : Option ℕ). taken_copy images set end w o) (sym taken))

pub taken_told : (told : Option (List (List ℕ))) (sections : List Section) (set : NearSet) (end copy v n : ℕ) (to : List ℕ) → ((i : ℕ) → i < n → good_copy sections set end (v + i) ≡ Some copy) →
    IfSome told (λ bytes. to ≡ copies_of bytes set end copy v n) → IfSome told (λ bytes. to ≡ mended_sectors bytes sections set end v n)
taken_told None sections set end copy v n to same read = tt
taken_told (Some images) sections set end copy v n to same read = read ∙ taken_is images sections set end copy v n same

-- none yet, more of them, and all
pub part_start : (told : Option (List (List ℕ))) (sections : List Section) (set : NearSet) (end first : ℕ) (to : List ℕ) → IfSome told (λ images. take (512 * 0) to ≡ mended_sectors images sections set end first 0)
unfolding mended_sectors
part_start told sections set end first to = told_start told (λ images v. mended_sector images sections set end v) first to

pub part_on : (told : Option (List (List ℕ))) (sections : List Section) (set : NearSet) (end first at next n k : ℕ) (to run : List ℕ) → at ≤ next → n ≡ next - at → length run ≡ 512 * n → 512 * at ≤ length to →
    IfSome told (λ images. take (512 * at) to ≡ mended_sectors images sections set end first at) → IfSome told (λ images. run ≡ mended_sectors images sections set end (first + at) n) →
    IfSome told (λ images. take (512 * next) (put_mid (512 * at) k to run) ≡ mended_sectors images sections set end first next)
unfolding mended_sectors
part_on told sections set end first at next n k to run le is long within before here = told_on told (λ images v. mended_sector images sections set end v) first at next n k to run le is long within before here

pub part_whole : (told : Option (List (List ℕ))) (sections : List Section) (set : NearSet) (end first at n : ℕ) (to : List ℕ) → at ≡ n → length to ≡ 512 * n →
    IfSome told (λ images. take (512 * at) to ≡ mended_sectors images sections set end first at) → IfSome told (λ images. to ≡ mended_sectors images sections set end first n)
unfolding mended_sectors
part_whole told sections set end first at n to e long before = told_all_of told (λ images v. mended_sector images sections set end v) first at n to e long before

-- the sectors that were read are those of the device
pub device_told : {T E : Type 0} (told : Option (List (List ℕ))) (sections : List Section) (set : NearSet) (end first n bytes : ℕ) (result : Result T E) (to : List ℕ) → bytes ≡ 512 * n → first + n ≤ near_sectors set.head end →
    OnOk result (IfSome told (λ images. to ≡ mended_sectors images sections set end first n)) →
    OnOk result (IfSome (mended_told told sections set end) (λ content. to ≡ slice_range content (512 * first) (512 * first + bytes)))
unfolding mended_sectors
device_told told sections set end first n bytes (Err e) to size inside read = tt
device_told None sections set end first n bytes (Ok r) to size inside read = tt
device_told (Some images) sections set end first n bytes (Ok r) to size inside read =
    read ∙ sym (flat_slice (mended_sector images sections set end) (near_sectors set.head end) first n (mended_long images sections set end) inside)
    ∙ ap (λ (k : ℕ). slice_range (mended_volume images sections set end) (512 * first) (512 * first + k)) (sym size)
