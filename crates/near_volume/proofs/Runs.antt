-- Sectors that lie in one chunk.
use Rattle.std.proofs.Common.{◌≡◌, ℕ, ◌+◌, ◌-◌, ◌*◌, ◌/◌, ◌%◌, ◌<◌, ◌≤◌, List, length, get_or, Option, None, Some, IfSome, OnOk, Result, Ok, Err, inl, inr, true, false, refl, sym, ap, ◌∙◌, arith}
use Rattle.std.specs.Option.{is_none, is_some, unwrap_or}
use Rattle.std.proofs.lemmas.List.FromFn.{get_or-map-range_with_len, length-map-range_with_len}
use Rattle.std.proofs.lemmas.Nat.{div-add-mod', mul-le}
use Rattle.std.proofs.lemmas.Bool.{cases_lt}
use Rattle.raid_terms.specs.Parity.{member_byte}
use Rattle.near_mirror.specs.Copies.{copy_row, copy_sector, near_area, near_rows, row_of, slot_of}
use Rattle.near_mirror.specs.Volume.{copy_image, held_copy, home_copy}
use Rattle.near_mirror.specs.declared.types.NearHead.{NearHead}
use Rattle.near_mirror.specs.declared.types.NearSet.{NearSet}
use Rattle.member_regions.proofs.Alike.{later_byte}
use Rattle.virtual_volume.proofs.Blocks.{blocks_are}
use Rattle.virtual_volume.proofs.InChunk.{later_place, same_chunk}
use Rattle.virtual_volume.proofs.Ranges.{flat_same}
use Rattle.near_volume.specs.Sectors.{copies_of, copy_bytes, near_sector, sectors_of}

-- a sector further on in the chunk lies as much further on in its copies
same_image : (set : NearSet) (v j copy : ℕ) → v % set.head.chunk + j < set.head.chunk → copy_image set copy (v + j) ≡ copy_image set copy v
same_image set v j copy h = ap (λ (k : ℕ). get_or set.slots.items (slot_of set.head.layout.copying set.head.members set.head.layout.copies copy k) None) (same_chunk set.head.chunk v j h)

same_home : (set : NearSet) (v j : ℕ) → v % set.head.chunk + j < set.head.chunk → home_copy set (v + j) ≡ home_copy set v
same_home set v j h = ap (λ (k : ℕ). unwrap_or (held_copy set k) 0) (same_chunk set.head.chunk v j h)

later_sector : (head : NearHead) (end v j copy : ℕ) → v % head.chunk + j < head.chunk → copy_sector head end copy (v + j) ≡ copy_sector head end copy v + j
later_sector head end v j copy h =
    let row : copy_row head end copy (v + j) * head.chunk ≡ copy_row head end copy v * head.chunk
    = ap (λ (k : ℕ). row_of head.layout.copying head.members head.layout.copies (near_rows head end) copy k * head.chunk) (same_chunk head.chunk v j h) in
    let place = later_place head.chunk v j h in
    omega arith

-- the bytes of a copy
pub copy_byte : (images : List (List ℕ)) (set : NearSet) (end v copy x : ℕ) → x < 512 →
    get_or (copy_bytes images set end v copy) x 0 ≡ member_byte images set.head.offset (copy_sector set.head end copy v) x (copy_image set copy v)
unfolding copy_bytes
copy_byte images set end v copy x h = get_or-map-range_with_len (λ x. member_byte images set.head.offset (copy_sector set.head end copy v) x (copy_image set copy v)) 0 512 x x 0 h (omega arith)

pub copy_long : (images : List (List ℕ)) (set : NearSet) (end v copy : ℕ) → length (copy_bytes images set end v copy) ≡ 512
unfolding copy_bytes
copy_long images set end v copy = length-map-range_with_len (λ x. member_byte images set.head.offset (copy_sector set.head end copy v) x (copy_image set copy v)) 0 512

-- a byte of a copy of a sector further on in the chunk
run_byte : (images : List (List ℕ)) (set : NearSet) (end v j x copy : ℕ) → v % set.head.chunk + j < set.head.chunk → x < 512 →
    get_or (copy_bytes images set end (v + j) copy) x 0 ≡ member_byte images set.head.offset (copy_sector set.head end copy v) (512 * j + x) (copy_image set copy v)
run_byte images set end v j x copy inside below =
    copy_byte images set end (v + j) copy x below
    ∙ ap (λ (t : ℕ). member_byte images set.head.offset t x (copy_image set copy (v + j))) (later_sector set.head end v j copy inside)
    ∙ ap (λ (o : Option ℕ). member_byte images set.head.offset (copy_sector set.head end copy v + j) x o) (same_image set v j copy inside)
    ∙ sym (later_byte images set.head.offset (copy_sector set.head end copy v) j x (copy_image set copy v))

-- what was read of a copy is the volume's, by that copy
run_is : (images : List (List ℕ)) (set : NearSet) (end v n copy : ℕ) (to : List ℕ) → length to ≡ 512 * n → v % set.head.chunk + n ≤ set.head.chunk →
    ((y : ℕ) → y < length to → get_or to y 0 ≡ member_byte images set.head.offset (copy_sector set.head end copy v) y (copy_image set copy v)) →
    to ≡ copies_of images set end copy v n
unfolding copies_of
run_is images set end v n copy to long inside bytes =
    blocks_are to (λ w. copy_bytes images set end w copy) v n long (λ w. copy_long images set end w copy)
    (λ j x below small. bytes (512 * j + x) (omega arith) ∙ sym (run_byte images set end v j x copy (omega arith) small))

some_held : (held : Option ℕ) → is_some held ≡ true → is_none held ≡ false
some_held None e = absurd (cc)
some_held (Some i) e = refl

-- where it is known
pub stretch_told : {T E : Type 0} (told : Option (List (List ℕ))) (set : NearSet) (end v copy sector : ℕ) (held : Option ℕ) (result : Result T E) (to : List ℕ) →
    held ≡ copy_image set copy v → sector ≡ copy_sector set.head end copy v → is_some held ≡ true →
    OnOk result (IfSome told (λ bytes. (y : ℕ) → y < length to → is_none held ≡ false → get_or to y 0 ≡ member_byte bytes set.head.offset sector y held)) →
    OnOk result (IfSome told (λ bytes. (y : ℕ) → y < length to → get_or to y 0 ≡ member_byte bytes set.head.offset (copy_sector set.head end copy v) y (copy_image set copy v)))
stretch_told told set end v copy sector held (Err e) to is at there bytes = tt
stretch_told None set end v copy sector held (Ok r) to is at there bytes = tt
stretch_told (Some images) set end v copy sector held (Ok r) to is at there bytes =
    λ y h. bytes y h (some_held held there) ∙ ap (λ (t : ℕ). member_byte images set.head.offset t y held) at
    ∙ ap (λ (o : Option ℕ). member_byte images set.head.offset (copy_sector set.head end copy v) y o) is

pub run_told : {T E : Type 0} (told : Option (List (List ℕ))) (set : NearSet) (end v n copy : ℕ) (result : Result T E) (to : List ℕ) → length to ≡ 512 * n → v % set.head.chunk + n ≤ set.head.chunk →
    OnOk result (IfSome told (λ bytes. (y : ℕ) → y < length to → get_or to y 0 ≡ member_byte bytes set.head.offset (copy_sector set.head end copy v) y (copy_image set copy v))) →
    OnOk result (IfSome told (λ bytes. to ≡ copies_of bytes set end copy v n))
run_told told set end v n copy (Err e) to long inside bytes = tt
run_told None set end v n copy (Ok r) to long inside bytes = tt
run_told (Some images) set end v n copy (Ok r) to long inside bytes = run_is images set end v n copy to long inside bytes

-- the first copy whose slot holds an image is the volume
home_run : (images : List (List ℕ)) (set : NearSet) (end copy v n : ℕ) → held_copy set (v / set.head.chunk) ≡ Some copy → v % set.head.chunk + n ≤ set.head.chunk →
    copies_of images set end copy v n ≡ sectors_of images set end v n
unfolding copies_of sectors_of
home_run images set end copy v n held inside =
    flat_same (λ w. copy_bytes images set end w copy) (near_sector images set end) v n
    (λ w low high.
    let at : v + (w - v) ≡ w = omega arith in
    let home : home_copy set w ≡ copy = ap (λ (u : ℕ). home_copy set u) (sym at) ∙ same_home set v (w - v) (omega arith) ∙ ap (λ (o : Option ℕ). unwrap_or o 0) held in
    ap (λ (c : ℕ). copy_bytes images set end w c) (sym home))

pub home_told : {T E : Type 0} (told : Option (List (List ℕ))) (set : NearSet) (end copy v n : ℕ) (result : Result T E) (to : List ℕ) → held_copy set (v / set.head.chunk) ≡ Some copy → v % set.head.chunk + n ≤ set.head.chunk →
    OnOk result (IfSome told (λ bytes. to ≡ copies_of bytes set end copy v n)) → OnOk result (IfSome told (λ bytes. to ≡ sectors_of bytes set end v n))
home_told told set end copy v n (Err e) to held inside read = tt
home_told None set end copy v n (Ok r) to held inside read = tt
home_told (Some images) set end copy v n (Ok r) to held inside read = read ∙ home_run images set end copy v n held inside

-- the rows end before the end, and so does what lies in one chunk of them
pub run_inside : (head : NearHead) (end v n copy sector : ℕ) → 1 ≤ head.chunk → sector ≡ copy_sector head end copy v → sector < near_area head end → v % head.chunk + n ≤ head.chunk →
    head.offset + (sector + n) ≤ end
run_inside head end v n copy sector some at inside few =
    let split : near_rows head end * head.chunk + (end - head.offset) % head.chunk ≡ end - head.offset = div-add-mod' (end - head.offset) head.chunk in
    let below : copy_row head end copy v < near_rows head end = row_below (copy_row head end copy v) (near_rows head end) head.chunk (omega arith) in
    let most : (copy_row head end copy v + 1) * head.chunk ≤ near_rows head end * head.chunk = mul-le (copy_row head end copy v + 1) head.chunk (near_rows head end) head.chunk (omega arith) (omega arith) in
    let next : (copy_row head end copy v + 1) * head.chunk ≡ copy_row head end copy v * head.chunk + head.chunk = grind arith in
    omega arith
  where
    row_below : (a b c : ℕ) → a * c < b * c → a < b
    row_below a b c h = elim (cases_lt a b) [
      | inl lt ↦ lt
      | inr le ↦ (let most : b * c ≤ a * c = mul-le b c a c (omega arith) (omega arith) in absurd (omega arith))
    ]
