-- Bytes in blocks of 512.
use Rattle.std.proofs.Common.{◌≡◌, ℕ, zero, suc, ◌+◌, ◌*◌, ◌/◌, ◌<◌, ◌≤◌, List, [], ◌∷◌, ◌++◌, length, get_or, take, drop, refl, sym, ap, ◌∙◌, arith, length-drop, slice_index_or, None, Some, Option, Result, Ok, Err, OnOk, IfSome, false, true}
use Rattle.std.specs.List.{flat_map, range_with_len}
use Rattle.std.proofs.lemmas.List.{get_or-take, get_or-drop, length-take, take-append-drop}
use Rattle.std.proofs.lemmas.Slice.{take-put_mid}
use borrow.Rule.Slice.PartMut.{put_mid}
use Rattle.std.proofs.lemmas.List.FromFn.{get_or-map-range_with_len, length-map-range_with_len}
use Rattle.std.proofs.lemmas.Grind.{same_number_lists}
use Rattle.std.proofs.lemmas.Nat.{div-mul-add}
use Rattle.raid_params.specs.declared.types.Geometry.{Geometry}
use Rattle.std.specs.Option.{is_none}
use Rattle.raid_terms.specs.Cells.{part_of}
use Rattle.raid_terms.specs.Parity.{is_data, member_byte}
use Rattle.raid_terms.specs.Volume.{byte_in, member_sector}
use Rattle.member_regions.proofs.Solved.{held_byte}
use Rattle.virtual_volume.specs.Parts.{chunk_of}
use Rattle.lost_members.specs.Needs.{HoldData, is_data_at}
use Rattle.member_regions.specs.Regions.{HoldSlot}
use Rattle.virtual_volume.proofs.Ranges.{flat_more, flat_shift, flat_split}

-- a list is the blocks that it agrees with
pub blocks_are : (xs : List ℕ) (f : ℕ → List ℕ) (first n : ℕ) → length xs ≡ 512 * n → ((v : ℕ) → length (f v) ≡ 512) →
    ((j x : ℕ) → j < n → x < 512 → get_or xs (512 * j + x) 0 ≡ get_or (f (first + j)) x 0) → xs ≡ flat_map f (range_with_len first n)
blocks_are [] f first zero long each same = refl
blocks_are (x ∷ xs) f first zero long each same = absurd (omega arith)
blocks_are xs f first (suc n) long each same =
    let before : take (512 * n) xs ≡ flat_map f (range_with_len first n) =
    blocks_are (take (512 * n) xs) f first n (omega (arith, length-take (512 * n) xs)) each
    (λ j x below inside. get_or-take (512 * n) xs (512 * j + x) 0 (omega arith) ∙ same j x (omega arith) inside) in
    let last : drop (512 * n) xs ≡ f (first + n) =
    same_number_lists (drop (512 * n) xs) (f (first + n)) (omega (arith, length-drop (512 * n) xs, each (first + n)))
    (λ k h. let short : k < 512 = omega (arith, length-drop (512 * n) xs) in get_or-drop (512 * n) xs k 0 ∙ same n k (omega arith) short) in
    sym (take-append-drop (512 * n) xs) ∙ ap (λ (l : List ℕ). l ++ drop (512 * n) xs) before
    ∙ ap (λ (l : List ℕ). flat_map f (range_with_len first n) ++ l) last ∙ sym (flat_more f first n (suc n) (first + n) (omega arith) refl)

-- more blocks were written
pub flat_on : (f : ℕ → List ℕ) (first at n next k : ℕ) (to run : List ℕ) → next ≡ at + n → length run ≡ 512 * n → 512 * at ≤ length to →
    take (512 * at) to ≡ flat_map f (range_with_len first at) → run ≡ flat_map f (range_with_len (first + at) n) →
    take (512 * next) (put_mid (512 * at) k to run) ≡ flat_map f (range_with_len first next)
flat_on f first at n next k to run e long within before here =
    take-put_mid (512 * at) k to run (512 * next) (omega (arith, long, e)) within
    ∙ ap (λ (l : List ℕ). l ++ run) before ∙ ap (λ (l : List ℕ). flat_map f (range_with_len first at) ++ l) here
    ∙ sym (flat_split f first at n next (first + at) e refl)

-- the bytes of a member sector
pub sector_byte : (images : List (List ℕ)) (geo : Geometry) (slot t x : ℕ) → x < 512 → get_or (member_sector images geo slot t) x 0 ≡ byte_in images geo t slot x (slice_index_or geo.slots.items slot None)
unfolding member_sector
sector_byte images geo slot t x h = get_or-map-range_with_len (λ x. byte_in images geo t slot x (slice_index_or geo.slots.items slot None)) 0 512 x x 0 h (omega arith)

pub sector_long : (images : List (List ℕ)) (geo : Geometry) (slot t : ℕ) → length (member_sector images geo slot t) ≡ 512
unfolding member_sector
sector_long images geo slot t = length-map-range_with_len (λ x. byte_in images geo t slot x (slice_index_or geo.slots.items slot None)) 0 512

-- sectors of a region, which holds those of the member there
part_sectors : (images : List (List ℕ)) (geo : Geometry) (stride first slot at n : ℕ) (sectors part : List ℕ) →
    ((j x : ℕ) → j < n → x < 512 → get_or sectors (stride * slot + (512 * (at + j) + x)) 0 ≡ byte_in images geo (first + (at + j)) slot x (slice_index_or geo.slots.items slot None)) →
    length part ≡ 512 * n → part ≡ take (512 * n) (drop (stride * slot + 512 * at) sectors) →
    part ≡ flat_map (member_sector images geo slot) (range_with_len (first + at) n)
part_sectors images geo stride first slot at n sectors part hold within is =
    blocks_are part (member_sector images geo slot) (first + at) n within (λ t. sector_long images geo slot t)
    (λ j x below inside.
    let later : first + (at + j) ≡ first + at + j = omega arith in
    ap (λ (l : List ℕ). get_or l (512 * j + x) 0) is
    ∙ get_or-take (512 * n) (drop (stride * slot + 512 * at) sectors) (512 * j + x) 0 (omega arith) ∙ get_or-drop (stride * slot + 512 * at) sectors (512 * j + x) 0
    ∙ ap (λ (p : ℕ). get_or sectors p 0) (placed (stride * slot) at j x)
    ∙ hold j x below inside ∙ sym (sector_byte images geo slot (first + (at + j)) x inside)
    ∙ ap (λ (t : ℕ). get_or (member_sector images geo slot t) x 0) later)
  where
    placed : (p at j x : ℕ) → p + 512 * at + (512 * j + x) ≡ p + (512 * (at + j) + x)
    placed p at j x = omega arith

-- sectors of a region that holds the member's
pub region_sectors : (images : List (List ℕ)) (geo : Geometry) (stride first count slot at n : ℕ) (sectors part : List ℕ) → HoldSlot images geo stride first count slot sectors →
    at + n ≤ count → length part ≡ 512 * n → part ≡ take (512 * n) (drop (stride * slot + 512 * at) sectors) →
    part ≡ flat_map (member_sector images geo slot) (range_with_len (first + at) n)
region_sectors images geo stride first count slot at n sectors part hold few within is =
    part_sectors images geo stride first slot at n sectors part (λ j x below inside. hold (at + j) x (omega arith) inside) within is

-- a sector of the chunk of a data slot is data
pub chunk_data : (geo : Geometry) (row slot t j : ℕ) → is_data (part_of geo.head row slot) ≡ true → j < geo.head.chunk → t ≡ row * geo.head.chunk + j → is_data_at geo slot t ≡ true
chunk_data geo row slot t j holds below e =
    let here : t / geo.head.chunk ≡ row = ap (λ (n : ℕ). n / geo.head.chunk) e ∙ div-mul-add row geo.head.chunk j below in
    ap (λ (r : ℕ). is_data (part_of geo.head r slot)) here ∙ holds

-- the chunk of a data slot in a row
pub region_chunk : (images : List (List ℕ)) (geo : Geometry) (stride first count slot row at : ℕ) (sectors part : List ℕ) → slot < length geo.slots.items → is_data (part_of geo.head row slot) ≡ true →
    HoldData images geo stride first count sectors → first + at ≡ row * geo.head.chunk → at + geo.head.chunk ≤ count → length part ≡ 512 * geo.head.chunk →
    part ≡ take (512 * geo.head.chunk) (drop (stride * slot + 512 * at) sectors) → part ≡ chunk_of images geo row slot
unfolding chunk_of
region_chunk images geo stride first count slot row at sectors part there holds hold place few within is =
    part_sectors images geo stride first slot at geo.head.chunk sectors part
    (λ j x below inside. hold slot (at + j) x there (omega arith) inside (chunk_data geo row slot (first + (at + j)) j holds below (omega arith))) within is
    ∙ flat_shift (member_sector images geo slot) (row * geo.head.chunk) 0 geo.head.chunk (first + at) (omega arith)

-- a sector that was read
pub sector_read : (images : List (List ℕ)) (geo : Geometry) (slot t : ℕ) (to : List ℕ) → length to ≡ 512 → is_none (slice_index_or geo.slots.items slot None) ≡ false →
    ((y : ℕ) → y < length to → is_none (slice_index_or geo.slots.items slot None) ≡ false → get_or to y 0 ≡ member_byte images geo.head.offset t y (slice_index_or geo.slots.items slot None)) →
    to ≡ member_sector images geo slot t
sector_read images geo slot t to long there bytes =
    same_number_lists to (member_sector images geo slot t) (long ∙ sym (sector_long images geo slot t))
    (λ k h. bytes k h there ∙ held_byte images geo t slot k (slice_index_or geo.slots.items slot None) there ∙ sym (sector_byte images geo slot t k (omega arith)))

-- where it is known
pub read_told : {T E : Type 0} (told : Option (List (List ℕ))) (geo : Geometry) (slot t : ℕ) (held : Option ℕ) (result : Result T E) (to : List ℕ) →
    held ≡ slice_index_or geo.slots.items slot None → is_none held ≡ false → length to ≡ 512 →
    OnOk result (IfSome told (λ bytes. (y : ℕ) → y < length to → is_none held ≡ false → get_or to y 0 ≡ member_byte bytes geo.head.offset t y held)) →
    OnOk result (IfSome told (λ bytes. to ≡ member_sector bytes geo slot t))
read_told told geo slot t held (Err e) to same there long bytes = tt
read_told None geo slot t held (Ok v) to same there long bytes = tt
read_told (Some images) geo slot t held (Ok v) to same there long bytes =
    sector_read images geo slot t to long (ap (λ (o : Option ℕ). is_none o) (sym same) ∙ there)
    (λ y h some. bytes y h there ∙ ap (λ (o : Option ℕ). member_byte images geo.head.offset t y o) same)
