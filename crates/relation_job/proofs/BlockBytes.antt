-- The sectors of neighbouring rows, read image by image.
use Rattle.std.proofs.Common.{◌≡◌, ℕ, zero, suc, ◌+◌, ◌*◌, ◌-◌, ◌/◌, ◌%◌, ◌<◌, ◌≤◌, List, [], ◌∷◌, ◌++◌, length, length-drop, take, drop, get_or, slice_index, slice_get, Option, None, Some, IfSome, inl, inr, refl, sym, ap, ◌∙◌, subst, arith}
use borrow.Rule.Slice.PartMut.{put_mid}
use Rattle.std.specs.Prelude.{option_and_then, slice_range, IsSomeAnd}
use Rattle.std.specs.List.{flat_map, range_with_len}
use Rattle.std.proofs.Math.Nat.{mul-div_cancel_left, mul-le-mul_left}
use Rattle.std.proofs.lemmas.Bool.{cases_lt}
use Rattle.std.proofs.lemmas.List.{append-nil, length-take}
use Rattle.std.proofs.lemmas.List.Concat.{flat_map-append}
use Rattle.std.proofs.lemmas.Option.{slice_get-get_or}
use Rattle.std.proofs.lemmas.Slice.{take-put_mid}
use Rattle.outside.proofs.Reading.{reads_join, reads_none, reads_up}
use Rattle.outside.proofs.Told.{told_all_at, told_all_length}
use Rattle.outside.specs.Attached.{told_all}
use Rattle.outside.specs.Seen.{AreTold, AreWithin, Image, OnlyReads, Seen, lengths_of}
use Rattle.relation_job.proofs.CommonRows.{lengths_many}
use Rattle.relation_job.specs.Blocks.{IsBlock, row_sectors}
use Rattle.relation_job.specs.Looking.{HasRow}

-- ---- what may be read

lies_within : (attached : List Image) (image sector rows : ℕ) → image < length attached → sector + rows ≤ slice_index (lengths_of attached) image → IsSomeAnd (slice_get attached image) (λ a. sector + 512 * rows / 512 ≤ a.sectors)
lies_within [] image sector rows lt below = absurd (omega arith)
lies_within (one ∷ more) zero sector rows lt below = omega (arith, mul-div_cancel_left rows {n = 512} (omega arith))
lies_within (one ∷ more) (suc image) sector rows lt below = lies_within more image sector rows (omega arith) below

pub spot_within : (width image count : ℕ) → image < count → width * image + width ≤ width * count
spot_within width image count lt = let more : width * (image + 1) ≤ width * count = mul-le-mul_left width (omega arith) in omega (arith, more)

-- the part for an image, which is as long as its sectors
pub part_long : (to : List ℕ) (width image count : ℕ) → image < count → length to ≡ width * count → length (take (width * image + width - width * image) (drop (width * image) to)) ≡ width
part_long to width image count lt long = let spot = spot_within width image count lt in simp (length-take, length-drop) (omega (arith, spot))

whole_sectors : (rows : ℕ) → 512 * rows % 512 ≡ 0
whole_sectors rows = omega arith

may_read_some : (attached : List Image) (image sector rows bytes : ℕ) → bytes ≡ 512 * rows → 1 ≤ rows → image < length attached → sector + rows ≤ slice_index (lengths_of attached) image → AreWithin attached image sector bytes
may_read_some attached image sector rows bytes is some lt below =
    let one : AreWithin attached image sector (512 * rows) = record { whole = whole_sectors rows; some = omega arith; inside = lies_within attached image sector rows lt below } in
    subst (λ (n : ℕ). AreWithin attached image sector n) (sym is) one

-- each image has its sectors of the rows
pub has_sectors : (attached : List Image) (offsets : List ℕ) (row rows image : ℕ) → HasRow offsets (lengths_of attached) (row + (rows - 1)) → 1 ≤ rows → image < length attached → row + slice_index offsets image + rows ≤ slice_index (lengths_of attached) image
has_sectors attached offsets row rows image has some lt = let last = has image (omega (arith, lengths_many attached)) in omega (arith, last)

-- ---- what was read

-- the sectors of the first images were read
pub record ReadsRows (old now : Seen) (offsets : List ℕ) (row rows image : ℕ) (to : List ℕ) : Type 0 where
  pub reads : OnlyReads old now (rows * image)
  pub faults : now.faults ≡ old.faults
  pub told : IfSome (told_all old.attached) (λ images. take (512 * rows * image) to ≡ flat_map (row_sectors images offsets row rows) (range_with_len 0 image))
  pub each : IfSome (told_all old.attached) (λ images. (k : ℕ) → k < image → length (row_sectors images offsets row rows k) ≡ 512 * rows)

pub may_read : (old mid : Seen) (offsets : List ℕ) (row rows image offset : ℕ) (to : List ℕ) → ReadsRows old mid offsets row rows image to → HasRow offsets (lengths_of old.attached) (row + (rows - 1)) → 1 ≤ rows → image < length old.attached →
    length to ≡ 512 * rows * length old.attached → offset ≡ slice_index offsets image → AreWithin mid.attached image (row + offset) (length (take (512 * rows * image + 512 * rows - 512 * rows * image) (drop (512 * rows * image) to)))
may_read old mid offsets row rows image offset to was has some lt long is =
    let part = length (take (512 * rows * image + 512 * rows - 512 * rows * image) (drop (512 * rows * image) to)) in
    let below : row + offset + rows ≤ slice_index (lengths_of old.attached) image = omega (arith, has_sectors old.attached offsets row rows image has some lt, is) in
    subst (λ (a : List Image). AreWithin a image (row + offset) part) (sym was.reads.attached) (may_read_some old.attached image (row + offset) rows part (part_long to (512 * rows) image (length old.attached) lt long) some lt below)

-- no image yet
pub reads_start : (old : Seen) (offsets : List ℕ) (row rows : ℕ) (to : List ℕ) → ReadsRows old old offsets row rows 0 to
reads_start old offsets row rows to =
    record { reads = subst (λ (n : ℕ). OnlyReads old old n) nothing (reads_none old); faults = refl; told = none (told_all old.attached); each = none_long (told_all old.attached) }
  where
    nothing : 0 ≡ rows * 0
    nothing = omega arith

    none : (told : Option (List (List ℕ))) → IfSome told (λ images. take (512 * rows * 0) to ≡ flat_map (row_sectors images offsets row rows) (range_with_len 0 0))
    none None = tt
    none (Some images) = let zeros : 512 * rows * 0 ≡ 0 = omega arith in ap (λ (n : ℕ). take n to) zeros

    none_long : (told : Option (List (List ℕ))) → IfSome told (λ images. (k : ℕ) → k < 0 → length (row_sectors images offsets row rows k) ≡ 512 * rows)
    none_long None = tt
    none_long (Some images) = λ k lt. absurd (omega arith)

-- the sectors of an image that were read, where the bytes of the images are known
told_sectors : (attached : List Image) (told : Option (List (List ℕ))) (offsets : List ℕ) (row rows image : ℕ) (part : List ℕ) → told_all attached ≡ told → image < length attached → length part ≡ 512 * rows →
    AreTold attached image (row + slice_index offsets image) part → IfSome told (λ images. part ≡ row_sectors images offsets row rows image)
told_sectors attached None offsets row rows image part is lt long are = tt
told_sectors attached (Some images) offsets row rows image part is lt long are =
    let sector = row + slice_index offsets image in
    let many = told_all_length attached images is in
    let at : option_and_then (λ (a : Image). a.bytes) (slice_get attached image) ≡ Some (get_or images image []) = told_all_at attached images image is ∙ slice_get-get_or images image [] (omega arith) in
    let same : part ≡ slice_range (get_or images image []) (512 * sector) (512 * sector + length part) = subst (λ (o : Option (List ℕ)). IfSome o (λ bs. part ≡ slice_range bs (512 * sector) (512 * sector + length part))) at are in
    same ∙ ap (λ (n : ℕ). slice_range (get_or images image []) (512 * sector) (512 * sector + n)) long

pub range_more : (a n : ℕ) → range_with_len a (suc n) ≡ range_with_len a n ++ (a + n) ∷ []
range_more a zero = ap (λ (k : ℕ). k ∷ []) (omega arith)
range_more a (suc n) = ap (λ (l : List ℕ). a ∷ l) (range_more (a + 1) n ∙ ap (λ (k : ℕ). range_with_len (a + 1) n ++ k ∷ []) (omega arith))

pub flat_next : (f : ℕ → List ℕ) (n : ℕ) → flat_map f (range_with_len 0 (n + 1)) ≡ flat_map f (range_with_len 0 n) ++ f n
flat_next f n =
    let one : n + 1 ≡ suc n = omega arith in
    ap (λ (k : ℕ). flat_map f (range_with_len 0 k)) one ∙ ap (flat_map f) (range_more 0 n ∙ ap (λ (k : ℕ). range_with_len 0 n ++ k ∷ []) (omega arith)) ∙ flat_map-append f (range_with_len 0 n) (n ∷ []) ∙ ap (λ (l : List ℕ). flat_map f (range_with_len 0 n) ++ l) (append-nil (f n))

next_told : (told : Option (List (List ℕ))) (offsets : List ℕ) (row rows image : ℕ) (to new part : List ℕ) → IfSome told (λ images. take (512 * rows * image) to ≡ flat_map (row_sectors images offsets row rows) (range_with_len 0 image)) →
    take (512 * rows * (image + 1)) new ≡ take (512 * rows * image) to ++ part → IfSome told (λ images. part ≡ row_sectors images offsets row rows image) →
    IfSome told (λ images. take (512 * rows * (image + 1)) new ≡ flat_map (row_sectors images offsets row rows) (range_with_len 0 (image + 1)))
next_told None offsets row rows image to new part was more is = tt
next_told (Some images) offsets row rows image to new part was more is =
    more ∙ ap (λ (l : List ℕ). l ++ part) was ∙ ap (λ (l : List ℕ). flat_map (row_sectors images offsets row rows) (range_with_len 0 image) ++ l) is ∙ sym (flat_next (row_sectors images offsets row rows) image)

next_long : (told : Option (List (List ℕ))) (offsets : List ℕ) (row rows image : ℕ) (part : List ℕ) → IfSome told (λ images. (k : ℕ) → k < image → length (row_sectors images offsets row rows k) ≡ 512 * rows) → length part ≡ 512 * rows →
    IfSome told (λ images. part ≡ row_sectors images offsets row rows image) → IfSome told (λ images. (k : ℕ) → k < image + 1 → length (row_sectors images offsets row rows k) ≡ 512 * rows)
next_long None offsets row rows image part was long is = tt
next_long (Some images) offsets row rows image part was long is = λ k lt.
    elim (cases_lt k image) [
      | inl low ↦ was k low
      | inr high ↦ (let same : image ≡ k = omega arith in ap (λ (i : ℕ). length (row_sectors images offsets row rows i)) (sym same) ∙ sym (ap (λ (l : List ℕ). length l) is) ∙ long)
    ]

-- the next image was read
pub reads_next : (old mid new : Seen) (offsets : List ℕ) (row rows image offset : ℕ) (to part : List ℕ) → ReadsRows old mid offsets row rows image to → image < length old.attached → length to ≡ 512 * rows * length old.attached → offset ≡ slice_index offsets image →
    length part ≡ length (take (512 * rows * image + 512 * rows - 512 * rows * image) (drop (512 * rows * image) to)) → AreTold mid.attached image (row + offset) part →
    OnlyReads mid new (length (take (512 * rows * image + 512 * rows - 512 * rows * image) (drop (512 * rows * image) to)) / 512) → new.faults ≡ mid.faults →
    ReadsRows old new offsets row rows (image + 1) (put_mid (512 * rows * image) (512 * rows * image + 512 * rows - 512 * rows * image) to part)
reads_next old mid new offsets row rows image offset to part was lt long is same told one quiet =
    let width = 512 * rows in
    let whole = part_long to width image (length old.attached) lt long in
    let full : length part ≡ width = same ∙ whole in
    let spot = spot_within width image (length old.attached) lt in
    let here : AreTold old.attached image (row + slice_index offsets image) part =
    subst (λ (s : ℕ). AreTold old.attached image s part) (ap (λ (k : ℕ). row + k) is) (subst (λ (a : List Image). AreTold a image (row + offset) part) was.reads.attached told) in
    let piece = told_sectors old.attached (told_all old.attached) offsets row rows image part refl lt full here in
    let after : take (width * (image + 1)) (put_mid (width * image) (width * image + width - width * image) to part) ≡ take (width * image) to ++ part =
    take-put_mid (width * image) (width * image + width - width * image) to part (width * (image + 1)) (omega (arith, full)) (omega (arith, spot)) in
    let read : OnlyReads mid new rows = subst (λ (n : ℕ). OnlyReads mid new n) (ap (λ (n : ℕ). n / 512) whole ∙ mul-div_cancel_left rows {n = 512} (omega arith)) one in
    record {
      reads = reads_up old new (reads_join old mid new was.reads read) (omega arith);
      faults = quiet ∙ was.faults;
      told = next_told (told_all old.attached) offsets row rows image to (put_mid (width * image) (width * image + width - width * image) to part) part was.told after piece;
      each = next_long (told_all old.attached) offsets row rows image part was.each full piece;
    }

-- a reading that was cut short read no more
pub reads_cut : (old mid new : Seen) (offsets : List ℕ) (row rows image : ℕ) (to : List ℕ) → ReadsRows old mid offsets row rows image to → image < length old.attached → length to ≡ 512 * rows * length old.attached →
    OnlyReads mid new (length (take (512 * rows * image + 512 * rows - 512 * rows * image) (drop (512 * rows * image) to)) / 512) → OnlyReads old new (rows * length old.attached)
reads_cut old mid new offsets row rows image to was lt long one =
    let whole = part_long to (512 * rows) image (length old.attached) lt long in
    let read : OnlyReads mid new rows = subst (λ (n : ℕ). OnlyReads mid new n) (ap (λ (n : ℕ). n / 512) whole ∙ mul-div_cancel_left rows {n = 512} (omega arith)) one in
    let more = spot_within rows image (length old.attached) lt in
    reads_up old new (reads_join old mid new was.reads read) (omega (arith, more))

take_all : (xs : List ℕ) → take (length xs) xs ≡ xs
take_all [] = refl
take_all (x ∷ xs) = ap (λ (l : List ℕ). x ∷ l) (take_all xs)

all_told : (attached : List Image) (told : Option (List (List ℕ))) (offsets : List ℕ) (row rows image : ℕ) (to : List ℕ) → told_all attached ≡ told → image ≡ length attached → length to ≡ 512 * rows * image →
    IfSome told (λ images. take (512 * rows * image) to ≡ flat_map (row_sectors images offsets row rows) (range_with_len 0 image)) →
    IfSome told (λ images. (k : ℕ) → k < image → length (row_sectors images offsets row rows k) ≡ 512 * rows) → IfSome told (λ images. IsBlock images offsets row rows to)
all_told attached None offsets row rows image to is all long told each = tt
all_told attached (Some images) offsets row rows image to is all long told each =
    let many : image ≡ length images = omega (arith, told_all_length attached images is) in
    let whole : take (512 * rows * image) to ≡ to = ap (λ (n : ℕ). take n to) (sym long) ∙ take_all to in
    record { bytes = sym whole ∙ told ∙ ap (λ (n : ℕ). flat_map (row_sectors images offsets row rows) (range_with_len 0 n)) many; each = λ k lt. each k (omega arith) }

-- all of them
pub reads_all : (old now : Seen) (offsets : List ℕ) (row rows image : ℕ) (to : List ℕ) → ReadsRows old now offsets row rows image to → image ≡ length old.attached → length to ≡ 512 * rows * image → IfSome (told_all old.attached) (λ images. IsBlock images offsets row rows to)
reads_all old now offsets row rows image to reads all long = all_told old.attached (told_all old.attached) offsets row rows image to refl all long reads.told reads.each
