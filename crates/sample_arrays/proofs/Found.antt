-- The bytes of the generated images are those of the members.
use Rattle.std.proofs.Common.{◌≡◌, ℕ, zero, suc, ◌+◌, ◌*◌, ◌<◌, Bool, true, false, ◌||◌, ◌==◌, List, [], ◌∷◌, ◌++◌, length, get_or, map, take, decimal, replicate, Option, None, Some, inl, inr, refl, sym, ap, subst, ◌∙◌, arith}
use Rattle.std.proofs.lemmas.Bool.{cases_eq, eq-eqb, ne_eqb}
use Rattle.std.proofs.lemmas.List.{get_or-append-add, get_or-map, get_or_append_left, length-replicate}
use Rattle.std.proofs.lemmas.List.FromFn.{get_or-map-range_with_len, length-map-range_with_len}
use Rattle.std.specs.List.{flat_map, range_with_len}
use Rattle.std.specs.Prelude.{IfSome, unwrap_or}
use Rattle.landmark_rules.proofs.Holding.{held_first, holds}
use Rattle.member_regions.specs.Members.{held}
use Rattle.raid_layouts.proofs.Shapes.{shaped_images, shaped_once}
use Rattle.raid_params.specs.Slots.{stands}
use Rattle.raid_params.specs.Validity.{is_shaped}
use Rattle.raid_params.specs.declared.types.Geometry.{Geometry}
use Rattle.raid_params.specs.declared.types.Head.{Head}
use Rattle.raid_terms.specs.Parity.{member_byte}
use Rattle.sample_arrays.proofs.Bytes.{sector_is}
use Rattle.sample_arrays.proofs.RowSums.{IsVolume, member_long, slot_byte}
use Rattle.sample_arrays.specs.Arrays.{generated, image_of, member_sector, sampled, sampled_image, slot_of}
use Rattle.sample_arrays.specs.Laws.{sampled_bytes}

-- a place in pieces of one size
flat_at : (f : ℕ → List ℕ) (size a n t x : ℕ) → ((s : ℕ) → length (f s) ≡ size) → t < n → x < size →
    get_or (flat_map f (range_with_len a n)) (t * size + x) 0 ≡ get_or (f (a + t)) x 0
flat_at f size a zero t x long inside below = absurd (omega arith)
flat_at f size a (suc n) zero x long inside below =
    let here = long a in
    let place : 0 * size + x ≡ x = omega arith in
    let piece : a ≡ a + 0 = omega arith in
    ap (λ (k : ℕ). get_or (f a ++ flat_map f (range_with_len (a + 1) n)) k 0) place
    ∙ get_or_append_left (f a) (flat_map f (range_with_len (a + 1) n)) 0 x (omega arith)
    ∙ ap (λ (k : ℕ). get_or (f k) x 0) piece
flat_at f size a (suc n) (suc t) x long inside below =
    let here = long a in
    let more : suc t * size ≡ size + t * size = grind arith in
    let place : suc t * size + x ≡ length (f a) + (t * size + x) = omega arith in
    let piece : a + 1 + t ≡ a + suc t = omega arith in
    ap (λ (k : ℕ). get_or (f a ++ flat_map f (range_with_len (a + 1) n)) k 0) place
    ∙ get_or-append-add (f a) (flat_map f (range_with_len (a + 1) n)) (t * size + x) 0
    ∙ flat_at f size (a + 1) n t x long (omega arith) below
    ∙ ap (λ (k : ℕ). get_or (f k) x 0) piece

-- byte x of member sector t in the image of a slot
pub byte_of_image : (volume : ℕ → List ℕ) (head : Head) (rows slot t x : ℕ) → IsVolume volume → t < rows * head.chunk → x < 512 →
    get_or (image_of volume head rows slot) (512 * (head.offset + t) + x) 0 ≡ slot_byte volume head t x slot
unfolding image_of
byte_of_image volume head rows slot t x is inside below =
    let front : List ℕ = replicate (512 * head.offset) 0 in
    let long : length front ≡ 512 * head.offset = length-replicate {A = ℕ} (512 * head.offset) 0 in
    let place : 512 * (head.offset + t) + x ≡ length front + (t * 512 + x) = omega arith in
    let first : 0 + t ≡ t = omega arith in
    ap (λ (k : ℕ). get_or (front ++ flat_map (member_sector volume head slot) (range_with_len 0 (rows * head.chunk))) k 0) place
    ∙ get_or-append-add front (flat_map (member_sector volume head slot) (range_with_len 0 (rows * head.chunk))) (t * 512 + x) 0
    ∙ flat_at (member_sector volume head slot) 512 0 (rows * head.chunk) t x (λ s. member_long volume head slot s is) inside below
    ∙ ap (λ (s : ℕ). slot_byte volume head s x slot) first

-- image i of those that are generated
image_at : (number : ℕ) (geo : Geometry) (rows : ℕ) (xfs : Bool) (i : ℕ) → i < held geo.slots.items →
    get_or (sampled_bytes number geo rows xfs) i [] ≡ sampled_image number geo rows xfs i
unfolding sampled
image_at number geo rows xfs i below =
    let file : ℕ → List ℕ × List ℕ = λ image. (decimal image, sampled_image number geo rows xfs image) in
    let long = length-map-range_with_len file 0 (held geo.slots.items) in
    get_or-map (λ (f : List ℕ × List ℕ). f.1) (map file (range_with_len 0 (held geo.slots.items))) i ([], []) [] (omega arith)
    ∙ ap (λ (f : List ℕ × List ℕ). f.1) (get_or-map-range_with_len file 0 (held geo.slots.items) i i ([], []) below (omega arith))

-- no slot before holds an image that does not stand there
other : (m i : ℕ) → (i == m) ≡ false → (m == i) ≡ false
other m i e = elim (cases_eq m i) [
  | inl same ↦ (let bad : true ≡ false = sym (eq-eqb i m (sym same)) ∙ e in cc)
  | inr ne ↦ ne_eqb m i ne
]

neither : (a b : Bool) → (a || b) ≡ false → (a ≡ false) × (b ≡ false)
neither true b e = let bad : true ≡ false = e in (bad, (cc))
neither false b e = (refl, e)

not_before : (slots : List (Option ℕ)) (k j i : ℕ) → stands i (take k slots) ≡ false → j < k → holds i (get_or slots j None) ≡ false
unfolding stands
not_before [] k j i off before = refl
not_before (held ∷ slots) zero j i off before = absurd (omega arith)
not_before (None ∷ slots) (suc k) zero i off before = refl
not_before (None ∷ slots) (suc k) (suc j) i off before = not_before slots k j i off (omega arith)
not_before (Some m ∷ slots) (suc k) zero i off before = other m i (neither (i == m) (stands i (take k slots)) off).0
not_before (Some m ∷ slots) (suc k) (suc j) i off before = not_before slots k j i (neither (i == m) (stands i (take k slots)) off).1 (omega arith)

-- the slot that an image is made for is the one that holds it
slot_is : (geo : Geometry) (images k i : ℕ) → is_shaped geo images ≡ true → k < length geo.slots.items → get_or geo.slots.items k None ≡ Some i → slot_of geo i ≡ k
slot_is geo images k i shaped below at =
    let off = shaped_once geo images k i shaped below at in
    ap (λ (o : Option ℕ). unwrap_or o 0)
    (held_first i k geo.slots.items below (λ j before. not_before geo.slots.items k j i off before)
    (ap (λ (o : Option ℕ). holds i o) at ∙ eq-eqb i i refl))

-- what a slot's image has in column x of row t
pub slot_read : (number : ℕ) (geo : Geometry) (rows : ℕ) (xfs : Bool) (t x k i : ℕ) → is_shaped geo (held geo.slots.items) ≡ true → t < rows * geo.head.chunk → x < 512 →
    k < length geo.slots.items → get_or geo.slots.items k None ≡ Some i →
    member_byte (sampled_bytes number geo rows xfs) geo.head.offset t x (Some i) ≡ slot_byte (generated number geo.head rows xfs) geo.head t x k
slot_read number geo rows xfs t x k i shaped inside below there at =
    let P : Option ℕ → Type 0 = λ slot. IfSome slot (λ j. j < held geo.slots.items) in
    let small : i < held geo.slots.items = subst P at (shaped_images geo (held geo.slots.items) shaped k None there) in
    ap (λ (xs : List ℕ). get_or xs (512 * (geo.head.offset + t) + x) 0) (image_at number geo rows xfs i small)
    ∙ byte_of_image (generated number geo.head rows xfs) geo.head rows (slot_of geo i) t x (λ v. sector_is number _ v) inside below
    ∙ ap (λ (s : ℕ). slot_byte (generated number geo.head rows xfs) geo.head t x s) (slot_is geo (held geo.slots.items) k i shaped there at)
