-- The exclusive or of the sectors of all images at a place.
use Rattle.std.proofs.Common.{ℕ, zero, suc, inl, inr, ◌≡◌, ◌<◌, ◌+◌, ◌*◌, ◌-◌, Bool, false, List, length, map, set, drop, get_or, bit_xor, replicate, refl, sym, ap, subst, ◌∙◌, arith, add-one, slice_range}
use Rattle.std.proofs.lemmas.Bool.{cases_lt}
use Rattle.std.proofs.lemmas.List.{ext_get_or, get_or-drop, get_or-replicate, get_or-set_other, get_or-set_same, get_or-take}
use Rattle.std.proofs.lemmas.Simd.{get_or-zip2}
use Rattle.std.specs.Bool.{Decides}
use Rattle.std.specs.List.{range_with_len}
use Rattle.std.specs.Simd.Lanes.{zip2}
use Rattle.gf256.proofs.Sums.{sum_associates, sum_commutes}
use Rattle.member_regions.specs.ImageSums.{all_sum, IsBlankAt, room_byte, sum_byte, xor_all}
use Rattle.member_regions.specs.Regions.{Room}
use Rattle.member_regions.specs.declared.image_sums.ImageSum.{ImageSum}

-- no image
pub sum_none : (f : ℕ → ℕ) → all_sum f 0 ≡ 0
unfolding xor_all
sum_none f = refl

sum_from : (f : ℕ → ℕ) (a n : ℕ) → xor_all (map f (range_with_len a (suc n))) ≡ bit_xor (xor_all (map f (range_with_len a n))) (f (a + n))
unfolding xor_all
sum_from f a zero = let at : a + 0 ≡ a = omega arith in ap (λ (k : ℕ). bit_xor (f k) 0) (sym at) ∙ sum_commutes (f (a + 0)) 0
sum_from f a (suc n) =
    let at : a + 1 + n ≡ a + suc n = omega arith in
    ap (bit_xor (f a)) (sum_from f (a + 1) n ∙ ap (λ (k : ℕ). bit_xor (xor_all (map f (range_with_len (a + 1) n))) (f k)) at)
    ∙ sym (sum_associates (f a) (xor_all (map f (range_with_len (a + 1) n))) (f (a + suc n)))

-- one more image
pub sum_next : (f : ℕ → ℕ) (n : ℕ) → all_sum f (suc n) ≡ bit_xor (all_sum f n) (f n)
sum_next f n = let at : 0 + n ≡ n = omega arith in sum_from f 0 n ∙ ap (λ (k : ℕ). bit_xor (all_sum f n) (f k)) at

-- the sector of a region
region_at : (room : Room) (region : List ℕ) (image place x : ℕ) → region ≡ slice_range room.bytes (room.stride * image + 512 * place) (room.stride * image + 512 * place + 512 * 1) → x < 512 →
    get_or region x 0 ≡ room_byte room (512 * place + x) image
region_at room region image place x is below =
    let from = room.stride * image + 512 * place in
    let at : from + x ≡ room.stride * image + (512 * place + x) = omega arith in
    ap (λ (xs : List ℕ). get_or xs x 0) is ∙ get_or-take (from + 512 * 1 - from) (drop from room.bytes) x 0 (omega arith) ∙ get_or-drop from room.bytes x 0
    ∙ ap (λ (k : ℕ). get_or room.bytes k 0) at

-- no image, no sum
pub summed_none : (room : Room) (place x : ℕ) → x < 512 → get_or (replicate 512 0) x 0 ≡ sum_byte room 0 place x
summed_none room place x below = get_or-replicate 512 x 0 0 below ∙ sym (sum_none (room_byte room (512 * place + x)))

-- one more sector
pub summed_more : (room : Room) (sum region : List ℕ) (image place x : ℕ) → length sum ≡ 512 → length region ≡ 512 * 1 →
    region ≡ slice_range room.bytes (room.stride * image + 512 * place) (room.stride * image + 512 * place + 512 * 1) → get_or sum x 0 ≡ sum_byte room image place x → x < 512 →
    get_or (zip2 bit_xor sum region) x 0 ≡ sum_byte room (image + 1) place x
summed_more room sum region image place x long long' is so_far below =
    get_or-zip2 bit_xor sum region x 0 0 0 (omega arith) (omega arith)
    ∙ ap (λ (a : ℕ). bit_xor a (get_or region x 0)) so_far
    ∙ ap (bit_xor (sum_byte room image place x)) (region_at room region image place x is below)
    ∙ sym (rw add-one (sum_next (room_byte room (512 * place + x)) image))

-- what holds of the bytes of each region so far holds of those of one more
pub each_more : (P : ℕ → Type 0) (room : Room) (region : List ℕ) (image place : ℕ) → ((x : ℕ) → x < 512 → P (get_or region x 0)) →
    region ≡ slice_range room.bytes (room.stride * image + 512 * place) (room.stride * image + 512 * place + 512 * 1) →
    ((i x : ℕ) → i < image → x < 512 → P (room_byte room (512 * place + x) i)) → (i x : ℕ) → i < image + 1 → x < 512 → P (room_byte room (512 * place + x) i)
each_more P room region image place here is before i x inside below =
    elim (cases_lt i image) [
      | inl less ↦ before i x less below
      | inr more ↦
          (let at : i ≡ image = omega arith in
          subst (λ (k : ℕ). P (room_byte room (512 * place + x) k)) (sym at) (subst (λ (b : ℕ). P b) (region_at room region image place x is below) (here x below)))
    ]

-- where the sector of one region is not zeros, not all are
pub not_blank : (room : Room) (region : List ℕ) (n image place : ℕ) (flag : Bool) → image < n → length region ≡ 512 * 1 →
    region ≡ slice_range room.bytes (room.stride * image + 512 * place) (room.stride * image + 512 * place + 512 * 1) →
    Decides flag ((x : ℕ) → x < length region → get_or region x 0 ≡ 0) → flag ≡ false → Decides false (IsBlankAt room n place)
not_blank room region n image place flag inside long is decides fails = (
  λ holds. absurd (cc),
  λ blank. sym fails ∙ decides.1 (λ x below. region_at room region image place x is (omega arith) ∙ blank image x inside (omega arith)),
)

-- whether the sum is the sector of a region
pub is_sector : (room : Room) (sum region : List ℕ) (n image place : ℕ) (flag : Bool) → length sum ≡ 512 → length region ≡ 512 * 1 →
    region ≡ slice_range room.bytes (room.stride * image + 512 * place) (room.stride * image + 512 * place + 512 * 1) → ((x : ℕ) → x < 512 → get_or sum x 0 ≡ sum_byte room n place x) →
    Decides flag (sum ≡ region) → Decides flag ((x : ℕ) → x < 512 → sum_byte room n place x ≡ room_byte room (512 * place + x) image)
is_sector room sum region n image place flag long long' is sums decides = (
  λ holds x below. sym (sums x below) ∙ ap (λ (xs : List ℕ). get_or xs x 0) (decides.0 holds) ∙ region_at room region image place x is below,
  λ same. decides.1 (ext_get_or 0 sum region (omega arith)
      (λ x inside. let below : x < 512 = omega arith in sums x below ∙ same x below ∙ sym (region_at room region image place x is below))),
)

-- one more flag
pub flags_more : (P : ℕ → Bool → Type 0) (flags : List Bool) (n : ℕ) (flag : Bool) → n < length flags → ((i : ℕ) → i < n → P i (get_or flags i false)) → P n flag →
    (i : ℕ) → i < n + 1 → P i (get_or (set flags n flag) i false)
flags_more P flags n flag inside before here i below =
    elim (cases_lt i n) [
      | inl less ↦ rw (get_or-set_other flags n i flag false (omega arith)) (before i less)
      | inr more ↦ (let at : i ≡ n = omega arith in rw (at, get_or-set_same flags n flag false inside) here)
    ]

-- one more place
pub places_more : (P : ℕ → ImageSum → Type 0) (sums : List ImageSum) (n : ℕ) (sum : ImageSum) → n < length sums → ((i : ℕ) (d : ImageSum) → i < n → P i (get_or sums i d)) → P n sum →
    (i : ℕ) (d : ImageSum) → i < n + 1 → P i (get_or (set sums n sum) i d)
places_more P sums n sum inside before here i d below =
    elim (cases_lt i n) [
      | inl less ↦ rw (get_or-set_other sums n i sum d (omega arith)) (before i d less)
      | inr more ↦ (let at : i ≡ n = omega arith in rw (at, get_or-set_same sums n sum d inside) here)
    ]
