-- The columns of a sound row of an array that misses no member.
use Rattle.std.proofs.Common.{◌≡◌, ℕ, zero, suc, ◌+◌, ◌*◌, ◌<◌, ◌≤◌, List, [], ◌∷◌, ◌++◌, map, filter, cond, arith, ap, ap₂, sym, refl, subst, ◌∙◌, Bool, true, false, not, ◌==◌, ◌||◌, nat_eq, Option, Some, None, inl, inr, bit_xor}
use Rattle.std.proofs.lemmas.Bool.{and_parts, cases_eq, eqb-true}
use Rattle.std.specs.Int.Bits.{xor_zero_l}
use Rattle.std.specs.List.{list_all, list_any, range_with_len, slice_index, slice_index_or}
use Rattle.gf256.proofs.Sums.{sum_associates, sum_commutes}
use Rattle.raid_params.specs.Slots.{empties}
use Rattle.raid_params.specs.declared.types.Cell.{Cell}
use Rattle.raid_params.specs.declared.types.Head.{Head}
use Rattle.raid_params.specs.declared.types.Part.TheVariants.{Block, P, Q}
use Rattle.raid_terms.specs.Cells.{cells_from, stands_in, weight_at}
use Rattle.raid_terms.specs.Parity.{equations_hold, filled, has_p, in_p, is_sound, is_sound_column, member_byte, p_holds, q_holds, sum_of}
use Rattle.raid_terms.specs.Role.{p_of, q_of}
use Rattle.member_regions.specs.ImageSums.{xor_all}
use Rattle.xor_tables.specs.Rows.{differ, xor_byte}
use Rattle.slot_math.proofs.Placed.{IsSum, placed, total}

pub xor_is : IsSum bit_xor
xor_is = record {
  swap = λ a b c. sym (sum_associates a b c) ∙ ap (λ (x : ℕ). bit_xor x c) (sum_commutes a b) ∙ sum_associates b a c;
  unit = λ a. xor_zero_l a;
}

-- where no place is empty, a row is filled in one way
pub filled_once : (images : List (List ℕ)) (offset t x : ℕ) (head : Head) (row slot : ℕ) (places : List (Option ℕ)) → empties places ≡ 0 →
    filled (cells_from head row slot places) (map (member_byte images offset t x) places) ≡ map (member_byte images offset t x) places ∷ []
unfolding filled empties
filled_once images offset t x head row slot [] none = refl
filled_once images offset t x head row slot (None ∷ places) none = absurd (omega arith)
filled_once images offset t x head row slot (Some i ∷ places) none =
    ap (λ (l : List (List ℕ)). map (λ rest. member_byte images offset t x (Some i) ∷ rest) l ++ []) (filled_once images offset t x head row (slot + 1) places none)

or_false : (b : Bool) → (b || false) ≡ true → b ≡ true
or_false true e = refl
or_false false e = e

not_or : (a b : Bool) → a ≡ true → (not a || b) ≡ true → b ≡ true
not_or true b e f = f
not_or false b e f = (cc)

-- the equation of P holds in a sound column
pub p_sum : (cells : List Cell) (bytes : List ℕ) → filled cells bytes ≡ bytes ∷ [] → has_p cells ≡ true → is_sound_column cells bytes ≡ true → sum_of in_p cells bytes ≡ 0
p_sum cells bytes once there sound =
    let held : (equations_hold cells bytes || false) ≡ true = ap (λ (l : List (List ℕ)). list_any (equations_hold cells) l) (sym once) ∙ sound in
    let both = and_parts (p_holds cells bytes) (q_holds cells bytes) (or_false (equations_hold cells bytes) held) in
    eqb-true (sum_of in_p cells bytes) 0 (not_or (has_p cells) (nat_eq (sum_of in_p cells bytes) 0) there both.0)

part_adds : (p q : Bool) (k byte : ℕ) → (p ≡ true → q ≡ false) → in_p (cond p P (cond q Q (Block k))) byte ≡ cond q 0 byte
part_adds true true k byte apart = let bad = apart refl in (cc)
part_adds true false k byte apart = refl
part_adds false true k byte apart = refl
part_adds false false k byte apart = refl

-- what the slots add to that sum: each its image's byte, but for Q
abbrev pub byte_of : List (List ℕ) → ℕ → ℕ → ℕ → ℕ
byte_of images sector x i = slice_index (slice_index_or images i []) (512 * sector + x)

pub p_places : (images : List (List ℕ)) (offset t x : ℕ) (head : Head) (row slot : ℕ) (places : List (Option ℕ)) → empties places ≡ 0 →
    ((s : ℕ) → stands_in s (p_of head row) ≡ true → stands_in s (q_of head row) ≡ false) →
    sum_of in_p (cells_from head row slot places) (map (member_byte images offset t x) places)
    ≡ placed bit_xor (λ s i. cond (stands_in s (q_of head row)) 0 (byte_of images (offset + t) x i)) slot places
unfolding sum_of placed empties
p_places images offset t x head row slot [] none apart = refl
p_places images offset t x head row slot (None ∷ places) none apart = absurd (omega arith)
p_places images offset t x head row slot (Some i ∷ places) none apart =
    ap₂ bit_xor (part_adds (stands_in slot (p_of head row)) (stands_in slot (q_of head row)) (weight_at head.level head row slot) (byte_of images (offset + t) x i) (apart slot))
    (p_places images offset t x head row (slot + 1) places none apart)

-- where no column differs, the images do not
pub none_differ : (images : List (List ℕ)) (numbers : List ℕ) (sector : ℕ) → ((x : ℕ) → x < 512 → xor_byte images numbers (512 * sector + x) ≡ 0) → differ images numbers sector ≡ false
unfolding differ
none_differ images numbers sector zero_at = none_of (λ x. not (nat_eq (xor_byte images numbers (512 * sector + x)) 0)) 0 512
    (λ x low high. ap (λ (b : Bool). not b) (ap (λ (n : ℕ). nat_eq n 0) (zero_at x (omega arith))))
  where
    none_of : (f : ℕ → Bool) (a n : ℕ) → ((x : ℕ) → a ≤ x → x < a + n → f x ≡ false) → list_any f (range_with_len a n) ≡ false
    none_of f a zero h = refl
    none_of f a (suc n) h = ap₂ (λ (b c : Bool). b || c) (h a (omega arith) (omega arith)) (none_of f (a + 1) n (λ x low high. h x (omega arith) (omega arith)))

all_at : (f : ℕ → Bool) (a n : ℕ) → list_all f (range_with_len a n) ≡ true → (x : ℕ) → a ≤ x → x < a + n → f x ≡ true
all_at f a zero h x low high = absurd (omega arith)
all_at f a (suc n) h x low high =
    let both = and_parts (f a) (list_all f (range_with_len (a + 1) n)) h in
    elim (cases_eq a x) [
      | inl e ↦ subst (λ (y : ℕ). f y ≡ true) e both.0
      | inr ne ↦ all_at f (a + 1) n both.1 x (omega arith) (omega arith)
    ]

-- each column of a sound row is sound
pub sound_at : (cells : List Cell) (column : ℕ → List ℕ) → is_sound cells column ≡ true → (x : ℕ) → x < 512 → is_sound_column cells (column x) ≡ true
unfolding is_sound
sound_at cells column sound x below = all_at (λ y. is_sound_column cells (column y)) 0 512 sound x (omega arith) (omega arith)

-- the exclusive or of some images, as a sum over all
pub xor_total : (f : ℕ → ℕ) (xs : List ℕ) → xor_all (map f xs) ≡ total bit_xor f xs
unfolding xor_all total
xor_total f [] = refl
xor_total f (x ∷ xs) = ap (bit_xor (f x)) (xor_total f xs)

pub xor_others : (f : ℕ → ℕ) (image : ℕ) (xs : List ℕ) → xor_all (map f (filter (λ i. not (i == image)) xs)) ≡ total bit_xor (λ i. cond (i == image) 0 (f i)) xs
unfolding xor_all total
xor_others f image [] = refl
xor_others f image (x ∷ xs) = pick (x == image) (xor_others f image xs)
  where
    pick : (b : Bool) → xor_all (map f (filter (λ i. not (i == image)) xs)) ≡ total bit_xor (λ i. cond (i == image) 0 (f i)) xs →
        xor_all (map f (cond (not b) (x ∷ filter (λ i. not (i == image)) xs) (filter (λ i. not (i == image)) xs))) ≡ bit_xor (cond b 0 (f x)) (total bit_xor (λ i. cond (i == image) 0 (f i)) xs)
    pick true h = h ∙ sym (xor_zero_l (total bit_xor (λ i. cond (i == image) 0 (f i)) xs))
    pick false h = ap (bit_xor (f x)) h
