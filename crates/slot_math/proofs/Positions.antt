-- The position of a list in its space.
use Rattle.std.proofs.Common.{rules, ℕ, ◌≡◌, ◌≢◌, ◌<◌, List, [], ◌∷◌, length, refl, sym, ap, ap₂, ◌∙◌, arith, Bool, true, false, ◌&&◌, ◌==◌, nat_le, nat_lt, cond, Option, Some, None, slice_get, get_or, inl, inr}
use Rattle.std.specs.List.{position, position_or_len}
use Rattle.std.proofs.lemmas.Bool.{cases_Bool, and_parts, eqb-true, eq-eqb, lt-ltb, le-ltb}
use Rattle.std.proofs.lemmas.Option.{slice_get_within, get_or_from_slice_get, slice_get-get_or}
use Rattle.std.proofs.lemmas.List.Sums.{position_or_len_is}
use Rattle.std.proofs.lemmas.List.Quantifiers.{position-Some}
use Rattle.raid_params.specs.Slots.{is_distinct, empties}
use Rattle.slot_math.specs.Space.{lists_of, same_place, same_slots, rank_in}
use Rattle.slot_math.specs.Ways.{is_listed, are_images}
use Rattle.slot_math.specs.declared.space.Space.{Space}
use Rattle.slot_math.proofs.Once.{each_once}
use Rattle.slot_math.proofs.Listed.{listed}
use Rattle.slot_math.proofs.Completions.{are_all_images}

same_is : (a b : List (Option ℕ)) → same_slots a b ≡ true → a ≡ b
unfolding same_slots same_place
same_is [] [] h = refl
same_is [] (q ∷ b) h = absurd (search rules)
same_is (p ∷ a) [] h = absurd (search rules)
same_is (None ∷ a) (None ∷ b) h = ap (λ (t : List (Option ℕ)). None ∷ t) (same_is a b h)
same_is (None ∷ a) (Some k ∷ b) h = absurd (search rules)
same_is (Some i ∷ a) (None ∷ b) h = absurd (search rules)
same_is (Some i ∷ a) (Some k ∷ b) h =
    let parts = and_parts (k == i) (same_slots a b) h in
    ap₂ (λ (x : ℕ) (t : List (Option ℕ)). Some x ∷ t) (sym (eqb-true k i parts.0)) (same_is a b parts.1)

is_same : (a : List (Option ℕ)) → same_slots a a ≡ true
unfolding same_slots same_place
is_same [] = refl
is_same (None ∷ a) = is_same a
is_same (Some i ∷ a) = ap₂ (λ (x y : Bool). x && y) (eq-eqb i i refl) (is_same a)

not_there : (l : List (Option ℕ)) (xs : List (List (Option ℕ))) (n k : ℕ) → k < length xs → (slice_get xs k ≢ Some l) → same_slots l (get_or xs k []) ≡ false
not_there l xs n k lt ne = elim (cases_Bool (same_slots l (get_or xs k []))) [
  | inl t ↦ absurd (ne (slice_get-get_or xs k [] lt ∙ ap (λ x. Some x) (sym (same_is l (get_or xs k []) t))))
  | inr f ↦ f
]

-- the first position
position_at : (l : List (Option ℕ)) (xs : List (List (Option ℕ))) (i : ℕ) → slice_get xs i ≡ Some l → ((k : ℕ) → slice_get xs k ≡ Some l → k ≡ i) → position (same_slots l) xs ≡ Some i
position_at l xs i e once =
    let lt : i < length xs = slice_get_within xs i l e in
    let n : position_or_len (same_slots l) xs ≡ i = position_or_len_is (same_slots l) xs i [] (omega arith)
    (λ k below. not_there l xs i k (omega arith) (λ f. let same : k ≡ i = once k f in omega arith))
    (λ within. ap (same_slots l) (get_or_from_slice_get xs i l [] e) ∙ is_same l) in
    ap (λ (k : ℕ). cond (nat_lt k (length xs)) (Some k) None) n ∙ ap (λ (b : Bool). cond b (Some i) None) (lt-ltb i (length xs) lt)

position_none : (l : List (Option ℕ)) (xs : List (List (Option ℕ))) → ((k : ℕ) → slice_get xs k ≢ Some l) → position (same_slots l) xs ≡ None
position_none l xs h =
    let n : position_or_len (same_slots l) xs ≡ length xs = position_or_len_is (same_slots l) xs (length xs) [] (omega arith)
    (λ k below. not_there l xs 0 k below (h k)) (λ within. absurd (omega arith)) in
    ap (λ (k : ℕ). cond (nat_lt k (length xs)) (Some k) None) n ∙ ap (λ (b : Bool). cond b (Some (length xs)) None) (le-ltb (length xs) (length xs) (omega arith))

-- an element is where its position says, and nowhere else
pub rank_of_element : (s : Space) (r : ℕ) (l : List (Option ℕ)) → slice_get (lists_of s) r ≡ Some l → rank_in s l ≡ Some r
rank_of_element s r l e = position_at l (lists_of s) r e (λ k f. each_once s.images s.members s.low s.high k r l f e)

pub element_of_rank : (s : Space) (r : ℕ) (l : List (Option ℕ)) → rank_in s l ≡ Some r → slice_get (lists_of s) r ≡ Some l
element_of_rank s r l e =
    let h = position-Some (same_slots l) (lists_of s) r [] e in
    slice_get-get_or (lists_of s) r [] h.0 ∙ ap (λ x. Some x) (sym (same_is l (get_or (lists_of s) r []) h.1))

-- what is in the space passes the test
pub in_space : (s : Space) (r : ℕ) (l : List (Option ℕ)) → slice_get (lists_of s) r ≡ Some l → is_listed s l ≡ true
in_space s r l e =
    let h = listed s.images s.members s.low s.high r l e in
    let kept = and_parts (is_distinct l) (nat_le s.low (empties l) && nat_le (empties l) s.high) h.2 in
    let bounds = and_parts (nat_le s.low (empties l)) (nat_le (empties l) s.high) kept.1 in
    all_five (length l == s.members) (are_images s.images l) (is_distinct l) (nat_le s.low (empties l)) (nat_le (empties l) s.high)
    (eq-eqb (length l) s.members h.0) (are_all_images s.images l h.1) kept.0 bounds.0 bounds.1
  where
    all_five : (a b c d e : Bool) → a ≡ true → b ≡ true → c ≡ true → d ≡ true → e ≡ true → (a && b && c && d && e) ≡ true
    all_five true true true true true p q r s t = refl
    all_five false b c d e p q r s t = absurd (search rules)
    all_five true false c d e p q r s t = absurd (search rules)
    all_five true true false d e p q r s t = absurd (search rules)
    all_five true true true false e p q r s t = absurd (search rules)
    all_five true true true true false p q r s t = absurd (search rules)

pub rank_of_other : (s : Space) (l : List (Option ℕ)) → is_listed s l ≡ false → None ≡ rank_in s l
rank_of_other s l h = sym (position_none l (lists_of s) (λ k e. let t : is_listed s l ≡ true = in_space s k l e in absurd (search rules)))
