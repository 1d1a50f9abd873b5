-- Slots of which none names an image that is not there.
use Rattle.std.proofs.Common.{◌≡◌, ℕ, zero, suc, ◌+◌, ◌≤◌, ◌<◌, List, length, cond, ap, sym, ◌∙◌, refl, arith, Option, Some, None, true, false, Bool, All, IfSome, get_or, slice_index_or, subst, inl, inr}
use Rattle.std.proofs.lemmas.Bool.{cases_lt, cases_Bool}
use Rattle.std.proofs.lemmas.List.{get_or_default}
use Rattle.std.proofs.lemmas.Bool.Decides.{nat_tests}
use Rattle.std.specs.List.{find, range_with_len}
use Rattle.std.specs.Option.{option_map_or, option_and_then}
use Rattle.std.specs.Prelude.{nat_le}
use Rattle.raid_params.specs.Validity.{first_absent, is_absent}

-- what a search in a range finds passes
found_passes : (p : ℕ → Bool) (a n at : ℕ) → find p (range_with_len a n) ≡ Some at → p at ≡ true
found_passes p a zero at h = absurd (cc)
found_passes p a (suc n) at h =
    elim (cases_Bool (p a)) [
      | inl is ↦ (let e : Some a ≡ Some at = sym (ap (λ (b : Bool). cond b (Some a) (find p (range_with_len (a + 1) n))) is) ∙ h in let same : a ≡ at = cc in ap p (sym same) ∙ is)
      | inr is ↦ found_passes p (a + 1) n at (sym (ap (λ (b : Bool). cond b (Some a) (find p (range_with_len (a + 1) n))) is) ∙ h)
    ]

-- and where it finds nothing no number passes
found_none : (p : ℕ → Bool) (a n k : ℕ) → find p (range_with_len a n) ≡ None → a ≤ k → k < a + n → p k ≡ false
found_none p a zero k h from to = absurd (omega arith)
found_none p a (suc n) k h from to =
    elim (cases_Bool (p a)) [
      | inl is ↦ absurd (let e : Some a ≡ None = sym (ap (λ (b : Bool). cond b (Some a) (find p (range_with_len (a + 1) n))) is) ∙ h in cc)
      | inr is ↦ (let rest : find p (range_with_len (a + 1) n) ≡ None = sym (ap (λ (b : Bool). cond b (Some a) (find p (range_with_len (a + 1) n))) is) ∙ h in
          elim (cases_lt a k) [
            | inl more ↦ found_none p (a + 1) n k rest (omega arith) (omega arith)
            | inr same ↦ (let e : a ≡ k = omega arith in ap p (sym e) ∙ is)
          ])
    ]

below : (i images : ℕ) → nat_le images i ≡ false → i < images
below i images h = grind (arith, nat_tests)

there : (images : ℕ) (slot : Option ℕ) → option_map_or (λ i. nat_le images i) slot false ≡ false → IfSome slot (λ i. i < images)
there images None h = tt
there images (Some i) h = below i images h

absent_some : (images : ℕ) (slot : Option ℕ) → option_map_or (λ i. nat_le images i) slot false ≡ true → slot ≡ None → ⊥
absent_some images None h e = absurd (cc)
absent_some images (Some i) h e = absurd (cc)

-- each holds an image below `images` or none
pub absent_below : (images : ℕ) (slots : List (Option ℕ)) → first_absent images slots ≡ None → All (λ slot. IfSome slot (λ i. i < images)) slots
absent_below images slots h = λ k d lt. at_place k d lt (find (is_absent images slots) (range_with_len 0 (length slots))) refl
  where
    at_place : (k : ℕ) (d : Option ℕ) → k < length slots → (r : Option ℕ) → find (is_absent images slots) (range_with_len 0 (length slots)) ≡ r → IfSome (get_or slots k d) (λ i. i < images)
    at_place k d lt None e =
        let is : is_absent images slots k ≡ false = found_none (is_absent images slots) 0 (length slots) k e (omega arith) (omega arith) in
        let P : Option ℕ → Type 0 = λ slot. IfSome slot (λ i. i < images) in
        subst P (get_or_default slots k None d lt) (there images (slice_index_or slots k None) is)
    at_place k d lt (Some at) e =
        absurd (absent_some images (slice_index_or slots at None) (found_passes (is_absent images slots) 0 (length slots) at e)
        (sym (ap (option_and_then (λ at. slice_index_or slots at None)) e) ∙ h))
