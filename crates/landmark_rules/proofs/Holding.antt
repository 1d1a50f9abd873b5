-- The slot that holds an image.
use Rattle.std.proofs.Common.{◌≡◌, ℕ, ◌<◌, List, length, get_or, cond, arith, ap, refl, ◌∙◌, Bool, true, false, nat_lt, Option, Some, None}
use Rattle.std.proofs.lemmas.Bool.Decides.{nat_tests}
use Rattle.std.proofs.lemmas.List.Sums.{position_or_len_is}
use Rattle.std.specs.List.{position_or_len}
use Rattle.std.specs.Option.{option_map_or}
use Rattle.std.specs.Prelude.{◌==◌}
use Rattle.landmark_rules.specs.Marks.{slot_holding}

-- the slot holds the image
abbrev pub holds : ℕ → Option ℕ → Bool
holds image held = option_map_or (λ i. i == image) held false

taken : (t : Bool) (x : Option ℕ) → t ≡ true → cond t x None ≡ x
taken true x e = refl
taken false x e = (cc)

left : (t : Bool) (x : Option ℕ) → t ≡ false → cond t x None ≡ None
left false x e = refl
left true x e = (cc)

pub held_first : (image i : ℕ) (slots : List (Option ℕ)) → i < length slots → ((k : ℕ) → k < i → holds image (get_or slots k None) ≡ false) →
    holds image (get_or slots i None) ≡ true → slot_holding image slots ≡ Some i
unfolding slot_holding
held_first image i slots below before here =
    let at : position_or_len (holds image) slots ≡ i = position_or_len_is (holds image) slots i None (omega arith) before (λ h. here) in
    let inside : nat_lt (position_or_len (holds image) slots) (length slots) ≡ true = grind (arith, nat_tests) in
    taken (nat_lt (position_or_len (holds image) slots) (length slots)) (Some (position_or_len (holds image) slots)) inside ∙ ap (λ (k : ℕ). Some k) at

pub held_nowhere : (image : ℕ) (slots : List (Option ℕ)) → ((k : ℕ) → k < length slots → holds image (get_or slots k None) ≡ false) → slot_holding image slots ≡ None
unfolding slot_holding
held_nowhere image slots before =
    let at : position_or_len (holds image) slots ≡ length slots = position_or_len_is (holds image) slots (length slots) None (omega arith) before (λ h. absurd (omega arith)) in
    let outside : nat_lt (position_or_len (holds image) slots) (length slots) ≡ false = grind (arith, nat_tests) in
    left (nat_lt (position_or_len (holds image) slots) (length slots)) (Some (position_or_len (holds image) slots)) outside
