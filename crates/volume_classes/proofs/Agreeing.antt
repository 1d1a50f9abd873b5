-- Coefficients that are compared side by side.
use Rattle.std.proofs.Common.{ℕ, ◌≡◌, ◌<◌, ◌≤◌, ◌↔◌, List, length, get_or, take, slice_index, sym, ap, ◌∙◌, arith, false, true}
use Rattle.std.proofs.lemmas.Bool.{false≢true}
use Rattle.std.proofs.lemmas.List.{ext_get_or, get_or-take, length-take-le}

-- fronts are equal byte by byte
pub front_to : (count : ℕ) (left right : List ℕ) → take count left ≡ take count right → (at : ℕ) → at < count → slice_index left at ≡ slice_index right at
front_to count left right same at lt = sym (get_or-take count left at 0 lt) ∙ ap (λ (xs : List ℕ). get_or xs at 0) same ∙ get_or-take count right at 0 lt

pub front_from : (count : ℕ) (left right : List ℕ) → count ≤ length left → count ≤ length right → ((at : ℕ) → at < count → slice_index left at ≡ slice_index right at) → take count left ≡ take count right
front_from count left right left_long right_long each =
    let a = length-take-le count left left_long in
    let b = length-take-le count right right_long in
    ext_get_or 0 (take count left) (take count right) (a ∙ sym b) (λ at lt.
    let inside : at < count = omega arith in
    get_or-take count left at 0 inside ∙ each at inside ∙ sym (get_or-take count right at 0 inside))

-- what does not hold answers false
pub answers_false : {P : Type 0} → (P → ⊥) → (false ≡ true) ↔ P
answers_false off = (λ e. absurd (false≢true e), λ p. absurd (off p))
