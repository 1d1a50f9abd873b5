-- What a mask of lanes that are not 0 says of them.
use Rattle.std.proofs.Common.{ℕ, ◌≢◌, ◌<◌, ◌+◌, ◌*◌, List, [], ◌∷◌, length, map, get_or, suc, refl, ap, ◌∙◌, arith, inl, inr, eqb, not, cond}
use Rattle.std.proofs.lemmas.Bool.{cases_eq}
use lib.Lanes.{mask_l}

pub some_from_mask : (xs : List ℕ) → mask_l (map (λ x. not (eqb x 0)) xs) ≢ 0 → (k : ℕ) × (k < length xs) × (get_or xs k 0 ≢ 0)
some_from_mask [] ne = absurd (ne refl)
some_from_mask (x ∷ xs) ne =
    elim (cases_eq x 0) [
      | inl z ↦
          (let later = some_from_mask xs (λ e. ne (
          ap (λ (y : ℕ). cond (not (eqb y 0)) 1 0 + 2 * mask_l (map (λ w. not (eqb w 0)) xs)) z ∙ ap (λ (m : ℕ). 0 + 2 * m) e)) in
          (suc later.0, omega (arith, later.1), later.2))
      | inr n ↦ (0, omega arith, n)
    ]
