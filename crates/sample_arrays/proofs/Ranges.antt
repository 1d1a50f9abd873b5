-- Lists that are made over ranges of numbers, and such ranges.
use Rattle.std.proofs.Common.{◌≡◌, ℕ, zero, suc, ◌+◌, List, [], ◌∷◌, ◌++◌, ap, ◌∙◌, append-nil, arith}
use Rattle.std.proofs.Math.Numerals.{add-one}
use Rattle.std.specs.List.{flat_map, range_with_len}
use Rattle.std.proofs.lemmas.Grind.{flat_map-append}

pub range_more : (a n : ℕ) → range_with_len a (suc n) ≡ range_with_len a n ++ (a + n) ∷ []
range_more a zero = let e : a ≡ a + 0 = omega arith in ap (λ (k : ℕ). k ∷ []) e
range_more a (suc n) =
    let e : a + 1 + n ≡ a + suc n = omega arith in
    ap (λ (l : List ℕ). a ∷ l) (range_more (a + 1) n ∙ ap (λ (k : ℕ). range_with_len (a + 1) n ++ k ∷ []) e)

-- one more number
pub flat_more : {A : Type 0} (f : ℕ → List A) (a n b : ℕ) → b ≡ a + n → flat_map f (range_with_len a (n + 1)) ≡ flat_map f (range_with_len a n) ++ f b
flat_more {A} f a n b e =
    let at : a + n ≡ b = omega arith in
    ap (λ (k : ℕ). flat_map f (range_with_len a k)) (add-one n)
    ∙ ap (λ (l : List ℕ). flat_map f l) (range_more a n ∙ ap (λ (k : ℕ). range_with_len a n ++ k ∷ []) at)
    ∙ flat_map-append f (range_with_len a n) (b ∷ [])
    ∙ ap (λ (l : List A). flat_map f (range_with_len a n) ++ l) (append-nil (f b))
