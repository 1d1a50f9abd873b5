-- Where a separator stands first in a text.
use Rattle.std.proofs.Common.{◌≡◌, ◌≢◌, ℕ, List, [], ◌∷◌, ◌++◌, All, refl}
use Rattle.std.proofs.lemmas.List.Elements.{All-head, All-tail}

abbrev IsOther : ℕ → ℕ → Type 0
IsOther separator byte = byte ≢ separator

-- no byte of it is the separator
abbrev pub IsWithout : ℕ → List ℕ → Type 0
IsWithout separator bytes = All (λ byte. byte ≢ separator) bytes

pub has_separator : (separator : ℕ) (word rest : List ℕ) → IsWithout separator (word ++ separator ∷ rest) → ⊥
has_separator separator [] rest all = All-head (IsOther separator) separator rest all refl
has_separator separator (b ∷ word) rest all = has_separator separator word rest (All-tail (IsOther separator) b (word ++ separator ∷ rest) all)

-- the first separator is in one place
pub first_separator : (separator : ℕ) (xs ys after_x after_y : List ℕ) → IsWithout separator xs → IsWithout separator ys → xs ++ separator ∷ after_x ≡ ys ++ separator ∷ after_y → (xs ≡ ys) × (after_x ≡ after_y)
first_separator separator [] [] u v p q e = (refl, cc)
first_separator separator [] (y ∷ ys) u v p q e = let same : y ≡ separator = cc in absurd (All-head (IsOther separator) y ys q same)
first_separator separator (x ∷ xs) [] u v p q e = let same : x ≡ separator = cc in absurd (All-head (IsOther separator) x xs p same)
first_separator separator (x ∷ xs) (y ∷ ys) u v p q e =
    let head : x ≡ y = cc in
    let tail : xs ++ separator ∷ u ≡ ys ++ separator ∷ v = cc in
    let more = first_separator separator xs ys u v (All-tail (IsOther separator) x xs p) (All-tail (IsOther separator) y ys q) tail in
    let front : xs ≡ ys = more.0 in
    (cc, more.1)
