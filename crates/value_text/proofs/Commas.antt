-- Values with a separator between them.
use Rattle.std.proofs.Common.{◌≡◌, ◌≤◌, ◌-◌, ℕ, suc, List, [], ◌∷◌, ◌++◌, length, take, drop, get_or, map, ap, sym, append-nil, append_assoc, ◌∙◌, arith}
use Rattle.std.specs.List.{flat_map, join_with_byte}
use Rattle.std.proofs.lemmas.List.{take_all}

-- the first value, and then the others with a separator before each
joined : {A : Type 0} (separator : ℕ) (name : A → List ℕ) (x : A) (xs : List A) → name x ++ flat_map (λ y. separator ∷ name y) xs ≡ join_with_byte separator (map name (x ∷ xs))
joined separator name x [] = append-nil (name x)
joined separator name x (y ∷ xs) = ap (λ (rest : List ℕ). name x ++ separator ∷ rest) (joined separator name y xs)

-- the same of a list that a pattern has taken apart
pub with_separators : {A : Type 0} (separator : ℕ) (name : A → List ℕ) (text : List ℕ) (x : A) (xs : List A) → 1 ≤ length xs → get_or xs 0 x ≡ x →
    (text ++ name x) ++ flat_map (λ y. separator ∷ name y) (take (length xs - 1) (drop 1 xs)) ≡ text ++ join_with_byte separator (map name xs)
with_separators separator name text x [] some first = absurd (omega arith)
with_separators {A = A} separator name text x (y ∷ xs) some first =
    let rest : take (suc (length xs) - 1) xs ≡ xs = take_all (suc (length xs) - 1) xs (omega arith) in
    ap (λ (z : A). (text ++ name z) ++ flat_map (λ w. separator ∷ name w) (take (suc (length xs) - 1) xs)) (sym first)
    ∙ ap (λ (others : List A). (text ++ name y) ++ flat_map (λ w. separator ∷ name w) others) rest
    ∙ append_assoc text (name y) (flat_map (λ w. separator ∷ name w) xs) ∙ ap (λ (more : List ℕ). text ++ more) (joined separator name y xs)
