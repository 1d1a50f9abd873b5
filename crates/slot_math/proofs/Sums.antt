-- Sums over lists, and how many elements of a list pass a test.
use Rattle.std.proofs.Common.{ℕ, ◌≡◌, ◌<◌, ◌≤◌, ◌+◌, ◌*◌, List, [], ◌∷◌, ◌++◌, length, map, filter, refl, sym, ap, ◌∙◌, arith, zero, suc, Bool, true, false, ◌==◌, cond, add_assoc, zero-add, inl, inr}
use Rattle.std.proofs.Math.Nat.{zero-mul, suc-mul}
use Rattle.std.specs.List.{flat_map, range_with_len}
use Rattle.std.proofs.lemmas.Bool.{eq-eqb, ne_eqb, cases_eq}

-- the sum of g over the list
unfoldable pub total_of : {A : Type 0} → (A → ℕ) → List A → ℕ
total_of g [] = 0
total_of g (x ∷ xs) = g x + total_of g xs

-- how many elements pass
unfoldable pub passing : {A : Type 0} → (A → Bool) → List A → ℕ
passing f [] = 0
passing f (x ∷ xs) = cond (f x) 1 0 + passing f xs

pub length-filter : {A : Type 0} (f : A → Bool) (xs : List A) → length (filter f xs) ≡ passing f xs
unfolding passing
length-filter f [] = refl
length-filter {A} f (x ∷ xs) =
    elim (f x) as (λ t. length (cond t (x ∷ filter f xs) (filter f xs)) ≡ cond t 1 0 + passing f xs) [
      | true ↦ (let e : length (filter f xs) ≡ passing f xs = length-filter f xs in omega arith)
      | false ↦ (let e : length (filter f xs) ≡ passing f xs = length-filter f xs in omega arith)
    ]

pub passing-append : {A : Type 0} (f : A → Bool) (xs ys : List A) → passing f (xs ++ ys) ≡ passing f xs + passing f ys
unfolding passing
passing-append f [] ys = sym (zero-add (passing f ys))
passing-append f (x ∷ xs) ys = ap (λ (n : ℕ). cond (f x) 1 0 + n) (passing-append f xs ys) ∙ sym (add_assoc (cond (f x) 1 0) (passing f xs) (passing f ys))

pub passing-map : {A B : Type 0} (f : B → Bool) (g : A → B) (xs : List A) → passing f (map g xs) ≡ passing (λ x. f (g x)) xs
unfolding passing
passing-map f g [] = refl
passing-map f g (x ∷ xs) = ap (λ (n : ℕ). cond (f (g x)) 1 0 + n) (passing-map f g xs)

pub passing_same : {A : Type 0} (f g : A → Bool) (xs : List A) → ((x : A) → f x ≡ g x) → passing f xs ≡ passing g xs
unfolding passing
passing_same f g [] e = refl
passing_same f g (x ∷ xs) e = ap (λ (b : Bool). cond b 1 0 + passing f xs) (e x) ∙ ap (λ (n : ℕ). cond (g x) 1 0 + n) (passing_same f g xs e)

pub passing_none : {A : Type 0} (xs : List A) → passing (λ (x : A). false) xs ≡ 0
unfolding passing
passing_none [] = refl
passing_none (x ∷ xs) = zero-add (passing (λ x. false) xs) ∙ passing_none xs

-- the lists of one more place, by what stands there
pub passing-flat : {A : Type 0} (f : List A → Bool) (ls : List (List A)) (ps : List A) →
    passing f (flat_map (λ p. map (λ l. p ∷ l) ls) ps) ≡ total_of (λ p. passing (λ l. f (p ∷ l)) ls) ps
unfolding passing total_of
passing-flat f ls [] = refl
passing-flat f ls (p ∷ ps) =
    passing-append f (map (λ l. p ∷ l) ls) (flat_map (λ q. map (λ l. q ∷ l) ls) ps)
    ∙ ap (λ (n : ℕ). n + passing f (flat_map (λ q. map (λ l. q ∷ l) ls) ps)) (passing-map f (λ l. p ∷ l) ls)
    ∙ ap (λ (n : ℕ). passing (λ l. f (p ∷ l)) ls + n) (passing-flat f ls ps)

pub total-append : {A : Type 0} (g : A → ℕ) (xs ys : List A) → total_of g (xs ++ ys) ≡ total_of g xs + total_of g ys
unfolding total_of
total-append g [] ys = sym (zero-add (total_of g ys))
total-append g (x ∷ xs) ys = ap (λ (n : ℕ). g x + n) (total-append g xs ys) ∙ sym (add_assoc (g x) (total_of g xs) (total_of g ys))

pub total-map : {A B : Type 0} (g : B → ℕ) (h : A → B) (xs : List A) → total_of g (map h xs) ≡ total_of (λ x. g (h x)) xs
unfolding total_of
total-map g h [] = refl
total-map g h (x ∷ xs) = ap (λ (n : ℕ). g (h x) + n) (total-map g h xs)

-- two functions with one value at each number of a range
pub total_range_same : (g h : ℕ → ℕ) (a n : ℕ) → ((i : ℕ) → a ≤ i → i < a + n → g i ≡ h i) → total_of g (range_with_len a n) ≡ total_of h (range_with_len a n)
unfolding total_of
total_range_same g h a zero e = refl
total_range_same g h a (suc n) e =
    ap (λ (x : ℕ). x + total_of g (range_with_len (a + 1) n)) (e a (omega arith) (omega arith))
    ∙ ap (λ (x : ℕ). h a + x) (total_range_same g h (a + 1) n (λ i lo hi. e i (omega arith) (omega arith)))

-- a number below the range changes nothing
drop_below : (g : ℕ → ℕ) (j a n : ℕ) → j < a → total_of (λ i. cond (i == j) 0 (g i)) (range_with_len a n) ≡ total_of g (range_with_len a n)
drop_below g j a n h = total_range_same (λ i. cond (i == j) 0 (g i)) g a n (λ i lo hi. let no : i ≡ j → ⊥ = λ e. omega arith in ap (λ (b : Bool). cond b 0 (g i)) (ne_eqb i j no))

-- the sum of a range without one of its numbers
pub drop_one : (g : ℕ → ℕ) (j a n : ℕ) → a ≤ j → j < a + n → total_of (λ i. cond (i == j) 0 (g i)) (range_with_len a n) + g j ≡ total_of g (range_with_len a n)
unfolding total_of
drop_one g j a zero lo hi = absurd (omega arith)
drop_one g j a (suc n) lo hi = elim (cases_eq a j) [
  | inl e ↦ here e
  | inr ne ↦ there ne (λ less. drop_one g j (a + 1) n less (omega arith))
]
  where
    here : a ≡ j → cond (a == j) 0 (g a) + total_of (λ i. cond (i == j) 0 (g i)) (range_with_len (a + 1) n) + g j ≡ g a + total_of g (range_with_len (a + 1) n)
    here e =
        let t : cond (a == j) 0 (g a) ≡ 0 = ap (λ (b : Bool). cond b 0 (g a)) (eq-eqb a j e) in
        let u : total_of (λ i. cond (i == j) 0 (g i)) (range_with_len (a + 1) n) ≡ total_of g (range_with_len (a + 1) n) = drop_below g j (a + 1) n (omega arith) in
        let v : g a ≡ g j = ap g e in omega arith

    there : (a ≡ j → ⊥) → (a + 1 ≤ j → total_of (λ i. cond (i == j) 0 (g i)) (range_with_len (a + 1) n) + g j ≡ total_of g (range_with_len (a + 1) n)) → cond (a == j) 0 (g a) + total_of (λ i. cond (i == j) 0 (g i)) (range_with_len (a + 1) n) + g j ≡ g a + total_of g (range_with_len (a + 1) n)
    there ne again =
        let t : cond (a == j) 0 (g a) ≡ g a = ap (λ (b : Bool). cond b 0 (g a)) (ne_eqb a j ne) in
        let less : a + 1 ≤ j = omega arith in
        let u : total_of (λ i. cond (i == j) 0 (g i)) (range_with_len (a + 1) n) + g j ≡ total_of g (range_with_len (a + 1) n) = again less in omega arith

pub total_const : (c a n : ℕ) → total_of (λ i. c) (range_with_len a n) ≡ n * c
unfolding total_of
total_const c a zero = sym (zero-mul c)
total_const c a (suc n) = ap (λ (x : ℕ). c + x) (total_const c (a + 1) n) ∙ (let e : suc n * c ≡ n * c + c = suc-mul n c in omega arith)
