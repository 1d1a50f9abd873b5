-- Sums over ranges of numbers.
use Rattle.std.proofs.Common.{ℕ, zero, suc, ◌≡◌, ◌+◌, ◌*◌, ◌<◌, refl, sym, ap, ap₂, ◌∙◌, arith}
use Rattle.std.specs.List.{sum_by, range_with_len}
use Rattle.std.proofs.Math.Nat.{zero-mul, suc-mul}
use Rattle.std.proofs.lemmas.List.Sums.{sum_by-cons, sum_by-append}
use Rattle.search_terms.proofs.Pages.{range-add}

-- a range in two parts
pub sum_split : (f : ℕ → ℕ) (a m n : ℕ) → sum_by f (range_with_len a (m + n)) ≡ sum_by f (range_with_len a m) + sum_by f (range_with_len (a + m) n)
sum_split f a m n = ap (sum_by f) (range-add a m n) ∙ sum_by-append f (range_with_len a m) (range_with_len (a + m) n)

-- the same terms, at other numbers
pub sum_moved : (f g : ℕ → ℕ) (a b n : ℕ) → ((x : ℕ) → x < n → f (a + x) ≡ g (b + x)) → sum_by f (range_with_len a n) ≡ sum_by g (range_with_len b n)
sum_moved f g a b zero same = refl
sum_moved f g a b (suc n) same =
    let here : a ≡ a + 0 = omega arith in
    let there : b + 0 ≡ b = omega arith in
    sum_by-cons f a (range_with_len (a + 1) n)
    ∙ ap₂ (λ (x y : ℕ). x + y) (ap f here ∙ same 0 (omega arith) ∙ ap g there)
    (sum_moved f g (a + 1) (b + 1) n (λ x lt.
    ap f (let e : a + 1 + x ≡ a + (x + 1) = omega arith in e) ∙ same (x + 1) (omega arith) ∙ ap g (let e : b + (x + 1) ≡ b + 1 + x = omega arith in e)))
    ∙ sym (sum_by-cons g b (range_with_len (b + 1) n))

-- terms that are nothing
pub sum_none : (f : ℕ → ℕ) (a n : ℕ) → ((x : ℕ) → x < n → f (a + x) ≡ 0) → sum_by f (range_with_len a n) ≡ 0
sum_none f a zero none = refl
sum_none f a (suc n) none =
    let cons = sum_by-cons f a (range_with_len (a + 1) n) in
    let here : f a ≡ 0 = ap f (let e : a ≡ a + 0 = omega arith in e) ∙ none 0 (omega arith) in
    let rest = sum_none f (a + 1) n (λ x lt. ap f (let e : a + 1 + x ≡ a + (x + 1) = omega arith in e) ∙ none (x + 1) (omega arith)) in
    omega arith

-- the sum of two sums
pub sum_both : (f g : ℕ → ℕ) (a n : ℕ) → sum_by f (range_with_len a n) + sum_by g (range_with_len a n) ≡ sum_by (λ x. f x + g x) (range_with_len a n)
sum_both f g a zero = refl
sum_both f g a (suc n) =
    let one = sum_by-cons f a (range_with_len (a + 1) n) in
    let other = sum_by-cons g a (range_with_len (a + 1) n) in
    let both = sum_by-cons (λ x. f x + g x) a (range_with_len (a + 1) n) in
    let rest = sum_both f g (a + 1) n in
    omega arith

-- a range of m parts that are equally long
pub sum_parts : (f : ℕ → ℕ) (a m n : ℕ) → sum_by f (range_with_len a (m * n)) ≡ sum_by (λ j. sum_by f (range_with_len (a + j * n) n)) (range_with_len 0 m)
sum_parts f a zero n = ap (λ (k : ℕ). sum_by f (range_with_len a k)) (zero-mul n)
sum_parts f a (suc m) n =
    let long : suc m * n ≡ n + m * n = omega (arith, suc-mul m n) in
    let first : a ≡ a + 0 * n = omega (arith, zero-mul n) in
    ap (λ (k : ℕ). sum_by f (range_with_len a k)) long
    ∙ sum_split f a n (m * n)
    ∙ ap₂ (λ (x y : ℕ). x + y) (ap (λ (k : ℕ). sum_by f (range_with_len k n)) first)
    (sum_parts f (a + n) m n
    ∙ sum_moved (λ j. sum_by f (range_with_len (a + n + j * n) n)) (λ j. sum_by f (range_with_len (a + j * n) n)) 0 1 m
    (λ j lt. ap (λ (k : ℕ). sum_by f (range_with_len k n)) (let e : a + n + (0 + j) * n ≡ a + (1 + j) * n = grind arith in e)))
    ∙ sym (sum_by-cons (λ j. sum_by f (range_with_len (a + j * n) n)) 0 (range_with_len 1 m))
