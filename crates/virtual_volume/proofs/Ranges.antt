-- Lists that are made over ranges of numbers.
use Rattle.std.proofs.Common.{◌≡◌, ℕ, zero, suc, ◌+◌, ◌*◌, ◌<◌, ◌≤◌, List, ◌∷◌, ◌++◌, length, refl, sym, ap, ◌∙◌, arith, length-append}
use Rattle.std.specs.List.{flat_map, range_with_len}
use Rattle.std.proofs.lemmas.List.{append-nil}
use Rattle.std.proofs.lemmas.Grind.{flat_map-append}

-- a range in two parts
pub range_split : (a n m k b : ℕ) → k ≡ n + m → b ≡ a + n → range_with_len a k ≡ range_with_len a n ++ range_with_len b m
range_split a zero m k b e f =
    let all : k ≡ m = omega arith in
    let from : a ≡ b = omega arith in
    ap (λ (t : ℕ). range_with_len a t) all ∙ ap (λ (t : ℕ). range_with_len t m) from
range_split a (suc n) m zero b e f = absurd (omega arith)
range_split a (suc n) m (suc k) b e f = ap (λ (l : List ℕ). a ∷ l) (range_split (a + 1) n m k b (omega arith) (omega arith))

-- what is made over it
pub flat_split : {A : Type 0} (f : ℕ → List A) (a n m k b : ℕ) → k ≡ n + m → b ≡ a + n →
    flat_map f (range_with_len a k) ≡ flat_map f (range_with_len a n) ++ flat_map f (range_with_len b m)
flat_split f a n m k b e g =
    ap (λ (l : List ℕ). flat_map f l) (range_split a n m k b e g) ∙ flat_map-append f (range_with_len a n) (range_with_len b m)

-- one more number
pub flat_more : {A : Type 0} (f : ℕ → List A) (a n k b : ℕ) → k ≡ n + 1 → b ≡ a + n →
    flat_map f (range_with_len a k) ≡ flat_map f (range_with_len a n) ++ f b
flat_more {A} f a n k b e g =
    flat_split f a n 1 k b e g ∙ ap (λ (l : List A). flat_map f (range_with_len a n) ++ l) (append-nil (f b))

-- lists of one length, one after the other
pub flat_long : (f : ℕ → List ℕ) (k first n : ℕ) → ((i : ℕ) → length (f i) ≡ k) → length (flat_map f (range_with_len first n)) ≡ n * k
flat_long f k first zero each = let none : length (flat_map f (range_with_len first 0)) ≡ 0 = refl in none ∙ omega arith
flat_long f k first (suc n) each =
    let more : suc n * k ≡ k + n * k = grind arith in
    ap (λ (l : List ℕ). length l) (flat_more f first n (suc n) (first + n) (omega arith) refl) ∙ length-append (flat_map f (range_with_len first n)) (f (first + n))
    ∙ omega (arith, more, each (first + n), flat_long f k first n each)

-- numbers from later on
pub flat_shift : {A : Type 0} (f : ℕ → List A) (c a n b : ℕ) → b ≡ c + a → flat_map f (range_with_len b n) ≡ flat_map (λ u. f (c + u)) (range_with_len a n)
flat_shift f c a zero b e = refl
flat_shift {A} f c a (suc n) b e =
    ap (λ (t : ℕ). f t ++ flat_map f (range_with_len (b + 1) n)) e
    ∙ ap (λ (l : List A). f (c + a) ++ l) (flat_shift f c (a + 1) n (b + 1) (omega arith))

-- what agrees on a range
pub flat_same : {A : Type 0} (f g : ℕ → List A) (a n : ℕ) → ((x : ℕ) → a ≤ x → x < a + n → f x ≡ g x) → flat_map f (range_with_len a n) ≡ flat_map g (range_with_len a n)
flat_same f g a zero same = refl
flat_same {A} f g a (suc n) same =
    ap (λ (l : List A). l ++ flat_map f (range_with_len (a + 1) n)) (same a (omega arith) (omega arith))
    ∙ ap (λ (l : List A). g a ++ l) (flat_same f g (a + 1) n (λ x low high. same x (omega arith) (omega arith)))

-- a range of a product, as ranges of its factors
pub flat_product : {A : Type 0} (f : ℕ → List A) (a b k : ℕ) → k ≡ a * b →
    flat_map f (range_with_len 0 k) ≡ flat_map (λ i. flat_map (λ j. f (i * b + j)) (range_with_len 0 b)) (range_with_len 0 a)
flat_product f zero b k e = let none : k ≡ 0 = omega arith in ap (λ (t : ℕ). flat_map f (range_with_len 0 t)) none
flat_product {A} f (suc a) b k e =
    let parts : suc a * b ≡ a * b + b = grind arith in
    let g : ℕ → List A = λ i. flat_map (λ j. f (i * b + j)) (range_with_len 0 b) in
    flat_split f 0 (a * b) b k (a * b) (omega arith) (omega arith)
    ∙ ap (λ (l : List A). l ++ flat_map f (range_with_len (a * b) b)) (flat_product f a b (a * b) refl)
    ∙ ap (λ (l : List A). flat_map g (range_with_len 0 a) ++ l) (flat_shift f (a * b) 0 b (a * b) (omega arith))
    ∙ sym (flat_more g 0 a (suc a) a (omega arith) (omega arith))
