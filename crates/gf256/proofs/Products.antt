-- The product is additive on both sides, and with that the laws of the field.
use Rattle.std.proofs.Common.{ℕ, ◌≡◌, ◌<◌, ◌≤◌, ◌*◌, ◌-◌, ◌/◌, ◌%◌, ◌^◌, suc, zero, true, false, refl, ◌==◌, arith, inl, inr, sym, ap, ◌∙◌, bit_xor, cond}
use Rattle.std.proofs.lemmas.Bool.{eqb-true, cases_lt}
use Rattle.std.proofs.lemmas.Nat.{xor_shr, xor_mod, xor_comm, xor_of_8}
use Rattle.std.proofs.Math.Nat.{pow-suc, one-mul, pow-le-pow_right}
use lib.Bits.{xor_assoc, xor_self, xor_zero_r, xor_shifted}
use Rattle.gf256.specs.Field.{times, double, if_odd, product}
use Rattle.gf256.proofs.EachByte.{each_below, at_each, double-xor, double_fits}

-- (a ^ b) ^ (c ^ d) is (a ^ c) ^ (b ^ d)
pub xor_swap : (a b c d : ℕ) → bit_xor (bit_xor a b) (bit_xor c d) ≡ bit_xor (bit_xor a c) (bit_xor b d)
xor_swap a b c d =
    xor_assoc a b (bit_xor c d) ∙ ap (bit_xor a) (sym (xor_assoc b c d) ∙ ap (λ (x : ℕ). bit_xor x d) (xor_comm b c) ∙ xor_assoc c b d)
    ∙ sym (xor_assoc a c (bit_xor b d))

pub if_odd_fits : (b a : ℕ) → a < 256 → if_odd b a < 256
if_odd_fits b a h = elim (b % 2 == 1) as (λ t. cond t a 0 < 256) [ true ↦ h | false ↦ omega arith ]

pub if_odd-xor : (b a c : ℕ) → if_odd b (bit_xor a c) ≡ bit_xor (if_odd b a) (if_odd b c)
if_odd-xor b a c = elim (b % 2 == 1) as (λ t. cond t (bit_xor a c) 0 ≡ bit_xor (cond t a 0) (cond t c 0)) [ true ↦ refl | false ↦ refl ]

pub times_fits : (n a b : ℕ) → a < 256 → times n a b < 256
unfolding times
times_fits zero a b h = omega arith
times_fits (suc n) a b h =
    xor_of_8 (double (times n a (b / 2))) (if_odd b a) (double_fits (times n a (b / 2)) (times_fits n a (b / 2) h)) (if_odd_fits b a h)

-- the product is additive on the left
pub times-xor_left : (n a c b : ℕ) → a < 256 → c < 256 → times n (bit_xor a c) b ≡ bit_xor (times n a b) (times n c b)
unfolding times
times-xor_left zero a c b ha hc = refl
times-xor_left (suc n) a c b ha hc =
    let h = b / 2 in
    ap (λ (x : ℕ). bit_xor (double x) (if_odd b (bit_xor a c))) (times-xor_left n a c h ha hc)
    ∙ ap (λ (x : ℕ). bit_xor x (if_odd b (bit_xor a c))) (double-xor (times n a h) (times n c h) (times_fits n a h ha) (times_fits n c h hc))
    ∙ ap (bit_xor (bit_xor (double (times n a h)) (double (times n c h)))) (if_odd-xor b a c)
    ∙ xor_swap (double (times n a h)) (double (times n c h)) (if_odd b a) (if_odd b c)

-- a where d is 1
abbrev picked : ℕ → ℕ → ℕ
picked d a = cond (d == 1) a 0

picked_xor : (x y a : ℕ) → x < 2 → y < 2 → picked (bit_xor x y) a ≡ bit_xor (picked x a) (picked y a)
picked_xor zero zero a hx hy = refl
picked_xor zero (suc zero) a hx hy = refl
picked_xor (suc zero) zero a hx hy = sym (xor_zero_r a)
picked_xor (suc zero) (suc zero) a hx hy = sym (xor_self a)
picked_xor x (suc (suc y)) a hx hy = absurd (omega arith)
picked_xor (suc (suc x)) y a hx hy = absurd (omega arith)

pub if_odd_xor : (b c a : ℕ) → if_odd (bit_xor b c) a ≡ bit_xor (if_odd b a) (if_odd c a)
if_odd_xor b c a = ap (λ (d : ℕ). picked d a) (xor_mod b c 1) ∙ picked_xor (b % 2) (c % 2) a (omega arith) (omega arith)

-- the product is additive on the right
pub times-xor_right : (n a b c : ℕ) → a < 256 → times n a (bit_xor b c) ≡ bit_xor (times n a b) (times n a c)
unfolding times
times-xor_right zero a b c ha = refl
times-xor_right (suc n) a b c ha =
    let h = b / 2 in
    let k = c / 2 in
    ap (λ (x : ℕ). bit_xor (double (times n a x)) (if_odd (bit_xor b c) a)) (xor_shr b c 1)
    ∙ ap (λ (x : ℕ). bit_xor (double x) (if_odd (bit_xor b c) a)) (times-xor_right n a h k ha)
    ∙ ap (λ (x : ℕ). bit_xor x (if_odd (bit_xor b c) a)) (double-xor (times n a h) (times n a k) (times_fits n a h ha) (times_fits n a k ha))
    ∙ ap (bit_xor (bit_xor (double (times n a h)) (double (times n a k)))) (if_odd_xor b c a)
    ∙ xor_swap (double (times n a h)) (double (times n a k)) (if_odd b a) (if_odd c a)

-- two additive functions that agree on the powers of two agree below 256
pub record Additive (f : ℕ → ℕ) : Type 0 where
  pub at_zero : f 0 ≡ 0
  pub at_xor : (a c : ℕ) → a < 256 → c < 256 → f (bit_xor a c) ≡ bit_xor (f a) (f c)

agree_below : (f g : ℕ → ℕ) → Additive f → Additive g → each_below 8 (λ k. f (2 ^ k) == g (2 ^ k)) ≡ true → (k : ℕ) → k ≤ 8 → (a : ℕ) → a < 2 ^ k → f a ≡ g a
agree_below f g F G test zero hk a ha =
    let e : a ≡ 0 = omega arith in ap f e ∙ F.at_zero ∙ sym G.at_zero ∙ ap g (sym e)
agree_below f g F G test (suc k) hk a ha =
    elim (cases_lt a (2 ^ k)) [
      | inl below ↦ agree_below f g F G test k (omega arith) a below
      | inr above ↦
          (let r : a - 2 ^ k < 2 ^ k = omega (arith, pow-suc 2 k) in
          let small : 2 ^ k ≤ 128 = pow-le-pow_right {n = 2} (omega arith) {i = k} {j = 7} (omega arith) in
          let e : bit_xor (2 ^ k) (a - 2 ^ k) ≡ a = ap (λ (x : ℕ). bit_xor x (a - 2 ^ k)) (sym (one-mul (2 ^ k))) ∙ xor_shifted 1 k (a - 2 ^ k) r ∙ omega arith in
          sym (ap f e) ∙ F.at_xor (2 ^ k) (a - 2 ^ k) (omega arith) (omega arith)
          ∙ ap (λ (x : ℕ). bit_xor x (f (a - 2 ^ k))) (eqb-true (f (2 ^ k)) (g (2 ^ k)) (at_each 8 (λ j. f (2 ^ j) == g (2 ^ j)) test k (omega arith)))
          ∙ ap (bit_xor (g (2 ^ k))) (agree_below f g F G test k (omega arith) (a - 2 ^ k) r)
          ∙ sym (G.at_xor (2 ^ k) (a - 2 ^ k) (omega arith) (omega arith)) ∙ ap g e)
    ]

pub times_zero : (n b : ℕ) → times n 0 b ≡ 0
unfolding times
times_zero zero b = refl
times_zero (suc n) b = ap (λ (x : ℕ). bit_xor (double x) (if_odd b 0)) (times_zero n (b / 2)) ∙ (elim (b % 2 == 1) as (λ t. bit_xor 0 (cond t 0 0) ≡ 0) [ true ↦ refl | false ↦ refl ])

-- 2 ^ k times b, doubled, at every b
doubles : each_below 256 (λ c. each_below 8 (λ k. times 8 (2 ^ k) (double c) == double (times 8 (2 ^ k) c))) ≡ true
unfolding times
doubles = refl

-- doubling the second factor doubles the product
pub times-double : (a b : ℕ) → a < 256 → b < 256 → times 8 a (double b) ≡ double (times 8 a b)
times-double a b ha hb = agree_below (λ x. times 8 x (double b)) (λ x. double (times 8 x b))
    (record { at_zero = times_zero 8 (double b); at_xor = λ x y hx hy. times-xor_left 8 x y (double b) hx hy })
    (record { at_zero = ap double (times_zero 8 b); at_xor = λ x y hx hy. ap double (times-xor_left 8 x y b hx hy) ∙ double-xor (times 8 x b) (times 8 y b) (times_fits 8 x b hx) (times_fits 8 y b hy) })
    (at_each 256 (λ c. each_below 8 (λ k. times 8 (2 ^ k) (double c) == double (times 8 (2 ^ k) c))) doubles b hb) 8 (omega arith) a ha

pub times_zero_right : (n a : ℕ) → times n a 0 ≡ 0
unfolding times
times_zero_right zero a = refl
times_zero_right (suc n) a = ap (λ (x : ℕ). bit_xor (double x) 0) (times_zero_right n a)

-- associativity, over the digits of the last factor
assoc_at : (n a b c : ℕ) → a < 256 → b < 256 → times 8 a (times n b c) ≡ times n (times 8 a b) c
unfolding times
assoc_at zero a b c ha hb = times_zero_right 8 a
assoc_at (suc n) a b c ha hb =
    let h = c / 2 in
    let inner = times n b h in
    times-xor_right 8 a (double inner) (if_odd c b) ha
    ∙ ap (λ (x : ℕ). bit_xor x (times 8 a (if_odd c b))) (times-double a inner ha (times_fits n b h hb) ∙ ap double (assoc_at n a b h ha hb))
    ∙ ap (bit_xor (double (times n (times 8 a b) h))) (odd_through c)
  where
    odd_through : (d : ℕ) → times 8 a (if_odd d b) ≡ if_odd d (times 8 a b)
    odd_through d = elim (d % 2 == 1) as (λ t. times 8 a (cond t b 0) ≡ cond t (times 8 a b) 0) [ true ↦ refl | false ↦ times_zero_right 8 a ]

pub associates : (a b c : ℕ) → a < 2 ^ 8 → b < 2 ^ 8 → product (product a b) c ≡ product a (product b c)
associates a b c ha hb = sym (assoc_at 8 a b c ha hb)

-- a factor's digits above the highest add nothing
enough : (n a b : ℕ) → b < 2 ^ n → times (suc n) a b ≡ times n a b
unfolding times
enough zero a b h = let e : b ≡ 0 = omega arith in ap (λ (x : ℕ). bit_xor 0 (if_odd x a)) e
enough (suc n) a b h =
    let p : 2 ^ suc n ≡ 2 ^ n * 2 = pow-suc 2 n in
    ap (λ (x : ℕ). bit_xor (double x) (if_odd b a)) (enough n a (b / 2) (omega arith))

-- the product by halving the second factor, as it is defined
pub product_zero : (a : ℕ) → product a 0 ≡ 0
product_zero a = times_zero_right 8 a

pub product_halved : (a b : ℕ) → b < 256 → product a b ≡ bit_xor (double (product a (b / 2))) (if_odd b a)
unfolding times
product_halved a b h = ap (λ (x : ℕ). bit_xor (double x) (if_odd b a)) (sym (enough 7 a (b / 2) (omega arith)))

pub product_zero_left : (b : ℕ) → product 0 b ≡ 0
product_zero_left b = times_zero 8 b

pub product_fits : (a b : ℕ) → a < 2 ^ 8 → product a b < 2 ^ 8
product_fits a b h = times_fits 8 a b h

pub additive_left : (a b c : ℕ) → a < 2 ^ 8 → b < 2 ^ 8 → product (bit_xor a b) c ≡ bit_xor (product a c) (product b c)
additive_left a b c ha hb = times-xor_left 8 a b c ha hb

pub additive_right : (a b c : ℕ) → a < 2 ^ 8 → product a (bit_xor b c) ≡ bit_xor (product a b) (product a c)
additive_right a b c ha = times-xor_right 8 a b c ha
