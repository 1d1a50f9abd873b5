-- The register over lists of bytes.
use Rattle.std.proofs.Common.{ℕ, ◌≡◌, ◌<◌, ◌+◌, ◌^◌, suc, List, [], ◌∷◌, ◌++◌, refl, get_or, arith, sym, ap, ◌∙◌, bit_xor}
use Rattle.crc32c.specs.Register.{shifts, unshifts, register_after, register_before}
use Rattle.std.proofs.Common.{drop, length, drop-cons, add-one}
use Rattle.crc32c.proofs.Bits.{xor_twice}
use Rattle.crc32c.proofs.Bytes.{shifts_fit, unshifts_fit, shifts_unshifts, unshifts_shifts}
use Rattle.std.proofs.lemmas.Nat.{xor_lt}

-- all are bytes
abbrev pub AreBytes : List ℕ → Type 0
AreBytes bs = (i : ℕ) → get_or bs i 0 < 2 ^ 8

-- one list after another
pub after-append : (c : ℕ) (a b : List ℕ) → register_after c (a ++ b) ≡ register_after (register_after c a) b
unfolding register_after
after-append c [] b = refl
after-append c (x ∷ a) b = after-append (shifts 8 (bit_xor c x)) a b

pub before-append : (y : ℕ) (a b : List ℕ) → register_before y (a ++ b) ≡ register_before (register_before y b) a
unfolding register_before
before-append y [] b = refl
before-append y (x ∷ a) b = ap (λ (c : ℕ). bit_xor (unshifts 8 c) x) (before-append y a b)

-- the register fits 32 bits on the way forth and back
pub after_fits : (c : ℕ) (bs : List ℕ) → c < 2 ^ 32 → AreBytes bs → register_after c bs < 2 ^ 32
unfolding register_after
after_fits c [] h bytes = h
after_fits c (b ∷ rest) h bytes =
    let byte : b < 2 ^ 8 = bytes 0 in
    let sum : bit_xor c b < 2 ^ 32 = xor_lt 32 c b h (omega arith) in
    after_fits (shifts 8 (bit_xor c b)) rest (shifts_fit 8 (bit_xor c b) sum) (λ i. bytes (suc i))

pub before_fits : (y : ℕ) (bs : List ℕ) → y < 2 ^ 32 → AreBytes bs → register_before y bs < 2 ^ 32
unfolding register_before
before_fits y [] h bytes = h
before_fits y (b ∷ rest) h bytes =
    let byte : b < 2 ^ 8 = bytes 0 in
    let one : register_before y rest < 2 ^ 32 = before_fits y rest h (λ i. bytes (suc i)) in
    xor_lt 32 (unshifts 8 (register_before y rest)) b (unshifts_fit 8 (register_before y rest) one) (omega arith)

-- forth from what stands before
pub after_before : (y : ℕ) (bs : List ℕ) → register_after (register_before y bs) bs ≡ y
unfolding register_after register_before
after_before y [] = refl
after_before y (b ∷ rest) =
    ap (λ (x : ℕ). register_after (shifts 8 x) rest) (xor_twice (unshifts 8 (register_before y rest)) b)
    ∙ ap (λ (x : ℕ). register_after x rest) (shifts_unshifts 8 (register_before y rest)) ∙ after_before y rest

-- and back from what stands after
pub before_after : (c : ℕ) (bs : List ℕ) → c < 2 ^ 32 → AreBytes bs → register_before (register_after c bs) bs ≡ c
unfolding register_after register_before
before_after c [] h bytes = refl
before_after c (b ∷ rest) h bytes =
    let byte : b < 2 ^ 8 = bytes 0 in
    let sum : bit_xor c b < 2 ^ 32 = xor_lt 32 c b h (omega arith) in
    ap (λ (x : ℕ). bit_xor (unshifts 8 x) b) (before_after (shifts 8 (bit_xor c b)) rest (shifts_fit 8 (bit_xor c b) sum) (λ i. bytes (suc i)))
    ∙ ap (λ (x : ℕ). bit_xor x b) (unshifts_shifts 8 (bit_xor c b) sum) ∙ xor_twice c b

-- so only one stands before
pub only_before : (x y : ℕ) (bs : List ℕ) → x < 2 ^ 32 → AreBytes bs → register_after x bs ≡ y → x ≡ register_before y bs
only_before x y bs h bytes e = sym (before_after x bs h bytes) ∙ ap (λ (z : ℕ). register_before z bs) e

-- one byte of a loop, from the front
pub after_step : (c : ℕ) (bs : List ℕ) (i : ℕ) → i < length bs →
    register_after (shifts 8 (bit_xor c (get_or bs i 0))) (drop (i + 1) bs) ≡ register_after c (drop i bs)
unfolding register_after
after_step c bs i h =
    ap (λ (k : ℕ). register_after (shifts 8 (bit_xor c (get_or bs i 0))) (drop k bs)) (add-one i)
    ∙ sym (ap (register_after c) (drop-cons bs i 0 h))

-- one byte of a loop, from the end
pub before_step : (y : ℕ) (bs : List ℕ) (i j : ℕ) → j ≡ i + 1 → i < length bs →
    bit_xor (unshifts 8 (register_before y (drop j bs))) (get_or bs i 0) ≡ register_before y (drop i bs)
unfolding register_before
before_step y bs i j e h =
    ap (λ (k : ℕ). bit_xor (unshifts 8 (register_before y (drop k bs))) (get_or bs i 0)) (e ∙ add-one i)
    ∙ sym (ap (register_before y) (drop-cons bs i 0 h))

-- no byte is left
pub after_end : (c : ℕ) (bs : List ℕ) → register_after c (drop (length bs) bs) ≡ c
unfolding register_after
after_end c [] = refl
after_end c (b ∷ rest) = after_end c rest

pub before_end : (y : ℕ) (bs : List ℕ) → register_before y (drop (length bs) bs) ≡ y
unfolding register_before
before_end y [] = refl
before_end y (b ∷ rest) = before_end y rest
