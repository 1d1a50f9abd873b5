-- The sum of bytes.
use Rattle.std.proofs.Common.{ℕ, ◌≡◌, ◌<◌, ◌^◌, bit_xor, sym, ap, ◌∙◌}
use Rattle.std.proofs.lemmas.Nat.{xor_comm, xor_of_8}
use lib.Bits.{xor_assoc, xor_self, xor_zero_r}

pub sum_fits : (a b : ℕ) → a < 2 ^ 8 → b < 2 ^ 8 → bit_xor a b < 2 ^ 8
sum_fits = xor_of_8

pub sum_associates : (a b c : ℕ) → bit_xor (bit_xor a b) c ≡ bit_xor a (bit_xor b c)
sum_associates = xor_assoc

pub sum_commutes : (a b : ℕ) → bit_xor a b ≡ bit_xor b a
sum_commutes = xor_comm

pub sum_zero : (a : ℕ) → bit_xor a 0 ≡ a
sum_zero = xor_zero_r

pub sum_self : (a : ℕ) → bit_xor a a ≡ 0
sum_self = xor_self

pub moved : (a b c : ℕ) → bit_xor a b ≡ c → a ≡ bit_xor c b
moved a b c e = sym (sum_zero a) ∙ ap (bit_xor a) (sym (sum_self b)) ∙ sym (sum_associates a b b) ∙ ap (λ (x : ℕ). bit_xor x b) e

pub equal_from_sum : (a b : ℕ) → bit_xor a b ≡ 0 → a ≡ b
equal_from_sum a b e = moved a b 0 e ∙ sum_commutes 0 b ∙ sum_zero b
