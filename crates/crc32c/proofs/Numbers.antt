-- A number of 32 bits goes through a register like zeros that it is added to.
use Rattle.std.proofs.Common.{ℕ, ◌≡◌, ◌<◌, ◌*◌, ◌/◌, ◌%◌, ◌^◌, suc, zero, List, [], ◌∷◌, arith, sym, ap, ◌∙◌, bit_xor}
use Rattle.std.specs.Int.{to_le_bytes, w32}
use Rattle.std.proofs.Math.Nat.{pow-suc}
use lib.Bits.{xor_assoc, xor_zero_r}
use Rattle.crc32c.specs.Register.{shifts, register_after}
use Rattle.crc32c.proofs.Bits.{shifts-xor}
use Rattle.crc32c.proofs.Bytes.{parts, shifts_zeros}

-- the lowest k bytes, the lowest first
abbrev low_bytes : ℕ → ℕ → List ℕ
low_bytes zero n = []
low_bytes (suc k) n = n % 256 ∷ low_bytes k (n / 256)

abbrev zeros : ℕ → List ℕ
zeros zero = []
zeros (suc k) = 0 ∷ zeros k

-- a byte and the rest, where one register is
one_byte : (s n : ℕ) → bit_xor (shifts 8 (bit_xor s (n % 256))) (n / 256) ≡ shifts 8 (bit_xor (bit_xor s n) 0)
one_byte s n =
    ap (bit_xor (shifts 8 (bit_xor s (n % 256)))) (sym (shifts_zeros 8 (n / 256)))
    ∙ sym (shifts-xor 8 (bit_xor s (n % 256)) (n / 256 * 2 ^ 8))
    ∙ ap (shifts 8) (xor_assoc s (n % 256) (n / 256 * 2 ^ 8) ∙ ap (bit_xor s) (parts n) ∙ sym (xor_zero_r (bit_xor s n)))

low_bytes_after : (k s n : ℕ) → n < 256 ^ k → register_after s (low_bytes k n) ≡ register_after (bit_xor s n) (zeros k)
unfolding register_after
low_bytes_after zero s n h = let e : 0 ≡ n = omega arith in sym (xor_zero_r s) ∙ ap (bit_xor s) e
low_bytes_after (suc k) s n h =
    let below : n / 256 < 256 ^ k = omega (arith, pow-suc 256 k) in
    low_bytes_after k (shifts 8 (bit_xor s (n % 256))) (n / 256) below
    ∙ ap (λ (x : ℕ). register_after x (zeros k)) (one_byte s n)

same_bytes : (n : ℕ) → to_le_bytes w32 n ≡ low_bytes 4 n
same_bytes n =
    let b : n / 256 / 256 % 256 ≡ n / 65536 % 256 = omega arith in
    let c : n / 256 / 256 / 256 % 256 ≡ n / 16777216 % 256 = omega arith in
    grind arith

-- the register after a number is that after zeros, from the register with the number added
pub number_after : (s n : ℕ) → n < 2 ^ 32 → register_after s (to_le_bytes w32 n) ≡ register_after (bit_xor s n) (0 ∷ 0 ∷ 0 ∷ 0 ∷ [])
number_after s n h = ap (register_after s) (same_bytes n) ∙ low_bytes_after 4 s n h
