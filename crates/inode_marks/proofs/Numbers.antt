-- The number that an inode tells is the one with which its checksum is right.
use Rattle.std.proofs.Common.{◌≡◌, ℕ, ◌+◌, ◌-◌, ◌<◌, zero, suc, List, [], ◌∷◌, ◌++◌, Some, true, ◌==◌, sym, ap, ◌∙◌, arith, ◌^◌, take, drop, bit_xor, inl, inr}
use Rattle.std.specs.Prelude.{slice_range}
use Rattle.std.specs.Int.{to_le_bytes, w32}
use Rattle.std.proofs.lemmas.Bool.{cases_eq}
use Rattle.std.proofs.lemmas.Bool.Decides.{nat_tests}
use Rattle.std.proofs.lemmas.Nat.{xor_lt, xor_comm}
use Rattle.crc32c.specs.Register.{register_after, register_before}
use Rattle.crc32c.proofs.Bits.{xor_twice}
use Rattle.crc32c.proofs.Registers.{AreBytes, after_fits, after_before, only_before}
use Rattle.crc32c.proofs.Numbers.{number_after}
use Rattle.inode_marks.specs.Inode.{after_number, has_extra, inode_pair, is_inode, is_pair, stored_checksum, told_number}

-- parts of bytes are bytes
bytes_append : (a b : List ℕ) → AreBytes a → AreBytes b → AreBytes (a ++ b)
bytes_append [] b ha hb i = hb i
bytes_append (x ∷ a) b ha hb zero = ha zero
bytes_append (x ∷ a) b ha hb (suc i) = bytes_append a b (λ k. ha (suc k)) hb i

bytes_take : (n : ℕ) (a : List ℕ) → AreBytes a → AreBytes (take n a)
bytes_take zero a h i = omega arith
bytes_take (suc n) [] h i = omega arith
bytes_take (suc n) (x ∷ a) h zero = h zero
bytes_take (suc n) (x ∷ a) h (suc i) = bytes_take n a (λ k. h (suc k)) i

bytes_drop : (n : ℕ) (a : List ℕ) → AreBytes a → AreBytes (drop n a)
bytes_drop zero a h i = h i
bytes_drop (suc n) [] h i = omega arith
bytes_drop (suc n) (x ∷ a) h i = bytes_drop n a (λ k. h (suc k)) i

bytes_range : (s : List ℕ) (a b : ℕ) → AreBytes s → AreBytes (slice_range s a b)
bytes_range s a b h = bytes_take (b - a) (drop a s) (bytes_drop a s h)

two_zeros : AreBytes (0 ∷ 0 ∷ [])
two_zeros zero = omega arith
two_zeros (suc zero) = omega arith
two_zeros (suc (suc i)) = omega arith

four_zeros : AreBytes (0 ∷ 0 ∷ 0 ∷ 0 ∷ [])
four_zeros = bytes_append (0 ∷ 0 ∷ []) (0 ∷ 0 ∷ []) two_zeros two_zeros

-- what the checksum covers after the number are bytes
covered_bytes : (s : List ℕ) (at : ℕ) → AreBytes s → AreBytes (after_number s at)
unfolding after_number
covered_bytes s at h =
    bytes_append (slice_range s (at + 100) (at + 104)) _ (bytes_range s (at + 100) (at + 104) h)
    (bytes_append (slice_range s at (at + 124)) _ (bytes_range s at (at + 124) h)
    (bytes_append (0 ∷ 0 ∷ []) _ two_zeros
    (bytes_append (slice_range s (at + 126) (at + 130)) _ (bytes_range s (at + 126) (at + 130) h)
    (bytes_append (0 ∷ 0 ∷ []) (slice_range s (at + 132) (at + 256)) two_zeros (bytes_range s (at + 132) (at + 256) h)))))

-- a number is what the register with it added is, with the seed taken away
pub taken_away : (a b : ℕ) → bit_xor a (bit_xor a b) ≡ b
taken_away a b = xor_comm a (bit_xor a b) ∙ ap (λ (x : ℕ). bit_xor x a) (xor_comm a b) ∙ xor_twice b a

-- the number that is told makes the checksum right
pub told_is_right : (seed : ℕ) (s : List ℕ) (at : ℕ) → told_number seed s at < 2 ^ 32 →
    register_after (register_after seed (to_le_bytes w32 (told_number seed s at))) (after_number s at) ≡ stored_checksum s at
unfolding told_number
told_is_right seed s at fits =
    let rest = register_before (stored_checksum s at) (after_number s at) in
    let front = register_before rest (0 ∷ 0 ∷ 0 ∷ 0 ∷ []) in
    ap (λ (x : ℕ). register_after x (after_number s at))
    (number_after seed (bit_xor seed front) fits ∙ ap (λ (x : ℕ). register_after x (0 ∷ 0 ∷ 0 ∷ 0 ∷ [])) (taken_away seed front)
    ∙ after_before rest (0 ∷ 0 ∷ 0 ∷ 0 ∷ []))
    ∙ after_before (stored_checksum s at) (after_number s at)

-- and no other does
pub told_is_only : (seed : ℕ) (s : List ℕ) (at n : ℕ) → seed < 2 ^ 32 → n < 2 ^ 32 → AreBytes s → AreBytes (to_le_bytes w32 n) →
    register_after (register_after seed (to_le_bytes w32 n)) (after_number s at) ≡ stored_checksum s at →
    n ≡ told_number seed s at
unfolding told_number
told_is_only seed s at n hs hn bytes number e =
    let rest = register_before (stored_checksum s at) (after_number s at) in
    let sum : bit_xor seed n < 2 ^ 32 = xor_lt 32 seed n hs hn in
    let begun : register_after seed (to_le_bytes w32 n) < 2 ^ 32 = after_fits seed (to_le_bytes w32 n) hs number in
    let back : register_after seed (to_le_bytes w32 n) ≡ rest =
    only_before (register_after seed (to_le_bytes w32 n)) (stored_checksum s at) (after_number s at) begun (covered_bytes s at bytes) e in
    let added : bit_xor seed n ≡ register_before rest (0 ∷ 0 ∷ 0 ∷ 0 ∷ []) =
    only_before (bit_xor seed n) rest (0 ∷ 0 ∷ 0 ∷ 0 ∷ []) sum four_zeros (sym (number_after seed n hn) ∙ back) in
    sym (taken_away seed n) ∙ ap (bit_xor seed) added

-- the bytes of a number
pub number_bytes : (n : ℕ) → AreBytes (to_le_bytes w32 n)
number_bytes n zero = omega arith
number_bytes n (suc zero) = omega arith
number_bytes n (suc (suc zero)) = omega arith
number_bytes n (suc (suc (suc zero))) = omega arith
number_bytes n (suc (suc (suc (suc i)))) = omega arith

-- whether the checksum is right, by the number that is told
pub inode_by_number : (seed : ℕ) (s : List ℕ) (at n : ℕ) → seed < 2 ^ 32 → n < 2 ^ 32 → told_number seed s at < 2 ^ 32 → AreBytes s →
    has_extra s at ≡ true → (told_number seed s at == n) ≡ is_inode seed s at n
unfolding is_inode
inode_by_number seed s at n hs hn ht bytes extra = elim (cases_eq (told_number seed s at) n) [
  | inl e ↦
      (let right : register_after (register_after seed (to_le_bytes w32 n)) (after_number s at) ≡ stored_checksum s at =
      ap (λ (k : ℕ). register_after (register_after seed (to_le_bytes w32 k)) (after_number s at)) (sym e) ∙ told_is_right seed s at ht in
      grind (arith, nat_tests))
  | inr ne ↦
      (let only : register_after (register_after seed (to_le_bytes w32 n)) (after_number s at) ≡ stored_checksum s at → ⊥ =
      λ e. ne (sym (told_is_only seed s at n hs hn bytes (number_bytes n) e)) in
      grind (arith, nat_tests))
]

-- a pair has the number that its first inode tells
pub first_told : (seed inodes : ℕ) (s : List ℕ) (n : ℕ) → seed < 2 ^ 32 → n < 2 ^ 32 → AreBytes s → is_pair seed inodes s n ≡ true → n ≡ told_number seed s 0
unfolding is_pair is_inode
first_told seed inodes s n hs hn bytes t =
    let right : register_after (register_after seed (to_le_bytes w32 n)) (after_number s 0) ≡ stored_checksum s 0 = grind (arith, nat_tests) in
    told_is_only seed s 0 n hs hn bytes (number_bytes n) right

pub only_pair : (seed inodes : ℕ) (s : List ℕ) (n : ℕ) → is_pair seed inodes s n ≡ true → seed < 2 ^ 32 → n < 2 ^ 32 → AreBytes s → inode_pair seed inodes s ≡ Some n
unfolding inode_pair
only_pair seed inodes s n t hs hn bytes =
    let e : n ≡ told_number seed s 0 = first_told seed inodes s n hs hn bytes t in
    grind arith
