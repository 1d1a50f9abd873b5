-- Two inodes beside each other, without the seed of their file system.
use Rattle.std.proofs.Common.{◌≡◌, ℕ, ◌+◌, ◌-◌, ◌*◌, ◌/◌, ◌%◌, ◌<◌, ◌≤◌, zero, suc, List, Some, Bool, true, false, ◌==◌, refl, sym, ap, ap₂, ◌∙◌, arith, ◌^◌, bit_xor, inl, inr, pow_mono}
use Rattle.std.specs.Prelude.{◌||◌}
use Rattle.std.specs.List.{list_any, range_with_len}
use Rattle.std.proofs.lemmas.Bool.{cases_lt, or_cases, eqb-true, eq-eqb, false≢true}
use Rattle.std.proofs.lemmas.Bool.Decides.{nat_tests}
use Rattle.std.proofs.lemmas.Nat.{pow-add, pow_pos, xor_lt, xor_comm, xor_block}
use lib.Bits.{xor_assoc, xor_self, xor_zero_r}
use Rattle.crc32c.proofs.Bits.{xor_swap}
use Rattle.crc32c.proofs.Registers.{AreBytes}
use Rattle.inode_marks.specs.Inode.{any_pair, are_beside, are_ones, has_extra, inode_pair, is_inode, is_pair, pair_number, told_number}
use Rattle.inode_marks.proofs.Numbers.{inode_by_number, number_bytes, taken_away, told_is_only}

-- ---- a number and the next

-- a power that is twice, or 32 times, another
twice : (k : ℕ) → 2 ^ (k + 1) ≡ 2 * 2 ^ k
twice k = pow-add 2 k 1 ∙ omega arith

many : (k : ℕ) → 2 ^ (5 + k) ≡ 32 * 2 ^ k
many k = pow-add 2 5 k

-- they differ by ones alone
next_ones : (j m : ℕ) → m + 1 < 2 ^ j → (k : ℕ) × (k < j) × (bit_xor m (m + 1) + 1 ≡ 2 ^ (k + 1))
next_ones zero m below = absurd (omega arith)
next_ones (suc j) m below = elim (cases_lt (m % 2) 1) [
  | inl even ↦
      (let here : m ≡ m / 2 * 2 ^ 1 + 0 = omega arith in
      let next : m + 1 ≡ m / 2 * 2 ^ 1 + 1 = omega arith in
      let sum : bit_xor m (m + 1) ≡ bit_xor (m / 2) (m / 2) * 2 ^ 1 + 1 =
      ap₂ bit_xor here next ∙ xor_block 1 (m / 2) (m / 2) 0 1 (omega arith) (omega arith) in
      (0, omega arith, omega (arith, sum, xor_self (m / 2))))
  | inr odd ↦
      (let here : m ≡ m / 2 * 2 ^ 1 + 1 = omega arith in
      let next : m + 1 ≡ (m / 2 + 1) * 2 ^ 1 + 0 = omega arith in
      let sum : bit_xor m (m + 1) ≡ bit_xor (m / 2) (m / 2 + 1) * 2 ^ 1 + 1 =
      ap₂ bit_xor here next ∙ xor_block 1 (m / 2) (m / 2 + 1) 1 0 (omega arith) (omega arith) in
      let power : 2 ^ (j + 1) ≡ 2 * 2 ^ j = twice j in
      let half = next_ones j (m / 2) (omega arith) in
      (half.0 + 1, omega (arith, half.1), omega (arith, sum, half.2, twice (half.0 + 1))))
]

-- ---- ones

or_first : (a b : Bool) → a ≡ true → (a || b) ≡ true
or_first true b is = refl
or_first false b is = absurd (false≢true is)

or_second : (a b : Bool) → b ≡ true → (a || b) ≡ true
or_second true b is = refl
or_second false b is = is

any_range : (p : ℕ → Bool) (a n i : ℕ) → i < n → p (a + i) ≡ true → list_any p (range_with_len a n) ≡ true
any_range p a zero i below is = absurd (omega arith)
any_range p a (suc n) zero below is =
    let same : a + 0 ≡ a = omega arith in
    or_first (p a) (list_any p (range_with_len (a + 1) n)) (ap p (sym same) ∙ is)
any_range p a (suc n) (suc i) below is =
    let same : a + 1 + i ≡ a + suc i = omega arith in
    or_second (p a) (list_any p (range_with_len (a + 1) n)) (any_range p (a + 1) n i (omega arith) (ap p same ∙ is))

range_any : (p : ℕ → Bool) (a n : ℕ) → list_any p (range_with_len a n) ≡ true → (i : ℕ) × (i < n) × (p (a + i) ≡ true)
range_any p a zero some = absurd (false≢true some)
range_any p a (suc n) some = elim (or_cases (p a) (list_any p (range_with_len (a + 1) n)) some) [
  | inl here ↦ (let same : a + 0 ≡ a = omega arith in (0, omega arith, ap p same ∙ here))
  | inr later ↦
      (let rest = range_any p (a + 1) n later in
      let same : a + (rest.0 + 1) ≡ a + 1 + rest.0 = omega arith in
      (rest.0 + 1, omega (arith, rest.1), ap p same ∙ rest.2))
]

ones_at : (k d : ℕ) → k < 27 → d + 1 ≡ 2 ^ (6 + k) → are_ones d ≡ true
unfolding are_ones
ones_at k d below is =
    let same : d ≡ 2 ^ (6 + k) - 1 = omega arith in
    any_range (λ j. d == 2 ^ j - 1) 6 27 k below (eq-eqb d (2 ^ (6 + k) - 1) same)

ones_of : (d : ℕ) → are_ones d ≡ true → (k : ℕ) × (k < 27) × (d + 1 ≡ 2 ^ (6 + k))
unfolding are_ones
ones_of d some =
    let at = range_any (λ j. d == 2 ^ j - 1) 6 27 some in
    let same : d ≡ 2 ^ (6 + at.0) - 1 = eqb-true d (2 ^ (6 + at.0) - 1) at.2 in
    let least : 1 ≤ 2 ^ (6 + at.0) = pow_pos (6 + at.0) in
    (at.0, at.1, omega arith)

-- a number below a multiple of 32 differs from it by ones
ones_beside : (n : ℕ) → n + 1 < 2 ^ 32 → (n + 1) % 32 ≡ 0 → are_ones (bit_xor n (n + 1)) ≡ true
ones_beside n below whole =
    let here : n ≡ n / 32 * 2 ^ 5 + 31 = omega arith in
    let next : n + 1 ≡ (n / 32 + 1) * 2 ^ 5 + 0 = omega arith in
    let sum : bit_xor n (n + 1) ≡ bit_xor (n / 32) (n / 32 + 1) * 2 ^ 5 + 31 =
    ap₂ bit_xor here next ∙ xor_block 5 (n / 32) (n / 32 + 1) 31 0 (omega arith) (omega arith) in
    let some = next_ones 27 (n / 32) (omega arith) in
    let same : 5 + (some.0 + 1) ≡ 6 + some.0 = omega arith in
    ones_at some.0 (bit_xor n (n + 1)) some.1 (omega (arith, sum, some.2, many (some.0 + 1)) ∙ ap (λ (k : ℕ). 2 ^ k) same)

-- ---- what two inodes tell

zero_left : (b : ℕ) → bit_xor 0 b ≡ b
zero_left b = xor_comm 0 b ∙ xor_zero_r b

-- with a seed they tell what they tell without, with the seed added
with_seed : (seed : ℕ) (s : List ℕ) (at : ℕ) → told_number seed s at ≡ bit_xor seed (told_number 0 s at)
unfolding told_number
with_seed seed s at = ap (bit_xor seed) (sym (zero_left _))

without_seed : (seed : ℕ) (s : List ℕ) (at n : ℕ) → n ≡ told_number seed s at → told_number 0 s at ≡ bit_xor seed n
without_seed seed s at n is = sym (ap (bit_xor seed) (is ∙ with_seed seed s at) ∙ taken_away seed (told_number 0 s at))

extra_of : (seed : ℕ) (s : List ℕ) (at n : ℕ) → is_inode seed s at n ≡ true → has_extra s at ≡ true
unfolding is_inode
extra_of seed s at n is = grind (arith, nat_tests)

only_told : (seed : ℕ) (s : List ℕ) (at n : ℕ) → seed < 2 ^ 32 → n < 2 ^ 32 → AreBytes s → is_inode seed s at n ≡ true → n ≡ told_number seed s at
unfolding is_inode
only_told seed s at n hs hn bytes is = told_is_only seed s at n hs hn bytes (number_bytes n) (grind (arith, nat_tests))

difference : (seed a b : ℕ) → bit_xor (bit_xor seed a) (bit_xor seed b) ≡ bit_xor a b
difference seed a b = xor_swap seed a seed b ∙ ap (λ (x : ℕ). bit_xor x (bit_xor a b)) (xor_self seed) ∙ zero_left (bit_xor a b)

-- two of any file system whose second number is a multiple of 32 count
pub only_beside : (s : List ℕ) (seed n : ℕ) → seed < 2 ^ 32 → n + 1 < 2 ^ 32 → (n + 1) % 32 ≡ 0 → is_inode seed s 0 n ≡ true → is_inode seed s 256 (n + 1) ≡ true → AreBytes s →
    any_pair s ≡ Some (record { first = bit_xor seed n; second = bit_xor seed (n + 1) })
unfolding any_pair are_beside
only_beside s seed n hs hn whole one two bytes =
    let first : told_number 0 s 0 ≡ bit_xor seed n = without_seed seed s 0 n (only_told seed s 0 n hs (omega arith) bytes one) in
    let second : told_number 0 s 256 ≡ bit_xor seed (n + 1) = without_seed seed s 256 (n + 1) (only_told seed s 256 (n + 1) hs hn bytes two) in
    let ones : are_ones (bit_xor (bit_xor seed n) (bit_xor seed (n + 1))) ≡ true = ap are_ones (difference seed n (n + 1)) ∙ ones_beside n hn whole in
    rw (first, second, extra_of seed s 0 n one, extra_of seed s 256 (n + 1) two, ones) refl

-- and others do not
pub some_beside : (s : List ℕ) → are_beside s ≡ true → told_number 0 s 0 < 2 ^ 32 → told_number 0 s 256 < 2 ^ 32 → AreBytes s →
    (seed : ℕ) × (n : ℕ) × ((n + 1) % 32 ≡ 0) × (is_inode seed s 0 n ≡ true) × (is_inode seed s 256 (n + 1) ≡ true)
unfolding are_beside
some_beside s are h0 h1 bytes =
    let a = told_number 0 s 0 in
    let b = told_number 0 s 256 in
    let extra0 : has_extra s 0 ≡ true = grind (arith, nat_tests) in
    let extra1 : has_extra s 256 ≡ true = grind (arith, nat_tests) in
    let ones : are_ones (bit_xor a b) ≡ true = grind (arith, nat_tests) in
    let at = ones_of (bit_xor a b) ones in
    let k = at.0 in
    let n = 2 ^ (5 + k) - 1 in
    let least : 1 ≤ 2 ^ k = pow_pos k in
    let some : 1 ≤ 2 ^ (5 + k) = pow_pos (5 + k) in
    let fits : 5 + k ≤ 31 = omega (arith, at.1) in
    let most : 2 ^ (5 + k) ≤ 2 ^ 31 = pow_mono fits in
    let after : n + 1 ≡ 2 ^ (5 + k) = omega arith in
    let six : 5 + k + 1 ≡ 6 + k = omega arith in
    let double : 2 ^ (6 + k) ≡ 2 * 2 ^ (5 + k) = ap (λ (j : ℕ). 2 ^ j) (sym six) ∙ twice (5 + k) in
    let sum : bit_xor a b ≡ 1 * 2 ^ (5 + k) + n = omega (arith, at.2, double) in
    let low : n ≡ 0 * 2 ^ (5 + k) + n = omega arith in
    let next : bit_xor n (bit_xor a b) ≡ n + 1 =
    ap₂ bit_xor low sum ∙ xor_block (5 + k) 0 1 n n (omega arith) (omega arith) ∙ ap (λ (x : ℕ). 1 * 2 ^ (5 + k) + x) (xor_self n) ∙ omega arith in
    let seed = bit_xor a n in
    let small : seed < 2 ^ 32 = xor_lt 32 a n h0 (omega arith) in
    let first : told_number seed s 0 ≡ n = with_seed seed s 0 ∙ xor_comm seed a ∙ taken_away a n in
    let second : told_number seed s 256 ≡ n + 1 = with_seed seed s 256 ∙ ap (λ (x : ℕ). bit_xor x b) (xor_comm a n) ∙ xor_assoc n a b ∙ next in (
      seed,
      n,
      omega (arith, many k, after),
      sym (inode_by_number seed s 0 n small (omega arith) (omega (arith, first)) bytes extra0) ∙ eq-eqb (told_number seed s 0) n first,
      sym (inode_by_number seed s 256 (n + 1) small (omega arith) (omega (arith, second)) bytes extra1) ∙ eq-eqb (told_number seed s 256) (n + 1) second,
    )

-- and in a file system they are the two of it that the sector holds
pub same_number : (s : List ℕ) (seed inodes : ℕ) → are_beside s ≡ true → seed < 2 ^ 32 → inodes < 2 ^ 32 → told_number 0 s 0 < 2 ^ 32 → told_number 0 s 256 < 2 ^ 32 → AreBytes s →
    pair_number seed inodes (record { first = told_number 0 s 0; second = told_number 0 s 256 }) ≡ inode_pair seed inodes s
unfolding are_beside pair_number inode_pair is_pair
same_number s seed inodes are hs hi h0 h1 bytes =
    let extra0 : has_extra s 0 ≡ true = grind (arith, nat_tests) in
    let extra1 : has_extra s 256 ≡ true = grind (arith, nat_tests) in
    let n = told_number seed s 0 in
    let first : bit_xor seed (told_number 0 s 0) ≡ n = sym (with_seed seed s 0) in
    let second : bit_xor seed (told_number 0 s 256) ≡ told_number seed s 256 = sym (with_seed seed s 256) in
    let small : n < 2 ^ 32 = rw (with_seed seed s 0) (xor_lt 32 seed (told_number 0 s 0) hs h0) in
    let other : told_number seed s 256 < 2 ^ 32 = rw (with_seed seed s 256) (xor_lt 32 seed (told_number 0 s 256) hs h1) in
    let is : is_inode seed s 0 n ≡ true = sym (inode_by_number seed s 0 n hs small small bytes extra0) ∙ eq-eqb n n refl in
    rw (first, second) (elim (cases_lt n inodes) [
      | inl below ↦
          (let next : (told_number seed s 256 == n + 1) ≡ is_inode seed s 256 (n + 1) = inode_by_number seed s 256 (n + 1) hs (omega arith) other bytes extra1 in
          grind (arith, nat_tests))
      | inr past ↦ grind (arith, nat_tests)
    ])
