-- Sectors of the volume are whole sectors of bytes.
use Rattle.std.proofs.Common.{◌≡◌, ℕ, zero, suc, ◌+◌, ◌-◌, ◌*◌, ◌/◌, ◌%◌, ◌<◌, ◌≤◌, Bool, true, false, cond, List, [], ◌∷◌, ◌++◌, codes, length, get_or, replicate, Option, None, Some, refl, ap, ◌∙◌, arith, length-append}
use Rattle.std.proofs.lemmas.List.{length-replicate}
use Rattle.std.specs.Int.{w16, w32, w64, to_be_bytes, to_le_bytes}
use Rattle.std.specs.List.{flat_map, range_with_len}
use Rattle.sample_arrays.specs.Marks.{header_sector, is_mark, mark_sector, padded, super_sector, volume_sector}
use Rattle.sample_arrays.specs.Words.{random_sector, word_of}

-- each number is a byte
abbrev pub AreBytes : List ℕ → Type 0
AreBytes xs = (k : ℕ) → get_or xs k 0 < 256

pub no_bytes : AreBytes []
no_bytes k = omega arith

pub byte_more : (x : ℕ) (xs : List ℕ) → x < 256 → AreBytes xs → AreBytes (x ∷ xs)
byte_more x xs small rest zero = small
byte_more x xs small rest (suc k) = rest k

pub both_bytes : (xs ys : List ℕ) → AreBytes xs → AreBytes ys → AreBytes (xs ++ ys)
both_bytes [] ys a b k = b k
both_bytes (x ∷ xs) ys a b zero = a 0
both_bytes (x ∷ xs) ys a b (suc k) = both_bytes xs ys (λ j. a (suc j)) b k

pub same_bytes : (n b : ℕ) → b < 256 → AreBytes (replicate n b)
same_bytes zero b small k = omega arith
same_bytes (suc n) b small zero = small
same_bytes (suc n) b small (suc k) = same_bytes n b small k

pub flat_bytes : (f : ℕ → List ℕ) (xs : List ℕ) → ((x : ℕ) → AreBytes (f x)) → AreBytes (flat_map f xs)
flat_bytes f [] each = no_bytes
flat_bytes f (x ∷ xs) each = both_bytes (f x) (flat_map f xs) (each x) (flat_bytes f xs each)

-- lists of one length
pub flat_long : (f : ℕ → List ℕ) (size a n : ℕ) → ((x : ℕ) → length (f x) ≡ size) → length (flat_map f (range_with_len a n)) ≡ n * size
flat_long f size a zero each = omega arith
flat_long f size a (suc n) each =
    let here = each a in
    let rest = flat_long f size (a + 1) n each in
    let both = length-append (f a) (flat_map f (range_with_len (a + 1) n)) in
    let more : suc n * size ≡ size + n * size = grind arith in
    omega arith

le_8 : (n : ℕ) → AreBytes (to_le_bytes w64 n)
le_8 n zero = omega arith
le_8 n (suc zero) = omega arith
le_8 n (suc (suc zero)) = omega arith
le_8 n (suc (suc (suc zero))) = omega arith
le_8 n (suc (suc (suc (suc zero)))) = omega arith
le_8 n (suc (suc (suc (suc (suc zero))))) = omega arith
le_8 n (suc (suc (suc (suc (suc (suc zero)))))) = omega arith
le_8 n (suc (suc (suc (suc (suc (suc (suc zero))))))) = omega arith
le_8 n (suc (suc (suc (suc (suc (suc (suc (suc k)))))))) = omega arith

be_4 : (n : ℕ) → AreBytes (to_be_bytes w32 n)
be_4 n zero = omega arith
be_4 n (suc zero) = omega arith
be_4 n (suc (suc zero)) = omega arith
be_4 n (suc (suc (suc zero))) = omega arith
be_4 n (suc (suc (suc (suc k)))) = omega arith

be_2 : (n : ℕ) → AreBytes (to_be_bytes w16 n)
be_2 n zero = omega arith
be_2 n (suc zero) = omega arith
be_2 n (suc (suc k)) = omega arith

-- a sector: 512 bytes
pub record IsSector (xs : List ℕ) : Type 0 where
  pub long : length xs ≡ 512
  pub bytes : AreBytes xs

padded_bytes : (n : ℕ) (xs : List ℕ) → AreBytes xs → AreBytes (padded n xs)
padded_bytes n xs a = both_bytes xs (replicate (n - length xs) 0) a (same_bytes (n - length xs) 0 (omega arith))

padded_long : (n : ℕ) (xs : List ℕ) → length xs ≤ n → length (padded n xs) ≡ n
padded_long n xs few =
    let whole : length xs + (n - length xs) ≡ n = omega arith in
    length-append xs (replicate (n - length xs) 0) ∙ ap (λ (k : ℕ). length xs + k) (length-replicate {A = ℕ} (n - length xs) 0) ∙ whole

random_is : (number v : ℕ) → IsSector (random_sector number v)
unfolding random_sector
random_is number v = record {
  long = flat_long (λ n. to_le_bytes w64 (word_of number n)) 8 (64 * v) 64 (λ n. refl);
  bytes = flat_bytes (λ n. to_le_bytes w64 (word_of number n)) (range_with_len (64 * v) 64) (λ n. le_8 (word_of number n));
}

letters_bytes : (a b c d : ℕ) → a < 256 → b < 256 → c < 256 → d < 256 → AreBytes (a ∷ b ∷ c ∷ d ∷ [])
letters_bytes a b c d p q r s = byte_more a (b ∷ c ∷ d ∷ []) p (byte_more b (c ∷ d ∷ []) q (byte_more c (d ∷ []) r (byte_more d [] s no_bytes)))

header_is : (letters : List ℕ) (group : ℕ) → length letters ≡ 4 → AreBytes letters → IsSector (header_sector letters group)
unfolding header_sector
header_is letters group four a =
    let front : List ℕ = letters ++ to_be_bytes w32 1 ++ to_be_bytes w32 group in
    let long : length front ≡ 12 = length-append (letters ++ to_be_bytes w32 1) (to_be_bytes w32 group)
    ∙ ap (λ (n : ℕ). n + 4) (length-append letters (to_be_bytes w32 1)) ∙ ap (λ (n : ℕ). n + 4 + 4) four in
    record {
      long = padded_long 512 front (omega arith);
      bytes = padded_bytes 512 front (both_bytes (letters ++ to_be_bytes w32 1) (to_be_bytes w32 group) (both_bytes letters (to_be_bytes w32 1) a (be_4 1)) (be_4 group));
    }

super_is : (blocks : ℕ) → IsSector (super_sector blocks)
unfolding super_sector
super_is blocks =
    let a : List ℕ = codes "XFSB" ++ to_be_bytes w32 4096 in
    let b : List ℕ = padded 32 a ++ replicate 16 165 in
    let c : List ℕ = padded 84 b ++ to_be_bytes w32 blocks ++ to_be_bytes w32 64 in
    let d : List ℕ = padded 102 c ++ to_be_bytes w16 512 in
    let a_long : length a ≡ 8 = refl in
    let a_padded = padded_long 32 a (omega arith) in
    let b_long : length b ≡ 48 = length-append (padded 32 a) (replicate 16 165) ∙ ap (λ (n : ℕ). n + 16) a_padded in
    let b_padded = padded_long 84 b (omega arith) in
    let c_long : length c ≡ 92 = length-append (padded 84 b ++ to_be_bytes w32 blocks) (to_be_bytes w32 64)
    ∙ ap (λ (n : ℕ). n + 4) (length-append (padded 84 b) (to_be_bytes w32 blocks)) ∙ ap (λ (n : ℕ). n + 4 + 4) b_padded in
    let c_padded = padded_long 102 c (omega arith) in
    let d_long : length d ≡ 104 = length-append (padded 102 c) (to_be_bytes w16 512) ∙ ap (λ (n : ℕ). n + 2) c_padded in
    let a_bytes : AreBytes a = both_bytes (codes "XFSB") (to_be_bytes w32 4096) (letters_bytes 88 70 83 66 (omega arith) (omega arith) (omega arith) (omega arith)) (be_4 4096) in
    let b_bytes : AreBytes b = both_bytes (padded 32 a) (replicate 16 165) (padded_bytes 32 a a_bytes) (same_bytes 16 165 (omega arith)) in
    let c_bytes : AreBytes c = both_bytes (padded 84 b ++ to_be_bytes w32 blocks) (to_be_bytes w32 64)
    (both_bytes (padded 84 b) (to_be_bytes w32 blocks) (padded_bytes 84 b b_bytes) (be_4 blocks)) (be_4 64) in
    let d_bytes : AreBytes d = both_bytes (padded 102 c) (to_be_bytes w16 512) (padded_bytes 102 c c_bytes) (be_2 512) in
    record { long = padded_long 512 d (omega arith); bytes = padded_bytes 512 d d_bytes }

either : (b : Bool) (xs ys : List ℕ) → IsSector xs → IsSector ys → IsSector (cond b xs ys)
either true xs ys p q = p
either false xs ys p q = q

mark_is : (blocks group : ℕ) (first second : Bool) →
    IsSector (cond first (super_sector blocks) (cond second (header_sector (codes "XAGF") group) (header_sector (codes "XAGI") group)))
mark_is blocks group first second =
    either first (super_sector blocks) (cond second (header_sector (codes "XAGF") group) (header_sector (codes "XAGI") group)) (super_is blocks)
    (either second (header_sector (codes "XAGF") group) (header_sector (codes "XAGI") group)
    (header_is (codes "XAGF") group refl (letters_bytes 88 65 71 70 (omega arith) (omega arith) (omega arith) (omega arith)))
    (header_is (codes "XAGI") group refl (letters_bytes 88 65 71 73 (omega arith) (omega arith) (omega arith) (omega arith))))

pub sector_is : (number : ℕ) (blocks : Option ℕ) (v : ℕ) → IsSector (volume_sector number blocks v)
sector_is number None v = random_is number v
sector_is number (Some blocks) v =
    either (is_mark blocks v) (mark_sector blocks (v / (8 * blocks)) (v % (8 * blocks))) (random_sector number v)
    (mark_is blocks (v / (8 * blocks)) _ _) (random_is number v)
