-- A list that rises fits the room that is kept for it.
use Rattle.std.proofs.Common.{◌≡◌, ◌<◌, ◌≤◌, ◌+◌, ◌^◌, ℕ, suc, IsTrue, nat_eq, List, [], ◌∷◌, All, length, map, get_or, subst, sym, ap, ◌∙◌, zero-add, arith, lit<, inl, inr}
use Rattle.std.specs.List.{range_with_len}
use Rattle.std.specs.List.Sorted.{IsStrictlyIncreasing}
use Rattle.std.proofs.lemmas.Bool.{cases_lt, eqb-true}
use Rattle.std.proofs.lemmas.List.{length-map, map-id}
use Rattle.std.proofs.lemmas.List.Folds.{Any-from_list_any}
use Rattle.std.proofs.lemmas.List.FromFn.{get_or-range_with_len}
use Rattle.std.proofs.lemmas.List.Elements.{All-tail, All-nil, All-cons}
use Rattle.std.proofs.Math.Pow.{pow_mono, pow-lt}
use Rattle.raid_params.specs.declared.limits.TheConstants.{LONGEST_DELAY, MOST, MOST_CHUNKS, MOST_LESS_ONE, MOST_LEVELS, MOST_PATTERNS, MOST_SYNDROMES}
use Rattle.raid_params.specs.declared.types.Level.{Level}
use Rattle.raid_params.specs.declared.types.Level.TheVariants.{Raid0, Raid5, Raid6}
use Rattle.raid_params.specs.declared.types.Pattern.{Pattern}
use Rattle.raid_params.specs.declared.types.Pattern.TheVariants.{Plain, La, Ra, Ls, Rs, ParityFirst, ParityLast, NRestart, NContinue, La6, Ra6, Ls6, Rs6, ParityFirst6}
use Rattle.raid_params.specs.declared.types.Syndrome.{Syndrome}
use Rattle.raid_params.specs.declared.types.Syndrome.TheVariants.{NoQ, AfterQ, ByData, BySlot}
use Rattle.raid_params.specs.Validity.{is_chunk}
use Rattle.raid_params.specs.Places.{level_place, pattern_place, syndrome_place}
use Rattle.raid_params.specs.Places.{AreRising}

abbrev IsWithin : ℕ → ℕ → ℕ → Type 0
IsWithin low high n = (low ≤ n) × (n < high)

abbrev IsPower : ℕ → Type 0
IsPower n = IsTrue (is_chunk n)

abbrev IsBelow : ℕ → ℕ → Type 0
IsBelow high n = n < high

-- all but the first of a list that rises
pub tail_rises : (n m : ℕ) (ns : List ℕ) → IsStrictlyIncreasing (n ∷ m ∷ ns) → IsStrictlyIncreasing (m ∷ ns)
tail_rises n m ns up k lt =
    let next : suc k + 1 ≡ suc (k + 1) = omega arith in
    let P : ℕ → Type 0 = λ j. get_or (m ∷ ns) k 0 < get_or (n ∷ m ∷ ns) j 0 in
    subst P next (up (suc k) (omega arith))

fits_from : (n : ℕ) (ns : List ℕ) (low high : ℕ) → IsStrictlyIncreasing (n ∷ ns) → low ≤ n → All (λ m. m < high) (n ∷ ns) → length (n ∷ ns) + low ≤ high
fits_from n [] low high up least all = let top = all 0 0 (omega arith) in omega arith
fits_from n (m ∷ ns) low high up least all =
    let first : n < m = up 0 (omega arith) in
    let more = fits_from m ns (low + 1) high (tail_rises n m ns up) (omega arith) (All-tail (IsBelow high) n (m ∷ ns) all) in
    omega arith

-- numbers that rise from `low` up to `high` are at most `high - low`
pub rising_fits : (ns : List ℕ) (low high : ℕ) → AreRising ns → All (λ m. (low ≤ m) × (m < high)) ns → length ns + low ≤ high
rising_fits [] low high rising all = let some = rising.some in absurd (omega arith)
rising_fits (n ∷ ns) low high rising all =
    let first = all 0 0 (omega arith) in
    fits_from n ns low high rising.rising first.0 (λ k d lt. (all k d lt).1)

places_below : {A : Type 0} (place : A → ℕ) (high : ℕ) → ((x : A) → place x < high) → (xs : List A) → All (λ m. (0 ≤ m) × (m < high)) (map place xs)
places_below place high below [] = All-nil (IsWithin 0 high)
places_below place high below (x ∷ xs) = All-cons (IsWithin 0 high) (place x) (map place xs) (omega arith, below x) (places_below place high below xs)

pub place_fits : {A : Type 0} (place : A → ℕ) (high : ℕ) → ((x : A) → place x < high) → (xs : List A) → AreRising (map place xs) → length xs ≤ high
place_fits place high below xs rising =
    let fits = rising_fits (map place xs) 0 high rising (places_below place high below xs) in
    omega (arith, fits, length-map xs place)

level_below : (x : Level) → level_place x < 3
level_below Raid0 = lit< tt
level_below Raid5 = lit< tt
level_below Raid6 = lit< tt

pattern_below : (x : Pattern) → pattern_place x < 14
pattern_below Plain = lit< tt
pattern_below La = lit< tt
pattern_below Ra = lit< tt
pattern_below Ls = lit< tt
pattern_below Rs = lit< tt
pattern_below ParityFirst = lit< tt
pattern_below ParityLast = lit< tt
pattern_below NRestart = lit< tt
pattern_below NContinue = lit< tt
pattern_below La6 = lit< tt
pattern_below Ra6 = lit< tt
pattern_below Ls6 = lit< tt
pattern_below Rs6 = lit< tt
pattern_below ParityFirst6 = lit< tt

syndrome_below : (x : Syndrome) → syndrome_place x < 4
syndrome_below NoQ = lit< tt
syndrome_below AfterQ = lit< tt
syndrome_below ByData = lit< tt
syndrome_below BySlot = lit< tt

pub levels_fit : (xs : List Level) → AreRising (map level_place xs) → length xs ≤ MOST_LEVELS
levels_fit xs rising = place_fits level_place 3 level_below xs rising

pub patterns_fit : (xs : List Pattern) → AreRising (map pattern_place xs) → length xs ≤ MOST_PATTERNS
patterns_fit xs rising = place_fits pattern_place 14 pattern_below xs rising

pub syndromes_fit : (xs : List Syndrome) → AreRising (map syndrome_place xs) → length xs ≤ MOST_SYNDROMES
syndromes_fit xs rising = place_fits syndrome_place 4 syndrome_below xs rising

-- numbers are their own places
pub with_places : (ns : List ℕ) → AreRising ns → AreRising (map (λ (n : ℕ). n) ns)
with_places ns rising = subst AreRising (sym (map-id ns)) rising

pub members_fit : (ns : List ℕ) → AreRising ns → All (λ n. (2 ≤ n) × (n ≤ MOST)) ns → length ns ≤ MOST_LESS_ONE
members_fit ns rising all =
    let fits = rising_fits ns 2 (MOST + 1) rising (λ k d lt. let h = all k d lt in (h.0, omega (arith, h.1))) in
    omega (arith, fits)

pub members_are_bytes : (ns : List ℕ) → All (λ n. (2 ≤ n) × (n ≤ MOST)) ns → All (λ n. n < 2 ^ 8) ns
members_are_bytes ns all k d lt = let h = all k d lt in omega (arith, h.1)

-- a chunk is a power of two
exponent_of : (chunk : ℕ) → IsTrue (is_chunk chunk) → (k : ℕ) × (k < 16) × (chunk ≡ 2 ^ k)
unfolding is_chunk
exponent_of chunk h =
    let at = Any-from_list_any (λ k. nat_eq chunk (2 ^ k)) (range_with_len 0 16) h in
    let place = get_or-range_with_len 0 16 at.0 at.1 at.2 in
    let is : chunk ≡ 2 ^ at.1 = eqb-true chunk (2 ^ at.1) at.4 in
    (at.0, at.2, is ∙ ap (λ (k : ℕ). 2 ^ k) (sym at.3 ∙ place ∙ zero-add at.0))

power_reflects : (i j : ℕ) → 2 ^ i < 2 ^ j → i < j
power_reflects i j lt = elim (cases_lt i j) [ inl below ↦ below | inr above ↦ (let more = pow_mono above in absurd (omega (arith, more))) ]

chunks_fit_from : (c : ℕ) (cs : List ℕ) (low : ℕ) → IsStrictlyIncreasing (c ∷ cs) → All (λ n. IsTrue (is_chunk n)) (c ∷ cs) → (k : ℕ) → k < 16 → c ≡ 2 ^ k → low ≤ k → length (c ∷ cs) + low ≤ 16
chunks_fit_from c [] low up all k small is least = omega arith
chunks_fit_from c (d ∷ cs) low up all k small is least =
    let first : c < d = up 0 (omega arith) in
    let next = exponent_of d (all 1 0 (omega arith)) in
    let rises : 2 ^ k < 2 ^ next.0 = subst (IsBelow (2 ^ next.0)) is (subst (λ (x : ℕ). c < x) next.2 first) in
    let above = power_reflects k next.0 rises in
    let more = chunks_fit_from d cs (low + 1) (tail_rises c d cs up) (All-tail IsPower c (d ∷ cs) all) next.0 next.1 next.2 (omega arith) in
    omega arith

pub chunks_fit : (ns : List ℕ) → AreRising ns → All (λ n. IsTrue (is_chunk n)) ns → length ns ≤ MOST_CHUNKS
chunks_fit [] rising all = let some = rising.some in absurd (omega arith)
chunks_fit (c ∷ cs) rising all =
    let first = exponent_of c (all 0 0 (omega arith)) in
    let fits = chunks_fit_from c cs 0 rising.rising all first.0 first.1 first.2 (omega arith) in
    omega (arith, fits)

pub chunk_is_short : (chunk : ℕ) → IsTrue (is_chunk chunk) → chunk < 2 ^ 64
chunk_is_short chunk h =
    let power = exponent_of chunk h in
    let below : 2 ^ power.0 < 2 ^ 16 = pow-lt power.1 in
    omega (arith, power.2, below)

pub chunks_are_short : (ns : List ℕ) → All (λ n. IsTrue (is_chunk n)) ns → All (λ n. n < 2 ^ 64) ns
chunks_are_short ns all k d lt = chunk_is_short (get_or ns k d) (all k d lt)

pub delays_are_short : (ns : List ℕ) → All (λ n. (1 ≤ n) × (n ≤ LONGEST_DELAY)) ns → All (λ n. n < 2 ^ 64) ns
delays_are_short ns all k d lt = let h = all k d lt in omega (arith, h.1)

pub offsets_are_short : (ns : List ℕ) → All (λ n. n < 2 ^ 55) ns → All (λ n. n < 2 ^ 64) ns
offsets_are_short ns all k d lt = let h = all k d lt in omega (arith, h)
