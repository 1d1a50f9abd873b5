-- Marks in their order: a list that is in order and has the same marks, each once, is the same list.
use Rattle.std.proofs.Common.{◌≡◌, ℕ, zero, suc, ◌+◌, ◌≤◌, ◌<◌, ◌==◌, nat_le, Bool, true, false, if◌then◌else◌, List, [], ◌∷◌, map, All, inl, inr, ◌⊎◌, refl, sym, ap, subst, ◌∙◌, arith}
use Rattle.std.proofs.lemmas.Bool.{cases_lt, eqb-true}
use Rattle.std.proofs.lemmas.Bool.Decides.{nat_tests}
use Rattle.std.proofs.lemmas.List.Elements.{All-nil, All-cons, All-head, All-tail, All-weaker, All-contains}
use Rattle.std.proofs.lemmas.List.Kept.{AllPairs-from_increasing}
use Rattle.std.proofs.lemmas.List.Sorted.{IsPermutation-refl, IsPermutation-cons, IsPermutation-trans, IsPermutation-sym, IsPermutation-middle, All-permutation, Contains-permutation, sum_by-IsPermutation}
use Rattle.std.proofs.lemmas.List.Sums.{sum_by-cons}
use Rattle.std.specs.List.{AllPairs, Contains, sum_by}
use Rattle.std.specs.List.Sorted.{IsNonDecreasingBy, IsPermutation, IsStrictlyIncreasing}
use Rattle.landmark_rules.specs.Groups.{mark_place}
use Rattle.landmark_rules.specs.declared.marks.Mark.{Mark}
use Rattle.image_padding.specs.Padded.{padding}
use Rattle.padded_images.specs.Plans.{in_order, padded_mark, with_mark}
use Rattle.raid_params.specs.declared.limits.TheConstants.{MOST}

-- each mark is before all later ones
unfoldable pub Rises : List Mark → Type 0
Rises [] = Unit {0}
Rises (m ∷ ms) = All (λ n. mark_place m < mark_place n) ms × Rises ms

-- no mark is behind a later one
unfoldable Climbs : List Mark → Type 0
Climbs [] = Unit {0}
Climbs (m ∷ ms) = All (λ n. mark_place m ≤ mark_place n) ms × Climbs ms

-- ---- what in_order gives has the same marks, and climbs

permutes_if : (b : Bool) (m first : Mark) (ms : List Mark) → IsPermutation (m ∷ ms) (with_mark m ms) → IsPermutation (m ∷ first ∷ ms) (if b then m ∷ first ∷ ms else first ∷ with_mark m ms)
permutes_if true m first ms rest = IsPermutation-refl (m ∷ first ∷ ms)
permutes_if false m first ms rest =
    IsPermutation-trans (m ∷ first ∷ ms) (first ∷ m ∷ ms) (first ∷ with_mark m ms) (IsPermutation-middle (m ∷ []) first ms)
    (IsPermutation-cons first (m ∷ ms) (with_mark m ms) rest)

with_permutes : (m : Mark) (ms : List Mark) → IsPermutation (m ∷ ms) (with_mark m ms)
unfolding with_mark
with_permutes m [] = IsPermutation-refl (m ∷ [])
with_permutes m (first ∷ ms) = permutes_if (nat_le (mark_place m) (mark_place first)) m first ms (with_permutes m ms)

pub order_permutes : (ms : List Mark) → IsPermutation ms (in_order ms)
unfolding in_order
order_permutes [] = IsPermutation-refl []
order_permutes (m ∷ ms) =
    IsPermutation-trans (m ∷ ms) (m ∷ in_order ms) (with_mark m (in_order ms)) (IsPermutation-cons m ms (in_order ms) (order_permutes ms))
    (with_permutes m (in_order ms))

not_behind : (a b : ℕ) → true ≡ nat_le a b → a ≤ b
not_behind a b e = grind (arith, nat_tests)

behind : (a b : ℕ) → false ≡ nat_le a b → b ≤ a
behind a b e = grind (arith, nat_tests)

climbs_if : (m first : Mark) (ms : List Mark) (b : Bool) → b ≡ nat_le (mark_place m) (mark_place first) → Climbs (first ∷ ms) → Climbs (with_mark m ms) → Climbs (if b then m ∷ first ∷ ms else first ∷ with_mark m ms)
unfolding Climbs
climbs_if m first ms true e climbs rest =
    let le = not_behind (mark_place m) (mark_place first) e in (
      All-cons (λ n. mark_place m ≤ mark_place n) first ms le
          (All-weaker (λ n. mark_place first ≤ mark_place n) (λ n. mark_place m ≤ mark_place n) (λ n h. omega (arith, h, le)) ms climbs.0),
      climbs,
    )
climbs_if m first ms false e climbs rest = (
  All-permutation (λ n. mark_place first ≤ mark_place n) (m ∷ ms) (with_mark m ms) (with_permutes m ms)
      (All-cons (λ n. mark_place first ≤ mark_place n) m ms (behind (mark_place m) (mark_place first) e) climbs.0),
  rest,
)

with_climbs : (m : Mark) (ms : List Mark) → Climbs ms → Climbs (with_mark m ms)
unfolding Climbs with_mark
with_climbs m [] climbs = (All-nil (λ n. mark_place m ≤ mark_place n), tt)
with_climbs m (first ∷ ms) climbs = climbs_if m first ms (nat_le (mark_place m) (mark_place first)) refl climbs (with_climbs m ms climbs.1)

order_climbs : (ms : List Mark) → Climbs (in_order ms)
unfolding Climbs in_order
order_climbs [] = tt
order_climbs (m ∷ ms) = with_climbs m (in_order ms) (order_climbs ms)

climbs_from : (ms : List Mark) → IsNonDecreasingBy mark_place ms → Climbs ms
unfolding Climbs
climbs_from [] up = tt
climbs_from (m ∷ ms) up = ((λ k d h. up 0 (suc k) d (omega arith) (omega (arith, h))), climbs_from ms (λ i j d less h. up (suc i) (suc j) d (omega (arith, less)) (omega (arith, h))))

-- ---- what climbs and has each place once rises

-- one at the place, and none elsewhere
abbrev pub is_at : ℕ → Mark → ℕ
is_at place m = if mark_place m == place then 1 else 0

at_place : (m : Mark) (place : ℕ) → mark_place m ≡ place → is_at place m ≡ 1
at_place m place e = grind (arith, nat_tests)

elsewhere : (m : Mark) (place : ℕ) → is_at place m ≤ 0 → mark_place m ≡ place → 1 ≤ 0
elsewhere m place none e = let one = at_place m place e in omega (arith, one, none)

stricter : (place : ℕ) (ms : List Mark) → All (λ n. place ≤ mark_place n) ms → sum_by (is_at place) ms ≤ 0 → All (λ n. place < mark_place n) ms
stricter place [] all none = All-nil (λ n. place < mark_place n)
stricter place (m ∷ ms) all none =
    let sum = sum_by-cons (is_at place) m ms in
    let le = All-head (λ n. place ≤ mark_place n) m ms all in
    All-cons (λ n. place < mark_place n) m ms
    (elim (cases_lt place (mark_place m)) [
      | inl less ↦ less
      | inr other ↦ absurd (let no = elsewhere m place (omega (arith, sum, none)) (omega (arith, le, other)) in omega (arith, no))
    ])
    (stricter place ms (All-tail (λ n. place ≤ mark_place n) m ms all) (omega (arith, sum, none)))

rises_of : (ms : List Mark) → Climbs ms → ((place : ℕ) → sum_by (is_at place) ms ≤ 1) → Rises ms
unfolding Climbs Rises
rises_of [] climbs once = tt
rises_of (m ∷ ms) climbs once =
    let sum = sum_by-cons (is_at (mark_place m)) m ms in
    let one = at_place m (mark_place m) refl in
    let most = once (mark_place m) in (
      stricter (mark_place m) ms climbs.0 (omega (arith, sum, one, most)),
      rises_of ms climbs.1 (λ place. let whole = sum_by-cons (is_at place) m ms in let few = once place in omega (arith, whole, few)),
    )

-- ---- lists that rise and have the same marks are the same

cons_cases : (m : Mark) (ms : List Mark) (n : Mark) → Contains (m ∷ ms) n → (m ≡ n) ⊎ Contains ms n
cons_cases m ms n (zero, h, e) = inl e
cons_cases m ms n (suc k, h, e) = inr (k, omega (arith, h), e)

first_in : (m : Mark) (ms : List Mark) → Contains (m ∷ ms) m
first_in m ms = (zero, omega arith, refl)

later_in : (m : Mark) (ms : List Mark) (n : Mark) → Contains ms n → Contains (m ∷ ms) n
later_in m ms n (k, h, e) = (suc k, omega (arith, h), e)

same_first : (m n : Mark) (ms ns : List Mark) → All (λ k. mark_place m < mark_place k) ms → All (λ k. mark_place n < mark_place k) ns → Contains (n ∷ ns) m → Contains (m ∷ ms) n → m ≡ n
same_first m n ms ns above over one other =
    elim (cons_cases n ns m one) [
      | inl same ↦ sym same
      | inr later ↦ elim (cons_cases m ms n other) [
        | inl same ↦ same
        | inr behind ↦ (let low = All-contains (λ k. mark_place n < mark_place k) ns m over later in
            let high = All-contains (λ k. mark_place m < mark_place k) ms n above behind in absurd (omega (arith, low, high)))
      ]
    ]

left_in : (m n k : Mark) (ms ns : List Mark) → m ≡ n → All (λ k. mark_place m < mark_place k) ms → Contains ms k → Contains (n ∷ ns) k → Contains ns k
left_in m n k ms ns same above has whole =
    elim (cons_cases n ns k whole) [
      | inl first ↦ (let high = All-contains (λ k. mark_place m < mark_place k) ms k above has in
          let place : mark_place m ≡ mark_place k = ap mark_place (same ∙ first) in absurd (omega (arith, high, place)))
      | inr later ↦ later
    ]

same_marks : (ms ns : List Mark) → Rises ms → Rises ns → ((k : Mark) → Contains ms k → Contains ns k) → ((k : Mark) → Contains ns k → Contains ms k) → ms ≡ ns
unfolding Rises
same_marks [] [] rises climbs there back = refl
same_marks [] (n ∷ ns) rises climbs there back = absurd (let has = back n (first_in n ns) in omega (arith, has.1))
same_marks (m ∷ ms) [] rises climbs there back = absurd (let has = there m (first_in m ms) in omega (arith, has.1))
same_marks (m ∷ ms) (n ∷ ns) rises climbs there back =
    let same : m ≡ n = same_first m n ms ns rises.0 climbs.0 (there m (first_in m ms)) (back n (first_in n ns)) in
    let rest : ms ≡ ns = same_marks ms ns rises.1 climbs.1
    (λ k has. left_in m n k ms ns same rises.0 has (there k (later_in m ms k has)))
    (λ k has. left_in n m k ns ms (sym same) climbs.0 has (back k (later_in n ns k has))) in
    rw (same, rest) refl

-- ---- marks that rise are each at a place of its own, also once the images are padded

same_place : (bases : List ℕ) (m n : Mark) → m.image < MOST → n.image < MOST → mark_place (padded_mark bases m) ≡ mark_place (padded_mark bases n) → mark_place m ≡ mark_place n
same_place bases m n small few e =
    let image : m.image ≡ n.image = omega (arith, small, few, e) in
    let raised : padding bases m.image ≡ padding bases n.image = ap (padding bases) image in
    omega (arith, image, raised, e)

none_at : (bases : List ℕ) (m : Mark) (ms : List Mark) → m.image < MOST → All (λ n. n.image < MOST) ms → All (λ n. mark_place m < mark_place n) ms → sum_by (is_at (mark_place (padded_mark bases m))) (map (padded_mark bases) ms) ≤ 0
none_at bases m [] small few above = omega arith
none_at bases m (n ∷ ms) small few above =
    let place = mark_place (padded_mark bases m) in
    let sum = sum_by-cons (is_at place) (padded_mark bases n) (map (padded_mark bases) ms) in
    let rest = none_at bases m ms small (All-tail (λ n. n.image < MOST) n ms few) (All-tail (λ n. mark_place m < mark_place n) n ms above) in
    let less = All-head (λ n. mark_place m < mark_place n) n ms above in
    let other = not_at (padded_mark bases n) place (λ e. let same = same_place bases m n small (All-head (λ n. n.image < MOST) n ms few) (sym e) in omega (arith, same, less)) in
    omega (arith, sum, rest, other)
  where
    not_at : (n : Mark) (place : ℕ) → (mark_place n ≡ place → 1 ≤ 0) → is_at place n ≤ 0
    not_at n place never = grind (arith, nat_tests)

pub once : (bases : List ℕ) (ms : List Mark) → Rises ms → All (λ n. n.image < MOST) ms → (place : ℕ) → sum_by (is_at place) (map (padded_mark bases) ms) ≤ 1
unfolding Rises
once bases [] rises few place = omega arith
once bases (m ∷ ms) rises few place =
    let sum = sum_by-cons (is_at place) (padded_mark bases m) (map (padded_mark bases) ms) in
    let rest = once bases ms rises.1 (All-tail (λ n. n.image < MOST) m ms few) place in
    let here = is_first (padded_mark bases m) place in
    elim here [
      | inl e ↦ (let none = none_at bases m ms (All-head (λ n. n.image < MOST) m ms few) (All-tail (λ n. n.image < MOST) m ms few) rises.0 in
          let one = at_place (padded_mark bases m) place e in
          let gone : sum_by (is_at place) (map (padded_mark bases) ms) ≤ 0 = subst (λ (k : ℕ). sum_by (is_at k) (map (padded_mark bases) ms) ≤ 0) e none in
          omega (arith, sum, one, gone))
      | inr none ↦ omega (arith, sum, rest, none)
    ]
  where
    is_first : (n : Mark) (place : ℕ) → (mark_place n ≡ place) ⊎ (is_at place n ≤ 0)
    is_first n place = of (mark_place n == place) refl
      where
        of : (b : Bool) → (mark_place n == place) ≡ b → (mark_place n ≡ place) ⊎ (is_at place n ≤ 0)
        of true e = inl (eqb-true (mark_place n) place e)
        of false e = inr (rw e (omega arith))

from_places : (P : ℕ → Type 0) (ms : List Mark) → All P (map mark_place ms) → All (λ n. P (mark_place n)) ms
from_places P [] all = All-nil (λ n. P (mark_place n))
from_places P (m ∷ ms) all = All-cons (λ n. P (mark_place n)) m ms (All-head P (mark_place m) (map mark_place ms) all) (from_places P ms (All-tail P (mark_place m) (map mark_place ms) all))

rises_pairs : (ms : List Mark) → AllPairs (λ x y. x < y) (map mark_place ms) → Rises ms
unfolding Rises
rises_pairs [] pairs = tt
rises_pairs (m ∷ ms) pairs = (
  from_places (λ n. mark_place m < n) ms (λ k d h. pairs 0 (suc k) d (omega arith) (omega (arith, h))),
  rises_pairs ms (λ i j d less h. pairs (suc i) (suc j) d (omega (arith, less)) (omega (arith, h))),
)

pub rises_from : (ms : List Mark) → IsStrictlyIncreasing (map mark_place ms) → Rises ms
rises_from ms up = rises_pairs ms (AllPairs-from_increasing (map mark_place ms) up)

pub rising_from : (ms : List Mark) → Rises ms → IsStrictlyIncreasing (map mark_place ms)
unfolding Rises
rising_from [] rises k h = absurd (omega arith)
rising_from (m ∷ []) rises k h = absurd (omega arith)
rising_from (m ∷ n ∷ ms) rises zero h = All-head (λ k. mark_place m < mark_place k) n ms rises.0
rising_from (m ∷ n ∷ ms) rises (suc k) h = let at : suc k + 1 ≡ suc (k + 1) = omega arith in rw at (rising_from (n ∷ ms) rises.1 k (omega arith))

-- padded marks in their order rise
pub order_rises : (bases : List ℕ) (ms : List Mark) → IsStrictlyIncreasing (map mark_place ms) → All (λ n. n.image < MOST) ms → Rises (in_order (map (padded_mark bases) ms))
order_rises bases ms up few =
    let unsorted = map (padded_mark bases) ms in
    rises_of (in_order unsorted) (order_climbs unsorted)
    (λ place. let same = sum_by-IsPermutation (is_at place) unsorted (in_order unsorted) (order_permutes unsorted) in let most = once bases ms (rises_from ms up) few place in omega (arith, same, most))

-- and padded marks that were sorted are those in their order
pub are_in_order : (bases : List ℕ) (ms sorted : List Mark) → IsStrictlyIncreasing (map mark_place ms) → All (λ n. n.image < MOST) ms → IsPermutation (map (padded_mark bases) ms) sorted → IsNonDecreasingBy mark_place sorted → sorted ≡ in_order (map (padded_mark bases) ms)
are_in_order bases ms sorted up few permutes climbs =
    let unsorted = map (padded_mark bases) ms in
    let ordered = in_order unsorted in
    let back = IsPermutation-trans sorted unsorted ordered (IsPermutation-sym unsorted sorted permutes) (order_permutes unsorted) in
    same_marks sorted ordered
    (rises_of sorted (climbs_from sorted climbs)
    (λ place. let same = sum_by-IsPermutation (is_at place) unsorted sorted permutes in let most = once bases ms (rises_from ms up) few place in omega (arith, same, most)))
    (order_rises bases ms up few)
    (λ k. Contains-permutation sorted ordered k back)
    (λ k. Contains-permutation ordered sorted k (IsPermutation-sym sorted ordered back))
