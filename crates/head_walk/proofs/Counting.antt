-- How many sets of a range are hopeful, and how many scans they take.
use Rattle.std.proofs.Common.{ℕ, zero, suc, ◌≡◌, ◌+◌, ◌-◌, ◌<◌, ◌≤◌, Bool, true, false, not, ◌&&◌, cond, List, [], ◌∷◌, length, ap, ap₂, ◌∙◌, arith, Option, Some, slice_get}
use Rattle.std.specs.List.{range_with_len, sum_by}
use Rattle.std.specs.Option.{option_map_or}
use Rattle.std.proofs.lemmas.List.Sums.{sum_by-cons}
use Rattle.raid_params.specs.declared.types.Geometry.{Geometry}
use Rattle.plan_sets.specs.Sets.{sets_of}
use Rattle.search_plan.specs.declared.plan.Plan.{Plan}
use Rattle.head_walk.specs.Counts.{hopeful_ranks, is_decided, is_hopeful_at, is_open_at, open_ranks}
use Rattle.head_walk.specs.Walk.{AreScans, IsCandidate, Wait, Ranked}

-- one number more
sum_more : (f : ℕ → ℕ) (a n : ℕ) → sum_by f (range_with_len a (n + 1)) ≡ sum_by f (range_with_len a n) + f (a + n)
sum_more f a zero =
    let one = sum_by-cons f a (range_with_len (a + 1) 0) in
    let same : f (a + 0) ≡ f a = ap f (let e : a + 0 ≡ a = omega arith in e) in
    omega arith
sum_more f a (suc n) =
    let first = sum_by-cons f a (range_with_len (a + 1) n) in
    let longer : sum_by f (range_with_len a (suc n + 1)) ≡ f a + sum_by f (range_with_len (a + 1) (n + 1))
    = ap (λ (k : ℕ). sum_by f (range_with_len a k)) (let e : suc n + 1 ≡ suc (n + 1) = omega arith in e) ∙ sum_by-cons f a (range_with_len (a + 1) (n + 1)) in
    let rest = sum_more f (a + 1) n in
    let same : f (a + 1 + n) ≡ f (a + suc n) = ap f (let e : a + 1 + n ≡ a + suc n = omega arith in e) in
    omega arith

-- two ranges one after the other
sum_both : (f : ℕ → ℕ) (a m n : ℕ) → sum_by f (range_with_len a (m + n)) ≡ sum_by f (range_with_len a m) + sum_by f (range_with_len (a + m) n)
sum_both f a m zero = ap (λ (k : ℕ). sum_by f (range_with_len a k)) (let e : m + 0 ≡ m = omega arith in e) ∙ (let same : sum_by f (range_with_len a m) ≡ sum_by f (range_with_len a m) + 0 = omega arith in same)
sum_both f a m (suc n) =
    let all : sum_by f (range_with_len a (m + suc n)) ≡ sum_by f (range_with_len a (m + n)) + f (a + (m + n))
    = ap (λ (k : ℕ). sum_by f (range_with_len a k)) (let e : m + suc n ≡ m + n + 1 = omega arith in e) ∙ sum_more f a (m + n) in
    let later : sum_by f (range_with_len (a + m) (suc n)) ≡ sum_by f (range_with_len (a + m) n) + f (a + m + n)
    = ap (λ (k : ℕ). sum_by f (range_with_len (a + m) k)) (let e : suc n ≡ n + 1 = omega arith in e) ∙ sum_more f (a + m) n in
    let same : f (a + (m + n)) ≡ f (a + m + n) = ap f (let e : a + (m + n) ≡ a + m + n = omega arith in e) in
    let rest = sum_both f a m n in
    omega arith

-- a range cut at a number
sum_parts : (f : ℕ → ℕ) (from mid to : ℕ) → from ≤ mid → mid ≤ to →
    sum_by f (range_with_len from (to - from)) ≡ sum_by f (range_with_len from (mid - from)) + sum_by f (range_with_len mid (to - mid))
sum_parts f from mid to low high =
    ap (λ (k : ℕ). sum_by f (range_with_len from k)) (let e : to - from ≡ mid - from + (to - mid) = omega arith in e)
    ∙ sum_both f from (mid - from) (to - mid)
    ∙ ap (λ (k : ℕ). sum_by f (range_with_len from (mid - from)) + sum_by f (range_with_len k (to - mid))) (let e : from + (mid - from) ≡ mid = omega arith in e)

-- a range of one number
sum_one : (f : ℕ → ℕ) (a : ℕ) → sum_by f (range_with_len a (a + 1 - a)) ≡ f a
sum_one f a =
    ap (λ (k : ℕ). sum_by f (range_with_len a k)) (let e : a + 1 - a ≡ 0 + 1 = omega arith in e)
    ∙ sum_more f a 0
    ∙ (let same : 0 + f (a + 0) ≡ f (a + 0) = omega arith in same)
    ∙ ap f (let e : a + 0 ≡ a = omega arith in e)

-- hopeful sets of a range that is cut
pub hopeful_parts : (told : Option (List (List ℕ))) (plan : Plan) (from mid to : ℕ) → from ≤ mid → mid ≤ to → hopeful_ranks told plan from to ≡ hopeful_ranks told plan from mid + hopeful_ranks told plan mid to
unfolding hopeful_ranks
hopeful_parts told plan from mid to low high = sum_parts (λ rank. cond (is_hopeful_at told plan rank) 1 0) from mid to low high

-- those with rows to be tested
pub open_parts : (told : Option (List (List ℕ))) (plan : Plan) (from mid to : ℕ) → from ≤ mid → mid ≤ to → open_ranks told plan from to ≡ open_ranks told plan from mid + open_ranks told plan mid to
unfolding open_ranks
open_parts told plan from mid to low high = sum_parts (λ rank. cond (is_open_at told plan rank) 1 0) from mid to low high

-- one hopeful set
hopeful_one : (told : Option (List (List ℕ))) (plan : Plan) (rank : ℕ) → is_hopeful_at told plan rank ≡ true → hopeful_ranks told plan rank (rank + 1) ≡ 1
unfolding hopeful_ranks
hopeful_one told plan rank e = sum_one (λ r. cond (is_hopeful_at told plan r) 1 0) rank ∙ ap (λ (b : Bool). cond b 1 0) e

-- one with rows to be tested
open_one : (told : Option (List (List ℕ))) (plan : Plan) (rank : ℕ) → is_open_at told plan rank ≡ true → open_ranks told plan rank (rank + 1) ≡ 1
unfolding open_ranks
open_one told plan rank e = sum_one (λ r. cond (is_open_at told plan r) 1 0) rank ∙ ap (λ (b : Bool). cond b 1 0) e

-- a candidate whose rows have to be tested
is_open : (told : Option (List (List ℕ))) (plan : Plan) (line : Ranked) → IsCandidate told plan line → is_decided plan line.geo ≡ false → is_open_at told plan line.rank ≡ true
unfolding is_open_at
is_open told plan line is undecided =
    let set : slice_get (sets_of plan) line.rank ≡ Some line.geo = is.set in
    ap₂ (λ (a b : Bool). a && b) is.hopeful (ap (λ (o : Option Geometry). not (option_map_or (is_decided plan) o true)) set ∙ ap not undecided)

-- no more sets wait than are hopeful
pub few_wait : (told : Option (List (List ℕ))) (plan : Plan) (from at : ℕ) (lines : List Ranked) → Wait told plan from at lines → (from ≤ at) × (length lines ≤ hopeful_ranks told plan from at)
unfolding Wait
few_wait told plan from at [] wait = (wait.0, omega arith)
few_wait told plan from at (line ∷ lines) (low, none, is, rest) =
    let later = few_wait told plan (line.rank + 1) at lines rest in
    let high = later.0 in
    let few = later.1 in
    let all = hopeful_parts told plan from line.rank at low (omega arith) in
    let next = hopeful_parts told plan line.rank (line.rank + 1) at (omega arith) high in
    let one = hopeful_one told plan line.rank is.hopeful in
    (omega arith, omega arith)

-- the first of those that wait is hopeful, and its rows have to be tested
first_counts : (told : Option (List (List ℕ))) (plan : Plan) (from next : ℕ) (line : Ranked) → from ≤ line.rank → line.rank < next → IsCandidate told plan line → is_decided plan line.geo ≡ false →
    (1 ≤ open_ranks told plan from next) × (1 ≤ hopeful_ranks told plan from next)
first_counts told plan from next line low high is undecided =
    let a = hopeful_parts told plan from line.rank next low (omega arith) in
    let b = hopeful_parts told plan line.rank (line.rank + 1) next (omega arith) (omega arith) in
    let c = hopeful_one told plan line.rank is.hopeful in
    let d = open_parts told plan from line.rank next low (omega arith) in
    let e = open_parts told plan line.rank (line.rank + 1) next (omega arith) (omega arith) in
    let f = open_one told plan line.rank (is_open told plan line is undecided) in
    (omega arith, omega arith)

-- no scan
pub no_scans : (told : Option (List (List ℕ))) (plan : Plan) (from to spare : ℕ) → AreScans told plan from to spare 0
no_scans told plan from to spare = record { needed = omega arith; many = omega arith }

-- of the sets that wait, the first that has rows to be tested stands before a rank
pub record BeginOpen (told : Option (List (List ℕ))) (plan : Plan) (from next : ℕ) : Type 0 where
  pub line : Ranked
  pub low : from ≤ line.rank
  pub high : line.rank < next
  pub is : IsCandidate told plan line
  pub undecided : is_decided plan line.geo ≡ false

-- one scan
pub open_scan : (told : Option (List (List ℕ))) (plan : Plan) (from next : ℕ) → BeginOpen told plan from next → AreScans told plan from next 4095 1
open_scan told plan from next first =
    let counts = first_counts told plan from next first.line first.low first.high first.is first.undecided in
    let open_some = counts.0 in
    let hopeful_some = counts.1 in
    record { needed = open_some; many = omega arith }

-- one scan of as many sets as there may be
pub full_scan : (told : Option (List (List ℕ))) (plan : Plan) (from at : ℕ) (lines : List Ranked) → Wait told plan from at lines → BeginOpen told plan from at → length lines ≡ 4096 → AreScans told plan from at 0 1
full_scan told plan from at lines wait first long =
    let few = few_wait told plan from at lines wait in
    let hopeful = few.1 in
    let counts = first_counts told plan from at first.line first.low first.high first.is first.undecided in
    let some = counts.0 in
    record { needed = some; many = omega arith }

-- scans of a longer range
pub scans_later : (told : Option (List (List ℕ))) (plan : Plan) (from a b spare count : ℕ) → from ≤ a → a ≤ b → AreScans told plan from a spare count → AreScans told plan from b spare count
scans_later told plan from a b spare count low high few =
    let hopeful = hopeful_parts told plan from a b low high in
    let opened = open_parts told plan from a b low high in
    let needed = few.needed in
    let many = few.many in
    record { needed = omega arith; many = omega arith }

-- more may be spared
pub scans_spare : (told : Option (List (List ℕ))) (plan : Plan) (from to spare more count : ℕ) → spare ≤ more → AreScans told plan from to spare count → AreScans told plan from to more count
scans_spare told plan from to spare more count le few =
    let many = few.many in
    record { needed = few.needed; many = omega arith }

-- scans of one range after another
pub scans_join : (told : Option (List (List ℕ))) (plan : Plan) (from mid to spare m n : ℕ) → from ≤ mid → mid ≤ to → AreScans told plan from mid 0 m → AreScans told plan mid to spare n → AreScans told plan from to spare (m + n)
scans_join told plan from mid to spare m n low high first second =
    let hopeful = hopeful_parts told plan from mid to low high in
    let opened = open_parts told plan from mid to low high in
    let a = first.needed in
    let b = first.many in
    let c = second.needed in
    let d = second.many in
    record { needed = omega arith; many = omega arith }
