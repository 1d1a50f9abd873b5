-- Sets that are tested after they waited.
use Rattle.std.proofs.Common.{ℕ, zero, suc, ◌≡◌, ◌≢◌, min, length-append, ap₂, ◌<◌, ◌≤◌, ◌+◌, ◌-◌, Bool, true, false, List, [], ◌∷◌, ◌++◌, length, map, get_or, drop, refl, sym, ap, ◌∙◌, subst, arith, Option, Some, None, IfSome, IfOk, Result, Ok, inl, inr, rules}
use Rattle.std.specs.Option.{is_some}
use Rattle.std.proofs.lemmas.Bool.{cases_lt}
use Rattle.std.proofs.lemmas.List.{drop_more, get_or-map, length-map}
use Rattle.raid_terms.specs.Parity.{passes_parity}
use Rattle.parity_scan.specs.Tallies.{has_passed}
use Rattle.parity_scan.specs.Verdicts.{verdicts_of}
use Rattle.parity_scan.specs.declared.tally.Tally.{Tally}
use Rattle.plan_sets.specs.Sets.{passes_at}
use Rattle.search_plan.specs.declared.plan.Plan.{Plan}
use Rattle.raid_params.specs.declared.types.Geometry.{Geometry}
use Rattle.head_walk.specs.Walk.{AddsAll, AddsPassed, AddsRange, AddsWaiting, FillsPage, Gathers, GoesOn, HavePassed, IsCandidate, IsLineOf, IsPast, NonePass, Ranked, ranked_sets, Wait}
use Rattle.head_walk.specs.declared.gathering.Gathered.{Gathered}
use Rattle.head_walk.specs.declared.parts.Line.{Line}
use Rattle.head_walk.specs.declared.waiting.Waiting.{Waiting}
use Rattle.head_walk.proofs.Ranges.{adds_line, adds_none, adds_past}
use Rattle.head_walk.proofs.SetTests.{candidate_passes}
use Rattle.head_walk.proofs.Waits.{line_at, lines_geos, lines_long, none_join, NoneWaits, stands_anew, wait_ends, wait_nothing}
use Rattle.search_plan.specs.Plans.{scope_of}

-- the verdicts are those on the sets of some lines, over the bytes of the images where they are known
abbrev pub Judged : Option (List (List ℕ)) → Plan → List Ranked → List Bool → Type 0
Judged told plan waiting verdicts = IfSome told (λ bytes. verdicts ≡ verdicts_of bytes (scope_of plan) (map (λ line. line.geo) waiting))

-- the first k of those that waited are tested
pub record Passed (told : Option (List (List ℕ))) (plan : Plan) (from at : ℕ) (waiting : List Ranked) (verdicts : List Bool) (k : ℕ) (old lines : List Line) : Type 0 where
  pub tested : ℕ
  pub low : from ≤ tested
  pub adds : AddsRange told plan from tested old lines
  pub rest : Wait told plan tested at (drop k waiting)
  pub same : Judged told plan (drop k waiting) (drop k verdicts)

-- before the first set
pub none_passed : (told : Option (List (List ℕ))) (plan : Plan) (from at : ℕ) (waiting : List Ranked) (verdicts : List Bool) (lines : List Line) → Wait told plan from at waiting → Judged told plan waiting verdicts →
    Passed told plan from at waiting verdicts 0 lines lines
none_passed told plan from at waiting verdicts lines wait judged = record {
  tested = from;
  low = omega arith;
  adds = adds_none told plan from lines;
  rest = wait;
  same = judged;
}

-- the next of them
pub record IsNext (told : Option (List (List ℕ))) (plan : Plan) (tested at : ℕ) (waiting : List Ranked) (verdicts : List Bool) (k : ℕ) (line : Ranked) (verdict : Bool) : Type 0 where
  pub low : tested ≤ line.rank
  pub none : NonePass told plan tested line.rank
  pub is : IsCandidate told plan line
  pub rest : Wait told plan (line.rank + 1) at (drop (k + 1) waiting)
  pub same : Judged told plan (drop (k + 1) waiting) (drop (k + 1) verdicts)
  pub verdict_is : IfSome told (λ bytes. passes_at bytes plan line.rank ≡ verdict)

-- the first of two lists that are equal
heads_are : (a b : Bool) (xs ys : List Bool) → a ∷ xs ≡ b ∷ ys → a ≡ b
heads_are a b xs ys e = search rules

-- and the others
tails_are : (a b : Bool) (xs ys : List Bool) → a ∷ xs ≡ b ∷ ys → xs ≡ ys
tails_are a b xs ys e = search rules

-- the first of those that wait
wait_first : (told : Option (List (List ℕ))) (plan : Plan) (from at : ℕ) (line : Ranked) (lines : List Ranked) → Wait told plan from at (line ∷ lines) → (from ≤ line.rank) × NonePass told plan from line.rank × IsCandidate told plan line × Wait told plan (line.rank + 1) at lines
unfolding Wait
wait_first told plan from at line lines wait = wait

-- those that wait after it
pub next_of : (told : Option (List (List ℕ))) (plan : Plan) (from at : ℕ) (waiting : List Ranked) (verdicts : List Bool) (k : ℕ) (old lines : List Line) (d : Ranked) (e : Bool) → k < length waiting → length verdicts ≡ length waiting →
    (passed : Passed told plan from at waiting verdicts k old lines) → IsNext told plan passed.tested at waiting verdicts k (get_or waiting k d) (get_or verdicts k e)
next_of told plan from at waiting verdicts k old lines d e below long passed =
    let here : drop k waiting ≡ get_or waiting k d ∷ drop (k + 1) waiting = drop_more waiting k d below in
    let there : drop k verdicts ≡ get_or verdicts k e ∷ drop (k + 1) verdicts = drop_more verdicts k e (omega arith) in
    let P : List Ranked → Type 0 = λ l. Wait told plan passed.tested at l in
    let Q : List Ranked → Type 0 = λ l. Judged told plan l (drop k verdicts) in
    let R : List Bool → Type 0 = λ l. Judged told plan (get_or waiting k d ∷ drop (k + 1) waiting) l in
    let first = wait_first told plan passed.tested at (get_or waiting k d) (drop (k + 1) waiting) (subst P here passed.rest) in
    let both = judged_first told (get_or waiting k d) (drop (k + 1) waiting) (get_or verdicts k e) (drop (k + 1) verdicts) first.2 (subst R there (subst Q here passed.same)) in
    record { low = first.0; none = first.1; is = first.2; rest = first.3; same = both.1; verdict_is = both.0 }
  where
    judged_first : (known : Option (List (List ℕ))) (line : Ranked) (ls : List Ranked) (v : Bool) (vs : List Bool) → IsCandidate told plan line → Judged known plan (line ∷ ls) (v ∷ vs) →
        IfSome known (λ bytes. passes_at bytes plan line.rank ≡ v) × Judged known plan ls vs
    judged_first None line ls v vs is judged = (tt, tt)
    judged_first (Some bytes) line ls v vs is judged = (
      candidate_passes bytes plan line told is ∙ sym (heads_are v (passes_parity bytes line.geo plan.end plan.limits.window plan.limits.badrows) vs (verdicts_of bytes (scope_of plan) (map (λ (l : Ranked). l.geo) ls)) judged),
      tails_are v (passes_parity bytes line.geo plan.end plan.limits.window plan.limits.badrows) vs (verdicts_of bytes (scope_of plan) (map (λ (l : Ranked). l.geo) ls)) judged,
    )

-- one rank of which the set does not pass
fails_alone : (told : Option (List (List ℕ))) (plan : Plan) (rank : ℕ) → IfSome told (λ bytes. passes_at bytes plan rank ≡ false) → NonePass told plan rank (rank + 1)
fails_alone None plan rank fails = tt
fails_alone (Some bytes) plan rank fails = λ r lo hi. let same : r ≡ rank = omega arith in ap (passes_at bytes plan) same ∙ fails

-- the verdict on a set
verdict_as : (told : Option (List (List ℕ))) (plan : Plan) (rank : ℕ) (a b : Bool) → a ≡ b → IfSome told (λ bytes. passes_at bytes plan rank ≡ a) → IfSome told (λ bytes. passes_at bytes plan rank ≡ b)
verdict_as None plan rank a b e h = tt
verdict_as (Some bytes) plan rank a b e h = h ∙ e

-- one that does not pass
one_fails : (told : Option (List (List ℕ))) (plan : Plan) (from at : ℕ) (waiting : List Ranked) (verdicts : List Bool) (k : ℕ) (old lines : List Line) (d : Ranked) (e : Bool) → k < length waiting → length verdicts ≡ length waiting →
    get_or verdicts k e ≡ false → Passed told plan from at waiting verdicts k old lines → Passed told plan from at waiting verdicts (k + 1) old lines
one_fails told plan from at waiting verdicts k old lines d e below long fails passed =
    let next = next_of told plan from at waiting verdicts k old lines d e below long passed in
    let rank = (get_or waiting k d).rank in
    let low : passed.tested ≤ (get_or waiting k d).rank = next.low in
    let begun : from ≤ passed.tested = passed.low in
    record {
      tested = (get_or waiting k d).rank + 1;
      low = omega arith;
      adds = adds_past told plan from passed.tested ((get_or waiting k d).rank + 1) old lines passed.adds begun (omega arith)
          (none_join told plan passed.tested (get_or waiting k d).rank ((get_or waiting k d).rank + 1) next.none
          (fails_alone told plan (get_or waiting k d).rank (verdict_as told plan (get_or waiting k d).rank (get_or verdicts k e) false fails next.verdict_is)));
      rest = next.rest;
      same = next.same;
    }

-- one more that has not passed
pub any_fails : (told : Option (List (List ℕ))) (plan : Plan) (from at : ℕ) (waiting : List Ranked) (verdicts : List Bool) (k : ℕ) (old lines : List Line) (e : Bool) → k < length waiting → length verdicts ≡ length waiting →
    get_or verdicts k e ≡ false → Passed told plan from at waiting verdicts k old lines → Passed told plan from at waiting verdicts (k + 1) old lines
any_fails told plan from at [] verdicts k old lines e below long fails passed = absurd (omega arith)
any_fails told plan from at (first ∷ waiting) verdicts k old lines e below long fails passed = one_fails told plan from at (first ∷ waiting) verdicts k old lines first e below long fails passed

-- one that passes
pub one_passes : (told : Option (List (List ℕ))) (plan : Plan) (from at : ℕ) (waiting : List Ranked) (verdicts : List Bool) (k : ℕ) (old lines : List Line) (d : Ranked) (line : Line) (e : Bool) → k < length waiting → length verdicts ≡ length waiting →
    get_or verdicts k e ≡ true → IsLineOf (get_or waiting k d) line → Passed told plan from at waiting verdicts k old lines → Passed told plan from at waiting verdicts (k + 1) old (lines ++ line ∷ [])
one_passes told plan from at waiting verdicts k old lines d line e below long passes is passed =
    let next = next_of told plan from at waiting verdicts k old lines d e below long passed in
    let low : passed.tested ≤ (get_or waiting k d).rank = next.low in
    let begun : from ≤ passed.tested = passed.low in
    record {
      tested = (get_or waiting k d).rank + 1;
      low = omega arith;
      adds = adds_line told plan from passed.tested (get_or waiting k d) line old lines is passed.adds begun low next.none next.is.set
          (verdict_as told plan (get_or waiting k d).rank (get_or verdicts k e) true passes next.verdict_is);
      rest = next.rest;
      same = next.same;
    }

-- the page is full with it
pub fills_waiting : (told : Option (List (List ℕ))) (plan : Plan) (from at size : ℕ) (waiting : List Ranked) (verdicts : List Bool) (k : ℕ) (old lines : List Line) (d : Ranked) (line : Line) (e : Bool) → k < length waiting → length verdicts ≡ length waiting →
    get_or verdicts k e ≡ true → IsLineOf (get_or waiting k d) line → length (lines ++ line ∷ []) ≡ size → Passed told plan from at waiting verdicts k old lines →
    AddsWaiting told plan from at size old (lines ++ line ∷ []) (Some ((get_or waiting k d).rank + 1))
unfolding one_passes
fills_waiting told plan from at size waiting verdicts k old lines d line e below long passes is many passed =
    let next = next_of told plan from at waiting verdicts k old lines d e below long passed in
    let low : passed.tested ≤ (get_or waiting k d).rank = next.low in
    let begun : from ≤ passed.tested = passed.low in
    let all = one_passes told plan from at waiting verdicts k old lines d line e below long passes is passed in
    let high : (get_or waiting k d).rank + 1 ≤ at = wait_within told plan ((get_or waiting k d).rank + 1) at (drop (k + 1) waiting) next.rest in
    let back : (get_or waiting k d).rank + 1 - 1 ≡ (get_or waiting k d).rank = omega arith in
    let P : ℕ → Type 0 = λ n. IfSome told (λ bytes. passes_at bytes plan n ≡ true) in
    record {
      forward = omega arith;
      within = high;
      adds = all.adds;
      last = subst P (sym back) (verdict_as told plan (get_or waiting k d).rank (get_or verdicts k e) true passes next.verdict_is);
      many = many;
    }
  where
    wait_within : (known : Option (List (List ℕ))) (p : Plan) (a b : ℕ) (ls : List Ranked) → Wait known p a b ls → a ≤ b
    wait_within known p a b [] wait = (wait_nothing known p a b wait).0
    wait_within known p a b (l ∷ ls) wait =
        let first = wait_first known p a b l ls wait in
        let one = first.0 in
        let later : l.rank + 1 ≤ b = wait_within known p (l.rank + 1) b ls first.3 in
        omega arith

-- all of them are tested
pub all_passed : (told : Option (List (List ℕ))) (plan : Plan) (from at size : ℕ) (waiting : List Ranked) (verdicts : List Bool) (k : ℕ) (old lines : List Line) → length waiting ≤ k → length lines < size →
    Passed told plan from at waiting verdicts k old lines → AddsWaiting told plan from at size old lines None
all_passed told plan from at size waiting verdicts k old lines past few passed =
    let P : List Ranked → Type 0 = λ l. Wait told plan passed.tested at l in
    let rest = wait_nothing told plan passed.tested at (subst P (drop_all waiting k past) passed.rest) in
    record { adds = adds_past told plan from passed.tested at old lines passed.adds passed.low rest.0 rest.1; few = few }
  where
    drop_all : (ls : List Ranked) (n : ℕ) → length ls ≤ n → drop n ls ≡ []
    drop_all [] zero le = refl
    drop_all [] (suc n) le = refl
    drop_all (l ∷ ls) zero le = absurd (omega arith)
    drop_all (l ∷ ls) (suc n) le = drop_all ls n (omega arith)

-- what is known of a page after those that waited were tested
pub gathered_on : (told : Option (List (List ℕ))) (plan : Plan) (size at : ℕ) (old new : Gathered) (waiting : List Ranked) → Wait told plan old.tested at waiting → AddsAll told plan old.tested at size old.lines new.lines → new.tested ≡ at → NoneWaits new.waiting →
    GoesOn told plan size at old new
gathered_on told plan size at old new waiting wait adds tested none =
    let P : ℕ → Type 0 = λ n. AddsRange told plan old.tested n old.lines new.lines in
    record {
      stands = stands_anew told plan size at new adds.few tested none;
      forward = (let low = wait_ends told plan old.tested at waiting wait in omega arith);
      adds = subst P (sym tested) adds.adds;
    }

-- what was added, where the answer is known
pub at_ok : {A E : Type 0} (P : A → Type 0) (r : Result A E) (x : A) → r ≡ Ok x → IfOk r P → P x
at_ok {A = A} {E = E} P r x e h = let Q : Result A E → Type 0 = λ s. IfOk s P in subst Q e h

-- a page that goes on after a test
pub gathers_none : (told : Option (List (List ℕ))) (plan : Plan) (size at : ℕ) (old new : Gathered) (lines : List Line) (waiting : List Ranked) (full : Option ℕ) → full ≡ None → new.lines ≡ lines → new.tested ≡ at → NoneWaits new.waiting → Wait told plan old.tested at waiting →
    AddsWaiting told plan old.tested at size old.lines lines full → Gathers told plan size at old new full
gathers_none told plan size at old new lines waiting full none same tested empty wait added =
    let P : Option ℕ → Type 0 = λ o. AddsWaiting told plan old.tested at size old.lines lines o in
    let Q : List Line → Type 0 = λ l. AddsAll told plan old.tested at size old.lines l in
    let R : Option ℕ → Type 0 = λ o. Gathers told plan size at old new o in
    subst R (sym none) (gathered_on told plan size at old new waiting wait (subst Q (sym same) (subst P none added)) tested empty)

-- a page that is full after a test
pub gathers_some : (told : Option (List (List ℕ))) (plan : Plan) (size at : ℕ) (old new : Gathered) (lines : List Line) (full : Option ℕ) → is_some full ≡ true → new.lines ≡ lines →
    AddsWaiting told plan old.tested at size old.lines lines full → Gathers told plan size at old new full
gathers_some told plan size at old new lines None some same added = absurd (cc)
gathers_some told plan size at old new lines (Some next) some same added = let Q : List Line → Type 0 = λ l. FillsPage told plan old.tested at size next old.lines l in subst Q (sym same) added

-- verdicts on the sets of these lines
pub judged_lines : (told : Option (List (List ℕ))) (plan : Plan) (ranks : List ℕ) (sets : List Geometry) (verdicts : List Bool) → length ranks ≡ length sets → IfSome told (λ bytes. verdicts ≡ verdicts_of bytes (scope_of plan) sets) → Judged told plan (ranked_sets ranks sets) verdicts
judged_lines told plan ranks sets verdicts same judged =
    let P : List Geometry → Type 0 = λ l. IfSome told (λ bytes. verdicts ≡ verdicts_of bytes (scope_of plan) l) in
    subst P (sym (lines_geos ranks sets same)) judged

-- the first k of those that waited are appended where they have passed, and the page is not full
pub record Adds (size : ℕ) (waiting : Waiting) (k : ℕ) (old lines : List Line) : Type 0 where
  pub few : length lines < size
  pub slow : length lines ≤ length old + k
  pub grown : (known : ℕ) → HavePassed known waiting.tallies.items → length old + min k known ≤ length lines
  pub passed : (told : Option (List (List ℕ))) (plan : Plan) (from at : ℕ) → Wait told plan from at (ranked_sets waiting.ranks waiting.sets) → Judged told plan (ranked_sets waiting.ranks waiting.sets) (map has_passed waiting.tallies.items) →
      Passed told plan from at (ranked_sets waiting.ranks waiting.sets) (map has_passed waiting.tallies.items) k old lines

-- before the first set
pub adds_begin : (size : ℕ) (waiting : Waiting) (lines : List Line) → length lines < size → Adds size waiting 0 lines lines
adds_begin size waiting lines few = record {
  few = few;
  slow = omega arith;
  grown = λ known have. omega arith;
  passed = λ told plan from at wait judged. none_passed told plan from at (ranked_sets waiting.ranks waiting.sets) (map has_passed waiting.tallies.items) lines wait judged;
}

-- what stands at a place
verdict_at : (waiting : Waiting) (k : ℕ) (t : Tally) (b : Bool) → k < length waiting.tallies.items → has_passed (get_or waiting.tallies.items k t) ≡ b → get_or (map has_passed waiting.tallies.items) k false ≡ b
verdict_at waiting k t b below is = get_or-map has_passed waiting.tallies.items k t false below ∙ is

-- a set by its place
item_at : (waiting : Waiting) (k : ℕ) (item : Ranked) (d : Ranked) → length waiting.ranks ≡ length waiting.sets → k < length waiting.sets → item.rank ≡ get_or waiting.ranks k 0 → item.geo ≡ get_or waiting.sets k item.geo →
    get_or (ranked_sets waiting.ranks waiting.sets) k d ≡ item
item_at waiting k item d same below rank geo =
    line_at waiting.ranks waiting.sets k d 0 item.geo same below
    ∙ ap₂ (λ (r : ℕ) (g : Geometry). let l : Ranked = record { rank = r; geo = g } in l) (sym rank) (sym geo)

-- one that has passed
pub adds_pass : (size : ℕ) (waiting : Waiting) (k : ℕ) (old lines new : List Line) (item : Ranked) (line : Line) (t : Tally) → length waiting.ranks ≡ length waiting.sets → length waiting.tallies.items ≡ length waiting.sets → k < length waiting.sets →
    has_passed (get_or waiting.tallies.items k t) ≡ true → item.rank ≡ get_or waiting.ranks k 0 → item.geo ≡ get_or waiting.sets k item.geo → IsLineOf item line → new ≡ lines ++ line ∷ [] → length new ≢ size → Adds size waiting k old lines → Adds size waiting (k + 1) old new
adds_pass size waiting k old lines new item line t same count below has rank geo made is other adds =
    let long = ap length is ∙ length-append lines (line ∷ []) in
    let few = adds.few in
    let slow = adds.slow in
    let all = lines_long waiting.ranks waiting.sets same in
    let marks = length-map waiting.tallies.items has_passed in
    let here = item_at waiting k item item same below rank geo in
    record {
      few = omega (arith, other);
      slow = omega arith;
      grown = λ known have. let so_far = adds.grown known have in omega arith;
      passed = λ told plan from at wait judged.
          let P : List Line → Type 0 = λ l. Passed told plan from at (ranked_sets waiting.ranks waiting.sets) (map has_passed waiting.tallies.items) (k + 1) old l in
          subst P (sym is)
          (one_passes told plan from at (ranked_sets waiting.ranks waiting.sets) (map has_passed waiting.tallies.items) k old lines item line false (omega arith) (omega arith)
          (verdict_at waiting k t true (omega arith) has) (subst (λ (r : Ranked). IsLineOf r line) (sym here) made) (adds.passed told plan from at wait judged));
    }

-- one that has not
pub adds_fail : (size : ℕ) (waiting : Waiting) (k : ℕ) (old lines new : List Line) (t : Tally) → length waiting.ranks ≡ length waiting.sets → length waiting.tallies.items ≡ length waiting.sets → k < length waiting.sets →
    has_passed (get_or waiting.tallies.items k t) ≡ false → new ≡ lines → Adds size waiting k old lines → Adds size waiting (k + 1) old new
adds_fail size waiting k old lines new t same count below fails is adds =
    let few = adds.few in
    let slow = adds.slow in
    let long = ap length is in
    let all = lines_long waiting.ranks waiting.sets same in
    let marks = length-map waiting.tallies.items has_passed in
    record {
      few = omega arith;
      slow = omega arith;
      grown = λ known have. elim (cases_lt k known) [
        | inl less ↦ absurd (let bad : true ≡ false = sym (have k t less) ∙ fails in cc)
        | inr more ↦ (let so_far = adds.grown known have in omega arith)
      ];
      passed = λ told plan from at wait judged.
          let P : List Line → Type 0 = λ l. Passed told plan from at (ranked_sets waiting.ranks waiting.sets) (map has_passed waiting.tallies.items) (k + 1) old l in
          subst P (sym is)
          (any_fails told plan from at (ranked_sets waiting.ranks waiting.sets) (map has_passed waiting.tallies.items) k old lines false (omega arith) (omega arith)
          (verdict_at waiting k t false (omega arith) fails) (adds.passed told plan from at wait judged));
    }

-- the page is full with it
pub adds_full : (size : ℕ) (waiting : Waiting) (k rank : ℕ) (old lines new : List Line) (item : Ranked) (line : Line) (t : Tally) → length waiting.ranks ≡ length waiting.sets → length waiting.tallies.items ≡ length waiting.sets → k < length waiting.sets →
    has_passed (get_or waiting.tallies.items k t) ≡ true → item.rank ≡ get_or waiting.ranks k 0 → item.geo ≡ get_or waiting.sets k item.geo → IsLineOf item line → new ≡ lines ++ line ∷ [] → length new ≡ size → rank ≡ item.rank → Adds size waiting k old lines →
    AddsPassed size waiting old new (Some (rank + 1))
adds_full size waiting k rank old lines new item line t same count below has rank_is geo made is full ranked adds =
    let long = ap length is ∙ length-append lines (line ∷ []) in
    let slow = adds.slow in
    let all = lines_long waiting.ranks waiting.sets same in
    let marks = length-map waiting.tallies.items has_passed in
    let here = item_at waiting k item item same below rank_is geo in
    record {
      added = λ told plan from at wait judged.
          let P : List Line → Type 0 = λ l. AddsWaiting told plan from at size old l (Some (rank + 1)) in
          let Q : ℕ → Type 0 = λ n. AddsWaiting told plan from at size old (lines ++ line ∷ []) (Some (n + 1)) in
          subst P (sym is) (subst Q (ap (λ (l : Ranked). l.rank) here ∙ sym ranked)
          (fills_waiting told plan from at size (ranked_sets waiting.ranks waiting.sets) (map has_passed waiting.tallies.items) k old lines item line false (omega arith) (omega arith)
          (verdict_at waiting k t true (omega arith) has) (subst (λ (r : Ranked). IsLineOf r line) (sym here) made) (sym (ap length is) ∙ full)
          (adds.passed told plan from at wait (judged_lines told plan waiting.ranks waiting.sets (map has_passed waiting.tallies.items) same judged))));
      fills = λ known most have enough. refl;
      past = λ known few. record {
        place = k;
        there = omega arith;
        last = (let r = ranked ∙ rank_is in omega arith);
        later = omega arith;
      };
    }

-- all of them
pub adds_end : (size : ℕ) (waiting : Waiting) (k : ℕ) (old lines : List Line) → length waiting.ranks ≡ length waiting.sets → length waiting.sets ≤ k → Adds size waiting k old lines → AddsPassed size waiting old lines None
adds_end size waiting k old lines same past adds =
    let few = adds.few in
    let all = lines_long waiting.ranks waiting.sets same in
    record {
      added = λ told plan from at wait judged.
          all_passed told plan from at size (ranked_sets waiting.ranks waiting.sets) (map has_passed waiting.tallies.items) k old lines (omega arith) few
          (adds.passed told plan from at wait (judged_lines told plan waiting.ranks waiting.sets (map has_passed waiting.tallies.items) same judged));
      fills = λ known most have enough. absurd (let so_far = adds.grown known have in omega arith);
      past = tt;
    }

-- what was added of those that waited before a scan
pub waiting_added : (told : Option (List (List ℕ))) (plan : Plan) (from at size : ℕ) (before after : Waiting) (old new : List Line) (full : Option ℕ) → after.ranks ≡ before.ranks → after.sets ≡ before.sets → Wait told plan from at (ranked_sets before.ranks before.sets) →
    IfSome told (λ bytes. map has_passed after.tallies.items ≡ verdicts_of bytes (scope_of plan) before.sets) → AddsPassed size after old new full → AddsWaiting told plan from at size old new full
waiting_added told plan from at size before after old new full ranks sets wait judged adds =
    let P : List Ranked → Type 0 = λ l. Wait told plan from at l in
    let Q : List Geometry → Type 0 = λ l. IfSome told (λ bytes. map has_passed after.tallies.items ≡ verdicts_of bytes (scope_of plan) l) in
    adds.added told plan from at (subst P (sym (ap₂ ranked_sets ranks sets)) wait) (subst Q (sym sets) judged)

-- where the page was full
pub waiting_past : (before after : Waiting) (lines size : ℕ) (full : Option ℕ) → after.ranks ≡ before.ranks → IfSome full (λ next. (known : ℕ) → lines + known < size → IsPast after.ranks known next) →
    IfSome full (λ next. lines + before.known < size → IsPast before.ranks before.known next)
waiting_past before after lines size None ranks past = tt
waiting_past before after lines size (Some next) ranks past = λ few. subst (λ (l : List ℕ). IsPast l before.known next) ranks (past before.known few)
