-- Candidates that wait.
use Rattle.std.proofs.Common.{ℕ, zero, suc, ◌≡◌, ◌<◌, ◌≤◌, ◌+◌, ◌^◌, List, [], ◌∷◌, ◌++◌, length, map, get_or, Option, Some, None, All, inl, inr, refl, sym, ap, ap₂, ◌∙◌, subst, arith}
use Rattle.std.proofs.lemmas.Bool.{cases_lt}
use Rattle.raid_params.specs.declared.types.Geometry.{Geometry}
use Rattle.search_plan.specs.declared.plan.Plan.{Plan}
use Rattle.head_walk.specs.Walk.{AreWaiting, first_tally, IsCandidate, known_first, ranked_sets, NonePass, StandsAt, Wait, Ranked}
use Rattle.head_walk.specs.declared.waiting.Waiting.{Waiting}
use Rattle.head_walk.specs.declared.gathering.Gathered.{Gathered}

-- no rank
pub none_pass : (told : Option (List (List ℕ))) (plan : Plan) (from : ℕ) → NonePass told plan from from
none_pass None plan from = tt
none_pass (Some bytes) plan from = λ rank lo hi. absurd (omega arith)

-- one range after the other
pub none_join : (told : Option (List (List ℕ))) (plan : Plan) (from mid to : ℕ) → NonePass told plan from mid → NonePass told plan mid to → NonePass told plan from to
none_join None plan from mid to first second = tt
none_join (Some bytes) plan from mid to first second = λ rank lo hi. elim (cases_lt rank mid) [
  | inl before ↦ first rank lo before
  | inr after ↦ second rank after hi
]

-- none waits
pub none_wait : (told : Option (List (List ℕ))) (plan : Plan) (from : ℕ) → Wait told plan from from []
unfolding Wait
none_wait told plan from = (omega arith, none_pass told plan from)

-- no more sets wait, of a longer range
pub wait_on : (told : Option (List (List ℕ))) (plan : Plan) (from at to : ℕ) (lines : List Ranked) → Wait told plan from at lines → at ≤ to → NonePass told plan at to → Wait told plan from to lines
unfolding Wait
wait_on told plan from at to [] (low, none) high later = (omega arith, none_join told plan from at to none later)
wait_on told plan from at to (line ∷ lines) (low, none, is, rest) high later = (low, none, is, wait_on told plan (line.rank + 1) at to lines rest high later)

-- one more waits
pub wait_add : (told : Option (List (List ℕ))) (plan : Plan) (from : ℕ) (line : Ranked) (lines : List Ranked) → Wait told plan from line.rank lines → IsCandidate told plan line → Wait told plan from (line.rank + 1) (lines ++ line ∷ [])
unfolding Wait
wait_add told plan from line [] (low, none) is = (low, none, is, none_wait told plan (line.rank + 1))
wait_add told plan from line (first ∷ lines) (low, none, known, rest) is = (low, none, known, wait_add told plan (first.rank + 1) line lines rest is)

-- where none waits, none passes
pub wait_nothing : (told : Option (List (List ℕ))) (plan : Plan) (from at : ℕ) → Wait told plan from at [] → (from ≤ at) × NonePass told plan from at
unfolding Wait
wait_nothing told plan from at wait = wait

-- each of those that wait is a candidate, and stands before the rank up to which they do
pub wait_each : (told : Option (List (List ℕ))) (plan : Plan) (from at : ℕ) (lines : List Ranked) (k : ℕ) (d : Ranked) → Wait told plan from at lines → k < length lines → IsCandidate told plan (get_or lines k d)
unfolding Wait
wait_each told plan from at [] k d wait below = absurd (omega arith)
wait_each told plan from at (line ∷ lines) zero d (low, none, is, rest) below = is
wait_each told plan from at (line ∷ lines) (suc k) d (low, none, is, rest) below = wait_each told plan (line.rank + 1) at lines k d rest (omega arith)

-- they stand before the end of their range
pub wait_ends : (told : Option (List (List ℕ))) (plan : Plan) (from at : ℕ) (lines : List Ranked) → Wait told plan from at lines → from ≤ at
unfolding Wait
wait_ends told plan from at [] wait = wait.0
wait_ends told plan from at (line ∷ lines) (low, none, is, rest) = let later = wait_ends told plan (line.rank + 1) at lines rest in omega arith

-- each stands before it
pub wait_before : (told : Option (List (List ℕ))) (plan : Plan) (from at : ℕ) (lines : List Ranked) (k : ℕ) (d : Ranked) → Wait told plan from at lines → k < length lines → (get_or lines k d).rank + 1 ≤ at
unfolding Wait
wait_before told plan from at [] k d wait below = absurd (omega arith)
wait_before told plan from at (line ∷ lines) zero d (low, none, is, rest) below = wait_ends told plan (line.rank + 1) at lines rest
wait_before told plan from at (line ∷ lines) (suc k) d (low, none, is, rest) below = wait_before told plan (line.rank + 1) at lines k d rest (omega arith)

-- they stand from the first rank on, and their ranks rise
pub wait_from : (told : Option (List (List ℕ))) (plan : Plan) (from at : ℕ) (lines : List Ranked) (k : ℕ) (d : Ranked) → Wait told plan from at lines → k < length lines → from ≤ (get_or lines k d).rank
unfolding Wait
wait_from told plan from at [] k d wait below = absurd (omega arith)
wait_from told plan from at (line ∷ lines) zero d (low, none, is, rest) below = low
wait_from told plan from at (line ∷ lines) (suc k) d (low, none, is, rest) below = let later = wait_from told plan (line.rank + 1) at lines k d rest (omega arith) in omega arith

-- their ranks rise
pub wait_rises : (told : Option (List (List ℕ))) (plan : Plan) (from at : ℕ) (lines : List Ranked) (i k : ℕ) (d : Ranked) → Wait told plan from at lines → i ≤ k → k < length lines → (get_or lines i d).rank ≤ (get_or lines k d).rank
unfolding Wait
wait_rises told plan from at [] i k d wait le below = absurd (omega arith)
wait_rises told plan from at (line ∷ lines) zero zero d (low, none, is, rest) le below = omega arith
wait_rises told plan from at (line ∷ lines) zero (suc k) d (low, none, is, rest) le below = let later = wait_from told plan (line.rank + 1) at lines k d rest (omega arith) in omega arith
wait_rises told plan from at (line ∷ lines) (suc i) zero d (low, none, is, rest) le below = absurd (omega arith)
wait_rises told plan from at (line ∷ lines) (suc i) (suc k) d (low, none, is, rest) le below = wait_rises told plan (line.rank + 1) at lines i k d rest (omega arith) (omega arith)

-- sets with their ranks are as many as they are
pub lines_long : (ranks : List ℕ) (sets : List Geometry) → length ranks ≡ length sets → length (ranked_sets ranks sets) ≡ length sets
unfolding ranked_sets
lines_long [] [] same = refl
lines_long [] (geo ∷ sets) same = absurd (omega arith)
lines_long (rank ∷ ranks) [] same = absurd (omega arith)
lines_long (rank ∷ ranks) (geo ∷ sets) same = let rest = lines_long ranks sets (omega arith) in omega arith

-- and hold these sets
pub lines_geos : (ranks : List ℕ) (sets : List Geometry) → length ranks ≡ length sets → map (λ (line : Ranked). line.geo) (ranked_sets ranks sets) ≡ sets
unfolding ranked_sets
lines_geos [] [] same = refl
lines_geos [] (geo ∷ sets) same = absurd (omega arith)
lines_geos (rank ∷ ranks) [] same = absurd (omega arith)
lines_geos (rank ∷ ranks) (geo ∷ sets) same = ap (λ (l : List Geometry). geo ∷ l) (lines_geos ranks sets (omega arith))

-- one more of them
pub lines_more : (ranks : List ℕ) (sets : List Geometry) (rank : ℕ) (geo : Geometry) → length ranks ≡ length sets → ranked_sets (ranks ++ rank ∷ []) (sets ++ geo ∷ []) ≡ ranked_sets ranks sets ++ record { rank = rank; geo = geo } ∷ []
unfolding ranked_sets
lines_more [] [] rank geo same = refl
lines_more [] (other ∷ sets) rank geo same = absurd (omega arith)
lines_more (one ∷ ranks) [] rank geo same = absurd (omega arith)
lines_more (one ∷ ranks) (other ∷ sets) rank geo same = ap (λ (l : List Ranked). record { rank = one; geo = other } ∷ l) (lines_more ranks sets rank geo (omega arith))

-- one of them by its place
pub line_at : (ranks : List ℕ) (sets : List Geometry) (k : ℕ) (d : Ranked) (r : ℕ) (e : Geometry) → length ranks ≡ length sets → k < length sets → get_or (ranked_sets ranks sets) k d ≡ record { rank = get_or ranks k r; geo = get_or sets k e }
unfolding ranked_sets
line_at [] [] k d r e same below = absurd (omega arith)
line_at [] (geo ∷ sets) k d r e same below = absurd (omega arith)
line_at (rank ∷ ranks) [] k d r e same below = absurd (omega arith)
line_at (rank ∷ ranks) (geo ∷ sets) zero d r e same below = refl
line_at (rank ∷ ranks) (geo ∷ sets) (suc k) d r e same below = line_at ranks sets k d r e (omega arith) (omega arith)

-- each of those that wait is a candidate
pub each_waits : (told : Option (List (List ℕ))) (plan : Plan) (from at : ℕ) (lines : List Ranked) → Wait told plan from at lines → All (IsCandidate told plan) lines
each_waits told plan from at lines wait = λ k d below. wait_each told plan from at lines k d wait below

-- their ranks are below the last number
pub waiting_ranks : (told : Option (List (List ℕ))) (plan : Plan) (from at : ℕ) (ranks : List ℕ) (sets : List Geometry) → length ranks ≡ length sets → at < 2 ^ 64 → Wait told plan from at (ranked_sets ranks sets) → All (λ rank. rank + 1 < 2 ^ 64) ranks
waiting_ranks told plan from at ranks [] same fits wait = λ k d below. absurd (omega arith)
waiting_ranks told plan from at ranks (geo ∷ sets) same fits wait = λ k d below.
    let none : Ranked = record { rank = 0; geo = geo } in
    let long = lines_long ranks (geo ∷ sets) same in
    let high = wait_before told plan from at (ranked_sets ranks (geo ∷ sets)) k none wait (omega arith) in
    let here = ap (λ (line : Ranked). line.rank) (line_at ranks (geo ∷ sets) k none d geo same (omega arith)) in
    omega arith

-- a page at a later rank, where no set passes up to there
pub stands_on : (told : Option (List (List ℕ))) (plan : Plan) (size at to : ℕ) (page : Gathered) → StandsAt told plan size at page → at ≤ to → NonePass told plan at to → StandsAt told plan size to page
stands_on told plan size at to page stands high none = record {
  are = stands.are;
  wait = wait_on told plan page.tested at to (ranked_sets page.waiting.ranks page.waiting.sets) stands.wait high none;
  few = stands.few;
  room = stands.room;
}

-- no sets that wait
pub record NoneWaits (waiting : Waiting) : Type 0 where
  pub ranks : waiting.ranks ≡ []
  pub sets : waiting.sets ≡ []
  pub tallies : waiting.tallies.items ≡ []
  pub known : waiting.known ≡ 0

-- none waits
pub none_are : (plan : Plan) (waiting : Waiting) → NoneWaits waiting → AreWaiting plan waiting
unfolding known_first
none_are plan waiting none = record {
  ranks = ap length none.ranks ∙ sym (ap length none.sets);
  tallies = none.tallies ∙ sym (ap (map (first_tally plan)) none.sets);
  known = none.known ∙ sym (ap (known_first plan) none.sets);
}

-- a page of which none waits
pub stands_anew : (told : Option (List (List ℕ))) (plan : Plan) (size at : ℕ) (page : Gathered) → length page.lines < size → page.tested ≡ at → NoneWaits page.waiting → StandsAt told plan size at page
unfolding ranked_sets
stands_anew told plan size at page few tested none =
    let P : List Ranked → Type 0 = λ l. Wait told plan page.tested at l in
    let Q : ℕ → Type 0 = λ n. Wait told plan n at [] in
    let empty : ranked_sets page.waiting.ranks page.waiting.sets ≡ [] = ap₂ ranked_sets none.ranks none.sets in
    record {
      are = none_are plan page.waiting none;
      wait = subst P (sym empty) (subst Q (sym tested) (none_wait told plan at));
      few = (let known = none.known in omega arith);
      room = (let long = ap length none.sets in omega arith);
    }
