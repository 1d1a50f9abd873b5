-- A walk over the admitted slot lists of a head.
use Rattle.std.proofs.Common.{◌≡◌, ℕ, ◌+◌, ◌-◌, ◌<◌, ◌≤◌, Bool, List, [], ◌∷◌, length, sym, ◌∙◌, arith, Option, subst}
use Rattle.outside.specs.Seen.{Seen}
use Rattle.search_plan.specs.declared.plan.Plan.{Plan}
use Rattle.set_product.specs.declared.heads.HeadSets.{HeadSets}
use Rattle.slot_math.specs.Space.{lists_of}
use Rattle.candidate_enum.specs.Survivors.{Question, admitted_leaves, question}
use Rattle.candidate_enum.specs.declared.leaf.Leaf.{Leaf}
use Rattle.head_walk.specs.Walk.{AdmitsHopeful, GoesOn, IsCandidate, IsHeadOf, IsPart, NonePass, ReadsRange, StandsAt}
use Rattle.head_walk.specs.declared.gathering.Gathered.{Gathered}
use Rattle.head_walk.proofs.OneHead.{goes_join, goes_still, tested_before}
use Rattle.head_walk.proofs.Leaves.{first_leaf, no_leaf}
use Rattle.head_walk.proofs.Ranges.{refused_fails}
use Rattle.head_walk.proofs.Scanned.{scans_none, scans_on, scans_to_later, scans_to_spare}
use Rattle.head_walk.proofs.Waits.{stands_on}

-- which lists of a head are walked
abbrev pub asked : HeadSets → (List (Option ℕ) → Bool) → ℕ → ℕ → Question
asked sets admits from stop = question sets.space admits (from - sets.first) (stop - sets.first)

-- a walk that stands at a rank: up to there the sets are gathered, and these leaves are left
pub record Stands (told : Option (List (List ℕ))) (plan : Plan) (sets : HeadSets) (admits : List (Option ℕ) → Bool) (from stop size : ℕ) (start now : Seen) (old page : Gathered) (leaves : List Leaf) : Type 0 where
  pub at : ℕ
  pub low : from ≤ sets.first + at
  pub high : sets.first + at ≤ stop
  pub left : leaves ≡ admitted_leaves (asked sets admits from stop) at (stop - sets.first)
  pub goes : GoesOn told plan size (sets.first + at) old page
  pub scans : ReadsRange told plan old.tested page.tested 0 0 0 start now

-- where a walk begins
pub begins : (told : Option (List (List ℕ))) (plan : Plan) (sets : HeadSets) (admits : List (Option ℕ) → Bool) (from stop size : ℕ) (seen : Seen) (page : Gathered) (leaves : List Leaf) → IsPart sets from stop →
    leaves ≡ admitted_leaves (asked sets admits from stop) (from - sets.first) (stop - sets.first) → StandsAt told plan size from page → Stands told plan sets admits from stop size seen seen page page leaves
begins told plan sets admits from stop size seen page leaves part left stands =
    let first : sets.first ≤ from = part.begins in
    let ordered : from ≤ stop = part.ordered in
    let here : from ≡ sets.first + (from - sets.first) = omega arith in
    let P : ℕ → Type 0 = λ n. GoesOn told plan size n page page in
    record {
      at = from - sets.first;
      low = omega arith;
      high = omega arith;
      left = left;
      goes = subst P here (goes_still told plan size from page stands);
      scans = scans_none told plan page.tested page.tested 0 0 seen;
    }

-- the next leaf
pub record IsNext (told : Option (List (List ℕ))) (plan : Plan) (sets : HeadSets) (admits : List (Option ℕ) → Bool) (from stop size : ℕ) (old page : Gathered) (leaf : Leaf) (later : List Leaf) : Type 0 where
  pub low : from ≤ sets.first + leaf.rank
  pub high : sets.first + leaf.rank < stop
  pub is : IsCandidate told plan (record { rank = sets.first + leaf.rank; geo = record { head = sets.head; slots = leaf.slots } })
  pub goes : GoesOn told plan size (sets.first + leaf.rank) old page
  pub left : later ≡ admitted_leaves (asked sets admits from stop) (leaf.rank + 1) (stop - sets.first)

-- what is known of the next leaf
pub next_leaf : (told : Option (List (List ℕ))) (plan : Plan) (sets : HeadSets) (admits : List (Option ℕ) → Bool) (from stop size : ℕ) (start now : Seen) (old page : Gathered) (leaves later : List Leaf) (leaf : Leaf) →
    IsHeadOf plan sets → IsPart sets from stop → AdmitsHopeful told plan sets.head admits → Stands told plan sets admits from stop size start now old page leaves → leaves ≡ leaf ∷ later →
    IsNext told plan sets admits from stop size old page leaf later
next_leaf told plan sets admits from stop size start now old page leaves later leaf is_head part hopes stands e =
    let first : sets.first ≤ from = part.begins in
    let ends : stop ≤ sets.first + sets.count = part.ends in
    let count : sets.count ≡ length (lists_of sets.space) = is_head.count in
    let low : from ≤ sets.first + stands.at = stands.low in
    let high : sets.first + stands.at ≤ stop = stands.high in
    let next = first_leaf (asked sets admits from stop) stands.at (stop - sets.first) (stop - sets.first - stands.at) leaf later (omega arith) (omega arith) (sym stands.left ∙ e) in
    let next_low : stands.at ≤ leaf.rank = next.low in
    let next_high : leaf.rank < stop - sets.first = next.high in
    let none : NonePass told plan (sets.first + stands.at) (sets.first + leaf.rank)
    = refused_fails told plan sets admits (from - sets.first) (stop - sets.first) stands.at leaf.rank is_head hopes.leaves_out_none next.past in
    record {
      low = omega arith;
      high = omega arith;
      is = hopes.hopeful (sets.first + leaf.rank) leaf.slots.items (is_head.stand leaf.rank leaf.slots.items next.list) next.admitted;
      goes = record { stands = stands_on told plan size (sets.first + stands.at) (sets.first + leaf.rank) page stands.goes.stands (omega arith) none; forward = stands.goes.forward; adds = stands.goes.adds };
      left = next.after;
    }

-- after it was gathered
pub gathered : (told : Option (List (List ℕ))) (plan : Plan) (sets : HeadSets) (admits : List (Option ℕ) → Bool) (from stop size : ℕ) (start mid now : Seen) (old page new : Gathered) (leaf : Leaf) (later : List Leaf) →
    IsNext told plan sets admits from stop size old page leaf later → ReadsRange told plan old.tested page.tested 0 0 0 start mid → GoesOn told plan size (sets.first + leaf.rank + 1) page new → ReadsRange told plan page.tested new.tested 0 0 0 mid now →
    Stands told plan sets admits from stop size start now old new later
gathered told plan sets admits from stop size start mid now old page new leaf later next before goes scans =
    let low : from ≤ sets.first + leaf.rank = next.low in
    let high : sets.first + leaf.rank < stop = next.high in
    let on : sets.first + leaf.rank + 1 ≡ sets.first + (leaf.rank + 1) = omega arith in
    let P : ℕ → Type 0 = λ n. GoesOn told plan size n old new in
    record {
      at = leaf.rank + 1;
      low = omega arith;
      high = omega arith;
      left = next.left;
      goes = subst P on (goes_join told plan size (sets.first + leaf.rank) (sets.first + leaf.rank + 1) old page new next.goes goes);
      scans = scans_on told plan old.tested page.tested new.tested 0 0 0 0 start mid now next.goes.forward goes.forward before scans;
    }

-- where no leaf is left
pub ended : (told : Option (List (List ℕ))) (plan : Plan) (sets : HeadSets) (admits : List (Option ℕ) → Bool) (from stop size : ℕ) (start now : Seen) (old page : Gathered) (leaves : List Leaf) →
    IsHeadOf plan sets → IsPart sets from stop → AdmitsHopeful told plan sets.head admits → Stands told plan sets admits from stop size start now old page leaves → leaves ≡ [] → GoesOn told plan size stop old page
ended told plan sets admits from stop size start now old page leaves is_head part hopes stands e =
    let first : sets.first ≤ from = part.begins in
    let ends : stop ≤ sets.first + sets.count = part.ends in
    let count : sets.count ≡ length (lists_of sets.space) = is_head.count in
    let low : from ≤ sets.first + stands.at = stands.low in
    let high : sets.first + stands.at ≤ stop = stands.high in
    let end : sets.first + (stop - sets.first) ≡ stop = omega arith in
    let none : NonePass told plan (sets.first + stands.at) (sets.first + (stop - sets.first))
    = refused_fails told plan sets admits (from - sets.first) (stop - sets.first) stands.at (stop - sets.first) is_head hopes.leaves_out_none
    (λ k lo hi. no_leaf (asked sets admits from stop) stands.at (stop - sets.first) (stop - sets.first - stands.at) k (omega arith) (omega arith) (sym stands.left ∙ e) lo hi) in
    let P : ℕ → Type 0 = λ n. StandsAt told plan size n page in
    record {
      stands = subst P end (stands_on told plan size (sets.first + stands.at) (sets.first + (stop - sets.first)) page stands.goes.stands (omega arith) none);
      forward = stands.goes.forward;
      adds = stands.goes.adds;
    }

-- after it waits, where it is not tested yet
pub waits : (told : Option (List (List ℕ))) (plan : Plan) (sets : HeadSets) (admits : List (Option ℕ) → Bool) (from stop size : ℕ) (start now : Seen) (old page new : Gathered) (leaf : Leaf) (later : List Leaf) →
    IsNext told plan sets admits from stop size old page leaf later → ReadsRange told plan old.tested page.tested 0 0 0 start now → GoesOn told plan size (sets.first + leaf.rank + 1) page new → Stands told plan sets admits from stop size start now old new later
waits told plan sets admits from stop size start now old page new leaf later next before goes =
    gathered told plan sets admits from stop size start now now old page new leaf later next before goes (scans_none told plan page.tested new.tested 0 0 now)

-- what was read where no more can wait
pub failed : (told : Option (List (List ℕ))) (plan : Plan) (sets : HeadSets) (admits : List (Option ℕ) → Bool) (from stop size : ℕ) (start now : Seen) (old page : Gathered) (leaves : List Leaf) →
    Stands told plan sets admits from stop size start now old page leaves → ReadsRange told plan old.tested stop 4095 0 0 start now
failed told plan sets admits from stop size start now old page leaves stands =
    let tested = tested_before told plan size (sets.first + stands.at) page stands.goes.stands in
    let high : sets.first + stands.at ≤ stop = stands.high in
    scans_to_spare told plan old.tested stop 0 0 start now (scans_to_later told plan old.tested page.tested stop 0 0 0 start now stands.goes.forward (omega arith) stands.scans)
