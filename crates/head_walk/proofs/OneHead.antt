-- What a walk over one head does.
use Rattle.std.proofs.Common.{◌≡◌, ℕ, ◌+◌, ◌-◌, ◌<◌, ◌≤◌, false, List, [], length, refl, sym, ap, ◌∙◌, arith, Option, Some, None, slice_get, get_or, subst, inl, inr, IfOk, Result, Ok, Err, IsErr}
use Rattle.std.proofs.lemmas.Option.{slice_get-get_or}
use Rattle.outside.specs.Attached.{told_all}
use Rattle.outside.specs.Seen.{Image, Seen}
use Rattle.raid_params.specs.Size.{rows}
use Rattle.plan_sets.specs.Sets.{passes_at, sets_of}
use Rattle.search_plan.specs.declared.plan.Plan.{Plan}
use Rattle.set_product.specs.declared.heads.HeadSets.{HeadSets}
use Rattle.slot_math.specs.Space.{lists_of}
use Rattle.head_walk.specs.Walk.{ended_at, FillsPage, Finishes, Gathers, GoesOn, IsHeadOf, IsPart, left_after, ranked_sets, left_reads, NonePass, ReadsRange, spared_by, StandsAt, tested_by}
use Rattle.head_walk.specs.declared.gathering.Gathered.{Gathered}
use Rattle.head_walk.specs.declared.parts.WalkFault.{WalkFault}
use Rattle.head_walk.specs.declared.row_tables.OffsetTables.{OffsetTables}
use Rattle.head_walk.proofs.Counting.{few_wait}
use Rattle.head_walk.proofs.Ranges.{adds_join, adds_none}
use Rattle.head_walk.proofs.Scanned.{scans_beside, scans_fail, scans_on, scans_to_later}
use Rattle.head_walk.proofs.SetTests.{no_row}
use Rattle.head_walk.proofs.Waits.{NoneWaits, stands_anew, stands_on}

-- no set of a head without a whole row passes
no_rows_pass : (told : Option (List (List ℕ))) (plan : Plan) (sets : HeadSets) (from stop : ℕ) → IsHeadOf plan sets → IsPart sets from stop → rows sets.head plan.end ≡ 0 → NonePass told plan from stop
no_rows_pass None plan sets from stop is_head part none = tt
no_rows_pass (Some bytes) plan sets from stop is_head part none = λ rank lo hi. sym (one rank (rank - sets.first) (let first : sets.first ≤ from = part.begins in omega arith)
    (let ends : stop ≤ sets.first + sets.count = part.ends in let first : sets.first ≤ from = part.begins in omega arith))
  where
    one : (rank k : ℕ) → sets.first + k ≡ rank → k < sets.count → false ≡ passes_at bytes plan rank
    one rank k at below =
        let count : sets.count ≡ length (lists_of sets.space) = is_head.count in
        no_row (Some bytes) plan rank (record { head = sets.head; slots = record { items = get_or (lists_of sets.space) k [] } })
        (ap (slice_get (sets_of plan)) (sym at) ∙ is_head.stand k (get_or (lists_of sets.space) k []) (slice_get-get_or (lists_of sets.space) k [] (omega arith))) none

-- a page that stays as it is
pub goes_still : (told : Option (List (List ℕ))) (plan : Plan) (size at : ℕ) (page : Gathered) → StandsAt told plan size at page → GoesOn told plan size at page page
goes_still told plan size at page stands = record { stands = stands; forward = omega arith; adds = adds_none told plan page.tested page.lines }

-- no rank
pub goes_nowhere : (told : Option (List (List ℕ))) (plan : Plan) (size from stop : ℕ) (page : Gathered) → from ≡ stop → StandsAt told plan size from page → GoesOn told plan size stop page page
goes_nowhere told plan size from stop page same stands =
    let P : ℕ → Type 0 = λ n. StandsAt told plan size n page in
    goes_still told plan size stop page (subst P same stands)

-- the ranks of a head without a whole row
pub goes_no_rows : (told : Option (List (List ℕ))) (plan : Plan) (sets : HeadSets) (size from stop : ℕ) (page : Gathered) → IsHeadOf plan sets → IsPart sets from stop → rows sets.head plan.end ≡ 0 → StandsAt told plan size from page →
    GoesOn told plan size stop page page
goes_no_rows told plan sets size from stop page is_head part none stands =
    goes_still told plan size stop page (stands_on told plan size from stop page stands part.ordered (no_rows_pass told plan sets from stop is_head part none))

-- each set before this rank is tested, or waits
pub tested_before : (told : Option (List (List ℕ))) (plan : Plan) (size at : ℕ) (page : Gathered) → StandsAt told plan size at page → page.tested ≤ at
tested_before told plan size at page stands = (few_wait told plan page.tested at (ranked_sets page.waiting.ranks page.waiting.sets) stands.wait).0

-- what a head did, as one option or the other
pub gathers_full : (attached other : List Image) (plan : Plan) (size to next : ℕ) (old new : Gathered) (full : Option ℕ) → other ≡ attached → full ≡ Some next → Gathers (told_all other) plan size to old new full →
    FillsPage (told_all attached) plan old.tested to size next old.lines new.lines
gathers_full attached other plan size to next old new full same is gathers =
    let P : List Image → Type 0 = λ images. Gathers (told_all images) plan size to old new full in
    let Q : Option ℕ → Type 0 = λ o. Gathers (told_all attached) plan size to old new o in
    subst Q is (subst P same gathers)

-- where the page was not full
pub gathers_all : (attached other : List Image) (plan : Plan) (size to : ℕ) (old new : Gathered) (full : Option ℕ) → other ≡ attached → full ≡ None → Gathers (told_all other) plan size to old new full →
    GoesOn (told_all attached) plan size to old new
gathers_all attached other plan size to old new full same is gathers =
    let P : List Image → Type 0 = λ images. Gathers (told_all images) plan size to old new full in
    let Q : Option ℕ → Type 0 = λ o. Gathers (told_all attached) plan size to old new o in
    subst Q is (subst P same gathers)

-- what was read for it
pub reads_full : (attached other : List Image) (plan : Plan) (from to next b a : ℕ) (page : Gathered) (full : Option ℕ) (old new : Seen) → other ≡ attached → full ≡ Some next →
    ReadsRange (told_all other) plan from (tested_by to page (let r : Result (Option ℕ) WalkFault = Ok full in r)) (spared_by (let r : Result (Option ℕ) WalkFault = Ok full in r)) b a old new → ReadsRange (told_all attached) plan from next 4095 b a old new
reads_full attached other plan from to next b a page full old new same is reads =
    let P : List Image → Type 0 = λ images. ReadsRange (told_all images) plan from (tested_by to page (let r : Result (Option ℕ) WalkFault = Ok full in r)) (spared_by (let r : Result (Option ℕ) WalkFault = Ok full in r)) b a old new in
    let Q : Option ℕ → Type 0 = λ o. ReadsRange (told_all attached) plan from (tested_by to page (let r : Result (Option ℕ) WalkFault = Ok o in r)) (spared_by (let r : Result (Option ℕ) WalkFault = Ok o in r)) b a old new in
    subst Q is (subst P same reads)

-- where the page was not full
pub reads_all : (attached other : List Image) (plan : Plan) (from to b a : ℕ) (page : Gathered) (full : Option ℕ) (old new : Seen) → other ≡ attached → full ≡ None →
    ReadsRange (told_all other) plan from (tested_by to page (let r : Result (Option ℕ) WalkFault = Ok full in r)) (spared_by (let r : Result (Option ℕ) WalkFault = Ok full in r)) b a old new → ReadsRange (told_all attached) plan from page.tested 0 b a old new
reads_all attached other plan from to b a page full old new same is reads =
    let P : List Image → Type 0 = λ images. ReadsRange (told_all images) plan from (tested_by to page (let r : Result (Option ℕ) WalkFault = Ok full in r)) (spared_by (let r : Result (Option ℕ) WalkFault = Ok full in r)) b a old new in
    let Q : Option ℕ → Type 0 = λ o. ReadsRange (told_all attached) plan from (tested_by to page (let r : Result (Option ℕ) WalkFault = Ok o in r)) (spared_by (let r : Result (Option ℕ) WalkFault = Ok o in r)) b a old new in
    subst Q is (subst P same reads)

-- the images that were known are those that are
pub scans_told : (attached other : List Image) (plan : Plan) (from to spare b a : ℕ) (old new : Seen) → other ≡ attached → ReadsRange (told_all other) plan from to spare b a old new → ReadsRange (told_all attached) plan from to spare b a old new
scans_told attached other plan from to spare b a old new same scanned =
    let P : List Image → Type 0 = λ images. ReadsRange (told_all images) plan from to spare b a old new in
    subst P same scanned

-- one after the other
pub goes_join : (told : Option (List (List ℕ))) (plan : Plan) (size at to : ℕ) (old mid new : Gathered) → GoesOn told plan size at old mid → GoesOn told plan size to mid new → GoesOn told plan size to old new
goes_join told plan size at to old mid new first second =
    let low : old.tested ≤ mid.tested = first.forward in
    let high : mid.tested ≤ new.tested = second.forward in
    record {
      stands = second.stands;
      forward = omega arith;
      adds = adds_join told plan old.tested mid.tested new.tested old.lines mid.lines new.lines first.adds second.adds low high;
    }

-- a page that was full after ranks where it was not
pub fills_on : (told : Option (List (List ℕ))) (plan : Plan) (size at end stop next : ℕ) (old page new : Gathered) → GoesOn told plan size at old page → end ≤ stop → FillsPage told plan page.tested end size next page.lines new.lines →
    FillsPage told plan old.tested stop size next old.lines new.lines
fills_on told plan size at end stop next old page new goes within fills =
    let low : old.tested ≤ page.tested = goes.forward in
    let forward : page.tested < next = fills.forward in
    let inside : next ≤ end = fills.within in
    record {
      forward = omega arith;
      within = omega arith;
      adds = adds_join told plan old.tested page.tested next old.lines page.lines new.lines goes.adds fills.adds low (omega arith);
      last = fills.last;
      many = fills.many;
    }

-- what is read where it is
pub scans_full : (told : Option (List (List ℕ))) (plan : Plan) (size at end next b c a : ℕ) (start mid now : Seen) (old page new : Gathered) → GoesOn told plan size at old page → FillsPage told plan page.tested end size next page.lines new.lines →
    ReadsRange told plan old.tested page.tested 0 b c start mid → ReadsRange told plan page.tested next 4095 c a mid now → ReadsRange told plan old.tested next 4095 b a start now
scans_full told plan size at end next b c a start mid now old page new goes fills first second =
    let forward : page.tested < next = fills.forward in
    scans_on told plan old.tested page.tested next 4095 b c a start mid now goes.forward (omega arith) first second

-- and where a head fails
pub scans_ended : (told : Option (List (List ℕ))) (plan : Plan) (size at end stop b c a : ℕ) (start mid now : Seen) (old page : Gathered) → GoesOn told plan size at old page → at ≤ end → end ≤ stop →
    ReadsRange told plan old.tested page.tested 0 b c start mid → ReadsRange told plan page.tested end 4095 c a mid now → ReadsRange told plan old.tested stop 4095 b a start now
scans_ended told plan size at end stop b c a start mid now old page goes low high first second =
    let tested = tested_before told plan size at page goes.stands in
    scans_on told plan old.tested page.tested stop 4095 b c a start mid now goes.forward (omega arith) first
    (scans_to_later told plan page.tested end stop 4095 c a mid now (omega arith) high second)

-- a page that was gathered up to the end of its range, and then made whole
pub finishes_on : (told : Option (List (List ℕ))) (plan : Plan) (size stop next : ℕ) (old page new : Gathered) → GoesOn told plan size stop old page → Finishes told plan size stop page new next → Finishes told plan size stop old new next
finishes_on told plan size stop next old page new goes (inl (is, adds)) =
    let tested = tested_before told plan size stop page goes.stands in
    inl (is, record { adds = adds_join told plan old.tested page.tested stop old.lines page.lines new.lines goes.adds adds.adds goes.forward tested; few = adds.few })
finishes_on told plan size stop next old page new goes (inr fills) = inr (fills_on told plan size stop stop stop next old page new goes (omega arith) fills)

-- it ends no earlier than what was tested
finishes_after : (told : Option (List (List ℕ))) (plan : Plan) (size stop next : ℕ) (old page new : Gathered) → GoesOn told plan size stop old page → Finishes told plan size stop page new next → page.tested ≤ next
finishes_after told plan size stop next old page new goes (inl (is, adds)) = let tested = tested_before told plan size stop page goes.stands in omega arith
finishes_after told plan size stop next old page new goes (inr fills) = let forward : page.tested < next = fills.forward in omega arith

-- where it was made so
pub finishes_ok : (attached other : List Image) (plan : Plan) (size stop : ℕ) (old page new : Gathered) (r : Result ℕ WalkFault) → other ≡ attached → GoesOn (told_all attached) plan size stop old page → IfOk r (Finishes (told_all other) plan size stop page new) →
    IfOk r (Finishes (told_all attached) plan size stop old new)
finishes_ok attached other plan size stop old page new (Err fault) same goes finishes = tt
finishes_ok attached other plan size stop old page new (Ok next) same goes finishes =
    let P : List Image → Type 0 = λ images. Finishes (told_all images) plan size stop page new next in
    finishes_on (told_all attached) plan size stop next old page new goes (subst P same finishes)

-- what is read for it
pub scans_finish : (attached other : List Image) (plan : Plan) (size stop b : ℕ) (kept : List OffsetTables) (start mid now : Seen) (old page new : Gathered) (r : Result ℕ WalkFault) → other ≡ attached → GoesOn (told_all attached) plan size stop old page →
    IfOk r (Finishes (told_all other) plan size stop page new) → ReadsRange (told_all attached) plan old.tested page.tested 0 b (left_reads plan kept) start mid →
    ReadsRange (told_all other) plan page.tested (ended_at stop r) 4095 0 0 mid now → ReadsRange (told_all attached) plan old.tested (ended_at stop r) 4095 b (left_after plan kept r) start now
scans_finish attached other plan size stop b kept start mid now old page new (Ok next) same goes finishes first second =
    let P : List Image → Type 0 = λ images. Finishes (told_all images) plan size stop page new next in
    let after = finishes_after (told_all attached) plan size stop next old page new goes (subst P same finishes) in
    scans_on (told_all attached) plan old.tested page.tested next 4095 b (left_reads plan kept) (left_reads plan kept) start mid now goes.forward after first
    (scans_beside (told_all attached) plan page.tested next 4095 (left_reads plan kept) mid now (scans_told attached other plan page.tested next 4095 0 0 mid now same second))
scans_finish attached other plan size stop b kept start mid now old page new (Err fault) same goes finishes first second =
    scans_fail (told_all attached) plan old.tested stop 4095 b (left_reads plan kept) start now
    (scans_on (told_all attached) plan old.tested page.tested stop 4095 b (left_reads plan kept) (left_reads plan kept) start mid now goes.forward (tested_before (told_all attached) plan size stop page goes.stands) first
    (scans_beside (told_all attached) plan page.tested stop 4095 (left_reads plan kept) mid now (scans_told attached other plan page.tested stop 4095 0 0 mid now same second)))

-- where a call failed, its range is at its end
pub to_stop : (stop : ℕ) (page : Gathered) (r : Result (Option ℕ) WalkFault) → IsErr r → tested_by stop page r ≡ stop
to_stop stop page (Ok next) e = absurd (cc)
to_stop stop page (Err fault) e = refl

-- and what may be spared is at its most
pub to_spare : (r : Result (Option ℕ) WalkFault) → IsErr r → spared_by r ≡ 4095
to_spare (Ok next) e = absurd (cc)
to_spare (Err fault) e = refl

-- a page of no lines yet
pub stands_first : (told : Option (List (List ℕ))) (plan : Plan) (size from : ℕ) (page : Gathered) → 1 ≤ size → page.lines ≡ [] → NoneWaits page.waiting → page.tested ≡ from → StandsAt told plan size from page
stands_first told plan size from page some lines none tested = stands_anew told plan size from page (let empty = ap length lines in omega arith) tested none

-- what is read where a call failed
pub reads_err : (told : Option (List (List ℕ))) (plan : Plan) (from to b a : ℕ) (page : Gathered) (r : Result (Option ℕ) WalkFault) (old new : Seen) → IsErr r → ReadsRange told plan from (tested_by to page r) (spared_by r) b a old new → ReadsRange told plan from to 4095 b a old new
reads_err told plan from to b a page (Ok next) old new e reads = absurd (cc)
reads_err told plan from to b a page (Err fault) old new e reads = reads

-- and where it is told of a call that failed later
pub reads_stop : (told : Option (List (List ℕ))) (plan : Plan) (from to b a : ℕ) (page : Gathered) (r : Result (Option ℕ) WalkFault) (old new : Seen) → IsErr r → ReadsRange told plan from to 4095 b a old new → ReadsRange told plan from (tested_by to page r) (spared_by r) b a old new
reads_stop told plan from to b a page (Ok next) old new e reads = absurd (cc)
reads_stop told plan from to b a page (Err fault) old new e reads = reads

-- where the page was full, and where it was not
pub reads_some : (told : Option (List (List ℕ))) (plan : Plan) (from to next b a : ℕ) (page : Gathered) (r : Result (Option ℕ) WalkFault) (old new : Seen) → r ≡ Ok (Some next) → ReadsRange told plan from (tested_by to page r) (spared_by r) b a old new → ReadsRange told plan from next 4095 b a old new
reads_some told plan from to next b a page r old new is reads = subst (λ (s : Result (Option ℕ) WalkFault). ReadsRange told plan from (tested_by to page s) (spared_by s) b a old new) is reads

pub reads_none : (told : Option (List (List ℕ))) (plan : Plan) (from to b a : ℕ) (page : Gathered) (r : Result (Option ℕ) WalkFault) (old new : Seen) → r ≡ Ok None → ReadsRange told plan from (tested_by to page r) (spared_by r) b a old new → ReadsRange told plan from page.tested 0 b a old new
reads_none told plan from to b a page r old new is reads = subst (λ (s : Result (Option ℕ) WalkFault). ReadsRange told plan from (tested_by to page s) (spared_by s) b a old new) is reads
