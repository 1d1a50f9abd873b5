-- Candidates that pass without a test, and pages in which one waits.
use Rattle.std.proofs.Common.{drop, ℕ, zero, suc, ◌≡◌, ◌⊎◌, ◌<◌, ◌≤◌, ◌+◌, Bool, true, false, ◌||◌, ◌&&◌, nat_le, List, [], ◌∷◌, ◌++◌, length, map, get_or, take, refl, sym, ap, ◌∙◌, subst, arith, Option, Some, None, Result, Ok, Err, IfOk, IfSome, IsErr, All, slice_get, inl, inr}
use Rattle.std.specs.Option.{is_some, option_map_or}
use Rattle.std.specs.List.{list_all, range_with_len, slice_index}
use Rattle.std.proofs.lemmas.Bool.{and_parts, cases_Bool, cases_lt, le-leb, leb-true}
use Rattle.std.proofs.lemmas.List.{length-map, take_at, get_or-map}
use Rattle.outside.specs.Attached.{told_all}
use Rattle.outside.specs.Seen.{Image, OnlyReads, Seen, TellsBytes}
use Rattle.raid_params.specs.Size.{rows}
use Rattle.raid_params.specs.declared.types.Geometry.{Geometry}
use Rattle.raid_terms.specs.Parity.{passes_parity}
use Rattle.candidate_enum.specs.Survivors.{all_admitted}
use Rattle.parity_scan.proofs.Unbroken.{unbreakable_passes}
use Rattle.parity_scan.specs.Scan.{is_unbreakable}
use Rattle.parity_scan.specs.Tallies.{AllTallies, BeginsAs, has_passed, is_open, KeepSettled, NoneOpen}
use Rattle.parity_scan.specs.declared.tally.Tally.{Tally}
use Rattle.parity_scan.specs.declared.tally.Tally.TheVariants.{Passes}
use Rattle.prune_filters.proofs.Law.{decide}
use Rattle.prune_filters.specs.Hopeful.{is_hopeful}
use Rattle.prune_filters.specs.Marks.{groups_may_hold}
use Rattle.prune_filters.specs.Rows.{rows_decide, rows_may_hold}
use Rattle.search_plan.specs.Plans.{IsPlan, AgreeWith, scope_of}
use Rattle.plan_sets.specs.Sets.{sets_of, total_of}
use Rattle.std.proofs.lemmas.Option.{slice_get_within}
use Rattle.search_plan.specs.declared.plan.Plan.{Plan}
use Rattle.head_walk.specs.Counts.{is_decided, is_hopeful_at, most_scanned}
use Rattle.parity_scan.specs.Verdicts.{verdicts_of}
use Rattle.head_walk.specs.Walk.{AddsAll, AreWaiting, ended_at, Finishes, first_tally, GoesOn, HavePassed, IsCandidate, IsPast, known_first, ranked_sets, ReadsRange, spared_by, StandsAt, tested_by, Wait, Ranked}
use Rattle.head_walk.specs.declared.gathering.Gathered.{Gathered}
use Rattle.head_walk.specs.declared.parts.Line.{Line}
use Rattle.head_walk.specs.declared.parts.WalkFault.{WalkFault}
use Rattle.head_walk.specs.declared.waiting.Waiting.{Waiting}
use Rattle.head_walk.proofs.Counting.{BeginOpen, full_scan, open_scan}
use Rattle.head_walk.proofs.Known.{first_left, first_passes, known_all, known_each, known_most, known_open}
use Rattle.head_walk.proofs.Ranges.{adds_none, adds_past}
use Rattle.head_walk.proofs.Scanned.{scans_none, scans_one}
use Rattle.head_walk.proofs.SetTests.{scannable}
use Rattle.head_walk.proofs.Waits.{line_at, lines_long, lines_more, wait_add, wait_before, wait_each, wait_from, wait_nothing, wait_rises}

-- the first places of a list, all of them
take_whole : (l : List (Option ℕ)) → take (length l) l ≡ l
take_whole [] = refl
take_whole (x ∷ l) = ap (λ (k : List (Option ℕ)). x ∷ k) (take_whole l)

-- what holds of all numbers of a range holds of each
number_at : (p : ℕ → Bool) (a n k : ℕ) → k < n → list_all p (range_with_len a n) ≡ true → p (a + k) ≡ true
number_at p a zero k below all = absurd (omega arith)
number_at p a (suc n) zero below all =
    let parts = and_parts (p a) (list_all p (range_with_len (a + 1) n)) all in
    ap p (let e : a + 0 ≡ a = omega arith in e) ∙ parts.0
number_at p a (suc n) (suc k) below all =
    let parts = and_parts (p a) (list_all p (range_with_len (a + 1) n)) all in
    ap p (let e : a + suc k ≡ a + 1 + k = omega arith in e) ∙ number_at p (a + 1) n k (omega arith) parts.1

-- of a list of which each prefix is admitted, the whole one is
pub whole_admitted : (admits : List (Option ℕ) → Bool) (slots : List (Option ℕ)) → all_admitted admits slots ≡ true → admits slots ≡ true
unfolding all_admitted
whole_admitted admits slots all =
    ap admits (sym (take_whole slots) ∙ ap (λ (k : ℕ). take k slots) (let e : length slots ≡ 0 + length slots = omega arith in e))
    ∙ number_at (λ k. admits (take k slots)) 0 (length slots + 1) (length slots) (omega arith) all

-- the slots of a hopeful set are admitted
hopeful_slots : (bytes : List (List ℕ)) (plan : Plan) (line : Ranked) → slice_get (sets_of plan) line.rank ≡ Some line.geo → is_hopeful_at (Some bytes) plan line.rank ≡ true → all_admitted (is_hopeful bytes plan line.geo.head) line.geo.slots.items ≡ true
unfolding is_hopeful_at
hopeful_slots bytes plan line set hopeful =
    sym (ap (λ (o : Option Geometry). option_map_or (λ geo. all_admitted (is_hopeful bytes plan geo.head) geo.slots.items) o false) set) ∙ hopeful

-- a candidate of which no row has to be tested meets the parity test
pub decided_passes : (attached : List Image) (plan : Plan) (line : Ranked) → IsPlan plan → AgreeWith plan attached → All TellsBytes attached → IsCandidate (told_all attached) plan line → is_decided plan line.geo ≡ true →
    IfSome (told_all attached) (λ bytes. passes_parity bytes line.geo plan.end plan.limits.window plan.limits.badrows ≡ true)
decided_passes attached plan line is_plan agrees tells is decided = elim (cases_Bool (is_unbreakable line.geo)) [
  | inl holds ↦ unbreakable_passes attached line.geo plan.end plan.limits.window plan.limits.badrows tells (scannable plan line.rank line.geo attached is_plan is.set agrees) holds
  | inr fails ↦ by_rows (told_all attached) is (sym (ap (λ (b : Bool). b || rows_decide plan line.geo.head) fails) ∙ decided)
]
  where
    by_rows : (told : Option (List (List ℕ))) → IsCandidate told plan line → rows_decide plan line.geo.head ≡ true → IfSome told (λ bytes. passes_parity bytes line.geo plan.end plan.limits.window plan.limits.badrows ≡ true)
    by_rows None known decides = tt
    by_rows (Some bytes) known decides =
        let hopeful : is_hopeful bytes plan line.geo.head line.geo.slots.items ≡ true = whole_admitted (is_hopeful bytes plan line.geo.head) line.geo.slots.items (hopeful_slots bytes plan line known.set known.hopeful) in
        let first = and_parts (nat_le 1 (rows line.geo.head plan.end)) (groups_may_hold plan line.geo.head line.geo.slots.items && rows_may_hold bytes plan line.geo.head line.geo.slots.items) hopeful in
        let rest = and_parts (groups_may_hold plan line.geo.head line.geo.slots.items) (rows_may_hold bytes plan line.geo.head line.geo.slots.items) first.1 in
        sym (decide bytes plan line.rank line.geo known.set decides) ∙ rest.1

-- the tallies of sets that wait begin as those of a scan
begins_as : (attached : List Image) (plan : Plan) (line : Ranked) → IsPlan plan → AgreeWith plan attached → All TellsBytes attached → IsCandidate (told_all attached) plan line → BeginsAs (told_all attached) (scope_of plan) line.geo (first_tally plan line.geo)
begins_as attached plan line is_plan agrees tells is = elim (cases_Bool (is_decided plan line.geo)) [
  | inl t ↦ subst P (sym (first_passes plan line.geo t)) (decided_passes attached plan line is_plan agrees tells is t)
  | inr f ↦ subst P (sym (first_left plan line.geo f)) refl
]
  where
    P : Tally → Type 0
    P tally = BeginsAs (told_all attached) (scope_of plan) line.geo tally

-- so do those of all that wait
pub all_begin : (attached : List Image) (plan : Plan) (waiting : Waiting) (tallies : List Tally) → IsPlan plan → AgreeWith plan attached → All TellsBytes attached → AreWaiting plan waiting → tallies ≡ waiting.tallies.items →
    All (IsCandidate (told_all attached) plan) (ranked_sets waiting.ranks waiting.sets) → AllTallies (BeginsAs (told_all attached) (scope_of plan)) waiting.sets tallies
all_begin attached plan waiting tallies is_plan agrees tells are same all = λ i d e below.
    let none : Ranked = record { rank = 0; geo = e } in
    let long = lines_long waiting.ranks waiting.sets are.ranks in
    let here : get_or (ranked_sets waiting.ranks waiting.sets) i none ≡ record { rank = get_or waiting.ranks i 0; geo = get_or waiting.sets i e } = line_at waiting.ranks waiting.sets i none 0 e are.ranks below in
    let tally : get_or tallies i d ≡ first_tally plan (get_or waiting.sets i e) = ap (λ (l : List Tally). get_or l i d) (same ∙ are.tallies) ∙ get_or-map (first_tally plan) waiting.sets i e d below in
    let is : IsCandidate (told_all attached) plan (record { rank = get_or waiting.ranks i 0; geo = get_or waiting.sets i e }) = subst (IsCandidate (told_all attached) plan) here (all i none (omega arith)) in
    let P : Tally → Type 0 = λ t. BeginsAs (told_all attached) (scope_of plan) (get_or waiting.sets i e) t in
    subst P (sym tally) (begins_as attached plan (record { rank = get_or waiting.ranks i 0; geo = get_or waiting.sets i e }) is_plan agrees tells is)

-- where all of them are known to pass, none has rows to be tested
pub waiting_closed : (plan : Plan) (waiting : Waiting) (tallies : List Tally) → AreWaiting plan waiting → tallies ≡ waiting.tallies.items → waiting.known ≡ length waiting.sets → NoneOpen tallies
waiting_closed plan waiting tallies are same all =
    let P : List Tally → Type 0 = λ l. NoneOpen l in
    subst P (sym (same ∙ are.tallies)) (known_all plan waiting.sets (sym are.known ∙ all))

-- those that are known to pass have passed after a scan
passed_of : (t : Tally) → t ≡ Passes → has_passed t ≡ true
passed_of t is = ap has_passed is

-- each of those that are known to pass has passed
pub known_passed : (plan : Plan) (waiting : Waiting) (old new : List Tally) (i : ℕ) (d : Tally) → AreWaiting plan waiting → old ≡ waiting.tallies.items → length old ≡ length waiting.sets → KeepSettled old new → i < waiting.known → has_passed (get_or new i d) ≡ true
known_passed plan waiting old new i d are same long keep below = by waiting.sets refl
  where
    by : (sets : List Geometry) → waiting.sets ≡ sets → has_passed (get_or new i d) ≡ true
    by [] e = absurd (let known : waiting.known ≡ known_first plan [] = are.known ∙ ap (known_first plan) e in let most = known_most plan [] in omega arith)
    by (geo ∷ sets) e =
        let known : waiting.known ≡ known_first plan (geo ∷ sets) = are.known ∙ ap (known_first plan) e in
        let most = known_most plan (geo ∷ sets) in
        let count : length waiting.sets ≡ length (geo ∷ sets) = ap length e in
        let decided = known_each plan (geo ∷ sets) i geo (omega arith) in
        let tally : get_or old i d ≡ Passes = ap (λ (l : List Tally). get_or l i d) (same ∙ are.tallies ∙ ap (map (first_tally plan)) e) ∙ get_or-map (first_tally plan) (geo ∷ sets) i geo d (omega arith) ∙ first_passes plan (get_or (geo ∷ sets) i geo) decided in
        passed_of (get_or new i d) (keep i d (omega arith) (ap is_open tally) ∙ tally)

-- the tallies that a scan wrote in place of the first ones
pub written : (old new : List Tally) (len : ℕ) → length new ≡ len → take len (new ++ drop (length new) old) ≡ new
written old new len long = take_at new (drop (length new) old) len long

-- the verdicts that they say
pub written_told : (told : Option (List (List ℕ))) (plan : Plan) (old new : List Tally) (sets waiting : List Geometry) (len : ℕ) → length new ≡ len → sets ≡ waiting →
    IfSome told (λ bytes. map has_passed new ≡ verdicts_of bytes (scope_of plan) sets) → IfSome told (λ bytes. map has_passed (take len (new ++ drop (length new) old)) ≡ verdicts_of bytes (scope_of plan) waiting)
written_told None plan old new sets waiting len long same known = tt
written_told (Some bytes) plan old new sets waiting len long same known = ap (map has_passed) (written old new len long) ∙ known ∙ ap (verdicts_of bytes (scope_of plan)) same

-- those that were known to pass among them
pub written_known : (plan : Plan) (waiting : Waiting) (old new : List Tally) (len : ℕ) → AreWaiting plan waiting → old ≡ waiting.tallies.items → length new ≡ len → KeepSettled old new → HavePassed waiting.known (take len (new ++ drop (length new) waiting.tallies.items))
written_known plan waiting old new len are same long keep = λ i d less.
    ap (λ (l : List Tally). has_passed (get_or l i d)) (written waiting.tallies.items new len long)
    ∙ known_passed plan waiting old new i d are same (ap length (same ∙ are.tallies) ∙ length-map waiting.sets (first_tally plan)) keep less

-- as many wait as may, or the page is full with those that are known to pass
pub is_many : (n m size : ℕ) → (nat_le 4096 n || nat_le size m) ≡ true → (4096 ≤ n) ⊎ (size ≤ m)
is_many n m size e = elim (cases_Bool (nat_le 4096 n)) [
  | inl t ↦ inl (leb-true 4096 n t)
  | inr f ↦ inr (leb-true size m (sym (ap (λ (b : Bool). b || nat_le size m) f) ∙ e))
]

-- fewer wait than may, and the page is not full with those that are known to pass
pub is_short : (n m size : ℕ) → (nat_le 4096 n || nat_le size m) ≡ false → (n < 4096) × (m < size)
is_short n m size e = (not_le 4096 n (first (nat_le 4096 n) (nat_le size m) e), not_le size m (second (nat_le 4096 n) (nat_le size m) e))
  where
    first : (a b : Bool) → (a || b) ≡ false → a ≡ false
    first true b e = absurd (cc)
    first false b e = refl

    second : (a b : Bool) → (a || b) ≡ false → b ≡ false
    second true b e = absurd (cc)
    second false b e = e

    not_le : (a b : ℕ) → nat_le a b ≡ false → b < a
    not_le a b f = elim (cases_lt b a) [
      | inl less ↦ less
      | inr more ↦ absurd (let t = le-leb a b more in cc)
    ]

-- those that are known to pass do not fill a page where others wait
pub pushed_below : (lines before known count size : ℕ) → lines + before < size → (known ≡ before) ⊎ (known ≡ count) → known < count → lines + known < size
pushed_below lines before known count size few (inl same) less = omega arith
pushed_below lines before known count size few (inr all) less = absurd (omega arith)

-- one more waits
pub waits_more : (told : Option (List (List ℕ))) (plan : Plan) (size : ℕ) (line : Ranked) (old : Gathered) (waiting : Waiting) → StandsAt told plan size line.rank old → IsCandidate told plan line → waiting.ranks ≡ old.waiting.ranks ++ line.rank ∷ [] →
    waiting.sets ≡ old.waiting.sets ++ line.geo ∷ [] → Wait told plan old.tested (line.rank + 1) (ranked_sets waiting.ranks waiting.sets)
waits_more told plan size line old waiting stands is ranks sets =
    let P : List Ranked → Type 0 = λ l. Wait told plan old.tested (line.rank + 1) l in
    let Q : List ℕ → Type 0 = λ l. Wait told plan old.tested (line.rank + 1) (ranked_sets l waiting.sets) in
    let R : List Geometry → Type 0 = λ l. Wait told plan old.tested (line.rank + 1) (ranked_sets (old.waiting.ranks ++ line.rank ∷ []) l) in
    subst Q (sym ranks) (subst R (sym sets) (subst P (sym (lines_more old.waiting.ranks old.waiting.sets line.rank line.geo stands.are.ranks))
    (wait_add told plan old.tested line (ranked_sets old.waiting.ranks old.waiting.sets) stands.wait is)))

-- a page goes on with one more that waits
pub waits_on : (told : Option (List (List ℕ))) (plan : Plan) (size : ℕ) (line : Ranked) (old new : Gathered) → StandsAt told plan size line.rank old → IsCandidate told plan line → AreWaiting plan new.waiting →
    new.lines ≡ old.lines → new.tested ≡ old.tested → new.waiting.ranks ≡ old.waiting.ranks ++ line.rank ∷ [] → new.waiting.sets ≡ old.waiting.sets ++ line.geo ∷ [] →
    length new.lines + new.waiting.known < size → length new.waiting.sets < 4096 → GoesOn told plan size (line.rank + 1) old new
waits_on told plan size line old new stands is are lines tested ranks sets few room =
    let Q : ℕ → Type 0 = λ n. Wait told plan n (line.rank + 1) (ranked_sets new.waiting.ranks new.waiting.sets) in
    let same = adds_none told plan old.tested old.lines in
    let S : List Line → Type 0 = λ l. AddsAll told plan old.tested old.tested (length old.lines + 1) old.lines l in
    let T : ℕ → Type 0 = λ n. AddsAll told plan old.tested n (length old.lines + 1) old.lines new.lines in
    record {
      stands = record {
        are = are;
        wait = subst Q (sym tested) (waits_more told plan size line old new.waiting stands is ranks sets);
        few = few;
        room = room;
      };
      forward = omega arith;
      adds = (subst T (sym tested) (subst S (sym lines) (record { adds = same; few = omega arith }))).adds;
    }

-- a whole page of which none waits
pub finishes_empty : (told : Option (List (List ℕ))) (plan : Plan) (size stop : ℕ) (old new : Gathered) → StandsAt told plan size stop old → length old.waiting.sets ≡ 0 → new.lines ≡ old.lines → Finishes told plan size stop old new stop
unfolding ranked_sets
finishes_empty told plan size stop old new stands none same =
    let P : List Ranked → Type 0 = λ l. Wait told plan old.tested stop l in
    let nothing = wait_nothing told plan old.tested stop (subst P (empty old.waiting.ranks old.waiting.sets none) stands.wait) in
    let Q : List Line → Type 0 = λ l. AddsAll told plan old.tested stop size old.lines l in
    inl (refl, subst Q (sym same) (record { adds = adds_past told plan old.tested old.tested stop old.lines old.lines (adds_none told plan old.tested old.lines) (omega arith) nothing.0 nothing.1; few = (let few = stands.few in omega arith) }))
  where
    empty : (ranks : List ℕ) (sets : List Geometry) → length sets ≡ 0 → ranked_sets ranks sets ≡ []
    empty [] sets e = refl
    empty (rank ∷ ranks) [] e = refl
    empty (rank ∷ ranks) (geo ∷ sets) e = absurd (omega arith)

-- the first of those that wait that has rows to be tested
first_open : (told : Option (List (List ℕ))) (plan : Plan) (from at next : ℕ) (ranks : List ℕ) (sets : List Geometry) → length ranks ≡ length sets → Wait told plan from at (ranked_sets ranks sets) → known_first plan sets < length sets →
    ((d : Ranked) → (get_or (ranked_sets ranks sets) (known_first plan sets) d).rank < next) → BeginOpen told plan from next
first_open told plan from at next ranks [] same wait less high = absurd (omega arith)
first_open told plan from at next ranks (geo ∷ sets) same wait less high =
    let none : Ranked = record { rank = 0; geo = geo } in
    let k = known_first plan (geo ∷ sets) in
    let long = lines_long ranks (geo ∷ sets) same in
    let here = line_at ranks (geo ∷ sets) (known_first plan (geo ∷ sets)) none 0 geo same less in
    record {
      line = get_or (ranked_sets ranks (geo ∷ sets)) (known_first plan (geo ∷ sets)) none;
      low = wait_from told plan from at (ranked_sets ranks (geo ∷ sets)) (known_first plan (geo ∷ sets)) none wait (omega arith);
      high = high none;
      is = wait_each told plan from at (ranked_sets ranks (geo ∷ sets)) (known_first plan (geo ∷ sets)) none wait (omega arith);
      undecided = ap (λ (l : Ranked). is_decided plan l.geo) here ∙ known_open plan (geo ∷ sets) geo less;
    }

-- it stands before the end of their range, and before the next page where this one is full with a later set
open_before : (told : Option (List (List ℕ))) (plan : Plan) (from at : ℕ) (waiting : Waiting) → AreWaiting plan waiting → Wait told plan from at (ranked_sets waiting.ranks waiting.sets) → waiting.known < length waiting.sets → BeginOpen told plan from at
open_before told plan from at waiting are wait less =
    let known : waiting.known ≡ known_first plan waiting.sets = are.known in
    let long = lines_long waiting.ranks waiting.sets are.ranks in
    first_open told plan from at at waiting.ranks waiting.sets are.ranks wait (omega arith)
    (λ d. let before = wait_before told plan from at (ranked_sets waiting.ranks waiting.sets) (known_first plan waiting.sets) d wait (omega arith) in omega arith)

-- the same where the page is full with a later set
open_past : (told : Option (List (List ℕ))) (plan : Plan) (from at next : ℕ) (waiting : Waiting) → AreWaiting plan waiting → Wait told plan from at (ranked_sets waiting.ranks waiting.sets) → waiting.known < length waiting.sets → IsPast waiting.ranks waiting.known next →
    BeginOpen told plan from next
open_past told plan from at next waiting are wait less past =
    let known : waiting.known ≡ known_first plan waiting.sets = are.known in
    let long = lines_long waiting.ranks waiting.sets are.ranks in
    let count : length waiting.ranks ≡ length waiting.sets = are.ranks in
    let there : past.place < length waiting.ranks = past.there in
    let later : waiting.known ≤ past.place = past.later in
    let last : next ≡ slice_index waiting.ranks past.place + 1 = past.last in
    first_open told plan from at next waiting.ranks waiting.sets are.ranks wait (omega arith)
    (λ d. let rises = wait_rises told plan from at (ranked_sets waiting.ranks waiting.sets) (known_first plan waiting.sets) past.place d wait (omega arith) (omega arith) in
    let here = ap (λ (l : Ranked). l.rank) (line_at waiting.ranks waiting.sets past.place d 0 d.geo are.ranks (omega arith)) in
    omega arith)

-- what is read where those that wait are tested
last_scan : (told : Option (List (List ℕ))) (plan : Plan) (from next : ℕ) (waiting : Waiting) (old new : Seen) → AreWaiting plan waiting → (waiting.known < length waiting.sets → BeginOpen told plan from next) →
    OnlyReads old new (most_scanned plan) → (waiting.known ≡ length waiting.sets → new ≡ old) → ReadsRange told plan from next 4095 0 0 old new
last_scan told plan from next waiting old new are first reads unread =
    let known : waiting.known ≡ known_first plan waiting.sets = are.known in
    let most = known_most plan waiting.sets in
    elim (cases_lt waiting.known (length waiting.sets)) [
      | inl less ↦ scans_one told plan from next 4095 0 old new (open_scan told plan from next (first less)) reads
      | inr more ↦ (let P : Seen → Type 0 = λ s. ReadsRange told plan from next 4095 0 0 old s in
          subst P (sym (unread (omega arith))) (scans_none told plan from next 4095 0 old))
    ]

-- a scan of as many sets as there may be
whole_scan : (told : Option (List (List ℕ))) (plan : Plan) (from at : ℕ) (waiting : Waiting) (old new : Seen) → AreWaiting plan waiting → Wait told plan from at (ranked_sets waiting.ranks waiting.sets) → length waiting.sets ≡ 4096 →
    OnlyReads old new (most_scanned plan) → (waiting.known ≡ length waiting.sets → new ≡ old) → ReadsRange told plan from at 0 0 0 old new
whole_scan told plan from at waiting old new are wait long reads unread =
    let known : waiting.known ≡ known_first plan waiting.sets = are.known in
    let most = known_most plan waiting.sets in
    let count = lines_long waiting.ranks waiting.sets are.ranks in
    elim (cases_lt waiting.known (length waiting.sets)) [
      | inl less ↦ scans_one told plan from at 0 0 old new (full_scan told plan from at (ranked_sets waiting.ranks waiting.sets) wait (open_before told plan from at waiting are wait less) (omega arith)) reads
      | inr more ↦ (let P : Seen → Type 0 = λ s. ReadsRange told plan from at 0 0 0 old s in
          subst P (sym (unread (omega arith))) (scans_none told plan from at 0 0 old))
    ]

-- at the end of a range
pub end_scan : (told : Option (List (List ℕ))) (plan : Plan) (from at : ℕ) (waiting : Waiting) (old new : Seen) → AreWaiting plan waiting → Wait told plan from at (ranked_sets waiting.ranks waiting.sets) →
    OnlyReads old new (most_scanned plan) → (waiting.known ≡ length waiting.sets → new ≡ old) → ReadsRange told plan from at 4095 0 0 old new
end_scan told plan from at waiting old new are wait reads unread = last_scan told plan from at waiting old new are (open_before told plan from at waiting are wait) reads unread

-- where the page is full
pub past_scan : (told : Option (List (List ℕ))) (plan : Plan) (from at next : ℕ) (waiting : Waiting) (old new : Seen) → AreWaiting plan waiting → Wait told plan from at (ranked_sets waiting.ranks waiting.sets) → (waiting.known < length waiting.sets → IsPast waiting.ranks waiting.known next) →
    OnlyReads old new (most_scanned plan) → (waiting.known ≡ length waiting.sets → new ≡ old) → ReadsRange told plan from next 4095 0 0 old new
past_scan told plan from at next waiting old new are wait past reads unread = last_scan told plan from next waiting old new are (λ less. open_past told plan from at next waiting are wait less (past less)) reads unread

-- where as many wait as may, or the page is full with those that are known to pass
pub scan_by : (told : Option (List (List ℕ))) (plan : Plan) (from at size lines : ℕ) (waiting : Waiting) (page : Gathered) (r : Result (Option ℕ) WalkFault) (old new : Seen) → AreWaiting plan waiting → Wait told plan from at (ranked_sets waiting.ranks waiting.sets) →
    (4096 ≤ length waiting.sets) ⊎ (size ≤ lines + waiting.known) → length waiting.sets ≤ 4096 → (waiting.known < length waiting.sets → lines + waiting.known < size) →
    IfOk r (λ full. full ≡ None → page.tested ≡ at) → IfOk r (λ full. size ≤ lines + waiting.known → is_some full ≡ true) → IfOk r (λ full. IfSome full (λ next. lines + waiting.known < size → IsPast waiting.ranks waiting.known next)) →
    OnlyReads old new (most_scanned plan) → (waiting.known ≡ length waiting.sets → new ≡ old) → ReadsRange told plan from (tested_by at page r) (spared_by r) 0 0 old new
scan_by told plan from at size lines waiting page (Ok None) old new are wait (inl many) most below tested fills past reads unread =
    let P : ℕ → Type 0 = λ n. ReadsRange told plan from n 0 0 0 old new in
    subst P (sym (tested refl)) (whole_scan told plan from at waiting old new are wait (omega arith) reads unread)
scan_by told plan from at size lines waiting page (Ok None) old new are wait (inr full) most below tested fills past reads unread = absurd (let some = fills full in cc)
scan_by told plan from at size lines waiting page (Ok (Some next)) old new are wait ready most below tested fills past reads unread = past_scan told plan from at next waiting old new are wait (λ less. past (below less)) reads unread
scan_by told plan from at size lines waiting page (Err fault) old new are wait ready most below tested fills past reads unread = end_scan told plan from at waiting old new are wait reads unread

-- where a page could not be made whole
pub ended_err : (stop : ℕ) (r : Result ℕ WalkFault) → IsErr r → ended_at stop r ≡ stop
ended_err stop (Ok next) e = absurd (cc)
ended_err stop (Err fault) e = refl

-- a candidate's rank is below the total
pub rank_below : (told : Option (List (List ℕ))) (plan : Plan) (line : Ranked) → IsCandidate told plan line → line.rank < total_of plan
unfolding total_of
rank_below told plan line is = slice_get_within (sets_of plan) line.rank line.geo is.set
