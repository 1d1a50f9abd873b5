-- Heads walked one after another.
use Rattle.std.proofs.Common.{◌≡◌, ◌≢◌, ℕ, ◌+◌, ◌-◌, ◌<◌, ◌≤◌, ◌⊎◌, min, Bool, false, List, [], ◌∷◌, length, map, option_map, slice_get, refl, sym, ap, ◌∙◌, arith, Option, Some, None, subst, inl, inr, IfOk, IfSome, Result, Ok, Err, IsErr, All}
use Rattle.std.proofs.lemmas.Bool.{cases_lt}
use Rattle.std.proofs.lemmas.List.{length-map}
use Rattle.std.proofs.lemmas.List.Elements.{All-nil, All-weaker}
use Rattle.std.specs.Option.{option_map_or}
use Rattle.outside.specs.Attached.{told_all}
use Rattle.outside.specs.Seen.{Image, Seen}
use Rattle.search_terms.specs.Page.{passing, stop_of, IsPage}
use Rattle.plan_sets.specs.Sets.{passes, passes_at, sets_of, total_of}
use Rattle.raid_params.specs.declared.types.Geometry.{Geometry}
use Rattle.slot_math.proofs.Nested.{get-map}
use Rattle.wide_product.proofs.Products.{common_are, common_set, common_total}
use Rattle.wide_product.specs.Sets.{wide_passes, wide_passes_at, wide_sets, wide_total, Based}
use Rattle.search_plan.specs.declared.plan.Plan.{Plan}
use Rattle.set_product.specs.declared.heads.HeadSets.{HeadSets}
use Rattle.head_walk.specs.Walk.{HoldsSet, AddsAll, ended_at, FillsPage, Finishes, Gathers, GoesOn, IsHeadOf, IsPart, left_after, left_reads, ReadsRange, spared_by, StandsAt, tested_by}
use Rattle.head_walk.specs.declared.gathering.Gathered.{Gathered}
use Rattle.head_walk.specs.declared.parts.Line.{Line}
use Rattle.head_walk.specs.declared.parts.WalkFault.{WalkFault}
use Rattle.common_pages.specs.Pages.{EndsOrFull, HoldsBased, IsPageFrom, IsPageOf, ranks_of, tested_to}
use Rattle.common_pages.specs.declared.page_parts.ListPage.{ListPage}
use Rattle.common_pages.specs.declared.page_parts.PageFault.{PageFault}
use Rattle.head_walk.specs.declared.row_tables.OffsetTables.{OffsetTables}
use Rattle.head_walk.proofs.OneHead.{finishes_on, gathers_all, gathers_full, goes_join, goes_still, reads_all, scans_finish}
use Rattle.common_pages.proofs.Ahead.{at_end, at_head, Ahead}
use Rattle.page_loop.proofs.RankByRank.{full, short, passes_more}
use Rattle.head_walk.proofs.Scanned.{scans_none, scans_on}

-- a walk over the heads that stands at a rank
pub record Reaches (told : Option (List (List ℕ))) (plan : Plan) (size from stop at before after : ℕ) (start now : Seen) (old page : Gathered) (ahead : List HeadSets) : Type 0 where
  pub low : from ≤ at
  pub high : at ≤ stop
  pub more : (at ≡ stop) ⊎ Ahead plan at ahead
  pub goes : GoesOn told plan size at old page
  pub scans : ReadsRange told plan old.tested page.tested 0 before after start now

-- before the first head
pub reaches_first : (told : Option (List (List ℕ))) (plan : Plan) (size from stop before : ℕ) (seen : Seen) (page : Gathered) (ahead : List HeadSets) → from ≤ stop → StandsAt told plan size from page → Ahead plan from ahead →
    Reaches told plan size from stop from before before seen seen page page ahead
reaches_first told plan size from stop before seen page ahead range stands more = record {
  low = omega arith;
  high = range;
  more = inr more;
  goes = goes_still told plan size from page stands;
  scans = scans_none told plan page.tested page.tested 0 before seen;
}

-- at the end of the range
pub reaches_stop : (told : Option (List (List ℕ))) (plan : Plan) (size from stop at before after : ℕ) (start now : Seen) (old page : Gathered) (ahead : List HeadSets) →
    Reaches told plan size from stop at before after start now old page ahead → at ≡ stop → GoesOn told plan size stop old page
reaches_stop told plan size from stop at before after start now old page ahead far is =
    let P : ℕ → Type 0 = λ n. GoesOn told plan size n old page in
    subst P is far.goes

-- where no head is left
pub reaches_end : (told : Option (List (List ℕ))) (plan : Plan) (size from stop at before after : ℕ) (start now : Seen) (old page : Gathered) (ahead : List HeadSets) → stop ≤ total_of plan →
    Reaches told plan size from stop at before after start now old page ahead → ahead ≡ [] → at ≡ stop
reaches_end told plan size from stop at before after start now old page ahead within far none = either far.more
  where
    either : (at ≡ stop) ⊎ Ahead plan at ahead → at ≡ stop
    either (inl is) = is
    either (inr more) =
        let P : List HeadSets → Type 0 = λ l. Ahead plan at l in
        let past : total_of plan ≤ at = at_end plan at (subst P none more) in
        let high : at ≤ stop = far.high in
        omega arith

-- the next head
pub record IsNextHead (plan : Plan) (at stop : ℕ) (sets : HeadSets) (later : List HeadSets) : Type 0 where
  pub head : IsHeadOf plan sets
  pub part : IsPart sets at (min stop (sets.first + sets.count))
  pub ahead : Ahead plan (sets.first + sets.count) later

-- it is a head of the plan, and the part of its ranks that is asked for
pub next_head : (told : Option (List (List ℕ))) (plan : Plan) (size from stop at before after : ℕ) (start now : Seen) (old page : Gathered) (ahead later : List HeadSets) (sets : HeadSets) →
    Reaches told plan size from stop at before after start now old page ahead → ahead ≡ sets ∷ later → at ≢ stop → IsNextHead plan at stop sets later
next_head told plan size from stop at before after start now old page ahead later sets far e other = either far.more
  where
    either : (at ≡ stop) ⊎ Ahead plan at ahead → IsNextHead plan at stop sets later
    either (inl is) = absurd (other is)
    either (inr more) =
        let here = at_head plan at sets ahead later e more in
        let first : sets.first ≤ at = here.0 in
        let last : at ≤ sets.first + sets.count = here.1 in
        let high : at ≤ stop = far.high in
        record { head = here.2; part = record { begins = first; ordered = omega arith; ends = omega arith }; ahead = here.3 }

-- a head walked to the end of its range
pub reaches_on : (told : Option (List (List ℕ))) (plan : Plan) (size from stop at end b c a : ℕ) (start mid now : Seen) (old page new : Gathered) (ahead later : List HeadSets) (sets : HeadSets) →
    Reaches told plan size from stop at b c start mid old page ahead → IsNextHead plan at stop sets later → end ≡ min stop (sets.first + sets.count) → GoesOn told plan size end page new → ReadsRange told plan page.tested new.tested 0 c a mid now →
    Reaches told plan size from stop end b a start now old new later
reaches_on told plan size from stop at end b c a start mid now old page new ahead later sets far next is goes scans =
    let low : from ≤ at = far.low in
    let high : at ≤ stop = far.high in
    let ordered : at ≤ min stop (sets.first + sets.count) = next.part.ordered in
    record {
      low = omega arith;
      high = omega arith;
      more = either (cases_lt stop (sets.first + sets.count));
      goes = goes_join told plan size at end old page new far.goes goes;
      scans = scans_on told plan old.tested page.tested new.tested 0 b c a start mid now far.goes.forward goes.forward far.scans scans;
    }
  where
    either : (stop < sets.first + sets.count) ⊎ (sets.first + sets.count ≤ stop) → (end ≡ stop) ⊎ Ahead plan end later
    either (inl less) = inl (omega arith)
    either (inr up_to) = inr (let P : ℕ → Type 0 = λ n. Ahead plan n later in subst P (let e : sets.first + sets.count ≡ end = omega arith in e) next.ahead)

-- the page of a range that fills it
page_full : (told : Option (List (List ℕ))) (plan : Plan) (from stop size span next : ℕ) (lines : List Line) → stop ≡ stop_of (total_of plan) from span → FillsPage told plan from stop size next [] lines →
    IfSome told (λ bytes. IsPage (passes_at bytes plan) (total_of plan) from size span (map (λ (held : Line). held.rank) lines) next)
page_full None plan from stop size span next lines is fills = tt
page_full (Some bytes) plan from stop size span next lines is fills =
    let p = passes_at bytes plan in
    let forward : from < next = fills.forward in
    let within : next ≤ stop = fills.within in
    let back : next - 1 + 1 ≡ next = omega arith in
    let P : ℕ → Type 0 = λ n. IsPage (passes_at bytes plan) (total_of plan) from size span (map (λ (held : Line). held.rank) lines) n in
    subst P back
    (full p (total_of plan) from size span (next - 1) (map (λ (held : Line). held.rank) lines) (omega arith) (omega arith)
    (fills.adds.lines ∙ ap (passing p from) (sym back) ∙ passes_more p from (next - 1) (omega arith) fills.last)
    fills.last
    (length-map lines (λ (held : Line). held.rank) ∙ fills.many))

-- the page of a range that does not
page_short : (told : Option (List (List ℕ))) (plan : Plan) (from stop size span : ℕ) (lines : List Line) → stop ≡ stop_of (total_of plan) from span → AddsAll told plan from stop size [] lines →
    IfSome told (λ bytes. IsPage (passes_at bytes plan) (total_of plan) from size span (map (λ (held : Line). held.rank) lines) stop)
page_short None plan from stop size span lines is adds = tt
page_short (Some bytes) plan from stop size span lines is adds =
    let P : ℕ → Type 0 = λ n. IsPage (passes_at bytes plan) (total_of plan) from size span (map (λ (held : Line). held.rank) lines) n in
    let few : length lines < size = adds.few in
    subst P (sym is)
    (short (passes_at bytes plan) (total_of plan) from size span (map (λ (held : Line). held.rank) lines) (adds.adds.lines ∙ ap (passing (passes_at bytes plan) from) is)
    (let same = length-map lines (λ (held : Line). held.rank) in omega arith))

-- a page that is whole
pub record IsWhole (told : Option (List (List ℕ))) (plan : Plan) (from size span : ℕ) (lines : List Line) (next : ℕ) : Type 0 where
  pub page : IfSome told (λ bytes. IsPage (passes_at bytes plan) (total_of plan) from size span (map (λ (held : Line). held.rank) lines) next)
  pub sets : All (HoldsSet plan) lines
  pub forward : from ≤ next
  pub within : next ≤ stop_of (total_of plan) from span
  pub ended : EndsOrFull size from (stop_of (total_of plan) from span) (length lines) next

-- a page that was made, full or not
whole : (told : Option (List (List ℕ))) (plan : Plan) (from stop size span next : ℕ) (lines : List Line) → from ≤ stop → stop ≡ stop_of (total_of plan) from span →
    ((next ≡ stop) × AddsAll told plan from stop size [] lines) ⊎ FillsPage told plan from stop size next [] lines → IsWhole told plan from size span lines next
whole told plan from stop size span next lines range is (inl (end, adds)) =
    let P : ℕ → Type 0 = λ n. IfSome told (λ bytes. IsPage (passes_at bytes plan) (total_of plan) from size span (map (λ (held : Line). held.rank) lines) n) in
    record {
      page = subst P (sym end) (page_short told plan from stop size span lines is adds);
      sets = adds.adds.sets (All-nil (HoldsSet plan));
      forward = omega arith;
      within = omega arith;
      ended = inl (end ∙ is, adds.few);
    }
whole told plan from stop size span next lines range is (inr fills) =
    let forward : from < next = fills.forward in
    let within : next ≤ stop = fills.within in
    record {
      page = page_full told plan from stop size span next lines is fills;
      sets = fills.adds.sets (All-nil (HoldsSet plan));
      forward = omega arith;
      within = omega arith;
      ended = inr (forward, fills.many);
    }

-- a rank of a plan of images with a common offset passes as the one of the product does
pub passes_are : (images : List (List ℕ)) (plan : Plan) → plan.each ≡ false → passes_at images plan ≡ wide_passes_at images plan
unfolding passes_at wide_passes_at
passes_are images plan each = λ i rank. at rank i
  where
    with_none : Geometry → Based
    with_none geo = (geo, [])

    over : (found : Option Geometry) → option_map_or (passes images plan) found false ≡ option_map_or (wide_passes images plan) (option_map with_none found) false
    over None = refl
    over (Some geo) = refl

    at : (rank : ℕ) → option_map_or (passes images plan) (slice_get (sets_of plan) rank) false ≡ option_map_or (wide_passes images plan) (slice_get (wide_sets plan) rank) false
    at rank =
        over (slice_get (sets_of plan) rank)
        ∙ ap (λ (o : Option Based). option_map_or (wide_passes images plan) o false) (sym (ap (λ (l : List Based). slice_get l rank) (common_are plan each) ∙ get-map with_none (sets_of plan) rank))

-- a page that is whole, with its sets
pub page_from : (told : Option (List (List ℕ))) (plan : Plan) (from size span : ℕ) (page : ListPage) → plan.each ≡ false → IsWhole told plan from size span page.lines page.next → page.total ≡ wide_total plan → IsPageFrom told plan from size span page
page_from told plan from size span page each whole total =
    let same = common_total plan each in
    record {
      page = of_told told whole.page;
      sets = All-weaker (HoldsSet plan) (HoldsBased plan) (λ held holds. common_set plan held.rank held.geo.geo held.geo.bases.items each holds.0 holds.1) page.lines whole.sets;
      total = total;
      forward = whole.forward;
      within = subst (λ (t : ℕ). page.next ≤ stop_of t from span) (sym same) whole.within;
    }
  where
    of_told : (known : Option (List (List ℕ))) → IfSome known (λ bytes. IsPage (passes_at bytes plan) (total_of plan) from size span (ranks_of page.lines) page.next) → IfSome known (λ bytes. IsPageOf bytes plan from size span page)
    of_told None is = tt
    of_told (Some bytes) is =
        let P : (ℕ → Bool) → Type 0 = λ p. IsPage p (total_of plan) from size span (ranks_of page.lines) page.next in
        let Q : ℕ → Type 0 = λ t. IsPage (wide_passes_at bytes plan) t from size span (ranks_of page.lines) page.next in
        subst Q (sym (common_total plan each)) (subst P (passes_are bytes plan each) is)

-- the page of lines of which none was there before
pub finished : (told : Option (List (List ℕ))) (plan : Plan) (from stop size span next : ℕ) (old new : Gathered) → old.lines ≡ [] → old.tested ≡ from → from ≤ stop → stop ≡ stop_of (total_of plan) from span →
    Finishes told plan size stop old new next → IsWhole told plan from size span new.lines next
finished told plan from stop size span next old new none tested range is finishes =
    let P : List Line → Type 0 = λ l. ((next ≡ stop) × AddsAll told plan old.tested stop size l new.lines) ⊎ FillsPage told plan old.tested stop size next l new.lines in
    let Q : ℕ → Type 0 = λ n. ((next ≡ stop) × AddsAll told plan n stop size [] new.lines) ⊎ FillsPage told plan n stop size next [] new.lines in
    whole told plan from stop size span next new.lines range is (subst Q tested (subst P none finishes))

-- a page that was full before the end of its range
pub whole_full : (attached : List Image) (plan : Plan) (from stop size span next : ℕ) (old new : Gathered) (met : Option ℕ) → old.lines ≡ [] → old.tested ≡ from → from ≤ stop → stop ≡ stop_of (total_of plan) from span → met ≡ Some next →
    Gathers (told_all attached) plan size stop old new met → IsWhole (told_all attached) plan from size span new.lines next
whole_full attached plan from stop size span next old new met none tested range is e gathers =
    finished (told_all attached) plan from stop size span next old new none tested range is (inr (gathers_full attached attached plan size stop next old new met refl e gathers))

-- and one of which those that waited were tested there
pub whole_tested : (attached other : List Image) (plan : Plan) (from stop size span next : ℕ) (old mid new : Gathered) (met : Option ℕ) → other ≡ attached → old.lines ≡ [] → old.tested ≡ from → from ≤ stop → stop ≡ stop_of (total_of plan) from span → met ≡ None →
    Gathers (told_all attached) plan size stop old mid met → Finishes (told_all other) plan size stop mid new next → IsWhole (told_all attached) plan from size span new.lines next
whole_tested attached other plan from stop size span next old mid new met same none tested range is e gathers finishes =
    let P : List Image → Type 0 = λ images. Finishes (told_all images) plan size stop mid new next in
    finished (told_all attached) plan from stop size span next old new none tested range is
    (finishes_on (told_all attached) plan size stop next old mid new (gathers_all attached attached plan size stop old mid met refl e gathers) (subst P same finishes))

-- what is read for it
pub reads_tested : (attached other : List Image) (plan : Plan) (size stop next b : ℕ) (kept : List OffsetTables) (start mid now : Seen) (old page new : Gathered) (met : Option ℕ) (r : Result ℕ WalkFault) → other ≡ attached → met ≡ None → r ≡ Ok next →
    Gathers (told_all attached) plan size stop old page met → ReadsRange (told_all attached) plan old.tested (tested_by stop page (let f : Result (Option ℕ) WalkFault = Ok met in f)) (spared_by (let f : Result (Option ℕ) WalkFault = Ok met in f)) b (left_reads plan kept) start mid →
    IfOk r (Finishes (told_all other) plan size stop page new) → ReadsRange (told_all other) plan page.tested (ended_at stop r) 4095 0 0 mid now → ReadsRange (told_all attached) plan old.tested next 4095 b (left_reads plan kept) start now
reads_tested attached other plan size stop next b kept start mid now old page new met r same e is gathers first finishes second =
    let P : Result ℕ WalkFault → Type 0 = λ s. ReadsRange (told_all attached) plan old.tested (ended_at stop s) 4095 b (left_after plan kept s) start now in
    subst P is
    (scans_finish attached other plan size stop b kept start mid now old page new r same (gathers_all attached attached plan size stop old page met refl e gathers) finishes
    (reads_all attached attached plan old.tested stop b (left_reads plan kept) page met start mid refl e first) second)

-- and where it could not be
pub reads_untested : (attached other : List Image) (plan : Plan) (size stop b : ℕ) (kept : List OffsetTables) (start mid now : Seen) (old page new : Gathered) (met : Option ℕ) (r : Result ℕ WalkFault) → other ≡ attached → met ≡ None → IsErr r →
    Gathers (told_all attached) plan size stop old page met → ReadsRange (told_all attached) plan old.tested (tested_by stop page (let f : Result (Option ℕ) WalkFault = Ok met in f)) (spared_by (let f : Result (Option ℕ) WalkFault = Ok met in f)) b (left_reads plan kept) start mid →
    IfOk r (Finishes (told_all other) plan size stop page new) → ReadsRange (told_all other) plan page.tested (ended_at stop r) 4095 0 0 mid now → ReadsRange (told_all attached) plan old.tested stop 4095 b 0 start now
reads_untested attached other plan size stop b kept start mid now old page new met (Ok next) same e fails gathers first finishes second = absurd (cc)
reads_untested attached other plan size stop b kept start mid now old page new met (Err fault) same e fails gathers first finishes second =
    scans_finish attached other plan size stop b kept start mid now old page new (let f : Result ℕ WalkFault = Err fault in f) same (gathers_all attached attached plan size stop old page met refl e gathers) finishes
    (reads_all attached attached plan old.tested stop b (left_reads plan kept) page met start mid refl e first) second

-- where there is no page, sets may be tested up to the end of the range
pub tested_err : (stop : ℕ) (r : Result ListPage PageFault) → IsErr r → tested_to stop r ≡ stop
tested_err stop (Ok page) e = absurd (cc)
tested_err stop (Err fault) e = refl
