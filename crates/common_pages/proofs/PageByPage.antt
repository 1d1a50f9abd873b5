-- Pages made one after another.
use Rattle.std.proofs.Common.{ℕ, zero, suc, ◌≡◌, ◌≢◌, ◌<◌, ◌≤◌, ◌+◌, ◌*◌, ◌^◌, ◌⊎◌, inl, inr, List, [], ◌∷◌, ◌++◌, length, map, refl, sym, ap, ◌∙◌, subst, arith, Option, Some, None, IfSome, Result, IsErrOf, Bool, true, Ok}
use Rattle.std.proofs.Math.Nat.{add-mul, mul-le-mul_right}
use Rattle.std.proofs.lemmas.Bool.{cases_lt}
use Rattle.std.proofs.lemmas.List.{map-append}
use Rattle.outside.proofs.Reading.{reads_up}
use Rattle.outside.specs.Seen.{Seen}
use Rattle.search_terms.specs.Page.{page_next, stop_of}
use Rattle.wide_product.specs.Sets.{wide_passes_at, wide_total}
use Rattle.search_plan.specs.declared.plan.Plan.{Plan}
use Rattle.common_pages.specs.Pages.{ArePageEnds, ArePagesFrom, IsPageEnd, IsPageFrom, IsPageOf, ReadsPages, scans, scans_to, table_reads}
use Rattle.head_walk.specs.Counts.{most_scanned}
use Rattle.head_walk.specs.Walk.{ReadsRange, Spends}
use Rattle.common_pages.specs.declared.page_parts.ListPage.{ListPage}
use Rattle.common_pages.specs.declared.page_parts.PageFault.{PageFault}
use Rattle.common_pages.proofs.PageReads.{within_scans}
use Rattle.head_walk.proofs.Scanned.{spends_join, spends_none, spends_up}

-- pages from one rank to another, each where the last one goes on, of which none goes on at the total
unfoldable pub Going : Option (List (List ℕ)) → Plan → ℕ → ℕ → ℕ → ℕ → List ListPage → Type 0
Going told plan size span from to [] = from ≡ to
Going told plan size span from to (page ∷ pages) = IsPageFrom told plan from size span page × (page.next < wide_total plan) × Going told plan size span page.next to pages

-- no page yet
pub none_made : (told : Option (List (List ℕ))) (plan : Plan) (size span from : ℕ) → Going told plan size span from from []
unfolding Going
none_made told plan size span from = refl

-- one page more
pub one_more : (told : Option (List (List ℕ))) (plan : Plan) (size span from mid : ℕ) (pages : List ListPage) (page : ListPage) → Going told plan size span from mid pages → IsPageFrom told plan mid size span page →
    page.next < wide_total plan → Going told plan size span from page.next (pages ++ page ∷ [])
unfolding Going
one_more told plan size span from mid [] page going is_page below = ((let P : ℕ → Type 0 = λ n. IsPageFrom told plan n size span page in subst P (sym going) is_page), below, refl)
one_more told plan size span from mid (first ∷ pages) page going is_page below = (going.0, going.1, one_more told plan size span first.next mid pages page going.2 is_page below)

-- the last page
pub the_last : (told : Option (List (List ℕ))) (plan : Plan) (size span count from mid : ℕ) (pages : List ListPage) (page : ListPage) → Going told plan size span from mid pages → IsPageFrom told plan mid size span page →
    page.next ≡ wide_total plan → length pages < count → ArePagesFrom told plan size span count from (pages ++ page ∷ [])
unfolding Going ArePagesFrom
the_last told plan size span zero from mid pages page going is_page at few = absurd (omega arith)
the_last told plan size span (suc count) from mid [] page going is_page at few = ((let P : ℕ → Type 0 = λ n. IsPageFrom told plan n size span page in subst P (sym going) is_page), inl (at, refl))
the_last told plan size span (suc count) from mid (first ∷ pages) page going is_page at few = (going.0, inr (going.1, the_last told plan size span count first.next mid pages page going.2 is_page at (omega arith)))

-- `count` pages
pub all_made : (told : Option (List (List ℕ))) (plan : Plan) (size span count from to : ℕ) (pages : List ListPage) → Going told plan size span from to pages → length pages ≡ count → ArePagesFrom told plan size span count from pages
unfolding Going ArePagesFrom
all_made told plan size span zero from to [] going many = refl
all_made told plan size span zero from to (page ∷ pages) going many = absurd (omega arith)
all_made told plan size span (suc count) from to [] going many = absurd (omega arith)
all_made told plan size span (suc count) from to (page ∷ pages) going many = (going.0, inr (going.1, all_made told plan size span count page.next to pages going.2 (omega arith)))

-- nothing was done yet, or the pages made say that the total is small and not passed
abbrev pub Begun : Plan → ℕ → ℕ → ℕ → Seen → Seen → Type 0
Begun plan from made at old now = ((made ≡ 0) × (at ≡ from) × (now ≡ old)) ⊎ ((1 ≤ made) × (at ≤ wide_total plan) × (wide_total plan < 2 ^ 64))

-- a page that does not go on at the total goes on before it
pub below_total : (next total all span at : ℕ) → next ≢ total → total ≡ all → next ≤ stop_of all at span → next < all
below_total next total all span at other same within = elim (cases_lt next all) [
  | inl below ↦ below
  | inr above ↦ absurd (other (let e : next ≡ total = omega arith in e))
]

-- a page is no fault
pub not_an_error : (page : ListPage) (fault : PageFault) → IsErrOf (let r : Result ListPage PageFault = Ok page in r) fault → ⊥
not_an_error page fault e = cc

-- where pages end
abbrev pub ends_of : List ListPage → List ℕ
ends_of pages = map (λ (page : ListPage). page.next) pages

-- a page that was made
pub made_end : (told : Option (List (List ℕ))) (plan : Plan) (size span : ℕ) (failed : Bool) (from : ℕ) (page : ListPage) (later : List ℕ) → IsPageFrom told plan from size span page → IsPageEnd told plan size span failed from page.next later
made_end told plan size span failed from page later is_page = inr (is_page.forward, is_page.within, at told is_page.page)
  where
    at : (known : Option (List (List ℕ))) → IfSome known (λ bytes. IsPageOf bytes plan from size span page) → IfSome known (λ bytes. page.next ≡ page_next (wide_passes_at bytes plan) (wide_total plan) from size span)
    at None is = tt
    at (Some bytes) is = is.goes_on

-- pages, and one more end
pub ends_more : (told : Option (List (List ℕ))) (plan : Plan) (size span : ℕ) (failed : Bool) (count from mid end : ℕ) (pages : List ListPage) → Going told plan size span from mid pages → IsPageEnd told plan size span failed mid end [] → length pages < count →
    ArePageEnds told plan size span failed count from (ends_of pages ++ end ∷ [])
unfolding Going ArePageEnds
ends_more told plan size span failed zero from mid end pages going is few = absurd (omega arith)
ends_more told plan size span failed (suc count) from mid end [] going is few = ((let P : ℕ → Type 0 = λ n. IsPageEnd told plan size span failed n end [] in subst P (sym going) is), tt)
ends_more told plan size span failed (suc count) from mid end (page ∷ pages) going is few =
    (made_end told plan size span failed from page (ends_of pages ++ end ∷ []) going.0, ends_more told plan size span failed count page.next mid end pages going.2 is (omega arith))

-- pages alone
pub ends_all : (told : Option (List (List ℕ))) (plan : Plan) (size span : ℕ) (failed : Bool) (count from to : ℕ) (pages : List ListPage) → Going told plan size span from to pages → length pages ≤ count → ArePageEnds told plan size span failed count from (ends_of pages)
unfolding Going ArePageEnds
ends_all told plan size span failed count from to [] going few = tt
ends_all told plan size span failed zero from to (page ∷ pages) going few = absurd (omega arith)
ends_all told plan size span failed (suc count) from to (page ∷ pages) going few = (made_end told plan size span failed from page (ends_of pages) going.0, ends_all told plan size span failed count page.next to pages going.2 (omega arith))

-- the scans with one more end
scans_more : (told : Option (List (List ℕ))) (plan : Plan) (size span from mid end : ℕ) (pages : List ListPage) → Going told plan size span from mid pages →
    scans_to told plan from (ends_of pages ++ end ∷ []) ≡ scans_to told plan from (ends_of pages) + scans told plan mid end
unfolding Going scans_to
scans_more told plan size span from mid end [] going = (let e : scans told plan from end + 0 ≡ 0 + scans told plan from end = omega arith in e) ∙ ap (λ (n : ℕ). 0 + scans told plan n end) going
scans_more told plan size span from mid end (page ∷ pages) going = let rest = scans_more told plan size span page.next mid end pages going.2 in omega arith

-- no page
pub spends_first : (told : Option (List (List ℕ))) (plan : Plan) (from b : ℕ) (s : Seen) → Spends b b s s (scans_to told plan from (ends_of []) * most_scanned plan)
spends_first told plan from b s = spends_none b (scans_to told plan from (ends_of []) * most_scanned plan) s

-- what the pages made spend, and one more, which was made or not
pub spends_more : (told : Option (List (List ℕ))) (plan : Plan) (size span from mid end b c a : ℕ) (pages : List ListPage) (old now new : Seen) → Going told plan size span from mid pages →
    Spends b c old now (scans_to told plan from (ends_of pages) * most_scanned plan) → ReadsRange told plan mid end 4095 c a now new → Spends b a old new (scans_to told plan from (ends_of pages ++ end ∷ []) * most_scanned plan)
spends_more told plan size span from mid end b c a pages old now new going first second =
    let few : second.count * most_scanned plan ≤ scans told plan mid end * most_scanned plan = mul-le-mul_right (most_scanned plan) (within_scans told plan mid end second.count second.few) in
    let all : scans_to told plan from (ends_of pages ++ end ∷ []) * most_scanned plan ≡ scans_to told plan from (ends_of pages) * most_scanned plan + scans told plan mid end * most_scanned plan
    = ap (λ (n : ℕ). n * most_scanned plan) (scans_more told plan size span from mid end pages going) ∙ add-mul (scans_to told plan from (ends_of pages)) (scans told plan mid end) (most_scanned plan) in
    spends_up b a (scans_to told plan from (ends_of pages) * most_scanned plan + second.count * most_scanned plan) (scans_to told plan from (ends_of pages ++ end ∷ []) * most_scanned plan) old new
    (spends_join b c a (scans_to told plan from (ends_of pages) * most_scanned plan) (second.count * most_scanned plan) old now new first second.spends) (omega arith)

-- where pages end, with one more
pub ends_with : (pages : List ListPage) (page : ListPage) → ends_of (pages ++ page ∷ []) ≡ ends_of pages ++ page.next ∷ []
ends_with pages page = map-append (λ (one : ListPage). one.next) pages (page ∷ [])

-- what all of them read
reads_of : (told : Option (List (List ℕ))) (plan : Plan) (size span : ℕ) (failed : Bool) (count from b a : ℕ) (ends : List ℕ) (old new : Seen) → b ≤ table_reads plan → ArePageEnds told plan size span failed count from ends →
    Spends b a old new (scans_to told plan from ends * most_scanned plan) → ReadsPages told plan size span failed count from old new
reads_of told plan size span failed count from b a ends old new most are spends = record { ends = ends; are = are; reads = reads_up old new spends.reads (omega arith) }

-- the pages made
pub reads_made : (told : Option (List (List ℕ))) (plan : Plan) (size span : ℕ) (failed : Bool) (count from to b a : ℕ) (pages : List ListPage) (old new : Seen) → b ≤ table_reads plan → Going told plan size span from to pages → length pages ≤ count →
    Spends b a old new (scans_to told plan from (ends_of pages) * most_scanned plan) → ReadsPages told plan size span failed count from old new
reads_made told plan size span failed count from to b a pages old new most going few spends =
    reads_of told plan size span failed count from b a (ends_of pages) old new most (ends_all told plan size span failed count from to pages going few) spends

-- those and one more
pub reads_more : (told : Option (List (List ℕ))) (plan : Plan) (size span : ℕ) (failed : Bool) (count from mid b c a : ℕ) (pages : List ListPage) (page : ListPage) (old now new : Seen) → b ≤ table_reads plan → Going told plan size span from mid pages → length pages < count →
    IsPageFrom told plan mid size span page → Spends b c old now (scans_to told plan from (ends_of pages) * most_scanned plan) → ReadsRange told plan mid page.next 4095 c a now new → ReadsPages told plan size span failed count from old new
reads_more told plan size span failed count from mid b c a pages page old now new most going few is_page first second =
    reads_of told plan size span failed count from b a (ends_of pages ++ page.next ∷ []) old new most (ends_more told plan size span failed count from mid page.next pages going (made_end told plan size span failed mid page [] is_page) few)
    (spends_more told plan size span from mid page.next b c a pages old now new going first second)

-- and one that could not be made
pub reads_ended : (told : Option (List (List ℕ))) (plan : Plan) (size span : ℕ) (failed : Bool) (count from mid b c a : ℕ) (pages : List ListPage) (old now new : Seen) → b ≤ table_reads plan → Going told plan size span from mid pages → length pages < count → failed ≡ true →
    Spends b c old now (scans_to told plan from (ends_of pages) * most_scanned plan) → ReadsRange told plan mid (stop_of (wide_total plan) mid span) 4095 c a now new → ReadsPages told plan size span failed count from old new
reads_ended told plan size span failed count from mid b c a pages old now new most going few fails first second =
    reads_of told plan size span failed count from b a (ends_of pages ++ stop_of (wide_total plan) mid span ∷ []) old new most
    (ends_more told plan size span failed count from mid (stop_of (wide_total plan) mid span) pages going (inl (fails, refl, refl)) few)
    (spends_more told plan size span from mid (stop_of (wide_total plan) mid span) b c a pages old now new going first second)
