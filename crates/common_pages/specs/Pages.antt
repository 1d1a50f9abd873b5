-- Pages of the parameter sets of a plan that pass, also where each image has an offset of its own; and what is read for them where
-- the images have a common offset.
use Rattle.std.specs.Prelude.{ℕ, zero, suc, ◌≡◌, ◌+◌, ◌≤◌, ◌<◌, ◌^◌, ◌*◌, ◌/◌, ◌⊎◌, min, Bool, true, Result, Ok, Err, IfSome, List, [], ◌∷◌, map, slice_get, sum_by, All}
use Rattle.std.specs.declared.option.Option.{Option}
use Rattle.std.specs.declared.option.Option.TheVariants.{Some}
use Rattle.outside.specs.Causes.{Rose}
use Rattle.outside.specs.Seen.{OnlyReads, Seen}
use Rattle.search_terms.specs.Page.{page_next, stop_of, IsPage}
use Rattle.search_plan.specs.declared.plan.Plan.{Plan}
use Rattle.common_pages.specs.declared.page_parts.ListPage.{ListPage}
use Rattle.common_pages.specs.declared.page_parts.PageFault.{PageFault}
use Rattle.common_pages.specs.declared.page_parts.PageFault.TheVariants.{Many, Cursor, ReadFault, Memory}
use Rattle.head_walk.specs.Counts.{hopeful_ranks, most_scanned, offset_reads, open_ranks}
use Rattle.head_walk.specs.declared.parts.Line.{Line}
use Rattle.head_walk.specs.declared.parts.WalkFault.{WalkFault}
use Rattle.head_walk.specs.declared.parts.WalkFault.TheVariants.{ReadFault as WalkReadFault, Memory as WalkMemory}
use Rattle.wide_product.specs.Sets.{based, wide_passes_at, wide_sets, wide_total}

-- the line holds the set of its rank, with its bases
abbrev pub HoldsBased : Plan → Line → Type 0
HoldsBased plan held = slice_get (wide_sets plan) held.rank ≡ Some (based held.geo)

-- the ranks of lines
abbrev pub ranks_of : List Line → List ℕ
ranks_of lines = map (λ held. held.rank) lines

-- the page from a rank on: its ranks, and where the next one begins, over the bytes of the images
abbrev pub IsPageOf : List (List ℕ) → Plan → ℕ → ℕ → ℕ → ListPage → Type 0
IsPageOf images plan from size span page = IsPage (wide_passes_at images plan) (wide_total plan) from size span (ranks_of page.lines) page.next

-- where a page of so many lines ends: at the end of its range, and it is not full; or it is full, and has a rank at least
abbrev pub EndsOrFull : ℕ → ℕ → ℕ → ℕ → ℕ → Type 0
EndsOrFull size from stop lines next = ((next ≡ stop) × (lines < size)) ⊎ ((from < next) × (lines ≡ size))

-- a page from a rank on, with its sets, over the bytes of the images where they are known
pub record IsPageFrom (told : Option (List (List ℕ))) (plan : Plan) (from size span : ℕ) (found : ListPage) : Type 0 where
  pub page : IfSome told (λ bytes. IsPageOf bytes plan from size span found)
  pub sets : All (HoldsBased plan) found.lines
  pub total : found.total ≡ wide_total plan
  pub forward : from ≤ found.next
  pub within : found.next ≤ stop_of (wide_total plan) from span

-- `count` pages, each where the last one goes on, or fewer where one goes on at the total: no page comes after it
unfoldable pub ArePagesFrom : Option (List (List ℕ)) → Plan → ℕ → ℕ → ℕ → ℕ → List ListPage → Type 0
ArePagesFrom told plan size span zero from pages = pages ≡ []
ArePagesFrom told plan size span (suc count) from [] = ⊥
ArePagesFrom told plan size span (suc count) from (page ∷ pages) =
    IsPageFrom told plan from size span page
    × (((page.next ≡ wide_total plan) × (pages ≡ [])) ⊎ ((page.next < wide_total plan) × ArePagesFrom told plan size span count page.next pages))

-- why there is no page, where a walk over a head ended so
abbrev pub page_fault : WalkFault → PageFault
page_fault WalkReadFault = ReadFault
page_fault WalkMemory = Memory

-- why there is no page: there are too many sets, or the first rank is past the total, and nothing was touched; the
-- images failed; or memory ran out, and no fault was counted
abbrev pub EndsPage : Plan → ℕ → Seen → Seen → PageFault → Type 0
EndsPage plan from old new Many = (2 ^ 64 ≤ wide_total plan) × (new ≡ old)
EndsPage plan from old new (Cursor fault) = (wide_total plan < from) × (fault ≡ record { from = from; total = wide_total plan }) × (new ≡ old)
EndsPage plan from old new ReadFault = Rose old.faults new.faults
EndsPage plan from old new Memory = new.faults ≡ old.faults

-- how many scans they take: one for each 4,096 hopeful sets, and for what is left of them, but no more than there
-- are sets of which rows have to be tested
unfoldable pub scans : Option (List (List ℕ)) → Plan → ℕ → ℕ → ℕ
scans told plan from to = min (open_ranks told plan from to) ((hopeful_ranks told plan from to + 4095) / 4096)

-- for the tables and samples of all offsets
unfoldable pub table_reads : Plan → ℕ
table_reads plan = sum_by (offset_reads plan) plan.bounds.offsets.items

-- the most sectors that are read for a page whose ranks are those from one up to another: for the tables, and for its scans
unfoldable pub page_reads : Option (List (List ℕ)) → Plan → ℕ → ℕ → ℕ
page_reads told plan from to = table_reads plan + scans told plan from to * most_scanned plan

-- the rank up to which sets are tested: where the next page begins, or, where there is no page, the end of the range
abbrev pub tested_to : ℕ → Result ListPage PageFault → ℕ
tested_to stop (Ok page) = page.next
tested_to stop (Err fault) = stop

-- where a page from a rank on ends: where the next one begins, over the bytes of the images where they are known. Where
-- pages failed, the last is the one that could not be made, and ends with its range
abbrev pub IsPageEnd : Option (List (List ℕ)) → Plan → ℕ → ℕ → Bool → ℕ → ℕ → List ℕ → Type 0
IsPageEnd told plan size span failed from end later =
    ((failed ≡ true) × (end ≡ stop_of (wide_total plan) from span) × (later ≡ []))
    ⊎ ((from ≤ end) × (end ≤ stop_of (wide_total plan) from span) × IfSome told (λ bytes. end ≡ page_next (wide_passes_at bytes plan) (wide_total plan) from size span))

-- where pages end, of which there are at most `count`, each where the last one ended
unfoldable pub ArePageEnds : Option (List (List ℕ)) → Plan → ℕ → ℕ → Bool → ℕ → ℕ → List ℕ → Type 0
ArePageEnds told plan size span failed count from [] = Unit {0}
ArePageEnds told plan size span failed zero from (end ∷ later) = ⊥
ArePageEnds told plan size span failed (suc count) from (end ∷ later) = IsPageEnd told plan size span failed from end later × ArePageEnds told plan size span failed count end later

-- how many scans pages take that end at these ranks
unfoldable pub scans_to : Option (List (List ℕ)) → Plan → ℕ → List ℕ → ℕ
scans_to told plan from [] = 0
scans_to told plan from (end ∷ later) = scans told plan from end + scans_to told plan end later

-- what is read for pages: for the tables, once for all of them, and for the scans of each
pub record ReadsPages (told : Option (List (List ℕ))) (plan : Plan) (size span : ℕ) (failed : Bool) (count from : ℕ) (old new : Seen) : Type 0 where
  pub ends : List ℕ
  pub are : ArePageEnds told plan size span failed count from ends
  pub reads : OnlyReads old new (table_reads plan + scans_to told plan from ends * most_scanned plan)
