-- Pages made one after another.
use Rattle.std.proofs.Common.{rules, ℕ, true, false, ◌≡◌, ◌<◌, ◌≤◌, ◌+◌, ◌*◌, ◌^◌, inl, inr, Bool, cond, List, [], ◌∷◌, ◌++◌, length, refl, sym, ap, ◌∙◌, subst, arith, Option, Result, IsErrAnd, IsErrOf, Ok, Err}
use Rattle.std.specs.Result.{is_err}
use Rattle.std.proofs.lemmas.Bool.{cases_lt}
use Rattle.outside.proofs.Reading.{reads_join, reads_none, reads_up}
use Rattle.outside.specs.Attached.{told_all}
use Rattle.outside.specs.Causes.{Rose}
use Rattle.outside.specs.Seen.{Image, OnlyReads, Seen}
use Rattle.head_walk.specs.Counts.{most_scanned}
use Rattle.common_pages.proofs.PageByPage.{Begun, ends_all, ends_more, ends_of, Going, made_end, not_an_error}
use Rattle.common_pages.specs.Pages.{ArePageEnds, ArePagesFrom, EndsPage, IsPageFrom, ReadsPages, scans_to, table_reads}
use Rattle.search_terms.specs.Page.{stop_of}
use Rattle.search_plan.specs.declared.plan.Plan.{Plan}
use Rattle.common_pages.specs.declared.page_parts.CursorFault.{CursorFault}
use Rattle.common_pages.specs.declared.page_parts.ListPage.{ListPage}
use Rattle.common_pages.specs.declared.page_parts.PageFault.{PageFault}
use Rattle.common_pages.specs.declared.page_parts.PageFault.TheVariants.{Many, Cursor, ReadFault, Memory}
use Rattle.wide_product.specs.Sets.{wide_total}
use Rattle.page_engine.specs.Reads.{ReadsWide, based_reads, based_to, wide_reads, wide_reads_to}
use Rattle.page_engine.proofs.RangeReads.{wide_based}
use Rattle.page_engine.specs.Pages.{GivesPage, GivesPages}
use Rattle.page_engine.specs.Parts.{EndsPart}

-- an error of one kind of call is that of another
pub same_fault : {T : Type 0} (fault other : PageFault) → IsErrOf (let r : Result T PageFault = Err fault in r) other → fault ≡ other
same_fault {T} fault other e = search rules

-- what is read with one more end
based_more : (told : Option (List (List ℕ))) (plan : Plan) (size span from mid end : ℕ) (pages : List ListPage) → Going told plan size span from mid pages →
    based_to told plan from (ends_of pages ++ end ∷ []) ≡ based_to told plan from (ends_of pages) + based_reads told plan mid end
unfolding Going based_to
based_more told plan size span from mid end [] going = (let e : based_reads told plan from end + 0 ≡ 0 + based_reads told plan from end = omega arith in e) ∙ ap (λ (n : ℕ). 0 + based_reads told plan n end) going
based_more told plan size span from mid end (page ∷ pages) going = let rest = based_more told plan size span page.next mid end pages going.2 in omega arith

-- no page
pub reads_first : (told : Option (List (List ℕ))) (plan : Plan) (from : ℕ) (seen : Seen) → OnlyReads seen seen (based_to told plan from (ends_of []))
unfolding based_to
reads_first told plan from seen = reads_none seen

-- what the pages made read, and one more, which was made or not
pub reads_more : (first then : List Image) (plan : Plan) (size span from mid end : ℕ) (pages : List ListPage) (old now new : Seen) → plan.each ≡ true → then ≡ first → Going (told_all first) plan size span from mid pages →
    OnlyReads old now (based_to (told_all first) plan from (ends_of pages)) → OnlyReads now new (wide_reads (told_all then) plan mid end) → OnlyReads old new (based_to (told_all first) plan from (ends_of pages ++ end ∷ []))
reads_more first then plan size span from mid end pages old now new each same going before more =
    let P : List Image → Type 0 = λ attached. OnlyReads now new (wide_reads (told_all attached) plan mid end) in
    let one = wide_based (told_all first) plan mid end each in
    let sum = based_more (told_all first) plan size span from mid end pages going in
    reads_up old new (reads_join old now new before (subst P same more)) (omega arith)

-- what all of them read
wide_to : (told : Option (List (List ℕ))) (plan : Plan) (from : ℕ) (ends : List ℕ) → plan.each ≡ true → wide_reads_to told plan from ends ≡ based_to told plan from ends
unfolding wide_reads_to
wide_to told plan from ends each = ap (λ (b : Bool). cond b (based_to told plan from ends) (table_reads plan + scans_to told plan from ends * most_scanned plan)) each

reads_of : (told : Option (List (List ℕ))) (plan : Plan) (size span : ℕ) (failed : Bool) (count from : ℕ) (ends : List ℕ) (old new : Seen) → plan.each ≡ true → ArePageEnds told plan size span failed count from ends → OnlyReads old new (based_to told plan from ends) →
    ReadsWide told plan size span failed count from old new
reads_of told plan size span failed count from ends old new each are reads =
    let P : ℕ → Type 0 = λ n. OnlyReads old new n in
    record { ends = ends; are = are; reads = subst P (sym (wide_to told plan from ends each)) reads }

-- what pages read where the images have a common offset
pub wide_pages : (told : Option (List (List ℕ))) (plan : Plan) (size span : ℕ) (failed : Bool) (count from : ℕ) (old new : Seen) → plan.each ≡ false → ReadsPages told plan size span failed count from old new → ReadsWide told plan size span failed count from old new
unfolding wide_reads_to
wide_pages told plan size span failed count from old new each reads =
    let P : ℕ → Type 0 = λ n. OnlyReads old new n in
    let most = table_reads plan + scans_to told plan from reads.ends * most_scanned plan in
    record { ends = reads.ends; are = reads.are; reads = subst P (sym (ap (λ (b : Bool). cond b (based_to told plan from reads.ends) most) each)) reads.reads }

-- the pages made
pub wide_made : (told : Option (List (List ℕ))) (plan : Plan) (size span : ℕ) (failed : Bool) (count from to : ℕ) (pages : List ListPage) (old new : Seen) → plan.each ≡ true → Going told plan size span from to pages → length pages ≤ count →
    OnlyReads old new (based_to told plan from (ends_of pages)) → ReadsWide told plan size span failed count from old new
wide_made told plan size span failed count from to pages old new each going few reads = reads_of told plan size span failed count from (ends_of pages) old new each (ends_all told plan size span failed count from to pages going few) reads

-- those and one more
pub wide_more : (told : Option (List (List ℕ))) (plan : Plan) (size span : ℕ) (failed : Bool) (count from mid : ℕ) (pages : List ListPage) (page : ListPage) (old new : Seen) → plan.each ≡ true → Going told plan size span from mid pages → length pages < count → IsPageFrom told plan mid size span page →
    OnlyReads old new (based_to told plan from (ends_of pages ++ page.next ∷ [])) → ReadsWide told plan size span failed count from old new
wide_more told plan size span failed count from mid pages page old new each going few is_page reads =
    reads_of told plan size span failed count from (ends_of pages ++ page.next ∷ []) old new each (ends_more told plan size span failed count from mid page.next pages going (made_end told plan size span failed mid page [] is_page) few) reads

-- and one that could not be made
pub wide_ended : (told : Option (List (List ℕ))) (plan : Plan) (size span : ℕ) (failed : Bool) (count from mid : ℕ) (pages : List ListPage) (old new : Seen) → plan.each ≡ true → Going told plan size span from mid pages → length pages < count → failed ≡ true →
    OnlyReads old new (based_to told plan from (ends_of pages ++ stop_of (wide_total plan) mid span ∷ [])) → ReadsWide told plan size span failed count from old new
wide_ended told plan size span failed count from mid pages old new each going few fails reads =
    reads_of told plan size span failed count from (ends_of pages ++ stop_of (wide_total plan) mid span ∷ []) old new each (ends_more told plan size span failed count from mid (stop_of (wide_total plan) mid span) pages going (inl (fails, refl, refl)) few) reads

-- why there is no page where the lines of a part are not known
ends_part : (plan : Plan) (from : ℕ) (old new : Seen) (fault : PageFault) → EndsPart old new fault → EndsPage plan from old new fault
ends_part plan from old new Many ends = absurd ends
ends_part plan from old new (Cursor fault) ends = absurd ends
ends_part plan from old new ReadFault ends = ends
ends_part plan from old new Memory ends = ends

pub gives_cut : (plan : Plan) (size span from : ℕ) (old new : Seen) (fault : PageFault) (answer : Result ListPage PageFault) → IsErrAnd answer (λ other. other ≡ fault) → plan.each ≡ true → wide_total plan < 2 ^ 64 → from ≤ wide_total plan → EndsPart old new fault →
    OnlyReads old new (based_reads (told_all old.attached) plan from (stop_of (wide_total plan) from span)) → GivesPage plan from size span old new answer
gives_cut plan size span from old new fault (Ok page) is each few low ends reads = absurd is
gives_cut plan size span from old new fault (Err other) is each few low ends reads =
    let P : ℕ → Type 0 = λ n. OnlyReads old new n in
    record {
      page = tt;
      many = λ high. absurd (omega arith);
      cursor = λ small past. absurd (omega arith);
      quiet = tt;
      ends = subst (EndsPage plan from old new) (sym is) (ends_part plan from old new fault ends);
      reads = subst P (sym (wide_based (told_all old.attached) plan from (stop_of (wide_total plan) from span) each)) reads;
    }

-- what a page says that was made after others
pub record ComesOn (plan : Plan) (size span from at : ℕ) (old new : Seen) (page : ListPage) : Type 0 where
  pub is_page : IsPageFrom (told_all old.attached) plan at size span page
  pub few : wide_total plan < 2 ^ 64
  pub low : from ≤ page.next
  pub within : page.next ≤ wide_total plan
  pub quiet : new.faults ≡ old.faults

pub comes_on : (plan : Plan) (size span from at : ℕ) (old now new : Seen) (page : ListPage) → now.attached ≡ old.attached → now.faults ≡ old.faults → from ≤ at → GivesPage plan at size span now new (Ok page) → ComesOn plan size span from at old new page
comes_on plan size span from at old now new page same quiet low gives =
    let P : List Image → Type 0 = λ attached. IsPageFrom (told_all attached) plan at size span page in
    let made : IsPageFrom (told_all now.attached) plan at size span page = gives.page in
    let forward = made.forward in
    let within = made.within in
    record {
      is_page = subst P same made;
      few = elim (cases_lt (wide_total plan) (2 ^ 64)) [
        | inl few ↦ few
        | inr many ↦ absurd (not_an_error page Many (gives.many many))
      ];
      low = omega arith;
      within = omega arith;
      quiet = gives.quiet ∙ quiet;
    }

-- pages that were made
pub gives_made : (plan : Plan) (size span count from : ℕ) (pages : List ListPage) (old new : Seen) → wide_total plan < 2 ^ 64 → from ≤ wide_total plan → new.faults ≡ old.faults → ArePagesFrom (told_all old.attached) plan size span count from pages →
    ReadsWide (told_all old.attached) plan size span false count from old new → GivesPages plan size span count from old new (Ok pages)
gives_made plan size span count from pages old new few low quiet are reads = record {
  pages = are;
  many = λ high. absurd (omega arith);
  cursor = λ small past. absurd (omega arith);
  quiet = quiet;
  ends = tt;
  reads = reads;
}

-- memory ran out over a page that was made
pub gives_short : (plan : Plan) (size span count from : ℕ) (old new : Seen) (fault : PageFault) (answer : Result (List ListPage) PageFault) → IsErrAnd answer (λ other. other ≡ fault) → fault ≡ Memory → wide_total plan < 2 ^ 64 → from ≤ wide_total plan → new.faults ≡ old.faults →
    ReadsWide (told_all old.attached) plan size span (is_err answer) count from old new → GivesPages plan size span count from old new answer
gives_short plan size span count from old new fault (Ok pages) is memory few low quiet reads = absurd is
gives_short plan size span count from old new fault (Err other) is memory few low quiet reads = record {
  pages = tt;
  many = λ high. absurd (omega arith);
  cursor = λ small past. absurd (omega arith);
  quiet = tt;
  ends = subst (EndsPage plan from old new) (sym (is ∙ memory)) quiet;
  reads = reads;
}

-- why a page could not be made after others is why the pages could not
ends_on : (plan : Plan) (from at made : ℕ) (old now new : Seen) (fault : PageFault) → from ≤ at → now.faults ≡ old.faults → Begun plan from made at old now → EndsPage plan at now new fault → EndsPage plan from old new fault
ends_on plan from at made old now new Many low quiet (inl none) ends = (ends.0, ends.1 ∙ none.2)
ends_on plan from at made old now new Many low quiet (inr some) ends = absurd (let few = some.2 in let many = ends.0 in omega arith)
ends_on plan from at made old now new (Cursor fault) low quiet (inl none) ends =
    let same = none.1 in
    let past = ends.0 in
    ((omega arith), ends.1 ∙ ap (λ (n : ℕ). let f : CursorFault = record { from = n; total = wide_total plan } in f) same, ends.2 ∙ none.2)
ends_on plan from at made old now new (Cursor fault) low quiet (inr some) ends = absurd (let within = some.1 in let past = ends.0 in omega arith)
ends_on plan from at made old now new ReadFault low quiet begun ends = subst (λ (n : ℕ). Rose n new.faults) quiet ends
ends_on plan from at made old now new Memory low quiet begun ends = ends ∙ quiet

cursor_on : (plan : Plan) (from at made : ℕ) (old now : Seen) (fault : PageFault) → from ≤ at → Begun plan from made at old now → (wide_total plan < 2 ^ 64 → wide_total plan < at → fault ≡ Cursor (record { from = at; total = wide_total plan })) →
    wide_total plan < 2 ^ 64 → wide_total plan < from → fault ≡ Cursor (record { from = from; total = wide_total plan })
cursor_on plan from at made old now fault low (inl none) cursor few past =
    cursor few (omega arith) ∙ ap (λ (n : ℕ). let f : PageFault = Cursor (record { from = n; total = wide_total plan }) in f) none.1
cursor_on plan from at made old now fault low (inr some) cursor few past = absurd (let within = some.1 in omega arith)

pub gives_fault : (plan : Plan) (size span count from at made : ℕ) (old now new : Seen) (fault : PageFault) (answer : Result (List ListPage) PageFault) → IsErrAnd answer (λ other. other ≡ fault) → from ≤ at → now.faults ≡ old.faults →
    Begun plan from made at old now → GivesPage plan at size span now new (Err fault) → ReadsWide (told_all old.attached) plan size span (is_err answer) count from old new → GivesPages plan size span count from old new answer
gives_fault plan size span count from at made old now new fault (Ok pages) is low quiet begun gives reads = absurd is
gives_fault plan size span count from at made old now new fault (Err other) is low quiet begun gives reads =
    let raised : PageFault → Result (List ListPage) PageFault = λ f. Err f in
    let ends : EndsPage plan at now new fault = gives.ends in
    record {
      pages = tt;
      many = λ high. ap raised (is ∙ same_fault {T = ListPage} fault Many (gives.many high));
      cursor = λ few past.
          ap raised
          (is
          ∙ cursor_on plan from at made old now fault low begun (λ small beyond. same_fault {T = ListPage} fault (Cursor (record { from = at; total = wide_total plan })) (gives.cursor small beyond)) few past);
      quiet = tt;
      ends = subst (EndsPage plan from old new) (sym is) (ends_on plan from at made old now new fault low quiet begun ends);
      reads = reads;
    }
