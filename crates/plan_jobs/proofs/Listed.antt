-- The bytes of a page are the listing.
use Rattle.std.proofs.Common.{◌≡◌, ◌==◌, ℕ, zero, suc, List, [], ◌∷◌, ◌++◌, map, refl, sym, ap, ap₂, ◌∙◌, Option, Some, None, All, IfSome, slice_get, Bool, cond, true, false, nat_le, ◌<◌, ◌≤◌, ◌^◌, Ok, Err, IsErrOf, inl, inr, arith, subst}
use Rattle.std.specs.List.{flat_map}
use Rattle.std.specs.Option.{option_map_or}
use Rattle.std.proofs.lemmas.List.Elements.{All-head, All-tail}
use Rattle.outside.specs.Attached.{told_all}
use Rattle.outside.specs.Seen.{Seen}
use Rattle.std.proofs.lemmas.Bool.{cases_lt, eq-eqb, lt-ltb, le-ltb, le-leb}
use Rattle.std.proofs.lemmas.Bool.Decides.{nat_tests}
use Rattle.common_pages.specs.Pages.{ArePagesFrom, EndsPage, HoldsBased, IsPageOf}
use Rattle.common_pages.specs.declared.page_parts.CursorFault.{CursorFault}
use Rattle.common_pages.specs.declared.page_parts.ListPage.{ListPage}
use Rattle.common_pages.specs.declared.page_parts.PageFault.{PageFault}
use Rattle.common_pages.specs.declared.page_parts.PageFault.TheVariants.{Many as PageMany, Cursor as PageCursor, ReadFault, Memory as PageMemory}
use Rattle.run_ends.proofs.Printed.{order_allowed, rises, stays}
use Rattle.run_ends.specs.Stops.{first_of}
use Rattle.run_ends.specs.declared.stop.Refusal.{Refusal}
use Rattle.run_ends.specs.declared.stop.Refusal.TheVariants.{Many, Cursor}
use Rattle.run_ends.specs.declared.stop.Stop.TheVariants.{Refused, ImageFault, OutOfMemory}
use Rattle.search_terms.specs.Page.{page_ranks}
use Rattle.search_plan.specs.declared.plan.Plan.{Plan}
use Rattle.page_engine.specs.Pages.{GivesPages}
use Rattle.wide_product.specs.Sets.{based, wide_passes_at, wide_sets, wide_total}
use Rattle.plan_jobs.proofs.PagesRead.{ends_made, none_read}
use Rattle.plan_jobs.specs.Faults.{stop_of_page}
use Rattle.plan_jobs.specs.Listing.{ListReads, cursor_refusal, list_over, found_text, line_in, line_of, listing, next_in, next_of, page_text, pages_text}
use Rattle.plan_jobs.specs.Plans.{AnswersOver, many_refusal}
use Rattle.plan_jobs.specs.declared.listing.Listing.{Listing}
use Rattle.command_words.specs.declared.command.Form.{Form}
use Rattle.command_words.specs.declared.command.Form.TheVariants.{Json}
use Rattle.json_lines.specs.Objects.{set_object}
use Rattle.raid_params.specs.declared.wide.Wide.{Wide}
use Rattle.head_walk.specs.declared.parts.Line.{Line}

-- lines that hold their sets
lines_of : (form : Form) (plan : Plan) (lines : List Line) → All (HoldsBased plan) lines → flat_map (line_of form plan) (map (λ (held : Line). held.rank) lines) ≡ flat_map (λ (held : Line). line_in form held.rank (based held.geo)) lines
unfolding line_of
lines_of form plan [] all = refl
lines_of form plan (held ∷ lines) all =
    let here : slice_get (wide_sets plan) held.rank ≡ Some (based held.geo) = All-head (HoldsBased plan) held lines all in
    ap (λ found. option_map_or (line_in form held.rank) found [] ++ flat_map (line_of form plan) (map (λ (one : Line). one.rank) lines)) here
    ∙ ap (λ xs. line_in form held.rank (based held.geo) ++ xs) (lines_of form plan lines (All-tail (HoldsBased plan) held lines all))

-- the object of a set
pub object_is : (rank : ℕ) (set : Wide) → set_object rank set ≡ line_in Json rank (based set)
unfolding set_object
object_is rank set = refl

-- the bytes of a page that was found
page_is : (form : Form) (bytes : List (List ℕ)) (plan : Plan) (from size span : ℕ) (page : ListPage) → IsPageOf bytes plan from size span page → All (HoldsBased plan) page.lines → page.total ≡ wide_total plan →
    found_text form page ≡ page_text form bytes plan size span from
unfolding found_text page_text
page_is form bytes plan from size span page is all total =
    ap (λ xs. xs ++ next_in form page.next page.total) (sym (lines_of form plan page.lines all) ∙ ap (flat_map (line_of form plan)) is.front)
    ∙ ap (λ (n : ℕ). flat_map (line_of form plan) (page_ranks (wide_passes_at bytes plan) (wide_total plan) from size span) ++ next_in form n page.total) is.goes_on
    ∙ ap (λ (t : ℕ). flat_map (line_of form plan) (page_ranks (wide_passes_at bytes plan) (wide_total plan) from size span) ++ next_in form (next_of bytes plan size span from) t) total

other_number : (a b c : ℕ) → c ≡ a → c < b → (a == b) ≡ false
other_number a b c e lt = grind (arith, nat_tests)

-- the bytes of pages one after the other
pages_are : (form : Form) (bytes : List (List ℕ)) (plan : Plan) (size span count from : ℕ) (found : List ListPage) → ArePagesFrom (Some bytes) plan size span count from found →
    flat_map (found_text form) found ≡ pages_text form bytes plan size span count from
unfolding pages_text ArePagesFrom
pages_are form bytes plan size span zero from found are = ap (flat_map (found_text form)) are
pages_are form bytes plan size span (suc count) from [] are = absurd are
pages_are form bytes plan size span (suc count) from (page ∷ found) are =
    let here = page_is form bytes plan from size span page are.0.page are.0.sets are.0.total in
    let on : page.next ≡ next_of bytes plan size span from = are.0.page.goes_on in
    elim are.1 [
      | inl last ↦
          (let end : (next_of bytes plan size span from == wide_total plan) ≡ true = eq-eqb (next_of bytes plan size span from) (wide_total plan) (sym on ∙ last.0) in
          let none : flat_map (found_text form) found ≡ [] = ap (flat_map (found_text form)) last.1 in
          ap₂ (λ (xs ys : List ℕ). xs ++ ys) here
          (none ∙ sym (ap (λ (b : Bool). cond b [] (pages_text form bytes plan size span count (next_of bytes plan size span from))) end)))
      | inr more ↦
          (let end : (next_of bytes plan size span from == wide_total plan) ≡ false = other_number (next_of bytes plan size span from) (wide_total plan) page.next on more.0 in
          ap₂ (λ (xs ys : List ℕ). xs ++ ys) here
          (pages_are form bytes plan size span count page.next found more.1
          ∙ ap (pages_text form bytes plan size span count) on
          ∙ sym (ap (λ (b : Bool). cond b [] (pages_text form bytes plan size span count (next_of bytes plan size span from))) end)))
    ]

pub pages_printed : (told : Option (List (List ℕ))) (plan : Plan) (asked : Listing) (found : List ListPage) (text : List ℕ) →
    ArePagesFrom told plan asked.size asked.span asked.pages asked.from found → text ≡ flat_map (found_text asked.form) found →
    IfSome told (λ bytes. text ≡ listing bytes plan asked)
unfolding listing
pages_printed None plan asked found text are e = tt
pages_printed (Some bytes) plan asked found text are e = e ∙ pages_are asked.form bytes plan asked.size asked.span asked.pages asked.from found are

lt-leb : (a b : ℕ) → a < b → nat_le b a ≡ false
lt-leb a b lt = grind (arith, nat_tests)

-- sets and ranks in range are not refused
allowed : (plan : Plan) (from : ℕ) → wide_total plan < 2 ^ 64 → from ≤ wide_total plan → first_of (many_refusal plan ∷ cursor_refusal from plan ∷ []) ≡ None
allowed plan from low in_range =
    ap (λ (t : Bool). first_of (cond t (Some Many) None ∷ cursor_refusal from plan ∷ [])) (lt-leb (wide_total plan) (2 ^ 64) low)
    ∙ ap (λ (t : Bool). first_of (cond t (Some (Cursor (record { from = from; total = wide_total plan }))) None ∷ [])) (le-ltb (wide_total plan) from in_range)

many_first : (plan : Plan) (from : ℕ) → 2 ^ 64 ≤ wide_total plan → first_of (many_refusal plan ∷ cursor_refusal from plan ∷ []) ≡ Some Many
many_first plan from high = ap (λ (t : Bool). first_of (cond t (Some Many) None ∷ cursor_refusal from plan ∷ [])) (le-leb (2 ^ 64) (wide_total plan) high)

cursor_first : (plan : Plan) (from : ℕ) → wide_total plan < 2 ^ 64 → wide_total plan < from →
    first_of (many_refusal plan ∷ cursor_refusal from plan ∷ []) ≡ Some (Cursor (record { from = from; total = wide_total plan }))
cursor_first plan from low past =
    ap (λ (t : Bool). first_of (cond t (Some Many) None ∷ cursor_refusal from plan ∷ [])) (lt-leb (wide_total plan) (2 ^ 64) low)
    ∙ ap (λ (t : Bool). first_of (cond t (Some (Cursor (record { from = from; total = wide_total plan }))) None ∷ [])) (lt-ltb (wide_total plan) from past)

-- what the pages refuse: nothing, where they neither are too many nor begin past the total
abbrev pub page_refusal : Plan → ℕ → Option Refusal
page_refusal plan from = first_of (many_refusal plan ∷ cursor_refusal from plan ∷ [])

pub page_allowed : (plan : Plan) (from : ℕ) → (2 ^ 64 ≤ wide_total plan → ⊥) → (wide_total plan < 2 ^ 64 → wide_total plan < from → ⊥) → page_refusal plan from ≡ None
page_allowed plan from many cursor =
    elim (cases_lt (wide_total plan) (2 ^ 64)) [
      | inl low ↦ elim (cases_lt (wide_total plan) from) [
        | inl past ↦ absurd (cursor low past)
        | inr in_range ↦ allowed plan from low in_range
      ]
      | inr high ↦ absurd (many high)
    ]

-- pages that were made are not refused
found_allowed : (plan : Plan) (from : ℕ) (found : List ListPage) → (2 ^ 64 ≤ wide_total plan → IsErrOf (Ok found) PageMany) →
    (wide_total plan < 2 ^ 64 → wide_total plan < from → IsErrOf (Ok found) (PageCursor (record { from = from; total = wide_total plan }))) → page_refusal plan from ≡ None
found_allowed plan from found many cursor = page_allowed plan from (λ high. let e = many high in cc) (λ low past. let e = cursor low past in cc)

-- the text of pages that were made
pub list_found : (asked : Listing) (names : ℕ) (plan : Plan) (old new : Seen) (found : List ListPage) (text : List ℕ) → GivesPages plan asked.size asked.span asked.pages asked.from old new (Ok found) →
    text ≡ flat_map (found_text asked.form) found → AnswersOver (list_over asked) names plan old new (Ok text)
list_found asked names plan old new found text gives is =
    let none = found_allowed plan asked.from found gives.many gives.cursor in
    let reads = gives.reads in
    record {
      refuses = record { ends = tt; passes = none };
      text = pages_printed (told_all old.attached) plan asked found text gives.pages is;
      order = order_allowed (page_refusal plan asked.from) old.sectors_read new.sectors_read None None (Ok text) none;
      reads = record { ends = reads.ends; are = reads.are; few = reads.reads.sectors_read };
      faults = stays ImageFault old.faults new.faults (Ok text) gives.quiet (λ e. absurd (cc));
      untaken = λ f. absurd (cc);
      unput = λ f. absurd (cc);
      unread = tt;
      world = reads.reads.world;
      attached = reads.reads.attached;
    }

-- memory runs out over the text of pages that were made
pub list_short : (asked : Listing) (names : ℕ) (plan : Plan) (old new : Seen) (found : List ListPage) → GivesPages plan asked.size asked.span asked.pages asked.from old new (Ok found) → AnswersOver (list_over asked) names plan old new (Err OutOfMemory)
list_short asked names plan old new found gives =
    let none = found_allowed plan asked.from found gives.many gives.cursor in
    let reads = gives.reads in
    record {
      refuses = record { ends = tt; passes = tt };
      text = tt;
      order = order_allowed (page_refusal plan asked.from) old.sectors_read new.sectors_read None None (Err OutOfMemory) none;
      reads = record { ends = reads.ends; are = ends_made (told_all old.attached) plan asked.size asked.span true asked.pages asked.from reads.ends reads.are; few = reads.reads.sectors_read };
      faults = stays ImageFault old.faults new.faults (Err OutOfMemory) gives.quiet (λ e. absurd (cc));
      untaken = λ f. absurd (cc);
      unput = λ f. absurd (cc);
      unread = λ h. absurd (h refl);
      world = reads.reads.world;
      attached = reads.reads.attached;
    }

-- pages that are refused are not looked for
refused_page : (asked : Listing) (names : ℕ) (plan : Plan) (old new : Seen) (refusal : Refusal) → new ≡ old → page_refusal plan asked.from ≡ Some refusal → AnswersOver (list_over asked) names plan old new (Err (Refused refusal))
refused_page asked names plan old new refusal same is =
    let read : new.sectors_read ≡ old.sectors_read = ap (λ (s : Seen). s.sectors_read) same in
    let faults : new.faults ≡ old.faults = ap (λ (s : Seen). s.faults) same in
    record {
      refuses = record { ends = is; passes = tt };
      text = tt;
      order = λ other e. record { unread = read; unput = tt; no_image_fault = λ f. absurd (cc); no_out_fault = λ f. absurd (cc) };
      reads = subst (λ (n : ℕ). ListReads (told_all old.attached) asked plan false old.sectors_read n) (sym read) (none_read (told_all old.attached) asked plan false old.sectors_read);
      faults = stays ImageFault old.faults new.faults (Err (Refused refusal)) faults (λ e. absurd (cc));
      untaken = λ f. absurd (cc);
      unput = λ f. absurd (cc);
      unread = λ h. read;
      world = ap (λ (s : Seen). s.world) same;
      attached = ap (λ (s : Seen). s.attached) same;
    }

not_many : (plan : Plan) (fault : PageFault) → (2 ^ 64 ≤ wide_total plan → IsErrOf {T = List ListPage} (Err fault) PageMany) → (fault ≡ PageMany → ⊥) → 2 ^ 64 ≤ wide_total plan → ⊥
not_many plan fault many other high = other (let e = many high in cc)

-- why pages could not be made
pub list_fault : (asked : Listing) (names : ℕ) (plan : Plan) (old new : Seen) (fault : PageFault) → GivesPages plan asked.size asked.span asked.pages asked.from old new (Err fault) → AnswersOver (list_over asked) names plan old new (Err (stop_of_page fault))
list_fault asked names plan old new PageMany gives =
    let ends : EndsPage plan asked.from old new PageMany = gives.ends in
    refused_page asked names plan old new Many ends.1 (many_first plan asked.from ends.0)
list_fault asked names plan old new (PageCursor fault) gives =
    let ends : EndsPage plan asked.from old new (PageCursor fault) = gives.ends in
    let low : wide_total plan < 2 ^ 64 = elim (cases_lt (wide_total plan) (2 ^ 64)) [ inl low ↦ low | inr high ↦ absurd (not_many plan (PageCursor fault) gives.many (λ e. cc) high) ] in
    refused_page asked names plan old new (Cursor (record { from = fault.from; total = fault.total })) ends.2
    (cursor_first plan asked.from low ends.0 ∙ sym (ap (λ (f : CursorFault). Some (Cursor (record { from = f.from; total = f.total }))) ends.1))
list_fault asked names plan old new ReadFault gives =
    let reads = gives.reads in
    record {
      refuses = record { ends = tt; passes = tt };
      text = tt;
      order = order_allowed (page_refusal plan asked.from) old.sectors_read new.sectors_read None None (Err ImageFault)
          (page_allowed plan asked.from (λ high. let e = gives.many high in cc) (λ low past. let e = gives.cursor low past in cc));
      reads = record { ends = reads.ends; are = reads.are; few = reads.reads.sectors_read };
      faults = rises ImageFault old.faults new.faults gives.ends reads.reads.faults;
      untaken = λ f. absurd (cc);
      unput = λ f. absurd (cc);
      unread = λ h. absurd (h tt);
      world = reads.reads.world;
      attached = reads.reads.attached;
    }
list_fault asked names plan old new PageMemory gives =
    let reads = gives.reads in
    record {
      refuses = record { ends = tt; passes = tt };
      text = tt;
      order = order_allowed (page_refusal plan asked.from) old.sectors_read new.sectors_read None None (Err OutOfMemory)
          (page_allowed plan asked.from (λ high. let e = gives.many high in cc) (λ low past. let e = gives.cursor low past in cc));
      reads = record { ends = reads.ends; are = reads.are; few = reads.reads.sectors_read };
      faults = stays ImageFault old.faults new.faults (Err OutOfMemory) gives.ends (λ e. absurd (cc));
      untaken = λ f. absurd (cc);
      unput = λ f. absurd (cc);
      unread = λ h. absurd (h refl);
      world = reads.reads.world;
      attached = reads.reads.attached;
    }
