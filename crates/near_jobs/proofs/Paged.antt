-- What the job of `mirrors` prints and refuses, by the page.
use Rattle.std.proofs.Common.{ℕ, ◌≡◌, ◌+◌, ◌*◌, ◌<◌, ◌≤◌, ◌^◌, min, max, Bool, true, false, cond, nat_lt, List, [], ◌∷◌, ◌++◌, length, map, codes, refl, sym, ap, ap₂, ◌∙◌, subst, arith, inl, inr, IsTrue, Option, Some, None, Result, Ok, Err, IfOk, IfErr, IfSome, IsErrOf, OnOk, All}
use Rattle.std.specs.List.{AllByRecursion, flat_map, sum_by}
use Rattle.std.specs.Option.{option_map, option_map_or}
use Rattle.std.specs.Result.{IsErrAnd}
use Rattle.std.proofs.lemmas.Bool.{cases_lt, le-ltb, lt-leb, lt-ltb}
use Rattle.std.proofs.lemmas.Bool.Decides.{nat_tests}
use Rattle.std.proofs.lemmas.List.Elements.{All-cons, All-nil, recursion_from_All}
use Rattle.std.proofs.lemmas.List.Sums.{sum_by-le-sum_by}
use Rattle.std.proofs.lemmas.Nat.{mul-le}
use Rattle.outside.specs.Attached.{told_all}
use Rattle.outside.specs.Seen.{Image, OnlyReads, Seen}
use Rattle.outside.specs.Streams.{Stream}
use Rattle.outside.proofs.Reading.{reads_up}
use Rattle.search_terms.specs.Page.{stop_of}
use Rattle.candidate_enum.specs.Left.{overlaps}
use Rattle.raid_params.specs.declared.limits.TheConstants.{MOST}
use Rattle.near_mirror.specs.Heads.{has_members}
use Rattle.near_mirror.specs.Words.{near_line}
use Rattle.near_mirror.specs.declared.types.NearSet.{NearSet}
use Rattle.near_tables.specs.Reading.{read_of}
use Rattle.near_search.specs.Asks.{HasImages, IsNearAsk}
use Rattle.near_search.specs.Pages.{IsNearPage, tested_to}
use Rattle.near_search.specs.Product.{near_numbered, near_total}
use Rattle.near_search.specs.Walk.{HoldsNear, near_cost}
use Rattle.near_search.specs.declared.ask.NearAsk.{NearAsk}
use Rattle.near_search.specs.declared.heads.NearSets.{NearSets}
use Rattle.near_search.specs.declared.parts.NearFault.{NearFault}
use Rattle.near_search.specs.declared.parts.NearFault.TheVariants.{Cursor as NearCursor, Many as NearMany}
use Rattle.near_search.specs.declared.parts.NearLine.{NearLine}
use Rattle.near_search.specs.declared.parts.NearPage.{NearPage}
use Rattle.run_ends.proofs.Lengths.{end_near}
use Rattle.run_ends.proofs.Limits.{all_reach, no_limits}
use Rattle.run_ends.proofs.Printed.{no_raise, rises, stays}
use Rattle.run_ends.specs.Agreement.{end_of, limits_fault}
use Rattle.run_ends.specs.Counts.{Raises}
use Rattle.run_ends.specs.Jobs.{Answers, MayHaveRead, Orders, Refuses, around, is_cut, named}
use Rattle.run_ends.specs.Printing.{share_line}
use Rattle.run_ends.specs.Stops.{first_of}
use Rattle.run_ends.specs.declared.agreement.Disagreement.{Disagreement}
use Rattle.run_ends.specs.declared.stop.Refusal.{Refusal}
use Rattle.run_ends.specs.declared.stop.Refusal.TheVariants.{Cursor, Images, Many}
use Rattle.run_ends.specs.declared.stop.Stop.{Stop}
use Rattle.run_ends.specs.declared.stop.Stop.TheVariants.{ImageFault, OutFault, OutOfMemory, Refused, SourceFault}
use Rattle.asked_values.proofs.Asked.{as_asked}
use Rattle.asked_values.specs.Asked.{members_for}
use Rattle.set_jobs.proofs.SetRefusals.{first_alone}
use Rattle.near_jobs.specs.Mirroring.{AreMirrorWords, EndsMirrors, ask_of, mirrors_job, mirrors_output, mirrors_reads, mirrors_refusal, mirrors_text, page_reads, product_refusal, rank_line}
use Rattle.near_jobs.specs.declared.mirroring.MirrorWords.{MirrorWords}

-- the lines of sets by their ranks
lines_text : (images : ℕ) (ask : NearAsk) (lines : List NearLine) → AllByRecursion (HoldsNear images ask) lines → flat_map (λ line. near_line line.rank line.set) lines ≡ flat_map (rank_line images ask) (map (λ line. line.rank) lines)
lines_text images ask [] all = refl
lines_text images ask (line ∷ lines) all =
    ap₂ (λ (a b : List ℕ). a ++ b) (sym (ap (λ (o : Option NearSet). option_map_or (near_line line.rank) o []) all.0)) (lines_text images ask lines all.1)

-- the text of a page
pub page_told : (told : Option (List (List ℕ))) (images : ℕ) (ask : NearAsk) (from size span : ℕ) (page : NearPage) (text : List ℕ) → IfSome told (λ bytes. IsNearPage bytes images ask from size span page) →
    All (HoldsNear images ask) page.lines → page.total ≡ near_total images ask → text ≡ flat_map (λ line. near_line line.rank line.set) page.lines ++ share_line (codes "next ") page.next page.total →
    IfSome told (λ bytes. text ≡ mirrors_text bytes images ask from size span)
unfolding mirrors_text
page_told None images ask from size span page text is all total e = tt
page_told (Some bytes) images ask from size span page text is all total e =
    e ∙ ap₂ (λ (a b : List ℕ). a ++ b)
    (lines_text images ask page.lines (recursion_from_All (HoldsNear images ask) page.lines all) ∙ ap (flat_map (rank_line images ask)) is.front)
    (ap₂ (λ (n t : ℕ). share_line (codes "next ") n t) is.goes_on total)

-- what is refused of a product
none_is : (images : ℕ) (ask : NearAsk) (from : ℕ) → near_total images ask < 2 ^ 64 → from ≤ near_total images ask → product_refusal images ask from ≡ None
none_is images ask from few within =
    ap (λ (b : Bool). cond b (Some Many) (cond (nat_lt (near_total images ask) from) (Some (Cursor (record { from = from; total = near_total images ask }))) None)) (lt-leb (2 ^ 64) (near_total images ask) few)
    ∙ ap (λ (b : Bool). cond b (Some (Cursor (record { from = from; total = near_total images ask }))) None) (le-ltb (near_total images ask) from within)

pub allowed_by : (images : ℕ) (ask : NearAsk) (from : ℕ) (result : Result NearPage NearFault) → (2 ^ 64 ≤ near_total images ask → IsErrOf result NearMany) →
    (near_total images ask < 2 ^ 64 → near_total images ask < from → IsErrOf result (NearCursor from (near_total images ask))) → (IsErrOf result NearMany → ⊥) → (IsErrOf result (NearCursor from (near_total images ask)) → ⊥) → product_refusal images ask from ≡ None
allowed_by images ask from result many cursor no_many no_cursor = elim (cases_lt (near_total images ask) (2 ^ 64)) [
  | inl few ↦ elim (cases_lt (near_total images ask) from) [
    | inl past ↦ absurd (no_cursor (cursor few past))
    | inr within ↦ none_is images ask from few within
  ]
  | inr le ↦ absurd (no_many (many le))
]

-- more ranks cost no less
more_cost : (a b c f n most : ℕ) → b ≤ c → cond (overlaps a b f n) most 0 ≤ cond (overlaps a c f n) most 0
more_cost a b c f n most le = elim (cases_lt (max a f) (min b (f + n))) [
  | inl lt ↦ rw (lt-ltb (max a f) (min b (f + n)) lt, lt-ltb (max a f) (min c (f + n)) (omega arith)) (omega arith)
  | inr past ↦ rw (le-ltb (max a f) (min b (f + n)) past) (omega arith)
]

pub cost_up : (images : ℕ) (ask : NearAsk) (from to stop : ℕ) → to ≤ stop → images * near_cost images ask from to ≤ images * near_cost images ask from stop
unfolding near_cost
cost_up images ask from to stop le =
    let f : ℕ → NearSets → ℕ = λ n sets. cond (overlaps from n sets.first sets.count) (read_of sets.head ask.end ask.window) 0 in
    let less : sum_by (f to) (near_numbered images ask) ≤ sum_by (f stop) (near_numbered images ask)
    = sum_by-le-sum_by (f to) (f stop) (near_numbered images ask) (λ sets. more_cost from to stop sets.first sets.count (read_of sets.head ask.end ask.window) le) in
    mul-le images (sum_by (f to) (near_numbered images ask)) images (sum_by (f stop) (near_numbered images ask)) (omega arith) less

-- where the images are not refused
pub images_refused : (asked : MirrorWords) (names : ℕ) (attached : List Image) (fault : Disagreement) → limits_fault asked.end names attached ≡ Some fault → mirrors_refusal asked names attached ≡ Some (Images fault)
unfolding mirrors_refusal
images_refused asked names attached fault e =
    ap (λ r. first_of (option_map (λ (f : Disagreement). Images f) r ∷ product_refusal (length attached) (ask_of asked names (end_of asked.end attached)) asked.from ∷ [])) e

pub by_product : (asked : MirrorWords) (names : ℕ) (attached : List Image) → limits_fault asked.end names attached ≡ None → mirrors_refusal asked names attached ≡ product_refusal (length attached) (ask_of asked names (end_of asked.end attached)) asked.from
unfolding mirrors_refusal
by_product asked names attached none =
    ap (λ r. first_of (option_map (λ (f : Disagreement). Images f) r ∷ product_refusal (length attached) (ask_of asked names (end_of asked.end attached)) asked.from ∷ [])) none
    ∙ first_alone (product_refusal (length attached) (ask_of asked names (end_of asked.end attached)) asked.from)

-- what may be asked
two_at_least : (n : ℕ) → 2 ≤ n → n ≤ MOST → IsTrue (has_members n)
two_at_least n low high = grind (arith, nat_tests)

members_are : (asked : List ℕ) (names : ℕ) → names ≤ MOST → All (λ n. IsTrue (has_members n)) asked → All (λ n. IsTrue (has_members n)) (members_for asked names)
members_are [] names most all = All-cons (λ n. IsTrue (has_members n)) (max names 2) [] (two_at_least (max names 2) (omega arith) (omega arith)) (All-nil (λ n. IsTrue (has_members n)))
members_are (n ∷ ns) names most all = subst (All (λ m. IsTrue (has_members m))) (sym (as_asked n ns names)) all

pub near_ask : (asked : MirrorWords) (names last : ℕ) (attached : List Image) → limits_fault asked.end names attached ≡ None → AreMirrorWords asked → All (λ image. image.sectors < 2 ^ 55) attached → last ≡ end_of asked.end attached →
    IsNearAsk (ask_of asked names last)
near_ask asked names last attached none good small is =
    let few = (no_limits asked.end names attached none).few in
    let near = end_near asked.end attached small good.end in
    record { layouts = good.layouts; members = members_are asked.members.items names few good.members; chunks = good.chunks; offsets = good.offsets; missing = (let few = good.missing in omega arith); foreign = good.foreign; end = omega arith }

pub has_images : (asked : MirrorWords) (names last : ℕ) (attached : List Image) → limits_fault asked.end names attached ≡ None → length attached ≡ min names 65536 → last ≡ end_of asked.end attached → HasImages (ask_of asked names last) attached
has_images asked names last attached none count is =
    let allowed = no_limits asked.end names attached none in
    let few = allowed.few in
    let some = allowed.some in
    let P : ℕ → Type 0 = λ n. All (λ (image : Image). n ≤ image.sectors) attached in
    record { some = omega arith; few = omega arith; long = subst P (sym is) (all_reach attached (end_of asked.end attached) allowed.reaches) }

-- what the answer raises and reads
images_raise : (old new : Seen) (n : ℕ) (answer : Result (List ℕ) Stop) → OnlyReads old new n → OnOk answer (new.faults ≡ old.faults) → IfErr answer (EndsMirrors old new) → Raises ImageFault old.faults new.faults answer
images_raise old new n (Ok text) reads quiet ends = stays ImageFault old.faults new.faults (Ok text) quiet (λ e. absurd (cc))
images_raise old new n (Err (Refused refusal)) reads quiet ends = stays ImageFault old.faults new.faults (Err (Refused refusal)) (ap (λ (s : Seen). s.faults) ends) (λ e. absurd (cc))
images_raise old new n (Err ImageFault) reads quiet ends = rises ImageFault old.faults new.faults ends reads.faults
images_raise old new n (Err OutOfMemory) reads quiet ends = stays ImageFault old.faults new.faults (Err OutOfMemory) ends (λ e. absurd (cc))
images_raise old new n (Err SourceFault) reads quiet ends = absurd ends
images_raise old new n (Err OutFault) reads quiet ends = absurd ends

no_out : (old new : Seen) (answer : Result (List ℕ) Stop) → IfErr answer (EndsMirrors old new) → IsErrOf answer OutFault → ⊥
no_out old new (Ok text) ends e = absurd (cc)
no_out old new (Err (Refused refusal)) ends e = absurd (cc)
no_out old new (Err ImageFault) ends e = absurd (cc)
no_out old new (Err OutOfMemory) ends e = absurd (cc)
no_out old new (Err SourceFault) ends e = absurd ends
no_out old new (Err OutFault) ends e = absurd ends

no_source : (old new : Seen) (answer : Result (List ℕ) Stop) → IfErr answer (EndsMirrors old new) → IsErrOf answer SourceFault → ⊥
no_source old new (Ok text) ends e = absurd (cc)
no_source old new (Err (Refused refusal)) ends e = absurd (cc)
no_source old new (Err ImageFault) ends e = absurd (cc)
no_source old new (Err OutOfMemory) ends e = absurd (cc)
no_source old new (Err SourceFault) ends e = absurd ends
no_source old new (Err OutFault) ends e = absurd ends

unread_by : (old new : Seen) (answer : Result (List ℕ) Stop) → IfErr answer (EndsMirrors old new) → IfErr answer (λ stop. (MayHaveRead false stop → ⊥) → new.sectors_read ≡ old.sectors_read)
unread_by old new (Ok text) ends = tt
unread_by old new (Err (Refused refusal)) ends = λ h. ap (λ (s : Seen). s.sectors_read) ends
unread_by old new (Err ImageFault) ends = λ h. absurd (h tt)
unread_by old new (Err OutOfMemory) ends = λ h. absurd (h refl)
unread_by old new (Err SourceFault) ends = absurd ends
unread_by old new (Err OutFault) ends = absurd ends

told_text : (asked : MirrorWords) (names : ℕ) (attached : List Image) (told : Option (List (List ℕ))) (answer : Result (List ℕ) Stop) →
    IfOk answer (λ text. IfSome told (λ bytes. text ≡ mirrors_text bytes (length attached) (ask_of asked names (end_of asked.end attached)) asked.from asked.size asked.span)) →
    IfOk answer (λ text. IfSome (mirrors_output asked names attached told) (λ printed. text ≡ printed))
unfolding mirrors_output
told_text asked names attached told (Err stop) h = tt
told_text asked names attached None (Ok text) h = tt
told_text asked names attached (Some bytes) (Ok text) h = h

-- the answer where the images are not refused
pub mirrors_answers : (asked : MirrorWords) (names : ℕ) (old new : Seen) (source : Stream) (ask : NearAsk) (answer : Result (List ℕ) Stop) → limits_fault asked.end names old.attached ≡ None → length old.attached ≡ min names 65536 →
    ask ≡ ask_of asked names (end_of asked.end old.attached) →
    IfOk answer (λ text. IfSome (told_all old.attached) (λ bytes. text ≡ mirrors_text bytes (length old.attached) ask asked.from asked.size asked.span)) →
    Refuses (product_refusal (length old.attached) ask asked.from) answer → Orders (product_refusal (length old.attached) ask asked.from) old.sectors_read new.sectors_read None None answer → IfErr answer (EndsMirrors old new) →
    OnlyReads old new (page_reads (told_all old.attached) (length old.attached) ask asked.from asked.size asked.span (is_cut answer)) → OnOk answer (new.faults ≡ old.faults) →
    Answers (mirrors_job asked) (named names old.attached) (around old source) (around new source) answer
mirrors_answers asked names old new source ask answer none count is text refuses order ends reads quiet =
    let same : product_refusal (length old.attached) ask asked.from ≡ mirrors_refusal asked names old.attached
    = ap (λ (a : NearAsk). product_refusal (length old.attached) a asked.from) is ∙ sym (by_product asked names old.attached none) in
    let few = (no_limits asked.end names old.attached none).few in
    let all : names ≡ length old.attached = omega arith in
    let range : page_reads (told_all old.attached) (length old.attached) ask asked.from asked.size asked.span (is_cut answer) ≡ mirrors_reads asked old.attached (is_cut answer)
    = ap (λ (a : NearAsk). page_reads (told_all old.attached) (length old.attached) a asked.from asked.size asked.span (is_cut answer)) (is ∙ ap (λ (n : ℕ). ask_of asked n (end_of asked.end old.attached)) all) in
    let within = subst (λ (n : ℕ). OnlyReads old new n) range reads in
    record {
      refuses = λ said says. subst (λ (r : Option Refusal). Refuses r answer) same refuses;
      text = λ said says. told_text asked names old.attached (told_all old.attached) answer
          (subst (λ (a : NearAsk). IfOk answer (λ text. IfSome (told_all old.attached) (λ bytes. text ≡ mirrors_text bytes (length old.attached) a asked.from asked.size asked.span))) is text);
      order = λ said says. subst (λ (r : Option Refusal). Orders r old.sectors_read new.sectors_read None None answer) same order;
      reads = λ said says. within.sectors_read;
      takes = refl;
      heeds = tt;
      causes = record {
        images = images_raise old new (page_reads (told_all old.attached) (length old.attached) ask asked.from asked.size asked.span (is_cut answer)) answer reads quiet ends;
        source = no_raise SourceFault source.faults answer (no_source old new answer ends);
        unput = no_out old new answer ends;
        unread = unread_by old new answer ends;
      };
      apart = λ e. absurd (cc);
      world = reads.world;
    }

-- what was read for a page that was made
made_read : (old new : Seen) (images : ℕ) (ask : NearAsk) (from span : ℕ) (result : Result NearPage NearFault) (page : NearPage) → result ≡ Ok page →
    OnlyReads old new (images * near_cost images ask from (tested_to (stop_of (near_total images ask) from span) result)) → OnlyReads old new (images * near_cost images ask from page.next)
made_read old new images ask from span result page is reads =
    subst (λ (r : Result NearPage NearFault). OnlyReads old new (images * near_cost images ask from (tested_to (stop_of (near_total images ask) from span) r))) is reads

-- no more is read than up to where the next page begins
pub page_read : (told : Option (List (List ℕ))) (old new : Seen) (images : ℕ) (ask : NearAsk) (from size span : ℕ) (result : Result NearPage NearFault) (page : NearPage) → result ≡ Ok page →
    IfSome told (λ bytes. IsNearPage bytes images ask from size span page) → page.next ≤ stop_of (near_total images ask) from span →
    OnlyReads old new (images * near_cost images ask from (tested_to (stop_of (near_total images ask) from span) result)) → OnlyReads old new (page_reads told images ask from size span false)
page_read None old new images ask from size span result page made is within reads =
    reads_up old new (made_read old new images ask from span result page made reads) (cost_up images ask from page.next (stop_of (near_total images ask) from span) within)
page_read (Some bytes) old new images ask from size span result page made is within reads =
    subst (λ (to : ℕ). OnlyReads old new (images * near_cost images ask from to)) is.goes_on (made_read old new images ask from span result page made reads)

-- nor than for the whole range
pub range_read : (old new : Seen) (images : ℕ) (ask : NearAsk) (from span : ℕ) (result : Result NearPage NearFault) (page : NearPage) → result ≡ Ok page → page.next ≤ stop_of (near_total images ask) from span →
    OnlyReads old new (images * near_cost images ask from (tested_to (stop_of (near_total images ask) from span) result)) →
    OnlyReads old new (images * near_cost images ask from (stop_of (near_total images ask) from span))
range_read old new images ask from span result page made within reads =
    reads_up old new (made_read old new images ask from span result page made reads) (cost_up images ask from page.next (stop_of (near_total images ask) from span) within)

-- where memory ran out the work was cut short
pub cut_read : {T : Type 0} (old new : Seen) (most : Bool → ℕ) (result : Result T Stop) → IsErrAnd result (λ stop. stop ≡ OutOfMemory) → OnlyReads old new (most true) → OnlyReads old new (most (is_cut result))
cut_read old new most (Ok text) is reads = absurd is
cut_read old new most (Err (Refused refusal)) is reads = absurd (cc)
cut_read old new most (Err ImageFault) is reads = reads
cut_read old new most (Err OutOfMemory) is reads = reads
cut_read old new most (Err SourceFault) is reads = absurd (cc)
cut_read old new most (Err OutFault) is reads = absurd (cc)
