-- What is known once a plan was read and compared with the images, or could not be.
use Rattle.std.proofs.Common.{◌≡◌, ℕ, zero, suc, ◌+◌, ◌<◌, min, Bool, true, false, not, cond, nat_eq, List, length, None, Some, Option, Result, Ok, Err, IfSome, IfOk, OnOk, IsErrOf, refl, sym, subst, arith, slice_index}
use Rattle.std.specs.List.{find, range_with_len}
use Rattle.std.specs.Option.{option_map}
use Rattle.std.specs.Io.KnownBytes.{IsAtEnd}
use Rattle.std.proofs.lemmas.Bool.{eqb-true}
use Rattle.std.proofs.lemmas.Grind.{same_number_lists}
use Rattle.std.proofs.lemmas.List.{length-map}
use Rattle.outside.specs.Attached.{told_all}
use Rattle.outside.specs.Seen.{Image, Seen, lengths_of}
use Rattle.outside.specs.Streams.{Stream}
use Rattle.search_plan.specs.Plans.{IsPlan, AgreeWith}
use Rattle.search_plan.specs.declared.limits.TheConstants.{PLAN_BYTES}
use Rattle.search_plan.specs.declared.plan.Plan.{Plan}
use Rattle.run_ends.proofs.Printed.{ends_unput, keeps_itself, no_raise, raises_same, stays}
use Rattle.run_ends.specs.Agreement.{count_fault, length_fault, other_length, plan_fault}
use Rattle.run_ends.specs.Counts.{Raises}
use Rattle.run_ends.specs.Jobs.{Answers, Does, IsOwn, IsSaid, Orders, Refuses, around, is_cut, named}
use Rattle.run_ends.specs.Pieces.Pieces.{Sectors}
use Rattle.run_ends.specs.Source.{TakesFew}
use Rattle.run_ends.specs.Stops.{EndsBy, first_of}
use Rattle.run_ends.specs.declared.stop.Refusal.{Refusal}
use Rattle.run_ends.specs.declared.stop.Stop.{Stop}
use Rattle.run_ends.specs.declared.stop.Stop.TheVariants.{Refused, ImageFault, SourceFault, OutFault, OutOfMemory}
use Rattle.plan_jobs.specs.Preparing.{EndsPreparing, IsPrepared}
use Rattle.plan_jobs.specs.Plans.{AnswersOver, IfPlan, NoPlan, OverPlan, PlanReading, PlanSaid, Reads, SaysAsPlan, plan_job, plan_refusal, printed_over}

no_other : (given planned : List ℕ) (a n k : ℕ) → find (λ i. not (nat_eq (slice_index given i) (slice_index planned i))) (range_with_len a n) ≡ None → k < n → slice_index given (a + k) ≡ slice_index planned (a + k)
no_other given planned a zero k e lt = absurd (omega arith)
no_other given planned a (suc n) k e lt =
    step (nat_eq (slice_index given a) (slice_index planned a)) refl e k lt (λ m none below. no_other given planned (a + 1) n m none below)
  where
    step : (b : Bool) → nat_eq (slice_index given a) (slice_index planned a) ≡ b → cond (not b) (Some a) (find (λ i. not (nat_eq (slice_index given i) (slice_index planned i))) (range_with_len (a + 1) n)) ≡ None → (k : ℕ) → k < suc n →
        ((m : ℕ) → find (λ i. not (nat_eq (slice_index given i) (slice_index planned i))) (range_with_len (a + 1) n) ≡ None → m < n → slice_index given (a + 1 + m) ≡ slice_index planned (a + 1 + m)) →
        slice_index given (a + k) ≡ slice_index planned (a + k)
    step false is h k lt more = absurd (cc)
    step true is h zero lt more = let same = eqb-true (slice_index given a) (slice_index planned a) is in let z : a + 0 ≡ a = omega arith in rw z same
    step true is h (suc k) lt more = let z : a + suc k ≡ (a + 1) + k = omega arith in rw z (more k h (omega arith))

lengths_agree : (given planned : List ℕ) → length given ≡ length planned → other_length given planned ≡ None → given ≡ planned
lengths_agree given planned same none =
    same_number_lists given planned same (λ k lt. let z : 0 + k ≡ k = omega arith in
    subst (λ (m : ℕ). slice_index given m ≡ slice_index planned m) z (no_other given planned 0 (length planned) k none (omega arith)))

agreed_count : (plan : Plan) (names : ℕ) (attached : List Image) → plan_fault plan.lengths.items names attached ≡ None → (names ≡ length plan.lengths.items) × (other_length (lengths_of attached) plan.lengths.items ≡ None)
agreed_count plan names attached none = by_count (nat_eq names (length plan.lengths.items)) refl none
  where
    by_length : (r : Option ℕ) → option_map (length_fault (lengths_of attached) plan.lengths.items) r ≡ None → r ≡ None
    by_length None h = refl
    by_length (Some i) h = absurd (cc)

    by_count : (b : Bool) → nat_eq names (length plan.lengths.items) ≡ b →
        cond (not b) (Some (count_fault names (length plan.lengths.items))) (option_map (length_fault (lengths_of attached) plan.lengths.items) (other_length (lengths_of attached) plan.lengths.items)) ≡ None →
        (names ≡ length plan.lengths.items) × (other_length (lengths_of attached) plan.lengths.items ≡ None)
    by_count false is h = absurd (cc)
    by_count true is h = (eqb-true names (length plan.lengths.items) is, by_length (other_length (lengths_of attached) plan.lengths.items) h)

-- images that do not disagree with a plan are as many as planned
pub names_agree : (plan : Plan) (names : ℕ) (attached : List Image) → plan_fault plan.lengths.items names attached ≡ None → names ≡ length plan.lengths.items
names_agree plan names attached none = (agreed_count plan names attached none).0

-- and have the planned lengths
pub images_agree : (plan : Plan) (names : ℕ) (attached : List Image) → IsPlan plan → length attached ≡ min names 65536 → plan_fault plan.lengths.items names attached ≡ None → AgreeWith plan attached
images_agree plan names attached is long none =
    let parts = agreed_count plan names attached none in
    let most = is.lengths.most in
    let count = length-map attached (λ (image : Image). image.sectors) in
    let e : names ≡ length plan.lengths.items = parts.0 in
    lengths_agree (lengths_of attached) plan.lengths.items (omega arith) parts.1

-- what holds of the text that is left holds of the text that the source says
said_text : (left : Option (List ℕ)) (Holds : List ℕ → Type 0) (text : List ℕ) → left ≡ Some text → IfSome left Holds → Holds text
said_text left Holds text is all = let P : Option (List ℕ) → Type 0 = λ l. IfSome l Holds in subst P is all

-- why the plan was not read, or the images do not agree with it, is the first refusal or has another cause
ends_by : (left : Option (List ℕ)) (names : ℕ) (attached : List Image) (stop : Stop) (said : PlanSaid) (further : Plan → List (Option Refusal)) → EndsPreparing left names attached stop → left ≡ Some said.text → SaysAsPlan said.text said.plan →
    EndsBy (plan_refusal said.text said.plan names attached further) stop
ends_by left names attached (Refused refusal) said further ends is says =
    let all = said_text left (λ text. ((read : PlanReading) × SaysAsPlan text read)
    × ((read : PlanReading) (further : Plan → List (Option Refusal)) → SaysAsPlan text read → plan_refusal text read names attached further ≡ Some refusal)) said.text is ends in
    all.1 said.plan further says
ends_by left names attached ImageFault said further ends is says = absurd ends
ends_by left names attached SourceFault said further ends is says = tt
ends_by left names attached OutFault said further ends is says = absurd ends
ends_by left names attached OutOfMemory said further ends is says = tt

-- it is a fault neither of the images nor of the output
no_fault : {T : Type 0} (left : Option (List ℕ)) (names : ℕ) (attached : List Image) (stop fault : Stop) → EndsPreparing left names attached stop → (EndsPreparing left names attached fault → ⊥) → IsErrOf {T = T} (Err stop) fault → ⊥
no_fault left names attached stop fault ends none e =
    let f = e in let g : stop ≡ fault = cc in
    let P : Stop → Type 0 = λ s. EndsPreparing left names attached s in none (subst P g ends)

pub if_plan : (read : PlanReading) (Holds : Plan → Type 0) → ((plan : Plan) → Holds plan) → IfPlan read Holds
if_plan (Reads plan) Holds all = all plan
if_plan (NoPlan number) Holds all = tt

-- the text says something where it is refused, and where its plan was read
said_refused : (over : OverPlan) (left : Option (List ℕ)) (names : ℕ) (attached : List Image) (refusal : Refusal) → EndsPreparing left names attached (Refused refusal) → IsSaid (plan_job over) left
said_refused over None names attached refusal ends = tt
said_refused over (Some text) names attached refusal ends = (record { text = text; plan = ends.0.0 }, (refl, ends.0.1))

said_prepared : (over : OverPlan) (left : Option (List ℕ)) (names : ℕ) (attached : List Image) (plan : Plan) → IsPrepared left names attached plan → IsSaid (plan_job over) left
said_prepared over None names attached plan known = tt
said_prepared over (Some text) names attached plan known = (record { text = text; plan = Reads plan }, (refl, known.0))

said_unprepared : (T : Type 0) (over : OverPlan) (left : Option (List ℕ)) (names : ℕ) (attached : List Image) (stop : Stop) → EndsPreparing left names attached stop → IsOwn {T = T} (Err stop) → IsSaid (plan_job over) left
said_unprepared T over left names attached (Refused refusal) ends own = said_refused over left names attached refusal ends
said_unprepared T over left names attached ImageFault ends own = absurd own
said_unprepared T over left names attached SourceFault ends own = absurd own
said_unprepared T over left names attached OutFault ends own = absurd own
said_unprepared T over left names attached OutOfMemory ends own = absurd own

-- a job over a plan that was not read, or with which the images do not agree, is done
pub unprepared : {T : Type 0} (over : OverPlan) (names : ℕ) (seen : Seen) (old new out : Stream) (stop : Stop) → EndsPreparing old.known names seen.attached stop → TakesFew PLAN_BYTES old.known new.known →
    Raises {T = Plan} SourceFault old.faults new.faults (Err stop) → ((plan : Plan) → over.MayRead seen.attached plan (is_cut {T = T} (Err stop)) seen.sectors_read seen.sectors_read) →
    Does {T = T} (plan_job over) (named names seen.attached) (around seen old) (around seen new) out out (Err stop)
unprepared {T} over names seen old new out stop ends takes faults none = record {
  ends = λ said says. ends_unput Sectors (plan_refusal said.text said.plan names seen.attached (over.further names seen.attached)) (printed_over over.text said.plan (told_all seen.attached)) out.known stop
      (ends_by old.known names seen.attached stop said (over.further names seen.attached) ends says.0 says.1);
  order = λ said says all refusal is. record {
    unread = refl;
    unput = keeps_itself out.known;
    no_image_fault = no_fault old.known names seen.attached stop ImageFault ends (λ h. h);
    no_out_fault = no_fault old.known names seen.attached stop OutFault ends (λ h. h);
  };
  reads = λ said says. if_plan said.plan (λ plan. over.MayRead seen.attached plan (is_cut {T = T} (Err stop)) seen.sectors_read seen.sectors_read) none;
  takes = (takes, tt);
  heeds = (λ all refusal some. absurd (cc), λ own. said_unprepared T over old.known names seen.attached stop ends own);
  leaves = record {
    images = no_raise ImageFault seen.faults (Err stop) (no_fault old.known names seen.attached stop ImageFault ends (λ h. h));
    source = raises_same SourceFault stop old.faults new.faults faults;
    out = no_raise OutFault out.faults (Err stop) (no_fault old.known names seen.attached stop OutFault ends (λ h. h));
    unput = λ h. keeps_itself out.known;
    unread = λ h. refl;
  };
  apart = λ e. absurd (cc);
  world = refl;
}

text_told : (over : OverPlan) (plan : Plan) (told : Option (List (List ℕ))) (text : List ℕ) → IfSome told (λ images. text ≡ over.text images plan) → IfSome (printed_over over.text (Reads plan) told) (λ printed. text ≡ printed)
text_told over plan None text h = tt
text_told over plan (Some images) text h = h

text_answered : (over : OverPlan) (plan : Plan) (told : Option (List (List ℕ))) (answer : Result (List ℕ) Stop) → IfOk answer (λ text. IfSome told (λ images. text ≡ over.text images plan)) →
    IfOk answer (λ text. IfSome (printed_over over.text (Reads plan) told) (λ printed. text ≡ printed))
text_answered over plan told (Ok text) h = text_told over plan told text h
text_answered over plan told (Err stop) h = tt

at_ok : {T : Type 0} (answer : Result T Stop) (P : Type 0) → P → OnOk answer P
at_ok (Ok x) P p = p
at_ok (Err stop) P p = tt

-- what a text says once the plan is prepared
abbrev SaysPlan : ℕ → List Image → Plan → List ℕ → Type 0
SaysPlan names attached plan text = SaysAsPlan text (Reads plan) × ((read : PlanReading) → SaysAsPlan text read →
    (read ≡ Reads plan) × ((further : Plan → List (Option Refusal)) → plan_refusal text read names attached further ≡ first_of (further plan)))

-- the answer of a job over a plan that was read, and with which the images agree
pub prepared : (over : OverPlan) (names : ℕ) (old new : Seen) (source taken : Stream) (plan : Plan) (answer : Result (List ℕ) Stop) → IsPrepared source.known names old.attached plan → TakesFew PLAN_BYTES source.known taken.known → IsAtEnd taken.known →
    Raises SourceFault source.faults taken.faults (Ok plan) → AnswersOver over names plan old new answer → Answers (plan_job over) (named names old.attached) (around old source) (around new taken) answer
prepared over names old new source taken plan answer known few end faults over_plan =
    let says_plan = λ (said : PlanSaid) (is : source.known ≡ Some said.text) (says : SaysAsPlan said.text said.plan). (said_text source.known (SaysPlan names old.attached plan) said.text is known).1 said.plan says in
    record {
      refuses = λ said says. subst (λ (refused : Option Refusal). Refuses refused answer) (sym ((says_plan said says.0 says.1).1 (over.further names old.attached))) over_plan.refuses;
      text = λ said says. subst (λ (read : PlanReading). IfOk answer (λ text. IfSome (printed_over over.text read (told_all old.attached)) (λ printed. text ≡ printed))) (sym (says_plan said says.0 says.1).0)
          (text_answered over plan (told_all old.attached) answer over_plan.text);
      order = λ said says. subst (λ (refused : Option Refusal). Orders refused old.sectors_read new.sectors_read None None answer) (sym ((says_plan said says.0 says.1).1 (over.further names old.attached))) over_plan.order;
      reads = λ said says. subst (λ (read : PlanReading). IfPlan read (λ p. over.MayRead old.attached p (is_cut answer) old.sectors_read new.sectors_read)) (sym (says_plan said says.0 says.1).0) over_plan.reads;
      takes = (few, at_ok answer (IsAtEnd taken.known) end);
      heeds = (λ all refusal some. absurd (cc), λ own. said_prepared over source.known names old.attached plan known);
      causes = record {
        images = over_plan.faults;
        source = stays SourceFault source.faults taken.faults answer (faults.stays (λ e. absurd (cc))) over_plan.untaken;
        unput = over_plan.unput;
        unread = over_plan.unread;
      };
      apart = λ e. absurd (cc);
      world = over_plan.world;
    }
