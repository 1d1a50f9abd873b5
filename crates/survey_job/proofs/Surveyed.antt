-- What is asked of a survey, and how it ends.
use Rattle.std.proofs.Common.{◌≡◌, refl, OnOk, ℕ, ◌<◌, ◌≤◌, ◌^◌, ◌⊎◌, min, max, Bool, true, false, cond, nat_eq, nat_le, get_or, slice_index, zero, ◌+◌, ◌++◌, List, [], length, All, None, Some, Option, Result, Ok, Err, IfOk, IfErr, IfSome, sym, ap, ◌∙◌, subst, arith, inl, inr, ◌∷◌, suc}
use Rattle.std.proofs.lemmas.Bool.Decides.{nat_tests}
use Rattle.std.specs.Option.{option_map, option_or}
use Rattle.std.specs.List.{find, range_with_len}
use Rattle.std.proofs.lemmas.Bool.{cases_Bool, cases_lt}
use Rattle.std.proofs.lemmas.List.{get_or_default}
use Rattle.std.proofs.lemmas.List.Elements.{All-cons, All-nil}
use Rattle.outside.specs.Attached.{told_all}
use Rattle.outside.specs.Seen.{Image, OnlyReads, Seen, lengths_of}
use Rattle.outside.specs.Streams.{Stream}
use Rattle.raid_params.specs.declared.limits.TheConstants.{MOST}
use Rattle.command_words.specs.Commands.{AreAsked}
use Rattle.command_words.specs.declared.command.SurveyWords.{SurveyWords}
use Rattle.run_ends.proofs.Lengths.{end_near}
use Rattle.run_ends.proofs.Limits.{all_reach, no_limits}
use Rattle.run_ends.specs.Agreement.{end_of, limits_fault, long_fault, long_image}
use Rattle.run_ends.proofs.CutShort.{cut_ends, cut_images, cut_other, cut_read}
use Rattle.run_ends.proofs.Printed.{no_raise, order_allowed}
use Rattle.run_ends.specs.Cuts.{CutsShort}
use Rattle.run_ends.specs.Jobs.{Answers, around, named}
use Rattle.run_ends.specs.declared.agreement.Disagreement.{Disagreement}
use Rattle.run_ends.specs.declared.stop.Stop.{Stop}
use Rattle.run_ends.specs.declared.stop.Refusal.TheVariants.{Images}
use Rattle.run_ends.specs.declared.stop.Stop.TheVariants.{SourceFault, OutFault}
use Rattle.plan_text.specs.Parts.{AreMembers}
use Rattle.plan_text.specs.PlanText.{plan_text}
use Rattle.landmark_rules.specs.declared.marks.Group.{Group}
use Rattle.raid_params.specs.declared.types.Bounds.{Bounds}
use Rattle.search_plan.specs.declared.plan.Plan.{Plan}
use Rattle.search_scope.specs.declared.scope.Limits.{Limits}
use Rattle.survey_engine.specs.Origins.{headers_of, origins_of}
use Rattle.survey_engine.specs.Owners.{groups_of}
use Rattle.survey_engine.specs.Surveys.{Adds, Repeats, found_in, sized_in, survey_reads as reads_of, IsSurveyable}
use Rattle.survey_engine.specs.Tables.{table_groups}
use Rattle.survey_engine.specs.Telling.{told as told_sightings}
use Rattle.survey_engine.specs.declared.ask.Ask.{Ask}
use Rattle.asked_values.proofs.Asked.{as_asked, window_is}
use Rattle.asked_values.specs.Asked.{members_for}
use Rattle.survey_job.specs.Surveying.{ask_of, survey_fault, survey_job, survey_output, survey_plan, survey_reads, survey_refusal}

-- the images are refused, or not
pub images_refused : (asked : SurveyWords) (names : ℕ) (attached : List Image) (fault : Disagreement) → survey_fault asked names attached ≡ Some fault → survey_refusal asked names attached ≡ Some (Images fault)
unfolding survey_refusal
images_refused asked names attached fault e = ap (option_map (λ (f : Disagreement). Images f)) e

pub images_allowed : (asked : SurveyWords) (names : ℕ) (attached : List Image) → survey_fault asked names attached ≡ None → survey_refusal asked names attached ≡ None
unfolding survey_refusal
images_allowed asked names attached e = ap (option_map (λ (f : Disagreement). Images f)) e

-- the numbers of members to try are allowed
one_number : (names : ℕ) → 1 ≤ names → names ≤ MOST → AreMembers (max names 2 ∷ [])
one_number names some most = (
  record { some = omega arith; rising = λ k lt. absurd (omega arith) },
  All-cons (λ n. (2 ≤ n) × (n ≤ MOST)) (max names 2) [] (omega arith, omega arith) (All-nil (λ n. (2 ≤ n) × (n ≤ MOST))),
)

members_are : (asked : List ℕ) (names : ℕ) → 1 ≤ names → names ≤ MOST → (asked ≡ []) ⊎ AreMembers asked → AreMembers (members_for asked names)
members_are [] names some most given = one_number names some most
members_are (n ∷ ns) names some most (inl e) = absurd (cc)
members_are (n ∷ ns) names some most (inr are) = subst AreMembers (sym (as_asked n ns names)) are

-- where no image is refused none is for either cause
first_none : (first last : Option Disagreement) → option_or first last ≡ None → (first ≡ None) × (last ≡ None)
first_none None last e = (refl, e)
first_none (Some fault) last e = absurd (cc)

limits_allowed : (asked : SurveyWords) (names : ℕ) (attached : List Image) → survey_fault asked names attached ≡ None → limits_fault asked.end names attached ≡ None
limits_allowed asked names attached none = (first_none (limits_fault asked.end names attached) (cond asked.each (long_fault attached) None) none).0

long_allowed : (asked : SurveyWords) (names : ℕ) (attached : List Image) → survey_fault asked names attached ≡ None → asked.each ≡ true → long_fault attached ≡ None
long_allowed asked names attached none each =
    ap (λ (b : Bool). cond b (long_fault attached) None) (sym each) ∙ (first_none (limits_fault asked.end names attached) (cond asked.each (long_fault attached) None) none).1

-- all images are attached where there are not too many
pub all_attached : (asked : SurveyWords) (names : ℕ) (attached : List Image) → limits_fault asked.end names attached ≡ None → length attached ≡ min names 65536 → (length attached ≡ names) × (names ≤ MOST)
all_attached asked names attached none count =
    let few = (no_limits asked.end names attached none).few in
    (omega (arith, few, count), few)

-- none of these images is too long
map_none : (r : Option ℕ) (f : ℕ → Disagreement) → option_map f r ≡ None → r ≡ None
map_none None f e = refl
map_none (Some i) f e = absurd (cc)

find_nothing : (attached : List Image) → long_fault attached ≡ None → long_image (lengths_of attached) ≡ None
find_nothing attached e = map_none (long_image (lengths_of attached)) _ e

too_long : (n : ℕ) → nat_le (2 ^ 54) n ≡ false → n < 2 ^ 54
too_long n is = grind (arith, nat_tests)

none_in : (p : ℕ → Bool) (a n k : ℕ) → find p (range_with_len a n) ≡ None → a ≤ k → k < a + n → p k ≡ false
none_in p a zero k h from to = absurd (omega arith)
none_in p a (suc n) k h from to =
    elim (cases_Bool (p a)) [
      | inl is ↦ absurd (let e : Some a ≡ None = sym (ap (λ (b : Bool). cond b (Some a) (find p (range_with_len (a + 1) n))) is) ∙ h in cc)
      | inr is ↦ (let rest : find p (range_with_len (a + 1) n) ≡ None = sym (ap (λ (b : Bool). cond b (Some a) (find p (range_with_len (a + 1) n))) is) ∙ h in
          elim (cases_lt a k) [
            | inl more ↦ none_in p (a + 1) n k rest (omega arith) (omega arith)
            | inr same ↦ (let e : a ≡ k = omega arith in ap p (sym e) ∙ is)
          ])
    ]

none_long : (lengths : List ℕ) → long_image lengths ≡ None → All (λ n. n < 2 ^ 54) lengths
none_long lengths none k d below =
    subst (λ (n : ℕ). n < 2 ^ 54) (get_or_default lengths k 0 d below)
    (too_long (get_or lengths k 0) (none_in (λ i. nat_le (2 ^ 54) (slice_index lengths i)) 0 (length lengths) k none (omega arith) (omega arith)))

-- what is not refused can be surveyed
pub surveyable : (asked : SurveyWords) (names : ℕ) (attached : List Image) → survey_fault asked names attached ≡ None → AreAsked asked → All (λ image. image.sectors < 2 ^ 55) attached → length attached ≡ min names 65536 → IsSurveyable (ask_of asked names (end_of asked.end attached)) attached
surveyable asked names attached none good small count =
    let allowed = no_limits asked.end names attached (limits_allowed asked names attached none) in
    let few = allowed.few in
    let some = allowed.some in
    let window = window_is asked.window (end_of asked.end attached) (end_near asked.end attached small good.end) good.window in
    record {
      ask_is = record {
        bounds = good.bounds (record { items = members_for asked.bounds.members.items names }) (members_are asked.bounds.members.items names some few good.members);
        limits = record { badrows = good.badrows; some_window = window.0; window = window.1 };
        tests = good.tests;
        unit = good.unit;
      };
      some = omega arith;
      most = omega arith;
      short = small;
      long = all_reach attached (end_of asked.end attached) allowed.reaches;
      each = λ e. record { own = (good.each e).0; short = none_long (lengths_of attached) (find_nothing attached (long_allowed asked names attached none e)); near = (good.each e).1 };
    }

-- the text of the plan, where the bytes are known
told_text : (asked : SurveyWords) (names : ℕ) (attached : List Image) (told : Option (List (List ℕ))) (answer : Result (List ℕ) Stop) →
    IfOk answer (λ text. IfSome told (λ bytes. text ≡ plan_text (survey_plan (ask_of asked names (end_of asked.end attached)) attached bytes))) →
    IfOk answer (λ text. IfSome (survey_output asked names attached told) (λ printed. text ≡ printed))
unfolding survey_output
told_text asked names attached told (Err stop) h = tt
told_text asked names attached None (Ok text) h = tt
told_text asked names attached (Some bytes) (Ok text) h = h

pub text_told : (asked : SurveyWords) (names end : ℕ) (attached : List Image) (told : Option (List (List ℕ))) (answer : Result (List ℕ) Stop) (ask : Ask) →
    end ≡ end_of asked.end attached → ask ≡ ask_of asked names end → IfOk answer (λ text. IfSome told (λ bytes. text ≡ plan_text (survey_plan ask attached bytes))) →
    IfOk answer (λ text. IfSome (survey_output asked names attached told) (λ printed. text ≡ printed))
text_told asked names end attached told answer ask same is h =
    told_text asked names attached told answer
    (subst (λ (a : Ask). IfOk answer (λ text. IfSome told (λ bytes. text ≡ plan_text (survey_plan a attached bytes)))) (is ∙ ap (ask_of asked names) same) h)

plan_with : List ℕ → ℕ → Bounds → Limits → List ℕ → ℕ → ℕ → List Group → Bool → Plan
plan_with lengths end bounds limits origins misfits least groups each = record {
  lengths = record { items = lengths };
  end = end;
  bounds = bounds;
  limits = limits;
  tests = record { origins = record { items = origins }; misfits = misfits; least = least };
  groups = groups;
  each = each;
}

-- the plan that repeats what was asked and adds what was found
survey_is : (ask : Ask) (attached : List Image) (bytes : List (List ℕ)) (plan : Plan) → Repeats ask attached plan → Adds ask attached bytes plan → plan ≡ survey_plan ask attached bytes
unfolding plan_with
survey_is ask attached bytes plan repeats adds =
    let lengths = repeats.lengths in
    let end = repeats.end in
    let bounds = repeats.bounds in
    let limits = repeats.limits in
    let misfits = repeats.misfits in
    let least = repeats.least in
    let each = repeats.each in
    let groups = adds.groups in
    let origins = adds.origins in
    let same : plan_with plan.lengths.items plan.end plan.bounds plan.limits plan.tests.origins.items plan.tests.misfits plan.tests.least plan.groups plan.each
    ≡ plan_with (lengths_of attached) ask.end ask.bounds ask.limits (origins_of ask.tests.origins.items (lengths_of attached) bytes (headers_of ask.kinds.gpt (found_in ask attached bytes))) ask.tests.misfits ask.tests.least (groups_of ask.kinds (told_sightings ask.kinds (lengths_of attached) bytes (sized_in ask attached bytes)) ++ table_groups ask.kinds.mft (lengths_of attached) bytes (found_in ask attached bytes)) ask.each = cc in
    same

-- and its text
pub plan_told : (ask : Ask) (attached : List Image) (told : Option (List (List ℕ))) (plan : Plan) (text : List ℕ) → Repeats ask attached plan → IfSome told (λ bytes. Adds ask attached bytes plan) → text ≡ plan_text plan →
    IfSome told (λ bytes. text ≡ plan_text (survey_plan ask attached bytes))
plan_told ask attached None plan text repeats adds is = tt
plan_told ask attached (Some bytes) plan text repeats adds is = is ∙ ap plan_text (survey_is ask attached bytes plan repeats adds)

-- what is read where the images are not refused: each of them is attached
pub read_for : (asked : SurveyWords) (names end : ℕ) (old new : Seen) (ask : Ask) → survey_fault asked names old.attached ≡ None → length old.attached ≡ min names 65536 → end ≡ end_of asked.end old.attached → ask ≡ ask_of asked names end →
    OnlyReads old new (reads_of ask old.attached) → OnlyReads old new (survey_reads asked old.attached)
read_for asked names end old new ask none count same is reads =
    let few = (no_limits asked.end names old.attached (limits_allowed asked names old.attached none)).few in
    let all : names ≡ length old.attached = omega (arith, few, count) in
    subst (λ (a : Ask). OnlyReads old new (reads_of a old.attached)) (is ∙ ap (ask_of asked names) same ∙ ap (λ (n : ℕ). ask_of asked n (end_of asked.end old.attached)) all) reads

-- the answer of a survey that is not refused
pub survey_answers : (asked : SurveyWords) (names : ℕ) (old new : Seen) (source : Stream) (answer : Result (List ℕ) Stop) → survey_fault asked names old.attached ≡ None →
    IfOk answer (λ text. IfSome (survey_output asked names old.attached (told_all old.attached)) (λ printed. text ≡ printed)) → OnlyReads old new (survey_reads asked old.attached) → OnOk answer (new.faults ≡ old.faults) → IfErr answer (CutsShort old new) →
    Answers (survey_job asked) (named names old.attached) (around old source) (around new source) answer
survey_answers asked names old new source answer none text reads quiet ends =
    let allowed = images_allowed asked names old.attached none in
    record {
      refuses = λ said says. cut_ends old new answer (survey_refusal asked names old.attached) allowed ends;
      text = λ said says. text;
      order = λ said says. order_allowed (survey_refusal asked names old.attached) old.sectors_read new.sectors_read None None answer allowed;
      reads = λ said says. reads.sectors_read;
      takes = refl;
      heeds = tt;
      causes = record {
        images = cut_images old new (survey_reads asked old.attached) answer reads quiet ends;
        source = no_raise SourceFault source.faults answer (cut_other old new answer SourceFault ends (λ h. h));
        unput = cut_other old new answer OutFault ends (λ h. h);
        unread = cut_read old new answer ends;
      };
      apart = λ e. absurd (cc);
      world = reads.world;
    }
