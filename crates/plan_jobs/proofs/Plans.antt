-- A text that was read, and the plan that it says.
use Rattle.std.proofs.Common.{◌≡◌, ℕ, ◌<◌, ◌≤◌, Bool, cond, List, ◌∷◌, length, None, Some, Option, Ok, Err, IfSome, sym, ap, ◌∙◌, subst, arith}
use Rattle.std.specs.Option.{option_map}
use Rattle.std.proofs.lemmas.Bool.{lt-ltb, le-ltb}
use Rattle.outside.specs.Seen.{Image}
use Rattle.plan_text.specs.PlanText.{ReadsPlan}
use Rattle.plan_text.proofs.PlanEnds.{one_spelling}
use Rattle.plan_text.proofs.RefusedLines.{one_line_is_refused}
use Rattle.search_plan.specs.Plans.{IsPlan}
use Rattle.raid_params.specs.declared.limits.TheConstants.{MOST}
use Rattle.search_plan.specs.declared.limits.TheConstants.{PLAN_BYTES}
use Rattle.search_plan.specs.declared.plan.Plan.{Plan}
use Rattle.plan_text.specs.declared.fault.PlanFault.TheVariants.{Line as PlanLineOf}
use Rattle.run_ends.specs.Agreement.{plan_fault}
use Rattle.plan_jobs.specs.Preparing.{EndsPreparing, IsPlanless, IsPrepared}
use Rattle.plan_jobs.specs.Plans.{IsTextOf, NoPlan, PlanReading, Reads, SaysAsPlan, plan_refusal, read_refusal}
use Rattle.run_ends.specs.Stops.{IsTextless, first_of}
use Rattle.run_ends.specs.declared.agreement.Disagreement.{Disagreement}
use Rattle.run_ends.specs.declared.stop.Refusal.{Refusal}
use Rattle.run_ends.specs.declared.stop.Refusal.TheVariants.{PlanLine, PlanIsLong, Images}
use Rattle.run_ends.specs.declared.stop.Stop.{Stop}
use Rattle.run_ends.specs.declared.stop.Stop.TheVariants.{Refused, ImageFault, SourceFault, OutFault, OutOfMemory}

-- a text that was read as a plan says that plan
says_plan : (text : List ℕ) (plan : Plan) (read : PlanReading) → ReadsPlan text (Ok plan) → IsTextOf text read → read ≡ Reads plan
says_plan text plan (NoPlan n) reads is = absurd (is.no_plan plan reads.plan.0 reads.plan.1)
says_plan text plan (Reads other) reads is = ap (λ (p : Plan). Reads p) (one_spelling other plan is.0 reads.plan.0 (sym is.1 ∙ reads.plan.1))

-- a text that was read as none says the line from which on it is none
says_none : (text : List ℕ) (number : ℕ) (read : PlanReading) → ReadsPlan text (Err (PlanLineOf number)) → IsTextOf text read → read ≡ NoPlan number
says_none text number (NoPlan n) reads is = ap (λ (k : ℕ). NoPlan k) (one_line_is_refused text n number is reads.fault)
says_none text number (Reads plan) reads is = absurd (reads.fault.no_plan plan is.0 is.1)

short_refusal : (text : List ℕ) (read : PlanReading) (names : ℕ) (attached : List Image) (further : Plan → List (Option Refusal)) → length text ≤ PLAN_BYTES →
    plan_refusal text read names attached further ≡ read_refusal read names attached further
unfolding plan_refusal
short_refusal text read names attached further short =
    ap (λ (b : Bool). cond b (Some PlanIsLong) (read_refusal read names attached further)) (le-ltb PLAN_BYTES (length text) short)

long_refusal : (text : List ℕ) (read : PlanReading) (names : ℕ) (attached : List Image) (further : Plan → List (Option Refusal)) → PLAN_BYTES < length text →
    plan_refusal text read names attached further ≡ Some PlanIsLong
unfolding plan_refusal
long_refusal text read names attached further long =
    ap (λ (b : Bool). cond b (Some PlanIsLong) (read_refusal read names attached further)) (lt-ltb PLAN_BYTES (length text) long)

too_long : (left : Option (List ℕ)) (names : ℕ) (attached : List Image) → IfSome left (λ text. PLAN_BYTES < length text) →
    EndsPreparing left names attached (Refused PlanIsLong)
too_long None names attached long = tt
too_long (Some text) names attached long = ((NoPlan 0, λ short. absurd (omega arith)), λ read further is. long_refusal text read names attached further long)

-- the text is wanting
pub text_ends : (left : Option (List ℕ)) (names : ℕ) (attached : List Image) (stop : Stop) → IsTextless PLAN_BYTES PlanIsLong left stop → EndsPreparing left names attached stop
text_ends left names attached (Refused refusal) ends =
    subst (λ (r : Refusal). EndsPreparing left names attached (Refused r)) (sym ends.0) (too_long left names attached ends.1)
text_ends left names attached ImageFault ends = absurd ends
text_ends left names attached SourceFault ends = tt
text_ends left names attached OutFault ends = absurd ends
text_ends left names attached OutOfMemory ends = tt

-- the text is no plan
pub not_a_plan : (left : Option (List ℕ)) (names : ℕ) (attached : List Image) (text : List ℕ) (number : ℕ) → IfSome left (λ bytes. text ≡ bytes) → length text ≤ PLAN_BYTES → ReadsPlan text (Err (PlanLineOf number)) →
    EndsPreparing left names attached (Refused (PlanLine number))
not_a_plan None names attached text number is short reads = tt
not_a_plan (Some bytes) names attached text number is short reads =
    let P : List ℕ → Type 0 = λ xs. ((read : PlanReading) × SaysAsPlan xs read)
    × ((read : PlanReading) (further : Plan → List (Option Refusal)) → SaysAsPlan xs read → plan_refusal xs read names attached further ≡ Some (PlanLine number)) in
    subst P is (
      (NoPlan number, λ within. reads.fault),
      λ read further says. short_refusal text read names attached further short
          ∙ ap (λ (r : PlanReading). read_refusal r names attached further) (says_none text number read reads (says short)),
    )

-- the images do not agree
pub disagrees : (left : Option (List ℕ)) (names : ℕ) (attached : List Image) (text : List ℕ) (plan : Plan) (fault : Disagreement) → IfSome left (λ bytes. text ≡ bytes) → length text ≤ PLAN_BYTES → ReadsPlan text (Ok plan) →
    plan_fault plan.lengths.items names attached ≡ Some fault → EndsPreparing left names attached (Refused (Images fault))
disagrees None names attached text plan fault is short reads different = tt
disagrees (Some bytes) names attached text plan fault is short reads different =
    let P : List ℕ → Type 0 = λ xs. ((read : PlanReading) × SaysAsPlan xs read)
    × ((read : PlanReading) (further : Plan → List (Option Refusal)) → SaysAsPlan xs read → plan_refusal xs read names attached further ≡ Some (Images fault)) in
    subst P is (
      (Reads plan, λ within. reads.plan),
      λ read further says. short_refusal text read names attached further short
          ∙ ap (λ (r : PlanReading). read_refusal r names attached further) (says_plan text plan read reads (says short))
          ∙ ap (λ r. first_of (option_map (λ (f : Disagreement). Images f) r ∷ further plan)) different,
    )

-- they agree
pub is_prepared : (left : Option (List ℕ)) (names : ℕ) (attached : List Image) (text : List ℕ) (plan : Plan) → IfSome left (λ bytes. text ≡ bytes) → length text ≤ PLAN_BYTES → ReadsPlan text (Ok plan) →
    plan_fault plan.lengths.items names attached ≡ None → IsPrepared left names attached plan
is_prepared None names attached text plan is short reads same = tt
is_prepared (Some bytes) names attached text plan is short reads same =
    let P : List ℕ → Type 0 = λ xs. SaysAsPlan xs (Reads plan) × ((read : PlanReading) → SaysAsPlan xs read →
    (read ≡ Reads plan) × ((further : Plan → List (Option Refusal)) → plan_refusal xs read names attached further ≡ first_of (further plan))) in
    subst P is (
      λ within. reads.plan,
      λ read says. (
        says_plan text plan read reads (says short),
        λ further. short_refusal text read names attached further short
            ∙ ap (λ (r : PlanReading). read_refusal r names attached further) (says_plan text plan read reads (says short))
            ∙ ap (λ r. first_of (option_map (λ (f : Disagreement). Images f) r ∷ further plan)) same,
      ),
    )

-- a plan has few lengths
pub few_lengths : (plan : Plan) → IsPlan plan → length plan.lengths.items ≤ MOST
few_lengths plan is = is.lengths.most

-- why a text that was read gives no plan
pub plan_ends : (left : Option (List ℕ)) (names : ℕ) (attached : List Image) (text : List ℕ) (stop : Stop) → IfSome left (λ bytes. text ≡ bytes) → length text ≤ PLAN_BYTES → IsPlanless text stop → EndsPreparing left names attached stop
plan_ends left names attached text (Refused refusal) is short ends =
    subst (λ (r : Refusal). EndsPreparing left names attached (Refused r)) (sym ends.1) (not_a_plan left names attached text ends.0 is short ends.2)
plan_ends left names attached text ImageFault is short ends = absurd ends
plan_ends left names attached text SourceFault is short ends = absurd ends
plan_ends left names attached text OutFault is short ends = absurd ends
plan_ends left names attached text OutOfMemory is short ends = tt
