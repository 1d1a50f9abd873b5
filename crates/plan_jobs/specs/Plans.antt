-- What a text says as a plan, and what a job over a plan is.
use Rattle.std.specs.Prelude.{ℕ, ◌≡◌, ◌≤◌, ◌^◌, nat_le, nat_lt, Bool, false, if◌then◌else◌, List, ◌∷◌, length, Result, IfOk, IfErr, IfSome, IsErrOf}
use Rattle.std.specs.Option.{option_map}
use Rattle.std.specs.declared.option.Option.{Option}
use Rattle.std.specs.declared.option.Option.TheVariants.{None, Some}
use Rattle.outside.specs.Attached.{told_all}
use Rattle.outside.specs.Seen.{Image, Seen}
use Rattle.plan_text.specs.PlanText.{plan_text, IsRefusedLine}
use Rattle.search_plan.specs.Plans.{IsPlan}
use Rattle.search_plan.specs.declared.plan.Plan.{Plan}
use Rattle.wide_product.specs.Sets.{wide_total}
use Rattle.run_ends.specs.Agreement.{plan_fault}
use Rattle.run_ends.specs.Counts.{Raises}
use Rattle.run_ends.specs.Jobs.{Job, MayHaveRead, Orders, Refuses, is_cut}
use Rattle.run_ends.specs.Pieces.Pieces.{Sectors}
use Rattle.run_ends.specs.Stops.{first_of}
use Rattle.run_ends.specs.declared.stop.Refusal.{Refusal}
use Rattle.run_ends.specs.declared.stop.Refusal.TheVariants.{PlanIsLong, PlanLine, Images, Many}
use Rattle.run_ends.specs.declared.stop.Stop.{Stop}
use Rattle.run_ends.specs.declared.stop.Stop.TheVariants.{ImageFault, SourceFault, OutFault}

-- what a text says: a plan, or none, and the line from which on it is none
pub data PlanReading : Type 0 where
  Reads : (plan : Plan) → PlanReading
  NoPlan : (number : ℕ) → PlanReading

-- the text says this, and just this
abbrev pub IsTextOf : List ℕ → PlanReading → Type 0
IsTextOf text (Reads plan) = IsPlan plan × (text ≡ plan_text plan)
IsTextOf text (NoPlan number) = IsRefusedLine text number

-- of a text that is too long nothing is said
abbrev pub SaysAsPlan : List ℕ → PlanReading → Type 0
SaysAsPlan text reading = length text ≤ 4194304 → IsTextOf text reading

-- the images against the plan, then what else the command refuses
abbrev pub agreed_refusal : Plan → ℕ → List Image → List (Option Refusal) → Option Refusal
agreed_refusal plan names attached further = first_of (option_map (λ fault. Images fault) (plan_fault plan.lengths.items names attached) ∷ further)

abbrev pub read_refusal : PlanReading → ℕ → List Image → (Plan → List (Option Refusal)) → Option Refusal
read_refusal (NoPlan number) names attached further = Some (PlanLine number)
read_refusal (Reads plan) names attached further = agreed_refusal plan names attached (further plan)

-- the first refusal of a command over a plan: the length of the text, its grammar, the images
-- against the plan, and what else the command refuses
unfoldable pub plan_refusal : List ℕ → PlanReading → ℕ → List Image → (Plan → List (Option Refusal)) → Option Refusal
plan_refusal text reading names attached further =
    if nat_lt 4194304 (length text) then Some PlanIsLong else read_refusal reading names attached further

-- this holds of the plan, where the text says one
abbrev pub IfPlan : PlanReading → (Plan → Type 0) → Type 0
IfPlan (Reads plan) Holds = Holds plan
IfPlan (NoPlan number) Holds = Unit {0}

-- what is printed over the plan that the text says, where the bytes of the images are known
abbrev pub printed_over : (List (List ℕ) → Plan → List ℕ) → PlanReading → Option (List (List ℕ)) → Option (List ℕ)
printed_over text (Reads plan) told = option_map (λ images. text images plan) told
printed_over text (NoPlan number) told = None

-- what the source says: its text, and what that is as a plan
pub record PlanSaid : Type 0 where
  pub text : List ℕ
  pub plan : PlanReading

-- the product has more sets than ranks
abbrev pub many_refusal : Plan → Option Refusal
many_refusal plan = if nat_le (2 ^ 64) (wide_total plan) then Some Many else None

-- what a job does over a plan: what it refuses where the images agree, in its order, by how many images are named; what it
-- prints, over the bytes of the images; and what it may read
pub record OverPlan : Type 1 where
  pub further : ℕ → List Image → Plan → List (Option Refusal)
  pub text : List (List ℕ) → Plan → List ℕ
  pub MayRead : List Image → Plan → Bool → ℕ → ℕ → Type 0

-- the job that does it over the plan that its source says
abbrev pub plan_job : OverPlan → Job
plan_job over = record {
  Said = PlanSaid;
  Says = λ left said. (left ≡ Some said.text) × SaysAsPlan said.text said.plan;
  most = Some 4194304;
  early = λ given. None;
  streams = false;
  pieces = Sectors;
  apart = false;
  refused = λ said given. plan_refusal said.text said.plan given.names given.attached (over.further given.names given.attached);
  printed = λ said given. printed_over over.text said.plan (told_all given.attached);
  MayRead = λ said given cut before after. IfPlan said.plan (λ plan. over.MayRead given.attached plan cut before after);
}

-- the answer of such a job over a plan with which the images agree
pub record AnswersOver (over : OverPlan) (names : ℕ) (plan : Plan) (old new : Seen) (answer : Result (List ℕ) Stop) : Type 0 where
  pub refuses : Refuses (first_of (over.further names old.attached plan)) answer
  pub text : IfOk answer (λ text. IfSome (told_all old.attached) (λ images. text ≡ over.text images plan))
  pub order : Orders (first_of (over.further names old.attached plan)) old.sectors_read new.sectors_read None None answer
  pub reads : over.MayRead old.attached plan (is_cut answer) old.sectors_read new.sectors_read
  pub faults : Raises ImageFault old.faults new.faults answer
  pub untaken : IsErrOf answer SourceFault → ⊥
  pub unput : IsErrOf answer OutFault → ⊥
  pub unread : IfErr answer (λ stop. (MayHaveRead false stop → ⊥) → new.sectors_read ≡ old.sectors_read)
  pub world : new.world ≡ old.world
  pub attached : new.attached ≡ old.attached
