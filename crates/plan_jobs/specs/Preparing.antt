-- How preparing a command over a plan ends: its plan read, and the images compared with it.
use Rattle.std.specs.Prelude.{ℕ, ◌≡◌, List, IfSome, Err}
use Rattle.std.specs.declared.option.Option.{Option}
use Rattle.std.specs.declared.option.Option.TheVariants.{Some}
use Rattle.outside.specs.Seen.{Image}
use Rattle.plan_text.specs.PlanText.{ReadsPlan}
use Rattle.plan_text.specs.declared.fault.PlanFault.TheVariants.{Line}
use Rattle.search_plan.specs.declared.plan.Plan.{Plan}
use Rattle.plan_jobs.specs.Plans.{PlanReading, Reads, SaysAsPlan, plan_refusal}
use Rattle.run_ends.specs.Stops.{first_of}
use Rattle.run_ends.specs.declared.stop.Refusal.{Refusal}
use Rattle.run_ends.specs.declared.stop.Refusal.TheVariants.{PlanLine}
use Rattle.run_ends.specs.declared.stop.Stop.{Stop}
use Rattle.run_ends.specs.declared.stop.Stop.TheVariants.{Refused, SourceFault, OutOfMemory}

-- why a text gives no plan: it is none from a line on, or memory ran out
abbrev pub IsPlanless : List ℕ → Stop → Type 0
IsPlanless text (Refused refusal) = (number : ℕ) × (refusal ≡ PlanLine number) × ReadsPlan text (Err (Line number))
IsPlanless text OutOfMemory = Unit {0}
IsPlanless text _ = ⊥

-- why a plan could not be read, or the images do not agree with it: it is the first refusal, whatever else is refused, or
-- the source failed, or memory ran out. Where it is refused the text says something
abbrev pub EndsPreparing : Option (List ℕ) → ℕ → List Image → Stop → Type 0
EndsPreparing left names attached (Refused refusal) =
    IfSome left (λ text. ((read : PlanReading) × SaysAsPlan text read)
    × ((read : PlanReading) (further : Plan → List (Option Refusal)) → SaysAsPlan text read → plan_refusal text read names attached further ≡ Some refusal))
EndsPreparing left names attached SourceFault = Unit {0}
EndsPreparing left names attached OutOfMemory = Unit {0}
EndsPreparing left names attached _ = ⊥

-- the plan is what the text says, the images agree with it, and what is refused after that comes next
abbrev pub IsPrepared : Option (List ℕ) → ℕ → List Image → Plan → Type 0
IsPrepared left names attached plan =
    IfSome left (λ text. SaysAsPlan text (Reads plan) × ((read : PlanReading) → SaysAsPlan text read →
    (read ≡ Reads plan) × ((further : Plan → List (Option Refusal)) → plan_refusal text read names attached further ≡ first_of (further plan))))
