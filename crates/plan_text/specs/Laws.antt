-- What holds of the texts of all plans.
use Rattle.std.specs.Prelude.{ℕ, List, ◌≡◌}
use Rattle.search_plan.specs.declared.plan.Plan.{Plan}
use Rattle.search_plan.specs.Plans.{IsPlan}
use Rattle.plan_text.specs.PlanText.{plan_text, IsRefusedLine}

-- plans with the same text are the same plan
abbrev pub PlansHaveOneSpelling : Type 0
PlansHaveOneSpelling = (p q : Plan) → IsPlan p → IsPlan q → plan_text p ≡ plan_text q → p ≡ q

-- a text has at most one refused line
abbrev pub OneLineIsRefused : Type 0
OneLineIsRefused = (text : List ℕ) (m n : ℕ) → IsRefusedLine text m → IsRefusedLine text n → m ≡ n
