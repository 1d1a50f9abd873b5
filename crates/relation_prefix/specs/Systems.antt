-- Linear equations in a few unknowns of the field.
use Rattle.std.specs.Prelude.{ℕ, ◌≡◌, ◌<◌, List, length, slice_index, slice_index_or}
use Rattle.std.specs.declared.option.Option.{Option}
use Rattle.std.specs.declared.option.Option.TheVariants.{None, Some}
use Rattle.gf256.specs.Field.{product}
use Rattle.row_relations.specs.Rows.{field_sum, AreBytes}
use Rattle.relation_prefix.specs.declared.condition.Condition.{Condition}
use Rattle.relation_prefix.specs.declared.condition.TheConstants.{MOST_TIES}
use Rattle.relation_prefix.specs.declared.demand.Demand.{Demand}

-- values of the unknowns: bytes
abbrev pub AreValues : (ℕ → ℕ) → Type 0
AreValues x = (t : ℕ) → x t < 256

-- the sum of the unknowns, each times its coefficient
unfoldable pub sum_at : List ℕ → (ℕ → ℕ) → ℕ
sum_at coefficients x = field_sum MOST_TIES (λ t. product (slice_index coefficients t) (x t))

-- the values meet a condition
abbrev pub Meets : (ℕ → ℕ) → Condition → Type 0
Meets x condition = sum_at condition.coefficients x ≡ condition.value

-- the values meet each condition of a system
abbrev pub Solves : (ℕ → ℕ) → List (Option Condition) → Type 0
Solves x conditions = (t : ℕ) (condition : Condition) → slice_index_or conditions t None ≡ Some condition → Meets x condition

-- the condition at place t of a system begins with a 1 at unknown t
pub record Begins (t : ℕ) (condition : Condition) : Type 0 where
  pub one : slice_index condition.coefficients t ≡ 1
  pub before : (u : ℕ) → u < t → slice_index condition.coefficients u ≡ 0
  pub bytes : AreBytes condition.coefficients
  pub value : condition.value < 256

pub record IsTriangular (conditions : List (Option Condition)) : Type 0 where
  pub long : length conditions ≡ MOST_TIES
  pub each : (t : ℕ) (condition : Condition) → slice_index_or conditions t None ≡ Some condition → Begins t condition

-- some values meet all conditions
abbrev pub IsSolvable : List (Option Condition) → Type 0
IsSolvable conditions = (x : ℕ → ℕ) × AreValues x × Solves x conditions

-- the values meet what is asked of the first unknown alone
abbrev pub AsksFirst : (ℕ → ℕ) → Demand → Type 0
AsksFirst x demand = product demand.coefficient (x 0) ≡ demand.value
