-- Rows at a step, below an end.
use Rattle.std.proofs.Common.{ℕ, ◌+◌, ◌-◌, ◌*◌, ◌/◌, ◌<◌, ◌≤◌, inl, inr, arith}
use Rattle.std.proofs.Math.Nat.{div-mul-le_self, mul-le-mul_left}
use Rattle.std.proofs.lemmas.Bool.{cases_lt}
use Rattle.std.proofs.lemmas.Nat.{div_below, le-div}
use Rattle.relation_job.specs.Laws.{DefaultStepIsTheLeast, RowsAreThoseBelowTheEnd}
use Rattle.relation_job.specs.Sampling.{count_to, least_step}

-- a row that is counted is below the end
pub counted_below : (from step end k : ℕ) → 1 ≤ step → k < count_to from step end → from + step * k < end
counted_below from step end k some lt =
    let q = count_to from step end in
    let le : q * step ≤ end - from + (step - 1) = div-mul-le_self (end - from + (step - 1)) step in
    let less : step * (k + 1) ≤ step * q = mul-le-mul_left step (omega arith) in
    omega (arith, le, less)

below_counted : (from step end k : ℕ) → 1 ≤ step → from + step * k < end → k < count_to from step end
below_counted from step end k some lt =
    let within : (k + 1) * step ≤ end - from + (step - 1) = omega arith in
    let more : k + 1 ≤ count_to from step end = le-div (k + 1) (end - from + (step - 1)) step (omega arith) within in
    omega arith

pub below_the_end : RowsAreThoseBelowTheEnd
below_the_end from step end k some = (counted_below from step end k some, below_counted from step end k some)

-- at most 4,096 rows are counted where there are no more rows than 4,096 steps
few_within : (from step end : ℕ) → 1 ≤ step → count_to from step end ≤ 4096 → end - from ≤ 4096 * step
few_within from step end some few = elim (cases_lt (4096 * step) (end - from)) [
  | inl lt ↦ absurd (let more : 4097 ≤ count_to from step end = le-div 4097 (end - from + (step - 1)) step (omega arith) (omega arith) in omega arith)
  | inr le ↦ le
]

within_few : (from step end : ℕ) → 1 ≤ step → end - from ≤ 4096 * step → count_to from step end ≤ 4096
within_few from step end some within =
    let below : count_to from step end < 4097 = div_below (end - from + (step - 1)) step 4097 (omega arith) (omega arith) in
    omega arith

least_within : (from step end : ℕ) → 1 ≤ step → least_step from end ≤ step → end - from ≤ 4096 * step
least_within from step end some least = elim (cases_lt (4096 * step) (end - from)) [
  | inl lt ↦ absurd (let more : step + 1 ≤ (end - from + 4095) / 4096 = le-div (step + 1) (end - from + 4095) 4096 (omega arith) (omega arith) in omega arith)
  | inr le ↦ le
]

within_least : (from step end : ℕ) → 1 ≤ step → end - from ≤ 4096 * step → least_step from end ≤ step
within_least from step end some within =
    let below : (end - from + 4095) / 4096 < step + 1 = div_below (end - from + 4095) 4096 (step + 1) (omega arith) (omega arith) in
    omega arith

pub least : DefaultStepIsTheLeast
least from step end some =
    (λ few. within_least from step end some (few_within from step end some few), λ low. within_few from step end some (least_within from step end some low))
