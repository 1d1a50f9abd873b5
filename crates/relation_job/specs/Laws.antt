-- What the rows that are looked at are.
use Rattle.std.specs.Prelude.{ℕ, ◌+◌, ◌*◌, ◌<◌, ◌≤◌, ◌↔◌}
use Rattle.relation_job.specs.Sampling.{count_to, least_step}

-- of the rows from, from + step, .. those are looked at that are below the end
abbrev pub RowsAreThoseBelowTheEnd : Type 0
RowsAreThoseBelowTheEnd = (from step end k : ℕ) → 1 ≤ step → (k < count_to from step end ↔ from + step * k < end)

-- the default step is the least one with which at most 4,096 rows are looked at
abbrev pub DefaultStepIsTheLeast : Type 0
DefaultStepIsTheLeast = (from step end : ℕ) → 1 ≤ step → (count_to from step end ≤ 4096 ↔ least_step from end ≤ step)
