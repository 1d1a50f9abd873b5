-- How many rows of sectors a plan tests.
use Rattle.std.specs.Prelude.{ℕ}
use Rattle.search_plan.specs.declared.plan.Plan.{Plan}
use Rattle.search_scope.specs.Rows as scope

-- the tested rows of each set of this chunk and this offset
abbrev pub tested_with : Plan → ℕ → ℕ → ℕ
tested_with plan chunk offset = scope.tested_with plan.end plan.limits.window chunk offset
