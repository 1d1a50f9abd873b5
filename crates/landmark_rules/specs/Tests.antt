-- Which tests of marks there are.
use Rattle.std.specs.Prelude.{◌≤◌, ◌<◌, ◌^◌, length, All}
use Rattle.raid_params.specs.Places.{AreRising}
use Rattle.landmark_rules.specs.declared.marks.MarkTests.{MarkTests}

-- how marks are tested: origins that rise strictly, at most 64, and numbers below 2^55
pub record AreTests (tests : MarkTests) : Type 0 where
  pub origins : AreRising tests.origins.items
  pub few_origins : length tests.origins.items ≤ 64
  pub near_origins : All (λ n. n < 2 ^ 55) tests.origins.items
  pub misfits : tests.misfits < 2 ^ 55
  pub least : tests.least < 2 ^ 55
