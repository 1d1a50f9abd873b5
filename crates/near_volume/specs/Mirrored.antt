-- What is asked of a mirror whose volume is written.
use Rattle.std.specs.Prelude.{ℕ, ◌≡◌, ◌≤◌, ◌<◌, ◌^◌, List, length, All}
use Rattle.std.specs.declared.option.Option.TheVariants.{None}
use Rattle.outside.specs.Seen.{Image}
use Rattle.near_mirror.specs.Validity.{first_fault}
use Rattle.near_mirror.specs.declared.types.NearSet.{NearSet}

-- a set that breaks no rule over the attached images, which all reach to the end
pub record IsMirrored (set : NearSet) (end : ℕ) (attached : List Image) : Type 0 where
  pub ruled : first_fault set (length attached) end ≡ None
  pub near : end < 2 ^ 55
  pub long : All (λ image. end ≤ image.sectors) attached
