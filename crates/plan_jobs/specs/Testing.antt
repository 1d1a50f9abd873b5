-- The tests of a set over images.
use Rattle.std.specs.Prelude.{ℕ, ◌≡◌, ◌≤◌, ◌<◌, ◌^◌, All, IfErr, IfOk, IfSome, List, OnOk, Result, length}
use Rattle.std.specs.declared.option.Option.{Option}
use Rattle.outside.specs.Seen.{Image, OnlyReads, Seen}
use Rattle.image_padding.specs.Padded.{padded_images}
use Rattle.raid_params.specs.declared.limits.TheConstants.{MOST}
use Rattle.raid_params.specs.declared.wide.Wide.{Wide}
use Rattle.parity_scan.specs.Scan.{IsScannable}
use Rattle.run_ends.specs.Cuts.{CutsShort}
use Rattle.run_ends.specs.declared.stop.Stop.{Stop}
use Rattle.search_plan.specs.Plans.{AgreeWith}
use Rattle.search_plan.specs.declared.plan.Plan.{Plan}

-- images may be padded by the bases of a set: there are none, or one for each image, and all sectors are below 2^54
pub record MayPad (bases : List ℕ) (attached : List Image) : Type 0 where
  pub each : 0 < length bases → length bases ≡ length attached
  pub most : length bases ≤ MOST
  pub near : All (λ base. base < 2 ^ 54) bases
  pub short : 0 < length bases → All (λ image. image.sectors < 2 ^ 54) attached

-- a set can be tested over a plan and its images, padded where the set has bases
pub record IsTestedBy (set : Wide) (plan : Plan) (attached : List Image) : Type 0 where
  pub agree : AgreeWith plan attached
  pub padded : MayPad set.bases.items attached
  pub scannable : IsScannable set.geo plan.end (padded_images set.bases.items attached)

-- how tests end, by their text over the bytes of the images where these are known: at Ok it is made, and at an error the images
-- failed, or memory ran out; at most `most` sectors are read
pub record Tests (most : ℕ) (content : List (List ℕ) → List ℕ) (told : Option (List (List ℕ))) (old new : Seen) (answer : Result (List ℕ) Stop) : Type 0 where
  pub text : IfOk answer (λ text. IfSome told (λ bytes. text ≡ content bytes))
  pub reads : OnlyReads old new most
  pub quiet : OnOk answer (new.faults ≡ old.faults)
  pub ends : IfErr answer (CutsShort old new)
