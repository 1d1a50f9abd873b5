-- What is known of sets whose rows are tested.
use Rattle.std.proofs.Common.{ℕ, ◌≤◌, List, length, All}
use Rattle.outside.specs.Seen.{Image}
use Rattle.raid_params.specs.declared.types.Geometry.{Geometry}
use Rattle.member_regions.specs.Members.{IsTestable, Reaches}
use Rattle.member_regions.proofs.Sets.{images_reach}
use Rattle.parity_scan.specs.Scan.{IsScannable}

pub scannable_testable : (geo : Geometry) (end : ℕ) (attached : List Image) → IsScannable geo end attached → IsTestable geo
scannable_testable geo end attached s = record { images = length attached; shaped = s.shaped }

-- its slots hold images that reach to the end, and to any sector before
pub scannable_held : (geo : Geometry) (end m : ℕ) (attached : List Image) → IsScannable geo end attached → m ≤ end → All (Reaches attached m) geo.slots.items
scannable_held geo end m attached s le = images_reach geo end m attached s.shaped s.long le
