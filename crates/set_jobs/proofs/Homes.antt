-- Where sectors of the volume lie.
use Rattle.std.proofs.Common.{ℕ, ◌<◌, ◌-◌, ◌^◌, IsTrue, refl, arith}
use Rattle.raid_params.specs.declared.types.Head.{Head}
use Rattle.raid_params.specs.Size.{area, rows}
use Rattle.raid_params.specs.Validity.{is_valid_head}
use Rattle.address_map.proofs.Heads.{whole_below}
use Rattle.address_map.proofs.Lies.{inside_back}
use Rattle.address_map.specs.Places.{IsAt}
use Rattle.address_map.specs.declared.map.Home.{Home}

-- a home lies before the end
pub home_near : (head : Head) (end v : ℕ) (home : Home) → IsTrue (is_valid_head head) → IsAt head end v home → end < 2 ^ 55 → home.sector < 2 ^ 55
home_near head end v home valid at near =
    let inside : home.sector < area head end = inside_back head end home.slot home.sector v valid at.lies at.within in
    let whole = whole_below (end - head.offset) head.chunk (rows head end) refl in
    omega arith
