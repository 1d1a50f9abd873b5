-- Laws of the address map.
use Rattle.std.specs.Prelude.{ℕ, ◌≡◌, ◌<◌, ◌↔◌, IsTrue}
use Rattle.std.specs.declared.option.Option.{Option}
use Rattle.std.specs.declared.option.Option.TheVariants.{Some}
use Rattle.raid_params.specs.declared.types.Head.{Head}
use Rattle.raid_params.specs.Validity.{is_valid_head}
use Rattle.address_map.specs.Places.{IsPlace, IsHome}
use Rattle.address_map.specs.declared.map.Home.{Home}
use Rattle.address_map.specs.declared.map.MemberPlace.{MemberPlace}
use Rattle.address_map.specs.declared.map.MemberPlace.TheVariants.{At}

-- the home of a volume sector is this slot and this member sector
abbrev pub IsAtHome : Option Home → ℕ → ℕ → Type 0
IsAtHome home slot sector = (h : Home) × (home ≡ Some h) × (h.slot ≡ slot) × (h.sector ≡ sector)

-- a member sector is in the place of a volume sector exactly where that has its home there
abbrev pub PlacesAndHomesUndo : Type 0
PlacesAndHomesUndo = (head : Head) (end slot sector v : ℕ) (place : MemberPlace) (home : Option Home) →
    IsTrue (is_valid_head head) → IsPlace head end slot sector place → IsHome head end v home →
    (place ≡ At v) ↔ IsAtHome home slot sector

-- each member sector has one place
abbrev pub EachSectorHasOnePlace : Type 0
EachSectorHasOnePlace = (head : Head) (end slot sector : ℕ) (place other : MemberPlace) →
    IsTrue (is_valid_head head) → IsPlace head end slot sector place → IsPlace head end slot sector other → other ≡ place

-- each volume sector has one home, on a slot below the members
abbrev pub EachSectorHasOneHome : Type 0
EachSectorHasOneHome = (head : Head) (end v : ℕ) (home other : Home) →
    IsTrue (is_valid_head head) → IsHome head end v (Some home) → IsHome head end v (Some other) → (home.slot < head.members) × (other ≡ home)
