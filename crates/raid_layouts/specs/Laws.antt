-- Laws of the rows of an array: each role has one slot and each slot one role, data blocks have exponents of their own,
-- and the missing blocks of a row can be solved for.
use Rattle.std.specs.Prelude.{ℕ, ◌≡◌, ◌<◌, true, IsTrue}
use Rattle.raid_params.specs.declared.types.Geometry.{Geometry}
use Rattle.raid_params.specs.declared.types.Head.{Head}
use Rattle.raid_params.specs.declared.types.Level.TheVariants.{Raid6}
use Rattle.raid_params.specs.Validity.{is_shaped, is_valid_head}
use Rattle.raid_terms.specs.Cells.{row_cells}
use Rattle.raid_terms.specs.Exponent.{HoldsData, exponent_of}
use Rattle.raid_terms.specs.Parity.{IsRow}
use Rattle.raid_terms.specs.Role.{Role, HasRole, IsRoleOf}

-- each role of the head stands in every row on one slot below the members, and on no other
abbrev pub EachRoleHasOneSlot : Type 0
EachRoleHasOneSlot = (head : Head) (row : ℕ) (role : Role) → IsTrue (is_valid_head head) → IsRoleOf head role →
    (slot : ℕ) × (slot < head.members) × HasRole head row slot role × ((other : ℕ) → HasRole head row other role → other ≡ slot)

-- each slot below the members has in every row one role, which is one of the head's, and no other
abbrev pub EachSlotHasOneRole : Type 0
EachSlotHasOneRole = (head : Head) (row slot : ℕ) → IsTrue (is_valid_head head) → slot < head.members →
    (role : Role) × IsRoleOf head role × HasRole head row slot role × ((other : Role) → HasRole head row slot other → other ≡ role)

-- at level 6 the exponent of a data slot is below the members
abbrev pub ExponentsAreBelowMembers : Type 0
ExponentsAreBelowMembers = (head : Head) (row slot : ℕ) → IsTrue (is_valid_head head) → head.level ≡ Raid6 → HoldsData head row slot →
    exponent_of head row slot < head.members

-- and no two data slots of a row have the same
abbrev pub ExponentsDiffer : Type 0
ExponentsDiffer = (head : Head) (row slot other : ℕ) → IsTrue (is_valid_head head) → head.level ≡ Raid6 → HoldsData head row slot → HoldsData head row other →
    exponent_of head row slot ≡ exponent_of head row other → slot ≡ other

-- the cells of every row of an array of a sensible shape are such that its parity equations can be solved for the missing blocks
abbrev pub EachRowCanBeSolved : Type 0
EachRowCanBeSolved = (geo : Geometry) (images row : ℕ) → is_shaped geo images ≡ true → IsRow (row_cells geo row)
