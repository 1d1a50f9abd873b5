-- The definitions tried on small arrays whose answers were worked out by hand.
use Rattle.std.proofs.Common.{◌≡◌, ℕ, Bool, true, false, List, [], ◌∷◌, ◌++◌, map, refl, Some, None, replicate}
use Rattle.raid_params.specs.declared.types.Geometry.{Geometry}
use Rattle.raid_params.specs.declared.types.Level.TheVariants.{Raid5, Raid6}
use Rattle.raid_params.specs.declared.types.Pattern.TheVariants.{La, Ls}
use Rattle.raid_params.specs.declared.types.Syndrome.{Syndrome}
use Rattle.raid_params.specs.declared.types.Syndrome.TheVariants.{NoQ, AfterQ, ByData, BySlot}
use Rattle.raid_params.specs.declared.types.Cell.{Cell}
use Rattle.raid_params.specs.declared.types.Part.{Part}
use Rattle.raid_params.specs.declared.types.Part.TheVariants.{Block, P, Q}
use Rattle.gf256.specs.Field.{power_of, times}
use Rattle.raid_terms.specs.Cells.{part_of}
use Rattle.raid_terms.specs.Exponent.{item_in}
use Rattle.raid_terms.specs.Parity.{equations_hold, is_sound_column, filled, sum_of}
use Rattle.raid_terms.specs.Solving.{lost_byte, solved}
use Rattle.raid_terms.specs.Volume.{byte_in, member_sector, volume}

sector : ℕ → List ℕ
sector byte = replicate 512 byte

a : List ℕ
a = sector 1 ++ sector 2

b : List ℕ
b = sector 3 ++ sector 4

c : List ℕ
c = sector 2 ++ sector 6

-- row 2 of left-asymmetric level 6 over four members: the first block, P, Q, the second block. The walk
-- after Q meets the second first
four_parts : Syndrome → List Part
four_parts order = map (part_of (record { level = Raid6; members = 4; pattern = La; delay = 1; syndrome = order; chunk = 1; offset = 0 }) 2) (0 ∷ 1 ∷ 2 ∷ 3 ∷ [])

after_q : four_parts AfterQ ≡ Block 1 ∷ P ∷ Q ∷ Block 0 ∷ []
unfolding four_parts item_in
after_q = refl

by_data : four_parts ByData ≡ Block 0 ∷ P ∷ Q ∷ Block 1 ∷ []
unfolding four_parts item_in
by_data = refl

by_slot : four_parts BySlot ≡ Block 0 ∷ P ∷ Q ∷ Block 3 ∷ []
unfolding four_parts item_in
by_slot = refl

-- Q, two blocks and P, with the first block weighed by 1 and the second by 2
cell : Part → Bool → Cell
cell part missing = record { part = part; missing = missing }

two_data : Bool → Bool → List Cell
two_data first second = cell Q false ∷ cell (Block 0) first ∷ cell (Block 1) second ∷ cell P false ∷ []

-- 0x01 + 0x80 = 0x81, and 0x01 + 2 * 0x80 = 0x1C
both_hold : equations_hold (two_data false false) (28 ∷ 1 ∷ 128 ∷ 129 ∷ []) ≡ true
unfolding two_data cell sum_of power_of times
both_hold = refl

q_differs : equations_hold (two_data false false) (29 ∷ 1 ∷ 128 ∷ 129 ∷ []) ≡ false
unfolding two_data cell sum_of power_of times
q_differs = refl

-- one lost data byte is found by P, also where Q differs, and then the row is unsound
found_by_p : lost_byte (two_data true false) (29 ∷ 0 ∷ 128 ∷ 129 ∷ []) 1 ≡ 1
unfolding two_data cell sum_of power_of times solved filled
found_by_p = refl

-- so is P alone, and Q alone is found by Q's equation where P differs
lost_parity : Bool → Bool → List Cell
lost_parity q p = cell Q q ∷ cell (Block 0) false ∷ cell (Block 1) false ∷ cell P p ∷ []

p_found_by_p : lost_byte (lost_parity false true) (29 ∷ 1 ∷ 128 ∷ 0 ∷ []) 3 ≡ 129
unfolding lost_parity cell sum_of power_of times solved filled
p_found_by_p = refl

q_found_by_q : lost_byte (lost_parity true false) (0 ∷ 1 ∷ 128 ∷ 128 ∷ []) 0 ≡ 28
unfolding lost_parity cell sum_of power_of times solved filled
q_found_by_q = refl

unsound_with_q : is_sound_column (two_data true false) (29 ∷ 0 ∷ 128 ∷ 129 ∷ []) ≡ false
unfolding two_data cell sum_of power_of times filled
unsound_with_q = refl

-- the volume of left-symmetric over three members, of two rows of one sector, and the first byte of a lost member
geo : Geometry
geo = record { head = record { level = Raid5; members = 3; pattern = Ls; delay = 1; syndrome = NoQ; chunk = 1; offset = 0 }; slots = record { items = Some 0 ∷ Some 1 ∷ Some 2 ∷ [] } }

four_sectors : volume (a ∷ b ∷ c ∷ []) geo 2 ≡ sector 1 ++ sector 3 ++ sector 6 ++ sector 2
unfolding a b c sector geo member_sector
four_sectors = refl

first_lost : byte_in (b ∷ c ∷ []) (record geo { slots = record { items = None ∷ Some 0 ∷ Some 1 ∷ [] } }) 0 0 0 None ≡ 1
unfolding b c sector geo solved filled sum_of
first_lost = refl
