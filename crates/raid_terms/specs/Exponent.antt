-- The exponent of a data block: Q weighs it by 2 to this power. The order of Q says which it is.
use Rattle.std.specs.Prelude.{ℕ, ◌+◌, ◌%◌, ◌==◌, ◌&&◌, not, List, map, count_by, position, unwrap_or}
use Rattle.std.specs.List.{range_with_len, take_while}
use Rattle.raid_params.specs.declared.types.Head.{Head}
use Rattle.raid_params.specs.declared.types.Syndrome.{Syndrome}
use Rattle.raid_params.specs.declared.types.Syndrome.TheVariants.{NoQ, AfterQ, ByData, BySlot}
use Rattle.raid_params.specs.Size.{data_blocks}
use Rattle.raid_terms.specs.Role.{HasRole, Item, item_of, turn, double_p, double_q}

-- the n slots in the order of the walk that begins after Q and goes round to Q
abbrev pub walk : ℕ → ℕ → List ℕ
walk n q = map (λ k. (q + 1 + k) % n) (range_with_len 0 n)

-- the slots that the walk meets before this one
abbrev pub met_before : ℕ → ℕ → ℕ → List ℕ
met_before n q slot = take_while (λ t. not (t == slot)) (walk n q)

-- how many of them hold data
abbrev pub number_after_q : ℕ → ℕ → ℕ → ℕ → ℕ
number_after_q n p q slot = count_by (λ t. not (t == p) && not (t == q)) (met_before n q slot)

-- the item that a data slot holds in a row: the one whose slot it is
unfoldable pub item_in : Head → ℕ → ℕ → ℕ
item_in head row slot = unwrap_or (position (λ i. item_of head row i == slot) (range_with_len 0 (data_blocks head))) 0

-- the exponent of a data slot in a row, in this order: how many data slots the walk meets before it,
-- the number of its item, or its own number
abbrev pub exponent_by : Syndrome → Head → ℕ → ℕ → ℕ
exponent_by AfterQ head row slot = number_after_q head.members (double_p head.pattern head.members (turn head row)) (double_q head.pattern head.members (turn head row)) slot
exponent_by ByData head row slot = item_in head row slot
exponent_by BySlot head row slot = slot
exponent_by NoQ head row slot = 0

-- the exponent of a data slot in a row of a head of level 6
abbrev pub exponent_of : Head → ℕ → ℕ → ℕ
exponent_of head row slot = exponent_by head.syndrome head row slot

-- the slot holds data in the row
abbrev pub HoldsData : Head → ℕ → ℕ → Type 0
HoldsData head row slot = (i : ℕ) × HasRole head row slot (Item i)
