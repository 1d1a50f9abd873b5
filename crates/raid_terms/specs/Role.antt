-- The roles of a row: which slot holds P, Q and each data item, as the Linux md driver lays them out.
use Rattle.std.specs.Prelude.{ℕ, ◌≡◌, ◌+◌, ◌-◌, ◌/◌, ◌%◌, ◌<◌, ◌==◌, nat_le, if◌then◌else◌}
use Rattle.std.specs.declared.option.Option.{Option}
use Rattle.std.specs.declared.option.Option.TheVariants.{None, Some}
use Rattle.raid_params.specs.declared.types.Head.{Head}
use Rattle.raid_params.specs.declared.types.Level.{Level}
use Rattle.raid_params.specs.declared.types.Level.TheVariants.{Raid0, Raid5, Raid6}
use Rattle.raid_params.specs.declared.types.Pattern.{Pattern}
use Rattle.raid_params.specs.declared.types.Pattern.TheVariants.{Plain, La, Ra, Ls, Rs, ParityFirst, ParityLast, NRestart, NContinue, La6, Ra6, Ls6, Rs6, ParityFirst6}
use Rattle.raid_params.specs.Size.{data_blocks, redundancy}

-- what a slot is for in a row: a data item by its number, or parity
pub data Role : Type 0 where
  Item : (i : ℕ) → Role
  P : Role
  Q : Role

-- P moves left from the last of n slots, or right from the first, a slot each row
abbrev pub leftward : ℕ → ℕ → ℕ
leftward n row = n - 1 - row % n

abbrev pub rightward : ℕ → ℕ → ℕ
rightward n row = row % n

-- items stand in order and pass over P
abbrev pub over_p : ℕ → ℕ → ℕ
over_p p i = if nat_le p i then i + 1 else i

-- items stand in order and pass over P and Q, which may stand apart: P on the last slot and Q on the first
abbrev pub over_p_and_q : ℕ → ℕ → ℕ → ℕ
over_p_and_q n p i = if p == n - 1 then i + 1 else (if nat_le p i then i + 2 else i)

-- the slot after a slot, round n slots
abbrev pub after : ℕ → ℕ → ℕ
after n slot = if slot == n - 1 then 0 else slot + 1

-- the slot of P in a row of n slots at level 5
abbrev pub single_p : Pattern → ℕ → ℕ → ℕ
single_p La n row = leftward n row
single_p Ra n row = rightward n row
single_p Ls n row = leftward n row
single_p Rs n row = rightward n row
single_p ParityFirst n row = 0
single_p _ n row = n - 1

-- the slot of an item in a row of n slots at level 5
abbrev pub single_item : Pattern → ℕ → ℕ → ℕ → ℕ
single_item La n row i = over_p (leftward n row) i
single_item Ra n row i = over_p (rightward n row) i
single_item Ls n row i = (leftward n row + 1 + i) % n
single_item Rs n row i = (rightward n row + 1 + i) % n
single_item ParityFirst n row i = i + 1
single_item _ n row i = i

-- the slot of P in a row of n slots at level 6; the patterns with a 6 leave out the last slot
abbrev pub double_p : Pattern → ℕ → ℕ → ℕ
double_p La n row = leftward n row
double_p Ra n row = rightward n row
double_p Ls n row = leftward n row
double_p Rs n row = rightward n row
double_p ParityFirst n row = 0
double_p ParityLast n row = n - 2
double_p NRestart n row = leftward n (row + 1)
double_p NContinue n row = leftward n row
double_p La6 n row = single_p La (n - 1) row
double_p Ra6 n row = single_p Ra (n - 1) row
double_p Ls6 n row = single_p Ls (n - 1) row
double_p Rs6 n row = single_p Rs (n - 1) row
double_p ParityFirst6 n row = single_p ParityFirst (n - 1) row
double_p Plain n row = n - 2

-- the slot of Q in a row of n slots at level 6
abbrev pub double_q : Pattern → ℕ → ℕ → ℕ
double_q La n row = after n (leftward n row)
double_q Ra n row = after n (rightward n row)
double_q Ls n row = (leftward n row + 1) % n
double_q Rs n row = (rightward n row + 1) % n
double_q ParityFirst n row = 1
double_q ParityLast n row = n - 1
double_q NRestart n row = after n (leftward n (row + 1))
double_q NContinue n row = (leftward n row + n - 1) % n
double_q _ n row = n - 1

-- the slot of an item in a row of n slots at level 6
abbrev pub double_item : Pattern → ℕ → ℕ → ℕ → ℕ
double_item La n row i = over_p_and_q n (leftward n row) i
double_item Ra n row i = over_p_and_q n (rightward n row) i
double_item Ls n row i = (leftward n row + 2 + i) % n
double_item Rs n row i = (rightward n row + 2 + i) % n
double_item ParityFirst n row i = i + 2
double_item ParityLast n row i = i
double_item NRestart n row i = over_p_and_q n (leftward n (row + 1)) i
double_item NContinue n row i = (leftward n row + 1 + i) % n
double_item La6 n row i = single_item La (n - 1) row i
double_item Ra6 n row i = single_item Ra (n - 1) row i
double_item Ls6 n row i = single_item Ls (n - 1) row i
double_item Rs6 n row i = single_item Rs (n - 1) row i
double_item ParityFirst6 n row i = single_item ParityFirst (n - 1) row i
double_item Plain n row i = i

-- the slot of P, by level: none at level 0
abbrev pub p_at : Level → Pattern → ℕ → ℕ → Option ℕ
p_at Raid0 pattern n row = None
p_at Raid5 pattern n row = Some (single_p pattern n row)
p_at Raid6 pattern n row = Some (double_p pattern n row)

-- the slot of Q, by level: none below level 6
abbrev pub q_at : Level → Pattern → ℕ → ℕ → Option ℕ
q_at Raid0 pattern n row = None
q_at Raid5 pattern n row = None
q_at Raid6 pattern n row = Some (double_q pattern n row)

-- the slot of an item, by level: its own number at level 0
abbrev pub item_at : Level → Pattern → ℕ → ℕ → ℕ → ℕ
item_at Raid0 pattern n row i = i
item_at Raid5 pattern n row i = single_item pattern n row i
item_at Raid6 pattern n row i = double_item pattern n row i

-- the turn of a row, by which its layout goes: parity stays for `delay` rows before it moves on
abbrev pub turn : Head → ℕ → ℕ
turn head row = row / head.delay

-- the slot of P in a row
abbrev pub p_of : Head → ℕ → Option ℕ
p_of head row = p_at head.level head.pattern head.members (turn head row)

-- the slot of Q in a row
abbrev pub q_of : Head → ℕ → Option ℕ
q_of head row = q_at head.level head.pattern head.members (turn head row)

-- the slot of a data item in a row
abbrev pub item_of : Head → ℕ → ℕ → ℕ
item_of head row i = item_at head.level head.pattern head.members (turn head row) i

-- the slot has the role in the row
abbrev pub HasRole : Head → ℕ → ℕ → Role → Type 0
HasRole head row slot P = p_of head row ≡ Some slot
HasRole head row slot Q = q_of head row ≡ Some slot
HasRole head row slot (Item i) = (i < data_blocks head) × (slot ≡ item_of head row i)

-- the role is one of the head's: its data items, P from level 5 on, and Q at level 6
abbrev pub IsRoleOf : Head → Role → Type 0
IsRoleOf head P = 0 < redundancy head.level
IsRoleOf head Q = 1 < redundancy head.level
IsRoleOf head (Item i) = i < data_blocks head
