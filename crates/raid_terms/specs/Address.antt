-- Where the sectors of the volume lie on the members.
use Rattle.std.specs.Prelude.{ℕ, ◌≡◌, ◌+◌, ◌*◌, ◌/◌, ◌%◌}
use Rattle.raid_params.specs.declared.types.Head.{Head}
use Rattle.raid_terms.specs.Role.{HasRole, Item, item_of}
use Rattle.raid_params.specs.Size.{data_blocks}

-- the volume is cut into chunks, and each row takes as many of them as it has data items
abbrev pub chunk_number : Head → ℕ → ℕ
chunk_number head v = v / head.chunk

abbrev pub home_row : Head → ℕ → ℕ
home_row head v = chunk_number head v / data_blocks head

abbrev pub home_item : Head → ℕ → ℕ
home_item head v = chunk_number head v % data_blocks head

-- the member sector of a volume sector
abbrev pub home_sector : Head → ℕ → ℕ
home_sector head v = home_row head v * head.chunk + v % head.chunk

-- the slot that holds a volume sector: the one of its item in its row
abbrev pub home_slot : Head → ℕ → ℕ
home_slot head v = item_of head (home_row head v) (home_item head v)

-- a slot and a member sector lie at volume sector v
pub record LiesAt (head : Head) (slot sector v : ℕ) : Type 0 where
  pub item : HasRole head (home_row head v) slot (Item (home_item head v))
  pub place : sector ≡ home_sector head v
