-- How many lists of a space go on from a prefix, in a table.
use Rattle.std.specs.Prelude.{ℕ, ◌≡◌, ◌+◌, ◌-◌, ◌*◌, ◌/◌, ◌%◌, ◌<◌, ◌≤◌, List, length, take, slice_index}
use Rattle.slot_math.specs.Ways.{ways}
use Rattle.slot_math.specs.declared.space.Space.{Space}

-- the ways to fill the `left` last places of a list, where `e` of the places before them are empty and the others hold images
abbrev pub ways_on : Space → ℕ → ℕ → ℕ
ways_on s left e = ways s.low s.high (s.images + e + left - s.members) left e

-- cell k of a table, of which each row has 25: those with k / 25 places to come, and k % 25 empty ones before them
abbrev pub IsCell : Space → ℕ → ℕ → Type 0
IsCell s k count = k / 25 + k % 25 ≤ s.members → count ≡ ways_on s (k / 25) (k % 25)

-- the first cells of a table
pub record AreCells (s : Space) (cells : List ℕ) : Type 0 where
  pub each : (k : ℕ) → k < length cells → IsCell s k (slice_index cells k)

-- a table of a space: its first rows, up to that for as many places to come as the space has members
pub record IsTable (s : Space) (cells : List ℕ) : Type 0 where
  pub each : AreCells s (take ((s.members + 1) * 25) cells)
  pub long : (s.members + 1) * 25 ≤ length cells
