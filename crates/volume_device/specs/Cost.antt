-- How many sectors are read for a range of the volume.
use Rattle.std.specs.Prelude.{ℕ, ◌≡◌, ◌+◌, ◌*◌, ◌/◌, ◌%◌, ◌<◌, ◌≤◌, Bool, nat_le, ◌&&◌, ◌||◌, if◌then◌else◌, map, slice_index_or}
use Rattle.std.specs.List.{range_with_len, sum}
use Rattle.std.specs.Option.{is_some}
use Rattle.std.specs.declared.option.Option.TheVariants.{None}
use Rattle.raid_params.specs.Size.{data_blocks}
use Rattle.raid_params.specs.declared.types.Geometry.{Geometry}
use Rattle.raid_params.specs.declared.types.Head.{Head}
use Rattle.raid_terms.specs.Address.{home_slot}

-- the sectors of the volume in a row of chunks
abbrev pub row_sectors : Head → ℕ
row_sectors head = data_blocks head * head.chunk

-- the member that holds sector v of the volume is there
abbrev pub is_there : Geometry → ℕ → Bool
is_there geo v = is_some (slice_index_or geo.slots.items (home_slot geo.head v) None)

-- the whole row of sector v lies in the n sectors from `first` on
abbrev pub is_row_asked : Head → ℕ → ℕ → ℕ → Bool
is_row_asked head first n v =
    nat_le first (v / row_sectors head * row_sectors head) && nat_le ((v / row_sectors head + 1) * row_sectors head) (first + n)

-- what sector v of a range costs: one sector where its member is there or its whole row is asked for, and else as many as a row has data
abbrev pub cost_of : Geometry → ℕ → ℕ → ℕ → ℕ
cost_of geo first n v = if is_there geo v || is_row_asked geo.head first n v then 1 else data_blocks geo.head

-- what n sectors of the volume from `first` on cost
unfoldable pub range_cost : Geometry → ℕ → ℕ → ℕ
range_cost geo first n = sum (map (cost_of geo first n) (range_with_len first n))

-- what they cost where no row is read whole
unfoldable pub part_cost : Geometry → ℕ → ℕ → ℕ
part_cost geo first n = sum (map (λ v. if is_there geo v then 1 else data_blocks geo.head) (range_with_len first n))

-- a step of a range costs one sector for each where it is whole rows
unfoldable pub step_cost : Geometry → ℕ → ℕ → ℕ
step_cost geo first n = if nat_le (row_sectors geo.head) n then n else part_cost geo first n

-- n of the `left` sectors from `sector` on are a step, in rows of `row` sectors of which `most` are read at once: whole rows, or the
-- part of a row that is not asked for whole, up to its end or the last sector
pub record IsStep (row most sector left n : ℕ) : Type 0 where
  pub some : 1 ≤ n
  pub within : n ≤ left
  pub begins : row ≤ n → sector % row ≡ 0
  pub rows : row ≤ n → n % row ≡ 0
  pub few : n / row ≤ most
  pub part : n < row → sector % row + n ≤ row
  pub cut : n < row → sector % row ≡ 0 → left < row
  pub ends : n < left → (sector + n) % row ≡ 0
