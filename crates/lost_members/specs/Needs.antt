-- Which sectors of the members the data are found by.
use Rattle.std.specs.Prelude.{ℕ, ◌≡◌, ◌+◌, ◌*◌, ◌/◌, ◌<◌, Bool, true, ◌&&◌, List, length, count_by, map, slice_index, slice_index_or}
use Rattle.std.specs.List.{range_with_len, sum}
use Rattle.std.specs.declared.option.Option.TheVariants.{None}
use Rattle.std.specs.Option.{is_some}
use Rattle.raid_params.specs.declared.types.Geometry.{Geometry}
use Rattle.raid_terms.specs.Cells.{part_of, row_cells}
use Rattle.raid_terms.specs.Parity.{is_data}
use Rattle.raid_terms.specs.Volume.{byte_in}
use Rattle.pq_parity.specs.Needs.{needs}

-- member sector t of a slot is data
abbrev pub is_data_at : Geometry → ℕ → ℕ → Bool
is_data_at geo slot t = is_data (part_of geo.head (t / geo.head.chunk) slot)

-- member sector t of a slot is there, and the data of its row are found by it
unfoldable pub is_needed : Geometry → ℕ → ℕ → Bool
is_needed geo slot t =
    is_some (slice_index_or geo.slots.items slot None) && needs (row_cells geo (t / geo.head.chunk)) (part_of geo.head (t / geo.head.chunk) slot)

-- how many of n member sectors of a slot from `first` on are needed
abbrev pub needed_of : Geometry → ℕ → ℕ → ℕ → ℕ
needed_of geo first n slot = count_by (is_needed geo slot) (range_with_len first n)

-- how many of those of all slots are
unfoldable pub needed_sectors : Geometry → ℕ → ℕ → ℕ
needed_sectors geo first n = sum (map (needed_of geo first n) (range_with_len 0 (length geo.slots.items)))

-- the sectors hold the needed ones of `count` sectors of a slot from sector `first` on
abbrev pub HoldNeededOf : List (List ℕ) → Geometry → ℕ → ℕ → ℕ → List ℕ → Type 0
HoldNeededOf images geo slot first count sectors =
    (j x : ℕ) → j < count → x < 512 → is_needed geo slot (first + j) ≡ true →
    slice_index sectors (512 * j + x) ≡ byte_in images geo (first + j) slot x (slice_index_or geo.slots.items slot None)

-- the regions hold the needed ones of `count` sectors of each member from sector `first` on
abbrev pub HoldNeeded : List (List ℕ) → Geometry → ℕ → ℕ → ℕ → List ℕ → Type 0
HoldNeeded images geo stride first count sectors =
    (slot j x : ℕ) → slot < length geo.slots.items → j < count → x < 512 → is_needed geo slot (first + j) ≡ true →
    slice_index sectors (stride * slot + (512 * j + x)) ≡ byte_in images geo (first + j) slot x (slice_index_or geo.slots.items slot None)

-- they hold those that are data, of images or lost
abbrev pub HoldData : List (List ℕ) → Geometry → ℕ → ℕ → ℕ → List ℕ → Type 0
HoldData images geo stride first count sectors =
    (slot j x : ℕ) → slot < length geo.slots.items → j < count → x < 512 → is_data_at geo slot (first + j) ≡ true →
    slice_index sectors (stride * slot + (512 * j + x)) ≡ byte_in images geo (first + j) slot x (slice_index_or geo.slots.items slot None)
