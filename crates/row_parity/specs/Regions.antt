-- The sectors of a row where they lie in regions: that of cell i in region i, and each region has `stride` bytes.
use Rattle.std.specs.Prelude.{ℕ, ◌≡◌, ◌≢◌, ◌+◌, ◌*◌, ◌<◌, ◌≤◌, List, map, length, slice_index}
use Rattle.std.specs.List.{range_with_len}
use Rattle.raid_params.specs.declared.types.Cell.{Cell}
use Rattle.raid_params.specs.declared.types.Part.{Part}
use Rattle.raid_terms.specs.Solving.{lost_byte}
use Rattle.row_parity.specs.Syndromes.{sum_at}

-- byte y of the region of a place
abbrev pub region_byte : List ℕ → ℕ → ℕ → ℕ → ℕ
region_byte sectors stride y place = slice_index sectors (stride * place + y)

-- column x of the sectors number j of the first `members` regions
abbrev pub region_column : ℕ → ℕ → List ℕ → ℕ → ℕ → List ℕ
region_column members stride sectors j x = map (λ i. slice_index sectors (stride * i + (512 * j + x))) (range_with_len 0 members)

-- the sector number j of the region of a cell holds its lost bytes, by the others as they were before
abbrev pub HoldsLost : List Cell → ℕ → ℕ → List ℕ → List ℕ → ℕ → Type 0
HoldsLost cells stride j old new place =
    (x : ℕ) → x < 512 → slice_index new (stride * place + (512 * j + x)) ≡ lost_byte cells (region_column (length cells) stride old j x) place

-- in `count` sectors, from number `from` on, the region of a place holds the sums of what the cells that are there
-- add, by the regions as they were before
abbrev pub HoldSums : (Part → ℕ → ℕ) → List Cell → ℕ → ℕ → ℕ → ℕ → List ℕ → List ℕ → Type 0
HoldSums adds cells stride from count place old new =
    (j x : ℕ) → from ≤ j → j < from + count → x < 512 → slice_index new (stride * place + (512 * j + x)) ≡ sum_at adds cells (region_column (length cells) stride old j) x

-- a byte that lies in none of these sectors of this region is as it was
abbrev pub KeepOthers : ℕ → ℕ → ℕ → ℕ → List ℕ → List ℕ → Type 0
KeepOthers stride from count place old new =
    (p : ℕ) → ((j x : ℕ) → from ≤ j → j < from + count → x < 512 → p ≢ stride * place + (512 * j + x)) → slice_index new p ≡ slice_index old p
