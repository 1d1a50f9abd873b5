-- What the tables of rows hold.
use Rattle.std.specs.Prelude.{ℕ, ◌≡◌, ◌+◌, ◌-◌, ◌*◌, ◌^◌, ◌/◌, ◌%◌, ◌<◌, ◌≤◌, min, max, true, Bool, not, ◌==◌, ◌&&◌, List, [], length, count_by, fold, slice_index, slice_index_or, IsSomeAnd, ◌||◌, nat_le, false}
use Rattle.std.specs.List.{range_with_len, sum_by}
use Rattle.std.specs.Option.{option_map_or}
use Rattle.std.specs.declared.option.Option.{Option}
use Rattle.raid_params.specs.declared.types.Head.{Head}
use Rattle.raid_params.specs.declared.types.Level.{Level}
use Rattle.raid_params.specs.declared.types.Level.TheVariants.{Raid0, Raid5, Raid6}
use Rattle.member_regions.specs.ImageSums.{room_byte}
use Rattle.member_regions.specs.Regions.{Room}
use Rattle.member_regions.specs.declared.image_sums.ImageSum.{ImageSum}
use Rattle.search_plan.specs.Rows.{tested_with}
use Rattle.search_plan.specs.declared.plan.Plan.{Plan}
use Rattle.xor_tables.specs.Paces.{pace_of, span}
use Rattle.xor_tables.specs.Rows.{differ, every, needs_table, on_q, others}
use Rattle.xor_tables.specs.declared.pace.Pace.{Pace}

-- a table as contracts see it: in how many of some rows the images differ, and in how many those but one do, by the
-- row's turn among as many turns as there are images, and by the one
pub record RowTable : Type 0 where
  pub all : ℕ
  pub beside : List (List ℕ)

-- the table counts the first rows of sectors, from an offset on, where a turn has `span` of them
pub record CountRows (images : List (List ℕ)) (count span offset rows : ℕ) (table : RowTable) : Type 0 where
  pub all : table.all ≡ count_by (λ t. differ images (every count) (offset + t)) (range_with_len 0 rows)
  pub beside : (k i : ℕ) → k < count → i < count →
      slice_index (slice_index_or table.beside k []) i ≡ count_by (λ t. (t / span % count == k) && differ images (others count i) (offset + t)) (range_with_len 0 rows)

-- the most rows that a plan tests with an offset and one of some chunks
unfoldable pub most_tested : Plan → List ℕ → ℕ → ℕ
most_tested plan chunks offset = fold (λ most chunk. max most (tested_with plan chunk offset)) 0 chunks

-- the whole table of a plan, a pace and an offset, over the bytes of the images: it counts all rows that are tested
abbrev pub IsXorTable : List (List ℕ) → Plan → Pace → ℕ → RowTable → Type 0
IsXorTable images plan pace offset table = CountRows images (length plan.lengths.items) (span pace) offset (tested_with plan pace.chunk offset) table

-- there is such a table where a head needs one
abbrev pub HasXorTable : List (List ℕ) → Plan → Head → Option RowTable → Type 0
HasXorTable images plan head xors = needs_table plan head ≡ true → IsSomeAnd xors (λ table. IsXorTable images plan (pace_of head) head.offset table)

-- what the table says of a turn, for the image that a prefix puts on Q in the first row of it
abbrev pub beside_q : RowTable → Head → List (Option ℕ) → ℕ → ℕ
beside_q table head prefix turn = option_map_or (λ i. slice_index (slice_index_or table.beside turn []) i) (on_q head prefix (turn * head.delay)) 0

-- and of the rows that are broken in all, up to the largest number of 64 bits at level 6
abbrev pub broken_in : RowTable → Level → Head → List (Option ℕ) → ℕ
broken_in table Raid0 head prefix = 0
broken_in table Raid5 head prefix = table.all
broken_in table Raid6 head prefix = min (sum_by (beside_q table head prefix) (range_with_len 0 head.members)) (2 ^ 64 - 1)

-- what a table says of the rows, if the slots begin so, where the head needs one
abbrev pub rows_hold_by : Option RowTable → Plan → Head → List (Option ℕ) → Bool
rows_hold_by xors plan head prefix = not (needs_table plan head) || option_map_or (λ table. nat_le (broken_in table head.level head prefix) plan.limits.badrows) xors false

-- the sectors number j of the first `count` regions are those of the images at this sector
abbrev pub HoldRow : List (List ℕ) → ℕ → ℕ → ℕ → Room → Type 0
HoldRow images count sector j room = (i x : ℕ) → i < count → x < 512 → room_byte room (512 * j + x) i ≡ slice_index (slice_index_or images i []) (512 * sector + x)

-- so are the first `rows` of each region, from this sector on
abbrev pub HoldRows : List (List ℕ) → ℕ → ℕ → ℕ → Room → Type 0
HoldRows images count sector rows room = (j : ℕ) → j < rows → HoldRow images count (sector + j) j room

-- the sum of the images at this sector is zeros just where they do not differ, and the sector of one of them just where the
-- others do not
pub record IsSumOf (images : List (List ℕ)) (count sector : ℕ) (sum : ImageSum) : Type 0 where
  pub all : not sum.is_zero ≡ differ images (every count) sector
  pub beside : (i : ℕ) → i < count → not (slice_index_or sum.is_image i false) ≡ differ images (others count i) sector

-- so it is at each of the first sectors from this one on
abbrev pub AreSumsOf : List (List ℕ) → ℕ → ℕ → ℕ → List ImageSum → Type 0
AreSumsOf images count sector rows sums = (j : ℕ) (none : ImageSum) → j < rows → IsSumOf images count (sector + j) (slice_index_or sums j none)

-- no count is above this
pub record AreFew (most : ℕ) (table : RowTable) : Type 0 where
  pub all : table.all ≤ most
  pub beside : (k i : ℕ) → slice_index (slice_index_or table.beside k []) i ≤ most
