-- By what each image is weighed in the volume of a set.
use Rattle.std.specs.Prelude.{ℕ, zero, suc, ◌≡◌, ◌+◌, ◌-◌, ◌*◌, ◌<◌, ◌==◌, if◌then◌else◌, min, bit_xor, List, length, map, slice_index, slice_index_or}
use Rattle.std.specs.List.{flat_map, range_with_len}
use Rattle.std.specs.declared.option.Option.{Option}
use Rattle.std.specs.declared.option.Option.TheVariants.{None, Some}
use Rattle.raid_params.specs.Size.{data_blocks, rows}
use Rattle.raid_params.specs.declared.types.Cell.{Cell}
use Rattle.raid_params.specs.declared.types.Geometry.{Geometry}
use Rattle.raid_params.specs.declared.types.Head.{Head}
use Rattle.raid_params.specs.declared.types.Pattern.{Pattern}
use Rattle.raid_params.specs.declared.types.Pattern.TheVariants.{La6, Ra6, Ls6, Rs6, ParityFirst6}
use Rattle.raid_terms.specs.Cells.{row_cells}
use Rattle.raid_terms.specs.Role.{item_of}
use Rattle.raid_terms.specs.Solving.{lost_byte}

-- after so many turns a pattern over n slots begins anew: those with a 6 rotate over all slots but the last
abbrev pub period_of : Pattern → ℕ → ℕ
period_of La6 n = n - 1
period_of Ra6 n = n - 1
period_of Ls6 n = n - 1
period_of Rs6 n = n - 1
period_of ParityFirst6 n = n - 1
period_of _ n = n

-- after so many turns the layout of a head begins anew
abbrev pub turns : Head → ℕ
turns head = period_of head.pattern head.members

-- and after so many rows, since each turn lasts for as many as the delay
abbrev pub period : Head → ℕ
period head = head.delay * turns head

-- and after so many rows two layouts begin anew together: where their delays are equal, as many turns as both take
abbrev pub common_period : Head → Head → ℕ
common_period one other = if one.delay == other.delay then one.delay * (turns one * turns other) else period one * period other

-- byte 01 where a slot holds this image, and 00 elsewhere
abbrev pub unit_byte : ℕ → Option ℕ → ℕ
unit_byte image None = 0
unit_byte image (Some held) = if held == image then 1 else 0

-- a column in which this image has byte 01, and each other image has 00
abbrev pub unit_column : ℕ → List (Option ℕ) → List ℕ
unit_column image slots = map (unit_byte image) slots

-- the byte of a slot, by the bytes of a column: its own, or the lost one where it is empty
abbrev pub found_byte : List Cell → List ℕ → ℕ → Option ℕ → ℕ
found_byte cells column slot (Some held) = slice_index column slot
found_byte cells column slot None = lost_byte cells column slot

-- the coefficient of a data item of a row over an image: the item's byte where the image has byte 01 in the column, and each
-- other image has 00
abbrev pub coefficient : Geometry → ℕ → ℕ → ℕ → ℕ
coefficient geo row item image =
    found_byte (row_cells geo row) (unit_column image geo.slots.items) (item_of geo.head row item) (slice_index_or geo.slots.items (item_of geo.head row item) None)

-- the sum, in the field of bytes, of f at the numbers below n
unfoldable pub field_sum : (ℕ → ℕ) → ℕ → ℕ
field_sum f zero = 0
field_sum f (suc n) = bit_xor (field_sum f n) (f n)

-- two sets have equal coefficients in a row, for each item of the one over each image
abbrev pub AgreeInRow : Geometry → Geometry → ℕ → ℕ → Type 0
AgreeInRow one other images row =
    (item image : ℕ) → item < data_blocks one.head → image < images → coefficient one row item image ≡ coefficient other row item image

-- the rows that tell two sets apart: those before both begin anew together
abbrev pub told_rows : Head → Head → ℕ → ℕ
told_rows one other end = min (rows one end) (common_period one other)

-- two heads have the same offset, chunk and number of data items
pub record HaveEqualSizes (one other : Head) : Type 0 where
  pub offset : one.offset ≡ other.offset
  pub chunk : one.chunk ≡ other.chunk
  pub items : data_blocks one ≡ data_blocks other

-- two sets have these, and equal coefficients in the rows that tell
pub record HaveEqualCoefficients (one other : Geometry) (images end : ℕ) : Type 0 where
  pub sizes : HaveEqualSizes one.head other.head
  pub rows : (row : ℕ) → row < told_rows one.head other.head end → AgreeInRow one other images row

-- a sector for each slot, one after the other: byte j of each is 01 where the slot holds image j, and 00 elsewhere
pub record AreUnits (slots : List (Option ℕ)) (sectors : List ℕ) : Type 0 where
  pub long : length sectors ≡ 512 * length slots
  pub bytes : (place image : ℕ) → place < length slots → image < 512 → slice_index sectors (512 * place + image) ≡ unit_byte image (slice_index_or slots place None)

-- the coefficients of an item over the images
abbrev pub item_coefficients : Geometry → ℕ → ℕ → ℕ → List ℕ
item_coefficients geo images row item = map (coefficient geo row item) (range_with_len 0 images)

-- those of all items of a row
abbrev pub row_coefficients : Geometry → ℕ → ℕ → List ℕ
row_coefficients geo images row = flat_map (item_coefficients geo images row) (range_with_len 0 (data_blocks geo.head))

-- the turns before the layout begins anew, and no more than there are rows
abbrev pub own_turns : Head → ℕ → ℕ
own_turns head end = min (rows head end) (turns head)

-- those of the first row of a turn
abbrev pub turn_coefficients : Geometry → ℕ → ℕ → List ℕ
turn_coefficients geo images turn = row_coefficients geo images (turn * geo.head.delay)

-- and those of all these turns
abbrev pub coefficients_of : Geometry → ℕ → ℕ → List ℕ
coefficients_of geo images end = flat_map (turn_coefficients geo images) (range_with_len 0 (own_turns geo.head end))
