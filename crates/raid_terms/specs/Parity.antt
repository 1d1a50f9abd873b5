-- The parity equations of a row, and the rows that are sound.
use Rattle.std.specs.Prelude.{ℕ, ◌≡◌, ◌+◌, ◌*◌, ◌/◌, ◌<◌, ◌≤◌, min, Bool, true, false, nat_eq, nat_le, ◌&&◌, ◌||◌, not, if◌then◌else◌, List, [], ◌∷◌, map, length, bit_xor, slice_index, slice_index_or, count_by, All}
use Rattle.std.specs.List.{filter_map, flat_map, list_all, list_any, range_with_len, IsDistinct}
use Rattle.std.specs.declared.option.Option.{Option}
use Rattle.std.specs.declared.option.Option.TheVariants.{None, Some}
use Rattle.gf256.specs.Field.{product, power_of}
use Rattle.raid_params.specs.declared.limits.TheConstants.{MOST}
use Rattle.raid_params.specs.declared.types.Cell.{Cell}
use Rattle.raid_params.specs.declared.types.Geometry.{Geometry}
use Rattle.raid_params.specs.declared.types.Part.{Part}
use Rattle.raid_params.specs.declared.types.Part.TheVariants.{Block, P, Q}
use Rattle.raid_params.specs.Size.{area}
use Rattle.raid_terms.specs.Cells.{row_cells}

abbrev pub is_p : Part → Bool
is_p P = true
is_p Q = false
is_p (Block k) = false

abbrev pub is_q : Part → Bool
is_q Q = true
is_q P = false
is_q (Block k) = false

abbrev pub is_data : Part → Bool
is_data (Block k) = true
is_data P = false
is_data Q = false

-- the exponent of a data cell
abbrev pub exponent_in : Part → Option ℕ
exponent_in (Block k) = Some k
exponent_in P = None
exponent_in Q = None

-- the row has a parity block
abbrev pub has_p : List Cell → Bool
has_p cells = list_any (λ c. is_p c.part) cells

-- the row has a block of the Q syndrome
abbrev pub has_q : List Cell → Bool
has_q cells = list_any (λ c. is_q c.part) cells

-- what a byte adds to the sum that P's equation asks to be 0: itself, but for Q
abbrev pub in_p : Part → ℕ → ℕ
in_p (Block k) byte = byte
in_p P byte = byte
in_p Q byte = 0

-- what a byte adds to the sum that Q's equation asks to be 0: 2 to the power of its exponent times
-- itself where it is data, itself where it is Q
abbrev pub in_q : Part → ℕ → ℕ
in_q (Block k) byte = product (power_of k) byte
in_q P byte = 0
in_q Q byte = byte

-- the sum, in the field of bytes, of what the bytes of a column add, one byte a cell
unfoldable pub sum_of : (Part → ℕ → ℕ) → List Cell → List ℕ → ℕ
sum_of adds [] bytes = 0
sum_of adds (cell ∷ cells) [] = 0
sum_of adds (cell ∷ cells) (byte ∷ bytes) = bit_xor (adds cell.part byte) (sum_of adds cells bytes)

-- P's equation, where the row has a P: the exclusive or of the data bytes and P is 0
abbrev pub p_holds : List Cell → List ℕ → Bool
p_holds cells bytes = not (has_p cells) || nat_eq (sum_of in_p cells bytes) 0

-- Q's equation, where the row has a Q: the weighed sum of the data bytes, plus Q, is 0
abbrev pub q_holds : List Cell → List ℕ → Bool
q_holds cells bytes = not (has_q cells) || nat_eq (sum_of in_q cells bytes) 0

-- the equations of a column
abbrev pub equations_hold : List Cell → List ℕ → Bool
equations_hold cells bytes = p_holds cells bytes && q_holds cells bytes

-- the columns that agree with this one but at the missing cells, one for each way to fill these with
-- bytes
unfoldable pub filled : List Cell → List ℕ → List (List ℕ)
filled [] bytes = [] ∷ []
filled (cell ∷ cells) [] = []
filled (cell ∷ cells) (byte ∷ bytes) =
    flat_map (λ b. map (λ rest. b ∷ rest) (filled cells bytes)) (if cell.missing then range_with_len 0 256 else byte ∷ [])

-- a column is sound where there are bytes for the missing cells with which the equations hold
abbrev pub is_sound_column : List Cell → List ℕ → Bool
is_sound_column cells bytes = list_any (equations_hold cells) (filled cells bytes)

-- a sector row is sound where each of its 512 columns is
unfoldable pub is_sound : List Cell → (ℕ → List ℕ) → Bool
is_sound cells column = list_all (λ x. is_sound_column cells (column x)) (range_with_len 0 512)

-- column x of `sectors` sectors that stand one after the other
abbrev pub column_of : ℕ → List ℕ → ℕ → List ℕ
column_of sectors row x = map (λ i. slice_index row (512 * i + x)) (range_with_len 0 sectors)

-- byte x of member sector t of a slot: its image's, from the offset on. Where the slot is empty the
-- byte is not known, and the 0 counts for nothing
abbrev pub member_byte : List (List ℕ) → ℕ → ℕ → ℕ → Option ℕ → ℕ
member_byte images offset t x None = 0
member_byte images offset t x (Some i) = slice_index (slice_index_or images i []) (512 * (offset + t) + x)

-- column x of sector row t
abbrev pub member_column : List (List ℕ) → Geometry → ℕ → ℕ → List ℕ
member_column images geo t x = map (member_byte images geo.head.offset t x) geo.slots.items

-- sector row t of an array is sound
abbrev pub is_sound_row : List (List ℕ) → Geometry → ℕ → Bool
is_sound_row images geo t = is_sound (row_cells geo (t / geo.head.chunk)) (member_column images geo t)

-- how many of the first n sector rows are unsound
abbrev pub unsound_rows : List (List ℕ) → Geometry → ℕ → ℕ
unsound_rows images geo n = count_by (λ t. not (is_sound_row images geo t)) (range_with_len 0 n)

-- the tested rows are those below the area and the window
abbrev pub tested_rows : Geometry → ℕ → ℕ → ℕ
tested_rows geo end window = min (area geo.head end) window

-- the parity test: at most `bad_rows` of the tested rows are unsound
abbrev pub passes_parity : List (List ℕ) → Geometry → ℕ → ℕ → ℕ → Bool
passes_parity images geo end window bad_rows = nat_le (unsound_rows images geo (tested_rows geo end window)) bad_rows

-- the exponents of the data cells
abbrev pub exponents : List Cell → List ℕ
exponents cells = filter_map (λ c. exponent_in c.part) cells

-- cells that a row may have: 2 to 24 of them; at most one is P and at most one Q, and Q only beside P;
-- where there is a Q, the exponents of the data cells differ and are below 255; and no more cells are
-- missing than hold parity
pub record IsRow (cells : List Cell) : Type 0 where
  pub few : 2 ≤ length cells
  pub most : length cells ≤ MOST
  pub one_p : count_by (λ c. is_p c.part) cells ≤ 1
  pub one_q : count_by (λ c. is_q c.part) cells ≤ 1
  pub beside : has_q cells ≡ true → has_p cells ≡ true
  pub apart : has_q cells ≡ true → IsDistinct nat_eq (exponents cells)
  pub short : has_q cells ≡ true → All (λ k. k < 255) (exponents cells)
  pub missing : count_by (λ c. c.missing) cells ≤ count_by (λ c. not (is_data c.part)) cells
