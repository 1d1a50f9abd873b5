-- The bytes and numbers of a file record (Linux-NTFS documentation, Fixup): the last two bytes of each of its sectors stand in an array
-- behind the number of its update sequence, from byte 50 on. Numbers are little-endian, and bytes past the record are 0.
use Rattle.std.specs.Prelude.{ℕ, ◌+◌, ◌-◌, ◌*◌, ◌/◌, ◌%◌, ◌^◌, List, [], ◌∷◌, nat_lt, if◌then◌else◌, slice_index_or}
use Rattle.byteorder.specs.Endian.{little_number}

-- where a byte stands
unfoldable pub place_of_byte : ℕ → ℕ
place_of_byte at = if nat_lt (at % 512) 510 then at else 50 + 2 * (at / 512) + (at % 512 - 510)

unfoldable pub byte_at : List ℕ → ℕ → ℕ
byte_at file at = slice_index_or file (place_of_byte at) 0

-- the number in the eight bytes from a byte on, and in the first of them
unfoldable pub u64_at : List ℕ → ℕ → ℕ
u64_at file at =
    little_number 8 (byte_at file at ∷ byte_at file (at + 1) ∷ byte_at file (at + 2) ∷ byte_at file (at + 3) ∷ byte_at file (at + 4) ∷ byte_at file (at + 5)
    ∷ byte_at file (at + 6) ∷ byte_at file (at + 7) ∷ [])

unfoldable pub number_at : List ℕ → ℕ → ℕ → ℕ
number_at file at bytes = u64_at file at % 256 ^ bytes
