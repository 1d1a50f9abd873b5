-- A file record of NTFS 3.1 (Linux-NTFS documentation, File Record, Fixup). Numbers are little-endian.
use Rattle.std.specs.Prelude.{ℕ, ◌+◌, ◌*◌, ◌/◌, ◌%◌, List, Bool, ◌&&◌, ◌==◌, nat_lt, length, Option, Some, None, if◌then◌else◌, codes, slice_index_or}
use Rattle.std.specs.List.{list_all, range_with_len}
use Rattle.sector_fields.specs.Fields.{has_bytes, u16_le, u32_le}
use Rattle.mft.specs.Boot.{is_record_size}
use Rattle.mft.specs.declared.start.RecordStart.{RecordStart}

-- the facts that make a sector the first of a file record: its size is one of the two, and its update sequence, from byte 48 on, has a
-- number and as many pairs of bytes as the record has sectors
unfoldable pub is_start : List ℕ → Bool
is_start s =
    has_bytes s 0 (codes "FILE")  -- signature: 4 bytes at 0
    && (u16_le s 4 == 48)  -- offset of the update sequence: u16 at 4
    && is_record_size (u32_le s 28)  -- allocated size: u32 at 28
    && (u16_le s 6 == u32_le s 28 / 512 + 1)  -- size of the update sequence in words: u16 at 6

-- its fields
unfoldable pub start_of : List ℕ → RecordStart
start_of s = record { number = u32_le s 44; bytes = u32_le s 28 }  -- number of this record: u32 at 44

-- what it says of itself, if a record begins in the sector
unfoldable pub record_start : List ℕ → Option RecordStart
record_start s = if is_start s then Some (start_of s) else None

-- a record counts where it spreads over the table: of the first 4,096 each that begins a stretch of 4 KiB, and of the others each that
-- begins one of 64 KiB
unfoldable pub is_spread : RecordStart → Bool
is_spread r = if nat_lt r.number 4096 then r.number * r.bytes % 4096 == 0 else r.number * r.bytes % 65536 == 0

-- a sector of a record ends with the number of the update sequence
unfoldable pub ends_alike : List ℕ → ℕ → Bool
ends_alike file sector =
    (slice_index_or file (512 * sector + 510) 0 == slice_index_or file 48 0) && (slice_index_or file (512 * sector + 511) 0 == slice_index_or file 49 0)

-- all do: so the sectors of the record were written together, and lie together on one image
unfoldable pub is_whole : List ℕ → Bool
is_whole file = list_all (ends_alike file) (range_with_len 0 (length file / 512))
