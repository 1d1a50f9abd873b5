-- A file record of NTFS 3.1 (NTFS on-disk layout: Linux-NTFS documentation, File Record). Numbers are
-- little-endian.
use Rattle.std.specs.Prelude.{ℕ, List, Bool, ◌&&◌, ◌==◌, nat_lt, Option, Some, None, if◌then◌else◌, codes}
use Rattle.sector_fields.specs.Fields.{has_bytes, u16_le, u32_le}
use Rattle.ntfs_marks.specs.declared.file_record.NtfsRecord.{NtfsRecord}

-- the facts that make a sector the first of a file record
unfoldable pub is_ntfs_record : List ℕ → Bool
is_ntfs_record s =
    has_bytes s 0 (codes "FILE")  -- signature: 4 bytes at 0
    && (u16_le s 4 == 48)  -- offset of the update sequence: u16 at 4, which is 48 from NTFS 3.1 on
    && nat_lt (u32_le s 44) 16  -- number of this record: u32 at 44

-- its fields
unfoldable pub ntfs_record_of : List ℕ → NtfsRecord
ntfs_record_of s = record {
  number = u32_le s 44;  -- number of this record: u32 at 44
  bytes = u32_le s 28;  -- allocated size: u32 at 28
}

-- the record's fields, if the sector begins one
unfoldable pub ntfs_record : List ℕ → Option NtfsRecord
ntfs_record s = if is_ntfs_record s then Some (ntfs_record_of s) else None
