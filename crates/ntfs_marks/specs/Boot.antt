-- The boot sector of NTFS (NTFS on-disk layout: "How NTFS Works", NTFS Boot Sector; Linux-NTFS
-- documentation, $Boot). Numbers are little-endian, and a sector has 512 bytes.
use Rattle.std.specs.Prelude.{ℕ, ◌+◌, ◌*◌, ◌/◌, List, [], ◌∷◌, slice_index, Bool, ◌&&◌, ◌==◌, nat_le, nat_lt, Option, Some, None, if◌then◌else◌, codes, ◌^◌}
use Rattle.std.specs.Int.{w8, cast_signed, is_power_of_two}
use Rattle.sector_fields.specs.Fields.{has_bytes, u16_le, u64_le}
use Rattle.ntfs_marks.specs.RecordSize.{coded_bytes, is_record_size}
use Rattle.ntfs_marks.specs.declared.boot.NtfsBoot.{NtfsBoot}

-- the bytes of a file record
unfoldable pub record_bytes : List ℕ → ℕ
record_bytes s =
    coded_bytes (cast_signed w8 (slice_index s 64)) (slice_index s 13)  -- clusters per file record: i8 at 64

-- the facts of a boot sector that no number of the volume plays a part in
unfoldable pub has_boot_form : List ℕ → Bool
has_boot_form s =
    has_bytes s 3 (codes "NTFS    ")  -- OEM identifier: 8 bytes at 3
    && has_bytes s 510 (0x55 ∷ 0xAA ∷ [])  -- end of sector marker: 2 bytes at 510
    && (u16_le s 11 == 512)  -- bytes per sector: u16 at 11
    && is_power_of_two (slice_index s 13) && nat_le (slice_index s 13) 128  -- sectors per cluster: u8 at 13

-- the fields of a boot sector
unfoldable pub ntfs_boot_of : List ℕ → NtfsBoot
ntfs_boot_of s = record {
  cluster = slice_index s 13;  -- sectors per cluster: u8 at 13
  total = u64_le s 40;  -- total sectors: u64 at 40
  mft = u64_le s 48;  -- $MFT cluster: u64 at 48
  mirror = u64_le s 56;  -- $MFTMirr cluster: u64 at 56
  record_bytes = record_bytes s;
  serial = u64_le s 72;  -- volume serial number: u64 at 72
}

-- the sector of a file record of that number, counted from the boot sector: records stand in one run from
-- a cluster on
unfoldable pub record_sector : NtfsBoot → ℕ → ℕ → ℕ
record_sector boot first_cluster number = first_cluster * boot.cluster + number * (boot.record_bytes / 512)

-- there are sectors, and their number and the sector of record 15, of $MFT and of $MFTMirr, are below
-- 2^55
unfoldable pub is_within_limit : NtfsBoot → Bool
is_within_limit boot =
    nat_le 1 boot.total && nat_lt boot.total (2 ^ 55)
    && nat_lt (record_sector boot boot.mft 15) (2 ^ 55)
    && nat_lt (record_sector boot boot.mirror 15) (2 ^ 55)

-- the facts that make a sector a boot sector
unfoldable pub is_ntfs_boot : List ℕ → Bool
is_ntfs_boot s = has_boot_form s && is_record_size (record_bytes s) && is_within_limit (ntfs_boot_of s)

-- the boot sector's fields, if it is one
unfoldable pub ntfs_boot : List ℕ → Option NtfsBoot
ntfs_boot s = if is_ntfs_boot s then Some (ntfs_boot_of s) else None
