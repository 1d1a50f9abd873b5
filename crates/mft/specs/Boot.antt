-- The boot sector of NTFS, as far as it says where file records lie (Linux-NTFS documentation, $Boot). Numbers are little-endian,
-- and a sector has 512 bytes.
use Rattle.std.specs.Prelude.{ℕ, ◌-◌, ◌*◌, ◌^◌, List, [], ◌∷◌, Bool, ◌&&◌, ◌||◌, ◌==◌, nat_le, nat_lt, Option, Some, None, if◌then◌else◌, codes, slice_index}
use Rattle.std.specs.Int.{is_power_of_two}
use Rattle.sector_fields.specs.Fields.{has_bytes, u16_le, u64_le}
use Rattle.mft.specs.declared.boot.MftBoot.{MftBoot}

-- the sectors of a cluster by their code: a power of two up to 128, or from 244 to 248 what 256 lacks, as a power of two, which
-- gives 4,096 to 256 sectors; 0 by another code
unfoldable pub cluster_of : ℕ → ℕ
cluster_of code =
    if is_power_of_two code && nat_le code 128 then code
    else if code == 248 then 256
    else if code == 247 then 512
    else if code == 246 then 1024
    else if code == 245 then 2048
    else if code == 244 then 4096
    else 0

-- the bytes of a file record by their code and the sectors of a cluster: below 128 a code counts clusters; 246 and 244 are what
-- 256 lacks, as powers of two; 0 by another code
unfoldable pub coded_bytes : ℕ → ℕ → ℕ
coded_bytes code cluster = if code == 246 then 1024 else if code == 244 then 4096 else if nat_lt code 128 then code * cluster * 512 else 0

-- records have 1,024 or 4,096 bytes
unfoldable pub is_record_size : ℕ → Bool
is_record_size bytes = bytes == 1024 || bytes == 4096

-- its fields
unfoldable pub boot_of : List ℕ → MftBoot
boot_of s = record {
  cluster = cluster_of (slice_index s 13);  -- sectors per cluster: u8 at 13
  mft = u64_le s 48;  -- $MFT cluster: u64 at 48
  mirror = u64_le s 56;  -- $MFTMirr cluster: u64 at 56
  bytes = coded_bytes (slice_index s 64) (cluster_of (slice_index s 13));  -- clusters per file record: i8 at 64
}

-- clusters have sectors, records have one of the two sizes, and the table and its mirror begin below 2^55
unfoldable pub is_near : MftBoot → Bool
is_near boot =
    nat_le 1 boot.cluster && nat_le boot.cluster 4096 && is_record_size boot.bytes
    && nat_lt (boot.mft * boot.cluster) (2 ^ 55) && nat_lt (boot.mirror * boot.cluster) (2 ^ 55)

-- the facts that make a sector a boot sector
unfoldable pub has_form : List ℕ → Bool
has_form s =
    has_bytes s 3 (codes "NTFS    ")  -- OEM identifier: 8 bytes at 3
    && has_bytes s 510 (0x55 ∷ 0xAA ∷ [])  -- end of sector marker: 2 bytes at 510
    && (u16_le s 11 == 512)  -- bytes per sector: u16 at 11

unfoldable pub is_boot : List ℕ → Bool
is_boot s = has_form s && is_near (boot_of s)

-- what it says, if the sector is one
unfoldable pub mft_boot : List ℕ → Option MftBoot
mft_boot s = if is_boot s then Some (boot_of s) else None
