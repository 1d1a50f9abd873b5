-- The size of the records of the master file table, as the boot sector of NTFS codes it (Linux-NTFS
-- documentation, $Boot).
use Rattle.std.specs.Prelude.{ℕ, ℤ, pos, int_lt, unsigned_abs, ◌*◌, ◌^◌, ◌%◌, Bool, ◌&&◌, ◌==◌, nat_le, Option, Some, None, if◌then◌else◌}

-- the bytes by the code and the sectors of a cluster: a code from 0 on counts clusters, a negative one
-- gives 2 to its absolute value
unfoldable pub coded_bytes : ℤ → ℕ → ℕ
coded_bytes code cluster = if int_lt code (pos 0) then 2 ^ unsigned_abs code else unsigned_abs code * cluster * 512

-- 512 to 65,536 bytes, whole sectors
unfoldable pub is_record_size : ℕ → Bool
is_record_size bytes = nat_le 512 bytes && nat_le bytes 65536 && (bytes % 512 == 0)

-- the size, if it is one
unfoldable pub allowed_size : ℕ → Option ℕ
allowed_size bytes = if is_record_size bytes then Some bytes else None
