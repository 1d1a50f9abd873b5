-- What a caller may rely on in what was read.
use Rattle.std.proofs.Common.{◌≡◌, ℕ, ◌*◌, ◌/◌, ◌<◌, ◌≤◌, List, Some, true, arith, ◌^◌}
use Rattle.std.proofs.lemmas.Bool.Decides.{nat_tests}
use Rattle.std.proofs.Math.Nat.{mul-le-mul_right}
use Rattle.ntfs_marks.specs.Boot.{record_sector, is_ntfs_boot, is_within_limit, ntfs_boot}
use Rattle.ntfs_marks.specs.FileRecord.{is_ntfs_record, ntfs_record, ntfs_record_of}
use Rattle.ntfs_marks.specs.declared.boot.NtfsBoot.{NtfsBoot}
use Rattle.ntfs_marks.specs.declared.file_record.NtfsRecord.{NtfsRecord}

-- the volume and its first records are below the limit
pub boot_within : (s : List ℕ) (boot : NtfsBoot) → ntfs_boot s ≡ Some boot → is_within_limit boot ≡ true
unfolding ntfs_boot is_ntfs_boot
boot_within s boot e = grind arith

-- the number is one of sixteen
pub number_below : (s : List ℕ) (r : NtfsRecord) → ntfs_record s ≡ Some r → r.number < 16
unfolding ntfs_record ntfs_record_of is_ntfs_record
number_below s r e = grind (arith, nat_tests)

-- each of the first sixteen records of both tables lies below the limit
pub record_below : (boot : NtfsBoot) (r : ℕ) → is_within_limit boot ≡ true → r < 16 → (record_sector boot boot.mft r < 2 ^ 55) × (record_sector boot boot.mirror r < 2 ^ 55)
unfolding is_within_limit record_sector
record_below boot r t below =
    let most : r * (boot.record_bytes / 512) ≤ 15 * (boot.record_bytes / 512) = mul-le-mul_right (boot.record_bytes / 512) (omega arith) in
    (grind (arith, nat_tests), grind (arith, nat_tests))
