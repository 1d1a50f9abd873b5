-- The sizes of a file record, case by case.
use Rattle.std.proofs.Common.{◌≡◌, ℕ, ◌≤◌, ◌^◌, List, Some, None, true, arith}
use Rattle.std.proofs.lemmas.Bool.Decides.{nat_tests}
use Rattle.ntfs_marks.specs.RecordSize.{allowed_size, is_record_size}
use Rattle.ntfs_marks.specs.Boot.{is_ntfs_boot, ntfs_boot, record_bytes}

-- past 32 bits nothing is a size
pub too_large : (bytes : ℕ) → 2 ^ 32 ≤ bytes → allowed_size bytes ≡ None
unfolding allowed_size is_record_size
too_large bytes h = grind (arith, nat_tests)

-- a sector whose code gives no size is no boot sector
pub no_boot : (s : List ℕ) → allowed_size (record_bytes s) ≡ None → ntfs_boot s ≡ None
unfolding allowed_size ntfs_boot is_ntfs_boot
no_boot s h = grind arith

-- where it gives one, that is the size of a record
pub size_is : (s : List ℕ) (bytes : ℕ) → allowed_size (record_bytes s) ≡ Some bytes → bytes ≡ record_bytes s
unfolding allowed_size
size_is s bytes h = grind arith

pub size_allowed : (s : List ℕ) (bytes : ℕ) → allowed_size (record_bytes s) ≡ Some bytes → is_record_size (record_bytes s) ≡ true
unfolding allowed_size
size_allowed s bytes h = grind arith
