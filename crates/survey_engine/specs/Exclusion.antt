-- No sector is of two kinds of landmark sectors that are told by their fronts.
use Rattle.std.specs.Prelude.{ℕ, ◌≤◌, List, [], ◌∷◌, Bool, count_by}
use Rattle.gpt_marks.specs.Header.{is_gpt_header}
use Rattle.ntfs_marks.specs.Boot.{is_ntfs_boot}
use Rattle.ntfs_marks.specs.FileRecord.{is_ntfs_record}
use Rattle.xfs_marks.specs.Superblock.{is_xfs_super}
use Rattle.xfs_marks.specs.Group.{is_xfs_agf, is_xfs_agi}
use Rattle.more_marks.specs.Lvm.{is_lvm_label}

-- the tests of the seven kinds
abbrev pub kind_tests : List (List ℕ → Bool)
kind_tests = is_gpt_header ∷ is_ntfs_boot ∷ is_ntfs_record ∷ is_xfs_super ∷ is_xfs_agf ∷ is_xfs_agi ∷ is_lvm_label ∷ []

-- no sector passes two of the tests
abbrev pub KindsExcludeEachOther : Type 0
KindsExcludeEachOther = (sector : List ℕ) → count_by (λ is_kind. is_kind sector) kind_tests ≤ 1
