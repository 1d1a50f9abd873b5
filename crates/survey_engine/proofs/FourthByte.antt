-- Kinds that are told by their fronts have bytes of their own at 3, but for file records and labels, which have
-- at 0.
use Rattle.std.proofs.Common.{◌≡◌, ℕ, ◌+◌, ◌≤◌, List, Bool, true, false, codes, slice_index, cond, inl, inr, ◌⊎◌, arith, refl}
use Rattle.sector_fields.proofs.Bytes.{byte_of}
use Rattle.gpt_marks.specs.Header.{is_gpt_header}
use Rattle.ntfs_marks.specs.Boot.{has_boot_form, is_ntfs_boot}
use Rattle.ntfs_marks.specs.FileRecord.{is_ntfs_record}
use Rattle.mft.specs.Boot.{has_form, is_boot}
use Rattle.mft.specs.Start.{is_start}
use Rattle.xfs_marks.specs.Superblock.{is_xfs_super}
use Rattle.xfs_marks.specs.Group.{is_xfs_agf, is_xfs_agi}
use Rattle.more_marks.specs.Btrfs.{is_btrfs_super}
use Rattle.more_marks.specs.Lvm.{is_lvm_label}
use Rattle.survey_engine.specs.Exclusion.{KindsExcludeEachOther}

pub gpt_byte : (s : List ℕ) → is_gpt_header s ≡ true → slice_index s 3 ≡ 32
unfolding is_gpt_header
gpt_byte s h = byte_of s 0 (codes "EFI PART") 3 (grind arith) (omega arith)

pub boot_byte : (s : List ℕ) → is_ntfs_boot s ≡ true → slice_index s 3 ≡ 78
unfolding is_ntfs_boot has_boot_form
boot_byte s h = byte_of s 3 (codes "NTFS    ") 0 (grind arith) (omega arith)

pub record_byte : (s : List ℕ) → is_ntfs_record s ≡ true → slice_index s 3 ≡ 69
unfolding is_ntfs_record
record_byte s h = byte_of s 0 (codes "FILE") 3 (grind arith) (omega arith)

pub start_byte : (s : List ℕ) → is_start s ≡ true → slice_index s 3 ≡ 69
unfolding is_start
start_byte s h = byte_of s 0 (codes "FILE") 3 (grind arith) (omega arith)

pub volume_byte : (s : List ℕ) → is_boot s ≡ true → slice_index s 3 ≡ 78
unfolding is_boot has_form
volume_byte s h = byte_of s 3 (codes "NTFS    ") 0 (grind arith) (omega arith)

pub super_byte : (s : List ℕ) → is_xfs_super s ≡ true → slice_index s 3 ≡ 66
unfolding is_xfs_super
super_byte s h = byte_of s 0 (codes "XFSB") 3 (grind arith) (omega arith)

pub agf_byte : (s : List ℕ) → is_xfs_agf s ≡ true → slice_index s 3 ≡ 70
unfolding is_xfs_agf
agf_byte s h = byte_of s 0 (codes "XAGF") 3 (grind arith) (omega arith)

pub agi_byte : (s : List ℕ) → is_xfs_agi s ≡ true → slice_index s 3 ≡ 73
unfolding is_xfs_agi
agi_byte s h = byte_of s 0 (codes "XAGI") 3 (grind arith) (omega arith)

pub label_byte : (s : List ℕ) → is_lvm_label s ≡ true → slice_index s 3 ≡ 69
unfolding is_lvm_label
label_byte s h = byte_of s 0 (codes "LABELONE") 3 (grind arith) (omega arith)

-- the first byte of a file record and that of a label
record_first : (s : List ℕ) → is_ntfs_record s ≡ true → slice_index s 0 ≡ 70
unfolding is_ntfs_record
record_first s h = byte_of s 0 (codes "FILE") 0 (grind arith) (omega arith)

label_first : (s : List ℕ) → is_lvm_label s ≡ true → slice_index s 0 ≡ 76
unfolding is_lvm_label
label_first s h = byte_of s 0 (codes "LABELONE") 0 (grind arith) (omega arith)

-- byte 64 of a superblock of btrfs
pub btrfs_byte : (s : List ℕ) → is_btrfs_super s ≡ true → slice_index s 64 ≡ 95
unfolding is_btrfs_super
btrfs_byte s h = byte_of s 64 (codes "_BHRfS_M") 0 (grind arith) (omega arith)

-- a test that passes counts one
abbrev counted : Bool → ℕ
counted test = cond test 1 0

counts : (test : Bool) (x c : ℕ) → (test ≡ true → x ≡ c) → (counted test ≡ 0) ⊎ ((counted test ≡ 1) × (x ≡ c))
counts true x c h = inr (refl, h refl)
counts false x c h = inl refl

counts_two : (test : Bool) (x c y d : ℕ) → (test ≡ true → x ≡ c) → (test ≡ true → y ≡ d) → (counted test ≡ 0) ⊎ ((counted test ≡ 1) × (x ≡ c) × (y ≡ d))
counts_two true x c y d h k = inr (refl, h refl, k refl)
counts_two false x c y d h k = inl refl

-- tests that want different bytes count one together
only_one : (x y a b c d e f g : ℕ) → (a ≡ 0) ⊎ ((a ≡ 1) × (x ≡ 32)) → (b ≡ 0) ⊎ ((b ≡ 1) × (x ≡ 78)) → (c ≡ 0) ⊎ ((c ≡ 1) × (x ≡ 69) × (y ≡ 70)) → (d ≡ 0) ⊎ ((d ≡ 1) × (x ≡ 66)) →
    (e ≡ 0) ⊎ ((e ≡ 1) × (x ≡ 70)) → (f ≡ 0) ⊎ ((f ≡ 1) × (x ≡ 73)) → (g ≡ 0) ⊎ ((g ≡ 1) × (x ≡ 69) × (y ≡ 76)) → 0 + a + b + c + d + e + f + g ≤ 1
only_one x y a b c d e f g ha hb hc hd he hf hg = grind arith

-- so no two tests pass
pub at_most_one : KindsExcludeEachOther
at_most_one s =
    only_one (slice_index s 3) (slice_index s 0) _ _ _ _ _ _ _
    (counts (is_gpt_header s) (slice_index s 3) 32 (gpt_byte s))
    (counts (is_ntfs_boot s) (slice_index s 3) 78 (boot_byte s))
    (counts_two (is_ntfs_record s) (slice_index s 3) 69 (slice_index s 0) 70 (record_byte s) (record_first s))
    (counts (is_xfs_super s) (slice_index s 3) 66 (super_byte s))
    (counts (is_xfs_agf s) (slice_index s 3) 70 (agf_byte s))
    (counts (is_xfs_agi s) (slice_index s 3) 73 (agi_byte s))
    (counts_two (is_lvm_label s) (slice_index s 3) 69 (slice_index s 0) 76 (label_byte s) (label_first s))
