-- A sector that is no landmark by a few of its bytes.
use Rattle.std.proofs.Common.{◌≡◌, ◌≢◌, ◌<◌, ℕ, List, [], false, None, refl, arith, slice_index}
use Rattle.std.proofs.lemmas.Bool.Decides.{nat_tests}
use Rattle.sector_fields.specs.Fields.{u16_le, u64_le}
use Rattle.btrfstree.specs.Header.{is_block, is_counted, tree_block}
use Rattle.ext_marks.specs.Copy.{is_ext_copy}
use Rattle.inode_marks.specs.Inode.{any_pair, are_beside, has_extra}
use Rattle.xfs5.specs.Inode.{begins_inode, is_inode, inode_start, xfs_inode}
use Rattle.mft.specs.Boot.{is_boot, mft_boot}
use Rattle.mft.specs.Start.{is_start, record_start}
use Rattle.survey_engine.proofs.FourthByte.{start_byte, volume_byte}
use Rattle.survey_engine.proofs.Landmarks.{none_is, not_btrfs, not_gpt, refuted}
use Rattle.survey_engine.specs.Landmarks.{inner_in, inode_in, landmark_in, last_in, mft_in, record_in, start_in}

-- an inode of XFS has its version
no_inode : (s : List ℕ) → slice_index s 4 ≢ 3 → begins_inode s ≡ false
unfolding begins_inode
no_inode s other = refuted (begins_inode s) (λ yes. other (grind (arith, nat_tests)))

no_checked : (s : List ℕ) → slice_index s 4 ≢ 3 → is_inode s [] ≡ false
unfolding is_inode
no_checked s other = rw (no_inode s other) refl

no_xfs : (s : List ℕ) → slice_index s 4 ≢ 3 → inode_in s ≡ None
unfolding inode_in xfs_inode
no_xfs s other = rw (no_checked s other) refl

no_start : (s : List ℕ) → slice_index s 4 ≢ 3 → start_in s ≡ None
unfolding start_in xfs_inode inode_start
no_start s other = rw (no_checked s other, no_inode s other) refl

-- a tree block of btrfs has an address, and a revision of 0 or 1
pub no_address : (s : List ℕ) → u64_le s 48 ≡ 0 → is_block s ≡ false
unfolding is_block
no_address s none = refuted (is_block s) (λ yes. grind (arith, nat_tests))

pub no_revision : (s : List ℕ) → 1 < slice_index s 63 → is_block s ≡ false
unfolding is_block
no_revision s late = refuted (is_block s) (λ yes. grind (arith, nat_tests))

no_block : (s : List ℕ) → is_block s ≡ false → tree_block s ≡ None
unfolding tree_block is_counted
no_block s none = rw none refl

-- a copy of a superblock of ext has its magic number
no_copy : (s : List ℕ) → u16_le s 56 ≢ 0xEF53 → is_ext_copy s ≡ false
unfolding is_ext_copy
no_copy s other = refuted (is_ext_copy s) (λ yes. other (grind (arith, nat_tests)))

-- two inodes of ext4 use some of their second halves, the first too
pub few_extra : (s : List ℕ) → u16_le s 128 < 4 → has_extra s 0 ≡ false
unfolding has_extra
few_extra s few = refuted (has_extra s 0) (λ yes. grind (arith, nat_tests))

pub most_extra : (s : List ℕ) → 128 < u16_le s 128 → has_extra s 0 ≡ false
unfolding has_extra
most_extra s most = refuted (has_extra s 0) (λ yes. grind (arith, nat_tests))

no_pair : (s : List ℕ) → has_extra s 0 ≡ false → any_pair s ≡ None
unfolding any_pair are_beside
no_pair s none = rw none refl

-- a file record and a boot sector of NTFS have bytes of their own at 3
no_record : (s : List ℕ) → slice_index s 3 ≢ 69 → record_in s ≡ None
unfolding record_in record_start
no_record s other = let none : is_start s ≡ false = refuted (is_start s) (λ yes. other (start_byte s yes)) in rw none refl

no_volume : (s : List ℕ) → slice_index s 3 ≢ 78 → mft_boot s ≡ None
unfolding mft_boot
no_volume s other = let none : is_boot s ≡ false = refuted (is_boot s) (λ yes. other (volume_byte s yes)) in rw none refl

no_mft : (s : List ℕ) → slice_index s 3 ≢ 78 → slice_index s 3 ≢ 69 → mft_in s ≡ None
unfolding mft_in
no_mft s boot file = rw (no_record s file, no_volume s boot) refl

none_last : (s : List ℕ) → slice_index s 3 ≢ 78 → slice_index s 3 ≢ 69 → slice_index s 4 ≢ 3 → is_block s ≡ false → has_extra s 0 ≡ false → last_in s ≡ None
unfolding last_in
none_last s boot file inode block extra = rw (no_xfs s inode, no_block s block, no_pair s extra, no_start s inode, no_mft s boot file) refl

none_inner : (s : List ℕ) → slice_index s 64 ≢ 95 → u16_le s 56 ≢ 0xEF53 → inner_in s ≡ None
unfolding inner_in
none_inner s super copy = rw (not_btrfs s super, no_copy s copy) refl

pub none_in : (s : List ℕ) (unit : ℕ) → slice_index s 3 ≢ 32 → slice_index s 3 ≢ 78 → slice_index s 3 ≢ 69 → slice_index s 3 ≢ 66
    → slice_index s 3 ≢ 70 → slice_index s 3 ≢ 73 → slice_index s 4 ≢ 3 → is_block s ≡ false → u16_le s 56 ≢ 0xEF53 → slice_index s 64 ≢ 95
    → has_extra s 0 ≡ false → landmark_in unit s ≡ None
unfolding landmark_in
none_in s unit gpt boot file super agf agi inode block copy btrfs extra =
    rw (not_gpt s gpt, none_is s (slice_index s 3) refl boot file super agf agi, none_inner s btrfs copy, none_last s boot file inode block extra) refl
