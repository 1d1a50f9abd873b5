-- What a sector may be.
use Rattle.std.specs.Prelude.{ℕ, ◌*◌, ◌<◌, ◌%◌, Bool, false, ◌||◌, ◌==◌, IsTrue, nat_lt, List, [], Option, Some, None, option_and_then, if◌then◌else◌, ◌^◌}
use Rattle.std.specs.Option.{is_some, option_map, option_or}
use Rattle.sector_fields.specs.Fields.{u32_be, u64_le}
use Rattle.gpt_marks.specs.Header.{is_gpt_header, gpt_header_of, is_own_table, IsUnit}
use Rattle.gpt_marks.specs.declared.header.GptHeader.{GptHeader}
use Rattle.ntfs_marks.specs.Boot.{is_ntfs_boot, is_within_limit, ntfs_boot_of}
use Rattle.ntfs_marks.specs.FileRecord.{is_ntfs_record, ntfs_record_of}
use Rattle.xfs_marks.specs.Superblock.{is_sound, is_xfs_super, xfs_super_of}
use Rattle.xfs_marks.specs.declared.superblock.XfsSuper.{XfsSuper}
use Rattle.xfs_marks.specs.Group.{is_xfs_agf, is_xfs_agi}
use Rattle.more_marks.specs.Btrfs.{btrfs_super_of, is_btrfs_super, is_super_address}
use Rattle.more_marks.specs.Lvm.{is_lvm_label}
use Rattle.ext_marks.specs.Copy.{ext_super_of, is_ext_copy}
use Rattle.xfs5.specs.Inode.{inode_start, xfs_inode}
use Rattle.xfs5.specs.Places.{xfs_inodes, is_sound as is_sound_place}
use Rattle.xfs5.specs.declared.inode.XfsInode.{XfsInode}
use Rattle.xfs5.specs.declared.places.XfsInodes.{XfsInodes}
use Rattle.inode_marks.specs.Inode.{any_pair}
use Rattle.btrfstree.specs.Header.{tree_block}
use Rattle.btrfstree.specs.declared.header.TreeBlock.{TreeBlock}
use Rattle.mft.specs.Boot.{is_near, is_record_size, mft_boot}
use Rattle.mft.specs.Start.{is_spread, record_start}
use Rattle.mft.specs.declared.start.RecordStart.{RecordStart}
use Rattle.mark_kinds.specs.Table.{group_of, is_group_asked}
use Rattle.mark_kinds.specs.declared.table.Kinds.{Kinds}
use Rattle.mark_kinds.specs.declared.table.Kind.{Kind}
use Rattle.mark_kinds.specs.declared.table.Kind.TheVariants.{Gpt as GptKind, Boot as BootKind, FileRecord as RecordKind, Super as SuperKind, Agf as AgfKind, Agi as AgiKind, Btrfs as BtrfsKind, Lvm as LvmKind, Ext as ExtKind, Extinode as ExtinodeKind, Xfs5 as Xfs5Kind, Btrfstree as BtrfstreeKind, Mft as MftKind}
use Rattle.survey_engine.specs.declared.landmark.GptTable.{GptTable}
use Rattle.survey_engine.specs.declared.landmark.InodeSeen.{InodeSeen}
use Rattle.survey_engine.specs.declared.landmark.Landmark.{Landmark}
use Rattle.survey_engine.specs.declared.landmark.Landmark.TheVariants.{Gpt, Boot, FileRecord, Super, Super5, Agf, Agi, Btrfs, Lvm, Ext, Inode, Tree, Inodes, Placed, Record, Volume}

-- the kind of a landmark, without its numbers
abbrev pub kind_of : Landmark → Kind
kind_of (Gpt t) = GptKind
kind_of (Boot b) = BootKind
kind_of (FileRecord r) = RecordKind
kind_of (Super x) = SuperKind
kind_of (Super5 x places) = SuperKind
kind_of (Agf g) = AgfKind
kind_of (Agi g) = AgiKind
kind_of (Btrfs b) = BtrfsKind
kind_of (Lvm n) = LvmKind
kind_of (Ext x) = ExtKind
kind_of (Inode i) = Xfs5Kind
kind_of (Tree t) = BtrfstreeKind
kind_of (Inodes pair) = ExtinodeKind
kind_of (Placed pair place) = ExtinodeKind
kind_of (Record r) = MftKind
kind_of (Volume b) = MftKind

-- the head of an allocation group of XFS in a sector
unfoldable pub head_in : List ℕ → Option Landmark
head_in s =
    if is_xfs_agf s then Some (Agf (u32_be s 8))  -- agf_seqno: u32 at 8
    else if is_xfs_agi s then Some (Agi (u32_be s 8))  -- agi_seqno: u32 at 8
    else None

-- the file record of NTFS or the label of LVM2 in a sector
unfoldable pub record_or_label_in : List ℕ → Option Landmark
record_or_label_in s =
    if is_ntfs_record s then Some (FileRecord (ntfs_record_of s))
    else if is_lvm_label s then Some (Lvm (u64_le s 8))  -- sector_xl: u64 at 8
    else None

-- a header of a partition table on a disk whose blocks have `unit` sectors, where the sector that it names is
-- below 2^55
unfoldable pub table_in : ℕ → GptHeader → Option Landmark
table_in unit header = if nat_lt (unit * header.my_lba) (2 ^ 55) then Some (Gpt (record { header = header; unit = unit })) else None

-- a superblock of XFS with what it says of where inodes lie, if it says so
unfoldable pub super_of : XfsSuper → Option XfsInodes → Landmark
super_of x None = Super x
super_of x (Some places) = Super5 x places

-- the superblock of XFS in a sector
unfoldable pub super_in : List ℕ → Option Landmark
super_in s = if is_xfs_super s then Some (super_of (xfs_super_of s) (xfs_inodes s)) else None

-- the landmark of NTFS, XFS or LVM2 that a sector is by the bytes at its front
unfoldable pub front_in : List ℕ → Option Landmark
front_in s =
    if is_ntfs_boot s then Some (Boot (ntfs_boot_of s))
    else if is_ntfs_record s then Some (FileRecord (ntfs_record_of s))
    else if is_xfs_super s then Some (super_of (xfs_super_of s) (xfs_inodes s))
    else if is_xfs_agf s then Some (Agf (u32_be s 8))
    else if is_xfs_agi s then Some (Agi (u32_be s 8))
    else if is_lvm_label s then Some (Lvm (u64_le s 8))
    else None

-- the superblock of btrfs, or the copy of one of ext, that a sector is by bytes further on
unfoldable pub inner_in : List ℕ → Option Landmark
inner_in s =
    if is_btrfs_super s then Some (Btrfs (btrfs_super_of s))
    else if is_ext_copy s then Some (Ext (ext_super_of s))
    else None

-- an inode whose number so many divide: of inodes of 512 bytes the 128th, and of inodes of 2,048 bytes the 32nd, begins a stretch of
-- 64 KiB
abbrev pub nth_inode : ℕ → Option XfsInode → Option XfsInode
nth_inode n found = option_and_then (λ inode. if inode.number % n == 0 then Some inode else None) found

-- the inode of XFS of version 5, of 512 bytes, that a sector holds, if its number begins a stretch of 64 KiB
unfoldable pub inode_in : List ℕ → Option InodeSeen
inode_in s = option_map (λ inode. record { inode = inode; bytes = Some 512 }) (nth_inode 128 (xfs_inode s []))

-- the inode of more bytes that may begin in a sector, if its number may begin such a stretch
unfoldable pub start_in : List ℕ → Option InodeSeen
start_in s = option_map (λ inode. record { inode = inode; bytes = None }) (nth_inode 32 (if is_some (xfs_inode s []) then None else inode_start s))

-- a tree block of btrfs of which nothing is told yet
abbrev pub untold : TreeBlock → Landmark
untold block = Tree (record { block = block; told = None; first = None; second = None })

-- the file record of NTFS that begins in a sector, if it is one that counts
unfoldable pub record_in : List ℕ → Option RecordStart
record_in s = option_and_then (λ r. if is_spread r then Some r else None) (record_start s)

-- a file record of NTFS that counts, or a boot sector of a volume of NTFS with clusters of any size
unfoldable pub mft_in : List ℕ → Option Landmark
mft_in s = option_or (option_map Record (record_in s)) (option_map Volume (mft_boot s))

-- the inode of XFS, the tree block of btrfs that begins in a sector, two inodes of ext4, what may begin a larger inode of XFS, or what
-- tells of file records of NTFS
unfoldable pub last_in : List ℕ → Option Landmark
last_in s =
    option_or (option_map Inode (inode_in s))
    (option_or (option_map untold (tree_block s)) (option_or (option_map Inodes (any_pair s)) (option_or (option_map Inode (start_in s)) (mft_in s))))

-- the landmark that a sector is, if it is one, on a disk whose blocks have `unit` sectors. A header of a
-- partition table is nothing else, wherever it lies, a sector that is a landmark by its front is none of btrfs or
-- ext, an inode of XFS of 512 bytes is what is none of these, a tree block of btrfs what is none of these and no such inode, two inodes
-- of ext4 what is no tree block either, what may begin a larger inode of XFS what is none of these, and a file record or boot sector of
-- `mft` what is no other landmark
unfoldable pub landmark_in : ℕ → List ℕ → Option Landmark
landmark_in unit s = if is_gpt_header s then table_in unit (gpt_header_of s) else option_or (front_in s) (option_or (inner_in s) (last_in s))

-- inodes or file records are looked for of which a landmark says where they lie: a superblock of XFS, a copy of one of ext, a boot
-- sector of NTFS; or it is a file record itself
abbrev pub has_inodes : Kinds → Landmark → Bool
has_inodes kinds (Boot b) = kinds.mft
has_inodes kinds (FileRecord r) = kinds.mft
has_inodes kinds (Super5 x places) = kinds.xfs5
has_inodes kinds (Ext x) = kinds.extinode
has_inodes kinds landmark = false

-- a landmark is looked for where its kind is, and also where it tells of others that are looked for
abbrev pub is_asked : Kinds → Landmark → Bool
is_asked kinds landmark = is_group_asked kinds (group_of (kind_of landmark)) || has_inodes kinds landmark

-- a landmark in a sector of an image of that length is a header of the image's own partition table
abbrev pub is_own : Landmark → ℕ → ℕ → Bool
is_own (Gpt t) sector length = is_own_table t.header sector length t.unit
is_own landmark sector length = false

-- the numbers of a header are within limits: the sector that it names is below 2^55
abbrev pub IsSoundTable : GptTable → Type 0
IsSoundTable t = IsUnit t.unit × (t.unit * t.header.my_lba < 2 ^ 55)

-- the numbers of a landmark are within the limits that its test sets
abbrev pub IsSound : Landmark → Type 0
IsSound (Gpt t) = IsSoundTable t
IsSound (Boot b) = IsTrue (is_within_limit b)
IsSound (FileRecord r) = r.number < 16
IsSound (Super x) = IsTrue (is_sound x)
IsSound (Super5 x places) = IsTrue (is_sound x) × IsTrue (is_sound_place places)
IsSound (Agf g) = Unit {0}
IsSound (Agi g) = Unit {0}
IsSound (Btrfs b) = IsTrue (is_super_address b.address)
IsSound (Lvm n) = n < 2 ^ 55
IsSound (Ext x) = x.copy_sector < 2 ^ 55
IsSound (Inode i) = Unit {0}
IsSound (Tree t) = Unit {0}
IsSound (Inodes pair) = Unit {0}
IsSound (Placed pair place) = Unit {0}
IsSound (Record r) = IsTrue (is_record_size r.bytes)
IsSound (Volume b) = IsTrue (is_near b)
