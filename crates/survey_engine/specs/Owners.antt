-- What sightings belong to, their groups and the rules of their marks.
use Rattle.std.specs.Prelude.{ℕ, ◌+◌, ◌*◌, ◌/◌, ◌%◌, ◌^◌, Bool, true, false, IsTrue, not, ◌&&◌, ◌==◌, nat_lt, List, length, map, Option, Some, None, option_and_then, if◌then◌else◌, []}
use Rattle.std.specs.List.{filter_map, flat_map, list_any}
use Rattle.std.specs.Option.{is_some, option_map, option_map_or}
use Rattle.std.specs.Str.{bytes_eq}
use Rattle.ntfs_marks.specs.Boot.{is_within_limit, record_sector}
use Rattle.ntfs_marks.specs.declared.boot.NtfsBoot.{NtfsBoot}
use Rattle.ntfs_marks.specs.declared.file_record.NtfsRecord.{NtfsRecord}
use Rattle.xfs_marks.specs.Superblock.{ag_sectors, is_sound}
use Rattle.xfs_marks.specs.declared.superblock.XfsSuper.{XfsSuper}
use Rattle.ext_marks.specs.declared.copy.ExtSuper.{ExtSuper}
use Rattle.mark_kinds.specs.Table.{all_groups, is_group_asked, is_same_group, most_groups}
use Rattle.landmark_rules.specs.declared.marks.Group.{Group}
use Rattle.xfs5.specs.Places.{inode_sector, is_mark, is_sound as is_sound_place}
use Rattle.xfs5.specs.declared.places.XfsInodes.{XfsInodes}
use Rattle.mark_kinds.specs.declared.table.Kinds.{Kinds}
use Rattle.mark_kinds.specs.declared.table.GroupKind.{GroupKind}
use Rattle.mark_kinds.specs.declared.table.GroupKind.TheVariants.{Gpt as GptGroup, Ntfs as NtfsGroup, Xfs as XfsGroup, Btrfs as BtrfsGroup, Lvm as LvmGroup, Ext as ExtGroup, Extinode as ExtinodeGroup, Xfs5 as Xfs5Group, Btrfstree as BtrfstreeGroup}
use Rattle.landmark_rules.specs.declared.marks.Mark.{Mark}
use Rattle.landmark_rules.specs.declared.marks.Rule.{Rule}
use Rattle.landmark_rules.specs.declared.marks.Rule.TheVariants.{At, Either, Every}
use Rattle.survey_engine.specs.Kept.{kept}
use Rattle.survey_engine.specs.Landmarks.{kind_of}
use Rattle.survey_engine.specs.Sightings.{sighted_at, Place}
use Rattle.survey_engine.specs.Systems.{system_with, systems_of}
use Rattle.survey_engine.specs.declared.landmark.InodePlace.{InodePlace}
use Rattle.survey_engine.specs.declared.landmark.InodeSeen.{InodeSeen}
use Rattle.survey_engine.specs.declared.landmark.Landmark.{Landmark}
use Rattle.survey_engine.specs.declared.landmark.Landmark.TheVariants.{Gpt, Boot, FileRecord, Super, Super5, Agf, Agi, Btrfs as BtrfsSector, Lvm, Ext as ExtSector, Inode, Tree, Placed}
use Rattle.survey_engine.specs.declared.landmark.TreeSeen.{TreeSeen}
use Rattle.survey_engine.specs.declared.owner.ExtVolume.{ExtVolume}
use Rattle.survey_engine.specs.declared.owner.Owner.{Owner}
use Rattle.survey_engine.specs.declared.owner.Owner.TheVariants.{Table, Ntfs, Xfs, Btrfs, Label, Ext, Xfs5, Trees, Extinode}
use Rattle.survey_engine.specs.declared.sighting.Sighting.{Sighting}

-- two boot sectors say the same, field by field
abbrev pub is_same_boot : NtfsBoot → NtfsBoot → Bool
is_same_boot a b =
    (a.cluster == b.cluster && a.total == b.total && a.mft == b.mft)
    && (a.mirror == b.mirror && a.record_bytes == b.record_bytes && a.serial == b.serial)

-- so do two superblocks
abbrev pub is_same_super : XfsSuper → XfsSuper → Bool
is_same_super a b =
    (a.block == b.block && a.ag_blocks == b.ag_blocks && a.ag_count == b.ag_count)
    && (a.sector == b.sector && bytes_eq a.uuid b.uuid)

-- the file system that a copy of a superblock of ext names
abbrev pub volume_of : ExtSuper → ExtVolume
volume_of x = record { uuid = x.uuid; block = x.block; group_blocks = x.group_blocks }

-- two of these are one
abbrev pub is_same_volume : ExtVolume → ExtVolume → Bool
is_same_volume a b = bytes_eq a.uuid b.uuid && a.block == b.block && a.group_blocks == b.group_blocks

-- two owners of marks are one; each label of LVM2 is an owner of its own, by its place, and the inodes of a file
-- system are told by its identifier alone, for that is all that an inode says of it
abbrev pub is_same_owner : Owner → Owner → Bool
is_same_owner Table Table = true
is_same_owner (Ntfs a) (Ntfs b) = is_same_boot a b
is_same_owner (Xfs a) (Xfs b) = is_same_super a b
is_same_owner (Btrfs a) (Btrfs b) = bytes_eq a b
is_same_owner (Label i s) (Label j t) = i == j && s == t
is_same_owner (Ext a) (Ext b) = is_same_volume a b
is_same_owner (Xfs5 a) (Xfs5 b) = bytes_eq a.uuid b.uuid
is_same_owner (Trees a) (Trees b) = bytes_eq a b
is_same_owner (Extinode a) (Extinode b) = bytes_eq a b
is_same_owner a b = false

-- the kind of the group that the marks of an owner make
abbrev pub group_kind : Owner → GroupKind
group_kind Table = GptGroup
group_kind (Ntfs b) = NtfsGroup
group_kind (Xfs x) = XfsGroup
group_kind (Btrfs fsid) = BtrfsGroup
group_kind (Label image sector) = LvmGroup
group_kind (Ext volume) = ExtGroup
group_kind (Xfs5 places) = Xfs5Group
group_kind (Trees identifier) = BtrfstreeGroup
group_kind (Extinode identifier) = ExtinodeGroup

-- where a byte of the file system stands that begins a sector
unfoldable pub begins_sector : ℕ → Bool
begins_sector byte = byte % 512 == 0 && nat_lt (byte / 512) (2 ^ 55)

-- where a tree block may lie: at the one place, or at one of the two, at which it is known to lie
unfoldable pub placed_rule : Option ℕ → Option ℕ → Option Rule
placed_rule None second = None
placed_rule (Some a) None = if begins_sector a then Some (At (a / 512)) else None
placed_rule (Some a) (Some b) = if begins_sector a && begins_sector b then Some (Either (a / 512) (b / 512)) else None

abbrev pub tree_rule : TreeSeen → Option Rule
tree_rule t = placed_rule t.first t.second

-- where two inodes of ext4 may lie: in the sector in which they are known to lie, below 2^55
unfoldable pub inodes_rule : InodePlace → Option Rule
inodes_rule place = if nat_lt place.sector (2 ^ 55) then Some (At place.sector) else None

-- an inode is a mark of an XFS: it has its identifier, as many bytes as the inodes there, and begins a stretch of 64 KiB
unfoldable pub is_mark_of : XfsInodes → InodeSeen → Bool
is_mark_of places i = bytes_eq places.uuid i.inode.uuid && option_map_or (λ bytes. bytes == places.inode) i.bytes false && is_mark places i.inode.number

-- where an inode may lie as a mark of an XFS, if it is one and that has its group and block
abbrev pub inode_rule : XfsInodes → InodeSeen → Option Rule
inode_rule places i = if is_mark_of places i then option_map At (inode_sector places i.inode.number) else None

-- the owner that an inode of XFS names: of these file systems the one with its identifier, if it is a mark of that
abbrev pub inode_owner : List XfsInodes → InodeSeen → Option Owner
inode_owner systems i = option_and_then (λ places. if is_some (inode_rule places i) then Some (Xfs5 places) else None) (system_with systems i.inode.uuid)

-- the owner that a landmark at a place names: a partition table, a file system or a physical volume, or None
-- where it does not say. An inode of XFS, a tree block of btrfs and two inodes of ext4 name their file system where it is known where they
-- lie: so an owner of these has a mark. `systems` are the file systems of XFS
abbrev pub owner_in : List XfsInodes → Place → Landmark → Option Owner
owner_in systems at (Gpt t) = Some Table
owner_in systems at (Boot b) = Some (Ntfs b)
owner_in systems at (Super x) = Some (Xfs x)
owner_in systems at (Super5 x places) = Some (Xfs x)
owner_in systems at (BtrfsSector b) = Some (Btrfs b.fsid)
owner_in systems at (Lvm n) = Some (Label at.image at.sector)
owner_in systems at (ExtSector x) = Some (Ext (volume_of x))
owner_in systems at (Inode i) = inode_owner systems i
owner_in systems at (Tree t) = if is_some (tree_rule t) then Some (Trees t.block.identifier) else None
owner_in systems at (Placed pair place) = if is_some (inodes_rule place) then Some (Extinode place.identifier) else None
owner_in systems at landmark = None

-- the owner that a sighting names, if it is of a kind
abbrev pub owner_among : GroupKind → List XfsInodes → Sighting → Option Owner
owner_among kind systems s = option_and_then (λ owner. if is_same_group (group_kind owner) kind then Some owner else None) (owner_in systems (sighted_at s) s.landmark)

-- an owner that is new, where there is room for one more of its kind
abbrev pub is_new : GroupKind → List Owner → Owner → Bool
is_new kind before owner = nat_lt (length before) (most_groups kind) && not (list_any (is_same_owner owner) before)

-- the first distinct owners of a kind, in order of the first sightings that name them: of inodes and tree blocks their first marks
unfoldable pub owners_of : GroupKind → List Sighting → List Owner
owners_of kind found = kept (is_new kind) (filter_map (owner_among kind (systems_of found)) found)

-- where file record r may lie, if it has the size of the volume's records: at its place in the table or
-- in the table's copy
unfoldable pub record_rule : NtfsBoot → NtfsRecord → Option Rule
record_rule b r =
    if r.bytes == b.record_bytes then Some (Either (record_sector b b.mft r.number) (record_sector b b.mirror r.number)) else None

-- where a superblock of XFS may lie: at the start of each group
abbrev pub start_rule : XfsSuper → Rule
start_rule x = Every (ag_sectors x) x.ag_count 0

-- where a head of allocation group g may lie, if there is such a group: `sectors` sectors of the file
-- system after its start
unfoldable pub ag_rule : XfsSuper → ℕ → ℕ → Option Rule
ag_rule x g sectors = if nat_lt g x.ag_count then Some (At (g * ag_sectors x + sectors * (x.sector / 512))) else None

-- where a landmark that was found at a place may lie as a mark of an owner: a header of a table at the first
-- sector of the block MyLBA, a boot sector at the start of the volume or, its copy, after the end, a superblock
-- of XFS at the start of each group, an AGF one sector and an AGI two sectors after that, a superblock of btrfs
-- at its own address, a label of LVM2 at the sector that it names, and a copy of a superblock of ext at the start
-- of its group. File records, AGF and AGI do not say whose they are, and are marks only of an owner that is
-- `alone` of its kind. An inode of XFS is a mark of the file system whose identifier it has, if it has as many bytes as the
-- inodes there; a tree block of btrfs and two inodes of ext4 are marks of theirs, where they are known to lie
unfoldable pub rule_in : Owner → Bool → Place → Landmark → Option Rule
rule_in Table alone at (Gpt t) = Some (At (t.unit * t.header.my_lba))
rule_in (Ntfs b) alone at (Boot c) = if is_same_boot b c then Some (Either 0 b.total) else None
rule_in (Ntfs b) alone at (FileRecord r) = if alone then record_rule b r else None
rule_in (Xfs x) alone at (Super y) = if is_same_super x y then Some (start_rule x) else None
rule_in (Xfs x) alone at (Super5 y places) = if is_same_super x y then Some (start_rule x) else None
rule_in (Xfs x) alone at (Agf g) = if alone then ag_rule x g 1 else None
rule_in (Xfs x) alone at (Agi g) = if alone then ag_rule x g 2 else None
rule_in (Btrfs fsid) alone at (BtrfsSector b) = if bytes_eq fsid b.fsid then Some (At (b.address / 512)) else None
rule_in (Label image sector) alone at (Lvm n) = if image == at.image && sector == at.sector then Some (At n) else None
rule_in (Ext volume) alone at (ExtSector x) = if is_same_volume volume (volume_of x) then Some (At x.copy_sector) else None
rule_in (Xfs5 places) alone at (Inode i) = inode_rule places i
rule_in (Trees identifier) alone at (Tree t) = if bytes_eq identifier t.block.identifier then tree_rule t else None
rule_in (Extinode identifier) alone at (Placed pair place) = if bytes_eq identifier place.identifier then inodes_rule place else None
rule_in owner alone at landmark = None

-- the numbers of an owner are within the limits that the test of its landmark sets
abbrev pub IsSoundOwner : Owner → Type 0
IsSoundOwner Table = Unit {0}
IsSoundOwner (Ntfs b) = IsTrue (is_within_limit b)
IsSoundOwner (Xfs x) = IsTrue (is_sound x)
IsSoundOwner (Xfs5 places) = IsTrue (is_sound_place places)
IsSoundOwner owner = Unit {0}

-- the mark of a sighting in the group of an owner
abbrev pub mark_in : Owner → Bool → Sighting → Option Mark
mark_in owner alone s = option_map (λ rule. record { kind = kind_of s.landmark; image = s.image; sector = s.sector; rule = rule }) (rule_in owner alone (sighted_at s) s.landmark)

-- the group of an owner: the marks of its sightings, in their order
abbrev pub group_for : List Sighting → Bool → Owner → Group
group_for found alone owner = record { kind = group_kind owner; marks = filter_map (mark_in owner alone) found; bounds = None }

-- the groups of a kind, one for each owner
unfoldable pub groups_in : List Sighting → GroupKind → List Group
groups_in found kind = map (group_for found (length (owners_of kind found) == 1)) (owners_of kind found)

-- those of a kind that is looked for
unfoldable pub groups_asked : Kinds → List Sighting → GroupKind → List Group
groups_asked kinds found kind = if is_group_asked kinds kind then groups_in found kind else []

-- the groups of what was found, of the kinds that are looked for, kind after kind
abbrev pub groups_of : Kinds → List Sighting → List Group
groups_of kinds found = flat_map (groups_asked kinds found) all_groups
