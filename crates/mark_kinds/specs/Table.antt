-- The table of the kinds of landmarks.
use Rattle.std.specs.Prelude.{ℕ, Bool, true, false, ◌==◌, List, [], ◌∷◌, codes}
use Rattle.std.specs.List.{list_any}
use Rattle.mark_kinds.specs.declared.table.Begin.{Begin}
use Rattle.mark_kinds.specs.declared.table.Begin.TheVariants.{WithVolume, AtOrigins}
use Rattle.mark_kinds.specs.declared.table.GroupKind.{GroupKind}
use Rattle.mark_kinds.specs.declared.table.GroupKind.TheVariants.{Gpt as GptGroup, Ntfs, Xfs, Btrfs as BtrfsGroup, Lvm as LvmGroup, Ext as ExtGroup, Extinode as ExtinodeGroup, Xfs5 as Xfs5Group, Btrfstree as BtrfstreeGroup, Mft as MftGroup}
use Rattle.mark_kinds.specs.declared.table.Kinds.{Kinds}
use Rattle.mark_kinds.specs.declared.table.Kind.{Kind}
use Rattle.mark_kinds.specs.declared.table.Kind.TheVariants.{Gpt, Boot, FileRecord, Super, Agf, Agi, Btrfs, Lvm, Ext, Extinode, Xfs5, Btrfstree, Mft}

-- what holds of all groups of a kind: its place among the kinds of groups, which is the order in which groups stand
-- in plans, its name, where such groups begin on the volume, and how many of them a plan may have
pub record GroupFacts : Type 0 where
  pub place : ℕ
  pub name : List ℕ
  pub begin : Begin
  pub most : ℕ

-- there is one partition table, at the start of the volume; file systems begin at the origins that are tried
abbrev pub group_row : GroupKind → GroupFacts
group_row GptGroup = record { place = 0; name = codes "gpt"; begin = WithVolume; most = 1 }
group_row Ntfs = record { place = 1; name = codes "ntfs"; begin = AtOrigins; most = 32 }
group_row Xfs = record { place = 2; name = codes "xfs"; begin = AtOrigins; most = 32 }
group_row BtrfsGroup = record { place = 3; name = codes "btrfs"; begin = AtOrigins; most = 32 }
group_row LvmGroup = record { place = 4; name = codes "lvm"; begin = AtOrigins; most = 32 }
group_row ExtGroup = record { place = 5; name = codes "ext"; begin = AtOrigins; most = 32 }
group_row ExtinodeGroup = record { place = 6; name = codes "extinode"; begin = AtOrigins; most = 32 }
group_row Xfs5Group = record { place = 7; name = codes "xfs5"; begin = AtOrigins; most = 32 }
group_row BtrfstreeGroup = record { place = 8; name = codes "btrfstree"; begin = AtOrigins; most = 32 }
group_row MftGroup = record { place = 9; name = codes "mft"; begin = AtOrigins; most = 32 }

-- what holds of all landmark sectors of a kind: its place among these kinds, its name, and the kind of groups to
-- which they belong
pub record KindFacts : Type 0 where
  pub place : ℕ
  pub name : List ℕ
  pub group : GroupKind

abbrev pub kind_row : Kind → KindFacts
kind_row Gpt = record { place = 0; name = codes "gpt"; group = GptGroup }
kind_row Boot = record { place = 1; name = codes "boot"; group = Ntfs }
kind_row FileRecord = record { place = 2; name = codes "record"; group = Ntfs }
kind_row Super = record { place = 3; name = codes "super"; group = Xfs }
kind_row Agf = record { place = 4; name = codes "agf"; group = Xfs }
kind_row Agi = record { place = 5; name = codes "agi"; group = Xfs }
kind_row Btrfs = record { place = 6; name = codes "btrfs"; group = BtrfsGroup }
kind_row Lvm = record { place = 7; name = codes "lvm"; group = LvmGroup }
kind_row Ext = record { place = 8; name = codes "ext"; group = ExtGroup }
kind_row Extinode = record { place = 9; name = codes "extinode"; group = ExtinodeGroup }
kind_row Xfs5 = record { place = 10; name = codes "xfs5"; group = Xfs5Group }
kind_row Btrfstree = record { place = 11; name = codes "btrfstree"; group = BtrfstreeGroup }
kind_row Mft = record { place = 12; name = codes "mft"; group = MftGroup }

-- columns of the table
abbrev pub group_place : GroupKind → ℕ
group_place kind = (group_row kind).place

abbrev pub most_groups : GroupKind → ℕ
most_groups kind = (group_row kind).most

abbrev pub kind_place : Kind → ℕ
kind_place kind = (kind_row kind).place

abbrev pub group_of : Kind → GroupKind
group_of kind = (kind_row kind).group

-- all kinds of groups, in their order
abbrev pub all_groups : List GroupKind
all_groups = GptGroup ∷ Ntfs ∷ Xfs ∷ BtrfsGroup ∷ LvmGroup ∷ ExtGroup ∷ ExtinodeGroup ∷ Xfs5Group ∷ BtrfstreeGroup ∷ MftGroup ∷ []

abbrev pub is_same_group : GroupKind → GroupKind → Bool
is_same_group kind other = group_place kind == group_place other

-- a kind of groups is among these
abbrev pub has_group : GroupKind → List GroupKind → Bool
has_group kind kinds = list_any (is_same_group kind) kinds

-- which kinds are looked for: all but ext, extinode, xfs5, btrfstree and mft where none is named, or those among others
abbrev pub usual_kinds : Kinds
usual_kinds = record { gpt = true; ntfs = true; xfs = true; btrfs = true; lvm = true; ext = false; extinode = false; xfs5 = false; btrfstree = false; mft = false }

abbrev pub kinds_among : List GroupKind → Kinds
kinds_among kinds = record {
  gpt = has_group GptGroup kinds;
  ntfs = has_group Ntfs kinds;
  xfs = has_group Xfs kinds;
  btrfs = has_group BtrfsGroup kinds;
  lvm = has_group LvmGroup kinds;
  ext = has_group ExtGroup kinds;
  extinode = has_group ExtinodeGroup kinds;
  xfs5 = has_group Xfs5Group kinds;
  btrfstree = has_group BtrfstreeGroup kinds;
  mft = has_group MftGroup kinds;
}

-- a kind is looked for
abbrev pub is_group_asked : Kinds → GroupKind → Bool
is_group_asked kinds GptGroup = kinds.gpt
is_group_asked kinds Ntfs = kinds.ntfs
is_group_asked kinds Xfs = kinds.xfs
is_group_asked kinds BtrfsGroup = kinds.btrfs
is_group_asked kinds LvmGroup = kinds.lvm
is_group_asked kinds ExtGroup = kinds.ext
is_group_asked kinds ExtinodeGroup = kinds.extinode
is_group_asked kinds Xfs5Group = kinds.xfs5
is_group_asked kinds BtrfstreeGroup = kinds.btrfstree
is_group_asked kinds MftGroup = kinds.mft

-- some kind is looked for
abbrev pub some_asked : Kinds → Bool
some_asked kinds = list_any (is_group_asked kinds) all_groups
