-- Proofs that each kind stands at its place in the list of all, and is looked for if it is named. They stand among the
-- specifications, since laws of implementations cite these alone.
use Rattle.std.proofs.Common.{◌≡◌, ℕ, ◌<◌, true, List, ◌∷◌, get_or, refl, arith}
use Rattle.mark_kinds.specs.Table.{group_place, is_group_asked, kind_place, kinds_among}
use Rattle.mark_kinds.specs.declared.table.GroupKind.{GroupKind}
use Rattle.mark_kinds.specs.declared.table.GroupKind.TheVariants.{Gpt as GptGroup, Ntfs, Xfs, Btrfs as BtrfsGroup, Lvm as LvmGroup, Ext as ExtGroup, Extinode as ExtinodeGroup, Xfs5 as Xfs5Group, Btrfstree as BtrfstreeGroup, Mft as MftGroup}
use Rattle.mark_kinds.specs.declared.table.Kind.{Kind}
use Rattle.mark_kinds.specs.declared.table.Kind.TheVariants.{Gpt, Boot, FileRecord, Super, Agf, Agi, Btrfs, Lvm, Ext, Extinode, Xfs5, Btrfstree, Mft}
use Rattle.mark_kinds.specs.declared.table.TheConstants.{GROUPS, GROUP_COUNT, KINDS, KIND_COUNT}

abbrev pub group_at : ℕ → GroupKind
group_at n = get_or GROUPS n GptGroup

-- a kind stands at its place, and is looked for if it is named first
pub record IsListed (kind : GroupKind) : Type 0 where
  pub below : group_place kind < GROUP_COUNT
  pub back : group_at (group_place kind) ≡ kind
  pub asked : (kinds : List GroupKind) → is_group_asked (kinds_among (kind ∷ kinds)) kind ≡ true

pub is_listed : (kind : GroupKind) → IsListed kind
is_listed GptGroup = record { below = omega arith; back = refl; asked = λ kinds. refl }
is_listed Ntfs = record { below = omega arith; back = refl; asked = λ kinds. refl }
is_listed Xfs = record { below = omega arith; back = refl; asked = λ kinds. refl }
is_listed BtrfsGroup = record { below = omega arith; back = refl; asked = λ kinds. refl }
is_listed LvmGroup = record { below = omega arith; back = refl; asked = λ kinds. refl }
is_listed ExtGroup = record { below = omega arith; back = refl; asked = λ kinds. refl }
is_listed ExtinodeGroup = record { below = omega arith; back = refl; asked = λ kinds. refl }
is_listed Xfs5Group = record { below = omega arith; back = refl; asked = λ kinds. refl }
is_listed BtrfstreeGroup = record { below = omega arith; back = refl; asked = λ kinds. refl }
is_listed MftGroup = record { below = omega arith; back = refl; asked = λ kinds. refl }

abbrev pub kind_at : ℕ → Kind
kind_at n = get_or KINDS n Gpt

pub kind_listed : (kind : Kind) → (kind_place kind < KIND_COUNT) × (kind_at (kind_place kind) ≡ kind)
kind_listed Gpt = (omega arith, refl)
kind_listed Boot = (omega arith, refl)
kind_listed FileRecord = (omega arith, refl)
kind_listed Super = (omega arith, refl)
kind_listed Agf = (omega arith, refl)
kind_listed Agi = (omega arith, refl)
kind_listed Btrfs = (omega arith, refl)
kind_listed Lvm = (omega arith, refl)
kind_listed Ext = (omega arith, refl)
kind_listed Extinode = (omega arith, refl)
kind_listed Xfs5 = (omega arith, refl)
kind_listed Btrfstree = (omega arith, refl)
kind_listed Mft = (omega arith, refl)
