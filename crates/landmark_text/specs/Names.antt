-- How kinds of landmarks, and sectors that are passed over, are spelled in the texts of reraid.
use Rattle.std.specs.Prelude.{ℕ, ◌<◌, ◌^◌, ◌+◌, ◌*◌, List, ◌∷◌, ◌++◌, decimal}
use Rattle.raid_params.specs.declared.limits.TheConstants.{MOST}
use Rattle.mark_kinds.specs.declared.table.GroupKind.{GroupKind}
use Rattle.mark_kinds.specs.declared.table.Kind.{Kind}
use Rattle.mark_kinds.specs.Table.{group_row, kind_row}
use Rattle.mark_kinds.specs.declared.table.DropAt.{DropAt}

abbrev pub group_name : GroupKind → List ℕ
group_name kind = (group_row kind).name

abbrev pub kind_name : Kind → List ℕ
kind_name kind = (kind_row kind).name

-- a sector of an image, IMAGE:SECTOR
abbrev pub drop_name : DropAt → List ℕ
drop_name at = decimal at.image ++ 58 ∷ decimal at.sector

-- sectors go by image, then sector
abbrev pub drop_place : DropAt → ℕ
drop_place at = at.image * 2 ^ 64 + at.sector

pub record IsDrop (at : DropAt) : Type 0 where
  pub image : at.image < MOST
  pub sector : at.sector < 2 ^ 55
