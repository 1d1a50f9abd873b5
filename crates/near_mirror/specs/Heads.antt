-- Which heads are those of mirrors.
use Rattle.std.specs.Prelude.{ℕ, Bool, true, false, nat_eq, nat_le, ◌&&◌}
use Rattle.raid_params.specs.Validity.{is_chunk}
use Rattle.raid_params.specs.declared.limits.TheConstants.{MOST}
use Rattle.near_mirror.specs.declared.types.CopyLayout.{CopyLayout}
use Rattle.near_mirror.specs.declared.types.Copying.{Copying}
use Rattle.near_mirror.specs.declared.types.Copying.TheVariants.{Near, Far, Offset}
use Rattle.near_mirror.specs.declared.types.NearHead.{NearHead}

-- each chunk has so many copies: from 2 to 4
abbrev pub are_copies : ℕ → Bool
are_copies copies = nat_le 2 copies && nat_le copies 4

-- a mirror has so many members: from 2 to 24
abbrev pub has_members : ℕ → Bool
has_members members = nat_le 2 members && nat_le members MOST

-- a mirror of this layout has so many members: no fewer than copies
abbrev pub are_members : CopyLayout → ℕ → Bool
are_members layout members = are_copies layout.copies && (nat_le layout.copies members && has_members members)

-- the layout, the members and the chunk are those of a mirror
abbrev pub is_valid_near : NearHead → Bool
is_valid_near head = are_members head.layout head.members && is_chunk head.chunk

-- the copies lie near to one another
abbrev pub is_near : Copying → Bool
is_near Near = true
is_near Far = false
is_near Offset = false

-- two copies that lie near to each other
abbrev pub is_near2 : CopyLayout → Bool
is_near2 layout = is_near layout.copying && nat_eq layout.copies 2
