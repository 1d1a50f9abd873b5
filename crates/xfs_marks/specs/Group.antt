-- The heads of an allocation group of XFS: of its free space, the AGF, and of its inodes, the AGI (XFS
-- Filesystem Structure, AG Free Space Block and AG Inode Management). Numbers are big-endian.
use Rattle.std.specs.Prelude.{ℕ, List, Bool, ◌&&◌, ◌==◌, Option, Some, None, if◌then◌else◌, codes}
use Rattle.sector_fields.specs.Fields.{has_bytes, u32_be}
use Rattle.xfs_marks.specs.declared.group.XfsGroup.{XfsGroup}
use Rattle.xfs_marks.specs.declared.group.XfsGroup.TheVariants.{Agf, Agi}

-- the facts that make a sector the first of an AGF
unfoldable pub is_xfs_agf : List ℕ → Bool
is_xfs_agf s =
    has_bytes s 0 (codes "XAGF")  -- agf_magicnum: 4 bytes at 0
    && (u32_be s 4 == 1)  -- agf_versionnum: u32 at 4

-- the facts that make a sector the first of an AGI
unfoldable pub is_xfs_agi : List ℕ → Bool
is_xfs_agi s =
    has_bytes s 0 (codes "XAGI")  -- agi_magicnum: 4 bytes at 0
    && (u32_be s 4 == 1)  -- agi_versionnum: u32 at 4

-- the head in a sector, with the number of its group
unfoldable pub xfs_group : List ℕ → Option XfsGroup
xfs_group s =
    if is_xfs_agf s then Some (Agf (u32_be s 8))  -- agf_seqno: u32 at 8
    else if is_xfs_agi s then Some (Agi (u32_be s 8))  -- agi_seqno: u32 at 8
    else None
