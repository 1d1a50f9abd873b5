-- The superblock of XFS (XFS Filesystem Structure, Superblocks). Numbers are big-endian.
use Rattle.std.specs.Prelude.{ℕ, ◌+◌, ◌*◌, ◌/◌, List, Bool, ◌&&◌, nat_le, nat_lt, Option, Some, None, if◌then◌else◌, codes, ◌^◌}
use Rattle.std.specs.Int.{is_power_of_two}
use Rattle.sector_fields.specs.Fields.{has_bytes, u16_be, u32_be, uuid_at}
use Rattle.xfs_marks.specs.declared.superblock.XfsSuper.{XfsSuper}

-- the fields of a superblock
unfoldable pub xfs_super_of : List ℕ → XfsSuper
xfs_super_of s = record {
  uuid = uuid_at s 32;  -- sb_uuid: 16 bytes at 32
  block = u32_be s 4;  -- sb_blocksize: u32 at 4
  ag_blocks = u32_be s 84;  -- sb_agblocks: u32 at 84
  ag_count = u32_be s 88;  -- sb_agcount: u32 at 88
  sector = u16_be s 102;  -- sb_sectsize: u16 at 102
}

-- the sectors of 512 bytes of an allocation group
unfoldable pub ag_sectors : XfsSuper → ℕ
ag_sectors super = super.ag_blocks * super.block / 512

-- the sector of 512 bytes of the AGI that would follow the last group: an AGI lies 2 sectors of the file
-- system after the beginning of its group
unfoldable pub end_sector : XfsSuper → ℕ
end_sector super = ag_sectors super * super.ag_count + 2 * (super.sector / 512)

-- the numbers that a file system may have: blocks of 512 to 65,536 bytes, a power of two; sectors of 512
-- to 32,768 bytes, a power of two and no more than a block; blocks in a group, and groups; and the end
-- below 2^55
unfoldable pub is_sound : XfsSuper → Bool
is_sound super =
    is_power_of_two super.block && nat_le 512 super.block && nat_le super.block 65536
    && nat_le 1 super.ag_blocks && nat_le 1 super.ag_count
    && is_power_of_two super.sector && nat_le 512 super.sector && nat_le super.sector 32768
    && nat_le super.sector super.block
    && nat_lt (end_sector super) (2 ^ 55)

-- the facts that make a sector the first of a superblock
unfoldable pub is_xfs_super : List ℕ → Bool
is_xfs_super s =
    has_bytes s 0 (codes "XFSB")  -- sb_magicnum: 4 bytes at 0
    && is_sound (xfs_super_of s)

-- the superblock's fields, if the sector begins one
unfoldable pub xfs_super : List ℕ → Option XfsSuper
xfs_super s = if is_xfs_super s then Some (xfs_super_of s) else None
