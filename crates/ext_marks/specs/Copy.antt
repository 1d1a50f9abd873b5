-- A copy of the superblock of ext2, ext3 or ext4 (Linux kernel, ext4 Data Structures and Algorithms, Super
-- Block). Numbers are little-endian.
use Rattle.std.specs.Prelude.{ℕ, ◌+◌, ◌*◌, ◌/◌, List, Bool, ◌&&◌, ◌||◌, ◌==◌, nat_le, Option, Some, None, if◌then◌else◌, ◌^◌}
use Rattle.sector_fields.specs.Fields.{u16_le, u32_le, uuid_at}
use Rattle.ext_marks.specs.declared.copy.ExtSuper.{ExtSuper}

-- the bytes of a block
unfoldable pub block_bytes : List ℕ → ℕ
block_bytes s = 1024 * 2 ^ u32_le s 24  -- s_log_block_size: u32 at 24

-- the sector of 512 bytes, counted from the file system's first, at which the copy of a group begins: that of
-- the group's first block
unfoldable pub copy_sector : List ℕ → ℕ
copy_sector s =
    (u32_le s 20  -- s_first_data_block: u32 at 20
    + u16_le s 90 * u32_le s 32)  -- s_block_group_nr: u16 at 90; s_blocks_per_group: u32 at 32
    * (block_bytes s / 512)

-- blocks of 1,024 to 65,536 bytes; the first block of group 0 is 0, or may be 1 where blocks have 1,024 bytes
unfoldable pub has_block_form : List ℕ → Bool
has_block_form s =
    nat_le (u32_le s 24) 6  -- s_log_block_size: u32 at 24
    && ((u32_le s 20 == 0) || ((u32_le s 20 == 1) && (u32_le s 24 == 0)))  -- s_first_data_block: u32 at 20

-- the facts that make a sector the first of a copy that tells its group
unfoldable pub is_ext_copy : List ℕ → Bool
is_ext_copy s =
    (u16_le s 56 == 0xEF53)  -- s_magic: u16 at 56
    && has_block_form s
    && nat_le 1 (u32_le s 32)  -- s_blocks_per_group: u32 at 32
    && nat_le (u32_le s 76) 1  -- s_rev_level: u32 at 76
    && nat_le 1 (u16_le s 90) && nat_le (u16_le s 90) 65534  -- s_block_group_nr: u16 at 90

-- its fields
unfoldable pub ext_super_of : List ℕ → ExtSuper
ext_super_of s = record {
  uuid = uuid_at s 104;  -- s_uuid: 16 bytes at 104
  block = block_bytes s;
  group_blocks = u32_le s 32;  -- s_blocks_per_group: u32 at 32
  group = u16_le s 90;  -- s_block_group_nr: u16 at 90
  copy_sector = copy_sector s;
}

-- the fields of the copy that begins in a sector, if one does
unfoldable pub ext_super : List ℕ → Option ExtSuper
ext_super s = if is_ext_copy s then Some (ext_super_of s) else None
