-- Where the inodes of an ext4 with checksums lie (Linux kernel, ext4 Data Structures and Algorithms: Super Block, Group Descriptors,
-- Checksums). Numbers are little-endian. A superblock has 1,024 bytes: two sectors, `first` and `second`.
use Rattle.std.specs.Prelude.{ℕ, ◌+◌, ◌*◌, ◌/◌, ◌%◌, ◌-◌, ◌^◌, List, [], ◌∷◌, ◌++◌, Bool, not, ◌&&◌, ◌||◌, ◌==◌, nat_le, nat_lt, Option, Some, None, if◌then◌else◌, slice_index, slice_range}
use Rattle.std.specs.Int.{to_le_bytes, w32}
use Rattle.std.specs.List.{list_all, range_with_len}
use Rattle.std.specs.Option.{option_map}
use Rattle.sector_fields.specs.Fields.{u16_le, u32_le, uuid_at}
use Rattle.crc32c.specs.Register.{register_after}
use Rattle.inode_marks.specs.declared.tables.InodeTables.{InodeTables}

-- a feature is set where the bit of this weight is
abbrev pub has_feature : ℕ → ℕ → Bool
has_feature features weight = features / weight % 2 == 1

-- the register that checksums begin with: s_checksum_seed where INCOMPAT_CSUM_SEED is set, otherwise that of the identifier
unfoldable pub seed_of : List ℕ → List ℕ → ℕ
seed_of first second =
    if has_feature (u32_le first 96) 0x2000  -- s_feature_incompat: u32 at 96
    then u32_le second 112  -- s_checksum_seed: u32 at 624
    else register_after 0xFFFFFFFF (slice_range first 104 120)  -- s_uuid: 16 bytes at 104

-- the bytes of a group descriptor: s_desc_size where INCOMPAT_64BIT is set, otherwise 32
unfoldable pub descriptor_bytes : List ℕ → ℕ
descriptor_bytes first = if has_feature (u32_le first 96) 0x80 then u16_le first 254 else 32  -- s_desc_size: u16 at 254

-- the fields of a superblock that say where inodes lie
unfoldable pub tables_of : List ℕ → List ℕ → InodeTables
tables_of first second = record {
  uuid = uuid_at first 104;  -- s_uuid: 16 bytes at 104
  seed = seed_of first second;
  inodes = u32_le first 0;  -- s_inodes_count: u32 at 0
  block = 1024 * 2 ^ u32_le first 24;  -- s_log_block_size: u32 at 24
  group_inodes = u32_le first 40;  -- s_inodes_per_group: u32 at 40
  descriptor = descriptor_bytes first;
}

-- the fields of a superblock whose file system has inodes of 256 bytes and checksums by CRC-32C, with descriptors of 32 or 64 bytes in
-- one table (not INCOMPAT_META_BG). Groups have a multiple of 8 inodes.
unfoldable pub has_inode_form : List ℕ → Bool
has_inode_form first =
    (u16_le first 56 == 0xEF53)  -- s_magic: u16 at 56
    && nat_le (u32_le first 24) 6
    && nat_le 8 (u32_le first 40) && (u32_le first 40 % 8 == 0)
    && (u32_le first 76 == 1)  -- s_rev_level: u32 at 76
    && (u16_le first 88 == 256)  -- s_inode_size: u16 at 88
    && has_feature (u32_le first 100) 0x400  -- s_feature_ro_compat: u32 at 100; RO_COMPAT_METADATA_CSUM
    && (slice_index first 373 == 1)  -- s_checksum_type: u8 at 373; CRC-32C

-- its descriptors
unfoldable pub has_one_table : List ℕ → Bool
has_one_table first =
    (u32_le first 96 / 0x10 % 2 == 0)  -- INCOMPAT_META_BG
    && ((descriptor_bytes first == 32) || (descriptor_bytes first == 64))

-- it is whole: its checksum is that of all that stands before
unfoldable pub is_whole : List ℕ → List ℕ → Bool
is_whole first second =
    register_after (register_after 0xFFFFFFFF first) (slice_range second 0 508) == u32_le second 508  -- s_checksum: u32 at 1,020

-- such a superblock stands in two sectors
unfoldable pub has_tables : List ℕ → List ℕ → Bool
has_tables first second = has_inode_form first && has_one_table first && is_whole first second

-- those fields, if the two sectors are such a superblock
unfoldable pub inode_tables : List ℕ → List ℕ → Option InodeTables
inode_tables first second = if has_tables first second then Some (tables_of first second) else None

-- what its numbers are within
unfoldable pub is_sound : InodeTables → Bool
is_sound tables =
    nat_le 8 tables.group_inodes && nat_le 1024 tables.block && nat_le tables.block 65536
    && ((tables.descriptor == 32) || (tables.descriptor == 64))

-- the group of an inode, and its place in the group's table: numbers begin with 1
unfoldable pub group_of : InodeTables → ℕ → ℕ
group_of tables number = (number - 1) / tables.group_inodes

unfoldable pub index_of : InodeTables → ℕ → ℕ
index_of tables number = (number - 1) % tables.group_inodes

-- the block of the volume at which the inodes of a group begin, by the descriptor at a byte of a sector
unfoldable pub table_block : InodeTables → List ℕ → ℕ → ℕ
table_block tables s at =
    u32_le s (at + 8)  -- bg_inode_table_lo: u32 at 8
    + (if tables.descriptor == 64 then 2 ^ 32 * u32_le s (at + 40) else 0)  -- bg_inode_table_hi: u32 at 40

-- the register that the number of a group and its descriptor leave, with zeros where the descriptor keeps its checksum
unfoldable pub descriptor_register : InodeTables → ℕ → List ℕ → ℕ → ℕ
descriptor_register tables group s at =
    register_after tables.seed
    (to_le_bytes w32 group ++ (slice_range s at (at + 30) ++ ((0 ∷ 0 ∷ []) ++ slice_range s (at + 32) (at + tables.descriptor))))

-- a descriptor is that of the group: its checksum is the lower half of that register. The block that it names is below 2^47.
unfoldable pub is_descriptor : InodeTables → ℕ → List ℕ → ℕ → Bool
is_descriptor tables group s at =
    (descriptor_register tables group s at % 65536 == u16_le s (at + 30))  -- bg_checksum: u16 at 30
    && nat_lt (table_block tables s at) (2 ^ 47)

-- the block at which the inodes of a group begin, if this is its descriptor
unfoldable pub inode_table : InodeTables → ℕ → List ℕ → ℕ → Option ℕ
inode_table tables group s at = if is_descriptor tables group s at then Some (table_block tables s at) else None

-- the sector of the volume at which an inode of a group lies whose inodes begin with a block
unfoldable pub inode_sector : InodeTables → ℕ → ℕ → ℕ
inode_sector tables block number = block * (tables.block / 512) + index_of tables number * 256 / 512

-- a group has inodes of the file system
unfoldable pub has_group : InodeTables → ℕ → Bool
has_group tables group = nat_lt (group * tables.group_inodes) tables.inodes

-- how many descriptors a sector has
unfoldable pub sector_groups : InodeTables → ℕ
sector_groups tables = 512 / tables.descriptor

-- a sector has the descriptors of the groups from the first on, as far as the file system has them: a checksum has 16 bits, those of
-- a full sector together 128 or more, and those of a file system of one group or two 16 or 32
unfoldable pub are_descriptors : InodeTables → ℕ → List ℕ → Bool
are_descriptors tables first s =
    list_all (λ i. not (has_group tables (first + i)) || is_descriptor tables (first + i) s (i * tables.descriptor)) (range_with_len 0 (sector_groups tables))

-- a sector of the 256 from a copy of a superblock on
abbrev pub copied_sector : List ℕ → ℕ → List ℕ
copied_sector copy sector = slice_range copy (512 * sector) (512 * sector + 512)

-- what the copy says, by its two sectors
unfoldable pub copied_tables : List ℕ → Option InodeTables
copied_tables copy = inode_tables (copied_sector copy 0) (copied_sector copy 1)

-- the sector behind a copy that has the descriptor of a group: descriptors begin with the next block. No sector past the 128th of
-- them is looked at
unfoldable pub descriptors_behind : InodeTables → List ℕ → ℕ → List ℕ
descriptors_behind tables copy group = copied_sector copy (tables.block / 512 + group / sector_groups tables)

-- where an inode lies by the descriptors behind a copy, if all of the sector that has its group's are whole
unfoldable pub copied_place : InodeTables → List ℕ → ℕ → Option ℕ
copied_place tables copy number =
    if nat_lt (group_of tables number / sector_groups tables) 128
    && are_descriptors tables (group_of tables number - group_of tables number % sector_groups tables) (descriptors_behind tables copy (group_of tables number))
    then option_map (λ block. inode_sector tables block number)
    (inode_table tables (group_of tables number) (descriptors_behind tables copy (group_of tables number)) (group_of tables number % sector_groups tables * tables.descriptor))
    else None
