-- Where the inodes of an XFS of version 5 lie (XFS Algorithms & Data Structures, Superblocks, and Inode Numbers). Numbers are big-endian
-- but for the checksum.
use Rattle.std.specs.Prelude.{ℕ, ◌+◌, ◌*◌, ◌/◌, ◌%◌, ◌^◌, List, [], ◌∷◌, ◌++◌, Bool, not, ◌&&◌, ◌||◌, ◌==◌, nat_le, nat_lt, Option, Some, None, if◌then◌else◌, codes, slice_index, slice_range}
use Rattle.sector_fields.specs.Fields.{has_bytes, u16_be, u32_be, u32_le, uuid_at}
use Rattle.crc32c.specs.Register.{register_after}
use Rattle.xfs5.specs.declared.places.XfsInodes.{XfsInodes}

-- the fields of a superblock that say where inodes lie. The identifier that inodes have is sb_meta_uuid where the feature is set.
unfoldable pub inodes_of : List ℕ → XfsInodes
inodes_of s = record {
  uuid = if u32_be s 216 / 4 % 2 == 1 then uuid_at s 248 else uuid_at s 32;  -- sb_features_incompat: u32 at 216; sb_meta_uuid: 16 bytes at 248; sb_uuid: 16 bytes at 32
  block = u32_be s 4;  -- sb_blocksize: u32 at 4
  ag_blocks = u32_be s 84;  -- sb_agblocks: u32 at 84
  ag_count = u32_be s 88;  -- sb_agcount: u32 at 88
  inode = u16_be s 104;  -- sb_inodesize: u16 at 104
  inode_bits = slice_index s 123;  -- sb_inopblog: u8 at 123
  block_bits = slice_index s 124;  -- sb_agblklog: u8 at 124
}

-- the sizes that inodes may have
unfoldable pub has_inode_size : XfsInodes → Bool
has_inode_size inodes = (inodes.inode == 512) || (inodes.inode == 1024) || (inodes.inode == 2048)

-- a block has 2^inode_bits inodes, and at most 65,536 bytes
unfoldable pub has_block_size : XfsInodes → Bool
has_block_size inodes =
    nat_le inodes.inode_bits 7 && (inodes.inode * 2 ^ inodes.inode_bits == inodes.block) && nat_le inodes.block 65536

-- a group has at least 1 and at most 2^block_bits blocks, and all groups together fewer than 2^48
unfoldable pub has_groups : XfsInodes → Bool
has_groups inodes =
    nat_le inodes.block_bits 31 && nat_le 1 inodes.ag_blocks && nat_le inodes.ag_blocks (2 ^ inodes.block_bits)
    && nat_le 1 inodes.ag_count && nat_lt (inodes.ag_blocks * inodes.ag_count) (2 ^ 48)

-- the numbers that a file system may have
unfoldable pub is_sound : XfsInodes → Bool
is_sound inodes = has_inode_size inodes && has_block_size inodes && has_groups inodes

-- the register that a superblock of 512 bytes leaves, with zeros where it keeps its checksum, from all ones
unfoldable pub super_register : List ℕ → ℕ
super_register s = register_after 0xFFFFFFFF (slice_range s 0 224 ++ ((0 ∷ 0 ∷ 0 ∷ 0 ∷ []) ++ slice_range s 228 512))

-- the superblock is whole, where the file system has sectors of 512 bytes: its checksum is that register, inverted. It covers one sector
-- of the file system, so that of larger ones these are only the first bytes, and it is not looked at
unfoldable pub is_whole_super : List ℕ → Bool
is_whole_super s =
    not (u16_be s 102 == 512)  -- sb_sectsize: u16 at 102
    || (super_register s + u32_le s 224 == 0xFFFFFFFF)  -- sb_crc: u32 at 224, little-endian

-- the superblock of version 5 with such numbers, whole as far as that is known
unfoldable pub has_inodes : List ℕ → Bool
has_inodes s =
    has_bytes s 0 (codes "XFSB")  -- sb_magicnum: 4 bytes at 0
    && (u16_be s 100 % 16 == 5)  -- sb_versionnum: u16 at 100, of which the lowest 4 bits are the version
    && is_sound (inodes_of s)
    && is_whole_super s

-- those fields, if a sector begins such a superblock
unfoldable pub xfs_inodes : List ℕ → Option XfsInodes
xfs_inodes s = if has_inodes s then Some (inodes_of s) else None

-- the parts of an inode's number: the group, the block of the group, and the inode of the block
unfoldable pub group_of : XfsInodes → ℕ → ℕ
group_of inodes number = number / 2 ^ inodes.inode_bits / 2 ^ inodes.block_bits

unfoldable pub block_of : XfsInodes → ℕ → ℕ
block_of inodes number = number / 2 ^ inodes.inode_bits % 2 ^ inodes.block_bits

unfoldable pub index_of : XfsInodes → ℕ → ℕ
index_of inodes number = number % 2 ^ inodes.inode_bits

-- the sector of 512 bytes, counted from the file system's first, at which the inode begins that has these parts
unfoldable pub sector_of : XfsInodes → ℕ → ℕ
sector_of inodes number =
    (group_of inodes number * inodes.ag_blocks + block_of inodes number) * (inodes.block / 512)
    + index_of inodes number * (inodes.inode / 512)

-- that sector, if the file system has the group and the group has the block
unfoldable pub inode_sector : XfsInodes → ℕ → Option ℕ
inode_sector inodes number =
    if nat_lt (group_of inodes number) inodes.ag_count && nat_lt (block_of inodes number) inodes.ag_blocks
    then Some (sector_of inodes number)
    else None

-- an inode counts as a mark where its number begins a stretch of 64 KiB
unfoldable pub is_mark : XfsInodes → ℕ → Bool
is_mark inodes number = number * inodes.inode % 65536 == 0
