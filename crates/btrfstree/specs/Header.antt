-- The header of a tree block of btrfs (btrfs On-disk Format, Header). Numbers are little-endian. The checksum covers the whole block,
-- of which a sector is only the first part: so it is not looked at.
use Rattle.std.specs.Prelude.{ℕ, List, Bool, ◌&&◌, ◌||◌, ◌==◌, nat_le, nat_lt, not, Option, Some, None, if◌then◌else◌, codes, slice_index, ◌%◌, ◌^◌}
use Rattle.sector_fields.specs.Fields.{has_bytes, u32_le, u64_le, uuid_at}
use Rattle.btrfstree.specs.declared.header.TreeBlock.{TreeBlock}
use Rattle.btrfstree.specs.declared.header.TreeHeader.{TreeHeader}

-- the flags of a tree block, which has the lower 56 bits for them: it was written (bit 0), and may be moved elsewhere just now (bit 1)
unfoldable pub has_flags : ℕ → Bool
has_flags flags = (flags % 2 ^ 56 == 1) || (flags % 2 ^ 56 == 3)  -- WRITTEN; WRITTEN and RELOC

-- the facts that make a sector the first of a tree block: no superblock; an identifier that is not all zeros; an address that is a
-- multiple of 4,096 and not 0; flags that say that it was written; one of the two revisions of back references; no more items than the
-- largest block, of 64 KiB, has room for: 25 bytes each, after the header of 101; and one of the 8 levels
unfoldable pub is_block : List ℕ → Bool
is_block s =
    not (has_bytes s 64 (codes "_BHRfS_M"))  -- where a superblock has its magic number
    && (nat_lt 0 (u64_le s 32) || nat_lt 0 (u64_le s 40))  -- fsid: 16 bytes at 32
    && nat_lt 0 (u64_le s 48) && (u64_le s 48 % 4096 == 0)  -- logical address of this block: u64 at 48
    && has_flags (u64_le s 56)  -- flags: u64 at 56, of which byte 63 is the backref revision
    && nat_le (slice_index s 63) 1  -- backref revision: u8 at 63, 0 (OLD) or 1 (MIXED)
    && nat_le (u32_le s 96) 2617  -- nritems: u32 at 96
    && nat_le (slice_index s 100) 7  -- level: u8 at 100

-- its fields
unfoldable pub header_of : List ℕ → TreeHeader
header_of s = record {
  address = u64_le s 48;
  generation = u64_le s 80;  -- generation: u64 at 80
  owner = u64_le s 88;  -- owner: u64 at 88, the tree that contains the block
  level = slice_index s 100;
}

-- a leaf of the tree of chunks
unfoldable pub is_chunk_leaf : TreeHeader → Bool
is_chunk_leaf header = (header.level == 0) && (header.owner == 3)  -- CHUNK_TREE_OBJECTID

-- a tree block counts where its address begins a stretch of 64 KiB, so that some thousands of them spread over the chunks, or it is a leaf
-- of the tree of chunks, which says where addresses lie
unfoldable pub is_mark : TreeHeader → Bool
is_mark header = (header.address % 65536 == 0) || is_chunk_leaf header

-- a sector is the first of a tree block that counts, of whichever file system
unfoldable pub is_counted : List ℕ → Bool
is_counted s = is_block s && is_mark (header_of s)

-- what is known of it without its file system
unfoldable pub block_of : List ℕ → TreeBlock
block_of s = record {
  identifier = uuid_at s 32;
  address = (header_of s).address;
  generation = (header_of s).generation;
  is_chunk_leaf = is_chunk_leaf (header_of s);
}

-- that, if the sector is one
unfoldable pub tree_block : List ℕ → Option TreeBlock
tree_block s = if is_counted s then Some (block_of s) else None
