-- The header of a GUID partition table (UEFI Specification 2.10, 5.3.2). Numbers are little-endian, and
-- those of blocks, of 512 or 4,096 bytes each; a header lies in the first 512 bytes of its block.
use Rattle.std.specs.Prelude.{ℕ, ◌≡◌, ◌⊎◌, ◌*◌, ◌/◌, ◌%◌, ◌-◌, List, ◌++◌, take, drop, replicate, Bool, ◌&&◌, ◌||◌, ◌==◌, nat_le, nat_lt, Option, Some, None, if◌then◌else◌, codes, ◌^◌}
use Rattle.sector_fields.specs.Fields.{has_bytes, u32_le, u64_le, uuid_at}
use Rattle.gpt_marks.specs.Crc.{checksum_of}
use Rattle.gpt_marks.specs.declared.header.GptHeader.{GptHeader}

-- a sector with the four bytes of HeaderCRC32 as zero
unfoldable pub with_zero_checksum : List ℕ → List ℕ
with_zero_checksum s = take 16 s ++ (replicate 4 0 ++ drop 20 s)

-- the bytes that HeaderCRC32 covers: HeaderSize of them, its own as zero
unfoldable pub covered_bytes : List ℕ → List ℕ
covered_bytes s = take (u32_le s 12) (with_zero_checksum s)

-- the facts that make a sector a header
unfoldable pub is_gpt_header : List ℕ → Bool
is_gpt_header s =
    has_bytes s 0 (codes "EFI PART")  -- Signature: 8 bytes at 0
    && nat_le 92 (u32_le s 12)  -- HeaderSize: u32 at 12, 92 or more
    && nat_le (u32_le s 12) 512  --   and no more than the sector
    && (checksum_of (covered_bytes s) == u32_le s 16)  -- HeaderCRC32: u32 at 16
    && nat_lt (u64_le s 24) (2 ^ 55)  -- MyLBA: u64 at 24, below 2^55

-- its fields
unfoldable pub gpt_header_of : List ℕ → GptHeader
gpt_header_of s = record {
  my_lba = u64_le s 24;  -- MyLBA: u64 at 24
  alternate = u64_le s 32;  -- AlternateLBA: u64 at 32
  disk = uuid_at s 56;  -- DiskGUID: 16 bytes at 56
  table = u64_le s 72;  -- PartitionEntryLBA: u64 at 72
  entries = u32_le s 80;  -- NumberOfPartitionEntries: u32 at 80
  entry_size = u32_le s 84;  -- SizeOfPartitionEntry: u32 at 84
}

-- the header in a sector
unfoldable pub gpt_header : List ℕ → Option GptHeader
gpt_header s = if is_gpt_header s then Some (gpt_header_of s) else None

-- the sectors of a block: 1 where blocks have 512 bytes, 8 where they have 4,096
abbrev pub IsUnit : ℕ → Type 0
IsUnit unit = (unit ≡ 1) ⊎ (unit ≡ 8)

-- a header found in a sector of an image of that length is the image's own, on a disk whose blocks have
-- `unit` sectors: the image is whole blocks, MyLBA is the block that begins at that sector, and MyLBA and
-- AlternateLBA are block 1 and the last block, in either order
unfoldable pub is_own_table : GptHeader → ℕ → ℕ → ℕ → Bool
is_own_table header sector length unit =
    (length % unit == 0)
    && (unit * header.my_lba == sector)
    && ((header.my_lba == 1 && header.alternate == length / unit - 1) || (header.my_lba == length / unit - 1 && header.alternate == 1))
