-- The checksum with which each block of metadata of btrfs begins (btrfs On-disk Format, Header, Superblock), by CRC-32C.
use Rattle.std.specs.Prelude.{ℕ, ◌+◌, List, Bool, ◌==◌, length, slice_range}
use Rattle.sector_fields.specs.Fields.{u32_le}
use Rattle.crc32c.specs.Register.{register_after}

-- the bytes of a tree block or of a superblock are whole: their checksum is that of all bytes past its 32, inverted
unfoldable pub is_whole : List ℕ → Bool
is_whole block = register_after 0xFFFFFFFF (slice_range block 32 (length block)) + u32_le block 0 == 0xFFFFFFFF  -- csum: its first u32, at 0
