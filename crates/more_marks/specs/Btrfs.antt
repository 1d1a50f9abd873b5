-- The superblock of btrfs (btrfs On-disk Format, Superblock). Numbers are little-endian.
use Rattle.std.specs.Prelude.{ℕ, List, Bool, ◌&&◌, ◌||◌, ◌==◌, Option, Some, None, if◌then◌else◌, codes}
use Rattle.sector_fields.specs.Fields.{has_bytes, u64_le, uuid_at}
use Rattle.more_marks.specs.declared.btrfs.BtrfsSuper.{BtrfsSuper}

-- the fields of a superblock
unfoldable pub btrfs_super_of : List ℕ → BtrfsSuper
btrfs_super_of s = record {
  fsid = uuid_at s 32;  -- fsid: 16 bytes at 32
  address = u64_le s 48;  -- physical address of this block: u64 at 48
}

-- the bytes of a file system at which a superblock lies: 64 KiB, 64 MiB and 256 GiB
unfoldable pub is_super_address : ℕ → Bool
is_super_address address = (address == 65536) || (address == 67108864) || (address == 274877906944)

-- the facts that make a sector the first of a superblock
unfoldable pub is_btrfs_super : List ℕ → Bool
is_btrfs_super s =
    has_bytes s 64 (codes "_BHRfS_M")  -- magic: 8 bytes at 64
    && is_super_address (u64_le s 48)

-- the superblock's fields, if the sector begins one
unfoldable pub btrfs_super : List ℕ → Option BtrfsSuper
btrfs_super s = if is_btrfs_super s then Some (btrfs_super_of s) else None
