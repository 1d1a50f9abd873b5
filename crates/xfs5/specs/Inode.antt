-- An inode of XFS of version 5 (XFS Algorithms & Data Structures, Inode Core). Numbers are big-endian but for the checksum. `s` is the
-- sector of 512 bytes in which an inode begins, `rest` what lies past it: nothing where the inodes of the file system have 512 bytes.
use Rattle.std.specs.Prelude.{ℕ, ◌+◌, List, [], ◌∷◌, ◌++◌, drop, Bool, ◌&&◌, ◌==◌, Option, Some, None, if◌then◌else◌, codes, slice_index, slice_range}
use Rattle.byteorder.specs.Endian.{big_number}
use Rattle.sector_fields.specs.Fields.{has_bytes, u32_le, uuid_at}
use Rattle.crc32c.specs.Register.{register_after}
use Rattle.xfs5.specs.declared.inode.XfsInode.{XfsInode}

-- the unsigned number of 64 bits at a byte, its highest byte first
unfoldable pub u64_be : List ℕ → ℕ → ℕ
u64_be sector at = big_number 8 (drop at sector)

-- the register that an inode leaves, with zeros where it keeps its checksum, from all ones
unfoldable pub inode_register : List ℕ → List ℕ → ℕ
inode_register s rest =
    register_after 0xFFFFFFFF (slice_range s 0 100 ++ ((0 ∷ 0 ∷ 0 ∷ 0 ∷ []) ++ (slice_range s 104 512 ++ rest)))

-- an inode of version 3, which file systems of version 5 have, seems to begin: its checksum is not looked at
unfoldable pub begins_inode : List ℕ → Bool
begins_inode s =
    has_bytes s 0 (codes "IN")  -- di_magic: 2 bytes at 0
    && (slice_index s 4 == 3)  -- di_version: u8 at 4

-- they are one: its checksum is that register, inverted
unfoldable pub is_inode : List ℕ → List ℕ → Bool
is_inode s rest = begins_inode s && (inode_register s rest + u32_le s 100 == 0xFFFFFFFF)  -- di_crc: u32 at 100, little-endian

-- its number and the identifier of its file system
unfoldable pub inode_of : List ℕ → XfsInode
inode_of s = record {
  number = u64_be s 152;  -- di_ino: u64 at 152
  uuid = uuid_at s 160;  -- di_uuid: 16 bytes at 160
}

-- those, if they are an inode
unfoldable pub xfs_inode : List ℕ → List ℕ → Option XfsInode
xfs_inode s rest = if is_inode s rest then Some (inode_of s) else None

-- the number and the identifier of an inode that seems to begin
unfoldable pub inode_start : List ℕ → Option XfsInode
inode_start s = if begins_inode s then Some (inode_of s) else None

-- how many bytes an inode of more than 512 has with which 2,048 bytes begin: the fewer, 1,024, if its checksum is that of both
unfoldable pub larger_inode : List ℕ → Option ℕ
larger_inode run =
    if is_inode (slice_range run 0 512) (slice_range run 512 1024) then Some 1024
    else if is_inode (slice_range run 0 512) (slice_range run 512 2048) then Some 2048
    else None
