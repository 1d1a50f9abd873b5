-- Inodes of ext4 with checksums, two of 256 bytes in a sector of 512 (Linux kernel, ext4 Data Structures and Algorithms:
-- Inode Table, Checksums). Numbers are little-endian. `at` is the byte of the sector at which an inode begins: 0 or 256.
use Rattle.std.specs.Prelude.{ℕ, ◌+◌, ◌-◌, ◌*◌, ◌^◌, ◌%◌, List, [], ◌∷◌, ◌++◌, Bool, ◌&&◌, ◌==◌, nat_le, nat_lt, Option, Some, None, if◌then◌else◌, bit_xor, slice_range}
use Rattle.std.specs.Int.{to_le_bytes, w32}
use Rattle.std.specs.List.{list_any, range_with_len}
use Rattle.sector_fields.specs.Fields.{u16_le}
use Rattle.crc32c.specs.Register.{register_after, register_before}
use Rattle.inode_marks.specs.declared.inode.InodePair.{InodePair}

-- the checksum that an inode keeps
unfoldable pub stored_checksum : List ℕ → ℕ → ℕ
stored_checksum s at = u16_le s (at + 124) + 65536 * u16_le s (at + 130)  -- l_i_checksum_lo: u16 at 124; i_checksum_hi: u16 at 130

-- the bytes from i_generation, u32 at 100, that its checksum covers beside the number, and then the whole inode with zeros where it
-- keeps its checksum
unfoldable pub after_number : List ℕ → ℕ → List ℕ
after_number s at =
    slice_range s (at + 100) (at + 104)
    ++ (slice_range s at (at + 124) ++ ((0 ∷ 0 ∷ []) ++ (slice_range s (at + 126) (at + 130)
    ++ ((0 ∷ 0 ∷ []) ++ slice_range s (at + 132) (at + 256)))))

-- an inode uses bytes past its first 128, among them those of i_checksum_hi, but no more than there are
unfoldable pub has_extra : List ℕ → ℕ → Bool
has_extra s at =
    nat_le 4 (u16_le s (at + 128)) && nat_le (u16_le s (at + 128)) 128 && (u16_le s (at + 128) % 4 == 0)  -- i_extra_isize: u16 at 128

-- the inode is that of the number, in the file system whose checksums begin with the seed: its checksum is that of the number, the
-- generation and the inode
unfoldable pub is_inode : ℕ → List ℕ → ℕ → ℕ → Bool
is_inode seed s at number =
    has_extra s at
    && (register_after (register_after seed (to_le_bytes w32 number)) (after_number s at) == stored_checksum s at)

-- a sector of two inodes: the first has an odd number, since tables begin with one, and the second the next, which is not past the
-- last of the file system's `inodes`. The bound matters: two inodes of another file system may be told to have numbers that follow
-- each other too, those that they have there with the difference of the seeds added
unfoldable pub is_pair : ℕ → ℕ → List ℕ → ℕ → Bool
is_pair seed inodes s number =
    (number % 2 == 1) && nat_lt number inodes && is_inode seed s 0 number && is_inode seed s 256 (number + 1)

-- the number with which the checksum of an inode is right: the register that the rest of the inode makes its checksum of, without
-- the seed, since a number goes through a register like zeros that it is added to
unfoldable pub told_number : ℕ → List ℕ → ℕ → ℕ
told_number seed s at =
    bit_xor seed (register_before (register_before (stored_checksum s at) (after_number s at)) (0 ∷ 0 ∷ 0 ∷ 0 ∷ []))

-- the number of the first of a sector's two inodes, if it holds two
unfoldable pub inode_pair : ℕ → ℕ → List ℕ → Option ℕ
inode_pair seed inodes s =
    if is_pair seed inodes s (told_number seed s 0) then Some (told_number seed s 0) else None

-- ones alone in binary, from 6 to 32 of them
unfoldable pub are_ones : ℕ → Bool
are_ones difference = list_any (λ k. difference == 2 ^ k - 1) (range_with_len 6 27)

-- two inodes of a sector that have numbers n and n + 1 in some file system, n + 1 a multiple of 32. With a seed of 0 the numbers that
-- they tell are these with the seed of their file system added, so they differ as these do: in the lowest bits alone, of which n has
-- ones after one 0, and n + 1 zeros after one 1
unfoldable pub are_beside : List ℕ → Bool
are_beside s = has_extra s 0 && has_extra s 256 && are_ones (bit_xor (told_number 0 s 0) (told_number 0 s 256))

-- the numbers that they tell with a seed of 0, if the sector holds such two
unfoldable pub any_pair : List ℕ → Option InodePair
any_pair s = if are_beside s then Some (record { first = told_number 0 s 0; second = told_number 0 s 256 }) else None

-- the number of the first in the file system whose checksums begin with the seed and which has `inodes`, if they are two of it
unfoldable pub pair_number : ℕ → ℕ → InodePair → Option ℕ
pair_number seed inodes pair =
    if (bit_xor seed pair.first % 2 == 1) && nat_lt (bit_xor seed pair.first) inodes && (bit_xor seed pair.second == bit_xor seed pair.first + 1)
    then Some (bit_xor seed pair.first) else None
