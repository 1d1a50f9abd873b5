-- The entries of a GUID partition table, of 128 bytes each (UEFI Specification 2.10, 5.3.3). Numbers are
-- little-endian.
use Rattle.std.specs.Prelude.{ℕ, ◌+◌, List, [], ◌∷◌, replicate, map, Bool, not, ◌&&◌, nat_le, nat_lt, Option, Some, None, if◌then◌else◌, ◌^◌}
use Rattle.sector_fields.specs.Fields.{has_bytes, u64_le}

-- the facts that make the 128 bytes at a byte an entry in use of a table that ends at AlternateLBA
unfoldable pub is_used_entry : List ℕ → ℕ → ℕ → Bool
is_used_entry s alternate at =
    not (has_bytes s at (replicate 16 0))  -- PartitionTypeGUID: 16 bytes at 0, all zero where unused
    && nat_le (u64_le s (at + 32)) (u64_le s (at + 40))  -- StartingLBA: u64 at 32, EndingLBA: u64 at 40
    && nat_le (u64_le s (at + 40)) alternate  -- and not past AlternateLBA
    && nat_lt (u64_le s (at + 32)) (2 ^ 55)  -- and the first below 2^55

-- the first block of the entry at a byte
unfoldable pub first_lba : List ℕ → ℕ → ℕ → Option ℕ
first_lba s alternate at = if is_used_entry s alternate at then Some (u64_le s (at + 32)) else None

-- the first blocks of the four entries of a sector
unfoldable pub first_lbas : List ℕ → ℕ → List (Option ℕ)
first_lbas s alternate = map (first_lba s alternate) (0 ∷ 128 ∷ 256 ∷ 384 ∷ [])
