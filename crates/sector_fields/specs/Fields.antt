-- The fields of a sector, each by its width, its byte order and the byte at which it begins.
use Rattle.std.specs.Prelude.{ℕ, List, drop, take, Bool, nat_eq}
use Rattle.std.specs.List.{starts_with}
use Rattle.byteorder.specs.Endian.{little_number, big_number}

-- the unsigned number of 16 bits at a byte, its lowest byte first
unfoldable pub u16_le : List ℕ → ℕ → ℕ
u16_le sector at = little_number 2 (drop at sector)

-- the same of 32 bits
unfoldable pub u32_le : List ℕ → ℕ → ℕ
u32_le sector at = little_number 4 (drop at sector)

-- the same of 64 bits
unfoldable pub u64_le : List ℕ → ℕ → ℕ
u64_le sector at = little_number 8 (drop at sector)

-- the unsigned number of 16 bits at a byte, its highest byte first
unfoldable pub u16_be : List ℕ → ℕ → ℕ
u16_be sector at = big_number 2 (drop at sector)

-- the same of 32 bits
unfoldable pub u32_be : List ℕ → ℕ → ℕ
u32_be sector at = big_number 4 (drop at sector)

-- the sixteen bytes of an identifier, in the order in which they stand
unfoldable pub uuid_at : List ℕ → ℕ → List ℕ
uuid_at sector at = take 16 (drop at sector)

-- these bytes stand at a byte
unfoldable pub has_bytes : List ℕ → ℕ → List ℕ → Bool
has_bytes sector at bytes = starts_with nat_eq (drop at sector) bytes
