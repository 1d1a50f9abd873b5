-- The numbers in messages, their highest byte first.
use Rattle.std.specs.Prelude.{ℕ, List, drop}
use Rattle.byteorder.specs.Endian.{big_number, big_bytes}

-- the number in the two, four or eight bytes from a byte on
unfoldable pub u16_at : ℕ → List ℕ → ℕ
u16_at at bytes = big_number 2 (drop at bytes)

unfoldable pub u32_at : ℕ → List ℕ → ℕ
u32_at at bytes = big_number 4 (drop at bytes)

unfoldable pub u64_at : ℕ → List ℕ → ℕ
u64_at at bytes = big_number 8 (drop at bytes)

-- a number in two, four or eight bytes
unfoldable pub u16_bytes : ℕ → List ℕ
u16_bytes number = big_bytes 2 number

unfoldable pub u32_bytes : ℕ → List ℕ
u32_bytes number = big_bytes 4 number

unfoldable pub u64_bytes : ℕ → List ℕ
u64_bytes number = big_bytes 8 number
