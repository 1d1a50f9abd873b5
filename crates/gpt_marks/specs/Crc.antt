-- CRC-32 bit by bit. Its polynomial 0x04C11DB7 (UEFI Specification 2.10, 4.2) is 0xEDB88320 reflected:
-- the register holds the lowest power in its highest bit, and takes each byte from its lowest bit on.
use Rattle.std.specs.Prelude.{ℕ, zero, suc, ◌/◌, ◌%◌, List, ◌==◌, if◌then◌else◌, bit_xor, fold}

-- the register after one bit
abbrev pub bit_step : ℕ → ℕ
bit_step r = if r % 2 == 1 then bit_xor (r / 2) 0xEDB88320 else r / 2

-- the register after n bits
unfoldable pub bit_steps : ℕ → ℕ → ℕ
bit_steps zero r = r
bit_steps (suc n) r = bit_step (bit_steps n r)

-- the register after a byte
abbrev pub byte_step : ℕ → ℕ → ℕ
byte_step r b = bit_steps 8 (bit_xor r b)

-- the checksum of bytes: all ones before the first byte, and all bits turned at the end
unfoldable pub checksum_of : List ℕ → ℕ
checksum_of bytes = bit_xor (fold byte_step 0xFFFFFFFF bytes) 0xFFFFFFFF
