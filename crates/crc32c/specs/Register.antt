-- CRC-32C, the checksum of ext4, XFS and btrfs, as a register of 32 bits that bytes go through (RFC 3720, Section 12.1:
-- the polynomial 0x1EDC6F41 of Castagnoli and others; the lowest bit of a byte goes first, so that the polynomial is
-- written 0x82F63B78 here). What a file system keeps begins with a register of its own and may be inverted at the end:
-- neither is part of this.
use Rattle.std.specs.Prelude.{ℕ, zero, suc, ◌+◌, ◌*◌, ◌/◌, ◌%◌, ◌^◌, ◌==◌, nat_lt, if◌then◌else◌, List, [], ◌∷◌, bit_xor}

-- one bit further: the lowest bit leaves, and where it is 1 the polynomial is taken from what is left
abbrev pub shifted : ℕ → ℕ
shifted register = if register % 2 == 1 then bit_xor (register / 2) 0x82F63B78 else register / 2

-- a number of bits further
unfoldable pub shifts : ℕ → ℕ → ℕ
shifts zero register = register
shifts (suc n) register = shifts n (shifted register)

-- the register after bytes: each is added to it, and leaves it bit by bit
unfoldable pub register_after : ℕ → List ℕ → ℕ
register_after register [] = register
register_after register (byte ∷ rest) = register_after (shifts 8 (bit_xor register byte)) rest

-- one bit back: the highest bit, which the polynomial has, says whether it was taken away
abbrev pub unshifted : ℕ → ℕ
unshifted register =
    if nat_lt register (2 ^ 31) then 2 * register else 2 * bit_xor register 0x82F63B78 + 1

-- a number of bits back
unfoldable pub unshifts : ℕ → ℕ → ℕ
unshifts zero register = register
unshifts (suc n) register = unshifted (unshifts n register)

-- the register before bytes: the one that is this one after them
unfoldable pub register_before : ℕ → List ℕ → ℕ
register_before register [] = register
register_before register (byte ∷ rest) = bit_xor (unshifts 8 (register_before register rest)) byte
