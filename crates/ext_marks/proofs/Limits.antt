-- How large the numbers of a copy are.
use Rattle.std.proofs.Common.{◌≡◌, ℕ, ◌+◌, ◌*◌, ◌/◌, ◌<◌, ◌≤◌, List, Some, true, arith, ◌^◌, pow_mono}
use Rattle.std.proofs.lemmas.Bool.Decides.{nat_tests}
use Rattle.std.proofs.Math.Nat.{mul-le-mul}
use Rattle.sector_fields.specs.Fields.{u16_le, u32_le}
use Rattle.ext_marks.specs.Copy.{block_bytes, copy_sector, ext_super, ext_super_of, has_block_form, is_ext_copy}
use Rattle.ext_marks.specs.declared.copy.ExtSuper.{ExtSuper}

-- the code of the block size is at most 6
pub code_most : (s : List ℕ) → is_ext_copy s ≡ true → u32_le s 24 ≤ 6
unfolding is_ext_copy has_block_form
code_most s t = grind (arith, nat_tests)

-- so the power that it stands for is at most 64
pub power_most : (s : List ℕ) → is_ext_copy s ≡ true → 2 ^ u32_le s 24 ≤ 64
power_most s t = pow_mono (code_most s t)

-- a block has at most 128 sectors
pub block_most : (s : List ℕ) → is_ext_copy s ≡ true → block_bytes s / 512 ≤ 128
unfolding block_bytes
block_most s t = omega (arith, power_most s t)

-- the first data block is 0 or 1
pub first_most : (s : List ℕ) → is_ext_copy s ≡ true → u32_le s 20 ≤ 1
unfolding is_ext_copy has_block_form
first_most s t = grind (arith, nat_tests)

-- the blocks before a group take less than 48 bits
pub before_most : (s : List ℕ) → is_ext_copy s ≡ true → u32_le s 32 < 2 ^ 32 → u16_le s 90 * u32_le s 32 ≤ 65534 * 4294967295
unfolding is_ext_copy
before_most s t fits =
    let group : u16_le s 90 ≤ 65534 = grind (arith, nat_tests) in
    let blocks : u32_le s 32 ≤ 4294967295 = omega arith in
    mul-le-mul group blocks

-- a copy lies below sector 2^55
pub sector_within : (s : List ℕ) → is_ext_copy s ≡ true → u32_le s 32 < 2 ^ 32 → copy_sector s < 2 ^ 55
unfolding copy_sector
sector_within s t fits =
    let blocks : u32_le s 20 + u16_le s 90 * u32_le s 32 ≤ 1 + 65534 * 4294967295 = omega (arith, first_most s t, before_most s t fits) in
    let product : (u32_le s 20 + u16_le s 90 * u32_le s 32) * (block_bytes s / 512) ≤ (1 + 65534 * 4294967295) * 128 = mul-le-mul blocks (block_most s t) in
    omega arith

-- the same of the fields of a copy
pub copy_within : (s : List ℕ) (x : ExtSuper) → x ≡ ext_super_of s → is_ext_copy s ≡ true → x.group_blocks < 2 ^ 32 → x.copy_sector < 2 ^ 55
unfolding ext_super_of
copy_within s x e t fits = grind (arith, sector_within)

-- the same of the copy that was read
pub copy_below : (s : List ℕ) (x : ExtSuper) → ext_super s ≡ Some x → x.group_blocks < 2 ^ 32 → x.copy_sector < 2 ^ 55
unfolding ext_super ext_super_of
copy_below s x e fits = grind (arith, sector_within)
