-- How large the numbers of a file system are.
use Rattle.std.proofs.Common.{◌≡◌, ℕ, ◌+◌, ◌*◌, ◌/◌, ◌<◌, ◌≤◌, true, arith, ◌^◌, sym, ap, ◌∙◌, pow_mono}
use Rattle.std.proofs.lemmas.Bool.Decides.{nat_tests}
use Rattle.std.proofs.lemmas.Nat.{pow_pos}
use Rattle.std.proofs.Math.Nat.{mul-le-mul, mul-le-mul_right}
use Rattle.xfs5.specs.Places.{has_block_size, has_groups, has_inode_size, is_sound}
use Rattle.xfs5.specs.declared.places.XfsInodes.{XfsInodes}

-- powers of few bits
pub power_7 : (bits : ℕ) → bits ≤ 7 → 2 ^ bits ≤ 128
power_7 bits h = pow_mono h

pub power_31 : (bits : ℕ) → bits ≤ 31 → 2 ^ bits ≤ 2147483648
power_31 bits h = pow_mono h

pub inode_bits_most : (x : XfsInodes) → is_sound x ≡ true → x.inode_bits ≤ 7
unfolding is_sound has_block_size
inode_bits_most x t = grind (arith, nat_tests)

pub block_bits_most : (x : XfsInodes) → is_sound x ≡ true → x.block_bits ≤ 31
unfolding is_sound has_groups
block_bits_most x t = grind (arith, nat_tests)

-- the inodes of a block, and the blocks that numbers have room for
pub inode_power : (x : XfsInodes) → is_sound x ≡ true → (1 ≤ 2 ^ x.inode_bits) × (2 ^ x.inode_bits ≤ 128)
inode_power x t = (pow_pos x.inode_bits, power_7 x.inode_bits (inode_bits_most x t))

pub block_power : (x : XfsInodes) → is_sound x ≡ true → (1 ≤ 2 ^ x.block_bits) × (2 ^ x.block_bits ≤ 2147483648)
block_power x t = (pow_pos x.block_bits, power_31 x.block_bits (block_bits_most x t))

-- what is computed where the numbers of a superblock are looked at
pub product_most : (inode bits : ℕ) → inode < 65536 → bits ≤ 7 → inode * 2 ^ bits ≤ 65536 * 128
product_most inode bits h few =
    let a : inode ≤ 65536 = omega arith in
    mul-le-mul a (power_7 bits few)

pub count_most : (blocks count : ℕ) → blocks < 2 ^ 32 → count < 2 ^ 32 → blocks * count ≤ 4294967295 * 4294967295
count_most blocks count h k =
    let a : blocks ≤ 4294967295 = omega arith in
    let b : count ≤ 4294967295 = omega arith in
    mul-le-mul a b

-- a block of a group is one of the file system's
pub before_most : (group block blocks count : ℕ) → group < count → block < blocks → group * blocks + block < blocks * count
before_most group block blocks count g b =
    let more : (group + 1) * blocks ≤ count * blocks = mul-le-mul_right blocks (omega arith) in
    omega arith

-- the blocks of a file system
pub blocks_most : (x : XfsInodes) → is_sound x ≡ true → x.ag_blocks * x.ag_count < 2 ^ 48
unfolding is_sound has_groups
blocks_most x t = grind (arith, nat_tests)

block_is : (x : XfsInodes) → is_sound x ≡ true → x.inode * 2 ^ x.inode_bits ≡ x.block
unfolding is_sound has_block_size
block_is x t = grind (arith, nat_tests)

inode_is : (x : XfsInodes) → is_sound x ≡ true → x.inode ≡ 512 * (x.inode / 512)
unfolding is_sound has_inode_size
inode_is x t = grind (arith, nat_tests)

-- a block's sectors are those of its inodes
pub block_sectors : (x : XfsInodes) → is_sound x ≡ true → x.block / 512 ≡ 2 ^ x.inode_bits * (x.inode / 512)
block_sectors x t =
    let all : x.inode * 2 ^ x.inode_bits ≡ x.block = block_is x t in
    let whole : x.inode ≡ 512 * (x.inode / 512) = inode_is x t in
    let e : x.block ≡ 512 * (2 ^ x.inode_bits * (x.inode / 512)) = sym all ∙ ap (λ (y : ℕ). y * 2 ^ x.inode_bits) whole ∙ omega arith in
    omega arith

pub sectors_most : (x : XfsInodes) → is_sound x ≡ true → x.block / 512 ≤ 128
unfolding is_sound has_block_size
sectors_most x t = grind (arith, nat_tests)

pub inode_sectors : (x : XfsInodes) → is_sound x ≡ true → (1 ≤ x.inode / 512) × (x.inode / 512 ≤ 4)
unfolding is_sound has_inode_size
inode_sectors x t = grind (arith, nat_tests)

-- an inode of a block lies in the block
pub within_block : (x : XfsInodes) (index : ℕ) → is_sound x ≡ true → index < 2 ^ x.inode_bits → index * (x.inode / 512) < x.block / 512
within_block x index t below =
    let q = x.inode / 512 in
    let least : 1 ≤ q = (inode_sectors x t).0 in
    let more : (index + 1) * q ≤ 2 ^ x.inode_bits * q = mul-le-mul_right q (omega arith) in
    let same : x.block / 512 ≡ 2 ^ x.inode_bits * q = block_sectors x t in
    omega arith

-- an inode lies below sector 2^55
pub sector_below : (x : XfsInodes) (before index : ℕ) → is_sound x ≡ true → before < x.ag_blocks * x.ag_count → index < 2 ^ x.inode_bits →
    before * (x.block / 512) + index * (x.inode / 512) < 2 ^ 55
sector_below x before index t below which =
    let blocks : x.ag_blocks * x.ag_count < 2 ^ 48 = blocks_most x t in
    let within : index * (x.inode / 512) < x.block / 512 = within_block x index t which in
    let most : x.block / 512 ≤ 128 = sectors_most x t in
    let all : (before + 1) * (x.block / 512) ≤ 281474976710656 * 128 = (let a : before + 1 ≤ 281474976710656 = omega arith in mul-le-mul a most) in
    omega arith

-- each part of that sum is below it
pub parts_below : (x : XfsInodes) (before index : ℕ) → is_sound x ≡ true → before < x.ag_blocks * x.ag_count → index < 2 ^ x.inode_bits →
    (before * (x.block / 512) < 2 ^ 55) × (index * (x.inode / 512) < 2 ^ 55)
parts_below x before index t below which =
    let all : before * (x.block / 512) + index * (x.inode / 512) < 2 ^ 55 = sector_below x before index t below which in
    (omega arith, omega arith)
