-- What holds of the item of a chunk.
use Rattle.std.proofs.Common.{◌≡◌, ℕ, ◌+◌, ◌*◌, ◌<◌, ◌≤◌, ◌^◌, List, true, Some, None, length, arith, ◌==◌, sym, ap, ◌∙◌, cond}
use Rattle.std.proofs.lemmas.Bool.Decides.{nat_tests}
use Rattle.sector_fields.specs.Fields.{u16_le, u32_le, u64_le}
use Rattle.btrfstree.specs.Chunks.{chunk_of, has_leaf_item, has_stripe, is_chunk, is_dup, is_second_within, is_single, is_within, place_from, second_from, second_place}
use Rattle.btrfstree.specs.declared.chunks.Chunk.{Chunk}

-- the bytes of its first stripe are there, and those of the second where there are two
pub first_there : (device logical : ℕ) (item : List ℕ) → is_chunk device logical item ≡ true → 80 ≤ length item
unfolding is_chunk
first_there device logical item t = grind (arith, nat_tests)

pub second_there : (device logical : ℕ) (item : List ℕ) → is_chunk device logical item ≡ true → u16_le item 44 ≡ 2 → 112 ≤ length item
unfolding is_chunk is_single is_dup
second_there device logical item t two = grind (arith, nat_tests)

-- addresses and stripes end below 2^64
addresses_end : (device logical : ℕ) (item : List ℕ) → is_chunk device logical item ≡ true → logical + u64_le item 0 < 2 ^ 64
unfolding is_chunk
addresses_end device logical item t = grind (arith, nat_tests)

stripe_end : (device : ℕ) (item : List ℕ) (at : ℕ) → has_stripe device item at ≡ true → u64_le item (at + 8) + u64_le item 0 < 2 ^ 64
unfolding has_stripe
stripe_end device item at t = grind (arith, nat_tests)

first_stripe : (device logical : ℕ) (item : List ℕ) → is_chunk device logical item ≡ true → has_stripe device item 48 ≡ true
unfolding is_chunk is_single is_dup
first_stripe device logical item t = grind (arith, nat_tests)

second_stripe : (device logical : ℕ) (item : List ℕ) → is_chunk device logical item ≡ true → u16_le item 44 ≡ 2 → has_stripe device item 80 ≡ true
unfolding is_chunk is_single is_dup
second_stripe device logical item t two = grind (arith, nat_tests)

second_within : (device logical : ℕ) (item : List ℕ) → is_chunk device logical item ≡ true →
    is_second_within (u64_le item 0) (cond (u16_le item 44 == 2) (Some (u64_le item 88)) None) ≡ true
unfolding is_second_within
second_within device logical item t = grind (arith, nat_tests, second_stripe, stripe_end)

pub chunk_within : (device logical : ℕ) (item : List ℕ) → is_chunk device logical item ≡ true → is_within (chunk_of logical item) ≡ true
unfolding chunk_of is_within
chunk_within device logical item t =
    let addresses : logical + u64_le item 0 < 2 ^ 64 = addresses_end device logical item t in
    let first : u64_le item 56 + u64_le item 0 < 2 ^ 64 = stripe_end device item 48 (first_stripe device logical item t) in
    let second = second_within device logical item t in
    grind (arith, nat_tests, second_within)

-- a chunk's places end below 2^64
pub first_ends : (x : Chunk) → is_within x ≡ true → x.first + x.bytes < 2 ^ 64
unfolding is_within
first_ends x t = grind (arith, nat_tests)

pub second_part : (x : Chunk) → is_within x ≡ true → is_second_within x.bytes x.second ≡ true
unfolding is_within
second_part x t = grind (arith, nat_tests)

pub second_ends : (x : Chunk) (start : ℕ) → x.second ≡ Some start → is_within x ≡ true → start + x.bytes < 2 ^ 64
unfolding is_second_within
second_ends x start e t =
    let some : is_second_within x.bytes (Some start) ≡ true = ap (is_second_within x.bytes) (sym e) ∙ second_part x t in
    grind (arith, nat_tests)

-- the second place, where there is one
pub second_is : (x : Chunk) (start address : ℕ) → x.second ≡ Some start → place_from x start address ≡ second_place x address
unfolding second_place second_from
second_is x start address e = sym (ap (second_from x address) e)

pub second_is_none : (x : Chunk) (address : ℕ) → x.second ≡ None → None ≡ second_place x address
unfolding second_place second_from
second_is_none x address e = sym (ap (second_from x address) e)

-- the key of an item is there, and the item begins within the leaf
pub key_there : (leaf : List ℕ) (index : ℕ) → has_leaf_item leaf index ≡ true → 101 + 25 * index + 25 ≤ length leaf
unfolding has_leaf_item
key_there leaf index t = grind (arith, nat_tests)

pub item_there : (leaf : List ℕ) (index : ℕ) → has_leaf_item leaf index ≡ true → 101 + u32_le leaf (101 + 25 * index + 17) ≤ length leaf
unfolding has_leaf_item
item_there leaf index t = grind (arith, nat_tests)
