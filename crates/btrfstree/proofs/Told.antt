-- Where leaves tell that addresses lie: below 2^64, as sectors below 2^55.
use Rattle.std.proofs.Common.{◌≡◌, ℕ, ◌+◌, ◌-◌, ◌/◌, ◌<◌, ◌^◌, List, Bool, refl, true, false, IsTrue, cond, Option, Some, None, IfSome, arith}
use Rattle.std.specs.Prelude.{◌&&◌, nat_le, nat_lt}
use Rattle.std.proofs.lemmas.Bool.Decides.{nat_tests}
use Rattle.btrfstree.specs.Chunks.{chunk_item, chunk_of, first_place, has_leaf_item, is_chunk, is_second_within, is_within, leaf_chunk, place_from, second_from, second_place}
use Rattle.btrfstree.specs.declared.chunks.Chunk.{Chunk}
use Rattle.btrfstree.proofs.Within.{chunk_within, first_ends, second_part}

abbrev IsWithin : Chunk → Type 0
IsWithin chunk = IsTrue (is_within chunk)

abbrev IsNear : ℕ → Type 0
IsNear place = place / 512 < 2 ^ 55

chosen : {A : Type 0} (P : A → Type 0) (b : Bool) (x : A) → (b ≡ true → P x) → IfSome (cond b (Some x) None) P
chosen P true x is = is refl
chosen P false x is = tt

chosen_of : {A : Type 0} (P : A → Type 0) (b : Bool) (x : Option A) → IfSome x P → IfSome (cond b x None) P
chosen_of P true x is = is
chosen_of P false x is = tt

item_within : (device logical : ℕ) (item : List ℕ) → IfSome (chunk_item device logical item) IsWithin
unfolding chunk_item
item_within device logical item = chosen IsWithin (is_chunk device logical item) (chunk_of logical item) (chunk_within device logical item)

-- the chunk of an item of a leaf is within
pub leaf_within : (device : ℕ) (leaf : List ℕ) (index : ℕ) → IfSome (leaf_chunk device leaf index) (λ chunk. IsTrue (is_within chunk))
unfolding leaf_chunk
leaf_within device leaf index = chosen_of IsWithin (has_leaf_item leaf index) (chunk_item device _ _) (item_within device _ _)

-- and so are the places of its addresses
place_near : (x : Chunk) (start address : ℕ) → start + x.bytes < 2 ^ 64 → IfSome (place_from x start address) IsNear
unfolding place_from
place_near x start address ends =
    chosen IsNear (nat_le x.logical address && nat_lt (address - x.logical) x.bytes) (start + (address - x.logical)) (λ has.
    let past : address - x.logical < x.bytes = grind (arith, nat_tests) in
    omega arith)

pub first_near : (x : Chunk) (address : ℕ) → IsTrue (is_within x) → IfSome (first_place x address) (λ place. place / 512 < 2 ^ 55)
unfolding first_place
first_near x address is = place_near x x.first address (first_ends x is)

second_near_from : (x : Chunk) (address : ℕ) (second : Option ℕ) → is_second_within x.bytes second ≡ true → IfSome (second_from x address second) IsNear
unfolding second_from is_second_within
second_near_from x address None is = tt
second_near_from x address (Some start) is = place_near x start address (grind (arith, nat_tests))

pub second_near : (x : Chunk) (address : ℕ) → IsTrue (is_within x) → IfSome (second_place x address) (λ place. place / 512 < 2 ^ 55)
unfolding second_place
second_near x address is = second_near_from x address x.second (second_part x is)
