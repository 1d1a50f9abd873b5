-- Where the addresses of a btrfs lie on one device (btrfs On-disk Format, CHUNK_ITEM). Numbers are little-endian. `item` are
-- bytes that begin with a chunk item: no more of them than the item has are looked at.
use Rattle.std.specs.Prelude.{ℕ, ◌+◌, ◌-◌, ◌*◌, ◌/◌, ◌^◌, List, Bool, true, ◌&&◌, ◌||◌, ◌==◌, nat_le, nat_lt, length, Option, Some, None, if◌then◌else◌, slice_index, drop}
use Rattle.sector_fields.specs.Fields.{u16_le, u32_le, u64_le}
use Rattle.btrfstree.specs.declared.chunks.Chunk.{Chunk}

-- the device has the stripe that stands at a byte of the item, and that many bytes from its beginning on end below 2^64
unfoldable pub has_stripe : ℕ → List ℕ → ℕ → Bool
has_stripe device item at =
    (u64_le item at == device)  -- devid: u64 at 0 of the stripe
    && nat_lt (u64_le item (at + 8) + u64_le item 0) (2 ^ 64)  -- offset: u64 at 8 of the stripe; length: u64 at 0 of the item

-- data that lie once: no bit of type above its lowest three, which say what of, and one stripe
unfoldable pub is_single : ℕ → List ℕ → Bool
is_single device item =
    (u64_le item 24 / 8 == 0)  -- type: u64 at 24
    && (u16_le item 44 == 1)  -- num_stripes: u16 at 44
    && has_stripe device item 48

-- data that lie twice on one device: of those bits only that of BLOCK_GROUP_DUP, and two stripes
unfoldable pub is_dup : ℕ → List ℕ → Bool
is_dup device item =
    (u64_le item 24 / 8 == 4) && (u16_le item 44 == 2)
    && nat_le 112 (length item) && has_stripe device item 48 && has_stripe device item 80

-- the item is that of a chunk that lies on the device alone, from a logical address on, and ends below 2^64
unfoldable pub is_chunk : ℕ → ℕ → List ℕ → Bool
is_chunk device logical item =
    nat_le 80 (length item) && nat_lt (logical + u64_le item 0) (2 ^ 64) && (is_single device item || is_dup device item)

-- its fields
unfoldable pub chunk_of : ℕ → List ℕ → Chunk
chunk_of logical item = record {
  logical = logical;
  bytes = u64_le item 0;
  first = u64_le item 56;
  second = if u16_le item 44 == 2 then Some (u64_le item 88) else None;
}

-- the chunk, if the item is that of one
unfoldable pub chunk_item : ℕ → ℕ → List ℕ → Option Chunk
chunk_item device logical item = if is_chunk device logical item then Some (chunk_of logical item) else None

-- the byte of the device at which an address lies, where the chunk lies from byte `start` on: as far from there as the address is
-- from the chunk's first, if it is one of the chunk's
unfoldable pub place_from : Chunk → ℕ → ℕ → Option ℕ
place_from chunk start address =
    if nat_le chunk.logical address && nat_lt (address - chunk.logical) chunk.bytes
    then Some (start + (address - chunk.logical))
    else None

-- where it lies first
unfoldable pub first_place : Chunk → ℕ → Option ℕ
first_place chunk address = place_from chunk chunk.first address

-- where it lies the second time, if the chunk lies twice
unfoldable pub second_from : Chunk → ℕ → Option ℕ → Option ℕ
second_from chunk address None = None
second_from chunk address (Some start) = place_from chunk start address

unfoldable pub second_place : Chunk → ℕ → Option ℕ
second_place chunk address = second_from chunk address chunk.second

-- the places of a chunk, and its addresses, are below 2^64
unfoldable pub is_second_within : ℕ → Option ℕ → Bool
is_second_within bytes None = true
is_second_within bytes (Some start) = nat_lt (start + bytes) (2 ^ 64)

unfoldable pub is_within : Chunk → Bool
is_within chunk =
    nat_lt (chunk.logical + chunk.bytes) (2 ^ 64) && nat_lt (chunk.first + chunk.bytes) (2 ^ 64)
    && is_second_within chunk.bytes chunk.second

-- the byte at which the key of the item with a number of a leaf stands: after the header of 101 bytes and the keys before, each of 25
-- with the place of its item
abbrev pub key_place : ℕ → ℕ
key_place index = 101 + 25 * index

-- a leaf has the item with a number within its bytes, and it is a chunk item. Past its last item what stood there earlier may stand.
unfoldable pub has_leaf_item : List ℕ → ℕ → Bool
has_leaf_item leaf index =
    nat_le (key_place index + 25) (length leaf)
    && (slice_index leaf 100 == 0)  -- level: u8 at 100
    && nat_lt index (u32_le leaf 96)  -- nritems: u32 at 96
    && (slice_index leaf (key_place index + 8) == 228)  -- type: u8 at 8 of the key
    && nat_le (101 + u32_le leaf (key_place index + 17)) (length leaf)  -- offset: u32 at 17, after the key, from the header's end on

-- the chunk of that item
unfoldable pub leaf_chunk : ℕ → List ℕ → ℕ → Option Chunk
leaf_chunk device leaf index =
    if has_leaf_item leaf index
    then chunk_item device (u64_le leaf (key_place index + 9)) (drop (101 + u32_le leaf (key_place index + 17)) leaf)
    else None
