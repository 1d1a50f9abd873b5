-- Sectors of one chunk, on the volume and on the member that holds them.
use Rattle.std.proofs.Common.{◌≡◌, ℕ, ◌+◌, ◌-◌, ◌*◌, ◌/◌, ◌%◌, ◌^◌, ◌<◌, ◌≤◌, List, true, sym, ap, ◌∙◌, arith}
use Rattle.std.proofs.lemmas.Nat.{mul-le}
use Rattle.outside.specs.Seen.{Image}
use Rattle.address_map.proofs.Heads.{few_data, some_chunk, some_data, volume_fits}
use Rattle.address_map.proofs.Sectors.{row_below}
use Rattle.member_regions.proofs.Sets.{area_below, testable_head}
use Rattle.member_regions.specs.Members.{IsTestable}
use Rattle.raid_params.specs.Size.{area, data_blocks, rows, volume_sectors}
use Rattle.raid_params.specs.declared.types.Geometry.{Geometry}
use Rattle.raid_params.specs.declared.types.Head.{Head}
use Rattle.raid_terms.specs.Address.{home_item, home_row, home_sector, home_slot, LiesAt}
use Rattle.raid_terms.specs.Role.{item_of}
use Rattle.raid_terms.specs.Volume.{member_sector, volume_sector}
use Rattle.virtual_volume.proofs.Blocks.{chunk_data}
use Rattle.virtual_volume.proofs.InChunk.{later_place, same_chunk}
use Rattle.virtual_volume.proofs.Puts.{item_data}
use Rattle.virtual_volume.proofs.Ranges.{flat_same, flat_shift}
use Rattle.virtual_volume.proofs.Sets.{served_end, served_head}
use Rattle.virtual_volume.specs.Served.{IsServed}
use Rattle.volume_device.specs.Kept.{LieAmong, is_among}
use Rattle.volume_device.proofs.Rows.{among_test}
use Rattle.volume_device.specs.Sectors.{AreData, run_of, sectors_of}

-- a sector further on in the chunk lies on the same slot, and as much further on there
pub same_slot : (head : Head) (v j : ℕ) → v % head.chunk + j < head.chunk → home_slot head (v + j) ≡ home_slot head v
same_slot head v j h = ap (λ (k : ℕ). item_of head (k / data_blocks head) (k % data_blocks head)) (same_chunk head.chunk v j h)

pub later_sector : (head : Head) (v j : ℕ) → v % head.chunk + j < head.chunk → home_sector head (v + j) ≡ home_sector head v + j
later_sector head v j h =
    let row : (v + j) / head.chunk / data_blocks head * head.chunk ≡ v / head.chunk / data_blocks head * head.chunk
    = ap (λ (k : ℕ). k / data_blocks head * head.chunk) (same_chunk head.chunk v j h) in
    omega (arith, row, later_place head.chunk v j h)

-- sectors of one chunk are sectors of the member that holds them
home_run : (images : List (List ℕ)) (geo : Geometry) (v n : ℕ) → v % geo.head.chunk + n ≤ geo.head.chunk →
    run_of images geo (home_slot geo.head v) (home_sector geo.head v) n ≡ sectors_of images geo v n
unfolding run_of sectors_of
home_run images geo v n few =
    flat_shift (member_sector images geo (home_slot geo.head v)) (home_sector geo.head v) 0 n (home_sector geo.head v) (omega arith)
    ∙ flat_same (λ u. member_sector images geo (home_slot geo.head v) (home_sector geo.head v + u)) (λ u. volume_sector images geo (v + u)) 0 n
    (λ u low high.
    ap (λ (slot : ℕ). member_sector images geo slot (home_sector geo.head v + u)) (sym (same_slot geo.head v u (omega arith)))
    ∙ ap (λ (t : ℕ). member_sector images geo (home_slot geo.head (v + u)) t) (sym (later_sector geo.head v u (omega arith))))
    ∙ sym (flat_shift (volume_sector images geo) v 0 n v (omega arith))

pub chunk_run : (images : List (List ℕ)) (geo : Geometry) (slot sector v n : ℕ) → LiesAt geo.head slot sector v → v % geo.head.chunk + n ≤ geo.head.chunk → run_of images geo slot sector n ≡ sectors_of images geo v n
chunk_run images geo slot sector v n lies few =
    ap (λ (s : ℕ). run_of images geo s sector n) lies.item.1 ∙ ap (λ (t : ℕ). run_of images geo (home_slot geo.head v) t n) lies.place ∙ home_run images geo v n few

-- they are data
pub run_data : (geo : Geometry) (slot sector v n : ℕ) → IsTestable geo → LiesAt geo.head slot sector v → v % geo.head.chunk + n ≤ geo.head.chunk → AreData geo slot sector n
run_data geo slot sector v n set lies few = λ t low high.
    let place = lies.place in
    chunk_data geo (home_row geo.head v) slot t (v % geo.head.chunk + (t - sector))
    (item_data geo.head (home_row geo.head v) (home_item geo.head v) slot (testable_head geo set) lies.item.0 lies.item.1) (omega arith) (omega arith)

-- and lie within the members
pub run_near : (geo : Geometry) (end v n : ℕ) (attached : List Image) (slot sector : ℕ) → IsServed geo end attached → LiesAt geo.head slot sector v → v < volume_sectors geo.head end →
    v % geo.head.chunk + n ≤ geo.head.chunk → geo.head.offset + (sector + n) ≤ end
run_near geo end v n attached slot sector s lies below few =
    let valid = served_head geo end attached s in
    let chunk = some_chunk geo.head valid in
    let near = served_end geo end attached s chunk in
    let row = row_below v geo.head.chunk (data_blocks geo.head) (rows geo.head end) chunk (some_data geo.head valid) below in
    let place = lies.place in
    let most : (home_row geo.head v + 1) * geo.head.chunk ≤ rows geo.head end * geo.head.chunk
    = mul-le (home_row geo.head v + 1) geo.head.chunk (rows geo.head end) geo.head.chunk (omega arith) (omega arith) in
    let next : (home_row geo.head v + 1) * geo.head.chunk ≡ home_row geo.head v * geo.head.chunk + geo.head.chunk = grind arith in
    omega arith

-- where sectors of the volume in one chunk lie among some member sectors, all of the run do
pub run_among : (head : Head) (first count v n sector : ℕ) → 1 ≤ n → v % head.chunk + n ≤ head.chunk → sector ≡ home_sector head v → LieAmong head first count v n →
    is_among first count sector n ≡ true
run_among head first count v n sector some few is among =
    let low = (among v (omega arith) (omega arith)).0 in
    let high = (among (v + (n - 1)) (omega arith) (omega arith)).1 in
    let last = later_sector head v (n - 1) (omega arith) in
    among_test first count sector n (omega arith) (omega arith)

-- sectors among some are so in part
pub among_part : (head : Head) (f c low count first n at k : ℕ) → f ≡ low → c ≡ count → first ≤ at → at + k ≤ first + n → LieAmong head low count first n → LieAmong head f c at k
among_part head f c low count first n at k e g from to among = λ v above below.
    let is = among v (omega arith) (omega arith) in
    (omega (arith, is.0), omega (arith, is.1))

-- a volume is numbered in 64 bits
pub volume_short : (geo : Geometry) (end : ℕ) (attached : List Image) → IsServed geo end attached → volume_sectors geo.head end < 2 ^ 64
volume_short geo end attached s =
    let below = area_below geo.head end in
    volume_fits (area geo.head end) (data_blocks geo.head) (omega (arith, s.near)) (few_data geo.head (served_head geo end attached s))
