-- What a valid head says of its numbers, and which sectors of the members are copies.
use Rattle.std.proofs.Common.{◌≡◌, ℕ, ◌+◌, ◌-◌, ◌*◌, ◌%◌, ◌/◌, ◌^◌, ◌<◌, ◌≤◌, IsTrue, arith, min}
use Rattle.std.proofs.lemmas.Bool.Decides.{nat_tests}
use Rattle.std.proofs.lemmas.Nat.{mul-le, mul-add-lt, div_below, mod_below}
use Rattle.near_mirror.specs.Copies.{chunks_of, near_area, near_chunks, near_rows, near_sectors, copy_cell, copy_row, copy_sector, copy_slot, row_of, slot_of}
use Rattle.near_mirror.specs.Heads.{is_valid_near}
use Rattle.near_mirror.specs.declared.types.Copying.{Copying}
use Rattle.near_mirror.specs.declared.types.Copying.TheVariants.{Near, Far, Offset}
use Rattle.near_mirror.specs.declared.types.NearHead.{NearHead}
use Rattle.near_mirror.proofs.Chunks.{valid_chunk}
use Rattle.near_mirror.proofs.Turns.{div_short, whole_below}

pub some_members : (head : NearHead) → IsTrue (is_valid_near head) → 2 ≤ head.members
some_members head h = grind (arith, nat_tests)

pub few_members : (head : NearHead) → IsTrue (is_valid_near head) → head.members ≤ 24
few_members head h = grind (arith, nat_tests)

pub some_copies : (head : NearHead) → IsTrue (is_valid_near head) → 2 ≤ head.layout.copies
some_copies head h = grind (arith, nat_tests)

pub few_copies : (head : NearHead) → IsTrue (is_valid_near head) → head.layout.copies ≤ 4
few_copies head h = grind (arith, nat_tests)

pub enough_members : (head : NearHead) → IsTrue (is_valid_near head) → head.layout.copies ≤ head.members
enough_members head h = grind (arith, nat_tests)

pub area_short : (head : NearHead) (end : ℕ) → near_area head end ≤ end
area_short head end = let whole = whole_below (end - head.offset) head.chunk in omega arith

-- there are no more rows than sectors
pub rows_short : (head : NearHead) (end : ℕ) → IsTrue (is_valid_near head) → near_rows head end ≤ end
rows_short head end h =
    let more : near_rows head end * 1 ≤ near_rows head end * head.chunk = mul-le (near_rows head end) 1 (near_rows head end) head.chunk (omega arith) (valid_chunk head h) in
    let short = area_short head end in
    omega arith

pub rows_near : (head : NearHead) (end : ℕ) → IsTrue (is_valid_near head) → end < 2 ^ 55 → near_rows head end < 2 ^ 55
rows_near head end h near = let short = rows_short head end h in omega arith

-- the cells of short members are numbered in 64 bits
pub few_cells : (head : NearHead) (end : ℕ) → IsTrue (is_valid_near head) → end < 2 ^ 55 → near_rows head end * head.members < 2 ^ 60
few_cells head end h near =
    let rows = rows_short head end h in
    let proper : near_rows head end * head.members ≤ (2 ^ 55 - 1) * 24 = mul-le (near_rows head end) head.members (2 ^ 55 - 1) 24 (omega arith) (few_members head h) in
    omega arith

-- so are those of the first rows
pub first_cells : (head : NearHead) (rows : ℕ) → IsTrue (is_valid_near head) → min rows head.layout.copies * head.members < 2 ^ 60
first_cells head rows h =
    let few = few_copies head h in
    let most : min rows head.layout.copies * head.members ≤ 4 * 24 = mul-le (min rows head.layout.copies) head.members 4 24 (omega arith) (few_members head h) in
    omega arith

-- there are no more chunks than cells
pub chunks_short : (copying : Copying) (members copies rows : ℕ) → chunks_of copying members copies rows ≤ rows * members
chunks_short Near members copies rows = div_short (rows * members) copies
chunks_short Far members copies rows = mul-le (rows / copies) members rows members (div_short rows copies) (omega arith)
chunks_short Offset members copies rows = mul-le (rows / copies) members rows members (div_short rows copies) (omega arith)

-- the sectors of the volume are numbered in 64 bits
pub volume_fits : (head : NearHead) (end : ℕ) → IsTrue (is_valid_near head) → end < 2 ^ 55 → near_sectors head end < 2 ^ 60
volume_fits head end h near =
    let fewer : near_chunks head end ≤ near_rows head end * head.members = chunks_short head.layout.copying head.members head.layout.copies (near_rows head end) in
    let times : near_chunks head end * head.chunk ≤ near_rows head end * head.members * head.chunk = mul-le (near_chunks head end) head.chunk (near_rows head end * head.members) head.chunk fewer (omega arith) in
    let turned : near_rows head end * head.members * head.chunk ≡ near_area head end * head.members = grind arith in
    let short = area_short head end in
    let most : near_area head end * head.members ≤ (2 ^ 55 - 1) * 24 = mul-le (near_area head end) head.members (2 ^ 55 - 1) 24 (omega arith) (few_members head h) in
    omega arith

-- the chunk of a volume sector
pub chunk_within : (head : NearHead) (end v : ℕ) → IsTrue (is_valid_near head) → v < near_sectors head end → v / head.chunk < near_chunks head end
chunk_within head end v h within = div_below v head.chunk (near_chunks head end) (valid_chunk head h) within

pub chunk_near : (head : NearHead) (v : ℕ) → v < 2 ^ 60 → v / head.chunk < 2 ^ 60
chunk_near head v near = let short = div_short v head.chunk in omega arith

-- a row of a part of the members lies in the part
part_row : (chunk members part : ℕ) → 0 < members → chunk < part * members → chunk / members < part
part_row chunk members part some within = div_below chunk members part some within

-- the row of a copy is one of the rows
row_inside : (copying : Copying) (members copies rows copy chunk : ℕ) → 0 < members → copy < copies → chunk < chunks_of copying members copies rows →
    row_of copying members copies rows copy chunk < rows
row_inside Near members copies rows copy chunk some among within =
    let whole = whole_below (rows * members) copies in
    let next : (chunk + 1) * copies ≤ (rows * members) / copies * copies = mul-le (chunk + 1) copies ((rows * members) / copies) copies (omega arith) (omega arith) in
    let step : (chunk + 1) * copies ≡ copies * chunk + copies = grind arith in
    div_below (copy_cell copies chunk copy) members rows some (omega arith)
row_inside Far members copies rows copy chunk some among within =
    let whole = whole_below rows copies in
    let row = part_row chunk members (rows / copies) some within in
    let parts : (copy + 1) * (rows / copies) ≤ copies * (rows / copies) = mul-le (copy + 1) (rows / copies) copies (rows / copies) (omega arith) (omega arith) in
    let step : (copy + 1) * (rows / copies) ≡ copy * (rows / copies) + rows / copies = grind arith in
    let turned : copies * (rows / copies) ≡ rows / copies * copies = grind arith in
    omega arith
row_inside Offset members copies rows copy chunk some among within =
    let whole = whole_below rows copies in
    let row = part_row chunk members (rows / copies) some within in
    let next : (chunk / members + 1) * copies ≤ rows / copies * copies = mul-le (chunk / members + 1) copies (rows / copies) copies (omega arith) (omega arith) in
    let step : (chunk / members + 1) * copies ≡ copies * (chunk / members) + copies = grind arith in
    omega arith

-- a copy of a volume sector lies in the whole rows
pub copy_inside : (head : NearHead) (end v copy : ℕ) → IsTrue (is_valid_near head) → copy < head.layout.copies → v < near_sectors head end → copy_sector head end copy v < near_area head end
copy_inside head end v copy h among within =
    let some = some_members head h in
    let row : copy_row head end copy v < near_rows head end =
    row_inside head.layout.copying head.members head.layout.copies (near_rows head end) copy (v / head.chunk) (omega arith) among (chunk_within head end v h within) in
    let below = mul-add-lt (copy_row head end copy v) head.chunk (v % head.chunk) (near_rows head end) row (mod_below v head.chunk (valid_chunk head h)) in
    let turned : head.chunk * near_rows head end ≡ near_area head end = grind arith in
    omega arith

-- on one of the slots
slot_among : (copying : Copying) (members copies copy chunk : ℕ) → 0 < members → slot_of copying members copies copy chunk < members
slot_among Near members copies copy chunk some = mod_below (copy_cell copies chunk copy) members some
slot_among Far members copies copy chunk some = mod_below (chunk + copy) members some
slot_among Offset members copies copy chunk some = mod_below (chunk + copy) members some

pub copy_among : (head : NearHead) (v copy : ℕ) → IsTrue (is_valid_near head) → copy_slot head copy v < head.members
copy_among head v copy h = let some = some_members head h in slot_among head.layout.copying head.members head.layout.copies copy (v / head.chunk) (omega arith)

-- the member sector of a copy is numbered in 64 bits
pub copy_short : (head : NearHead) (end v copy : ℕ) → IsTrue (is_valid_near head) → copy < head.layout.copies → v < near_sectors head end → copy_sector head end copy v < end
copy_short head end v copy h among within = let inside = copy_inside head end v copy h among within in let short = area_short head end in omega arith
