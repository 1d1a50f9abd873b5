-- Rows of far chunks: where their copies lie, and how they stand in a list.
use Rattle.std.proofs.Common.{◌≡◌, ◌≢◌, ℕ, zero, suc, ◌+◌, ◌-◌, ◌*◌, ◌/◌, ◌%◌, ◌<◌, ◌≤◌, List, length, get_or, Option, None, Some, IfSome, OnOk, Result, Ok, Err, IsTrue, inl, inr, sym, subst, ap, ap₂, ◌∙◌, arith}
use Rattle.std.specs.List.{flat_map, range_with_len}
use Rattle.std.specs.Option.{is_some, unwrap_or}
use Rattle.std.proofs.lemmas.Bool.{cases_lt}
use Rattle.std.proofs.lemmas.Nat.{div-add-mod', div-mul-add, mod-mul-add, mul-add-lt, mul-le, div_below, mod_below}
use Rattle.raid_terms.specs.Parity.{member_byte}
use Rattle.near_mirror.specs.Copies.{copy_row, copy_sector, near_area, near_rows, near_sectors, row_of, slot_of}
use Rattle.near_mirror.specs.Heads.{is_valid_near}
use Rattle.near_mirror.specs.Volume.{IsMirror, copy_image, held_copy, home_copy, is_held}
use Rattle.near_mirror.specs.declared.types.Copying.{Copying}
use Rattle.near_mirror.specs.declared.types.Copying.TheVariants.{Near, Far, Offset}
use Rattle.near_mirror.specs.declared.types.NearHead.{NearHead}
use Rattle.near_mirror.specs.declared.types.NearSet.{NearSet}
use Rattle.near_mirror.proofs.Chunks.{valid_chunk}
use Rattle.near_mirror.proofs.Finds.{same_find}
use Rattle.near_mirror.proofs.Heads.{copy_inside, some_members}
use Rattle.near_mirror.proofs.Turns.{whole_below, whole_turns}
use Rattle.virtual_volume.proofs.Ranges.{flat_shift}
use Rattle.near_volume.specs.Columns.{AreRows, HoldsChunk, stripe}
use Rattle.near_volume.specs.Sectors.{copy_bytes, near_sector, sectors_of}
use Rattle.member_regions.proofs.Alike.{later_byte}
use Rattle.virtual_volume.proofs.Blocks.{blocks_are}
use Rattle.near_volume.proofs.Runs.{copy_byte, copy_long}

pub some_stripe : (head : NearHead) → IsTrue (is_valid_near head) → 1 ≤ stripe head
some_stripe head h =
    let two = some_members head h in
    let one = valid_chunk head h in
    let times : 1 * 1 ≤ head.members * head.chunk = mul-le 1 1 head.members head.chunk (omega arith) one in
    omega arith

-- no more rows than fit
pub few_rows : (left stripe rows : ℕ) → rows ≤ left / stripe → rows * stripe ≤ left
few_rows left stripe rows few =
    let whole = whole_below left stripe in
    let fewer : rows * stripe ≤ left / stripe * stripe = mul-le rows stripe (left / stripe) stripe few (omega arith) in
    omega arith

-- rows that are read at once are such rows
pub are_rows : (head : NearHead) (most first rows : ℕ) → IsTrue (is_valid_near head) → head.layout.copying ≡ Far → first % head.chunk ≡ 0 → rows * head.chunk ≤ most → AreRows head most first (rows * stripe head)
are_rows head most first rows h far begins fits =
    let some = some_stripe head h in
    let plain : rows * stripe head + 0 ≡ rows * stripe head = omega arith in
    let many : rows * stripe head / stripe head ≡ rows = sym (ap (λ (x : ℕ). x / stripe head) plain) ∙ div-mul-add rows (stripe head) 0 some in
    record {
      far = far;
      begins = begins;
      whole = ap (λ (x : ℕ). x * stripe head) many;
      fits = (let same : rows * stripe head / stripe head * head.chunk ≡ rows * head.chunk = ap (λ (x : ℕ). x * head.chunk) many in omega arith);
    }

-- far chunks a whole number of rows further on are on the same slot
far_slot : (copying : Copying) (members copies copy chunk row : ℕ) → 0 < members → copying ≡ Far → slot_of copying members copies copy (row * members + chunk) ≡ slot_of copying members copies copy chunk
far_slot Near members copies copy chunk row some e = absurd (cc)
far_slot Offset members copies copy chunk row some e = absurd (cc)
far_slot Far members copies copy chunk row some e =
    let place : row * members + chunk + copy ≡ row * members + (chunk + copy) = omega arith in
    ap (λ (x : ℕ). x % members) place ∙ whole_turns row (chunk + copy) members some

later_row : (members chunk row : ℕ) → 0 < members → (row * members + chunk) / members ≡ chunk / members + row
later_row members chunk row some =
    let split : chunk / members * members + chunk % members ≡ chunk = div-add-mod' chunk members in
    let joined : (chunk / members + row) * members ≡ chunk / members * members + row * members = grind arith in
    let place : row * members + chunk ≡ (chunk / members + row) * members + chunk % members = omega arith in
    ap (λ (x : ℕ). x / members) place ∙ div-mul-add (chunk / members + row) members (chunk % members) (mod_below chunk members some)

-- as many rows further on
far_row : (copying : Copying) (members copies rows copy chunk row : ℕ) → 0 < members → copying ≡ Far →
    row_of copying members copies rows copy (row * members + chunk) ≡ row_of copying members copies rows copy chunk + row
far_row Near members copies rows copy chunk row some e = absurd (cc)
far_row Offset members copies rows copy chunk row some e = absurd (cc)
far_row Far members copies rows copy chunk row some e = omega (arith, later_row members chunk row some)

-- sectors from the beginning of a chunk on
chunk_at : (chunk first q i : ℕ) → first % chunk ≡ 0 → i < chunk → (first + (q * chunk + i)) / chunk ≡ first / chunk + q
chunk_at chunk first q i begins below =
    let split : first / chunk * chunk + first % chunk ≡ first = div-add-mod' first chunk in
    let joined : (first / chunk + q) * chunk ≡ first / chunk * chunk + q * chunk = grind arith in
    let place : first + (q * chunk + i) ≡ (first / chunk + q) * chunk + i = omega arith in
    ap (λ (x : ℕ). x / chunk) place ∙ div-mul-add (first / chunk + q) chunk i below

place_at : (chunk first q i : ℕ) → first % chunk ≡ 0 → i < chunk → (first + (q * chunk + i)) % chunk ≡ i
place_at chunk first q i begins below =
    let split : first / chunk * chunk + first % chunk ≡ first = div-add-mod' first chunk in
    let joined : (first / chunk + q) * chunk ≡ first / chunk * chunk + q * chunk = grind arith in
    let place : first + (q * chunk + i) ≡ (first / chunk + q) * chunk + i = omega arith in
    ap (λ (x : ℕ). x % chunk) place ∙ mod-mul-add (first / chunk + q) chunk i below

-- the chunk that a column begins with
pub column_chunk : (chunk first column : ℕ) → 1 ≤ chunk → first % chunk ≡ 0 → (first + column * chunk) / chunk ≡ first / chunk + column
column_chunk chunk first column some begins =
    let place : first + column * chunk ≡ first + (column * chunk + 0) = omega arith in
    ap (λ (x : ℕ). x / chunk) place ∙ chunk_at chunk first column 0 begins (omega arith)

column_begins : (chunk first column : ℕ) → 1 ≤ chunk → first % chunk ≡ 0 → (first + column * chunk) % chunk ≡ 0
column_begins chunk first column some begins =
    let place : first + column * chunk ≡ first + (column * chunk + 0) = omega arith in
    ap (λ (x : ℕ). x % chunk) place ∙ place_at chunk first column 0 begins (omega arith)

-- the chunk of a sector of a column, as many rows after the first
row_chunk : (chunk members first column row i : ℕ) → 1 ≤ chunk → first % chunk ≡ 0 → i < chunk →
    (first + ((row * members + column) * chunk + i)) / chunk ≡ row * members + (first + column * chunk) / chunk
row_chunk chunk members first column row i some begins below =
    let begin = column_chunk chunk first column some begins in
    let there = chunk_at chunk first (row * members + column) i begins below in
    omega arith

-- where its copies lie
far_image : (set : NearSet) (copy first column row i : ℕ) → 1 ≤ set.head.chunk → 0 < set.head.members → set.head.layout.copying ≡ Far → first % set.head.chunk ≡ 0 → i < set.head.chunk →
    copy_image set copy (first + ((row * set.head.members + column) * set.head.chunk + i)) ≡ copy_image set copy (first + column * set.head.chunk)
far_image set copy first column row i some members far begins below =
    ap (λ (k : ℕ). get_or set.slots.items (slot_of set.head.layout.copying set.head.members set.head.layout.copies copy k) None) (row_chunk set.head.chunk set.head.members first column row i some begins below)
    ∙ ap (λ (k : ℕ). get_or set.slots.items k None) (far_slot set.head.layout.copying set.head.members set.head.layout.copies copy ((first + column * set.head.chunk) / set.head.chunk) row members far)

far_sector : (head : NearHead) (end copy first column row i : ℕ) → 1 ≤ head.chunk → 0 < head.members → head.layout.copying ≡ Far → first % head.chunk ≡ 0 → i < head.chunk →
    copy_sector head end copy (first + ((row * head.members + column) * head.chunk + i)) ≡ copy_sector head end copy (first + column * head.chunk) + (row * head.chunk + i)
far_sector head end copy first column row i some members far begins below =
    let there : copy_row head end copy (first + ((row * head.members + column) * head.chunk + i)) ≡ copy_row head end copy (first + column * head.chunk) + row
    = ap (λ (k : ℕ). row_of head.layout.copying head.members head.layout.copies (near_rows head end) copy k) (row_chunk head.chunk head.members first column row i some begins below)
    ∙ far_row head.layout.copying head.members head.layout.copies (near_rows head end) copy ((first + column * head.chunk) / head.chunk) row members far in
    let times : copy_row head end copy (first + ((row * head.members + column) * head.chunk + i)) * head.chunk ≡ (copy_row head end copy (first + column * head.chunk) + row) * head.chunk = ap (λ (k : ℕ). k * head.chunk) there in
    let parts : (copy_row head end copy (first + column * head.chunk) + row) * head.chunk ≡ copy_row head end copy (first + column * head.chunk) * head.chunk + row * head.chunk = grind arith in
    let last = place_at head.chunk first (row * head.members + column) i begins below in
    let begin = column_begins head.chunk first column some begins in
    omega arith

-- a byte of it, by what is read of its slot
pub far_byte : (images : List (List ℕ)) (set : NearSet) (end copy first column row i x : ℕ) → 1 ≤ set.head.chunk → 0 < set.head.members → set.head.layout.copying ≡ Far → first % set.head.chunk ≡ 0 →
    i < set.head.chunk → x < 512 →
    get_or (copy_bytes images set end (first + ((row * set.head.members + column) * set.head.chunk + i)) copy) x 0
    ≡ member_byte images set.head.offset (copy_sector set.head end copy (first + column * set.head.chunk)) (512 * (row * set.head.chunk + i) + x) (copy_image set copy (first + column * set.head.chunk))
far_byte images set end copy first column row i x some members far begins below small =
    let w : ℕ = first + ((row * set.head.members + column) * set.head.chunk + i) in
    copy_byte images set end w copy x small
    ∙ ap₂ (λ (t : ℕ) (o : Option ℕ). member_byte images set.head.offset t x o) (far_sector set.head end copy first column row i some members far begins below) (far_image set copy first column row i some members far begins below)
    ∙ sym (later_byte images set.head.offset (copy_sector set.head end copy (first + column * set.head.chunk)) (row * set.head.chunk + i) x (copy_image set copy (first + column * set.head.chunk)))

-- a column begins in the volume
pub column_inside : (head : NearHead) (end first column rows : ℕ) → IsTrue (is_valid_near head) → 1 ≤ rows → column < head.members → first + rows * stripe head ≤ near_sectors head end → first + column * head.chunk < near_sectors head end
column_inside head end first column rows h some below inside =
    let one = valid_chunk head h in
    let next : (column + 1) * head.chunk ≡ column * head.chunk + head.chunk = grind arith in
    let last : (column + 1) * head.chunk ≤ stripe head = mul-le (column + 1) head.chunk head.members head.chunk (omega arith) (omega arith) in
    let more : 1 * stripe head ≤ rows * stripe head = mul-le 1 (stripe head) rows (stripe head) some (omega arith) in
    omega arith

-- its rows end before the end
pub column_reach : (set : NearSet) (end copy first column rows : ℕ) → IsMirror set end → copy < set.head.layout.copies → set.head.layout.copying ≡ Far → first % set.head.chunk ≡ 0 → 1 ≤ rows → column < set.head.members →
    first + rows * stripe set.head ≤ near_sectors set.head end →
    set.head.offset + (copy_sector set.head end copy (first + column * set.head.chunk) + rows * set.head.chunk) ≤ end
column_reach set end copy first column (suc before) mirror among far begins some below inside =
    let chunk : ℕ = set.head.chunk in
    let members : ℕ = set.head.members in
    let one = valid_chunk set.head mirror.head in
    let two = some_members set.head mirror.head in
    let cell : before * members + column < members * suc before = mul-add-lt before members column (suc before) (omega arith) below in
    let turned : members * suc before ≡ suc before * members = grind arith in
    let last : (before * members + column + 1) * chunk ≤ suc before * members * chunk = mul-le (before * members + column + 1) chunk (suc before * members) chunk (omega arith) (omega arith) in
    let next : (before * members + column + 1) * chunk ≡ (before * members + column) * chunk + chunk = grind arith in
    let whole : suc before * members * chunk ≡ suc before * stripe set.head = grind arith in
    let short = copy_inside set.head end (first + ((before * members + column) * chunk + (chunk - 1))) copy mirror.head among (omega arith) in
    let there = far_sector set.head end copy first column before (chunk - 1) one (omega arith) far begins (omega arith) in
    let all : suc before * chunk ≡ before * chunk + chunk = grind arith in
    let area : near_area set.head end ≤ end - set.head.offset = whole_below (end - set.head.offset) chunk in
    omega arith
column_reach set end copy first column zero mirror among far begins some below inside = absurd (omega arith)

-- far chunks a whole number of rows further on have the same copies that are there
far_held : (set : NearSet) (chunk row : ℕ) → 0 < set.head.members → set.head.layout.copying ≡ Far → held_copy set (row * set.head.members + chunk) ≡ held_copy set chunk
unfolding held_copy
far_held set chunk row some far =
    same_find (is_held set (row * set.head.members + chunk)) (is_held set chunk) (range_with_len 0 set.head.layout.copies)
    (λ copy. ap (λ (k : ℕ). is_some (get_or set.slots.items k None)) (far_slot set.head.layout.copying set.head.members set.head.layout.copies copy chunk row some far))

-- so a column is read from one copy
pub column_home : (images : List (List ℕ)) (set : NearSet) (end copy first column row : ℕ) (to : List ℕ) → 1 ≤ set.head.chunk → 0 < set.head.members → set.head.layout.copying ≡ Far → first % set.head.chunk ≡ 0 →
    held_copy set (first / set.head.chunk + column) ≡ Some copy →
    HoldsChunk (λ j. copy_bytes images set end (first + j) copy) set.head.chunk to (row * set.head.members + column) →
    HoldsChunk (λ j. near_sector images set end (first + j)) set.head.chunk to (row * set.head.members + column)
column_home images set end copy first column row to some members far begins held holds = λ i x below small.
    let w : ℕ = first + ((row * set.head.members + column) * set.head.chunk + i) in
    let home : home_copy set w ≡ copy =
    ap (λ (k : ℕ). unwrap_or (held_copy set k) 0) (row_chunk set.head.chunk set.head.members first column row i some begins below)
    ∙ ap (λ (o : Option ℕ). unwrap_or o 0) (far_held set ((first + column * set.head.chunk) / set.head.chunk) row members far)
    ∙ ap (λ (k : ℕ). unwrap_or (held_copy set k) 0) (column_chunk set.head.chunk first column some begins)
    ∙ ap (λ (o : Option ℕ). unwrap_or o 0) held in
    holds i x below small ∙ ap (λ (c : ℕ). get_or (copy_bytes images set end w c) x 0) (sym home)

-- a list of which each chunk holds its sectors
pub chunks_are : (f : ℕ → List ℕ) (chunk many n : ℕ) (to : List ℕ) → 1 ≤ chunk → n ≡ many * chunk → length to ≡ 512 * n → ((j : ℕ) → length (f j) ≡ 512) →
    ((q : ℕ) → q < many → HoldsChunk f chunk to q) → to ≡ flat_map f (range_with_len 0 n)
chunks_are f chunk many n to some all long each holds =
    blocks_are to f 0 n long each
    (λ j x below small.
    let split : j / chunk * chunk + j % chunk ≡ j = div-add-mod' j chunk in
    sym (ap (λ (k : ℕ). get_or to (512 * k + x) 0) split)
    ∙ holds (j / chunk) (div_below j chunk many some (omega arith)) (j % chunk) x (mod_below j chunk some) small
    ∙ ap (λ (k : ℕ). get_or (f k) x 0) (omega (arith, split)))

-- rows of which each column does
pub rows_are : (images : List (List ℕ)) (set : NearSet) (end first rows : ℕ) (to : List ℕ) → 1 ≤ set.head.chunk → 0 < set.head.members → length to ≡ 512 * (rows * stripe set.head) →
    ((row column : ℕ) → row < rows → column < set.head.members → HoldsChunk (λ j. near_sector images set end (first + j)) set.head.chunk to (row * set.head.members + column)) →
    to ≡ sectors_of images set end first (rows * stripe set.head)
unfolding sectors_of
rows_are images set end first rows to some members long holds =
    let all : rows * stripe set.head ≡ rows * set.head.members * set.head.chunk = grind arith in
    chunks_are (λ j. near_sector images set end (first + j)) set.head.chunk (rows * set.head.members) (rows * stripe set.head) to some all long
    (λ j. copy_long images set end (first + j) (home_copy set (first + j)))
    (λ q below.
    let split : q / set.head.members * set.head.members + q % set.head.members ≡ q = div-add-mod' q set.head.members in
    let P : ℕ → Type 0 = λ k. HoldsChunk (λ j. near_sector images set end (first + j)) set.head.chunk to k in
    subst P split (holds (q / set.head.members) (q % set.head.members) (div_below q set.head.members rows members below) (mod_below q set.head.members members)))
    ∙ sym (flat_shift (near_sector images set end) first 0 (rows * stripe set.head) first (omega arith))

-- what was read of a slot, where it was put into its column
pub column_told : (told : Option (List (List ℕ))) (set : NearSet) (end copy first column rows : ℕ) (run new : List ℕ) → 1 ≤ set.head.chunk → 0 < set.head.members → set.head.layout.copying ≡ Far → first % set.head.chunk ≡ 0 →
    length run ≡ 512 * (rows * set.head.chunk) →
    ((row x : ℕ) → row < rows → x < 512 * set.head.chunk → get_or new (512 * set.head.chunk * (row * set.head.members + column) + x) 0 ≡ get_or run (512 * set.head.chunk * row + x) 0) →
    IfSome told (λ bytes. (y : ℕ) → y < length run → get_or run y 0 ≡ member_byte bytes set.head.offset (copy_sector set.head end copy (first + column * set.head.chunk)) y (copy_image set copy (first + column * set.head.chunk))) →
    IfSome told (λ bytes. (row : ℕ) → row < rows → HoldsChunk (λ j. copy_bytes bytes set end (first + j) copy) set.head.chunk new (row * set.head.members + column))
column_told None set end copy first column rows run new some members far begins long put read = tt
column_told (Some bytes) set end copy first column rows run new some members far begins long put read = λ row below i x inside small.
    let chunk : ℕ = set.head.chunk in
    let at : 512 * ((row * set.head.members + column) * chunk + i) + x ≡ 512 * chunk * (row * set.head.members + column) + (512 * i + x) = grind arith in
    let from : 512 * chunk * row + (512 * i + x) ≡ 512 * (row * chunk + i) + x = grind arith in
    let next : (row + 1) * chunk ≡ row * chunk + chunk = grind arith in
    let last : (row + 1) * chunk ≤ rows * chunk = mul-le (row + 1) chunk rows chunk (omega arith) (omega arith) in
    let within : 512 * (row * chunk + i) + x < length run = omega arith in
    ap (λ (k : ℕ). get_or new k 0) at ∙ put row (512 * i + x) below (omega arith) ∙ ap (λ (k : ℕ). get_or run k 0) from ∙ read (512 * (row * chunk + i) + x) within
    ∙ sym (far_byte bytes set end copy first column row i x some members far begins inside small)

-- the others hold what they held
pub column_others : (f : ℕ → List ℕ) (chunk q : ℕ) (old new : List ℕ) → ((x : ℕ) → x < 512 * chunk → get_or new (512 * chunk * q + x) 0 ≡ get_or old (512 * chunk * q + x) 0) → HoldsChunk f chunk old q → HoldsChunk f chunk new q
column_others f chunk q old new same holds = λ i x inside small.
    let at : 512 * (q * chunk + i) + x ≡ 512 * chunk * q + (512 * i + x) = grind arith in
    ap (λ (k : ℕ). get_or new k 0) at ∙ same (512 * i + x) (omega arith) ∙ sym (ap (λ (k : ℕ). get_or old k 0) at) ∙ holds i x inside small

-- one more column
pub columns_on : (told : Option (List (List ℕ))) (f : List (List ℕ) → ℕ → List ℕ) (chunk members rows column : ℕ) (old new : List ℕ) → column < members →
    IfSome told (λ bytes. (row one : ℕ) → row < rows → one < column → HoldsChunk (f bytes) chunk old (row * members + one)) →
    IfSome told (λ bytes. (row : ℕ) → row < rows → HoldsChunk (f bytes) chunk new (row * members + column)) →
    ((g : ℕ → List ℕ) (row other : ℕ) → row < rows → other < members → other ≢ column → HoldsChunk g chunk old (row * members + other) → HoldsChunk g chunk new (row * members + other)) →
    IfSome told (λ bytes. (row one : ℕ) → row < rows → one < column + 1 → HoldsChunk (f bytes) chunk new (row * members + one))
columns_on None f chunk members rows column old new among before now others = tt
columns_on (Some bytes) f chunk members rows column old new among before now others = λ row one below lt. elim (cases_lt one column) [
  | inl less ↦ others (f bytes) row one below (omega arith) (λ e. omega (arith, e)) (before row one below less)
  | inr more ↦ (let same : column ≡ one = omega arith in let P : ℕ → Type 0 = λ k. HoldsChunk (f bytes) chunk new (row * members + k) in subst P same (now row below))
]

-- what is known of a column that was read from the copy that is there
pub home_column : {T E : Type 0} (told : Option (List (List ℕ))) (set : NearSet) (end copy first column rows : ℕ) (result : Result T E) (to : List ℕ) → 1 ≤ set.head.chunk → 0 < set.head.members → set.head.layout.copying ≡ Far →
    first % set.head.chunk ≡ 0 → held_copy set (first / set.head.chunk + column) ≡ Some copy →
    OnOk result (IfSome told (λ bytes. (row : ℕ) → row < rows → HoldsChunk (λ j. copy_bytes bytes set end (first + j) copy) set.head.chunk to (row * set.head.members + column))) →
    OnOk result (IfSome told (λ bytes. (row : ℕ) → row < rows → HoldsChunk (λ j. near_sector bytes set end (first + j)) set.head.chunk to (row * set.head.members + column)))
home_column told set end copy first column rows (Err e) to some members far begins held read = tt
home_column None set end copy first column rows (Ok r) to some members far begins held read = tt
home_column (Some bytes) set end copy first column rows (Ok r) to some members far begins held read = λ row below. column_home bytes set end copy first column row to some members far begins held (read row below)
