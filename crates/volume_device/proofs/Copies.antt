-- Sectors of a member, in the regions and where they were read.
use Rattle.std.proofs.Common.{◌≡◌, ℕ, ◌+◌, ◌-◌, ◌*◌, ◌%◌, ◌<◌, ◌≤◌, List, length, get_or, drop, Option, None, Some, IfSome, OnOk, Result, Ok, Err, false, sym, ap, ◌∙◌, arith, slice_index_or, slice_range}
use Rattle.std.specs.Option.{is_none}
use Rattle.std.proofs.lemmas.List.{get_or-take, get_or-drop}
use Rattle.raid_params.specs.declared.types.Geometry.{Geometry}
use Rattle.raid_terms.specs.Address.{LiesAt}
use Rattle.raid_terms.specs.Parity.{member_byte}
use Rattle.raid_terms.specs.Volume.{byte_in, member_sector}
use Rattle.lost_members.specs.Needs.{HoldData}
use Rattle.member_regions.proofs.Alike.{later_byte}
use Rattle.member_regions.proofs.Solved.{held_byte}
use Rattle.volume_device.specs.Sectors.{AreData, run_of, sectors_of}
use Rattle.virtual_volume.proofs.Blocks.{blocks_are, sector_byte, sector_long}
use Rattle.volume_device.proofs.Chunks.{chunk_run}

-- what was copied of the regions
pub run_copied : (images : List (List ℕ)) (geo : Geometry) (stride first count slot sector at n : ℕ) (bytes part : List ℕ) → slot < length geo.slots.items →
    HoldData images geo stride first count bytes → AreData geo slot sector n → sector ≡ first + at → at + n ≤ count → length part ≡ 512 * n →
    part ≡ slice_range bytes (stride * slot + 512 * at) (stride * slot + 512 * at + 512 * n) → part ≡ run_of images geo slot sector n
unfolding run_of
run_copied images geo stride first count slot sector at n bytes part there hold all place few long is =
    blocks_are part (member_sector images geo slot) sector n long (λ t. sector_long images geo slot t)
    (λ j x below inside.
    let on : first + (at + j) ≡ sector + j = omega arith in
    let here = all (sector + j) (omega arith) (omega arith) in
    let lies : stride * slot + 512 * at + (512 * j + x) ≡ stride * slot + (512 * (at + j) + x) = omega arith in
    ap (λ (l : List ℕ). get_or l (512 * j + x) 0) is
    ∙ get_or-take (stride * slot + 512 * at + 512 * n - (stride * slot + 512 * at)) (drop (stride * slot + 512 * at) bytes) (512 * j + x) 0 (omega arith)
    ∙ get_or-drop (stride * slot + 512 * at) bytes (512 * j + x) 0
    ∙ ap (λ (p : ℕ). get_or bytes p 0) lies
    ∙ hold slot (at + j) x there (omega arith) inside (rw on here)
    ∙ ap (λ (t : ℕ). byte_in images geo t slot x (slice_index_or geo.slots.items slot None)) on
    ∙ sym (sector_byte images geo slot (sector + j) x inside))

-- what was read of a member that is there
run_read : (images : List (List ℕ)) (geo : Geometry) (slot sector n : ℕ) (held : Option ℕ) (to : List ℕ) → held ≡ slice_index_or geo.slots.items slot None → is_none held ≡ false → length to ≡ 512 * n →
    ((y : ℕ) → y < length to → is_none held ≡ false → get_or to y 0 ≡ member_byte images geo.head.offset sector y held) → to ≡ run_of images geo slot sector n
unfolding run_of
run_read images geo slot sector n held to same there long bytes =
    blocks_are to (member_sector images geo slot) sector n long (λ t. sector_long images geo slot t)
    (λ j x below inside.
    bytes (512 * j + x) (omega arith) there
    ∙ later_byte images geo.head.offset sector j x held
    ∙ held_byte images geo (sector + j) slot x held there
    ∙ ap (λ (o : Option ℕ). byte_in images geo (sector + j) slot x o) same
    ∙ sym (sector_byte images geo slot (sector + j) x inside))

-- where it is known, and the run holds sectors of one chunk
pub read_told : {T E : Type 0} (told : Option (List (List ℕ))) (geo : Geometry) (slot sector v n : ℕ) (held : Option ℕ) (result : Result T E) (to : List ℕ) → LiesAt geo.head slot sector v →
    v % geo.head.chunk + n ≤ geo.head.chunk → held ≡ slice_index_or geo.slots.items slot None → is_none held ≡ false → length to ≡ 512 * n →
    OnOk result (IfSome told (λ bytes. (y : ℕ) → y < length to → is_none held ≡ false → get_or to y 0 ≡ member_byte bytes geo.head.offset sector y held)) →
    OnOk result (IfSome told (λ bytes. to ≡ sectors_of bytes geo v n))
read_told told geo slot sector v n held (Err e) to lies few same there long bytes = tt
read_told None geo slot sector v n held (Ok r) to lies few same there long bytes = tt
read_told (Some images) geo slot sector v n held (Ok r) to lies few same there long bytes =
    run_read images geo slot sector n held to same there long bytes ∙ chunk_run images geo slot sector v n lies few
