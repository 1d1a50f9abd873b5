-- What is known of sets whose volume is written.
use Rattle.std.proofs.Common.{◌≡◌, ℕ, ◌+◌, ◌*◌, ◌<◌, ◌≤◌, List, length, All, Option, true, ap, arith, ◌-◌}
use Rattle.std.specs.Prelude.{IsTrue}
use Rattle.std.proofs.lemmas.Nat.{mul-le}
use Rattle.outside.proofs.Reading.{reads_join, reads_up}
use Rattle.outside.specs.Seen.{Image, OnlyReads, Seen}
use Rattle.address_map.proofs.Heads.{some_chunk}
use Rattle.address_map.proofs.Lies.{inside_back, slot_in}
use Rattle.raid_terms.specs.Address.{LiesAt}
use Rattle.raid_params.specs.Size.{area, rows, volume_sectors}
use Rattle.raid_params.proofs.Ruled.{ruled_row, ruled_shape}
use Rattle.raid_params.specs.Validity.{is_shaped, is_valid_head}
use Rattle.raid_params.specs.declared.types.Geometry.{Geometry}
use Rattle.raid_layouts.proofs.Shapes.{shaped_head, shaped_slots}
use Rattle.lost_members.proofs.NeededRows.{as_many_as_volume}
use Rattle.lost_members.proofs.NeededSums.{needed_more}
use Rattle.member_regions.proofs.Sets.{area_below, images_reach, reaches_less}
use Rattle.member_regions.specs.Members.{IsTestable, Reaches}
use Rattle.lost_members.specs.Needs.{needed_sectors}
use Rattle.virtual_volume.specs.Served.{IsServed}

-- its shape is sensible
pub served_shape : (geo : Geometry) (end : ℕ) (attached : List Image) → IsServed geo end attached → is_shaped geo (length attached) ≡ true
served_shape geo end attached s = ruled_shape geo (length attached) end s.ruled

pub served_testable : (geo : Geometry) (end : ℕ) (attached : List Image) → IsServed geo end attached → IsTestable geo
served_testable geo end attached s = record { images = length attached; shaped = served_shape geo end attached s }

pub served_head : (geo : Geometry) (end : ℕ) (attached : List Image) → IsServed geo end attached → IsTrue (is_valid_head geo.head)
served_head geo end attached s = shaped_head geo (length attached) (served_shape geo end attached s)

pub served_slots : (geo : Geometry) (end : ℕ) (attached : List Image) → IsServed geo end attached → length geo.slots.items ≡ geo.head.members
served_slots geo end attached s = shaped_slots geo (length attached) (served_shape geo end attached s)

-- it has a whole row, and its rows end before the end
pub served_rows : (geo : Geometry) (end : ℕ) (attached : List Image) → IsServed geo end attached → 1 ≤ rows geo.head end
served_rows geo end attached s = ruled_row geo (length attached) end s.ruled

pub served_end : (geo : Geometry) (end : ℕ) (attached : List Image) → IsServed geo end attached → 1 ≤ geo.head.chunk → geo.head.offset + rows geo.head end * geo.head.chunk ≤ end
served_end geo end attached s some =
    let below = area_below geo.head end in
    let one = served_rows geo end attached s in
    let wide : 1 * 1 ≤ rows geo.head end * geo.head.chunk = mul-le 1 1 (rows geo.head end) geo.head.chunk one some in
    omega arith

pub served_held : (geo : Geometry) (end m : ℕ) (attached : List Image) → IsServed geo end attached → m ≤ end → All (Reaches attached m) geo.slots.items
served_held geo end m attached s le =
    images_reach geo end m attached (served_shape geo end attached s) s.long le

-- a batch of rows lies in the rows
pub batch_inside : (first count rows chunk : ℕ) → first + count ≤ rows → first * chunk + count * chunk ≤ rows * chunk
batch_inside first count rows chunk h =
    let most : (first + count) * chunk ≤ rows * chunk = mul-le (first + count) chunk rows chunk h (omega arith) in
    let parts : (first + count) * chunk ≡ first * chunk + count * chunk = grind arith in
    omega arith

-- its members reach to its end
pub batch_held : (attached now : List Image) (offset first count rows chunk : ℕ) (slots : List (Option ℕ)) → now ≡ attached → first + count ≤ rows →
    All (Reaches attached (offset + rows * chunk)) slots → All (Reaches now (offset + (first * chunk + count * chunk))) slots
batch_held attached now offset first count rows chunk slots same few all =
    let inside = batch_inside first count rows chunk few in
    rw same (reaches_less attached (offset + rows * chunk) (offset + (first * chunk + count * chunk)) slots all (omega arith))

-- the readings so far and of one more batch
pub needed_on : (old mid new : Seen) (geo : Geometry) (first count rows chunk : ℕ) → OnlyReads old mid (needed_sectors geo 0 (first * chunk)) →
    OnlyReads mid new (needed_sectors geo (first * chunk) (count * chunk)) → first + count ≤ rows → OnlyReads old new (needed_sectors geo 0 (rows * chunk))
needed_on old mid new geo first count rows chunk before batch few =
    let inside = batch_inside first count rows chunk few in
    let at : needed_sectors geo (0 + first * chunk) (count * chunk) ≡ needed_sectors geo (first * chunk) (count * chunk) =
    let none : 0 + first * chunk ≡ first * chunk = omega arith in ap (λ (t : ℕ). needed_sectors geo t (count * chunk)) none in
    let all : needed_sectors geo 0 (first * chunk + count * chunk + (rows * chunk - (first * chunk + count * chunk))) ≡ needed_sectors geo 0 (rows * chunk) =
    let whole : first * chunk + count * chunk + (rows * chunk - (first * chunk + count * chunk)) ≡ rows * chunk = omega arith in ap (λ (t : ℕ). needed_sectors geo 0 t) whole in
    reads_up old new (reads_join old mid new before batch)
    (omega (arith, at, all, needed_more geo 0 (first * chunk) (count * chunk), needed_more geo 0 (first * chunk + count * chunk) (rows * chunk - (first * chunk + count * chunk))))

-- those of all rows are as many sectors as the volume has
pub needed_volume : (old new : Seen) (geo : Geometry) (end n : ℕ) (attached : List Image) → IsServed geo end attached → n ≡ rows geo.head end →
    OnlyReads old new (needed_sectors geo 0 (n * geo.head.chunk)) → OnlyReads old new (volume_sectors geo.head end)
needed_volume old new geo end n attached s all reads =
    let same : needed_sectors geo 0 (n * geo.head.chunk) ≡ needed_sectors geo 0 (area geo.head end) = ap (λ (t : ℕ). needed_sectors geo 0 (t * geo.head.chunk)) all in
    reads_up old new reads (omega (arith, same, as_many_as_volume geo (length attached) end (served_shape geo end attached s)))

-- at least a sector
pub some_sectors : (rows chunk : ℕ) → 1 ≤ rows → 0 < chunk → 1 ≤ rows * chunk
some_sectors rows chunk h k = let most : 1 * 1 ≤ rows * chunk = mul-le 1 1 rows chunk h k in omega arith

pub few_rows : (first rows chunk : ℕ) → 0 < chunk → first + rows ≤ first * chunk + rows * chunk
few_rows first rows chunk h =
    let a : first * 1 ≤ first * chunk = mul-le first 1 first chunk (omega arith) h in
    let b : rows * 1 ≤ rows * chunk = mul-le rows 1 rows chunk (omega arith) h in
    omega arith

-- a sector of the volume lies within the members
pub home_near : (geo : Geometry) (end v : ℕ) (attached : List Image) (slot sector : ℕ) → IsServed geo end attached → LiesAt geo.head slot sector v → v < volume_sectors geo.head end → geo.head.offset + (sector + 1) ≤ end
home_near geo end v attached slot sector s lies below =
    let within = inside_back geo.head end slot sector v (served_head geo end attached s) lies below in
    let near = served_end geo end attached s (some_chunk geo.head (served_head geo end attached s)) in
    omega arith

pub home_slot_in : (geo : Geometry) (end v : ℕ) (attached : List Image) (slot sector : ℕ) → IsServed geo end attached → LiesAt geo.head slot sector v → slot < length geo.slots.items
home_slot_in geo end v attached slot sector s lies =
    let within = slot_in geo.head slot sector v (served_head geo end attached s) lies in
    let slots = served_slots geo end attached s in
    omega arith
