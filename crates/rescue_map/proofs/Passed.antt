-- Rows that are passed over, since all is good in them.
use Rattle.std.proofs.Common.{ℕ, ◌≡◌, ◌+◌, ◌*◌, ◌-◌, ◌^◌, ◌<◌, ◌≤◌, inl, inr, Bool, true, false, ◌&&◌, IsTrue, nat_lt, List, map, refl, sym, ap, ◌∙◌, arith}
use Rattle.std.proofs.lemmas.Bool.{cases_lt}
use Rattle.std.proofs.lemmas.Bool.Decides.{nat_tests}
use Rattle.std.proofs.lemmas.Nat.{mul-le}
use Rattle.address_map.proofs.Heads.{few_data, some_chunk, some_data, volume_fits, whole_below}
use Rattle.address_map.proofs.Sectors.{sector_below, volume_below}
use Rattle.raid_params.specs.Size.{area, data_blocks, redundancy, rows, volume_sectors}
use Rattle.member_regions.specs.Members.{IsTestable}
use Rattle.raid_layouts.proofs.Shapes.{shaped_head, shaped_missing, shaped_slots}
use Rattle.raid_params.specs.Slots.{empties}
use Rattle.raid_params.specs.Validity.{is_valid_head}
use Rattle.raid_params.specs.declared.types.Head.{Head}
use Rattle.raid_params.specs.declared.wide.Wide.{Wide}
use Rattle.raid_terms.specs.Address.{home_sector}
use Rattle.rescue_map.specs.Damaged.{damaged, is_lost, is_unknown, known_slot, AreAllGood, IsDamaged}
use Rattle.rescue_text.specs.declared.section.Section.{Section}

and_second : (a b : Bool) → b ≡ false → (a && b) ≡ false
and_second true b is = is
and_second false b is = refl

not_less : (a b : ℕ) → b ≤ a → nat_lt a b ≡ false
not_less a b le = grind (arith, nat_tests)

-- a sector of a row in which all is good is not lost
pub good_row : (sections : List Section) (set : Wide) (v : ℕ) → AreAllGood sections set (home_sector set.geo.head v) → empties set.geo.slots.items ≤ redundancy set.geo.head.level → is_lost sections set v ≡ false
unfolding is_lost damaged
good_row sections set v all few =
    let same : empties (map (known_slot sections set (home_sector set.geo.head v)) set.geo.slots.items) ≡ empties set.geo.slots.items = ap empties all in
    and_second (is_unknown sections set v) (nat_lt (redundancy set.geo.head.level) (empties (map (known_slot sections set (home_sector set.geo.head v)) set.geo.slots.items)))
    (ap (nat_lt (redundancy set.geo.head.level)) same ∙ not_less (redundancy set.geo.head.level) (empties set.geo.slots.items) few)

-- the sectors of the volume in rows of chunks lie on the members in these rows
home_within : (head : Head) (first count w : ℕ) → IsTrue (is_valid_head head) → first * (head.chunk * data_blocks head) ≤ w → w < (first + count) * (head.chunk * data_blocks head) →
    (first * head.chunk ≤ home_sector head w) × (home_sector head w < first * head.chunk + count * head.chunk)
home_within head first count w valid low high =
    let some = some_chunk head valid in
    let items = some_data head valid in
    let up = sector_below w head.chunk (data_blocks head) (first + count) some items (let e : (first + count) * head.chunk * data_blocks head ≡ (first + count) * (head.chunk * data_blocks head) = grind arith in omega arith) in
    let parts : (first + count) * head.chunk ≡ first * head.chunk + count * head.chunk = grind arith in (
      elim (cases_lt (home_sector head w) (first * head.chunk)) [
        | inl lt ↦ let before = volume_below w head.chunk (data_blocks head) first some items lt in
            let e : first * head.chunk * data_blocks head ≡ first * (head.chunk * data_blocks head) = grind arith in absurd (omega arith)
        | inr le ↦ le
      ],
      omega arith,
    )

-- none of the sectors of rows in which all is good is lost
pub none_lost : (sections : List Section) (set : Wide) (end first count : ℕ) → IsDamaged set end →
    ((t : ℕ) → first * set.geo.head.chunk ≤ t → t < first * set.geo.head.chunk + count * set.geo.head.chunk → AreAllGood sections set t) →
    (w : ℕ) → first * (set.geo.head.chunk * data_blocks set.geo.head) ≤ w → w < (first + count) * (set.geo.head.chunk * data_blocks set.geo.head) → is_lost sections set w ≡ false
none_lost sections set end first count d all w low high =
    let at = home_within set.geo.head first count w d.head low high in
    good_row sections set w (all (home_sector set.geo.head w) at.0 at.1) d.few

-- rows of chunks end before the end
pub rows_near : (set : Wide) (end first count : ℕ) → IsDamaged set end → 0 < count → first + count ≤ rows set.geo.head end →
    set.geo.head.offset + (first * set.geo.head.chunk + count * set.geo.head.chunk) < 2 ^ 55
rows_near set end first count d some within =
    let chunk = some_chunk set.geo.head d.head in
    let whole : rows set.geo.head end * set.geo.head.chunk ≤ end - set.geo.head.offset = whole_below (end - set.geo.head.offset) set.geo.head.chunk (rows set.geo.head end) refl in
    let up : (first + count) * set.geo.head.chunk ≤ rows set.geo.head end * set.geo.head.chunk = mul-le (first + count) set.geo.head.chunk (rows set.geo.head end) set.geo.head.chunk within (omega arith) in
    let parts : (first + count) * set.geo.head.chunk ≡ first * set.geo.head.chunk + count * set.geo.head.chunk = grind arith in
    let least : 1 * 1 ≤ count * set.geo.head.chunk = mul-le 1 1 count set.geo.head.chunk (omega arith) (omega arith) in
    let near = d.near in
    omega arith

-- and their sectors are those of the volume
pub rows_within : (set : Wide) (end n : ℕ) → n ≤ rows set.geo.head end → n * (set.geo.head.chunk * data_blocks set.geo.head) ≤ volume_sectors set.geo.head end
rows_within set end n within =
    let up : n * (set.geo.head.chunk * data_blocks set.geo.head) ≤ rows set.geo.head end * (set.geo.head.chunk * data_blocks set.geo.head) = mul-le n (set.geo.head.chunk * data_blocks set.geo.head) (rows set.geo.head end) (set.geo.head.chunk * data_blocks set.geo.head) within (omega arith) in
    let e : rows set.geo.head end * set.geo.head.chunk * data_blocks set.geo.head ≡ rows set.geo.head end * (set.geo.head.chunk * data_blocks set.geo.head) = grind arith in
    omega arith

pub rows_whole : (set : Wide) (end n : ℕ) → n ≡ rows set.geo.head end → (0 + n) * (set.geo.head.chunk * data_blocks set.geo.head) ≡ volume_sectors set.geo.head end
rows_whole set end n is =
    let e : (0 + rows set.geo.head end) * (set.geo.head.chunk * data_blocks set.geo.head) ≡ rows set.geo.head end * set.geo.head.chunk * data_blocks set.geo.head = grind arith in
    ap (λ (k : ℕ). (0 + k) * (set.geo.head.chunk * data_blocks set.geo.head)) is ∙ e

pub volume_short : (set : Wide) (end : ℕ) → IsDamaged set end → volume_sectors set.geo.head end < 2 ^ 64
volume_short set end d =
    let whole : rows set.geo.head end * set.geo.head.chunk ≤ end - set.geo.head.offset = whole_below (end - set.geo.head.offset) set.geo.head.chunk (rows set.geo.head end) refl in
    let near = d.near in
    volume_fits (area set.geo.head end) (data_blocks set.geo.head) (omega arith) (few_data set.geo.head d.head)

pub some_sectors : (set : Wide) (end count : ℕ) → IsDamaged set end → 0 < count → 0 < count * (set.geo.head.chunk * data_blocks set.geo.head)
some_sectors set end count d some =
    let chunk = some_chunk set.geo.head d.head in
    let items = some_data set.geo.head d.head in
    let one : 1 * 1 ≤ set.geo.head.chunk * data_blocks set.geo.head = mul-le 1 1 set.geo.head.chunk (data_blocks set.geo.head) (omega arith) (omega arith) in
    let two : 1 * 1 ≤ count * (set.geo.head.chunk * data_blocks set.geo.head) = mul-le 1 1 count (set.geo.head.chunk * data_blocks set.geo.head) (omega arith) (omega arith) in
    omega arith

-- a set of a sensible shape may be damaged
pub damage_of : (set : Wide) (end : ℕ) → IsTestable set.geo → end < 2 ^ 55 → IsDamaged set end
damage_of set end t near = record {
  head = shaped_head set.geo t.images t.shaped;
  members = sym (shaped_slots set.geo t.images t.shaped);
  near = near;
  few = shaped_missing set.geo t.images t.shaped;
}
