-- Rows in which all is good.
use Rattle.std.proofs.Common.{ℕ, zero, suc, ◌≡◌, ◌+◌, ◌-◌, ◌*◌, ◌/◌, ◌%◌, ◌<◌, ◌≤◌, ◌||◌, Bool, true, false, cond, List, [], ◌∷◌, length, map, replicate, refl, sym, ap, ◌∙◌, arith, Option, Some, None}
use Rattle.std.specs.Prelude.{IsTrue, slice_index_or, if◌then◌else◌}
use Rattle.std.specs.List.{range_with_len, sum}
use Rattle.std.specs.Option.{is_none, is_some}
use Rattle.std.proofs.lemmas.Nat.{div-add-mod', div_below, le-div, mod_below, mul-le}
use Rattle.raid_layouts.proofs.Counts.{count_cons}
use Rattle.address_map.proofs.Heads.{some_chunk, some_data}
use Rattle.lost_members.proofs.NeededSums.{sum_first}
use Rattle.member_regions.proofs.Sets.{testable_head, testable_slots}
use Rattle.member_regions.specs.Members.{held}
use Rattle.raid_params.specs.Size.{data_blocks, redundancy, rows, volume_sectors}
use Rattle.raid_params.specs.Slots.{empties}
use Rattle.raid_params.specs.Validity.{is_valid_head}
use Rattle.raid_params.specs.declared.types.Geometry.{Geometry}
use Rattle.raid_params.specs.declared.types.Head.{Head}
use Rattle.raid_params.specs.declared.wide.Wide.{Wide}
use Rattle.raid_terms.specs.Address.{home_sector, home_slot}
use Rattle.raid_terms.specs.Volume.{volume_sector}
use Rattle.rescue_map.specs.Damaged.{damaged, damaged_at, is_unknown, AreAllGood, IsMendable}
use Rattle.rescue_map.specs.Salvaged.{reads_for, reads_for_all, salvaged_sector, salvaged_sectors}
use Rattle.rescue_map.proofs.Passed.{damage_of, good_row}
use Rattle.rescue_text.specs.declared.section.Section.{Section}
use Rattle.virtual_volume.proofs.Ranges.{flat_same}
use Rattle.volume_device.specs.Cost.{cost_of, is_row_asked, range_cost, row_sectors}
use Rattle.volume_device.specs.Sectors.{sectors_of}
use Rattle.volume_device.proofs.Rows.{row_some, rows_among, rows_end}
use Rattle.damaged_device.specs.Reading.{AreGoodRows}

-- a row in which all is good is that of the set
whole_row : (sections : List Section) (set : Wide) (t : ℕ) → AreAllGood sections set t → damaged sections set t ≡ set.geo
unfolding damaged
whole_row sections set t all = ap (λ (l : List (Option ℕ)). record { head = set.geo.head; slots = record { items = l } }) all

few_of : (set : Wide) (end : ℕ) → IsMendable set end → empties set.geo.slots.items ≤ redundancy set.geo.head.level
few_of set end m = (damage_of set end m.shape m.near).few

-- a sector in it is that of the volume
good_sector : (images : List (List ℕ)) (sections : List Section) (set : Wide) (end v : ℕ) → IsMendable set end → AreAllGood sections set (home_sector set.geo.head v) → salvaged_sector images sections set v ≡ volume_sector images set.geo v
unfolding salvaged_sector
good_sector images sections set end v m all =
    ap (λ (b : Bool). cond b (replicate 512 0) (volume_sector images (damaged_at sections set v) v)) (good_row sections set v all (few_of set end m))
    ∙ ap (λ (g : Geometry). volume_sector images g v) (whole_row sections set (home_sector set.geo.head v) all)

pub good_sectors : (images : List (List ℕ)) (sections : List Section) (set : Wide) (end first n : ℕ) → IsMendable set end → AreGoodRows sections set first n → sectors_of images set.geo first n ≡ salvaged_sectors images sections set first n
unfolding sectors_of salvaged_sectors
good_sectors images sections set end first n m all =
    flat_same (volume_sector images set.geo) (salvaged_sector images sections set) first n (λ v low high. sym (good_sector images sections set end v m (all v low high)))

-- ---- what they cost

-- each slot is empty, or holds an image
held_rest : (slots : List (Option ℕ)) → held slots + empties slots ≡ length slots
unfolding held empties
held_rest [] = refl
held_rest (None ∷ slots) = omega (arith, count_cons is_some None slots, held_rest slots)
held_rest (Some i ∷ slots) = omega (arith, count_cons is_some (Some i) slots, held_rest slots)

by_slot : (o : Option ℕ) (asked : Bool) (least many reads : ℕ) → 1 ≤ least → least ≤ many → reads ≡ cond (is_none o) many 1 → (if is_some o || asked then 1 else least) ≤ reads
by_slot (Some i) asked least many reads one less is = omega arith
by_slot None true least many reads one less is = omega arith
by_slot None false least many reads one less is = omega arith

cost_less : (sections : List Section) (set : Wide) (end first n v : ℕ) → IsMendable set end → AreAllGood sections set (home_sector set.geo.head v) → cost_of set.geo first n v ≤ reads_for sections set v
cost_less sections set end first n v m all =
    let head = set.geo.head in
    let slots = set.geo.slots.items in
    let slot : Option ℕ = slice_index_or set.geo.slots.items (home_slot set.geo.head v) None in
    let lost = good_row sections set v all (few_of set end m) in
    let reads : reads_for sections set v ≡ cond (is_none (slice_index_or set.geo.slots.items (home_slot set.geo.head v) None)) (held set.geo.slots.items) 1 =
    ap (λ (b : Bool). cond b 0 (cond (is_unknown sections set v) (held (damaged_at sections set v).slots.items) 1)) lost
    ∙ ap (λ (g : Geometry). cond (is_none (slice_index_or g.slots.items (home_slot set.geo.head v) None)) (held g.slots.items) 1) (whole_row sections set (home_sector set.geo.head v) all) in
    let many : data_blocks set.geo.head ≤ held set.geo.slots.items = omega (arith, held_rest set.geo.slots.items, testable_slots set.geo m.shape, few_of set end m) in
    by_slot slot (is_row_asked head first n v) (data_blocks head) (held slots) (reads_for sections set v) (some_data head (testable_head set.geo m.shape)) many reads

sum_less : (f g : ℕ → ℕ) (a n : ℕ) → ((v : ℕ) → a ≤ v → v < a + n → f v ≤ g v) → sum (map f (range_with_len a n)) ≤ sum (map g (range_with_len a n))
sum_less f g a zero less = omega arith
sum_less f g a (suc n) less =
    omega (arith, sum_first f a n, sum_first g a n, less a (omega arith) (omega arith), sum_less f g (a + 1) n (λ v low high. less v (omega arith) (omega arith)))

pub range_less : (sections : List Section) (set : Wide) (end first n : ℕ) → IsMendable set end → AreGoodRows sections set first n → range_cost set.geo first n ≤ reads_for_all sections set first n
unfolding range_cost reads_for_all
range_less sections set end first n m all = sum_less (cost_of set.geo first n) (reads_for sections set) first n (λ v low high. cost_less sections set end first n v m (all v low high))

-- ---- which rows they are

-- so many rows of chunks from one on are those of n volume sectors from a sector on, and lie before the end
pub record Covers (head : Head) (end first n start many : ℕ) : Type 0 where
  pub some : 1 ≤ many
  pub low : start * row_sectors head ≤ first
  pub high : first + n ≤ start * row_sectors head + many * row_sectors head
  pub within : start * head.chunk + many * head.chunk ≤ rows head end * head.chunk

pub covers : (head : Head) (end first n row : ℕ) → IsTrue (is_valid_head head) → row ≡ row_sectors head → 1 ≤ n → first + n ≤ volume_sectors head end →
    Covers head end first n (first / row) ((first + n - 1) / row + 1 - first / row)
covers head end first n row valid same some within =
    let start : ℕ = first / row in
    let last : ℕ = (first + n - 1) / row in
    let many : ℕ = (first + n - 1) / row + 1 - first / row in
    let pos : 0 < row = omega (arith, row_some head valid) in
    let from : first / row * row + first % row ≡ first = div-add-mod' first row in
    let to : (first + n - 1) / row * row + (first + n - 1) % row ≡ first + n - 1 = div-add-mod' (first + n - 1) row in
    let below = mod_below (first + n - 1) row pos in
    let order : first / row ≤ (first + n - 1) / row = le-div (first / row) (first + n - 1) row pos (omega arith) in
    let all : rows head end * head.chunk * data_blocks head ≡ rows head end * row_sectors head = grind arith in
    let turned : rows head end * row_sectors head ≡ rows head end * row = ap (λ (k : ℕ). rows head end * k) (sym same) in
    let less : (first + n - 1) / row < rows head end = div_below (first + n - 1) row (rows head end) pos (omega arith) in
    let up : (start + many) * row_sectors head ≤ rows head end * row_sectors head = mul-le (start + many) (row_sectors head) (rows head end) (row_sectors head) (omega arith) (omega arith) in
    let parts : (start + many) * row_sectors head ≡ start * row_sectors head + many * row_sectors head = grind arith in
    let whole : (start + many) * row_sectors head ≡ (last + 1) * row = (let e : start + many ≡ last + 1 = omega arith in ap (λ (k : ℕ). k * row_sectors head) e ∙ ap (λ (k : ℕ). (last + 1) * k) (sym same)) in
    let more : (last + 1) * row ≡ last * row + row = grind arith in
    let first_row : start * row_sectors head ≡ start * row = ap (λ (k : ℕ). start * k) (sym same) in
    record {
      some = omega arith;
      low = omega arith;
      high = omega arith;
      within = rows_end head end start many (some_chunk head valid) (some_data head valid) (omega arith);
    }

-- where all members are good in these rows, they are good beside the sectors
pub good_beside : (sections : List Section) (set : Wide) (end first n start many : ℕ) → IsTrue (is_valid_head set.geo.head) → Covers set.geo.head end first n start many →
    ((t : ℕ) → start * set.geo.head.chunk ≤ t → t < start * set.geo.head.chunk + many * set.geo.head.chunk → AreAllGood sections set t) → AreGoodRows sections set first n
good_beside sections set end first n start many valid c all = λ v low high.
    let head = set.geo.head in
    let at = rows_among head start many (start * head.chunk) (many * head.chunk) (some_chunk head valid) (some_data head valid) (omega arith) (omega arith) v (let l = c.low in omega arith) (let h = c.high in omega arith) in
    all (home_sector head v) at.0 at.1
