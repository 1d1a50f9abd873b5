-- What lies where.
use Rattle.std.proofs.Common.{◌≡◌, ℕ, ◌+◌, ◌*◌, ◌%◌, ◌/◌, ◌^◌, ◌<◌, ◌≤◌, sym, arith, ap, subst, refl, ◌∙◌}
use Rattle.std.proofs.lemmas.Nat.{mul-le, div-add-mod', div-mul-add, mod_below}
use Rattle.std.specs.Prelude.{IsTrue}
use Rattle.raid_params.specs.declared.types.Head.{Head}
use Rattle.raid_terms.specs.Address.{LiesAt, home_row, home_item, home_sector}
use Rattle.raid_params.specs.Validity.{is_valid_head}
use Rattle.raid_terms.specs.Role.{HasRole, Item, item_of}
use Rattle.raid_params.specs.Size.{data_blocks, area, rows, volume_sectors}
use Rattle.raid_layouts.proofs.Levels.{layout_of}
use Rattle.address_map.specs.Places.{IsAt}
use Rattle.address_map.proofs.Heads.{some_chunk, some_data, few_data, short_chunk}
use Rattle.address_map.proofs.Sectors.{made_row, made_item, made_at, same_parts, same_place, volume_below, sector_below, sector_small}

-- a sector of the volume is numbered in 64 bits, with all that it is made of
made_fits : (row d item c at : ℕ) → row * c + at < 2 ^ 55 → item < d → d ≤ 24 → at < c → c ≤ 32768 → (row * d + item) * c + at < 2 ^ 64
made_fits row d item c at h k few below short =
    let wide : row * d ≤ row * 24 = mul-le row d row 24 (omega arith) few in
    let most : (row * d + item) * c ≤ (row * 24 + 23) * c = mul-le (row * d + item) c (row * 24 + 23) c (omega arith) (omega arith) in
    let turned : (row * 24 + 23) * c ≡ 24 * (row * c) + 23 * c = grind arith in
    omega arith

pub sector_fits : (head : Head) (row item at d : ℕ) → IsTrue (is_valid_head head) → row * head.chunk + at < 2 ^ 55 → item < data_blocks head → at < head.chunk →
    d ≡ data_blocks head → (row * d + item) * head.chunk + at < 2 ^ 64
sector_fits head row item at d valid h k below e =
    rw e (made_fits row (data_blocks head) item head.chunk at h k (few_data head valid) below (short_chunk head valid))

-- the sector that is made of a row, the item of a slot and a sector of the chunk lies there
pub made_lies : (head : Head) (slot sector item : ℕ) → IsTrue (is_valid_head head) → HasRole head (sector / head.chunk) slot (Item item) →
    LiesAt head slot sector ((sector / head.chunk * data_blocks head + item) * head.chunk + sector % head.chunk)
made_lies head slot sector item valid has =
    let c = head.chunk in
    let d = data_blocks head in
    let below : sector % head.chunk < head.chunk = mod_below sector head.chunk (some_chunk head valid) in
    let row : home_row head ((sector / head.chunk * data_blocks head + item) * head.chunk + sector % head.chunk) ≡ sector / head.chunk
    = made_row head.chunk (data_blocks head) (sector / head.chunk) item (sector % head.chunk) below has.0 in
    let its : home_item head ((sector / head.chunk * data_blocks head + item) * head.chunk + sector % head.chunk) ≡ item
    = made_item head.chunk (data_blocks head) (sector / head.chunk) item (sector % head.chunk) below has.0 in
    let at : ((sector / head.chunk * data_blocks head + item) * head.chunk + sector % head.chunk) % head.chunk ≡ sector % head.chunk
    = made_at head.chunk (data_blocks head) (sector / head.chunk) item (sector % head.chunk) below in
    record {
      item = subst (λ (i : ℕ). HasRole head (home_row head ((sector / head.chunk * data_blocks head + item) * head.chunk + sector % head.chunk)) slot (Item i)) (sym its)
          (subst (λ (r : ℕ). HasRole head r slot (Item item)) (sym row) has);
      place =
          sym (div-add-mod' sector head.chunk)
          ∙ ap (λ (r : ℕ). r * head.chunk + sector % head.chunk) (sym row)
          ∙ ap (λ (x : ℕ). home_row head ((sector / head.chunk * data_blocks head + item) * head.chunk + sector % head.chunk) * head.chunk + x) (sym at);
    }

-- what lies at a volume sector is a data item of its row
pub lies_on : (head : Head) (slot sector v : ℕ) → IsTrue (is_valid_head head) → LiesAt head slot sector v →
    HasRole head (sector / head.chunk) slot (Item (home_item head v))
lies_on head slot sector v valid lies =
    let row : sector / head.chunk ≡ home_row head v
    = ap (λ (x : ℕ). x / head.chunk) lies.place ∙ div-mul-add (home_row head v) head.chunk (v % head.chunk) (mod_below v head.chunk (some_chunk head valid)) in
    subst (λ (r : ℕ). HasRole head r slot (Item (home_item head v))) (sym row) lies.item

-- two volume sectors that lie in one place are one
pub lies_once : (head : Head) (slot sector v w : ℕ) → IsTrue (is_valid_head head) → LiesAt head slot sector v → LiesAt head slot sector w → v ≡ w
lies_once head slot sector v w valid a b =
    let on : HasRole head (sector / head.chunk) slot (Item (home_item head v)) = lies_on head slot sector v valid a in
    let other : HasRole head (sector / head.chunk) slot (Item (home_item head w)) = lies_on head slot sector w valid b in
    let items : home_item head v ≡ home_item head w = (layout_of head (sector / head.chunk) valid).once (home_item head v) (home_item head w) on.0 other.0 (sym on.1 ∙ other.1) in
    let places : (home_row head v ≡ home_row head w) × (v % head.chunk ≡ w % head.chunk)
    = same_place v w head.chunk (data_blocks head) (some_chunk head valid) (sym a.place ∙ b.place) in
    same_parts v w head.chunk (data_blocks head) places.0 items places.1

-- a volume sector lies in one place
pub one_slot : (head : Head) (s t v w x : ℕ) → LiesAt head s w v → LiesAt head t x v → (t ≡ s) × (x ≡ w)
one_slot head s t v w x a b = (b.item.1 ∙ sym a.item.1, b.place ∙ sym a.place)

pub slot_in : (head : Head) (slot sector v : ℕ) → IsTrue (is_valid_head head) → LiesAt head slot sector v → slot < head.members
slot_in head slot sector v valid a =
    let l = layout_of head (home_row head v) valid in
    let h = l.item_in (home_item head v) a.item.0 in
    let e = a.item.1 in
    omega arith

-- the places of whole rows are those of the volume's sectors
pub inside : (head : Head) (end slot sector v : ℕ) → IsTrue (is_valid_head head) → LiesAt head slot sector v → sector < area head end → v < volume_sectors head end
inside head end slot sector v valid a h =
    let e : sector ≡ home_sector head v = a.place in
    volume_below v head.chunk (data_blocks head) (rows head end) (some_chunk head valid) (some_data head valid) (subst (λ (t : ℕ). t < area head end) e h)

pub inside_back : (head : Head) (end slot sector v : ℕ) → IsTrue (is_valid_head head) → LiesAt head slot sector v → v < volume_sectors head end → sector < area head end
inside_back head end slot sector v valid a h =
    let e : sector ≡ home_sector head v = a.place in
    subst (λ (t : ℕ). t < area head end) (sym e) (sector_below v head.chunk (data_blocks head) (rows head end) (some_chunk head valid) (some_data head valid) h)

-- a sector of the volume lies on the slot of its item
pub home_is : (head : Head) (end v d slot : ℕ) → IsTrue (is_valid_head head) → d ≡ data_blocks head → v < volume_sectors head end → slot ≡ item_of head (v / head.chunk / d) (v / head.chunk % d) →
    IsAt head end v (record { row = v / head.chunk / d; item = v / head.chunk % d; slot = slot; sector = v / head.chunk / d * head.chunk + v % head.chunk })
home_is head end v d slot valid e within there =
    let P : ℕ → Type 0 = λ k. slot ≡ item_of head (v / head.chunk / k) (v / head.chunk % k) →
    IsAt head end v (record { row = v / head.chunk / k; item = v / head.chunk % k; slot = slot; sector = v / head.chunk / k * head.chunk + v % head.chunk }) in
    subst P (sym e) (λ at. record {
      within = within;
      row = refl;
      item = refl;
      lies = record { item = (mod_below (v / head.chunk) (data_blocks head) (some_data head valid), at); place = refl };
    }) there

-- and its member sector is no larger than its own number
pub home_small : (head : Head) (v d : ℕ) → IsTrue (is_valid_head head) → d ≡ data_blocks head → v / head.chunk / d * head.chunk + v % head.chunk ≤ v
home_small head v d valid e = sector_small v head.chunk d (rw e (some_data head valid))

-- its item is one of the row's
pub item_in_row : (head : Head) (x d : ℕ) → IsTrue (is_valid_head head) → d ≡ data_blocks head → x % d < data_blocks head
item_in_row head x d valid e = rw e (mod_below x (data_blocks head) (some_data head valid))

-- the place of a sector on a slot that holds an item
pub place_at : (head : Head) (end slot sector item v : ℕ) → IsTrue (is_valid_head head) → sector < area head end → HasRole head (sector / head.chunk) slot (Item item) →
    v ≡ (sector / head.chunk * data_blocks head + item) * head.chunk + sector % head.chunk → (sector < area head end) × LiesAt head slot sector v
place_at head end slot sector item v valid below has e = (below, subst (λ (k : ℕ). LiesAt head slot sector k) (sym e) (made_lies head slot sector item valid has))
