-- What holds of all salvaged volumes.
use Rattle.std.proofs.Common.{ℕ, zero, suc, ◌≡◌, ◌/◌, ◌<◌, Bool, true, false, cond, List, [], ◌∷◌, get_or, map, replicate, refl, sym, ap, ◌∙◌, subst, arith, Option, Some, None}
use Rattle.address_map.proofs.Heads.{some_chunk, some_data}
use Rattle.address_map.proofs.Sectors.{sector_below}
use Rattle.raid_layouts.proofs.Shapes.{shaped_head, shaped_missing}
use Rattle.raid_params.proofs.Ruled.{wide_shape}
use Rattle.raid_params.specs.Size.{area, data_blocks, rows, volume_sectors}
use Rattle.raid_params.specs.Wide.{wide_fault}
use Rattle.raid_params.specs.declared.types.Geometry.{Geometry}
use Rattle.raid_params.specs.declared.types.Head.{Head}
use Rattle.raid_params.specs.declared.wide.Wide.{Wide}
use Rattle.raid_terms.specs.Address.{home_sector, home_slot}
use Rattle.raid_terms.specs.Cells.{row_cells}
use Rattle.raid_terms.specs.Parity.{member_byte, member_column}
use Rattle.raid_terms.specs.Solving.{lost_byte}
use Rattle.raid_terms.specs.Volume.{byte_in, member_sector, volume_sector}
use Rattle.row_parity.proofs.Regions.{map_same}
use Rattle.virtual_volume.proofs.Ranges.{flat_same}
use Rattle.rescue_map.specs.Damaged.{damaged, damaged_at, image_sector, is_good, is_lost, known_slot}
use Rattle.rescue_map.specs.Laws.{AgreeOnGood, GoodSectorsTell, UndamagedIsTheVolume}
use Rattle.rescue_map.specs.Salvaged.{salvaged_sector, salvaged_sectors}
use Rattle.rescue_map.proofs.Found.{at_head}
use Rattle.rescue_map.proofs.Passed.{good_row}
use Rattle.rescue_map.proofs.Rows.{known_is, unknown_is}
use Rattle.rescue_text.specs.declared.section.Section.{Section}

-- ---- nothing is damaged

all_there : (set : Wide) (t : ℕ) (slots : List (Option ℕ)) → map (known_slot [] set t) slots ≡ slots
all_there set t [] = refl
all_there set t (None ∷ slots) = ap (λ (l : List (Option ℕ)). None ∷ l) (all_there set t slots)
all_there set t (Some image ∷ slots) = ap (λ (l : List (Option ℕ)). Some image ∷ l) (all_there set t slots)

whole : (set : Wide) (t : ℕ) → damaged [] set t ≡ set.geo
unfolding damaged
whole set t = ap (λ (l : List (Option ℕ)). record { head = set.geo.head; slots = record { items = l } }) (all_there set t set.geo.slots.items)

sector_whole : (images : List (List ℕ)) (set : Wide) (count end v : ℕ) → wide_fault set count end ≡ None → salvaged_sector images [] set v ≡ volume_sector images set.geo v
unfolding salvaged_sector
sector_whole images set count end v ruled =
    let kept : is_lost [] set v ≡ false = good_row [] set v (all_there set (home_sector set.geo.head v) set.geo.slots.items) (shaped_missing set.geo count (wide_shape set count end ruled)) in
    ap (λ (b : Bool). cond b (replicate 512 0) (volume_sector images (damaged_at [] set v) v)) kept
    ∙ ap (λ (g : Geometry). volume_sector images g v) (whole set (home_sector set.geo.head v))

pub undamaged : UndamagedIsTheVolume
unfolding salvaged_sectors
undamaged images set count end ruled =
    flat_same (salvaged_sector images [] set) (volume_sector images set.geo) 0 (volume_sectors set.geo.head end) (λ v low high. sector_whole images set count end v ruled)

-- ---- images that agree on all good sectors

known_agrees : (sections : List Section) (set : Wide) (end t x : ℕ) (one other : List (List ℕ)) → AgreeOnGood sections set end one other → t < area set.geo.head end → x < 512 → (held : Option ℕ) →
    member_byte one set.geo.head.offset t x (known_slot sections set t held) ≡ member_byte other set.geo.head.offset t x (known_slot sections set t held)
known_agrees sections set end t x one other agree inside below None = refl
known_agrees sections set end t x one other agree inside below (Some image) = of_test (is_good sections image (image_sector set image t)) refl
  where
    of_test : (b : Bool) → is_good sections image (image_sector set image t) ≡ b →
        member_byte one set.geo.head.offset t x (known_slot sections set t (Some image)) ≡ member_byte other set.geo.head.offset t x (known_slot sections set t (Some image))
    of_test true is = subst (λ (o : Option ℕ). member_byte one set.geo.head.offset t x o ≡ member_byte other set.geo.head.offset t x o) (sym (known_is sections set t image is)) (agree image t x inside below is)
    of_test false is = subst (λ (o : Option ℕ). member_byte one set.geo.head.offset t x o ≡ member_byte other set.geo.head.offset t x o) (sym (unknown_is sections set t image is)) refl

slot_agrees : (one other : Option ℕ → ℕ) (f : Option ℕ → Option ℕ) → one None ≡ other None → ((held : Option ℕ) → one (f held) ≡ other (f held)) → (slots : List (Option ℕ)) (k : ℕ) → one (get_or (map f slots) k None) ≡ other (get_or (map f slots) k None)
slot_agrees one other f none same [] k = none
slot_agrees one other f none same (held ∷ slots) zero = same held
slot_agrees one other f none same (held ∷ slots) (suc k) = slot_agrees one other f none same slots k

column_agrees : (one other : Option ℕ → ℕ) (f : Option ℕ → Option ℕ) → ((held : Option ℕ) → one (f held) ≡ other (f held)) → (slots : List (Option ℕ)) → map one (map f slots) ≡ map other (map f slots)
column_agrees one other f same [] = refl
column_agrees one other f same (held ∷ slots) = cc (same held, column_agrees one other f same slots)

byte_agrees : (one other : List (List ℕ)) (geo : Geometry) (t slot x : ℕ) (held : Option ℕ) → member_byte one geo.head.offset t x held ≡ member_byte other geo.head.offset t x held →
    member_column one geo t x ≡ member_column other geo t x → byte_in one geo t slot x held ≡ byte_in other geo t slot x held
byte_agrees one other geo t slot x (Some i) same columns = same
byte_agrees one other geo t slot x None same columns = ap (λ (l : List ℕ). lost_byte (row_cells geo (t / geo.head.chunk)) l slot) columns

row_agrees : (sections : List Section) (set : Wide) (end t slot : ℕ) (one other : List (List ℕ)) → AgreeOnGood sections set end one other → t < area set.geo.head end →
    member_sector one (damaged sections set t) slot t ≡ member_sector other (damaged sections set t) slot t
unfolding member_sector damaged
row_agrees sections set end t slot one other agree inside =
    let slots = set.geo.slots.items in
    let held : Option ℕ = get_or (map (known_slot sections set t) slots) slot None in
    map_same (λ x. byte_in one (damaged sections set t) t slot x held) (λ x. byte_in other (damaged sections set t) t slot x held) 0 512
    (λ x low high. byte_agrees one other (damaged sections set t) t slot x held
    (slot_agrees (member_byte one set.geo.head.offset t x) (member_byte other set.geo.head.offset t x) (known_slot sections set t) refl (known_agrees sections set end t x one other agree inside (omega arith)) slots slot)
    (column_agrees (member_byte one set.geo.head.offset t x) (member_byte other set.geo.head.offset t x) (known_slot sections set t) (known_agrees sections set end t x one other agree inside (omega arith)) slots))

at_home : (images : List (List ℕ)) (sections : List Section) (set : Wide) (v : ℕ) →
    volume_sector images (damaged_at sections set v) v ≡ member_sector images (damaged sections set (home_sector set.geo.head v)) (home_slot set.geo.head v) (home_sector set.geo.head v)
at_home images sections set v =
    ap (λ (h : Head). member_sector images (damaged_at sections set v) (home_slot h v) (home_sector h v)) (at_head sections set (home_sector set.geo.head v))

sector_agrees : (sections : List Section) (set : Wide) (count end v : ℕ) (one other : List (List ℕ)) → wide_fault set count end ≡ None → AgreeOnGood sections set end one other → v < volume_sectors set.geo.head end →
    salvaged_sector one sections set v ≡ salvaged_sector other sections set v
unfolding salvaged_sector
sector_agrees sections set count end v one other ruled agree below =
    let valid = shaped_head set.geo count (wide_shape set count end ruled) in
    let inside : home_sector set.geo.head v < area set.geo.head end = sector_below v set.geo.head.chunk (data_blocks set.geo.head) (rows set.geo.head end) (some_chunk set.geo.head valid) (some_data set.geo.head valid) below in
    ap (λ (l : List ℕ). cond (is_lost sections set v) (replicate 512 0) l)
    (at_home one sections set v ∙ row_agrees sections set end (home_sector set.geo.head v) (home_slot set.geo.head v) one other agree inside ∙ sym (at_home other sections set v))

pub good_tell : GoodSectorsTell
unfolding salvaged_sectors
good_tell sections set count end one other ruled agree =
    flat_same (salvaged_sector one sections set) (salvaged_sector other sections set) 0 (volume_sectors set.geo.head end) (λ v low high. sector_agrees sections set count end v one other ruled agree (omega arith))
