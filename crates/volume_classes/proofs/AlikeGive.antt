-- Alike sets have equal coefficients.
use Rattle.std.proofs.Common.{ℕ, ◌≡◌, ◌+◌, ◌-◌, ◌*◌, ◌/◌, ◌<◌, ◌≤◌, List, length, slice_index, refl, sym, ap, ap₂, ◌∙◌, arith, inl, inr}
use Rattle.std.specs.declared.option.Option.TheVariants.{None}
use Rattle.std.proofs.Math.Nat.{eq_of_mul-eq-mul_left}
use Rattle.std.proofs.lemmas.Bool.{cases_eq, cases_lt}
use Rattle.std.proofs.lemmas.Nat.{mod_below, mul-add-lt, mul-le}
use Rattle.std.specs.Prelude.{IsTrue}
use Rattle.raid_params.proofs.Ruled.{ruled_row, ruled_shape}
use Rattle.raid_params.specs.declared.types.Geometry.{Geometry}
use Rattle.raid_params.specs.declared.types.Head.{Head}
use Rattle.raid_params.specs.Size.{area, data_blocks, rows, volume_sectors}
use Rattle.raid_params.specs.Validity.{first_fault, is_valid_head}
use Rattle.address_map.proofs.Heads.{some_chunk, some_data, whole_below}
use Rattle.address_map.proofs.Sectors.{made_at, made_item, made_row, sector_below, sector_small, volume_below}
use Rattle.raid_layouts.proofs.Levels.{enough}
use Rattle.raid_layouts.proofs.Shapes.{shaped_head}
use Rattle.raid_terms.specs.Address.{home_item, home_row, home_sector}
use Rattle.volume_classes.specs.Alike.{AreAlike}
use Rattle.volume_classes.specs.Coefficients.{AgreeInRow, HaveEqualCoefficients, coefficient}
use Rattle.volume_classes.proofs.EqualGive.{same_item, same_row, same_rows}
use Rattle.volume_classes.proofs.Spikes.{are_images, place_of, spike_at, spike_off, spikes}
use Rattle.volume_classes.proofs.Volumes.{volume_long}
use Rattle.volume_classes.proofs.Weighed.{each_item}

-- two sets that break no rule and are alike
pub record Alike (one other : Geometry) (images end : ℕ) : Type 0 where
  pub one_ruled : first_fault one images end ≡ None
  pub other_ruled : first_fault other images end ≡ None
  pub alike : AreAlike one other images end

valid_of : (geo : Geometry) (images end : ℕ) → first_fault geo images end ≡ None → IsTrue (is_valid_head geo.head)
valid_of geo images end ruled = shaped_head geo images (ruled_shape geo images end ruled)

turned : {one other : Geometry} {images end : ℕ} → Alike one other images end → Alike other one images end
turned two = record { one_ruled = two.other_ruled; other_ruled = two.one_ruled; alike = λ bytes are. sym (two.alike bytes are) }

same_length : {one other : Geometry} {images end : ℕ} → Alike one other images end → volume_sectors one.head end ≡ volume_sectors other.head end
same_length {one = one} {other = other} {images = images} {end = end} two =
    let bytes = spikes images (512 * end) 0 0 in
    let one_long = volume_long (spikes images (512 * end) 0 0) one end in
    let other_long = volume_long (spikes images (512 * end) 0 0) other end in
    let same = ap length (two.alike (spikes images (512 * end) 0 0) (are_images images end 0 0)) in
    omega arith

-- sectors of the volume lie before the end
place_below : (geo : Geometry) (images end v : ℕ) → first_fault geo images end ≡ None → v < volume_sectors geo.head end → place_of geo v < 512 * end
place_below geo images end v ruled below =
    let valid = valid_of geo images end ruled in
    let inside : home_sector geo.head v < rows geo.head end * geo.head.chunk = sector_below v geo.head.chunk (data_blocks geo.head) (rows geo.head end) (some_chunk geo.head valid) (some_data geo.head valid) below in
    let whole : rows geo.head end * geo.head.chunk ≤ end - geo.head.offset = whole_below (end - geo.head.offset) geo.head.chunk (rows geo.head end) refl in
    omega arith

-- a coefficient that is not 0 shows where the sector lies in both
same_place : {one other : Geometry} {images end : ℕ} → Alike one other images end → (v : ℕ) → v < volume_sectors one.head end → place_of one v ≡ place_of other v
same_place {one = one} {other = other} {images = images} {end = end} two v below =
    let valid = valid_of one images end two.one_ruled in
    let few : home_item one.head v < data_blocks one.head = mod_below (v / one.head.chunk) (data_blocks one.head) (some_data one.head valid) in
    let some = each_item one images (home_row one.head v) (home_item one.head v) (ruled_shape one images end two.one_ruled) few in
    let long = same_length two in
    let below_other : v < volume_sectors other.head end = omega arith in
    elim (cases_eq (place_of other v) (place_of one v)) [
      | inl same ↦ sym same
      | inr apart ↦ absurd (some.2 (
          sym (spike_at one images end some.0 (place_of one v) v two.one_ruled below some.1 (place_below one images end v two.one_ruled below) refl)
          ∙ ap (λ (bytes : List ℕ). slice_index bytes (512 * v)) (two.alike (spikes images (512 * end) some.0 (place_of one v)) (are_images images end some.0 (place_of one v)))
          ∙ spike_off other images end some.0 (place_of one v) v two.other_ruled below_other (place_below other images end v two.other_ruled below_other) apart))
    ]

-- and the coefficients are equal there
same_coefficient : {one other : Geometry} {images end : ℕ} → Alike one other images end → (v image : ℕ) → v < volume_sectors one.head end → image < images →
    coefficient one (home_row one.head v) (home_item one.head v) image ≡ coefficient other (home_row other.head v) (home_item other.head v) image
same_coefficient {one = one} {other = other} {images = images} {end = end} two v image below lt =
    let long = same_length two in
    let below_other : v < volume_sectors other.head end = omega arith in
    sym (spike_at one images end image (place_of one v) v two.one_ruled below lt (place_below one images end v two.one_ruled below) refl)
    ∙ ap (λ (bytes : List ℕ). slice_index bytes (512 * v)) (two.alike (spikes images (512 * end) image (place_of one v)) (are_images images end image (place_of one v)))
    ∙ spike_at other images end image (place_of one v) v two.other_ruled below_other lt (place_below other images end v two.other_ruled below_other) (sym (same_place two v below))

-- the sector of the volume that begins an item of a row
abbrev first_of : Head → ℕ → ℕ → ℕ
first_of head row item = (row * data_blocks head + item) * head.chunk + 0

first_below : (geo : Geometry) (images end row item : ℕ) → first_fault geo images end ≡ None → row < rows geo.head end → item < data_blocks geo.head → first_of geo.head row item < volume_sectors geo.head end
first_below geo images end row item ruled row_in few =
    let valid = valid_of geo images end ruled in
    let c = geo.head.chunk in
    let some = some_chunk geo.head valid in
    let at : home_sector geo.head (first_of geo.head row item) ≡ row * geo.head.chunk + 0 =
    ap₂ (λ (r t : ℕ). r * geo.head.chunk + t) (made_row geo.head.chunk (data_blocks geo.head) row item 0 some few) (made_at geo.head.chunk (data_blocks geo.head) row item 0 some) in
    let inside : row * geo.head.chunk + 0 < geo.head.chunk * rows geo.head end = mul-add-lt row geo.head.chunk 0 (rows geo.head end) row_in some in
    let turn : geo.head.chunk * rows geo.head end ≡ rows geo.head end * geo.head.chunk = grind arith in
    volume_below (first_of geo.head row item) geo.head.chunk (data_blocks geo.head) (rows geo.head end) some (some_data geo.head valid) (omega arith)

two_items : (head : Head) → IsTrue (is_valid_head head) → 2 ≤ data_blocks head
two_items head valid = let few = enough head valid in omega arith

zero_sector : (geo : Geometry) (images end : ℕ) → first_fault geo images end ≡ None → home_sector geo.head 0 ≡ 0
zero_sector geo images end ruled =
    let small : home_sector geo.head 0 ≤ 0 = sector_small 0 geo.head.chunk (data_blocks geo.head) (some_data geo.head (valid_of geo images end ruled)) in
    omega arith

some_sector : (geo : Geometry) (images end : ℕ) → first_fault geo images end ≡ None → 2 * geo.head.chunk ≤ volume_sectors geo.head end
some_sector geo images end ruled =
    let valid = valid_of geo images end ruled in
    let row : 1 * geo.head.chunk ≤ rows geo.head end * geo.head.chunk = mul-le 1 geo.head.chunk (rows geo.head end) geo.head.chunk (ruled_row geo images end ruled) (omega arith) in
    let both : geo.head.chunk * 2 ≤ rows geo.head end * geo.head.chunk * data_blocks geo.head = mul-le geo.head.chunk 2 (rows geo.head end * geo.head.chunk) (data_blocks geo.head) (omega arith) (two_items geo.head valid) in
    omega arith

same_offset : {one other : Geometry} {images end : ℕ} → Alike one other images end → one.head.offset ≡ other.head.offset
same_offset {one = one} {other = other} {images = images} {end = end} two =
    let chunk = some_chunk one.head (valid_of one images end two.one_ruled) in
    let long = some_sector one images end two.one_ruled in
    let place = same_place two 0 (omega arith) in
    let one_first = zero_sector one images end two.one_ruled in
    let other_first = zero_sector other images end two.other_ruled in
    omega arith

-- a smaller chunk begins its second item sooner
no_smaller : {one other : Geometry} {images end : ℕ} → Alike one other images end → one.head.chunk < other.head.chunk → ⊥
no_smaller {one = one} {other = other} {images = images} {end = end} two less =
    let one_valid = valid_of one images end two.one_ruled in
    let other_valid = valid_of other images end two.other_ruled in
    let some = some_chunk one.head one_valid in
    let items = two_items one.head one_valid in
    let long = some_sector one images end two.one_ruled in
    let v = one.head.chunk in
    let offset = same_offset two in
    let place = same_place two one.head.chunk (omega arith) in
    let one_made : (0 * data_blocks one.head + 1) * one.head.chunk + 0 ≡ one.head.chunk = omega arith in
    let other_made : (0 * data_blocks other.head + 0) * other.head.chunk + one.head.chunk ≡ one.head.chunk = omega arith in
    let one_at : home_sector one.head one.head.chunk ≡ 0 * one.head.chunk + 0 =
    ap (λ (w : ℕ). home_sector one.head w) (sym one_made)
    ∙ ap₂ (λ (r t : ℕ). r * one.head.chunk + t) (made_row one.head.chunk (data_blocks one.head) 0 1 0 some (omega arith)) (made_at one.head.chunk (data_blocks one.head) 0 1 0 some) in
    let other_at : home_sector other.head one.head.chunk ≡ 0 * other.head.chunk + one.head.chunk =
    ap (λ (w : ℕ). home_sector other.head w) (sym other_made)
    ∙ ap₂ (λ (r t : ℕ). r * other.head.chunk + t) (made_row other.head.chunk (data_blocks other.head) 0 0 one.head.chunk less (some_data other.head other_valid)) (made_at other.head.chunk (data_blocks other.head) 0 0 one.head.chunk less) in
    absurd (omega arith)

same_chunk : {one other : Geometry} {images end : ℕ} → Alike one other images end → one.head.chunk ≡ other.head.chunk
same_chunk {one = one} {other = other} {images = images} {end = end} two =
    elim (cases_lt one.head.chunk other.head.chunk) [
      | inl less ↦ absurd (no_smaller two less)
      | inr more ↦ elim (cases_lt other.head.chunk one.head.chunk) [
        | inl less ↦ absurd (no_smaller (turned two) less)
        | inr not_less ↦ omega arith
      ]
    ]

same_items : {one other : Geometry} {images end : ℕ} → Alike one other images end → data_blocks one.head ≡ data_blocks other.head
same_items {one = one} {other = other} {images = images} {end = end} two =
    let some = some_chunk one.head (valid_of one images end two.one_ruled) in
    let row = ruled_row one images end two.one_ruled in
    let chunk = same_chunk two in
    let same_area : area one.head end ≡ area other.head end = ap₂ (λ (r c : ℕ). r * c) (same_rows one.head other.head end (same_offset two) (same_chunk two)) (same_chunk two) in
    let some_area : 1 * 1 ≤ rows one.head end * one.head.chunk = mul-le 1 1 (rows one.head end) one.head.chunk row some in
    eq_of_mul-eq-mul_left (area one.head end) (omega arith) (data_blocks one.head) (data_blocks other.head) (same_length two ∙ ap (λ (a : ℕ). a * data_blocks other.head) (sym same_area))

in_row : {one other : Geometry} {images end : ℕ} → Alike one other images end → (row : ℕ) → row < rows one.head end → AgreeInRow one other images row
in_row {one = one} {other = other} {images = images} {end = end} two row below item image few lt =
    let some = some_chunk one.head (valid_of one images end two.one_ruled) in
    let v = first_of one.head row item in
    let row_is : home_row one.head (first_of one.head row item) ≡ row = made_row one.head.chunk (data_blocks one.head) row item 0 some few in
    let item_is : home_item one.head (first_of one.head row item) ≡ item = made_item one.head.chunk (data_blocks one.head) row item 0 some few in
    ap₂ (λ (r i : ℕ). coefficient one r i image) (sym row_is) (sym item_is)
    ∙ same_coefficient two (first_of one.head row item) image (first_below one images end row item two.one_ruled below few) lt
    ∙ ap₂ (λ (r i : ℕ). coefficient other r i image)
    (sym (same_row one.head other.head (first_of one.head row item) (same_chunk two) (same_items two)) ∙ row_is)
    (sym (same_item one.head other.head (first_of one.head row item) (same_chunk two) (same_items two)) ∙ item_is)

pub alike_give : (one other : Geometry) (images end : ℕ) → first_fault one images end ≡ None → first_fault other images end ≡ None → AreAlike one other images end →
    HaveEqualCoefficients one other images end
alike_give one other images end one_ruled other_ruled alike =
    let two : Alike one other images end = record { one_ruled = one_ruled; other_ruled = other_ruled; alike = alike } in
    record {
      sizes = record { offset = same_offset two; chunk = same_chunk two; items = same_items two };
      rows = λ row lt. in_row two row (omega arith);
    }
