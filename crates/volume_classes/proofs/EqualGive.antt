-- Sets with equal coefficients are alike.
use Rattle.std.proofs.Common.{ℕ, ◌≡◌, ◌+◌, ◌-◌, ◌*◌, ◌/◌, ◌%◌, ◌<◌, List, get_or, min, sym, ap, ap₂, ◌∙◌, arith}
use Rattle.std.specs.declared.option.Option.TheVariants.{None}
use Rattle.std.proofs.lemmas.List.{ext_get_or}
use Rattle.std.proofs.lemmas.Nat.{div-add-mod', mod_below}
use Rattle.std.specs.Prelude.{IsTrue}
use Rattle.gf256.specs.Field.{product}
use Rattle.raid_params.proofs.Ruled.{ruled_shape}
use Rattle.raid_params.specs.declared.types.Geometry.{Geometry}
use Rattle.raid_params.specs.declared.types.Head.{Head}
use Rattle.raid_params.specs.Size.{data_blocks, rows, volume_sectors}
use Rattle.raid_params.specs.Validity.{first_fault, is_valid_head}
use Rattle.address_map.proofs.Heads.{some_chunk, some_data}
use Rattle.address_map.proofs.Sectors.{row_below}
use Rattle.raid_layouts.proofs.Shapes.{shaped_head}
use Rattle.raid_terms.specs.Address.{home_item, home_row, home_sector}
use Rattle.raid_terms.specs.Volume.{volume}
use Rattle.volume_classes.specs.Alike.{AreAlike}
use Rattle.volume_classes.specs.Coefficients.{AgreeInRow, HaveEqualCoefficients, coefficient, common_period, period}
use Rattle.volume_classes.proofs.FieldSums.{sum_same}
use Rattle.volume_classes.proofs.Repeats.{coefficient_period}
use Rattle.volume_classes.proofs.Turns.{common_one, common_other, some_common}
use Rattle.volume_classes.proofs.Volumes.{are_sums, byte_of, volume_long, weighed}

-- a row has the coefficients of its number modulo a multiple of the period
multiple : (geo : Geometry) (row item image n : ℕ) → IsTrue (is_valid_head geo.head) → row % n % period geo.head ≡ row % period geo.head → coefficient geo row item image ≡ coefficient geo (row % n) item image
multiple geo row item image n valid e =
    coefficient_period geo row item image valid ∙ ap (λ (r : ℕ). coefficient geo r item image) (sym e) ∙ sym (coefficient_period geo (row % n) item image valid)

turned_below : (row n rows : ℕ) → row < rows → 0 < n → row % n < min rows n
turned_below row n rows below some =
    let lt = mod_below row n some in
    let split : row / n * n + row % n ≡ row = div-add-mod' row n in
    omega arith

-- the rows that tell tell all rows
pub in_each_row : (one other : Geometry) (images end row : ℕ) → IsTrue (is_valid_head one.head) → IsTrue (is_valid_head other.head) → HaveEqualCoefficients one other images end →
    row < rows one.head end → AgreeInRow one other images row
in_each_row one other images end row one_valid other_valid equal below item image few lt =
    let n = common_period one.head other.head in
    multiple one row item image (common_period one.head other.head) one_valid (common_one one.head other.head row)
    ∙ equal.rows (row % common_period one.head other.head) (turned_below row (common_period one.head other.head) (rows one.head end) below (some_common one.head other.head one_valid other_valid)) item image few lt
    ∙ sym (multiple other row item image (common_period one.head other.head) other_valid (common_other one.head other.head row))

-- the parts of a sector's number
pub same_row : (one other : Head) (v : ℕ) → one.chunk ≡ other.chunk → data_blocks one ≡ data_blocks other → home_row one v ≡ home_row other v
same_row one other v chunk items = ap₂ (λ (c d : ℕ). v / c / d) chunk items

pub same_item : (one other : Head) (v : ℕ) → one.chunk ≡ other.chunk → data_blocks one ≡ data_blocks other → home_item one v ≡ home_item other v
same_item one other v chunk items = ap₂ (λ (c d : ℕ). v / c % d) chunk items

same_sector : (one other : Head) (v : ℕ) → one.chunk ≡ other.chunk → data_blocks one ≡ data_blocks other → home_sector one v ≡ home_sector other v
same_sector one other v chunk items = ap₂ (λ (c d : ℕ). v / c / d * c + v % c) chunk items

-- sets of the same sizes have volumes of the same length
pub same_rows : (one other : Head) (end : ℕ) → one.offset ≡ other.offset → one.chunk ≡ other.chunk → rows one end ≡ rows other end
same_rows one other end offset chunk = ap₂ (λ (o c : ℕ). (end - o) / c) offset chunk

same_volume_sectors : (one other : Head) (end : ℕ) → one.offset ≡ other.offset → one.chunk ≡ other.chunk → data_blocks one ≡ data_blocks other → volume_sectors one end ≡ volume_sectors other end
same_volume_sectors one other end offset chunk items =
    ap₂ (λ (n d : ℕ). n * d) (ap₂ (λ (r c : ℕ). r * c) (same_rows one other end offset chunk) chunk) items

-- what is weighed in each byte is the same
same_weighed : (one other : Geometry) (images end : ℕ) (bytes : List (List ℕ)) (v x image : ℕ) → first_fault one images end ≡ None → first_fault other images end ≡ None →
    HaveEqualCoefficients one other images end → v < volume_sectors one.head end → image < images → weighed one bytes v x image ≡ weighed other bytes v x image
same_weighed one other images end bytes v x image one_ruled other_ruled equal below lt =
    let one_valid = shaped_head one images (ruled_shape one images end one_ruled) in
    let other_valid = shaped_head other images (ruled_shape other images end other_ruled) in
    let row : home_row one.head v < rows one.head end = row_below v one.head.chunk (data_blocks one.head) (rows one.head end) (some_chunk one.head one_valid) (some_data one.head one_valid) below in
    let item : home_item one.head v < data_blocks one.head = mod_below (v / one.head.chunk) (data_blocks one.head) (some_data one.head one_valid) in
    ap₂ product
    (in_each_row one other images end (home_row one.head v) one_valid other_valid equal row (home_item one.head v) image item lt
    ∙ ap₂ (λ (r i : ℕ). coefficient other r i image) (same_row one.head other.head v equal.sizes.chunk equal.sizes.items) (same_item one.head other.head v equal.sizes.chunk equal.sizes.items))
    (ap₂ (λ (o t : ℕ). byte_of bytes (512 * (o + t) + x) image) equal.sizes.offset (same_sector one.head other.head v equal.sizes.chunk equal.sizes.items))

-- so the volumes are
pub equal_give : (one other : Geometry) (images end : ℕ) → first_fault one images end ≡ None → first_fault other images end ≡ None → HaveEqualCoefficients one other images end →
    AreAlike one other images end
equal_give one other images end one_ruled other_ruled equal bytes are =
    let sectors = same_volume_sectors one.head other.head end equal.sizes.offset equal.sizes.chunk equal.sizes.items in
    ext_get_or 0 (volume bytes one end) (volume bytes other end) (volume_long bytes one end ∙ ap (λ (n : ℕ). 512 * n) sectors ∙ sym (volume_long bytes other end)) (λ k lt.
    let long = volume_long bytes one end in
    let below : k / 512 < volume_sectors one.head end = omega arith in
    let inside : k % 512 < 512 = omega arith in
    let whole : 512 * (k / 512) + k % 512 ≡ k = omega arith in
    ap (λ (p : ℕ). get_or (volume bytes one end) p 0) (sym whole)
    ∙ are_sums one images end bytes (k / 512) (k % 512) one_ruled are below inside
    ∙ sum_same (weighed one bytes (k / 512) (k % 512)) (weighed other bytes (k / 512) (k % 512)) images
    (λ image image_lt. same_weighed one other images end bytes (k / 512) (k % 512) image one_ruled other_ruled equal below image_lt)
    ∙ sym (are_sums other images end bytes (k / 512) (k % 512) other_ruled are (omega arith) inside)
    ∙ ap (λ (p : ℕ). get_or (volume bytes other end) p 0) whole)
