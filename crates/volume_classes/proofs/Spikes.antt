-- Images in which one byte is 1 and all others are 0.
use Rattle.std.proofs.Common.{ℕ, ◌≡◌, ◌≢◌, ◌+◌, ◌*◌, ◌/◌, ◌<◌, ◌≤◌, ◌==◌, Bool, true, false, cond, List, [], map, length, get_or, slice_index, slice_index_or, All, refl, sym, ap, ◌∙◌, arith, subst}
use Rattle.std.specs.List.{range_with_len}
use Rattle.std.specs.Option.{is_none}
use Rattle.std.specs.declared.option.Option.{Option}
use Rattle.std.specs.declared.option.Option.TheVariants.{None, Some}
use Rattle.std.proofs.lemmas.List.{get_or-map, length-map}
use Rattle.std.proofs.lemmas.List.FromFn.{get_or-map-range_with_len, length-map-range_with_len}
use Rattle.std.proofs.lemmas.Nat.{mod_below}
use Rattle.gf256.specs.Field.{product}
use Rattle.gf256.proofs.Products.{product_fits, product_zero}
use Rattle.gf256.proofs.Powers.{product_one}
use Rattle.gf256.proofs.Sums.{sum_fits}
use Rattle.raid_params.proofs.Ruled.{ruled_shape}
use Rattle.raid_params.specs.declared.types.Geometry.{Geometry}
use Rattle.raid_params.specs.Size.{data_blocks, volume_sectors}
use Rattle.raid_params.specs.Validity.{first_fault, is_shaped}
use Rattle.address_map.proofs.Heads.{some_data}
use Rattle.raid_layouts.proofs.Counts.{cells_length}
use Rattle.raid_layouts.proofs.Levels.{item_below}
use Rattle.raid_layouts.proofs.Shapes.{shaped_head, shaped_slots}
use Rattle.raid_layouts.proofs.Solvable.{row_is}
use Rattle.raid_terms.specs.Address.{home_item, home_row, home_sector}
use Rattle.raid_terms.specs.Cells.{row_cells}
use Rattle.raid_terms.specs.Parity.{in_p, in_q}
use Rattle.raid_terms.specs.Role.{item_of}
use Rattle.raid_terms.specs.Volume.{volume}
use Rattle.row_parity.specs.Syndromes.{known_sum}
use Rattle.volume_classes.specs.Alike.{AreImages}
use Rattle.volume_classes.specs.Coefficients.{coefficient, field_sum, found_byte, unit_byte, unit_column}
use Rattle.volume_classes.proofs.Columns.{cell_at, cell_of, found}
use Rattle.volume_classes.proofs.FieldSums.{sum_none, sum_one}
use Rattle.volume_classes.proofs.KnownSums.{unit_fits, units_fit}
use Rattle.volume_classes.proofs.Spots.{spot, spot_here, spot_off}
use Rattle.volume_classes.proofs.Volumes.{are_sums, byte_of, weighed}

-- image j has a 1 at this place
abbrev spike : ℕ → ℕ → ℕ → List ℕ
spike size at byte = map (spot at byte) (range_with_len 0 size)

abbrev pub spikes : ℕ → ℕ → ℕ → ℕ → List (List ℕ)
spikes images size j at = map (λ i. spike size at (spot j 1 i)) (range_with_len 0 images)

each_made : {X : Type 0} (Holds : X → Type 0) (f : ℕ → X) (n : ℕ) → ((i : ℕ) → Holds (f i)) → All Holds (map f (range_with_len 0 n))
each_made Holds f n holds = λ i d lt.
    let long = length-map-range_with_len f 0 n in
    subst Holds (sym (get_or-map-range_with_len f 0 n i i d (omega arith) (omega arith))) (holds i)

spot_fits : (s byte t : ℕ) → byte < 256 → spot s byte t < 256
spot_fits s byte t fit = by (t == s)
  where
    by : (b : Bool) → cond b byte 0 < 256
    by true = fit
    by false = omega arith

pub are_images : (images end j at : ℕ) → AreImages images end (spikes images (512 * end) j at)
are_images images end j at = record {
  many = length-map-range_with_len (λ i. spike (512 * end) at (spot j 1 i)) 0 images;
  long = each_made (λ image. 512 * end ≤ length image) (λ i. spike (512 * end) at (spot j 1 i)) images (λ i. let long = length-map-range_with_len (spot at (spot j 1 i)) 0 (512 * end) in omega arith);
  fit = each_made (λ image. All (λ byte. byte < 256) image) (λ i. spike (512 * end) at (spot j 1 i)) images
      (λ i. each_made (λ byte. byte < 256) (spot at (spot j 1 i)) (512 * end) (λ p. spot_fits at (spot j 1 i) p (spot_fits j 1 i (omega arith))));
}

spike_byte : (images size j at i p : ℕ) → i < images → p < size → byte_of (spikes images size j at) p i ≡ spot at (spot j 1 i) p
spike_byte images size j at i p below inside =
    ap (λ (image : List ℕ). slice_index image p) (get_or-map-range_with_len (λ i. spike size at (spot j 1 i)) 0 images i i [] below (omega arith))
    ∙ get_or-map-range_with_len (spot at (spot j 1 i)) 0 size p p 0 inside (omega arith)

-- coefficients are bytes
found_fits : (geo : Geometry) (images row place image : ℕ) (slot : Option ℕ) → is_shaped geo images ≡ true → place < length geo.slots.items → slice_index_or geo.slots.items place None ≡ slot →
    found_byte (row_cells geo row) (unit_column image geo.slots.items) place slot < 256
found_fits geo images row place image (Some i) shaped below is = subst (λ (x : ℕ). x < 256) (sym (get_or-map (unit_byte image) geo.slots.items place None 0 below)) (unit_fits image (get_or geo.slots.items place None))
found_fits geo images row place image None shaped below is =
    let by = found (row_cells geo row) place (cell_of geo.head row place (get_or geo.slots.items place None)) (row_is geo images row shaped) (cell_at geo row place below) (ap (λ (o : Option ℕ). is_none o) is) in
    let column = unit_column image geo.slots.items in
    subst (λ (x : ℕ). x < 256) (sym (by.finds (unit_column image geo.slots.items) (length-map geo.slots.items (unit_byte image) ∙ sym (cells_length geo.head row 0 geo.slots.items)) (units_fit image geo.slots.items)))
    (sum_fits (product by.a (known_sum in_p (row_cells geo row) (unit_column image geo.slots.items))) (product by.b (known_sum in_q (row_cells geo row) (unit_column image geo.slots.items)))
    (product_fits by.a (known_sum in_p (row_cells geo row) (unit_column image geo.slots.items)) by.a_fits) (product_fits by.b (known_sum in_q (row_cells geo row) (unit_column image geo.slots.items)) by.b_fits))

pub coefficient_fits : (geo : Geometry) (images row item image : ℕ) → is_shaped geo images ≡ true → item < data_blocks geo.head → coefficient geo row item image < 256
coefficient_fits geo images row item image shaped few =
    let lt = item_below geo.head row item (shaped_head geo images shaped) few in
    let long = shaped_slots geo images shaped in
    found_fits geo images row (item_of geo.head row item) image (slice_index_or geo.slots.items (item_of geo.head row item) None) shaped (omega arith) refl

-- where a byte of the volume lies on the images
abbrev pub place_of : Geometry → ℕ → ℕ
place_of geo v = 512 * (geo.head.offset + home_sector geo.head v)

volume_byte : (geo : Geometry) (images end j at v : ℕ) → first_fault geo images end ≡ None → v < volume_sectors geo.head end →
    slice_index (volume (spikes images (512 * end) j at) geo end) (512 * v) ≡ field_sum (weighed geo (spikes images (512 * end) j at) v 0) images
volume_byte geo images end j at v ruled below =
    let same : 512 * v ≡ 512 * v + 0 = omega arith in
    ap (λ (p : ℕ). slice_index (volume (spikes images (512 * end) j at) geo end) p) same
    ∙ are_sums geo images end (spikes images (512 * end) j at) v 0 ruled (are_images images end j at) below (omega arith)

weighed_byte : (geo : Geometry) (images end j at v i : ℕ) → i < images → place_of geo v < 512 * end →
    weighed geo (spikes images (512 * end) j at) v 0 i ≡ product (coefficient geo (home_row geo.head v) (home_item geo.head v) i) (spot at (spot j 1 i) (place_of geo v))
weighed_byte geo images end j at v i below inside =
    let same : 512 * (geo.head.offset + home_sector geo.head v) + 0 ≡ place_of geo v = omega arith in
    ap (product (coefficient geo (home_row geo.head v) (home_item geo.head v) i))
    (ap (λ (p : ℕ). byte_of (spikes images (512 * end) j at) p i) same ∙ spike_byte images (512 * end) j at i (place_of geo v) below inside)

-- the byte of the volume at the 1 is the coefficient
pub spike_at : (geo : Geometry) (images end j at v : ℕ) → first_fault geo images end ≡ None → v < volume_sectors geo.head end → j < images → place_of geo v < 512 * end → place_of geo v ≡ at →
    slice_index (volume (spikes images (512 * end) j at) geo end) (512 * v) ≡ coefficient geo (home_row geo.head v) (home_item geo.head v) j
spike_at geo images end j at v ruled below j_below inside is =
    let shaped = ruled_shape geo images end ruled in
    let few : home_item geo.head v < data_blocks geo.head = mod_below (v / geo.head.chunk) (data_blocks geo.head) (some_data geo.head (shaped_head geo images shaped)) in
    volume_byte geo images end j at v ruled below
    ∙ sum_one (weighed geo (spikes images (512 * end) j at) v 0) images j j_below
    (λ i lt apart. weighed_byte geo images end j at v i lt inside
    ∙ ap (product (coefficient geo (home_row geo.head v) (home_item geo.head v) i)) (spot_here at (spot j 1 i) (place_of geo v) is ∙ spot_off j 1 i apart)
    ∙ product_zero (coefficient geo (home_row geo.head v) (home_item geo.head v) i))
    ∙ weighed_byte geo images end j at v j j_below inside
    ∙ ap (product (coefficient geo (home_row geo.head v) (home_item geo.head v) j)) (spot_here at (spot j 1 j) (place_of geo v) is ∙ spot_here j 1 j refl)
    ∙ product_one (coefficient geo (home_row geo.head v) (home_item geo.head v) j) (coefficient_fits geo images (home_row geo.head v) (home_item geo.head v) j shaped few)

-- and elsewhere it is 0
pub spike_off : (geo : Geometry) (images end j at v : ℕ) → first_fault geo images end ≡ None → v < volume_sectors geo.head end → place_of geo v < 512 * end → place_of geo v ≢ at →
    slice_index (volume (spikes images (512 * end) j at) geo end) (512 * v) ≡ 0
spike_off geo images end j at v ruled below inside off =
    volume_byte geo images end j at v ruled below
    ∙ sum_none (weighed geo (spikes images (512 * end) j at) v 0) images
    (λ i lt. weighed_byte geo images end j at v i lt inside
    ∙ ap (product (coefficient geo (home_row geo.head v) (home_item geo.head v) i)) (spot_off at (spot j 1 i) (place_of geo v) off)
    ∙ product_zero (coefficient geo (home_row geo.head v) (home_item geo.head v) i))
