-- The bytes of a volume are weighed sums of the bytes of the images.
use Rattle.std.proofs.Common.{ℕ, zero, suc, ◌≡◌, ◌+◌, ◌*◌, ◌/◌, ◌%◌, ◌<◌, List, [], ◌∷◌, ◌++◌, map, length, get_or, slice_index, slice_index_or, All, refl, sym, ap, ap₂, ◌∙◌, arith, inl, inr}
use Rattle.std.specs.List.{flat_map, range_with_len}
use Rattle.std.specs.declared.option.Option.{Option}
use Rattle.std.specs.declared.option.Option.TheVariants.{None, Some}
use Rattle.std.proofs.lemmas.Bool.{cases_lt}
use Rattle.std.proofs.lemmas.List.{get_or-append-add, get_or-map, get_or_append_left, get_or_past, length-append}
use Rattle.std.proofs.lemmas.List.FromFn.{get_or-map-range_with_len, length-map-range_with_len}
use Rattle.std.proofs.lemmas.Nat.{div-mul-add, mod_below}
use Rattle.gf256.specs.Field.{product}
use Rattle.raid_params.specs.declared.types.Geometry.{Geometry}
use Rattle.raid_params.proofs.Ruled.{ruled_shape}
use Rattle.raid_params.specs.Size.{data_blocks, volume_sectors}
use Rattle.address_map.proofs.Heads.{some_chunk, some_data}
use Rattle.raid_layouts.proofs.Levels.{item_below}
use Rattle.raid_layouts.proofs.Shapes.{shaped_head, shaped_slots}
use Rattle.raid_terms.specs.Address.{home_item, home_row, home_sector, home_slot}
use Rattle.raid_terms.specs.Cells.{row_cells}
use Rattle.raid_terms.specs.Parity.{member_byte, member_column}
use Rattle.raid_terms.specs.Solving.{lost_byte}
use Rattle.raid_terms.specs.Volume.{byte_in, member_sector, volume, volume_sector}
use Rattle.volume_classes.specs.Alike.{AreImages}
use Rattle.volume_classes.specs.Coefficients.{coefficient, found_byte}
use Rattle.volume_classes.specs.Laws.{VolumesAreSums}
use Rattle.volume_classes.proofs.Columns.{found_is_sum}
use Rattle.volume_classes.proofs.KnownSums.{held}

-- pieces of one size, one after the other
pub flat_long : (f : ℕ → List ℕ) (size a n : ℕ) → ((x : ℕ) → length (f x) ≡ size) → length (flat_map f (range_with_len a n)) ≡ size * n
flat_long f size a zero long = omega arith
flat_long f size a (suc n) long =
    let rest = flat_long f size (a + 1) n long in
    let first = long a in
    omega (arith, length-append (f a) (flat_map f (range_with_len (a + 1) n)))

pub flat_at : (f : ℕ → List ℕ) (size a n i k j : ℕ) → ((x : ℕ) → length (f x) ≡ size) → i < n → j < size → a + i ≡ k →
    get_or (flat_map f (range_with_len a n)) (size * i + j) 0 ≡ get_or (f k) j 0
flat_at f size a zero i k j long below inside at = absurd (omega arith)
flat_at f size a (suc n) zero k j long below inside at =
    let first = long a in
    let place : size * 0 + j ≡ j = omega arith in
    let same : a ≡ k = omega arith in
    ap (λ (p : ℕ). get_or (f a ++ flat_map f (range_with_len (a + 1) n)) p 0) place
    ∙ get_or_append_left (f a) (flat_map f (range_with_len (a + 1) n)) 0 j (omega arith)
    ∙ ap (λ (x : ℕ). get_or (f x) j 0) same
flat_at f size a (suc n) (suc i) k j long below inside at =
    let first = long a in
    let place : size * suc i + j ≡ length (f a) + (size * i + j) = omega arith in
    ap (λ (p : ℕ). get_or (f a ++ flat_map f (range_with_len (a + 1) n)) p 0) place
    ∙ get_or-append-add (f a) (flat_map f (range_with_len (a + 1) n)) (size * i + j) 0
    ∙ flat_at f size (a + 1) n i k j long (omega arith) inside (omega arith)

sector_long : (bytes : List (List ℕ)) (geo : Geometry) (slot t : ℕ) → length (member_sector bytes geo slot t) ≡ 512
unfolding member_sector
sector_long bytes geo slot t = length-map-range_with_len (λ x. byte_in bytes geo t slot x (slice_index_or geo.slots.items slot None)) 0 512

sector_at : (bytes : List (List ℕ)) (geo : Geometry) (slot t x : ℕ) → x < 512 → get_or (member_sector bytes geo slot t) x 0 ≡ byte_in bytes geo t slot x (slice_index_or geo.slots.items slot None)
unfolding member_sector
sector_at bytes geo slot t x inside = get_or-map-range_with_len (λ x. byte_in bytes geo t slot x (slice_index_or geo.slots.items slot None)) 0 512 x x 0 inside (omega arith)

pub volume_long : (bytes : List (List ℕ)) (geo : Geometry) (end : ℕ) → length (volume bytes geo end) ≡ 512 * volume_sectors geo.head end
volume_long bytes geo end = flat_long (volume_sector bytes geo) 512 0 (volume_sectors geo.head end) (λ v. sector_long bytes geo (home_slot geo.head v) (home_sector geo.head v))

volume_at : (bytes : List (List ℕ)) (geo : Geometry) (end v x : ℕ) → v < volume_sectors geo.head end → x < 512 →
    slice_index (volume bytes geo end) (512 * v + x) ≡ byte_in bytes geo (home_sector geo.head v) (home_slot geo.head v) x (slice_index_or geo.slots.items (home_slot geo.head v) None)
volume_at bytes geo end v x below inside =
    flat_at (volume_sector bytes geo) 512 0 (volume_sectors geo.head end) v v x (λ w. sector_long bytes geo (home_slot geo.head w) (home_sector geo.head w)) below inside (omega arith)
    ∙ sector_at bytes geo (home_slot geo.head v) (home_sector geo.head v) x inside

-- the byte of a slot by its column
byte_found : (bytes : List (List ℕ)) (geo : Geometry) (t row slot x : ℕ) (o : Option ℕ) → t / geo.head.chunk ≡ row → slot < length geo.slots.items → slice_index_or geo.slots.items slot None ≡ o →
    byte_in bytes geo t slot x o ≡ found_byte (row_cells geo row) (member_column bytes geo t x) slot o
byte_found bytes geo t row slot x None at below is = ap (λ (r : ℕ). lost_byte (row_cells geo r) (member_column bytes geo t x) slot) at
byte_found bytes geo t row slot x (Some i) at below is =
    sym (get_or-map (member_byte bytes geo.head.offset t x) geo.slots.items slot None 0 below ∙ ap (member_byte bytes geo.head.offset t x) is)

-- the byte of an image in a column
abbrev pub byte_of : List (List ℕ) → ℕ → ℕ → ℕ
byte_of bytes at image = slice_index (slice_index_or bytes image []) at

held_byte : (bytes : List (List ℕ)) (offset t x : ℕ) (slot : Option ℕ) → member_byte bytes offset t x slot ≡ held (byte_of bytes (512 * (offset + t) + x)) slot
held_byte bytes offset t x None = refl
held_byte bytes offset t x (Some i) = refl

column_held : (bytes : List (List ℕ)) (offset t x : ℕ) (slots : List (Option ℕ)) → map (member_byte bytes offset t x) slots ≡ map (held (byte_of bytes (512 * (offset + t) + x))) slots
column_held bytes offset t x [] = refl
column_held bytes offset t x (slot ∷ slots) = ap₂ (λ (b : ℕ) (bs : List ℕ). b ∷ bs) (held_byte bytes offset t x slot) (column_held bytes offset t x slots)

-- images hold bytes
byte_fits : (image : List ℕ) (at : ℕ) → All (λ byte. byte < 256) image → get_or image at 0 < 256
byte_fits image at fit =
    elim (cases_lt at (length image)) [
      | inl below ↦ fit at 0 below
      | inr past ↦ (let e = get_or_past image at 0 past in omega arith)
    ]

pub bytes_fit : (images end : ℕ) (bytes : List (List ℕ)) (at image : ℕ) → AreImages images end bytes → image < images → byte_of bytes at image < 256
bytes_fit images end bytes at image are below =
    let many = are.many in
    byte_fits (slice_index_or bytes image []) at (are.fit image [] (omega arith))

-- what is weighed in a byte of the volume
abbrev pub weighed : Geometry → List (List ℕ) → ℕ → ℕ → ℕ → ℕ
weighed geo bytes v x image = product (coefficient geo (home_row geo.head v) (home_item geo.head v) image) (byte_of bytes (512 * (geo.head.offset + home_sector geo.head v) + x) image)

pub are_sums : VolumesAreSums
are_sums geo images end bytes v x ruled are below inside =
    let shaped = ruled_shape geo images end ruled in
    let head_valid = shaped_head geo images shaped in
    let slot = home_slot geo.head v in
    let few : home_item geo.head v < data_blocks geo.head = mod_below (v / geo.head.chunk) (data_blocks geo.head) (some_data geo.head head_valid) in
    let slots_long = shaped_slots geo images shaped in
    let slot_in : home_slot geo.head v < length geo.slots.items = (let lt = item_below geo.head (home_row geo.head v) (home_item geo.head v) head_valid few in omega arith) in
    let at : home_sector geo.head v / geo.head.chunk ≡ home_row geo.head v = div-mul-add (home_row geo.head v) geo.head.chunk (v % geo.head.chunk) (mod_below v geo.head.chunk (some_chunk geo.head head_valid)) in
    volume_at bytes geo end v x below inside
    ∙ byte_found bytes geo (home_sector geo.head v) (home_row geo.head v) (home_slot geo.head v) x (slice_index_or geo.slots.items (home_slot geo.head v) None) at slot_in refl
    ∙ ap (λ (column : List ℕ). found_byte (row_cells geo (home_row geo.head v)) column (home_slot geo.head v) (slice_index_or geo.slots.items (home_slot geo.head v) None)) (column_held bytes geo.head.offset (home_sector geo.head v) x geo.slots.items)
    ∙ found_is_sum geo images (home_row geo.head v) (home_slot geo.head v) (slice_index_or geo.slots.items (home_slot geo.head v) None) (byte_of bytes (512 * (geo.head.offset + home_sector geo.head v) + x)) shaped slot_in refl
    (λ image lt. bytes_fit images end bytes (512 * (geo.head.offset + home_sector geo.head v) + x) image are lt)
