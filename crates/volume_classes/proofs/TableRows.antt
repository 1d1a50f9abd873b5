-- Tables of coefficients, row by row.
use Rattle.std.proofs.Common.{ℕ, zero, suc, ◌≡◌, ◌+◌, ◌*◌, ◌%◌, ◌<◌, ◌≤◌, ◌↔◌, List, ◌∷◌, ◌++◌, map, length, get_or, take, drop, slice_index, refl, sym, ap, ap₂, ◌∙◌, arith, append_assoc, subst}
use Rattle.std.specs.List.{flat_map, range_with_len}
use Rattle.std.proofs.lemmas.List.{append-nil, drop-drop, drop_at, get_or-take, length-take-le, take_at}
use Rattle.std.proofs.lemmas.List.FromFn.{fill_by_all, get_or-map-range_with_len, length-map-range_with_len}
use Rattle.std.proofs.lemmas.Nat.{mod_below, mul-le}
use Rattle.std.proofs.Math.Nat.{mod-le, mul-add, mul-one, mul_comm}
use Rattle.std.specs.Prelude.{IsTrue}
use Rattle.raid_params.proofs.Ruled.{ruled_shape}
use Rattle.raid_params.specs.declared.types.Geometry.{Geometry}
use Rattle.raid_params.specs.declared.types.Head.{Head}
use Rattle.raid_params.specs.Size.{data_blocks, rows}
use Rattle.raid_params.specs.Validity.{is_valid_head}
use Rattle.raid_layouts.proofs.Shapes.{shaped_head}
use Rattle.raid_terms.specs.Role.{turn}
use Rattle.volume_classes.specs.Alike.{AreAlike}
use Rattle.volume_classes.specs.Coefficients.{AgreeInRow, HaveEqualSizes, coefficient, coefficients_of, item_coefficients, own_turns, row_coefficients, told_rows, turn_coefficients, turns}
use Rattle.volume_classes.specs.Stretches.{stretch_end}
use Rattle.volume_classes.specs.Tables.{HasSet, IsTable, RowsAgree}
use Rattle.volume_classes.specs.declared.tables.Table.{Table}
use Rattle.volume_classes.proofs.EqualGive.{same_rows}
use Rattle.volume_classes.proofs.Repeats.{coefficient_stays, coefficient_turn}
use Rattle.volume_classes.proofs.Turns.{early_turn, few_turns, one_turn, short_delay, some_turns}
use Rattle.volume_classes.proofs.Telling.{tell}
use Rattle.volume_classes.proofs.Volumes.{flat_at, flat_long}

-- one piece more
pub flat_more : (f : ℕ → List ℕ) (a n k : ℕ) → a + n ≡ k → flat_map f (range_with_len a (n + 1)) ≡ flat_map f (range_with_len a n) ++ f k
flat_more f a zero k at =
    let one : zero + 1 ≡ suc zero = omega arith in
    let same : a ≡ k = omega arith in
    ap (λ (m : ℕ). flat_map f (range_with_len a m)) one ∙ append-nil (f a) ∙ ap f same
flat_more f a (suc n) k at =
    let more : suc n + 1 ≡ suc (n + 1) = omega arith in
    ap (λ (m : ℕ). flat_map f (range_with_len a m)) more
    ∙ ap (λ (bytes : List ℕ). f a ++ bytes) (flat_more f (a + 1) n k (omega arith)) ∙ sym (append_assoc (f a) (flat_map f (range_with_len (a + 1) n)) (f k))

-- a piece of a text of pieces
pub flat_part : (f : ℕ → List ℕ) (size a n i k : ℕ) → ((x : ℕ) → length (f x) ≡ size) → i < n → a + i ≡ k → take size (drop (size * i) (flat_map f (range_with_len a n))) ≡ f k
flat_part f size a zero i k long below at = absurd (omega arith)
flat_part f size a (suc n) zero k long below at =
    let none : size * 0 ≡ 0 = omega arith in
    let same : a ≡ k = omega arith in
    ap (λ (m : ℕ). take size (drop m (f a ++ flat_map f (range_with_len (a + 1) n)))) none ∙ take_at (f a) (flat_map f (range_with_len (a + 1) n)) size (long a) ∙ ap f same
flat_part f size a (suc n) (suc i) k long below at =
    let more : size * suc i ≡ size + size * i = omega arith in
    ap (λ (m : ℕ). take size (drop m (f a ++ flat_map f (range_with_len (a + 1) n)))) more
    ∙ ap (take size) (sym (drop-drop (size * i) size (f a ++ flat_map f (range_with_len (a + 1) n))) ∙ ap (drop (size * i)) (drop_at (f a) (flat_map f (range_with_len (a + 1) n)) size (long a)))
    ∙ flat_part f size (a + 1) n i k long (omega arith) (omega arith)

-- what was found of an item
pub found_front : (geo : Geometry) (images row item : ℕ) (found : List ℕ) → length found ≡ 512 → images < 256 → ((image : ℕ) → image < 512 → slice_index found image ≡ coefficient geo row item image) →
    take images found ≡ item_coefficients geo images row item
found_front geo images row item found long few bytes =
    fill_by_all (coefficient geo row item) (take images found) images 0 (length-take-le images found (omega arith)) (λ k lt. get_or-take images found k 0 lt ∙ bytes k (omega arith))

pub item_long : (geo : Geometry) (images row item : ℕ) → length (item_coefficients geo images row item) ≡ images
item_long geo images row item = length-map-range_with_len (coefficient geo row item) 0 images

pub row_long : (geo : Geometry) (images row : ℕ) → length (row_coefficients geo images row) ≡ images * data_blocks geo.head
row_long geo images row = flat_long (item_coefficients geo images row) images 0 (data_blocks geo.head) (item_long geo images row)

-- a coefficient in a row
in_row : (geo : Geometry) (images row item image : ℕ) → item < data_blocks geo.head → image < images → get_or (row_coefficients geo images row) (images * item + image) 0 ≡ coefficient geo row item image
in_row geo images row item image few lt =
    flat_at (item_coefficients geo images row) images 0 (data_blocks geo.head) item item image (item_long geo images row) few lt (omega arith)
    ∙ get_or-map-range_with_len (coefficient geo row item) 0 images image image 0 lt (omega arith)

-- equal pieces
flat_same : (f g : ℕ → List ℕ) (a n : ℕ) → ((k : ℕ) → a ≤ k → k < a + n → f k ≡ g k) → flat_map f (range_with_len a n) ≡ flat_map g (range_with_len a n)
flat_same f g a zero same = refl
flat_same f g a (suc n) same = ap₂ (λ (xs ys : List ℕ). xs ++ ys) (same a (omega arith) (omega arith)) (flat_same f g (a + 1) n (λ k from to. same k (omega arith) (omega arith)))

map_same : (f g : ℕ → ℕ) (a n : ℕ) → ((k : ℕ) → a ≤ k → k < a + n → f k ≡ g k) → map f (range_with_len a n) ≡ map g (range_with_len a n)
map_same f g a zero same = refl
map_same f g a (suc n) same = ap₂ (λ (x : ℕ) (xs : List ℕ). x ∷ xs) (same a (omega arith) (omega arith)) (map_same f g (a + 1) n (λ k from to. same k (omega arith) (omega arith)))

-- the first row of the turn of a row, in a period
abbrev kept : Head → ℕ → ℕ
kept head row = turn head row % turns head * head.delay

-- rows that agree are equal, by their turns modulo those of a period
pub equal_rows : (one other : Geometry) (images row : ℕ) → IsTrue (is_valid_head one.head) → IsTrue (is_valid_head other.head) → data_blocks one.head ≡ data_blocks other.head → AgreeInRow one other images row →
    turn_coefficients one images (turn one.head row % turns one.head) ≡ turn_coefficients other images (turn other.head row % turns other.head)
equal_rows one other images row one_valid other_valid items agree =
    flat_same (item_coefficients one images (kept one.head row)) (item_coefficients other images (kept other.head row)) 0 (data_blocks one.head)
    (λ item from below. map_same (coefficient one (kept one.head row) item) (coefficient other (kept other.head row) item) 0 images
    (λ image start lt. sym (coefficient_turn one row item image one_valid) ∙ agree item image (omega arith) (omega arith) ∙ coefficient_turn other row item image other_valid))
    ∙ ap (λ (n : ℕ). flat_map (item_coefficients other images (kept other.head row)) (range_with_len 0 n)) items

pub agree_rows : (one other : Geometry) (images row : ℕ) → IsTrue (is_valid_head one.head) → IsTrue (is_valid_head other.head) → data_blocks one.head ≡ data_blocks other.head →
    turn_coefficients one images (turn one.head row % turns one.head) ≡ turn_coefficients other images (turn other.head row % turns other.head) → AgreeInRow one other images row
agree_rows one other images row one_valid other_valid items same item image few lt =
    coefficient_turn one row item image one_valid
    ∙ sym (in_row one images (kept one.head row) item image few lt)
    ∙ ap (λ (bytes : List ℕ). get_or bytes (images * item + image) 0) same
    ∙ in_row other images (kept other.head row) item image (omega arith) lt
    ∙ sym (coefficient_turn other row item image other_valid)

-- rows of one turn in both sets agree where one of them does
pub stay_alike : (one other : Geometry) (images row later : ℕ) → turn one.head later ≡ turn one.head row → turn other.head later ≡ turn other.head row → AgreeInRow one other images row → AgreeInRow one other images later
stay_alike one other images row later one_turn other_turn agree item image few lt =
    coefficient_stays one later row item image one_turn ∙ agree item image few lt ∙ sym (coefficient_stays other later row item image other_turn)

pub in_stretch : (one other : Geometry) (images row later : ℕ) → IsTrue (is_valid_head one.head) → IsTrue (is_valid_head other.head) → row ≤ later → later < stretch_end one.head other.head row →
    AgreeInRow one other images row → AgreeInRow one other images later
in_stretch one other images row later one_valid other_valid from below agree =
    stay_alike one other images row later (one_turn one.head row later one_valid from (omega arith)) (one_turn other.head row later other_valid from (omega arith)) agree

-- the turns of a table
turn_long : (geo : Geometry) (images t : ℕ) → length (turn_coefficients geo images t) ≡ images * data_blocks geo.head
turn_long geo images t = row_long geo images (t * geo.head.delay)

-- the turn of a row that there is stands in a table
turn_inside : (geo : Geometry) (images end row : ℕ) → IsTrue (is_valid_head geo.head) → row < rows geo.head end → turn geo.head row % turns geo.head < own_turns geo.head end
turn_inside geo images end row valid below =
    let lt : turn geo.head row % turns geo.head < turns geo.head = mod_below (turn geo.head row) (turns geo.head) (some_turns geo.head valid) in
    let small : turn geo.head row % turns geo.head ≤ turn geo.head row = mod-le (turn geo.head row) (turns geo.head) in
    let early : turn geo.head row ≤ row = early_turn geo.head row in
    omega arith

-- the head of a table's set is valid
pub set_valid : (geo : Geometry) (images end : ℕ) (table : Table) → IsTable images end geo table → IsTrue (is_valid_head geo.head)
set_valid geo images end table is = shaped_head geo images (ruled_shape geo images end is.ruled)

pub table_valid : (geo : Geometry) (images end : ℕ) (table : Table) → IsTable images end geo table → IsTrue (is_valid_head table.head)
table_valid geo images end table is = subst (λ (h : Head). IsTrue (is_valid_head h)) (sym is.head) (set_valid geo images end table is)

-- the row of a table
pub table_row : (geo : Geometry) (images end row width : ℕ) (table : Table) → IsTable images end geo table → row < rows geo.head end → width ≡ data_blocks geo.head * images →
    take width (drop (width * (turn geo.head row % turns geo.head)) table.coefficients) ≡ turn_coefficients geo images (turn geo.head row % turns geo.head)
table_row geo images end row width table is below wide =
    let valid = set_valid geo images end table is in
    let inside : turn geo.head row % turns geo.head < own_turns geo.head end = turn_inside geo images end row valid below in
    let size : width ≡ images * data_blocks geo.head = wide ∙ mul_comm (data_blocks geo.head) images in
    ap (λ (bytes : List ℕ). take width (drop (width * (turn geo.head row % turns geo.head)) bytes)) is.coefficients
    ∙ ap (λ (w : ℕ). take w (drop (w * (turn geo.head row % turns geo.head)) (coefficients_of geo images end))) size
    ∙ flat_part (turn_coefficients geo images) (images * data_blocks geo.head) 0 (own_turns geo.head end) (turn geo.head row % turns geo.head) (turn geo.head row % turns geo.head) (turn_long geo images) inside (omega arith)

pub table_fits : (geo : Geometry) (images end row width : ℕ) (table : Table) → IsTable images end geo table → row < rows geo.head end → width ≡ data_blocks geo.head * images →
    width * (turn geo.head row % turns geo.head) + width ≤ length table.coefficients
table_fits geo images end row width table is below wide =
    let valid = set_valid geo images end table is in
    let t = turn geo.head row % turns geo.head in
    let inside : turn geo.head row % turns geo.head < own_turns geo.head end = turn_inside geo images end row valid below in
    let size : width ≡ images * data_blocks geo.head = wide ∙ mul_comm (data_blocks geo.head) images in
    let long : length table.coefficients ≡ images * data_blocks geo.head * own_turns geo.head end = ap length is.coefficients ∙ flat_long (turn_coefficients geo images) (images * data_blocks geo.head) 0 (own_turns geo.head end) (turn_long geo images) in
    let most : width * (turn geo.head row % turns geo.head + 1) ≤ images * data_blocks geo.head * own_turns geo.head end = mul-le width (turn geo.head row % turns geo.head + 1) (images * data_blocks geo.head) (own_turns geo.head end) (omega arith) (omega arith) in
    let split : width * (turn geo.head row % turns geo.head + 1) ≡ width * (turn geo.head row % turns geo.head) + width = mul-add width (turn geo.head row % turns geo.head) 1 ∙ ap (λ (w : ℕ). width * (turn geo.head row % turns geo.head) + w) (mul-one width) in
    omega arith

-- the first rows of turns are numbered in 64 bits
pub first_fits : (head : Head) (end t : ℕ) → IsTrue (is_valid_head head) → t < own_turns head end → t * head.delay ≤ 24576
first_fits head end t valid below =
    let few = few_turns head valid in
    mul-le t head.delay 24 1024 (omega arith) (short_delay head valid)

-- tables of sets that agree in the rows that tell
pub rows_tell : (one other : Geometry) (images end : ℕ) (a b : Table) → IsTable images end one a → IsTable images end other b → HaveEqualSizes a.head b.head → RowsAgree one other images end ↔ AreAlike one other images end
rows_tell one other images end a b one_is other_is sizes =
    let told = tell one other images end one_is.ruled other_is.ruled in
    let same : HaveEqualSizes one.head other.head = subst (HaveEqualSizes one.head) other_is.head (subst (λ (h : Head). HaveEqualSizes h b.head) one_is.head sizes) in
    (λ rows. told.1 (record { sizes = same; rows = rows }), λ alike. (told.0 alike).rows)

pub apart_sizes : (one other : Geometry) (images end : ℕ) (a b : Table) → IsTable images end one a → IsTable images end other b → (HaveEqualSizes a.head b.head → ⊥) → AreAlike one other images end → ⊥
apart_sizes one other images end a b one_is other_is off alike =
    let told = tell one other images end one_is.ruled other_is.ruled in
    let sizes : HaveEqualSizes one.head other.head = (told.0 alike).sizes in
    off (subst (HaveEqualSizes a.head) (sym other_is.head) (subst (λ (h : Head). HaveEqualSizes h other.head) (sym one_is.head) sizes))

-- the parts of the head of a table
pub head_valid : (images end : ℕ) (table : Table) → HasSet images end table → IsTrue (is_valid_head table.head)
head_valid images end table has = table_valid has.0 images end table has.1

-- the rows that tell, by tables
pub told_is : (one other : Geometry) (images end : ℕ) (a b : Table) → IsTable images end one a → IsTable images end other b → told_rows a.head b.head end ≡ told_rows one.head other.head end
told_is one other images end a b one_is other_is = ap₂ (λ (g h : Head). told_rows g h end) one_is.head other_is.head

pub both_sizes : (one other : Geometry) (images end : ℕ) (a b : Table) → IsTable images end one a → IsTable images end other b → HaveEqualSizes a.head b.head → HaveEqualSizes one.head other.head
both_sizes one other images end a b one_is other_is sizes = subst (HaveEqualSizes one.head) other_is.head (subst (λ (h : Head). HaveEqualSizes h b.head) one_is.head sizes)

pub rows_below : (one other : Geometry) (end row : ℕ) → HaveEqualSizes one.head other.head → row < told_rows one.head other.head end → (row < rows one.head end) × (row < rows other.head end)
rows_below one other end row sizes below = let same = same_rows one.head other.head end sizes.offset sizes.chunk in (omega arith, omega arith)

-- rows of a stretch of two tables
pub in_table_stretch : (one other : Geometry) (images end row later : ℕ) (a b : Table) → IsTable images end one a → IsTable images end other b → row ≤ later → later < stretch_end a.head b.head row →
    AgreeInRow one other images row → AgreeInRow one other images later
in_table_stretch one other images end row later a b one_is other_is from below agree =
    let same : stretch_end a.head b.head row ≡ stretch_end one.head other.head row = ap₂ (λ (g h : Head). stretch_end g h row) one_is.head other_is.head in
    in_stretch one other images row later (set_valid one images end a one_is) (set_valid other images end b other_is) from (omega arith) agree
