-- What is known of sets of a sensible shape.
use Rattle.std.proofs.Common.{◌≡◌, ℕ, ◌-◌, true, refl, ◌<◌, ◌≤◌, List, length, get_or, ap, sym, subst, ◌∙◌, arith, Option, Some, None, All, IfSome, IsSomeAnd, slice_get}
use Rattle.std.proofs.lemmas.Option.{slice_get-get_or}
use Rattle.std.specs.Prelude.{IsTrue}
use Rattle.address_map.proofs.Heads.{some_chunk, whole_below}
use Rattle.outside.specs.Seen.{Image}
use Rattle.raid_layouts.proofs.Counts.{cells_length}
use Rattle.raid_layouts.proofs.Shapes.{shaped_head, shaped_images, shaped_slots}
use Rattle.raid_layouts.proofs.Solvable.{row_is}
use Rattle.raid_params.specs.Size.{area, rows}
use Rattle.raid_params.specs.Validity.{is_shaped, is_valid_head}
use Rattle.raid_params.specs.declared.types.Cell.{Cell}
use Rattle.raid_params.specs.declared.types.Geometry.{Geometry}
use Rattle.raid_params.specs.declared.types.Head.{Head}
use Rattle.raid_terms.specs.Cells.{row_cells}
use Rattle.raid_terms.specs.Parity.{IsRow}
use Rattle.member_regions.specs.Members.{IsTestable, Reaches}

pub testable_head : (geo : Geometry) → IsTestable geo → IsTrue (is_valid_head geo.head)
testable_head geo t = shaped_head geo t.images t.shaped

pub testable_slots : (geo : Geometry) → IsTestable geo → length geo.slots.items ≡ geo.head.members
testable_slots geo t = shaped_slots geo t.images t.shaped

pub testable_chunk : (geo : Geometry) → IsTestable geo → 0 < geo.head.chunk
testable_chunk geo t = some_chunk geo.head (testable_head geo t)

-- the cells of its rows can be tested
pub testable_row : (geo : Geometry) (row : ℕ) (cells : List Cell) → IsTestable geo → cells ≡ row_cells geo row → IsRow cells
testable_row geo row cells t are = subst (λ (cs : List Cell). IsRow cs) (sym are) (row_is geo t.images row t.shaped)

-- there is a cell for each slot
pub row_length : (geo : Geometry) (row : ℕ) (cells : List Cell) → cells ≡ row_cells geo row → length cells ≡ length geo.slots.items
row_length geo row cells are = ap (λ (cs : List Cell). length cs) are ∙ cells_length geo.head row 0 geo.slots.items

reaches : (attached : List Image) (end m : ℕ) (slot : Option ℕ) → m ≤ end → All (λ image. end ≤ image.sectors) attached → IfSome slot (λ i. i < length attached) → Reaches attached m slot
reaches attached end m None le long there = tt
reaches attached end m (Some i) le long there =
    let image : Image = get_or attached i (record { sectors = 0; bytes = None }) in
    let far : end ≤ image.sectors = long i (record { sectors = 0; bytes = None }) there in
    let at : slice_get attached i ≡ Some image = slice_get-get_or attached i (record { sectors = 0; bytes = None }) there in
    let enough : m ≤ image.sectors = omega arith in
    subst (λ (o : Option Image). IsSomeAnd o (λ a. m ≤ a.sectors)) (sym at) enough

longer : (n m : ℕ) (image : Option Image) → m ≤ n → IsSomeAnd image (λ a. n ≤ a.sectors) → IsSomeAnd image (λ a. m ≤ a.sectors)
longer n m None le far = far
longer n m (Some image) le far = omega arith

nearer : (attached : List Image) (n m : ℕ) (slot : Option ℕ) → m ≤ n → Reaches attached n slot → Reaches attached m slot
nearer attached n m None le far = tt
nearer attached n m (Some i) le far = longer n m (slice_get attached i) le far

-- and of those that reach to a sector, to any before
pub reaches_less : (attached : List Image) (n m : ℕ) (slots : List (Option ℕ)) → All (Reaches attached n) slots → m ≤ n → All (Reaches attached m) slots
reaches_less attached n m slots all le = λ k d below. nearer attached n m (get_or slots k d) le (all k d below)

-- whole rows end before the end
pub area_below : (head : Head) (end : ℕ) → area head end ≤ end - head.offset
area_below head end = whole_below (end - head.offset) head.chunk (rows head end) refl

-- the slots of a set of a sensible shape hold images that reach as far as all do
pub images_reach : (geo : Geometry) (end m : ℕ) (attached : List Image) → is_shaped geo (length attached) ≡ true → All (λ image. end ≤ image.sectors) attached → m ≤ end → All (Reaches attached m) geo.slots.items
images_reach geo end m attached shaped long le =
    λ k d below. reaches attached end m (get_or geo.slots.items k d) le long (shaped_images geo (length attached) shaped k d below)
