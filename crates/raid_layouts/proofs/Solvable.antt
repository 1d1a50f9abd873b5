-- The cells of every row can be solved.
use Rattle.std.proofs.Common.{◌≡◌, ◌≢◌, ℕ, ◌+◌, ◌<◌, ◌≤◌, List, [], ◌∷◌, length, ap, sym, ◌∙◌, refl, arith, Option, Some, None, true, false, Bool, All, nat_eq}
use Rattle.std.proofs.lemmas.Bool.Decides.{nat_tests}
use Rattle.std.proofs.lemmas.List.Elements.{All-from_recursion}
use Rattle.std.specs.List.{AllByRecursion, IsDistinct, cons_option}
use Rattle.std.specs.Prelude.{IsTrue}
use Rattle.raid_params.specs.Validity.{is_shaped, is_valid_head}
use Rattle.raid_params.specs.declared.types.Geometry.{Geometry}
use Rattle.raid_params.specs.declared.types.Head.{Head}
use Rattle.raid_params.specs.declared.types.Level.{Level}
use Rattle.raid_params.specs.declared.types.Level.TheVariants.{Raid6}
use Rattle.raid_terms.specs.Cells.{cells_from, part_of, row_cells, stands_in, weight_at}
use Rattle.raid_terms.specs.Exponent.{HoldsData, exponent_of}
use Rattle.raid_terms.specs.Parity.{IsRow, exponent_in, exponents, has_p, has_q, is_p, is_q}
use Rattle.raid_terms.specs.Role.{p_of, q_of, turn}
use Rattle.raid_layouts.specs.Laws.{EachRowCanBeSolved}
use Rattle.raid_layouts.proofs.Counts.{any_counted, cells_length, count_missing, count_p, count_parity, count_q, counted_any, both_numbers, number, number_few, q_beside, q_level}
use Rattle.raid_layouts.proofs.Levels.{at_most, enough, layout_of}
use Rattle.raid_layouts.proofs.Parts.{chosen, stands_here}
use Rattle.raid_layouts.proofs.Powers.{exponents_are_below_members, exponents_differ}
use Rattle.raid_layouts.proofs.Shapes.{shaped_head, shaped_missing, shaped_slots}

-- a slot whose block Q weighs by 2 to this power
abbrev Weighs : Head → ℕ → ℕ → ℕ → Type 0
Weighs head row slot k = exponent_in (part_of head row slot) ≡ Some k

-- what holds of an exponent, if there is one, and of the others
all_option : (P : ℕ → Type 0) (o : Option ℕ) (xs : List ℕ) → ((k : ℕ) → o ≡ Some k → P k) → AllByRecursion P xs → AllByRecursion P (cons_option o xs)
all_option P None xs one all = all
all_option P (Some k) xs one all = (one k refl, all)

distinct_option : (o : Option ℕ) (xs : List ℕ) → ((k : ℕ) → o ≡ Some k → AllByRecursion (λ j. nat_eq k j ≡ false) xs) → IsDistinct nat_eq xs → IsDistinct nat_eq (cons_option o xs)
unfolding IsDistinct
distinct_option None xs one all = all
distinct_option (Some k) xs one all = (one k refl, all)

-- what holds of the exponent of each slot holds of the exponents
all_exponents : (P : ℕ → Type 0) (head : Head) (row a : ℕ) (slots : List (Option ℕ)) → ((s k : ℕ) → a ≤ s → s < a + length slots → Weighs head row s k → P k) →
    AllByRecursion P (exponents (cells_from head row a slots))
all_exponents P head row a [] each = tt
all_exponents P head row a (held ∷ slots) each =
    all_option P (exponent_in (part_of head row a)) (exponents (cells_from head row (a + 1) slots)) (λ k w. each a k (omega arith) (omega arith) w)
    (all_exponents P head row (a + 1) slots (λ s k le lt w. each s k (omega arith) (omega arith) w))

another : (a b : ℕ) → a ≢ b → nat_eq a b ≡ false
another a b ne = grind (arith, nat_tests)

-- the exponents differ where those of any two slots do
distinct_exponents : (head : Head) (row a : ℕ) (slots : List (Option ℕ)) →
    ((s t k : ℕ) → s < a + length slots → t < a + length slots → Weighs head row s k → Weighs head row t k → s ≡ t) →
    IsDistinct nat_eq (exponents (cells_from head row a slots))
unfolding IsDistinct
distinct_exponents head row a [] once = tt
distinct_exponents head row a (held ∷ slots) once =
    distinct_option (exponent_in (part_of head row a)) (exponents (cells_from head row (a + 1) slots))
    (λ k w. all_exponents (λ j. nat_eq k j ≡ false) head row (a + 1) slots
    (λ s j le lt v. another k j (λ e. let same = once a s j (omega arith) (omega arith) (w ∙ ap (λ (x : ℕ). Some x) e) v in omega arith)))
    (distinct_exponents head row (a + 1) slots (λ s t k ls lt v w. once s t k (omega arith) (omega arith) v w))

-- a data block of level 6, its slot and its exponent
chosen_data : (p q : Bool) (weight k : ℕ) → exponent_in (chosen p q weight) ≡ Some k → (p ≡ false) × (q ≡ false) × (weight ≡ k)
chosen_data true q weight k e = (cc)
chosen_data false true weight k e = (cc)
chosen_data false false weight k e = (refl, refl, cc)

not_there : (slot : ℕ) (place : Option ℕ) → stands_in slot place ≡ false → place ≢ Some slot
not_there slot place off e = let on = stands_here slot place e in cc

weighs_data : (head : Head) (row slot k : ℕ) → IsTrue (is_valid_head head) → slot < head.members → Weighs head row slot k → HoldsData head row slot
weighs_data head row slot k valid inside w =
    let parts = chosen_data (stands_in slot (p_of head row)) (stands_in slot (q_of head row)) (weight_at head.level head row slot) k w in
    let at = (layout_of head row valid).found slot inside (not_there slot (p_of head row) parts.0) (not_there slot (q_of head row) parts.1) in
    (at.0, (at.1, at.2))

weighs_by : (head : Head) (row slot k : ℕ) → head.level ≡ Raid6 → Weighs head row slot k → exponent_of head row slot ≡ k
weighs_by head row slot k six w =
    let parts = chosen_data (stands_in slot (p_of head row)) (stands_in slot (q_of head row)) (weight_at head.level head row slot) k w in
    let at : weight_at head.level head row slot ≡ exponent_of head row slot = ap (λ (l : Level). weight_at l head row slot) six in
    sym at ∙ parts.2

short_row : (head : Head) (row : ℕ) (slots : List (Option ℕ)) → IsTrue (is_valid_head head) → length slots ≡ head.members → head.level ≡ Raid6 →
    All (λ k. k < 255) (exponents (cells_from head row 0 slots))
short_row head row slots valid long six =
    All-from_recursion (λ k. k < 255) (exponents (cells_from head row 0 slots)) (all_exponents (λ k. k < 255) head row 0 slots (λ s k le lt w.
    let inside : s < head.members = omega arith in
    let small = exponents_are_below_members head row s valid six (weighs_data head row s k valid inside w) in
    let is = weighs_by head row s k six w in
    let most = at_most head valid in
    omega arith))

distinct_row : (head : Head) (row : ℕ) (slots : List (Option ℕ)) → IsTrue (is_valid_head head) → length slots ≡ head.members → head.level ≡ Raid6 →
    IsDistinct nat_eq (exponents (cells_from head row 0 slots))
distinct_row head row slots valid long six =
    distinct_exponents head row 0 slots (λ s t k ls lt v w.
    exponents_differ head row s t valid six (weighs_data head row s k valid (omega arith) v) (weighs_data head row t k valid (omega arith) w)
    (weighs_by head row s k six v ∙ sym (weighs_by head row t k six w)))

-- where there is a Q the level is 6
level_of : (head : Head) (row : ℕ) (slots : List (Option ℕ)) → IsTrue (is_valid_head head) → length slots ≡ head.members →
    has_q (cells_from head row 0 slots) ≡ true → 1 ≤ number (q_of head row)
level_of head row slots valid long has =
    let some = any_counted (λ c. is_q c.part) (cells_from head row 0 slots) has in
    let count = count_q head row slots valid long in
    omega arith

beside_row : (head : Head) (row : ℕ) (slots : List (Option ℕ)) → IsTrue (is_valid_head head) → length slots ≡ head.members →
    has_q (cells_from head row 0 slots) ≡ true → has_p (cells_from head row 0 slots) ≡ true
beside_row head row slots valid long has =
    let one = q_beside head.level head.pattern head.members (turn head row) (level_of head row slots valid long has) in
    let count = count_p head row slots valid long in
    counted_any (λ c. is_p c.part) (cells_from head row 0 slots) (omega arith)

-- the cells of every row of an array of a sensible shape
pub row_is : (geo : Geometry) (images row : ℕ) → is_shaped geo images ≡ true → IsRow (row_cells geo row)
row_is geo images row shaped =
    let head = geo.head in
    let slots = geo.slots.items in
    let valid = shaped_head geo images shaped in
    let long = shaped_slots geo images shaped in
    let cells = cells_length head row 0 slots in
    let few = enough head valid in
    let many = at_most head valid in
    let p = count_p head row slots valid long in
    let q = count_q head row slots valid long in
    let one_p = number_few (p_of head row) in
    let one_q = number_few (q_of head row) in
    let all = both_numbers head.level head.pattern head.members (turn head row) in
    let parity = count_parity (cells_from head row 0 slots) in
    let lost = count_missing head row 0 slots in
    let kept = shaped_missing geo images shaped in
    record {
      few = omega arith;
      most = omega arith;
      one_p = omega arith;
      one_q = omega arith;
      beside = beside_row head row slots valid long;
      apart = λ has. distinct_row head row slots valid long (q_level head.level head.pattern head.members (turn head row) (level_of head row slots valid long has));
      short = λ has. short_row head row slots valid long (q_level head.level head.pattern head.members (turn head row) (level_of head row slots valid long has));
      missing = omega arith;
    }

pub each_row : EachRowCanBeSolved
each_row = row_is
