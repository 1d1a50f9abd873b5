-- The cells of a row of which some are not known.
use Rattle.std.proofs.Common.{ℕ, ◌≡◌, ◌+◌, ◌<◌, ◌≤◌, IsTrue, true, List, [], ◌∷◌, length, All, refl, sym, ap, subst, arith, Option}
use Rattle.std.specs.List.{cons_option, IsDistinct}
use Rattle.std.specs.Prelude.{nat_eq}
use Rattle.raid_layouts.proofs.Counts.{any_counted, both_numbers, cells_length, count_missing, count_p, count_parity, count_q, counted_any, number_few}
use Rattle.raid_layouts.proofs.Levels.{at_most, enough}
use Rattle.raid_layouts.proofs.Shapes.{shaped_head, shaped_slots}
use Rattle.raid_layouts.proofs.Solvable.{row_is}
use Rattle.raid_params.specs.Size.{redundancy}
use Rattle.raid_params.specs.Slots.{empties}
use Rattle.raid_params.specs.Validity.{is_valid_head}
use Rattle.raid_params.specs.declared.types.Geometry.{Geometry}
use Rattle.raid_params.specs.declared.types.Head.{Head}
use Rattle.raid_terms.specs.Cells.{cells_from, part_of, row_cells}
use Rattle.raid_terms.specs.Parity.{IsRow, exponent_in, exponents, has_q, is_p, is_q}
use Rattle.raid_terms.specs.Role.{p_of, q_of, turn}
use Rattle.member_regions.specs.Members.{IsTestable}

-- the exponents do not depend on which cells are missing
same_exponents : (head : Head) (row a : ℕ) (slots others : List (Option ℕ)) → length slots ≡ length others → exponents (cells_from head row a slots) ≡ exponents (cells_from head row a others)
same_exponents head row a [] [] long = refl
same_exponents head row a [] (other ∷ others) long = absurd (omega arith)
same_exponents head row a (slot ∷ slots) [] long = absurd (omega arith)
same_exponents head row a (slot ∷ slots) (other ∷ others) long =
    ap (cons_option (exponent_in (part_of head row a))) (same_exponents head row (a + 1) slots others (omega arith))

of_head : (head : Head) (row : ℕ) (slots others : List (Option ℕ)) → IsTrue (is_valid_head head) → length slots ≡ head.members → length others ≡ length slots → empties others ≤ redundancy head.level →
    IsRow (cells_from head row 0 slots) → IsRow (cells_from head row 0 others)
of_head head row slots others valid long same kept is =
    let here : length others ≡ head.members = omega arith in
    let cells = cells_length head row 0 others in
    let least = enough head valid in
    let many = at_most head valid in
    let p = count_p head row others valid here in
    let q = count_q head row others valid here in
    let p_was = count_p head row slots valid long in
    let q_was = count_q head row slots valid long in
    let one_p = number_few (p_of head row) in
    let one_q = number_few (q_of head row) in
    let all = both_numbers head.level head.pattern head.members (turn head row) in
    let parity = count_parity (cells_from head row 0 others) in
    let lost = count_missing head row 0 others in
    let had : has_q (cells_from head row 0 others) ≡ true → has_q (cells_from head row 0 slots) ≡ true =
    λ has. let some = any_counted (λ c. is_q c.part) (cells_from head row 0 others) has in counted_any (λ c. is_q c.part) (cells_from head row 0 slots) (omega arith) in
    let numbers = same_exponents head row 0 slots others (sym same) in
    record {
      few = omega arith;
      most = omega arith;
      one_p = omega arith;
      one_q = omega arith;
      beside = λ has. let some = any_counted (λ c. is_p c.part) (cells_from head row 0 slots) (is.beside (had has)) in counted_any (λ c. is_p c.part) (cells_from head row 0 others) (omega arith);
      apart = λ has. subst (λ (l : List ℕ). IsDistinct nat_eq l) numbers (is.apart (had has));
      short = λ has. subst (λ (l : List ℕ). All (λ k. k < 255) l) numbers (is.short (had has));
      missing = omega arith;
    }

-- a row of as many cells, of which no more are missing than the level survives
pub row_of : (geo other : Geometry) (row : ℕ) → IsTestable geo → other.head ≡ geo.head → length other.slots.items ≡ length geo.slots.items → empties other.slots.items ≤ redundancy geo.head.level → IsRow (row_cells other row)
row_of geo other row t heads lengths few =
    subst (λ (h : Head). IsRow (cells_from h row 0 other.slots.items)) (sym heads)
    (of_head geo.head row geo.slots.items other.slots.items (shaped_head geo t.images t.shaped) (shaped_slots geo t.images t.shaped) lengths few (row_is geo t.images row t.shaped))
