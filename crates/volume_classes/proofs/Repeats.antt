-- Layouts repeat after a period.
use Rattle.std.proofs.Common.{ℕ, ◌≡◌, ◌+◌, ◌-◌, ◌*◌, ◌%◌, ◌==◌, slice_index_or, List, [], ◌∷◌, refl, sym, ap, ap₂, ◌∙◌, cond, unwrap_or}
use Rattle.std.proofs.Math.Nat.{mod-mod, mod-add-mod}
use Rattle.std.specs.List.{position, range_with_len}
use Rattle.std.specs.Option.{is_none}
use Rattle.std.specs.declared.option.Option.{Option}
use Rattle.std.specs.declared.option.Option.TheVariants.{None, Some}
use Rattle.std.specs.Prelude.{IsTrue}
use Rattle.raid_params.specs.Validity.{is_valid_head}
use Rattle.raid_params.specs.declared.types.Cell.{Cell}
use Rattle.raid_params.specs.declared.types.Geometry.{Geometry}
use Rattle.raid_params.specs.declared.types.Head.{Head}
use Rattle.raid_params.specs.declared.types.Level.{Level}
use Rattle.raid_params.specs.declared.types.Level.TheVariants.{Raid0, Raid5, Raid6}
use Rattle.raid_params.specs.declared.types.Part.{Part}
use Rattle.raid_params.specs.declared.types.Part.TheVariants.{Block, P, Q}
use Rattle.raid_params.specs.declared.types.Pattern.{Pattern}
use Rattle.raid_params.specs.declared.types.Pattern.TheVariants.{Plain, La, Ra, Ls, Rs, ParityFirst, ParityLast, NRestart, NContinue, La6, Ra6, Ls6, Rs6, ParityFirst6}
use Rattle.raid_params.specs.declared.types.Syndrome.{Syndrome}
use Rattle.raid_params.specs.declared.types.Syndrome.TheVariants.{NoQ, AfterQ, ByData, BySlot}
use Rattle.raid_params.specs.Size.{data_blocks}
use Rattle.raid_terms.specs.Cells.{cells_from, part_of, row_cells, stands_in, weight_at}
use Rattle.raid_terms.specs.Exponent.{exponent_by, exponent_of, item_in, number_after_q}
use Rattle.raid_terms.specs.Role.{after, double_item, double_p, double_q, item_at, item_of, over_p, over_p_and_q, p_at, p_of, q_at, q_of, single_item, single_p, turn}
use Rattle.volume_classes.specs.Coefficients.{coefficient, found_byte, period, period_of, turns, unit_column}
use Rattle.volume_classes.specs.Laws.{AreSameRows, RowsRepeat}
use Rattle.volume_classes.proofs.Turns.{turn_in, turn_of_first}

-- a whole turn changes no place
whole : (n row : ℕ) → row % n ≡ row % n % n
whole n row = sym (mod-mod row n)

-- nor the place a row further on
further : (n row : ℕ) → (row + 1) % n ≡ (row % n + 1) % n
further n row = sym (mod-add-mod row n 1)

-- the slot of each item is the same
abbrev SameItems : (ℕ → ℕ) → (ℕ → ℕ) → Type 0
SameItems items others = items ≡ others

abbrev SameSingle : Pattern → ℕ → ℕ → ℕ → Type 0
SameSingle pattern n row other = (single_p pattern n row ≡ single_p pattern n other) × SameItems (λ i. single_item pattern n row i) (λ i. single_item pattern n other i)

single_turn : (pattern : Pattern) (n row : ℕ) → SameSingle pattern n row (row % n)
single_turn La n row = (ap (λ (t : ℕ). n - 1 - t) (whole n row), ap (λ (t : ℕ). λ i. over_p (n - 1 - t) i) (whole n row))
single_turn Ra n row = (whole n row, ap (λ (t : ℕ). λ i. over_p t i) (whole n row))
single_turn Ls n row = (ap (λ (t : ℕ). n - 1 - t) (whole n row), ap (λ (t : ℕ). λ i. (n - 1 - t + 1 + i) % n) (whole n row))
single_turn Rs n row = (whole n row, ap (λ (t : ℕ). λ i. (t + 1 + i) % n) (whole n row))
single_turn ParityFirst n row = (refl, refl)
single_turn _ n row = (refl, refl)

single_period : (pattern : Pattern) (n row : ℕ) → SameSingle pattern n row (row % period_of pattern n)
single_period La6 n row = (refl, refl)
single_period Ra6 n row = (refl, refl)
single_period Ls6 n row = (refl, refl)
single_period Rs6 n row = (refl, refl)
single_period ParityFirst6 n row = (refl, refl)
single_period Plain n row = single_turn Plain n row
single_period La n row = single_turn La n row
single_period Ra n row = single_turn Ra n row
single_period Ls n row = single_turn Ls n row
single_period Rs n row = single_turn Rs n row
single_period ParityFirst n row = single_turn ParityFirst n row
single_period ParityLast n row = single_turn ParityLast n row
single_period NRestart n row = single_turn NRestart n row
single_period NContinue n row = single_turn NContinue n row

abbrev SameDouble : Pattern → ℕ → ℕ → ℕ → Type 0
SameDouble pattern n row other =
    (double_p pattern n row ≡ double_p pattern n other) × (double_q pattern n row ≡ double_q pattern n other) × SameItems (λ i. double_item pattern n row i) (λ i. double_item pattern n other i)

double_period : (pattern : Pattern) (n row : ℕ) → SameDouble pattern n row (row % period_of pattern n)
double_period La n row = (ap (λ (t : ℕ). n - 1 - t) (whole n row), ap (λ (t : ℕ). after n (n - 1 - t)) (whole n row), ap (λ (t : ℕ). λ i. over_p_and_q n (n - 1 - t) i) (whole n row))
double_period Ra n row = (whole n row, ap (λ (t : ℕ). after n t) (whole n row), ap (λ (t : ℕ). λ i. over_p_and_q n t i) (whole n row))
double_period Ls n row = (ap (λ (t : ℕ). n - 1 - t) (whole n row), ap (λ (t : ℕ). (n - 1 - t + 1) % n) (whole n row), ap (λ (t : ℕ). λ i. (n - 1 - t + 2 + i) % n) (whole n row))
double_period Rs n row = (whole n row, ap (λ (t : ℕ). (t + 1) % n) (whole n row), ap (λ (t : ℕ). λ i. (t + 2 + i) % n) (whole n row))
double_period ParityFirst n row = (refl, refl, refl)
double_period ParityLast n row = (refl, refl, refl)
double_period NRestart n row =
    (ap (λ (t : ℕ). n - 1 - t) (further n row), ap (λ (t : ℕ). after n (n - 1 - t)) (further n row), ap (λ (t : ℕ). λ i. over_p_and_q n (n - 1 - t) i) (further n row))
double_period NContinue n row =
    (ap (λ (t : ℕ). n - 1 - t) (whole n row), ap (λ (t : ℕ). (n - 1 - t + n - 1) % n) (whole n row), ap (λ (t : ℕ). λ i. (n - 1 - t + 1 + i) % n) (whole n row))
double_period La6 n row = ((single_turn La (n - 1) row).0, refl, (single_turn La (n - 1) row).1)
double_period Ra6 n row = ((single_turn Ra (n - 1) row).0, refl, (single_turn Ra (n - 1) row).1)
double_period Ls6 n row = ((single_turn Ls (n - 1) row).0, refl, (single_turn Ls (n - 1) row).1)
double_period Rs6 n row = ((single_turn Rs (n - 1) row).0, refl, (single_turn Rs (n - 1) row).1)
double_period ParityFirst6 n row = ((single_turn ParityFirst (n - 1) row).0, refl, (single_turn ParityFirst (n - 1) row).1)
double_period Plain n row = (refl, refl, refl)

p_period : (level : Level) (pattern : Pattern) (n row : ℕ) → p_at level pattern n row ≡ p_at level pattern n (row % period_of pattern n)
p_period Raid0 pattern n row = refl
p_period Raid5 pattern n row = ap (λ (s : ℕ). Some s) (single_period pattern n row).0
p_period Raid6 pattern n row = ap (λ (s : ℕ). Some s) (double_period pattern n row).0

q_period : (level : Level) (pattern : Pattern) (n row : ℕ) → q_at level pattern n row ≡ q_at level pattern n (row % period_of pattern n)
q_period Raid0 pattern n row = refl
q_period Raid5 pattern n row = refl
q_period Raid6 pattern n row = ap (λ (s : ℕ). Some s) (double_period pattern n row).1

item_period : (level : Level) (pattern : Pattern) (n row : ℕ) → SameItems (λ i. item_at level pattern n row i) (λ i. item_at level pattern n (row % period_of pattern n) i)
item_period Raid0 pattern n row = refl
item_period Raid5 pattern n row = (single_period pattern n row).1
item_period Raid6 pattern n row = (double_period pattern n row).2

-- the exponent of a slot by the turn of its row
exponent_at : Syndrome → Head → ℕ → ℕ → ℕ
exponent_at AfterQ head t slot = number_after_q head.members (double_p head.pattern head.members t) (double_q head.pattern head.members t) slot
exponent_at ByData head t slot = unwrap_or (position (λ i. item_at head.level head.pattern head.members t i == slot) (range_with_len 0 (data_blocks head))) 0
exponent_at BySlot head t slot = slot
exponent_at NoQ head t slot = 0

exponent_is : (syndrome : Syndrome) (head : Head) (row slot : ℕ) → exponent_by syndrome head row slot ≡ exponent_at syndrome head (turn head row) slot
unfolding exponent_at item_in
exponent_is AfterQ head row slot = refl
exponent_is ByData head row slot = refl
exponent_is BySlot head row slot = refl
exponent_is NoQ head row slot = refl

exponent_period : (syndrome : Syndrome) (head : Head) (t slot : ℕ) → exponent_at syndrome head t slot ≡ exponent_at syndrome head (t % turns head) slot
unfolding exponent_at
exponent_period AfterQ head t slot =
    ap₂ (λ (p q : ℕ). number_after_q head.members p q slot) (double_period head.pattern head.members t).0 (double_period head.pattern head.members t).1
exponent_period ByData head t slot =
    ap (λ (items : ℕ → ℕ). unwrap_or (position (λ i. items i == slot) (range_with_len 0 (data_blocks head))) 0) (item_period head.level head.pattern head.members t)
exponent_period BySlot head t slot = refl
exponent_period NoQ head t slot = refl

-- rows are the same where their turns are, modulo those of a period
pub same_rows : (head : Head) (row other : ℕ) → turn head row % turns head ≡ turn head other % turns head → AreSameRows head row other
same_rows head row other same = record {
  p = p_period head.level head.pattern head.members (turn head row) ∙ ap (λ (t : ℕ). p_at head.level head.pattern head.members t) same ∙ sym (p_period head.level head.pattern head.members (turn head other));
  q = q_period head.level head.pattern head.members (turn head row) ∙ ap (λ (t : ℕ). q_at head.level head.pattern head.members t) same ∙ sym (q_period head.level head.pattern head.members (turn head other));
  items = λ item.
      ap (λ (items : ℕ → ℕ). items item) (item_period head.level head.pattern head.members (turn head row))
      ∙ ap (λ (t : ℕ). item_at head.level head.pattern head.members t item) same
      ∙ sym (ap (λ (items : ℕ → ℕ). items item) (item_period head.level head.pattern head.members (turn head other)));
  exponents = λ slot.
      exponent_is head.syndrome head row slot ∙ exponent_period head.syndrome head (turn head row) slot
      ∙ ap (λ (t : ℕ). exponent_at head.syndrome head t slot) same
      ∙ sym (exponent_is head.syndrome head other slot ∙ exponent_period head.syndrome head (turn head other) slot);
}

weight_same : (level : Level) (head : Head) (row other slot : ℕ) → exponent_of head row slot ≡ exponent_of head other slot → weight_at level head row slot ≡ weight_at level head other slot
weight_same Raid0 head row other slot e = refl
weight_same Raid5 head row other slot e = refl
weight_same Raid6 head row other slot e = e

part_same : (head : Head) (row other slot : ℕ) → AreSameRows head row other → part_of head row slot ≡ part_of head other slot
part_same head row other slot same =
    ap (λ (p : Option ℕ). cond (stands_in slot p) P (cond (stands_in slot (q_of head row)) Q (Block (weight_at head.level head row slot)))) same.p
    ∙ ap (λ (q : Option ℕ). cond (stands_in slot (p_of head other)) P (cond (stands_in slot q) Q (Block (weight_at head.level head row slot)))) same.q
    ∙ ap (λ (k : ℕ). cond (stands_in slot (p_of head other)) P (cond (stands_in slot (q_of head other)) Q (Block k))) (weight_same head.level head row other slot (same.exponents slot))

cells_same : (head : Head) (row other slot : ℕ) (slots : List (Option ℕ)) → AreSameRows head row other → cells_from head row slot slots ≡ cells_from head other slot slots
cells_same head row other slot [] same = refl
cells_same head row other slot (held ∷ slots) same =
    ap₂ (λ (part : Part) (cells : List Cell). record { part = part; missing = is_none held } ∷ cells) (part_same head row other slot same) (cells_same head row other (slot + 1) slots same)

-- rows with the same roles and exponents have the same coefficients
pub coefficient_same : (geo : Geometry) (row other item image : ℕ) → AreSameRows geo.head row other → coefficient geo row item image ≡ coefficient geo other item image
coefficient_same geo row other item image same =
    ap (λ (cells : List Cell). found_byte cells (unit_column image geo.slots.items) (item_of geo.head row item) (slice_index_or geo.slots.items (item_of geo.head row item) None)) (cells_same geo.head row other 0 geo.slots.items same)
    ∙ ap (λ (slot : ℕ). found_byte (row_cells geo other) (unit_column image geo.slots.items) slot (slice_index_or geo.slots.items slot None)) (same.items item)

-- so the coefficients stay for a turn
pub coefficient_stays : (geo : Geometry) (row other item image : ℕ) → turn geo.head row ≡ turn geo.head other → coefficient geo row item image ≡ coefficient geo other item image
coefficient_stays geo row other item image same = coefficient_same geo row other item image (same_rows geo.head row other (ap (λ (t : ℕ). t % turns geo.head) same))

-- and repeat: those of a row are those of the first row of its turn, in a period
pub coefficient_turn : (geo : Geometry) (row item image : ℕ) → IsTrue (is_valid_head geo.head) → coefficient geo row item image ≡ coefficient geo (turn geo.head row % turns geo.head * geo.head.delay) item image
coefficient_turn geo row item image valid =
    coefficient_same geo row (turn geo.head row % turns geo.head * geo.head.delay) item image
    (same_rows geo.head row (turn geo.head row % turns geo.head * geo.head.delay)
    (sym (mod-mod (turn geo.head row) (turns geo.head)) ∙ ap (λ (t : ℕ). t % turns geo.head) (sym (turn_of_first geo.head (turn geo.head row % turns geo.head) valid))))

pub repeat : RowsRepeat
repeat head row valid = same_rows head row (row % period head) (sym (mod-mod (turn head row) (turns head)) ∙ ap (λ (t : ℕ). t % turns head) (sym (turn_in head row valid)))

pub coefficient_period : (geo : Geometry) (row item image : ℕ) → IsTrue (is_valid_head geo.head) → coefficient geo row item image ≡ coefficient geo (row % period geo.head) item image
coefficient_period geo row item image valid = coefficient_same geo row (row % period geo.head) item image (repeat geo.head row valid)
