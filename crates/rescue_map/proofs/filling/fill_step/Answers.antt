use Rattle.std.proofs.Common.{ℕ, ◌≡◌, ◌∙◌, ◌≤◌, List, Option, length, get_or, None, Some, false, ap, sym, subst, refl, rules, arith}
use Rattle.std.specs.Option.{is_some}
use Rattle.raid_params.specs.Size.{redundancy}
use Rattle.raid_params.specs.Slots.{empties}
use Rattle.raid_params.specs.declared.types.Cell.{Cell}
use Rattle.raid_params.specs.Validity.{is_valid_head}
use Rattle.raid_params.specs.declared.types.Head.{Head}
use Rattle.raid_terms.specs.Parity.{column_of, IsRow}
use Rattle.std.specs.Prelude.{IsTrue}
use Rattle.member_regions.proofs.Sets.{row_length, testable_head, testable_slots}
use Rattle.member_regions.proofs.Solved.{slot_missing}
use Rattle.rescue_map.proofs.Cells.{row_of}
use Rattle.rescue_map.proofs.Found.{beyond_home, few_of, filled_lost, solved_fills, unknown_slot}
use Rattle.rescue_map.specs.Ways.{AreFinished, IsWay, sectors_of}
use Rattle.rescue_map.proofs.Rows.{home_in, row_head, row_level, row_slots}
use Rattle.rescue_map.proofs.Steps.{first_finished, known_finished}
use Rattle.rescue_map.proofs.filling.fill_step.Goals as goal

pub returns-in-Known-clause-finished : goal.returns-in-Known-clause-finished
returns-in-Known-clause-finished c =
    let damage = c.args.damage.now in
    let run = subst (IsWay damage.rescue.now damage.set.now c.args.first) c.in-Known.is c.requires.way in
    subst (λ (n : ℕ). AreFinished damage.rescue.now damage.set.now c.args.first n c.args.row.now c.args.to.now c.args.to.now) (sym (ap sectors_of c.in-Known.is))
    (known_finished damage.rescue.now damage.set.now c.args.first c.in-Known.field-1 c.args.row.now c.args.to.now run.known)

pub row_cells-requires : goal.row_cells-requires
row_cells-requires c =
    let damage = c.args.damage.now in
    let set = damage.set.now in
    let home = c.in-Found.home in
    let row = c.in-Found.cells in
    let found = subst (IsWay damage.rescue.now set c.args.first) c.in-Found.is c.requires.way in
    record {
      head = subst (λ (h : Head). IsTrue (is_valid_head h)) (sym (row_head damage.rescue.now set home.sector row found.cells)) (testable_head set.geo c.requires.set.shape);
      slots =
          row_slots damage.rescue.now set home.sector row found.cells ∙ testable_slots set.geo c.requires.set.shape
          ∙ ap (λ (h : Head). h.members) (sym (row_head damage.rescue.now set home.sector row found.cells));
    }

none_of : (held : Option ℕ) → is_some held ≡ false → held ≡ None
none_of None is = refl
none_of (Some i) is = absurd (cc)

pub solve-requires : goal.solve-requires
solve-requires c =
    let damage = c.args.damage.now in
    let set = damage.set.now in
    let home = c.in-Found.home in
    let row = c.in-Found.cells in
    let found = subst (IsWay damage.rescue.now set c.args.first) c.in-Found.is c.requires.way in
    let few : empties row.slots.items ≤ redundancy row.head.level = few_of (redundancy row.head.level) (empties row.slots.items) (beyond_home damage.rescue.now set c.args.first home.slot home.sector row _ found.cells found.lies refl ∙ found.few) in
    let level = row_level damage.rescue.now set home.sector row found.cells in
    let is = c.deref.ensures.0 ∙ c.row_cells.ensures in
    let cells = row_length row home.row c.deref.result.now is in
    let slots = row_slots damage.rescue.now set home.sector row found.cells in
    let members = c.requires.part.members in
    let inside = home_in damage.rescue.now set home.slot home.sector c.args.first row (testable_head set.geo c.requires.set.shape) (sym (testable_slots set.geo c.requires.set.shape)) found.lies found.cells in
    let none = unknown_slot damage.rescue.now set c.args.first home.slot home.sector row found.cells found.lies found.unknown in
    let count : sectors_of c.args.way.now ≡ 1 = ap sectors_of c.in-Found.is in
    let long = c.requires.part.long in
    record {
      cells =
          subst (λ (cs : List Cell). IsRow cs) (sym is)
          (row_of set.geo row home.row c.requires.set.shape (row_head damage.rescue.now set home.sector row found.cells) slots (omega arith));
      row = omega arith;
      place = omega arith;
      missing = slot_missing row home.row home.slot c.deref.result.now is inside (none_of (get_or row.slots.items home.slot None) none);
      to = omega arith;
    }

pub returns-in-Found-clause-long : goal.returns-in-Found-clause-long
returns-in-Found-clause-long c =
    let count : sectors_of c.args.way.now ≡ 1 = ap sectors_of c.in-Found.is in
    let long = c.requires.part.long in
    let new = c.solve.ensures.length in
    omega arith

pub returns-in-Found-clause-finished : goal.returns-in-Found-clause-finished
returns-in-Found-clause-finished c =
    let damage = c.args.damage.now in
    let set = damage.set.now in
    let home = c.in-Found.home in
    let row = c.in-Found.cells in
    let found = subst (IsWay damage.rescue.now set c.args.first) c.in-Found.is c.requires.way in
    let is = c.deref.ensures.0 ∙ c.row_cells.ensures in
    let cells = row_length row home.row c.deref.result.now is in
    let slots = row_slots damage.rescue.now set home.sector row found.cells in
    subst (λ (n : ℕ). AreFinished damage.rescue.now set c.args.first n c.args.row.now c.args.to.now c.solve.new.to) (sym (ap sectors_of c.in-Found.is))
    (first_finished damage.rescue.now set c.args.first c.args.row.now c.args.to.now c.solve.new.to
    (λ x inside. solved_fills damage.rescue.now set c.args.first home.slot home.sector home.row (length set.geo.slots.items) (get_or c.args.to.now x 0) (get_or c.solve.new.to x 0) x c.deref.result.now c.args.row.now row
    found.cells found.lies found.at is (cells ∙ slots) found.unknown found.few (c.solve.ensures.lost x inside)))

pub returns-in-Lost-clause-finished : goal.returns-in-Lost-clause-finished
returns-in-Lost-clause-finished c =
    let damage = c.args.damage.now in
    let set = damage.set.now in
    let lost = subst (IsWay damage.rescue.now set c.args.first) c.in-Lost.is c.requires.way in
    let count : sectors_of c.args.way.now ≡ 1 = ap sectors_of c.in-Lost.is in
    let long = c.requires.part.long in
    subst (λ (n : ℕ). AreFinished damage.rescue.now set c.args.first n c.args.row.now c.args.to.now c.fill.new.self) (sym count)
    (first_finished damage.rescue.now set c.args.first c.args.row.now c.args.to.now c.fill.new.self
    (λ x inside.
    let zero : get_or c.fill.new.self x 0 ≡ 0 = search rules in
    zero ∙ sym (filled_lost damage.rescue.now set c.args.first (get_or c.args.to.now x 0) (column_of (length set.geo.slots.items) c.args.row.now x) lost)))
