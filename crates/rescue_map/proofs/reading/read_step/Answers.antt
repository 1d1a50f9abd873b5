use Rattle.std.proofs.Common.{ℕ, ◌≡◌, ◌∙◌, ◌+◌, ◌-◌, ◌*◌, ◌/◌, ◌<◌, Bool, List, Option, cond, length, get_or, None, false, ap, sym, subst, refl, rules, arith}
use Rattle.std.specs.Option.{is_none}
use Rattle.address_map.proofs.Lies.{slot_in}
use Rattle.outside.specs.Attached.{told_all}
use Rattle.outside.specs.Seen.{OnlyReads}
use Rattle.rescue_map.specs.Damaged.{is_unknown}
use Rattle.member_regions.proofs.IfTold.{if_any}
use Rattle.member_regions.proofs.Sets.{reaches_less, testable_head, testable_slots}
use Rattle.member_regions.specs.Members.{held as held_of, Reaches}
use Rattle.raid_params.specs.declared.types.Head.{Head}
use Rattle.raid_terms.specs.Parity.{column_of, member_byte}
use Rattle.rescue_map.specs.Salvaged.{reads_for_all, HoldCells}
use Rattle.rescue_map.specs.Ways.{AreFound, IsWay, sectors_of}
use Rattle.rescue_map.proofs.Adjacent.{held_some, later_lies, run_found, run_reads}
use Rattle.rescue_map.proofs.Blocks.{reads_one}
use Rattle.rescue_map.proofs.Found.{filled_copied, lost_found, ok_told, reads_solved, row_reaches, solved_found, unknown_slot}
use Rattle.rescue_map.proofs.Rows.{home_before, home_in, row_head, row_slots}
use Rattle.rescue_map.proofs.Steps.{first_found}
use Rattle.rescue_map.proofs.reading.read_step.Goals as goal

pub bounds-deref-home : goal.bounds-deref-home
bounds-deref-home g c =
    let damage = c.args.damage.now in
    let set = damage.set.now in
    let home = c.in-Known.home in
    let run = subst (IsWay damage.rescue.now set c.args.first) c.in-Known.is c.requires.way in
    let inside = slot_in set.geo.head home.slot home.sector c.args.first (testable_head set.geo c.requires.set.mendable.shape) run.lies in
    let many = testable_slots set.geo c.requires.set.mendable.shape in
    let same : length c.deref.result.now ≡ length set.geo.slots.items = ap (λ (l : List (Option ℕ)). length l) c.deref.ensures.0 in
    omega arith

pub read_member-requires : goal.read_member-requires
read_member-requires g c =
    let damage = c.args.damage.now in
    let set = damage.set.now in
    let home = c.in-Known.home in
    let attached = (g.I.Images.seen c.args.images.now).attached in
    let valid = testable_head set.geo c.requires.set.mendable.shape in
    let run = subst (IsWay damage.rescue.now set c.args.first) c.in-Known.is c.requires.way in
    let n = c.in-Known.field-1 in
    let count : sectors_of c.args.way.now ≡ n = ap sectors_of c.in-Known.is in
    let some = c.requires.some in
    let long = c.requires.part.long in
    let within = c.requires.part.within in
    let chunk = run.chunk in
    let near = c.requires.set.mendable.near in
    let last = home_before set.geo.head damage.end home.slot (home.sector + (n - 1)) (c.args.first + (n - 1)) valid
    (later_lies set.geo.head home.slot home.sector c.args.first (n - 1) run.lies (omega arith)) (omega arith) in
    let far = reaches_less attached damage.end (set.geo.head.offset + (home.sector + length c.args.to.now / 512)) set.geo.slots.items c.requires.set.held (omega arith) in
    let slot = slot_in set.geo.head home.slot home.sector c.args.first valid run.lies in
    let many = testable_slots set.geo c.requires.set.mendable.shape in
    record {
      held = subst (λ (l : List (Option ℕ)). Reaches attached (set.geo.head.offset + (home.sector + length c.args.to.now / 512)) (get_or l home.slot None)) (sym c.deref.ensures.0) (far home.slot None (omega arith));
      near = omega arith;
      whole = omega arith;
      some = omega arith;
    }

pub returns-in-Known-clause-told : goal.returns-in-Known-clause-told
returns-in-Known-clause-told g c =
    let damage = c.args.damage.now in
    let set = damage.set.now in
    let home = c.in-Known.home in
    let valid = testable_head set.geo c.requires.set.mendable.shape in
    let run = subst (IsWay damage.rescue.now set c.args.first) c.in-Known.is c.requires.way in
    let n = c.in-Known.field-1 in
    let count : sectors_of c.args.way.now ≡ n = ap sectors_of c.in-Known.is in
    let held = get_or c.deref.result.now home.slot None in
    let here : held ≡ get_or set.geo.slots.items home.slot None = ap (λ (l : List (Option ℕ)). get_or l home.slot None) c.deref.ensures.0 in
    let slot = slot_in set.geo.head home.slot home.sector c.args.first valid run.lies in
    let many = testable_slots set.geo c.requires.set.mendable.shape in
    let long : length c.read_member.new.to ≡ length c.args.to.now = search rules in
    let all = c.requires.part.long in
    let chunk = run.chunk in
    ok_told c.read_member.result (told_all (g.I.Images.seen c.args.images.now).attached)
    (λ bytes. (y : ℕ) → y < length c.read_member.new.to → is_none held ≡ false → get_or c.read_member.new.to y 0 ≡ member_byte bytes set.geo.head.offset home.sector y held)
    (λ bytes. AreFound bytes damage.rescue.now set c.args.first (sectors_of c.args.way.now) c.args.row.now c.read_member.new.to)
    (λ bytes told i x column below small is.
    let known = run.known i (omega arith) in
    filled_copied damage.rescue.now set (c.args.first + i) (get_or c.read_member.new.to (512 * i + x) 0) column known
    ∙ run_found bytes damage.rescue.now set home.slot home.sector c.args.first i x (get_or c.read_member.new.to (512 * i + x) 0) held run.lies (omega arith) (omega arith) here known
    (told (512 * i + x) (omega arith)
    (held_some damage.rescue.now set home.slot (home.sector + i) (c.args.first + i) held (later_lies set.geo.head home.slot home.sector c.args.first i run.lies (omega arith)) (omega arith) here known))
    small)
    c.read_member.ensures.told

pub returns-in-Known-clause-reads : goal.returns-in-Known-clause-reads
returns-in-Known-clause-reads g c =
    let damage = c.args.damage.now in
    let set = damage.set.now in
    let home = c.in-Known.home in
    let run = subst (IsWay damage.rescue.now set c.args.first) c.in-Known.is c.requires.way in
    let n = c.in-Known.field-1 in
    let count : sectors_of c.args.way.now ≡ n = ap sectors_of c.in-Known.is in
    let some = c.requires.some in
    let long = c.requires.part.long in
    let held = get_or c.deref.result.now home.slot None in
    let here : held ≡ get_or set.geo.slots.items home.slot None = ap (λ (l : List (Option ℕ)). get_or l home.slot None) c.deref.ensures.0 in
    let slot = slot_in set.geo.head home.slot home.sector c.args.first (testable_head set.geo c.requires.set.mendable.shape) run.lies in
    let many = testable_slots set.geo c.requires.set.mendable.shape in
    let there = held_some damage.rescue.now set home.slot home.sector c.args.first held run.lies (omega arith) here (subst (λ (v : ℕ). is_unknown damage.rescue.now set v ≡ false) (omega arith) (run.known 0 (omega arith))) in
    record {
      only = run_reads (g.I.Images.seen c.args.images.now) (g.I.Images.seen c.read_member.new.images) damage.rescue.now set c.args.first n (sectors_of c.args.way.now) _ (ap (λ (b : Bool). cond b 0 (length c.args.to.now / 512)) there ∙ omega arith) run.known (omega arith) c.read_member.ensures.reads;
      cause = c.read_member.ensures.cause;
    }

pub read_row-requires : goal.read_row-requires
read_row-requires g c =
    let damage = c.args.damage.now in
    let set = damage.set.now in
    let home = c.in-Found.home in
    let row = c.in-Found.cells in
    let found = subst (IsWay damage.rescue.now set c.args.first) c.in-Found.is c.requires.way in
    let count : sectors_of c.args.way.now ≡ 1 = ap sectors_of c.in-Found.is in
    let within = c.requires.part.within in
    let before = home_before set.geo.head damage.end home.slot home.sector c.args.first (testable_head set.geo c.requires.set.mendable.shape) found.lies (omega arith) in
    let from : row.head.offset ≡ set.geo.head.offset = ap (λ (h : Head). h.offset) (row_head damage.rescue.now set home.sector row found.cells) in
    let near = c.requires.set.mendable.near in
    let slots = row_slots damage.rescue.now set home.sector row found.cells in
    let long = c.requires.part.members in
    record {
      held = row_reaches (g.I.Images.seen c.args.images.now).attached damage.rescue.now set home.sector damage.end (row.head.offset + (home.sector + 1)) row found.cells (omega arith) c.requires.set.held;
      near = omega arith;
      row = omega arith;
    }

pub returns-in-Found-clause-told : goal.returns-in-Found-clause-told
returns-in-Found-clause-told g c =
    let damage = c.args.damage.now in
    let set = damage.set.now in
    let home = c.in-Found.home in
    let row = c.in-Found.cells in
    let found = subst (IsWay damage.rescue.now set c.args.first) c.in-Found.is c.requires.way in
    let slot = home_in damage.rescue.now set home.slot home.sector c.args.first row (testable_head set.geo c.requires.set.mendable.shape) (sym (testable_slots set.geo c.requires.set.mendable.shape)) found.lies found.cells in
    let none = unknown_slot damage.rescue.now set c.args.first home.slot home.sector row found.cells found.lies found.unknown in
    ok_told c.read_row.result (told_all (g.I.Images.seen c.args.images.now).attached)
    (λ bytes. HoldCells bytes row.slots.items row.head.offset home.sector (length row.slots.items) c.read_row.new.row)
    (λ bytes. AreFound bytes damage.rescue.now set c.args.first (sectors_of c.args.way.now) c.read_row.new.row c.args.to.now)
    (λ bytes hold. subst (λ (n : ℕ). AreFound bytes damage.rescue.now set c.args.first n c.read_row.new.row c.args.to.now) (sym (ap sectors_of c.in-Found.is))
    (first_found bytes damage.rescue.now set c.args.first c.read_row.new.row c.args.to.now
    (λ x inside. solved_found bytes damage.rescue.now set c.args.first x (get_or c.args.to.now x 0) home.slot home.sector (length set.geo.slots.items) c.read_row.new.row row
    (testable_head set.geo c.requires.set.mendable.shape) found.cells found.lies none found.few refl hold inside)))
    c.read_row.ensures.told

pub returns-in-Found-clause-reads : goal.returns-in-Found-clause-reads
returns-in-Found-clause-reads g c =
    let damage = c.args.damage.now in
    let set = damage.set.now in
    let home = c.in-Found.home in
    let row = c.in-Found.cells in
    let found = subst (IsWay damage.rescue.now set c.args.first) c.in-Found.is c.requires.way in
    let count : sectors_of c.args.way.now ≡ 1 = ap sectors_of c.in-Found.is in
    record {
      only = subst (λ (n : ℕ). OnlyReads (g.I.Images.seen c.args.images.now) (g.I.Images.seen c.read_row.new.images) n)
          (sym (ap (reads_for_all damage.rescue.now set c.args.first) count ∙ reads_one damage.rescue.now set c.args.first))
          (reads_solved (g.I.Images.seen c.args.images.now) (g.I.Images.seen c.read_row.new.images) damage.rescue.now set c.args.first home.slot home.sector (held_of row.slots.items) row
          found.cells found.lies refl found.unknown found.few c.read_row.ensures.reads.only);
      cause = c.read_row.ensures.reads.cause;
    }

pub returns-in-Lost-clause-told : goal.returns-in-Lost-clause-told
returns-in-Lost-clause-told g c =
    let damage = c.args.damage.now in
    let set = damage.set.now in
    let lost = subst (IsWay damage.rescue.now set c.args.first) c.in-Lost.is c.requires.way in
    if_any (told_all (g.I.Images.seen c.args.images.now).attached)
    (λ bytes. AreFound bytes damage.rescue.now set c.args.first (sectors_of c.args.way.now) c.args.row.now c.args.to.now)
    (λ bytes. subst (λ (n : ℕ). AreFound bytes damage.rescue.now set c.args.first n c.args.row.now c.args.to.now) (sym (ap sectors_of c.in-Lost.is))
    (first_found bytes damage.rescue.now set c.args.first c.args.row.now c.args.to.now
    (λ x inside. lost_found bytes damage.rescue.now set c.args.first x (get_or c.args.to.now x 0) (column_of (length set.geo.slots.items) c.args.row.now x) lost inside)))
