use Rattle.std.proofs.Common.{ℕ, ◌≡◌, ◌∙◌, ◌+◌, ◌-◌, List, Option, length, get_or, None, true, ap, sym, arith}
use Rattle.std.specs.Option.{is_some}
use Rattle.std.proofs.lemmas.Nat.{mod_below}
use Rattle.address_map.proofs.Heads.{some_chunk}
use Rattle.address_map.proofs.Lies.{slot_in}
use Rattle.rescue_map.specs.Damaged.{known_slot}
use Rattle.rescue_map.proofs.Adjacent.{later_known, later_lies, slot_kept, slot_unknown}
use Rattle.rescue_map.proofs.Found.{beyond_home, lost_is}
use Rattle.rescue_map.proofs.Rows.{home_before}
use Rattle.rescue_map.proofs.ways.way_of.Goals as goal

pub bounds-deref-home : goal.bounds-deref-home
bounds-deref-home c =
    let set = c.args.damage.now.set.now in
    let inside = slot_in set.geo.head c.in-Some.home.slot c.in-Some.home.sector c.args.sector c.requires.set.head c.in-Some.ensures.lies in
    let many = c.requires.set.members in
    let same : length c.deref.result.now ≡ length set.geo.slots.items = ap (λ (l : List (Option ℕ)). length l) c.deref.ensures.0 in
    omega arith

pub known_slot-requires : goal.known_slot-requires
known_slot-requires c =
    let damage = c.args.damage.now in
    let set = damage.set.now in
    let before = home_before set.geo.head damage.end c.in-Some.home.slot c.in-Some.home.sector c.args.sector c.requires.set.head c.in-Some.ensures.lies (omega (arith, c.requires.some, c.requires.within)) in
    record { near = let near = c.requires.set.near in omega arith }

pub known_front-known-requires-clause-near : goal.known_front-known-requires-clause-near
known_front-known-requires-clause-near c =
    let damage = c.args.damage.now in
    let set = damage.set.now in
    let n = c.min-run.result in
    let size = c.min-run.ensures in
    let below = mod_below c.args.sector set.geo.head.chunk (some_chunk set.geo.head c.requires.set.head) in
    let some = c.requires.some in
    let within = c.requires.within in
    let near = c.requires.set.near in
    let last = home_before set.geo.head damage.end c.in-Some.home.slot (c.in-Some.home.sector + (n - 1)) (c.args.sector + (n - 1)) c.requires.set.head
    (later_lies set.geo.head c.in-Some.home.slot c.in-Some.home.sector c.args.sector (n - 1) c.in-Some.ensures.lies (omega arith)) (omega arith) in
    omega arith

pub known_front-known-requires-clause-first : goal.known_front-known-requires-clause-first
known_front-known-requires-clause-first c =
    let damage = c.args.damage.now in
    let held = get_or c.deref.result.now c.in-Some.home.slot None in
    slot_kept damage.rescue.now damage.set.now c.in-Some.home.sector held (ap is_some (sym c.known_slot.ensures) ∙ sym c.is_some.ensures ∙ c.if-is_some.true)

pub returns-then-is_some-clause-way : goal.returns-then-is_some-clause-way
returns-then-is_some-clause-way c =
    let damage = c.args.damage.now in
    let set = damage.set.now in
    let home = c.in-Some.home in
    let size = c.min-run.ensures in
    let most = c.known_front-known.ensures.most in
    let below = mod_below c.args.sector set.geo.head.chunk (some_chunk set.geo.head c.requires.set.head) in
    let held = get_or c.deref.result.now home.slot None in
    let here : held ≡ get_or set.geo.slots.items home.slot None = ap (λ (l : List (Option ℕ)). get_or l home.slot None) c.deref.ensures.0 in
    let kept : is_some (known_slot damage.rescue.now set home.sector held) ≡ true = ap is_some (sym c.known_slot.ensures) ∙ sym c.is_some.ensures ∙ c.if-is_some.true in
    let some : is_some held ≡ true = ap is_some (sym (slot_kept damage.rescue.now set home.sector held kept)) ∙ kept in
    let slot = slot_in set.geo.head home.slot home.sector c.args.sector c.requires.set.head c.in-Some.ensures.lies in
    let many = c.requires.set.members in
    record {
      lies = c.in-Some.ensures.lies;
      chunk = omega arith;
      known = λ i less.
          later_known damage.rescue.now set home.slot home.sector c.args.sector i held c.in-Some.ensures.lies (omega arith) (omega arith) here some
          (c.known_front-known.ensures.known (home.sector + i) (omega arith) (omega arith));
    }

pub damaged-row-requires : goal.damaged-row-requires
damaged-row-requires c =
    let damage = c.args.damage.now in
    let set = damage.set.now in
    let before = home_before set.geo.head damage.end c.in-Some.home.slot c.in-Some.home.sector c.args.sector c.requires.set.head c.in-Some.ensures.lies (omega (arith, c.requires.some, c.requires.within)) in
    record { near = let near = c.requires.set.near in omega arith }

pub returns-then-is_beyond-clause-way : goal.returns-then-is_beyond-clause-way
returns-then-is_beyond-clause-way c =
    let damage = c.args.damage.now in
    let set = damage.set.now in
    let home = c.in-Some.home in
    let held = get_or c.deref.result.now home.slot None in
    let here : held ≡ get_or set.geo.slots.items home.slot None = ap (λ (l : List (Option ℕ)). get_or l home.slot None) c.deref.ensures.0 in
    let slot = slot_in set.geo.head home.slot home.sector c.args.sector c.requires.set.head c.in-Some.ensures.lies in
    let many = c.requires.set.members in
    lost_is damage.rescue.now set c.args.sector
    (slot_unknown damage.rescue.now set home.slot home.sector c.args.sector held c.in-Some.ensures.lies (omega arith) here (ap is_some (sym c.known_slot.ensures) ∙ sym c.is_some.ensures ∙ c.if-is_some.false))
    (sym (beyond_home damage.rescue.now set c.args.sector home.slot home.sector c.damaged-row.result c.is_beyond.result c.damaged-row.ensures c.in-Some.ensures.lies c.is_beyond.ensures) ∙ c.if-is_beyond.true)

pub returns-clause-way : goal.returns-clause-way
returns-clause-way c =
    let damage = c.args.damage.now in
    let set = damage.set.now in
    let home = c.in-Some.home in
    let held = get_or c.deref.result.now home.slot None in
    let here : held ≡ get_or set.geo.slots.items home.slot None = ap (λ (l : List (Option ℕ)). get_or l home.slot None) c.deref.ensures.0 in
    let slot = slot_in set.geo.head home.slot home.sector c.args.sector c.requires.set.head c.in-Some.ensures.lies in
    let many = c.requires.set.members in
    record {
      lies = c.in-Some.ensures.lies;
      at = c.in-Some.ensures.row;
      cells = c.damaged-row.ensures;
      unknown = slot_unknown damage.rescue.now set home.slot home.sector c.args.sector held c.in-Some.ensures.lies (omega arith) here (ap is_some (sym c.known_slot.ensures) ∙ sym c.is_some.ensures ∙ c.if-is_some.false);
      few = sym (beyond_home damage.rescue.now set c.args.sector home.slot home.sector c.damaged-row.result c.is_beyond.result c.damaged-row.ensures c.in-Some.ensures.lies c.is_beyond.ensures) ∙ c.if-is_beyond.false;
    }
