-- What the images of a prefix break, slot by slot.
use Rattle.std.proofs.Common.{◌≡◌, ◌≢◌, ℕ, zero, suc, ◌+◌, ◌-◌, ◌*◌, ◌^◌, ◌<◌, ◌≤◌, min, List, [], length, set, arith, ap, sym, refl, ◌∙◌, Bool, true, false, not, ◌||◌, nat_le, IsTrue, Option, Some, None, inl, inr}
use Rattle.std.proofs.lemmas.Bool.{cases_eq, le-leb}
use Rattle.std.proofs.lemmas.List.{get_or-set_other, get_or-set_same}
use Rattle.std.specs.List.{range_with_len, slice_index, slice_index_or, sum_by}
use Rattle.std.specs.Option.{option_and_then, option_map_or}
use Rattle.raid_layouts.proofs.Levels.{at_most, layout_of}
use Rattle.raid_params.specs.Validity.{is_valid_head}
use Rattle.raid_params.specs.declared.limits.TheConstants.{MOST}
use Rattle.raid_params.specs.declared.types.Head.{Head}
use Rattle.raid_terms.specs.Role.{q_of}
use Rattle.search_plan.specs.declared.plan.Plan.{Plan}
use Rattle.slot_math.specs.Ways.{AllImages}
use Rattle.slot_math.proofs.Held.{held_within, image_below, sum_more}
use Rattle.xor_tables.specs.Heads.{broken_at, broken_by, AreBrokenFrom}
use Rattle.xor_tables.specs.Rows.{needs_table}
use Rattle.xor_tables.specs.Xors.{beside_q, broken_in, rows_hold_by, RowTable}
use Rattle.xor_tables.proofs.Turns.{past}

sum_next : (f : ℕ → ℕ) (n : ℕ) → sum_by f (range_with_len 0 (suc n)) ≡ sum_by f (range_with_len 0 n) + f n
sum_next f n = ap (λ (k : ℕ). sum_by f (range_with_len 0 k)) (let e : suc n ≡ n + 1 = omega arith in e) ∙ sum_more f n

-- the same numbers have the same sum
pub sum_alike : (f g : ℕ → ℕ) (n : ℕ) → ((k : ℕ) → k < n → f k ≡ g k) → sum_by f (range_with_len 0 n) ≡ sum_by g (range_with_len 0 n)
sum_alike f g zero same = refl
sum_alike f g (suc n) same =
    let a = sum_next f n in
    let b = sum_next g n in
    let rest = sum_alike f g n (λ k low. same k (omega arith)) in
    let here = same n (omega arith) in
    omega arith

-- and sums differ by one that changed
sum_changed : (f g : ℕ → ℕ) (s n : ℕ) → s < n → ((k : ℕ) → k ≢ s → f k ≡ g k) → sum_by f (range_with_len 0 n) + g s ≡ sum_by g (range_with_len 0 n) + f s
sum_changed f g s zero low same = absurd (omega arith)
sum_changed f g s (suc n) low same =
    let a = sum_next f n in
    let b = sum_next g n in
    elim (cases_eq s n) [
      | inl e ↦
          let rest = sum_alike f g n (λ k below. same k (λ is. let x : k ≡ s = is in omega arith)) in
          let here : f s ≡ f n = ap f e in
          let there : g s ≡ g n = ap g e in
          omega arith
      | inr ne ↦
          let rest = sum_changed f g s n (let x : s ≢ n = ne in omega arith) same in
          let here = same n (λ is. let x : n ≡ s = is in let y : s ≢ n = ne in omega arith) in
          omega arith
    ]

-- one of them is no greater than their sum
part_within : (f : ℕ → ℕ) (s n : ℕ) → s < n → f s ≤ sum_by f (range_with_len 0 n)
part_within f s zero low = absurd (omega arith)
part_within f s (suc n) low =
    let a = sum_next f n in
    elim (cases_eq s n) [
      | inl e ↦ (let here : f s ≡ f n = ap f e in omega arith)
      | inr ne ↦ (let rest = part_within f s n (let x : s ≢ n = ne in omega arith) in omega arith)
    ]

sum_nothing : (f : ℕ → ℕ) (n : ℕ) → ((k : ℕ) → k < n → f k ≡ 0) → sum_by f (range_with_len 0 n) ≡ 0
sum_nothing f zero none = refl
sum_nothing f (suc n) none =
    let a = sum_next f n in
    let rest = sum_nothing f n (λ k low. none k (omega arith)) in
    let here = none n (omega arith) in
    omega arith

-- where nothing breaks in any slot before one
pub none_before : (placed : List (List ℕ)) (prefix : List (Option ℕ)) (first n : ℕ) → AreBrokenFrom first placed → AllImages MOST prefix → n ≤ first → sum_by (broken_at placed prefix) (range_with_len 0 n) ≡ 0
none_before placed prefix first n none images le = sum_nothing (broken_at placed prefix) n (λ k low. at_slot k (omega arith) (slice_index_or prefix k None) refl)
  where
    at_slot : (k : ℕ) → k < first → (o : Option ℕ) → slice_index_or prefix k None ≡ o → broken_at placed prefix k ≡ 0
    at_slot k low None e = ap (λ (held : Option ℕ). option_map_or (λ i. slice_index (slice_index_or placed k []) i) held 0) e
    at_slot k low (Some i) e =
        ap (λ (held : Option ℕ). option_map_or (λ j. slice_index (slice_index_or placed k []) j) held 0) e
        ∙ none k i low (image_below MOST k i prefix images e)

-- where nothing breaks at all
pub none_broken : (placed : List (List ℕ)) (prefix : List (Option ℕ)) → ((slot i : ℕ) → slice_index (slice_index_or placed slot []) i ≡ 0) → broken_by placed prefix ≡ 0
none_broken placed prefix none = sum_nothing (broken_at placed prefix) (length prefix) (λ k low. at_slot k (slice_index_or prefix k None) refl)
  where
    at_slot : (k : ℕ) (o : Option ℕ) → slice_index_or prefix k None ≡ o → broken_at placed prefix k ≡ 0
    at_slot k None e = ap (λ (held : Option ℕ). option_map_or (λ i. slice_index (slice_index_or placed k []) i) held 0) e
    at_slot k (Some i) e = ap (λ (held : Option ℕ). option_map_or (λ j. slice_index (slice_index_or placed k []) j) held 0) e ∙ none k i

-- where the images break more in one slot, up to the largest number
pub more_broken : (placed : List (List ℕ)) (row more : List ℕ) (slot : ℕ) (prefix : List (Option ℕ)) → slot < length placed → AllImages MOST prefix →
    ((i : ℕ) → i < MOST → slice_index row i ≡ min (slice_index (slice_index_or placed slot []) i + slice_index more i) (2 ^ 64 - 1)) →
    min (broken_by (set placed slot row) prefix) (2 ^ 64 - 1) ≡ min (broken_by placed prefix + option_map_or (λ i. slice_index more i) (slice_index_or prefix slot None) 0) (2 ^ 64 - 1)
more_broken placed row more slot prefix there images is = at_slot (slice_index_or prefix slot None) refl
  where
    now : ℕ → ℕ
    now = broken_at (set placed slot row) prefix

    then : ℕ → ℕ
    then = broken_at placed prefix

    elsewhere : (k : ℕ) → k ≢ slot → now k ≡ then k
    elsewhere k ne = ap (λ (counts : List ℕ). option_map_or (λ i. slice_index counts i) (slice_index_or prefix k None) 0) (get_or-set_other placed slot k row [] ne)

    here : now slot ≡ option_map_or (λ i. slice_index row i) (slice_index_or prefix slot None) 0
    here = ap (λ (counts : List ℕ). option_map_or (λ i. slice_index counts i) (slice_index_or prefix slot None) 0) (get_or-set_same placed slot row [] there)

    at_slot : (o : Option ℕ) → slice_index_or prefix slot None ≡ o →
        min (sum_by now (range_with_len 0 (length prefix))) (2 ^ 64 - 1) ≡ min (sum_by then (range_with_len 0 (length prefix)) + option_map_or (λ i. slice_index more i) (slice_index_or prefix slot None) 0) (2 ^ 64 - 1)
    at_slot None e =
        let nothing : option_map_or (λ i. slice_index more i) (slice_index_or prefix slot None) 0 ≡ 0 = ap (λ (held : Option ℕ). option_map_or (λ i. slice_index more i) held 0) e in
        let before : then slot ≡ 0 = ap (λ (held : Option ℕ). option_map_or (λ i. slice_index (slice_index_or placed slot []) i) held 0) e in
        let after : now slot ≡ 0 = here ∙ ap (λ (held : Option ℕ). option_map_or (λ i. slice_index row i) held 0) e in
        let same : sum_by now (range_with_len 0 (length prefix)) ≡ sum_by then (range_with_len 0 (length prefix))
        = sum_alike now then (length prefix) (λ k low. elim (cases_eq k slot) [
          | inl is ↦ ap now is ∙ after ∙ sym before ∙ sym (ap then is)
          | inr ne ↦ elsewhere k ne
        ]) in
        omega arith
    at_slot (Some i) e =
        let within : slot < length prefix = held_within slot i prefix e in
        let below : i < MOST = image_below MOST slot i prefix images e in
        let nothing : option_map_or (λ j. slice_index more j) (slice_index_or prefix slot None) 0 ≡ slice_index more i = ap (λ (held : Option ℕ). option_map_or (λ j. slice_index more j) held 0) e in
        let before : then slot ≡ slice_index (slice_index_or placed slot []) i = ap (λ (held : Option ℕ). option_map_or (λ j. slice_index (slice_index_or placed slot []) j) held 0) e in
        let after : now slot ≡ slice_index row i = here ∙ ap (λ (held : Option ℕ). option_map_or (λ j. slice_index row j) held 0) e in
        let grown = is i below in
        let sums = sum_changed now then slot (length prefix) within elsewhere in
        let part = part_within then slot (length prefix) within in
        omega arith

-- so a head that needs the table is answered
pub held_by : (plan : Plan) (head : Head) (table : RowTable) (prefix : List (Option ℕ)) (always : ℕ) (placed : List (List ℕ)) → plan.limits.badrows < 2 ^ 55 → needs_table plan head ≡ true →
    min (always + broken_by placed prefix) (2 ^ 64 - 1) ≡ min (broken_in table head.level head prefix) (2 ^ 64 - 1) →
    nat_le (min (always + broken_by placed prefix) (2 ^ 64 - 1)) plan.limits.badrows ≡ rows_hold_by (Some table) plan head prefix
held_by plan head table prefix always placed few needs same =
    ap (λ (n : ℕ). nat_le n plan.limits.badrows) same
    ∙ past (broken_in table head.level head prefix) plan.limits.badrows (omega arith)
    ∙ sym (ap (λ (b : Bool). not b || nat_le (broken_in table head.level head prefix) plan.limits.badrows) needs)

-- and one that needs none
pub held_always : (plan : Plan) (head : Head) (xors : Option RowTable) (prefix : List (Option ℕ)) (placed : List (List ℕ)) → needs_table plan head ≡ false → broken_by placed prefix ≡ 0 →
    nat_le (min (0 + broken_by placed prefix) (2 ^ 64 - 1)) plan.limits.badrows ≡ rows_hold_by xors plan head prefix
held_always plan head xors prefix placed needless none =
    le-leb (min (0 + broken_by placed prefix) (2 ^ 64 - 1)) plan.limits.badrows (omega arith)
    ∙ sym (ap (λ (b : Bool). not b || option_map_or (λ (t : RowTable). nat_le (broken_in t head.level head prefix) plan.limits.badrows) xors false) needless)

-- Q stands in one of the slots
pub q_within : (head : Head) (row slot : ℕ) → IsTrue (is_valid_head head) → q_of head row ≡ Some slot → slot < MOST
q_within head row slot valid at =
    let most = at_most head valid in
    let below = (layout_of head row valid).q_in slot at in
    omega arith

-- what breaks in a turn, by the image on Q
pub on_q_at : (table : RowTable) (head : Head) (prefix : List (Option ℕ)) (turn slot : ℕ) → q_of head (turn * head.delay) ≡ Some slot →
    beside_q table head prefix turn ≡ option_map_or (λ i. slice_index (slice_index_or table.beside turn []) i) (slice_index_or prefix slot None) 0
on_q_at table head prefix turn slot at = ap (λ (q : Option ℕ). option_map_or (λ i. slice_index (slice_index_or table.beside turn []) i) (option_and_then (λ s. slice_index_or prefix s None) q) 0) at

pub off_q_at : (table : RowTable) (head : Head) (prefix : List (Option ℕ)) (turn : ℕ) → q_of head (turn * head.delay) ≡ None → beside_q table head prefix turn ≡ 0
off_q_at table head prefix turn at = ap (λ (q : Option ℕ). option_map_or (λ i. slice_index (slice_index_or table.beside turn []) i) (option_and_then (λ s. slice_index_or prefix s None) q) 0) at
