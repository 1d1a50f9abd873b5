-- The exponents of the data slots of a row.
use Rattle.std.proofs.Common.{◌≡◌, ◌≢◌, ℕ, ◌+◌, ◌-◌, ◌%◌, ◌<◌, ◌≤◌, inl, inr, sym, arith, ap, subst, ◌∙◌, refl, Some, None, Bool, true, false, cond, get_or, length}
use Rattle.std.proofs.lemmas.Bool.{cases_lt}
use Rattle.std.proofs.lemmas.Bool.Decides.{nat_tests}
use Rattle.std.proofs.lemmas.List.FromFn.{get_or-range_with_len, length-range_with_len}
use Rattle.std.proofs.lemmas.List.Sums.{position_or_len_is}
use Rattle.std.specs.List.{position, position_or_len, range_with_len}
use Rattle.std.specs.Prelude.{IsTrue, nat_lt, unwrap_or, ◌==◌}
use Rattle.raid_params.specs.declared.types.Head.{Head}
use Rattle.raid_params.specs.declared.types.Level.{Level}
use Rattle.raid_params.specs.declared.types.Level.TheVariants.{Raid6}
use Rattle.raid_params.specs.declared.types.Pattern.{Pattern}
use Rattle.raid_params.specs.declared.types.Syndrome.{Syndrome}
use Rattle.raid_params.specs.declared.types.Syndrome.TheVariants.{NoQ, AfterQ, ByData, BySlot}
use Rattle.raid_params.specs.Size.{data_blocks}
use Rattle.raid_terms.specs.Exponent.{HoldsData, number_after_q, item_in, exponent_by}
use Rattle.raid_params.specs.Validity.{fewest, has_syndrome, is_valid_head}
use Rattle.raid_terms.specs.Role.{HasRole, Item, double_p, double_q, p_at, q_at, p_of, q_of, item_of, turn}
use Rattle.raid_layouts.specs.Laws.{ExponentsAreBelowMembers, ExponentsDiffer}
use Rattle.raid_layouts.proofs.Levels.{enough, layout_of, double_of}
use Rattle.raid_layouts.proofs.Single.{round_behind, round_before}
use Rattle.raid_layouts.proofs.Walks.{number_past_p, number_up_to_p, number_once}

pub data_not_p : (head : Head) (row slot : ℕ) → IsTrue (is_valid_head head) → HoldsData head row slot → p_of head row ≢ Some slot
data_not_p head row slot valid has e = (layout_of head row valid).not_p has.0 has.1.0 (e ∙ ap (λ (x : ℕ). Some x) has.1.1)

pub data_not_q : (head : Head) (row slot : ℕ) → IsTrue (is_valid_head head) → HoldsData head row slot → q_of head row ≢ Some slot
data_not_q head row slot valid has e = (layout_of head row valid).not_q has.0 has.1.0 (e ∙ ap (λ (x : ℕ). Some x) has.1.1)

p_there : (level : Level) (pattern : Pattern) (n row : ℕ) → level ≡ Raid6 → p_at level pattern n row ≡ Some (double_p pattern n row)
p_there level pattern n row e = ap (λ (l : Level). p_at l pattern n row) e

q_there : (level : Level) (pattern : Pattern) (n row : ℕ) → level ≡ Raid6 → q_at level pattern n row ≡ Some (double_q pattern n row)
q_there level pattern n row e = ap (λ (l : Level). q_at l pattern n row) e

pub data_off_p : (head : Head) (row slot : ℕ) → IsTrue (is_valid_head head) → head.level ≡ Raid6 → HoldsData head row slot → slot ≢ double_p head.pattern head.members (turn head row)
data_off_p head row slot valid e has f =
    data_not_p head row slot valid has (p_there head.level head.pattern head.members (turn head row) e ∙ ap (λ (x : ℕ). Some x) (sym f))

pub data_off_q : (head : Head) (row slot : ℕ) → IsTrue (is_valid_head head) → head.level ≡ Raid6 → HoldsData head row slot → slot ≢ double_q head.pattern head.members (turn head row)
data_off_q head row slot valid e has f =
    data_not_q head row slot valid has (q_there head.level head.pattern head.members (turn head row) e ∙ ap (λ (x : ℕ). Some x) (sym f))

four : (level : Level) (n : ℕ) → level ≡ Raid6 → fewest level ≤ n → 4 ≤ n
four level n e h = subst (λ (l : Level). fewest l ≤ n) e h

pub four_members : (head : Head) → IsTrue (is_valid_head head) → head.level ≡ Raid6 → 4 ≤ head.members
four_members head valid e = four head.level head.members e (enough head valid)

-- P and Q of level 6 stand on two slots
pub parity_apart : (head : Head) (row : ℕ) → IsTrue (is_valid_head head) → head.level ≡ Raid6 →
    (double_p head.pattern head.members (turn head row) < head.members) × (double_q head.pattern head.members (turn head row) < head.members)
    × (double_p head.pattern head.members (turn head row) ≢ double_q head.pattern head.members (turn head row))
parity_apart head row valid e =
    let n = four_members head valid e in
    let l = double_of head.pattern head.members (turn head row) (omega arith) in
    (l.p_in, l.q_in, l.p_not_q)

-- the steps of the walk to a slot
record Steps (n q s : ℕ) : Type 0 where
  steps : ℕ
  few : steps < n - 1
  there : s ≡ (q + 1 + steps) % n

steps_to : (n q s : ℕ) → q < n → s < n → s ≢ q → Steps n q s
steps_to n q s h k ne =
    elim (cases_lt s q) [
      | inl lt ↦ record { steps = s + n - q - 1; few = omega arith; there = round_before n q s lt h }
      | inr le ↦ let gt : q < s = omega arith in record { steps = s - q - 1; few = omega arith; there = round_behind n q s k gt }
    ]

number_small : (n p q s : ℕ) → q < n → Steps n q s → Steps n q p → number_after_q n p q s < n
number_small n p q s h a b =
    elim (cases_lt b.steps a.steps) [
      | inl lt ↦ let e = number_past_p n p q s a.steps b.steps h a.few b.few a.there b.there lt in let x = a.few in omega arith
      | inr le ↦ let e = number_up_to_p n p q s a.steps b.steps h a.few b.few a.there b.there le in let x = a.few in omega arith
    ]

data_in : (head : Head) (row slot : ℕ) → IsTrue (is_valid_head head) → HoldsData head row slot → slot < head.members
data_in head row slot valid has =
    let h = (layout_of head row valid).item_in has.0 has.1.0 in
    let e = has.1.1 in
    omega arith

-- a slot of data, with the steps of the walk to it and to P
record Walked (head : Head) (row slot : ℕ) : Type 0 where
  q_in : double_q head.pattern head.members (turn head row) < head.members
  to_slot : Steps head.members (double_q head.pattern head.members (turn head row)) slot
  to_p : Steps head.members (double_q head.pattern head.members (turn head row)) (double_p head.pattern head.members (turn head row))
  off_p : slot ≢ double_p head.pattern head.members (turn head row)

walked : (head : Head) (row slot : ℕ) → IsTrue (is_valid_head head) → head.level ≡ Raid6 → HoldsData head row slot → Walked head row slot
walked head row slot valid six has =
    let apart = parity_apart head row valid six in
    record {
      q_in = apart.1;
      to_slot = steps_to head.members (double_q head.pattern head.members (turn head row)) slot apart.1 (data_in head row slot valid has) (data_off_q head row slot valid six has);
      to_p = steps_to head.members (double_q head.pattern head.members (turn head row)) (double_p head.pattern head.members (turn head row)) apart.1 apart.0 apart.2;
      off_p = data_off_p head row slot valid six has;
    }

item_once : (head : Head) (row slot i j : ℕ) → IsTrue (is_valid_head head) → HasRole head row slot (Item i) → HasRole head row slot (Item j) → j ≡ i
item_once head row slot i j valid a b = (layout_of head row valid).once j i b.0 a.0 (sym b.1 ∙ a.1)

-- the first number that passes is found
first_found : (p : ℕ → Bool) (d i : ℕ) → i < d → ((k : ℕ) → k < i → p k ≡ false) → p i ≡ true → unwrap_or (position p (range_with_len 0 d)) 0 ≡ i
first_found p d i below before here =
    let long : length (range_with_len 0 d) ≡ d = length-range_with_len 0 d in
    let at : (k : ℕ) → k < d → get_or (range_with_len 0 d) k 0 ≡ k = λ k lt. let e = get_or-range_with_len 0 d k 0 lt in omega arith in
    let first : position_or_len p (range_with_len 0 d) ≡ i = position_or_len_is p (range_with_len 0 d) i 0 (omega arith) (λ k lt. ap p (at k (omega arith)) ∙ before k lt) (λ _. ap p (at i below) ∙ here) in
    let found : nat_lt (position_or_len p (range_with_len 0 d)) (length (range_with_len 0 d)) ≡ true = grind (arith, nat_tests) in
    ap (λ (b : Bool). unwrap_or (cond b (Some (position_or_len p (range_with_len 0 d))) None) 0) found ∙ first

another : (a b : ℕ) → a ≢ b → (a == b) ≡ false
another a b ne = grind (arith, nat_tests)

same : (a b : ℕ) → a ≡ b → (a == b) ≡ true
same a b e = grind (arith, nat_tests)

-- the item that a slot holds is the one whose slot it is
pub item_is : (head : Head) (row slot i : ℕ) → IsTrue (is_valid_head head) → i < data_blocks head → slot ≡ item_of head row i → item_in head row slot ≡ i
unfolding item_in
item_is head row slot i valid below at =
    first_found (λ j. item_of head row j == slot) (data_blocks head) i below
    (λ k lt. another (item_of head row k) slot (λ e. let x = item_once head row slot i k valid (below, at) (omega arith, sym e) in omega arith))
    (same (item_of head row i) slot (sym at))

-- the exponent of a data slot is below the members
small_in : (syndrome : Syndrome) (head : Head) (row slot : ℕ) → IsTrue (is_valid_head head) → head.level ≡ Raid6 → HoldsData head row slot →
    exponent_by syndrome head row slot < head.members
small_in AfterQ head row slot valid six has =
    let w = walked head row slot valid six has in
    number_small head.members (double_p head.pattern head.members (turn head row)) (double_q head.pattern head.members (turn head row)) slot w.q_in w.to_slot w.to_p
small_in ByData head row slot valid six has =
    let h = has.1.0 in
    let e = item_is head row slot has.0 valid has.1.0 has.1.1 in
    omega arith
small_in BySlot head row slot valid six has = data_in head row slot valid has
small_in NoQ head row slot valid six has =
    let n = four_members head valid six in
    omega arith

pub exponents_are_below_members : ExponentsAreBelowMembers
exponents_are_below_members head row slot valid six has = small_in head.syndrome head row slot valid six has

-- a head of level 6 has an order
ordered : (level : Level) (syndrome : Syndrome) → level ≡ Raid6 → IsTrue (has_syndrome level syndrome) → syndrome ≢ NoQ
ordered level syndrome e h f =
    let bad : IsTrue (has_syndrome Raid6 NoQ) = subst (λ (s : Syndrome). IsTrue (has_syndrome Raid6 s)) f (subst (λ (l : Level). IsTrue (has_syndrome l syndrome)) e h) in
    (cc)

syndrome_of : (head : Head) → IsTrue (is_valid_head head) → IsTrue (has_syndrome head.level head.syndrome)
syndrome_of head h = grind (arith, nat_tests)

differ : (syndrome : Syndrome) (head : Head) (row s t : ℕ) → syndrome ≢ NoQ → IsTrue (is_valid_head head) → head.level ≡ Raid6 → HoldsData head row s → HoldsData head row t →
    exponent_by syndrome head row s ≡ exponent_by syndrome head row t → s ≡ t
differ AfterQ head row s t ne valid six a b e =
    let v = walked head row s valid six a in
    let w = walked head row t valid six b in
    number_once head.members (double_p head.pattern head.members (turn head row)) (double_q head.pattern head.members (turn head row)) s t _
    v.to_slot.steps w.to_slot.steps v.to_p.steps v.q_in v.to_slot.few w.to_slot.few v.to_p.few v.to_slot.there w.to_slot.there v.to_p.there v.off_p w.off_p refl e
differ ByData head row s t ne valid six a b e =
    let x : item_in head row s ≡ a.0 = item_is head row s a.0 valid a.1.0 a.1.1 in
    let y : item_in head row t ≡ b.0 = item_is head row t b.0 valid b.1.0 b.1.1 in
    let i : a.0 ≡ b.0 = sym x ∙ e ∙ y in
    a.1.1 ∙ ap (λ (j : ℕ). item_of head row j) i ∙ sym b.1.1
differ BySlot head row s t ne valid six a b e = e
differ NoQ head row s t ne valid six a b e = absurd (ne refl)

pub exponents_differ : ExponentsDiffer
exponents_differ head row s t valid six a b e =
    differ head.syndrome head row s t (ordered head.level head.syndrome six (syndrome_of head valid)) valid six a b e
