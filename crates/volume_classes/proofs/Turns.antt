-- The turns of rows.
use Rattle.std.proofs.Common.{ℕ, ◌≡◌, ◌+◌, ◌-◌, ◌*◌, ◌/◌, ◌%◌, ◌<◌, ◌≤◌, ◌==◌, Bool, true, false, cond, refl, sym, ap, ◌∙◌, subst, arith, inl, inr}
use Rattle.std.proofs.Math.Nat.{div-le_self, div-lt_iff_lt-mul, div-mul-le_self, dvd-mul_left, dvd-mul_right, lt-div-mul-add, mod-mod_of_dvd, mul-dvd-mul_left}
use Rattle.std.proofs.lemmas.Bool.{cases_lt, eqb-true}
use Rattle.std.proofs.lemmas.Bool.Decides.{nat_tests}
use Rattle.std.proofs.lemmas.Nat.{div-add-mod', div-mul-add, mod-mul-add, mod_below, mul-add-lt, mul-le}
use Rattle.std.specs.Prelude.{IsTrue, nat_eq, nat_le, ◌&&◌, ◌||◌}
use Rattle.raid_params.specs.Validity.{has_delay, has_members, has_pattern, has_syndrome, is_chunk, is_valid_head, moves}
use Rattle.raid_params.specs.declared.limits.TheConstants.{LONGEST_DELAY}
use Rattle.raid_params.specs.declared.types.Head.{Head}
use Rattle.raid_params.specs.declared.types.Pattern.{Pattern}
use Rattle.raid_params.specs.declared.types.Pattern.TheVariants.{Plain, La, Ra, Ls, Rs, ParityFirst, ParityLast, NRestart, NContinue, La6, Ra6, Ls6, Rs6, ParityFirst6}
use Rattle.raid_layouts.proofs.Levels.{at_most, enough, some_delay}
use Rattle.raid_terms.specs.Role.{turn}
use Rattle.volume_classes.specs.Coefficients.{common_period, period, period_of, turns}
use Rattle.volume_classes.specs.Stretches.{stretch_end, turn_end}

-- a period has a turn, and no more of them than an array has members
period_some : (pattern : Pattern) (n : ℕ) → 2 ≤ n → 0 < period_of pattern n
period_some Plain n few = omega arith
period_some La n few = omega arith
period_some Ra n few = omega arith
period_some Ls n few = omega arith
period_some Rs n few = omega arith
period_some ParityFirst n few = omega arith
period_some ParityLast n few = omega arith
period_some NRestart n few = omega arith
period_some NContinue n few = omega arith
period_some La6 n few = omega arith
period_some Ra6 n few = omega arith
period_some Ls6 n few = omega arith
period_some Rs6 n few = omega arith
period_some ParityFirst6 n few = omega arith

period_few : (pattern : Pattern) (n : ℕ) → period_of pattern n ≤ n
period_few Plain n = omega arith
period_few La n = omega arith
period_few Ra n = omega arith
period_few Ls n = omega arith
period_few Rs n = omega arith
period_few ParityFirst n = omega arith
period_few ParityLast n = omega arith
period_few NRestart n = omega arith
period_few NContinue n = omega arith
period_few La6 n = omega arith
period_few Ra6 n = omega arith
period_few Ls6 n = omega arith
period_few Rs6 n = omega arith
period_few ParityFirst6 n = omega arith

pub some_turns : (head : Head) → IsTrue (is_valid_head head) → 0 < turns head
some_turns head valid = period_some head.pattern head.members (let few = enough head valid in omega arith)

pub few_turns : (head : Head) → IsTrue (is_valid_head head) → turns head ≤ 24
few_turns head valid = let few = period_few head.pattern head.members in let most = at_most head valid in omega arith

-- a delay is short
second : (a b : Bool) → IsTrue (a && b) → IsTrue b
second true b h = h
second false b h = absurd (cc)

short : (m : Bool) (delay : ℕ) → IsTrue (nat_eq delay 1 || (m && (nat_le 1 delay && nat_le delay LONGEST_DELAY))) → delay ≤ 1024
short m delay h = grind (arith, nat_tests)

pub short_delay : (head : Head) → IsTrue (is_valid_head head) → head.delay ≤ 1024
short_delay head h =
    let chunk = is_chunk head.chunk && has_delay head.pattern head.delay in
    let syndrome = has_syndrome head.level head.syndrome && chunk in
    let pattern = has_pattern head.level head.pattern && syndrome in
    let in_pattern : IsTrue pattern = second (has_members head.level head.members) pattern h in
    let in_syndrome : IsTrue syndrome = second (has_pattern head.level head.pattern) syndrome in_pattern in
    let in_chunk : IsTrue chunk = second (has_syndrome head.level head.syndrome) chunk in_syndrome in
    short (moves head.pattern) head.delay (second (is_chunk head.chunk) (has_delay head.pattern head.delay) in_chunk)

-- the turn of a row of a period is that of the row, modulo the turns of the period
regroup : (x n y d r : ℕ) → (x * n + y) * d + r ≡ x * (n * d) + (y * d + r)
regroup x n y d r = grind arith

turned : (row d n : ℕ) → 0 < d → 0 < n → row % (d * n) / d ≡ row / d % n
turned row d n some many =
    let inside : row / d % n * d + row % d < d * n = mul-add-lt (row / d % n) d (row % d) n (mod_below (row / d) n many) (mod_below row d some) in
    let turn_round : n * d ≡ d * n = grind arith in
    let whole : row ≡ row / d / n * (d * n) + (row / d % n * d + row % d) =
    sym (div-add-mod' row d) ∙ ap (λ (q : ℕ). q * d + row % d) (sym (div-add-mod' (row / d) n)) ∙ regroup (row / d / n) n (row / d % n) d (row % d)
    ∙ ap (λ (w : ℕ). row / d / n * w + (row / d % n * d + row % d)) turn_round in
    ap (λ (r : ℕ). r % (d * n) / d) whole
    ∙ ap (λ (r : ℕ). r / d) (mod-mul-add (row / d / n) (d * n) (row / d % n * d + row % d) inside)
    ∙ div-mul-add (row / d % n) d (row % d) (mod_below row d some)

pub turn_in : (head : Head) (row : ℕ) → IsTrue (is_valid_head head) → turn head (row % period head) ≡ turn head row % turns head
turn_in head row valid = turned row head.delay (turns head) (some_delay head valid) (some_turns head valid)

-- and that of a turn's first row is the turn
pub turn_of_first : (head : Head) (t : ℕ) → IsTrue (is_valid_head head) → turn head (t * head.delay) ≡ t
turn_of_first head t valid =
    let same : t * head.delay ≡ t * head.delay + 0 = omega arith in
    ap (λ (r : ℕ). r / head.delay) same ∙ div-mul-add t head.delay 0 (some_delay head valid)

pub early_turn : (head : Head) (row : ℕ) → turn head row ≤ row
early_turn head row = div-le_self row head.delay

-- both layouts begin anew after the common period
pub common_one : (one other : Head) (row : ℕ) → row % common_period one other % period one ≡ row % period one
common_one one other row = by (one.delay == other.delay)
  where
    by : (b : Bool) → row % cond b (one.delay * (turns one * turns other)) (period one * period other) % period one ≡ row % period one
    by true = mod-mod_of_dvd (period one) row (mul-dvd-mul_left (turns one) one.delay (dvd-mul_right (turns one) (turns other)))
    by false = mod-mod_of_dvd (period one) row (dvd-mul_right (period one) (period other))

pub common_other : (one other : Head) (row : ℕ) → row % common_period one other % period other ≡ row % period other
common_other one other row = by (one.delay == other.delay) (λ e. eqb-true one.delay other.delay e)
  where
    by : (b : Bool) → (b ≡ true → one.delay ≡ other.delay) → row % cond b (one.delay * (turns one * turns other)) (period one * period other) % period other ≡ row % period other
    by true same =
        subst (λ (d : ℕ). row % (d * (turns one * turns other)) % period other ≡ row % period other) (sym (same refl))
        (mod-mod_of_dvd (period other) row (mul-dvd-mul_left (turns other) other.delay (dvd-mul_left (turns other) (turns one))))
    by false same = mod-mod_of_dvd (period other) row (dvd-mul_left (period other) (period one))

-- which is no longer than both take
some_product : (a b : ℕ) → 0 < a → 0 < b → 0 < a * b
some_product a b a_some b_some = let some : 1 * 1 ≤ a * b = mul-le 1 1 a b a_some b_some in omega arith

pub some_common : (one other : Head) → IsTrue (is_valid_head one) → IsTrue (is_valid_head other) → 0 < common_period one other
some_common one other one_valid other_valid = by (one.delay == other.delay)
  where
    by : (b : Bool) → 0 < cond b (one.delay * (turns one * turns other)) (period one * period other)
    by true = some_product one.delay (turns one * turns other) (some_delay one one_valid) (some_product (turns one) (turns other) (some_turns one one_valid) (some_turns other other_valid))
    by false =
        some_product (period one) (period other)
        (some_product one.delay (turns one) (some_delay one one_valid) (some_turns one one_valid)) (some_product other.delay (turns other) (some_delay other other_valid) (some_turns other other_valid))

-- numbers of turns and rows
pub few_both : (one other : Head) → IsTrue (is_valid_head one) → IsTrue (is_valid_head other) → turns one * turns other ≤ 576
few_both one other one_valid other_valid = mul-le (turns one) (turns other) 24 24 (few_turns one one_valid) (few_turns other other_valid)

pub few_rows : (head : Head) → IsTrue (is_valid_head head) → period head ≤ 24576
few_rows head valid = mul-le head.delay (turns head) 1024 24 (short_delay head valid) (few_turns head valid)

pub few_shared : (one other : Head) → IsTrue (is_valid_head one) → IsTrue (is_valid_head other) → one.delay * (turns one * turns other) ≤ 1024 * 576
few_shared one other one_valid other_valid = mul-le one.delay (turns one * turns other) 1024 576 (short_delay one one_valid) (few_both one other one_valid other_valid)

pub few_apart : (one other : Head) → IsTrue (is_valid_head one) → IsTrue (is_valid_head other) → period one * period other ≤ 24576 * 24576
few_apart one other one_valid other_valid = mul-le (period one) (period other) 24576 24576 (few_rows one one_valid) (few_rows other other_valid)

-- a turn ends behind its rows, and soon
pub past_row : (head : Head) (row : ℕ) → IsTrue (is_valid_head head) → row < turn_end head row
past_row head row valid =
    let past = lt-div-mul-add {a = row} {b = head.delay} (some_delay head valid) in
    let split : (row / head.delay + 1) * head.delay ≡ row / head.delay * head.delay + head.delay = grind arith in
    omega arith

pub soon : (head : Head) (row : ℕ) → turn_end head row ≤ row + head.delay
soon head row =
    let before = div-mul-le_self row head.delay in
    let split : (row / head.delay + 1) * head.delay ≡ row / head.delay * head.delay + head.delay = grind arith in
    omega arith

-- the rows from a row to the end of its turn have one turn
pub one_turn : (head : Head) (row later : ℕ) → IsTrue (is_valid_head head) → row ≤ later → later < turn_end head row → turn head later ≡ turn head row
one_turn head row later valid from below =
    let some = some_delay head valid in
    let most : later / head.delay < row / head.delay + 1 = (div-lt_iff_lt-mul {k = head.delay} {x = later} {y = row / head.delay + 1} some).1 below in
    elim (cases_lt (later / head.delay) (row / head.delay)) [
      | inl less ↦ absurd (let short = (div-lt_iff_lt-mul {k = head.delay} {x = later} {y = row / head.delay} some).0 less in let before = div-mul-le_self row head.delay in omega arith)
      | inr not_less ↦ omega arith
    ]

-- what is left gets less
pub closer : (count row next : ℕ) → row < count → row < next → count - next < count - row
closer count row next below past = omega arith

pub past_both : (one other : Head) (row : ℕ) → IsTrue (is_valid_head one) → IsTrue (is_valid_head other) → row < stretch_end one other row
past_both one other row one_valid other_valid = let a = past_row one row one_valid in let b = past_row other row other_valid in omega arith
