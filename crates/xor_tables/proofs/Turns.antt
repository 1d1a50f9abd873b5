-- The rows in which a prefix puts an image on Q, counted by their place among as many as there are members.
use Rattle.std.proofs.Common.{◌≡◌, ◌≢◌, ℕ, zero, suc, ◌+◌, ◌-◌, ◌*◌, ◌/◌, ◌%◌, ◌^◌, ◌<◌, ◌≤◌, min, List, [], ◌∷◌, length, Contains, cond, arith, ap, ap₂, sym, refl, subst, ◌∙◌, Bool, true, false, not, ◌==◌, ◌&&◌, ◌||◌, nat_le, Option, Some, None, inl, inr}
use Rattle.std.proofs.Math.Nat.{div-div-eq-div-mul, mod-eq_of_lt, mul-div_cancel}
use Rattle.std.proofs.lemmas.Bool.{and_parts, cases_eq, cases_lt, eq-eqb, eqb-true, ne_eqb, le-leb, lt-leb}
use Rattle.std.proofs.lemmas.Bool.Decides.{nat_tests}
use Rattle.std.proofs.lemmas.Nat.{div-add-mod', mod-mul-add, mod_below, mul-le}
use Rattle.std.specs.List.{count_by, range_with_len, slice_index, slice_index_or, sum_by}
use Rattle.std.specs.Option.{option_and_then, option_map_or}
use Rattle.std.specs.Prelude.{IsTrue}
use Rattle.address_map.proofs.Heads.{whole_below}
use Rattle.raid_layouts.proofs.Counts.{count_cons}
use Rattle.raid_layouts.proofs.Levels.{enough, some_delay}
use Rattle.raid_params.specs.Size.{redundancy}
use Rattle.raid_params.specs.Validity.{fewest, is_valid_head}
use Rattle.raid_params.specs.declared.types.Head.{Head}
use Rattle.raid_params.specs.declared.types.Level.{Level}
use Rattle.raid_params.specs.declared.types.Level.TheVariants.{Raid0, Raid5, Raid6}
use Rattle.raid_params.specs.declared.types.Pattern.{Pattern}
use Rattle.raid_params.specs.declared.types.Pattern.TheVariants.{Plain, La, Ra, Ls, Rs, ParityFirst, ParityLast, NRestart, NContinue, La6, Ra6, Ls6, Rs6, ParityFirst6}
use Rattle.raid_terms.specs.Role.{after, double_q, q_at, q_of}
use Rattle.slot_math.specs.Ways.{AllImages, IsPrefixOf}
use Rattle.search_plan.specs.Plans.{IsPlan}
use Rattle.search_plan.specs.declared.plan.Plan.{Plan}
use Rattle.xor_tables.specs.Rows.{broken_rows, differ, differ_beside_q, differ_in_row, holds_every, needs_table, on_q, others, rows_may_hold, tested}
use Rattle.xor_tables.specs.Early.{IsEarlyTable, IsSettled, IsSettledFor}
use Rattle.xor_tables.specs.Paces.{pace_of}
use Rattle.xor_tables.specs.Xors.{beside_q, broken_in, CountRows, IsXorTable, RowTable}
use Rattle.xor_tables.proofs.Paces.{contained}
use Rattle.slot_math.proofs.Held.{image_below}
use Rattle.slot_math.proofs.Placed.{total, total_same, total_sum}

-- the image on Q is one of the prefix
pub on_q_below : (n : ℕ) (head : Head) (prefix : List (Option ℕ)) (row i : ℕ) → AllImages n prefix → on_q head prefix row ≡ Some i → i < n
on_q_below n head prefix row i all e = by_slot (q_of head row) e
  where
    by_slot : (q : Option ℕ) → option_and_then (λ s. slice_index_or prefix s None) q ≡ Some i → i < n
    by_slot None e = (cc)
    by_slot (Some q) e = image_below n q i prefix all e

-- Q stands on the same slot again after as many rows as there are members
mod_twice : (row n : ℕ) → 0 < n → row % n % n ≡ row % n
mod_twice row n some = let lt : row % n < n = mod_below row n some in mod-eq_of_lt lt

next_again : (row n : ℕ) → 0 < n → (row + 1) % n ≡ (row % n + 1) % n
next_again row n some =
    let split : row / n * n + row % n ≡ row = div-add-mod' row n in
    let below : row % n < n = mod_below row n some in
    elim (cases_lt (row % n + 1) n) [
      | inl lt ↦
          let e : row + 1 ≡ row / n * n + (row % n + 1) = omega arith in
          ap (λ (x : ℕ). x % n) e ∙ mod-mul-add (row / n) n (row % n + 1) lt ∙ sym (mod-eq_of_lt lt)
      | inr le ↦
          let full : row % n + 1 ≡ n = omega arith in
          let turn : (row / n + 1) * n + 0 ≡ row / n * n + n = grind arith in
          let e : row + 1 ≡ (row / n + 1) * n + 0 = omega arith in
          let one : row % n + 1 ≡ 1 * n + 0 = omega arith in
          ap (λ (x : ℕ). x % n) e ∙ mod-mul-add (row / n + 1) n 0 some ∙ sym (ap (λ (x : ℕ). x % n) one ∙ mod-mul-add 1 n 0 some)
    ]

double_again : (pattern : Pattern) (n row : ℕ) → 0 < n → double_q pattern n row ≡ double_q pattern n (row % n)
double_again La n row some = ap (λ (m : ℕ). after n (n - 1 - m)) (sym (mod_twice row n some))
double_again Ra n row some = ap (λ (m : ℕ). after n m) (sym (mod_twice row n some))
double_again Ls n row some = ap (λ (m : ℕ). (n - 1 - m + 1) % n) (sym (mod_twice row n some))
double_again Rs n row some = ap (λ (m : ℕ). (m + 1) % n) (sym (mod_twice row n some))
double_again NRestart n row some = ap (λ (m : ℕ). after n (n - 1 - m)) (next_again row n some)
double_again NContinue n row some = ap (λ (m : ℕ). (n - 1 - m + n - 1) % n) (sym (mod_twice row n some))
double_again Plain n row some = refl
double_again ParityFirst n row some = refl
double_again ParityLast n row some = refl
double_again La6 n row some = refl
double_again Ra6 n row some = refl
double_again Ls6 n row some = refl
double_again Rs6 n row some = refl
double_again ParityFirst6 n row some = refl

q_again : (level : Level) (pattern : Pattern) (n row : ℕ) → 0 < n → q_at level pattern n row ≡ q_at level pattern n (row % n)
q_again Raid0 pattern n row some = refl
q_again Raid5 pattern n row some = refl
q_again Raid6 pattern n row some = ap (λ (s : ℕ). Some s) (double_again pattern n row some)

-- the turn of a row of sectors, counted round the members
abbrev pub turn_at : Head → ℕ → ℕ
turn_at head t = t / (head.chunk * head.delay) % head.members

-- in each row of sectors Q stands where it does in the first row of chunks of its turn
on_q_again : (head : Head) (prefix : List (Option ℕ)) (t : ℕ) → 0 < head.members → 0 < head.delay → on_q head prefix (t / head.chunk) ≡ on_q head prefix (turn_at head t * head.delay)
on_q_again head prefix t some stays =
    ap at_turn (div-div-eq-div-mul t head.chunk head.delay)
    ∙ ap (λ (q : Option ℕ). option_and_then (λ s. slice_index_or prefix s None) q) (q_again head.level head.pattern head.members (t / (head.chunk * head.delay)) some)
    ∙ sym (ap at_turn (mul-div_cancel (turn_at head t) stays))
  where
    at_turn : ℕ → Option ℕ
    at_turn k = option_and_then (λ s. slice_index_or prefix s None) (q_at head.level head.pattern head.members k)

abbrev zero_of : ℕ
zero_of = 0

-- a row counts at its own place alone
miss : (f : ℕ → Bool) (at a n : ℕ) → at < a → total ◌+◌ (λ k. cond ((at == k) && f k) 1 0) (range_with_len a n) ≡ 0
unfolding total
miss f at a zero lt = refl
miss f at a (suc n) lt =
    let here : cond ((at == a) && f a) 1 0 ≡ zero_of = ap (λ (b : Bool). cond (b && f a) 1 0) (ne_eqb at a (λ e. let x : at ≡ a = e in omega arith)) in
    let rest = miss f at (a + 1) n (omega arith) in
    omega arith

hit : (f : ℕ → Bool) (at a n : ℕ) → a ≤ at → at < a + n → total ◌+◌ (λ k. cond ((at == k) && f k) 1 0) (range_with_len a n) ≡ cond (f at) 1 0
unfolding total
hit f at a zero low high = absurd (omega arith)
hit f at a (suc n) low high = elim (cases_eq at a) [
  | inl e ↦
      let here : ◌≡◌ {A = ℕ} (cond ((at == a) && f a) 1 0) (cond (f at) 1 0) = ap (λ (b : Bool). cond (b && f a) 1 0) (eq-eqb at a e) ∙ sym (ap (λ (k : ℕ). cond (f k) 1 0) e) in
      let rest = miss f at (a + 1) n (omega arith) in
      omega arith
  | inr ne ↦
      let here : cond ((at == a) && f a) 1 0 ≡ zero_of = ap (λ (b : Bool). cond (b && f a) 1 0) (ne_eqb at a ne) in
      let rest = hit f at (a + 1) n (let x : at ≢ a = ne in omega arith) (omega arith) in
      omega arith
]

total_add : (f g : ℕ → ℕ) (xs : List ℕ) → total ◌+◌ (λ k. f k + g k) xs ≡ total ◌+◌ f xs + total ◌+◌ g xs
unfolding total
total_add f g [] = refl
total_add f g (x ∷ xs) = let h = total_add f g xs in omega arith

total_nothing : (a n : ℕ) → total ◌+◌ (λ k. 0) (range_with_len a n) ≡ 0
unfolding total
total_nothing a zero = refl
total_nothing a (suc n) = let h = total_nothing (a + 1) n in omega arith

-- so all rows are counted by their places
by_turn : (turn : ℕ → ℕ) (p : ℕ → ℕ → Bool) (n : ℕ) (rows : List ℕ) → ((t : ℕ) → turn t < n) →
    total ◌+◌ (λ k. count_by (λ t. (turn t == k) && p k t) rows) (range_with_len 0 n) ≡ count_by (λ t. p (turn t) t) rows
by_turn turn p n [] below = total_nothing 0 n
by_turn turn p n (t ∷ rows) below =
    total_same ◌+◌ (λ k. count_by (λ s. (turn s == k) && p k s) (t ∷ rows)) (λ k. cond ((turn t == k) && p k t) 1 0 + count_by (λ s. (turn s == k) && p k s) rows) 0 n
    (λ k low high. count_cons (λ (s : ℕ). (turn s == k) && p k s) t rows)
    ∙ total_add (λ k. cond ((turn t == k) && p k t) 1 0) (λ k. count_by (λ s. (turn s == k) && p k s) rows) (range_with_len 0 n)
    ∙ ap₂ (λ (a b : ℕ). a + b) (hit (λ k. p k t) (turn t) 0 n (omega arith) (let low = below t in omega arith)) (by_turn turn p n rows below)
    ∙ sym (count_cons (λ (s : ℕ). p (turn s) s) t rows)

pub count_alike : (p q : ℕ → Bool) (rows : List ℕ) → ((t : ℕ) → p t ≡ q t) → count_by p rows ≡ count_by q rows
count_alike p q [] same = refl
count_alike p q (t ∷ rows) same =
    count_cons p t rows ∙ ap₂ (λ (b : Bool) (k : ℕ). cond b 1 0 + k) (same t) (count_alike p q rows same) ∙ sym (count_cons q t rows)

and_none : (b : Bool) → (b && false) ≡ false
and_none true = refl
and_none false = refl

count_none : (rows : List ℕ) (p : ℕ → Bool) → ((t : ℕ) → p t ≡ false) → count_by p rows ≡ 0
count_none [] p none = refl
count_none (t ∷ rows) p none = let h = count_cons p t rows in let e : cond (p t) 1 0 ≡ zero_of = ap (λ (b : Bool). cond b 1 0) (none t) in let rest = count_none rows p none in omega arith

-- the sum over the places is the count of the rows
sum_rows : (images : List (List ℕ)) (plan : Plan) (head : Head) (prefix : List (Option ℕ)) (table : RowTable) → IsPrefixOf (length plan.lengths.items) head.members prefix → length plan.lengths.items ≡ head.members → 0 < head.members → 0 < head.delay →
    (n : ℕ) → CountRows images (length plan.lengths.items) (head.chunk * head.delay) head.offset n table →
    sum_by (beside_q table head prefix) (range_with_len 0 head.members) ≡ count_by (differ_beside_q images plan head prefix) (range_with_len 0 n)
sum_rows images plan head prefix table is count some stays n known =
    sym (total_sum (beside_q table head prefix) (range_with_len 0 head.members))
    ∙ total_same ◌+◌ (beside_q table head prefix) (λ k. count_by (λ t. (turn_at head t == k) && p k t) rows) 0 head.members (λ k low high. each k (omega arith) (on_q head prefix (k * head.delay)) refl)
    ∙ by_turn (turn_at head) p head.members rows (λ t. mod_below (t / (head.chunk * head.delay)) head.members some)
    ∙ count_alike (λ t. p (turn_at head t) t) (differ_beside_q images plan head prefix) rows
    (λ t. ap (λ (o : Option ℕ). option_map_or (λ i. differ images (others (length plan.lengths.items) i) (head.offset + t)) o false) (sym (on_q_again head prefix t some stays)))
  where
    rows : List ℕ
    rows = range_with_len 0 n

    p : ℕ → ℕ → Bool
    p k t = option_map_or (λ i. differ images (others (length plan.lengths.items) i) (head.offset + t)) (on_q head prefix (k * head.delay)) false

    each : (k : ℕ) → k < head.members → (o : Option ℕ) → on_q head prefix (k * head.delay) ≡ o →
        option_map_or (λ i. slice_index (slice_index_or table.beside k []) i) (on_q head prefix (k * head.delay)) 0
        ≡ count_by (λ t. (turn_at head t == k) && option_map_or (λ i. differ images (others (length plan.lengths.items) i) (head.offset + t)) (on_q head prefix (k * head.delay)) false) (range_with_len 0 n)
    each k low None e =
        ap (λ (o : Option ℕ). option_map_or (λ i. slice_index (slice_index_or table.beside k []) i) o 0) e
        ∙ sym (count_none (range_with_len 0 n)
        (λ t. (turn_at head t == k) && option_map_or (λ i. differ images (others (length plan.lengths.items) i) (head.offset + t)) (on_q head prefix (k * head.delay)) false)
        (λ t. ap (λ (o : Option ℕ). (turn_at head t == k) && option_map_or (λ i. differ images (others (length plan.lengths.items) i) (head.offset + t)) o false) e
        ∙ and_none (turn_at head t == k)))
    each k low (Some i) e =
        let below : i < length plan.lengths.items = on_q_below (length plan.lengths.items) head prefix (k * head.delay) i is.images e in
        ap (λ (o : Option ℕ). option_map_or (λ i. slice_index (slice_index_or table.beside k []) i) o 0) e
        ∙ known.beside k i (omega arith) below
        ∙ count_alike (λ t. (t / (head.chunk * head.delay) % length plan.lengths.items == k) && differ images (others (length plan.lengths.items) i) (head.offset + t))
        (λ t. (turn_at head t == k) && option_map_or (λ i. differ images (others (length plan.lengths.items) i) (head.offset + t)) (on_q head prefix (k * head.delay)) false)
        (range_with_len 0 n)
        (λ t. ap₂ (λ (n : ℕ) (o : Option ℕ). (t / (head.chunk * head.delay) % n == k) && option_map_or (λ j. differ images (others (length plan.lengths.items) j) (head.offset + t)) o false) count (sym e))

-- numbers past the largest are past any limit
pub past : (s b : ℕ) → b < 2 ^ 64 - 1 → nat_le (min s (2 ^ 64 - 1)) b ≡ nat_le s b
past s b below = grind (arith, nat_tests)

pub not_of : (a b : Bool) → a ≡ true → (not a || b) ≡ b
not_of true b e = refl
not_of false b e = (cc)

-- more rows hold no fewer of a kind
count_from : (p : ℕ → Bool) (at n m : ℕ) → n ≤ m → count_by p (range_with_len at n) ≤ count_by p (range_with_len at m)
count_from p at zero m le = omega arith
count_from p at (suc n) zero le = absurd (omega arith)
count_from p at (suc n) (suc m) le =
    let a = count_cons p at (range_with_len (at + 1) n) in
    let b = count_cons p at (range_with_len (at + 1) m) in
    let rest = count_from p (at + 1) n m (omega arith) in
    omega arith

-- a part of a sum is no greater
one_within : (f : ℕ → ℕ) (k a n : ℕ) → a ≤ k → k < a + n → f k ≤ total ◌+◌ f (range_with_len a n)
unfolding total
one_within f k a zero low high = absurd (omega arith)
one_within f k a (suc n) low high = elim (cases_eq k a) [
  | inl e ↦ (let here : f k ≡ f a = ap f e in omega arith)
  | inr ne ↦ (let rest = one_within f k (a + 1) n (let x : k ≢ a = ne in omega arith) (omega arith) in omega arith)
]

-- two answers are the same where both are, and where neither is
both_few : (a b most : ℕ) → a ≤ b → (a ≤ most → b ≤ most) → nat_le a most ≡ nat_le b most
both_few a b most le h = elim (cases_lt most a) [
  | inl above ↦ lt-leb a most above ∙ sym (lt-leb b most (omega arith))
  | inr few ↦ le-leb a most few ∙ sym (le-leb b most (h few))
]

none_counted : (p : ℕ → Bool) (a n : ℕ) → ((t : ℕ) → a ≤ t → t < a + n → p t ≡ false) → count_by p (range_with_len a n) ≡ 0
none_counted p a zero none = refl
none_counted p a (suc n) none =
    let h = count_cons p a (range_with_len (a + 1) n) in
    let e : cond (p a) 1 0 ≡ zero_of = ap (λ (b : Bool). cond b 1 0) (none a (omega arith) (omega arith)) in
    let rest = none_counted p (a + 1) n (λ t low high. none t (omega arith) (omega arith)) in
    omega arith

-- the turn of a row, counted round the members, begins no later
turn_low : (t chunk n : ℕ) → t / chunk % n * chunk ≤ t
turn_low t chunk n =
    let split : t / chunk / n * n + t / chunk % n ≡ t / chunk = div-add-mod' (t / chunk) n in
    let low : t / chunk % n ≤ t / chunk = omega arith in
    let whole : t / chunk * chunk ≤ t = whole_below t chunk (t / chunk) refl in
    let most : t / chunk % n * chunk ≤ t / chunk * chunk = mul-le (t / chunk % n) chunk (t / chunk) chunk low (omega arith) in
    omega arith

-- where a table is settled at level 6, and not too many of its rows break, the prefix puts no image on Q
settled_few : (images : List (List ℕ)) (plan : Plan) (head : Head) (prefix : List (Option ℕ)) (table : RowTable) → IsPrefixOf (length plan.lengths.items) head.members prefix → length plan.lengths.items ≡ head.members → 0 < head.members → 0 < head.delay →
    IsSettledFor plan (pace_of head) head.offset table Raid6 → sum_by (beside_q table head prefix) (range_with_len 0 head.members) ≤ plan.limits.badrows →
    count_by (differ_beside_q images plan head prefix) (range_with_len 0 (tested plan head)) ≡ 0
settled_few images plan head prefix table is count some stays settled few =
    none_counted (differ_beside_q images plan head prefix) 0 (tested plan head)
    (λ t low high.
    ap (λ (o : Option ℕ). option_map_or (λ i. differ images (others (length plan.lengths.items) i) (head.offset + t)) o false) (on_q_again head prefix t some stays)
    ∙ at_turn t (omega arith) (on_q head prefix (turn_at head t * head.delay)) refl)
  where
    at_turn : (t : ℕ) → t < tested plan head → (o : Option ℕ) → on_q head prefix (turn_at head t * head.delay) ≡ o →
        option_map_or (λ i. differ images (others (length plan.lengths.items) i) (head.offset + t)) (on_q head prefix (turn_at head t * head.delay)) false ≡ false
    at_turn t lt None e = ap (λ (o : Option ℕ). option_map_or (λ i. differ images (others (length plan.lengths.items) i) (head.offset + t)) o false) e
    at_turn t lt (Some i) e =
        let k : turn_at head t < head.members = mod_below (t / (head.chunk * head.delay)) head.members some in
        let below : i < length plan.lengths.items = on_q_below (length plan.lengths.items) head prefix (turn_at head t * head.delay) i is.images e in
        let early : turn_at head t * (head.chunk * head.delay) ≤ t = turn_low t (head.chunk * head.delay) head.members in
        let high = settled (turn_at head t) i (omega arith) below (omega arith) in
        let here : beside_q table head prefix (turn_at head t) ≡ slice_index (slice_index_or table.beside (turn_at head t) []) i
        = ap (λ (o : Option ℕ). option_map_or (λ j. slice_index (slice_index_or table.beside (turn_at head t) []) j) o 0) e in
        let part : beside_q table head prefix (turn_at head t) ≤ total ◌+◌ (beside_q table head prefix) (range_with_len 0 head.members)
        = one_within (beside_q table head prefix) (turn_at head t) 0 head.members (omega arith) (omega arith) in
        let whole = total_sum (beside_q table head prefix) (range_with_len 0 head.members) in
        absurd (omega arith)

-- what settles it for the plan's levels
level_settled : (plan : Plan) (head : Head) (table : RowTable) (level : Level) → head.level ≡ level → Contains plan.bounds.levels.items head.level → IsSettled plan (pace_of head) head.offset table →
    IsSettledFor plan (pace_of head) head.offset table level
level_settled plan head table level e there settled =
    subst (λ (l : Level). IsSettledFor plan (pace_of head) head.offset table l) e
    (contained (λ (l : Level). IsSettledFor plan (pace_of head) head.offset table l) plan.bounds.levels.items head.level settled there)

-- the whole table counts the rows that are broken, up to a number past any limit
whole_broken : (level : Level) (images : List (List ℕ)) (plan : Plan) (head : Head) (prefix : List (Option ℕ)) (table : RowTable) → IsPlan plan → IsPrefixOf (length plan.lengths.items) head.members prefix →
    length plan.lengths.items ≡ head.members → 0 < head.members → 0 < head.delay → IsXorTable images plan (pace_of head) head.offset table →
    nat_le (broken_in table level head prefix) plan.limits.badrows ≡ nat_le (broken_rows level images plan head prefix) plan.limits.badrows
unfolding broken_rows
whole_broken Raid0 images plan head prefix table is_plan is count some stays known = refl
whole_broken Raid5 images plan head prefix table is_plan is count some stays known = ap (λ (n : ℕ). nat_le n plan.limits.badrows) known.all
whole_broken Raid6 images plan head prefix table is_plan is count some stays known =
    let few = is_plan.limits.badrows in
    past (sum_by (beside_q table head prefix) (range_with_len 0 head.members)) plan.limits.badrows (omega arith)
    ∙ ap (λ (n : ℕ). nat_le n plan.limits.badrows) (sum_rows images plan head prefix table is count some stays (tested plan head) known)

-- an early one tells as much
early_broken : (level : Level) (images : List (List ℕ)) (plan : Plan) (head : Head) (prefix : List (Option ℕ)) (table : RowTable) → IsPlan plan → IsPrefixOf (length plan.lengths.items) head.members prefix →
    length plan.lengths.items ≡ head.members → 0 < head.members → 0 < head.delay → head.level ≡ level → Contains plan.bounds.levels.items head.level → IsEarlyTable images plan (pace_of head) head.offset table →
    nat_le (broken_in table level head prefix) plan.limits.badrows ≡ nat_le (broken_rows level images plan head prefix) plan.limits.badrows
unfolding broken_rows
early_broken Raid0 images plan head prefix table is_plan is count some stays e there known = refl
early_broken Raid5 images plan head prefix table is_plan is count some stays e there known =
    both_few table.all (count_by (differ_in_row images plan head) (range_with_len 0 (tested plan head))) plan.limits.badrows
    (let within : known.rows ≤ tested plan head = known.within in
    let counts = known.counts.all in
    let more = count_from (differ_in_row images plan head) 0 known.rows (tested plan head) within in
    omega arith)
    (λ few. elim known.enough [
      | inl all ↦ (let counts = known.counts.all in
          let same : count_by (differ_in_row images plan head) (range_with_len 0 known.rows) ≡ count_by (differ_in_row images plan head) (range_with_len 0 (tested plan head))
          = ap (λ (n : ℕ). count_by (differ_in_row images plan head) (range_with_len 0 n)) all in
          omega arith)
      | inr settled ↦ (let high : plan.limits.badrows < table.all = level_settled plan head table Raid5 e there settled in absurd (omega arith))
    ])
early_broken Raid6 images plan head prefix table is_plan is count some stays e there known =
    let few = is_plan.limits.badrows in
    let sums = sum_rows images plan head prefix table is count some stays known.rows known.counts in
    past (sum_by (beside_q table head prefix) (range_with_len 0 head.members)) plan.limits.badrows (omega arith)
    ∙ both_few (sum_by (beside_q table head prefix) (range_with_len 0 head.members)) (count_by (differ_beside_q images plan head prefix) (range_with_len 0 (tested plan head))) plan.limits.badrows
    (let within : known.rows ≤ tested plan head = known.within in
    let more = count_from (differ_beside_q images plan head prefix) 0 known.rows (tested plan head) within in
    omega arith)
    (λ low. elim known.enough [
      | inl all ↦ (let same : count_by (differ_beside_q images plan head prefix) (range_with_len 0 known.rows) ≡ count_by (differ_beside_q images plan head prefix) (range_with_len 0 (tested plan head))
          = ap (λ (n : ℕ). count_by (differ_beside_q images plan head prefix) (range_with_len 0 n)) all in
          omega arith)
      | inr settled ↦ (let none = settled_few images plan head prefix table is count some stays (level_settled plan head table Raid6 e there settled) low in omega arith)
    ])

-- where a table is asked, there are as many images as members, and some, and parity stays for a row at least
asked_members : (plan : Plan) (head : Head) → IsTrue (is_valid_head head) → needs_table plan head ≡ true → (holds_every plan head ≡ true) × (length plan.lengths.items ≡ head.members) × (0 < head.members) × (0 < head.delay)
asked_members plan head valid needs =
    let parts = and_parts (holds_every plan head) (nat_le 1 (redundancy head.level)) needs in
    let both = and_parts (length plan.lengths.items == head.members) ((plan.bounds.foreign == 0) || (min plan.bounds.missing (redundancy head.level) == 0)) parts.0 in
    let low : fewest head.level ≤ head.members = enough head valid in
    (parts.0, eqb-true (length plan.lengths.items) head.members both.0, (omega arith), some_delay head valid)

-- the answer where a table is asked, by the whole one and by an early one, and where none is
pub rows_known : (images : List (List ℕ)) (plan : Plan) (head : Head) (prefix : List (Option ℕ)) (table : RowTable) → IsTrue (is_valid_head head) → IsPlan plan → IsPrefixOf (length plan.lengths.items) head.members prefix →
    needs_table plan head ≡ true → IsXorTable images plan (pace_of head) head.offset table →
    nat_le (broken_in table head.level head prefix) plan.limits.badrows ≡ rows_may_hold images plan head prefix
unfolding rows_may_hold
rows_known images plan head prefix table valid is_plan is needs known =
    let asked = asked_members plan head valid needs in
    whole_broken head.level images plan head prefix table is_plan is asked.1 asked.2 asked.3 known
    ∙ sym (not_of (holds_every plan head) (nat_le (broken_rows head.level images plan head prefix) plan.limits.badrows) asked.0)

pub early_known : (images : List (List ℕ)) (plan : Plan) (head : Head) (prefix : List (Option ℕ)) (table : RowTable) → IsTrue (is_valid_head head) → IsPlan plan → IsPrefixOf (length plan.lengths.items) head.members prefix →
    needs_table plan head ≡ true → Contains plan.bounds.levels.items head.level → IsEarlyTable images plan (pace_of head) head.offset table →
    nat_le (broken_in table head.level head prefix) plan.limits.badrows ≡ rows_may_hold images plan head prefix
unfolding rows_may_hold
early_known images plan head prefix table valid is_plan is needs there known =
    let asked = asked_members plan head valid needs in
    early_broken head.level images plan head prefix table is_plan is asked.1 asked.2 asked.3 refl there known
    ∙ sym (not_of (holds_every plan head) (nat_le (broken_rows head.level images plan head prefix) plan.limits.badrows) asked.0)

no_rows : (level : Level) (images : List (List ℕ)) (plan : Plan) (head : Head) (prefix : List (Option ℕ)) → nat_le 1 (redundancy level) ≡ false → broken_rows level images plan head prefix ≡ 0
unfolding broken_rows
no_rows Raid0 images plan head prefix e = refl
no_rows Raid5 images plan head prefix e = (cc)
no_rows Raid6 images plan head prefix e = (cc)

pub rows_unasked : (images : List (List ℕ)) (plan : Plan) (head : Head) (prefix : List (Option ℕ)) → needs_table plan head ≡ false → rows_may_hold images plan head prefix ≡ true
unfolding rows_may_hold
rows_unasked images plan head prefix unasked = by_case (holds_every plan head) (nat_le 1 (redundancy head.level)) refl refl unasked
  where
    by_case : (a b : Bool) → holds_every plan head ≡ a → nat_le 1 (redundancy head.level) ≡ b → (holds_every plan head && nat_le 1 (redundancy head.level)) ≡ false →
        (not (holds_every plan head) || nat_le (broken_rows head.level images plan head prefix) plan.limits.badrows) ≡ true
    by_case false b e f none = ap (λ (t : Bool). not t || nat_le (broken_rows head.level images plan head prefix) plan.limits.badrows) e
    by_case true true e f none = let bad : true ≡ false = sym (ap₂ (λ (x y : Bool). x && y) e f) ∙ none in (cc)
    by_case true false e f none =
        not_of (holds_every plan head) (nat_le (broken_rows head.level images plan head prefix) plan.limits.badrows) e
        ∙ ap (λ (n : ℕ). nat_le n plan.limits.badrows) (no_rows head.level images plan head prefix f)
        ∙ le-leb 0 plan.limits.badrows (omega arith)
