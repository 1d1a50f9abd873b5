-- Which data cells are missing, and by which weights they are found.
use Rattle.std.proofs.Common.{ℕ, zero, suc, ◌≡◌, ◌<◌, ◌≤◌, ◌+◌, ◌⊎◌, Bool, true, false, cond, not, ◌&&◌, ◌||◌, nat_eq, nat_le, List, [], ◌∷◌, ◌++◌, length, take, drop, get_or, count_by, slice_get, refl, sym, ap, ◌∙◌, arith, inl, inr, subst, MatchOption}
use Rattle.std.specs.Option.{option_or}
use Rattle.std.specs.declared.option.Option.{Option}
use Rattle.std.specs.declared.option.Option.TheVariants.{None, Some}
use Rattle.std.proofs.lemmas.Bool.{and_parts, cases_lt, false≢true}
use Rattle.std.proofs.lemmas.Bool.Decides.{nat_tests}
use Rattle.std.proofs.lemmas.List.{get_or_past}
use Rattle.std.proofs.lemmas.Option.{get_or_from_slice_get, slice_get-get_or}
use Rattle.raid_params.specs.declared.types.Cell.{Cell}
use Rattle.raid_params.specs.declared.types.Part.{Part}
use Rattle.raid_params.specs.declared.types.Part.TheVariants.{Block, P, Q}
use Rattle.raid_terms.specs.Parity.{has_p, has_q, is_data, is_p, IsRow}
use Rattle.raid_terms.specs.Solving.{is_q_lost}
use Rattle.pq_parity.specs.Finding.{is_lost_at, AreFinders, FindsAt, IsFinder}
use Rattle.row_parity.specs.Known.{no_cell}
use Rattle.row_parity.specs.LostBytes.{first_missing, Finds}
use Rattle.pq_parity.specs.Needs.{is_p_lost, lost_data, needs}
use Rattle.pq_parity.specs.declared.finders.Finder.{Finder}
use Rattle.pq_parity.proofs.Asked.{asked_has_q, some_missing}
use Rattle.row_parity.proofs.Fillings.{lost}
use Rattle.pq_parity.proofs.LostColumns.{lost_is, other_parts}
use Rattle.pq_parity.proofs.Needed.{both_true, missing_kinds, none_counted, some_counted}
use Rattle.pq_parity.proofs.Pairs.{finds_data, finds_data_beside_q}
use Rattle.pq_parity.proofs.Places.{first, lost_around}
use Rattle.row_parity.proofs.Regions.{cell_there}
use Rattle.row_parity.proofs.Shapes.{count_cons, parity_count}

-- a missing data cell
pub lost_here : (cells : List Cell) (place : ℕ) (cell : Cell) → slice_get cells place ≡ Some cell → cell.missing ≡ true → is_data cell.part ≡ true → is_lost_at cells place ≡ true
lost_here cells place cell is m d =
    let same : get_or cells place no_cell ≡ cell = get_or_from_slice_get cells place cell no_cell is in
    both_true (get_or cells place no_cell).missing (is_data (get_or cells place no_cell).part) (ap (λ (c : Cell). c.missing) same ∙ m) (ap (λ (c : Cell). is_data c.part) same ∙ d)

pub lost_inside : (cells : List Cell) (place : ℕ) → is_lost_at cells place ≡ true → place < length cells
lost_inside cells place h =
    elim (cases_lt place (length cells)) [
      | inl below ↦ below
      | inr above ↦ absurd (false≢true (sym (ap (λ (c : Cell). c.missing && is_data c.part) (get_or_past cells place no_cell (omega arith))) ∙ h))
    ]

pub lost_missing : (cells : List Cell) (place : ℕ) → is_lost_at cells place ≡ true → (get_or cells place no_cell).missing ≡ true
lost_missing cells place h = (and_parts (get_or cells place no_cell).missing (is_data (get_or cells place no_cell).part) h).0

pub lost_part : (cells : List Cell) (place : ℕ) → is_lost_at cells place ≡ true → is_data (get_or cells place no_cell).part ≡ true
lost_part cells place h = (and_parts (get_or cells place no_cell).missing (is_data (get_or cells place no_cell).part) h).1

-- how many they are
one : (cells : List Cell) (i : ℕ) → is_lost_at cells i ≡ true → 1 ≤ lost_data cells
one [] i h = absurd (false≢true h)
one (cell ∷ cells) zero h = let t = ap {B = ℕ} (λ (b : Bool). cond b 1 0) h in omega (arith, count_cons (λ c. c.missing && is_data c.part) cell cells)
one (cell ∷ cells) (suc i) h = let rest = one cells i h in omega (arith, count_cons (λ c. c.missing && is_data c.part) cell cells)

two : (cells : List Cell) (i j : ℕ) → i < j → is_lost_at cells i ≡ true → is_lost_at cells j ≡ true → 2 ≤ lost_data cells
two [] i j less h k = absurd (false≢true h)
two (cell ∷ cells) i zero less h k = absurd (omega arith)
two (cell ∷ cells) zero (suc j) less h k =
    let t = ap {B = ℕ} (λ (b : Bool). cond b 1 0) h in
    let rest = one cells j k in
    omega (arith, count_cons (λ c. c.missing && is_data c.part) cell cells)
two (cell ∷ cells) (suc i) (suc j) less h k = let rest = two cells i j (omega arith) h k in omega (arith, count_cons (λ c. c.missing && is_data c.part) cell cells)

three : (cells : List Cell) (i j k : ℕ) → i < j → j < k → is_lost_at cells i ≡ true → is_lost_at cells j ≡ true → is_lost_at cells k ≡ true → 3 ≤ lost_data cells
three [] i j k less more a b c = absurd (false≢true a)
three (cell ∷ cells) i j zero less more a b c = absurd (omega arith)
three (cell ∷ cells) i zero (suc k) less more a b c = absurd (omega arith)
three (cell ∷ cells) zero (suc j) (suc k) less more a b c =
    let t = ap {B = ℕ} (λ (b : Bool). cond b 1 0) a in
    let rest = two cells j k (omega arith) b c in
    omega (arith, count_cons (λ c. c.missing && is_data c.part) cell cells)
three (cell ∷ cells) (suc i) (suc j) (suc k) less more a b c =
    let rest = three cells i j k (omega arith) (omega arith) a b c in omega (arith, count_cons (λ c. c.missing && is_data c.part) cell cells)

flags : (p q : Bool) → cond p 1 0 + cond q 1 0 ≤ 2
flags true true = omega arith
flags true false = omega arith
flags false true = omega arith
flags false false = omega arith

at_most_two : (cells : List Cell) → IsRow cells → lost_data cells ≤ 2
at_most_two cells row = omega (arith, missing_kinds cells, row.missing, parity_count cells row, flags (has_p cells) (has_q cells))

-- where Q is needed two cells are missing
more_missing : (n : ℕ) (p : Bool) → (nat_le 2 n || (nat_le 1 n && p)) ≡ true → (2 ≤ n) ⊎ ((1 ≤ n) × (p ≡ true))
more_missing n p h = by (nat_le 2 n) refl h
  where
    by : (t : Bool) → nat_le 2 n ≡ t → (t || (nat_le 1 n && p)) ≡ true → (2 ≤ n) ⊎ ((1 ≤ n) × (p ≡ true))
    by true is h = inl (grind (arith, nat_tests))
    by false is h = let parts = and_parts (nat_le 1 n) p h in let some = parts.0 in inr (grind (arith, nat_tests), parts.1)

pub needed_has_q : (cells : List Cell) (place : ℕ) → IsRow cells → is_lost_at cells place ≡ true → needs cells Q ≡ true → has_q cells ≡ true
needed_has_q cells place row h needed =
    asked_has_q cells row
    (some_missing cells place (cell_there cells place no_cell (lost_inside cells place h) (λ cell. cell.missing ≡ true) (lost_missing cells place h)) (lost_inside cells place h))
    (ap (λ (b : Bool). not b || is_q_lost cells) (eqb_two (count_by (λ c. c.missing) cells) two_missing))
  where
    two_missing : 2 ≤ count_by (λ c. c.missing) cells
    two_missing = elim (more_missing (lost_data cells) (is_p_lost cells) needed) [
      | inl many ↦ omega (arith, missing_kinds cells)
      | inr parts ↦ (let some = parts.0 in let p = some_counted (λ c. c.missing && is_p c.part) cells parts.1 in omega (arith, missing_kinds cells))
    ]

    eqb_two : (n : ℕ) → 2 ≤ n → nat_eq n 1 ≡ false
    eqb_two n h = grind (arith, nat_tests)

-- where it is not, one data cell is missing, and P is there
alone : (n : ℕ) (p : Bool) → (nat_le 2 n || (nat_le 1 n && p)) ≡ false → 1 ≤ n → (n ≡ 1) × (p ≡ false)
alone n p h some = by (nat_le 2 n) (nat_le 1 n) p refl refl h
  where
    by : (s t p : Bool) → nat_le 2 n ≡ s → nat_le 1 n ≡ t → (s || (t && p)) ≡ false → (n ≡ 1) × (p ≡ false)
    by true t p is some_is h = absurd (false≢true (sym h))
    by false true p is some_is h = (grind (arith, nat_tests), h)
    by false false p is some_is h = absurd (let e : n < 1 = grind (arith, nat_tests) in omega arith)

pub one_alone : (cells : List Cell) (place : ℕ) → is_lost_at cells place ≡ true → needs cells Q ≡ false → (lost_data cells ≡ 1) × (is_p_lost cells ≡ false)
one_alone cells place h unneeded = alone (lost_data cells) (is_p_lost cells) unneeded (one cells place h)

pub no_other : (cells : List Cell) (place : ℕ) → is_lost_at cells place ≡ true → needs cells Q ≡ false → (i : ℕ) → is_lost_at cells i ≡ true → i ≡ place
no_other cells place h unneeded i also =
    let only = (one_alone cells place h unneeded).0 in
    elim (cases_lt i place) [
      | inl less ↦ absurd (let many = two cells i place less also h in omega arith)
      | inr more ↦ elim (cases_lt place i) [
        | inl less ↦ absurd (let many = two cells place i less h also in omega arith)
        | inr not_less ↦ omega arith
      ]
    ]

-- the parts of the missing cells are counted
count_part : (t : Bool) (test : Part → Bool) (part : Part) (parts : List Part) (n : ℕ) → count_by test parts ≡ n → count_by test (cond t (part ∷ parts) parts) ≡ cond (t && test part) 1 0 + n
count_part true test part parts n e = omega (arith, count_cons test part parts)
count_part false test part parts n e = omega arith

count_lost_parts : (test : Part → Bool) (cells : List Cell) → count_by test (lost cells) ≡ count_by (λ c. c.missing && test c.part) cells
count_lost_parts test [] = refl
count_lost_parts test (cell ∷ cells) =
    count_part cell.missing test cell.part (lost cells) (count_by (λ c. c.missing && test c.part) cells) (count_lost_parts test cells) ∙ sym (count_cons (λ c. c.missing && test c.part) cell cells)

count_append : (test : Part → Bool) (xs ys : List Part) → count_by test (xs ++ ys) ≡ count_by test xs + count_by test ys
count_append test [] ys = refl_add (count_by test ys)
  where
    refl_add : (n : ℕ) → n ≡ 0 + n
    refl_add n = omega arith
count_append test (x ∷ xs) ys = let rest = count_append test xs ys in omega (arith, count_cons test x xs, count_cons test x (xs ++ ys))

first_counted : (test : Part → Bool) (x part : Part) (xs : List Part) → Some x ≡ Some part → test part ≡ true → 1 ≤ count_by test (x ∷ xs)
first_counted test x part xs is h =
    let same : x ≡ part = cc in
    let t = ap {B = ℕ} (λ (b : Bool). cond b 1 0) (ap test same ∙ h) in
    omega (arith, count_cons test x xs)

other_counted : (test : Part → Bool) (before after : List Part) (part : Part) → option_or (first before) (first after) ≡ Some part → test part ≡ true → 1 ≤ count_by test before + count_by test after
other_counted test [] [] part is h = absurd (let e : None ≡ Some part = is in cc)
other_counted test [] (x ∷ xs) part is h = let n = first_counted test x part xs is h in omega arith
other_counted test (x ∷ xs) after part is h = let n = first_counted test x part xs is h in omega arith

-- the part that is missing beside a cell is counted
beside_counted : (test : Part → Bool) (cells : List Cell) (place : ℕ) (cell : Cell) (part : Part) → slice_get cells place ≡ Some cell → cell.missing ≡ true →
    option_or (first_missing (take place cells)) (first_missing (drop (place + 1) cells)) ≡ Some part → test part ≡ true →
    1 + cond (test cell.part) 1 0 ≤ count_by (λ c. c.missing && test c.part) cells
beside_counted test cells place cell part is m beside h =
    let split = lost_around cells place cell is m in
    let n = other_counted test (lost (take place cells)) (lost (drop (place + 1) cells)) part (sym (other_parts cells place _ refl) ∙ beside) h in
    let all = ap {B = ℕ} (λ (ps : List Part). count_by test ps) split in
    omega (arith, count_lost_parts test cells, count_append test (lost (take place cells)) (cell.part ∷ lost (drop (place + 1) cells)), count_cons test cell.part (lost (drop (place + 1) cells)))

-- P's sum is the byte
pub found_by_p : (cells : List Cell) (place : ℕ) → IsRow cells → is_lost_at cells place ≡ true → needs cells Q ≡ false → FindsAt cells place 1 0
found_by_p cells place row h unneeded column e fit =
    lost_is cells column place (get_or cells place no_cell) (option_or (first_missing (take place cells)) (first_missing (drop (place + 1) cells))) 1 0 row e fit
    (slice_get-get_or cells place no_cell (lost_inside cells place h)) (lost_missing cells place h) refl
    (by (get_or cells place no_cell).part (option_or (first_missing (take place cells)) (first_missing (drop (place + 1) cells))) (lost_part cells place h) no_p no_data)
  where
    only : (lost_data cells ≡ 1) × (is_p_lost cells ≡ false)
    only = one_alone cells place h unneeded

    no_p : option_or (first_missing (take place cells)) (first_missing (drop (place + 1) cells)) ≡ Some P → ⊥
    no_p is =
        let n = beside_counted is_p cells place (get_or cells place no_cell) P (slice_get-get_or cells place no_cell (lost_inside cells place h)) (lost_missing cells place h) is refl in
        omega (arith, none_counted (λ c. c.missing && is_p c.part) cells only.1)

    no_data : (k : ℕ) → option_or (first_missing (take place cells)) (first_missing (drop (place + 1) cells)) ≡ Some (Block k) → ⊥
    no_data k is =
        let n = beside_counted is_data cells place (get_or cells place no_cell) (Block k) (slice_get-get_or cells place no_cell (lost_inside cells place h)) (lost_missing cells place h) is refl in
        let t = ap {B = ℕ} (λ (b : Bool). cond b 1 0) (lost_part cells place h) in
        omega (arith, only.0)

    by : (part : Part) (other : Option Part) → is_data part ≡ true → (other ≡ Some P → ⊥) → ((k : ℕ) → other ≡ Some (Block k) → ⊥) → Finds part other 1 0
    by P other d p b = absurd (false≢true d)
    by Q other d p b = absurd (false≢true d)
    by (Block k) None d p b = finds_data k
    by (Block k) (Some Q) d p b = finds_data_beside_q k
    by (Block k) (Some P) d p b = absurd (p refl)
    by (Block k) (Some (Block j)) d p b = absurd (b j refl)

-- a weight for each sum
pub found_by : (cells : List Cell) (place a b : ℕ) → IsRow cells → is_lost_at cells place ≡ true →
    Finds (get_or cells place no_cell).part (option_or (first_missing (take place cells)) (first_missing (drop (place + 1) cells))) a b → FindsAt cells place a b
found_by cells place a b row h finds column e fit =
    lost_is cells column place (get_or cells place no_cell) (option_or (first_missing (take place cells)) (first_missing (drop (place + 1) cells))) a b row e fit
    (slice_get-get_or cells place no_cell (lost_inside cells place h)) (lost_missing cells place h) refl finds

-- the first missing data cell and the next are all
denied : (cells : List Cell) (i : ℕ) → is_lost_at cells i ≡ false → is_lost_at cells i ≡ true → ⊥
denied cells i none is = false≢true (sym none ∙ is)

pub all_found : (cells : List Cell) (first_one : Finder) (other : Option Finder) (place : ℕ) → IsRow cells → first_one.place ≡ place → IsFinder cells first_one → ((i : ℕ) → i < place → is_lost_at cells i ≡ false) →
    MatchOption other ((i : ℕ) → place < i → is_lost_at cells i ≡ false)
    (λ finder. (place < finder.place) × IsFinder cells finder × ((i : ℕ) → place < i → i < finder.place → is_lost_at cells i ≡ false)) → AreFinders cells first_one other
all_found cells first_one None place row same found before after = record {
  first = found;
  second = tt;
  apart = tt;
  all = λ i lost.
      elim (cases_lt i place) [
        | inl less ↦ absurd (denied cells i (before i less) lost)
        | inr more ↦ elim (cases_lt place i) [ inl less ↦ absurd (denied cells i (after i less) lost) | inr not_less ↦ inl (omega arith) ]
      ];
}
all_found cells first_one (Some finder) place row same found before after = record {
  first = found;
  second = after.1;
  apart = λ e. absurd (let more = after.0 in omega arith);
  all = λ i lost.
      elim (cases_lt i place) [
        | inl less ↦ absurd (denied cells i (before i less) lost)
        | inr more ↦ elim (cases_lt place i) [
          | inl less ↦ elim (cases_lt i finder.place) [
            | inl below ↦ absurd (denied cells i (after.2 i less below) lost)
            | inr above ↦ elim (cases_lt finder.place i) [
              | inl third ↦ absurd (let many = three cells place finder.place i after.0 third (subst (λ (k : ℕ). is_lost_at cells k ≡ true) same found.lost) after.1.lost lost in omega (arith, at_most_two cells row))
              | inr is ↦ inr (omega arith)
            ]
          ]
          | inr not_less ↦ inl (omega arith)
        ]
      ];
}
