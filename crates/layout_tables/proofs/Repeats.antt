-- After how many rows a table repeats.
use Rattle.std.proofs.Common.{◌≡◌, ℕ, zero, suc, ◌≤◌, ◌<◌, ◌+◌, ◌-◌, ◌*◌, ◌/◌, ◌%◌, Bool, true, false, cond, [], get_or, unwrap_or, inl, inr, sym, subst, ap, ◌∙◌, arith, Some}
use Rattle.std.specs.List.{find, range_with_len}
use Rattle.std.specs.Str.{bytes_eq}
use Rattle.std.proofs.Math.Nat.{add-mul-mod_self_left}
use Rattle.std.proofs.lemmas.Bool.{cases_Bool, cases_lt, false≢true}
use Rattle.std.proofs.lemmas.List.FromFn.{get_or-range_with_len, length-range_with_len}
use Rattle.std.proofs.lemmas.List.Sums.{AllPass-from_list_all, list_all-from_AllPass}
use Rattle.std.proofs.lemmas.Slice.Eq.{bytes_eq-Decides}
use Rattle.layout_tables.specs.Periods.{least_period, repeats_after}
use Rattle.layout_tables.specs.Tables.{row_at, rows_of}
use Rattle.layout_tables.specs.declared.table.Table.{Table}
use Rattle.layout_tables.proofs.TableLemmas.{period_some}

-- ---- rows by their places in the period

same_rest : (table : Table) (row shift : ℕ) → row_at table (row + shift) ≡ row_at table (row % table.period + shift)
unfolding row_at
same_rest table row shift =
    let some = period_some table in
    let whole : row + shift ≡ (row % table.period + shift) + table.period * (row / table.period) = omega arith in
    ap (λ (n : ℕ). get_or (rows_of table) (n % table.period) []) whole
    ∙ ap (λ (n : ℕ). get_or (rows_of table) n []) (add-mul-mod_self_left (row % table.period + shift) table.period (row / table.period))

pub same_place : (table : Table) (row : ℕ) → row_at table row ≡ row_at table (row % table.period)
same_place table row =
    let none : row + 0 ≡ row = omega arith in
    let back : row % table.period + 0 ≡ row % table.period = omega arith in
    ap (row_at table) (sym none) ∙ same_rest table row 0 ∙ ap (row_at table) back

pub after_period : (table : Table) (row : ℕ) → row_at table (row + table.period) ≡ row_at table row
unfolding row_at
after_period table row =
    let same : row + table.period ≡ row + table.period * 1 = omega arith in
    ap (λ (n : ℕ). get_or (rows_of table) (n % table.period) []) same ∙ ap (λ (n : ℕ). get_or (rows_of table) n []) (add-mul-mod_self_left row table.period 1)

-- ---- what the test of a shift says

abbrev tests : Table → ℕ → ℕ → Bool
tests table shift row = bytes_eq (row_at table row) (row_at table (row + shift))

pub repeats : (table : Table) (shift : ℕ) → repeats_after table shift ≡ true → (row : ℕ) → row_at table (row + shift) ≡ row_at table row
unfolding repeats_after
repeats table shift is row =
    let some = period_some table in
    let at : ℕ = row % table.period in
    let below : row % table.period < table.period = omega arith in
    let many = length-range_with_len 0 table.period in
    let same = get_or-range_with_len 0 table.period (row % table.period) 0 below in
    let place : get_or (range_with_len 0 table.period) (row % table.period) 0 ≡ row % table.period = omega arith in
    let test = AllPass-from_list_all (tests table shift) (range_with_len 0 table.period) is (row % table.period) 0 (omega arith) in
    let here : tests table shift (row % table.period) ≡ true = ap (tests table shift) (sym place) ∙ test in
    let equal : row_at table (row % table.period) ≡ row_at table (row % table.period + shift) = (bytes_eq-Decides (row_at table (row % table.period)) (row_at table (row % table.period + shift))).0 here in
    same_rest table row shift ∙ sym equal ∙ sym (same_place table row)

pub repeats_back : (table : Table) (shift : ℕ) → ((row : ℕ) → row_at table (row + shift) ≡ row_at table row) → repeats_after table shift ≡ true
unfolding repeats_after
repeats_back table shift each =
    list_all-from_AllPass (tests table shift) (range_with_len 0 table.period)
    (λ k d below. (bytes_eq-Decides (row_at table (get_or (range_with_len 0 table.period) k d)) (row_at table (get_or (range_with_len 0 table.period) k d + shift))).1 (sym (each (get_or (range_with_len 0 table.period) k d))))

-- ---- the least number that passes

record IsLeast (test : ℕ → Bool) (low end least : ℕ) : Type 0 where
  from : low ≤ least
  most : least ≤ end
  passes : least < end → test least ≡ true
  none : (k : ℕ) → low ≤ k → k < least → test k ≡ false

abbrev first_of : (ℕ → Bool) → ℕ → ℕ → ℕ → ℕ
first_of test low n end = unwrap_or (find test (range_with_len low n)) end

find_least : (test : ℕ → Bool) (n low end : ℕ) → low + n ≡ end → IsLeast test low end (first_of test low n end)
find_least test zero low end is = record {
  from = omega arith;
  most = omega arith;
  passes = λ below. absurd (omega arith);
  none = λ k le lt. absurd (omega arith);
}
find_least test (suc n) low end is = elim (cases_Bool (test low)) [
  | inl here ↦
      let first : low ≡ first_of test low (suc n) end = ap (λ (b : Bool). unwrap_or (cond b (Some low) (find test (range_with_len (low + 1) n))) end) (sym here) in
      let least : IsLeast test low end low = record { from = omega arith; most = omega arith; passes = λ _. here; none = λ k le lt. absurd (omega arith) } in
      subst (IsLeast test low end) first least
  | inr later ↦
      let rest : IsLeast test (low + 1) end (first_of test (low + 1) n end) = find_least test n (low + 1) end (omega arith) in
      let next : first_of test (low + 1) n end ≡ first_of test low (suc n) end = ap (λ (b : Bool). unwrap_or (cond b (Some low) (find test (range_with_len (low + 1) n))) end) (sym later) in
      let beyond : low + 1 ≤ first_of test (low + 1) n end = rest.from in
      let least : IsLeast test low end (first_of test (low + 1) n end) = record {
        from = omega arith;
        most = rest.most;
        passes = rest.passes;
        none = λ k le lt. elim (cases_lt low k) [
          | inl more ↦ rest.none k (omega arith) lt
          | inr less ↦ let same : low ≡ k = omega arith in ap test (sym same) ∙ later
        ];
      } in
      subst (IsLeast test low end) next least
]

pub least_is : (table : Table) →
    (1 ≤ least_period table) × (least_period table ≤ table.period) × ((row : ℕ) → row_at table (row + least_period table) ≡ row_at table row)
    × ((shift : ℕ) → 1 ≤ shift → shift < least_period table → ((row : ℕ) → row_at table (row + shift) ≡ row_at table row) → ⊥)
unfolding least_period
least_is table =
    let some = period_some table in
    let n : ℕ = table.period - 1 in
    let is : IsLeast (repeats_after table) 1 table.period (first_of (repeats_after table) 1 (table.period - 1) table.period) = find_least (repeats_after table) (table.period - 1) 1 table.period (omega arith) in
    let least : ℕ = first_of (repeats_after table) 1 (table.period - 1) table.period in (
      is.from,
      is.most,
      elim (cases_lt (first_of (repeats_after table) 1 (table.period - 1) table.period) table.period) [
        | inl below ↦ repeats table (first_of (repeats_after table) 1 (table.period - 1) table.period) (is.passes below)
        | inr whole ↦
            let most = is.most in
            let same : table.period ≡ first_of (repeats_after table) 1 (table.period - 1) table.period = omega arith in
            subst (λ (shift : ℕ). (row : ℕ) → row_at table (row + shift) ≡ row_at table row) same (after_period table)
      ],
      λ shift from below each. false≢true (sym (is.none shift from below) ∙ repeats_back table shift each),
    )
