-- The lost parity of a row, by the sums of its data.
use Rattle.std.proofs.Common.{ℕ, zero, suc, ◌≡◌, ◌<◌, ◌≤◌, ◌+◌, ◌*◌, Bool, true, false, cond, not, ◌&&◌, ◌||◌, nat_eq, List, [], ◌∷◌, ◌++◌, length, take, drop, get_or, count_by, slice_index, refl, sym, ap, ap₂, ◌∙◌, subst, arith, bit_xor, slice_get, All, IfSome}
use Rattle.std.specs.List.{AllByRecursion, cons_option, list_any, IsDistinct}
use Rattle.std.proofs.lemmas.Bool.{and_parts, eqb-true, false≢true}
use Rattle.std.proofs.lemmas.List.{length-take, map-append, take_all, take_more}
use Rattle.std.proofs.lemmas.List.FromFn.{length-map-range_with_len, get_or-map-range_with_len}
use Rattle.gf256.proofs.Sums.{equal_from_sum, sum_associates, sum_commutes, sum_zero}
use Rattle.raid_params.specs.declared.types.Cell.{Cell}
use Rattle.raid_params.specs.declared.types.Part.{Part}
use Rattle.raid_params.specs.declared.types.Part.TheVariants.{Block, P, Q}
use Rattle.raid_terms.specs.Parity.{exponent_in, exponents, has_p, has_q, in_p, in_q, is_data, is_p, is_q, p_holds, q_holds, sum_of, IsRow}
use Rattle.raid_terms.specs.Solving.{is_one_lost, is_q_lost, lost_byte, solved, solves}
use Rattle.pq_parity.specs.DataThere.{data_there, parity_lost, HoldAllData, HoldLostAt}
use Rattle.row_parity.specs.Known.{no_cell}
use Rattle.row_parity.specs.Regions.{region_column, HoldSums}
use Rattle.row_parity.specs.Syndromes.{known_sum, AreColumns}
use Rattle.row_parity.proofs.Fillings.{lost, put}
use Rattle.pq_parity.proofs.LostColumns.{solved_by}
use Rattle.pq_parity.proofs.Needed.{both_true, by_p_alone, missing_kinds, some_counted}
use Rattle.pq_parity.proofs.RowSteps.{from_there}
use Rattle.row_parity.proofs.Shapes.{count_cons, length_lost}

-- the parts stay the same
count_parts : (test : Part → Bool) (cells : List Cell) → count_by (λ c. test c.part) (parity_lost cells) ≡ count_by (λ c. test c.part) cells
count_parts test [] = refl
count_parts test (cell ∷ cells) =
    omega (arith, count_cons (λ c. test c.part) (data_there cell) (parity_lost cells), count_cons (λ c. test c.part) cell cells, count_parts test cells)

any_part : (test : Part → Bool) (cells : List Cell) → list_any (λ c. test c.part) (parity_lost cells) ≡ list_any (λ c. test c.part) cells
any_part test [] = refl
any_part test (cell ∷ cells) = ap (λ (b : Bool). test cell.part || b) (any_part test cells)

same_exponents : (cells : List Cell) → exponents (parity_lost cells) ≡ exponents cells
same_exponents [] = refl
same_exponents (cell ∷ cells) = ap (λ (ks : List ℕ). cons_option (exponent_in cell.part) ks) (same_exponents cells)

parity_missing : (cells : List Cell) → count_by (λ c. c.missing) (parity_lost cells) ≡ count_by (λ c. not (is_data c.part)) cells
parity_missing [] = refl
parity_missing (cell ∷ cells) =
    omega (arith, count_cons (λ c. c.missing) (data_there cell) (parity_lost cells), count_cons (λ c. not (is_data c.part)) cell cells, parity_missing cells)

pub same_length : (cells : List Cell) → length (parity_lost cells) ≡ length cells
same_length [] = refl
same_length (cell ∷ cells) = ap suc (same_length cells)

pub still_q : (cells : List Cell) → has_q (parity_lost cells) ≡ has_q cells
still_q cells = any_part is_q cells

-- so they are still a row
pub still_row : (cells : List Cell) → IsRow cells → IsRow (parity_lost cells)
still_row cells row = record {
  few = let few = row.few in omega (arith, same_length cells);
  most = let most = row.most in omega (arith, same_length cells);
  one_p = let one = row.one_p in omega (arith, count_parts is_p cells);
  one_q = let one = row.one_q in omega (arith, count_parts is_q cells);
  beside = λ h. any_part is_p cells ∙ row.beside (sym (still_q cells) ∙ h);
  apart = λ h. subst (IsDistinct nat_eq) (sym (same_exponents cells)) (row.apart (sym (still_q cells) ∙ h));
  short = λ h. subst (All (λ k. k < 255)) (sym (same_exponents cells)) (row.short (sym (still_q cells) ∙ h));
  missing = omega (arith, parity_missing cells, count_parts (λ part. not (is_data part)) cells);
}

-- to these sums a part of this kind adds its byte, and no other parity adds anything
record AddsAlone (test : Part → Bool) (adds : Part → ℕ → ℕ) : Type 0 where
  pub byte : (part : Part) (b : ℕ) → test part ≡ true → adds part b ≡ b
  pub parity : (part : Part) → test part ≡ true → is_data part ≡ false
  pub others : (part : Part) (b : ℕ) → test part ≡ false → cond (not (is_data part)) 0 (adds part b) ≡ adds part b

p_alone : AddsAlone is_p in_p
p_alone = record { byte = byte; parity = parity; others = others }
  where
    byte : (part : Part) (b : ℕ) → is_p part ≡ true → in_p part b ≡ b
    byte P b is = refl
    byte Q b is = absurd (false≢true is)
    byte (Block k) b is = absurd (false≢true is)

    parity : (part : Part) → is_p part ≡ true → is_data part ≡ false
    parity P is = refl
    parity Q is = refl
    parity (Block k) is = absurd (false≢true is)

    others : (part : Part) (b : ℕ) → is_p part ≡ false → cond (not (is_data part)) 0 (in_p part b) ≡ in_p part b
    others P b is = absurd (false≢true (sym is))
    others Q b is = refl
    others (Block k) b is = refl

q_alone : AddsAlone is_q in_q
q_alone = record { byte = byte; parity = parity; others = others }
  where
    byte : (part : Part) (b : ℕ) → is_q part ≡ true → in_q part b ≡ b
    byte P b is = absurd (false≢true is)
    byte Q b is = refl
    byte (Block k) b is = absurd (false≢true is)

    parity : (part : Part) → is_q part ≡ true → is_data part ≡ false
    parity P is = refl
    parity Q is = refl
    parity (Block k) is = absurd (false≢true is)

    others : (part : Part) (b : ℕ) → is_q part ≡ false → cond (not (is_data part)) 0 (in_q part b) ≡ in_q part b
    others P b is = refl
    others Q b is = absurd (false≢true (sym is))
    others (Block k) b is = refl

none_more : (t : Bool) (n : ℕ) → cond t 1 0 + n ≡ 0 → (t ≡ false) × (n ≡ 0)
none_more true n e = absurd (omega arith)
none_more false n e = (refl, omega arith)

one_only : (t : Bool) (n : ℕ) → 1 ≤ n → cond t 1 0 + n ≤ 1 → (t ≡ false) × (n ≤ 1)
one_only true n some few = absurd (omega arith)
one_only false n some few = (refl, omega arith)

-- a cell that passes is counted, and is one
counted : (test : Cell → Bool) (cells : List Cell) (place : ℕ) → place < length cells → test (get_or cells place no_cell) ≡ true → 1 ≤ count_by test cells
counted test [] place below is = absurd (omega arith)
counted test (cell ∷ cells) zero below is = let t = ap {B = ℕ} (λ (b : Bool). cond b 1 0) is in omega (arith, count_cons test cell cells)
counted test (cell ∷ cells) (suc place) below is = let rest = counted test cells place (omega arith) is in omega (arith, count_cons test cell cells)

or_true : (b : Bool) → (b || true) ≡ true
or_true true = refl
or_true false = refl

pub any_at : (test : Cell → Bool) (cells : List Cell) (place : ℕ) → place < length cells → test (get_or cells place no_cell) ≡ true → list_any test cells ≡ true
any_at test [] place below is = absurd (omega arith)
any_at test (cell ∷ cells) zero below is = ap (λ (b : Bool). b || list_any test cells) is
any_at test (cell ∷ cells) (suc place) below is = ap (λ (b : Bool). test cell || b) (any_at test cells place (omega arith) is) ∙ or_true (test cell)

-- the sum of a column is that of its data, where no part of the kind is among the cells
sum_none : (test : Part → Bool) (adds : Part → ℕ → ℕ) → AddsAlone test adds → (cells : List Cell) (bytes : List ℕ) → count_by (λ c. test c.part) cells ≡ 0 →
    sum_of adds cells bytes ≡ known_sum adds (parity_lost cells) bytes
unfolding sum_of known_sum
sum_none test adds alone [] bytes none = refl
sum_none test adds alone (cell ∷ cells) [] none = refl
sum_none test adds alone (cell ∷ cells) (byte ∷ bytes) none =
    let n = none_more (test cell.part) (count_by (λ c. test c.part) cells) (sym (count_cons (λ c. test c.part) cell cells) ∙ none) in
    ap₂ bit_xor (sym (alone.others cell.part byte n.0)) (sum_none test adds alone cells bytes n.1)

-- and else the byte of that part is added
sum_split : (test : Part → Bool) (adds : Part → ℕ → ℕ) → AddsAlone test adds → (cells : List Cell) (bytes : List ℕ) (place : ℕ) → place < length cells → length bytes ≡ length cells →
    test (get_or cells place no_cell).part ≡ true → count_by (λ c. test c.part) cells ≤ 1 → sum_of adds cells bytes ≡ bit_xor (known_sum adds (parity_lost cells) bytes) (get_or bytes place 0)
unfolding sum_of known_sum
sum_split test adds alone [] bytes place below long is one = absurd (omega arith)
sum_split test adds alone (cell ∷ cells) [] place below long is one = absurd (omega arith)
sum_split test adds alone (cell ∷ cells) (byte ∷ bytes) zero below long is one =
    let t = ap {B = ℕ} (λ (b : Bool). cond b 1 0) is in
    let none : count_by (λ c. test c.part) cells ≡ 0 = omega (arith, count_cons (λ c. test c.part) cell cells) in
    ap₂ bit_xor (alone.byte cell.part byte is) (sum_none test adds alone cells bytes none)
    ∙ sum_commutes byte (known_sum adds (parity_lost cells) bytes)
    ∙ ap (λ (sum : ℕ). bit_xor sum byte)
    (sym (ap (λ (b : Bool). bit_xor (cond (not b) 0 (adds cell.part byte)) (known_sum adds (parity_lost cells) bytes)) (alone.parity cell.part is)
    ∙ sum_commutes 0 (known_sum adds (parity_lost cells) bytes) ∙ sum_zero (known_sum adds (parity_lost cells) bytes)))
sum_split test adds alone (cell ∷ cells) (byte ∷ bytes) (suc place) below long is one =
    let some = counted (λ c. test c.part) cells place (omega arith) is in
    let few : cond (test cell.part) 1 0 + count_by (λ c. test c.part) cells ≤ 1 = omega (arith, count_cons (λ c. test c.part) cell cells) in
    let n = one_only (test cell.part) (count_by (λ c. test c.part) cells) some few in
    ap₂ bit_xor (sym (alone.others cell.part byte n.0)) (sum_split test adds alone cells bytes place (omega arith) (omega arith) is n.1)
    ∙ sym (sum_associates (cond (not (is_data cell.part)) 0 (adds cell.part byte)) (known_sum adds (parity_lost cells) bytes) (get_or bytes place 0))

-- columns with the same data have the same sums of data
data_step : (t : Bool) (adds : Part → ℕ → ℕ) (part : Part) (x y : ℕ) → (t ≡ true → x ≡ y) → cond (not t) 0 (adds part x) ≡ cond (not t) 0 (adds part y)
data_step true adds part x y same = ap (adds part) (same refl)
data_step false adds part x y same = refl

same_data : (adds : Part → ℕ → ℕ) (cells : List Cell) (xs ys : List ℕ) → length xs ≡ length cells → length ys ≡ length cells →
    ((i : ℕ) → i < length cells → is_data (get_or cells i no_cell).part ≡ true → get_or xs i 0 ≡ get_or ys i 0) → known_sum adds (parity_lost cells) xs ≡ known_sum adds (parity_lost cells) ys
unfolding known_sum
same_data adds [] xs ys ex ey same = refl
same_data adds (cell ∷ cells) [] ys ex ey same = absurd (omega arith)
same_data adds (cell ∷ cells) (x ∷ xs) [] ex ey same = absurd (omega arith)
same_data adds (cell ∷ cells) (x ∷ xs) (y ∷ ys) ex ey same =
    ap₂ bit_xor (data_step (is_data cell.part) adds cell.part x y (same 0 (omega arith)))
    (same_data adds cells xs ys (omega arith) (omega arith) (λ i below. same (suc i) (omega arith)))

-- a filled column has a byte for each cell, and keeps those that are there
long_step : (t : Bool) (n x y : ℕ) (us vs : List ℕ) → length us ≡ n → length vs ≡ n → length (cond t (x ∷ us) (y ∷ vs)) ≡ suc n
long_step true n x y us vs e f = ap suc e
long_step false n x y us vs e f = ap suc f

put_long : (cells : List Cell) (bytes xs : List ℕ) → length bytes ≡ length cells → length (put cells bytes xs) ≡ length cells
put_long [] bytes xs e = refl
put_long (cell ∷ cells) [] xs e = absurd (omega arith)
put_long (cell ∷ cells) (byte ∷ bytes) xs e =
    long_step cell.missing (length cells) (get_or xs 0 0) byte (put cells bytes (drop 1 xs)) (put cells bytes xs) (put_long cells bytes (drop 1 xs) (omega arith)) (put_long cells bytes xs (omega arith))

kept_step : (t : Bool) (x y place byte : ℕ) (us vs : List ℕ) → get_or us place 0 ≡ byte → get_or vs place 0 ≡ byte → get_or (cond t (x ∷ us) (y ∷ vs)) (suc place) 0 ≡ byte
kept_step true x y place byte us vs e f = e
kept_step false x y place byte us vs e f = f

put_kept : (cells : List Cell) (bytes xs : List ℕ) (place : ℕ) → length bytes ≡ length cells → place < length cells → (get_or cells place no_cell).missing ≡ false →
    get_or (put cells bytes xs) place 0 ≡ get_or bytes place 0
put_kept [] bytes xs place e below there = absurd (omega arith)
put_kept (cell ∷ cells) [] xs place e below there = absurd (omega arith)
put_kept (cell ∷ cells) (byte ∷ bytes) xs zero e below there = ap (λ (t : Bool). get_or (cond t (get_or xs 0 0 ∷ put cells bytes (drop 1 xs)) (byte ∷ put cells bytes xs)) 0 0) there
put_kept (cell ∷ cells) (byte ∷ bytes) xs (suc place) e below there =
    kept_step cell.missing (get_or xs 0 0) byte place (get_or bytes place 0) (put cells bytes (drop 1 xs)) (put cells bytes xs)
    (put_kept cells bytes (drop 1 xs) place (omega arith) (omega arith) there) (put_kept cells bytes xs place (omega arith) (omega arith) there)

-- a column that solves cancels in the equation of a missing parity cell
holds_zero : (h : Bool) (sum : ℕ) → h ≡ true → (not h || nat_eq sum 0) ≡ true → sum ≡ 0
holds_zero true sum h holds = eqb-true sum 0 holds
holds_zero false sum h holds = absurd (false≢true h)

abbrev pub MissesPart : (Part → Bool) → List Cell → ℕ → Type 0
MissesPart test cells place = (place < length cells) × ((get_or cells place no_cell).missing ≡ true) × (test (get_or cells place no_cell).part ≡ true)

misses_cell : (test : Part → Bool) (cells : List Cell) (place : ℕ) → MissesPart test cells place → ((get_or cells place no_cell).missing && test (get_or cells place no_cell).part) ≡ true
misses_cell test cells place lost = both_true (get_or cells place no_cell).missing (test (get_or cells place no_cell).part) lost.1 lost.2

p_zero : (cells : List Cell) (column : List ℕ) (place : ℕ) → MissesPart is_p cells place → solves cells column ≡ true → sum_of in_p cells column ≡ 0
p_zero cells column place lost solution = holds_zero (has_p cells) (sum_of in_p cells column) (any_at (λ c. is_p c.part) cells place lost.0 lost.2) (by (is_one_lost cells) refl)
  where
    by_q : (q : Bool) → is_q_lost cells ≡ q → is_one_lost cells ≡ true → is_q_lost cells ≡ false
    by_q false is one = is
    by_q true is one =
        let p = counted (λ c. c.missing && is_p c.part) cells place lost.0 (misses_cell is_p cells place lost) in
        let q = some_counted (λ c. c.missing && is_q c.part) cells is in
        let e = eqb-true (count_by (λ c. c.missing) cells) 1 one in
        absurd (omega (arith, missing_kinds cells))

    by : (one : Bool) → is_one_lost cells ≡ one → p_holds cells column ≡ true
    by true one = sym (by_p_alone cells column one (by_q (is_q_lost cells) refl one)) ∙ solution
    by false one =
        (and_parts (p_holds cells column) (q_holds cells column)
        (sym (ap (λ (b : Bool). cond b (cond (is_q_lost cells) (q_holds cells column) (p_holds cells column)) (p_holds cells column && q_holds cells column)) one) ∙ solution)).0

q_zero : (cells : List Cell) (column : List ℕ) (place : ℕ) → MissesPart is_q cells place → solves cells column ≡ true → sum_of in_q cells column ≡ 0
q_zero cells column place lost solution = holds_zero (has_q cells) (sum_of in_q cells column) (any_at (λ c. is_q c.part) cells place lost.0 lost.2) (by (is_one_lost cells) (sym asked ∙ solution))
  where
    asked : solves cells column ≡ cond (is_one_lost cells) (q_holds cells column) (p_holds cells column && q_holds cells column)
    asked =
        ap (λ (b : Bool). cond (is_one_lost cells) (cond b (q_holds cells column) (p_holds cells column)) (p_holds cells column && q_holds cells column))
        (any_at (λ c. c.missing && is_q c.part) cells place lost.0 (misses_cell is_q cells place lost))

    by : (one : Bool) → cond one (q_holds cells column) (p_holds cells column && q_holds cells column) ≡ true → q_holds cells column ≡ true
    by true holds = holds
    by false holds = (and_parts (p_holds cells column) (q_holds cells column) holds).1

-- these bytes hold the data of a column
abbrev HoldsData : List Cell → List ℕ → List ℕ → Type 0
HoldsData cells column bytes =
    (i : ℕ) → i < length cells → is_data (get_or cells i no_cell).part ≡ true → get_or bytes i 0 ≡ cond (get_or cells i no_cell).missing (lost_byte cells column i) (get_or column i 0)

-- where it is solved so, the lost byte is the sum of the data
found_put : (test : Part → Bool) (adds : Part → ℕ → ℕ) → AddsAlone test adds → (cells : List Cell) (column bytes xs : List ℕ) (place : ℕ) →
    length column ≡ length cells → MissesPart test cells place → count_by (λ c. test c.part) cells ≤ 1 → solved cells column ≡ put cells column xs →
    sum_of adds cells (solved cells column) ≡ 0 → length bytes ≡ length cells → HoldsData cells column bytes → known_sum adds (parity_lost cells) bytes ≡ lost_byte cells column place
found_put test adds alone cells column bytes xs place long lost_part one is cancels whole hold =
    same_data adds cells bytes (solved cells column) whole solved_long (λ i below holds. hold i below holds ∙ by i below (get_or cells i no_cell).missing refl)
    ∙ equal_from_sum (known_sum adds (parity_lost cells) (solved cells column)) (get_or (solved cells column) place 0)
    (sym (sum_split test adds alone cells (solved cells column) place lost_part.0 solved_long lost_part.2 one) ∙ cancels)
  where
    solved_long : length (solved cells column) ≡ length cells
    solved_long = ap (λ (c : List ℕ). length c) is ∙ put_long cells column xs long

    by : (i : ℕ) → i < length cells → (t : Bool) → (get_or cells i no_cell).missing ≡ t → cond (get_or cells i no_cell).missing (lost_byte cells column i) (get_or column i 0) ≡ get_or (solved cells column) i 0
    by i below true m = ap (λ (b : Bool). cond b (lost_byte cells column i) (get_or column i 0)) m
    by i below false m =
        ap (λ (b : Bool). cond b (lost_byte cells column i) (get_or column i 0)) m
        ∙ sym (ap (λ (c : List ℕ). get_or c i 0) is ∙ put_kept cells column xs i long below m)

-- so it is
found_by_data : (test : Part → Bool) (adds : Part → ℕ → ℕ) → AddsAlone test adds → (cells : List Cell) (column bytes : List ℕ) (place : ℕ) → IsRow cells →
    length column ≡ length cells → AllByRecursion (λ b. b < 256) column → MissesPart test cells place → count_by (λ c. test c.part) cells ≤ 1 →
    (solves cells (solved cells column) ≡ true → sum_of adds cells (solved cells column) ≡ 0) → length bytes ≡ length cells → HoldsData cells column bytes →
    known_sum adds (parity_lost cells) bytes ≡ lost_byte cells column place
found_by_data test adds alone cells column bytes place row long fit lost_part one cancels whole hold =
    let some : 1 ≤ length (lost cells) = omega (arith, length_lost cells, counted (λ c. c.missing) cells place lost_part.0 lost_part.1) in
    let solution = solved_by cells column row long fit some in
    found_put test adds alone cells column bytes solution.0 place long lost_part one solution.3 (cancels solution.5) whole hold

-- sums of data in the region of a lost parity cell are its bytes
lost_sums : (test : Part → Bool) (adds : Part → ℕ → ℕ) → AddsAlone test adds → (cells : List Cell) (stride from count place : ℕ) (old new : List ℕ) (column : ℕ → ℕ → List ℕ) → IsRow cells →
    MissesPart test cells place → count_by (λ c. test c.part) cells ≤ 1 → ((found : List ℕ) → solves cells found ≡ true → sum_of adds cells found ≡ 0) → ((j : ℕ) → AreColumns cells (column j)) →
    HoldAllData cells stride from count old column → HoldSums adds (parity_lost cells) stride from count place old new → HoldLostAt cells stride from count place new column
lost_sums test adds alone cells stride from count place old new column row lost_part one cancels are hold sums = λ j x low high below.
    sums j x low high below
    ∙ found_by_data test adds alone cells (column j x) (region_column (length (parity_lost cells)) stride old j x) place row (are j x).0 (are j x).1 lost_part one (cancels (solved cells (column j x)))
    (length-map-range_with_len (λ i. slice_index old (stride * i + (512 * j + x))) 0 (length (parity_lost cells)) ∙ same_length cells)
    (λ i inside holds.
    get_or-map-range_with_len (λ i. slice_index old (stride * i + (512 * j + x))) 0 (length (parity_lost cells)) i i 0 (let e = same_length cells in omega arith) (omega arith)
    ∙ from_there cells i no_cell inside _ (hold i) holds j x low high below)

pub lost_p_sums : (cells : List Cell) (stride from count place : ℕ) (old new : List ℕ) (column : ℕ → ℕ → List ℕ) → IsRow cells → MissesPart is_p cells place → ((j : ℕ) → AreColumns cells (column j)) →
    HoldAllData cells stride from count old column → HoldSums in_p (parity_lost cells) stride from count place old new → HoldLostAt cells stride from count place new column
lost_p_sums cells stride from count place old new column row lost_part are hold sums =
    lost_sums is_p in_p p_alone cells stride from count place old new column row lost_part row.one_p (λ found solution. p_zero cells found place lost_part solution) are hold sums

pub lost_q_sums : (cells : List Cell) (stride from count place : ℕ) (old new : List ℕ) (column : ℕ → ℕ → List ℕ) → IsRow cells → MissesPart is_q cells place → ((j : ℕ) → AreColumns cells (column j)) →
    HoldAllData cells stride from count old column → HoldSums in_q (parity_lost cells) stride from count place old new → HoldLostAt cells stride from count place new column
lost_q_sums cells stride from count place old new column row lost_part are hold sums =
    lost_sums is_q in_q q_alone cells stride from count place old new column row lost_part row.one_q (λ found solution. q_zero cells found place lost_part solution) are hold sums

-- one more cell
pub parity_more : (cells made : List Cell) (place : ℕ) (cell : Cell) → place < length cells → made ≡ parity_lost (take place cells) → cell ≡ data_there (get_or cells place no_cell) →
    made ++ (cell ∷ []) ≡ parity_lost (take (place + 1) cells)
parity_more cells made place cell below so_far is =
    ap₂ (λ (cs : List Cell) (c : Cell). cs ++ (c ∷ [])) so_far is
    ∙ sym (ap (λ (cs : List Cell). parity_lost cs) (take_more cells place no_cell below) ∙ map-append data_there (take place cells) (get_or cells place no_cell ∷ []))

pub made_length : (cells made : List Cell) (place : ℕ) → place ≤ length cells → made ≡ parity_lost (take place cells) → length made ≡ place
made_length cells made place below so_far = ap (λ (cs : List Cell). length cs) so_far ∙ same_length (take place cells) ∙ omega (arith, length-take place cells)

pub all_made : (cells made : List Cell) (place : ℕ) → place ≡ length cells → made ≡ parity_lost (take place cells) → made ≡ parity_lost cells
all_made cells made place all so_far = so_far ∙ ap (λ (n : ℕ). parity_lost (take n cells)) all ∙ ap (λ (cs : List Cell). parity_lost cs) (take_all (length cells) cells (omega arith))

-- what stands at a missing parity cell
parity_kind : (part : Part) → is_q part ≡ false → is_data part ≡ false → is_p part ≡ true
parity_kind P no_q no_data = refl
parity_kind Q no_q no_data = absurd (false≢true (sym no_q))
parity_kind (Block k) no_q no_data = absurd (false≢true (sym no_data))

pub misses_q : (cells : List Cell) (place : ℕ) → place < length cells → IfSome (slice_get cells place) (λ cell. cell.missing ≡ true) → is_q (get_or cells place no_cell).part ≡ true → MissesPart is_q cells place
misses_q cells place below missing is = (below, from_there cells place no_cell below (λ cell. cell.missing ≡ true) missing, is)

pub misses_p : (cells : List Cell) (place : ℕ) → place < length cells → IfSome (slice_get cells place) (λ cell. cell.missing ≡ true) → IfSome (slice_get cells place) (λ cell. is_data cell.part ≡ false) →
    is_q (get_or cells place no_cell).part ≡ false → MissesPart is_p cells place
misses_p cells place below missing parity no_q = (
  below,
  from_there cells place no_cell below (λ cell. cell.missing ≡ true) missing,
  parity_kind (get_or cells place no_cell).part no_q (from_there cells place no_cell below (λ cell. is_data cell.part ≡ false) parity),
)
