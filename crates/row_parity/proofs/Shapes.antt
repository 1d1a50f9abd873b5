-- Which parts may be missing together.
use Rattle.std.proofs.Common.{ℕ, ◌≡◌, ◌<◌, ◌≤◌, ◌+◌, Bool, true, false, not, cond, ◌||◌, List, [], ◌∷◌, length, refl, sym, ◌∙◌, arith, nat_eq, count_by}
use Rattle.std.specs.List.{AllByRecursion, IsDistinct, filter_map, list_any, cons_option}
use Rattle.std.proofs.lemmas.List.Elements.{recursion_from_All}
use Rattle.std.proofs.lemmas.List.Sums.{sum_by-cons}
use Rattle.std.proofs.lemmas.Map.Keys.{IsDistinct-head, IsDistinct-tail, IsDistinct-cons}
use Rattle.raid_params.specs.declared.types.Cell.{Cell}
use Rattle.raid_params.specs.declared.types.Part.{Part}
use Rattle.raid_params.specs.declared.types.Part.TheVariants.{Block, P, Q}
use Rattle.raid_terms.specs.Parity.{is_p, is_q, is_data, exponent_in, exponents, has_p, has_q, IsRow}
use Rattle.row_parity.proofs.Fillings.{lost}

-- parts that may be missing together from a row with or without P and Q
pub record MayBeLost (p q : Bool) (parts : List Part) : Type 0 where
  pub beside : q ≡ true → p ≡ true
  pub few : length parts ≤ cond p 1 0 + cond q 1 0
  pub p_there : count_by is_p parts ≤ cond p 1 0
  pub q_there : count_by is_q parts ≤ cond q 1 0
  pub apart : q ≡ true → IsDistinct nat_eq (filter_map exponent_in parts)
  pub short : q ≡ true → AllByRecursion (λ k. k < 255) (filter_map exponent_in parts)

pub count_cons : {X : Type 0} (test : X → Bool) (x : X) (xs : List X) → count_by test (x ∷ xs) ≡ cond (test x) 1 0 + count_by test xs
count_cons test x xs = sum_by-cons (λ y. cond (test y) 1 0) x xs

count_step : (t : Bool) (test : Part → Bool) (part : Part) (parts : List Part) (n : ℕ) → count_by test parts ≤ n → count_by test (cond t (part ∷ parts) parts) ≤ cond (test part) 1 0 + n
count_step true test part parts n h = rw (count_cons test part parts) (omega arith)
count_step false test part parts n h = omega arith

pub count_lost : (test : Part → Bool) (cells : List Cell) → count_by test (lost cells) ≤ count_by (λ c. test c.part) cells
count_lost test [] = omega arith
count_lost test (cell ∷ cells) =
    rw (count_cons (λ c. test c.part) cell cells)
    (count_step cell.missing test cell.part (lost cells) (count_by (λ c. test c.part) cells) (count_lost test cells))

length_step : (t : Bool) (part : Part) (parts : List Part) (n : ℕ) → length parts ≡ n → length (cond t (part ∷ parts) parts) ≡ cond t 1 0 + n
length_step true part parts n h = omega arith
length_step false part parts n h = omega arith

pub length_lost : (cells : List Cell) → length (lost cells) ≡ count_by (λ c. c.missing) cells
length_lost [] = refl
length_lost (cell ∷ cells) =
    length_step cell.missing cell.part (lost cells) (count_by (λ c. c.missing) cells) (length_lost cells) ∙ sym (count_cons (λ c. c.missing) cell cells)

flag_step : (t s : Bool) (n : ℕ) → cond t 1 0 + n ≤ 1 → (n ≤ 1 → n ≡ cond s 1 0) → cond t 1 0 + n ≡ cond (t || s) 1 0
flag_step true s n h next = omega arith
flag_step false s n h next = let e = next (omega arith) in omega arith

-- a count of at most 1 is 1 where there is one
pub flag_count : {X : Type 0} (test : X → Bool) (xs : List X) → count_by test xs ≤ 1 → count_by test xs ≡ cond (list_any test xs) 1 0
flag_count test [] h = refl
flag_count test (x ∷ xs) h =
    count_cons test x xs ∙ flag_step (test x) (list_any test xs) (count_by test xs) (omega (arith, count_cons test x xs)) (flag_count test xs)

kind_step : (part : Part) → cond (not (is_data part)) 1 0 ≡ cond (is_p part) 1 0 + cond (is_q part) 1 0
kind_step (Block k) = refl
kind_step P = refl
kind_step Q = refl

pub kinds : (cells : List Cell) → count_by (λ c. not (is_data c.part)) cells ≡ count_by (λ c. is_p c.part) cells + count_by (λ c. is_q c.part) cells
kinds [] = refl
kinds (cell ∷ cells) =
    let a = kind_step cell.part in
    let b = kinds cells in
    omega (arith, count_cons (λ c. not (is_data c.part)) cell cells, count_cons (λ c. is_p c.part) cell cells, count_cons (λ c. is_q c.part) cell cells)

all_step : (t : Bool) (test : ℕ → Type 0) (part : Part) (parts : List Part) (ks : List ℕ) →
    (AllByRecursion test ks → AllByRecursion test (filter_map exponent_in parts)) → AllByRecursion test (cons_option (exponent_in part) ks) →
    AllByRecursion test (filter_map exponent_in (cond t (part ∷ parts) parts))
all_step true test (Block k) parts ks next h = (h.0, next h.1)
all_step true test P parts ks next h = next h
all_step true test Q parts ks next h = next h
all_step false test (Block k) parts ks next h = next h.1
all_step false test P parts ks next h = next h
all_step false test Q parts ks next h = next h

pub all_lost : (test : ℕ → Type 0) (cells : List Cell) → AllByRecursion test (exponents cells) → AllByRecursion test (filter_map exponent_in (lost cells))
all_lost test [] h = h
all_lost test (cell ∷ cells) h = all_step cell.missing test cell.part (lost cells) (exponents cells) (all_lost test cells) h

distinct_step : (t : Bool) (part : Part) (cells : List Cell) → (IsDistinct nat_eq (exponents cells) → IsDistinct nat_eq (filter_map exponent_in (lost cells))) →
    IsDistinct nat_eq (cons_option (exponent_in part) (exponents cells)) → IsDistinct nat_eq (filter_map exponent_in (cond t (part ∷ lost cells) (lost cells)))
distinct_step true (Block k) cells next h =
    IsDistinct-cons nat_eq k (filter_map exponent_in (lost cells))
    (all_lost (λ y. nat_eq k y ≡ false) cells (IsDistinct-head nat_eq k (exponents cells) h)) (next (IsDistinct-tail nat_eq k (exponents cells) h))
distinct_step true P cells next h = next h
distinct_step true Q cells next h = next h
distinct_step false (Block k) cells next h = next (IsDistinct-tail nat_eq k (exponents cells) h)
distinct_step false P cells next h = next h
distinct_step false Q cells next h = next h

pub distinct_lost : (cells : List Cell) → IsDistinct nat_eq (exponents cells) → IsDistinct nat_eq (filter_map exponent_in (lost cells))
distinct_lost [] h = h
distinct_lost (cell ∷ cells) h = distinct_step cell.missing cell.part cells (distinct_lost cells) h

-- how many cells of a row hold parity
pub parity_count : (cells : List Cell) → IsRow cells → count_by (λ c. not (is_data c.part)) cells ≡ cond (has_p cells) 1 0 + cond (has_q cells) 1 0
parity_count cells row =
    let p = flag_count (λ c. is_p c.part) cells row.one_p in
    let q = flag_count (λ c. is_q c.part) cells row.one_q in
    let k = kinds cells in
    omega arith

pub may_be_lost : (cells : List Cell) → IsRow cells → MayBeLost (has_p cells) (has_q cells) (lost cells)
may_be_lost cells row = record {
  beside = row.beside;
  few = omega (arith, length_lost cells, parity_count cells row, row.missing);
  p_there = omega (arith, count_lost is_p cells, flag_count (λ c. is_p c.part) cells row.one_p);
  q_there = omega (arith, count_lost is_q cells, flag_count (λ c. is_q c.part) cells row.one_q);
  apart = λ h. distinct_lost cells (row.apart h);
  short = λ h. all_lost (λ k. k < 255) cells (recursion_from_All (λ k. k < 255) (exponents cells) (row.short h));
}
