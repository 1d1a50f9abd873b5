-- Attributes and runs, one after the other.
use Rattle.std.proofs.Common.{◌≡◌, ℕ, zero, suc, ◌+◌, ◌-◌, ◌*◌, ◌<◌, ◌≤◌, ◌^◌, List, [], ◌∷◌, ◌++◌, Bool, true, false, cond, length, refl, sym, ap, arith, Option, None, Some}
use Rattle.std.specs.Prelude.{◌&&◌, ◌==◌, ◌/◌, ◌%◌, nat_lt, option_and_then}
use Rattle.std.proofs.lemmas.Bool.Decides.{nat_tests}
use Rattle.mft.specs.Fields.{byte_at}
use Rattle.mft.specs.Runs.{attribute_bytes, count_bytes, data_from, distance_bytes, has_next, has_run, is_data, next_run, run_at, runs_from, is_near_run}
use Rattle.mft.specs.declared.runs.Run.{Run}

-- ---- attributes

pub data_none : (file : List ℕ) (left at : ℕ) → left ≡ 0 → data_from file left at ≡ None
unfolding data_from
data_none file zero at none = refl
data_none file (suc left) at none = absurd (omega (arith, none))

pub data_step : (file : List ℕ) (left at : ℕ) → 0 < left →
    data_from file left at ≡ cond (is_data file at) (Some at) (cond (has_next file at) (data_from file (left - 1) (at + attribute_bytes file at)) None)
unfolding data_from
data_step file zero at some = absurd (omega arith)
data_step file (suc left) at some =
    let one : suc left - 1 ≡ left = omega arith in
    sym (ap (λ (n : ℕ). cond (is_data file at) (Some at) (cond (has_next file at) (data_from file n (at + attribute_bytes file at)) None)) one)

-- ---- runs

pub runs_end : (cluster : ℕ) (file : List ℕ) (end left at from : ℕ) (runs : List Run) → at < end → byte_at file at ≡ 0 →
    runs_from cluster file end left at from runs ≡ Some runs
unfolding runs_from
runs_end cluster file end zero at from runs below ends = let is : (nat_lt at end && (byte_at file at == 0)) ≡ true = grind (arith, nat_tests) in rw is refl
runs_end cluster file end (suc left) at from runs below ends = let is : (nat_lt at end && (byte_at file at == 0)) ≡ true = grind (arith, nat_tests) in rw is refl

pub runs_none : (cluster : ℕ) (file : List ℕ) (end left at from : ℕ) (runs : List Run) → (nat_lt at end && (byte_at file at == 0)) ≡ false → left ≡ 0 →
    runs_from cluster file end left at from runs ≡ None
unfolding runs_from
runs_none cluster file end zero at from runs more none = rw more refl
runs_none cluster file end (suc left) at from runs more none = absurd (omega (arith, none))

pub runs_step : (cluster : ℕ) (file : List ℕ) (end left at from : ℕ) (runs : List Run) → (nat_lt at end && (byte_at file at == 0)) ≡ false → 0 < left →
    runs_from cluster file end left at from runs
    ≡ option_and_then (λ run. runs_from cluster file end (left - 1) (next_run file at) run.first (runs ++ run ∷ [])) (run_at cluster file end at from)
unfolding runs_from
runs_step cluster file end zero at from runs more some = absurd (omega arith)
runs_step cluster file end (suc left) at from runs more some =
    let one : suc left - 1 ≡ left = omega arith in
    rw more (sym (ap (λ (n : ℕ). option_and_then (λ run. runs_from cluster file end n (next_run file at) run.first (runs ++ run ∷ [])) (run_at cluster file end at from)) one))

-- a run that ends below sector 2^55 has small numbers
pub run_small : (cluster first count : ℕ) → 1 ≤ cluster → (first + count) * cluster < 2 ^ 55 → first + count < 2 ^ 55
run_small cluster first count some ends = grind arith

-- the next attribute begins within the record
pub next_near : (file : List ℕ) (at : ℕ) → has_next file at ≡ true → at + attribute_bytes file at ≤ length file
unfolding has_next
next_near file at is = grind (arith, nat_tests)

-- the numbers of a run have 8 bytes at most
pub count_few : (file : List ℕ) (end at : ℕ) → has_run file end at ≡ true → count_bytes file at ≤ 8
unfolding has_run
count_few file end at is = grind (arith, nat_tests)

pub distance_few : (file : List ℕ) (end at : ℕ) → has_run file end at ≡ true → distance_bytes file at ≤ 8
unfolding has_run
distance_few file end at is = grind (arith, nat_tests)
