-- Of few of each kind there are few in all.
use Rattle.std.proofs.Common.{◌≡◌, ℕ, zero, suc, ◌+◌, ◌*◌, ◌<◌, ◌≤◌, List, [], ◌∷◌, Bool, true, false, cond, eqb, ltb, length, refl, ap, subst, arith}
use Rattle.std.specs.Prelude.{count_by, ◌==◌}
use Rattle.std.proofs.lemmas.Bool.Decides.{nat_tests}
use Rattle.std.proofs.lemmas.List.Sums.{sum_by-cons}
use Rattle.mark_kinds.specs.Table.{kind_place}
use Rattle.mark_kinds.specs.declared.table.Kind.{Kind}
use Rattle.mark_kinds.specs.declared.table.TheConstants.{KIND_COUNT}
use Rattle.mark_kinds.proofs.Places.{kind_back_at, kind_below}

abbrev at : {A : Type 0} → (A → Kind) → ℕ → A → Bool
at kind_in n x = kind_place (kind_in x) == n

abbrev before : {A : Type 0} → (A → Kind) → ℕ → A → Bool
before kind_in n x = ltb (kind_place (kind_in x)) n

bit : Bool → ℕ
bit b = cond b 1 0

split_bit : (m n : ℕ) → bit (ltb m (n + 1)) ≡ bit (ltb m n) + bit (eqb m n)
unfolding bit
split_bit m n = grind (arith, nat_tests)

-- those before a place and one more are those before it, and those at it
next_place : {A : Type 0} (kind_in : A → Kind) (n : ℕ) (xs : List A) → count_by (before kind_in (n + 1)) xs ≡ count_by (before kind_in n) xs + count_by (at kind_in n) xs
unfolding bit
next_place kind_in n [] = refl
next_place kind_in n (x ∷ xs) =
    omega (
      arith,
      sum_by-cons (λ y. cond (before kind_in (n + 1) y) 1 0) x xs,
      sum_by-cons (λ y. cond (before kind_in n y) 1 0) x xs,
      sum_by-cons (λ y. cond (at kind_in n y) 1 0) x xs,
      split_bit (kind_place (kind_in x)) n,
      next_place kind_in n xs,
    )

none_before : {A : Type 0} (kind_in : A → Kind) (xs : List A) → count_by (before kind_in 0) xs ≡ 0
none_before kind_in [] = refl
none_before kind_in (x ∷ xs) =
    let none : ◌≡◌ {A = ℕ} (cond (before kind_in 0 x) 1 0) 0 = grind (arith, nat_tests) in
    omega (arith, sum_by-cons (λ y. cond (before kind_in 0 y) 1 0) x xs, none, none_before kind_in xs)

all_before : {A : Type 0} (kind_in : A → Kind) (xs : List A) → count_by (before kind_in KIND_COUNT) xs ≡ length xs
all_before kind_in [] = refl
all_before kind_in (x ∷ xs) =
    let below = kind_below (kind_in x) in
    let one : ◌≡◌ {A = ℕ} (cond (before kind_in KIND_COUNT x) 1 0) 1 = grind (arith, nat_tests) in
    omega (arith, sum_by-cons (λ y. cond (before kind_in KIND_COUNT y) 1 0) x xs, one, all_before kind_in xs)

few_before : {A : Type 0} (kind_in : A → Kind) (most : ℕ) (xs : List A) → ((kind : Kind) → count_by (at kind_in (kind_place kind)) xs ≤ most) → (n : ℕ) → n ≤ KIND_COUNT → count_by (before kind_in n) xs ≤ n * most
few_before kind_in most xs few zero le = omega (arith, none_before kind_in xs)
few_before kind_in most xs few (suc n) le =
    let there = kind_back_at n (omega arith) in
    let here : count_by (at kind_in n) xs ≤ most = subst (λ k. count_by (at kind_in k) xs ≤ most) there.1 (few there.0) in
    let next : suc n ≡ n + 1 = omega arith in
    omega (arith, ap (λ (k : ℕ). count_by (before kind_in k) xs) next, next_place kind_in n xs, here, few_before kind_in most xs few n (omega arith))

pub few_in_all : {A : Type 0} (kind_in : A → Kind) (most : ℕ) (xs : List A) → ((kind : Kind) → count_by (λ x. kind_place (kind_in x) == kind_place kind) xs ≤ most) → length xs ≤ KIND_COUNT * most
few_in_all kind_in most xs few = omega (arith, all_before kind_in xs, few_before kind_in most xs few KIND_COUNT (omega arith))
