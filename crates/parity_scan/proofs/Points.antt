-- Where samples are taken.
use Rattle.std.proofs.Common.{◌≡◌, ℕ, ◌+◌, ◌*◌, ◌/◌, ◌<◌, ◌≤◌, inl, inr, List, length, get_or, set, map, ap, subst, ◌∙◌, arith, get_or-set_other, get_or-set_same}
use Rattle.std.proofs.lemmas.Bool.{cases_lt}
use Rattle.std.proofs.lemmas.List.{get_or_default}
use Rattle.std.proofs.lemmas.List.FromFn.{fill_by_all}
use Rattle.std.proofs.lemmas.Nat.{mul-le}
use Rattle.std.specs.List.{range_with_len}
use Rattle.std.specs.List.Sorted.{IsPermutation}
use Rattle.raid_params.specs.declared.types.Geometry.{Geometry}
use Rattle.search_scope.specs.declared.scope.Scope.{Scope}
use Rattle.parity_scan.specs.Samples.{sample_in, sample_of}

-- the set of a sample is there
pub sample_inside : (k n : ℕ) → k < 64 → 1 ≤ n → k * n / 64 < n
sample_inside k n below some = let most : k * n ≤ 63 * n = mul-le k n 63 n (omega arith) (omega arith) in omega arith

-- one more point
pub points_more : (scope : Scope) (sets : List Geometry) (points : List ℕ) (k point : ℕ) (d : Geometry) → length points ≡ 64 → k < 64 → 1 ≤ length sets →
    ((none : Geometry) (j : ℕ) → j < k → get_or points j 0 ≡ sample_of scope sets none j) → point ≡ sample_in scope (get_or sets (k * length sets / 64) d) k →
    (none : Geometry) (j : ℕ) → j < k + 1 → get_or (set points k point) j 0 ≡ sample_of scope sets none j
points_more scope sets points k point d long below some before is = λ none j lt.
    elim (cases_lt j k) [
      | inl less ↦ rw (get_or-set_other points k j point 0 (omega arith)) (before none j less)
      | inr more ↦
          (let at : j ≡ k = omega arith in
          let here : point ≡ sample_of scope sets none k =
          is ∙ ap (λ (geo : Geometry). sample_in scope geo k) (get_or_default sets (k * length sets / 64) d none (sample_inside k (length sets) below some)) in
          rw (at, get_or-set_same points k point 0 (omega arith)) here)
    ]

-- all points, in any order
pub points_are : (scope : Scope) (sets : List Geometry) (points sorted : List ℕ) (none : Geometry) → length points ≡ 64 →
    ((none : Geometry) (j : ℕ) → j < 64 → get_or points j 0 ≡ sample_of scope sets none j) → IsPermutation points sorted → IsPermutation (map (sample_of scope sets none) (range_with_len 0 64)) sorted
points_are scope sets points sorted none long all moved =
    subst (λ (l : List ℕ). IsPermutation l sorted) (fill_by_all (sample_of scope sets none) points 64 0 long (all none)) moved
