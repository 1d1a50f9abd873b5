-- What is asked of the first unknown alone.
use Rattle.std.proofs.Common.{ℕ, ◌≡◌, ◌<◌, nat_eq, cond, Bool, List, get_or, sym, ap, ◌∙◌, arith, inl, inr}
use Rattle.std.proofs.lemmas.Bool.{cases_eq, eq-eqb, ne_eqb}
use Rattle.gf256.specs.Field.{product}
use Rattle.gf256.proofs.Products.{associates, product_zero_left}
use Rattle.gf256.proofs.Powers.{commutes}
use Rattle.row_relations.proofs.FieldSums.{sum_of_one, sum_same}
use Rattle.relation_prefix.specs.declared.demand.Demand.{Demand}
use Rattle.relation_prefix.specs.Systems.{sum_at, AsksFirst}

-- a sum of one share
pub first_alone : (c : List ℕ) (x : ℕ → ℕ) → ((t : ℕ) → t < 8 → 0 < t → get_or c t 0 ≡ 0) → sum_at c x ≡ product (get_or c 0 0) (x 0)
unfolding sum_at
first_alone c x h =
    let own = product (get_or c 0 0) (x 0) in
    let alone = λ (t : ℕ). cond (nat_eq t 0) own 0 in
    sum_same 8 (λ t. product (get_or c t 0) (x t)) alone
    (λ t lt. elim (cases_eq t 0) [
      | inl same ↦ ap (λ (k : ℕ). product (get_or c k 0) (x k)) same ∙ sym (ap (λ (b : Bool). cond b own 0) (eq-eqb t 0 same))
      | inr other ↦ ap (λ (y : ℕ). product y (x t)) (h t lt (omega arith)) ∙ product_zero_left (x t) ∙ sym (ap (λ (b : Bool). cond b own 0) (ne_eqb t 0 other))
    ])
    ∙ sum_of_one 8 0 alone (omega arith) (λ j other. ap (λ (b : Bool). cond b own 0) (ne_eqb j 0 other))

-- two that are met agree
pub agree : (a b : Demand) (x : ℕ → ℕ) → a.coefficient < 256 → b.coefficient < 256 → AsksFirst x a → AsksFirst x b → product a.coefficient b.value ≡ product b.coefficient a.value
agree a b x ha hb asks also =
    ap (product a.coefficient) (sym also) ∙ sym (associates a.coefficient b.coefficient (x 0) ha hb)
    ∙ ap (λ (y : ℕ). product y (x 0)) (commutes a.coefficient b.coefficient ha hb)
    ∙ associates b.coefficient a.coefficient (x 0) hb ha ∙ ap (product b.coefficient) asks
