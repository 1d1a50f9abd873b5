-- The sets of a list have one numbering of their classes.
use Rattle.std.proofs.Common.{◌≡◌, ℕ, zero, suc, ◌<◌, ◌≤◌, inl, inr, List, length, Some, sym, ◌∙◌, subst, arith}
use Rattle.std.proofs.lemmas.Bool.{cases_lt}
use Rattle.std.proofs.lemmas.Grind.{same_number_lists}
use Rattle.std.proofs.lemmas.Option.{slice_get_cases}
use Rattle.std.specs.Prelude.{slice_get, slice_index}
use Rattle.raid_params.specs.declared.types.Geometry.{Geometry}
use Rattle.volume_classes.specs.Classes.{AreClasses}

there : (sets : List Geometry) (i : ℕ) → i < length sets → (set : Geometry) × (slice_get sets i ≡ Some set)
there sets i within = elim (slice_get_cases sets i).1 [
  | inl one ↦ (one.0, one.2)
  | inr past ↦ absurd (let h = past.0 in omega arith)
]

-- a number that is smaller in the one numbering stands before in both, at a set of its class: so it is no smaller
smaller : (images end : ℕ) (sets : List Geometry) (ns ms : List ℕ) (c d : ℕ) → AreClasses images end sets ns c → AreClasses images end sets ms d → (i : ℕ) → i < length sets →
    ((j : ℕ) → j < i → slice_index ns j ≡ slice_index ms j) → slice_index ns i < slice_index ms i → ⊥
smaller images end sets ns ms c d one other i within before less =
    let stands = other.in_order i (slice_index ns i) within less in
    let early : stands.place < i = stands.below in
    let same : slice_index ns stands.place ≡ slice_index ns i = before stands.place early ∙ stands.is in
    let here = there sets i within in
    let first = there sets stands.place (omega arith) in
    let alike = (one.alike stands.place i first.0 here.0 first.1 here.1).0 same in
    let again : slice_index ms stands.place ≡ slice_index ms i = (other.alike stands.place i first.0 here.0 first.1 here.1).1 alike in
    let e : slice_index ms i ≡ slice_index ns i = sym again ∙ stands.is in
    omega arith

-- the first n sets have the same numbers in both
same_below : (images end : ℕ) (sets : List Geometry) (ns ms : List ℕ) (c d : ℕ) → AreClasses images end sets ns c → AreClasses images end sets ms d → (n i : ℕ) → i < n → i < length sets → slice_index ns i ≡ slice_index ms i
same_below images end sets ns ms c d one other zero i below within = absurd (omega arith)
same_below images end sets ns ms c d one other (suc n) i below within =
    let before : (j : ℕ) → j < i → slice_index ns j ≡ slice_index ms j = λ j less. same_below images end sets ns ms c d one other n j (omega arith) (omega arith) in
    let after : (j : ℕ) → j < i → slice_index ms j ≡ slice_index ns j = λ j less. sym (before j less) in
    elim (cases_lt (slice_index ns i) (slice_index ms i)) [
      | inl less ↦ absurd (smaller images end sets ns ms c d one other i within before less)
      | inr more ↦ elim (cases_lt (slice_index ms i) (slice_index ns i)) [
        | inl less ↦ absurd (smaller images end sets ms ns d c other one i within after less)
        | inr most ↦ omega arith
      ]
    ]

pub same_numbers : (images end : ℕ) (sets : List Geometry) (ns ms : List ℕ) (c d : ℕ) → AreClasses images end sets ns c → AreClasses images end sets ms d → ns ≡ ms
same_numbers images end sets ns ms c d one other =
    same_number_lists ns ms (one.many ∙ sym other.many) (λ k lt. same_below images end sets ns ms c d one other (length sets) k (omega (arith, one.many, other.many)) (omega (arith, one.many, other.many)))

-- so no more classes are counted
no_more : (images end : ℕ) (sets : List Geometry) (ns ms : List ℕ) (c d : ℕ) → AreClasses images end sets ns c → AreClasses images end sets ms d → c ≤ d
no_more images end sets ns ms c d one other = elim (cases_lt d c) [
  | inl less ↦ (let stands = (one.count_is d).0 less in
      let same : slice_index ms stands.place ≡ d = subst (λ (xs : List ℕ). slice_index xs stands.place ≡ d) (same_numbers images end sets ns ms c d one other) stands.is in
      let again : d < d = (other.count_is d).1 (record { place = stands.place; below = stands.below; is = same }) in
      absurd (omega arith))
  | inr fits ↦ omega arith
]

pub same_count : (images end : ℕ) (sets : List Geometry) (ns ms : List ℕ) (c d : ℕ) → AreClasses images end sets ns c → AreClasses images end sets ms d → c ≡ d
same_count images end sets ns ms c d one other =
    let few = no_more images end sets ns ms c d one other in
    let many = no_more images end sets ms ns d c other one in
    omega arith
