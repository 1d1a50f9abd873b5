-- Empty slots of a list, and of its prefixes.
use Rattle.std.proofs.Common.{ℕ, zero, suc, ◌≡◌, ◌<◌, ◌≤◌, ◌+◌, ◌-◌, List, [], ◌∷◌, Option, None, Some, length, take, slice_index_or, refl, sym, ap, ◌∙◌, arith}
use Rattle.std.specs.List.{find}
use Rattle.std.specs.Option.{option_map}
use Rattle.raid_params.specs.Slots.{empties}
use Rattle.raid_params.specs.declared.types.Head.{Head}
use Rattle.raid_terms.specs.Cells.{cells_from, part_of}

-- no more are empty than in the front, and as many as follow it
pub empties_rest : (k : ℕ) (slots : List (Option ℕ)) → empties slots ≤ empties (take k slots) + (length slots - length (take k slots))
unfolding empties
empties_rest zero [] = omega arith
empties_rest zero (None ∷ slots) = let rest = empties_rest zero slots in omega arith
empties_rest zero (Some i ∷ slots) = let rest = empties_rest zero slots in omega arith
empties_rest (suc k) [] = omega arith
empties_rest (suc k) (None ∷ slots) = let rest = empties_rest k slots in omega arith
empties_rest (suc k) (Some i ∷ slots) = let rest = empties_rest k slots in omega arith

pub empties_front : (k : ℕ) (slots : List (Option ℕ)) → empties (take k slots) ≤ empties slots
unfolding empties
empties_front zero slots = omega arith
empties_front (suc k) [] = omega arith
empties_front (suc k) (None ∷ slots) = let rest = empties_front k slots in omega arith
empties_front (suc k) (Some i ∷ slots) = let rest = empties_front k slots in omega arith

-- where no slot is empty, no cell is missing
pub none_lost : (head : Head) (row a : ℕ) (slots : List (Option ℕ)) → empties slots ≡ 0 → None ≡ option_map (λ c. c.part) (find (λ c. c.missing) (cells_from head row a slots))
unfolding empties
none_lost head row a [] e = refl
none_lost head row a (None ∷ slots) e = absurd (omega arith)
none_lost head row a (Some i ∷ slots) e = none_lost head row (a + 1) slots e

-- where one slot alone is empty, its cell is the first that is missing
pub record IsOneLost (head : Head) (row a : ℕ) (slots : List (Option ℕ)) (slot : ℕ) : Type 0 where
  pub within : slot < length slots
  pub empty : slice_index_or slots slot None ≡ None
  pub before : (k : ℕ) → k ≤ slot → empties (take k slots) ≡ 0
  pub after : (k : ℕ) → slot < k → empties (take k slots) ≡ 1
  pub first : Some (part_of head row (a + slot)) ≡ option_map (λ c. c.part) (find (λ c. c.missing) (cells_from head row a slots))

one_after : (k : ℕ) (slots : List (Option ℕ)) → 1 + empties slots ≡ 1 → 0 < k → empties (take k (None ∷ slots)) ≡ 1
unfolding empties
one_after zero slots e h = absurd (omega arith)
one_after (suc k) slots e h = let front = empties_front k slots in omega arith

before_some : (i : ℕ) (slots : List (Option ℕ)) (slot : ℕ) → ((k : ℕ) → k ≤ slot → empties (take k slots) ≡ 0) → (k : ℕ) → k ≤ suc slot → empties (take k (Some i ∷ slots)) ≡ 0
unfolding empties
before_some i slots slot h zero le = refl
before_some i slots slot h (suc k) le = h k (omega arith)

after_some : (i : ℕ) (slots : List (Option ℕ)) (slot : ℕ) → ((k : ℕ) → slot < k → empties (take k slots) ≡ 1) → (k : ℕ) → suc slot < k → empties (take k (Some i ∷ slots)) ≡ 1
unfolding empties
after_some i slots slot h zero lt = absurd (omega arith)
after_some i slots slot h (suc k) lt = h k (omega arith)

pub one_lost : (head : Head) (row a : ℕ) (slots : List (Option ℕ)) → empties slots ≡ 1 → (slot : ℕ) × IsOneLost head row a slots slot
unfolding empties
one_lost head row a [] e = absurd (omega arith)
one_lost head row a (None ∷ slots) e =
    let here : a ≡ a + 0 = omega arith in (
      0,
      record {
        within = omega arith;
        empty = refl;
        before = λ k le. (let z : k ≡ 0 = omega arith in ap (λ (n : ℕ). empties (take n (None ∷ slots))) z);
        after = λ k lt. one_after k slots e lt;
        first = ap (λ (n : ℕ). Some (part_of head row n)) (sym here);
      },
    )
one_lost head row a (Some i ∷ slots) e =
    let rest = one_lost head row (a + 1) slots e in
    let next : a + suc rest.0 ≡ a + 1 + rest.0 = omega arith in (
      suc rest.0,
      record {
        within = omega (arith, rest.1.within);
        empty = rest.1.empty;
        before = λ k le. before_some i slots rest.0 rest.1.before k le;
        after = λ k lt. after_some i slots rest.0 rest.1.after k lt;
        first = ap (λ (n : ℕ). Some (part_of head row n)) next ∙ rest.1.first;
      },
    )
