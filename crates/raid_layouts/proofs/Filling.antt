-- The cells of a row, one slot after the other.
use Rattle.std.proofs.Common.{◌≡◌, ℕ, ◌+◌, ◌<◌, List, [], ◌∷◌, ◌++◌, length, get_or, drop, sym, ap, ◌∙◌, refl, append_assoc, append-nil, add-one, Option, Some, None, true, false, Bool}
use Rattle.std.specs.Prelude.{not}
use Rattle.std.specs.Option.{is_none, is_some}
use Rattle.std.proofs.Math.Seq.{drop-cons, drop-length}
use Rattle.raid_params.specs.declared.types.Cell.{Cell}
use Rattle.raid_params.specs.declared.types.Head.{Head}
use Rattle.raid_terms.specs.Cells.{cells_from, part_of}

-- the cells of the first `slot` slots are made, and the others are to come
pub record FilledTo (head : Head) (row : ℕ) (slots : List (Option ℕ)) (slot : ℕ) (cells : List Cell) : Type 0 where
  pub count : length cells ≡ slot
  pub front : cells ++ cells_from head row slot (drop slot slots) ≡ cells_from head row 0 slots

-- one more slot
pub filled_more : (head : Head) (row : ℕ) (slots : List (Option ℕ)) (slot : ℕ) (cells : List Cell) (cell : Cell) →
    slot < length slots → cell ≡ record { part = part_of head row slot; missing = is_none (get_or slots slot None) } →
    cells ++ cells_from head row slot (drop slot slots) ≡ cells_from head row 0 slots →
    (cells ++ cell ∷ []) ++ cells_from head row (slot + 1) (drop (slot + 1) slots) ≡ cells_from head row 0 slots
filled_more head row slots slot cells cell below is far =
    let rest : drop slot slots ≡ get_or slots slot None ∷ drop (slot + 1) slots = drop-cons slots slot None below ∙ ap (λ k. get_or slots slot None ∷ drop k slots) (sym (add-one slot)) in
    let later = cells_from head row (slot + 1) (drop (slot + 1) slots) in
    append_assoc cells (cell ∷ []) later
    ∙ ap (λ c. cells ++ c ∷ later) is
    ∙ ap (λ ss. cells ++ cells_from head row slot ss) (sym rest)
    ∙ far

-- all slots
pub filled_all : (head : Head) (row : ℕ) (slots : List (Option ℕ)) (n : ℕ) (cells : List Cell) → n ≡ length slots → FilledTo head row slots n cells →
    cells ≡ cells_from head row 0 slots
filled_all head row slots n cells e far =
    let all : FilledTo head row slots (length slots) cells = rw e at far in
    let none : drop (length slots) slots ≡ [] = drop-length slots in
    sym (append-nil cells) ∙ ap (λ (ss : List (Option ℕ)). cells ++ cells_from head row (length slots) ss) (sym none) ∙ all.front

-- a place that is not some is none
pub missing_is : (o : Option ℕ) (b : Bool) → is_some o ≡ not b → b ≡ is_none o
missing_is None true e = refl
missing_is None false e = (cc)
missing_is (Some i) true e = (cc)
missing_is (Some i) false e = refl
