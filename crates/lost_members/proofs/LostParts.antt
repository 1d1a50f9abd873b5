-- Which blocks of a row are lost, by the places of its parity.
use Rattle.std.proofs.Common.{◌≡◌, ◌≢◌, ℕ, zero, suc, ◌+◌, ◌<◌, ◌≤◌, List, [], ◌∷◌, length, take, get_or, cond, true, false, Bool, ◌&&◌, ◌||◌, refl, ap, sym, ◌∙◌, arith, Option, Some, None}
use Rattle.std.proofs.lemmas.List.{take_all}
use Rattle.std.specs.List.{count_by}
use Rattle.std.specs.Option.{is_none}
use Rattle.std.specs.Prelude.{IsTrue}
use Rattle.pq_parity.specs.Needs.{is_p_lost, lost_data}
use Rattle.raid_layouts.proofs.Counts.{count_cons}
use Rattle.raid_layouts.proofs.Parts.{chosen, part_beside, part_p, part_q, stands_elsewhere, stands_here}
use Rattle.raid_params.specs.Validity.{is_valid_head}
use Rattle.raid_params.specs.declared.types.Cell.{Cell}
use Rattle.raid_params.specs.declared.types.Head.{Head}
use Rattle.raid_params.specs.declared.types.Part.{Part}
use Rattle.raid_terms.specs.Cells.{cells_from, part_of, stands_in, weight_at}
use Rattle.raid_terms.specs.Parity.{is_data, is_p}
use Rattle.raid_terms.specs.Role.{p_of, q_of}

-- the cell of a slot that holds this
abbrev pub cell_of : Head → ℕ → ℕ → Option ℕ → Cell
cell_of head row slot held = record { part = part_of head row slot; missing = is_none held }

-- as many cells of the first slots pass, and of one more
next_passes : (f : Cell → Bool) (head : Head) (row a k : ℕ) (slots : List (Option ℕ)) (d : Option ℕ) → k < length slots →
    count_by f (cells_from head row a (take (suc k) slots)) ≡ count_by f (cells_from head row a (take k slots)) + cond (f (cell_of head row (a + k) (get_or slots k d))) 1 0
next_passes f head row a k [] d below = absurd (omega arith)
next_passes f head row a zero (held ∷ slots) d below =
    let at : a ≡ a + 0 = omega arith in
    count_cons f (cell_of head row a held) [] ∙ ap (λ (s : ℕ). cond (f (cell_of head row s held)) 1 0 + 0) at ∙ omega arith
next_passes f head row a (suc k) (held ∷ slots) d below =
    let at : a + 1 + k ≡ a + suc k = omega arith in
    let rest = next_passes f head row (a + 1) k slots d (omega arith) in
    let here = count_cons f (cell_of head row a held) (cells_from head row (a + 1) (take (suc k) slots)) in
    let first = count_cons f (cell_of head row a held) (cells_from head row (a + 1) (take k slots)) in
    let same : ◌≡◌ {A = ℕ} (cond (f (cell_of head row (a + 1 + k) (get_or slots k d))) 1 0) (cond (f (cell_of head row (a + suc k) (get_or slots k d))) 1 0) =
    ap (λ (s : ℕ). cond (f (cell_of head row s (get_or slots k d))) 1 0) at in
    omega (arith, rest, here, first, same)

pub lost_more : (head : Head) (row k : ℕ) (slots : List (Option ℕ)) (d : Option ℕ) → k < length slots →
    lost_data (cells_from head row 0 (take (k + 1) slots))
    ≡ lost_data (cells_from head row 0 (take k slots)) + cond (is_none (get_or slots k d) && is_data (part_of head row k)) 1 0
lost_more head row k slots d below =
    let next : k + 1 ≡ suc k = omega arith in
    let at : 0 + k ≡ k = omega arith in
    ap (λ (n : ℕ). lost_data (cells_from head row 0 (take n slots))) next
    ∙ next_passes (λ c. c.missing && is_data c.part) head row 0 k slots d below
    ∙ ap (λ (s : ℕ). lost_data (cells_from head row 0 (take k slots)) + cond (is_none (get_or slots k d) && is_data (part_of head row s)) 1 0) at

-- one more lost block, where it is no parity
pub lost_one : (head : Head) (row k : ℕ) (slots : List (Option ℕ)) (d : Option ℕ) → k < length slots → is_none (get_or slots k d) ≡ true →
    p_of head row ≢ Some k → q_of head row ≢ Some k → lost_data (cells_from head row 0 (take (k + 1) slots)) ≡ lost_data (cells_from head row 0 (take k slots)) + 1
lost_one head row k slots d below empty np nq =
    lost_more head row k slots d below
    ∙ ap (λ (b : Bool). lost_data (cells_from head row 0 (take k slots)) + cond (b && is_data (part_of head row k)) 1 0) empty
    ∙ ap (λ (p : Part). lost_data (cells_from head row 0 (take k slots)) + cond (is_data p) 1 0) (part_beside head row k np nq)

-- none where an image is there, or the block is parity
pub lost_none : (head : Head) (row k : ℕ) (slots : List (Option ℕ)) (d : Option ℕ) → k < length slots → is_none (get_or slots k d) ≡ false →
    lost_data (cells_from head row 0 (take (k + 1) slots)) ≡ lost_data (cells_from head row 0 (take k slots))
lost_none head row k slots d below there =
    lost_more head row k slots d below
    ∙ ap (λ (b : Bool). lost_data (cells_from head row 0 (take k slots)) + cond (b && is_data (part_of head row k)) 1 0) there ∙ omega arith

and_false : (b : Bool) → (b && false) ≡ false
and_false true = refl
and_false false = refl

parity_none : (head : Head) (row k : ℕ) (slots : List (Option ℕ)) (d : Option ℕ) → k < length slots → is_data (part_of head row k) ≡ false →
    lost_data (cells_from head row 0 (take (k + 1) slots)) ≡ lost_data (cells_from head row 0 (take k slots))
parity_none head row k slots d below off =
    lost_more head row k slots d below
    ∙ ap (λ (b : Bool). lost_data (cells_from head row 0 (take k slots)) + cond (is_none (get_or slots k d) && b) 1 0) off
    ∙ ap (λ (b : Bool). lost_data (cells_from head row 0 (take k slots)) + cond b 1 0) (and_false (is_none (get_or slots k d))) ∙ omega arith

pub lost_p : (head : Head) (row k : ℕ) (slots : List (Option ℕ)) (d : Option ℕ) → k < length slots → p_of head row ≡ Some k →
    lost_data (cells_from head row 0 (take (k + 1) slots)) ≡ lost_data (cells_from head row 0 (take k slots))
lost_p head row k slots d below is = parity_none head row k slots d below (ap is_data (part_p head row k is))

pub lost_q : (head : Head) (row k : ℕ) (slots : List (Option ℕ)) (d : Option ℕ) → k < length slots → IsTrue (is_valid_head head) → q_of head row ≡ Some k →
    lost_data (cells_from head row 0 (take (k + 1) slots)) ≡ lost_data (cells_from head row 0 (take k slots))
lost_q head row k slots d below valid is = parity_none head row k slots d below (ap is_data (part_q head row k valid is))

-- all slots
pub lost_all : (head : Head) (row k : ℕ) (slots : List (Option ℕ)) → k ≡ length slots → lost_data (cells_from head row 0 (take k slots)) ≡ lost_data (cells_from head row 0 slots)
lost_all head row k slots is = ap (λ (l : List (Option ℕ)). lost_data (cells_from head row 0 l)) (take_all k slots (omega arith))

-- P is that of its slot
p_chosen : (p q : Bool) (weight : ℕ) → is_p (chosen p q weight) ≡ p
p_chosen true q weight = refl
p_chosen false true weight = refl
p_chosen false false weight = refl

is_p_of : (head : Head) (row slot : ℕ) → is_p (part_of head row slot) ≡ stands_in slot (p_of head row)
is_p_of head row slot = p_chosen (stands_in slot (p_of head row)) (stands_in slot (q_of head row)) (weight_at head.level head row slot)

-- no cell of these slots is a lost P
no_p_from : (head : Head) (row a : ℕ) (slots : List (Option ℕ)) → ((s : ℕ) → a ≤ s → p_of head row ≢ Some s) → is_p_lost (cells_from head row a slots) ≡ false
no_p_from head row a [] off = refl
no_p_from head row a (held ∷ slots) off =
    ap (λ (b : Bool). is_none held && b || is_p_lost (cells_from head row (a + 1) slots)) (is_p_of head row a ∙ stands_elsewhere a (p_of head row) (off a (omega arith)))
    ∙ ap (λ (b : Bool). b || is_p_lost (cells_from head row (a + 1) slots)) (and_false (is_none held))
    ∙ no_p_from head row (a + 1) slots (λ s le. off s (omega arith))

-- the P of this place is lost where its slot is empty
p_from : (head : Head) (row a p i : ℕ) (slots : List (Option ℕ)) (d : Option ℕ) → p ≡ a + i → i < length slots → p_of head row ≡ Some p →
    is_p_lost (cells_from head row a slots) ≡ is_none (get_or slots i d)
p_from head row a p i [] d at below is = absurd (omega arith)
p_from head row a p zero (held ∷ slots) d at below is =
    let same : a ≡ p = omega arith in
    let rest : is_p_lost (cells_from head row (a + 1) slots) ≡ false = no_p_from head row (a + 1) slots (λ s le e. let x : p ≡ s = cc in absurd (omega arith)) in
    let here : is_p (part_of head row a) ≡ true = is_p_of head row a ∙ stands_here a (p_of head row) (is ∙ ap (λ (s : ℕ). Some s) (sym same)) in
    ap (λ (b : Bool). is_none held && b || is_p_lost (cells_from head row (a + 1) slots)) here
    ∙ ap (λ (b : Bool). is_none held && true || b) rest
    ∙ only (is_none held)
  where
    only : (b : Bool) → (b && true || false) ≡ b
    only true = refl
    only false = refl
p_from head row a p (suc i) (held ∷ slots) d at below is =
    ap (λ (b : Bool). is_none held && b || is_p_lost (cells_from head row (a + 1) slots))
    (is_p_of head row a ∙ stands_elsewhere a (p_of head row) (λ e. let x : p ≡ a = cc in absurd (omega arith)))
    ∙ ap (λ (b : Bool). b || is_p_lost (cells_from head row (a + 1) slots)) (and_false (is_none held))
    ∙ p_from head row (a + 1) p i slots d (omega arith) (omega arith) is

pub p_lost_at : (head : Head) (row p : ℕ) (slots : List (Option ℕ)) (d : Option ℕ) → p < length slots → p_of head row ≡ Some p →
    is_p_lost (cells_from head row 0 slots) ≡ is_none (get_or slots p d)
p_lost_at head row p slots d below is = p_from head row 0 p p slots d (omega arith) below is

-- and is not where there is none
pub no_p_lost : (head : Head) (row : ℕ) (slots : List (Option ℕ)) → p_of head row ≡ None → is_p_lost (cells_from head row 0 slots) ≡ false
no_p_lost head row slots is = no_p_from head row 0 slots (λ s le e. let x : ◌≡◌ {A = Option ℕ} None (Some s) = sym is ∙ e in absurd cc)
