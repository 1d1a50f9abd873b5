-- How many cells of a row hold parity, and how many are missing.
use Rattle.std.proofs.Common.{◌≡◌, ◌≢◌, ℕ, zero, suc, ◌+◌, ◌<◌, ◌≤◌, List, [], ◌∷◌, length, cond, ap, sym, ◌∙◌, refl, arith, Option, Some, None, true, false, Bool, ◌||◌, not, inl, inr}
use Rattle.std.proofs.lemmas.Bool.{cases_eq}
use Rattle.std.proofs.lemmas.List.Sums.{sum_by-cons}
use Rattle.std.specs.List.{count_by, list_any, range_with_len}
use Rattle.std.specs.Option.{is_none}
use Rattle.std.specs.Prelude.{IsTrue}
use Rattle.raid_params.specs.Size.{redundancy}
use Rattle.raid_params.specs.Slots.{empties}
use Rattle.raid_params.specs.Validity.{is_valid_head}
use Rattle.raid_params.specs.declared.types.Cell.{Cell}
use Rattle.raid_params.specs.declared.types.Head.{Head}
use Rattle.raid_params.specs.declared.types.Level.{Level}
use Rattle.raid_params.specs.declared.types.Level.TheVariants.{Raid0, Raid5, Raid6}
use Rattle.raid_params.specs.declared.types.Part.{Part}
use Rattle.raid_params.specs.declared.types.Part.TheVariants.{Block, P, Q}
use Rattle.raid_params.specs.declared.types.Pattern.{Pattern}
use Rattle.raid_terms.specs.Cells.{cells_from, part_of, stands_in, weight_at}
use Rattle.raid_terms.specs.Parity.{is_p, is_q, is_data}
use Rattle.raid_terms.specs.Role.{p_at, q_at, p_of, q_of}
use Rattle.raid_layouts.proofs.Levels.{layout_of}
use Rattle.raid_layouts.proofs.Parts.{chosen, stands_here, stands_elsewhere, stands_true}

pub count_cons : {A : Type 0} (f : A → Bool) → (x : A) (xs : List A) → count_by f (x ∷ xs) ≡ cond (f x) 1 0 + count_by f xs
count_cons f x xs = sum_by-cons (λ y. cond (f y) 1 0) x xs

-- there is a cell for each slot
pub cells_length : (head : Head) (row slot : ℕ) (slots : List (Option ℕ)) → length (cells_from head row slot slots) ≡ length slots
cells_length head row slot [] = refl
cells_length head row slot (held ∷ slots) = ap (λ n. suc n) (cells_length head row (slot + 1) slots)

-- as many cells pass as slots
count_parts : (f : Part → Bool) (head : Head) (row a : ℕ) (slots : List (Option ℕ)) →
    count_by (λ c. f c.part) (cells_from head row a slots) ≡ count_by (λ s. f (part_of head row s)) (range_with_len a (length slots))
count_parts f head row a [] = refl
count_parts f head row a (held ∷ slots) =
    count_cons (λ (c : Cell). f c.part) (record { part = part_of head row a; missing = is_none held }) (cells_from head row (a + 1) slots)
    ∙ ap (λ (k : ℕ). cond (f (part_of head row a)) 1 0 + k) (count_parts f head row (a + 1) slots)
    ∙ sym (count_cons (λ (s : ℕ). f (part_of head row s)) a (range_with_len (a + 1) (length slots)))

-- none of the numbers passes, or one
count_none : (f : ℕ → Bool) (a n : ℕ) → ((s : ℕ) → a ≤ s → f s ≡ false) → count_by f (range_with_len a n) ≡ 0
count_none f a zero off = refl
count_none f a (suc n) off =
    let one : count_by f (range_with_len a (suc n)) ≡ 0 + count_by f (range_with_len (a + 1) n) =
    count_cons f a (range_with_len (a + 1) n) ∙ ap (λ (b : Bool). cond b 1 0 + count_by f (range_with_len (a + 1) n)) (off a (omega arith)) in
    let rest = count_none f (a + 1) n (λ s le. off s (omega arith)) in
    omega arith

count_one : (f : ℕ → Bool) (p a n : ℕ) → a ≤ p → p < a + n → f p ≡ true → ((s : ℕ) → s ≢ p → f s ≡ false) → count_by f (range_with_len a n) ≡ 1
count_one f p a zero le lt here off = absurd (omega arith)
count_one f p a (suc n) le lt here off =
    elim (cases_eq a p) [
      | inl e ↦
          let first : f a ≡ true = ap f e ∙ here in
          let rest : count_by f (range_with_len (a + 1) n) ≡ 0 = count_none f (a + 1) n (λ s above. off s (λ q. let x : s ≡ p = q in omega arith)) in
          let one : count_by f (range_with_len a (suc n)) ≡ 1 + count_by f (range_with_len (a + 1) n) =
          count_cons f a (range_with_len (a + 1) n) ∙ ap (λ (b : Bool). cond b 1 0 + count_by f (range_with_len (a + 1) n)) first in
          omega arith
      | inr ne ↦
          let one : count_by f (range_with_len a (suc n)) ≡ 0 + count_by f (range_with_len (a + 1) n) =
          count_cons f a (range_with_len (a + 1) n) ∙ ap (λ (b : Bool). cond b 1 0 + count_by f (range_with_len (a + 1) n)) (off a ne) in
          let rest : count_by f (range_with_len (a + 1) n) ≡ 1 = count_one f p (a + 1) n (omega arith) (omega arith) here off in
          omega arith
    ]

-- how many slots a place takes
abbrev pub number : Option ℕ → ℕ
number None = 0
number (Some p) = 1

pub number_few : (place : Option ℕ) → number place ≤ 1
number_few None = omega arith
number_few (Some p) = omega arith

-- the slots of a place are as many
count_place : (f : ℕ → Bool) (place : Option ℕ) (n : ℕ) → ((s : ℕ) → f s ≡ stands_in s place) → ((s : ℕ) → place ≡ Some s → s < n) → count_by f (range_with_len 0 n) ≡ number place
count_place f None n same inside = count_none f 0 n (λ s le. same s)
count_place f (Some p) n same inside =
    let within : p < n = inside p refl in
    count_one f p 0 n (omega arith) (omega arith) (same p ∙ stands_here p (Some p) refl) (λ s ne. same s ∙ stands_elsewhere s (Some p) (λ e. let x : p ≡ s = (cc) in ne (sym x)))

p_chosen : (p q : Bool) (k : ℕ) → is_p (chosen p q k) ≡ p
p_chosen true q k = refl
p_chosen false true k = refl
p_chosen false false k = refl

q_chosen : (p q : Bool) (k : ℕ) → (p ≡ true → q ≡ false) → is_q (chosen p q k) ≡ q
q_chosen true q k apart = sym (apart refl)
q_chosen false true k apart = refl
q_chosen false false k apart = refl

-- as many cells are P as the level has of it
pub count_p : (head : Head) (row : ℕ) (slots : List (Option ℕ)) → IsTrue (is_valid_head head) → length slots ≡ head.members →
    count_by (λ c. is_p c.part) (cells_from head row 0 slots) ≡ number (p_of head row)
count_p head row slots valid long =
    count_parts is_p head row 0 slots
    ∙ count_place (λ s. is_p (part_of head row s)) (p_of head row) (length slots)
    (λ s. p_chosen (stands_in s (p_of head row)) (stands_in s (q_of head row)) (weight_at head.level head row s))
    (λ s e. let inside = (layout_of head row valid).p_in s e in omega arith)

-- and as many Q
pub count_q : (head : Head) (row : ℕ) (slots : List (Option ℕ)) → IsTrue (is_valid_head head) → length slots ≡ head.members →
    count_by (λ c. is_q c.part) (cells_from head row 0 slots) ≡ number (q_of head row)
count_q head row slots valid long =
    count_parts is_q head row 0 slots
    ∙ count_place (λ s. is_q (part_of head row s)) (q_of head row) (length slots)
    (λ s. q_chosen (stands_in s (p_of head row)) (stands_in s (q_of head row)) (weight_at head.level head row s)
    (λ t. stands_elsewhere s (q_of head row) ((layout_of head row valid).p_not_q s (stands_true s (p_of head row) t))))
    (λ s e. let inside = (layout_of head row valid).q_in s e in omega arith)

-- both together are the redundancy
pub both_numbers : (level : Level) (pattern : Pattern) (n row : ℕ) → number (p_at level pattern n row) + number (q_at level pattern n row) ≡ redundancy level
both_numbers Raid0 pattern n row = refl
both_numbers Raid5 pattern n row = refl
both_numbers Raid6 pattern n row = refl

-- there is Q only at level 6, and beside P
pub q_level : (level : Level) (pattern : Pattern) (n row : ℕ) → 1 ≤ number (q_at level pattern n row) → level ≡ Raid6
q_level Raid0 pattern n row h = absurd (omega arith)
q_level Raid5 pattern n row h = absurd (omega arith)
q_level Raid6 pattern n row h = refl

pub q_beside : (level : Level) (pattern : Pattern) (n row : ℕ) → 1 ≤ number (q_at level pattern n row) → 1 ≤ number (p_at level pattern n row)
q_beside Raid0 pattern n row h = absurd (omega arith)
q_beside Raid5 pattern n row h = absurd (omega arith)
q_beside Raid6 pattern n row h = omega arith

-- a cell is data, P or Q
one_kind : (part : Part) → cond (not (is_data part)) 1 0 ≡ cond (is_p part) 1 0 + cond (is_q part) 1 0
one_kind P = refl
one_kind Q = refl
one_kind (Block k) = refl

pub count_parity : (cells : List Cell) →
    count_by (λ c. not (is_data c.part)) cells ≡ count_by (λ c. is_p c.part) cells + count_by (λ c. is_q c.part) cells
count_parity [] = refl
count_parity (cell ∷ cells) =
    let a = count_cons (λ (c : Cell). not (is_data c.part)) cell cells in
    let b = count_cons (λ (c : Cell). is_p c.part) cell cells in
    let d = count_cons (λ (c : Cell). is_q c.part) cell cells in
    let kind = one_kind cell.part in
    let rest = count_parity cells in
    omega arith

-- as many cells are missing as slots are empty
pub count_missing : (head : Head) (row a : ℕ) (slots : List (Option ℕ)) → count_by (λ c. c.missing) (cells_from head row a slots) ≡ empties slots
unfolding empties
count_missing head row a [] = refl
count_missing head row a (None ∷ slots) =
    count_cons (λ (c : Cell). c.missing) (record { part = part_of head row a; missing = true }) (cells_from head row (a + 1) slots)
    ∙ ap (λ (k : ℕ). 1 + k) (count_missing head row (a + 1) slots)
count_missing head row a (Some i ∷ slots) =
    let one : count_by (λ c. c.missing) (cells_from head row a (Some i ∷ slots)) ≡ 0 + count_by (λ c. c.missing) (cells_from head row (a + 1) slots) =
    count_cons (λ (c : Cell). c.missing) (record { part = part_of head row a; missing = false }) (cells_from head row (a + 1) slots) in
    let rest = count_missing head row (a + 1) slots in
    omega arith

-- some pass where their count is not 0
or_counted : (b rest : Bool) (n : ℕ) → (rest ≡ true → 1 ≤ n) → (b || rest) ≡ true → 1 ≤ cond b 1 0 + n
or_counted true rest n more h = omega arith
or_counted false rest n more h = let x = more h in omega arith

counted_or : (b rest : Bool) (n : ℕ) → (1 ≤ n → rest ≡ true) → 1 ≤ cond b 1 0 + n → (b || rest) ≡ true
counted_or true rest n more h = refl
counted_or false rest n more h = more (omega arith)

pub any_counted : (f : Cell → Bool) (cells : List Cell) → list_any f cells ≡ true → 1 ≤ count_by f cells
any_counted f [] h = (cc)
any_counted f (cell ∷ cells) h =
    let one = count_cons f cell cells in
    let some : 1 ≤ cond (f cell) 1 0 + count_by f cells = or_counted (f cell) (list_any f cells) (count_by f cells) (any_counted f cells) h in
    omega arith

pub counted_any : (f : Cell → Bool) (cells : List Cell) → 1 ≤ count_by f cells → list_any f cells ≡ true
counted_any f [] h = absurd (omega arith)
counted_any f (cell ∷ cells) h =
    let one = count_cons f cell cells in
    counted_or (f cell) (list_any f cells) (count_by f cells) (counted_any f cells) (omega arith)
