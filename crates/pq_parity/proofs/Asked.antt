-- By which equations missing cells are found.
use Rattle.std.proofs.Common.{ℕ, zero, suc, ◌≡◌, ◌≢◌, ◌<◌, ◌≤◌, ◌+◌, Bool, true, false, cond, not, ◌&&◌, ◌||◌, nat_eq, List, [], ◌∷◌, length, take, drop, get_or, count_by, refl, sym, ap, ◌∙◌, subst, arith, bit_xor, IfSome}
use Rattle.std.specs.List.{find, list_any, slice_get}
use Rattle.std.specs.Option.{option_map, option_or}
use Rattle.std.specs.declared.option.Option.{Option}
use Rattle.std.specs.declared.option.Option.TheVariants.{None, Some}
use Rattle.std.proofs.lemmas.Bool.{eq-eqb, false≢true}
use Rattle.std.proofs.lemmas.Bool.Decides.{nat_tests}
use Rattle.std.proofs.lemmas.List.{length-append}
use Rattle.std.proofs.lemmas.Option.{slice_get-get_or}
use Rattle.gf256.specs.Field.{product}
use Rattle.gf256.proofs.Sums.{sum_commutes, sum_zero}
use Rattle.gf256.proofs.Powers.{product_one}
use Rattle.gf256.proofs.Products.{product_zero, product_zero_left}
use Rattle.raid_params.specs.declared.types.Cell.{Cell}
use Rattle.raid_params.specs.declared.types.Part.{Part}
use Rattle.raid_params.specs.declared.types.Part.TheVariants.{Block, P, Q}
use Rattle.raid_terms.specs.Parity.{has_p, has_q, is_q, IsRow}
use Rattle.raid_terms.specs.Solving.{is_one_lost, is_q_lost}
use Rattle.row_parity.specs.LostBytes.{asks_q, first_missing, Finds}
use Rattle.row_parity.proofs.Fillings.{lost}
use Rattle.row_parity.proofs.Shapes.{length_lost, may_be_lost}
use Rattle.pq_parity.proofs.LostColumns.{missing_there, other_parts}
use Rattle.pq_parity.proofs.Places.{first, first_lost, lost_around}

-- a weight that finds a byte alone that is not Q takes nothing of Q's sum
no_q : (part : Part) (a b : ℕ) → b < 256 → is_q part ≡ false → Finds part None a b → b ≡ 0
no_q Q a b h is finds = absurd (false≢true (sym is))
no_q P a b h is finds = sym (finds 0 0 0 1 (omega arith) (omega arith) (omega arith) (omega arith) refl ∙ ap (λ (v : ℕ). bit_xor v (product b 1)) (product_zero a) ∙ ap (bit_xor 0) (product_one b h) ∙ sum_commutes 0 b ∙ sum_zero b)
no_q (Block k) a b h is finds = sym (finds 0 0 0 1 (omega arith) (omega arith) (omega arith) (omega arith) refl ∙ ap (λ (v : ℕ). bit_xor v (product b 1)) (product_zero a) ∙ ap (bit_xor 0) (product_one b h) ∙ sum_commutes 0 b ∙ sum_zero b)

first_none : (parts : List Part) → length parts ≡ 0 → first parts ≡ None
first_none [] e = refl
first_none (part ∷ parts) e = absurd (omega arith)

-- what is not asked
not_or : (a b : Bool) → (not a || b) ≡ false → (a ≡ true) × (b ≡ false)
not_or true false h = (refl, refl)
not_or true true h = absurd (false≢true (sym h))
not_or false b h = absurd (false≢true (sym h))

one_is : (n : ℕ) → nat_eq n 1 ≡ true → n ≡ 1
one_is n h = grind (arith, nat_tests)

no_q_at : (cells : List Cell) (place : ℕ) (d : Cell) → place < length cells → (get_or cells place d).missing ≡ true → list_any (λ c. c.missing && is_q c.part) cells ≡ false → is_q (get_or cells place d).part ≡ false
no_q_at [] place d h m none = absurd (omega arith)
no_q_at (cell ∷ cells) zero d h m none = here cell.missing (is_q cell.part) (list_any (λ c. c.missing && is_q c.part) cells) m none
  where
    here : (a b c : Bool) → a ≡ true → ((a && b) || c) ≡ false → b ≡ false
    here true true c e h = absurd (false≢true (sym h))
    here true false c e h = refl
    here false b c e h = absurd (false≢true e)
no_q_at (cell ∷ cells) (suc place) d h m none = no_q_at cells place d (omega arith) m (rest (cell.missing && is_q cell.part) (list_any (λ c. c.missing && is_q c.part) cells) none)
  where
    rest : (a b : Bool) → (a || b) ≡ false → b ≡ false
    rest true b h = absurd (false≢true (sym h))
    rest false b h = h

alone_is : (cells : List Cell) (place : ℕ) (d : Cell) (other : Option Part) → place < length cells → (get_or cells place d).missing ≡ true → count_by (λ c. c.missing) cells ≡ 1 →
    other ≡ option_or (first_missing (take place cells)) (first_missing (drop (place + 1) cells)) → other ≡ None
alone_is cells place d other h m one beside =
    let split = lost_around cells place (get_or cells place d) (slice_get-get_or cells place d h) m in
    let all : length (lost (take place cells)) + suc (length (lost (drop (place + 1) cells))) ≡ 1 =
    sym (length-append (lost (take place cells)) ((get_or cells place d).part ∷ lost (drop (place + 1) cells))) ∙ ap (λ (ps : List Part). length ps) (sym split) ∙ length_lost cells ∙ one in
    let a : first (lost (take place cells)) ≡ None = first_none (lost (take place cells)) (omega arith) in
    let b : first (lost (drop (place + 1) cells)) ≡ None = first_none (lost (drop (place + 1) cells)) (omega arith) in
    other_parts cells place other beside ∙ (rw (a, b) refl)

-- the product of a weight with Q's sum, where Q is asked for or the weight is 0
pub q_same : (cells : List Cell) (place : ℕ) (d : Cell) (other : Option Part) (a b v w : ℕ) → place < length cells → IfSome (slice_get cells place) (λ cell. cell.missing ≡ true) →
    other ≡ option_or (first_missing (take place cells)) (first_missing (drop (place + 1) cells)) → Finds (get_or cells place d).part other a b → b < 256 →
    (asks_q cells ≡ true → v ≡ w) → product b v ≡ product b w
q_same cells place d other a b v w h m beside finds small asked = by (asks_q cells) refl
  where
    by : (t : Bool) → asks_q cells ≡ t → product b v ≡ product b w
    by true is = ap (product b) (asked is)
    by false is =
        let parts = not_or (is_one_lost cells) (is_q_lost cells) is in
        let there = missing_there cells place d h m in
        let alone = alone_is cells place d other h there (one_is (count_by (λ c. c.missing) cells) parts.0) beside in
        let zero_is : b ≡ 0 = no_q (get_or cells place d).part a b small (no_q_at cells place d h there parts.1) (subst (λ (o : Option Part). Finds (get_or cells place d).part o a b) alone finds) in
        ap (λ (k : ℕ). product k v) zero_is ∙ product_zero_left v ∙ sym (ap (λ (k : ℕ). product k w) zero_is ∙ product_zero_left w)

first_case : (t : Bool) (cell : Cell) (cells : List Cell) → t ≡ true → option_map (λ c. c.part) (cond t (Some cell) (find (λ c. c.missing) cells)) ≢ None
first_case true cell cells is = λ e. absurd (cc)
first_case false cell cells is = λ e. absurd (false≢true is)

later_case : (t : Bool) (cell : Cell) (cells : List Cell) → first_missing cells ≢ None → option_map (λ c. c.part) (cond t (Some cell) (find (λ c. c.missing) cells)) ≢ None
later_case true cell cells some = λ e. absurd (cc)
later_case false cell cells some = some

-- a missing cell is the first or one comes before
pub some_missing : (cells : List Cell) (place : ℕ) → IfSome (slice_get cells place) (λ cell. cell.missing ≡ true) → place < length cells → first_missing cells ≢ None
some_missing [] place m h = absurd (omega arith)
some_missing (cell ∷ cells) zero m h = first_case cell.missing cell cells m
some_missing (cell ∷ cells) (suc place) m h = later_case cell.missing cell cells (some_missing cells place m (omega arith))

q_case : (a b c d : Bool) → (c ≡ true → d ≡ true) → ((a && b) || c) ≡ true → (b || d) ≡ true
q_case a true c d step e = refl
q_case true false c d step e = step e
q_case false false c d step e = step e

q_some : (cells : List Cell) → list_any (λ c. c.missing && is_q c.part) cells ≡ true → has_q cells ≡ true
q_some [] h = h
q_some (cell ∷ cells) h = q_case cell.missing (is_q cell.part) (list_any (λ c. c.missing && is_q c.part) cells) (has_q cells) (q_some cells) h

lost_some : (cells : List Cell) → first_missing cells ≢ None → 1 ≤ length (lost cells)
lost_some cells some = by (lost cells) refl
  where
    by : (parts : List Part) → lost cells ≡ parts → 1 ≤ length (lost cells)
    by [] is = absurd (some (first_lost cells ∙ ap (λ (ps : List Part). first ps) is))
    by (part ∷ parts) is = let n = ap (λ (ps : List Part). length ps) is in omega arith

one_at_most : (p q : Bool) (n : ℕ) → q ≡ false → n ≤ cond p 1 0 + cond q 1 0 → n ≤ 1
one_at_most p true n is h = absurd (false≢true (sym is))
one_at_most true false n is h = omega arith
one_at_most false false n is h = omega arith

denied : (b : Bool) → (b ≡ false → b ≡ true) → b ≡ true
denied true h = refl
denied false h = h refl

-- where Q is asked for and a cell is missing, there is a Q
pub asked_has_q : (cells : List Cell) → IsRow cells → first_missing cells ≢ None → asks_q cells ≡ true → has_q cells ≡ true
asked_has_q cells row some asked =
    denied (has_q cells)
    (λ is. let few = one_at_most (has_p cells) (has_q cells) (length (lost cells)) is (may_be_lost cells row).few in
    let one : count_by (λ c. c.missing) cells ≡ 1 = omega (arith, length_lost cells, lost_some cells some, few) in
    let alone : nat_eq (count_by (λ c. c.missing) cells) 1 ≡ true = eq-eqb (count_by (λ c. c.missing) cells) 1 one in
    q_some cells (ap (λ (b : Bool). not b || is_q_lost cells) (sym alone) ∙ asked))
