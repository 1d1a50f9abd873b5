-- The places of cells with a part are different ones.
use Rattle.std.proofs.Common.{ℕ, zero, suc, ◌≡◌, ◌<◌, ◌≤◌, ◌+◌, Bool, true, false, cond, not, nat_eq, List, [], ◌∷◌, length, get_or, count_by, refl, sym, subst, ap, ◌∙◌, arith, inl, inr, slice_index_or, replicate, IfSome}
use Rattle.std.specs.List.{AllByRecursion, IsDistinct, cons_option}
use Rattle.std.specs.declared.option.Option.{Option}
use Rattle.std.specs.declared.option.Option.TheVariants.{None, Some}
use Rattle.std.proofs.lemmas.Bool.{and_parts, cases_lt, eqb-true, false≢true}
use Rattle.std.proofs.lemmas.List.Elements.{recursion_from_All}
use Rattle.std.proofs.lemmas.Map.Keys.{IsDistinct-head, IsDistinct-tail}
use Rattle.raid_params.specs.declared.types.Cell.{Cell}
use Rattle.raid_params.specs.declared.types.Part.{Part}
use Rattle.raid_params.specs.declared.types.Part.TheVariants.{Block, P, Q}
use Rattle.raid_terms.specs.Parity.{exponent_in, exponents, has_q, is_p, is_q, IsRow}
use Rattle.row_parity.specs.Known.{is_block, known_block, known_p, known_q, no_cell, IsPlaceOf, ArePlaced, ArePlaces}
use Rattle.row_parity.specs.declared.known.Known.{Known}
use Rattle.row_parity.proofs.Shapes.{count_cons}

all_here : (test : ℕ → Type 0) (k : ℕ) (part : Part) (rest : List ℕ) → AllByRecursion test (cons_option (exponent_in part) rest) → is_block k part ≡ true → test k
all_here test k P rest all is = absurd (false≢true is)
all_here test k Q rest all is = absurd (false≢true is)
all_here test k (Block e) rest all is = subst test (eqb-true e k is) all.0

all_tail : (test : ℕ → Type 0) (part : Part) (rest : List ℕ) → AllByRecursion test (cons_option (exponent_in part) rest) → AllByRecursion test rest
all_tail test P rest all = all
all_tail test Q rest all = all
all_tail test (Block e) rest all = all.1

-- what holds of all exponents holds of that of a cell
pub all_at : (test : ℕ → Type 0) (cells : List Cell) (i k : ℕ) → AllByRecursion test (exponents cells) → i < length cells → is_block k (get_or cells i no_cell).part ≡ true → test k
all_at test [] i k all h is = absurd (omega arith)
all_at test (cell ∷ cells) zero k all h is = all_here test k cell.part (exponents cells) all is
all_at test (cell ∷ cells) (suc i) k all h is = all_at test cells i k (all_tail test cell.part (exponents cells) all) (omega arith) is

distinct_tail : (part : Part) (rest : List ℕ) → IsDistinct nat_eq (cons_option (exponent_in part) rest) → IsDistinct nat_eq rest
distinct_tail P rest d = d
distinct_tail Q rest d = d
distinct_tail (Block e) rest d = IsDistinct-tail nat_eq e rest d

other_here : (cells : List Cell) (k j : ℕ) (part : Part) → IsDistinct nat_eq (cons_option (exponent_in part) (exponents cells)) → j < length cells → is_block k part ≡ true →
    is_block k (get_or cells j no_cell).part ≡ true → ⊥
other_here cells k j P d h is also = absurd (false≢true is)
other_here cells k j Q d h is also = absurd (false≢true is)
other_here cells k j (Block e) d h is also =
    false≢true (sym (all_at (λ y. nat_eq e y ≡ false) cells j k (IsDistinct-head nat_eq e (exponents cells) d) h also) ∙ is)

apart_blocks : (cells : List Cell) (i j k : ℕ) → IsDistinct nat_eq (exponents cells) → i < j → j < length cells → is_block k (get_or cells i no_cell).part ≡ true →
    is_block k (get_or cells j no_cell).part ≡ true → ⊥
apart_blocks [] i j k d less h is also = absurd (omega arith)
apart_blocks (cell ∷ cells) i zero k d less h is also = absurd (omega arith)
apart_blocks (cell ∷ cells) zero (suc j) k d less h is also = other_here cells k j cell.part d (omega arith) is also
apart_blocks (cell ∷ cells) (suc i) (suc j) k d less h is also = apart_blocks cells i j k (distinct_tail cell.part (exponents cells) d) (omega arith) (omega arith) is also

counted : (test : Cell → Bool) (cells : List Cell) (j : ℕ) → j < length cells → test (get_or cells j no_cell) ≡ true → 1 ≤ count_by test cells
counted test [] j h is = absurd (omega arith)
counted test (cell ∷ cells) zero h is = let t = ap {B = ℕ} (λ (b : Bool). cond b 1 0) is in omega (arith, t, count_cons test cell cells)
counted test (cell ∷ cells) (suc j) h is = let rest = counted test cells j (omega arith) is in omega (arith, rest, count_cons test cell cells)

apart_counted : (test : Cell → Bool) (cells : List Cell) (i j : ℕ) → count_by test cells ≤ 1 → i < j → j < length cells → test (get_or cells i no_cell) ≡ true → test (get_or cells j no_cell) ≡ true → ⊥
apart_counted test [] i j few less h is also = absurd (omega arith)
apart_counted test (cell ∷ cells) i zero few less h is also = absurd (omega arith)
apart_counted test (cell ∷ cells) zero (suc j) few less h is also =
    let t = ap {B = ℕ} (λ (b : Bool). cond b 1 0) is in
    let rest = counted test cells j (omega arith) also in
    absurd (omega (arith, few, rest, t, count_cons test cell cells))
apart_counted test (cell ∷ cells) (suc i) (suc j) few less h is also =
    apart_counted test cells i j (omega (arith, few, count_cons test cell cells)) (omega arith) (omega arith) is also

-- a test that no second cell passes
denied : (b : Bool) → (b ≡ true → ⊥) → b ≡ false
denied true h = absurd (h refl)
denied false h = refl

place_case : (test : Cell → Bool) (cells : List Cell) (n : ℕ) (old : Option ℕ) (t : Bool) → test (get_or cells n no_cell) ≡ t → IsPlaceOf test cells n old →
    ((i : ℕ) → i < n → t ≡ true → test (get_or cells i no_cell) ≡ false) → IsPlaceOf test cells (n + 1) (cond t (Some n) old)
place_case test cells n old true is before alone = (omega arith, is, λ i h apart. alone i (omega arith) refl)
place_case test cells n None false is before alone = λ i h.
    elim (cases_lt i n) [
      | inl less ↦ before i less
      | inr not_less ↦ (let e : n ≡ i = omega arith in subst (λ (k : ℕ). test (get_or cells k no_cell) ≡ false) e is)
    ]
place_case test cells n (Some place) false is before alone = (
  omega (arith, before.0),
  before.1,
  λ i h apart.
      elim (cases_lt i n) [
        | inl less ↦ before.2 i less apart
        | inr not_less ↦ (let e : n ≡ i = omega arith in subst (λ (k : ℕ). test (get_or cells k no_cell) ≡ false) e is)
      ],
)

-- one more cell
place_more : (test : Cell → Bool) (cells : List Cell) (n : ℕ) (old new : Option ℕ) → new ≡ cond (test (get_or cells n no_cell)) (Some n) old → IsPlaceOf test cells n old →
    ((i : ℕ) → i < n → test (get_or cells n no_cell) ≡ true → test (get_or cells i no_cell) ≡ true → ⊥) → IsPlaceOf test cells (n + 1) new
place_more test cells n old new is before alone =
    subst (λ (o : Option ℕ). IsPlaceOf test cells (n + 1) o) (sym is)
    (place_case test cells n old (test (get_or cells n no_cell)) refl before (λ i less t. denied (test (get_or cells i no_cell)) (λ also. alone i less t also)))

-- what is known of a note
pub record Notes (cell : Cell) (place : ℕ) (old new : Known) : Type 0 where
  pub data_at : (k : ℕ) → slice_index_or new.data_places k None ≡ cond (known_block k cell) (Some place) (slice_index_or old.data_places k None)
  pub later : old.end ≤ new.end
  pub reached : (k : ℕ) → known_block k cell ≡ true → k < new.end
  pub few : old.end ≤ 256 → new.end ≤ 256
  pub p_at : new.p ≡ cond (known_p cell) (Some place) old.p
  pub q_at : new.q ≡ cond (known_q cell) (Some place) old.q

above_case : (new old : Option ℕ) (n : ℕ) (t : Bool) → new ≡ cond t (Some n) old → old ≡ None → (t ≡ true → ⊥) → new ≡ None
above_case new old n true is none h = absurd (h refl)
above_case new old n false is none h = is ∙ none

pub places_more : (cells : List Cell) (n : ℕ) (old new : Known) → IsRow cells → has_q cells ≡ true → n < length cells → ArePlaces cells n old → Notes (get_or cells n no_cell) n old new → ArePlaces cells (n + 1) new
places_more cells n old new row q h before note =
    let cell = get_or cells n no_cell in record {
      data_at = λ k small.
          place_more (known_block k) cells n (slice_index_or old.data_places k None) (slice_index_or new.data_places k None) (note.data_at k) (before.data_at k small)
          (λ i less is also. apart_blocks cells i n k (row.apart q) less h (and_parts (not (get_or cells i no_cell).missing) (is_block k (get_or cells i no_cell).part) also).1
          (and_parts (not (get_or cells n no_cell).missing) (is_block k (get_or cells n no_cell).part) is).1);
      above = λ k high small.
          above_case (slice_index_or new.data_places k None) (slice_index_or old.data_places k None) n (known_block k (get_or cells n no_cell)) (note.data_at k) (before.above k (omega (arith, note.later)) small)
          (λ is. let low = note.reached k is in absurd (omega arith));
      end_at = note.few before.end_at;
      p_at =
          place_more known_p cells n old.p new.p note.p_at before.p_at
          (λ i less is also. apart_counted (λ c. is_p c.part) cells i n row.one_p less h (and_parts (not (get_or cells i no_cell).missing) (is_p (get_or cells i no_cell).part) also).1
          (and_parts (not (get_or cells n no_cell).missing) (is_p (get_or cells n no_cell).part) is).1);
      q_at =
          place_more known_q cells n old.q new.q note.q_at before.q_at
          (λ i less is also. apart_counted (λ c. is_q c.part) cells i n row.one_q less h (and_parts (not (get_or cells i no_cell).missing) (is_q (get_or cells i no_cell).part) also).1
          (and_parts (not (get_or cells n no_cell).missing) (is_q (get_or cells n no_cell).part) is).1);
    }

-- above the end there is no data cell
pub none_above : (cells : List Cell) (known : Known) → IsRow cells → has_q cells ≡ true → ArePlaces cells (length cells) known →
    (i e : ℕ) → i < length cells → known.end ≤ e → known_block e (get_or cells i no_cell) ≡ false
none_above cells known row q are i e h high =
    elim (cases_lt e 256) [
      | inl small ↦
          (let at : IsPlaceOf (known_block e) cells (length cells) None = subst (λ (o : Option ℕ). IsPlaceOf (known_block e) cells (length cells) o) (are.above e high small) (are.data_at e small) in at i h)
      | inr large ↦ denied (known_block e (get_or cells i no_cell))
          (λ is. let short : e < 255 = all_at (λ k. k < 255) cells i e (recursion_from_All (λ k. k < 255) (exponents cells) (row.short q)) h
          (and_parts (not (get_or cells i no_cell).missing) (is_block e (get_or cells i no_cell).part) is).1 in absurd (omega arith))
    ]

-- no cell yet
pub places_none : (cells : List Cell) (known : Known) → ((k : ℕ) → slice_index_or known.data_places k None ≡ None) → known.end ≡ 0 → known.p ≡ None → known.q ≡ None → ArePlaces cells 0 known
places_none cells known places end p q = record {
  data_at = λ k small. subst (λ (o : Option ℕ). IsPlaceOf (known_block k) cells 0 o) (sym (places k)) (λ i h. absurd (omega arith));
  above = λ k high small. places k;
  end_at = omega arith;
  p_at = subst (λ (o : Option ℕ). IsPlaceOf known_p cells 0 o) (sym p) (λ i h. absurd (omega arith));
  q_at = subst (λ (o : Option ℕ). IsPlaceOf known_q cells 0 o) (sym q) (λ i h. absurd (omega arith));
}

pub none_get : (n k : ℕ) → get_or (replicate {A = Option ℕ} n None) k None ≡ None
none_get zero k = refl
none_get (suc n) zero = refl
none_get (suc n) (suc k) = none_get n k

-- the places of cells are below their number
placed : (test : Cell → Bool) (cells : List Cell) (n : ℕ) (place : Option ℕ) → IsPlaceOf test cells n place → IfSome place (λ p. p < n)
placed test cells n None at = tt
placed test cells n (Some p) at = at.0

pub are_placed : (cells : List Cell) (n : ℕ) (known : Known) → ArePlaces cells n known → ArePlaced n known
are_placed cells n known are = record {
  data_at = λ k small. placed (known_block k) cells n (slice_index_or known.data_places k None) (are.data_at k small);
  end_at = are.end_at;
  p_at = placed known_p cells n known.p are.p_at;
  q_at = placed known_q cells n known.q are.q_at;
}
