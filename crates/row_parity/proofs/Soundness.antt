-- Sound rows, by what is known of their columns.
use Rattle.std.proofs.Common.{ℕ, zero, suc, inl, inr, ◌≡◌, ◌≢◌, ◌<◌, ◌≤◌, ◌+◌, ◌*◌, Bool, true, false, cond, List, [], ◌∷◌, length, map, get_or, slice_index, count_by, not, Fits, w8, refl, sym, ap, ◌∙◌, arith, bit_xor, subst}
use Rattle.std.specs.Bool.{Decides}
use Rattle.std.specs.List.{AllByRecursion, find, list_all, range_with_len}
use Rattle.std.specs.Option.{option_map}
use Rattle.std.specs.declared.option.Option.{Option}
use Rattle.std.specs.declared.option.Option.TheVariants.{None, Some}
use Rattle.std.proofs.lemmas.Bool.{and_parts, and_from, cases_lt, false≢true}
use Rattle.std.proofs.lemmas.List.FromFn.{length-map-range_with_len}
use Rattle.gf256.specs.Field.{product, power_of}
use Rattle.gf256.proofs.Sums.{sum_zero, equal_from_sum}
use Rattle.raid_params.specs.declared.types.Cell.{Cell}
use Rattle.raid_params.specs.declared.types.Part.{Part}
use Rattle.raid_params.specs.declared.types.Part.TheVariants.{Block, P, Q}
use Rattle.raid_terms.specs.Parity.{has_p, has_q, in_p, in_q, is_data, is_sound, is_sound_column, IsRow}
use Rattle.row_parity.specs.Regions.{region_column}
use Rattle.row_parity.specs.Unbreakable.{FullRowIsSound, NoParityIsSound}
use Rattle.row_parity.specs.Syndromes.{sum_at, AreColumns, AllCancel, Cancel, CancelByP}
use Rattle.row_parity.proofs.Fillings.{lost, AreBytes}
use Rattle.row_parity.proofs.RowSums.{known_sum_fits, in_p_fits, in_q_fits}
use Rattle.row_parity.proofs.Shapes.{MayBeLost, may_be_lost, length_lost, parity_count}
use Rattle.row_parity.proofs.Columns.{Cancels, sound, from_sound}
use Rattle.row_parity.proofs.Solutions.{Solution, full, twice}

all_at : (f : ℕ → Bool) (a n : ℕ) → list_all f (range_with_len a n) ≡ true → (x : ℕ) → a ≤ x → x < a + n → f x ≡ true
all_at f a zero h x low high = absurd (omega arith)
all_at f a (suc n) h x low high =
    let both = and_parts (f a) (list_all f (range_with_len (a + 1) n)) h in
    elim (cases_lt a x) [
      | inl above ↦ all_at f (a + 1) n both.1 x (omega arith) (omega arith)
      | inr here ↦ (let e : a ≡ x = omega arith in subst (λ (y : ℕ). f y ≡ true) e both.0)
    ]

all_from : (f : ℕ → Bool) (a n : ℕ) → ((x : ℕ) → a ≤ x → x < a + n → f x ≡ true) → list_all f (range_with_len a n) ≡ true
all_from f a zero h = refl
all_from f a (suc n) h =
    and_from (f a) (list_all f (range_with_len (a + 1) n)) (h a (omega arith) (omega arith)) (all_from f (a + 1) n (λ x low high. h x (omega arith) (omega arith)))

map_fits : (f : ℕ → ℕ) (a n : ℕ) → ((x : ℕ) → f x < 256) → AllByRecursion (λ x. x < 256) (map f (range_with_len a n))
map_fits f a zero h = tt
map_fits f a (suc n) h = (h a, map_fits f (a + 1) n h)

-- the elements of a list of bytes
abbrev pub HasBytes : List ℕ → Type 0
HasBytes row = (k : ℕ) → Fits w8 (get_or row k 0)

byte : (x : ℕ) → Fits w8 x → x < 256
byte x h = omega arith

-- the columns of regions
pub region_columns : (cells : List Cell) (sectors : List ℕ) (stride j : ℕ) → HasBytes sectors → AreColumns cells (region_column (length cells) stride sectors j)
region_columns cells sectors stride j h = λ x. (
  length-map-range_with_len (λ i. slice_index sectors (stride * i + (512 * j + x))) 0 (length cells),
  map_fits (λ i. slice_index sectors (stride * i + (512 * j + x))) 0 (length cells)
      (λ i. byte (slice_index sectors (stride * i + (512 * j + x))) (h (stride * i + (512 * j + x)))),
)

pub sum_at_fits : (adds : Part → ℕ → ℕ) → ((part : Part) (x : ℕ) → x < 256 → adds part x < 256) → (cells : List Cell) (column : ℕ → List ℕ) (x : ℕ) → AreColumns cells column → sum_at adds cells column x < 256
sum_at_fits adds fitting cells column x h = known_sum_fits adds fitting cells (column x) (h x).1

-- a row is sound where in each column some bytes for the missing cells cancel its sums
row_decides : (cells : List Cell) (column : ℕ → List ℕ) (p q : Bool) (parts : List Part) (good : ℕ → ℕ → Type 0) →
    has_p cells ≡ p → has_q cells ≡ q → lost cells ≡ parts → AreColumns cells column →
    ((a b : ℕ) → a < 256 → b < 256 → (Solution p q parts a b → good a b) × (good a b → Solution p q parts a b)) →
    Decides (is_sound cells column) ((x : ℕ) → x < 512 → good (sum_at in_p cells column x) (sum_at in_q cells column x))
unfolding is_sound
row_decides cells column p q parts good ep eq el bytes same =
    let long : (x : ℕ) → length (column x) ≡ length cells = λ x. (bytes x).0 in
    let at = λ (x : ℕ). same (sum_at in_p cells column x) (sum_at in_q cells column x) (sum_at_fits in_p in_p_fits cells column x bytes) (sum_at_fits in_q in_q_fits cells column x bytes) in
    let there = λ (x : ℕ) (s : Solution (has_p cells) (has_q cells) (lost cells) (sum_at in_p cells column x) (sum_at in_q cells column x)). turned p q parts ep eq el x s in (
      λ h x below. (at x).0 (there x (from_sound cells (column x) (long x) (all_at (λ y. is_sound_column cells (column y)) 0 512 h x (omega arith) (omega arith)))),
      λ h. all_from (λ y. is_sound_column cells (column y)) 0 512
          (λ x low high. let s = back p q parts ep eq el x ((at x).1 (h x (omega arith))) in sound cells (column x) s.0 (long x) s.1 s.2),
    )
  where
    turned : (p q : Bool) (parts : List Part) → has_p cells ≡ p → has_q cells ≡ q → lost cells ≡ parts → (x : ℕ) →
        Solution (has_p cells) (has_q cells) (lost cells) (sum_at in_p cells column x) (sum_at in_q cells column x) → Solution p q parts (sum_at in_p cells column x) (sum_at in_q cells column x)
    turned p q parts ep eq el x s = rw (← ep, ← eq, ← el) s

    back : (p q : Bool) (parts : List Part) → has_p cells ≡ p → has_q cells ≡ q → lost cells ≡ parts → (x : ℕ) →
        Solution p q parts (sum_at in_p cells column x) (sum_at in_q cells column x) → Solution (has_p cells) (has_q cells) (lost cells) (sum_at in_p cells column x) (sum_at in_q cells column x)
    back p q parts ep eq el x s = rw (ep, eq, el) s

-- nothing is missing
none : (p q : Bool) (a b : ℕ) → (Solution p q [] a b → (p ≡ true → a ≡ 0) × (q ≡ true → b ≡ 0)) × ((p ≡ true → a ≡ 0) × (q ≡ true → b ≡ 0) → Solution p q [] a b)
none p q a b = (
  λ (xs, fit, c). at xs fit c,
  λ (ha, hb). ([], tt, record { by_p = λ h. sum_zero a ∙ ha h; by_q = λ h. sum_zero b ∙ hb h }),
)
  where
    at : (xs : List ℕ) → AreBytes [] xs → Cancels p q [] xs a b → (p ≡ true → a ≡ 0) × (q ≡ true → b ≡ 0)
    at [] fit c = (λ h. sym (sum_zero a) ∙ c.by_p h, λ h. sym (sum_zero b) ∙ c.by_q h)
    at (x ∷ xs) fit c = absurd fit

-- P alone is missing
lone_p : (a b : ℕ) → a < 256 → (Solution true true (P ∷ []) a b → b ≡ 0) × (b ≡ 0 → Solution true true (P ∷ []) a b)
lone_p a b ha = (
  λ (xs, fit, c). at xs fit c,
  λ h. ((a ∷ []), (ha, tt), record { by_p = λ _. twice a; by_q = λ _. sum_zero b ∙ h }),
)
  where
    at : (xs : List ℕ) → AreBytes (P ∷ []) xs → Cancels true true (P ∷ []) xs a b → b ≡ 0
    at [] fit c = absurd fit
    at (x ∷ []) fit c = sym (sum_zero b) ∙ c.by_q refl
    at (x ∷ y ∷ zs) fit c = absurd fit.1

-- Q alone is missing
lone_q : (a b : ℕ) → b < 256 → (Solution true true (Q ∷ []) a b → a ≡ 0) × (a ≡ 0 → Solution true true (Q ∷ []) a b)
lone_q a b hb = (
  λ (xs, fit, c). at xs fit c,
  λ h. ((b ∷ []), (hb, tt), record { by_p = λ _. sum_zero a ∙ h; by_q = λ _. twice b }),
)
  where
    at : (xs : List ℕ) → AreBytes (Q ∷ []) xs → Cancels true true (Q ∷ []) xs a b → a ≡ 0
    at [] fit c = absurd fit
    at (x ∷ []) fit c = sym (sum_zero a) ∙ c.by_p refl
    at (x ∷ y ∷ zs) fit c = absurd fit.1

-- one data block alone is missing
lone_data : (k a b : ℕ) → a < 256 → (Solution true true (Block k ∷ []) a b → bit_xor b (product (power_of k) a) ≡ 0) × (bit_xor b (product (power_of k) a) ≡ 0 → Solution true true (Block k ∷ []) a b)
lone_data k a b ha = (
  λ (xs, fit, c). at xs fit c,
  λ h. ((a ∷ []), (ha, tt), record { by_p = λ _. twice a; by_q = λ _. ap (bit_xor b) (sum_zero (product (power_of k) a)) ∙ h }),
)
  where
    at : (xs : List ℕ) → AreBytes (Block k ∷ []) xs → Cancels true true (Block k ∷ []) xs a b → bit_xor b (product (power_of k) a) ≡ 0
    at [] fit c = absurd fit
    at (x ∷ []) fit c =
        let e : a ≡ x = equal_from_sum a x (ap (bit_xor a) (sym (sum_zero x)) ∙ c.by_p refl) in
        ap (λ (y : ℕ). bit_xor b (product (power_of k) y)) e ∙ ap (bit_xor b) (sym (sum_zero (product (power_of k) x))) ∙ c.by_q refl
    at (x ∷ y ∷ zs) fit c = absurd fit.1

-- as many are missing as hold parity
pub sound_where_full : (cells : List Cell) (column : ℕ → List ℕ) → IsRow cells → AreColumns cells column → count_by (λ c. c.missing) cells ≡ count_by (λ c. not (is_data c.part)) cells →
    is_sound cells column ≡ true
sound_where_full cells column r bytes e =
    let d = row_decides cells column (has_p cells) (has_q cells) (lost cells) (λ a b. Unit {0}) refl refl refl bytes
    (λ a b ha hb. (λ s. tt, λ u. full (has_p cells) (has_q cells) (lost cells) a b (may_be_lost cells r) (length_lost cells ∙ e ∙ parity_count cells r) ha hb)) in
    d.1 (λ x h. tt)

-- the part of the first missing cell
lost_none-step : (t : Bool) (cell : Cell) (cells : List Cell) (o : Option Part) → (o ≡ option_map (λ c. c.part) (find (λ c. c.missing) cells) → lost cells ≡ []) →
    o ≡ option_map (λ c. c.part) (cond t (Some cell) (find (λ c. c.missing) cells)) → o ≡ None → cond t (cell.part ∷ lost cells) (lost cells) ≡ []
lost_none-step true cell cells o next e is = cc
lost_none-step false cell cells o next e is = next e

pub lost_none : (cells : List Cell) (o : Option Part) → o ≡ option_map (λ c. c.part) (find (λ c. c.missing) cells) → o ≡ None → lost cells ≡ []
lost_none [] o e is = refl
lost_none (cell ∷ cells) o e is = lost_none-step cell.missing cell cells o (λ h. lost_none cells o h is) e is

lost_some-step : (t : Bool) (cell : Cell) (cells : List Cell) (o : Option Part) (part : Part) →
    (o ≡ option_map (λ c. c.part) (find (λ c. c.missing) cells) → (rest : List Part) × (lost cells ≡ part ∷ rest)) →
    o ≡ option_map (λ c. c.part) (cond t (Some cell) (find (λ c. c.missing) cells)) → o ≡ Some part → (rest : List Part) × (cond t (cell.part ∷ lost cells) (lost cells) ≡ part ∷ rest)
lost_some-step true cell cells o part next e is = (lost cells, (let same : cell.part ≡ part = cc in ap (λ (q : Part). q ∷ lost cells) same))
lost_some-step false cell cells o part next e is = next e

pub lost_some : (cells : List Cell) (o : Option Part) (part : Part) → o ≡ option_map (λ c. c.part) (find (λ c. c.missing) cells) → o ≡ Some part → (rest : List Part) × (lost cells ≡ part ∷ rest)
lost_some [] o part e is = absurd (let h : None ≡ Some part = sym e ∙ is in cc)
lost_some (cell ∷ cells) o part e is = lost_some-step cell.missing cell cells o part (λ h. lost_some cells o part h is) e is

-- fewer are missing than hold parity
abbrev pub NotFull : List Cell → Type 0
NotFull cells = count_by (λ c. c.missing) cells ≢ count_by (λ c. not (is_data c.part)) cells

one_lost-flags : (p q : Bool) (part : Part) (rest : List Part) → MayBeLost p q (part ∷ rest) → length (part ∷ rest) ≢ cond p 1 0 + cond q 1 0 → (p ≡ true) × (q ≡ true) × (rest ≡ [])
one_lost-flags false true part rest m ne = absurd (false≢true (m.beside refl))
one_lost-flags false false part rest m ne = absurd (let h = m.few in omega arith)
one_lost-flags true false part rest m ne = absurd (let h = m.few in omega arith)
one_lost-flags true true part [] m ne = (refl, refl, refl)
one_lost-flags true true part (b ∷ bs) m ne = absurd (let h = m.few in omega arith)

-- then P and Q are there, and one cell alone is missing
pub one_lost : (cells : List Cell) (part : Part) (rest : List Part) → IsRow cells → NotFull cells → lost cells ≡ part ∷ rest →
    (has_p cells ≡ true) × (has_q cells ≡ true) × (lost cells ≡ part ∷ [])
one_lost cells part rest row ne e =
    let m : MayBeLost (has_p cells) (has_q cells) (part ∷ rest) = rw (← e) (may_be_lost cells row) in
    let r = one_lost-flags (has_p cells) (has_q cells) part rest m (λ h. ne (sym (length_lost cells) ∙ ap (λ (ps : List Part). length ps) e ∙ h ∙ sym (parity_count cells row))) in
    (r.0, r.1, e ∙ ap (λ (ps : List Part). part ∷ ps) r.2)

has_parity : (p q : Bool) → (q ≡ true → p ≡ true) → cond p 1 0 + cond q 1 0 ≢ 0 → p ≡ true
has_parity true q h ne = refl
has_parity false true h ne = h refl
has_parity false false h ne = absurd (ne refl)

-- then there is a P
pub p_there : (cells : List Cell) → IsRow cells → NotFull cells → lost cells ≡ [] → has_p cells ≡ true
p_there cells row ne e =
    has_parity (has_p cells) (has_q cells) row.beside
    (λ h. ne (sym (length_lost cells) ∙ ap (λ (ps : List Part). length ps) e ∙ sym h ∙ sym (parity_count cells row)))

-- none are missing
pub sound_where_whole : (cells : List Cell) (column : ℕ → List ℕ) (o : Option Part) → IsRow cells → NotFull cells → AreColumns cells column →
    o ≡ option_map (λ c. c.part) (find (λ c. c.missing) cells) → o ≡ None → Decides (is_sound cells column) (AllCancel cells column)
sound_where_whole cells column o r ne bytes first is =
    let e = lost_none cells o first is in
    let p = p_there cells r ne e in
    let d = row_decides cells column (has_p cells) (has_q cells) [] (λ a b. (has_p cells ≡ true → a ≡ 0) × (has_q cells ≡ true → b ≡ 0)) refl refl e bytes (λ a b ha hb. none (has_p cells) (has_q cells) a b) in
    (λ h. (λ x below. (d.0 h x below).0 p, λ q x below. (d.0 h x below).1 q), λ (hp, hq). d.1 (λ x below. (λ _. hp x below, λ q. hq q x below)))

-- where one part is missing and the row is not full, there is a Q
pub q_there : (cells : List Cell) (o : Option Part) (part : Part) → IsRow cells → NotFull cells → o ≡ option_map (λ c. c.part) (find (λ c. c.missing) cells) → o ≡ Some part → has_q cells ≡ true
q_there cells o part r ne first is =
    let f = lost_some cells o part first is in
    (one_lost cells part f.0 r ne f.1).1

-- one part of a row with P and Q is missing
pub sound_without_p : (cells : List Cell) (column : ℕ → List ℕ) (o : Option Part) → IsRow cells → NotFull cells → AreColumns cells column →
    o ≡ option_map (λ c. c.part) (find (λ c. c.missing) cells) → o ≡ Some P → Decides (is_sound cells column) (Cancel in_q cells column)
sound_without_p cells column o r ne bytes first is =
    let f = lost_some cells o P first is in
    let l = one_lost cells P f.0 r ne f.1 in
    row_decides cells column true true (P ∷ []) (λ a b. b ≡ 0) l.0 l.1 l.2 bytes (λ a b ha hb. lone_p a b ha)

pub sound_without_q : (cells : List Cell) (column : ℕ → List ℕ) (o : Option Part) → IsRow cells → NotFull cells → AreColumns cells column →
    o ≡ option_map (λ c. c.part) (find (λ c. c.missing) cells) → o ≡ Some Q → Decides (is_sound cells column) (Cancel in_p cells column)
sound_without_q cells column o r ne bytes first is =
    let f = lost_some cells o Q first is in
    let l = one_lost cells Q f.0 r ne f.1 in
    row_decides cells column true true (Q ∷ []) (λ a b. a ≡ 0) l.0 l.1 l.2 bytes (λ a b ha hb. lone_q a b hb)

pub sound_without_data : (cells : List Cell) (column : ℕ → List ℕ) (o : Option Part) (k : ℕ) → IsRow cells → NotFull cells → AreColumns cells column →
    o ≡ option_map (λ c. c.part) (find (λ c. c.missing) cells) → o ≡ Some (Block k) → Decides (is_sound cells column) (CancelByP k cells column)
sound_without_data cells column o k r ne bytes first is =
    let f = lost_some cells o (Block k) first is in
    let l = one_lost cells (Block k) f.0 r ne f.1 in
    row_decides cells column true true (Block k ∷ []) (λ a b. bit_xor b (product (power_of k) a) ≡ 0) l.0 l.1 l.2 bytes (λ a b ha hb. lone_data k a b ha)

-- bytes for missing parts
nothing_fits : (parts : List Part) → AreBytes parts (map (λ part. 0) parts)
nothing_fits [] = tt
nothing_fits (part ∷ parts) = (omega arith, nothing_fits parts)

-- a row without parity
pub sound_without_parity : (cells : List Cell) (column : ℕ → List ℕ) → has_p cells ≡ false → has_q cells ≡ false → ((x : ℕ) → length (column x) ≡ length cells) → is_sound cells column ≡ true
unfolding is_sound
sound_without_parity cells column no_p no_q long =
    all_from (λ y. is_sound_column cells (column y)) 0 512
    (λ x low high. sound cells (column x) (map (λ part. 0) (lost cells)) (long x) (nothing_fits (lost cells))
    (record { by_p = λ h. absurd (false≢true (sym no_p ∙ h)); by_q = λ h. absurd (false≢true (sym no_q ∙ h)) }))

pub without_parity : NoParityIsSound
without_parity cells column no_p no_q long = sound_without_parity cells column no_p no_q long

pub full_row : FullRowIsSound
full_row cells column row are full = sound_where_full cells column row are full
