-- Lost data do not depend on blocks that they do not need.
use Rattle.std.proofs.Common.{ℕ, zero, suc, ◌≡◌, ◌<◌, ◌≤◌, ◌+◌, Bool, true, false, cond, not, ◌&&◌, ◌||◌, nat_eq, nat_le, List, [], ◌∷◌, ◌++◌, length, get_or, map, count_by, slice_index, refl, sym, ap, ap₂, ◌∙◌, arith, bit_xor, IfSome}
use Rattle.std.specs.List.{find, flat_map, list_any, range_with_len, slice_get}
use Rattle.std.specs.Option.{option_map, unwrap_or}
use Rattle.std.specs.declared.option.Option.{Option}
use Rattle.std.specs.declared.option.Option.TheVariants.{None, Some}
use Rattle.std.proofs.lemmas.Bool.{eq-eqb, false≢true}
use Rattle.std.proofs.lemmas.Bool.Decides.{nat_tests}
use Rattle.raid_params.specs.declared.types.Cell.{Cell}
use Rattle.raid_params.specs.declared.types.Part.{Part}
use Rattle.raid_params.specs.declared.types.Part.TheVariants.{Block, P, Q}
use Rattle.raid_terms.specs.Parity.{equations_hold, filled, in_p, is_data, is_p, is_q, p_holds, q_holds, sum_of, has_p, IsRow}
use Rattle.raid_terms.specs.Solving.{is_one_lost, is_q_lost, lost_byte, solved, solves}
use Rattle.pq_parity.specs.Needs.{is_p_lost, lost_data, needs, AgreeInNeeded}
use Rattle.row_parity.proofs.Shapes.{count_cons}

-- two columns agree at the cells that are there, where the part is wanted
abbrev pub AgreeAt : (Part → Bool) → List Cell → List ℕ → List ℕ → Type 0
AgreeAt want cells xs ys =
    (place : ℕ) → IfSome (slice_get cells place) (λ cell. cell.missing ≡ false → want cell.part ≡ true → slice_index xs place ≡ slice_index ys place)

abbrev all_parts : Part → Bool
all_parts part = true

-- bytes before each of these columns
abbrev before : List (List ℕ) → List ℕ → List (List ℕ)
before columns bytes = flat_map (λ b. map (λ rest. b ∷ rest) columns) bytes

filled_step : (t : Bool) (x y n : ℕ) (us vs : List (List ℕ)) → (t ≡ false → x ≡ y) → us ≡ vs → before us (cond t (range_with_len 0 n) (x ∷ [])) ≡ before vs (cond t (range_with_len 0 n) (y ∷ []))
filled_step true x y n us vs here rest = ap (λ (columns : List (List ℕ)). before columns (range_with_len 0 n)) rest
filled_step false x y n us vs here rest = ap₂ (λ (columns : List (List ℕ)) (b : ℕ). before columns (b ∷ [])) rest (here refl)

-- columns that agree at each cell that is there are filled alike
filled_same : (cells : List Cell) (xs ys : List ℕ) → length xs ≡ length cells → length ys ≡ length cells → AgreeAt all_parts cells xs ys → filled cells xs ≡ filled cells ys
unfolding filled
filled_same [] xs ys ex ey same = refl
filled_same (cell ∷ cells) [] ys ex ey same = absurd (omega arith)
filled_same (cell ∷ cells) (x ∷ xs) [] ex ey same = absurd (omega arith)
filled_same (cell ∷ cells) (x ∷ xs) (y ∷ ys) ex ey same =
    filled_step cell.missing x y 256 (filled cells xs) (filled cells ys) (λ there. same 0 there refl) (filled_same cells xs ys (omega arith) (omega arith) (λ place. same (suc place)))

-- a column with 0 for Q where it is there
abbrev dim_byte : Cell → ℕ → ℕ
dim_byte cell byte = cond cell.missing byte (cond (is_q cell.part) 0 byte)

abbrev dim : List Cell → List ℕ → List ℕ
dim [] bytes = []
dim (cell ∷ cells) [] = []
dim (cell ∷ cells) (byte ∷ bytes) = dim_byte cell byte ∷ dim cells bytes

dim_long : (cells : List Cell) (bytes : List ℕ) → length bytes ≡ length cells → length (dim cells bytes) ≡ length cells
dim_long [] bytes e = refl
dim_long (cell ∷ cells) [] e = absurd (omega arith)
dim_long (cell ∷ cells) (byte ∷ bytes) e = ap suc (dim_long cells bytes (omega arith))

dim_each : (cell : Cell) (cells : List Cell) (b : ℕ) (vs rest : List (List ℕ)) →
    map (dim (cell ∷ cells)) (map (λ v. b ∷ v) vs ++ rest) ≡ map (λ v. dim_byte cell b ∷ v) (map (dim cells) vs) ++ map (dim (cell ∷ cells)) rest
dim_each cell cells b [] rest = refl
dim_each cell cells b (v ∷ vs) rest = ap (λ (t : List (List ℕ)). (dim_byte cell b ∷ dim cells v) ∷ t) (dim_each cell cells b vs rest)

dim_before : (cell : Cell) (cells : List Cell) (vs : List (List ℕ)) (bs : List ℕ) → map (dim (cell ∷ cells)) (before vs bs) ≡ before (map (dim cells) vs) (map (dim_byte cell) bs)
dim_before cell cells vs [] = refl
dim_before cell cells vs (b ∷ bs) =
    dim_each cell cells b vs (before vs bs)
    ∙ ap (λ (t : List (List ℕ)). map (λ v. dim_byte cell b ∷ v) (map (dim cells) vs) ++ t) (dim_before cell cells vs bs)

map_same : (bs : List ℕ) → map (λ b. b) bs ≡ bs
map_same [] = refl
map_same (b ∷ bs) = ap (λ (t : List ℕ). b ∷ t) (map_same bs)

choices : (t q : Bool) (n byte : ℕ) → map (λ b. cond t b (cond q 0 b)) (cond t (range_with_len 0 n) (byte ∷ [])) ≡ cond t (range_with_len 0 n) (cond t byte (cond q 0 byte) ∷ [])
choices true q n byte = map_same (range_with_len 0 n)
choices false q n byte = refl

filled_dim : (cells : List Cell) (bytes : List ℕ) → filled cells (dim cells bytes) ≡ map (dim cells) (filled cells bytes)
unfolding filled
filled_dim [] bytes = refl
filled_dim (cell ∷ cells) [] = refl
filled_dim (cell ∷ cells) (byte ∷ bytes) =
    ap₂ before (filled_dim cells bytes) (sym (choices cell.missing (is_q cell.part) 256 byte))
    ∙ sym (dim_before cell cells (filled cells bytes) (cond cell.missing (range_with_len 0 256) (byte ∷ [])))

-- P's equation does not ask for it
p_byte : (t : Bool) (part : Part) (b : ℕ) → in_p part (cond t b (cond (is_q part) 0 b)) ≡ in_p part b
p_byte true part b = refl
p_byte false P b = refl
p_byte false Q b = refl
p_byte false (Block k) b = refl

p_dim : (cells : List Cell) (column : List ℕ) → sum_of in_p cells (dim cells column) ≡ sum_of in_p cells column
unfolding sum_of
p_dim [] column = refl
p_dim (cell ∷ cells) [] = refl
p_dim (cell ∷ cells) (byte ∷ column) = ap₂ bit_xor (p_byte cell.missing cell.part byte) (p_dim cells column)

-- so neither does what solves where one byte alone is lost that is not Q
pub by_p_alone : (cells : List Cell) (column : List ℕ) → is_one_lost cells ≡ true → is_q_lost cells ≡ false → solves cells column ≡ p_holds cells column
by_p_alone cells column one none =
    ap (λ (b : Bool). cond b (cond (is_q_lost cells) (q_holds cells column) (p_holds cells column)) (equations_hold cells column)) one
    ∙ ap (λ (b : Bool). cond b (q_holds cells column) (p_holds cells column)) none

solves_dim : (cells : List Cell) → is_one_lost cells ≡ true → is_q_lost cells ≡ false → (column : List ℕ) → solves cells (dim cells column) ≡ solves cells column
solves_dim cells one none column =
    by_p_alone cells (dim cells column) one none ∙ ap (λ (s : ℕ). not (has_p cells) || nat_eq s 0) (p_dim cells column) ∙ sym (by_p_alone cells column one none)

found_step : {X : Type 0} (t : Bool) (g : X → X) (x : X) (o : Option X) → cond t (Some (g x)) (option_map g o) ≡ option_map g (cond t (Some x) o)
found_step true g x o = refl
found_step false g x o = refl

find_mapped : {X : Type 0} (test : X → Bool) (g : X → X) (xs : List X) → ((x : X) → test (g x) ≡ test x) → find test (map g xs) ≡ option_map g (find test xs)
find_mapped test g [] same = refl
find_mapped {X = X} test g (x ∷ xs) same = ap₂ (λ (b : Bool) (o : Option X). cond b (Some (g x)) o) (same x) (find_mapped test g xs same) ∙ found_step (test x) g x (find test xs)

data_byte : (t : Bool) (part : Part) (b : ℕ) → is_data part ≡ true → cond t b (cond (is_q part) 0 b) ≡ b
data_byte true part b h = refl
data_byte false P b h = refl
data_byte false Q b h = absurd (false≢true h)
data_byte false (Block k) b h = refl

at_dim : (cells : List Cell) (column : List ℕ) (place : ℕ) (cell : Cell) → slice_get cells place ≡ Some cell → is_data cell.part ≡ true → get_or (dim cells column) place 0 ≡ get_or column place 0
at_dim [] column place cell is d = absurd (let h : None ≡ Some cell = is in cc)
at_dim (c ∷ cs) [] place cell is d = refl
at_dim (c ∷ cs) (b ∷ bs) zero cell is d = let same : c ≡ cell = cc in data_byte c.missing c.part b (ap (λ (e : Cell). is_data e.part) same ∙ d)
at_dim (c ∷ cs) (b ∷ bs) (suc place) cell is d = at_dim cs bs place cell is d

at_found : (cells : List Cell) (o : Option (List ℕ)) (place : ℕ) (cell : Cell) → slice_get cells place ≡ Some cell → is_data cell.part ≡ true →
    slice_index (unwrap_or (option_map (dim cells) o) []) place ≡ slice_index (unwrap_or o []) place
at_found cells None place cell is d = refl
at_found cells (Some column) place cell is d = at_dim cells column place cell is d

lost_dim : (cells : List Cell) (bytes : List ℕ) (place : ℕ) (cell : Cell) → is_one_lost cells ≡ true → is_q_lost cells ≡ false → slice_get cells place ≡ Some cell → is_data cell.part ≡ true →
    lost_byte cells (dim cells bytes) place ≡ lost_byte cells bytes place
unfolding solved
lost_dim cells bytes place cell one none is d =
    ap (λ (columns : List (List ℕ)). slice_index (unwrap_or (find (solves cells) columns) []) place) (filled_dim cells bytes)
    ∙ ap (λ (o : Option (List ℕ)). slice_index (unwrap_or o []) place) (find_mapped (solves cells) (dim cells) (filled cells bytes) (solves_dim cells one none))
    ∙ at_found cells (find (solves cells) (filled cells bytes)) place cell is d

lost_same : (cells : List Cell) (xs ys : List ℕ) (place : ℕ) → length xs ≡ length cells → length ys ≡ length cells → AgreeAt all_parts cells xs ys → lost_byte cells xs place ≡ lost_byte cells ys place
unfolding solved
lost_same cells xs ys place ex ey same = ap (λ (columns : List (List ℕ)). slice_index (unwrap_or (find (solves cells) columns) []) place) (filled_same cells xs ys ex ey same)

-- without Q's bytes they agree in all
agree_byte : (part : Part) (x y : ℕ) (want : Part → Bool) → want P ≡ true → ((k : ℕ) → want (Block k) ≡ true) → (want part ≡ true → x ≡ y) → cond (is_q part) 0 x ≡ cond (is_q part) 0 y
agree_byte P x y want p d same = same p
agree_byte Q x y want p d same = refl
agree_byte (Block k) x y want p d same = same (d k)

agree_there : (t : Bool) (part : Part) (x y : ℕ) (want : Part → Bool) → want P ≡ true → ((k : ℕ) → want (Block k) ≡ true) → (t ≡ false → want part ≡ true → x ≡ y) → t ≡ false →
    cond t x (cond (is_q part) 0 x) ≡ cond t y (cond (is_q part) 0 y)
agree_there true part x y want p d same there = absurd (false≢true (sym there))
agree_there false part x y want p d same there = agree_byte part x y want p d (same refl)

agree_dim : (want : Part → Bool) (cells : List Cell) (xs ys : List ℕ) → want P ≡ true → ((k : ℕ) → want (Block k) ≡ true) → length xs ≡ length cells → length ys ≡ length cells → AgreeAt want cells xs ys →
    AgreeAt all_parts cells (dim cells xs) (dim cells ys)
agree_dim want [] xs ys p d ex ey same = λ place. tt
agree_dim want (cell ∷ cells) [] ys p d ex ey same = absurd (omega arith)
agree_dim want (cell ∷ cells) (x ∷ xs) [] p d ex ey same = absurd (omega arith)
agree_dim want (cell ∷ cells) (x ∷ xs) (y ∷ ys) p d ex ey same = at (agree_dim want cells xs ys p d (omega arith) (omega arith) (λ i. same (suc i)))
  where
    at : AgreeAt all_parts cells (dim cells xs) (dim cells ys) → (place : ℕ) →
        IfSome (slice_get (cell ∷ cells) place) (λ c. c.missing ≡ false → true ≡ true → slice_index (dim (cell ∷ cells) (x ∷ xs)) place ≡ slice_index (dim (cell ∷ cells) (y ∷ ys)) place)
    at rest zero = λ there wanted. agree_there cell.missing cell.part x y want p d (same 0) there
    at rest (suc place) = rest place

-- columns agree in all where each part that is there is wanted
agree_all : (want : Part → Bool) (cells : List Cell) (xs ys : List ℕ) → ((place : ℕ) → IfSome (slice_get cells place) (λ cell. cell.missing ≡ false → want cell.part ≡ true)) → AgreeAt want cells xs ys → AgreeAt all_parts cells xs ys
agree_all want cells xs ys each same = λ place. both (slice_get cells place) place (each place) (same place)
  where
    both : (o : Option Cell) (place : ℕ) → IfSome o (λ cell. cell.missing ≡ false → want cell.part ≡ true) → IfSome o (λ cell. cell.missing ≡ false → want cell.part ≡ true → slice_index xs place ≡ slice_index ys place) →
        IfSome o (λ cell. cell.missing ≡ false → true ≡ true → slice_index xs place ≡ slice_index ys place)
    both None place e s = tt
    both (Some cell) place e s = λ there wanted. s there (e there)

-- of which parts cells are missing
kind_step : (t : Bool) (part : Part) → cond t 1 0 ≡ cond (t && is_data part) 1 0 + (cond (t && is_p part) 1 0 + cond (t && is_q part) 1 0)
kind_step false part = refl
kind_step true P = refl
kind_step true Q = refl
kind_step true (Block k) = refl

pub missing_kinds : (cells : List Cell) → count_by (λ c. c.missing) cells ≡ lost_data cells + (count_by (λ c. c.missing && is_p c.part) cells + count_by (λ c. c.missing && is_q c.part) cells)
missing_kinds [] = refl
missing_kinds (cell ∷ cells) =
    let a = kind_step cell.missing cell.part in
    let b = missing_kinds cells in
    omega (arith, count_cons (λ c. c.missing) cell cells, count_cons (λ c. c.missing && is_data c.part) cell cells, count_cons (λ c. c.missing && is_p c.part) cell cells, count_cons (λ c. c.missing && is_q c.part) cell cells)

none_step : (a b : Bool) → (a || b) ≡ false → (a ≡ false) × (b ≡ false)
none_step true b h = absurd (false≢true (sym h))
none_step false b h = (refl, h)

pub none_counted : (test : Cell → Bool) (cells : List Cell) → list_any test cells ≡ false → count_by test cells ≡ 0
none_counted test [] h = refl
none_counted test (cell ∷ cells) h =
    let s = none_step (test cell) (list_any test cells) h in
    let a = ap {B = ℕ} (λ (b : Bool). cond b 1 0) s.0 in
    let b = none_counted test cells s.1 in
    omega (arith, count_cons test cell cells)

pub some_counted : (test : Cell → Bool) (cells : List Cell) → list_any test cells ≡ true → 1 ≤ count_by test cells
some_counted test [] h = absurd (false≢true h)
some_counted test (cell ∷ cells) h = at (some_counted test cells) (test cell) refl h
  where
    at : (list_any test cells ≡ true → 1 ≤ count_by test cells) → (t : Bool) → test cell ≡ t → (t || list_any test cells) ≡ true → 1 ≤ count_by test (cell ∷ cells)
    at rest true is h = let a = ap {B = ℕ} (λ (b : Bool). cond b 1 0) is in omega (arith, count_cons test cell cells)
    at rest false is h = let b = rest h in omega (arith, count_cons test cell cells)

-- a cell that passes is counted
counted_at : (test : Cell → Bool) (cells : List Cell) (place : ℕ) (cell : Cell) → slice_get cells place ≡ Some cell → test cell ≡ true → 1 ≤ count_by test cells
counted_at test [] place cell is h = absurd (let e : None ≡ Some cell = is in cc)
counted_at test (c ∷ cs) zero cell is h =
    let same : c ≡ cell = cc in
    let a = ap {B = ℕ} (λ (b : Bool). cond b 1 0) (ap test same ∙ h) in
    omega (arith, count_cons test c cs)
counted_at test (c ∷ cs) (suc place) cell is h = let b = counted_at test cs place cell is h in omega (arith, count_cons test c cs)

q_kind_step : (t q : Bool) → cond q 1 0 ≡ cond (t && q) 1 0 + cond (not t && q) 1 0
q_kind_step true true = refl
q_kind_step true false = refl
q_kind_step false true = refl
q_kind_step false false = refl

q_kinds : (cells : List Cell) → count_by (λ c. is_q c.part) cells ≡ count_by (λ c. c.missing && is_q c.part) cells + count_by (λ c. not c.missing && is_q c.part) cells
q_kinds [] = refl
q_kinds (cell ∷ cells) =
    let a = q_kind_step cell.missing (is_q cell.part) in
    let b = q_kinds cells in
    omega (arith, count_cons (λ c. is_q c.part) cell cells, count_cons (λ c. c.missing && is_q c.part) cell cells, count_cons (λ c. not c.missing && is_q c.part) cell cells)

pub some_case : (cells : List Cell) (o : Option Cell) (place : ℕ) (R : Cell → Type 0) → slice_get cells place ≡ o → ((cell : Cell) → o ≡ Some cell → R cell) → IfSome o R
some_case cells None place R is h = tt
some_case cells (Some cell) place R is h = h cell refl

pub both_true : (a b : Bool) → a ≡ true → b ≡ true → (a && b) ≡ true
both_true a b e f = ap₂ (λ (s t : Bool). s && t) e f

not_q_wanted : (want : Part → Bool) (part : Part) → want P ≡ true → ((k : ℕ) → want (Block k) ≡ true) → (is_q part ≡ true → ⊥) → want part ≡ true
not_q_wanted want P p d apart = p
not_q_wanted want Q p d apart = absurd (apart refl)
not_q_wanted want (Block k) p d apart = d k

-- a lost Q is not there
lost_q_wanted : (want : Part → Bool) (cells : List Cell) → want P ≡ true → ((k : ℕ) → want (Block k) ≡ true) → count_by (λ c. is_q c.part) cells ≤ 1 → is_q_lost cells ≡ true →
    (place : ℕ) → IfSome (slice_get cells place) (λ cell. cell.missing ≡ false → want cell.part ≡ true)
lost_q_wanted want cells p d one lost = λ place.
    some_case cells (slice_get cells place) place (λ cell. cell.missing ≡ false → want cell.part ≡ true) refl
    (λ cell is there. not_q_wanted want cell.part p d
    (λ q. let here = counted_at (λ c. not c.missing && is_q c.part) cells place cell is (both_true (not cell.missing) (is_q cell.part) (ap not there) q) in
    let gone = some_counted (λ c. c.missing && is_q c.part) cells lost in
    absurd (omega (arith, q_kinds cells))))

every_wanted : (want : Part → Bool) (part : Part) → want P ≡ true → ((k : ℕ) → want (Block k) ≡ true) → want Q ≡ true → want part ≡ true
every_wanted want P p d q = p
every_wanted want Q p d q = q
every_wanted want (Block k) p d q = d k

one_test : (n : ℕ) → 1 ≤ n → nat_le 1 n ≡ true
one_test n h = grind (arith, nat_tests)

q_unneeded : (a b c : Bool) → b ≡ true → (a || (b && c)) ≡ false → (a ≡ false) × (c ≡ false)
q_unneeded true b c e h = absurd (false≢true (sym h))
q_unneeded false true c e h = (refl, h)
q_unneeded false false c e h = absurd (false≢true e)

below_two : (n : ℕ) → nat_le 2 n ≡ false → n < 2
below_two n h = grind (arith, nat_tests)

-- columns that agree in what is needed have the same lost data
pub same_lost : (cells : List Cell) (xs ys : List ℕ) (place : ℕ) (cell : Cell) → IsRow cells → length xs ≡ length cells → length ys ≡ length cells → AgreeInNeeded cells xs ys →
    slice_get cells place ≡ Some cell → cell.missing ≡ true → is_data cell.part ≡ true → lost_byte cells xs place ≡ lost_byte cells ys place
same_lost cells xs ys place cell row ex ey same is missing d = by_need (needs cells Q) refl
  where
    some : 1 ≤ lost_data cells
    some = counted_at (λ c. c.missing && is_data c.part) cells place cell is (both_true cell.missing (is_data cell.part) missing d)

    p_wanted : needs cells P ≡ true
    p_wanted = one_test (lost_data cells) some

    by_q : (lost : Bool) → is_q_lost cells ≡ lost → lost_data cells ≡ 1 → is_p_lost cells ≡ false → lost_byte cells xs place ≡ lost_byte cells ys place
    by_q true lost one no_p =
        lost_same cells xs ys place ex ey (agree_all (needs cells) cells xs ys (lost_q_wanted (needs cells) cells p_wanted (λ k. refl) row.one_q lost) same)
    by_q false lost one no_p =
        let count : count_by (λ c. c.missing) cells ≡ 1 = omega (arith, missing_kinds cells, none_counted (λ c. c.missing && is_p c.part) cells no_p, none_counted (λ c. c.missing && is_q c.part) cells lost) in
        let alone : is_one_lost cells ≡ true = eq-eqb (count_by (λ c. c.missing) cells) 1 count in
        sym (lost_dim cells xs place cell alone lost is d)
        ∙ lost_same cells (dim cells xs) (dim cells ys) place (dim_long cells xs ex) (dim_long cells ys ey) (agree_dim (needs cells) cells xs ys p_wanted (λ k. refl) ex ey same)
        ∙ lost_dim cells ys place cell alone lost is d

    by_need : (wanted : Bool) → needs cells Q ≡ wanted → lost_byte cells xs place ≡ lost_byte cells ys place
    by_need true wanted =
        lost_same cells xs ys place ex ey
        (agree_all (needs cells) cells xs ys
        (λ i. some_case cells (slice_get cells i) i (λ c. c.missing ≡ false → needs cells c.part ≡ true) refl (λ c here there. every_wanted (needs cells) c.part p_wanted (λ k. refl) wanted)) same)
    by_need false wanted =
        let parts = q_unneeded (nat_le 2 (lost_data cells)) (nat_le 1 (lost_data cells)) (is_p_lost cells) p_wanted wanted in
        let few : lost_data cells < 2 = below_two (lost_data cells) parts.0 in
        let one : lost_data cells ≡ 1 = omega (arith, some) in
        by_q (is_q_lost cells) refl one parts.1
