-- The solution of a column, and its bytes.
use Rattle.std.proofs.Common.{ℕ, inl, inr, ◌≡◌, ◌<◌, ◌≤◌, ◌+◌, Bool, true, false, cond, List, [], ◌∷◌, ◌++◌, length, take, drop, get_or, slice_index, refl, sym, ap, ap₂, ◌∙◌, arith, subst, bit_xor}
use Rattle.std.specs.List.{AllByRecursion, find, slice_get}
use Rattle.std.specs.Option.{option_or, unwrap_or, IfSome}
use Rattle.std.proofs.lemmas.Option.{slice_get-get_or}
use Rattle.gf256.specs.Field.{product}
use Rattle.std.specs.declared.option.Option.{Option}
use Rattle.std.specs.declared.option.Option.TheVariants.{Some}
use Rattle.std.proofs.lemmas.List.Elements.{recursion_from_All}
use Rattle.std.proofs.lemmas.Bool.{false≢true}
use Rattle.std.proofs.lemmas.List.{length-append}
use Rattle.raid_params.specs.declared.types.Cell.{Cell}
use Rattle.raid_params.specs.declared.types.Part.{Part}
use Rattle.raid_terms.specs.Parity.{filled, has_p, has_q, in_p, in_q, IsRow}
use Rattle.raid_terms.specs.Solving.{lost_byte, solved, solves}
use Rattle.row_parity.specs.Syndromes.{known_sum, sum_at, AreColumns}
use Rattle.lane_kernels.specs.Formulas.{weighed_sum}
use Rattle.row_parity.specs.LostBytes.{first_missing, Apart, Finds, EachLostColumnHasOneSolution}
use Rattle.row_parity.proofs.Members.{In, In-from_Contains, Contains-from_In}
use Rattle.row_parity.proofs.Fillings.{lost, put, AreBytes, from_filled, put_in_filled}
use Rattle.row_parity.proofs.RowSums.{known_sum_fits, in_p_fits, in_q_fits}
use Rattle.row_parity.proofs.Shapes.{MayBeLost, may_be_lost, length_lost}
use Rattle.pq_parity.proofs.Pairs.{weights_exist}
use Rattle.pq_parity.proofs.Places.{first, first_lost, lost_around, put_at}
use Rattle.pq_parity.proofs.Solved.{solution_test, solves_put, some_pass, found_at, apart_at}

-- what `find` finds, where something passes
found_step : {X : Type 0} (t : Bool) (test : X → Bool) (z : X) (zs : List X) (x d : X) → test z ≡ t → In (z ∷ zs) x → test x ≡ true →
    (In zs x → (y : X) × In zs y × (test y ≡ true) × (unwrap_or (find test zs) d ≡ y)) →
    (y : X) × In (z ∷ zs) y × (test y ≡ true) × (unwrap_or (cond t (Some z) (find test zs)) d ≡ y)
found_step true test z zs x d h i e next = (z, inl refl, h, refl)
found_step false test z zs x d h (inl same) e next = absurd (false≢true (sym h ∙ ap test same ∙ e))
found_step false test z zs x d h (inr j) e next = let r = next j in (r.0, inr r.1, r.2, r.3)

found_by : {X : Type 0} (test : X → Bool) (xs : List X) (x d : X) → In xs x → test x ≡ true → (y : X) × In xs y × (test y ≡ true) × (unwrap_or (find test xs) d ≡ y)
found_by test [] x d i e = absurd i
found_by test (z ∷ zs) x d i e = found_step (test z) test z zs x d refl i e (λ j. found_by test zs x d j e)

-- the sums of what is known of a column
abbrev pub p_of : List Cell → List ℕ → ℕ
p_of cells bytes = known_sum in_p cells bytes

abbrev pub q_of : List Cell → List ℕ → ℕ
q_of cells bytes = known_sum in_q cells bytes

-- these bytes at the missing cells pass
abbrev pub ColumnPasses : List Cell → List ℕ → List ℕ → Type 0
ColumnPasses cells bytes xs = solution_test (has_p cells) (has_q cells) (lost cells) xs (p_of cells bytes) (q_of cells bytes) ≡ true

-- the solution of a column
pub solved_by : (cells : List Cell) (bytes : List ℕ) → IsRow cells → length bytes ≡ length cells → AllByRecursion (λ b. b < 256) bytes → 1 ≤ length (lost cells) →
    (xs : List ℕ) × AreBytes (lost cells) xs × ColumnPasses cells bytes xs × (solved cells bytes ≡ put cells bytes xs) × In (filled cells bytes) (solved cells bytes) × (solves cells (solved cells bytes) ≡ true)
unfolding solved
solved_by cells bytes row e fit one =
    let s = some_pass (has_p cells) (has_q cells) (lost cells) (p_of cells bytes) (q_of cells bytes) (may_be_lost cells row) one
    (known_sum_fits in_p in_p_fits cells bytes fit) (known_sum_fits in_q in_q_fits cells bytes fit) in
    let f = found_by (solves cells) (filled cells bytes) (put cells bytes s.0) [] (put_in_filled cells bytes s.0 e s.1) (solves_put cells bytes s.0 e s.1 ∙ s.2) in
    let g = from_filled cells bytes f.0 e f.1 in (
      g.0,
      g.1,
      sym (solves_put cells bytes g.0 e g.1) ∙ ap (solves cells) (sym g.2) ∙ f.2,
      f.3 ∙ g.2,
      subst (λ (c : List ℕ). In (filled cells bytes) c) (sym f.3) f.1,
      ap (solves cells) f.3 ∙ f.2,
    )

-- one of the bytes, by weights that find it
weighed_at : (p q : Bool) (parts before : List Part) (part : Part) (after : List Part) (other : Option Part) (xs : List ℕ) (s t a b : ℕ) →
    parts ≡ before ++ (part ∷ after) → other ≡ option_or (first before) (first after) → MayBeLost p q parts → AreBytes parts xs →
    solution_test p q parts xs s t ≡ true → Finds part other a b → s < 256 → t < 256 → get_or xs (length before) 0 ≡ weighed_sum a b s t
weighed_at p q parts before part after other xs s t a b split beside m fit test finds hs ht =
    let f = found_at p q before part after xs s t (rw split at m) (rw split at fit) (rw split at test) in
    finds (get_or xs (length before) 0) f.0 s t f.2 f.1 hs ht (rw beside f.3)

pub nonempty : (parts before : List Part) (part : Part) (after : List Part) → parts ≡ before ++ (part ∷ after) → 1 ≤ length parts
nonempty parts before part after e = omega (arith, ap (λ (ps : List Part). length ps) e, length-append before (part ∷ after))

pub other_parts : (cells : List Cell) (place : ℕ) (other : Option Part) → other ≡ option_or (first_missing (take place cells)) (first_missing (drop (place + 1) cells)) →
    other ≡ option_or (first (lost (take place cells))) (first (lost (drop (place + 1) cells)))
other_parts cells place other e = e ∙ ap₂ (λ (a b : Option Part). option_or a b) (first_lost (take place cells)) (first_lost (drop (place + 1) cells))

-- a lost byte, by weights that find it
pub lost_is : (cells : List Cell) (bytes : List ℕ) (place : ℕ) (cell : Cell) (other : Option Part) (a b : ℕ) → IsRow cells → length bytes ≡ length cells →
    AllByRecursion (λ x. x < 256) bytes → slice_get cells place ≡ Some cell → cell.missing ≡ true →
    other ≡ option_or (first_missing (take place cells)) (first_missing (drop (place + 1) cells)) → Finds cell.part other a b →
    lost_byte cells bytes place ≡ weighed_sum a b (p_of cells bytes) (q_of cells bytes)
lost_is cells bytes place cell other a b row e fit is missing beside finds =
    let before = lost (take place cells) in
    let after = lost (drop (place + 1) cells) in
    let split = lost_around cells place cell is missing in
    let s = solved_by cells bytes row e fit (nonempty (lost cells) (lost (take place cells)) cell.part (lost (drop (place + 1) cells)) split) in
    ap (λ (c : List ℕ). slice_index c place) s.3 ∙ put_at cells bytes s.0 place cell e s.1 is missing
    ∙ weighed_at (has_p cells) (has_q cells) (lost cells) (lost (take place cells)) cell.part (lost (drop (place + 1) cells)) other s.0 (p_of cells bytes) (q_of cells bytes) a b
    split (other_parts cells place other beside) (may_be_lost cells row) s.1 s.2 finds (known_sum_fits in_p in_p_fits cells bytes fit) (known_sum_fits in_q in_q_fits cells bytes fit)

-- the same of a column of a row
pub lost_in_row : (cells : List Cell) (column : ℕ → List ℕ) (place x : ℕ) (cell : Cell) (other : Option Part) (a b : ℕ) → IsRow cells → AreColumns cells column →
    slice_get cells place ≡ Some cell → cell.missing ≡ true →
    other ≡ option_or (first_missing (take place cells)) (first_missing (drop (place + 1) cells)) → Finds cell.part other a b →
    lost_byte cells (column x) place ≡ weighed_sum a b (sum_at in_p cells column x) (sum_at in_q cells column x)
lost_in_row cells column place x cell other a b is_row bytes is missing beside finds =
    lost_is cells (column x) place cell other a b is_row (bytes x).0 (bytes x).1 is missing beside finds

-- missing parts are apart
pub apart_in_row : (cells : List Cell) (place : ℕ) (cell : Cell) (other : Option Part) → IsRow cells → slice_get cells place ≡ Some cell → cell.missing ≡ true →
    other ≡ option_or (first_missing (take place cells)) (first_missing (drop (place + 1) cells)) → Apart cell.part other
apart_in_row cells place cell other row is missing beside =
    let split = lost_around cells place cell is missing in
    let m : MayBeLost (has_p cells) (has_q cells) (lost (take place cells) ++ (cell.part ∷ lost (drop (place + 1) cells))) = rw split at (may_be_lost cells row) in
    rw (other_parts cells place other beside) (apart_at (has_p cells) (has_q cells) (lost (take place cells)) cell.part (lost (drop (place + 1) cells)) m)

-- the cell at a place, read with a default
pub missing_there : (cells : List Cell) (place : ℕ) (d : Cell) → place < length cells → IfSome (slice_get cells place) (λ cell. cell.missing ≡ true) →
    (get_or cells place d).missing ≡ true
missing_there cells place d h m = rw (slice_get-get_or cells place d h) at m

pub apart_there : (cells : List Cell) (place : ℕ) (d : Cell) (other : Option Part) → IsRow cells → place < length cells →
    IfSome (slice_get cells place) (λ cell. cell.missing ≡ true) →
    other ≡ option_or (first_missing (take place cells)) (first_missing (drop (place + 1) cells)) → Apart (get_or cells place d).part other
apart_there cells place d other row h m beside =
    apart_in_row cells place (get_or cells place d) other row (slice_get-get_or cells place d h) (missing_there cells place d h m) beside

-- the byte that is the weighed sum of the sums of P's and of Q's equation
pub lost_there : (cells : List Cell) (column : ℕ → List ℕ) (place x : ℕ) (d : Cell) (other : Option Part) (a b zero_byte with_p byte : ℕ) → IsRow cells → AreColumns cells column → place < length cells →
    IfSome (slice_get cells place) (λ cell. cell.missing ≡ true) →
    other ≡ option_or (first_missing (take place cells)) (first_missing (drop (place + 1) cells)) → Finds (get_or cells place d).part other a b →
    zero_byte ≡ 0 → with_p ≡ bit_xor zero_byte (product a (sum_at in_p cells column x)) → byte ≡ bit_xor with_p (product b (sum_at in_q cells column x)) →
    byte ≡ lost_byte cells (column x) place
lost_there cells column place x d other a b zero_byte with_p byte is_row bytes h m beside finds e0 e1 e2 =
    e2 ∙ ap (λ (v : ℕ). bit_xor v (product b (sum_at in_q cells column x))) (e1 ∙ ap (λ (v : ℕ). bit_xor v (product a (sum_at in_p cells column x))) e0)
    ∙ sym (lost_in_row cells column place x (get_or cells place d) other a b is_row bytes (slice_get-get_or cells place d h) (missing_there cells place d h m) beside finds)

-- two bytes that pass are equal
same_at : (p q : Bool) (before : List Part) (part : Part) (after : List Part) (xs ys : List ℕ) (s t : ℕ) → MayBeLost p q (before ++ (part ∷ after)) →
    AreBytes (before ++ (part ∷ after)) xs → AreBytes (before ++ (part ∷ after)) ys → solution_test p q (before ++ (part ∷ after)) xs s t ≡ true →
    solution_test p q (before ++ (part ∷ after)) ys s t ≡ true → s < 256 → t < 256 → get_or xs (length before) 0 ≡ get_or ys (length before) 0
same_at p q before part after xs ys s t m fx fy tx ty hs ht =
    let w = weights_exist part (option_or (first before) (first after)) (apart_at p q before part after m) in
    let f = found_at p q before part after xs s t m fx tx in
    let g = found_at p q before part after ys s t m fy ty in
    w.2 (get_or xs (length before) 0) f.0 s t f.2 f.1 hs ht f.3 ∙ sym (w.2 (get_or ys (length before) 0) g.0 s t g.2 g.1 hs ht g.3)

one_byte : (a : Part) (xs : List ℕ) → AreBytes (a ∷ []) xs → xs ≡ get_or xs 0 0 ∷ []
one_byte a [] fit = absurd fit
one_byte a (x ∷ []) fit = refl
one_byte a (x ∷ y ∷ zs) fit = absurd fit.1

two_bytes : (a b : Part) (xs : List ℕ) → AreBytes (a ∷ b ∷ []) xs → xs ≡ get_or xs 0 0 ∷ get_or xs 1 0 ∷ []
two_bytes a b [] fit = absurd fit
two_bytes a b (x ∷ []) fit = absurd fit.1
two_bytes a b (x ∷ y ∷ []) fit = refl
two_bytes a b (x ∷ y ∷ z ∷ zs) fit = absurd fit.1.1

flag : (b : Bool) → cond b 1 0 ≤ 1
flag true = omega arith
flag false = omega arith

same_bytes : (p q : Bool) (parts : List Part) (xs ys : List ℕ) (s t : ℕ) → MayBeLost p q parts → 1 ≤ length parts → AreBytes parts xs → AreBytes parts ys →
    solution_test p q parts xs s t ≡ true → solution_test p q parts ys s t ≡ true → s < 256 → t < 256 → xs ≡ ys
same_bytes p q [] xs ys s t m one fx fy tx ty hs ht = absurd (omega arith)
same_bytes p q (a ∷ []) xs ys s t m one fx fy tx ty hs ht =
    one_byte a xs fx ∙ ap (λ (v : ℕ). v ∷ []) (same_at p q [] a [] xs ys s t m fx fy tx ty hs ht) ∙ sym (one_byte a ys fy)
same_bytes p q (a ∷ b ∷ []) xs ys s t m one fx fy tx ty hs ht =
    two_bytes a b xs fx
    ∙ ap₂ (λ (v w : ℕ). v ∷ w ∷ []) (same_at p q [] a (b ∷ []) xs ys s t m fx fy tx ty hs ht) (same_at p q (a ∷ []) b [] xs ys s t m fx fy tx ty hs ht)
    ∙ sym (two_bytes a b ys fy)
same_bytes p q (a ∷ b ∷ c ∷ ds) xs ys s t m one fx fy tx ty hs ht = absurd (let h = m.few in omega (arith, flag p, flag q))

-- two columns that solve are equal
same_column : (cells : List Cell) (bytes u v : List ℕ) → IsRow cells → length bytes ≡ length cells → AllByRecursion (λ b. b < 256) bytes → 1 ≤ length (lost cells) →
    In (filled cells bytes) u → In (filled cells bytes) v → solves cells u ≡ true → solves cells v ≡ true → u ≡ v
same_column cells bytes u v row e fit one iu iv su sv =
    let f = from_filled cells bytes u e iu in
    let g = from_filled cells bytes v e iv in
    f.2 ∙ ap (put cells bytes)
    (same_bytes (has_p cells) (has_q cells) (lost cells) f.0 g.0 (p_of cells bytes) (q_of cells bytes) (may_be_lost cells row) one f.1 g.1
    (sym (solves_put cells bytes f.0 e f.1) ∙ ap (solves cells) (sym f.2) ∙ su) (sym (solves_put cells bytes g.0 e g.1) ∙ ap (solves cells) (sym g.2) ∙ sv)
    (known_sum_fits in_p in_p_fits cells bytes fit) (known_sum_fits in_q in_q_fits cells bytes fit))
    ∙ sym g.2

pub one_solution : EachLostColumnHasOneSolution
one_solution cells bytes row some e fits =
    let fit = recursion_from_All (λ b. b < 256) bytes fits in
    let one : 1 ≤ length (lost cells) = omega (arith, length_lost cells) in
    let s = solved_by cells bytes row e fit one in (
      solved cells bytes,
      Contains-from_In (filled cells bytes) (solved cells bytes) s.4,
      s.5,
      λ other c t. same_column cells bytes other (solved cells bytes) row e fit one (In-from_Contains (filled cells bytes) other c) s.4 t s.5,
    )
