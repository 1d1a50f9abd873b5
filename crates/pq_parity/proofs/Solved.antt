-- Columns by whose bytes the equations hold.
use Rattle.std.proofs.Common.{ℕ, ◌≡◌, ◌<◌, ◌≤◌, Bool, true, false, not, cond, ◌||◌, ◌&&◌, nat_eq, List, [], ◌∷◌, ◌++◌, length, get_or, refl, sym, ap, ap₂, ◌∙◌, arith, bit_xor, suc}
use Rattle.std.specs.List.{list_any}
use Rattle.std.specs.Option.{option_or}
use Rattle.std.specs.declared.option.Option.{Option}
use Rattle.std.specs.declared.option.Option.TheVariants.{None, Some}
use Rattle.std.proofs.lemmas.Bool.{and_parts, and_from, eqb-true, eq-eqb, eqb-false, false≢true}
use Rattle.std.proofs.lemmas.Map.Keys.{IsDistinct-head}
use Rattle.std.proofs.lemmas.List.{length-append}
use Rattle.gf256.proofs.Sums.{sum_zero, sum_commutes}
use Rattle.raid_params.specs.declared.types.Cell.{Cell}
use Rattle.raid_params.specs.declared.types.Part.{Part}
use Rattle.raid_params.specs.declared.types.Part.TheVariants.{Block, P, Q}
use Rattle.raid_terms.specs.Parity.{has_p, has_q, in_p, in_q, is_q, p_holds, q_holds}
use Rattle.raid_terms.specs.Solving.{is_q_lost, solves}
use Rattle.row_parity.specs.Syndromes.{known_sum}
use Rattle.row_parity.specs.LostBytes.{Apart, Found}
use Rattle.row_parity.proofs.Fillings.{lost, put, AreBytes}
use Rattle.row_parity.proofs.RowSums.{part_sum}
use Rattle.row_parity.proofs.Shapes.{MayBeLost, length_lost}
use Rattle.row_parity.proofs.Columns.{p_holds_put, q_holds_put}
use Rattle.row_parity.proofs.Solutions.{twice, two}
use Rattle.pq_parity.proofs.Places.{first}

-- the test of P's equation, and of Q's, for bytes of the missing parts
abbrev pub p_test : Bool → List Part → List ℕ → ℕ → Bool
p_test has_p parts xs p = not has_p || nat_eq (bit_xor p (part_sum in_p parts xs)) 0

abbrev pub q_test : Bool → List Part → List ℕ → ℕ → Bool
q_test has_q parts xs q = not has_q || nat_eq (bit_xor q (part_sum in_q parts xs)) 0

-- the test of a solution
abbrev pub solution_test : Bool → Bool → List Part → List ℕ → ℕ → ℕ → Bool
solution_test has_p has_q parts xs p q =
    cond (nat_eq (length parts) 1) (cond (list_any is_q parts) (q_test has_q parts xs q) (p_test has_p parts xs p)) (p_test has_p parts xs p && q_test has_q parts xs q)

q_lost-step : (t : Bool) (part : Part) (parts : List Part) (rest : Bool) → rest ≡ list_any is_q parts → ((t && is_q part) || rest) ≡ list_any is_q (cond t (part ∷ parts) parts)
q_lost-step true part parts rest e = ap (λ (b : Bool). is_q part || b) e
q_lost-step false part parts rest e = e

q_lost : (cells : List Cell) → is_q_lost cells ≡ list_any is_q (lost cells)
q_lost [] = refl
q_lost (cell ∷ cells) = q_lost-step cell.missing cell.part (lost cells) (is_q_lost cells) (q_lost cells)

pub solves_put : (cells : List Cell) (bytes xs : List ℕ) → length bytes ≡ length cells → AreBytes (lost cells) xs →
    solves cells (put cells bytes xs) ≡ solution_test (has_p cells) (has_q cells) (lost cells) xs (known_sum in_p cells bytes) (known_sum in_q cells bytes)
solves_put cells bytes xs e fit =
    let col = put cells bytes xs in
    let p = p_holds_put cells bytes xs e fit in
    let q = q_holds_put cells bytes xs e fit in
    ap (λ (n : ℕ). cond (nat_eq n 1) (cond (is_q_lost cells) (q_holds cells (put cells bytes xs)) (p_holds cells (put cells bytes xs))) (p_holds cells (put cells bytes xs) && q_holds cells (put cells bytes xs))) (sym (length_lost cells))
    ∙ ap (λ (b : Bool). cond (nat_eq (length (lost cells)) 1) (cond b (q_holds cells (put cells bytes xs)) (p_holds cells (put cells bytes xs))) (p_holds cells (put cells bytes xs) && q_holds cells (put cells bytes xs))) (q_lost cells)
    ∙ ap₂ (λ (a b : Bool). cond (nat_eq (length (lost cells)) 1) (cond (list_any is_q (lost cells)) b a) (a && b)) p q

-- two missing parts, in the form of `Found`
pair_found : (a b : Part) (x y p q : ℕ) → solution_test true true (a ∷ b ∷ []) (x ∷ y ∷ []) p q ≡ true → Found a (Some b) x y p q
pair_found a b x y p q test =
    let both = and_parts (p_test true (a ∷ b ∷ []) (x ∷ y ∷ []) p) (q_test true (a ∷ b ∷ []) (x ∷ y ∷ []) q) test in (
      ap (λ (z : ℕ). bit_xor p (bit_xor (in_p a x) z)) (sym (sum_zero (in_p b y))) ∙ eqb-true (bit_xor p (part_sum in_p (a ∷ b ∷ []) (x ∷ y ∷ []))) 0 both.0,
      ap (λ (z : ℕ). bit_xor q (bit_xor (in_q a x) z)) (sym (sum_zero (in_q b y))) ∙ eqb-true (bit_xor q (part_sum in_q (a ∷ b ∷ []) (x ∷ y ∷ []))) 0 both.1,
    )

lone_found : (has_p has_q : Bool) (a : Part) (x y p q : ℕ) → MayBeLost has_p has_q (a ∷ []) → solution_test has_p has_q (a ∷ []) (x ∷ []) p q ≡ true → Found a None x y p q
lone_found true has_q P x y p q m test = ap (bit_xor p) (sym (sum_zero x)) ∙ eqb-true (bit_xor p (bit_xor x 0)) 0 test
lone_found false has_q P x y p q m test = absurd (let h = m.p_there in omega arith)
lone_found true has_q (Block k) x y p q m test = ap (bit_xor p) (sym (sum_zero x)) ∙ eqb-true (bit_xor p (bit_xor x 0)) 0 test
lone_found false true (Block k) x y p q m test = absurd (false≢true (m.beside refl))
lone_found false false (Block k) x y p q m test = absurd (let h = m.few in omega arith)
lone_found has_p true Q x y p q m test = ap (bit_xor q) (sym (sum_zero x)) ∙ eqb-true (bit_xor q (bit_xor x 0)) 0 test
lone_found has_p false Q x y p q m test = absurd (let h = m.q_there in omega arith)

turned : (a b : Part) (x y p q : ℕ) → Found a (Some b) x y p q → Found b (Some a) y x p q
turned a b x y p q f =
    (ap (bit_xor p) (sum_commutes (in_p b y) (in_p a x)) ∙ f.0, ap (bit_xor q) (sum_commutes (in_q b y) (in_q a x)) ∙ f.1)

-- what the test says of one missing part, beside the other if there is one
abbrev pub FoundAt : Part → Option Part → ℕ → ℕ → ℕ → Type 0
FoundAt part other x p q = (y : ℕ) × (y < 256) × (x < 256) × Found part other x y p q

before_other : (has_p has_q : Bool) (part b : Part) (rest : List Part) (xs : List ℕ) (p q : ℕ) → MayBeLost has_p has_q (part ∷ b ∷ rest) → AreBytes (part ∷ b ∷ rest) xs →
    solution_test has_p has_q (part ∷ b ∷ rest) xs p q ≡ true → FoundAt part (Some b) (get_or xs 0 0) p q
before_other false true part b rest xs p q m fit test = absurd (false≢true (m.beside refl))
before_other false false part b rest xs p q m fit test = absurd (let h = m.few in omega arith)
before_other true false part b rest xs p q m fit test = absurd (let h = m.few in omega arith)
before_other true true part b (c ∷ cs) xs p q m fit test = absurd (let h = m.few in omega arith)
before_other true true part b [] [] p q m fit test = absurd fit
before_other true true part b [] (x ∷ []) p q m fit test = absurd fit.1
before_other true true part b [] (x ∷ y ∷ []) p q m fit test = (y, fit.1.0, fit.0, pair_found part b x y p q test)
before_other true true part b [] (x ∷ y ∷ z ∷ zs) p q m fit test = absurd fit.1.1

after_other : (has_p has_q : Bool) (a : Part) (rest : List Part) (part : Part) (after : List Part) (xs : List ℕ) (p q : ℕ) → MayBeLost has_p has_q (a ∷ (rest ++ (part ∷ after))) →
    AreBytes (a ∷ (rest ++ (part ∷ after))) xs → solution_test has_p has_q (a ∷ (rest ++ (part ∷ after))) xs p q ≡ true → FoundAt part (Some a) (get_or xs (suc (length rest)) 0) p q
after_other false true a rest part after xs p q m fit test = absurd (false≢true (m.beside refl))
after_other false false a rest part after xs p q m fit test = absurd (let h = m.few in omega arith)
after_other true false a rest part after xs p q m fit test = absurd (let h = m.few in omega (arith, length-append rest (part ∷ after)))
after_other true true a (c ∷ cs) part after xs p q m fit test = absurd (let h = m.few in omega (arith, length-append cs (part ∷ after)))
after_other true true a [] part (c ∷ cs) xs p q m fit test = absurd (let h = m.few in omega arith)
after_other true true a [] part [] [] p q m fit test = absurd fit
after_other true true a [] part [] (x ∷ []) p q m fit test = absurd fit.1
after_other true true a [] part [] (x ∷ y ∷ []) p q m fit test = (x, fit.0, fit.1.0, turned a part x y p q (pair_found a part x y p q test))
after_other true true a [] part [] (x ∷ y ∷ z ∷ zs) p q m fit test = absurd fit.1.1

alone : (has_p has_q : Bool) (part : Part) (xs : List ℕ) (p q : ℕ) → MayBeLost has_p has_q (part ∷ []) → AreBytes (part ∷ []) xs →
    solution_test has_p has_q (part ∷ []) xs p q ≡ true → FoundAt part None (get_or xs 0 0) p q
alone has_p has_q part [] p q m fit test = absurd fit
alone has_p has_q part (x ∷ []) p q m fit test = (0, omega arith, fit.0, lone_found has_p has_q part x 0 p q m test)
alone has_p has_q part (x ∷ y ∷ zs) p q m fit test = absurd fit.1

pub found_at : (has_p has_q : Bool) (before : List Part) (part : Part) (after : List Part) (xs : List ℕ) (p q : ℕ) → MayBeLost has_p has_q (before ++ (part ∷ after)) →
    AreBytes (before ++ (part ∷ after)) xs → solution_test has_p has_q (before ++ (part ∷ after)) xs p q ≡ true →
    FoundAt part (option_or (first before) (first after)) (get_or xs (length before) 0) p q
found_at has_p has_q [] part [] xs p q m fit test = alone has_p has_q part xs p q m fit test
found_at has_p has_q [] part (b ∷ rest) xs p q m fit test = before_other has_p has_q part b rest xs p q m fit test
found_at has_p has_q (a ∷ rest) part after xs p q m fit test = after_other has_p has_q a rest part after xs p q m fit test

-- parts that are missing together are apart
pair_apart : (a b : Part) → MayBeLost true true (a ∷ b ∷ []) → Apart a (Some b)
pair_apart P P m = absurd (let h = m.p_there in omega arith)
pair_apart P Q m = tt
pair_apart P (Block k) m = tt
pair_apart Q P m = tt
pair_apart Q Q m = absurd (let h = m.q_there in omega arith)
pair_apart Q (Block k) m = tt
pair_apart (Block k) P m = tt
pair_apart (Block k) Q m = tt
pair_apart (Block i) (Block j) m =
    let s = m.short refl in
    (s.0, s.1.0, eqb-false i j (IsDistinct-head nat_eq i (j ∷ []) (m.apart refl)).0)

turned_apart : (a b : Part) → Apart a (Some b) → Apart b (Some a)
turned_apart P P h = h
turned_apart P Q h = tt
turned_apart P (Block k) h = tt
turned_apart Q P h = tt
turned_apart Q Q h = h
turned_apart Q (Block k) h = tt
turned_apart (Block k) P h = tt
turned_apart (Block k) Q h = tt
turned_apart (Block i) (Block j) h = (h.1, h.0, λ e. h.2 (sym e))

alone_apart : (part : Part) → Apart part None
alone_apart P = tt
alone_apart Q = tt
alone_apart (Block k) = tt

apart_before : (has_p has_q : Bool) (part b : Part) (rest : List Part) → MayBeLost has_p has_q (part ∷ b ∷ rest) → Apart part (Some b)
apart_before false true part b rest m = absurd (false≢true (m.beside refl))
apart_before false false part b rest m = absurd (let h = m.few in omega arith)
apart_before true false part b rest m = absurd (let h = m.few in omega arith)
apart_before true true part b (c ∷ cs) m = absurd (let h = m.few in omega arith)
apart_before true true part b [] m = pair_apart part b m

apart_after : (has_p has_q : Bool) (a : Part) (rest : List Part) (part : Part) (after : List Part) → MayBeLost has_p has_q (a ∷ (rest ++ (part ∷ after))) → Apart part (Some a)
apart_after false true a rest part after m = absurd (false≢true (m.beside refl))
apart_after false false a rest part after m = absurd (let h = m.few in omega arith)
apart_after true false a rest part after m = absurd (let h = m.few in omega (arith, length-append rest (part ∷ after)))
apart_after true true a (c ∷ cs) part after m = absurd (let h = m.few in omega (arith, length-append cs (part ∷ after)))
apart_after true true a [] part (c ∷ cs) m = absurd (let h = m.few in omega arith)
apart_after true true a [] part [] m = turned_apart a part (pair_apart a part m)

pub apart_at : (has_p has_q : Bool) (before : List Part) (part : Part) (after : List Part) → MayBeLost has_p has_q (before ++ (part ∷ after)) → Apart part (option_or (first before) (first after))
apart_at has_p has_q [] part [] m = alone_apart part
apart_at has_p has_q [] part (b ∷ rest) m = apart_before has_p has_q part b rest m
apart_at has_p has_q (a ∷ rest) part after m = apart_after has_p has_q a rest part after m

-- there are bytes that pass the test
abbrev pub Passing : Bool → Bool → List Part → ℕ → ℕ → Type 0
Passing has_p has_q parts p q = (xs : List ℕ) × AreBytes parts xs × (solution_test has_p has_q parts xs p q ≡ true)

lone_passes : (has_p has_q : Bool) (a : Part) (p q : ℕ) → MayBeLost has_p has_q (a ∷ []) → p < 256 → q < 256 → Passing has_p has_q (a ∷ []) p q
lone_passes true has_q P p q m hp hq = ((p ∷ []), (hp, tt), eq-eqb (bit_xor p (bit_xor p 0)) 0 (twice p))
lone_passes false has_q P p q m hp hq = absurd (let h = m.p_there in omega arith)
lone_passes true has_q (Block k) p q m hp hq = ((p ∷ []), (hp, tt), eq-eqb (bit_xor p (bit_xor p 0)) 0 (twice p))
lone_passes false true (Block k) p q m hp hq = absurd (false≢true (m.beside refl))
lone_passes false false (Block k) p q m hp hq = absurd (let h = m.few in omega arith)
lone_passes has_p true Q p q m hp hq = ((q ∷ []), (hq, tt), eq-eqb (bit_xor q (bit_xor q 0)) 0 (twice q))
lone_passes has_p false Q p q m hp hq = absurd (let h = m.q_there in omega arith)

two_pass : (has_p has_q : Bool) (a b : Part) (rest : List Part) (p q : ℕ) → MayBeLost has_p has_q (a ∷ b ∷ rest) → p < 256 → q < 256 → Passing has_p has_q (a ∷ b ∷ rest) p q
two_pass false true a b rest p q m hp hq = absurd (false≢true (m.beside refl))
two_pass false false a b rest p q m hp hq = absurd (let h = m.few in omega arith)
two_pass true false a b rest p q m hp hq = absurd (let h = m.few in omega arith)
two_pass true true a b (c ∷ cs) p q m hp hq = absurd (let h = m.few in omega arith)
two_pass true true a b [] p q m hp hq =
    let s = two a b p q m hp hq in
    let by_p = s.2.by_p refl in
    let by_q = s.2.by_q refl in
    (s.0, s.1, and_from (p_test true (a ∷ b ∷ []) s.0 p) (q_test true (a ∷ b ∷ []) s.0 q) (eq-eqb (bit_xor p (part_sum in_p (a ∷ b ∷ []) s.0)) 0 by_p) (eq-eqb (bit_xor q (part_sum in_q (a ∷ b ∷ []) s.0)) 0 by_q))

pub some_pass : (has_p has_q : Bool) (parts : List Part) (p q : ℕ) → MayBeLost has_p has_q parts → 1 ≤ length parts → p < 256 → q < 256 → Passing has_p has_q parts p q
some_pass has_p has_q [] p q m one hp hq = absurd (omega arith)
some_pass has_p has_q (a ∷ []) p q m one hp hq = lone_passes has_p has_q a p q m hp hq
some_pass has_p has_q (a ∷ b ∷ rest) p q m one hp hq = two_pass has_p has_q a b rest p q m hp hq
