-- The lists that begin with a prefix.
use Rattle.std.proofs.Common.{ℕ, ◌≡◌, ◌<◌, ◌+◌, ◌*◌, List, [], ◌∷◌, ◌++◌, length, map, refl, sym, ap, ap₂, ◌∙◌, arith, suc, Bool, true, false, ◌&&◌, ◌==◌, cond, zero-add, add-zero, inl, inr, Option, Some, None, ◌⊎◌}
use Rattle.std.specs.List.{range_with_len}
use Rattle.std.proofs.Math.Nat.{mul-zero}
use Rattle.std.proofs.lemmas.Bool.{eq-eqb, ne_eqb, cases_eq}
use Rattle.search_terms.specs.SlotLists.{fillings, all_lists}
use Rattle.slot_math.specs.Space.{same_place, begins}
use Rattle.slot_math.specs.Ways.{AllImages}
use Rattle.slot_math.proofs.Sums.{total_of, passing, passing-flat, passing_same, passing_none, total-append, total-map, total_range_same, drop_one, total_const}

and_true : (b : Bool) → (b && true) ≡ b
and_true true = refl
and_true false = refl

and_false : (b : Bool) → (b && false) ≡ false
and_false true = refl
and_false false = refl

-- a sum with one number that counts
single : (w j n : ℕ) → j < n → total_of (λ i. cond (i == j) w 0) (range_with_len 0 n) ≡ w
single w j n h =
    let all : total_of (λ i. cond (i == j) 0 (cond (i == j) w 0)) (range_with_len 0 n) + cond (j == j) w 0 ≡ total_of (λ i. cond (i == j) w 0) (range_with_len 0 n)
    = drop_one (λ i. cond (i == j) w 0) j 0 n (omega arith) (omega arith) in
    let none : total_of (λ i. cond (i == j) 0 (cond (i == j) w 0)) (range_with_len 0 n) ≡ n * 0
    = total_range_same (λ i. cond (i == j) 0 (cond (i == j) w 0)) (λ i. 0) 0 n (λ i lo hi. both (i == j)) ∙ total_const 0 0 n in
    let here : cond (j == j) w 0 ≡ w = ap (λ (b : Bool). cond b w 0) (eq-eqb j j refl) in
    sym all ∙ ap₂ (λ (x y : ℕ). x + y) (none ∙ mul-zero n) here ∙ zero-add w
  where
    both : (b : Bool) → (let l : ℕ = cond b 0 (cond b w 0) in l ≡ 0)
    both true = refl
    both false = refl

-- the lists with q first, of which those that begin with x are asked for
first_is : (f : List (Option ℕ) → Bool) (x q : Option ℕ) (ps : List (Option ℕ)) (ls : List (List (Option ℕ))) →
    same_place x q ≡ true → passing (λ l. f (q ∷ l) && begins (x ∷ ps) (q ∷ l)) ls ≡ passing (λ l. f (q ∷ l) && begins ps l) ls
unfolding begins
first_is f x q ps ls e = passing_same (λ l. f (q ∷ l) && (same_place x q && begins ps l)) (λ l. f (q ∷ l) && begins ps l) ls (λ l. ap (λ (b : Bool). f (q ∷ l) && (b && begins ps l)) e)

first_is_not : (f : List (Option ℕ) → Bool) (x q : Option ℕ) (ps : List (Option ℕ)) (ls : List (List (Option ℕ))) →
    same_place x q ≡ false → passing (λ l. f (q ∷ l) && begins (x ∷ ps) (q ∷ l)) ls ≡ 0
unfolding begins
first_is_not f x q ps ls e =
    passing_same (λ l. f (q ∷ l) && (same_place x q && begins ps l)) (λ l. false) ls (λ l. ap (λ (b : Bool). f (q ∷ l) && (b && begins ps l)) e ∙ and_false (f (q ∷ l)))
    ∙ passing_none ls

-- of all places, one counts
one_first : (n : ℕ) (f : List (Option ℕ) → Bool) (x : Option ℕ) (ps : List (Option ℕ)) (ls : List (List (Option ℕ))) → AllImages n (x ∷ []) →
    total_of (λ q. passing (λ l. f (q ∷ l) && begins (x ∷ ps) (q ∷ l)) ls) (fillings n) ≡ passing (λ l. f (x ∷ l) && begins ps l) ls
unfolding total_of same_place
one_first n f None ps ls ok =
    let g : Option ℕ → ℕ = λ q. passing (λ l. f (q ∷ l) && begins (None ∷ ps) (q ∷ l)) ls in
    total-append g (map (λ i. Some i) (range_with_len 0 n)) (None ∷ [])
    ∙ ap₂ (λ (a b : ℕ). a + b)
    (total-map g (λ i. Some i) (range_with_len 0 n) ∙ total_range_same (λ i. g (Some i)) (λ i. 0) 0 n (λ i lo hi. first_is_not f None (Some i) ps ls refl) ∙ total_const 0 0 n ∙ mul-zero n)
    (add-zero (g None) ∙ first_is f None None ps ls refl)
    ∙ zero-add (passing (λ l. f (None ∷ l) && begins ps l) ls)
one_first n f (Some i) ps ls ok =
    let g : Option ℕ → ℕ = λ q. passing (λ l. f (q ∷ l) && begins (Some i ∷ ps) (q ∷ l)) ls in
    let w = passing (λ l. f (Some i ∷ l) && begins ps l) ls in
    total-append g (map (λ j. Some j) (range_with_len 0 n)) (None ∷ [])
    ∙ ap₂ (λ (a b : ℕ). a + b)
    (total-map g (λ j. Some j) (range_with_len 0 n) ∙ total_range_same (λ j. g (Some j)) (λ j. cond (j == i) w 0) 0 n (λ j lo hi. at_image j (cases_eq j i)) ∙ single w i n ok.0)
    (add-zero (g None) ∙ first_is_not f (Some i) None ps ls refl)
    ∙ add-zero w
  where
    at_image : (j : ℕ) → (j ≡ i) ⊎ (j ≡ i → ⊥) → passing (λ l. f (Some j ∷ l) && begins (Some i ∷ ps) (Some j ∷ l)) ls ≡ cond (j == i) (passing (λ l. f (Some i ∷ l) && begins ps l) ls) 0
    at_image j (inl e) = ap (λ (k : ℕ). passing (λ l. f (Some k ∷ l) && begins (Some i ∷ ps) (Some k ∷ l)) ls) e ∙ first_is f (Some i) (Some i) ps ls (eq-eqb i i refl)
        ∙ sym (ap (λ (b : Bool). cond b (passing (λ l. f (Some i ∷ l) && begins ps l) ls) 0) (eq-eqb j i e))
    at_image j (inr ne) = first_is_not f (Some i) (Some j) ps ls (ne_eqb j i ne) ∙ sym (ap (λ (b : Bool). cond b (passing (λ l. f (Some i ∷ l) && begins ps l) ls) 0) (ne_eqb j i ne))

-- the lists that begin with p are those of the places after it
pub passing_begins : (n m : ℕ) (p : List (Option ℕ)) (f : List (Option ℕ) → Bool) → AllImages n p →
    passing (λ l. f l && begins p l) (all_lists n (length p + m)) ≡ passing (λ l. f (p ++ l)) (all_lists n m)
unfolding begins all_lists
passing_begins n m [] f ok = ap (λ (k : ℕ). passing (λ l. f l && true) (all_lists n k)) (zero-add m) ∙ passing_same (λ l. f l && true) f (all_lists n m) (λ l. and_true (f l))
passing_begins n m (x ∷ ps) f ok =
    ap (λ (k : ℕ). passing (λ l. f l && begins (x ∷ ps) l) (all_lists n k)) (let e : suc (length ps) + m ≡ suc (length ps + m) = omega arith in e)
    ∙ passing-flat (λ l. f l && begins (x ∷ ps) l) (all_lists n (length ps + m)) (fillings n)
    ∙ one_first n f x ps (all_lists n (length ps + m)) (head_ok x ok)
    ∙ passing_begins n m ps (λ l. f (x ∷ l)) (tail_ok x ok)
  where
    head_ok : (y : Option ℕ) → AllImages n (y ∷ ps) → AllImages n (y ∷ [])
    head_ok None a = tt
    head_ok (Some i) a = (a.0, tt)

    tail_ok : (y : Option ℕ) → AllImages n (y ∷ ps) → AllImages n ps
    tail_ok None a = a
    tail_ok (Some i) a = a.1
