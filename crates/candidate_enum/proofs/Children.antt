-- The prefixes of one place more, in their order.
use Rattle.std.proofs.Common.{ℕ, ◌≡◌, ◌<◌, ◌≤◌, ◌+◌, ◌-◌, List, [], ◌∷◌, ◌++◌, length, take, drop, map, refl, sym, ap, ap₂, ◌∙◌, arith, zero, suc, Option, Some, None, get_or, length-append, zero-add, drop-cons}
use Rattle.std.specs.List.{range_with_len, sum_by}
use Rattle.std.proofs.lemmas.List.{take_more, get_or_append_left, get_or-append-add}
use Rattle.std.proofs.lemmas.List.Sums.{sum_by-append, sum_by-cons}
use Rattle.std.proofs.lemmas.List.FromFn.{get_or-map-range_with_len, length-map-range_with_len}
use Rattle.search_terms.specs.SlotLists.{fillings}
use Rattle.slot_math.specs.Ways.{ends, before, images_before, IsPlace}
use Rattle.slot_math.specs.declared.space.Space.{Space}
use Rattle.slot_math.proofs.Steps.{all_ends}
use Rattle.candidate_enum.specs.Survivors.{Question}
use Rattle.candidate_enum.specs.Tests.{tests}
use Rattle.candidate_enum.specs.Left.{index_of, children_before, children_tests}

pub fillings_length : (n : ℕ) → length (fillings n) ≡ n + 1
fillings_length n = length-append (map (λ i. Some i) (range_with_len 0 n)) (None ∷ [])
    ∙ ap (λ (k : ℕ). k + 1) (length-map-range_with_len (λ i. Some i) 0 n)

-- an image is the filling of its number, and nothing is the last
pub image_filling : (n i : ℕ) → i < n → get_or (fillings n) i None ≡ Some i
image_filling n i h =
    let long : length (map (λ i. Some i) (range_with_len 0 n)) ≡ n = length-map-range_with_len (λ i. Some i) 0 n in
    get_or_append_left (map (λ i. Some i) (range_with_len 0 n)) (None ∷ []) None i (omega arith)
    ∙ get_or-map-range_with_len (λ i. Some i) 0 n i i None h (zero-add i)

pub last_filling : (n : ℕ) → get_or (fillings n) n None ≡ None
last_filling n =
    let long : length (map (λ i. Some i) (range_with_len 0 n)) ≡ n = length-map-range_with_len (λ i. Some i) 0 n in
    ap (λ (k : ℕ). get_or (fillings n) k None) (let e : n ≡ length (map (λ i. Some i) (range_with_len 0 n)) + 0 = omega arith in e)
    ∙ get_or-append-add (map (λ i. Some i) (range_with_len 0 n)) (None ∷ []) 0 None

pub filling_of : (n : ℕ) (y : Option ℕ) → IsPlace n y → get_or (fillings n) (index_of n y) None ≡ y
filling_of n None h = last_filling n
filling_of n (Some i) h = image_filling n i h

pub index_within : (n : ℕ) (y : Option ℕ) → IsPlace n y → index_of n y ≤ n
index_within n None h = omega arith
index_within n (Some i) h = omega arith

-- the lists of one more of them
pub before_step : (s : Space) (p : List (Option ℕ)) (j : ℕ) (y : Option ℕ) → j ≤ s.images → get_or (fillings s.images) j None ≡ y →
    children_before s p (j + 1) ≡ children_before s p j + length (ends s (p ++ y ∷ []))
unfolding children_before
before_step s p j y h e =
    let long : length (fillings s.images) ≡ s.images + 1 = fillings_length s.images in
    ap (sum_by (λ x. length (ends s (p ++ x ∷ [])))) (take_more (fillings s.images) j None (omega arith))
    ∙ sum_by-append (λ x. length (ends s (p ++ x ∷ []))) (take j (fillings s.images)) (get_or (fillings s.images) j None ∷ [])
    ∙ ap (λ (x : Option ℕ). children_before s p j + (0 + length (ends s (p ++ x ∷ [])))) e
    ∙ ap (λ (k : ℕ). children_before s p j + k) (zero-add (length (ends s (p ++ y ∷ []))))

pub none_before_first : (s : Space) (p : List (Option ℕ)) → children_before s p 0 ≡ 0
unfolding children_before
none_before_first s p = refl

images_are : (s : Space) (p : List (Option ℕ)) (j : ℕ) → j ≤ s.images → images_before s p j ≡ children_before s p j
unfolding images_before children_before
images_are s p zero h = refl
images_are s p (suc j) h =
    ap (λ (k : ℕ). k + length (ends s (p ++ Some j ∷ []))) (images_are s p j (omega arith))
    ∙ sym (before_step s p j (Some j) (omega arith) (image_filling s.images j (omega arith)))
    ∙ ap (children_before s p) (let e : j + 1 ≡ suc j = omega arith in e)

-- what stands before a place
pub before_is : (s : Space) (p : List (Option ℕ)) (y : Option ℕ) → IsPlace s.images y → before s p y ≡ children_before s p (index_of s.images y)
before_is s p None h = images_are s p s.images (omega arith)
before_is s p (Some i) h = images_are s p i (omega arith)

-- all of them
pub before_all : (s : Space) (p : List (Option ℕ)) → length p < s.members → children_before s p (s.images + 1) ≡ length (ends s p)
before_all s p short =
    before_step s p s.images None (omega arith) (last_filling s.images)
    ∙ ap (λ (k : ℕ). k + length (ends s (p ++ None ∷ []))) (sym (images_are s p s.images (omega arith)))
    ∙ sym (all_ends s p short)

-- the tests of one more of them
pub tests_step : (q : Question) (p : List (Option ℕ)) (j : ℕ) (y : Option ℕ) → j ≤ q.space.images → get_or (fillings q.space.images) j None ≡ y →
    children_tests q p j ≡ tests q (q.space.members - suc (length p)) (p ++ y ∷ []) + children_tests q p (j + 1)
unfolding children_tests
tests_step q p j y h e =
    let long : length (fillings q.space.images) ≡ q.space.images + 1 = fillings_length q.space.images in
    let f : Option ℕ → ℕ = λ x. tests q (q.space.members - suc (length p)) (p ++ x ∷ []) in
    ap (sum_by f) (drop-cons (fillings q.space.images) j None (omega arith))
    ∙ sum_by-cons f (get_or (fillings q.space.images) j None) (drop (suc j) (fillings q.space.images))
    ∙ ap₂ (λ (x : Option ℕ) (k : ℕ). f x + sum_by f (drop k (fillings q.space.images))) e (let g : suc j ≡ j + 1 = omega arith in g)

pub tests_done : (q : Question) (p : List (Option ℕ)) → children_tests q p (q.space.images + 1) ≡ 0
unfolding children_tests
tests_done q p = ap (sum_by (λ x. tests q (q.space.members - suc (length p)) (p ++ x ∷ []))) (dropped (fillings q.space.images) (q.space.images + 1) (fillings_length q.space.images))
  where
    dropped : {A : Type 0} (xs : List A) (n : ℕ) → length xs ≡ n → drop n xs ≡ []
    dropped [] zero e = refl
    dropped [] (suc n) e = refl
    dropped (x ∷ xs) zero e = absurd (omega arith)
    dropped (x ∷ xs) (suc n) e = dropped xs n (omega arith)

pub tests_all : (q : Question) (p : List (Option ℕ)) → children_tests q p 0 ≡ sum_by (λ y. tests q (q.space.members - suc (length p)) (p ++ y ∷ [])) (fillings q.space.images)
unfolding children_tests
tests_all q p = refl
