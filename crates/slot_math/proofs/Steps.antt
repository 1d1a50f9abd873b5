-- The ends of a prefix, by what stands in the next place.
use Rattle.std.proofs.Common.{ℕ, ◌≡◌, ◌<◌, ◌≤◌, ◌+◌, ◌-◌, List, [], ◌∷◌, ◌++◌, length, map, filter, refl, sym, ap, ap₂, ◌∙◌, arith, zero, suc, Bool, cond, Option, Some, None, slice_get, option_map, append_assoc, add_assoc, zero-add, add-zero, length-append}
use Rattle.std.specs.List.{flat_map, range_with_len}
use Rattle.search_terms.specs.SlotLists.{fillings, all_lists, is_kept}
use Rattle.slot_math.specs.Ways.{ends, images_before, before, IsPlace}
use Rattle.slot_math.specs.declared.space.Space.{Space}
use Rattle.slot_math.proofs.Sums.{passing, passing-flat, length-filter, total_of, total-append}
use Rattle.slot_math.proofs.Nested.{begins_here, begins_later}

-- two tests that agree keep the same
pub filter_same : {A : Type 0} (f g : A → Bool) (xs : List A) → ((x : A) → f x ≡ g x) → filter f xs ≡ filter g xs
filter_same f g [] e = refl
filter_same {A} f g (x ∷ xs) e =
    ap (λ (b : Bool). cond b (x ∷ filter f xs) (filter f xs)) (e x)
    ∙ ap (λ (t : List A). cond (g x) (x ∷ t) t) (filter_same f g xs e)

-- the ends after one more place, of the lists of one place fewer
pub ends_more : (s : Space) (p : List (Option ℕ)) (q : Option ℕ) (m : ℕ) → length p + suc m ≡ s.members →
    ends s (p ++ q ∷ []) ≡ filter (λ l. is_kept s.low s.high (p ++ q ∷ l)) (all_lists s.images m)
unfolding ends
ends_more s p q m e =
    let long : length (p ++ q ∷ []) ≡ length p + 1 = length-append p (q ∷ []) in
    let left : s.members - length (p ++ q ∷ []) ≡ m = omega arith in
    ap (λ (k : ℕ). filter (λ l. is_kept s.low s.high ((p ++ q ∷ []) ++ l)) (all_lists s.images k)) left
    ∙ filter_same (λ l. is_kept s.low s.high ((p ++ q ∷ []) ++ l)) (λ l. is_kept s.low s.high (p ++ q ∷ l)) (all_lists s.images m)
    (λ l. ap (is_kept s.low s.high) (append_assoc p (q ∷ []) l))

-- a number of images, one by one from the first
range_last : (a k : ℕ) → range_with_len a (suc k) ≡ range_with_len a k ++ (a + k) ∷ []
range_last a zero = ap (λ (x : ℕ). x ∷ []) (sym (add-zero a))
range_last a (suc k) = ap (λ (t : List ℕ). a ∷ t) (range_last (a + 1) k ∙ ap (λ (x : ℕ). range_with_len (a + 1) k ++ x ∷ []) (let e : a + 1 + k ≡ a + suc k = omega arith in e))

range_split : (a k m : ℕ) → range_with_len a (k + m) ≡ range_with_len a k ++ range_with_len (a + k) m
range_split a zero m = ap (range_with_len a) (zero-add m) ∙ ap (λ (x : ℕ). range_with_len x m) (sym (add-zero a))
range_split a (suc k) m =
    ap (range_with_len a) (let e : suc k + m ≡ suc (k + m) = omega arith in e)
    ∙ ap (λ (t : List ℕ). a ∷ t) (range_split (a + 1) k m ∙ ap (λ (x : ℕ). range_with_len (a + 1) k ++ range_with_len x m) (let e : a + 1 + k ≡ a + suc k = omega arith in e))

map_append : {A B : Type 0} (f : A → B) (xs ys : List A) → map f (xs ++ ys) ≡ map f xs ++ map f ys
map_append f [] ys = refl
map_append {A} {B} f (x ∷ xs) ys = ap (λ (t : List B). f x ∷ t) (map_append f xs ys)

abbrev images : ℕ → List (Option ℕ)
images k = map (λ i. Some i) (range_with_len 0 k)

-- the images below k + 1, with k in front of what comes later
images_more : (k : ℕ) (ps : List (Option ℕ)) → images (suc k) ++ ps ≡ images k ++ (Some k ∷ ps)
images_more k ps =
    ap (λ (t : List ℕ). map (λ i. Some i) t ++ ps) (range_last 0 k)
    ∙ ap (λ (t : List (Option ℕ)). t ++ ps) (map_append (λ i. Some i) (range_with_len 0 k) ((0 + k) ∷ []) ∙ ap (λ (x : ℕ). images k ++ Some x ∷ []) (zero-add k))
    ∙ append_assoc (images k) (Some k ∷ []) ps

-- what a place may hold, from image k on
abbrev later : ℕ → ℕ → List (Option ℕ)
later n k = map (λ i. Some i) (range_with_len (0 + k) (n - k)) ++ None ∷ []

fillings_from : (n k : ℕ) → k ≤ n → fillings n ≡ images k ++ later n k
fillings_from n k h =
    ap (λ (x : ℕ). map (λ i. Some i) (range_with_len 0 x) ++ None ∷ []) (let e : n ≡ k + (n - k) = omega arith in e)
    ∙ ap (λ (t : List ℕ). map (λ i. Some i) t ++ None ∷ []) (range_split 0 k (n - k))
    ∙ ap (λ (t : List (Option ℕ)). t ++ None ∷ []) (map_append (λ i. Some i) (range_with_len 0 k) (range_with_len (0 + k) (n - k)))
    ∙ append_assoc (images k) (map (λ i. Some i) (range_with_len (0 + k) (n - k))) (None ∷ [])

-- the images below k, passed over
skip : (s : Space) (p : List (Option ℕ)) (m k : ℕ) (ps : List (Option ℕ)) (r : ℕ) → length p + suc m ≡ s.members →
    slice_get (filter (λ l. is_kept s.low s.high (p ++ l)) (flat_map (λ q. map (λ l. q ∷ l) (all_lists s.images m)) (images k ++ ps))) (images_before s p k + r)
    ≡ slice_get (filter (λ l. is_kept s.low s.high (p ++ l)) (flat_map (λ q. map (λ l. q ∷ l) (all_lists s.images m)) ps)) r
unfolding images_before
skip s p m zero ps r e = ap (slice_get (filter (λ l. is_kept s.low s.high (p ++ l)) (flat_map (λ q. map (λ l. q ∷ l) (all_lists s.images m)) ps))) (zero-add r)
skip s p m (suc k) ps r e =
    let f = λ (l : List (Option ℕ)). is_kept s.low s.high (p ++ l) in
    let ls = all_lists s.images m in
    let g = λ (q : Option ℕ). map (λ l. q ∷ l) ls in
    let c : length (ends s (p ++ Some k ∷ [])) ≡ passing (λ l. is_kept s.low s.high (p ++ Some k ∷ l)) (all_lists s.images m)
    = ap length (ends_more s p (Some k) m e) ∙ length-filter (λ l. f (Some k ∷ l)) ls in
    ap (λ (t : List (Option ℕ)). slice_get (filter f (flat_map g t)) (images_before s p k + length (ends s (p ++ Some k ∷ [])) + r)) (images_more k ps)
    ∙ ap (slice_get (filter f (flat_map g (images k ++ (Some k ∷ ps))))) (add_assoc (images_before s p k) (length (ends s (p ++ Some k ∷ []))) r)
    ∙ skip s p m k (Some k ∷ ps) (length (ends s (p ++ Some k ∷ [])) + r) e
    ∙ begins_later f ls (Some k) ps (length (ends s (p ++ Some k ∷ [])) + r) (omega arith)
    ∙ ap (slice_get (filter f (flat_map g ps))) (let d : length (ends s (p ++ Some k ∷ [])) + r - passing (λ l. is_kept s.low s.high (p ++ Some k ∷ l)) (all_lists s.images m) ≡ r = omega arith in d)

-- the r-th of the ends that begin with q, where the images below k come before q
at_split : (s : Space) (p : List (Option ℕ)) (q : Option ℕ) (r m k : ℕ) (ps : List (Option ℕ)) → length p + suc m ≡ s.members → fillings s.images ≡ images k ++ (q ∷ ps) → r < length (ends s (p ++ q ∷ [])) →
    slice_get (ends s p) (images_before s p k + r) ≡ option_map (λ l. q ∷ l) (slice_get (ends s (p ++ q ∷ [])) r)
unfolding ends all_lists
at_split s p q r m k ps e split h =
    let f = λ (l : List (Option ℕ)). is_kept s.low s.high (p ++ l) in
    let ls = all_lists s.images m in
    let g = λ (x : Option ℕ). map (λ l. x ∷ l) ls in
    let left : s.members - length p ≡ suc m = omega arith in
    let c : length (ends s (p ++ q ∷ [])) ≡ passing (λ l. is_kept s.low s.high (p ++ q ∷ l)) (all_lists s.images m)
    = ap length (ends_more s p q m e) ∙ length-filter (λ l. f (q ∷ l)) ls in
    ap (λ (n : ℕ). slice_get (filter f (all_lists s.images n)) (images_before s p k + r)) left
    ∙ ap (λ (t : List (Option ℕ)). slice_get (filter f (flat_map g t)) (images_before s p k + r)) split
    ∙ skip s p m k (q ∷ ps) r e
    ∙ begins_here f ls q ps r (omega arith)
    ∙ ap (λ (t : List (List (Option ℕ))). option_map (λ l. q ∷ l) (slice_get t r)) (sym (ends_more s p q m e))

-- the fillings from image k on begin with it
later_is : (n k : ℕ) → k < n → later n k ≡ Some k ∷ later n (k + 1)
later_is n k h = ap (λ (m : ℕ). map (λ i. Some i) (range_with_len (0 + k) m) ++ None ∷ []) (let e : n - k ≡ suc (n - (k + 1)) = omega arith in e)
    ∙ ap (λ (x : ℕ). Some x ∷ (map (λ i. Some i) (range_with_len (x + 1) (n - (k + 1))) ++ None ∷ [])) (zero-add k)
    ∙ ap (λ (x : ℕ). Some k ∷ (map (λ i. Some i) (range_with_len x (n - (k + 1))) ++ None ∷ [])) (sym (zero-add (k + 1)))

-- the r-th of the ends that begin with q
pub end_at : (s : Space) (p : List (Option ℕ)) (q : Option ℕ) (r : ℕ) → length p < s.members → IsPlace s.images q → r < length (ends s (p ++ q ∷ [])) →
    slice_get (ends s p) (before s p q + r) ≡ option_map (λ l. q ∷ l) (slice_get (ends s (p ++ q ∷ [])) r)
end_at s p (Some k) r short ok h =
    at_split s p (Some k) r (s.members - suc (length p)) k (later s.images (k + 1)) (omega arith)
    (fillings_from s.images k (omega arith) ∙ ap (λ (t : List (Option ℕ)). images k ++ t) (later_is s.images k ok)) h
end_at s p None r short ok h = at_split s p None r (s.members - suc (length p)) s.images [] (omega arith) refl h

-- the ends that begin with the images below k, as a sum
before_total : (s : Space) (p : List (Option ℕ)) (m k : ℕ) → length p + suc m ≡ s.members →
    total_of (λ q. passing (λ l. is_kept s.low s.high (p ++ q ∷ l)) (all_lists s.images m)) (images k) ≡ images_before s p k
unfolding images_before total_of
before_total s p m zero e = refl
before_total s p m (suc k) e =
    let g = λ (q : Option ℕ). passing (λ l. is_kept s.low s.high (p ++ q ∷ l)) (all_lists s.images m) in
    let c : length (ends s (p ++ Some k ∷ [])) ≡ passing (λ l. is_kept s.low s.high (p ++ Some k ∷ l)) (all_lists s.images m)
    = ap length (ends_more s p (Some k) m e) ∙ length-filter (λ l. is_kept s.low s.high (p ++ Some k ∷ l)) (all_lists s.images m) in
    ap (λ (t : List ℕ). total_of g (map (λ i. Some i) t)) (range_last 0 k)
    ∙ ap (total_of g) (map_append (λ i. Some i) (range_with_len 0 k) ((0 + k) ∷ []) ∙ ap (λ (x : ℕ). images k ++ Some x ∷ []) (zero-add k))
    ∙ total-append g (images k) (Some k ∷ [])
    ∙ ap₂ (λ (a b : ℕ). a + b) (before_total s p m k e) (add-zero (g (Some k)) ∙ sym c)

-- all ends: those that begin with an image, and those that begin with an empty place
pub all_ends : (s : Space) (p : List (Option ℕ)) → length p < s.members →
    length (ends s p) ≡ images_before s p s.images + length (ends s (p ++ None ∷ []))
unfolding ends all_lists total_of
all_ends s p short =
    let m = s.members - suc (length p) in
    let e : length p + suc (s.members - suc (length p)) ≡ s.members = omega arith in
    let f = λ (l : List (Option ℕ)). is_kept s.low s.high (p ++ l) in
    let g = λ (q : Option ℕ). passing (λ l. is_kept s.low s.high (p ++ q ∷ l)) (all_lists s.images m) in
    let left : s.members - length p ≡ suc (s.members - suc (length p)) = omega arith in
    ap (λ (n : ℕ). length (filter f (all_lists s.images n))) left
    ∙ length-filter f (all_lists s.images (suc m))
    ∙ passing-flat f (all_lists s.images m) (fillings s.images)
    ∙ total-append g (images s.images) (None ∷ [])
    ∙ ap₂ (λ (a b : ℕ). a + b) (before_total s p m s.images e)
    (add-zero (g None) ∙ sym (ap length (ends_more s p None m e) ∙ length-filter (λ l. f (None ∷ l)) (all_lists s.images m)))

before_grows : (s : Space) (p : List (Option ℕ)) (k d : ℕ) → images_before s p k ≤ images_before s p (k + d)
unfolding images_before
before_grows s p k zero = let e : images_before s p k ≡ images_before s p (k + 0) = ap (images_before s p) (sym (add-zero k)) in omega arith
before_grows s p k (suc d) =
    let h : images_before s p k ≤ images_before s p (k + d) = before_grows s p k d in
    let e : images_before s p (k + suc d) ≡ images_before s p (suc (k + d)) = ap (images_before s p) (let q : k + suc d ≡ suc (k + d) = omega arith in q) in
    let f : images_before s p (suc (k + d)) ≡ images_before s p (k + d) + length (ends s (p ++ Some (k + d) ∷ [])) = refl in
    omega arith

pub one_more_image : (s : Space) (p : List (Option ℕ)) (k : ℕ) → images_before s p (k + 1) ≡ images_before s p k + length (ends s (p ++ Some k ∷ []))
unfolding images_before
one_more_image s p k = ap (images_before s p) (let e : k + 1 ≡ suc k = omega arith in e)

-- what comes before a place and what goes on from it is no more than all
pub part_of_ends : (s : Space) (p : List (Option ℕ)) (q : Option ℕ) → length p < s.members → IsPlace s.images q →
    before s p q + length (ends s (p ++ q ∷ [])) ≤ length (ends s p)
part_of_ends s p None short ok = let a : length (ends s p) ≡ images_before s p s.images + length (ends s (p ++ None ∷ [])) = all_ends s p short in omega arith
part_of_ends s p (Some k) short ok =
    let a : length (ends s p) ≡ images_before s p s.images + length (ends s (p ++ None ∷ [])) = all_ends s p short in
    let b : images_before s p (k + 1) ≡ images_before s p k + length (ends s (p ++ Some k ∷ [])) = one_more_image s p k in
    let c : images_before s p (k + 1) ≤ images_before s p (k + 1 + (s.images - (k + 1))) = before_grows s p (k + 1) (s.images - (k + 1)) in
    let d : images_before s p (k + 1 + (s.images - (k + 1))) ≡ images_before s p s.images = ap (images_before s p) (let h : k + 1 + (s.images - (k + 1)) ≡ s.images = omega arith in h) in
    omega arith
