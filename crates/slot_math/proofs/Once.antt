-- No list stands twice in a space.
use Rattle.std.proofs.Common.{rules, ℕ, ◌≡◌, ◌≢◌, ◌<◌, ◌+◌, List, [], ◌∷◌, ◌++◌, map, filter, refl, ap, arith, zero, suc, Bool, true, false, cond, Option, Some, None, slice_get, get_or, drop}
use Rattle.std.specs.List.{flat_map, range_with_len, AllByRecursion}
use Rattle.search_terms.specs.SlotLists.{fillings, all_lists, is_kept, slot_lists}
use Rattle.slot_math.proofs.Listed.{each_append, each_map, each_flat, each_more, each_kept, each_get}

-- x is none of these
abbrev Apart : {A : Type 0} → A → List A → Type 0
Apart x xs = AllByRecursion (λ y. x ≢ y) xs

-- no element stands twice
unfoldable pub Once : {A : Type 0} → List A → Type 0
Once [] = Unit {0}
Once (x ∷ xs) = AllByRecursion (λ y. x ≢ y) xs × Once xs

once_append : {A : Type 0} (xs ys : List A) → Once xs → Once ys → AllByRecursion (λ x. Apart x ys) xs → Once (xs ++ ys)
unfolding Once
once_append [] ys a b c = b
once_append (x ∷ xs) ys a b c = (each_append (λ y. x ≢ y) xs ys a.0 c.0, once_append xs ys a.1 b c.1)

once_map : {A B : Type 0} (f : A → B) → ((x y : A) → f x ≡ f y → x ≡ y) → (xs : List A) → Once xs → Once (map f xs)
unfolding Once
once_map f h [] a = tt
once_map f h (x ∷ xs) a = (each_map (λ y. f x ≢ y) f xs (each_more (λ y. x ≢ y) (λ y. f x ≢ f y) xs (λ y ne e. ne (h x y e)) a.0), once_map f h xs a.1)

once_filter : {A : Type 0} (f : A → Bool) (xs : List A) → Once xs → Once (filter f xs)
unfolding Once
once_filter f [] a = tt
once_filter {A} f (x ∷ xs) a = elim (f x) as (λ t. Once (cond t (x ∷ filter f xs) (filter f xs))) [
  | true ↦ (each_more (λ y. (x ≢ y) × (f y ≡ true)) (λ y. x ≢ y) (filter f xs) (λ y h. h.0) (each_kept (λ y. x ≢ y) f xs a.0), once_filter f xs a.1)
  | false ↦ once_filter f xs a.1
]

range_apart : (j a m : ℕ) → j < a → Apart j (range_with_len a m)
range_apart j a zero h = tt
range_apart j a (suc m) h = ((λ e. omega arith), range_apart j (a + 1) m (omega arith))

range_once : (a m : ℕ) → Once (range_with_len a m)
unfolding Once
range_once a zero = tt
range_once a (suc m) = (range_apart a (a + 1) m (omega arith), range_once (a + 1) m)

some_inside : (x y : ℕ) → (let l : Option ℕ = Some x in let r : Option ℕ = Some y in l ≡ r) → x ≡ y
some_inside x y e = search rules

fillings_once : (n : ℕ) → Once (fillings n)
unfolding Once
fillings_once n =
    once_append (map (λ i. Some i) (range_with_len 0 n)) (None ∷ [])
    (once_map (λ i. Some i) some_inside (range_with_len 0 n) (range_once 0 n)) (tt, tt)
    (each_map (λ q. Apart q (None ∷ [])) (λ i. Some i) (range_with_len 0 n) (each_number (range_with_len 0 n)))
  where
    not_none : (i : ℕ) → (let l : Option ℕ = Some i in l ≢ None)
    not_none i e = search rules

    each_number : (xs : List ℕ) → AllByRecursion (λ i. Apart (Some i) (None ∷ [])) xs
    each_number [] = tt
    each_number (x ∷ xs) = ((not_none x, tt), each_number xs)

-- two lists that begin apart
begin_apart : {A : Type 0} (p : A) (l : List A) (ls : List (List A)) (ps : List A) → Apart p ps → Apart (p ∷ l) (flat_map (λ q. map (λ l. q ∷ l) ls) ps)
begin_apart {A} p l ls ps a =
    each_flat (λ m. p ∷ l ≢ m) (λ q. p ≢ q) (λ q. map (λ l. q ∷ l) ls) ps
    (λ q ne. each_map (λ m. p ∷ l ≢ m) (λ m. q ∷ m) ls (each_any (λ m. p ∷ l ≢ q ∷ m) (λ m e. ne (ap (λ (x : List A). get_or x 0 p) e)) ls)) a
  where
    each_any : {B : Type 0} (P : B → Type 0) → ((x : B) → P x) → (xs : List B) → AllByRecursion P xs
    each_any P h [] = tt
    each_any P h (x ∷ xs) = (h x, each_any P h xs)

flat_once : {A : Type 0} (ls : List (List A)) (ps : List A) → Once ls → Once ps → Once (flat_map (λ p. map (λ l. p ∷ l) ls) ps)
unfolding Once
flat_once ls [] a b = tt
flat_once {A} ls (p ∷ ps) a b =
    once_append (map (λ l. p ∷ l) ls) (flat_map (λ q. map (λ l. q ∷ l) ls) ps)
    (once_map (λ l. p ∷ l) (λ x y e. ap (λ (t : List A). drop 1 t) e) ls a)
    (flat_once ls ps a b.1)
    (each_map (λ m. Apart m (flat_map (λ q. map (λ l. q ∷ l) ls) ps)) (λ l. p ∷ l) ls (each_any (λ l. Apart (p ∷ l) (flat_map (λ q. map (λ l. q ∷ l) ls) ps)) (λ l. begin_apart p l ls ps b.0) ls))
  where
    each_any : {B : Type 0} (P : B → Type 0) → ((x : B) → P x) → (xs : List B) → AllByRecursion P xs
    each_any P h [] = tt
    each_any P h (x ∷ xs) = (h x, each_any P h xs)

all_lists_once : (n m : ℕ) → Once (all_lists n m)
unfolding Once all_lists
all_lists_once n zero = (tt, tt)
all_lists_once n (suc m) = flat_once (all_lists n m) (fillings n) (all_lists_once n m) (fillings_once n)

once_at : {A : Type 0} (xs : List A) (i k : ℕ) (x : A) → Once xs → slice_get xs i ≡ Some x → slice_get xs k ≡ Some x → i ≡ k
unfolding Once
once_at [] i k x a e f = absurd (search rules)
once_at (y ∷ xs) zero zero x a e f = refl
once_at (y ∷ xs) zero (suc k) x a e f = absurd (each_get (λ z. y ≢ z) xs k x a.0 f (search rules))
once_at (y ∷ xs) (suc i) zero x a e f = absurd (each_get (λ z. y ≢ z) xs i x a.0 e (search rules))
once_at (y ∷ xs) (suc i) (suc k) x a e f = ap suc (once_at xs i k x a.1 e f)

pub each_once : (images members low high i k : ℕ) (l : List (Option ℕ)) → slice_get (slot_lists images members low high) i ≡ Some l → slice_get (slot_lists images members low high) k ≡ Some l → i ≡ k
each_once images members low high i k l e f = once_at (slot_lists images members low high) i k l (once_filter (is_kept low high) (all_lists images members) (all_lists_once images members)) e f
