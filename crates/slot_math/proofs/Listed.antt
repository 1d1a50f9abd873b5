-- What each list of a space is.
use Rattle.std.proofs.Common.{rules, ℕ, ◌≡◌, ◌<◌, ◌≤◌, ◌+◌, List, [], ◌∷◌, ◌++◌, length, map, filter, refl, sym, ap, arith, zero, suc, Bool, true, cond, Option, Some, None, slice_get, inl, inr, subst}
use Rattle.std.specs.List.{flat_map, range_with_len, AllByRecursion}
use Rattle.std.proofs.lemmas.Bool.{cases_Bool}
use Rattle.search_terms.specs.SlotLists.{fillings, all_lists, is_kept, slot_lists}
use Rattle.slot_math.specs.Ways.{AllImages, IsPlace}

pub each_append : {A : Type 0} (P : A → Type 0) (xs ys : List A) → AllByRecursion P xs → AllByRecursion P ys → AllByRecursion P (xs ++ ys)
each_append P [] ys a b = b
each_append P (x ∷ xs) ys a b = (a.0, each_append P xs ys a.1 b)

pub each_map : {A B : Type 0} (P : B → Type 0) (f : A → B) (xs : List A) → AllByRecursion (λ x. P (f x)) xs → AllByRecursion P (map f xs)
each_map P f [] a = tt
each_map P f (x ∷ xs) a = (a.0, each_map P f xs a.1)

pub each_more : {A : Type 0} (P Q : A → Type 0) (xs : List A) → ((x : A) → P x → Q x) → AllByRecursion P xs → AllByRecursion Q xs
each_more P Q [] h a = tt
each_more P Q (x ∷ xs) h a = (h x a.0, each_more P Q xs h a.1)

pub each_flat : {A B : Type 0} (P : B → Type 0) (Q : A → Type 0) (g : A → List B) (xs : List A) → ((x : A) → Q x → AllByRecursion P (g x)) → AllByRecursion Q xs → AllByRecursion P (flat_map g xs)
each_flat P Q g [] h a = tt
each_flat P Q g (x ∷ xs) h a = each_append P (g x) (flat_map g xs) (h x a.0) (each_flat P Q g xs h a.1)

each_range : (n a m : ℕ) → a + m ≤ n → AllByRecursion (λ i. i < n) (range_with_len a m)
each_range n a zero h = tt
each_range n a (suc m) h = (omega arith, each_range n (a + 1) m (omega arith))

-- an image below the number of images, or nothing
pub each_filling : (n : ℕ) → AllByRecursion (IsPlace n) (fillings n)
each_filling n = each_append (IsPlace n) (map (λ i. Some i) (range_with_len 0 n)) (None ∷ [])
    (each_map (IsPlace n) (λ i. Some i) (range_with_len 0 n) (each_range n 0 n (omega arith))) (tt, tt)

images_first : (n : ℕ) (q : Option ℕ) (l : List (Option ℕ)) → IsPlace n q → AllImages n l → AllImages n (q ∷ l)
images_first n None l h a = a
images_first n (Some i) l h a = (h, a)

-- m places, and images below n
abbrev IsShaped : ℕ → ℕ → List (Option ℕ) → Type 0
IsShaped n m l = (length l ≡ m) × AllImages n l

pub each_list : (n m : ℕ) → AllByRecursion (λ l. (length l ≡ m) × AllImages n l) (all_lists n m)
unfolding all_lists
each_list n zero = ((refl, tt), tt)
each_list n (suc m) =
    each_flat (IsShaped n (suc m)) (IsPlace n) (λ p. map (λ l. p ∷ l) (all_lists n m)) (fillings n)
    (λ p h. each_map (IsShaped n (suc m)) (λ l. p ∷ l) (all_lists n m)
    (each_more (IsShaped n m) (λ l. IsShaped n (suc m) (p ∷ l)) (all_lists n m) (λ l s. (ap suc s.0, images_first n p l h s.1)) (each_list n m)))
    (each_filling n)

pub each_get : {A : Type 0} (P : A → Type 0) (xs : List A) (r : ℕ) (x : A) → AllByRecursion P xs → slice_get xs r ≡ Some x → P x
each_get P [] r x a e = absurd (search rules)
each_get P (y ∷ xs) zero x a e = (let f : y ≡ x = search rules in subst P f a.0)
each_get P (y ∷ xs) (suc r) x a e = each_get P xs r x a.1 e

-- what a filter keeps passes its test
pub each_kept : {A : Type 0} (P : A → Type 0) (f : A → Bool) (xs : List A) → AllByRecursion P xs → AllByRecursion (λ x. P x × (f x ≡ true)) (filter f xs)
each_kept P f [] a = tt
each_kept {A} P f (x ∷ xs) a = elim (cases_Bool (f x)) [
  | inl t ↦ (let Q : List A → Type 0 = λ t. AllByRecursion (λ x. P x × (f x ≡ true)) t in
      subst Q (sym (ap (λ (b : Bool). cond b (x ∷ filter f xs) (filter f xs)) t)) ((a.0, t), each_kept P f xs a.1))
  | inr g ↦ (let Q : List A → Type 0 = λ t. AllByRecursion (λ x. P x × (f x ≡ true)) t in
      subst Q (sym (ap (λ (b : Bool). cond b (x ∷ filter f xs) (filter f xs)) g)) (each_kept P f xs a.1))
]

-- each list of a space has its number of places and images below the number of images, and is kept
pub listed : (images members low high r : ℕ) (l : List (Option ℕ)) → slice_get (slot_lists images members low high) r ≡ Some l →
    (length l ≡ members) × AllImages images l × (is_kept low high l ≡ true)
listed images members low high r l e =
    let h = each_get (λ l. IsShaped images members l × (is_kept low high l ≡ true)) (slot_lists images members low high) r l
    (each_kept (IsShaped images members) (is_kept low high) (all_lists images members) (each_list images members)) e in
    (h.0.0, h.0.1, h.1)
