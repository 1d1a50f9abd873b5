-- Sums, by an operation, of what the images of a list of places count.
use Rattle.std.proofs.Common.{◌≡◌, ◌≢◌, ℕ, zero, suc, ◌+◌, ◌<◌, ◌≤◌, List, [], ◌∷◌, ◌++◌, length, cond, arith, ap, ap₂, sym, refl, ◌∙◌, Bool, true, false, not, ◌||◌, Option, Some, None, inl, inr}
use Rattle.std.proofs.lemmas.Bool.{and_parts, cases_eq, eq-eqb, ne_eqb, not-true}
use Rattle.std.proofs.lemmas.List.Sums.{sum_by-cons}
use Rattle.std.specs.List.{range_with_len, slice_index_or, sum_by}
use Rattle.raid_params.specs.Slots.{is_distinct, stands}
use Rattle.slot_math.specs.Ways.{AllImages}

-- an operation that does not see order
pub record IsSum (op : ℕ → ℕ → ℕ) : Type 0 where
  pub swap : (a b c : ℕ) → op a (op b c) ≡ op b (op a c)
  pub unit : (a : ℕ) → op 0 a ≡ a

-- the sum over a list
unfoldable pub total : {X : Type 0} → (ℕ → ℕ → ℕ) → (X → ℕ) → List X → ℕ
total op f [] = 0
total op f (x ∷ xs) = op (f x) (total op f xs)

-- the sum over the places that hold an image, from this slot on
unfoldable pub placed : (ℕ → ℕ → ℕ) → (ℕ → ℕ → ℕ) → ℕ → List (Option ℕ) → ℕ
placed op count slot [] = 0
placed op count slot (None ∷ places) = placed op count (slot + 1) places
placed op count slot (Some image ∷ places) = op (count slot image) (placed op count (slot + 1) places)

-- what an image counts where it stands in the list
abbrev pub where_it_stands : List (Option ℕ) → (ℕ → ℕ) → ℕ → ℕ
where_it_stands places f image = cond (stands image places) (f image) 0

pub total_same : (op : ℕ → ℕ → ℕ) (f g : ℕ → ℕ) (a n : ℕ) → ((i : ℕ) → a ≤ i → i < a + n → f i ≡ g i) → total op f (range_with_len a n) ≡ total op g (range_with_len a n)
unfolding total
total_same op f g a zero same = refl
total_same op f g a (suc n) same = ap₂ op (same a (omega arith) (omega arith)) (total_same op f g (a + 1) n (λ i le lt. same i (omega arith) (omega arith)))

-- an image that is put before a list of others
stands_now : (k : ℕ) (places : List (Option ℕ)) → stands k (Some k ∷ places) ≡ true
unfolding stands
stands_now k places = ap (λ (b : Bool). b || stands k places) (eq-eqb k k refl)

stands_still : (i k : ℕ) (places : List (Option ℕ)) → i ≢ k → stands i (Some k ∷ places) ≡ stands i places
unfolding stands
stands_still i k places ne = ap (λ (b : Bool). b || stands i places) (ne_eqb i k ne)

put_outside : (op : ℕ → ℕ → ℕ) (f : ℕ → ℕ) (k a n : ℕ) (places : List (Option ℕ)) → k < a →
    total op (where_it_stands (Some k ∷ places) f) (range_with_len a n) ≡ total op (where_it_stands places f) (range_with_len a n)
put_outside op f k a n places before =
    total_same op (where_it_stands (Some k ∷ places) f) (where_it_stands places f) a n
    (λ i le lt. ap (λ (b : Bool). cond b (f i) 0) (stands_still i k places (λ e. let x : i ≡ k = e in omega arith)))

pub put_inside : (op : ℕ → ℕ → ℕ) (f : ℕ → ℕ) (k a n : ℕ) (places : List (Option ℕ)) → IsSum op → stands k places ≡ false → a ≤ k → k < a + n →
    total op (where_it_stands (Some k ∷ places) f) (range_with_len a n) ≡ op (f k) (total op (where_it_stands places f) (range_with_len a n))
unfolding total
put_inside op f k a zero places is none le lt = absurd (omega arith)
put_inside op f k a (suc n) places is none le lt =
    elim (cases_eq a k) [
      | inl e ↦
          let now : where_it_stands (Some k ∷ places) f a ≡ f k
          = ap (λ (i : ℕ). where_it_stands (Some k ∷ places) f i) e ∙ ap (λ (b : Bool). cond b (f k) 0) (stands_now k places) in
          let rest = put_outside op f k (a + 1) n places (omega arith) in
          let nothing : where_it_stands places f a ≡ 0 = ap (λ (i : ℕ). where_it_stands places f i) e ∙ ap (λ (b : Bool). cond b (f k) 0) none in
          ap₂ op now rest
          ∙ ap (op (f k)) (sym (ap (λ (x : ℕ). op x (total op (where_it_stands places f) (range_with_len (a + 1) n))) nothing
          ∙ is.unit (total op (where_it_stands places f) (range_with_len (a + 1) n))))
      | inr ne ↦
          ap₂ op (ap (λ (b : Bool). cond b (f a) 0) (stands_still a k places ne)) (put_inside op f k (a + 1) n places is none (omega arith) (omega arith))
          ∙ is.swap (where_it_stands places f a) (f k) (total op (where_it_stands places f) (range_with_len (a + 1) n))
    ]

total_none : (op : ℕ → ℕ → ℕ) (f : ℕ → ℕ) (a n : ℕ) → IsSum op → total op (where_it_stands [] f) (range_with_len a n) ≡ 0
unfolding total stands
total_none op f a zero is = refl
total_none op f a (suc n) is = is.unit (total op (where_it_stands [] f) (range_with_len (a + 1) n)) ∙ total_none op f (a + 1) n is

-- over different images, the sum over the places is that over the images that stand there
pub by_image : (op : ℕ → ℕ → ℕ) (f : ℕ → ℕ) (n slot : ℕ) (places : List (Option ℕ)) → IsSum op → AllImages n places → is_distinct places ≡ true →
    placed op (λ s i. f i) slot places ≡ total op (where_it_stands places f) (range_with_len 0 n)
unfolding placed is_distinct stands
by_image op f n slot [] is all apart = sym (total_none op f 0 n is)
by_image op f n slot (None ∷ places) is all apart =
    by_image op f n (slot + 1) places is all apart
    ∙ total_same op (where_it_stands places f) (where_it_stands (None ∷ places) f) 0 n (λ i le lt. refl)
by_image op f n slot (Some k ∷ places) is all apart =
    let parts = and_parts (not (stands k places)) (is_distinct places) apart in
    ap (op (f k)) (by_image op f n (slot + 1) places is all.1 parts.1)
    ∙ sym (put_inside op f k 0 n places is (not-true (stands k places) parts.0) (omega arith) (omega (arith, all.0)))

-- the places of two lists, one after the other
pub placed_append : (count : ℕ → ℕ → ℕ) (slot : ℕ) (xs ys : List (Option ℕ)) →
    placed ◌+◌ count slot (xs ++ ys) ≡ placed ◌+◌ count slot xs + placed ◌+◌ count (slot + length xs) ys
unfolding placed
placed_append count slot [] ys =
    let e : slot ≡ slot + 0 = omega arith in
    let h : placed ◌+◌ count slot ys ≡ placed ◌+◌ count (slot + 0) ys = ap (λ (s : ℕ). placed ◌+◌ count s ys) e in
    omega arith
placed_append count slot (None ∷ xs) ys =
    let e : slot + 1 + length xs ≡ slot + suc (length xs) = omega arith in
    placed_append count (slot + 1) xs ys ∙ ap (λ (s : ℕ). placed ◌+◌ count (slot + 1) xs + placed ◌+◌ count s ys) e
placed_append count slot (Some i ∷ xs) ys =
    let h = placed_append count (slot + 1) xs ys in
    let e : slot + 1 + length xs ≡ slot + suc (length xs) = omega arith in
    let g : placed ◌+◌ count (slot + 1 + length xs) ys ≡ placed ◌+◌ count (slot + suc (length xs)) ys = ap (λ (s : ℕ). placed ◌+◌ count s ys) e in
    omega arith

-- what is no larger at each place is no larger in all
pub placed_le : (f g : ℕ → ℕ → ℕ) (slot members : ℕ) (places : List (Option ℕ)) → slot + length places ≤ members →
    ((s i : ℕ) → slot ≤ s → s < members → f s i ≤ g s i) → placed ◌+◌ f slot places ≤ placed ◌+◌ g slot places
unfolding placed
placed_le f g slot members [] within le = omega arith
placed_le f g slot members (None ∷ places) within le = placed_le f g (slot + 1) members places (omega arith) (λ s i a b. le s i (omega arith) b)
placed_le f g slot members (Some i ∷ places) within le =
    let rest = placed_le f g (slot + 1) members places (omega arith) (λ s j a b. le s j (omega arith) b) in
    let here = le slot i (omega arith) (omega arith) in
    omega arith

pub placed_same : (op : ℕ → ℕ → ℕ) (f g : ℕ → ℕ → ℕ) (slot : ℕ) (places : List (Option ℕ)) → ((s i : ℕ) → f s i ≡ g s i) → placed op f slot places ≡ placed op g slot places
unfolding placed
placed_same op f g slot [] same = refl
placed_same op f g slot (None ∷ places) same = placed_same op f g (slot + 1) places same
placed_same op f g slot (Some i ∷ places) same = ap₂ op (same slot i) (placed_same op f g (slot + 1) places same)

-- a sum over places that agrees place by place
pub placed_alike : (op : ℕ → ℕ → ℕ) (f g : ℕ → ℕ → ℕ) (slot : ℕ) (places : List (Option ℕ)) →
    ((k i : ℕ) → slice_index_or places k None ≡ Some i → f (slot + k) i ≡ g (slot + k) i) → placed op f slot places ≡ placed op g slot places
unfolding placed
placed_alike op f g slot [] same = refl
placed_alike op f g slot (None ∷ places) same =
    placed_alike op f g (slot + 1) places
    (λ k i e. let move : slot + 1 + k ≡ slot + suc k = omega arith in ap (λ (s : ℕ). f s i) move ∙ same (suc k) i e ∙ sym (ap (λ (s : ℕ). g s i) move))
placed_alike op f g slot (Some j ∷ places) same =
    let here : slot + 0 ≡ slot = omega arith in
    ap₂ op (sym (ap (λ (s : ℕ). f s j) here) ∙ same 0 j refl ∙ ap (λ (s : ℕ). g s j) here)
    (placed_alike op f g (slot + 1) places
    (λ k i e. let move : slot + 1 + k ≡ slot + suc k = omega arith in ap (λ (s : ℕ). f s i) move ∙ same (suc k) i e ∙ sym (ap (λ (s : ℕ). g s i) move)))

pub placed_sum : (f g : ℕ → ℕ → ℕ) (slot : ℕ) (places : List (Option ℕ)) →
    placed ◌+◌ (λ s i. f s i + g s i) slot places ≡ placed ◌+◌ f slot places + placed ◌+◌ g slot places
unfolding placed
placed_sum f g slot [] = refl
placed_sum f g slot (None ∷ places) = placed_sum f g (slot + 1) places
placed_sum f g slot (Some i ∷ places) = let h = placed_sum f g (slot + 1) places in omega arith

pub plus_is : IsSum ◌+◌
plus_is = record { swap = λ a b c. omega arith; unit = λ a. omega arith }

-- over a list, the sum by + is that of the library
pub total_sum : (f : ℕ → ℕ) (xs : List ℕ) → total ◌+◌ f xs ≡ sum_by f xs
unfolding total
total_sum f [] = refl
total_sum f (x ∷ xs) = ap (λ (k : ℕ). f x + k) (total_sum f xs) ∙ sym (sum_by-cons f x xs)

pub total_le : (f g : ℕ → ℕ) (a n : ℕ) → ((i : ℕ) → f i ≤ g i) → total ◌+◌ f (range_with_len a n) ≤ total ◌+◌ g (range_with_len a n)
unfolding total
total_le f g a zero le = omega arith
total_le f g a (suc n) le = let h = total_le f g (a + 1) n le in let k = le a in omega arith
