-- Pairs of two lists: how many there are, what stands at an index, and where a pair stands.
use Rattle.std.proofs.Common.{rules, ℕ, zero, suc, ◌≡◌, ◌+◌, ◌*◌, ◌<◌, Bool, true, false, ◌&&◌, not, cond, nat_lt, List, [], ◌∷◌, ◌++◌, length, map, filter, refl, sym, ap, ap₂, ◌∙◌, arith, inl, inr, ◌-◌, zero-add, append_assoc, length-append, Option, Some, None, slice_get, option_map, get_or, ◌/◌, ◌%◌, All}
use Rattle.std.proofs.Math.Nat.{zero-mul, suc-mul, mul-zero}
use Rattle.std.proofs.lemmas.Nat.{div_below, mod_below, div-add-mod'}
use Rattle.std.specs.List.{flat_map, position, prefix_len, AllByRecursion}
use Rattle.std.proofs.lemmas.Bool.{cases_lt, lt-ltb, le-ltb}
use Rattle.std.proofs.lemmas.List.Elements.{filter-append, recursion_from_All}
use Rattle.std.proofs.lemmas.Option.{slice_get_within, slice_get_read}
use Rattle.slot_math.proofs.Listed.{each_append, each_get}
use Rattle.slot_math.proofs.Nested.{get_low, get_high, get-map, length-map}
use Rattle.std.proofs.lemmas.List.Quantifiers.{position-Some}
use Rattle.set_product.specs.Pairs.{pairs, joined}

pub length_pairs : {A B : Type 0} (xs : List A) (ys : List B) → length (pairs xs ys) ≡ length xs * length ys
unfolding pairs
length_pairs [] ys = sym (zero-mul (length ys))
length_pairs {A} {B} (x ∷ xs) ys =
    length-append (map (λ y. (x, y)) ys) (pairs xs ys)
    ∙ ap₂ (λ (a b : ℕ). a + b) (length-map (λ y. (x, y)) ys) (length_pairs xs ys)
    ∙ (let e : length ys + length xs * length ys ≡ suc (length xs) * length ys = omega (arith, suc-mul (length xs) (length ys)) in e)

-- the pairs of one element
abbrev row : {A B : Type 0} → A → List B → List (A × B)
row x ys = map (λ y. (x, y)) ys

row_long : {A B : Type 0} (x : A) (ys : List B) → length (row x ys) ≡ length ys
row_long x [] = refl
row_long x (y ∷ ys) = ap suc (row_long x ys)

-- what stands at an index
pub pair_at : {A B : Type 0} (xs : List A) (ys : List B) (i r : ℕ) (x : A) (y : B) → slice_get xs i ≡ Some x → slice_get ys r ≡ Some y →
    slice_get (pairs xs ys) (i * length ys + r) ≡ Some (x, y)
unfolding pairs
pair_at [] ys i r x y e f = absurd (search rules)
pair_at {A} {B} (a ∷ xs) ys zero r x y e f =
    let at : zero * length ys + r ≡ r = omega (arith, zero-mul (length ys)) in
    let same : a ≡ x = search rules in
    let within : r < length ys = slice_get_within ys r y f in
    let long : length (row a ys) ≡ length ys = row_long a ys in
    ap (slice_get (pairs (a ∷ xs) ys)) at
    ∙ get_low (row a ys) (pairs xs ys) r (omega arith)
    ∙ get-map (λ (b : B). let c : A × B = (a, b) in c) ys r
    ∙ ap (option_map (λ (b : B). let c : A × B = (a, b) in c)) f
    ∙ ap (λ (z : A). let o : Option (A × B) = Some (z, y) in o) same
pair_at {A} {B} (a ∷ xs) ys (suc i) r x y e f =
    let long : length (row a ys) ≡ length ys = row_long a ys in
    let place : suc i * length ys + r ≡ length ys + (i * length ys + r) = omega (arith, suc-mul i (length ys)) in
    get_high (row a ys) (pairs xs ys) (suc i * length ys + r) (omega arith)
    ∙ ap (slice_get (pairs xs ys)) (let d : suc i * length ys + r - length (row a ys) ≡ i * length ys + r = omega arith in d)
    ∙ pair_at xs ys i r x y e f

-- a filter of pairs whose test is of each part alone
pub filter_pairs : {A B : Type 0} (t : A × B → Bool) (f : A → Bool) (g : B → Bool) (xs : List A) (ys : List B) → ((x : A) (y : B) → t (x, y) ≡ (f x && g y)) →
    filter t (pairs xs ys) ≡ pairs (filter f xs) (filter g ys)
unfolding pairs
filter_pairs t f g [] ys h = refl
filter_pairs {A} {B} t f g (x ∷ xs) ys h =
    filter-append t (map (λ y. (x, y)) ys) (pairs xs ys)
    ∙ ap₂ (λ (a b : List (A × B)). a ++ b) (of_one ys) (filter_pairs t f g xs ys h)
    ∙ (elim (f x) as (λ b. cond b (map (λ y. (x, y)) (filter g ys)) [] ++ pairs (filter f xs) (filter g ys) ≡ pairs (cond b (x ∷ filter f xs) (filter f xs)) (filter g ys)) [
      | true ↦ refl
      | false ↦ refl
    ])
  where
    step : (b c : Bool) (y : B) (rest : List B) → cond {A = List (A × B)} (b && c) ((x, y) ∷ cond b (map (λ z. (x, z)) rest) []) (cond b (map (λ z. (x, z)) rest) []) ≡ cond b (map (λ z. (x, z)) (cond c (y ∷ rest) rest)) []
    step true true y rest = refl
    step true false y rest = refl
    step false c y rest = refl

    of_one : (zs : List B) → filter t (map (λ y. (x, y)) zs) ≡ cond (f x) (map (λ y. (x, y)) (filter g zs)) []
    of_one [] = elim (f x) as (λ b. ◌≡◌ {A = List (A × B)} [] (cond b [] [])) [ true ↦ refl | false ↦ refl ]
    of_one (y ∷ zs) =
        ap₂ (λ (b : Bool) (rest : List (A × B)). cond {A = List (A × B)} b ((x, y) ∷ rest) rest) (h x y) (of_one zs)
        ∙ step (f x) (g y) y (filter g zs)

-- a walk over pairs is a nested walk
pub flat_pairs : {A B C : Type 0} (g : A × B → List C) (xs : List A) (ys : List B) → flat_map g (pairs xs ys) ≡ flat_map (λ x. flat_map (λ y. g (x, y)) ys) xs
unfolding pairs
flat_pairs g [] ys = refl
flat_pairs {A} {B} {C} g (x ∷ xs) ys =
    flat_append g (map (λ y. (x, y)) ys) (pairs xs ys)
    ∙ ap₂ (λ (a b : List C). a ++ b) (flat_of_map ys) (flat_pairs g xs ys)
  where
    flat_append : (k : A × B → List C) (us vs : List (A × B)) → flat_map k (us ++ vs) ≡ flat_map k us ++ flat_map k vs
    flat_append k [] vs = refl
    flat_append k (u ∷ us) vs = ap (λ (l : List C). k u ++ l) (flat_append k us vs) ∙ sym (append_assoc (k u) (flat_map k us) (flat_map k vs))

    flat_of_map : (zs : List B) → flat_map g (map (λ y. (x, y)) zs) ≡ flat_map (λ y. g (x, y)) zs
    flat_of_map [] = refl
    flat_of_map (z ∷ zs) = ap (λ (l : List C). g (x, z) ++ l) (flat_of_map zs)

-- the first position, element by element
pub position_step : {A : Type 0} (p : A → Bool) (x : A) (xs : List A) → position p (x ∷ xs) ≡ cond (p x) (Some 0) (option_map (λ n. suc n) (position p xs))
position_step p x xs =
    elim (p x) as (λ b. cond (nat_lt (cond (not b) (1 + prefix_len (λ y. not (p y)) xs) 0) (suc (length xs))) (Some (cond (not b) (1 + prefix_len (λ y. not (p y)) xs) 0)) None
    ≡ cond b (Some 0) (option_map (λ n. suc n) (position p xs))) [
      | true ↦ ap (λ (t : Bool). cond t (Some 0) None) (lt-ltb 0 (suc (length xs)) (omega arith))
      | false ↦ over (prefix_len (λ y. not (p y)) xs) (length xs)
    ]
  where
    over : (m n : ℕ) → cond (nat_lt (1 + m) (suc n)) (Some (1 + m)) None ≡ option_map (λ k. suc k) (cond (nat_lt m n) (Some m) None)
    over m n = elim (cases_lt m n) [
      | inl below ↦ rw (lt-ltb (1 + m) (suc n) (omega arith), lt-ltb m n below) (ap (λ (k : ℕ). Some k) (let e : 1 + m ≡ suc m = omega arith in e))
      | inr above ↦ rw (le-ltb (1 + m) (suc n) (omega arith), le-ltb m n above) refl
    ]

-- the place in the first list, or the later one in the second
abbrev pub or_later : Option ℕ → ℕ → Option ℕ → Option ℕ
or_later (Some a) n o = Some a
or_later None n None = None
or_later None n (Some b) = Some (n + b)

pub position_append : {A : Type 0} (p : A → Bool) (xs ys : List A) → position p (xs ++ ys) ≡ or_later (position p xs) (length xs) (position p ys)
position_append p [] ys = none_first (position p ys)
  where
    none_first : (o : Option ℕ) → o ≡ or_later None 0 o
    none_first None = refl
    none_first (Some b) = ap (λ (n : ℕ). Some n) (sym (zero-add b))
position_append p (x ∷ xs) ys =
    position_step p x (xs ++ ys)
    ∙ ap (λ (o : Option ℕ). cond (p x) (Some 0) (option_map (λ n. suc n) o)) (position_append p xs ys)
    ∙ shift (p x) (position p xs) (length xs) (position p ys)
    ∙ ap (λ (o : Option ℕ). or_later o (suc (length xs)) (position p ys)) (sym (position_step p x xs))
  where
    shift : (b : Bool) (o : Option ℕ) (n : ℕ) (q : Option ℕ) → cond b (Some 0) (option_map (λ k. suc k) (or_later o n q)) ≡ or_later (cond b (Some 0) (option_map (λ k. suc k) o)) (suc n) q
    shift true o n q = refl
    shift false None n None = refl
    shift false None n (Some b) = ap (λ (k : ℕ). Some k) (let e : suc (n + b) ≡ suc n + b = omega arith in e)
    shift false (Some a) n q = refl

pub position_map : {A B : Type 0} (p : B → Bool) (f : A → B) (xs : List A) → position p (map f xs) ≡ position (λ x. p (f x)) xs
position_map p f [] = refl
position_map p f (x ∷ xs) =
    position_step p (f x) (map f xs)
    ∙ ap (λ (o : Option ℕ). cond (p (f x)) (Some 0) (option_map (λ n. suc n) o)) (position_map p f xs)
    ∙ sym (position_step (λ y. p (f y)) x xs)

-- a test that holds of nothing
pub position_never : {A : Type 0} (p : A → Bool) (xs : List A) → ((x : A) → p x ≡ false) → position p xs ≡ None
position_never p [] h = refl
position_never p (x ∷ xs) h =
    position_step p x xs
    ∙ ap₂ (λ (b : Bool) (o : Option ℕ). cond b (Some 0) (option_map (λ n. suc n) o)) (h x) (position_never p xs h)

-- two tests that agree
pub position_same : {A : Type 0} (p q : A → Bool) (xs : List A) → ((x : A) → p x ≡ q x) → position p xs ≡ position q xs
position_same p q [] h = refl
position_same p q (x ∷ xs) h =
    position_step p x xs
    ∙ ap₂ (λ (b : Bool) (o : Option ℕ). cond b (Some 0) (option_map (λ n. suc n) o)) (h x) (position_same p q xs h)
    ∙ sym (position_step q x xs)

-- where a pair stands whose test is of each part alone
pub position_pairs : {A B : Type 0} (t : A → Bool) (u : B → Bool) (xs : List A) (ys : List B) →
    position (λ c. t c.0 && u c.1) (pairs xs ys) ≡ joined (length ys) (position t xs) (position u ys)
unfolding pairs
position_pairs t u [] ys = refl
position_pairs {A} {B} t u (x ∷ xs) ys =
    position_append (λ c. t c.0 && u c.1) (map (λ y. (x, y)) ys) (pairs xs ys)
    ∙ ap₂ (λ (o : Option ℕ) (n : ℕ). or_later o n (position (λ (c : A × B). t c.0 && u c.1) (pairs xs ys))) (position_map (λ (c : A × B). t c.0 && u c.1) (λ y. (x, y)) ys) (length-map (λ y. (x, y)) ys)
    ∙ ap (or_later (position (λ y. t x && u y) ys) (length ys)) (position_pairs t u xs ys)
    ∙ ap (λ (o : Option ℕ). or_later o (length ys) (joined (length ys) (position t xs) (position u ys))) (of_one (t x))
    ∙ together (t x) (position t xs) (position u ys) (length ys)
    ∙ ap (λ (o : Option ℕ). joined (length ys) o (position u ys)) (sym (position_step t x xs))
  where
    of_one : (b : Bool) → position (λ y. b && u y) ys ≡ cond b (position u ys) None
    of_one true = refl
    of_one false = position_never (λ (y : B). false) ys (λ y. refl)

    together : (b : Bool) (o q : Option ℕ) (n : ℕ) → or_later (cond b q None) n (joined n o q) ≡ joined n (cond b (Some 0) (option_map (λ k. suc k) o)) q
    together true None None n = refl
    together true (Some a) None n = refl
    together true o (Some r) n = ap (λ (k : ℕ). Some k) (let e : r ≡ zero * n + r = omega (arith, zero-mul n) in e)
    together false None q n = refl
    together false (Some a) None n = refl
    together false (Some a) (Some r) n = ap (λ (k : ℕ). Some k) (let e : n + (a * n + r) ≡ suc a * n + r = omega (arith, suc-mul a n) in e)

pub second_some : (rank a b : ℕ) → rank < a * b → 0 < b
second_some rank a zero below = absurd (omega (arith, mul-zero a))
second_some rank a (suc b) below = omega arith

pub row_within : (rank a b : ℕ) → rank < a * b → rank / b < a
row_within rank a b below = div_below rank b a (second_some rank a b below) below

pub column_within : (rank a b : ℕ) → rank < a * b → rank % b < b
column_within rank a b below = mod_below rank b (second_some rank a b below)

pub pair_of_rank : {A B : Type 0} (xs : List A) (ys : List B) (rank : ℕ) (x : A) (y : B) → rank < length xs * length ys →
    x ≡ get_or xs (rank / length ys) x → y ≡ get_or ys (rank % length ys) y → slice_get (pairs xs ys) rank ≡ Some (x, y)
pair_of_rank {A} {B} xs ys rank x y below e f =
    let some : 0 < length ys = second_some rank (length xs) (length ys) below in
    let first : rank / length ys < length xs = div_below rank (length ys) (length xs) some below in
    let second : rank % length ys < length ys = mod_below rank (length ys) some in
    ap (slice_get (pairs xs ys)) (sym (div-add-mod' rank (length ys)))
    ∙ pair_at xs ys (rank / length ys) (rank % length ys) x y (slice_get_read xs (length xs) (rank / length ys) x refl first e) (slice_get_read ys (length ys) (rank % length ys) y refl second f)

-- what stands at a rank
pub pair_found : {A B : Type 0} (xs : List A) (ys : List B) (rank : ℕ) (x : A) (y : B) → slice_get xs (rank / length ys) ≡ Some x → slice_get ys (rank % length ys) ≡ Some y →
    slice_get (pairs xs ys) rank ≡ Some (x, y)
pair_found xs ys rank x y e f = ap (slice_get (pairs xs ys)) (sym (div-add-mod' rank (length ys))) ∙ pair_at xs ys (rank / length ys) (rank % length ys) x y e f

-- a place is below the length
pub place_within : {A : Type 0} (p : A → Bool) (xs : List A) (k : ℕ) → position p xs ≡ Some k → k < length xs
place_within p [] k e = absurd (search rules)
place_within p (x ∷ xs) k e = (position-Some p (x ∷ xs) k x e).0

-- the second part of a pair is of the second list
pub second_of : {A B : Type 0} (P : B → Type 0) (xs : List A) (ys : List B) (rank : ℕ) (c : A × B) → All P ys → slice_get (pairs xs ys) rank ≡ Some c → P c.1
unfolding pairs
second_of {A} {B} P xs ys rank c all e = each_get (λ (p : A × B). P p.1) (pairs xs ys) rank c (each_pair xs) e
  where
    each_row : (x : A) (zs : List B) → AllByRecursion P zs → AllByRecursion (λ (p : A × B). P p.1) (row x zs)
    each_row x [] a = tt
    each_row x (z ∷ zs) a = (a.0, each_row x zs a.1)

    each_pair : (us : List A) → AllByRecursion (λ (p : A × B). P p.1) (pairs us ys)
    each_pair [] = tt
    each_pair (u ∷ us) = each_append (λ (p : A × B). P p.1) (row u ys) (pairs us ys) (each_row u ys (recursion_from_All P ys all)) (each_pair us)
