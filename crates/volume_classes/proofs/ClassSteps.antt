-- Sets are put into classes, one after the other.
use Rattle.std.proofs.Common.{ℕ, zero, suc, ◌≡◌, ◌≢◌, ◌+◌, ◌<◌, ◌≤◌, ◌↔◌, inl, inr, List, [], ◌∷◌, ◌++◌, length, get_or, slice_get, slice_index, All, refl, sym, ap, ◌∙◌, arith, append-nil, length-append, subst}
use Rattle.std.specs.declared.option.Option.TheVariants.{None, Some}
use Rattle.std.proofs.lemmas.Bool.{cases_eq, cases_lt}
use Rattle.std.proofs.lemmas.List.{get_or_append_left, get_or_push}
use Rattle.std.proofs.lemmas.Option.{get_or_from_slice_get, slice_get_within}
use Rattle.raid_params.specs.declared.types.Geometry.{Geometry}
use Rattle.volume_classes.specs.Alike.{AreAlike}
use Rattle.volume_classes.specs.Classes.{AreClasses, StandsBelow}
use Rattle.volume_classes.specs.Tables.{HasSet, IsTable, TellsAlike, TellsClass, TellsNone}
use Rattle.volume_classes.specs.declared.tables.Table.{Table}

-- elements of longer lists
pub get_left : {A : Type 0} (xs ys : List A) (i : ℕ) (x : A) → slice_get xs i ≡ Some x → slice_get (xs ++ ys) i ≡ Some x
get_left [] ys i x is = absurd (let e : None ≡ Some x = is in cc)
get_left (y ∷ xs) ys zero x is = is
get_left (y ∷ xs) ys (suc i) x is = get_left xs ys i x is

pub get_last : {A : Type 0} (xs : List A) (x : A) → slice_get (xs ++ x ∷ []) (length xs) ≡ Some x
get_last [] x = refl
get_last (y ∷ xs) x = get_last xs x

pub one_element : {A : Type 0} (xs : List A) (i : ℕ) (x y : A) → slice_get xs i ≡ Some x → slice_get xs i ≡ Some y → x ≡ y
one_element xs i x y is other = let e : Some x ≡ Some y = sym is ∙ other in cc

pub same_element : {A : Type 0} (xs : List A) (i : ℕ) (x y : A) → x ≡ get_or xs i x → slice_get xs i ≡ Some y → x ≡ y
same_element xs i x y read is = read ∙ get_or_from_slice_get xs i y x is

-- being alike is an equivalence
pub alike_turned : (a b : Geometry) (images end : ℕ) → AreAlike a b images end → AreAlike b a images end
alike_turned a b images end alike bytes are = sym (alike bytes are)

pub alike_joined : (a b c : Geometry) (images end : ℕ) → AreAlike a b images end → AreAlike b c images end → AreAlike a c images end
alike_joined a b c images end alike other bytes are = alike bytes are ∙ other bytes are

-- the first set of class k
pub record IsFirst (images end : ℕ) (sets : List Geometry) (n : ℕ) (numbers : List ℕ) (firsts : List Table) (k : ℕ) : Type 0 where
  pub place : ℕ
  pub below : place < n
  pub geo : Geometry
  pub set : slice_get sets place ≡ Some geo
  pub number : slice_index numbers place ≡ k
  pub table : Table
  pub first : slice_get firsts k ≡ Some table
  pub is : IsTable images end geo table

-- the classes of the first n sets, and their first sets
pub record AreNumbered (images end : ℕ) (sets : List Geometry) (n : ℕ) (numbers : List ℕ) (firsts : List Table) : Type 0 where
  pub many : length numbers ≡ n
  pub alike : (i j : ℕ) (one other : Geometry) → i < n → j < n → slice_get sets i ≡ Some one → slice_get sets j ≡ Some other → (slice_index numbers i ≡ slice_index numbers j) ↔ AreAlike one other images end
  pub in_order : (i number : ℕ) → i < n → number < slice_index numbers i → StandsBelow numbers i number
  pub below : (i : ℕ) → i < n → slice_index numbers i < length firsts
  pub each : (k : ℕ) → k < length firsts → IsFirst images end sets n numbers firsts k

pub none_numbered : (images end : ℕ) (sets : List Geometry) → AreNumbered images end sets 0 [] []
none_numbered images end sets = record {
  many = refl;
  alike = λ i j one other i_in j_in is other_is. absurd (omega arith);
  in_order = λ i number i_in lt. absurd (omega arith);
  below = λ i i_in. absurd (omega arith);
  each = λ k lt. absurd (omega arith);
}

-- each first set has a table
pub have_sets : {images end n : ℕ} {sets : List Geometry} {numbers : List ℕ} {firsts : List Table} → AreNumbered images end sets n numbers firsts → All (HasSet images end) firsts
have_sets {images = images} {end = end} {n = n} {sets = sets} {numbers = numbers} {firsts = firsts} far = λ i d lt.
    let first = far.each i lt in
    subst (HasSet images end) (sym (get_or_from_slice_get firsts i first.table d first.first)) (first.geo, first.is)

-- a number is that of a set's class, among the sets before it
record IsNumber (images end : ℕ) (sets : List Geometry) (n : ℕ) (numbers : List ℕ) (geo : Geometry) (k : ℕ) : Type 0 where
  tells : (i : ℕ) (one : Geometry) → i < n → slice_get sets i ≡ Some one → (slice_index numbers i ≡ k) ↔ AreAlike one geo images end

-- that of an alike first set
found_number : {images end n : ℕ} {sets : List Geometry} {numbers : List ℕ} {firsts : List Table} (far : AreNumbered images end sets n numbers firsts) (geo : Geometry) (table : Table) (k : ℕ) → IsTable images end geo table →
    k < length firsts → TellsAlike images end firsts k table → IsNumber images end sets n numbers geo k
found_number {images = images} {end = end} {n = n} {sets = sets} {numbers = numbers} {firsts = firsts} far geo table k is below tells =
    let first = far.each k below in
    let alike : AreAlike first.geo geo images end = tells first.table first.geo geo first.first first.is is in
    record {
      tells = λ i one i_in set.
          let both = far.alike i first.place one first.geo i_in first.below set first.set in (
            λ same. alike_joined one first.geo geo images end (both.0 (same ∙ sym first.number)) alike,
            λ other. both.1 (alike_joined one geo first.geo images end other (alike_turned first.geo geo images end alike)) ∙ first.number,
          );
    }

-- or that of a new class
new_number : {images end n : ℕ} {sets : List Geometry} {numbers : List ℕ} {firsts : List Table} (far : AreNumbered images end sets n numbers firsts) (geo : Geometry) (table : Table) → IsTable images end geo table →
    ((place : ℕ) → place < length firsts → TellsNone images end firsts place table) → IsNumber images end sets n numbers geo (length firsts)
new_number {images = images} {end = end} {n = n} {sets = sets} {numbers = numbers} {firsts = firsts} far geo table is none = record {
  tells = λ i one i_in set.
      let below = far.below i i_in in
      let first = far.each (slice_index numbers i) below in
      let both = far.alike i first.place one first.geo i_in first.below set first.set in (
        λ same. absurd (omega arith),
        λ alike. absurd (none (slice_index numbers i) below first.table first.geo geo first.first first.is is (alike_joined first.geo one geo images end (alike_turned one first.geo images end (both.0 (sym first.number))) alike)),
      );
}

-- what holds of a list of numbers holds with one more
index_left : (numbers : List ℕ) (k i n : ℕ) → length numbers ≡ n → i < n → slice_index (numbers ++ k ∷ []) i ≡ slice_index numbers i
index_left numbers k i n long below = get_or_append_left numbers (k ∷ []) 0 i (omega arith)

index_last : (numbers : List ℕ) (k n : ℕ) → length numbers ≡ n → slice_index (numbers ++ k ∷ []) n ≡ k
index_last numbers k n long = get_or_push numbers k 0 n long

stands_more : (numbers : List ℕ) (k i n number : ℕ) → length numbers ≡ n → i ≤ n → StandsBelow numbers i number → StandsBelow (numbers ++ k ∷ []) i number
stands_more numbers k i n number long within stands = let below = stands.below in record { place = stands.place; below = stands.below; is = index_left numbers k stands.place n long (omega arith) ∙ stands.is }

first_more : {images end n : ℕ} {sets : List Geometry} {numbers : List ℕ} {firsts : List Table} (more : List Table) (k j : ℕ) → length numbers ≡ n → IsFirst images end sets n numbers firsts j →
    IsFirst images end sets (n + 1) (numbers ++ k ∷ []) (firsts ++ more) j
first_more {images = images} {end = end} {n = n} {sets = sets} {numbers = numbers} {firsts = firsts} more k j long first = record {
  place = first.place;
  below = let below = first.below in omega arith;
  geo = first.geo;
  set = first.set;
  number = index_left numbers k first.place n long first.below ∙ first.number;
  table = first.table;
  first = get_left firsts more j first.table first.first;
  is = first.is;
}

-- one more set, with its number
one_more : {images end n : ℕ} {sets : List Geometry} {numbers : List ℕ} {firsts : List Table} (far : AreNumbered images end sets n numbers firsts) (geo : Geometry) (k : ℕ) (more : List Table) → slice_get sets n ≡ Some geo →
    IsNumber images end sets n numbers geo k → k < length (firsts ++ more) → k ≤ length firsts → ((j : ℕ) → j < length (firsts ++ more) → length firsts ≤ j → IsFirst images end sets (n + 1) (numbers ++ k ∷ []) (firsts ++ more) j) →
    AreNumbered images end sets (n + 1) (numbers ++ k ∷ []) (firsts ++ more)
one_more {images = images} {end = end} {n = n} {sets = sets} {numbers = numbers} {firsts = firsts} far geo k more set number within few last = record {
  many = let many = far.many in omega (arith, length-append numbers (k ∷ []));
  alike = alike;
  in_order = λ i m i_in lt. elim (cases_eq i n) [
    | inl same ↦ (let at : slice_index (numbers ++ k ∷ []) i ≡ k = ap (slice_index (numbers ++ k ∷ [])) same ∙ index_last numbers k n far.many in
        let first = far.each m (omega arith) in
        let below = first.below in
        record { place = first.place; below = omega arith; is = index_left numbers k first.place n far.many first.below ∙ first.number })
    | inr apart ↦ (let ne : i ≢ n = apart in
        let at = index_left numbers k i n far.many (omega arith) in
        stands_more numbers k i n m far.many (omega arith) (far.in_order i m (omega arith) (omega arith)))
  ];
  below = λ i i_in. elim (cases_eq i n) [
    | inl same ↦ (let at : slice_index (numbers ++ k ∷ []) i ≡ k = ap (slice_index (numbers ++ k ∷ [])) same ∙ index_last numbers k n far.many in omega arith)
    | inr apart ↦ (let ne : i ≢ n = apart in
        let at = index_left numbers k i n far.many (omega arith) in
        let below = far.below i (omega arith) in
        omega (arith, length-append firsts more))
  ];
  each = λ j lt. elim (cases_lt j (length firsts)) [
    | inl old ↦ first_more more k j far.many (far.each j old)
    | inr new ↦ last j lt new
  ];
}
  where
    side : (i : ℕ) (one : Geometry) → i < n → slice_get sets i ≡ Some one → (slice_index (numbers ++ k ∷ []) i ≡ k) ↔ AreAlike one geo images end
    side i one i_in is =
        let at = index_left numbers k i n far.many i_in in
        let tells = number.tells i one i_in is in
        (λ same. tells.0 (sym at ∙ same), λ alike. at ∙ tells.1 alike)

    alike : (i j : ℕ) (one other : Geometry) → i < n + 1 → j < n + 1 → slice_get sets i ≡ Some one → slice_get sets j ≡ Some other →
        (slice_index (numbers ++ k ∷ []) i ≡ slice_index (numbers ++ k ∷ []) j) ↔ AreAlike one other images end
    alike i j one other i_in j_in is other_is = elim (cases_eq i n) [
      | inl i_last ↦ (let one_is : one ≡ geo = one_element sets n one geo (ap (slice_get sets) (sym i_last) ∙ is) set in
          let i_at : slice_index (numbers ++ k ∷ []) i ≡ k = ap (slice_index (numbers ++ k ∷ [])) i_last ∙ index_last numbers k n far.many in
          elim (cases_eq j n) [
            | inl j_last ↦ (let other_same : other ≡ geo = one_element sets n other geo (ap (slice_get sets) (sym j_last) ∙ other_is) set in
                let j_at : slice_index (numbers ++ k ∷ []) j ≡ k = ap (slice_index (numbers ++ k ∷ [])) j_last ∙ index_last numbers k n far.many in
                let both : one ≡ other = one_is ∙ sym other_same in
                (λ same. subst (λ (g : Geometry). AreAlike one g images end) both (λ bytes are. refl), λ alike. i_at ∙ sym j_at))
            | inr apart ↦ (let ne : j ≢ n = apart in
                let tells = side j other (omega arith) other_is in (
                  λ same. subst (λ (g : Geometry). AreAlike g other images end) (sym one_is) (alike_turned other geo images end (tells.0 (sym same ∙ i_at))),
                  λ alike. i_at ∙ sym (tells.1 (alike_turned geo other images end (subst (λ (g : Geometry). AreAlike g other images end) one_is alike))),
                ))
          ])
      | inr i_apart ↦ (let i_ne : i ≢ n = i_apart in
          elim (cases_eq j n) [
            | inl j_last ↦ (let other_same : other ≡ geo = one_element sets n other geo (ap (slice_get sets) (sym j_last) ∙ other_is) set in
                let j_at : slice_index (numbers ++ k ∷ []) j ≡ k = ap (slice_index (numbers ++ k ∷ [])) j_last ∙ index_last numbers k n far.many in
                let tells = side i one (omega arith) is in (
                  λ same. subst (λ (g : Geometry). AreAlike one g images end) (sym other_same) (tells.0 (same ∙ j_at)),
                  λ alike. tells.1 (subst (λ (g : Geometry). AreAlike one g images end) other_same alike) ∙ sym j_at,
                ))
            | inr j_apart ↦ (let j_ne : j ≢ n = j_apart in
                let i_at = index_left numbers k i n far.many (omega arith) in
                let j_at = index_left numbers k j n far.many (omega arith) in
                let tells = far.alike i j one other (omega arith) (omega arith) is other_is in
                (λ same. tells.0 (sym i_at ∙ same ∙ j_at), λ alike. i_at ∙ tells.1 alike ∙ sym j_at))
          ])
    ]

pub numbered_more : {images end n : ℕ} {sets : List Geometry} {numbers : List ℕ} {firsts : List Table} (far : AreNumbered images end sets n numbers firsts) (geo : Geometry) (table : Table) (k : ℕ) (new : List Table) → slice_get sets n ≡ Some geo →
    IsTable images end geo table → TellsClass images end firsts new table k → AreNumbered images end sets (n + 1) (numbers ++ k ∷ []) new
numbered_more {images = images} {end = end} {n = n} {sets = sets} {numbers = numbers} {firsts = firsts} far geo table k new set is (inl old) =
    let same : firsts ++ [] ≡ new = append-nil firsts ∙ sym old.0 in
    let within = old.1 in
    subst (AreNumbered images end sets (n + 1) (numbers ++ k ∷ [])) same
    (one_more far geo k [] set (found_number far geo table k is old.1 old.2) (let long = ap length (append-nil firsts) in omega arith) (omega arith) (λ j lt from. absurd (let long = ap length (append-nil firsts) in omega arith)))
numbered_more {images = images} {end = end} {n = n} {sets = sets} {numbers = numbers} {firsts = firsts} far geo table k new set is (inr fresh) =
    let at : k ≡ length firsts = fresh.1 in
    let number : IsNumber images end sets n numbers geo k = subst (IsNumber images end sets n numbers geo) (sym at) (new_number far geo table is fresh.2) in
    subst (AreNumbered images end sets (n + 1) (numbers ++ k ∷ [])) (sym fresh.0)
    (one_more far geo k (table ∷ []) set number (omega (arith, length-append firsts (table ∷ []))) (omega arith) (λ j lt from.
    let last : j ≡ length firsts = omega (arith, length-append firsts (table ∷ [])) in
    record {
      place = n;
      below = omega arith;
      geo = geo;
      set = set;
      number = index_last numbers k n far.many ∙ at ∙ sym last;
      table = table;
      first = ap (slice_get (firsts ++ table ∷ [])) last ∙ get_last firsts table;
      is = is;
    }))

-- all sets
pub all_numbered : (images end : ℕ) (sets : List Geometry) (n : ℕ) (numbers : List ℕ) (firsts : List Table) → n ≡ length sets → AreNumbered images end sets n numbers firsts → AreClasses images end sets numbers (length firsts)
all_numbered images end sets n numbers firsts all far = record {
  many = far.many ∙ all;
  alike = λ i j one other is other_is.
      let i_in = slice_get_within sets i one is in
      let j_in = slice_get_within sets j other other_is in
      far.alike i j one other (omega arith) (omega arith) is other_is;
  in_order = λ i number i_in lt. far.in_order i number (omega arith) lt;
  count_is = λ number. (
    λ lt. (let first = far.each number lt in let below = first.below in record { place = first.place; below = omega arith; is = first.number }),
    λ stands. (let below = stands.below in let lt = far.below stands.place (omega arith) in let is = stands.is in omega arith),
  );
}
