-- Lists of bases: how many there are, what stands at a rank, and which rank a list has.
use Rattle.std.proofs.Common.{ℕ, zero, suc, ◌≡◌, ◌+◌, ◌-◌, ◌*◌, ◌<◌, ◌≤◌, ◌==◌, List, [], ◌∷◌, ◌++◌, length, map, drop, refl, sym, ap, ap₂, ◌∙◌, subst, arith, Option, Some, None, slice_get, option_map, get_or, ◌/◌, ◌%◌, ◌^◌, min}
use Rattle.std.proofs.Math.Nat.{add-mul, mul_assoc, mul-le-mul_right, zero-mul}
use Rattle.std.proofs.lemmas.List.{drop_all}
use Rattle.std.proofs.lemmas.Nat.{mul-le}
use Rattle.std.specs.List.{flat_map, position}
use Rattle.set_product.specs.Pairs.{joined, pairs}
use Rattle.set_product.proofs.Pairs.{column_within, length_pairs, pair_found, place_within, position_map, position_pairs, row_within, second_some}
use Rattle.slot_math.proofs.Nested.{get-map, length-map}
use Rattle.wide_product.specs.Bases.{base_lists, same_bases}

-- the place of a list whose front stands at this place: so many lists begin with it
abbrev pub later : ℕ → ℕ → Option ℕ → Option ℕ
later front count None = None
later front count (Some rank) = Some (front * count + rank)

map_append : {A B : Type 0} (f : A → B) (us vs : List A) → map f (us ++ vs) ≡ map f us ++ map f vs
map_append f [] vs = refl
map_append {A} {B} f (u ∷ us) vs = ap (λ (l : List B). f u ∷ l) (map_append f us vs)

map_map : {A B C : Type 0} (f : B → C) (g : A → B) (xs : List A) → map f (map g xs) ≡ map (λ x. f (g x)) xs
map_map f g [] = refl
map_map {A} {B} {C} f g (x ∷ xs) = ap (λ (l : List C). f (g x) ∷ l) (map_map f g xs)

-- those of one image more are pairs
pub are_pairs : (xs : List ℕ) (ls : List (List ℕ)) → flat_map (λ base. map (λ bases. base ∷ bases) ls) xs ≡ map (λ p. p.0 ∷ p.1) (pairs xs ls)
unfolding pairs
are_pairs [] ls = refl
are_pairs (x ∷ xs) ls =
    ap₂ (λ (a b : List (List ℕ)). a ++ b) (sym (map_map (λ (p : ℕ × List ℕ). p.0 ∷ p.1) (λ (l : List ℕ). let c : ℕ × List ℕ = (x, l) in c) ls)) (are_pairs xs ls)
    ∙ sym (map_append (λ (p : ℕ × List ℕ). p.0 ∷ p.1) (map (λ (l : List ℕ). let c : ℕ × List ℕ = (x, l) in c) ls) (pairs xs ls))

pub more : (offsets : List ℕ) (n : ℕ) → base_lists offsets (suc n) ≡ map (λ p. p.0 ∷ p.1) (pairs offsets (base_lists offsets n))
unfolding base_lists
more offsets n = are_pairs offsets (base_lists offsets n)

pub count_none : (offsets : List ℕ) → length (base_lists offsets 0) ≡ 1
unfolding base_lists
count_none offsets = refl

pub count_more : (offsets : List ℕ) (n : ℕ) → length (base_lists offsets (suc n)) ≡ length offsets * length (base_lists offsets n)
count_more offsets n =
    ap length (more offsets n)
    ∙ length-map (λ (p : ℕ × List ℕ). p.0 ∷ p.1) (pairs offsets (base_lists offsets n))
    ∙ length_pairs offsets (base_lists offsets n)

pub count_some : (offsets : List ℕ) (n : ℕ) → 1 ≤ length offsets → 1 ≤ length (base_lists offsets n)
count_some offsets zero some = let e = count_none offsets in omega arith
count_some offsets (suc n) some =
    let e = count_more offsets n in
    let before = count_some offsets n some in
    let more : 1 * length (base_lists offsets n) ≤ length offsets * length (base_lists offsets n) = mul-le-mul_right (length (base_lists offsets n)) some in
    omega arith

-- those of fewer images are no more
pub count_fewer : (offsets : List ℕ) (n k : ℕ) → 1 ≤ length offsets → length (base_lists offsets n) ≤ length (base_lists offsets (k + n))
count_fewer offsets n zero some = ap_le (ap (λ (m : ℕ). length (base_lists offsets m)) (let e : n ≡ 0 + n = omega arith in e))
  where
    ap_le : {a b : ℕ} → a ≡ b → a ≤ b
    ap_le e = omega arith
count_fewer offsets n (suc k) some =
    let before = count_fewer offsets n k some in
    let e = count_more offsets (k + n) in
    let more : 1 * length (base_lists offsets (k + n)) ≤ length offsets * length (base_lists offsets (k + n)) = mul-le-mul_right (length (base_lists offsets (k + n))) some in
    let place : length (base_lists offsets (suc k + n)) ≡ length (base_lists offsets (suc (k + n))) = ap (λ (m : ℕ). length (base_lists offsets m)) (let f : suc k + n ≡ suc (k + n) = omega arith in f) in
    omega arith

-- what stands at a rank
pub found : (offsets : List ℕ) (n rank base : ℕ) (bases : List ℕ) → slice_get offsets (rank / length (base_lists offsets n)) ≡ Some base → slice_get (base_lists offsets n) (rank % length (base_lists offsets n)) ≡ Some bases →
    slice_get (base_lists offsets (suc n)) rank ≡ Some (base ∷ bases)
found offsets n rank base bases e f =
    ap (λ (l : List (List ℕ)). slice_get l rank) (more offsets n)
    ∙ get-map (λ (p : ℕ × List ℕ). p.0 ∷ p.1) (pairs offsets (base_lists offsets n)) rank
    ∙ ap (option_map (λ (p : ℕ × List ℕ). p.0 ∷ p.1)) (pair_found offsets (base_lists offsets n) rank base bases e f)

-- the place of a list, by that of its first base
pub placed : (offsets : List ℕ) (n base : ℕ) (bases : List ℕ) →
    position (same_bases (base ∷ bases)) (base_lists offsets (suc n)) ≡ joined (length (base_lists offsets n)) (position (λ offset. base == offset) offsets) (position (same_bases bases) (base_lists offsets n))
unfolding same_bases
placed offsets n base bases =
    ap (position (same_bases (base ∷ bases))) (more offsets n)
    ∙ position_map (same_bases (base ∷ bases)) (λ (p : ℕ × List ℕ). p.0 ∷ p.1) (pairs offsets (base_lists offsets n))
    ∙ position_pairs (λ (offset : ℕ). base == offset) (same_bases bases) offsets (base_lists offsets n)

-- a digit of a rank, and what is left: so many lists have the same first base
pub record Digit (offsets : List ℕ) (images image rest count : ℕ) : Type 0 where
  pub few : length (base_lists offsets (images - (image + 1))) < 2 ^ 64
  pub counts : count ≡ length (base_lists offsets (images - (image + 1)))
  pub some : 0 < count
  pub row : rest / count < length offsets
  pub column : rest % count < length (base_lists offsets (images - (image + 1)))
  pub front : (base : ℕ) (bases : List ℕ) → slice_get offsets (rest / count) ≡ Some base → slice_get (base_lists offsets (images - (image + 1))) (rest % count) ≡ Some bases →
      slice_get (base_lists offsets (images - image)) rest ≡ Some (base ∷ bases)

pub digit : (offsets : List ℕ) (images image rest count : ℕ) → image < images → rest < length (base_lists offsets (images - image)) → length (base_lists offsets (images - image)) < 2 ^ 64 →
    count ≡ min (length (base_lists offsets (images - image - 1))) (2 ^ 64) → Digit offsets images image rest count
digit offsets images image rest count within below few is =
    let n = images - (image + 1) in
    let left : images - image ≡ suc (images - (image + 1)) = omega arith in
    let all : length (base_lists offsets (images - image)) ≡ length offsets * length (base_lists offsets (images - (image + 1))) = ap (λ (m : ℕ). length (base_lists offsets m)) left ∙ count_more offsets n in
    let same : length (base_lists offsets (images - image - 1)) ≡ length (base_lists offsets (images - (image + 1))) = ap (λ (m : ℕ). length (base_lists offsets m)) (let e : images - image - 1 ≡ images - (image + 1) = omega arith in e) in
    let less : rest < length offsets * length (base_lists offsets (images - (image + 1))) = omega arith in
    let some = second_some rest (length offsets) (length (base_lists offsets n)) less in
    let any : 1 ≤ length offsets = at_least (length offsets) (length (base_lists offsets n)) less in
    let fewer : 1 * length (base_lists offsets (images - (image + 1))) ≤ length offsets * length (base_lists offsets (images - (image + 1))) = mul-le-mul_right (length (base_lists offsets n)) any in
    let count_is : count ≡ length (base_lists offsets (images - (image + 1))) = omega arith in
    let P : ℕ → Type 0 = λ c. (rest / c < length offsets) × (rest % c < length (base_lists offsets (images - (image + 1)))) in
    let digits = subst P (sym count_is) (row_within rest (length offsets) (length (base_lists offsets n)) less, column_within rest (length offsets) (length (base_lists offsets n)) less) in
    record {
      few = omega arith;
      counts = count_is;
      some = omega arith;
      row = digits.0;
      column = digits.1;
      front = λ base bases e f.
          ap (λ (m : ℕ). slice_get (base_lists offsets m) rest) left
          ∙ found offsets n rest base bases (sym (ap (λ (c : ℕ). slice_get offsets (rest / c)) count_is) ∙ e) (sym (ap (λ (c : ℕ). slice_get (base_lists offsets n) (rest % c)) count_is) ∙ f);
    }
  where
    at_least : (a b : ℕ) {r : ℕ} → r < a * b → 1 ≤ a
    at_least zero b below = let none : zero * b ≡ 0 = zero-mul b in absurd (omega arith)
    at_least (suc a) b below = omega arith

-- there is one list for no image
pub last_one : (offsets : List ℕ) (images image rest : ℕ) → images ≤ image → rest < length (base_lists offsets (images - image)) → slice_get (base_lists offsets (images - image)) rest ≡ Some []
unfolding base_lists
last_one offsets images image rest past below =
    let none : images - image ≡ 0 = omega arith in
    let only : length (base_lists offsets (images - image)) ≡ 1 = ap (λ (m : ℕ). length (base_lists offsets m)) none in
    ap (λ (m : ℕ). slice_get (base_lists offsets m) rest) none
    ∙ ap (slice_get (base_lists offsets 0)) (let e : rest ≡ 0 = omega arith in e)

from_here : {A : Type 0} (xs : List A) (i : ℕ) (d : A) → i < length xs → drop i xs ≡ get_or xs i d ∷ drop (i + 1) xs
from_here [] i d within = absurd (omega arith)
from_here (x ∷ xs) zero d within = refl
from_here {A} (x ∷ xs) (suc i) d within = from_here xs i d (omega arith) ∙ ap (λ (k : ℕ). get_or xs i d ∷ drop k (x ∷ xs)) (let f : suc (i + 1) ≡ suc i + 1 = omega arith in f)

later_step : (front digits count place : ℕ) (o : Option ℕ) → later front (digits * count) (joined count (Some place) o) ≡ later (front * digits + place) count o
later_step front digits count place None = refl
later_step front digits count place (Some rank) = ap (λ (n : ℕ). Some n) (let a = mul_assoc front digits count in let b = add-mul (front * digits) place count in let e : front * (digits * count) + (place * count + rank) ≡ (front * digits + place) * count + rank = omega (arith, a, b) in e)

-- the place of the lists whose front is known, by one base more
pub record Front (offsets bases : List ℕ) (front index place : ℕ) : Type 0 where
  pub fits : front * length offsets + place < 2 ^ 64
  pub few : (front * length offsets + place) * length (base_lists offsets (length bases - (index + 1))) + length (base_lists offsets (length bases - (index + 1))) ≤ length (base_lists offsets (length bases))
  pub goes : later front (length (base_lists offsets (length bases - index))) (position (same_bases (drop index bases)) (base_lists offsets (length bases - index)))
      ≡ later (front * length offsets + place) (length (base_lists offsets (length bases - (index + 1)))) (position (same_bases (drop (index + 1) bases)) (base_lists offsets (length bases - (index + 1))))

one_more : (offsets bases : List ℕ) (index base : ℕ) → index < length bases → base ≡ get_or bases index base →
    position (same_bases (drop index bases)) (base_lists offsets (length bases - index)) ≡ joined (length (base_lists offsets (length bases - (index + 1)))) (position (λ offset. base == offset) offsets) (position (same_bases (drop (index + 1) bases)) (base_lists offsets (length bases - (index + 1))))
one_more offsets bases index base within is =
    let left : length bases - index ≡ suc (length bases - (index + 1)) = omega arith in
    ap₂ (λ (l : List ℕ) (n : ℕ). position (same_bases l) (base_lists offsets n)) (from_here bases index base within ∙ ap (λ (b : ℕ). b ∷ drop (index + 1) bases) (sym is)) left
    ∙ placed offsets (length bases - (index + 1)) base (drop (index + 1) bases)

pub one_front : (offsets bases : List ℕ) (front index base place : ℕ) → index < length bases → base ≡ get_or bases index base → position (λ offset. base == offset) offsets ≡ Some place →
    front * length (base_lists offsets (length bases - index)) + length (base_lists offsets (length bases - index)) ≤ length (base_lists offsets (length bases)) → length (base_lists offsets (length bases)) < 2 ^ 64 →
    Front offsets bases front index place
one_front offsets bases front index base place within is there_is few fits =
    let n = length bases - (index + 1) in
    let count = length (base_lists offsets (length bases - (index + 1))) in
    let left : length bases - index ≡ suc (length bases - (index + 1)) = omega arith in
    let all : length (base_lists offsets (length bases - index)) ≡ length offsets * length (base_lists offsets (length bases - (index + 1))) = ap (λ (m : ℕ). length (base_lists offsets m)) left ∙ count_more offsets n in
    let there : place < length offsets = place_within (λ (offset : ℕ). base == offset) offsets place there_is in
    let some = count_some offsets n (let e : 1 ≤ length offsets = omega arith in e) in
    let whole : front * length (base_lists offsets (length bases - index)) ≡ front * length offsets * length (base_lists offsets (length bases - (index + 1))) = ap (λ (m : ℕ). front * m) all ∙ sym (mul_assoc front (length offsets) count) in
    let digits : (front * length offsets + place) * length (base_lists offsets (length bases - (index + 1))) ≡ front * length offsets * length (base_lists offsets (length bases - (index + 1))) + place * length (base_lists offsets (length bases - (index + 1))) = add-mul (front * length offsets) place count in
    let next : (place + 1) * length (base_lists offsets (length bases - (index + 1))) ≤ length offsets * length (base_lists offsets (length bases - (index + 1))) = mul-le-mul_right count (let e : place + 1 ≤ length offsets = omega arith in e) in
    let step : (place + 1) * length (base_lists offsets (length bases - (index + 1))) ≡ place * length (base_lists offsets (length bases - (index + 1))) + 1 * length (base_lists offsets (length bases - (index + 1))) = add-mul place 1 count in
    let one : (front * length offsets + place) * 1 ≤ (front * length offsets + place) * length (base_lists offsets (length bases - (index + 1))) = mul-le (front * length offsets + place) 1 (front * length offsets + place) count (omega arith) some in
    record {
      few = omega arith;
      fits = omega arith;
      goes =
          ap₂ (λ (m : ℕ) (o : Option ℕ). later front m o) all (one_more offsets bases index base within is ∙ ap (λ (o : Option ℕ). joined count o (position (same_bases (drop (index + 1) bases)) (base_lists offsets n))) there_is)
          ∙ later_step front (length offsets) count place (position (same_bases (drop (index + 1) bases)) (base_lists offsets n));
    }

-- where a base is no offset
pub no_front : (offsets bases : List ℕ) (front index base : ℕ) → index < length bases → base ≡ get_or bases index base → position (λ offset. base == offset) offsets ≡ None →
    later front (length (base_lists offsets (length bases - index))) (position (same_bases (drop index bases)) (base_lists offsets (length bases - index))) ≡ None
no_front offsets bases front index base within is none =
    ap (later front (length (base_lists offsets (length bases - index)))) (one_more offsets bases index base within is ∙ ap (λ (o : Option ℕ). joined (length (base_lists offsets (length bases - (index + 1)))) o (position (same_bases (drop (index + 1) bases)) (base_lists offsets (length bases - (index + 1))))) none)

-- all bases are in front
pub whole_front : (offsets bases : List ℕ) (front index : ℕ) → length bases ≤ index →
    later front (length (base_lists offsets (length bases - index))) (position (same_bases (drop index bases)) (base_lists offsets (length bases - index))) ≡ Some front
unfolding base_lists same_bases
whole_front offsets bases front index past =
    let none : length bases - index ≡ 0 = omega arith in
    ap₂ (λ (n : ℕ) (l : List ℕ). later front (length (base_lists offsets n)) (position (same_bases l) (base_lists offsets n))) none (drop_all index bases past)
    ∙ ap (λ (n : ℕ). Some n) (let e : front * 1 + 0 ≡ front = omega arith in e)

pub no_bases : (offsets bases : List ℕ) → position (same_bases bases) (base_lists offsets (length bases)) ≡ later 0 (length (base_lists offsets (length bases - 0))) (position (same_bases (drop 0 bases)) (base_lists offsets (length bases - 0)))
no_bases offsets bases =
    of_zero (length (base_lists offsets (length bases))) (position (same_bases bases) (base_lists offsets (length bases)))
    ∙ ap (λ (n : ℕ). later 0 (length (base_lists offsets n)) (position (same_bases bases) (base_lists offsets n))) (let e : length bases ≡ length bases - 0 = omega arith in e)
  where
    of_zero : (count : ℕ) (o : Option ℕ) → o ≡ later 0 count o
    of_zero count None = refl
    of_zero count (Some n) = ap (λ (m : ℕ). Some m) (let z = zero-mul count in let e : n ≡ 0 * count + n = omega (arith, z) in e)

-- what is read at a place does not depend on what is given past the end
pub slot : (xs : List ℕ) (i : ℕ) → i < length xs → get_or xs i 0 ≡ get_or xs i (get_or xs i 0)
slot [] i within = absurd (omega arith)
slot (x ∷ xs) zero within = refl
slot (x ∷ xs) (suc i) within = slot xs i (omega arith)
