-- The parts of a row are apart from each other, and each tie lies in one of them.
use Rattle.std.proofs.Common.{◌≡◌, ℕ, zero, suc, ◌+◌, ◌-◌, ◌≤◌, ◌<◌, ◌^◌, ◌==◌, ◌&&◌, min, Bool, true, false, cond, not, List, [], ◌∷◌, length, inl, inr, refl, sym, ap, ◌∙◌, arith, subst}
use Rattle.std.specs.Int.{bit_at}
use Rattle.std.specs.List.{filter, fold, sum_by}
use Rattle.std.specs.Prelude.{bit_and, bit_or}
use Rattle.std.proofs.lemmas.Bool.{cases_lt}
use Rattle.std.proofs.lemmas.Bool.Decides.{nat_tests}
use Rattle.std.proofs.lemmas.List.Filters.{sum_by-filter_both}
use Rattle.std.proofs.lemmas.List.Sums.{sum_by-append, sum_by-cons}
use Rattle.std.proofs.lemmas.Nat.{pow_pos}
use Rattle.std.proofs.lemmas.Nat.Bits.{and_pow, bit_at-lt, bit_at-zero, bit_at_and, bit_at_or}
use Rattle.row_relations.specs.Tables.{Table, standing_of}
use Rattle.relation_lines.specs.Sets.{is_dependent, is_in, join, parts_below, parts_of, tie_of}

-- ---- images of sets

-- an image is in a set by its bit
by_bit : (set image : ℕ) → is_in set image ≡ (bit_at set (63 - image) == 1)
by_bit set image =
    let few = bit_at-lt set (63 - image) in
    let some : 1 ≤ 2 ^ (63 - image) = pow_pos (63 - image) in
    rw (and_pow set (63 - image)) (elim (cases_lt (bit_at set (63 - image)) 1) [
      | inl none ↦ (let is : bit_at set (63 - image) ≡ 0 = omega arith in rw is (grind (arith, nat_tests)))
      | inr one ↦ (let is : bit_at set (63 - image) ≡ 1 = omega (arith, few) in rw is (grind (arith, nat_tests)))
    ])

in_first : (a b image : ℕ) → is_in a image ≡ true → is_in (bit_or a b) image ≡ true
in_first a b image is =
    let k = 63 - image in
    let here : (bit_at a k == 1) ≡ true = sym (by_bit a image) ∙ is in
    let few = bit_at-lt b k in
    let both : bit_at (bit_or a b) k ≡ 1 = bit_at_or a b k ∙ grind (arith, nat_tests) in
    by_bit (bit_or a b) image ∙ rw both refl

in_second : (a b image : ℕ) → is_in b image ≡ true → is_in (bit_or a b) image ≡ true
in_second a b image is =
    let k = 63 - image in
    let here : (bit_at b k == 1) ≡ true = sym (by_bit b image) ∙ is in
    let few = bit_at-lt a k in
    let both : bit_at (bit_or a b) k ≡ 1 = bit_at_or a b k ∙ grind (arith, nat_tests) in
    by_bit (bit_or a b) image ∙ rw both refl

in_neither : (a b image : ℕ) → is_in a image ≡ false → is_in b image ≡ false → is_in (bit_or a b) image ≡ false
in_neither a b image is none =
    let k = 63 - image in
    let one : (bit_at a k == 1) ≡ false = sym (by_bit a image) ∙ is in
    let other : (bit_at b k == 1) ≡ false = sym (by_bit b image) ∙ none in
    let first = bit_at-lt a k in
    let second = bit_at-lt b k in
    let both : bit_at (bit_or a b) k ≡ 0 = bit_at_or a b k ∙ grind (arith, nat_tests) in
    by_bit (bit_or a b) image ∙ rw both refl

-- sets that share no image
in_one : (a b image : ℕ) → bit_and a b ≡ 0 → is_in b image ≡ true → is_in a image ≡ false
in_one a b image apart is =
    let k = 63 - image in
    let here : (bit_at b k == 1) ≡ true = sym (by_bit b image) ∙ is in
    let none : min (bit_at a k) (bit_at b k) ≡ 0 = sym (bit_at_and a b k) ∙ ap (λ (n : ℕ). bit_at n k) apart ∙ bit_at-zero k in
    let zero : bit_at a k ≡ 0 = grind (arith, nat_tests) in
    by_bit a image ∙ rw zero refl

-- ---- no image is in two parts

abbrev one : ℕ → ℕ → ℕ
one image part = cond (is_in part image) 1 0

abbrev is_apart : ℕ → ℕ → Bool
is_apart tie part = bit_and part tie == 0

abbrev meets : ℕ → ℕ → Bool
meets tie part = not (bit_and part tie == 0)

one_cases : (image a b : ℕ) (x y : Bool) → is_in a image ≡ x → is_in b image ≡ y → one image (bit_or a b) ≤ cond x 1 0 + cond y 1 0
one_cases image a b true y p q = rw (in_first a b image p) (omega arith)
one_cases image a b false true p q = rw (in_second a b image q) (omega arith)
one_cases image a b false false p q = rw (in_neither a b image p q) (omega arith)

one_most : (image : ℕ) (b : Bool) → cond b 1 0 ≤ 1
one_most image true = omega arith
one_most image false = omega arith

-- an image of the sets that became one is in one of them
union_most : (image tie : ℕ) (parts : List ℕ) → one image (fold bit_or tie parts) ≤ one image tie + sum_by (one image) parts
union_most image tie [] = omega arith
union_most image tie (part ∷ parts) =
    let rest = union_most image (bit_or tie part) parts in
    let two = one_cases image tie part (is_in tie image) (is_in part image) refl refl in
    omega (arith, rest, two, sum_by-cons (one image) part parts)

apart_cases : (image tie part : ℕ) (parts : List ℕ) (b : Bool) → is_apart tie part ≡ b → is_in tie image ≡ true → sum_by (one image) parts ≡ 0 → sum_by (one image) (cond b (part ∷ parts) parts) ≡ 0
apart_cases image tie part parts true e is none =
    let zero : bit_and part tie ≡ 0 = grind (arith, nat_tests) in
    let here : one image part ≡ 0 = rw (in_one part tie image zero is) refl in
    omega (arith, sum_by-cons (one image) part parts, here, none)
apart_cases image tie part parts false e is none = none

-- an image of a tie is in no part that is apart from it
apart_none : (image tie : ℕ) (parts : List ℕ) → is_in tie image ≡ true → sum_by (one image) (filter (is_apart tie) parts) ≡ 0
apart_none image tie [] is = refl
apart_none image tie (part ∷ parts) is = apart_cases image tie part (filter (is_apart tie) parts) (is_apart tie part) refl is (apart_none image tie parts is)

joined_sum : (f : ℕ → ℕ) (parts : List ℕ) (tie : ℕ) → sum_by f (join parts tie) ≡ sum_by f (filter (is_apart tie) parts) + f (fold bit_or tie (filter (meets tie) parts))
joined_sum f parts tie =
    let union = fold bit_or tie (filter (meets tie) parts) in
    let last = sum_by-cons f union [] in
    omega (arith, sum_by-append f (filter (is_apart tie) parts) (union ∷ []), last)

both_sums : (f : ℕ → ℕ) (parts : List ℕ) (tie : ℕ) → sum_by f (filter (is_apart tie) parts) + sum_by f (filter (meets tie) parts) ≡ sum_by f parts
both_sums f parts tie = sum_by-filter_both (is_apart tie) (meets tie) (λ part. refl) f parts

join_most : (image tie : ℕ) (parts : List ℕ) (b : Bool) → is_in tie image ≡ b → sum_by (one image) parts ≤ 1 → sum_by (one image) (join parts tie) ≤ 1
join_most image tie parts true is few =
    let none = apart_none image tie parts is in
    let union = one_most image (is_in (fold bit_or tie (filter (meets tie) parts)) image) in
    omega (arith, joined_sum (one image) parts tie, none, union)
join_most image tie parts false is few =
    let none : one image tie ≡ 0 = rw is refl in
    let union = union_most image tie (filter (meets tie) parts) in
    omega (arith, joined_sum (one image) parts tie, both_sums (one image) parts tie, union, none)

next_most : (image tie : ℕ) (parts : List ℕ) (b : Bool) → sum_by (one image) parts ≤ 1 → sum_by (one image) (cond b (join parts tie) parts) ≤ 1
next_most image tie parts true few = join_most image tie parts (is_in tie image) refl few
next_most image tie parts false few = few

below_most : (table : Table) (image n : ℕ) → sum_by (one image) (parts_below table n) ≤ 1
below_most table image zero = omega arith
below_most table image (suc n) = next_most image (tie_of table n) (parts_below table n) (is_dependent (standing_of table n)) (below_most table image n)

pub share_none : (table : Table) (image : ℕ) → sum_by (one image) (parts_of table) ≤ 1
share_none table image = below_most table image (length table.standings)

-- ---- each tie lies in a part

abbrev has : ℕ → ℕ → ℕ → Bool
has first second part = is_in part first && is_in part second

abbrev two : ℕ → ℕ → ℕ → ℕ
two first second part = cond (has first second part) 1 0

both_of : (a b : Bool) → (a && b) ≡ true → (a ≡ true) × (b ≡ true)
both_of true true e = (refl, refl)
both_of true false e = absurd (cc)
both_of false b e = absurd (cc)

has_first : (first second a b : ℕ) → has first second a ≡ true → has first second (bit_or a b) ≡ true
has_first first second a b e = let both = both_of (is_in a first) (is_in a second) e in rw (in_first a b first both.0, in_first a b second both.1) refl

has_second : (first second a b : ℕ) → has first second b ≡ true → has first second (bit_or a b) ≡ true
has_second first second a b e = let both = both_of (is_in b first) (is_in b second) e in rw (in_second a b first both.0, in_second a b second both.1) refl

union_keeps : (first second tie : ℕ) (parts : List ℕ) → has first second tie ≡ true → has first second (fold bit_or tie parts) ≡ true
union_keeps first second tie [] e = e
union_keeps first second tie (part ∷ parts) e = union_keeps first second (bit_or tie part) parts (has_first first second tie part e)

mutual_has : (first second tie part : ℕ) (parts : List ℕ) (b : Bool) → has first second part ≡ b → 1 ≤ cond b 1 0 + sum_by (two first second) parts →
    ((other : ℕ) → 1 ≤ sum_by (two first second) parts → has first second (fold bit_or other parts) ≡ true) → has first second (fold bit_or (bit_or tie part) parts) ≡ true
mutual_has first second tie part parts true e some rest = union_keeps first second (bit_or tie part) parts (has_second first second tie part e)
mutual_has first second tie part parts false e some rest = rest (bit_or tie part) (omega (arith, some))

union_has : (first second : ℕ) (parts : List ℕ) (tie : ℕ) → 1 ≤ sum_by (two first second) parts → has first second (fold bit_or tie parts) ≡ true
union_has first second [] tie some = absurd (omega arith)
union_has first second (part ∷ parts) tie some =
    mutual_has first second tie part parts (has first second part) refl (omega (arith, some, sum_by-cons (two first second) part parts)) (λ other. union_has first second parts other)

join_has : (first second tie : ℕ) (parts : List ℕ) → has first second tie ≡ true → 1 ≤ sum_by (two first second) (join parts tie)
join_has first second tie parts e =
    let one : two first second (fold bit_or tie (filter (meets tie) parts)) ≡ 1 = rw (union_keeps first second tie (filter (meets tie) parts) e) refl in
    omega (arith, joined_sum (two first second) parts tie, one)

join_keeps : (first second tie : ℕ) (parts : List ℕ) → 1 ≤ sum_by (two first second) parts → 1 ≤ sum_by (two first second) (join parts tie)
join_keeps first second tie parts some = elim (cases_lt (sum_by (two first second) (filter (is_apart tie) parts)) 1) [
  | inl none ↦
      (let met : 1 ≤ sum_by (two first second) (filter (meets tie) parts) = omega (arith, both_sums (two first second) parts tie) in
      let one : two first second (fold bit_or tie (filter (meets tie) parts)) ≡ 1 = rw (union_has first second (filter (meets tie) parts) tie met) refl in
      omega (arith, joined_sum (two first second) parts tie, one))
  | inr apart ↦ omega (arith, joined_sum (two first second) parts tie, apart)
]

next_keeps : (first second tie : ℕ) (parts : List ℕ) (b : Bool) → 1 ≤ sum_by (two first second) parts → 1 ≤ sum_by (two first second) (cond b (join parts tie) parts)
next_keeps first second tie parts true some = join_keeps first second tie parts some
next_keeps first second tie parts false some = some

below_has : (table : Table) (image first second n : ℕ) → image < n → is_dependent (standing_of table image) ≡ true → has first second (tie_of table image) ≡ true → 1 ≤ sum_by (two first second) (parts_below table n)
below_has table image first second zero lt dependent e = absurd (omega arith)
below_has table image first second (suc n) lt dependent e = elim (cases_lt image n) [
  | inl before ↦ next_keeps first second (tie_of table n) (parts_below table n) (is_dependent (standing_of table n)) (below_has table image first second n before dependent e)
  | inr last ↦
      (let same : image ≡ n = omega arith in
      let here : is_dependent (standing_of table n) ≡ true = ap (λ (k : ℕ). is_dependent (standing_of table k)) (sym same) ∙ dependent in
      let tie : has first second (tie_of table n) ≡ true = ap (λ (k : ℕ). has first second (tie_of table k)) (sym same) ∙ e in
      subst (λ (b : Bool). 1 ≤ sum_by (two first second) (cond b (join (parts_below table n) (tie_of table n)) (parts_below table n))) (sym here) (join_has first second (tie_of table n) (parts_below table n) tie))
]

pub ties_lie_in : (table : Table) (image first second : ℕ) → image < length table.standings → is_dependent (standing_of table image) ≡ true → is_in (tie_of table image) first ≡ true → is_in (tie_of table image) second ≡ true →
    1 ≤ sum_by (two first second) (parts_of table)
ties_lie_in table image first second lt dependent one other = below_has table image first second (length table.standings) lt dependent (rw (one, other) refl)
