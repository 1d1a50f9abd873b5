-- The offset of a set word, and the numbers that it spells.
use Rattle.std.proofs.Common.{◌≡◌, ◌≢◌, ◌≤◌, ◌<◌, ◌^◌, ℕ, IsTrue, ◌==◌, ◌||◌, List, [], ◌∷◌, All, length, map, decimal, max, refl, sym, ap, ◌∙◌, subst, arith}
use Rattle.std.specs.List.{fold}
use Rattle.std.proofs.lemmas.Bool.Decides.{nat_tests}
use Rattle.std.proofs.lemmas.Fmt.{decimal_injective}
use Rattle.std.proofs.lemmas.List.Elements.{All-nil, All-cons, All-head, All-tail}
use Rattle.raid_params.specs.Bases.{greatest_base, is_offset_of}
use Rattle.raid_params.specs.declared.limits.TheConstants.{MOST}
use Rattle.value_text.specs.NameLaws.{in_lists_with, number_law}
use Rattle.value_text.specs.SetText.{HasOffset, offset_name}
use Rattle.value_text.specs.Spelling.{IsListName, pluses}
use Rattle.value_text.proofs.Lists.{joined_without}
use Rattle.value_text.proofs.Spellings.{IsWithout, same_joined}

-- numbers below 2 ^ 64 may be joined by plus signs
pub numbers_join : IsListName 43 decimal (λ n. n < 2 ^ 64)
numbers_join = in_lists_with 43 refl decimal (λ n. n < 2 ^ 64) number_law

-- the numbers that stand there
abbrev pub numbers_of : ℕ → List ℕ → List ℕ
numbers_of offset [] = offset ∷ []
numbers_of offset (base ∷ bases) = base ∷ bases

pub name_is : (offset : ℕ) (bases : List ℕ) → offset_name offset bases ≡ pluses (map decimal (numbers_of offset bases))
name_is offset [] = refl
name_is offset (base ∷ bases) = refl

pub some_numbers : (offset : ℕ) (bases : List ℕ) → 1 ≤ length (numbers_of offset bases)
some_numbers offset [] = omega arith
some_numbers offset (base ∷ bases) = omega arith

pub few_numbers : (offset : ℕ) (bases : List ℕ) → HasOffset offset bases → length (numbers_of offset bases) ≤ MOST
few_numbers offset [] has = omega arith
few_numbers offset (base ∷ bases) has = has.most

pub numbers_fit : (offset : ℕ) (bases : List ℕ) → HasOffset offset bases → All (λ n. n < 2 ^ 64) (numbers_of offset bases)
numbers_fit offset [] has = All-cons (λ n. n < 2 ^ 64) offset [] (omega arith) (All-nil (λ n. n < 2 ^ 64))
numbers_fit offset (base ∷ bases) has = λ k d lt. omega (arith, has.small k d lt)

-- numbers that were read are those of the offset
pub same_numbers : (numbers : List ℕ) (offset : ℕ) (bases : List ℕ) → 1 ≤ length numbers → All (λ n. n < 2 ^ 64) numbers → HasOffset offset bases → pluses (map decimal numbers) ≡ offset_name offset bases → numbers ≡ numbers_of offset bases
same_numbers numbers offset bases some all has e =
    same_joined 43 decimal (λ n. n < 2 ^ 64) numbers_join numbers (numbers_of offset bases) some (some_numbers offset bases) all (numbers_fit offset bases has) (e ∙ name_is offset bases)

-- no colon stands in it
pub has_no_colon : (offset : ℕ) (bases : List ℕ) → HasOffset offset bases → IsWithout 58 (offset_name offset bases)
has_no_colon offset bases has =
    subst (λ (bytes : List ℕ). IsWithout 58 bytes) (sym (name_is offset bases))
    (joined_without 43 58 (λ e. absurd (omega (arith, e))) refl decimal (λ n. n < 2 ^ 64) number_law (numbers_of offset bases) (numbers_fit offset bases has))

-- the offset of bases is the greatest of them
pub greatest_is : (offset base : ℕ) (bases : List ℕ) → IsTrue (is_offset_of (base ∷ bases) offset) → offset ≡ greatest_base (base ∷ bases)
greatest_is offset base bases is = told offset (length (base ∷ bases)) (greatest_base (base ∷ bases)) is (omega arith)
  where
    told : (m n g : ℕ) → IsTrue (n == 0 || m == g) → 1 ≤ n → m ≡ g
    told m n g is some = grind (arith, nat_tests)

pub is_offset : (offset : ℕ) (bases : List ℕ) → offset ≡ greatest_base bases → IsTrue (is_offset_of bases offset)
is_offset offset bases is = told offset (length bases) (greatest_base bases) is
  where
    told : (m n g : ℕ) → m ≡ g → IsTrue (n == 0 || m == g)
    told m n g is = grind (arith, nat_tests)

-- offsets with the same name are the same
pub same_offset : (m n : ℕ) (ms bs : List ℕ) → HasOffset m ms → HasOffset n bs → IsTrue (is_offset_of ms m) → IsTrue (is_offset_of bs n) → offset_name m ms ≡ offset_name n bs → (m ≡ n) × (ms ≡ bs)
same_offset m n [] [] p q a b e = (decimal_injective m n (omega arith) (omega arith) e, refl)
same_offset m n [] (y ∷ bs) p q a b e =
    let same = ap length (same_numbers (m ∷ []) n (y ∷ bs) (omega arith) (numbers_fit m [] p) q e) in
    let some = q.some in
    absurd (omega arith)
same_offset m n (x ∷ ms) [] p q a b e =
    let same = ap length (same_numbers (x ∷ ms) n [] (omega arith) (numbers_fit m (x ∷ ms) p) q e) in
    let some = p.some in
    absurd (omega arith)
same_offset m n (x ∷ ms) (y ∷ bs) p q a b e =
    let same : x ∷ ms ≡ y ∷ bs = same_numbers (x ∷ ms) n (y ∷ bs) (omega arith) (numbers_fit m (x ∷ ms) p) q e in
    (greatest_is m x ms a ∙ ap (λ (zs : List ℕ). greatest_base zs) same ∙ sym (greatest_is n y bs b), same)

-- the greatest base is below what all are below, and all are at most the greatest
pub greatest_below : (limit first : ℕ) (bases : List ℕ) → first < limit → All (λ base. base < limit) bases → fold max first bases < limit
greatest_below limit first [] small all = small
greatest_below limit first (base ∷ bases) small all =
    let head = All-head (λ b. b < limit) base bases all in
    greatest_below limit (max first base) bases (omega arith) (All-tail (λ b. b < limit) base bases all)

at_least : (first : ℕ) (bases : List ℕ) → first ≤ fold max first bases
at_least first [] = omega arith
at_least first (base ∷ bases) = let more = at_least (max first base) bases in omega arith

pub all_below : (limit first : ℕ) (bases : List ℕ) → fold max first bases < limit → All (λ base. base < limit) bases
all_below limit first [] small = All-nil (λ base. base < limit)
all_below limit first (base ∷ bases) small =
    let more = at_least (max first base) bases in
    All-cons (λ b. b < limit) base bases (omega arith) (all_below limit (max first base) bases small)

-- bases that were read are those of an offset
pub are_bases : (text numbers : List ℕ) (greatest : ℕ) → 1 ≤ length numbers → length numbers ≤ MOST → length numbers ≢ 1 → greatest ≡ greatest_base numbers → greatest < 2 ^ 54 → text ≡ pluses (map decimal numbers) →
    HasOffset greatest numbers × IsTrue (is_offset_of numbers greatest) × (text ≡ offset_name greatest numbers)
are_bases text [] greatest some few more is small e = absurd (omega arith)
are_bases text (x ∷ []) greatest some few more is small e = absurd (more refl)
are_bases text (x ∷ y ∷ numbers) greatest some few more is small e = (
  record { some = omega arith; most = few; small = all_below (2 ^ 54) 0 (x ∷ y ∷ numbers) (omega (arith, is)) },
  is_offset greatest (x ∷ y ∷ numbers) is,
  e,
)

-- numbers that were read and are out of range are those of no offset
pub no_offset : (numbers : List ℕ) (greatest offset : ℕ) (bases : List ℕ) → 1 ≤ length numbers → All (λ n. n < 2 ^ 64) numbers → greatest ≡ greatest_base numbers →
    (length numbers ≡ 1 → 2 ^ 55 ≤ greatest) → (length numbers ≢ 1 → 2 ^ 54 ≤ greatest) → HasOffset offset bases → pluses (map decimal numbers) ≡ offset_name offset bases → ⊥
no_offset numbers greatest offset [] some all is one more has e =
    let same = same_numbers numbers offset [] some all has e in
    let high = one (ap length same) in
    let at = ap (λ (ns : List ℕ). greatest_base ns) same in
    omega arith
no_offset numbers greatest offset (base ∷ bases) some all is one more has e =
    let same = same_numbers numbers offset (base ∷ bases) some all has e in
    let count = ap length same in
    let least = has.some in
    let high = more (λ single. absurd (omega arith)) in
    let at : greatest_base numbers ≡ greatest_base (base ∷ bases) = ap (λ (ns : List ℕ). greatest_base ns) same in
    let low : greatest_base (base ∷ bases) < 2 ^ 54 = greatest_below (2 ^ 54) 0 (base ∷ bases) (omega arith) has.small in
    omega arith
