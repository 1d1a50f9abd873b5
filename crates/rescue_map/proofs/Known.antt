-- Good sectors, and the cells that are known by them.
use Rattle.std.proofs.Common.{ℕ, zero, suc, ◌≡◌, ◌+◌, ◌*◌, ◌<◌, ◌≤◌, ◌==◌, ◌||◌, ◌&&◌, ◌⊎◌, inl, inr, max, Bool, true, false, IsTrue, List, [], ◌∷◌, length, get_or, refl, sym, ap, ◌∙◌, subst, arith, Option, Some, None}
use Rattle.std.proofs.lemmas.Bool.{cases_order}
use Rattle.std.proofs.lemmas.Bool.Decides.{nat_tests}
use Rattle.std.specs.List.{fold, list_all, range_with_len}
use Rattle.raid_params.specs.Bases.{greatest_base}
use Rattle.raid_params.specs.declared.wide.Wide.{Wide}
use Rattle.rescue_text.specs.Good.{AreGood, AreGoodIn, IsGood, IsGoodIn, is_read, section_of}
use Rattle.rescue_text.specs.declared.section.Section.{Section}
use Rattle.rescue_map.specs.Damaged.{is_good, is_good_in}

-- ---- the base of an image is not past the offset

fold_up : (first : ℕ) (bases : List ℕ) → first ≤ fold max first bases
fold_up first [] = omega arith
fold_up first (base ∷ bases) = let more = fold_up (max first base) bases in omega arith

below : (first : ℕ) (bases : List ℕ) (i d : ℕ) → i < length bases → get_or bases i d ≤ fold max first bases
below first [] i d lt = absurd (omega arith)
below first (base ∷ bases) zero d lt = let up = fold_up (max first base) bases in omega arith
below first (base ∷ bases) (suc i) d lt = below (max first base) bases i d (omega arith)

or_right : (a b : Bool) → a ≡ false → IsTrue (a || b) → b ≡ true
or_right true b is either = absurd (cc)
or_right false b is either = either

some_length : {A : Type 0} (xs : List A) → 0 < length xs → (length xs == 0) ≡ false
some_length xs some = grind (arith, nat_tests)

-- each base is at most the offset
pub all_below : (set : Wide) (image d : ℕ) → image < length set.bases.items → get_or set.bases.items image d ≤ set.geo.head.offset
all_below set image d lt =
    let bases = set.bases.items in
    let same = or_right (length bases == 0) (set.geo.head.offset == greatest_base bases) (some_length bases (omega arith)) set.is_greatest in
    let greatest : set.geo.head.offset ≡ greatest_base bases = grind (arith, nat_tests) in
    let le = below 0 bases image d lt in
    omega arith

-- ---- good sectors

-- each element of a list is so
every : (p : ℕ → Bool) (a n : ℕ) → ((w : ℕ) → a ≤ w → w < a + n → p w ≡ true) → list_all p (range_with_len a n) ≡ true
every p a zero all = refl
every p a (suc n) all =
    ap (λ (b : Bool). b && list_all p (range_with_len (a + 1) n)) (all a (omega arith) (omega arith))
    ∙ every p (a + 1) n (λ w low high. all w (omega arith) (omega arith))

both_first : (a b : Bool) → (a && b) ≡ true → a ≡ true
both_first true b is = refl
both_first false b is = absurd (cc)

both_second : (a b : Bool) → (a && b) ≡ true → b ≡ true
both_second true b is = is
both_second false b is = absurd (cc)

each : (p : ℕ → Bool) (a n : ℕ) → list_all p (range_with_len a n) ≡ true → (w : ℕ) → a ≤ w → w < a + n → p w ≡ true
each p a zero all w low high = absurd (omega arith)
each p a (suc n) all w low high =
    elim (here w a low) [
      | inl is ↦ subst (λ (k : ℕ). p k ≡ true) (sym is) (both_first (p a) (list_all p (range_with_len (a + 1) n)) all)
      | inr later ↦ each p (a + 1) n (both_second (p a) (list_all p (range_with_len (a + 1) n)) all) w (omega arith) (omega arith)
    ]
  where
    here : (w a : ℕ) → a ≤ w → (w ≡ a) ⊎ (a < w)
    here zero zero low = inl refl
    here zero (suc a) low = absurd (omega arith)
    here (suc w) zero low = inr (omega arith)
    here (suc w) (suc a) low = elim (here w a (omega arith)) [ inl is ↦ inl (ap suc is) | inr later ↦ inr (omega arith) ]

good_in : (section : Option Section) (sector : ℕ) → IsGoodIn section sector → is_good_in section sector ≡ true
good_in None sector good = refl
good_in (Some section) sector good = every (is_read section.blocks) (sector * 512) 512 good

good_back : (section : Option Section) (sector : ℕ) → is_good_in section sector ≡ true → IsGoodIn section sector
good_back None sector is = tt
good_back (Some section) sector is = each (is_read section.blocks) (sector * 512) 512 is

pub good_is : (sections : List Section) (image sector : ℕ) → IsGood sections image sector → is_good sections image sector ≡ true
good_is sections image sector good = good_in (section_of sections image) sector good

-- each of good sectors is good
one_of : (section : Option Section) (first count sector : ℕ) → AreGoodIn section first count → first ≤ sector → sector < first + count → IsGoodIn section sector
one_of None first count sector are low high = tt
one_of (Some section) first count sector are low high = λ byte from to. are byte (omega arith) (omega arith)

pub good_one : (sections : List Section) (image first count sector : ℕ) → AreGood sections image first count → first ≤ sector → sector < first + count → is_good sections image sector ≡ true
good_one sections image first count sector are low high = good_is sections image sector (one_of (section_of sections image) first count sector are low high)

-- sectors that are good one by one are good together
all_of : (section : Option Section) (first count : ℕ) → ((sector : ℕ) → first ≤ sector → sector < first + count → is_good_in section sector ≡ true) → AreGoodIn section first count
all_of None first count all = tt
all_of (Some section) first zero all = λ byte from to. absurd (omega arith)
all_of (Some section) first (suc count) all = λ byte from to.
    let here : byte < first * 512 + 512 → IsTrue (is_read section.blocks byte) = λ low. good_back (Some section) first (all first (omega arith) (omega arith)) byte from low in
    let later : first * 512 + 512 ≤ byte → IsTrue (is_read section.blocks byte) = λ past. all_of (Some section) (first + 1) count (λ sector low high. all sector (omega arith) (omega arith)) byte (omega arith) (omega arith) in
    elim (cases_order byte (first * 512 + 512)) [
      | inl is ↦ later (omega arith)
      | inr unlike ↦ elim unlike [ inl low ↦ here low | inr past ↦ later (omega arith) ]
    ]

pub good_together : (sections : List Section) (image first count : ℕ) → ((sector : ℕ) → first ≤ sector → sector < first + count → is_good sections image sector ≡ true) → AreGood sections image first count
good_together sections image first count all = all_of (section_of sections image) first count all

and_not : (b : Bool) (section : Option Section) (sector : ℕ) → b ≡ false → (IsGoodIn section sector → b ≡ true) → is_good_in section sector ≡ false
and_not b section sector not then = of_test (is_good_in section sector) refl
  where
    of_test : (r : Bool) → is_good_in section sector ≡ r → r ≡ false
    of_test true is = let good = then (good_back section sector is) in absurd (cc)
    of_test false is = refl

-- where the call says no, it is not good
pub not_good_is : (sections : List Section) (image sector : ℕ) (b : Bool) → b ≡ false → (IsGood sections image sector → b ≡ true) → is_good sections image sector ≡ false
not_good_is sections image sector b not then = and_not b (section_of sections image) sector not then
