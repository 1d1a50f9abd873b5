-- What the versions of the text of plans allow.
use Rattle.std.proofs.Common.{◌≡◌, ◌≢◌, ◌==◌, ◌≤◌, ◌<◌, ◌^◌, ℕ, Bool, true, false, List, [], ◌∷◌, ◌++◌, All, drop, get_or, codes, decimal, refl, sym, ap, arith, inl, inr}
use Rattle.std.proofs.lemmas.Bool.{cases_lt}
use Rattle.std.proofs.lemmas.Bool.Decides.{nat_tests}
use Rattle.std.proofs.lemmas.Fmt.{decimal_injective}
use Rattle.std.proofs.lemmas.List.{append_cancel_left}
use Rattle.raid_params.specs.declared.limits.TheConstants.{MOST}
use Rattle.raid_params.specs.declared.types.Bounds.{Bounds}
use Rattle.search_plan.specs.Plans.{AreBounds, AreLengths, AreMovable}
use Rattle.plan_text.specs.Parts.{most_foreign, sectors_end}
use Rattle.plan_text.specs.PlanText.{mode_line, mode_lines, older_number, version_lines, version_number}
use Rattle.plan_text.specs.declared.version.Version.{Version}
use Rattle.value_text.specs.Spelling.{named}
use Rattle.plan_text.proofs.Refusals.{StandsIn, one_line}

pub some_sectors : (each : Bool) → 1 ≤ sectors_end each
some_sectors false = omega arith
some_sectors true = omega arith

pub few_sectors : (each : Bool) → sectors_end each ≤ 2 ^ 55
few_sectors false = omega arith
few_sectors true = omega arith

pub few_foreign : (each : Bool) → most_foreign each ≤ MOST
few_foreign false = omega arith
few_foreign true = omega arith

-- where each image has an offset of its own, the limits let all be moved
pub movable : (each : Bool) (lengths : List ℕ) (bounds : Bounds) → All (λ n. n < sectors_end each) lengths → bounds.foreign ≤ most_foreign each → All (λ n. n < sectors_end each) bounds.offsets.items → each ≡ true → AreMovable lengths bounds
movable false lengths bounds short few near is = cc
movable true lengths bounds short few near is = record { own = omega arith; short = short; near = near }

pub short_lengths : (each : Bool) (lengths : List ℕ) (bounds : Bounds) → AreLengths lengths → (each ≡ true → AreMovable lengths bounds) → All (λ n. n < sectors_end each) lengths
short_lengths false lengths bounds are moves = are.short
short_lengths true lengths bounds are moves = (moves refl).short

pub near_offsets : (each : Bool) (lengths : List ℕ) (bounds : Bounds) → AreBounds bounds → (each ≡ true → AreMovable lengths bounds) → All (λ n. n < sectors_end each) bounds.offsets.items
near_offsets false lengths bounds are moves = are.near_offsets
near_offsets true lengths bounds are moves = (moves refl).near

pub own_images : (each : Bool) (lengths : List ℕ) (bounds : Bounds) → AreBounds bounds → (each ≡ true → AreMovable lengths bounds) → bounds.foreign ≤ most_foreign each
own_images false lengths bounds are moves = are.foreign
own_images true lengths bounds are moves = let none = (moves refl).own in omega arith

-- versions with the same lines are the same
abbrev pub number_line : ℕ → List ℕ
number_line n = named (codes "reraid-plan") (decimal n)

abbrev pub lines_of_version : Version → List (List ℕ)
lines_of_version version = version_lines version.each version.third

abbrev pub version_with : Bool → Bool → Version
version_with each third = record { each = each; third = third }

same_number : (m n : ℕ) → m < 2 ^ 64 → n < 2 ^ 64 → number_line m ≡ number_line n → m ≡ n
same_number m n p q e = decimal_injective m n p q (append_cancel_left (codes "reraid-plan ") (decimal m) (decimal n) e)

pub small_number : (each third : Bool) → (1 ≤ version_number each third) × (version_number each third ≤ 3)
small_number false false = (omega arith, omega arith)
small_number true false = (omega arith, omega arith)
small_number each true = (omega arith, omega arith)

first_number : (a o b p : Bool) (x y : List (List ℕ)) → version_lines a o ++ x ≡ version_lines b p ++ y → version_number a o ≡ version_number b p
first_number a o b p x y e =
    let small = small_number a o in
    let other = small_number b p in
    same_number (version_number a o) (version_number b p) (omega (arith, small.1)) (omega (arith, other.1)) (ap (λ (ls : List (List ℕ)). get_or ls 0 []) e)

abbrev Same : ℕ → ℕ → Type 0
Same m n = m ≡ n

same_older : (a b : Bool) → older_number a ≡ older_number b → a ≡ b
same_older false false e = refl
same_older false true e = absurd (omega (arith, e))
same_older true false e = absurd (omega (arith, e))
same_older true true e = refl

same_mode : (a b : Bool) → mode_line a ≡ mode_line b → a ≡ b
same_mode false false e = refl
same_mode false true e = let no : Same 99 101 = ap (λ (ds : List ℕ). get_or ds 5 0) e in absurd (omega arith)
same_mode true false e = let no : Same 101 99 = ap (λ (ds : List ℕ). get_or ds 5 0) e in absurd (omega arith)
same_mode true true e = refl

no_older : (a : Bool) → older_number a ≡ 3 → ⊥
no_older false e = omega (arith, e)
no_older true e = omega (arith, e)

pub same_version : (a o b p : Bool) (x y : List (List ℕ)) → version_lines a o ++ x ≡ version_lines b p ++ y → (a ≡ b) × (o ≡ p) × (x ≡ y)
same_version a false b false x y e = (same_older a b (first_number a false b false x y e), refl, ap (λ (ls : List (List ℕ)). drop 1 ls) e)
same_version a false b true x y e = absurd (no_older a (first_number a false b true x y e))
same_version a true b false x y e = absurd (no_older b (sym (first_number a true b false x y e)))
same_version a true b true x y e = (same_mode a b (ap (λ (ls : List (List ℕ)). get_or ls 1 []) e), refl, ap (λ (ls : List (List ℕ)). drop 2 ls) e)

abbrev HasNumber : ℕ → Version → Type 0
HasNumber n version = version_number version.each version.third ≡ n

version_of : (n : ℕ) → 1 ≤ n → n ≤ 3 → (version : Version) × HasNumber n version
version_of n some few = elim (cases_lt n 2) [
  | inl one ↦ (version_with false false, omega arith)
  | inr more ↦ elim (cases_lt n 3) [ inl two ↦ (version_with true false, omega arith) | inr three ↦ (version_with false true, omega arith) ]
]

-- the number of a version is that of a version
pub stands_number : StandsIn (λ n. (1 ≤ n) × (n ≤ 3)) (λ n. number_line n ∷ []) (λ (version : Version). Unit {0}) lines_of_version []
stands_number = record {
  made = λ n p. let version = version_of n p.0 p.1 in (version.0, mode_lines version.0.each version.0.third, tt, ap (λ (k : ℕ). number_line k ∷ mode_lines version.0.each version.0.third) version.1);
  shape = λ version tail is e. (version_number version.each version.third, mode_lines version.each version.third, small_number version.each version.third, sym e);
  apart = λ x y m more p q e. one_line number_line x y m more e;
}

-- and in version 3 the mode follows
pub stands_mode : StandsIn (λ (each : Bool). Unit {0}) (λ each. mode_line each ∷ []) (λ (version : Version). Unit {0}) lines_of_version (number_line 3 ∷ [])
stands_mode = record {
  made = λ each p. (version_with each true, [], tt, refl);
  shape = λ version tail is e. shaped version.each version.third tail e;
  apart = λ x y m more p q e. one_line mode_line x y m more e;
}
  where
    shaped : (each third : Bool) (tail : List (List ℕ)) → version_lines each third ≡ number_line 3 ∷ tail → (x : Bool) × (r : List (List ℕ)) × Unit {0} × (tail ≡ (mode_line x ∷ []) ++ r)
    shaped each true tail e = (each, [], tt, sym (ap (λ (ls : List (List ℕ)). drop 1 ls) e))
    shaped each false tail e =
        let first : number_line (older_number each) ≡ number_line 3 = ap (λ (ls : List (List ℕ)). get_or ls 0 []) e in
        let small : (1 ≤ older_number each) × (older_number each ≤ 3) = small_number each false in
        absurd (no_older each (same_number (older_number each) 3 (omega (arith, small.1)) (omega arith) first))

-- the lines that were read are those of the version
pub read_older : (n : ℕ) → 1 ≤ n → n ≤ 3 → n ≢ 3 → number_line n ∷ [] ≡ version_lines (n == 2) false
read_older n some few other = told n (n == 2) (eq_is n) some few other
  where
    eq_is : (n : ℕ) → (n == 2 ≡ true → n ≡ 2) × (n == 2 ≡ false → n ≢ 2)
    eq_is n = (λ e. grind (arith, nat_tests), λ e same. grind (arith, nat_tests))

    told : (n : ℕ) (b : Bool) → (b ≡ true → n ≡ 2) × (b ≡ false → n ≢ 2) → 1 ≤ n → n ≤ 3 → n ≢ 3 → number_line n ∷ [] ≡ version_lines b false
    told n true is some few third = ap (λ (k : ℕ). number_line k ∷ []) (is.0 refl)
    told n false is some few third = let other = is.1 refl in let one : n ≡ 1 = omega arith in ap (λ (k : ℕ). number_line k ∷ []) one
