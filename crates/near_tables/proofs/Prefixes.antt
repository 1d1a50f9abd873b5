-- No more is torn in the beginning of a slot list than in the list.
use Rattle.std.proofs.Common.{ℕ, zero, suc, ◌≡◌, ◌≤◌, ◌⊎◌, Bool, true, false, cond, ◌&&◌, List, [], ◌∷◌, take, get_or, refl, sym, ap, ◌∙◌, subst, arith, inl, inr, Option, Some, None}
use Rattle.std.specs.List.{range_with_len, sum_by}
use Rattle.std.proofs.lemmas.List.Sums.{sum_by-le-sum_by}
use Rattle.near_mirror.specs.Copies.{copy_sector, copy_slot, near_sectors}
use Rattle.near_mirror.specs.Volume.{copy_image}
use Rattle.near_tables.specs.Laws.{PrefixesAreTornLess}
use Rattle.near_tables.specs.Torn.{copies_differ, is_tested, is_torn, tested_below, torn, torn_copies, with_slots}

-- what a slot holds in the beginning of a list is what it holds, or nothing
front_slot : (k s : ℕ) (slots : List (Option ℕ)) → (get_or (take k slots) s None ≡ get_or slots s None) ⊎ (get_or (take k slots) s None ≡ None)
front_slot zero s slots = inr refl
front_slot (suc k) s [] = inl refl
front_slot (suc k) zero (x ∷ slots) = inl refl
front_slot (suc k) (suc s) (x ∷ slots) = front_slot k s slots

none_second : (images : List (List ℕ)) (offset first second : ℕ) (one : Option ℕ) → copies_differ images offset one first None second ≡ false
none_second images offset first second None = refl
none_second images offset first second (Some one) = refl

no_less : (b c : Bool) → (b && false) ≡ c → cond c 1 0 ≤ 0
no_less true false e = omega arith
no_less true true e = absurd (cc)
no_less false false e = omega arith
no_less false true e = absurd (cc)

less : (images : List (List ℕ)) (offset first second : ℕ) (tested : Bool) (one other here there : Option ℕ) → (here ≡ one) ⊎ (here ≡ None) → (there ≡ other) ⊎ (there ≡ None) →
    cond (tested && copies_differ images offset here first there second) 1 0 ≤ cond (tested && copies_differ images offset one first other second) 1 0
less images offset first second tested one other here there (inl e) (inl f) =
    let P : ℕ → Type 0 = λ n. n ≤ cond (tested && copies_differ images offset one first other second) 1 0 in
    subst P (sym (ap (λ (o : Option ℕ). cond (tested && copies_differ images offset o first there second) 1 0) e ∙ ap (λ (o : Option ℕ). cond (tested && copies_differ images offset one first o second) 1 0) f)) (omega arith)
less images offset first second tested one other here there (inr e) g =
    let none : (tested && copies_differ images offset here first there second) ≡ (tested && false) = ap (λ (o : Option ℕ). tested && copies_differ images offset o first there second) e in
    let low = no_less tested (tested && copies_differ images offset here first there second) (sym none) in
    omega arith
less images offset first second tested one other here there (inl e) (inr f) =
    let none : (tested && copies_differ images offset here first there second) ≡ (tested && false)
    = ap (λ (o : Option ℕ). tested && copies_differ images offset here first o second) f ∙ ap (λ (b : Bool). tested && b) (none_second images offset first second here) in
    let low = no_less tested (tested && copies_differ images offset here first there second) (sym none) in
    omega arith

pub prefixes_less : PrefixesAreTornLess
unfolding torn
prefixes_less bytes end window k head slots =
    sum_by-le-sum_by (λ second. sum_by (λ first. torn_copies bytes end window (with_slots head (take k slots)) first second) (range_with_len 0 second))
    (λ second. sum_by (λ first. torn_copies bytes end window (with_slots head slots) first second) (range_with_len 0 second)) (range_with_len 0 head.layout.copies)
    (λ second. sum_by-le-sum_by (λ first. torn_copies bytes end window (with_slots head (take k slots)) first second) (λ first. torn_copies bytes end window (with_slots head slots) first second) (range_with_len 0 second)
    (λ first. copies_less first second))
  where
    copies_less : (first second : ℕ) → torn_copies bytes end window (with_slots head (take k slots)) first second ≤ torn_copies bytes end window (with_slots head slots) first second
    copies_less first second =
        sum_by-le-sum_by (λ v. cond (is_torn bytes end (tested_below head end window) (with_slots head (take k slots)) first second v) 1 0)
        (λ v. cond (is_torn bytes end (tested_below head end window) (with_slots head slots) first second v) 1 0) (range_with_len 0 (near_sectors head end))
        (λ v. less bytes head.offset (copy_sector head end first v) (copy_sector head end second v) (is_tested head end (tested_below head end window) first second v)
        (copy_image (with_slots head slots) first v) (copy_image (with_slots head slots) second v) (copy_image (with_slots head (take k slots)) first v) (copy_image (with_slots head (take k slots)) second v)
        (front_slot k (copy_slot head first v) slots) (front_slot k (copy_slot head second v) slots))
