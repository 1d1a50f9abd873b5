-- Sums over what lists have at some places.
use Rattle.std.proofs.Common.{ℕ, zero, suc, ◌≡◌, ◌+◌, ◌-◌, ◌≤◌, List, [], ◌∷◌, ◌++◌, length, take, drop, refl, ap, ap₂, ◌∙◌, arith, length-append, sum_by, slice_range}
use Rattle.std.proofs.lemmas.List.{drop_all, length-drop}
use Rattle.std.proofs.lemmas.List.Sums.{sum_by-append, sum_by-cons}
use Rattle.wide_product.proofs.Aligned.{flat}
use Rattle.page_engine.specs.Reads.{cut}

-- of some lists and others after them
cut_append : {A : Type 0} (from to : ℕ) (before after : List (List A)) → cut from to (before ++ after) ≡ cut from to before ++ cut (from - length (flat before)) (to - length (flat before)) after
unfolding cut
cut_append from to [] after = ap₂ (λ (a b : ℕ). cut a b after) (let e : from ≡ from - 0 = omega arith in e) (let e : to ≡ to - 0 = omega arith in e)
cut_append {A} from to (xs ∷ before) after =
    let long = length-append xs (flat before) in
    ap (λ (l : List (List A)). slice_range xs from to ∷ l)
    (cut_append (from - length xs) (to - length xs) before after
    ∙ ap₂ (λ (a b : ℕ). cut (from - length xs) (to - length xs) before ++ cut a b after)
    (let e : from - length xs - length (flat before) ≡ from - length (flat (xs ∷ before)) = omega arith in e)
    (let e : to - length xs - length (flat before) ≡ to - length (flat (xs ∷ before)) = omega arith in e))

-- of no place nothing is summed
pub none_cut : {A : Type 0} (f : List A → ℕ) (from to : ℕ) (lists : List (List A)) → f [] ≡ 0 → to ≤ from → sum_by f (cut from to lists) ≡ 0
unfolding cut
none_cut f from to [] none past = refl
none_cut f from to (xs ∷ lists) none past =
    let rest = none_cut f (from - length xs) (to - length xs) lists none (omega arith) in
    let sum = sum_by-cons f (slice_range xs from to) (cut (from - length xs) (to - length xs) lists) in
    let own : f (slice_range xs from to) ≡ 0 = ap (λ (n : ℕ). f (take n (drop from xs))) (let e : to - from ≡ 0 = omega arith in e) ∙ none in
    omega arith

-- nor of places after the last one
past_cut : {A : Type 0} (f : List A → ℕ) (from to : ℕ) (lists : List (List A)) → f [] ≡ 0 → length (flat lists) ≤ from → sum_by f (cut from to lists) ≡ 0
unfolding cut
past_cut f from to [] none past = refl
past_cut {A} f from to (xs ∷ lists) none past =
    let long = length-append xs (flat lists) in
    let rest = past_cut f (from - length xs) (to - length xs) lists none (omega arith) in
    let sum = sum_by-cons f (slice_range xs from to) (cut (from - length xs) (to - length xs) lists) in
    let own : f (slice_range xs from to) ≡ 0 = ap (λ (l : List A). f (take (to - from) l)) (drop_all from xs (omega arith)) ∙ ap f (take_none (to - from)) ∙ none in
    omega arith
  where
    take_none : (n : ℕ) → take n (let l : List A = [] in l) ≡ []
    take_none zero = refl
    take_none (suc n) = refl

-- what is past the last place adds nothing
take_whole : {A : Type 0} (m n : ℕ) (xs : List A) → length xs ≤ m → length xs ≤ n → take m xs ≡ take n xs
take_whole zero zero [] a b = refl
take_whole zero (suc n) [] a b = refl
take_whole (suc m) zero [] a b = refl
take_whole (suc m) (suc n) [] a b = refl
take_whole zero n (x ∷ xs) a b = absurd (omega arith)
take_whole (suc m) zero (x ∷ xs) a b = absurd (omega arith)
take_whole {A} (suc m) (suc n) (x ∷ xs) a b = ap (λ (l : List A). x ∷ l) (take_whole m n xs (omega arith) (omega arith))

whole_cut : {A : Type 0} (from to end : ℕ) (lists : List (List A)) → length (flat lists) ≤ to → length (flat lists) ≤ end → cut from to lists ≡ cut from end lists
unfolding cut
whole_cut from to end [] a b = refl
whole_cut {A} from to end (xs ∷ lists) a b =
    let long = length-append xs (flat lists) in
    let left = length-drop from xs in
    ap₂ (λ (x : List A) (l : List (List A)). x ∷ l) (take_whole (to - from) (end - from) (drop from xs) (omega arith) (omega arith))
    (whole_cut (from - length xs) (to - length xs) (end - length xs) lists (omega arith) (omega arith))

-- places up to the end of one of the lists, and those from there on
pub cut_there : {A : Type 0} (f : List A → ℕ) (from to : ℕ) (before after : List (List A)) → f [] ≡ 0 → from ≤ length (flat before) → length (flat before) ≤ to →
    sum_by f (cut from to (before ++ after)) ≡ sum_by f (cut from (length (flat before)) (before ++ after)) + sum_by f (cut (length (flat before)) to (before ++ after))
cut_there {A} f from to before after none low high =
    let at = length (flat before) in
    let all = ap (sum_by f) (cut_append from to before after) ∙ sum_by-append f (cut from to before) (cut (from - length (flat before)) (to - length (flat before)) after) in
    let first = ap (sum_by f) (cut_append from (length (flat before)) before after) ∙ sum_by-append f (cut from (length (flat before)) before) (cut (from - length (flat before)) (length (flat before) - length (flat before)) after) in
    let second = ap (sum_by f) (cut_append (length (flat before)) to before after) ∙ sum_by-append f (cut (length (flat before)) to before) (cut (length (flat before) - length (flat before)) (to - length (flat before)) after) in
    let ended = none_cut f (from - length (flat before)) (length (flat before) - length (flat before)) after none (omega arith) in
    let begun = past_cut f (length (flat before)) to before none (omega arith) in
    let whole = ap (sum_by f) (whole_cut from to (length (flat before)) before high (omega arith)) in
    let same = ap (λ (n : ℕ). sum_by f (cut n (to - length (flat before)) after)) (let e : from - length (flat before) ≡ length (flat before) - length (flat before) = omega arith in e) in
    omega arith

-- places inside one of the lists
pub cut_inside : {A : Type 0} (f : List A → ℕ) (from to : ℕ) (before : List (List A)) (own : List A) (after : List (List A)) → f [] ≡ 0 → length (flat before) ≤ from → to ≤ length (flat before) + length own →
    sum_by f (cut from to (before ++ own ∷ after)) ≡ f (slice_range own (from - length (flat before)) (to - length (flat before)))
unfolding cut
cut_inside {A} f from to before own after none low high =
    let all = ap (sum_by f) (cut_append from to before (own ∷ after)) ∙ sum_by-append f (cut from to before) (cut (from - length (flat before)) (to - length (flat before)) (own ∷ after)) in
    let begun = past_cut f from to before none low in
    let sum = sum_by-cons f (slice_range own (from - length (flat before)) (to - length (flat before))) (cut (from - length (flat before) - length own) (to - length (flat before) - length own) after) in
    let ended = none_cut f (from - length (flat before) - length own) (to - length (flat before) - length own) after none (omega arith) in
    omega arith
