-- Where regions lie, and what a write to a part of them changes.
use Rattle.std.proofs.Common.{◌≡◌, ◌≢◌, ℕ, zero, suc, ◌+◌, ◌-◌, ◌*◌, ◌<◌, ◌≤◌, List, ◌∷◌, ◌++◌, Option, length, get_or, map, take, slice_get, slice_index, IfSome, inl, inr, arith, refl, ap, sym, subst, ◌∙◌}
use Rattle.std.specs.List.{range_with_len}
use Rattle.std.proofs.lemmas.Nat.{mul-le}
use Rattle.std.proofs.lemmas.Bool.{cases_lt}
use Rattle.std.proofs.lemmas.List.{get_or-take, get_or-drop, get_or-append-add, get_or_append_left, length-take}
use Rattle.std.proofs.lemmas.Option.{slice_get-get_or}
use Rattle.std.proofs.lemmas.Slice.{drop-put_mid}
use borrow.Rule.Slice.PartMut.{put_mid, post_of}
use Rattle.raid_params.specs.declared.types.Cell.{Cell}
use Rattle.raid_terms.specs.Parity.{column_of}
use Rattle.row_parity.specs.Regions.{region_column}

-- a region lies within those of n members
pub region_inside : (stride slot n : ℕ) → slot < n → stride * slot + stride ≤ stride * n
region_inside stride slot n h =
    let most : stride * (slot + 1) ≤ stride * n = mul-le stride (slot + 1) stride n (omega arith) (omega arith) in
    let next : stride * (slot + 1) ≡ stride * slot + stride = grind arith in
    omega arith

-- before a part that was written
pub mid_before : (a k p : ℕ) (xs ys : List ℕ) → p < a → a ≤ length xs → get_or (put_mid a k xs ys) p 0 ≡ get_or xs p 0
mid_before a k p xs ys h fits =
    get_or_append_left (take a xs) (ys ++ post_of a k xs) 0 p (omega (arith, length-take a xs)) ∙ get_or-take a xs p 0 h

-- in it
pub mid_inside : (a k p x : ℕ) (xs ys : List ℕ) → p ≡ a + x → x < length ys → a ≤ length xs → get_or (put_mid a k xs ys) p 0 ≡ get_or ys x 0
mid_inside a k p x xs ys e h fits =
    let at : p ≡ length (take a xs) + x = omega (arith, length-take a xs) in
    ap (λ (t : ℕ). get_or (put_mid a k xs ys) t 0) at ∙ get_or-append-add (take a xs) (ys ++ post_of a k xs) x 0 ∙ get_or_append_left ys (post_of a k xs) 0 x h

-- and after it
pub mid_after : (a k p : ℕ) (xs ys : List ℕ) → a + k ≤ p → a ≤ length xs → length ys ≡ k → get_or (put_mid a k xs ys) p 0 ≡ get_or xs p 0
mid_after a k p xs ys h fits long =
    let at : p ≡ p + 0 = omega arith in
    ap (λ (t : ℕ). get_or (put_mid a k xs ys) t 0) at ∙ sym (get_or-drop p (put_mid a k xs ys) 0 0) ∙ ap (λ (l : List ℕ). get_or l 0 0) (drop-put_mid a k xs ys p h fits long)
    ∙ get_or-drop p xs 0 0 ∙ ap (λ (t : ℕ). get_or xs t 0) (sym at)

-- and outside it
pub mid_outside : (a k p : ℕ) (xs ys : List ℕ) → ((x : ℕ) → x < k → p ≢ a + x) → a ≤ length xs → length ys ≡ k → get_or (put_mid a k xs ys) p 0 ≡ get_or xs p 0
mid_outside a k p xs ys apart fits long =
    elim (cases_lt p a) [
      | inl below ↦ mid_before a k p xs ys below fits
      | inr above ↦ elim (cases_lt p (a + k)) [
        | inl inside ↦ absurd (apart (p - a) (omega arith) (omega arith))
        | inr after ↦ mid_after a k p xs ys after fits long
      ]
    ]

-- two functions that agree on a range
pub map_same : (f g : ℕ → ℕ) (a n : ℕ) → ((x : ℕ) → a ≤ x → x < a + n → f x ≡ g x) → map f (range_with_len a n) ≡ map g (range_with_len a n)
map_same f g a zero same = refl
map_same f g a (suc n) same =
    ap (λ (v : ℕ). v ∷ map f (range_with_len (a + 1) n)) (same a (omega arith) (omega arith))
    ∙ ap (λ (vs : List ℕ). g a ∷ vs) (map_same f g (a + 1) n (λ x low high. same x (omega arith) (omega arith)))

-- sectors that stand one after the other are regions of a sector
pub row_column : (n : ℕ) (row : List ℕ) (x : ℕ) → region_column n 512 row 0 x ≡ column_of n row x
row_column n row x =
    map_same (λ i. slice_index row (512 * i + (512 * 0 + x))) (λ i. slice_index row (512 * i + x)) 0 n
    (λ i low high. let e : 512 * i + (512 * 0 + x) ≡ 512 * i + x = omega arith in ap (λ (k : ℕ). slice_index row k) e)

-- a cell that is known by its place
pub cell_there : (cells : List Cell) (place : ℕ) (d : Cell) → place < length cells → (P : Cell → Type 0) → P (get_or cells place d) → IfSome (slice_get cells place) P
cell_there cells place d h P p = subst (λ (o : Option Cell). IfSome o P) (sym (slice_get-get_or cells place d h)) p

-- sectors of different regions are apart
pub regions_apart : (stride j i y place x : ℕ) → 512 * j + 512 ≤ stride → y < stride → x < 512 → i ≢ place → stride * i + y ≢ stride * place + (512 * j + x)
regions_apart stride j i y place x fits below inside apart = λ e.
    elim (cases_lt i place) [
      | inl less ↦ (let lies = region_inside stride i place less in absurd (omega arith))
      | inr more ↦ (let less : place < i = omega arith in let lies = region_inside stride place i less in absurd (omega arith))
    ]
