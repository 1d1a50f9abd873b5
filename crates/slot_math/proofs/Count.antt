-- How many slot lists there are.
use Rattle.std.proofs.Common.{ℕ, ◌≡◌, ◌<◌, ◌+◌, ◌-◌, ◌*◌, List, [], ◌∷◌, length, map, refl, sym, ap, ◌∙◌, arith, zero, suc, Bool, true, false, ◌&&◌, ◌||◌, not, ◌==◌, cond, zero-add, add-zero, add_comm, inl, inr, Option, Some, None, nat_le}
use Rattle.std.specs.List.{range_with_len}
use Rattle.std.proofs.lemmas.Bool.{cases_Bool}
use Rattle.std.proofs.Math.Nat.{zero-mul, suc-mul}
use Rattle.std.proofs.Math.Numerals.{one-add}
use Rattle.search_terms.specs.SlotLists.{fillings, all_lists}
use Rattle.slot_math.specs.Ways.{ways}
use Rattle.slot_math.proofs.Sums.{total_of, passing, passing-flat, passing_same, passing_none, total-append, total-map, total_range_same, drop_one, total_const}

-- i is among the images seen
unfoldable pub seen_in : ℕ → List ℕ → Bool
seen_in i [] = false
seen_in i (j ∷ js) = (i == j) || seen_in i js

-- a list that may follow: the images seen, and the empty places so far
unfoldable pub follows : ℕ → ℕ → List ℕ → ℕ → List (Option ℕ) → Bool
follows low high seen e [] = nat_le low e && nat_le e high
follows low high seen e (None ∷ l) = follows low high seen (e + 1) l
follows low high seen e (Some i ∷ l) = not (seen_in i seen) && follows low high (i ∷ seen) e l

-- different images below n
abbrev pub AllSeen : ℕ → List ℕ → Type 0
AllSeen n [] = Unit {0}
AllSeen n (j ∷ js) = (j < n) × (seen_in j js ≡ false) × AllSeen n js

-- 1 for an image that was not seen
abbrev fresh : List ℕ → ℕ → ℕ
fresh seen i = cond (seen_in i seen) 0 1

-- the images below n that were not seen
pub unseen_count : (n : ℕ) (seen : List ℕ) → AllSeen n seen → total_of (λ i. cond (seen_in i seen) 0 1) (range_with_len 0 n) + length seen ≡ n
unfolding seen_in
unseen_count n [] all = (let e : total_of (λ i. 1) (range_with_len 0 n) ≡ n * 1 = total_const 1 0 n in omega arith)
unseen_count n (j ∷ js) all =
    let h : j < n = all.0 in
    let g : ℕ → ℕ = λ i. cond (seen_in i js) 0 1 in
    let split : total_of (λ i. cond ((i == j) || seen_in i js) 0 1) (range_with_len 0 n) ≡ total_of (λ i. cond (i == j) 0 (cond (seen_in i js) 0 1)) (range_with_len 0 n)
    = total_range_same (λ i. cond ((i == j) || seen_in i js) 0 1) (λ i. cond (i == j) 0 (g i)) 0 n (λ i lo hi. either (i == j) (seen_in i js)) in
    let one : total_of (λ i. cond (i == j) 0 (cond (seen_in i js) 0 1)) (range_with_len 0 n) + fresh js j ≡ total_of (fresh js) (range_with_len 0 n) = drop_one g j 0 n (omega arith) (omega arith) in
    let at_j : fresh js j ≡ 1 = ap (λ (b : Bool). cond b 0 1) all.1 in
    let before : total_of (fresh js) (range_with_len 0 n) + length js ≡ n = unseen_count n js all.2 in
    omega arith
  where
    either : (a b : Bool) → (let l : ℕ = cond (a || b) 0 1 in let r : ℕ = cond a 0 (cond b 0 1) in l ≡ r)
    either true b = refl
    either false b = refl

one_more : (w k : ℕ) → (1 + k) * w ≡ w + k * w
one_more w k = ap (λ (j : ℕ). j * w) (one-add k) ∙ suc-mul k w ∙ add_comm (k * w) w

-- a sum of w over the elements that fail the test is w times their number
times_w : {A : Type 0} (w : ℕ) (b : A → Bool) (xs : List A) → total_of (λ x. cond (b x) 0 w) xs ≡ total_of (λ x. cond (b x) 0 1) xs * w
unfolding total_of
times_w w b [] = sym (zero-mul w)
times_w w b (x ∷ xs) =
    elim (b x) as (λ t. cond t 0 w + total_of (λ y. cond (b y) 0 w) xs ≡ (cond t 0 1 + total_of (λ y. cond (b y) 0 1) xs) * w) [
      | true ↦ zero-add (total_of (λ y. cond (b y) 0 w) xs) ∙ times_w w b xs ∙ ap (λ (k : ℕ). k * w) (sym (zero-add (total_of (λ y. cond (b y) 0 1) xs)))
      | false ↦ ap (λ (k : ℕ). w + k) (times_w w b xs) ∙ sym (one_more w (total_of (λ y. cond (b y) 0 1) xs))
    ]

hi_of : (n i : ℕ) → i < 0 + n → i < n
hi_of n i h = omega arith

-- the sum of one number over the images that were not seen
total_unseen : (n w : ℕ) (seen : List ℕ) → AllSeen n seen → total_of (λ i. cond (seen_in i seen) 0 w) (range_with_len 0 n) ≡ (n - length seen) * w
total_unseen n w seen all =
    times_w w (λ i. seen_in i seen) (range_with_len 0 n)
    ∙ ap (λ (k : ℕ). k * w) (let e : total_of (λ i. cond (seen_in i seen) 0 1) (range_with_len 0 n) + length seen ≡ n = unseen_count n seen all in
    let f : total_of (λ i. cond (seen_in i seen) 0 1) (range_with_len 0 n) ≡ n - length seen = omega arith in f)

-- the lists that begin with an image
after_image : (low high e i : ℕ) (seen : List ℕ) (ls : List (List (Option ℕ))) (w : ℕ) → (seen_in i seen ≡ false → passing (follows low high (i ∷ seen) e) ls ≡ w) →
    passing (λ l. follows low high seen e (Some i ∷ l)) ls ≡ cond (seen_in i seen) 0 w
unfolding follows
after_image low high e i seen ls w h = elim (cases_Bool (seen_in i seen)) [
  | inl t ↦ passing_same (λ l. not (seen_in i seen) && follows low high (i ∷ seen) e l) (λ l. false) ls (λ l. ap (λ (b : Bool). not b && follows low high (i ∷ seen) e l) t)
      ∙ passing_none ls ∙ sym (ap (λ (b : Bool). cond b 0 w) t)
  | inr f ↦ passing_same (λ l. not (seen_in i seen) && follows low high (i ∷ seen) e l) (follows low high (i ∷ seen) e) ls (λ l. ap (λ (b : Bool). not b && follows low high (i ∷ seen) e l) f)
      ∙ h f ∙ sym (ap (λ (b : Bool). cond b 0 w) f)
]

pub count_is : (low high n m : ℕ) (seen : List ℕ) (e : ℕ) → AllSeen n seen → passing (follows low high seen e) (all_lists n m) ≡ ways low high (n - length seen) m e
unfolding all_lists follows passing ways total_of
count_is low high n zero seen e all = add-zero (cond (nat_le low e && nat_le e high) 1 0)
count_is low high n (suc m) seen e all =
    let ls = all_lists n m in
    let w = ways low high (n - length seen - 1) m e in
    let g : Option ℕ → ℕ = λ p. passing (λ l. follows low high seen e (p ∷ l)) ls in
    passing-flat (follows low high seen e) ls (fillings n)
    ∙ total-append g (map (λ i. Some i) (range_with_len 0 n)) (None ∷ [])
    ∙ ap (λ (k : ℕ). k + (g None + 0)) (total-map g (λ i. Some i) (range_with_len 0 n)
    ∙ total_range_same (λ i. g (Some i)) (λ i. cond (seen_in i seen) 0 w) 0 n
    (λ i lo hi. after_image low high e i seen ls w (λ new. count_is low high n m (i ∷ seen) e (hi_of n i hi, new, all) ∙ ap (λ (u : ℕ). ways low high u m e) (let q : n - suc (length seen) ≡ n - length seen - 1 = omega arith in q)))
    ∙ total_unseen n w seen all)
    ∙ ap (λ (k : ℕ). (n - length seen) * w + k) (add-zero (g None) ∙ count_is low high n m seen (e + 1) all)
