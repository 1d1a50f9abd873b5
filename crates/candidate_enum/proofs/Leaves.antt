-- The admitted leaves from a rank on.
use Rattle.std.proofs.Common.{ℕ, ◌≡◌, ◌<◌, ◌≤◌, ◌+◌, ◌-◌, min, max, List, [], ◌∷◌, ◌++◌, length, take, drop, filter, refl, sym, ap, ap₂, ◌∙◌, arith, zero, suc, Bool, true, false, ◌&&◌, cond, Option, Some, option_map, slice_get, inl, inr, drop-cons, length-append}
use Rattle.std.specs.List.{slice_range, list_all, range_with_len}
use Rattle.std.proofs.lemmas.Bool.{cases_lt, ltb-true, ltb-false}
use Rattle.std.proofs.lemmas.Option.{get_or_from_slice_get, slice_get_within}
use Rattle.std.proofs.lemmas.List.{take_at}
use Rattle.slot_math.specs.Space.{lists_of}
use Rattle.slot_math.specs.Ways.{ends, AllImages}
use Rattle.slot_math.specs.declared.space.Space.{Space}
use Rattle.candidate_enum.specs.Survivors.{Question, numbered, leaf_of, all_admitted, admitted_leaves}
use Rattle.candidate_enum.specs.Left.{base_of, overlaps, leaves_from, Admitted}
use Rattle.candidate_enum.specs.declared.leaf.Leaf.{Leaf}
use Rattle.candidate_enum.proofs.Bases.{list_at}

-- the leaf of a rank
numbered_at : (n r : ℕ) (ls : List (List (Option ℕ))) → slice_get (numbered n ls) r ≡ option_map (leaf_of (n + r)) (slice_get ls r)
unfolding numbered
numbered_at n r [] = refl
numbered_at n zero (l ∷ ls) = ap (λ (k : ℕ). Some (leaf_of k l)) (let e : n ≡ n + 0 = omega arith in e)
numbered_at n (suc r) (l ∷ ls) = numbered_at (n + 1) r ls ∙ ap (λ (k : ℕ). option_map (leaf_of k) (slice_get ls r)) (let e : n + 1 + r ≡ n + suc r = omega arith in e)

leaf_at : (s : Space) (r : ℕ) (l : List (Option ℕ)) → slice_get (lists_of s) r ≡ Some l → slice_get (numbered 0 (lists_of s)) r ≡ Some (leaf_of r l)
leaf_at s r l e = numbered_at 0 r (lists_of s) ∙ ap₂ (λ (k : ℕ) (o : Option (List (Option ℕ))). option_map (leaf_of k) o) (let q : 0 + r ≡ r = omega arith in q) e

-- the first leaf of a range
range_first : (xs : List Leaf) (a b : ℕ) (x : Leaf) → a < b → slice_get xs a ≡ Some x → slice_range xs a b ≡ x ∷ slice_range xs (a + 1) b
range_first xs a b x h e =
    let lt : a < length xs = slice_get_within xs a x e in
    let n : b - a ≡ suc (b - (a + 1)) = omega arith in
    ap₂ take n (drop-cons xs a x lt)
    ∙ ap₂ (λ (y : Leaf) (k : ℕ). y ∷ take (b - (a + 1)) (drop k xs)) (get_or_from_slice_get xs a x x e) (let q : suc a ≡ a + 1 = omega arith in q)

range_empty : (xs : List Leaf) (a b : ℕ) → b ≤ a → slice_range xs a b ≡ []
range_empty xs a b h = ap (λ (k : ℕ). take k (drop a xs)) (let e : b - a ≡ 0 = omega arith in e)

-- leaves that are not admitted may be passed over
abbrev admitted : Question → Leaf → Bool
admitted q leaf = all_admitted q.admits leaf.slots.items

pub pass_one : (q : Question) (a b : ℕ) (l : List (Option ℕ)) → a < b → slice_get (lists_of q.space) a ≡ Some l → all_admitted q.admits l ≡ false →
    admitted_leaves q a b ≡ admitted_leaves q (a + 1) b
pass_one q a b l h e refusal =
    ap (filter (admitted q)) (range_first (numbered 0 (lists_of q.space)) a b (leaf_of a l) h (leaf_at q.space a l e))
    ∙ ap (λ (t : Bool). cond t (leaf_of a l ∷ admitted_leaves q (a + 1) b) (admitted_leaves q (a + 1) b)) refusal

pub keep_one : (q : Question) (a b : ℕ) (l : List (Option ℕ)) → a < b → slice_get (lists_of q.space) a ≡ Some l → all_admitted q.admits l ≡ true →
    admitted_leaves q a b ≡ leaf_of a l ∷ admitted_leaves q (a + 1) b
keep_one q a b l h e grant =
    ap (filter (admitted q)) (range_first (numbered 0 (lists_of q.space)) a b (leaf_of a l) h (leaf_at q.space a l e))
    ∙ ap (λ (t : Bool). cond t (leaf_of a l ∷ admitted_leaves q (a + 1) b) (admitted_leaves q (a + 1) b)) grant

pub none_left : (q : Question) (a b : ℕ) → b ≤ a → admitted_leaves q a b ≡ []
none_left q a b h = ap (filter (admitted q)) (range_empty (numbered 0 (lists_of q.space)) a b h)

-- a number of refused leaves, each given by its rank
pass_all : (q : Question) (a b n : ℕ) → ((r : ℕ) → a ≤ r → r < a + n → r < b → (l : List (Option ℕ)) × (slice_get (lists_of q.space) r ≡ Some l) × (all_admitted q.admits l ≡ false)) →
    admitted_leaves q a b ≡ admitted_leaves q (a + n) b
pass_all q a b zero h = ap (λ (k : ℕ). admitted_leaves q k b) (let e : a ≡ a + 0 = omega arith in e)
pass_all q a b (suc n) h = elim (cases_lt a b) [
  | inl lt ↦ (let x = h a (omega arith) (omega arith) lt in
      pass_one q a b x.0 lt x.1 x.2
      ∙ pass_all q (a + 1) b n (λ r lo hi top. h r (omega arith) (omega arith) top)
      ∙ ap (λ (k : ℕ). admitted_leaves q k b) (let e : a + 1 + n ≡ a + suc n = omega arith in e))
  | inr ge ↦ none_left q a b ge ∙ sym (none_left q (a + suc n) b (omega arith))
]

-- a test over the first numbers
all_numbers : (p : ℕ → Bool) (a n : ℕ) → ((k : ℕ) → a ≤ k → k < a + n → p k ≡ true) → list_all p (range_with_len a n) ≡ true
all_numbers p a zero h = refl
all_numbers p a (suc n) h = ap₂ (λ (x y : Bool). x && y) (h a (omega arith) (omega arith)) (all_numbers p (a + 1) n (λ k lo hi. h k (omega arith) (omega arith)))

not_all_numbers : (p : ℕ → Bool) (a n k : ℕ) → a ≤ k → k < a + n → p k ≡ false → list_all p (range_with_len a n) ≡ false
not_all_numbers p a zero k lo hi h = absurd (omega arith)
not_all_numbers p a (suc n) k lo hi h = elim (cases_lt a k) [
  | inl lt ↦ ap (λ (t : Bool). p a && t) (not_all_numbers p (a + 1) n k (omega arith) (omega arith) h) ∙ neither (p a)
  | inr ge ↦ ap (λ (t : Bool). t && list_all p (range_with_len (a + 1) n)) (ap p (let e : a ≡ k = omega arith in e) ∙ h)
]
  where
    neither : (b : Bool) → (b && false) ≡ false
    neither true = refl
    neither false = refl

-- a list is admitted where all its prefixes are
pub whole_admitted : (q : Question) (p : List (Option ℕ)) → Admitted q p (length p + 1) → all_admitted q.admits p ≡ true
unfolding all_admitted
whole_admitted q p h = all_numbers (λ k. q.admits (take k p)) 0 (length p + 1) (λ k lo hi. h k (omega arith))

-- and refused where one of them is
pub part_refused : (q : Question) (p e : List (Option ℕ)) → q.admits p ≡ false → all_admitted q.admits (p ++ e) ≡ false
unfolding all_admitted
part_refused q p e h =
    let long : length (p ++ e) ≡ length p + length e = length-append p e in
    not_all_numbers (λ k. q.admits (take k (p ++ e))) 0 (length (p ++ e) + 1) (length p) (omega arith) (omega arith) (ap q.admits (take_at p e (length p) refl) ∙ h)

-- a block of refused leaves
skip_block : (q : Question) (b n : ℕ) → ((r : ℕ) → b ≤ r → r < b + n → (l : List (Option ℕ)) × (slice_get (lists_of q.space) r ≡ Some l) × (all_admitted q.admits l ≡ false)) →
    leaves_from q b ≡ leaves_from q (b + n)
unfolding leaves_from
skip_block q b n h =
    let m : max q.from b + (max q.from (b + n) - max q.from b) ≡ max q.from (b + n) = omega arith in
    pass_all q (max q.from b) q.stop (max q.from (b + n) - max q.from b) (λ r lo hi top. h r (omega arith) (omega arith))
    ∙ ap (λ (k : ℕ). admitted_leaves q k q.stop) m

-- all leaves that begin with a refused prefix
pub leaves_refused : (q : Question) (p : List (Option ℕ)) → AllImages q.space.images p → length p ≤ q.space.members → q.admits p ≡ false →
    leaves_from q (base_of q.space p) ≡ leaves_from q (base_of q.space p + length (ends q.space p))
leaves_refused q p a short refusal = skip_block q (base_of q.space p) (length (ends q.space p)) (λ r lo hi. one r (omega arith) (omega arith))
  where
    one : (r : ℕ) → base_of q.space p ≤ r → r < base_of q.space p + length (ends q.space p) → (l : List (Option ℕ)) × (slice_get (lists_of q.space) r ≡ Some l) × (all_admitted q.admits l ≡ false)
    one r lo hi =
        let at = list_at q.space p r a short lo hi in
        (p ++ at.0, at.1, part_refused q p at.0 refusal)

-- ranks outside of the range
pub leaves_outside : (q : Question) (rank count : ℕ) → overlaps q.from q.stop rank count ≡ false → leaves_from q rank ≡ leaves_from q (rank + count)
unfolding leaves_from
leaves_outside q rank count h =
    let out : min q.stop (rank + count) ≤ max q.from rank = ltb-false (max q.from rank) (min q.stop (rank + count)) h in
    elim (cases_lt (max q.from rank) q.stop) [
      | inl lt ↦ ap (λ (k : ℕ). admitted_leaves q k q.stop) (let e : max q.from rank ≡ max q.from (rank + count) = omega arith in e)
      | inr ge ↦ none_left q (max q.from rank) q.stop ge ∙ sym (none_left q (max q.from (rank + count)) q.stop (omega arith))
    ]

-- one leaf that is met
pub leaf_met : (q : Question) (p : List (Option ℕ)) (rank : ℕ) → slice_get (lists_of q.space) rank ≡ Some p → overlaps q.from q.stop rank 1 ≡ true → Admitted q p (length p + 1) →
    leaves_from q rank ≡ leaf_of rank p ∷ leaves_from q (rank + 1)
unfolding leaves_from
leaf_met q p rank e h adm =
    let lt : max q.from rank < min q.stop (rank + 1) = ltb-true (max q.from rank) (min q.stop (rank + 1)) h in
    ap (λ (k : ℕ). admitted_leaves q k q.stop) (let m : max q.from rank ≡ rank = omega arith in m)
    ∙ keep_one q rank q.stop p (omega arith) e (whole_admitted q p adm)
    ∙ ap (λ (k : ℕ). leaf_of rank p ∷ admitted_leaves q k q.stop) (let m : rank + 1 ≡ max q.from (rank + 1) = omega arith in m)

pub leaves_end : (q : Question) (rank : ℕ) → q.stop ≤ rank → leaves_from q rank ≡ []
unfolding leaves_from
leaves_end q rank h = none_left q (max q.from rank) q.stop (omega arith)

pub leaves_start : (q : Question) → leaves_from q 0 ≡ admitted_leaves q q.from q.stop
unfolding leaves_from
leaves_start q = ap (λ (k : ℕ). admitted_leaves q k q.stop) (let m : max q.from 0 ≡ q.from = omega arith in m)
