-- The first of the admitted leaves of a range, and the lists before it.
use Rattle.std.proofs.Common.{rules, ℕ, zero, suc, ◌≡◌, ◌<◌, ◌≤◌, ◌+◌, List, [], ◌∷◌, length, sym, ap, ◌∙◌, arith, true, false, Option, Some, slice_get, get_or, inl, inr}
use Rattle.std.proofs.lemmas.Bool.{cases_Bool, cases_lt}
use Rattle.std.proofs.lemmas.Option.{slice_get-get_or}
use Rattle.slot_math.specs.Space.{lists_of}
use Rattle.candidate_enum.specs.Survivors.{Question, all_admitted, admitted_leaves, leaf_of}
use Rattle.candidate_enum.specs.declared.leaf.Leaf.{Leaf}
use Rattle.candidate_enum.proofs.Leaves.{keep_one, none_left, pass_one}

-- the list of this rank has a prefix that is not admitted
pub record Refused (q : Question) (rank : ℕ) : Type 0 where
  pub slots : List (Option ℕ)
  pub list : slice_get (lists_of q.space) rank ≡ Some slots
  pub refusal : all_admitted q.admits slots ≡ false

-- the first leaf of a range
pub record IsFirst (q : Question) (a b : ℕ) (leaf : Leaf) (rest : List Leaf) : Type 0 where
  pub low : a ≤ leaf.rank
  pub high : leaf.rank < b
  pub list : slice_get (lists_of q.space) leaf.rank ≡ Some leaf.slots.items
  pub admitted : all_admitted q.admits leaf.slots.items ≡ true
  pub past : (k : ℕ) → a ≤ k → k < leaf.rank → Refused q k
  pub after : rest ≡ admitted_leaves q (leaf.rank + 1) b

-- lists that are equal begin alike
heads_same : (x y : Leaf) (xs ys : List Leaf) → x ∷ xs ≡ y ∷ ys → x ≡ y
heads_same x y xs ys e = search rules

-- and go on alike
tails_same : (x y : Leaf) (xs ys : List Leaf) → x ∷ xs ≡ y ∷ ys → xs ≡ ys
tails_same x y xs ys e = search rules

-- what is known of the first leaf that is left
pub first_leaf : (q : Question) (a b n : ℕ) (leaf : Leaf) (rest : List Leaf) → a + n ≡ b → b ≤ length (lists_of q.space) → admitted_leaves q a b ≡ leaf ∷ rest → IsFirst q a b leaf rest
first_leaf q a b zero leaf rest e h is = absurd (none (sym (none_left q a b (omega arith)) ∙ is))
  where
    none : [] ≡ leaf ∷ rest → ⊥
    none f = search rules
first_leaf q a b (suc n) leaf rest e h is =
    let slots = get_or (lists_of q.space) a [] in
    let here : slice_get (lists_of q.space) a ≡ Some (get_or (lists_of q.space) a []) = slice_get-get_or (lists_of q.space) a [] (omega arith) in
    elim (cases_Bool (all_admitted q.admits (get_or (lists_of q.space) a []))) [
      | inl t ↦ kept t here
      | inr f ↦ passed f here (first_leaf q (a + 1) b n leaf rest (omega arith) h (sym (pass_one q a b slots (omega arith) here f) ∙ is))
    ]
  where
    kept : all_admitted q.admits (get_or (lists_of q.space) a []) ≡ true → slice_get (lists_of q.space) a ≡ Some (get_or (lists_of q.space) a []) → IsFirst q a b leaf rest
    kept t here =
        let both = sym (keep_one q a b (get_or (lists_of q.space) a []) (omega arith) here t) ∙ is in
        let same : leaf_of a (get_or (lists_of q.space) a []) ≡ leaf = heads_same _ _ _ _ both in
        let rank : a ≡ leaf.rank = ap (λ (l : Leaf). l.rank) same in
        record {
          low = omega arith;
          high = omega arith;
          list = ap (slice_get (lists_of q.space)) (sym rank) ∙ here ∙ ap (λ (l : Leaf). let o : Option (List (Option ℕ)) = Some l.slots.items in o) same;
          admitted = ap (λ (l : Leaf). all_admitted q.admits l.slots.items) (sym same) ∙ t;
          past = λ k lo hi. absurd (omega arith);
          after = sym (tails_same _ _ _ _ both) ∙ ap (λ (r : ℕ). admitted_leaves q (r + 1) b) rank;
        }

    passed : all_admitted q.admits (get_or (lists_of q.space) a []) ≡ false → slice_get (lists_of q.space) a ≡ Some (get_or (lists_of q.space) a []) → IsFirst q (a + 1) b leaf rest → IsFirst q a b leaf rest
    passed f here later =
        let low : a + 1 ≤ leaf.rank = later.low in
        record {
          low = omega arith;
          high = later.high;
          list = later.list;
          admitted = later.admitted;
          past = λ k lo hi. elim (cases_lt a k) [
            | inl above ↦ later.past k (omega arith) hi
            | inr at ↦ (let same : a ≡ k = omega arith in
                record { slots = get_or (lists_of q.space) a []; list = ap (slice_get (lists_of q.space)) (sym same) ∙ here; refusal = f })
          ];
          after = later.after;
        }

-- where there is none, each list is refused
pub no_leaf : (q : Question) (a b n k : ℕ) → a + n ≡ b → b ≤ length (lists_of q.space) → admitted_leaves q a b ≡ [] → a ≤ k → k < b → Refused q k
no_leaf q a b zero k e h is lo hi = absurd (omega arith)
no_leaf q a b (suc n) k e h is lo hi =
    let slots = get_or (lists_of q.space) a [] in
    let here : slice_get (lists_of q.space) a ≡ Some (get_or (lists_of q.space) a []) = slice_get-get_or (lists_of q.space) a [] (omega arith) in
    elim (cases_Bool (all_admitted q.admits (get_or (lists_of q.space) a []))) [
      | inl t ↦ absurd (none _ _ (sym (keep_one q a b slots (omega arith) here t) ∙ is))
      | inr f ↦ elim (cases_lt a k) [
        | inl above ↦ no_leaf q (a + 1) b n k (omega arith) h (sym (pass_one q a b slots (omega arith) here f) ∙ is) (omega arith) hi
        | inr at ↦ (let same : a ≡ k = omega arith in
            record { slots = get_or (lists_of q.space) a []; list = ap (slice_get (lists_of q.space)) (sym same) ∙ here; refusal = f })
      ]
    ]
  where
    none : (leaf : Leaf) (rest : List Leaf) → leaf ∷ rest ≡ [] → ⊥
    none leaf rest f = search rules
