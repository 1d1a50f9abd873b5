-- What a walk gives, by ranks.
use Rattle.std.proofs.Common.{ℕ, ◌≡◌, ◌≤◌, ◌+◌, ◌-◌, List, [], ◌∷◌, length, map, filter, sym, ap, ◌∙◌, arith, zero, suc, Bool, false, cond, Option, Some, slice_get, get_or, subst, inl, inr}
use Rattle.std.specs.List.{range_with_len, AllByRecursion}
use Rattle.std.specs.Option.{option_map_or}
use Rattle.std.proofs.lemmas.Bool.{cases_Bool}
use Rattle.std.proofs.lemmas.Option.{slice_get-get_or}
use Rattle.slot_math.specs.Space.{lists_of}
use Rattle.slot_math.proofs.Listed.{each_get}
use Rattle.candidate_enum.specs.Survivors.{Question, all_admitted, admitted_leaves, survivors}
use Rattle.candidate_enum.specs.Laws.{rank_admitted}
use Rattle.candidate_enum.specs.declared.leaf.Leaf.{Leaf}
use Rattle.candidate_enum.proofs.Leaves.{pass_one, keep_one, none_left}

-- the ranks from a up to b that are admitted, and the leaves
by_rank : (q : Question) (a b n : ℕ) → a + n ≡ b → b ≤ length (lists_of q.space) → map (λ leaf. leaf.rank) (admitted_leaves q a b) ≡ filter (rank_admitted q) (range_with_len a n)
by_rank q a b zero e h = ap (map (λ leaf. leaf.rank)) (none_left q a b (omega arith))
by_rank q a b (suc n) e h =
    let here : slice_get (lists_of q.space) a ≡ Some (get_or (lists_of q.space) a []) = slice_get-get_or (lists_of q.space) a [] (omega arith) in
    let known : rank_admitted q a ≡ all_admitted q.admits (get_or (lists_of q.space) a []) = ap (λ (o : Option (List (Option ℕ))). option_map_or (all_admitted q.admits) o false) here in
    let rest : map (λ leaf. leaf.rank) (admitted_leaves q (a + 1) b) ≡ filter (rank_admitted q) (range_with_len (a + 1) n) = by_rank q (a + 1) b n (omega arith) h in
    elim (cases_Bool (all_admitted q.admits (get_or (lists_of q.space) a []))) [
      | inl t ↦ ap (map (λ leaf. leaf.rank)) (keep_one q a b (get_or (lists_of q.space) a []) (omega arith) here t)
          ∙ ap (λ (x : List ℕ). a ∷ x) rest
          ∙ sym (ap (λ (c : Bool). cond c (a ∷ filter (rank_admitted q) (range_with_len (a + 1) n)) (filter (rank_admitted q) (range_with_len (a + 1) n))) (known ∙ t))
      | inr f ↦ ap (map (λ leaf. leaf.rank)) (pass_one q a b (get_or (lists_of q.space) a []) (omega arith) here f)
          ∙ rest
          ∙ sym (ap (λ (c : Bool). cond c (a ∷ filter (rank_admitted q) (range_with_len (a + 1) n)) (filter (rank_admitted q) (range_with_len (a + 1) n))) (known ∙ f))
    ]

pub survivors_by_rank : (q : Question) → q.from ≤ q.stop → q.stop ≤ length (lists_of q.space) →
    map (λ leaf. leaf.rank) (survivors q) ≡ filter (rank_admitted q) (range_with_len q.from (q.stop - q.from))
survivors_by_rank q o h = by_rank q q.from q.stop (q.stop - q.from) (omega arith) h

-- the leaf holds the list of its rank
abbrev IsList : Question → Leaf → Type 0
IsList q leaf = slice_get (lists_of q.space) leaf.rank ≡ Some leaf.slots.items

are_lists : (q : Question) (a b n : ℕ) → a + n ≡ b → b ≤ length (lists_of q.space) → AllByRecursion (λ leaf. slice_get (lists_of q.space) leaf.rank ≡ Some leaf.slots.items) (admitted_leaves q a b)
are_lists q a b zero e h = let P : List Leaf → Type 0 = λ t. AllByRecursion (IsList q) t in subst P (sym (none_left q a b (omega arith))) tt
are_lists q a b (suc n) e h =
    let here : slice_get (lists_of q.space) a ≡ Some (get_or (lists_of q.space) a []) = slice_get-get_or (lists_of q.space) a [] (omega arith) in
    let rest = are_lists q (a + 1) b n (omega arith) h in
    let P : List Leaf → Type 0 = λ t. AllByRecursion (IsList q) t in
    elim (cases_Bool (all_admitted q.admits (get_or (lists_of q.space) a []))) [
      | inl t ↦ subst P (sym (keep_one q a b (get_or (lists_of q.space) a []) (omega arith) here t)) (here, rest)
      | inr f ↦ subst P (sym (pass_one q a b (get_or (lists_of q.space) a []) (omega arith) here f)) rest
    ]

pub survivors_are_lists : (q : Question) (i : ℕ) (leaf : Leaf) → q.from ≤ q.stop → q.stop ≤ length (lists_of q.space) →
    slice_get (survivors q) i ≡ Some leaf → slice_get (lists_of q.space) leaf.rank ≡ Some leaf.slots.items
survivors_are_lists q i leaf o h e = each_get (IsList q) (survivors q) i leaf (are_lists q q.from q.stop (q.stop - q.from) (omega arith) h) e
