-- How a walk moves on.
use Rattle.std.proofs.Common.{ℕ, ◌≡◌, ◌<◌, ◌≤◌, ◌+◌, ◌-◌, min, max, List, [], ◌∷◌, ◌++◌, length, reverse, refl, sym, ap, ap₂, ◌∙◌, arith, zero, suc, Bool, true, false, cond, Option, None, get_or, subst, inl, inr, length-append, zero-add, add_assoc}
use Rattle.std.specs.List.{sum_by}
use Rattle.std.proofs.lemmas.Bool.{cases_lt, ltb-true}
use Rattle.std.proofs.lemmas.List.{take-append-le, take_at, take_all}
use Rattle.search_terms.specs.SlotLists.{fillings}
use Rattle.raid_params.specs.Slots.{is_distinct}
use Rattle.slot_math.specs.Space.{lists_of}
use Rattle.slot_math.specs.Ways.{ends, IsPlace}
use Rattle.slot_math.specs.declared.space.Space.{Space}
use Rattle.slot_math.proofs.Blocks.{distinct_front}
use Rattle.slot_math.proofs.Fronts.{start_more, all_images_more, ends_of_nothing}
use Rattle.candidate_enum.specs.Survivors.{Question}
use Rattle.candidate_enum.specs.Tests.{meets, tests}
use Rattle.candidate_enum.specs.declared.leaf.Leaf.{Leaf}
use Rattle.candidate_enum.specs.Left.{Left, nothing_left, base_of, base_back, index_of, overlaps, children_before, children_tests, after_back, leaves_from, left_at, left_after, left_children, IsSearch, Admitted, IsDone, IsParent, StandsAt}
use Rattle.candidate_enum.proofs.Bases.{base_more, all_but_last, turned_more, turned_twice}
use Rattle.candidate_enum.proofs.Meets.{meets_is}
use Rattle.candidate_enum.proofs.Leaves.{leaves_outside, leaves_end}
use Rattle.candidate_enum.proofs.Children.{before_step, before_is, before_all, tests_step, tests_done, index_within, filling_of}

-- what is counted stands below the total
pub some_overlap : (from stop rank count : ℕ) → overlaps from stop rank count ≡ true → max from rank < min stop (rank + count)
some_overlap from stop rank count h = ltb-true (max from rank) (min stop (rank + count)) h

-- a prefix that is not met takes no tests, a refused one takes one
tests_outside : (q : Question) (k : ℕ) (p : List (Option ℕ)) → meets q p ≡ false → tests q k p ≡ 0
unfolding tests
tests_outside q zero p m = ap (λ (b : Bool). cond b 1 0) m
tests_outside q (suc k) p m = ap (λ (b : Bool). cond b (cond (q.admits p) (1 + sum_by (λ x. tests q k (p ++ x ∷ [])) (fillings q.space.images)) 1) 0) m

pub tests_refused : (q : Question) (k : ℕ) (p : List (Option ℕ)) → meets q p ≡ true → q.admits p ≡ false → tests q k p ≡ 1
unfolding tests
tests_refused q zero p m a = ap (λ (b : Bool). cond b 1 0) m
tests_refused q (suc k) p m a =
    ap (λ (b : Bool). cond b (cond (q.admits p) (1 + sum_by (λ x. tests q k (p ++ x ∷ [])) (fillings q.space.images)) 1) 0) m
    ∙ ap (λ (b : Bool). cond b (1 + sum_by (λ x. tests q k (p ++ x ∷ [])) (fillings q.space.images)) 1) a

pub tests_leaf : (q : Question) (p : List (Option ℕ)) → meets q p ≡ true → tests q 0 p ≡ 1
unfolding tests
tests_leaf q p m = ap (λ (b : Bool). cond b 1 0) m

pub tests_deeper : (q : Question) (k : ℕ) (p : List (Option ℕ)) → meets q p ≡ true → q.admits p ≡ true →
    tests q (suc k) p ≡ 1 + sum_by (λ x. tests q k (p ++ x ∷ [])) (fillings q.space.images)
unfolding tests
tests_deeper q k p m a =
    ap (λ (b : Bool). cond b (cond (q.admits p) (1 + sum_by (λ x. tests q k (p ++ x ∷ [])) (fillings q.space.images)) 1) 0) m
    ∙ ap (λ (b : Bool). cond b (1 + sum_by (λ x. tests q k (p ++ x ∷ [])) (fillings q.space.images)) 1) a

-- the parents of a prefix with one place more
admitted_more : (q : Question) (p : List (Option ℕ)) (y : Option ℕ) → Admitted q p (length p + 1) → Admitted q (p ++ y ∷ []) (length (p ++ y ∷ []))
admitted_more q p y h = λ k lt.
    let long : length (p ++ y ∷ []) ≡ length p + 1 = length-append p (y ∷ []) in
    ap q.admits (take-append-le k p (y ∷ []) (omega arith)) ∙ h k (omega arith)

admitted_less : (q : Question) (p : List (Option ℕ)) (y : Option ℕ) → Admitted q (p ++ y ∷ []) (length (p ++ y ∷ [])) → Admitted q p (length p + 1)
admitted_less q p y h = λ k lt.
    let long : length (p ++ y ∷ []) ≡ length p + 1 = length-append p (y ∷ []) in
    ap q.admits (sym (take-append-le k p (y ∷ []) (omega arith))) ∙ h k (omega arith)

pub admitted_self : (q : Question) (p : List (Option ℕ)) → Admitted q p (length p) → q.admits p ≡ true → Admitted q p (length p + 1)
admitted_self q p h a = λ k lt. elim (cases_lt k (length p)) [
  | inl below ↦ h k below
  | inr above ↦ ap q.admits (take_all k p above) ∙ a
]

-- the tests after a prefix with one place more
after_more : (q : Question) (p : List (Option ℕ)) (y : Option ℕ) → after_back q (reverse (p ++ y ∷ [])) ≡ children_tests q p (index_of q.space.images y + 1) + after_back q (reverse p)
unfolding after_back
after_more q p y = ap (after_back q) (turned_more p y)
    ∙ ap (λ (t : List (Option ℕ)). children_tests q t (index_of q.space.images y + 1) + after_back q (reverse p)) (turned_twice p)

-- the base of a child
child_base : (s : Space) (p : List (Option ℕ)) (j rank : ℕ) (y : Option ℕ) → rank ≡ base_of s p + children_before s p j → j ≡ index_of s.images y → IsPlace s.images y → base_of s (p ++ y ∷ []) ≡ rank
child_base s p j rank y e f ok = base_more s p y ∙ ap (λ (k : ℕ). base_of s p + k) (before_is s p y ok ∙ ap (children_before s p) (sym f)) ∙ sym e

-- a child with which a list of the range begins
pub found : (q : Question) (p : List (Option ℕ)) (j rank : ℕ) (y : Option ℕ) → IsParent q p j rank → IsPlace q.space.images y → j ≡ index_of q.space.images y →
    overlaps q.from q.stop rank (length (ends q.space (p ++ y ∷ []))) ≡ true →
    (left_children q p j rank ≡ left_at q (p ++ y ∷ []) rank) × StandsAt q (p ++ y ∷ []) rank
unfolding left_children left_at
found q p j rank y f ok e o =
    let long : length (p ++ y ∷ []) ≡ length p + 1 = length-append p (y ∷ []) in
    let short : length p < q.space.members = f.short in
    let within : index_of q.space.images y ≤ q.space.images = index_within q.space.images y ok in
    let some : max q.from rank < min q.stop (rank + length (ends q.space (p ++ y ∷ []))) = some_overlap q.from q.stop rank (length (ends q.space (p ++ y ∷ []))) o in
    let filling : get_or (fillings q.space.images) j None ≡ y = ap (λ (k : ℕ). get_or (fillings q.space.images) k None) e ∙ filling_of q.space.images y ok in
    let t : children_tests q p j + after_back q (reverse p) ≡ tests q (q.space.members - length (p ++ y ∷ [])) (p ++ y ∷ []) + after_back q (reverse (p ++ y ∷ []))
    = ap (λ (k : ℕ). k + after_back q (reverse p)) (tests_step q p j y (omega arith) filling)
    ∙ add_assoc (tests q (q.space.members - suc (length p)) (p ++ y ∷ [])) (children_tests q p (j + 1)) (after_back q (reverse p))
    ∙ ap₂ (λ (a b : ℕ). tests q a (p ++ y ∷ []) + b) (let g : q.space.members - suc (length p) ≡ q.space.members - length (p ++ y ∷ []) = omega arith in g)
    (ap (λ (k : ℕ). children_tests q p (k + 1) + after_back q (reverse p)) e ∙ sym (after_more q p y)) in (
      ap (λ (k : ℕ). (let l : Left = record { leaves = leaves_from q rank; allowance = k } in l)) t,
      record {
        short = omega arith;
        start = start_more q.space p y f.start ok (omega arith);
        at = sym (child_base q.space p j rank y f.at e ok);
        parents = admitted_more q p y f.parents;
        meeting = o;
      },
    )

-- a child with which no list of the range begins
pub passed : (q : Question) (p : List (Option ℕ)) (j rank : ℕ) (y : Option ℕ) → IsSearch q.space q.from q.stop → IsParent q p j rank → IsPlace q.space.images y → j ≡ index_of q.space.images y →
    overlaps q.from q.stop rank (length (ends q.space (p ++ y ∷ []))) ≡ false →
    (left_children q p j rank ≡ left_children q p (j + 1) (rank + length (ends q.space (p ++ y ∷ [])))) × IsParent q p (j + 1) (rank + length (ends q.space (p ++ y ∷ [])))
unfolding left_children
passed q p j rank y w f ok e o =
    let long : length (p ++ y ∷ []) ≡ length p + 1 = length-append p (y ∷ []) in
    let short : length p < q.space.members = f.short in
    let within : index_of q.space.images y ≤ q.space.images = index_within q.space.images y ok in
    let filling : get_or (fillings q.space.images) j None ≡ y = ap (λ (k : ℕ). get_or (fillings q.space.images) k None) e ∙ filling_of q.space.images y ok in
    let base : base_of q.space (p ++ y ∷ []) ≡ rank = child_base q.space p j rank y f.at e ok in
    let miss : meets q (p ++ y ∷ []) ≡ false
    = meets_is q (p ++ y ∷ []) w (all_images_more q.space.images p y f.start.0 ok) (omega arith)
    ∙ ap (λ (b : ℕ). overlaps q.from q.stop b (length (ends q.space (p ++ y ∷ [])))) base ∙ o in
    let t : children_tests q p j ≡ children_tests q p (j + 1)
    = tests_step q p j y (omega arith) filling
    ∙ ap (λ (k : ℕ). k + children_tests q p (j + 1)) (tests_outside q (q.space.members - suc (length p)) (p ++ y ∷ []) miss)
    ∙ zero-add (children_tests q p (j + 1)) in
    let at : rank ≡ base_of q.space p + children_before q.space p j = f.at in
    let more : children_before q.space p (j + 1) ≡ children_before q.space p j + length (ends q.space (p ++ y ∷ [])) = before_step q.space p j y (omega arith) filling in (
      ap₂ (λ (l : List Leaf) (k : ℕ). (let x : Left = record { leaves = l; allowance = k + after_back q (reverse p) } in x)) (leaves_outside q rank (length (ends q.space (p ++ y ∷ []))) o) t,
      record { short = f.short; start = f.start; filling = omega arith; at = omega arith; parents = f.parents },
    )

-- no child is left
pub all_passed : (q : Question) (p : List (Option ℕ)) (j rank : ℕ) → IsParent q p j rank → j ≡ q.space.images + 1 →
    (left_children q p j rank ≡ left_after q p rank) × IsDone q p rank
unfolding left_children left_after
all_passed q p j rank f e =
    let short : length p < q.space.members = f.short in
    let at : rank ≡ base_of q.space p + children_before q.space p j = f.at in
    let all : children_before q.space p j ≡ length (ends q.space p) = ap (children_before q.space p) e ∙ before_all q.space p f.short in (
      ap (λ (k : ℕ). (let x : Left = record { leaves = leaves_from q rank; allowance = k } in x))
          (ap (λ (k : ℕ). children_tests q p k + after_back q (reverse p)) e ∙ ap (λ (k : ℕ). k + after_back q (reverse p)) (tests_done q p) ∙ zero-add (after_back q (reverse p))),
      record { short = omega arith; start = f.start; next = omega arith; parents = λ k lt. f.parents k (omega arith) },
    )

-- up to the parent
popped_at : (q : Question) (old p : List (Option ℕ)) (rank : ℕ) (y : Option ℕ) → IsDone q old rank → old ≡ p ++ y ∷ [] →
    (left_after q old rank ≡ left_children q p (index_of q.space.images y + 1) rank) × IsParent q p (index_of q.space.images y + 1) rank × IsPlace q.space.images y
unfolding left_children left_after
popped_at q old p rank y d e =
    let P : List (Option ℕ) → Type 0 = λ t. IsDone q t rank in
    let g = subst P e d in
    let long : length (p ++ y ∷ []) ≡ length p + 1 = length-append p (y ∷ []) in
    let short : length (p ++ y ∷ []) ≤ q.space.members = g.short in
    let parts = all_but_last q.space.images p y g.start.0 in
    let within : index_of q.space.images y ≤ q.space.images = index_within q.space.images y parts.1 in
    let distinct : is_distinct p ≡ true = ap is_distinct (sym (take_at p (y ∷ []) (length p) refl)) ∙ distinct_front (p ++ y ∷ []) (length p) g.start.1 in
    let next : rank ≡ base_of q.space (p ++ y ∷ []) + length (ends q.space (p ++ y ∷ [])) = g.next in
    let base : base_of q.space (p ++ y ∷ []) ≡ base_of q.space p + children_before q.space p (index_of q.space.images y)
    = base_more q.space p y ∙ ap (λ (k : ℕ). base_of q.space p + k) (before_is q.space p y parts.1) in
    let more : children_before q.space p (index_of q.space.images y + 1) ≡ children_before q.space p (index_of q.space.images y) + length (ends q.space (p ++ y ∷ []))
    = before_step q.space p (index_of q.space.images y) y within (filling_of q.space.images y parts.1) in (
      ap (λ (k : ℕ). (let x : Left = record { leaves = leaves_from q rank; allowance = k } in x)) (ap (λ (t : List (Option ℕ)). after_back q (reverse t)) e ∙ after_more q p y),
      record { short = omega arith; start = (parts.0, distinct); filling = omega arith; at = omega arith; parents = admitted_less q p y g.parents },
      parts.1,
    )

-- what is then left, and where the walk stands
pub record IsPopped (q : Question) (p : List (Option ℕ)) (rank : ℕ) (y : Option ℕ) (was : Left) : Type 0 where
  pub same : was ≡ left_children q p (index_of q.space.images y + 1) rank
  pub parent : IsParent q p (index_of q.space.images y + 1) rank
  pub place : IsPlace q.space.images y

pub popped : (q : Question) (old p : List (Option ℕ)) (was rank : ℕ) (y : Option ℕ) → IsDone q old was → old ≡ p ++ y ∷ [] → rank ≡ was → IsPopped q p rank y (left_after q old was)
popped q old p was rank y d e f =
    let h = popped_at q old p was y d e in
    let P : ℕ → Type 0 = λ r. IsPopped q p r y (left_after q old was) in
    subst P (sym f) (record { same = h.0; parent = h.1; place = h.2 })

-- the end of the walk
pub at_end : (q : Question) (p : List (Option ℕ)) (rank : ℕ) → IsSearch q.space q.from q.stop → IsDone q p rank → p ≡ [] → left_after q p rank ≡ nothing_left
unfolding left_after after_back base_back
at_end q p rank w d e =
    let ranks : q.stop ≤ length (lists_of q.space) = w.ranks in
    let next : rank ≡ base_of q.space p + length (ends q.space p) = d.next in
    let base : base_of q.space p ≡ 0 = ap (base_of q.space) e in
    let all : length (ends q.space p) ≡ length (lists_of q.space) = ap (λ (t : List (Option ℕ)). length (ends q.space t)) e ∙ ap length (ends_of_nothing q.space) in
    ap₂ (λ (l : List Leaf) (k : ℕ). (let x : Left = record { leaves = l; allowance = k } in x)) (leaves_end q rank (omega arith)) (ap (λ (t : List (Option ℕ)). after_back q (reverse t)) e)
