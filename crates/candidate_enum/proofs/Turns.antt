-- What a turn of a walk does, and where a walk begins.
use Rattle.std.proofs.Common.{ℕ, zero, ◌≡◌, ◌<◌, ◌≤◌, ◌+◌, ◌-◌, ◌^◌, min, max, List, [], ◌∷◌, ◌++◌, length, reverse, filter, refl, sym, ap, ap₂, ◌∙◌, arith, suc, Bool, true, false, cond, Option, Some, None, slice_get, subst, inl, inr, rules, add-zero, add_comm}
use Rattle.raid_params.specs.declared.limits.TheConstants.{MOST}
use Rattle.std.proofs.lemmas.Bool.{ltb-false, cases_Bool}
use Rattle.search_terms.specs.SlotLists.{is_kept, all_lists}
use Rattle.raid_params.specs.Slots.{is_distinct}
use Rattle.slot_math.specs.Space.{lists_of, begins}
use Rattle.slot_math.specs.Ways.{ends, before, IsPlace}
use Rattle.slot_math.specs.declared.space.Space.{Space}
use Rattle.slot_math.proofs.Blocks.{total_fits}
use Rattle.slot_math.proofs.Completions.{begun}
use Rattle.slot_math.proofs.Fronts.{goes_on_last, ends_of_nothing}
use Rattle.candidate_enum.specs.Survivors.{Question, leaf_of, survivors}
use Rattle.candidate_enum.specs.Tests.{meets, tests}
use Rattle.candidate_enum.specs.Left.{Left, base_of, base_back, index_of, overlaps, children_before, children_tests, after_back, leaves_from, left_at, left_after, left_children, IsSearch, IsDone, IsParent, StandsAt, MayStand, IsMet, IsTurn, left_from, nothing_left}
use Rattle.candidate_enum.specs.declared.walk.Walk.{Walk}
use Rattle.candidate_enum.specs.declared.leaf.Leaf.{Leaf}
use Rattle.candidate_enum.proofs.Bases.{block_of}
use Rattle.candidate_enum.proofs.Meets.{meets_is}
use Rattle.candidate_enum.proofs.Leaves.{leaves_refused, leaf_met, leaves_start, none_left}
use Rattle.candidate_enum.proofs.Moves.{tests_refused, tests_leaf, tests_deeper, admitted_self, some_overlap}
use Rattle.candidate_enum.proofs.Children.{none_before_first, tests_all, before_is}
use Rattle.slot_math.proofs.Steps.{part_of_ends}

-- a list of the range begins with the prefix at which a walk stands
standing_meets : (q : Question) (p : List (Option ℕ)) (rank : ℕ) → IsSearch q.space q.from q.stop → StandsAt q p rank → meets q p ≡ true
standing_meets q p rank w s =
    meets_is q p w s.start.0 s.short
    ∙ ap (λ (b : ℕ). overlaps q.from q.stop b (length (ends q.space p))) (sym s.at) ∙ s.meeting

pub begins_some : (q : Question) (p : List (Option ℕ)) (rank : ℕ) → StandsAt q p rank → 0 < length (filter (begins p) (lists_of q.space))
begins_some q p rank s =
    let some : max q.from rank < min q.stop (rank + length (ends q.space p)) = some_overlap q.from q.stop rank (length (ends q.space p)) s.meeting in
    let same : length (filter (begins p) (lists_of q.space)) ≡ length (ends q.space p) = begun q.space p s.short s.start.0 in
    omega arith

-- a prefix that is refused
pub refused : (q : Question) (p : List (Option ℕ)) (rank count : ℕ) → IsSearch q.space q.from q.stop → StandsAt q p rank → q.admits p ≡ false → count ≡ length (ends q.space p) →
    IsTurn (left_at q p rank) None (left_after q p (rank + count)) × IsDone q p (rank + count)
unfolding left_at left_after
refused q p rank count w s refusal c =
    let same : count ≡ length (ends q.space p) = c in
    let at : rank ≡ base_of q.space p = s.at in (
      record {
        leaves = ap (leaves_from q) s.at ∙ leaves_refused q p s.start.0 s.short refusal
            ∙ ap₂ (λ (a b : ℕ). leaves_from q (a + b)) (sym s.at) (sym same);
        cost = ap (λ (k : ℕ). k + after_back q (reverse p)) (tests_refused q (q.space.members - length p) p (standing_meets q p rank w s) refusal)
            ∙ add_comm 1 (after_back q (reverse p));
      },
      record { short = s.short; start = s.start; next = omega arith; parents = s.parents },
    )

-- one list begins with all places of a list
one_or_none : (s : Space) (p : List (Option ℕ)) → length p ≡ s.members → length (ends s p) ≤ 1
unfolding ends all_lists
one_or_none s p long =
    let left : s.members - length p ≡ 0 = omega arith in
    let e : length (filter (λ l. is_kept s.low s.high (p ++ l)) (all_lists s.images (s.members - length p))) ≡ length (cond (is_kept s.low s.high (p ++ [])) ([] ∷ []) (let t : List (List (Option ℕ)) = [] in t))
    = ap (λ (n : ℕ). length (filter (λ l. is_kept s.low s.high (p ++ l)) (all_lists s.images n))) left in
    let h : length (cond (is_kept s.low s.high (p ++ [])) ([] ∷ []) (let t : List (List (Option ℕ)) = [] in t)) ≤ 1 = at_most (is_kept s.low s.high (p ++ [])) in
    omega arith
  where
    at_most : (b : Bool) → length (cond b ([] ∷ []) (let t : List (List (Option ℕ)) = [] in t)) ≤ 1
    at_most true = omega arith
    at_most false = omega arith

-- a leaf that is met
pub met : (q : Question) (p : List (Option ℕ)) (rank : ℕ) → IsSearch q.space q.from q.stop → StandsAt q p rank → q.admits p ≡ true → length p ≡ q.space.members →
    IsTurn (left_at q p rank) (Some (leaf_of rank p)) (left_after q p (rank + 1)) × IsDone q p (rank + 1)
unfolding left_at left_after
met q p rank w s grant long =
    let some : max q.from rank < min q.stop (rank + length (ends q.space p)) = some_overlap q.from q.stop rank (length (ends q.space p)) s.meeting in
    let most : length (ends q.space p) ≤ 1 = one_or_none q.space p long in
    let one : length (ends q.space p) ≡ 1 = omega arith in
    let at : rank ≡ base_of q.space p = s.at in
    let here : slice_get (lists_of q.space) rank ≡ Some p
    = goes_on_last q.space p rank 0 (ap (slice_get (lists_of q.space)) (let e : rank ≡ base_of q.space p + 0 = omega arith in e) ∙ (block_of q.space p s.start.0 s.short).at 0 (omega arith)) long (omega arith) in
    let none : q.space.members - length p ≡ 0 = omega arith in (
      record {
        leaves = leaf_met q p rank here (ap (overlaps q.from q.stop rank) (sym one) ∙ s.meeting) (admitted_self q p s.parents grant);
        cost = ap (λ (k : ℕ). tests q k p + after_back q (reverse p)) none
            ∙ ap (λ (k : ℕ). k + after_back q (reverse p)) (tests_leaf q p (standing_meets q p rank w s))
            ∙ add_comm 1 (after_back q (reverse p));
      },
      record { short = s.short; start = s.start; next = omega arith; parents = s.parents },
    )

-- an admitted prefix: its children come next
pub deeper : (q : Question) (p : List (Option ℕ)) (rank : ℕ) → IsSearch q.space q.from q.stop → StandsAt q p rank → q.admits p ≡ true → length p < q.space.members →
    IsTurn (left_at q p rank) None (left_children q p 0 rank) × IsParent q p 0 rank
unfolding left_at left_children
deeper q p rank w s grant short =
    let more : q.space.members - length p ≡ suc (q.space.members - suc (length p)) = omega arith in
    let at : rank ≡ base_of q.space p = s.at in
    let none : children_before q.space p 0 ≡ 0 = none_before_first q.space p in (
      record {
        leaves = refl;
        cost = ap (λ (k : ℕ). tests q k p + after_back q (reverse p)) more
            ∙ ap (λ (k : ℕ). k + after_back q (reverse p)) (tests_deeper q (q.space.members - suc (length p)) p (standing_meets q p rank w s) grant)
            ∙ ap (λ (k : ℕ). 1 + k + after_back q (reverse p)) (sym (tests_all q p))
            ∙ regroup (children_tests q p 0) (after_back q (reverse p));
      },
      record { short = short; start = s.start; filling = omega arith; at = omega arith; parents = admitted_self q p s.parents grant },
    )
  where
    regroup : (a b : ℕ) → 1 + a + b ≡ (a + b) + 1
    regroup a b = omega arith

-- a turn with what comes after it
pub turn_to : (old : Left) (leaf : Option Leaf) (mid new : Left) → IsTurn old leaf mid → mid ≡ new → IsTurn old leaf new
turn_to old leaf mid new t e = let P : Left → Type 0 = λ x. IsTurn old leaf x in subst P e t

-- where a walk begins
first_leaves : (q : Question) (p : List (Option ℕ)) → p ≡ [] → (left_at q p 0).leaves ≡ survivors q
unfolding left_at
first_leaves q p e = leaves_start q

first_allowance : (q : Question) (p : List (Option ℕ)) → p ≡ [] → (left_at q p 0).allowance ≡ tests q q.space.members []
unfolding left_at after_back
first_allowance q p e =
    ap (λ (t : List (Option ℕ)). tests q (q.space.members - length t) t + after_back q (reverse t)) e
    ∙ ap (λ (k : ℕ). tests q k [] + 0) (let f : q.space.members - 0 ≡ q.space.members = omega arith in f) ∙ add-zero (tests q q.space.members [])

unmet_tests : (q : Question) (places : ℕ) → meets q [] ≡ false → tests q places [] ≡ 0
unfolding tests
unmet_tests q zero e = rw e refl
unmet_tests q (suc places) e = rw e refl

-- with no rank in the range nothing is tested
no_tests : (q : Question) (total : ℕ) → IsSearch q.space q.from q.stop → total ≡ length (lists_of q.space) → overlaps q.from q.stop 0 total ≡ false → 0 ≡ tests q q.space.members []
unfolding base_back
no_tests q total w e o =
    let none : meets q [] ≡ false = meets_is q [] w tt (omega arith) ∙ ap (overlaps q.from q.stop 0) (ap length (ends_of_nothing q.space) ∙ sym e) ∙ o in
    sym (unmet_tests q q.space.members none)

first_stands : (q : Question) (p : List (Option ℕ)) (total : ℕ) → p ≡ [] → total ≡ length (lists_of q.space) → overlaps q.from q.stop 0 total ≡ true → StandsAt q p 0
unfolding base_back is_distinct
first_stands q p total none e o =
    let P : List (Option ℕ) → Type 0 = λ t. StandsAt q t 0 in
    subst P (sym none) (record {
      short = omega arith;
      start = (tt, refl);
      at = refl;
      parents = λ k lt. absurd (omega arith);
      meeting = ap (overlaps q.from q.stop 0) (ap length (ends_of_nothing q.space) ∙ sym e) ∙ o;
    })

pub total_sum : (s : Space) (total : ℕ) → s.images ≤ MOST → s.members ≤ MOST → total ≡ length (lists_of s) → 0 + total ≤ (MOST + 1) ^ MOST
total_sum s total n m e = let f : length (lists_of s) ≤ (MOST + 1) ^ MOST = total_fits s n m in omega arith

first_nothing : (q : Question) (total : ℕ) → IsSearch q.space q.from q.stop → total ≡ length (lists_of q.space) → overlaps q.from q.stop 0 total ≡ false → [] ≡ survivors q
first_nothing q total w e o =
    let out : min q.stop (0 + total) ≤ max q.from 0 = ltb-false (max q.from 0) (min q.stop (0 + total)) o in
    let ranks : q.stop ≤ length (lists_of q.space) = w.ranks in
    let m : q.stop ≤ q.from = omega arith in
    sym (none_left q q.from q.stop m)

pub record IsBegun (q : Question) (walk : Walk) : Type 0 where
  pub leaves : (left_from q walk).leaves ≡ survivors q
  pub allowance : (left_from q walk).allowance ≡ tests q q.space.members []
  pub stands : MayStand q walk

pub begun_walk : (q : Question) (walk : Walk) (total : ℕ) (met : Bool) → IsSearch q.space q.from q.stop → total ≡ length (lists_of q.space) → met ≡ overlaps q.from q.stop 0 total →
    walk.slots.items ≡ [] → walk.rank ≡ 0 → walk.going ≡ met → IsBegun q walk
begun_walk q walk total met w e m none zero_rank going = elim (cases_Bool walk.going) [
  | inl t ↦ (let o : overlaps q.from q.stop 0 total ≡ true = sym m ∙ sym going ∙ t in
      record {
        leaves = ap (λ (b : Bool). (cond b (left_at q walk.slots.items walk.rank) nothing_left).leaves) t
            ∙ ap (λ (r : ℕ). (left_at q walk.slots.items r).leaves) zero_rank ∙ first_leaves q walk.slots.items none;
        allowance = ap (λ (b : Bool). (cond b (left_at q walk.slots.items walk.rank) nothing_left).allowance) t
            ∙ ap (λ (r : ℕ). (left_at q walk.slots.items r).allowance) zero_rank ∙ first_allowance q walk.slots.items none;
        stands = λ _. subst (λ (r : ℕ). StandsAt q walk.slots.items r) (sym zero_rank) (first_stands q walk.slots.items total none e o);
      })
  | inr f ↦ (let o : overlaps q.from q.stop 0 total ≡ false = sym m ∙ sym going ∙ f in
      record {
        leaves = ap (λ (b : Bool). (cond b (left_at q walk.slots.items walk.rank) nothing_left).leaves) f ∙ first_nothing q total w e o;
        allowance = ap (λ (b : Bool). (cond b (left_at q walk.slots.items walk.rank) nothing_left).allowance) f ∙ no_tests q total w e o;
        stands = λ t. absurd (search rules);
      })
]

-- a walk that goes on, and one at its end
pub goes_on : (q : Question) (walk : Walk) → walk.going ≡ true → left_from q walk ≡ left_at q walk.slots.items walk.rank
goes_on q walk t = ap (λ (b : Bool). cond b (left_at q walk.slots.items walk.rank) nothing_left) t

pub is_over : (q : Question) (walk : Walk) → walk.going ≡ false → left_from q walk ≡ nothing_left
is_over q walk f = ap (λ (b : Bool). cond b (left_at q walk.slots.items walk.rank) nothing_left) f

-- ranks are counted in 128 bits
pub done_fits : (q : Question) (p : List (Option ℕ)) (rank count : ℕ) → IsSearch q.space q.from q.stop → StandsAt q p rank → count ≡ length (ends q.space p) → rank + count ≤ (MOST + 1) ^ MOST
done_fits q p rank count w s c =
    let at : rank ≡ base_of q.space p = s.at in
    let within : base_of q.space p + length (ends q.space p) ≤ length (lists_of q.space) = (block_of q.space p s.start.0 s.short).within in
    let total : length (lists_of q.space) ≤ (MOST + 1) ^ MOST = total_fits q.space w.images w.members in
    omega arith

pub child_fits : (q : Question) (p : List (Option ℕ)) (j rank : ℕ) (y : Option ℕ) → IsSearch q.space q.from q.stop → IsParent q p j rank → IsPlace q.space.images y → j ≡ index_of q.space.images y →
    rank + length (ends q.space (p ++ y ∷ [])) ≤ (MOST + 1) ^ MOST
child_fits q p j rank y w f ok e =
    let at : rank ≡ base_of q.space p + children_before q.space p j = f.at in
    let part : before q.space p y + length (ends q.space (p ++ y ∷ [])) ≤ length (ends q.space p) = part_of_ends q.space p y f.short ok in
    let same : before q.space p y ≡ children_before q.space p j = before_is q.space p y ok ∙ ap (children_before q.space p) (sym e) in
    let short : length p < q.space.members = f.short in
    let within : base_of q.space p + length (ends q.space p) ≤ length (lists_of q.space) = (block_of q.space p f.start.0 (omega arith)).within in
    let total : length (lists_of q.space) ≤ (MOST + 1) ^ MOST = total_fits q.space w.images w.members in
    omega arith

-- the rank of a prefix at which a walk stands is below the end of the range
pub rank_below : (q : Question) (p : List (Option ℕ)) (rank : ℕ) → StandsAt q p rank → rank < q.stop
rank_below q p rank s =
    let some : max q.from rank < min q.stop (rank + length (ends q.space p)) = some_overlap q.from q.stop rank (length (ends q.space p)) s.meeting in
    omega arith

-- a list that is met
pub met_below : (q : Question) (p : List (Option ℕ)) (rank : ℕ) → IsMet q p rank → rank < q.stop
met_below q p rank m = rank_below q p rank m.stands

pub met_done : (q : Question) (p : List (Option ℕ)) (rank : ℕ) → IsSearch q.space q.from q.stop → IsMet q p rank → IsDone q p (rank + 1)
met_done q p rank w m = (met q p rank w m.stands m.admitted m.long).1

pub met_turn : (q : Question) (p : List (Option ℕ)) (rank : ℕ) (leaf : Leaf) (new : Left) → IsSearch q.space q.from q.stop → IsMet q p rank → leaf.rank ≡ rank → leaf.slots.items ≡ p →
    left_after q p (rank + 1) ≡ new → IsTurn (left_at q p rank) (Some leaf) new
met_turn q p rank leaf new w m r s e =
    let P : Leaf → Type 0 = λ l. IsTurn (left_at q p rank) (Some l) new in
    let same : leaf_of leaf.rank leaf.slots.items ≡ leaf_of rank p = ap₂ leaf_of r s in
    subst P (sym same) (turn_to (left_at q p rank) (Some (leaf_of rank p)) (left_after q p (rank + 1)) new (met q p rank w m.stands m.admitted m.long).0 e)

-- a turn that meets none
pub same_leaves : (q : Question) (old : Walk) (new : Left) → old.going ≡ true → IsTurn (left_at q old.slots.items old.rank) None new → (left_from q old).leaves ≡ new.leaves
same_leaves q old new t turn = ap (λ (l : Left). l.leaves) (goes_on q old t) ∙ turn.leaves

pub one_less : (q : Question) (old : Walk) (new : Left) → old.going ≡ true → IsTurn (left_at q old.slots.items old.rank) None new → (left_from q old).allowance ≡ new.allowance + 1
one_less q old new t turn = ap (λ (l : Left). l.allowance) (goes_on q old t) ∙ turn.cost
