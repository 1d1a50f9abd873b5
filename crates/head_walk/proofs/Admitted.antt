-- Of sets that pass, each prefix of the slots is admitted, and of sets that are admitted each is hopeful.
use Rattle.std.proofs.Common.{rules, ℕ, zero, suc, ◌≡◌, ◌<◌, ◌≤◌, ◌+◌, Bool, true, false, ◌&&◌, ◌==◌, nat_le, cond, List, [], ◌∷◌, length, take, filter, refl, sym, ap, ap₂, ◌∙◌, arith, Option, Some, None, IfSome, slice_get, inl, inr, subst}
use Rattle.std.specs.List.{Contains, list_all, range_with_len, AllByRecursion}
use Rattle.std.specs.Option.{option_map_or}
use Rattle.std.proofs.lemmas.Bool.{and_parts, cases_Bool, eqb-true, leb-true}
use Rattle.raid_params.specs.Size.{rows}
use Rattle.raid_params.specs.Validity.{is_valid_head}
use Rattle.raid_params.specs.declared.types.Geometry.{Geometry}
use Rattle.raid_params.specs.declared.types.Head.{Head}
use Rattle.search_terms.specs.SlotLists.{all_lists, is_kept}
use Rattle.plan_sets.specs.Sets.{passes, sets_of}
use Rattle.search_plan.specs.Plans.{IsPlan}
use Rattle.search_plan.specs.declared.plan.Plan.{Plan}
use Rattle.set_product.proofs.Shaped.{set_at}
use Rattle.slot_math.specs.Space.{begins, lists_of, same_place}
use Rattle.slot_math.specs.Ways.{AllImages}
use Rattle.slot_math.specs.declared.space.Space.{Space}
use Rattle.slot_math.proofs.Listed.{each_kept, each_list, each_more}
use Rattle.candidate_enum.specs.Survivors.{all_admitted}
use Rattle.prune_filters.specs.Hopeful.{is_hopeful, is_hopeful_by, IsPrefix}
use Rattle.prune_filters.specs.Marks.{groups_may_hold}
use Rattle.prune_filters.specs.Early.{HasEarlyTable}
use Rattle.prune_filters.specs.Xors.{rows_hold_by, RowTable}
use Rattle.prune_filters.proofs.Admitted.{admitted_early}
use Rattle.prune_filters.proofs.Law.{hopeful, whole}
use Rattle.head_walk.specs.Counts.{is_hopeful_at}
use Rattle.head_walk.specs.Walk.{AdmitsHopeful, IsAmong, IsAsked, LeavesOutNone}
use Rattle.head_walk.proofs.Candidates.{whole_admitted}
use Rattle.head_walk.proofs.SetTests.{passes_as}

-- a test that holds of each number
each_number : (p : ℕ → Bool) → ((k : ℕ) → p k ≡ true) → (a n : ℕ) → list_all p (range_with_len a n) ≡ true
each_number p h a zero = refl
each_number p h a (suc n) = ap₂ (λ (x y : Bool). x && y) (h a) (each_number p h (a + 1) n)

-- a test that holds of each prefix
pub each_prefix : (admits : List (Option ℕ) → Bool) (slots : List (Option ℕ)) → ((k : ℕ) → admits (take k slots) ≡ true) → all_admitted admits slots ≡ true
unfolding all_admitted
each_prefix admits slots h = each_number (λ k. admits (take k slots)) h 0 (length slots + 1)

-- the first places of a list are no more, with its images
take_images : (n k : ℕ) (l : List (Option ℕ)) → AllImages n l → AllImages n (take k l)
take_images n zero l a = tt
take_images n (suc k) [] a = tt
take_images n (suc k) (None ∷ l) a = take_images n k l a
take_images n (suc k) (Some i ∷ l) a = (a.0, take_images n k l a.1)

-- no more places are taken than there are
take_short : (k : ℕ) (l : List (Option ℕ)) → length (take k l) ≤ length l
take_short zero l = omega arith
take_short (suc k) [] = omega arith
take_short (suc k) (x ∷ l) = let rest = take_short k l in omega arith

-- of a set of the plan, the first slots are a prefix
set_prefix : (plan : Plan) (rank k : ℕ) (head : Head) (slots : List (Option ℕ)) → IsPlan plan → slice_get (sets_of plan) rank ≡ Some (record { head = head; slots = record { items = slots } }) → IsPrefix plan head (take k slots)
set_prefix plan rank k head slots is_plan stands =
    let set = set_at plan rank (record { head = head; slots = record { items = slots } }) is_plan stands in
    let long : length slots ≡ head.members = set.long in
    record { short = (let few = take_short k slots in omega arith); images = take_images (length plan.lengths.items) k slots set.images }

-- each prefix of a set that passes is hopeful by the tables
pub tables_admit : (told : Option (List (List ℕ))) (plan : Plan) (head : Head) (xors : Option RowTable) → IsPlan plan → is_valid_head head ≡ true → Contains plan.bounds.levels.items head.level → IfSome told (λ bytes. HasEarlyTable bytes plan head xors) →
    LeavesOutNone told plan head (is_hopeful_by xors plan head)
tables_admit None plan head xors is_plan valid there are = tt
tables_admit (Some bytes) plan head xors is_plan valid there are = λ rank slots stands passing.
    each_prefix (is_hopeful_by xors plan head) slots (λ k. one rank slots k stands (sym (passes_as bytes plan rank (record { head = head; slots = record { items = slots } }) stands) ∙ passing))
  where
    one : (rank : ℕ) (slots : List (Option ℕ)) (k : ℕ) → slice_get (sets_of plan) rank ≡ Some (record { head = head; slots = record { items = slots } }) →
        passes bytes plan (record { head = head; slots = record { items = slots } }) ≡ true → is_hopeful_by xors plan head (take k slots) ≡ true
    one rank slots k stands holds =
        admitted_early bytes plan head xors (take k slots) is_plan valid there are (set_prefix plan rank k head slots is_plan stands) ∙ hopeful bytes plan rank (record { head = head; slots = record { items = slots } }) k stands holds

-- two tests that agree on each prefix of a list
same_numbers : (p q : ℕ → Bool) → ((k : ℕ) → p k ≡ q k) → (a n : ℕ) → list_all p (range_with_len a n) ≡ list_all q (range_with_len a n)
same_numbers p q same a zero = refl
same_numbers p q same a (suc n) = ap₂ (λ (x y : Bool). x && y) (same a) (same_numbers p q same (a + 1) n)

-- two tests that agree on each prefix admit the same lists
same_prefixes : (p q : List (Option ℕ) → Bool) (slots : List (Option ℕ)) → ((k : ℕ) → p (take k slots) ≡ q (take k slots)) → all_admitted p slots ≡ all_admitted q slots
unfolding all_admitted
same_prefixes p q slots same = same_numbers (λ k. p (take k slots)) (λ k. q (take k slots)) same 0 (length slots + 1)

-- a set of which each prefix is hopeful by the tables is hopeful
hopeful_by : (told : Option (List (List ℕ))) (plan : Plan) (head : Head) (xors : Option RowTable) (rank : ℕ) (slots : List (Option ℕ)) → IsPlan plan → is_valid_head head ≡ true → Contains plan.bounds.levels.items head.level →
    IfSome told (λ bytes. HasEarlyTable bytes plan head xors) → slice_get (sets_of plan) rank ≡ Some (record { head = head; slots = record { items = slots } }) → all_admitted (is_hopeful_by xors plan head) slots ≡ true → is_hopeful_at told plan rank ≡ true
unfolding is_hopeful_at
hopeful_by None plan head xors rank slots is_plan valid there are stands all = refl
hopeful_by (Some bytes) plan head xors rank slots is_plan valid there are stands all =
    ap (λ (o : Option Geometry). option_map_or (λ geo. all_admitted (is_hopeful bytes plan geo.head) geo.slots.items) o false) stands
    ∙ sym (same_prefixes (is_hopeful_by xors plan head) (is_hopeful bytes plan head) slots (λ k. admitted_early bytes plan head xors (take k slots) is_plan valid there are (set_prefix plan rank k head slots is_plan stands)))
    ∙ all

-- the tables admit the slot lists of hopeful sets that meet the landmark test, and leave out none that passes
pub admits_hopeful : (told : Option (List (List ℕ))) (plan : Plan) (head : Head) (xors : Option RowTable) → IsPlan plan → is_valid_head head ≡ true → IsAmong plan.bounds head → IfSome told (λ bytes. HasEarlyTable bytes plan head xors) →
    AdmitsHopeful told plan head (is_hopeful_by xors plan head)
admits_hopeful told plan head xors is_plan valid among are = record {
  leaves_out_none = tables_admit told plan head xors is_plan valid among.level are;
  hopeful = λ rank slots stands all.
      let whole_list = whole_admitted (is_hopeful_by xors plan head) slots all in
      let first = and_parts (nat_le 1 (rows head plan.end)) (groups_may_hold plan head slots && rows_hold_by xors plan head slots) whole_list in
      let rest = and_parts (groups_may_hold plan head slots) (rows_hold_by xors plan head slots) first.1 in
      record {
        set = stands;
        among = among;
        row = leb-true 1 (rows head plan.end) first.0;
        groups = sym (whole plan rank (record { head = head; slots = record { items = slots } }) stands) ∙ rest.0;
        hopeful = hopeful_by told plan head xors rank slots is_plan valid among.level are stands all;
      };
}

-- what begins a list is no longer, and has its images
shorter : (n : ℕ) (p l : List (Option ℕ)) → begins p l ≡ true → AllImages n l → (length p ≤ length l) × AllImages n p
unfolding begins same_place
shorter n [] l e a = ((omega arith), tt)
shorter n (x ∷ p) [] e a = absurd (search rules)
shorter n (None ∷ p) (None ∷ l) e a = let rest = shorter n p l e a in ((let few = rest.0 in omega arith), rest.1)
shorter n (None ∷ p) (Some k ∷ l) e a = absurd (search rules)
shorter n (Some i ∷ p) (None ∷ l) e a = absurd (search rules)
shorter n (Some i ∷ p) (Some k ∷ l) e a =
    let parts = and_parts (k == i) (begins p l) e in
    let rest = shorter n p l parts.1 a.1 in
    let same : k ≡ i = eqb-true k i parts.0 in
    let below : k < n = a.0 in
    ((let few = rest.0 in omega arith), ((omega arith), rest.1))

-- a prefix of a list among some
among : (n m : ℕ) (p : List (Option ℕ)) (ls : List (List (Option ℕ))) → AllByRecursion (λ l. (length l ≡ m) × AllImages n l) ls → 0 < length (filter (begins p) ls) → (length p ≤ m) × AllImages n p
among n m p [] all some = absurd (omega arith)
among n m p (l ∷ ls) all some =
    elim (cases_Bool (begins p l)) [
      | inl t ↦ (let both = shorter n p l t all.0.1 in ((let few = both.0 in let long = all.0.0 in omega arith), both.1))
      | inr f ↦ among n m p ls all.1 (let P : ℕ → Type 0 = λ k. 0 < k in
          subst P (ap (λ (b : Bool). length (cond b (l ∷ filter (begins p) ls) (filter (begins p) ls))) f) some)
    ]

-- a prefix of a list of the head
pub is_prefix : (plan : Plan) (head : Head) (space : Space) (prefix : List (Option ℕ)) → IsAsked plan head space → 0 < length (filter (begins prefix) (lists_of space)) → IsPrefix plan head prefix
is_prefix plan head space prefix asked some =
    let all = each_more (λ l. ((length l ≡ space.members) × AllImages space.images l) × (is_kept space.low space.high l ≡ true)) (λ l. (length l ≡ space.members) × AllImages space.images l) (lists_of space) (λ l s. s.0)
    (each_kept (λ l. (length l ≡ space.members) × AllImages space.images l) (is_kept space.low space.high) (all_lists space.images space.members) (each_list space.images space.members)) in
    let both = among space.images space.members prefix (lists_of space) all some in
    let members : space.members ≡ head.members = asked.members in
    let P : ℕ → Type 0 = λ n. AllImages n prefix in
    record { short = (let few = both.0 in omega arith); images = subst P asked.images both.1 }
