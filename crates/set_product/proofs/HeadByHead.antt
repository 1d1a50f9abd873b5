-- The heads of a plan, one after another.
use Rattle.std.proofs.Common.{rules, ℕ, zero, suc, ◌≡◌, ◌<◌, ◌≤◌, ◌+◌, ◌-◌, ◌*◌, ◌^◌, Bool, nat_lt, cond, ◌⊎◌, inl, inr, List, [], ◌∷◌, ◌++◌, length, map, filter, drop, refl, sym, ap, ap₂, ◌∙◌, subst, arith, length-append, zero-add, add-zero, add-one, Option, Some, None, slice_get, IfSome}
use Rattle.std.specs.List.{flat_map, AllByRecursion}
use Rattle.std.proofs.Math.Nat.{suc-mul, zero-mul, mul-le-mul_right}
use Rattle.std.proofs.lemmas.Bool.{lt-ltb, le-ltb}
use Rattle.std.proofs.lemmas.List.{drop_all, nil_from_length, drop-drop, length-drop}
use Rattle.raid_params.specs.declared.types.Geometry.{Geometry}
use Rattle.raid_params.specs.declared.types.Head.{Head}
use Rattle.raid_params.specs.declared.types.Level.{Level}
use Rattle.raid_params.specs.Validity.{is_valid_head}
use Rattle.search_terms.specs.Product.{heads, sets_of as sets_of_head}
use Rattle.search_plan.specs.Plans.{IsPlan}
use Rattle.plan_sets.specs.Sets.{sets_of, total_of}
use Rattle.search_plan.specs.declared.plan.Plan.{Plan}
use Rattle.slot_math.proofs.Listed.{each_map}
use Rattle.slot_math.proofs.Nested.{get_low, get_high, length-map}
use Rattle.slot_math.specs.Space.{lists_of}
use Rattle.slot_math.specs.declared.space.Space.{Space}
use Rattle.set_product.specs.Blocks.{heads_with, sets_with, shapes, IsBlock}
use Rattle.set_product.specs.Heads.{count_in, end_of, heads_of, numbered, sets_in, space_of}
use Rattle.set_product.specs.Left.{heads_after, heads_from, left_heads, IsOpened, MayBeOpened}
use Rattle.set_product.specs.Pairs.{pairs}
use Rattle.set_product.specs.declared.block.Block.{Block}
use Rattle.set_product.specs.declared.heads.HeadSets.{HeadSets}
use Rattle.set_product.specs.declared.opened.Opened.{Opened}
use Rattle.set_product.proofs.BlockRanks.{block_heads, choices, sets_count}
use Rattle.set_product.proofs.Blocks.{filter_flat, head_of, Choice}
use Rattle.set_product.proofs.Pairs.{flat_pairs, length_pairs}
use Rattle.set_product.proofs.Spaces.{lists_fit}
use Rattle.set_product.proofs.Walks.{within_total}

-- a pair among all
pub shape_is : (plan : Plan) (at : ℕ) (level : Level) (members : ℕ) → slice_get (pairs plan.bounds.levels.items plan.bounds.members.items) at ≡ Some (level, members) → slice_get (shapes plan) at ≡ Some (level, members)
unfolding shapes
shape_is plan at level members e = e

pub shapes_count : (plan : Plan) → length (shapes plan) ≡ length plan.bounds.levels.items * length plan.bounds.members.items
unfolding shapes
shapes_count plan = length_pairs plan.bounds.levels.items plan.bounds.members.items

-- the slot lists of a block with heads are no more than its sets
pub lists_below : (plan : Plan) (block : Block) (at : ℕ) → IsPlan plan → IsBlock plan block → slice_get (pairs plan.bounds.levels.items plan.bounds.members.items) at ≡ Some (block.level, block.members) →
    0 < length (heads_with plan.bounds block.level block.members) → total_of plan < 2 ^ 64 → length (lists_of block.space) < 2 ^ 64
lists_below plan block at is_plan is_block e some few =
    let own : length (sets_with plan (block.level, block.members)) ≡ length (heads_with plan.bounds block.level block.members) * length (lists_of block.space) = sets_count plan block is_plan is_block in
    let within = within_total plan at (block.level, block.members) e in
    let more : 1 * length (lists_of block.space) ≤ length (heads_with plan.bounds block.level block.members) * length (lists_of block.space) = mul-le-mul_right (length (lists_of block.space)) some in
    omega arith

-- from an element on
from_here : {A : Type 0} (xs : List A) (i : ℕ) (x : A) → slice_get xs i ≡ Some x → drop i xs ≡ x ∷ drop (i + 1) xs
from_here [] i x e = absurd (search rules)
from_here {A} (y ∷ xs) zero x e = let same : y ≡ x = search rules in ap (λ (z : A). z ∷ xs) same
from_here {A} (y ∷ xs) (suc i) x e = from_here xs i x e ∙ ap (λ (k : ℕ). x ∷ drop k (y ∷ xs)) (let f : suc (i + 1) ≡ suc i + 1 = omega arith in f)

-- the heads of a pair and of the later ones
pub after_more : (plan : Plan) (at : ℕ) (shape : Level × ℕ) → slice_get (shapes plan) at ≡ Some shape → heads_after plan at ≡ heads_with plan.bounds shape.0 shape.1 ++ heads_after plan (at + 1)
unfolding heads_after
after_more plan at shape e = ap (flat_map (λ (s : Level × ℕ). heads_with plan.bounds s.0 s.1)) (from_here (shapes plan) at shape e)

-- after the last pair
pub after_all : (plan : Plan) (at : ℕ) → length plan.bounds.levels.items * length plan.bounds.members.items ≤ at → heads_after plan at ≡ []
unfolding heads_after shapes
after_all plan at e =
    ap (flat_map (λ (s : Level × ℕ). heads_with plan.bounds s.0 s.1))
    (drop_all at (pairs plan.bounds.levels.items plan.bounds.members.items) (let long = length_pairs plan.bounds.levels.items plan.bounds.members.items in omega arith))

-- a pair without heads
pub after_none : (plan : Plan) (at : ℕ) (level : Level) (members : ℕ) → slice_get (shapes plan) at ≡ Some (level, members) → length (heads_with plan.bounds level members) ≡ 0 → heads_after plan at ≡ heads_after plan (at + 1)
after_none plan at level members e none =
    after_more plan at (level, members) e
    ∙ ap (λ (own : List Head). own ++ heads_after plan (at + 1)) (nil_from_length (heads_with plan.bounds level members) none)

-- a block at its first head
pub at_first : (plan : Plan) (opened : Opened) (at : ℕ) → slice_get (shapes plan) at ≡ Some (opened.block.level, opened.block.members) → opened.after ≡ at + 1 → opened.next ≡ 0 → heads_from plan opened opened.next ≡ heads_after plan at
unfolding heads_from
at_first plan opened at e after first =
    ap₂ (λ (n k : ℕ). drop n (heads_with plan.bounds opened.block.level opened.block.members) ++ heads_after plan k) first after
    ∙ sym (after_more plan at (opened.block.level, opened.block.members) e)

-- a block after its last head
pub at_last : (plan : Plan) (opened : Opened) (next : ℕ) → length (heads_with plan.bounds opened.block.level opened.block.members) ≤ next → heads_after plan (opened.after) ≡ heads_from plan opened next
unfolding heads_from
at_last plan opened next e =
    sym (ap (λ (own : List Head). own ++ heads_after plan (opened.after)) (drop_all next (heads_with plan.bounds opened.block.level opened.block.members) e))

-- all pairs have all heads
pub all_heads : (plan : Plan) → heads_after plan 0 ≡ heads plan.bounds
unfolding heads_after heads_with shapes
all_heads plan =
    let all : Level × ℕ → List Head = λ shape. flat_map (λ pattern. flat_map (λ delay. flat_map (λ syndrome. flat_map (λ chunk. map (λ offset. head_of shape.0 shape.1 (((pattern, delay), syndrome), (chunk, offset)))
    plan.bounds.offsets.items) plan.bounds.chunks.items) plan.bounds.syndromes.items) plan.bounds.delays.items) plan.bounds.patterns.items in
    sym (filter_flat is_valid_head all (pairs plan.bounds.levels.items plan.bounds.members.items))
    ∙ ap (filter is_valid_head) (flat_pairs all plan.bounds.levels.items plan.bounds.members.items)

-- the sets of heads are those of their numbered ones
pub sets_numbered : (plan : Plan) (first : ℕ) (hs : List Head) → flat_map (sets_of_head (length plan.lengths.items) plan.bounds) hs ≡ flat_map sets_in (numbered plan first hs)
unfolding numbered
sets_numbered plan first [] = refl
sets_numbered plan first (head ∷ hs) =
    ap₂ (λ (a b : List Geometry). a ++ b)
    (ap (map (λ slots. record { head = head; slots = record { items = slots } })) (sym (lists_fit plan head)))
    (sets_numbered plan (first + length (lists_of (space_of plan head.level head.members))) hs)

pub heads_make : (plan : Plan) → sets_of plan ≡ flat_map sets_in (heads_of plan)
unfolding sets_of
heads_make plan = sets_numbered plan 0 (heads plan.bounds)

counted : (plan : Plan) (first : ℕ) (hs : List Head) → length (flat_map sets_in (numbered plan first hs)) ≡ count_in plan hs
unfolding numbered count_in
counted plan first [] = refl
counted plan first (head ∷ hs) =
    let own : HeadSets = record { head = head; space = space_of plan head.level head.members; first = first; count = length (lists_of (space_of plan head.level head.members)) } in
    let next = first + length (lists_of (space_of plan head.level head.members)) in
    length-append (sets_in own) (flat_map sets_in (numbered plan next hs))
    ∙ ap₂ (λ (a b : ℕ). a + b) (length-map (λ slots. record { head = head; slots = record { items = slots } }) (lists_of (space_of plan head.level head.members))) (counted plan next hs)

pub all_counted : (plan : Plan) → count_in plan (heads plan.bounds) ≡ total_of plan
unfolding total_of
all_counted plan = sym (ap length (heads_make plan) ∙ counted plan 0 (heads plan.bounds))

-- where a set of a head stands
stands_at : (plan : Plan) (first : ℕ) (hs : List Head) (place k : ℕ) (sets : HeadSets) (geo : Geometry) → slice_get (numbered plan first hs) place ≡ Some sets → slice_get (sets_in sets) k ≡ Some geo →
    (n : ℕ) × (sets.first ≡ first + n) × (slice_get (flat_map sets_in (numbered plan first hs)) (n + k) ≡ Some geo)
unfolding numbered
stands_at plan first [] place k sets geo e f = absurd (search rules)
stands_at plan first (head ∷ hs) zero k sets geo e f =
    let own : HeadSets = record { head = head; space = space_of plan head.level head.members; first = first; count = length (lists_of (space_of plan head.level head.members)) } in
    let same : own ≡ sets = search rules in
    let found : slice_get (sets_in own) k ≡ Some geo = ap (λ (s : HeadSets). slice_get (sets_in s) k) same ∙ f in (
      0,
      sym (ap (λ (s : HeadSets). s.first) same) ∙ sym (add-zero first),
      ap (slice_get (flat_map sets_in (numbered plan first (head ∷ hs)))) (zero-add k)
          ∙ get_low (sets_in own) (flat_map sets_in (numbered plan (first + length (lists_of (space_of plan head.level head.members))) hs)) k (within (sets_in own) k geo found)
          ∙ found,
    )
  where
    within : {A : Type 0} (xs : List A) (i : ℕ) (x : A) → slice_get xs i ≡ Some x → i < length xs
    within [] i x e = absurd (search rules)
    within (y ∷ xs) zero x e = omega arith
    within (y ∷ xs) (suc i) x e = let below = within xs i x e in omega arith
stands_at plan first (head ∷ hs) (suc place) k sets geo e f =
    let own : HeadSets = record { head = head; space = space_of plan head.level head.members; first = first; count = length (lists_of (space_of plan head.level head.members)) } in
    let count = length (lists_of (space_of plan head.level head.members)) in
    let long : length (sets_in own) ≡ length (lists_of (space_of plan head.level head.members)) = length-map (λ slots. record { head = head; slots = record { items = slots } }) (lists_of (space_of plan head.level head.members)) in
    let rest = stands_at plan (first + length (lists_of (space_of plan head.level head.members))) hs place k sets geo e f in (
      count + rest.0,
      (let at : sets.first ≡ first + count + rest.0 = rest.1 in omega arith),
      get_high (sets_in own) (flat_map sets_in (numbered plan (first + count) hs)) (count + rest.0 + k) (omega arith)
          ∙ ap (slice_get (flat_map sets_in (numbered plan (first + count) hs))) (let d : count + rest.0 + k - length (sets_in own) ≡ rest.0 + k = omega arith in d)
          ∙ rest.2,
    )

pub heads_hold : (plan : Plan) (place k : ℕ) (sets : HeadSets) (geo : Geometry) →
    slice_get (heads_of plan) place ≡ Some sets → slice_get (sets_in sets) k ≡ Some geo → slice_get (sets_of plan) (sets.first + k) ≡ Some geo
heads_hold plan place k sets geo e f =
    let found = stands_at plan 0 (heads plan.bounds) place k sets geo e f in
    let at : sets.first ≡ 0 + found.0 = found.1 in
    ap₂ (λ (all : List Geometry) (n : ℕ). slice_get all n) (heads_make plan) (let d : sets.first + k ≡ found.0 + k = omega arith in d) ∙ found.2

-- each of the heads has `lists` slot lists
abbrev pub Alike : Plan → ℕ → List Head → Type 0
Alike plan lists hs = AllByRecursion (λ head. length (lists_of (space_of plan head.level head.members)) ≡ lists) hs

each_any : {A : Type 0} (P : A → Type 0) → ((x : A) → P x) → (xs : List A) → AllByRecursion P xs
each_any P h [] = tt
each_any P h (x ∷ xs) = (h x, each_any P h xs)

each_dropped : {A : Type 0} (P : A → Type 0) (xs : List A) (n : ℕ) → AllByRecursion P xs → AllByRecursion P (drop n xs)
each_dropped P [] zero a = a
each_dropped P [] (suc n) a = a
each_dropped P (x ∷ xs) zero a = a
each_dropped P (x ∷ xs) (suc n) a = each_dropped P xs n a.1

-- those of a block have as many as the block says
pub block_alike : (plan : Plan) (opened : Opened) (next : ℕ) → IsPlan plan → IsOpened plan opened → Alike plan opened.lists (drop next (heads_with plan.bounds opened.block.level opened.block.members))
block_alike plan opened next is_plan opened_is =
    let make = head_of opened.block.level opened.block.members in
    let P : Head → Type 0 = λ head. length (lists_of (space_of plan head.level head.members)) ≡ opened.lists in
    let Q : List Head → Type 0 = λ hs. AllByRecursion P hs in
    let same : length (lists_of (space_of plan opened.block.level opened.block.members)) ≡ opened.lists = sym (opened_is.lists ∙ ap (λ s. length (lists_of s)) opened_is.block.space_is) in
    each_dropped P (heads_with plan.bounds opened.block.level opened.block.members) next
    (subst Q (sym (block_heads plan opened.block is_plan opened_is.block))
    (each_map P make (choices plan opened.block) (each_any (λ (c : Choice). P (make c)) (λ c. same) (choices plan opened.block))))

-- the sets of the heads left: those of the first k of them, and those of the rest
pub count_some : (plan : Plan) (lists k : ℕ) (own rest : List Head) → Alike plan lists own → k ≤ length own → count_in plan (own ++ rest) ≡ k * lists + count_in plan (drop k own ++ rest)
unfolding count_in
count_some plan lists zero own rest alike few = let none : zero * lists ≡ 0 = zero-mul lists in omega arith
count_some plan lists (suc k) [] rest alike few = absurd (omega arith)
count_some plan lists (suc k) (head ∷ own) rest alike few =
    let one : length (lists_of (space_of plan head.level head.members)) ≡ lists = alike.0 in
    let more : count_in plan (own ++ rest) ≡ k * lists + count_in plan (drop k own ++ rest) = count_some plan lists k own rest alike.1 (omega arith) in
    let step : suc k * lists ≡ k * lists + lists = suc-mul k lists in
    omega arith

-- the heads that end after a rank
abbrev pub ending_after : ℕ → List HeadSets → List HeadSets
ending_after rank all = filter (λ sets. nat_lt rank (end_of sets)) all

-- the first k heads, which end at the rank or before, are passed over
pub skip_some : (plan : Plan) (first lists rank k : ℕ) (own rest : List Head) → Alike plan lists own → k ≤ length own → first + k * lists ≤ rank →
    ending_after rank (numbered plan first (own ++ rest)) ≡ ending_after rank (numbered plan (first + k * lists) (drop k own ++ rest))
unfolding numbered
skip_some plan first lists rank zero own rest alike few low =
    ap (λ (n : ℕ). ending_after rank (numbered plan n (own ++ rest))) (let e : first ≡ first + zero * lists = (let none : zero * lists ≡ 0 = zero-mul lists in omega arith) in e)
skip_some plan first lists rank (suc k) [] rest alike few low = absurd (omega arith)
skip_some plan first lists rank (suc k) (head ∷ own) rest alike few low =
    let one : length (lists_of (space_of plan head.level head.members)) ≡ lists = alike.0 in
    let step : suc k * lists ≡ k * lists + lists = suc-mul k lists in
    let own_sets : HeadSets = record { head = head; space = space_of plan head.level head.members; first = first; count = length (lists_of (space_of plan head.level head.members)) } in
    let later = ending_after rank (numbered plan (first + length (lists_of (space_of plan head.level head.members))) (own ++ rest)) in
    ap (λ (b : Bool). cond b (own_sets ∷ later) later) (le-ltb rank (first + length (lists_of (space_of plan head.level head.members))) (omega arith))
    ∙ ap (λ (n : ℕ). ending_after rank (numbered plan (first + n) (own ++ rest))) one
    ∙ skip_some plan (first + lists) lists rank k own rest alike.1 (omega arith) (omega arith)
    ∙ ap (λ (n : ℕ). ending_after rank (numbered plan n (drop k own ++ rest))) (let e : first + lists + k * lists ≡ first + suc k * lists = omega arith in e)

-- heads that begin after the rank
keep_all : (plan : Plan) (first rank : ℕ) (hs : List Head) → rank < first → ending_after rank (numbered plan first hs) ≡ numbered plan first hs
unfolding numbered
keep_all plan first rank [] low = refl
keep_all plan first rank (head ∷ hs) low =
    let next = first + length (lists_of (space_of plan head.level head.members)) in
    let own_sets : HeadSets = record { head = head; space = space_of plan head.level head.members; first = first; count = length (lists_of (space_of plan head.level head.members)) } in
    ap₂ (λ (b : Bool) (l : List HeadSets). cond b (own_sets ∷ l) l) (lt-ltb rank (first + length (lists_of (space_of plan head.level head.members))) (omega arith)) (keep_all plan next rank hs (omega arith))

-- heads of which the first ends after the rank
keep_from : (plan : Plan) (first rank : ℕ) (head : Head) (hs : List Head) → rank < first + length (lists_of (space_of plan head.level head.members)) →
    ending_after rank (numbered plan first (head ∷ hs)) ≡ numbered plan first (head ∷ hs)
unfolding numbered
keep_from plan first rank head hs low =
    let next = first + length (lists_of (space_of plan head.level head.members)) in
    let own_sets : HeadSets = record { head = head; space = space_of plan head.level head.members; first = first; count = length (lists_of (space_of plan head.level head.members)) } in
    ap₂ (λ (b : Bool) (l : List HeadSets). cond b (own_sets ∷ l) l) (lt-ltb rank (first + length (lists_of (space_of plan head.level head.members))) low) (keep_all plan next rank hs low)

keep_alike : (plan : Plan) (first lists rank : ℕ) (own rest : List Head) → Alike plan lists own → 1 ≤ length own → rank < first + lists →
    ending_after rank (numbered plan first (own ++ rest)) ≡ numbered plan first (own ++ rest)
keep_alike plan first lists rank [] rest alike some low = absurd (omega arith)
keep_alike plan first lists rank (head ∷ own) rest alike some low =
    let one : length (lists_of (space_of plan head.level head.members)) ≡ lists = alike.0 in
    keep_from plan first rank head (own ++ rest) (omega arith)

-- how many sets are left after k heads of a block
pub left_counts : (plan : Plan) (opened : Opened) (k : ℕ) → IsPlan plan → IsOpened plan opened → opened.next + k ≤ opened.heads →
    count_in plan (heads_from plan opened opened.next) ≡ k * opened.lists + count_in plan (heads_from plan opened (opened.next + k))
unfolding heads_from
left_counts plan opened k is_plan opened_is few =
    let own = heads_with plan.bounds opened.block.level opened.block.members in
    let heads : opened.heads ≡ length (heads_with plan.bounds opened.block.level opened.block.members) = opened_is.heads in
    count_some plan opened.lists k (drop opened.next own) (heads_after plan opened.after) (block_alike plan opened opened.next is_plan opened_is)
    (omega (arith, length-drop opened.next (heads_with plan.bounds opened.block.level opened.block.members)))
    ∙ ap (λ (hs : List Head). k * opened.lists + count_in plan (hs ++ heads_after plan opened.after)) (drop-drop k opened.next own)

-- the next head of a block
pub next_is : (plan : Plan) (first : ℕ) (opened : Opened) (head : Head) → IsOpened plan opened → slice_get (heads_with plan.bounds opened.block.level opened.block.members) opened.next ≡ Some head →
    head.level ≡ opened.block.level → head.members ≡ opened.block.members →
    numbered plan first (heads_from plan opened opened.next) ≡ record { head = head; space = opened.block.space; first = first; count = opened.lists } ∷ numbered plan (first + opened.lists) (heads_from plan opened (opened.next + 1))
unfolding numbered heads_from
next_is plan first opened head opened_is e at_level at_members =
    let own = heads_with plan.bounds opened.block.level opened.block.members in
    let later = drop (opened.next + 1) own ++ heads_after plan opened.after in
    let same : space_of plan head.level head.members ≡ opened.block.space = ap₂ (space_of plan) at_level at_members ∙ sym opened_is.block.space_is in
    ap (λ (hs : List Head). numbered plan first (hs ++ heads_after plan opened.after)) (from_here own opened.next head e)
    ∙ ap (λ (s : Space). (let sets : HeadSets = record { head = head; space = s; first = first; count = length (lists_of s) } in sets) ∷ numbered plan (first + length (lists_of s)) later) same
    ∙ ap (λ (n : ℕ). (let sets : HeadSets = record { head = head; space = opened.block.space; first = first; count = n } in sets) ∷ numbered plan (first + n) later) (sym opened_is.lists)

-- k heads of a block end at the rank or before, and the next one after it
pub skip_within : (plan : Plan) (opened : Opened) (first rank k : ℕ) → IsPlan plan → IsOpened plan opened → opened.next + k < opened.heads → (k ≡ 0) ⊎ (first + k * opened.lists ≤ rank) → rank < first + (k + 1) * opened.lists →
    numbered plan (first + k * opened.lists) (heads_from plan opened (opened.next + k)) ≡ ending_after rank (numbered plan first (heads_from plan opened opened.next))
unfolding heads_from
skip_within plan opened first rank k is_plan opened_is few (inl none) high =
    let own = heads_with plan.bounds opened.block.level opened.block.members in
    let heads : opened.heads ≡ length (heads_with plan.bounds opened.block.level opened.block.members) = opened_is.heads in
    let one : (k + 1) * opened.lists ≡ 1 * opened.lists = ap (λ (n : ℕ). (n + 1) * opened.lists) none in
    let zero_sets : k * opened.lists ≡ 0 = ap (λ (n : ℕ). n * opened.lists) none ∙ zero-mul opened.lists in
    ap₂ (λ (n m : ℕ). numbered plan n (drop m own ++ heads_after plan opened.after)) (let e : first + k * opened.lists ≡ first = omega arith in e) (let e : opened.next + k ≡ opened.next = omega arith in e)
    ∙ sym (keep_alike plan first opened.lists rank (drop opened.next own) (heads_after plan opened.after) (block_alike plan opened opened.next is_plan opened_is)
    (omega (arith, length-drop opened.next (heads_with plan.bounds opened.block.level opened.block.members))) (omega arith))
skip_within plan opened first rank k is_plan opened_is few (inr low) high =
    let own = heads_with plan.bounds opened.block.level opened.block.members in
    let heads : opened.heads ≡ length (heads_with plan.bounds opened.block.level opened.block.members) = opened_is.heads in
    let more : (k + 1) * opened.lists ≡ k * opened.lists + opened.lists = ap (λ (n : ℕ). n * opened.lists) (add-one k) ∙ suc-mul k opened.lists in
    sym (skip_some plan first opened.lists rank k (drop opened.next own) (heads_after plan opened.after) (block_alike plan opened opened.next is_plan opened_is)
    (omega (arith, length-drop opened.next (heads_with plan.bounds opened.block.level opened.block.members))) low
    ∙ ap (λ (hs : List Head). ending_after rank (numbered plan (first + k * opened.lists) (hs ++ heads_after plan opened.after))) (drop-drop k opened.next own)
    ∙ keep_alike plan (first + k * opened.lists) opened.lists rank (drop (opened.next + k) own) (heads_after plan opened.after) (block_alike plan opened (opened.next + k) is_plan opened_is)
    (omega (arith, length-drop (opened.next + k) (heads_with plan.bounds opened.block.level opened.block.members))) (omega arith))

-- all heads of a block end at the rank or before
pub skip_past : (plan : Plan) (opened : Opened) (first rank : ℕ) → IsPlan plan → IsOpened plan opened → first + (opened.heads - opened.next) * opened.lists ≤ rank →
    ending_after rank (numbered plan first (heads_from plan opened opened.next)) ≡ ending_after rank (numbered plan (first + (opened.heads - opened.next) * opened.lists) (heads_after plan opened.after))
unfolding heads_from
skip_past plan opened first rank is_plan opened_is low =
    let own = heads_with plan.bounds opened.block.level opened.block.members in
    let k = opened.heads - opened.next in
    let heads : opened.heads ≡ length (heads_with plan.bounds opened.block.level opened.block.members) = opened_is.heads in
    let next : opened.next < opened.heads = opened_is.next in
    skip_some plan first opened.lists rank k (drop opened.next own) (heads_after plan opened.after) (block_alike plan opened opened.next is_plan opened_is)
    (omega (arith, length-drop opened.next (heads_with plan.bounds opened.block.level opened.block.members))) low
    ∙ ap (λ (hs : List Head). ending_after rank (numbered plan (first + k * opened.lists) (hs ++ heads_after plan opened.after)))
    (drop-drop k opened.next own ∙ drop_all (opened.next + k) own (omega arith))

-- the sets left when all heads of a block are passed
pub left_past : (plan : Plan) (opened : Opened) → IsPlan plan → IsOpened plan opened →
    count_in plan (heads_from plan opened opened.next) ≡ (opened.heads - opened.next) * opened.lists + count_in plan (heads_after plan opened.after)
left_past plan opened is_plan opened_is =
    let next : opened.next < opened.heads = opened_is.next in
    let heads : opened.heads ≡ length (heads_with plan.bounds opened.block.level opened.block.members) = opened_is.heads in
    left_counts plan opened (opened.heads - opened.next) is_plan opened_is (omega arith)
    ∙ ap (λ (hs : List Head). (opened.heads - opened.next) * opened.lists + count_in plan hs) (sym (at_last plan opened (opened.next + (opened.heads - opened.next)) (omega arith)))

-- at most how many blocks are left
unfoldable pub blocks_left : Plan → Option Opened → ℕ
blocks_left plan None = 0
blocks_left plan (Some opened) = suc (length (shapes plan) - opened.after)

pub blocks_less : (plan : Plan) (opened : Opened) (next : Option Opened) → IsOpened plan opened → MayBeOpened plan next → IfSome next (λ other. opened.after < other.after) →
    blocks_left plan next < blocks_left plan (Some opened)
unfolding blocks_left
blocks_less plan opened None opened_is is_next later = omega arith
blocks_less plan opened (Some other) opened_is is_next later = let few : other.after ≤ length (shapes plan) = is_next.after in omega arith

pub opened_is : (plan : Plan) (there : Option Opened) (opened : Opened) → Some opened ≡ there → MayBeOpened plan there → IsOpened plan opened
opened_is plan there opened e may = let P : Option Opened → Type 0 = λ o. MayBeOpened plan o in subst P (sym e) may

-- the sets left at a block that a walk stands in
pub count_here : (plan : Plan) (first : ℕ) (there : Option Opened) (opened : Opened) → Some opened ≡ there → first + count_in plan (left_heads plan there) ≡ total_of plan →
    first + count_in plan (heads_from plan opened opened.next) ≡ total_of plan
count_here plan first there opened e all = ap (λ (o : Option Opened). first + count_in plan (left_heads plan o)) e ∙ all

pub fits_here : (plan : Plan) (first : ℕ) (there : Option Opened) (opened : Opened) → IsPlan plan → Some opened ≡ there → MayBeOpened plan there → first + count_in plan (left_heads plan there) ≡ total_of plan →
    first + (opened.heads - opened.next) * opened.lists ≤ total_of plan
fits_here plan first there opened is_plan e may all =
    let here = count_here plan first there opened e all in
    let past = left_past plan opened is_plan (opened_is plan there opened e may) in
    omega arith

-- the sets left after the next head of the block that a walk stands in
pub count_next : (plan : Plan) (first : ℕ) (there : Option Opened) (opened : Opened) → IsPlan plan → Some opened ≡ there → MayBeOpened plan there → first + count_in plan (left_heads plan there) ≡ total_of plan →
    first + opened.lists + count_in plan (heads_from plan opened (opened.next + 1)) ≡ total_of plan
count_next plan first there opened is_plan e may all =
    let block = opened_is plan there opened e may in
    let next : opened.next < opened.heads = block.next in
    let here = count_here plan first there opened e all in
    let more = left_counts plan opened 1 is_plan block (omega arith) in
    omega arith
