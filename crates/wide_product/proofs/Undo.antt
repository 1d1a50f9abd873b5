-- No set stands twice in a product with bases, so that ranks and sets undo each other.
use Rattle.std.proofs.Common.{rules, ℕ, zero, suc, ◌≡◌, Bool, true, false, ◌&&◌, ◌==◌, cond, List, [], ◌∷◌, length, map, filter, refl, sym, ap, ap₂, ◌∙◌, subst, Option, Some, None, slice_get, get_or}
use Rattle.std.specs.List.{flat_map, position, AllByRecursion}
use Rattle.std.specs.List.Sorted.{IsStrictlyIncreasing}
use Rattle.std.proofs.lemmas.Bool.{and_from, and_parts, eq-eqb}
use Rattle.std.proofs.lemmas.List.{map-id}
use Rattle.std.proofs.lemmas.List.Quantifiers.{position-Some}
use Rattle.std.proofs.lemmas.Option.{slice_get-get_or}
use Rattle.raid_params.specs.Places.{level_place, pattern_place, syndrome_place}
use Rattle.raid_params.specs.Validity.{is_valid_head}
use Rattle.raid_params.specs.declared.types.Bounds.{Bounds}
use Rattle.raid_params.specs.declared.types.Geometry.{Geometry}
use Rattle.raid_params.specs.declared.types.Head.{Head}
use Rattle.raid_params.specs.declared.types.Level.{Level}
use Rattle.raid_params.specs.declared.types.Pattern.{Pattern}
use Rattle.raid_params.specs.declared.types.Syndrome.{Syndrome}
use Rattle.search_plan.specs.Plans.{IsPlan}
use Rattle.plan_sets.specs.Sets.{is_same_set, sets_of}
use Rattle.search_plan.specs.declared.plan.Plan.{Plan}
use Rattle.slot_math.proofs.Listed.{each_map}
use Rattle.slot_math.proofs.Positions.{rank_of_element}
use Rattle.slot_math.specs.Space.{same_slots}
use Rattle.set_product.proofs.Equal.{same_sets}
use Rattle.set_product.proofs.Pairs.{flat_pairs, position_map, position_pairs, position_same}
use Rattle.set_product.proofs.Ranked.{keys_of_rising, ranked_flat, ranked_keys, ranked_kept, ranked_map, ranked_pairs, Ranked}
use Rattle.set_product.proofs.Uniqueness.{ranked_sets}
use Rattle.set_product.specs.Heads.{space_of}
use Rattle.set_product.specs.Pairs.{joined, pairs}
use Rattle.wide_product.proofs.Grouped.{based_place, same_are_equal, same_start}
use Rattle.wide_product.proofs.Lists.{more}
use Rattle.wide_product.proofs.PartAt.{wide_are}
use Rattle.wide_product.proofs.Products.{common_are}
use Rattle.wide_product.proofs.Spread.{based_in, based_set, lists, product_is}
use Rattle.wide_product.proofs.Walks.{flat_same}
use Rattle.wide_product.specs.Bases.{base_lists, same_bases}
use Rattle.wide_product.specs.Groups.{based_of, bases_of}
use Rattle.wide_product.specs.Laws.{RanksAndSetsUndo}
use Rattle.wide_product.specs.Sets.{is_same_based, starts, wide_rank, wide_sets, Based}

numbers_differ : (xs : List ℕ) → IsStrictlyIncreasing xs → Ranked (λ a b. a == b) xs
numbers_differ xs e = ranked_keys (λ n. n) xs (keys_of_rising (λ n. n) xs (subst IsStrictlyIncreasing (sym (map-id xs)) e))

some_same : {A : Type 0} (x y : A) → (let l : Option A = Some x in let r : Option A = Some y in l ≡ r) → x ≡ y
some_same {A} x y e = search rules

-- lists of bases stand once
pub ranked_bases : (offsets : List ℕ) (n : ℕ) → IsStrictlyIncreasing offsets → Ranked same_bases (base_lists offsets n)
unfolding base_lists same_bases
ranked_bases offsets zero rising zero bases e = (let same : [] ≡ bases = some_same [] bases e in ap (λ (l : List ℕ). position (same_bases l) ([] ∷ [])) (sym same))
ranked_bases offsets zero rising (suc i) bases e = absurd (search rules)
ranked_bases offsets (suc n) rising i bases e =
    let P : List (List ℕ) → Type 0 = λ ls. Ranked same_bases ls in
    subst P (sym (more offsets n))
    (ranked_map same_bases (λ p. p.0 ∷ p.1) (pairs offsets (base_lists offsets n))
    (ranked_pairs (λ a b. a == b) same_bases offsets (base_lists offsets n) (numbers_differ offsets rising) (ranked_bases offsets n rising)))
    i bases e

-- what a head has beside its offset, as nested pairs
abbrev Start : Type 0
Start = (Level × ℕ) × (((Pattern × ℕ) × Syndrome) × ℕ)

start_head : Start → Head
start_head c = record { level = c.0.0; members = c.0.1; pattern = c.1.0.0.0; delay = c.1.0.0.1; syndrome = c.1.0.1; chunk = c.1.1; offset = 0 }

-- two heads have the same beside their offset
abbrev heads_alike : Head → Head → Bool
heads_alike a b =
    (level_place a.level == level_place b.level && a.members == b.members)
    && (((pattern_place a.pattern == pattern_place b.pattern && a.delay == b.delay) && syndrome_place a.syndrome == syndrome_place b.syndrome) && a.chunk == b.chunk)

abbrev all_starts : Bounds → List Start
all_starts bounds = pairs (pairs bounds.levels.items bounds.members.items) (pairs (pairs (pairs bounds.patterns.items bounds.delays.items) bounds.syndromes.items) bounds.chunks.items)

singles : {A B : Type 0} (f : A → B) (xs : List A) → flat_map (λ x. f x ∷ []) xs ≡ map f xs
singles f [] = refl
singles {A} {B} f (x ∷ xs) = ap (λ (l : List B). f x ∷ l) (singles f xs)

starts_are : (bounds : Bounds) → starts bounds ≡ filter is_valid_head (map start_head (all_starts bounds))
unfolding start_head
starts_are bounds =
    let one : Start → List Head = λ c. start_head c ∷ [] in
    ap (filter is_valid_head)
    (sym (sym (singles start_head (all_starts bounds))
    ∙ flat_pairs (λ (c : Start). start_head c ∷ []) (pairs bounds.levels.items bounds.members.items) (pairs (pairs (pairs bounds.patterns.items bounds.delays.items) bounds.syndromes.items) bounds.chunks.items)
    ∙ flat_pairs (λ (lm : Level × ℕ). flat_map (λ (c : ((Pattern × ℕ) × Syndrome) × ℕ). start_head (lm, c) ∷ []) (pairs (pairs (pairs bounds.patterns.items bounds.delays.items) bounds.syndromes.items) bounds.chunks.items)) bounds.levels.items bounds.members.items
    ∙ flat_same _ _ bounds.levels.items (λ level. flat_same _ _ bounds.members.items (λ members.
    flat_pairs (λ (c : ((Pattern × ℕ) × Syndrome) × ℕ). start_head ((level, members), c) ∷ []) (pairs (pairs bounds.patterns.items bounds.delays.items) bounds.syndromes.items) bounds.chunks.items
    ∙ flat_pairs (λ (rs : (Pattern × ℕ) × Syndrome). flat_map (λ (chunk : ℕ). start_head ((level, members), (rs, chunk)) ∷ []) bounds.chunks.items) (pairs bounds.patterns.items bounds.delays.items) bounds.syndromes.items
    ∙ flat_pairs (λ (r : Pattern × ℕ). flat_map (λ (syndrome : Syndrome). flat_map (λ (chunk : ℕ). start_head ((level, members), ((r, syndrome), chunk)) ∷ []) bounds.chunks.items) bounds.syndromes.items) bounds.patterns.items bounds.delays.items))))

-- heads that differ in more than their offset stand once
ranked_starts : (plan : Plan) → IsPlan plan → Ranked heads_alike (starts plan.bounds)
unfolding start_head
ranked_starts plan is_plan =
    let bounds = plan.bounds in
    let P : List Head → Type 0 = λ hs. Ranked heads_alike hs in
    subst P (sym (starts_are plan.bounds))
    (ranked_kept heads_alike is_valid_head (map start_head (all_starts plan.bounds))
    (ranked_map heads_alike start_head (all_starts plan.bounds)
    (ranked_pairs (λ a b. level_place a.0 == level_place b.0 && a.1 == b.1) (λ a b. ((pattern_place a.0.0.0 == pattern_place b.0.0.0 && a.0.0.1 == b.0.0.1) && syndrome_place a.0.1 == syndrome_place b.0.1) && a.1 == b.1)
    (pairs bounds.levels.items bounds.members.items) (pairs (pairs (pairs bounds.patterns.items bounds.delays.items) bounds.syndromes.items) bounds.chunks.items)
    (ranked_pairs (λ a b. level_place a == level_place b) (λ a b. a == b) bounds.levels.items bounds.members.items
    (ranked_keys level_place bounds.levels.items (keys_of_rising level_place bounds.levels.items is_plan.bounds.levels.rising)) (numbers_differ bounds.members.items is_plan.bounds.members.rising))
    (ranked_pairs (λ a b. (pattern_place a.0.0 == pattern_place b.0.0 && a.0.1 == b.0.1) && syndrome_place a.1 == syndrome_place b.1) (λ a b. a == b) (pairs (pairs bounds.patterns.items bounds.delays.items) bounds.syndromes.items) bounds.chunks.items
    (ranked_pairs (λ a b. pattern_place a.0 == pattern_place b.0 && a.1 == b.1) (λ a b. syndrome_place a == syndrome_place b) (pairs bounds.patterns.items bounds.delays.items) bounds.syndromes.items
    (ranked_pairs (λ a b. pattern_place a == pattern_place b) (λ a b. a == b) bounds.patterns.items bounds.delays.items
    (ranked_keys pattern_place bounds.patterns.items (keys_of_rising pattern_place bounds.patterns.items is_plan.bounds.patterns.rising)) (numbers_differ bounds.delays.items is_plan.bounds.delays.rising))
    (ranked_keys syndrome_place bounds.syndromes.items (keys_of_rising syndrome_place bounds.syndromes.items is_plan.bounds.syndromes.rising)))
    (numbers_differ bounds.chunks.items is_plan.bounds.chunks.rising)))))

-- a head is alike to itself with another offset
own_start : (head : Head) (bases : List ℕ) (slots : List (Option ℕ)) → same_start (based_set head (bases, slots)).0 head ≡ true
own_start head bases slots =
    let level = level_place head.level == level_place head.level in
    let members = head.members == head.members in
    let pattern = pattern_place head.pattern == pattern_place head.pattern in
    let delay = head.delay == head.delay in
    let syndrome = syndrome_place head.syndrome == syndrome_place head.syndrome in
    let chunk = head.chunk == head.chunk in
    and_from (level && members) (((pattern && delay) && syndrome) && chunk)
    (and_from level members (eq-eqb (level_place head.level) (level_place head.level) refl) (eq-eqb head.members head.members refl))
    (and_from ((pattern && delay) && syndrome) chunk
    (and_from (pattern && delay) syndrome
    (and_from pattern delay (eq-eqb (pattern_place head.pattern) (pattern_place head.pattern) refl) (eq-eqb head.delay head.delay refl))
    (eq-eqb (syndrome_place head.syndrome) (syndrome_place head.syndrome) refl))
    (eq-eqb head.chunk head.chunk refl))

-- the sets of one start stand once
ranked_in : (plan : Plan) (head : Head) → IsPlan plan → Ranked is_same_based (based_in plan head)
ranked_in plan head is_plan =
    ranked_map is_same_based (based_set head) (pairs (bases_of plan) (lists plan head)) (λ i p e.
    let both = ranked_pairs same_bases same_slots (bases_of plan) (lists plan head) (ranked_bases plan.bounds.offsets.items (length plan.lengths.items) is_plan.bounds.offsets.rising)
    (λ k l at. rank_of_element (space_of plan head.level head.members) k l at) in
    sym (position_map (is_same_based (based_set head p)) (based_set head) (pairs (bases_of plan) (lists plan head)))
    ∙ based_place plan head (based_set head p) refl
    ∙ ap (λ (b : Bool). joined (length (lists plan head)) (cond b (position (same_bases p.0) (bases_of plan)) None) (position (same_slots p.1) (lists plan head))) (own_start head p.0 p.1)
    ∙ sym (position_pairs (same_bases p.0) (same_slots p.1) (bases_of plan) (lists plan head))
    ∙ both i p e)

each_any : {A : Type 0} (P : A → Type 0) → ((x : A) → P x) → (xs : List A) → AllByRecursion P xs
each_any P h [] = tt
each_any P h (x ∷ xs) = (h x, each_any P h xs)

-- those of another stand not among them
none_of_other : (plan : Plan) (head other : Head) → heads_alike other head ≡ false → AllByRecursion (λ set. position (is_same_based set) (based_in plan head) ≡ None) (based_in plan other)
none_of_other plan head other differs =
    each_map (λ set. position (is_same_based set) (based_in plan head) ≡ None) (based_set other) (pairs (bases_of plan) (lists plan other))
    (each_any (λ p. position (is_same_based (based_set other p)) (based_in plan head) ≡ None) (λ p.
    based_place plan head (based_set other p) refl
    ∙ ap (λ (b : Bool). joined (length (lists plan head)) (cond b (position (same_bases p.0) (bases_of plan)) None) (position (same_slots p.1) (lists plan head))) differs)
    (pairs (bases_of plan) (lists plan other)))

ranked_based : (plan : Plan) → IsPlan plan → Ranked is_same_based (based_of plan)
ranked_based plan is_plan =
    let P : List Based → Type 0 = λ sets. Ranked is_same_based sets in
    subst P (sym (product_is plan))
    (ranked_flat is_same_based heads_alike (based_in plan) (starts plan.bounds) (ranked_starts plan is_plan)
    (each_any (λ head. Ranked is_same_based (based_in plan head)) (λ head. ranked_in plan head is_plan) (starts plan.bounds))
    (each_any (λ head. (other : Head) → heads_alike other head ≡ false → AllByRecursion (λ set. position (is_same_based set) (based_in plan head) ≡ None) (based_in plan other))
    (λ head other differs. none_of_other plan head other differs) (starts plan.bounds)))

-- without bases
ranked_common : (plan : Plan) → IsPlan plan → Ranked is_same_based (map (λ geo. (geo, [])) (sets_of plan))
unfolding same_bases
ranked_common plan is_plan =
    let without_bases : Geometry → Based = λ geo. (geo, []) in
    ranked_map is_same_based (λ geo. (geo, [])) (sets_of plan) (λ i geo e.
    position_same (λ (d : Geometry). is_same_based (without_bases geo) (without_bases d)) (is_same_set geo) (sets_of plan) (λ d. and_true (is_same_set geo d))
    ∙ ranked_sets plan is_plan i geo e)
  where
    and_true : (b : Bool) → (b && true) ≡ b
    and_true true = refl
    and_true false = refl

-- the set at a rank has that rank
pub ranked_wide : (plan : Plan) → IsPlan plan → Ranked is_same_based (wide_sets plan)
ranked_wide plan is_plan = by_kind plan.each refl
  where
    by_kind : (b : Bool) → plan.each ≡ b → Ranked is_same_based (wide_sets plan)
    by_kind true each = let Q : List Based → Type 0 = λ sets. Ranked is_same_based sets in subst Q (sym (wide_are plan each)) (ranked_based plan is_plan)
    by_kind false each = let Q : List Based → Type 0 = λ sets. Ranked is_same_based sets in subst Q (sym (common_are plan each)) (ranked_common plan is_plan)

-- and the set of a rank stands there
pub set_of_rank : (plan : Plan) (rank : ℕ) (set : Based) → wide_rank plan set ≡ Some rank → slice_get (wide_sets plan) rank ≡ Some set
set_of_rank plan rank set e =
    let found = position-Some (is_same_based set) (wide_sets plan) rank set e in
    let there = get_or (wide_sets plan) rank set in
    let parts = and_parts (is_same_set set.0 (get_or (wide_sets plan) rank set).0) (same_bases set.1 (get_or (wide_sets plan) rank set).1) found.1 in
    slice_get-get_or (wide_sets plan) rank set found.0
    ∙ sym (ap₂ (λ (geo : Geometry) (bases : List ℕ). let b : Based = (geo, bases) in Some b) (same_sets set.0 there.0 parts.0) (same_are_equal set.1 there.1 parts.1))

pub undo : RanksAndSetsUndo
undo plan is_plan rank set = (λ at. ranked_wide plan is_plan rank set at, λ e. set_of_rank plan rank set e)
