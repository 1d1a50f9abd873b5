-- No set stands twice in a product, so that ranks and sets undo each other.
use Rattle.std.proofs.Common.{ℕ, ◌≡◌, ◌≤◌, Bool, true, false, ◌&&◌, ◌==◌, List, [], ◌∷◌, length, filter, refl, sym, ap, ap₂, ◌∙◌, subst, Option, Some, None, slice_get, get_or}
use Rattle.std.specs.List.{position, AllByRecursion}
use Rattle.std.specs.List.Sorted.{IsStrictlyIncreasing}
use Rattle.std.proofs.lemmas.Bool.{eq-eqb}
use Rattle.std.proofs.lemmas.List.{map-id}
use Rattle.std.proofs.lemmas.List.Quantifiers.{position-Some}
use Rattle.std.proofs.lemmas.Option.{slice_get-get_or}
use Rattle.raid_params.specs.declared.limits.TheConstants.{MOST}
use Rattle.raid_params.specs.declared.types.Geometry.{Geometry}
use Rattle.raid_params.specs.declared.types.Head.{Head}
use Rattle.raid_params.specs.declared.types.Level.{Level}
use Rattle.raid_params.specs.declared.types.Pattern.{Pattern}
use Rattle.raid_params.specs.declared.types.Syndrome.{Syndrome}
use Rattle.raid_params.specs.Validity.{has_syndrome, is_valid_head}
use Rattle.search_terms.specs.Product.{fits, sets_of as sets_of_head}
use Rattle.search_terms.specs.SlotLists.{all_lists}
use Rattle.slot_math.proofs.Listed.{each_flat, each_kept, each_map, each_more}
use Rattle.slot_math.proofs.Positions.{rank_of_element}
use Rattle.slot_math.specs.Space.{lists_of, same_slots}
use Rattle.search_plan.specs.Plans.{IsPlan}
use Rattle.search_plan.specs.Places.{level_place, pattern_place, syndrome_place}
use Rattle.search_plan.specs.declared.plan.Plan.{Plan}
use Rattle.set_product.specs.Blocks.{heads_with, sets_with, suits, IsBlock}
use Rattle.set_product.specs.Heads.{space_of}
use Rattle.set_product.specs.Pairs.{pairs, joined}
use Rattle.plan_sets.specs.Sets.{is_same_head, is_same_set, rank_of, sets_of}
use Rattle.set_product.specs.declared.block.Block.{Block}
use Rattle.set_product.proofs.BlockRanks.{block_heads, choices, other_head, set_place}
use Rattle.set_product.proofs.Blocks.{head_of, product_is, set_of, sets_are, Choice}
use Rattle.set_product.proofs.Equal.{same_sets}
use Rattle.set_product.proofs.Pairs.{position_same, second_of}
use Rattle.set_product.proofs.Ranked.{each_of, keys_of_kept, keys_of_rising, ranked_flat, ranked_keys, ranked_kept, ranked_map, ranked_pairs, KeysDiffer, Ranked}
use Rattle.set_product.proofs.Spaces.{of_plan}

numbers_differ : (xs : List ℕ) → IsStrictlyIncreasing xs → KeysDiffer (λ n. n) xs
numbers_differ xs e = keys_of_rising (λ n. n) xs (subst IsStrictlyIncreasing (sym (map-id xs)) e)

-- in a block each head is found at its own place
ranked_heads : (plan : Plan) (block : Block) → IsPlan plan → IsBlock plan block → Ranked is_same_head (heads_with plan.bounds block.level block.members)
ranked_heads plan block is_plan is_block =
    let make = head_of block.level block.members in
    let P : List Head → Type 0 = λ heads. Ranked is_same_head heads in
    let u : Pattern × ℕ → Pattern × ℕ → Bool = λ a b. pattern_place a.0 == pattern_place b.0 && a.1 == b.1 in
    let rotations : Ranked (λ a b. pattern_place a.0 == pattern_place b.0 && a.1 == b.1) block.rotations.items =
    (let Q : List (Pattern × ℕ) → Type 0 = λ rs. Ranked u rs in
    subst Q (sym is_block.rotations) (ranked_kept u (suits block.level block.members) (pairs plan.bounds.patterns.items plan.bounds.delays.items)
    (ranked_pairs (λ a b. pattern_place a == pattern_place b) (λ a b. a == b) plan.bounds.patterns.items plan.bounds.delays.items
    (ranked_keys pattern_place plan.bounds.patterns.items (keys_of_rising pattern_place plan.bounds.patterns.items is_plan.bounds.patterns.rising))
    (ranked_keys (λ n. n) plan.bounds.delays.items (numbers_differ plan.bounds.delays.items is_plan.bounds.delays.rising))))) in
    let syndromes : KeysDiffer syndrome_place block.syndromes.items =
    (let Q : List Syndrome → Type 0 = λ ss. KeysDiffer syndrome_place ss in
    subst Q (sym is_block.syndromes) (keys_of_kept syndrome_place (has_syndrome block.level) plan.bounds.syndromes.items (keys_of_rising syndrome_place plan.bounds.syndromes.items is_plan.bounds.syndromes.rising))) in
    let t : Choice → Choice → Bool = λ c d. ((pattern_place c.0.0.0 == pattern_place d.0.0.0 && c.0.0.1 == d.0.0.1) && syndrome_place c.0.1 == syndrome_place d.0.1) && (c.1.0 == d.1.0 && c.1.1 == d.1.1) in
    let of_choices : Ranked (λ c d. ((pattern_place c.0.0.0 == pattern_place d.0.0.0 && c.0.0.1 == d.0.0.1) && syndrome_place c.0.1 == syndrome_place d.0.1) && (c.1.0 == d.1.0 && c.1.1 == d.1.1)) (choices plan block) =
    ranked_pairs (λ c d. (pattern_place c.0.0 == pattern_place d.0.0 && c.0.1 == d.0.1) && syndrome_place c.1 == syndrome_place d.1) (λ c d. c.0 == d.0 && c.1 == d.1)
    (pairs block.rotations.items block.syndromes.items) (pairs plan.bounds.chunks.items plan.bounds.offsets.items)
    (ranked_pairs (λ a b. pattern_place a.0 == pattern_place b.0 && a.1 == b.1) (λ a b. syndrome_place a == syndrome_place b) block.rotations.items block.syndromes.items
    rotations (ranked_keys syndrome_place block.syndromes.items syndromes))
    (ranked_pairs (λ a b. a == b) (λ a b. a == b) plan.bounds.chunks.items plan.bounds.offsets.items
    (ranked_keys (λ n. n) plan.bounds.chunks.items (numbers_differ plan.bounds.chunks.items is_plan.bounds.chunks.rising)) (ranked_keys (λ n. n) plan.bounds.offsets.items (numbers_differ plan.bounds.offsets.items is_plan.bounds.offsets.rising))) in
    subst P (sym (block_heads plan block is_plan is_block))
    (ranked_map is_same_head make (choices plan block)
    (λ i c e. position_same (λ d. is_same_head (make c) (make d)) (t c) (choices plan block)
    (λ d. ap₂ (λ (a b : Bool). (a && b) && t c d) (eq-eqb (level_place block.level) (level_place block.level) refl) (eq-eqb block.members block.members refl))
    ∙ of_choices i c e))

-- in a block each set is found at its own place
ranked_block : (plan : Plan) (block : Block) → IsPlan plan → IsBlock plan block → Ranked is_same_set (sets_with plan (block.level, block.members))
ranked_block plan block is_plan is_block =
    let P : List Geometry → Type 0 = λ sets. Ranked is_same_set sets in
    let heads = heads_with plan.bounds block.level block.members in
    subst P (sym (sets_are plan block is_plan is_block))
    (ranked_map is_same_set set_of (pairs heads (lists_of block.space))
    (ranked_pairs is_same_head same_slots heads (lists_of block.space) (ranked_heads plan block is_plan is_block) (λ i l e. rank_of_element block.space i l e)))

-- there is a block of each level and number of members
some_block : (plan : Plan) (level : Level) (count : ℕ) → IsPlan plan → count ≤ MOST → (block : Block) × IsBlock plan block × (block.level ≡ level) × (block.members ≡ count)
some_block plan level count is_plan few = (
  record {
    level = level;
    members = count;
    rotations = record { items = filter (suits level count) (pairs plan.bounds.patterns.items plan.bounds.delays.items) };
    syndromes = record { items = filter (has_syndrome level) plan.bounds.syndromes.items };
    space = space_of plan level count;
  },
  record { rotations = refl; syndromes = refl; space = of_plan plan level count is_plan few; space_is = refl },
  refl,
  refl,
)

-- the sets of one level and one number of members, each found at its own place
ranked_shape : (plan : Plan) (shape : Level × ℕ) → IsPlan plan → shape.1 ≤ MOST → Ranked is_same_set (sets_with plan shape)
ranked_shape plan shape is_plan few =
    let block = some_block plan shape.0 shape.1 is_plan few in
    let at : Level × ℕ = (block.0.level, block.0.members) in
    let same : at ≡ shape = ap₂ (λ (l : Level) (m : ℕ). let s : Level × ℕ = (l, m) in s) block.2 block.3 in
    let P : Level × ℕ → Type 0 = λ s. Ranked is_same_set (sets_with plan s) in
    subst P same (ranked_block plan block.0 is_plan block.1)

Own : Level → ℕ → Head → Type 0
Own level count head = (head.level ≡ level) × (head.members ≡ count)

each_any : {A : Type 0} (P : A → Type 0) → ((x : A) → P x) → (xs : List A) → AllByRecursion P xs
each_any P h [] = tt
each_any P h (x ∷ xs) = (h x, each_any P h xs)

-- each of them has the level and the number of members
each_own : (plan : Plan) (shape : Level × ℕ) → AllByRecursion (λ geo. Own shape.0 shape.1 geo.head) (sets_with plan shape)
unfolding sets_with heads_with Own
each_own plan shape =
    let n = length plan.lengths.items in
    let bounds = plan.bounds in
    let P : Head → Type 0 = λ head. (head.level ≡ shape.0) × (head.members ≡ shape.1) in
    let Q : Geometry → Type 0 = λ geo. (geo.head.level ≡ shape.0) × (geo.head.members ≡ shape.1) in
    each_flat Q (λ head. ((head.level ≡ shape.0) × (head.members ≡ shape.1)) × (is_valid_head head ≡ true)) (sets_of_head n bounds) (heads_with bounds shape.0 shape.1)
    (λ head known. each_map Q (λ slots. record { head = head; slots = record { items = slots } }) (filter (fits n bounds head) (all_lists n head.members))
    (each_any (λ l. (head.level ≡ shape.0) × (head.members ≡ shape.1)) (λ l. known.0) (filter (fits n bounds head) (all_lists n head.members))))
    (each_kept P is_valid_head _
    (each_flat P (λ l. Unit {0}) _ bounds.patterns.items (λ pattern t.
    each_flat P (λ l. Unit {0}) _ bounds.delays.items (λ delay t.
    each_flat P (λ l. Unit {0}) _ bounds.syndromes.items (λ syndrome t.
    each_flat P (λ l. Unit {0}) _ bounds.chunks.items (λ chunk t.
    each_map P _ bounds.offsets.items (each_any (λ l. (shape.0 ≡ shape.0) × (shape.1 ≡ shape.1)) (λ l. (refl, refl)) bounds.offsets.items))
    (each_any (λ l. Unit {0}) (λ l. tt) bounds.chunks.items))
    (each_any (λ l. Unit {0}) (λ l. tt) bounds.syndromes.items))
    (each_any (λ l. Unit {0}) (λ l. tt) bounds.delays.items))
    (each_any (λ l. Unit {0}) (λ l. tt) bounds.patterns.items)))

-- a set of another level or number of members is not among them
none_of_other : (plan : Plan) (shape other : Level × ℕ) → IsPlan plan → shape.1 ≤ MOST → (level_place other.0 == level_place shape.0 && other.1 == shape.1) ≡ false →
    AllByRecursion (λ geo. position (is_same_set geo) (sets_with plan shape) ≡ None) (sets_with plan other)
unfolding Own
none_of_other plan shape other is_plan few differs =
    let block = some_block plan shape.0 shape.1 is_plan few in
    let at : Level × ℕ = (block.0.level, block.0.members) in
    let same : at ≡ shape = ap₂ (λ (l : Level) (m : ℕ). let s : Level × ℕ = (l, m) in s) block.2 block.3 in
    each_more (λ geo. (geo.head.level ≡ other.0) × (geo.head.members ≡ other.1)) (λ geo. position (is_same_set geo) (sets_with plan shape) ≡ None) (sets_with plan other)
    (λ geo known.
    let apart : (level_place geo.head.level == level_place block.0.level && geo.head.members == block.0.members) ≡ false =
    ap₂ (λ (l : Level) (m : ℕ). level_place l == level_place block.0.level && m == block.0.members) known.0 known.1
    ∙ ap₂ (λ (l : Level) (m : ℕ). level_place other.0 == level_place l && other.1 == m) block.2 block.3
    ∙ differs in
    sym (ap (λ (s : Level × ℕ). position (is_same_set geo) (sets_with plan s)) same)
    ∙ set_place plan block.0 geo is_plan block.1
    ∙ ap (λ (o : Option ℕ). joined (length (lists_of block.0.space)) o (position (same_slots geo.slots.items) (lists_of block.0.space))) (other_head plan block.0 geo.head is_plan block.1 apart))
    (each_own plan other)

-- each set of a plan is found at its own place
pub ranked_sets : (plan : Plan) → IsPlan plan → Ranked is_same_set (sets_of plan)
ranked_sets plan is_plan =
    let levels = plan.bounds.levels.items in
    let members = plan.bounds.members.items in
    let u : Level × ℕ → Level × ℕ → Bool = λ a b. level_place a.0 == level_place b.0 && a.1 == b.1 in
    let few : (k : ℕ) (s : Level × ℕ) → slice_get (pairs plan.bounds.levels.items plan.bounds.members.items) k ≡ Some s → s.1 ≤ MOST =
    (λ k s at. (second_of (λ n. (2 ≤ n) × (n ≤ MOST)) plan.bounds.levels.items plan.bounds.members.items k s is_plan.bounds.few_members at).1) in
    let P : List Geometry → Type 0 = λ sets. Ranked is_same_set sets in
    subst P (sym (product_is plan))
    (ranked_flat is_same_set u (sets_with plan) (pairs levels members)
    (ranked_pairs (λ a b. level_place a == level_place b) (λ a b. a == b) levels members
    (ranked_keys level_place levels (keys_of_rising level_place levels is_plan.bounds.levels.rising)) (ranked_keys (λ n. n) members (numbers_differ members is_plan.bounds.members.rising)))
    (each_of (λ s. Ranked is_same_set (sets_with plan s)) (pairs levels members) (λ k s at. ranked_shape plan s is_plan (few k s at)))
    (each_of (λ s. (o : Level × ℕ) → u o s ≡ false → AllByRecursion (λ geo. position (is_same_set geo) (sets_with plan s) ≡ None) (sets_with plan o)) (pairs levels members)
    (λ k s at o differs. none_of_other plan s o is_plan (few k s at) differs)))

-- the set of a rank
pub set_of_rank : (plan : Plan) (rank : ℕ) (geo : Geometry) → rank_of plan geo ≡ Some rank → slice_get (sets_of plan) rank ≡ Some geo
set_of_rank plan rank geo e =
    let found = position-Some (is_same_set geo) (sets_of plan) rank geo e in
    slice_get-get_or (sets_of plan) rank geo found.0 ∙ ap (λ (g : Geometry). Some g) (sym (same_sets geo (get_or (sets_of plan) rank geo) found.1))
