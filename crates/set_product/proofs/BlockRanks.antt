-- A block by rank: how many heads and sets it has, which one stands where, and where one stands.
use Rattle.std.proofs.Common.{ℕ, ◌≡◌, ◌<◌, ◌≤◌, ◌+◌, ◌*◌, ◌/◌, ◌%◌, ◌^◌, ◌==◌, ◌&&◌, Bool, true, false, List, length, map, refl, sym, ap, ap₂, ◌∙◌, arith, Option, Some, None, slice_get, option_map}
use Rattle.std.specs.List.{position}
use Rattle.std.proofs.lemmas.Nat.{mul-le}
use Rattle.raid_params.specs.declared.limits.TheConstants.{MOST_CHUNKS, MOST_OFFSETS, MOST_SYNDROMES}
use Rattle.raid_params.specs.declared.types.Geometry.{Geometry}
use Rattle.raid_params.specs.declared.types.Head.{Head}
use Rattle.raid_params.specs.declared.types.Pattern.{Pattern}
use Rattle.raid_params.specs.declared.types.Syndrome.{Syndrome}
use Rattle.slot_math.specs.Space.{lists_of, same_slots}
use Rattle.slot_math.proofs.Nested.{get-map, length-map}
use Rattle.search_plan.specs.Plans.{IsPlan}
use Rattle.search_plan.specs.Places.{level_place, syndrome_place}
use Rattle.search_plan.specs.declared.plan.Plan.{Plan}
use Rattle.set_product.specs.Blocks.{heads_with, is_rotation_of, sets_with, IsBlock}
use Rattle.set_product.specs.Pairs.{pairs, joined}
use Rattle.plan_sets.specs.Sets.{is_same_head, is_same_set}
use Rattle.set_product.specs.declared.block.Block.{Block}
use Rattle.set_product.specs.declared.block.TheConstants.{MOST_ROTATIONS}
use Rattle.set_product.proofs.Blocks.{heads_are, head_of, sets_are, set_of, Choice}
use Rattle.set_product.proofs.Pairs.{length_pairs, pair_found, place_within, position_map, position_never, position_same, position_pairs}

-- the choices of a block's heads
abbrev pub choices : Plan → Block → List Choice
choices plan block = pairs (pairs block.rotations.items block.syndromes.items) (pairs plan.bounds.chunks.items plan.bounds.offsets.items)

-- the heads of a block
pub block_heads : (plan : Plan) (block : Block) → IsPlan plan → IsBlock plan block → heads_with plan.bounds block.level block.members ≡ map (head_of block.level block.members) (choices plan block)
block_heads plan block is_plan is_block =
    heads_are plan.bounds block.level block.members is_plan.bounds.powers
    ∙ ap₂ (λ (rs : List (Pattern × ℕ)) (ss : List Syndrome). map (head_of block.level block.members) (pairs (pairs rs ss) (pairs plan.bounds.chunks.items plan.bounds.offsets.items))) (sym is_block.rotations) (sym is_block.syndromes)

pub heads_count : (plan : Plan) (block : Block) → IsPlan plan → IsBlock plan block →
    length (heads_with plan.bounds block.level block.members) ≡ length block.rotations.items * length block.syndromes.items * (length plan.bounds.chunks.items * length plan.bounds.offsets.items)
heads_count plan block is_plan is_block =
    ap length (block_heads plan block is_plan is_block)
    ∙ length-map (head_of block.level block.members) (choices plan block)
    ∙ length_pairs (pairs block.rotations.items block.syndromes.items) (pairs plan.bounds.chunks.items plan.bounds.offsets.items)
    ∙ ap₂ (λ (a b : ℕ). a * b) (length_pairs block.rotations.items block.syndromes.items) (length_pairs plan.bounds.chunks.items plan.bounds.offsets.items)

pub head_found : (plan : Plan) (block : Block) (rank ends : ℕ) (start : (Pattern × ℕ) × Syndrome) (last : ℕ × ℕ) → IsPlan plan → IsBlock plan block →
    ends ≡ length plan.bounds.chunks.items * length plan.bounds.offsets.items →
    slice_get (pairs block.rotations.items block.syndromes.items) (rank / ends) ≡ Some start → slice_get (pairs plan.bounds.chunks.items plan.bounds.offsets.items) (rank % ends) ≡ Some last →
    slice_get (heads_with plan.bounds block.level block.members) rank
    ≡ Some (record { level = block.level; members = block.members; pattern = start.0.0; delay = start.0.1; syndrome = start.1; chunk = last.0; offset = last.1 })
head_found plan block rank ends start last is_plan is_block is e f =
    let starts = pairs block.rotations.items block.syndromes.items in
    let lasts = pairs plan.bounds.chunks.items plan.bounds.offsets.items in
    let count : ends ≡ length (pairs plan.bounds.chunks.items plan.bounds.offsets.items) = is ∙ sym (length_pairs plan.bounds.chunks.items plan.bounds.offsets.items) in
    ap (λ (heads : List Head). slice_get heads rank) (block_heads plan block is_plan is_block)
    ∙ get-map (head_of block.level block.members) (choices plan block) rank
    ∙ ap (option_map (head_of block.level block.members))
    (pair_found starts lasts rank start last (ap (λ (k : ℕ). slice_get starts (rank / k)) (sym count) ∙ e) (ap (λ (k : ℕ). slice_get lasts (rank % k)) (sym count) ∙ f))

-- the place of a head of another level or number of members
pub other_head : (plan : Plan) (block : Block) (head : Head) → IsPlan plan → IsBlock plan block → (level_place head.level == level_place block.level && head.members == block.members) ≡ false →
    position (is_same_head head) (heads_with plan.bounds block.level block.members) ≡ None
other_head plan block head is_plan is_block other =
    let make = head_of block.level block.members in
    ap (position (is_same_head head)) (block_heads plan block is_plan is_block)
    ∙ position_map (is_same_head head) make (choices plan block)
    ∙ position_never (λ c. is_same_head head (make c)) (choices plan block)
    (λ c. ap (λ (b : Bool). b && ((is_rotation_of head c.0.0 && syndrome_place head.syndrome == syndrome_place c.0.1) && (head.chunk == c.1.0 && head.offset == c.1.1))) other)

-- the place of a head of the level and the number of members
pub head_place : (plan : Plan) (block : Block) (head : Head) → IsPlan plan → IsBlock plan block → (level_place head.level == level_place block.level && head.members == block.members) ≡ true →
    position (is_same_head head) (heads_with plan.bounds block.level block.members)
    ≡ joined (length plan.bounds.chunks.items * length plan.bounds.offsets.items)
    (joined (length block.syndromes.items) (position (is_rotation_of head) block.rotations.items) (position (λ s. syndrome_place head.syndrome == syndrome_place s) block.syndromes.items))
    (joined (length plan.bounds.offsets.items) (position (λ n. head.chunk == n) plan.bounds.chunks.items) (position (λ n. head.offset == n) plan.bounds.offsets.items))
head_place plan block head is_plan is_block same =
    let make = head_of block.level block.members in
    let t : Pattern × ℕ → Bool = is_rotation_of head in
    let u : Syndrome → Bool = λ s. syndrome_place head.syndrome == syndrome_place s in
    let v : ℕ → Bool = λ n. head.chunk == n in
    let w : ℕ → Bool = λ n. head.offset == n in
    let starts = pairs block.rotations.items block.syndromes.items in
    let lasts = pairs plan.bounds.chunks.items plan.bounds.offsets.items in
    ap (position (is_same_head head)) (block_heads plan block is_plan is_block)
    ∙ position_map (is_same_head head) make (choices plan block)
    ∙ position_same (λ c. is_same_head head (make c)) (λ c. (t c.0.0 && u c.0.1) && (v c.1.0 && w c.1.1)) (choices plan block)
    (λ c. ap (λ (b : Bool). b && ((t c.0.0 && u c.0.1) && (v c.1.0 && w c.1.1))) same)
    ∙ position_pairs (λ s. t s.0 && u s.1) (λ l. v l.0 && w l.1) starts lasts
    ∙ ap (λ (k : ℕ). joined k (position (λ (s : (Pattern × ℕ) × Syndrome). t s.0 && u s.1) starts) (position (λ (l : ℕ × ℕ). v l.0 && w l.1) lasts)) (length_pairs plan.bounds.chunks.items plan.bounds.offsets.items)
    ∙ ap₂ (joined (length plan.bounds.chunks.items * length plan.bounds.offsets.items))
    (position_pairs t u block.rotations.items block.syndromes.items) (position_pairs v w plan.bounds.chunks.items plan.bounds.offsets.items)

pub sets_count : (plan : Plan) (block : Block) → IsPlan plan → IsBlock plan block →
    length (sets_with plan (block.level, block.members)) ≡ length (heads_with plan.bounds block.level block.members) * length (lists_of block.space)
sets_count plan block is_plan is_block =
    ap length (sets_are plan block is_plan is_block)
    ∙ length-map set_of (pairs (heads_with plan.bounds block.level block.members) (lists_of block.space))
    ∙ length_pairs (heads_with plan.bounds block.level block.members) (lists_of block.space)

pub set_found : (plan : Plan) (block : Block) (rank lists : ℕ) (head : Head) (slots : List (Option ℕ)) → IsPlan plan → IsBlock plan block → lists ≡ length (lists_of block.space) →
    slice_get (heads_with plan.bounds block.level block.members) (rank / lists) ≡ Some head → slice_get (lists_of block.space) (rank % lists) ≡ Some slots →
    slice_get (sets_with plan (block.level, block.members)) rank ≡ Some (record { head = head; slots = record { items = slots } })
set_found plan block rank lists head slots is_plan is_block is e f =
    let heads = heads_with plan.bounds block.level block.members in
    let all = lists_of block.space in
    ap (λ (sets : List Geometry). slice_get sets rank) (sets_are plan block is_plan is_block)
    ∙ get-map set_of (pairs heads all) rank
    ∙ ap (option_map set_of)
    (pair_found heads all rank head slots (ap (λ (k : ℕ). slice_get heads (rank / k)) (sym is) ∙ e) (ap (λ (k : ℕ). slice_get all (rank % k)) (sym is) ∙ f))

pub set_place : (plan : Plan) (block : Block) (geo : Geometry) → IsPlan plan → IsBlock plan block →
    position (is_same_set geo) (sets_with plan (block.level, block.members))
    ≡ joined (length (lists_of block.space)) (position (is_same_head geo.head) (heads_with plan.bounds block.level block.members)) (position (same_slots geo.slots.items) (lists_of block.space))
set_place plan block geo is_plan is_block =
    let heads = heads_with plan.bounds block.level block.members in
    let all = lists_of block.space in
    ap (position (is_same_set geo)) (sets_are plan block is_plan is_block)
    ∙ position_map (is_same_set geo) set_of (pairs heads all)
    ∙ position_pairs (is_same_head geo.head) (same_slots geo.slots.items) heads all

-- the heads of a block can be ranked
pub few_heads : (r s ends : ℕ) → r ≤ MOST_ROTATIONS → s ≤ MOST_SYNDROMES → ends ≤ MOST_CHUNKS * MOST_OFFSETS → r * s * ends < 2 ^ 64
few_heads r s ends hr hs few =
    let a : r * s ≤ MOST_ROTATIONS * MOST_SYNDROMES = mul-le r s MOST_ROTATIONS MOST_SYNDROMES hr hs in
    let d : r * s * ends ≤ MOST_ROTATIONS * MOST_SYNDROMES * (MOST_CHUNKS * MOST_OFFSETS) = mul-le (r * s) ends (MOST_ROTATIONS * MOST_SYNDROMES) (MOST_CHUNKS * MOST_OFFSETS) a few in
    omega arith

-- where one part of a pair has no place, the pair has none
pub joined_none : (count : ℕ) (first : Option ℕ) → joined count first None ≡ None
joined_none count None = refl
joined_none count (Some first) = refl

-- where a head and a slot list are found, and no more sets than can be ranked, there are as few slot lists
pub found_fits : (plan : Plan) (block : Block) (geo : Geometry) (head slots : ℕ) → IsPlan plan → IsBlock plan block →
    position (is_same_head geo.head) (heads_with plan.bounds block.level block.members) ≡ Some head → position (same_slots geo.slots.items) (lists_of block.space) ≡ Some slots →
    length (sets_with plan (block.level, block.members)) < 2 ^ 64 → (length (lists_of block.space) < 2 ^ 64) × (slots < length (lists_of block.space)) × (head * length (lists_of block.space) + slots < 2 ^ 64)
found_fits plan block geo head slots is_plan is_block at_head at_slots few =
    let lists = length (lists_of block.space) in
    let heads = length (heads_with plan.bounds block.level block.members) in
    let count = sets_count plan block is_plan is_block in
    let some = place_within (is_same_head geo.head) (heads_with plan.bounds block.level block.members) head at_head in
    let within = place_within (same_slots geo.slots.items) (lists_of block.space) slots at_slots in
    let more : 1 * lists ≤ heads * lists = mul-le 1 lists heads lists (omega arith) (omega arith) in
    let there : position (is_same_set geo) (sets_with plan (block.level, block.members)) ≡ Some (head * length (lists_of block.space) + slots)
    = set_place plan block geo is_plan is_block ∙ ap₂ (joined (length (lists_of block.space))) at_head at_slots in
    let below = place_within (is_same_set geo) (sets_with plan (block.level, block.members)) (head * length (lists_of block.space) + slots) there in
    ((omega arith), within, (omega arith))

pub set_split : (plan : Plan) (block : Block) (rank lists : ℕ) → IsPlan plan → IsBlock plan block → lists ≡ length (lists_of block.space) → rank < length (sets_with plan (block.level, block.members)) →
    rank < length (heads_with plan.bounds block.level block.members) * lists
set_split plan block rank lists is_plan is_block is below =
    let count = sets_count plan block is_plan is_block in
    let same = ap (λ (k : ℕ). length (heads_with plan.bounds block.level block.members) * k) is in
    omega arith
