-- How many sets a plan has, which one stands at a rank, and which rank one has.
use Rattle.std.proofs.Common.{rules, ℕ, zero, suc, ◌≡◌, ◌<◌, ◌≤◌, ◌+◌, ◌-◌, ◌*◌, ◌==◌, ◌||◌, ◌&&◌, min, Bool, true, false, cond, nat_lt, IsTrue, List, [], ◌∷◌, length, map, refl, sym, ap, ap₂, ◌∙◌, arith, Option, Some, None, slice_get, option_map, Contains, All}
use Rattle.std.proofs.Math.Nat.{mul-le-mul_right, mul-zero}
use Rattle.std.proofs.lemmas.Bool.{eqb-true, ne_eqb}
use Rattle.std.proofs.lemmas.List.Elements.{recursion_from_All}
use Rattle.std.proofs.lemmas.Nat.{mul-le}
use Rattle.std.proofs.lemmas.Option.{slice_get_read}
use Rattle.std.specs.List.{flat_map, position, AllByRecursion}
use Rattle.raid_params.specs.Bases.{greatest_base, is_offset_of}
use Rattle.raid_params.specs.Size.{redundancy}
use Rattle.raid_params.specs.Validity.{is_valid_head}
use Rattle.raid_params.specs.declared.limits.TheConstants.{MOST}
use Rattle.raid_params.specs.declared.types.Geometry.{Geometry}
use Rattle.raid_params.specs.declared.types.Head.{Head}
use Rattle.raid_params.specs.declared.types.Level.{Level}
use Rattle.search_terms.specs.Product.{sets_of as sets_of_head}
use Rattle.search_plan.specs.Plans.{IsPlan}
use Rattle.plan_sets.specs.Sets.{is_same_set, rank_of, sets_of, total_of}
use Rattle.search_plan.specs.declared.plan.Plan.{Plan}
use Rattle.slot_math.proofs.Listed.{each_flat, each_get, each_kept, each_map, each_more}
use Rattle.slot_math.proofs.Nested.{get-map, length-map}
use Rattle.slot_math.specs.declared.space.Space.{Space}
use Rattle.set_product.proofs.Pairs.{place_within, position_map, position_never, position_same, position_step}
use Rattle.set_product.specs.Heads.{space_of}
use Rattle.wide_product.proofs.Grouped.{none_based, none_common}
use Rattle.wide_product.proofs.GroupAt.{some_offsets}
use Rattle.wide_product.proofs.PartAt.{each_list, fewer, total_is, wide_are}
use Rattle.wide_product.proofs.Spread.{product_is, sets_are}
use Rattle.wide_product.specs.Bases.{same_bases}
use Rattle.wide_product.specs.Groups.{based_of, bases_of, later_bases, with_first, IsGroup}
use Rattle.wide_product.specs.Parts.{IsPartOf}
use Rattle.wide_product.specs.Sets.{based_product, is_same_based, sets_over, starts, wide_rank, wide_sets, wide_total, Based}
use Rattle.wide_product.specs.declared.groups.Group.{Group}
use Rattle.wide_product.specs.declared.parts.Part.{Part}

abbrev without_bases : Geometry → Based
without_bases geo = (geo, [])

pub common_are : (plan : Plan) → plan.each ≡ false → wide_sets plan ≡ map (λ geo. (geo, [])) (sets_of plan)
unfolding wide_sets
common_are plan each = ap (λ (b : Bool). cond b (based_product (length plan.lengths.items) plan.bounds) (map (λ geo. (geo, [])) (sets_of plan))) each

pub common_total : (plan : Plan) → plan.each ≡ false → wide_total plan ≡ total_of plan
unfolding wide_total total_of
common_total plan each = ap length (common_are plan each) ∙ length-map without_bases (sets_of plan)

pub common_set : (plan : Plan) (rank : ℕ) (geo : Geometry) (bases : List ℕ) → plan.each ≡ false → slice_get (sets_of plan) rank ≡ Some geo → bases ≡ [] → slice_get (wide_sets plan) rank ≡ Some (geo, bases)
common_set plan rank geo bases each at none =
    ap (λ (l : List Based). slice_get l rank) (common_are plan each)
    ∙ get-map without_bases (sets_of plan) rank
    ∙ ap (option_map without_bases) at
    ∙ ap (λ (l : List ℕ). let b : Based = (geo, l) in Some b) (sym none)

-- a set without bases, and one with some
pub common_rank : (plan : Plan) (set : Based) → plan.each ≡ false → set.1 ≡ [] → rank_of plan set.0 ≡ wide_rank plan set
unfolding same_bases
common_rank plan set each none =
    sym (ap (position (is_same_based set)) (common_are plan each)
    ∙ position_map (is_same_based set) without_bases (sets_of plan)
    ∙ position_same (λ (geo : Geometry). is_same_based set (without_bases geo)) (is_same_set set.0) (sets_of plan)
    (λ geo. ap (λ (l : List ℕ). is_same_set set.0 geo && same_bases l []) none ∙ and_true (is_same_set set.0 geo)))
  where
    and_true : (b : Bool) → (b && true) ≡ b
    and_true true = refl
    and_true false = refl

pub not_common : (plan : Plan) (set : Based) → plan.each ≡ false → (set.1 ≡ [] → ⊥) → wide_rank plan set ≡ None
unfolding same_bases
not_common plan set each some =
    ap (position (is_same_based set)) (common_are plan each)
    ∙ position_map (is_same_based set) without_bases (sets_of plan)
    ∙ position_never (λ (geo : Geometry). is_same_based set (without_bases geo)) (sets_of plan) (λ geo. ap (λ (b : Bool). is_same_set set.0 geo && b) (other set.1 some) ∙ and_false (is_same_set set.0 geo))
  where
    and_false : (b : Bool) → (b && false) ≡ false
    and_false true = refl
    and_false false = refl

    other : (bases : List ℕ) → (bases ≡ [] → ⊥) → same_bases bases [] ≡ false
    other [] some = absurd (some refl)
    other (b ∷ bases) some = refl

-- with either kind of plan
pub no_more : (plan : Plan) → IsPlan plan → total_of plan ≤ wide_total plan
no_more plan is_plan = by_kind plan.each refl
  where
    by_kind : (b : Bool) → plan.each ≡ b → total_of plan ≤ wide_total plan
    by_kind true each = fewer plan is_plan each
    by_kind false each = let e = common_total plan each in omega arith

-- the spaces of slot lists are those of at most MOST images and members
each_members : (plan : Plan) → IsPlan plan → AllByRecursion (λ head. (head.members ≤ MOST) × (is_valid_head head ≡ true)) (starts plan.bounds)
each_members plan is_plan =
    let bounds = plan.bounds in
    let P : Head → Type 0 = λ head. head.members ≤ MOST in
    each_kept P is_valid_head _
    (each_flat P (λ l. Unit {0}) _ bounds.levels.items (λ level t.
    each_flat P (λ n. (2 ≤ n) × (n ≤ MOST)) _ bounds.members.items (λ members few.
    each_flat P (λ l. Unit {0}) _ bounds.patterns.items (λ pattern t.
    each_flat P (λ l. Unit {0}) _ bounds.delays.items (λ delay t.
    each_flat P (λ l. Unit {0}) _ bounds.syndromes.items (λ syndrome t.
    each_flat P (λ l. Unit {0}) (λ chunk. record { level = level; members = members; pattern = pattern; delay = delay; syndrome = syndrome; chunk = chunk; offset = 0 } ∷ []) bounds.chunks.items (λ chunk t. (few.1, tt))
    (each_any (λ l. Unit {0}) (λ l. tt) bounds.chunks.items))
    (each_any (λ l. Unit {0}) (λ l. tt) bounds.syndromes.items))
    (each_any (λ l. Unit {0}) (λ l. tt) bounds.delays.items))
    (each_any (λ l. Unit {0}) (λ l. tt) bounds.patterns.items))
    (recursion_from_All (λ n. (2 ≤ n) × (n ≤ MOST)) bounds.members.items is_plan.bounds.few_members))
    (each_any (λ l. Unit {0}) (λ l. tt) bounds.levels.items))
  where
    each_any : {A : Type 0} (P : A → Type 0) → ((x : A) → P x) → (xs : List A) → AllByRecursion P xs
    each_any P h [] = tt
    each_any P h (x ∷ xs) = (h x, each_any P h xs)

room : (plan : Plan) (level : Level) (count : ℕ) → ((space_of plan level count).images ≡ length plan.lengths.items) × ((space_of plan level count).members ≡ count)
unfolding space_of
room plan level count =
    let n = length plan.lengths.items in
    let none : Space = record { images = n; members = count; low = 1; high = 0 } in
    let some : Space = record { images = n; members = count; low = 0; high = min (min plan.bounds.missing (redundancy level)) (plan.bounds.foreign + count - n) } in
    elim (nat_lt (plan.bounds.foreign + count) (length plan.lengths.items)) as (λ b. ((cond {A = Space} b none some).images ≡ length plan.lengths.items) × ((cond {A = Space} b none some).members ≡ count)) [
      | true ↦ (refl, refl)
      | false ↦ (refl, refl)
    ]

pub part_space : (plan : Plan) (part : Part) → IsPlan plan → IsPartOf plan part → (part.space.images ≤ MOST) × (part.space.members ≤ MOST)
part_space plan part is_plan is =
    let known = each_get (λ h. (h.members ≤ MOST) × (is_valid_head h ≡ true)) (starts plan.bounds) is.head.0 (record part.head { offset = 0 }) (each_members plan is_plan)
    (slice_get_read (starts plan.bounds) (length (starts plan.bounds)) is.head.0 (record part.head { offset = 0 }) refl is.head.1 (sym is.head.2)) in
    let members : part.head.members ≤ MOST = known.0 in
    let images = is_plan.lengths.most in
    let are = room plan part.head.level part.head.members in
    let images_are : part.space.images ≡ length plan.lengths.items = ap (λ (s : Space). s.images) is.space ∙ are.0 in
    let members_are : part.space.members ≡ part.head.members = ap (λ (s : Space). s.members) is.space ∙ are.1 in
    (omega arith, omega arith)

-- lists of other lengths differ
other_length : (a b : List ℕ) → (length a ≡ length b → ⊥) → same_bases a b ≡ false
unfolding same_bases
other_length [] [] differ = absurd (differ refl)
other_length [] (y ∷ b) differ = refl
other_length (x ∷ a) [] differ = refl
other_length (x ∷ a) (y ∷ b) differ = ap (λ (t : Bool). x == y && t) (other_length a b (λ e. differ (ap suc e))) ∙ and_false (x == y)
  where
    and_false : (b : Bool) → (b && false) ≡ false
    and_false true = refl
    and_false false = refl

none_of : {A : Type 0} (p : A → Bool) (xs : List A) → AllByRecursion (λ x. p x ≡ false) xs → position p xs ≡ None
none_of p [] all = refl
none_of p (x ∷ xs) all = position_step p x xs ∙ ap₂ (λ (b : Bool) (o : Option ℕ). cond b (Some 0) (option_map (λ n. suc n) o)) all.0 (none_of p xs all.1)

each_any : {A : Type 0} (P : A → Type 0) → ((x : A) → P x) → (xs : List A) → AllByRecursion P xs
each_any P h [] = tt
each_any P h (x ∷ xs) = (h x, each_any P h xs)

-- each set has as many bases as there are images
each_based : (plan : Plan) → AllByRecursion (λ set. length set.1 ≡ length plan.lengths.items) (based_of plan)
each_based plan =
    let n = length plan.lengths.items in
    let P : Based → Type 0 = λ set. length set.1 ≡ length plan.lengths.items in
    each_flat P (λ head. Unit {0}) (λ head. flat_map (sets_over n plan.bounds head) (bases_of plan)) (starts plan.bounds)
    (λ head t. each_flat P (λ l. (length l ≡ length plan.lengths.items) × All (Contains plan.bounds.offsets.items) l) (sets_over n plan.bounds head) (bases_of plan)
    (λ bases known. each_map P (λ (geo : Geometry). let b : Based = (geo, bases) in b) (sets_of_head n plan.bounds (record head { offset = greatest_base bases }))
    (each_any (λ (geo : Geometry). length bases ≡ length plan.lengths.items) (λ geo. known.0) (sets_of_head n plan.bounds (record head { offset = greatest_base bases }))))
    (each_list plan.bounds.offsets.items (length plan.lengths.items)))
    (each_any (λ (head : Head). Unit {0}) (λ head. tt) (starts plan.bounds))

-- a set whose bases are more or fewer than the images
pub not_each : (plan : Plan) (set : Based) → plan.each ≡ true → (length set.1 ≡ length plan.lengths.items → ⊥) → wide_rank plan set ≡ None
not_each plan set each differ =
    ap (position (is_same_based set)) (wide_are plan each)
    ∙ none_of (is_same_based set) (based_of plan)
    (each_more (λ other. length other.1 ≡ length plan.lengths.items) (λ other. is_same_based set other ≡ false) (based_of plan)
    (λ other known. ap (λ (b : Bool). is_same_set set.0 other.0 && b) (other_length set.1 other.1 (λ e. differ (e ∙ known))) ∙ and_false (is_same_set set.0 other.0)) (each_based plan))
  where
    and_false : (b : Bool) → (b && false) ≡ false
    and_false true = refl
    and_false false = refl

-- a set that is in no group, and one whose bases are not among the plan's
pub not_there : (plan : Plan) (set : Based) → IsPlan plan → plan.each ≡ true → set.0.head.offset ≡ greatest_base set.1 → rank_of plan (with_first plan set.0) ≡ None → wide_rank plan set ≡ None
not_there plan set is_plan each greatest none =
    ap (position (is_same_based set)) (wide_are plan each ∙ product_is plan)
    ∙ none_common plan set (starts plan.bounds) (some_offsets plan is_plan) greatest (sym (ap (position (is_same_set (with_first plan set.0))) (sets_are plan)) ∙ none)

pub not_based : (plan : Plan) (set : Based) → plan.each ≡ true → set.0.head.offset ≡ greatest_base set.1 → position (same_bases set.1) (bases_of plan) ≡ None → wide_rank plan set ≡ None
not_based plan set each greatest none =
    ap (position (is_same_based set)) (wide_are plan each ∙ product_is plan)
    ∙ none_based plan set (starts plan.bounds) greatest none

-- a set of a group: its rank, and how far the numbers go that it is made of
pub record Ranks (plan : Plan) (set : Based) (common later list : ℕ) (group : Group) : Type 0 where
  pub rank : wide_rank plan set ≡ Some (group.first * later + (list * group.count + (common - group.first)))
  pub below : group.first * later + (list * group.count + (common - group.first)) < wide_total plan

pub few_bases : (plan : Plan) (common : ℕ) (group : Group) → plan.each ≡ true → IsGroup plan common group → length (bases_of plan) ≤ wide_total plan
unfolding wide_total
few_bases plan common group each is =
    let low = is.low in
    let high = is.high in
    let within = is.within in
    let whole = ap length (wide_are plan each) in
    let some : 1 ≤ group.count = at_least group.count (length plan.bounds.offsets.items) (let e : common - group.first < length plan.bounds.offsets.items * group.count = omega arith in e) in
    let more : length (bases_of plan) * 1 ≤ length (bases_of plan) * group.count = mul-le (length (bases_of plan)) 1 (length (bases_of plan)) group.count (omega arith) some in
    omega arith
  where
    at_least : (b a : ℕ) {r : ℕ} → r < a * b → 1 ≤ b
    at_least zero a below = let none : a * zero ≡ 0 = mul-zero a in absurd (omega arith)
    at_least (suc b) a below = omega arith

pub common_below : (plan : Plan) (common : ℕ) (geo : Geometry) → rank_of plan geo ≡ Some common → common < total_of plan
unfolding total_of
common_below plan common geo at = place_within (is_same_set geo) (sets_of plan) common at

pub few_later : (plan : Plan) (common : ℕ) → IsPlan plan → plan.each ≡ true → common < total_of plan → length (later_bases plan) ≤ wide_total plan
few_later plan common is_plan each below =
    let total = total_is plan is_plan each in
    let more : 1 * length (later_bases plan) ≤ total_of plan * length (later_bases plan) = mul-le-mul_right (length (later_bases plan)) (let e : 1 ≤ total_of plan = omega arith in e) in
    omega arith

pub ranks : (plan : Plan) (set : Based) (common later list : ℕ) (group : Group) → plan.each ≡ true → set.0.head.offset ≡ greatest_base set.1 → rank_of plan (with_first plan set.0) ≡ Some common →
    later ≡ length (later_bases plan) → IsGroup plan common group → position (same_bases set.1) (bases_of plan) ≡ Some list → Ranks plan set common later list group
unfolding wide_total
ranks plan set common later list group each greatest at later_is is at_list =
    let start : group.first * later ≡ group.first * length (later_bases plan) = ap (λ (n : ℕ). group.first * n) later_is in
    let rank : wide_rank plan set ≡ Some (group.first * later + (list * group.count + (common - group.first))) =
    ap (position (is_same_based set)) (wide_are plan each)
    ∙ is.ranked set greatest at
    ∙ ap (option_map (λ e. group.first * length (later_bases plan) + (e * group.count + (common - group.first)))) at_list
    ∙ ap (λ (n : ℕ). Some (n + (list * group.count + (common - group.first)))) (sym start) in
    record { rank = rank; below = place_within (is_same_based set) (wide_sets plan) (group.first * later + (list * group.count + (common - group.first))) rank }

-- where there are as many bases as images, the offset is the greatest
pub greatest_is : (plan : Plan) (bases : List ℕ) (offset : ℕ) → IsPlan plan → length bases ≡ length plan.lengths.items → IsTrue (is_offset_of bases offset) → offset ≡ greatest_base bases
greatest_is plan [] offset is_plan long is = let some = is_plan.lengths.some in absurd (omega arith)
greatest_is plan (b ∷ bases) offset is_plan long is = eqb-true offset (greatest_base (b ∷ bases)) (second (length (b ∷ bases) == 0) (offset == greatest_base (b ∷ bases)) is (ne_eqb (length (b ∷ bases)) 0 (λ e. omega arith)))
  where
    second : (a c : Bool) → (a || c) ≡ true → a ≡ false → c ≡ true
    second true c e f = absurd (search rules)
    second false c e f = e
