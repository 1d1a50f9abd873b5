-- Where a set passes, each prefix of its slots is hopeful.
use Rattle.std.proofs.Common.{ℕ, ◌≡◌, ◌-◌, ◌&&◌, Bool, true, false, nat_le, min, List, [], ◌∷◌, length, map, filter, take, sym, ap, ◌∙◌, refl, subst, Some, slice_get}
use Rattle.std.proofs.lemmas.Bool.{and_parts}
use Rattle.std.specs.List.{flat_map, AllByRecursion}
use Rattle.landmark_rules.specs.Groups.{groups_hold}
use Rattle.mark_tables.proofs.Landmarks.{AreSlots, groups_at, whole_groups}
use Rattle.mark_tables.proofs.Passing.{true_and}
use Rattle.mark_tables.specs.Marks.{groups_may_hold}
use Rattle.padded_images.proofs.Lengths.{as_many}
use Rattle.padded_images.specs.Plans.{padded_plan}
use Rattle.prune_filters.specs.Hopeful.{is_hopeful}
use Rattle.raid_params.specs.Bases.{greatest_base}
use Rattle.raid_params.specs.Size.{redundancy, rows}
use Rattle.raid_params.specs.Slots.{empties, is_distinct}
use Rattle.raid_params.specs.Validity.{is_valid_head}
use Rattle.raid_params.specs.declared.types.Bounds.{Bounds}
use Rattle.raid_params.specs.declared.types.Geometry.{Geometry}
use Rattle.raid_params.specs.declared.types.Head.{Head}
use Rattle.raid_terms.specs.Parity.{passes_parity}
use Rattle.plan_sets.specs.Sets.{passes, sets_of}
use Rattle.search_plan.specs.declared.plan.Plan.{Plan}
use Rattle.search_terms.specs.Product.{fits, sets_of as sets_of_head}
use Rattle.search_terms.specs.SlotLists.{all_lists}
use Rattle.set_product.proofs.Ranked.{each_of}
use Rattle.slot_math.proofs.Listed.{each_flat, each_get, each_kept, each_list, each_map, each_more}
use Rattle.slot_math.specs.Ways.{AllImages}
use Rattle.page_engine.specs.Laws.{is_hopeful_with, PassingSetsAreHopeful, WholeListsTakeTheLandmarkTest}
use Rattle.wide_product.proofs.PartAt.{wide_are}
use Rattle.wide_product.proofs.Products.{common_are}
use Rattle.wide_product.specs.Groups.{based_of, bases_of}
use Rattle.wide_product.specs.Sets.{padded_bytes, passes_with, sets_over, starts, wide_sets, Based}
use Rattle.xor_tables.proofs.Broken.{rows_at}
use Rattle.xor_tables.proofs.Sets.{set_at, IsSetOf}
use Rattle.xor_tables.specs.Rows.{rows_may_hold}

-- the set is one that the padded plan allows
abbrev IsAllowed : Plan → Based → Type 0
IsAllowed plan set = IsSetOf (padded_plan set.1 plan) set.0

each_any : {A : Type 0} (P : A → Type 0) → ((x : A) → P x) → (xs : List A) → AllByRecursion P xs
each_any P h [] = tt
each_any P h (x ∷ xs) = (h x, each_any P h xs)

-- a set of the plan with a list of bases
allowed_with : (plan : Plan) (geo : Geometry) (bases : List ℕ) → IsSetOf plan geo → IsSetOf (padded_plan bases plan) geo
allowed_with plan geo bases set =
    let same : length plan.lengths.items ≡ length (padded_plan bases plan).lengths.items = sym (as_many (greatest_base bases) bases plan.lengths.items) in
    let P : ℕ → Type 0 = λ n. AllImages n geo.slots.items in
    let Q : ℕ → Type 0 = λ n. fits n plan.bounds geo.head geo.slots.items ≡ true in
    record { head = set.head; long = set.long; images = subst P same set.images; fit = subst Q same set.fit }

-- the sets of a start with a list of bases
allowed_over : (plan : Plan) (head : Head) (bases : List ℕ) → is_valid_head head ≡ true → AllByRecursion (IsAllowed plan) (sets_over (length plan.lengths.items) plan.bounds head bases)
allowed_over plan head bases valid =
    let n = length plan.lengths.items in
    let own : Head = record head { offset = greatest_base bases } in
    let P : Geometry → Type 0 = λ geo. IsSetOf (padded_plan bases plan) geo in
    each_map (IsAllowed plan) (λ geo. (geo, bases)) (sets_of_head n plan.bounds own)
    (each_map P (λ slots. record { head = record head { offset = greatest_base bases }; slots = record { items = slots } }) (filter (fits n plan.bounds own) (all_lists n head.members))
    (each_more (λ l. ((length l ≡ head.members) × AllImages n l) × (fits n plan.bounds own l ≡ true)) (λ l. IsSetOf (padded_plan bases plan) (record { head = record head { offset = greatest_base bases }; slots = record { items = l } })) (filter (fits n plan.bounds own) (all_lists n head.members))
    (λ l s. allowed_with plan (record { head = record head { offset = greatest_base bases }; slots = record { items = l } }) bases (record { head = valid; long = s.0.0; images = s.0.1; fit = s.1 }))
    (each_kept (λ l. (length l ≡ head.members) × AllImages n l) (fits n plan.bounds own) (all_lists n head.members) (each_list n head.members))))

-- all combinations of the values of the bounds, beside their offsets
combined : Bounds → List Head
combined bounds =
    flat_map (λ level. flat_map (λ members. flat_map (λ pattern. flat_map (λ delay. flat_map (λ syndrome. flat_map (λ chunk. map (λ offset.
    record { level = level; members = members; pattern = pattern; delay = delay; syndrome = syndrome; chunk = chunk; offset = offset })
    (0 ∷ [])) bounds.chunks.items) bounds.syndromes.items) bounds.delays.items) bounds.patterns.items) bounds.members.items) bounds.levels.items

each_based : (plan : Plan) → AllByRecursion (IsAllowed plan) (based_of plan)
unfolding combined
each_based plan =
    each_flat (IsAllowed plan) (λ head. Unit {0} × (is_valid_head head ≡ true)) (λ head. flat_map (sets_over (length plan.lengths.items) plan.bounds head) (bases_of plan)) (starts plan.bounds)
    (λ head known. each_flat (IsAllowed plan) (λ bases. Unit {0}) (sets_over (length plan.lengths.items) plan.bounds head) (bases_of plan) (λ bases t. allowed_over plan head bases known.1) (each_any (λ bases. Unit {0}) (λ bases. tt) (bases_of plan)))
    (each_kept (λ head. Unit {0}) is_valid_head (combined plan.bounds) (each_any {A = Head} (λ head. Unit {0}) (λ head. tt) (combined plan.bounds)))

each_common : (plan : Plan) → AllByRecursion (IsAllowed plan) (map (λ geo. (geo, [])) (sets_of plan))
each_common plan =
    each_map (IsAllowed plan) (λ geo. (geo, [])) (sets_of plan)
    (each_of (λ geo. IsSetOf (padded_plan [] plan) geo) (sets_of plan) (λ k geo at. allowed_with plan geo [] (set_at plan k geo at)))

allowed_at : (plan : Plan) (rank : ℕ) (set : Based) → slice_get (wide_sets plan) rank ≡ Some set → IsAllowed plan set
allowed_at plan rank set at = by_kind plan.each refl
  where
    by_kind : (b : Bool) → plan.each ≡ b → IsAllowed plan set
    by_kind true each = each_get (IsAllowed plan) (based_of plan) rank set (each_based plan) (sym (ap (λ (l : List Based). slice_get l rank) (wide_are plan each)) ∙ at)
    by_kind false each = each_get (IsAllowed plan) (map (λ geo. (geo, [])) (sets_of plan)) rank set (each_common plan) (sym (ap (λ (l : List Based). slice_get l rank) (common_are plan each)) ∙ at)

slots_of : (plan : Plan) (geo : Geometry) → IsSetOf plan geo → AreSlots plan geo
slots_of plan geo set = record {
  long = set.long;
  images = set.images;
  apart = (and_parts (is_distinct geo.slots.items)
      (nat_le (empties geo.slots.items) (min plan.bounds.missing (redundancy geo.head.level)) && nat_le (length plan.lengths.items - (geo.head.members - empties geo.slots.items)) plan.bounds.foreign) set.fit).0;
}

-- a set that a plan allows and that passes
hopeful_set : (images : List (List ℕ)) (plan : Plan) (geo : Geometry) (count : ℕ) → IsSetOf plan geo → passes images plan geo ≡ true → is_hopeful images plan geo.head (take count geo.slots.items) ≡ true
hopeful_set images plan geo count set passing =
    let parts = and_parts (nat_le 1 (rows geo.head plan.end))
    (passes_parity images geo plan.end plan.limits.window plan.limits.badrows && groups_hold geo plan.end plan.tests plan.groups) passing in
    let tests = and_parts (passes_parity images geo plan.end plan.limits.window plan.limits.badrows) (groups_hold geo plan.end plan.tests plan.groups) parts.1 in
    true_and (nat_le 1 (rows geo.head plan.end)) (groups_may_hold plan geo.head (take count geo.slots.items) && rows_may_hold images plan geo.head (take count geo.slots.items)) parts.0
    (true_and (groups_may_hold plan geo.head (take count geo.slots.items)) (rows_may_hold images plan geo.head (take count geo.slots.items))
    (groups_at plan geo count (slots_of plan geo set) tests.1)
    (rows_at images plan geo count set tests.0))

pub hopeful : PassingSetsAreHopeful
hopeful images plan rank set count at passing = by_bases set.0 set.1 (allowed_at plan rank set at) passing
  where
    by_bases : (geo : Geometry) (bases : List ℕ) → IsSetOf (padded_plan bases plan) geo → passes_with images plan geo bases ≡ true → is_hopeful_with images plan geo.head bases (take count geo.slots.items) ≡ true
    by_bases geo [] allowed pass = hopeful_set images plan geo count (record { head = allowed.head; long = allowed.long; images = allowed.images; fit = allowed.fit }) pass
    by_bases geo (b ∷ bases) allowed pass = hopeful_set (padded_bytes (b ∷ bases) images) (padded_plan (b ∷ bases) plan) geo count allowed pass

pub whole : WholeListsTakeTheLandmarkTest
whole plan rank set at = whole_groups (padded_plan set.1 plan) set.0 (slots_of (padded_plan set.1 plan) set.0 (allowed_at plan rank set at))
