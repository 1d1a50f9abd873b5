-- The heads of a plan are those that differ in their offset alone, one after another; so are its sets, and those with bases.
use Rattle.std.proofs.Common.{ℕ, ◌≡◌, ◌*◌, Bool, true, false, cond, List, [], ◌∷◌, ◌++◌, length, map, filter, refl, sym, ap, ap₂, ◌∙◌}
use Rattle.std.specs.List.{flat_map}
use Rattle.std.specs.declared.option.Option.{Option}
use Rattle.raid_params.specs.Bases.{greatest_base}
use Rattle.raid_params.specs.Validity.{is_valid_head}
use Rattle.raid_params.specs.declared.types.Bounds.{Bounds}
use Rattle.raid_params.specs.declared.types.Geometry.{Geometry}
use Rattle.raid_params.specs.declared.types.Head.{Head}
use Rattle.search_terms.specs.Product.{fits, heads, sets_of as sets_of_head}
use Rattle.search_terms.specs.SlotLists.{all_lists}
use Rattle.slot_math.proofs.Nested.{length-map}
use Rattle.slot_math.specs.Space.{lists_of}
use Rattle.plan_sets.specs.Sets.{sets_of}
use Rattle.search_plan.specs.declared.plan.Plan.{Plan}
use Rattle.set_product.proofs.Pairs.{length_pairs}
use Rattle.set_product.proofs.Spaces.{lists_fit}
use Rattle.set_product.specs.Heads.{space_of}
use Rattle.set_product.specs.Pairs.{pairs}
use Rattle.wide_product.proofs.Walks.{flat_flat, flat_of_map, flat_same, kept_flat, map_map, map_pairs}
use Rattle.wide_product.specs.Groups.{based_of, bases_of}
use Rattle.wide_product.specs.Sets.{sets_over, starts, Based}

-- a head with each offset
abbrev pub spread : List ℕ → Head → List Head
spread offsets head = map (λ offset. record head { offset = offset }) offsets

-- the slot lists of a head
abbrev pub lists : Plan → Head → List (List (Option ℕ))
lists plan head = lists_of (space_of plan head.level head.members)

abbrev pub common_set : Head → ℕ × List (Option ℕ) → Geometry
common_set head p = record { head = record head { offset = p.0 }; slots = record { items = p.1 } }

abbrev pub based_set : Head → List ℕ × List (Option ℕ) → Based
based_set head p = (record { head = record head { offset = greatest_base p.0 }; slots = record { items = p.1 } }, p.0)

-- the sets of a head with each offset, and with each list of bases
abbrev pub common_in : Plan → Head → List Geometry
common_in plan head = map (common_set head) (pairs plan.bounds.offsets.items (lists plan head))

abbrev pub based_in : Plan → Head → List Based
based_in plan head = map (based_set head) (pairs (bases_of plan) (lists plan head))

pub common_count : (plan : Plan) (head : Head) → length (common_in plan head) ≡ length plan.bounds.offsets.items * length (lists plan head)
common_count plan head = length-map (common_set head) (pairs plan.bounds.offsets.items (lists plan head)) ∙ length_pairs plan.bounds.offsets.items (lists plan head)

pub based_count : (plan : Plan) (head : Head) → length (based_in plan head) ≡ length (bases_of plan) * length (lists plan head)
based_count plan head = length-map (based_set head) (pairs (bases_of plan) (lists plan head)) ∙ length_pairs (bases_of plan) (lists plan head)

-- the heads with each offset make sense where the one does
kept_spread : (head : Head) (offsets : List ℕ) → filter is_valid_head (spread offsets head) ≡ flat_map (spread offsets) (filter is_valid_head (record head { offset = 0 } ∷ []))
kept_spread head offsets =
    each (is_valid_head head) refl offsets
    ∙ whole (is_valid_head head)
  where
    each : (b : Bool) → is_valid_head head ≡ b → (os : List ℕ) → filter is_valid_head (spread os head) ≡ cond b (spread os head) []
    each true e [] = refl
    each false e [] = refl
    each true e (o ∷ os) = ap₂ (λ (b : Bool) (l : List Head). cond b (record head { offset = o } ∷ l) l) e (each true e os)
    each false e (o ∷ os) = ap₂ (λ (b : Bool) (l : List Head). cond b (record head { offset = o } ∷ l) l) e (each false e os)

    whole : (b : Bool) → cond b (spread offsets head) [] ≡ flat_map (spread offsets) (cond b (record head { offset = 0 } ∷ []) [])
    whole true = ends (spread offsets head)
      where
        ends : (l : List Head) → l ≡ l ++ []
        ends [] = refl
        ends (h ∷ l) = ap (λ (m : List Head). h ∷ m) (ends l)
    whole false = refl

pub heads_spread : (bounds : Bounds) → heads bounds ≡ flat_map (spread bounds.offsets.items) (starts bounds)
heads_spread bounds =
    kept_flat is_valid_head (spread bounds.offsets.items) _ _ bounds.levels.items (λ level.
    kept_flat is_valid_head (spread bounds.offsets.items) _ _ bounds.members.items (λ members.
    kept_flat is_valid_head (spread bounds.offsets.items) _ _ bounds.patterns.items (λ pattern.
    kept_flat is_valid_head (spread bounds.offsets.items) _ _ bounds.delays.items (λ delay.
    kept_flat is_valid_head (spread bounds.offsets.items) _ _ bounds.syndromes.items (λ syndrome.
    kept_flat is_valid_head (spread bounds.offsets.items) (λ chunk. spread bounds.offsets.items (record { level = level; members = members; pattern = pattern; delay = delay; syndrome = syndrome; chunk = chunk; offset = 0 })) (λ chunk. record { level = level; members = members; pattern = pattern; delay = delay; syndrome = syndrome; chunk = chunk; offset = 0 } ∷ []) bounds.chunks.items (λ chunk.
    kept_spread (record { level = level; members = members; pattern = pattern; delay = delay; syndrome = syndrome; chunk = chunk; offset = 0 }) bounds.offsets.items))))))

-- the sets of the heads that differ in their offset alone
common_are : (plan : Plan) (head : Head) → flat_map (sets_of_head (length plan.lengths.items) plan.bounds) (spread plan.bounds.offsets.items head) ≡ common_in plan head
common_are plan head =
    let n = length plan.lengths.items in
    flat_of_map (sets_of_head n plan.bounds) (λ (offset : ℕ). record head { offset = offset }) plan.bounds.offsets.items
    ∙ flat_same (λ (offset : ℕ). sets_of_head n plan.bounds (record head { offset = offset })) (λ (offset : ℕ). map (λ (slots : List (Option ℕ)). common_set head (offset, slots)) (lists plan head)) plan.bounds.offsets.items
    (λ offset. ap (map (λ (slots : List (Option ℕ)). common_set head (offset, slots))) (sym (lists_fit plan head)))
    ∙ sym (map_pairs (common_set head) plan.bounds.offsets.items (lists plan head))

based_are : (plan : Plan) (head : Head) → flat_map (sets_over (length plan.lengths.items) plan.bounds head) (bases_of plan) ≡ based_in plan head
based_are plan head =
    let n = length plan.lengths.items in
    flat_same (sets_over n plan.bounds head) (λ (bases : List ℕ). map (λ (slots : List (Option ℕ)). based_set head (bases, slots)) (lists plan head)) (bases_of plan)
    (λ bases. map_map (λ (geo : Geometry). let b : Based = (geo, bases) in b) (λ (slots : List (Option ℕ)). common_set head (greatest_base bases, slots)) (filter (fits n plan.bounds head) (all_lists n head.members))
    ∙ ap (map (λ (slots : List (Option ℕ)). based_set head (bases, slots))) (sym (lists_fit plan head)))
    ∙ sym (map_pairs (based_set head) (bases_of plan) (lists plan head))

pub sets_are : (plan : Plan) → sets_of plan ≡ flat_map (common_in plan) (starts plan.bounds)
unfolding sets_of
sets_are plan =
    let n = length plan.lengths.items in
    ap (flat_map (sets_of_head n plan.bounds)) (heads_spread plan.bounds)
    ∙ flat_flat (sets_of_head n plan.bounds) (spread plan.bounds.offsets.items) (starts plan.bounds)
    ∙ flat_same (λ (head : Head). flat_map (sets_of_head n plan.bounds) (spread plan.bounds.offsets.items head)) (common_in plan) (starts plan.bounds) (common_are plan)

pub product_is : (plan : Plan) → based_of plan ≡ flat_map (based_in plan) (starts plan.bounds)
product_is plan =
    flat_same (λ (head : Head). flat_map (sets_over (length plan.lengths.items) plan.bounds head) (bases_of plan)) (based_in plan) (starts plan.bounds) (based_are plan)
