-- What is known of a parameter set of a plan.
use Rattle.std.proofs.Common.{◌≡◌, ℕ, List, [], ◌∷◌, length, map, filter, true, Some}
use Rattle.std.specs.List.{flat_map, AllByRecursion, slice_get}
use Rattle.raid_params.specs.Validity.{is_valid_head}
use Rattle.raid_params.specs.declared.types.Bounds.{Bounds}
use Rattle.raid_params.specs.declared.types.Geometry.{Geometry}
use Rattle.raid_params.specs.declared.types.Head.{Head}
use Rattle.search_terms.specs.Product.{fits, heads, sets_of as sets_of_head}
use Rattle.search_terms.specs.SlotLists.{all_lists}
use Rattle.slot_math.proofs.Listed.{each_flat, each_get, each_kept, each_list, each_map, each_more}
use Rattle.slot_math.specs.Ways.{AllImages}
use Rattle.plan_sets.specs.Sets.{sets_of}
use Rattle.search_plan.specs.declared.plan.Plan.{Plan}

pub record IsSetOf (plan : Plan) (geo : Geometry) : Type 0 where
  pub head : is_valid_head geo.head ≡ true
  pub long : length geo.slots.items ≡ geo.head.members
  pub images : AllImages (length plan.lengths.items) geo.slots.items
  pub fit : fits (length plan.lengths.items) plan.bounds geo.head geo.slots.items ≡ true

each_any : {A : Type 0} (P : A → Type 0) → ((x : A) → P x) → (xs : List A) → AllByRecursion P xs
each_any P h [] = tt
each_any P h (x ∷ xs) = (h x, each_any P h xs)

-- all combinations of the values of the bounds
combined : Bounds → List Head
combined bounds =
    flat_map (λ level. flat_map (λ members. flat_map (λ pattern. flat_map (λ delay. flat_map (λ syndrome. flat_map (λ chunk. map (λ offset.
    record { level = level; members = members; pattern = pattern; delay = delay; syndrome = syndrome; chunk = chunk; offset = offset })
    bounds.offsets.items) bounds.chunks.items) bounds.syndromes.items) bounds.delays.items) bounds.patterns.items) bounds.members.items) bounds.levels.items

-- each head is valid
each_head : (plan : Plan) → AllByRecursion (λ head. Unit {0} × (is_valid_head head ≡ true)) (heads plan.bounds)
unfolding combined
each_head plan = each_kept (λ head. Unit {0}) is_valid_head (combined plan.bounds) (each_any {A = Head} (λ head. Unit {0}) (λ head. tt) (combined plan.bounds))

each_set : (plan : Plan) → AllByRecursion (IsSetOf plan) (sets_of plan)
unfolding sets_of
each_set plan =
    let n = length plan.lengths.items in
    let bounds = plan.bounds in
    each_flat (IsSetOf plan) (λ head. Unit {0} × (is_valid_head head ≡ true)) (sets_of_head n bounds) (heads bounds)
    (λ head known. each_map (IsSetOf plan) (λ slots. record { head = head; slots = record { items = slots } }) (filter (fits n bounds head) (all_lists n head.members))
    (each_more (λ l. ((length l ≡ head.members) × AllImages n l) × (fits n bounds head l ≡ true)) (λ l. IsSetOf plan (record { head = head; slots = record { items = l } })) (filter (fits n bounds head) (all_lists n head.members))
    (λ l s. record { head = known.1; long = s.0.0; images = s.0.1; fit = s.1 })
    (each_kept (λ l. (length l ≡ head.members) × AllImages n l) (fits n bounds head) (all_lists n head.members) (each_list n head.members))))
    (each_head plan)

pub set_at : (plan : Plan) (rank : ℕ) (geo : Geometry) → slice_get (sets_of plan) rank ≡ Some geo → IsSetOf plan geo
set_at plan rank geo e = each_get (IsSetOf plan) (sets_of plan) rank geo (each_set plan) e
