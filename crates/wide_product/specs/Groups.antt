-- Heads of a plan that differ in their offset alone, and where their sets stand.
use Rattle.std.specs.Prelude.{ℕ, ◌≡◌, ◌+◌, ◌-◌, ◌*◌, ◌≤◌, ◌<◌, List, length, Contains, position, slice_get}
use Rattle.std.specs.Option.{option_map}
use Rattle.std.specs.List.{slice_index}
use Rattle.std.specs.declared.option.Option.{Option}
use Rattle.std.specs.declared.option.Option.TheVariants.{Some}
use Rattle.raid_params.specs.Bases.{greatest_base}
use Rattle.set_product.specs.Heads.{space_of}
use Rattle.slot_math.specs.Space.{lists_of}
use Rattle.plan_sets.specs.Sets.{rank_of}
use Rattle.search_plan.specs.declared.plan.Plan.{Plan}
use Rattle.raid_params.specs.declared.types.Geometry.{Geometry}
use Rattle.wide_product.specs.Bases.{base_lists, same_bases}
use Rattle.wide_product.specs.Sets.{based_product, is_same_based, starts, Based}
use Rattle.wide_product.specs.declared.groups.Group.{Group}

-- the lists of bases of a plan, and those of one image less
abbrev pub bases_of : Plan → List (List ℕ)
bases_of plan = base_lists plan.bounds.offsets.items (length plan.lengths.items)

abbrev pub later_bases : Plan → List (List ℕ)
later_bases plan = base_lists plan.bounds.offsets.items (length plan.lengths.items - 1)

abbrev pub based_of : Plan → List Based
based_of plan = based_product (length plan.lengths.items) plan.bounds

-- the parameters with the first offset of the plan
abbrev pub with_first : Plan → Geometry → Geometry
with_first plan geo = record geo { head = record geo.head { offset = slice_index plan.bounds.offsets.items 0 } }

-- the group in whose sets a rank lies, where images have a common offset. Where they do not, its sets stand in the same order, with
-- a list of bases in the place of an offset
pub record IsGroup (plan : Plan) (rank : ℕ) (group : Group) : Type 0 where
  pub head : Contains (starts plan.bounds) (record group.head { offset = 0 })
  pub space : group.space ≡ space_of plan group.head.level group.head.members
  pub count : group.count ≡ length (lists_of group.space)
  pub low : group.first ≤ rank
  pub high : rank < group.first + length plan.bounds.offsets.items * group.count
  pub stand : (e k : ℕ) (bases : List ℕ) (slots : List (Option ℕ)) → slice_get (bases_of plan) e ≡ Some bases → slice_get (lists_of group.space) k ≡ Some slots →
      slice_get (based_of plan) (group.first * length (later_bases plan) + (e * group.count + k)) ≡ Some (record { head = record group.head { offset = greatest_base bases }; slots = record { items = slots } }, bases)
  pub within : group.first * length (later_bases plan) + length (bases_of plan) * group.count ≤ length (based_of plan)
  pub ranked : (set : Based) → set.0.head.offset ≡ greatest_base set.1 → rank_of plan (with_first plan set.0) ≡ Some rank →
      position (is_same_based set) (based_of plan) ≡ option_map (λ e. group.first * length (later_bases plan) + (e * group.count + (rank - group.first))) (position (same_bases set.1) (bases_of plan))
