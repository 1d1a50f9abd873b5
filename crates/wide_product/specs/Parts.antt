-- Parts of a product: the sets of one head over images with one list of bases.
use Rattle.std.specs.Prelude.{ℕ, ◌≡◌, ◌+◌, ◌≤◌, List, length, map, All, Contains, slice_get}
use Rattle.std.specs.List.{flat_map}
use Rattle.std.specs.declared.option.Option.{Option}
use Rattle.std.specs.declared.option.Option.TheVariants.{Some}
use Rattle.raid_params.specs.Bases.{greatest_base}
use Rattle.set_product.specs.Heads.{space_of}
use Rattle.slot_math.specs.Space.{lists_of}
use Rattle.search_plan.specs.declared.plan.Plan.{Plan}
use Rattle.wide_product.specs.Bases.{base_lists}
use Rattle.wide_product.specs.Sets.{sets_over, starts, wide_sets, wide_total, Based}
use Rattle.wide_product.specs.declared.parts.Part.{Part}

-- the sets of a plan whose images have an offset each, in parts: those of each head over images with each list of bases, in order
abbrev pub parts_of : Plan → List (List Based)
parts_of plan = flat_map (λ head. map (sets_over (length plan.lengths.items) plan.bounds head) (base_lists plan.bounds.offsets.items (length plan.lengths.items))) (starts plan.bounds)

-- a part of the plan's product: the sets of its slot lists stand at the ranks from its first on
pub record IsPartOf (plan : Plan) (part : Part) : Type 0 where
  pub head : Contains (starts plan.bounds) (record part.head { offset = 0 })
  pub offset : part.head.offset ≡ greatest_base part.bases.items
  pub each : length part.bases.items ≡ length plan.lengths.items
  pub bases : All (Contains plan.bounds.offsets.items) part.bases.items
  pub space : part.space ≡ space_of plan part.head.level part.head.members
  pub count : part.count ≡ length (lists_of part.space)
  pub stand : (k : ℕ) (slots : List (Option ℕ)) → slice_get (lists_of part.space) k ≡ Some slots →
      slice_get (wide_sets plan) (part.first + k) ≡ Some (record { head = part.head; slots = record { items = slots } }, part.bases.items)
  pub within : part.first + part.count ≤ wide_total plan
