-- The parameter sets of a plan whose images may have offsets of their own: which there are, in which order, and which pass.
use Rattle.std.specs.Prelude.{ℕ, Bool, false, ◌&&◌, ◌-◌, ◌*◌, if◌then◌else◌, List, [], ◌∷◌, ◌++◌, length, map, position, replicate, slice_get}
use Rattle.std.specs.List.{flat_map}
use Rattle.std.specs.Option.{option_map_or}
use Rattle.std.specs.declared.option.Option.{Option}
use Rattle.raid_params.specs.Bases.{greatest_base}
use Rattle.raid_params.specs.declared.types.Bounds.{Bounds}
use Rattle.raid_params.specs.declared.types.Geometry.{Geometry}
use Rattle.raid_params.specs.declared.types.Head.{Head}
use Rattle.raid_params.specs.declared.wide.Wide.{Wide}
use Rattle.search_terms.specs.Product.{heads, sets_of as sets_of_head}
use Rattle.padded_images.specs.Plans.{padded_plan}
use Rattle.plan_sets.specs.Sets.{is_same_set, passes, sets_of}
use Rattle.search_plan.specs.declared.plan.Plan.{Plan}
use Rattle.wide_product.specs.Bases.{base_lists, same_bases}

-- parameters with the bases of the images, of which there are none where the images have a common offset
abbrev pub Based : Type 0
Based = Geometry × List ℕ

abbrev pub based : Wide → Based
based set = (set.geo, set.bases.items)

-- what heads that make sense have beside their offset, for which 0 stands here
abbrev pub starts : Bounds → List Head
starts bounds = heads (record bounds { offsets = record { items = 0 ∷ [] } })

-- the sets of a head over images with these bases, of which the greatest is its offset
abbrev pub sets_over : ℕ → Bounds → Head → List ℕ → List Based
sets_over images bounds head bases = map (λ geo. (geo, bases)) (sets_of_head images bounds (record head { offset = greatest_base bases }))

-- the product over images with an offset each: its bases stand in the place of an offset
abbrev pub based_product : ℕ → Bounds → List Based
based_product images bounds = flat_map (λ head. flat_map (sets_over images bounds head) (base_lists bounds.offsets.items images)) (starts bounds)

-- the parameter sets of a plan, in their order: a set's rank is its position here
unfoldable pub wide_sets : Plan → List Based
wide_sets plan = if plan.each then based_product (length plan.lengths.items) plan.bounds else map (λ geo. (geo, [])) (sets_of plan)

-- how many there are
unfoldable pub wide_total : Plan → ℕ
wide_total plan = length (wide_sets plan)

-- two sets are the same: the parameters, and the bases
abbrev pub is_same_based : Based → Based → Bool
is_same_based a b = is_same_set a.0 b.0 && same_bases a.1 b.1

-- the rank of a set: its position among those of the plan, or none
abbrev pub wide_rank : Plan → Based → Option ℕ
wide_rank plan set = position (is_same_based set) (wide_sets plan)

-- the bytes of images, each of which has a base, with zeros before them: 512 for each sector that the base lacks of `greatest`
abbrev pub bytes_to : ℕ → List ℕ → List (List ℕ) → List (List ℕ)
bytes_to greatest [] images = images
bytes_to greatest (base ∷ bases) [] = []
bytes_to greatest (base ∷ bases) (bytes ∷ images) = (replicate (512 * (greatest - base)) 0 ++ bytes) ∷ bytes_to greatest bases images

abbrev pub padded_bytes : List ℕ → List (List ℕ) → List (List ℕ)
padded_bytes bases images = bytes_to (greatest_base bases) bases images

-- parameters with these bases pass, over the bytes of the images: where there are bases, over the padded bytes and for the
-- padded plan
abbrev pub passes_with : List (List ℕ) → Plan → Geometry → List ℕ → Bool
passes_with images plan geo [] = passes images plan geo
passes_with images plan geo (base ∷ bases) = passes (padded_bytes (base ∷ bases) images) (padded_plan (base ∷ bases) plan) geo

-- a set passes
abbrev pub wide_passes : List (List ℕ) → Plan → Based → Bool
wide_passes images plan set = passes_with images plan set.0 set.1

-- the set of a rank passes
unfoldable pub wide_passes_at : List (List ℕ) → Plan → ℕ → Bool
wide_passes_at images plan rank = option_map_or (wide_passes images plan) (slice_get (wide_sets plan) rank) false
