-- The heads of a plan in the order of the product, each with its slot lists and its ranks.
use Rattle.std.specs.Prelude.{ℕ, ◌≡◌, ◌+◌, ◌-◌, min, nat_lt, if◌then◌else◌, List, [], ◌∷◌, length, map, slice_get}
use Rattle.std.specs.List.{flat_map}
use Rattle.std.specs.declared.option.Option.TheVariants.{Some}
use Rattle.raid_params.specs.Size.{redundancy}
use Rattle.raid_params.specs.declared.types.Geometry.{Geometry}
use Rattle.raid_params.specs.declared.types.Head.{Head}
use Rattle.raid_params.specs.declared.types.Level.{Level}
use Rattle.search_terms.specs.Product.{heads}
use Rattle.plan_sets.specs.Sets.{sets_of}
use Rattle.search_plan.specs.declared.plan.Plan.{Plan}
use Rattle.slot_math.specs.Space.{lists_of}
use Rattle.slot_math.specs.declared.space.Space.{Space}
use Rattle.set_product.specs.declared.heads.HeadSets.{HeadSets}

-- the slot lists of one level and one number of members. There are none where, with no place empty, more
-- images are in no slot than may be foreign. Else they have at most as many empty places as may be missing,
-- as the level survives, and as leave a place to each image that has to be in a slot
unfoldable pub space_of : Plan → Level → ℕ → Space
space_of plan level members =
    if nat_lt (plan.bounds.foreign + members) (length plan.lengths.items)
    then record { images = length plan.lengths.items; members = members; low = 1; high = 0 }
    else record {
      images = length plan.lengths.items;
      members = members;
      low = 0;
      high = min (min plan.bounds.missing (redundancy level)) (plan.bounds.foreign + members - length plan.lengths.items);
    }

-- these heads with their slot lists, where the first set of the first one has this rank
unfoldable pub numbered : Plan → ℕ → List Head → List HeadSets
numbered plan first [] = []
numbered plan first (head ∷ heads) =
    record { head = head; space = space_of plan head.level head.members; first = first; count = length (lists_of (space_of plan head.level head.members)) }
    ∷ numbered plan (first + length (lists_of (space_of plan head.level head.members))) heads

-- how many sets they have
unfoldable pub count_in : Plan → List Head → ℕ
count_in plan [] = 0
count_in plan (head ∷ heads) = length (lists_of (space_of plan head.level head.members)) + count_in plan heads

-- the heads of a plan in the order of the product, each with its slot lists and its first rank
abbrev pub heads_of : Plan → List HeadSets
heads_of plan = numbered plan 0 (heads plan.bounds)

-- the rank after those of a head
abbrev pub end_of : HeadSets → ℕ
end_of sets = sets.first + length (lists_of sets.space)

-- the sets of a head, in the order of its slot lists
abbrev pub sets_in : HeadSets → List Geometry
sets_in sets = map (λ slots. record { head = sets.head; slots = record { items = slots } }) (lists_of sets.space)

-- the sets of a plan are those of its heads, head by head
abbrev pub HeadsMakeTheProduct : Type 0
HeadsMakeTheProduct = (plan : Plan) → sets_of plan ≡ flat_map sets_in (heads_of plan)

-- the sets of a head stand at the ranks from its first on
abbrev pub HeadsHoldTheirRanks : Type 0
HeadsHoldTheirRanks = (plan : Plan) (place k : ℕ) (sets : HeadSets) (geo : Geometry) →
    slice_get (heads_of plan) place ≡ Some sets → slice_get (sets_in sets) k ≡ Some geo → slice_get (sets_of plan) (sets.first + k) ≡ Some geo
