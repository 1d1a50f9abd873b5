-- The product tried on bounds whose parameter sets were counted by hand.
use Rattle.std.proofs.Common.{◌≡◌, ℕ, List, [], ◌∷◌, length, map, refl, Option, Some, None}
use Rattle.raid_params.specs.declared.types.Bounds.{Bounds}
use Rattle.raid_params.specs.declared.types.Geometry.{Geometry}
use Rattle.raid_params.specs.declared.types.Level.{Level}
use Rattle.raid_params.specs.declared.types.Level.TheVariants.{Raid0, Raid5}
use Rattle.raid_params.specs.declared.types.Pattern.{Pattern}
use Rattle.raid_params.specs.declared.types.Pattern.TheVariants.{Plain, Ls}
use Rattle.raid_params.specs.declared.types.Syndrome.TheVariants.{NoQ}
use Rattle.search_terms.specs.Product.{product}
use Rattle.raid_params.specs.Validity.{is_chunk}
use Rattle.search_terms.specs.SlotLists.{all_lists}
use Rattle.raid_params.specs.Slots.{stands, is_distinct, empties}

bounds_of : List Level → List ℕ → List Pattern → ℕ → ℕ → Bounds
bounds_of levels members patterns missing foreign = record {
  levels = record { items = levels };
  members = record { items = members };
  patterns = record { items = patterns };
  delays = record { items = 1 ∷ [] };
  syndromes = record { items = NoQ ∷ [] };
  chunks = record { items = 1 ∷ [] };
  offsets = record { items = 0 ∷ [] };
  missing = missing;
  foreign = foreign;
}

-- left-symmetric over three members, one sector a chunk
three : Bounds
three = bounds_of (Raid5 ∷ []) (3 ∷ []) (Ls ∷ []) 0 0

slots_of : Geometry → List (Option ℕ)
slots_of geo = geo.slots.items

-- all six orders of three images
all_orders : map slots_of (product 3 three) ≡
    (Some 0 ∷ Some 1 ∷ Some 2 ∷ []) ∷ (Some 0 ∷ Some 2 ∷ Some 1 ∷ []) ∷ (Some 1 ∷ Some 0 ∷ Some 2 ∷ [])
    ∷ (Some 1 ∷ Some 2 ∷ Some 0 ∷ []) ∷ (Some 2 ∷ Some 0 ∷ Some 1 ∷ []) ∷ (Some 2 ∷ Some 1 ∷ Some 0 ∷ []) ∷ []
unfolding bounds_of three slots_of all_lists stands is_distinct empties is_chunk
all_orders = refl

-- two images of three members, one of them missing
one_missing : map slots_of (product 2 (bounds_of (Raid5 ∷ []) (3 ∷ []) (Ls ∷ []) 1 0)) ≡
    (Some 0 ∷ Some 1 ∷ None ∷ []) ∷ (Some 0 ∷ None ∷ Some 1 ∷ []) ∷ (Some 1 ∷ Some 0 ∷ None ∷ [])
    ∷ (Some 1 ∷ None ∷ Some 0 ∷ []) ∷ (None ∷ Some 0 ∷ Some 1 ∷ []) ∷ (None ∷ Some 1 ∷ Some 0 ∷ []) ∷ []
unfolding bounds_of slots_of all_lists stands is_distinct empties is_chunk
one_missing = refl

-- four images, of which one may be foreign
one_foreign : length (product 4 (bounds_of (Raid5 ∷ []) (3 ∷ []) (Ls ∷ []) 0 1)) ≡ 24
unfolding bounds_of all_lists stands is_distinct empties is_chunk
one_foreign = refl

-- levels 0 and 5 over two or three members
two_levels : length (product 3 (bounds_of (Raid0 ∷ Raid5 ∷ []) (2 ∷ 3 ∷ []) (Plain ∷ Ls ∷ []) 0 1)) ≡ 18
unfolding bounds_of all_lists stands is_distinct empties is_chunk
two_levels = refl
