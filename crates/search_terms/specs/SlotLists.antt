-- The slot lists of an array, in their order.
use Rattle.std.specs.Prelude.{ℕ, zero, suc, Bool, nat_le, ◌&&◌, List, [], ◌∷◌, ◌++◌, map, filter}
use Rattle.std.specs.List.{flat_map, range_with_len}
use Rattle.std.specs.declared.option.Option.{Option}
use Rattle.std.specs.declared.option.Option.TheVariants.{None, Some}
use Rattle.raid_params.specs.Slots.{is_distinct, empties}

-- what a place may hold: an image, or nothing, which comes last
abbrev pub fillings : ℕ → List (Option ℕ)
fillings images = map (λ i. Some i) (range_with_len 0 images) ++ None ∷ []

-- all lists of `members` places over the images and the empty place, in lexicographic order
unfoldable pub all_lists : ℕ → ℕ → List (List (Option ℕ))
all_lists images zero = [] ∷ []
all_lists images (suc members) = flat_map (λ p. map (λ l. p ∷ l) (all_lists images members)) (fillings images)

-- no image stands twice, and from low to high places are empty
abbrev pub is_kept : ℕ → ℕ → List (Option ℕ) → Bool
is_kept low high slots = is_distinct slots && (nat_le low (empties slots) && nat_le (empties slots) high)

-- the lists of `members` places over the images, with distinct images and from low to high places empty
abbrev pub slot_lists : ℕ → ℕ → ℕ → ℕ → List (List (Option ℕ))
slot_lists images members low high = filter (is_kept low high) (all_lists images members)
