-- The lists of a space, and those that begin with a prefix.
use Rattle.std.specs.Prelude.{ℕ, Bool, true, false, ◌&&◌, ◌==◌, List, [], ◌∷◌, position}
use Rattle.std.specs.declared.option.Option.{Option}
use Rattle.std.specs.declared.option.Option.TheVariants.{None, Some}
use Rattle.search_terms.specs.SlotLists.{slot_lists}
use Rattle.slot_math.specs.declared.space.Space.{Space}

-- the lists of a space, in order
abbrev pub lists_of : Space → List (List (Option ℕ))
lists_of space = slot_lists space.images space.members space.low space.high

-- two places hold the same
unfoldable pub same_place : Option ℕ → Option ℕ → Bool
same_place None None = true
same_place None (Some k) = false
same_place (Some i) None = false
same_place (Some i) (Some k) = k == i

-- the list begins with the prefix
unfoldable pub begins : List (Option ℕ) → List (Option ℕ) → Bool
begins [] slots = true
begins (p ∷ prefix) [] = false
begins (p ∷ prefix) (q ∷ slots) = same_place p q && begins prefix slots

-- two lists hold the same in each place
unfoldable pub same_slots : List (Option ℕ) → List (Option ℕ) → Bool
same_slots [] [] = true
same_slots [] (q ∷ others) = false
same_slots (p ∷ slots) [] = false
same_slots (p ∷ slots) (q ∷ others) = same_place p q && same_slots slots others

-- the rank of a list: its position in the space, or None where the space does not have it
abbrev pub rank_in : Space → List (Option ℕ) → Option ℕ
rank_in space slots = position (same_slots slots) (lists_of space)
