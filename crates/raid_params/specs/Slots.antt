-- What the slots of an array hold.
use Rattle.std.specs.Prelude.{ℕ, ◌+◌, Bool, true, false, ◌&&◌, ◌||◌, ◌==◌, not, List, [], ◌∷◌}
use Rattle.std.specs.declared.option.Option.{Option}
use Rattle.std.specs.declared.option.Option.TheVariants.{None, Some}

-- the image stands in the list
unfoldable pub stands : ℕ → List (Option ℕ) → Bool
stands i [] = false
stands i (None ∷ slots) = stands i slots
stands i (Some k ∷ slots) = (i == k) || stands i slots

-- no image stands twice
unfoldable pub is_distinct : List (Option ℕ) → Bool
is_distinct [] = true
is_distinct (None ∷ slots) = is_distinct slots
is_distinct (Some i ∷ slots) = not (stands i slots) && is_distinct slots

-- how many places are empty
unfoldable pub empties : List (Option ℕ) → ℕ
empties [] = 0
empties (None ∷ slots) = 1 + empties slots
empties (Some i ∷ slots) = empties slots
