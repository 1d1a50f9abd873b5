-- Pairs of two lists.
use Rattle.std.specs.Prelude.{ℕ, ◌+◌, ◌*◌, List, map}
use Rattle.std.specs.List.{flat_map}
use Rattle.std.specs.declared.option.Option.{Option}
use Rattle.std.specs.declared.option.Option.TheVariants.{None, Some}

-- each element of the first list with each of the second, in nested order
unfoldable pub pairs : {A B : Type 0} → List A → List B → List (A × B)
pairs xs ys = flat_map (λ x. map (λ y. (x, y)) ys) xs

-- the place of a pair among all pairs, by the places of its parts if they have any; the second list has
-- `count` elements
abbrev pub joined : ℕ → Option ℕ → Option ℕ → Option ℕ
joined count None second = None
joined count (Some first) None = None
joined count (Some first) (Some second) = Some (first * count + second)
