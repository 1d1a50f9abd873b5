-- Where the rule of a mark lets it lie, counted from the volume sector at which its file system begins.
use Rattle.std.specs.Prelude.{ℕ, ◌+◌, ◌-◌, ◌*◌, ◌^◌, ◌<◌, Bool, ◌==◌, ◌&&◌, nat_le, List, [], ◌∷◌, map}
use Rattle.std.specs.List.{list_any, range_with_len}
use Rattle.landmark_rules.specs.declared.marks.Rule.{Rule}
use Rattle.landmark_rules.specs.declared.marks.Rule.TheVariants.{At, Either, Every}

-- the distances that a rule allows
abbrev pub distances : Rule → List ℕ
distances (At d) = d ∷ []
distances (Either d e) = d ∷ e ∷ []
distances (Every step count plus) = map (λ k. k * step + plus) (range_with_len 0 count)

-- a volume sector lies at one of the rule's distances from the origin
unfoldable pub is_fit : Rule → ℕ → ℕ → Bool
is_fit rule origin v = nat_le origin v && list_any (λ d. d == v - origin) (distances rule)

-- each number of the rule is below 2^55, and so is step * count + plus, which is one step past the last
-- distance of `Every`
abbrev pub IsRule : Rule → Type 0
IsRule (At d) = d < 2 ^ 55
IsRule (Either d e) = (d < 2 ^ 55) × (e < 2 ^ 55)
IsRule (Every step count plus) = (step < 2 ^ 55) × (count < 2 ^ 55) × (plus < 2 ^ 55) × (step * count + plus < 2 ^ 55)
