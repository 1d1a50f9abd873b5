-- The values of each head are among those of its plan.
use Rattle.std.proofs.Common.{◌≡◌, true, List, [], ◌∷◌, get_or}
use Rattle.std.proofs.lemmas.List.{get_or_default}
use Rattle.std.proofs.lemmas.List.Elements.{recursion_from_All}
use Rattle.std.specs.List.{AllByRecursion, Contains}
use Rattle.raid_params.specs.Validity.{is_valid_head}
use Rattle.raid_params.specs.declared.types.Bounds.{Bounds}
use Rattle.search_terms.specs.Product.{heads}
use Rattle.slot_math.proofs.Listed.{each_flat, each_kept, each_map, each_more}
use Rattle.head_walk.specs.Walk.{IsAmong}

-- each element of a list is among its elements
pub each_among : {X : Type 0} (xs : List X) → AllByRecursion (Contains xs) xs
each_among xs = recursion_from_All (Contains xs) xs (λ k d lt. (k, lt, get_or_default xs k (get_or xs k d) d lt))

-- what holds of everything holds of each element
each_any : {A : Type 0} (P : A → Type 0) → ((x : A) → P x) → (xs : List A) → AllByRecursion P xs
each_any P h [] = tt
each_any P h (x ∷ xs) = (h x, each_any P h xs)

-- the values of each head are among those of the search
pub among_heads : (bounds : Bounds) → AllByRecursion (IsAmong bounds) (heads bounds)
among_heads bounds =
    each_more (λ head. IsAmong bounds head × (is_valid_head head ≡ true)) (IsAmong bounds) (heads bounds) (λ head both. both.0)
    (each_kept (IsAmong bounds) is_valid_head _
    (each_flat (IsAmong bounds) (Contains bounds.levels.items) _ bounds.levels.items (λ level l.
    each_flat (IsAmong bounds) (λ x. Unit {0}) _ bounds.members.items (λ members t.
    each_flat (IsAmong bounds) (λ x. Unit {0}) _ bounds.patterns.items (λ pattern t.
    each_flat (IsAmong bounds) (Contains bounds.delays.items) _ bounds.delays.items (λ delay d.
    each_flat (IsAmong bounds) (λ x. Unit {0}) _ bounds.syndromes.items (λ syndrome t.
    each_flat (IsAmong bounds) (Contains bounds.chunks.items) _ bounds.chunks.items (λ chunk c.
    each_map (IsAmong bounds) (λ offset. record { level = level; members = members; pattern = pattern; delay = delay; syndrome = syndrome; chunk = chunk; offset = offset }) bounds.offsets.items
    (each_more (Contains bounds.offsets.items) (λ offset. IsAmong bounds (record { level = level; members = members; pattern = pattern; delay = delay; syndrome = syndrome; chunk = chunk; offset = offset })) bounds.offsets.items
    (λ offset o. record { level = l; delay = d; chunk = c; offset = o }) (each_among bounds.offsets.items)))
    (each_among bounds.chunks.items))
    (each_any (λ x. Unit {0}) (λ x. tt) bounds.syndromes.items))
    (each_among bounds.delays.items))
    (each_any (λ x. Unit {0}) (λ x. tt) bounds.patterns.items))
    (each_any (λ x. Unit {0}) (λ x. tt) bounds.members.items))
    (each_among bounds.levels.items)))
