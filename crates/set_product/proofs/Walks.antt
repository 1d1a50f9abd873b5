-- A walk over the blocks of the product.
use Rattle.std.proofs.Common.{rules, ℕ, zero, suc, ◌≡◌, ◌<◌, ◌≤◌, ◌+◌, ◌-◌, ◌*◌, List, [], ◌∷◌, ◌++◌, length, take, drop, refl, sym, ap, ap₂, ◌∙◌, arith, append_assoc, append-nil, length-append, Option, Some, None, slice_get}
use Rattle.std.specs.List.{flat_map, position}
use Rattle.std.proofs.lemmas.List.{take_all}
use Rattle.std.proofs.lemmas.Nat.{mul-le}
use Rattle.std.proofs.lemmas.Option.{slice_get_within}
use Rattle.raid_params.specs.declared.limits.TheConstants.{MOST_LESS_ONE, MOST_LEVELS}
use Rattle.raid_params.specs.declared.types.Geometry.{Geometry}
use Rattle.raid_params.specs.declared.types.Level.{Level}
use Rattle.slot_math.proofs.Nested.{get_low, get_high}
use Rattle.search_plan.specs.declared.plan.Plan.{Plan}
use Rattle.set_product.specs.Blocks.{sets_with, shapes}
use Rattle.set_product.specs.Pairs.{pairs}
use Rattle.plan_sets.specs.Sets.{is_same_set, rank_of, sets_of, total_of}
use Rattle.set_product.proofs.Blocks.{product_is}
use Rattle.set_product.proofs.Pairs.{length_pairs, or_later, place_within, position_append}

-- the sets of the pairs before this place
unfoldable pub sets_before : Plan → ℕ → List Geometry
sets_before plan at = flat_map (sets_with plan) (take at (shapes plan))

-- the sets of the pairs from this place on
sets_from : Plan → ℕ → List Geometry
sets_from plan at = flat_map (sets_with plan) (drop at (shapes plan))

-- where a count ends
pub at_end : (at end n : ℕ) → at ≤ end → end ≤ at → end ≡ n → at ≡ n
at_end at end n low high is = omega arith

pub few_shapes : (levels members : ℕ) → levels ≤ MOST_LEVELS → members ≤ MOST_LESS_ONE → levels * members ≤ MOST_LEVELS * MOST_LESS_ONE
few_shapes levels members a b = mul-le levels members MOST_LEVELS MOST_LESS_ONE a b

flat_append : {A B : Type 0} (f : A → List B) (xs ys : List A) → flat_map f (xs ++ ys) ≡ flat_map f xs ++ flat_map f ys
flat_append f [] ys = refl
flat_append {A} {B} f (x ∷ xs) ys = ap (λ (l : List B). f x ++ l) (flat_append f xs ys) ∙ sym (append_assoc (f x) (flat_map f xs) (flat_map f ys))

split_at : {A : Type 0} (xs : List A) (at : ℕ) (x : A) → slice_get xs at ≡ Some x → xs ≡ take at xs ++ (x ∷ drop (suc at) xs)
split_at [] at x e = absurd (search rules)
split_at (y ∷ xs) zero x e = let same : y ≡ x = search rules in ap (λ z. z ∷ xs) same
split_at {A} (y ∷ xs) (suc at) x e = ap (λ (l : List A). y ∷ l) (split_at xs at x e)

-- the elements up to one more
pub take_next : {A : Type 0} (xs : List A) (at : ℕ) (x : A) → slice_get xs at ≡ Some x → take (suc at) xs ≡ take at xs ++ x ∷ []
take_next [] at x e = absurd (search rules)
take_next {A} (y ∷ xs) zero x e = let same : y ≡ x = search rules in ap (λ (z : A). z ∷ []) same
take_next {A} (y ∷ xs) (suc at) x e = ap (λ (l : List A). y ∷ l) (take_next xs at x e)

pub none_before : (plan : Plan) → sets_before plan 0 ≡ []
unfolding sets_before
none_before plan = refl

pub before_more : (plan : Plan) (at : ℕ) (shape : Level × ℕ) → slice_get (pairs plan.bounds.levels.items plan.bounds.members.items) at ≡ Some shape →
    sets_before plan (at + 1) ≡ sets_before plan at ++ sets_with plan shape
unfolding sets_before shapes
before_more plan at shape e =
    let f = sets_with plan in
    let all = pairs plan.bounds.levels.items plan.bounds.members.items in
    ap (λ (n : ℕ). flat_map (sets_with plan) (take n (pairs plan.bounds.levels.items plan.bounds.members.items))) (let one : at + 1 ≡ suc at = omega arith in one)
    ∙ ap (flat_map f) (take_next all at shape e)
    ∙ flat_append f (take at all) (shape ∷ [])
    ∙ ap (λ (l : List Geometry). flat_map (sets_with plan) (take at (pairs plan.bounds.levels.items plan.bounds.members.items)) ++ l) (append-nil (sets_with plan shape))

-- all sets: those before this pair, its own, and the later ones
split_sets : (plan : Plan) (at : ℕ) (shape : Level × ℕ) → slice_get (pairs plan.bounds.levels.items plan.bounds.members.items) at ≡ Some shape →
    sets_of plan ≡ sets_before plan at ++ (sets_with plan shape ++ sets_from plan (suc at))
unfolding sets_before shapes sets_from
split_sets plan at shape e =
    let f = sets_with plan in
    let all = pairs plan.bounds.levels.items plan.bounds.members.items in
    product_is plan
    ∙ ap (flat_map f) (split_at all at shape e)
    ∙ flat_append f (take at all) (shape ∷ drop (suc at) all)

pub before_all : (plan : Plan) (at : ℕ) → at ≡ length plan.bounds.levels.items * length plan.bounds.members.items → sets_before plan at ≡ sets_of plan
unfolding sets_before shapes
before_all plan at e =
    let all = pairs plan.bounds.levels.items plan.bounds.members.items in
    let long = length_pairs plan.bounds.levels.items plan.bounds.members.items in
    ap (flat_map (sets_with plan)) (take_all at all (omega arith)) ∙ sym (product_is plan)

-- the sets before a pair and its own are among all
pub within_total : (plan : Plan) (at : ℕ) (shape : Level × ℕ) → slice_get (pairs plan.bounds.levels.items plan.bounds.members.items) at ≡ Some shape →
    length (sets_before plan at) + length (sets_with plan shape) ≤ total_of plan
unfolding total_of
within_total plan at shape e =
    let later = sets_from plan (suc at) in
    let all = ap length (split_sets plan at shape e) in
    let one = length-append (sets_before plan at) (sets_with plan shape ++ later) in
    let two = length-append (sets_with plan shape) later in
    omega arith

pub count_more : (plan : Plan) (at : ℕ) (shape : Level × ℕ) → slice_get (pairs plan.bounds.levels.items plan.bounds.members.items) at ≡ Some shape →
    length (sets_before plan (at + 1)) ≡ length (sets_before plan at) + length (sets_with plan shape)
count_more plan at shape e = ap length (before_more plan at shape e) ∙ length-append (sets_before plan at) (sets_with plan shape)

-- the set of a rank after those before this pair
pub set_there : (plan : Plan) (at : ℕ) (shape : Level × ℕ) (rank rest : ℕ) (geo : Geometry) → slice_get (pairs plan.bounds.levels.items plan.bounds.members.items) at ≡ Some shape →
    rank ≡ length (sets_before plan at) + rest → slice_get (sets_with plan shape) rest ≡ Some geo → slice_get (sets_of plan) rank ≡ Some geo
set_there plan at shape rank rest geo e is found =
    let front = sets_before plan at in
    let own = sets_with plan shape in
    let later = sets_from plan (suc at) in
    let below = slice_get_within own rest geo found in
    ap (λ (sets : List Geometry). slice_get sets rank) (split_sets plan at shape e)
    ∙ get_high front (own ++ later) rank (omega arith)
    ∙ ap (slice_get (own ++ later)) (let d : rank - length (sets_before plan at) ≡ rest = omega arith in d)
    ∙ get_low own later rest below
    ∙ found

-- the rank of a set that stands at this pair, and not before
pub rank_there : (plan : Plan) (geo : Geometry) (at : ℕ) (shape : Level × ℕ) (rank : ℕ) → slice_get (pairs plan.bounds.levels.items plan.bounds.members.items) at ≡ Some shape →
    position (is_same_set geo) (sets_before plan at) ≡ None → position (is_same_set geo) (sets_with plan shape) ≡ Some rank →
    rank_of plan geo ≡ Some (length (sets_before plan at) + rank)
rank_there plan geo at shape rank e none found =
    let test = is_same_set geo in
    let front = sets_before plan at in
    let own = sets_with plan shape in
    let later = sets_from plan (suc at) in
    ap (position test) (split_sets plan at shape e)
    ∙ position_append test front (own ++ later)
    ∙ ap₂ (λ (o q : Option ℕ). or_later o (length (sets_before plan at)) q) none
    (position_append test own later ∙ ap (λ (o : Option ℕ). or_later o (length (sets_with plan shape)) (position (is_same_set geo) (sets_from plan (suc at)))) found)

-- a set that stands neither before nor at this pair
pub not_there : (plan : Plan) (geo : Geometry) (at : ℕ) (shape : Level × ℕ) → slice_get (pairs plan.bounds.levels.items plan.bounds.members.items) at ≡ Some shape →
    position (is_same_set geo) (sets_before plan at) ≡ None → position (is_same_set geo) (sets_with plan shape) ≡ None →
    position (is_same_set geo) (sets_before plan (at + 1)) ≡ None
not_there plan geo at shape e none other =
    let test = is_same_set geo in
    let front = sets_before plan at in
    let own = sets_with plan shape in
    ap (position test) (before_more plan at shape e)
    ∙ position_append test front own
    ∙ ap₂ (λ (o q : Option ℕ). or_later o (length (sets_before plan at)) q) none other

-- a rank is below the total
pub rank_fits : (plan : Plan) (geo : Geometry) (rank : ℕ) → rank_of plan geo ≡ Some rank → rank < total_of plan
unfolding total_of
rank_fits plan geo rank e = place_within (is_same_set geo) (sets_of plan) rank e
