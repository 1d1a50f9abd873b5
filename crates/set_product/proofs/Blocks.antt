-- The product is its blocks, and a block is the pairs of its heads and its slot lists.
use Rattle.std.proofs.Common.{ℕ, ◌≡◌, ◌≤◌, ◌+◌, ◌^◌, Bool, true, false, ◌&&◌, cond, List, [], ◌∷◌, ◌++◌, length, map, filter, refl, sym, ap, ap₂, ◌∙◌, arith, append_assoc, All, IsTrue, Option}
use Rattle.std.specs.List.{flat_map}
use Rattle.std.proofs.lemmas.List.Elements.{filter-append, All-head, All-tail}
use Rattle.raid_params.specs.declared.limits.TheConstants.{MOST}
use Rattle.raid_params.specs.declared.types.Bounds.{Bounds}
use Rattle.raid_params.specs.declared.types.Geometry.{Geometry}
use Rattle.raid_params.specs.declared.types.Head.{Head}
use Rattle.raid_params.specs.declared.types.Level.{Level}
use Rattle.raid_params.specs.declared.types.Pattern.{Pattern}
use Rattle.raid_params.specs.declared.types.Syndrome.{Syndrome}
use Rattle.raid_params.specs.Validity.{has_delay, has_members, has_pattern, has_syndrome, is_chunk, is_valid_head}
use Rattle.search_terms.specs.Product.{sets_of as sets_of_head}
use Rattle.slot_math.specs.Space.{lists_of}
use Rattle.slot_math.specs.declared.space.Space.{Space}
use Rattle.slot_math.proofs.Bound.{ways_fit}
use Rattle.slot_math.proofs.Kept.{total_is}
use Rattle.slot_math.specs.Ways.{ways}
use Rattle.search_plan.specs.Plans.{IsPlan}
use Rattle.search_plan.specs.declared.plan.Plan.{Plan}
use Rattle.set_product.specs.Blocks.{heads_with, sets_with, suits, IsBlock}
use Rattle.set_product.specs.Pairs.{pairs}
use Rattle.plan_sets.specs.Sets.{sets_of}
use Rattle.set_product.specs.declared.block.Block.{Block}
use Rattle.set_product.proofs.Pairs.{filter_pairs, flat_pairs}

pub flat_same : {A B : Type 0} (f g : A → List B) (xs : List A) → ((x : A) → f x ≡ g x) → flat_map f xs ≡ flat_map g xs
flat_same f g [] e = refl
flat_same {A} {B} f g (x ∷ xs) e = ap₂ (λ (a b : List B). a ++ b) (e x) (flat_same f g xs e)

pub flat_append : {A B : Type 0} (f : A → List B) (xs ys : List A) → flat_map f (xs ++ ys) ≡ flat_map f xs ++ flat_map f ys
flat_append f [] ys = refl
flat_append {A} {B} f (x ∷ xs) ys = ap (λ (l : List B). f x ++ l) (flat_append f xs ys) ∙ sym (append_assoc (f x) (flat_map f xs) (flat_map f ys))

flat_flat : {A B C : Type 0} (h : B → List C) (g : A → List B) (xs : List A) → flat_map h (flat_map g xs) ≡ flat_map (λ x. flat_map h (g x)) xs
flat_flat h g [] = refl
flat_flat {A} {B} {C} h g (x ∷ xs) = flat_append h (g x) (flat_map g xs) ∙ ap (λ (l : List C). flat_map h (g x) ++ l) (flat_flat h g xs)

flat_of_map : {A B C : Type 0} (h : B → List C) (f : A → B) (xs : List A) → flat_map h (map f xs) ≡ flat_map (λ x. h (f x)) xs
flat_of_map h f [] = refl
flat_of_map {A} {B} {C} h f (x ∷ xs) = ap (λ (l : List C). h (f x) ++ l) (flat_of_map h f xs)

pub filter_flat : {A B : Type 0} (p : B → Bool) (g : A → List B) (xs : List A) → filter p (flat_map g xs) ≡ flat_map (λ x. filter p (g x)) xs
filter_flat p g [] = refl
filter_flat {A} {B} p g (x ∷ xs) = filter-append p (g x) (flat_map g xs) ∙ ap (λ (l : List B). filter p (g x) ++ l) (filter_flat p g xs)

filter_of_map : {A B : Type 0} (p : B → Bool) (f : A → B) (xs : List A) → filter p (map f xs) ≡ map f (filter (λ x. p (f x)) xs)
filter_of_map p f [] = refl
filter_of_map {A} {B} p f (x ∷ xs) =
    elim (p (f x)) as (λ t. cond t (f x ∷ filter p (map f xs)) (filter p (map f xs)) ≡ map f (cond t (x ∷ filter (λ y. p (f y)) xs) (filter (λ y. p (f y)) xs))) [
      | true ↦ ap (λ (l : List B). f x ∷ l) (filter_of_map p f xs)
      | false ↦ filter_of_map p f xs
    ]

filter_all : {A : Type 0} (p : A → Bool) (xs : List A) → All (λ x. IsTrue (p x)) xs → filter p xs ≡ xs
filter_all p [] h = refl
filter_all {A} p (x ∷ xs) h =
    ap₂ (λ (b : Bool) (l : List A). cond b (x ∷ l) l) (All-head (λ y. IsTrue (p y)) x xs h) (filter_all p xs (All-tail (λ y. IsTrue (p y)) x xs h))

filter_any : {A : Type 0} (xs : List A) → filter (λ (x : A). true) xs ≡ xs
filter_any [] = refl
filter_any {A} (x ∷ xs) = ap (λ (l : List A). x ∷ l) (filter_any xs)

-- a map over pairs is a nested walk
map_pairs : {A B C : Type 0} (g : A × B → C) (xs : List A) (ys : List B) → map g (pairs xs ys) ≡ flat_map (λ x. map (λ y. g (x, y)) ys) xs
unfolding pairs
map_pairs g [] ys = refl
map_pairs {A} {B} {C} g (x ∷ xs) ys =
    map_append (map (λ y. (x, y)) ys) (pairs xs ys)
    ∙ ap₂ (λ (a b : List C). a ++ b) (map_map ys) (map_pairs g xs ys)
  where
    map_append : (us vs : List (A × B)) → map g (us ++ vs) ≡ map g us ++ map g vs
    map_append [] vs = refl
    map_append (u ∷ us) vs = ap (λ (l : List C). g u ∷ l) (map_append us vs)

    map_map : (zs : List B) → map g (map (λ y. (x, y)) zs) ≡ map (λ y. g (x, y)) zs
    map_map [] = refl
    map_map (z ∷ zs) = ap (λ (l : List C). g (x, z) ∷ l) (map_map zs)

-- what is chosen of a head beside its level and members
abbrev pub Choice : Type 0
Choice = ((Pattern × ℕ) × Syndrome) × (ℕ × ℕ)

abbrev pub head_of : Level → ℕ → Choice → Head
head_of level members c = record { level = level; members = members; pattern = c.0.0.0; delay = c.0.0.1; syndrome = c.0.1; chunk = c.1.0; offset = c.1.1 }

-- all combinations are the pairs of pairs
nested : (bounds : Bounds) (level : Level) (members : ℕ) →
    flat_map (λ pattern. flat_map (λ delay. flat_map (λ syndrome. flat_map (λ chunk. map (λ offset. head_of level members (((pattern, delay), syndrome), (chunk, offset)))
    bounds.offsets.items) bounds.chunks.items) bounds.syndromes.items) bounds.delays.items) bounds.patterns.items
    ≡ map (head_of level members) (pairs (pairs (pairs bounds.patterns.items bounds.delays.items) bounds.syndromes.items) (pairs bounds.chunks.items bounds.offsets.items))
nested bounds level members =
    let rotations = pairs bounds.patterns.items bounds.delays.items in
    let ends = pairs bounds.chunks.items bounds.offsets.items in
    let g : (Pattern × ℕ) × Syndrome → List Head = λ start. map (λ (last : ℕ × ℕ). head_of level members (start, last)) (pairs bounds.chunks.items bounds.offsets.items) in
    let h : Pattern × ℕ → Syndrome → List Head = λ rotation syndrome. flat_map (λ chunk. map (λ offset. head_of level members ((rotation, syndrome), (chunk, offset))) bounds.offsets.items) bounds.chunks.items in
    let of_rotation : Pattern × ℕ → List Head = λ rotation. flat_map (λ syndrome. g (rotation, syndrome)) bounds.syndromes.items in
    flat_same (λ pattern. flat_map (λ delay. flat_map (h (pattern, delay)) bounds.syndromes.items) bounds.delays.items) (λ pattern. flat_map (λ delay. of_rotation (pattern, delay)) bounds.delays.items) bounds.patterns.items
    (λ pattern. flat_same (λ delay. flat_map (h (pattern, delay)) bounds.syndromes.items) (λ delay. of_rotation (pattern, delay)) bounds.delays.items
    (λ delay. flat_same (h (pattern, delay)) (λ syndrome. g ((pattern, delay), syndrome)) bounds.syndromes.items
    (λ syndrome. sym (map_pairs (λ (last : ℕ × ℕ). head_of level members (((pattern, delay), syndrome), last)) bounds.chunks.items bounds.offsets.items))))
    ∙ sym (flat_pairs of_rotation bounds.patterns.items bounds.delays.items)
    ∙ sym (flat_pairs g rotations bounds.syndromes.items)
    ∙ sym (map_pairs (head_of level members) (pairs rotations bounds.syndromes.items) ends)

regroup : (m p s c d : Bool) → (m && (p && (s && (c && d)))) ≡ ((((m && p) && d) && s) && c)
regroup false p s c d = refl
regroup true false s c d = refl
regroup true true false c true = refl
regroup true true false c false = refl
regroup true true true true true = refl
regroup true true true true false = refl
regroup true true true false true = refl
regroup true true true false false = refl

and_true : (b : Bool) → b ≡ (b && true)
and_true true = refl
and_true false = refl

-- the heads that make sense are pairs of those values that suit
pub heads_are : (bounds : Bounds) (level : Level) (members : ℕ) → All (λ chunk. IsTrue (is_chunk chunk)) bounds.chunks.items →
    heads_with bounds level members ≡ map (head_of level members)
    (pairs (pairs (filter (suits level members) (pairs bounds.patterns.items bounds.delays.items)) (filter (has_syndrome level) bounds.syndromes.items)) (pairs bounds.chunks.items bounds.offsets.items))
unfolding heads_with
heads_are bounds level members powers =
    let rotations = pairs bounds.patterns.items bounds.delays.items in
    let starts = pairs rotations bounds.syndromes.items in
    let ends = pairs bounds.chunks.items bounds.offsets.items in
    let f : (Pattern × ℕ) × Syndrome → Bool = λ s. suits level members s.0 && has_syndrome level s.1 in
    let g : ℕ × ℕ → Bool = λ e. is_chunk e.0 in
    ap (filter is_valid_head) (nested bounds level members)
    ∙ filter_of_map is_valid_head (head_of level members) (pairs starts ends)
    ∙ ap (map (head_of level members)) (
    filter_pairs (λ c. is_valid_head (head_of level members c)) f g starts ends
    (λ s e. regroup (has_members level members) (has_pattern level s.0.0) (has_syndrome level s.1) (is_chunk e.0) (has_delay s.0.0 s.0.1))
    ∙ ap₂ pairs
    (filter_pairs f (suits level members) (has_syndrome level) rotations bounds.syndromes.items (λ r s. refl))
    (filter_pairs g is_chunk (λ o. true) bounds.chunks.items bounds.offsets.items (λ c o. and_true (is_chunk c))
    ∙ ap₂ pairs (filter_all is_chunk bounds.chunks.items powers) (filter_any bounds.offsets.items)))

-- the set of a head with these slots
abbrev pub set_of : Head × List (Option ℕ) → Geometry
set_of p = record { head = p.0; slots = record { items = p.1 } }

-- the sets of a block are the pairs of its heads and its slot lists
pub sets_are : (plan : Plan) (block : Block) → IsPlan plan → IsBlock plan block →
    sets_with plan (block.level, block.members) ≡ map set_of (pairs (heads_with plan.bounds block.level block.members) (lists_of block.space))
unfolding sets_with
sets_are plan block is_plan is_block =
    let n = length plan.lengths.items in
    let lists = lists_of block.space in
    let make = head_of block.level block.members in
    let choices = pairs (pairs (filter (suits block.level block.members) (pairs plan.bounds.patterns.items plan.bounds.delays.items)) (filter (has_syndrome block.level) plan.bounds.syndromes.items)) (pairs plan.bounds.chunks.items plan.bounds.offsets.items) in
    let are = heads_are plan.bounds block.level block.members is_plan.bounds.powers in
    ap (flat_map (sets_of_head n plan.bounds)) are
    ∙ flat_of_map (sets_of_head n plan.bounds) make choices
    ∙ flat_same (λ c. sets_of_head n plan.bounds (make c)) (λ c. map (λ slots. set_of (make c, slots)) lists) choices
    (λ c. ap (map (λ slots. set_of (make c, slots))) (sym (is_block.space.lists (make c) refl refl)))
    ∙ sym (flat_of_map (λ head. map (λ slots. set_of (head, slots)) lists) make choices)
    ∙ sym (map_pairs set_of (map make choices) lists)
    ∙ ap (λ (heads : List Head). map set_of (pairs heads lists)) (sym are)

-- the product is its blocks
pub product_is : (plan : Plan) → sets_of plan ≡ flat_map (sets_with plan) (pairs plan.bounds.levels.items plan.bounds.members.items)
unfolding sets_of sets_with heads_with
product_is plan =
    let n = length plan.lengths.items in
    let all : Level × ℕ → List Head = λ shape. flat_map (λ pattern. flat_map (λ delay. flat_map (λ syndrome. flat_map (λ chunk. map (λ offset. head_of shape.0 shape.1 (((pattern, delay), syndrome), (chunk, offset)))
    plan.bounds.offsets.items) plan.bounds.chunks.items) plan.bounds.syndromes.items) plan.bounds.delays.items) plan.bounds.patterns.items in
    let shapes = pairs plan.bounds.levels.items plan.bounds.members.items in
    ap (λ (heads : List Head). flat_map (sets_of_head n plan.bounds) (filter is_valid_head heads)) (sym (flat_pairs all plan.bounds.levels.items plan.bounds.members.items))
    ∙ ap (flat_map (sets_of_head n plan.bounds)) (filter_flat is_valid_head all shapes)
    ∙ flat_flat (sets_of_head n plan.bounds) (λ shape. filter is_valid_head (all shape)) shapes

-- a space has at most (MOST + 1) ^ MOST slot lists
pub few_lists : (space : Space) → space.images ≤ MOST → space.members ≤ MOST → length (lists_of space) ≤ (MOST + 1) ^ MOST
few_lists space images members =
    let fit : ways space.low space.high space.images space.members 0 ≤ (MOST + 1) ^ MOST = ways_fit space.low space.high space.images space.members 0 images members in
    let is : ways space.low space.high space.images space.members 0 ≡ length (lists_of space) = total_is space in
    omega arith
