-- Some head of a plan needs a table where some shape of its heads does.
use Rattle.std.proofs.Common.{ℕ, ◌≡◌, ◌≤◌, Bool, true, false, ◌&&◌, ◌||◌, IsTrue, cond, List, [], ◌∷◌, length, map, filter, refl, sym, ap, ap₂, ◌∙◌, arith, inl, inr, All}
use Rattle.std.specs.List.{flat_map, list_any}
use Rattle.std.proofs.lemmas.Bool.{cases_Bool}
use Rattle.std.proofs.lemmas.List.Elements.{All-head, All-tail, All-weaker}
use Rattle.std.proofs.lemmas.List.Folds.{list_any-append}
use Rattle.raid_params.specs.Validity.{has_delay, has_members, has_pattern, has_syndrome, is_chunk, is_valid_head}
use Rattle.raid_params.specs.declared.types.Head.{Head}
use Rattle.raid_params.specs.declared.types.Level.{Level}
use Rattle.raid_params.specs.declared.types.Pattern.{Pattern}
use Rattle.raid_params.specs.declared.types.Syndrome.{Syndrome}
use Rattle.search_plan.specs.Plans.{IsPlan}
use Rattle.search_plan.specs.declared.plan.Plan.{Plan}
use Rattle.prune_filters.specs.Rows.{needs_table}
use Rattle.head_walk.specs.Counts.{asks_tables, shape_asks}

any_filter : {X : Type 0} (f p : X → Bool) (xs : List X) → list_any f (filter p xs) ≡ list_any (λ x. p x && f x) xs
any_filter f p [] = refl
any_filter f p (x ∷ xs) = elim (cases_Bool (p x)) [
  | inl kept ↦
      ap (λ (b : Bool). list_any f (cond b (x ∷ filter p xs) (filter p xs))) kept
      ∙ ap (λ (b : Bool). f x || b) (any_filter f p xs)
      ∙ sym (ap (λ (b : Bool). (b && f x) || list_any (λ y. p y && f y) xs) kept)
  | inr left ↦
      ap (λ (b : Bool). list_any f (cond b (x ∷ filter p xs) (filter p xs))) left
      ∙ any_filter f p xs
      ∙ sym (ap (λ (b : Bool). (b && f x) || list_any (λ y. p y && f y) xs) left)
]

any_flat : {X Y : Type 0} (f : Y → Bool) (g : X → List Y) (xs : List X) → list_any f (flat_map g xs) ≡ list_any (λ x. list_any f (g x)) xs
any_flat f g [] = refl
any_flat f g (x ∷ xs) = list_any-append f (g x) (flat_map g xs) ∙ ap (λ (b : Bool). list_any f (g x) || b) (any_flat f g xs)

any_map : {X Y : Type 0} (f : Y → Bool) (g : X → Y) (xs : List X) → list_any f (map g xs) ≡ list_any (λ x. f (g x)) xs
any_map f g [] = refl
any_map f g (x ∷ xs) = ap (λ (b : Bool). f (g x) || b) (any_map f g xs)

any_same : {X : Type 0} (f g : X → Bool) (xs : List X) → ((x : X) → f x ≡ g x) → list_any f xs ≡ list_any g xs
any_same f g [] same = refl
any_same f g (x ∷ xs) same = ap₂ (λ (a b : Bool). a || b) (same x) (any_same f g xs same)

or_twice : (b : Bool) → (b || b) ≡ b
or_twice true = refl
or_twice false = refl

or_none : (b : Bool) → (b || false) ≡ b
or_none true = refl
or_none false = refl

-- a test with one answer for each of some
any_one : {X : Type 0} (f : X → Bool) (b : Bool) (xs : List X) → 1 ≤ length xs → All (λ x. f x ≡ b) xs → list_any f xs ≡ b
any_one f b [] some all = absurd (omega arith)
any_one f b (x ∷ []) some all = ap (λ (c : Bool). c || false) (All-head (λ y. f y ≡ b) x [] all) ∙ or_none b
any_one f b (x ∷ y ∷ xs) some all =
    ap₂ (λ (c d : Bool). c || d) (All-head (λ z. f z ≡ b) x (y ∷ xs) all) (any_one f b (y ∷ xs) (omega arith) (All-tail (λ z. f z ≡ b) x (y ∷ xs) all))
    ∙ or_twice b

-- one sector is a chunk
one_chunk : is_chunk 1 ≡ true
unfolding is_chunk
one_chunk = refl

-- a head of this shape, with any chunk and any offset of the plan
each_chunk : (plan : Plan) (level : Level) (members : ℕ) (pattern : Pattern) (delay : ℕ) (syndrome : Syndrome) → IsPlan plan →
    list_any (λ chunk. list_any (λ offset. is_valid_head (record { level = level; members = members; pattern = pattern; delay = delay; syndrome = syndrome; chunk = chunk; offset = offset })
    && needs_table plan (record { level = level; members = members; pattern = pattern; delay = delay; syndrome = syndrome; chunk = chunk; offset = offset })) plan.bounds.offsets.items) plan.bounds.chunks.items ≡ shape_asks plan level members pattern delay syndrome
each_chunk plan level members pattern delay syndrome is_plan =
    any_one (λ chunk. list_any (λ offset. asked chunk) plan.bounds.offsets.items) (asked 1) plan.bounds.chunks.items is_plan.bounds.chunks.some
    (All-weaker (λ (chunk : ℕ). IsTrue (is_chunk chunk)) (λ (chunk : ℕ). list_any (λ offset. asked chunk) plan.bounds.offsets.items ≡ asked 1)
    (λ chunk power. any_one (λ offset. asked chunk) (asked 1) plan.bounds.offsets.items is_plan.bounds.offsets.some (λ k d lt. same chunk power)) plan.bounds.chunks.items is_plan.bounds.powers)
  where
    asked : ℕ → Bool
    asked chunk = is_valid_head (record { level = level; members = members; pattern = pattern; delay = delay; syndrome = syndrome; chunk = chunk; offset = 0 })
        && needs_table plan (record { level = level; members = members; pattern = pattern; delay = delay; syndrome = syndrome; chunk = chunk; offset = 0 })

    one : is_chunk 1 ≡ true
    one = one_chunk

    same : (chunk : ℕ) → is_chunk chunk ≡ true → asked chunk ≡ asked 1
    same chunk power =
        ap (λ (b : Bool). (has_members level members && (has_pattern level pattern && (has_syndrome level syndrome && (b && has_delay pattern delay))))
        && needs_table plan (record { level = level; members = members; pattern = pattern; delay = delay; syndrome = syndrome; chunk = 1; offset = 0 })) (power ∙ sym one)

-- and so over all shapes
pub asks_by_shape : (plan : Plan) → IsPlan plan →
    list_any (λ level. list_any (λ members. list_any (λ pattern. list_any (λ delay. list_any (shape_asks plan level members pattern delay) plan.bounds.syndromes.items) plan.bounds.delays.items) plan.bounds.patterns.items) plan.bounds.members.items) plan.bounds.levels.items
    ≡ asks_tables plan
unfolding asks_tables
asks_by_shape plan is_plan = sym (
    any_filter (needs_table plan) is_valid_head (flat_map (of_level plan) plan.bounds.levels.items)
    ∙ any_flat (asks plan) (of_level plan) plan.bounds.levels.items
    ∙ any_same (λ level. list_any (asks plan) (of_level plan level)) (λ level. list_any (λ members. list_any (λ pattern. list_any (λ delay. list_any (shape_asks plan level members pattern delay) plan.bounds.syndromes.items) plan.bounds.delays.items) plan.bounds.patterns.items) plan.bounds.members.items) plan.bounds.levels.items (λ level.
    any_flat (asks plan) (of_members plan level) plan.bounds.members.items
    ∙ any_same (λ members. list_any (asks plan) (of_members plan level members)) (λ members. list_any (λ pattern. list_any (λ delay. list_any (shape_asks plan level members pattern delay) plan.bounds.syndromes.items) plan.bounds.delays.items) plan.bounds.patterns.items) plan.bounds.members.items (λ members.
    any_flat (asks plan) (of_pattern plan level members) plan.bounds.patterns.items
    ∙ any_same (λ pattern. list_any (asks plan) (of_pattern plan level members pattern)) (λ pattern. list_any (λ delay. list_any (shape_asks plan level members pattern delay) plan.bounds.syndromes.items) plan.bounds.delays.items) plan.bounds.patterns.items (λ pattern.
    any_flat (asks plan) (of_delay plan level members pattern) plan.bounds.delays.items
    ∙ any_same (λ delay. list_any (asks plan) (of_delay plan level members pattern delay)) (λ delay. list_any (shape_asks plan level members pattern delay) plan.bounds.syndromes.items) plan.bounds.delays.items (λ delay.
    any_flat (asks plan) (of_syndrome plan level members pattern delay) plan.bounds.syndromes.items
    ∙ any_same (λ syndrome. list_any (asks plan) (of_syndrome plan level members pattern delay syndrome)) (shape_asks plan level members pattern delay) plan.bounds.syndromes.items (λ syndrome.
    any_flat (asks plan) (of_chunk plan level members pattern delay syndrome) plan.bounds.chunks.items
    ∙ any_same (λ chunk. list_any (asks plan) (of_chunk plan level members pattern delay syndrome chunk))
    (λ chunk. list_any (λ offset. asks plan (record { level = level; members = members; pattern = pattern; delay = delay; syndrome = syndrome; chunk = chunk; offset = offset })) plan.bounds.offsets.items) plan.bounds.chunks.items (λ chunk.
    any_map (asks plan) (λ offset. record { level = level; members = members; pattern = pattern; delay = delay; syndrome = syndrome; chunk = chunk; offset = offset }) plan.bounds.offsets.items)
    ∙ each_chunk plan level members pattern delay syndrome is_plan))))))
  where
    asks : Plan → Head → Bool
    asks plan head = is_valid_head head && needs_table plan head

    of_chunk : Plan → Level → ℕ → Pattern → ℕ → Syndrome → ℕ → List Head
    of_chunk plan level members pattern delay syndrome chunk = map (λ offset. record { level = level; members = members; pattern = pattern; delay = delay; syndrome = syndrome; chunk = chunk; offset = offset }) plan.bounds.offsets.items

    of_syndrome : Plan → Level → ℕ → Pattern → ℕ → Syndrome → List Head
    of_syndrome plan level members pattern delay syndrome = flat_map (of_chunk plan level members pattern delay syndrome) plan.bounds.chunks.items

    of_delay : Plan → Level → ℕ → Pattern → ℕ → List Head
    of_delay plan level members pattern delay = flat_map (of_syndrome plan level members pattern delay) plan.bounds.syndromes.items

    of_pattern : Plan → Level → ℕ → Pattern → List Head
    of_pattern plan level members pattern = flat_map (of_delay plan level members pattern) plan.bounds.delays.items

    of_members : Plan → Level → ℕ → List Head
    of_members plan level members = flat_map (of_pattern plan level members) plan.bounds.patterns.items

    of_level : Plan → Level → List Head
    of_level plan level = flat_map (of_members plan level) plan.bounds.members.items
