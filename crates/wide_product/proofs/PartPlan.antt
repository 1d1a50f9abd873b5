-- The plan of a part over padded images: its heads, and where the sets of the part stand.
use Rattle.std.proofs.Common.{rules, ℕ, zero, suc, ◌≡◌, ◌<◌, ◌≤◌, ◌+◌, ◌-◌, ◌*◌, ◌^◌, min, if◌then◌else◌, nat_lt, IsTrue, Bool, true, false, cond, List, [], ◌∷◌, length, filter, refl, sym, ap, ap₂, ◌∙◌, subst, arith, length-append, Option, Some, slice_get, option_map, Contains, All, get_or}
use Rattle.std.proofs.Math.Nat.{mul-le-mul_right, one-mul}
use Rattle.std.proofs.lemmas.List.Elements.{All-contains_itself, All-cons, All-nil, All-weaker, Contains-append_left, Contains-append_right, filter-append, recursion_from_All}
use Rattle.std.proofs.lemmas.Option.{slice_get_read, slice_get_within, slice_get-get_or}
use Rattle.std.specs.List.{flat_map, AllByRecursion}
use Rattle.std.specs.Option.{option_map_or}
use Rattle.image_padding.proofs.Images.{fold_below}
use Rattle.padded_images.proofs.Lengths.{as_many}
use Rattle.padded_images.proofs.Planned.{is_plan as padded_is}
use Rattle.padded_images.specs.Plans.{padded_plan}
use Rattle.raid_params.specs.Bases.{greatest_base}
use Rattle.raid_params.specs.Size.{redundancy}
use Rattle.raid_params.specs.Validity.{is_chunk, is_valid_head}
use Rattle.raid_params.specs.declared.types.Bounds.{Bounds}
use Rattle.raid_params.specs.declared.types.Geometry.{Geometry}
use Rattle.raid_params.specs.declared.types.Head.{Head}
use Rattle.raid_params.specs.declared.types.Level.{Level}
use Rattle.raid_params.specs.declared.types.Pattern.{Pattern}
use Rattle.raid_params.specs.declared.types.Syndrome.{Syndrome}
use Rattle.search_plan.specs.Plans.{AreMovable, AreRising, IsPlan}
use Rattle.plan_sets.specs.Sets.{passes, passes_at, rank_of, sets_of, total_of}
use Rattle.search_plan.specs.declared.plan.Plan.{Plan}
use Rattle.search_terms.specs.Product.{heads}
use Rattle.slot_math.proofs.Listed.{each_flat, each_get, each_kept}
use Rattle.slot_math.proofs.Nested.{get-map}
use Rattle.slot_math.specs.Space.{lists_of}
use Rattle.slot_math.specs.declared.space.Space.{Space}
use Rattle.set_product.proofs.HeadByHead.{heads_hold}
use Rattle.set_product.proofs.Uniqueness.{ranked_sets}
use Rattle.set_product.specs.Heads.{numbered, space_of}
use Rattle.set_product.specs.declared.heads.HeadSets.{HeadSets}
use Rattle.wide_product.proofs.GroupAt.{some_offsets}
use Rattle.wide_product.proofs.PartAt.{fewer}
use Rattle.wide_product.proofs.Spread.{lists, sets_are, common_count, common_in}
use Rattle.wide_product.proofs.Walks.{first_held, flat_append, later_held}
use Rattle.wide_product.specs.PaddedParts.{part_plan, IsPaddedPart}
use Rattle.wide_product.specs.Parts.{IsPartOf}
use Rattle.wide_product.specs.Sets.{padded_bytes, passes_with, starts, wide_passes, wide_passes_at, wide_total, Based}
use Rattle.wide_product.specs.declared.padded_part.PaddedPart.{PaddedPart}
use Rattle.wide_product.specs.declared.parts.Part.{Part}

index_of : {A : Type 0} (xs : List A) (x : A) → Contains xs x → (i : ℕ) × (slice_get xs i ≡ Some x)
index_of xs x held = (held.0, slice_get_read xs (length xs) held.0 x refl held.1 (sym held.2))

-- an element of a part of a walk is one of the walk
held_flat : {A B : Type 0} (f : A → List B) (xs : List A) (x : A) (y : B) (i : ℕ) → slice_get xs i ≡ Some x → Contains (f x) y → Contains (flat_map f xs) y
held_flat f [] x y i e held = absurd (search rules)
held_flat {A} {B} f (z ∷ xs) x y zero e held =
    let same : z ≡ x = search rules in
    Contains-append_left (f z) (flat_map f xs) y (let P : A → Type 0 = λ a. Contains (f a) y in subst P (sym same) held)
held_flat f (z ∷ xs) x y (suc i) e held = Contains-append_right (f z) (flat_map f xs) y (held_flat f xs x y i e held)

-- one that is kept
held_kept : {A : Type 0} (p : A → Bool) (xs : List A) (x : A) (i : ℕ) → slice_get xs i ≡ Some x → p x ≡ true → Contains (filter p xs) x
held_kept p [] x i e holds = absurd (search rules)
held_kept {A} p (z ∷ xs) x zero e holds =
    let same : z ≡ x = search rules in
    let kept : p z ≡ true = ap p same ∙ holds in
    let P : Bool → Type 0 = λ b. Contains (cond b (z ∷ filter p xs) (filter p xs)) x in
    subst P (sym kept) (let Q : A → Type 0 = λ a. Contains (z ∷ filter p xs) a in subst Q same (first_held z (filter p xs)))
held_kept p (z ∷ xs) x (suc i) e holds =
    let rest = held_kept p xs x i e holds in
    elim (p z) as (λ b. Contains (cond b (z ∷ filter p xs) (filter p xs)) x) [
      | true ↦ later_held z x (filter p xs) rest
      | false ↦ rest
    ]

-- the values of a head, but for its offset, are among those of a search
pub record IsMade (bounds : Bounds) (head : Head) : Type 0 where
  pub level : Contains bounds.levels.items head.level
  pub members : Contains bounds.members.items head.members
  pub pattern : Contains bounds.patterns.items head.pattern
  pub delay : Contains bounds.delays.items head.delay
  pub syndrome : Contains bounds.syndromes.items head.syndrome
  pub chunk : Contains bounds.chunks.items head.chunk

each_among : {A : Type 0} (xs : List A) → AllByRecursion (Contains xs) xs
each_among xs = recursion_from_All (Contains xs) xs (All-contains_itself xs)

each_made : (bounds : Bounds) → AllByRecursion (λ head. IsMade bounds head × (is_valid_head head ≡ true)) (starts bounds)
each_made bounds =
    each_kept (IsMade bounds) is_valid_head _
    (each_flat (IsMade bounds) (Contains bounds.levels.items) _ bounds.levels.items (λ level l.
    each_flat (IsMade bounds) (Contains bounds.members.items) _ bounds.members.items (λ members m.
    each_flat (IsMade bounds) (Contains bounds.patterns.items) _ bounds.patterns.items (λ pattern p.
    each_flat (IsMade bounds) (Contains bounds.delays.items) _ bounds.delays.items (λ delay d.
    each_flat (IsMade bounds) (Contains bounds.syndromes.items) _ bounds.syndromes.items (λ syndrome s.
    each_flat (IsMade bounds) (Contains bounds.chunks.items) (λ chunk. record { level = level; members = members; pattern = pattern; delay = delay; syndrome = syndrome; chunk = chunk; offset = 0 } ∷ []) bounds.chunks.items
    (λ chunk c. (record { level = l; members = m; pattern = p; delay = d; syndrome = s; chunk = c }, tt))
    (each_among bounds.chunks.items))
    (each_among bounds.syndromes.items))
    (each_among bounds.delays.items))
    (each_among bounds.patterns.items))
    (each_among bounds.members.items))
    (each_among bounds.levels.items))

pub part_made : (plan : Plan) (part : Part) → IsPartOf plan part → IsMade plan.bounds (record part.head { offset = 0 }) × (is_valid_head part.head ≡ true)
part_made plan part is =
    let at = index_of (starts plan.bounds) (record part.head { offset = 0 }) is.head in
    each_get (λ h. IsMade plan.bounds h × (is_valid_head h ≡ true)) (starts plan.bounds) at.0 (record part.head { offset = 0 }) (each_made plan.bounds) at.1

-- the head of the part is one of its plan's
pub head_held : (plan : Plan) (part : Part) → IsPartOf plan part → Contains (heads (part_plan plan part).bounds) part.head
head_held plan part is =
    let known = part_made plan part is in
    let bounds = plan.bounds in
    let level = index_of plan.bounds.levels.items part.head.level known.0.level in
    let members = index_of plan.bounds.members.items part.head.members known.0.members in
    let pattern = index_of plan.bounds.patterns.items part.head.pattern known.0.pattern in
    let delay = index_of plan.bounds.delays.items part.head.delay known.0.delay in
    let syndrome = index_of plan.bounds.syndromes.items part.head.syndrome known.0.syndrome in
    let one : Level → ℕ → Pattern → ℕ → Syndrome → List Head = λ l m p d s. record { level = l; members = m; pattern = p; delay = d; syndrome = s; chunk = part.head.chunk; offset = part.head.offset } ∷ [] in
    let all = index_of (flat_map (λ l. flat_map (λ m. flat_map (λ p. flat_map (λ d. flat_map (λ s. one l m p d s) plan.bounds.syndromes.items) plan.bounds.delays.items) plan.bounds.patterns.items) plan.bounds.members.items) plan.bounds.levels.items) part.head
    (held_flat (λ l. flat_map (λ m. flat_map (λ p. flat_map (λ d. flat_map (λ s. one l m p d s) plan.bounds.syndromes.items) plan.bounds.delays.items) plan.bounds.patterns.items) plan.bounds.members.items) plan.bounds.levels.items part.head.level part.head level.0 level.1
    (held_flat (λ m. flat_map (λ p. flat_map (λ d. flat_map (λ s. one part.head.level m p d s) plan.bounds.syndromes.items) plan.bounds.delays.items) plan.bounds.patterns.items) plan.bounds.members.items part.head.members part.head members.0 members.1
    (held_flat (λ p. flat_map (λ d. flat_map (λ s. one part.head.level part.head.members p d s) plan.bounds.syndromes.items) plan.bounds.delays.items) plan.bounds.patterns.items part.head.pattern part.head pattern.0 pattern.1
    (held_flat (λ d. flat_map (λ s. one part.head.level part.head.members part.head.pattern d s) plan.bounds.syndromes.items) plan.bounds.delays.items part.head.delay part.head delay.0 delay.1
    (held_flat (λ s. one part.head.level part.head.members part.head.pattern part.head.delay s) plan.bounds.syndromes.items part.head.syndrome part.head syndrome.0 syndrome.1
    (first_held part.head [])))))) in
    held_kept is_valid_head (flat_map (λ l. flat_map (λ m. flat_map (λ p. flat_map (λ d. flat_map (λ s. one l m p d s) plan.bounds.syndromes.items) plan.bounds.delays.items) plan.bounds.patterns.items) plan.bounds.members.items) plan.bounds.levels.items) part.head all.0 all.1 known.1

-- bases are below 2^54, and so is the greatest of them
pub near_bases : (plan : Plan) (part : Part) → IsPlan plan → plan.each ≡ true → IsPartOf plan part → All (λ base. base < 2 ^ 54) part.bases.items
near_bases plan part is_plan each is =
    let movable : AreMovable plan.lengths.items plan.bounds = is_plan.each each in
    All-weaker (Contains plan.bounds.offsets.items) (λ base. base < 2 ^ 54)
    (λ base held. let at = index_of plan.bounds.offsets.items base held in each_get (λ n. n < 2 ^ 54) plan.bounds.offsets.items at.0 base (recursion_from_All (λ n. n < 2 ^ 54) plan.bounds.offsets.items movable.near) at.1)
    part.bases.items is.bases

just_rising : (n : ℕ) → AreRising (n ∷ [])
just_rising n = record { some = omega arith; rising = λ k below. absurd (omega arith) }

pub part_plan_is : (plan : Plan) (part : Part) → IsPlan plan → plan.each ≡ true → IsPartOf plan part → IsPlan (part_plan plan part)
part_plan_is plan part is_plan each is =
    let movable : AreMovable plan.lengths.items plan.bounds = is_plan.each each in
    let near = near_bases plan part is_plan each is in
    let padded = padded_is part.bases.items plan (padded_plan part.bases.items plan) refl is_plan near movable.short in
    let known = part_made plan part is in
    let chunk = index_of plan.bounds.chunks.items part.head.chunk known.0.chunk in
    let small : greatest_base part.bases.items < 2 ^ 54 = fold_below (2 ^ 54) 0 part.bases.items (omega arith) near in
    let offset = is.offset in
    let bounds = is_plan.bounds in
    record {
      lengths = padded.lengths;
      ends = padded.ends;
      bounds = record {
        levels = bounds.levels;
        members = bounds.members;
        few_members = bounds.few_members;
        patterns = bounds.patterns;
        delays = bounds.delays;
        few_delays = bounds.few_delays;
        short_delays = bounds.short_delays;
        syndromes = bounds.syndromes;
        chunks = just_rising part.head.chunk;
        powers = All-cons (λ c. IsTrue (is_chunk c)) part.head.chunk [] (each_get (λ c. IsTrue (is_chunk c)) plan.bounds.chunks.items chunk.0 part.head.chunk (recursion_from_All (λ c. IsTrue (is_chunk c)) plan.bounds.chunks.items bounds.powers) chunk.1) (All-nil (λ c. IsTrue (is_chunk c)));
        offsets = just_rising part.head.offset;
        few_offsets = omega arith;
        near_offsets = All-cons (λ n. n < 2 ^ 55) part.head.offset [] (omega arith) (All-nil (λ n. n < 2 ^ 55));
        missing = bounds.missing;
        foreign = bounds.foreign;
      };
      limits = padded.limits;
      tests = padded.tests;
      groups = padded.groups;
      each = λ own. cc;
    }

-- the slot lists are those of the plan
pub space_same : (plan : Plan) (part : Part) (level : Level) (count : ℕ) → space_of (part_plan plan part) level count ≡ space_of plan level count
unfolding space_of
space_same plan part level count =
    ap (λ (n : ℕ). if nat_lt (plan.bounds.foreign + count) n
    then (let s : Space = record { images = n; members = count; low = 1; high = 0 } in s)
    else (let s : Space = record { images = n; members = count; low = 0; high = min (min plan.bounds.missing (redundancy level)) (plan.bounds.foreign + count - n) } in s))
    (as_many (greatest_base part.bases.items) part.bases.items plan.lengths.items)

-- its sets are no more than the plan's
count_padded : (plan : Plan) (part : Part) (hs : List Head) → length (flat_map (common_in (part_plan plan part)) hs) ≡ length (flat_map (lists plan) hs)
count_padded plan part [] = refl
count_padded plan part (head ∷ hs) =
    length-append (common_in (part_plan plan part) head) (flat_map (common_in (part_plan plan part)) hs)
    ∙ ap₂ (λ (a b : ℕ). a + b) (common_count (part_plan plan part) head ∙ one-mul (length (lists (part_plan plan part) head)) ∙ ap (λ (s : Space). length (lists_of s)) (space_same plan part head.level head.members)) (count_padded plan part hs)
    ∙ sym (length-append (lists plan head) (flat_map (lists plan) hs))

count_more : (plan : Plan) (hs : List Head) → 1 ≤ length plan.bounds.offsets.items → length (flat_map (lists plan) hs) ≤ length (flat_map (common_in plan) hs)
count_more plan [] some = omega arith
count_more plan (head ∷ hs) some =
    let rest = count_more plan hs some in
    let a = length-append (lists plan head) (flat_map (lists plan) hs) in
    let b = length-append (common_in plan head) (flat_map (common_in plan) hs) in
    let count = common_count plan head in
    let more : 1 * length (lists plan head) ≤ length plan.bounds.offsets.items * length (lists plan head) = mul-le-mul_right (length (lists plan head)) some in
    omega arith

-- where each part has no more, all have no more
less_flat : {A B C : Type 0} (w : B → List C) (p : B → Bool) (f g : A → List B) (xs : List A) → ((x : A) → length (flat_map w (filter p (f x))) ≤ length (flat_map w (filter p (g x)))) →
    length (flat_map w (filter p (flat_map f xs))) ≤ length (flat_map w (filter p (flat_map g xs)))
less_flat w p f g [] less = omega arith
less_flat {A} {B} {C} w p f g (x ∷ xs) less =
    let own = less x in
    let rest = less_flat w p f g xs less in
    let a : length (flat_map w (filter p (flat_map f (x ∷ xs)))) ≡ length (flat_map w (filter p (f x))) + length (flat_map w (filter p (flat_map f xs))) =
    ap (λ (l : List B). length (flat_map w l)) (filter-append p (f x) (flat_map f xs)) ∙ ap length (flat_append w (filter p (f x)) (filter p (flat_map f xs))) ∙ length-append (flat_map w (filter p (f x))) (flat_map w (filter p (flat_map f xs))) in
    let b : length (flat_map w (filter p (flat_map g (x ∷ xs)))) ≡ length (flat_map w (filter p (g x))) + length (flat_map w (filter p (flat_map g xs))) =
    ap (λ (l : List B). length (flat_map w l)) (filter-append p (g x) (flat_map g xs)) ∙ ap length (flat_append w (filter p (g x)) (filter p (flat_map g xs))) ∙ length-append (flat_map w (filter p (g x))) (flat_map w (filter p (flat_map g xs))) in
    omega arith

-- one of many
less_one : {A B C : Type 0} (w : B → List C) (p : B → Bool) (make : A → B) (xs : List A) (x : A) (i : ℕ) → slice_get xs i ≡ Some x →
    length (flat_map w (filter p (make x ∷ []))) ≤ length (flat_map w (filter p (flat_map (λ y. make y ∷ []) xs)))
less_one w p make [] x i e = absurd (search rules)
less_one {A} {B} {C} w p make (y ∷ xs) x zero e =
    let same : y ≡ x = search rules in
    let split : length (flat_map w (filter p (flat_map (λ z. make z ∷ []) (y ∷ xs)))) ≡ length (flat_map w (filter p (make y ∷ []))) + length (flat_map w (filter p (flat_map (λ z. make z ∷ []) xs))) =
    ap (λ (l : List B). length (flat_map w l)) (filter-append p (make y ∷ []) (flat_map (λ z. make z ∷ []) xs)) ∙ ap length (flat_append w (filter p (make y ∷ [])) (filter p (flat_map (λ z. make z ∷ []) xs))) ∙ length-append (flat_map w (filter p (make y ∷ []))) (flat_map w (filter p (flat_map (λ z. make z ∷ []) xs))) in
    let own : length (flat_map w (filter p (make y ∷ []))) ≡ length (flat_map w (filter p (make x ∷ []))) = ap (λ (a : A). length (flat_map w (filter p (make a ∷ [])))) same in
    omega arith
less_one {A} {B} {C} w p make (y ∷ xs) x (suc i) e =
    let rest = less_one w p make xs x i e in
    let split : length (flat_map w (filter p (flat_map (λ z. make z ∷ []) (y ∷ xs)))) ≡ length (flat_map w (filter p (make y ∷ []))) + length (flat_map w (filter p (flat_map (λ z. make z ∷ []) xs))) =
    ap (λ (l : List B). length (flat_map w l)) (filter-append p (make y ∷ []) (flat_map (λ z. make z ∷ []) xs)) ∙ ap length (flat_append w (filter p (make y ∷ [])) (filter p (flat_map (λ z. make z ∷ []) xs))) ∙ length-append (flat_map w (filter p (make y ∷ []))) (flat_map w (filter p (flat_map (λ z. make z ∷ []) xs))) in
    omega arith

less_starts : (plan : Plan) (part : Part) → IsPartOf plan part → length (flat_map (lists plan) (starts (part_plan plan part).bounds)) ≤ length (flat_map (lists plan) (starts plan.bounds))
less_starts plan part is =
    let known = part_made plan part is in
    let chunk = index_of plan.bounds.chunks.items part.head.chunk known.0.chunk in
    let bounds = plan.bounds in
    let make : Level → ℕ → Pattern → ℕ → Syndrome → ℕ → Head = λ l m p d s c. record { level = l; members = m; pattern = p; delay = d; syndrome = s; chunk = c; offset = 0 } in
    let few : Level → ℕ → Pattern → ℕ → Syndrome → List Head = λ l m p d s. make l m p d s part.head.chunk ∷ [] in
    let all : Level → ℕ → Pattern → ℕ → Syndrome → List Head = λ l m p d s. flat_map (λ c. make l m p d s c ∷ []) plan.bounds.chunks.items in
    less_flat (lists plan) is_valid_head (λ l. flat_map (λ m. flat_map (λ p. flat_map (λ d. flat_map (λ s. few l m p d s) plan.bounds.syndromes.items) plan.bounds.delays.items) plan.bounds.patterns.items) plan.bounds.members.items) (λ l. flat_map (λ m. flat_map (λ p. flat_map (λ d. flat_map (λ s. all l m p d s) plan.bounds.syndromes.items) plan.bounds.delays.items) plan.bounds.patterns.items) plan.bounds.members.items) bounds.levels.items (λ l.
    less_flat (lists plan) is_valid_head (λ m. flat_map (λ p. flat_map (λ d. flat_map (λ s. few l m p d s) plan.bounds.syndromes.items) plan.bounds.delays.items) plan.bounds.patterns.items) (λ m. flat_map (λ p. flat_map (λ d. flat_map (λ s. all l m p d s) plan.bounds.syndromes.items) plan.bounds.delays.items) plan.bounds.patterns.items) bounds.members.items (λ m.
    less_flat (lists plan) is_valid_head (λ p. flat_map (λ d. flat_map (λ s. few l m p d s) plan.bounds.syndromes.items) plan.bounds.delays.items) (λ p. flat_map (λ d. flat_map (λ s. all l m p d s) plan.bounds.syndromes.items) plan.bounds.delays.items) bounds.patterns.items (λ p.
    less_flat (lists plan) is_valid_head (λ d. flat_map (λ s. few l m p d s) plan.bounds.syndromes.items) (λ d. flat_map (λ s. all l m p d s) plan.bounds.syndromes.items) bounds.delays.items (λ d.
    less_flat (lists plan) is_valid_head (λ s. few l m p d s) (λ s. all l m p d s) bounds.syndromes.items (λ s.
    less_one (lists plan) is_valid_head (make l m p d s) bounds.chunks.items part.head.chunk chunk.0 chunk.1)))))

pub padded_few : (plan : Plan) (part : Part) → IsPlan plan → plan.each ≡ true → IsPartOf plan part → total_of (part_plan plan part) ≤ wide_total plan
unfolding total_of
padded_few plan part is_plan each is =
    let own = ap length (sets_are (part_plan plan part)) in
    let counted = count_padded plan part (starts (part_plan plan part).bounds) in
    let less = less_starts plan part is in
    let more = count_more plan (starts plan.bounds) (some_offsets plan is_plan) in
    let all = ap length (sets_are plan) in
    let most = fewer plan is_plan each in
    omega arith

-- a numbered head
numbered_at : (plan : Plan) (first : ℕ) (hs : List Head) (i : ℕ) (head : Head) → slice_get hs i ≡ Some head →
    (at : ℕ) × (slice_get (numbered plan first hs) i ≡ Some (record { head = head; space = space_of plan head.level head.members; first = at; count = length (lists plan head) }))
unfolding numbered
numbered_at plan first [] i head e = absurd (search rules)
numbered_at plan first (h ∷ hs) zero head e =
    let same : h ≡ head = search rules in
    (first, ap (λ (o : Head). let s : HeadSets = record { head = o; space = space_of plan o.level o.members; first = first; count = length (lists plan o) } in Some s) same)
numbered_at plan first (h ∷ hs) (suc i) head e = numbered_at plan (first + length (lists plan h)) hs i head e

-- where the sets of the part stand in its plan
pub record Stands (plan : Plan) (part : Part) : Type 0 where
  pub first : ℕ
  pub stand : (k : ℕ) (slots : List (Option ℕ)) → slice_get (lists_of part.space) k ≡ Some slots →
      slice_get (sets_of (part_plan plan part)) (first + k) ≡ Some (record { head = part.head; slots = record { items = slots } })

pub stands : (plan : Plan) (part : Part) → IsPartOf plan part → Stands plan part
stands plan part is =
    let padded = part_plan plan part in
    let at = index_of (heads padded.bounds) part.head (head_held plan part is) in
    let own = numbered_at padded 0 (heads padded.bounds) at.0 part.head at.1 in
    let space : part.space ≡ space_of (part_plan plan part) part.head.level part.head.members = is.space ∙ sym (space_same plan part part.head.level part.head.members) in
    record {
      first = own.0;
      stand = λ k slots e.
          heads_hold padded at.0 k (record { head = part.head; space = space_of padded part.head.level part.head.members; first = own.0; count = length (lists padded part.head) }) (record { head = part.head; slots = record { items = slots } })
          own.1
          (get-map (λ (l : List (Option ℕ)). let g : Geometry = record { head = part.head; slots = record { items = l } } in g) (lists padded part.head) k
          ∙ ap (option_map (λ (l : List (Option ℕ)). let g : Geometry = record { head = part.head; slots = record { items = l } } in g)) (sym (ap (λ (s : Space). slice_get (lists_of s) k) space) ∙ e));
    }

-- a set passes there just where it does with its bases
pub passes_same : (plan : Plan) (part : Part) (first : ℕ) (images : List (List ℕ)) (k : ℕ) → IsPlan plan → IsPartOf plan part → k < part.count →
    ((slots : List (Option ℕ)) → slice_get (lists_of part.space) k ≡ Some slots → slice_get (sets_of (part_plan plan part)) (first + k) ≡ Some (record { head = part.head; slots = record { items = slots } })) →
    passes_at (padded_bytes part.bases.items images) (part_plan plan part) (first + k) ≡ wide_passes_at images plan (part.first + k)
unfolding passes_at wide_passes_at
passes_same plan part first images k is_plan is below stand =
    let count = is.count in
    let slots = get_or (lists_of part.space) k [] in
    let at = slice_get-get_or (lists_of part.space) k [] (let e : k < length (lists_of part.space) = omega arith in e) in
    let geo : Geometry = record { head = part.head; slots = record { items = slots } } in
    let padded = part_plan plan part in
    ap (λ (o : Option Geometry). option_map_or (passes (padded_bytes part.bases.items images) padded) o false) (stand slots at)
    ∙ by_bases part.bases.items (let long = is.each in let some = is_plan.lengths.some in let e : 1 ≤ length part.bases.items = omega arith in e) geo
    ∙ sym (ap (λ (o : Option Based). option_map_or (wide_passes images plan) o false) (is.stand k slots at))
  where
    by_bases : (bases : List ℕ) → 1 ≤ length bases → (geo : Geometry) → passes (padded_bytes bases images) (padded_plan bases plan) geo ≡ passes_with images plan geo bases
    by_bases [] some geo = absurd (omega arith)
    by_bases (b ∷ bases) some geo = refl

-- a set that stands at a rank has that rank
rank_at : (plan : Plan) (rank : ℕ) (geo : Geometry) → IsPlan plan → slice_get (sets_of plan) rank ≡ Some geo → rank_of plan geo ≡ Some rank
rank_at plan rank geo is_plan at = ranked_sets plan is_plan rank geo at

-- the first set of the part stands at the first of its ranks
pub found_first : (plan : Plan) (part : Part) (slots : List (Option ℕ)) → IsPlan plan → plan.each ≡ true → (is : IsPartOf plan part) → slice_get (lists_of part.space) 0 ≡ Some slots →
    rank_of (part_plan plan part) (record { head = part.head; slots = record { items = slots } }) ≡ Some (stands plan part is).first
found_first plan part slots is_plan each is at =
    let padded = part_plan plan part in
    let own = stands plan part is in
    let geo : Geometry = record { head = part.head; slots = record { items = slots } } in
    rank_at padded own.first geo (part_plan_is plan part is_plan each is)
    (ap (slice_get (sets_of padded)) (let e : own.first ≡ own.first + 0 = omega arith in e) ∙ own.stand 0 slots at)

-- what is known of a part that was padded
pub padded_part : (plan : Plan) (part : Part) (made : PaddedPart) (slots : List (Option ℕ)) → IsPlan plan → plan.each ≡ true → wide_total plan < 2 ^ 64 → IsPartOf plan part → 0 < part.count →
    made.plan ≡ part_plan plan part → slice_get (lists_of part.space) 0 ≡ Some slots → rank_of made.plan (record { head = part.head; slots = record { items = slots } }) ≡ Some made.first → IsPaddedPart plan part made
unfolding total_of
padded_part plan part made slots is_plan each few is some same at ranked =
    let padded = part_plan plan part in
    let own = stands plan part is in
    let geo : Geometry = record { head = part.head; slots = record { items = slots } } in
    let first : own.first ≡ made.first = some_number own.first made.first (sym (found_first plan part slots is_plan each is at) ∙ ap (λ (p : Plan). rank_of p geo) (sym same) ∙ ranked) in
    let less = padded_few plan part is_plan each is in
    let count = is.count in
    let last = get_or (lists_of part.space) (part.count - 1) [] in
    let end = slice_get-get_or (lists_of part.space) (part.count - 1) [] (let e : part.count - 1 < length (lists_of part.space) = omega arith in e) in
    let inside = slice_get_within (sets_of padded) (own.first + (part.count - 1)) (record { head = part.head; slots = record { items = last } }) (own.stand (part.count - 1) last end) in
    let total = ap (λ (p : Plan). length (sets_of p)) same in
    let stand : (k : ℕ) (l : List (Option ℕ)) → slice_get (lists_of part.space) k ≡ Some l → slice_get (sets_of (part_plan plan part)) (made.first + k) ≡ Some (record { head = part.head; slots = record { items = l } }) =
    (λ k l e. ap (λ (n : ℕ). slice_get (sets_of padded) (n + k)) (sym first) ∙ own.stand k l e) in
    record {
      is = same;
      is_plan = subst IsPlan (sym same) (part_plan_is plan part is_plan each is);
      few = omega arith;
      within = omega arith;
      stand = λ k l e. ap (λ (p : Plan). slice_get (sets_of p) (made.first + k)) same ∙ stand k l e;
      passing = λ images k below. ap (λ (p : Plan). passes_at (padded_bytes part.bases.items images) p (made.first + k)) same ∙ passes_same plan part made.first images k is_plan is below (λ l e. stand k l e);
    }
  where
    some_number : (a b : ℕ) → (let l : Option ℕ = Some a in let r : Option ℕ = Some b in l ≡ r) → a ≡ b
    some_number a b e = search rules
