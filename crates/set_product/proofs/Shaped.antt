-- Each set of a plan has a sensible shape over as many images as the plan has.
use Rattle.std.proofs.Common.{rules, ℕ, zero, suc, ◌≡◌, ◌<◌, ◌≤◌, ◌^◌, Bool, true, false, ◌&&◌, ◌||◌, ◌==◌, not, nat_eq, nat_le, if◌then◌else◌, cond, List, [], ◌∷◌, length, filter, take, refl, sym, ap, ap₂, ◌∙◌, arith, min, ◌-◌, Option, Some, None, slice_get, slice_index_or}
use Rattle.std.specs.List.{find, range_with_len, AllByRecursion}
use Rattle.std.specs.Option.{is_none, option_map_or, option_and_then}
use Rattle.std.proofs.lemmas.Bool.{and_from, and_parts, eq-eqb, le-leb, lt-leb, leb-true, not-true}
use Rattle.std.proofs.lemmas.List.Elements.{recursion_from_All}
use Rattle.raid_params.specs.declared.types.GeoFault.{GeoFault}
use Rattle.raid_params.specs.declared.types.GeoFault.TheVariants.{Members, Pattern as BadPattern, Syndrome as BadSyndrome, Chunk, Missing}
use Rattle.raid_params.specs.declared.types.Geometry.{Geometry}
use Rattle.raid_params.specs.declared.types.Head.{Head}
use Rattle.raid_params.specs.declared.types.Level.{Level}
use Rattle.raid_params.specs.Size.{redundancy}
use Rattle.raid_params.specs.Slots.{empties, is_distinct, stands}
use Rattle.raid_params.specs.Validity.{first_absent, first_repeat, has_delay, has_members, has_pattern, has_syndrome, is_absent, is_chunk, is_met_again, is_shaped, is_valid_head, shape_fault, slots_fault}
use Rattle.search_terms.specs.Product.{fits, heads, sets_of as sets_of_head}
use Rattle.search_terms.specs.SlotLists.{all_lists}
use Rattle.slot_math.proofs.Kept.{turned}
use Rattle.slot_math.proofs.Listed.{each_flat, each_get, each_kept, each_list, each_map, each_more}
use Rattle.slot_math.specs.Ways.{AllImages}
use Rattle.search_plan.specs.Plans.{IsPlan}
use Rattle.search_plan.specs.declared.plan.Plan.{Plan}
use Rattle.plan_sets.specs.Sets.{sets_of}

find_none : {A : Type 0} (p : A → Bool) (xs : List A) → ((x : A) → p x ≡ false) → find p xs ≡ None
find_none p [] h = refl
find_none p (x ∷ xs) h = ap₂ (λ b o. cond b (Some x) o) (h x) (find_none p xs h)

-- no slot names an absent image
never_absent : (images : ℕ) (slots : List (Option ℕ)) (at : ℕ) → AllImages images slots → is_absent images slots at ≡ false
never_absent images [] at all = refl
never_absent images (None ∷ slots) zero all = refl
never_absent images (Some i ∷ slots) zero all = lt-leb images i all.0
never_absent images (None ∷ slots) (suc at) all = never_absent images slots at all
never_absent images (Some i ∷ slots) (suc at) all = never_absent images slots at all.1

none_absent : (images : ℕ) (slots : List (Option ℕ)) → AllImages images slots → first_absent images slots ≡ None
none_absent images slots all =
    ap (option_and_then (λ at. slice_index_or slots at None)) (find_none (is_absent images slots) (range_with_len 0 (length slots)) (λ at. never_absent images slots at all))

or_none : (a b : Bool) → (a || b) ≡ false → (a ≡ false) × (b ≡ false)
or_none true b e = absurd (search rules)
or_none false b e = (refl, e)

-- what stands in a list without this image is another
other_than : (k : ℕ) (slots : List (Option ℕ)) (at i : ℕ) → stands k slots ≡ false → slice_index_or slots at None ≡ Some i → (i == k) ≡ false
unfolding stands
other_than k [] at i none e = absurd (search rules)
other_than k (None ∷ slots) zero i none e = absurd (search rules)
other_than k (Some j ∷ slots) zero i none e =
    let same : j ≡ i = search rules in
    turned i k ∙ ap (λ (n : ℕ). k == n) (sym same) ∙ (or_none (k == j) (stands k slots) none).0
other_than k (None ∷ slots) (suc at) i none e = other_than k slots at i none e
other_than k (Some j ∷ slots) (suc at) i none e = other_than k slots at i (or_none (k == j) (stands k slots) none).1 e

-- no image is met again
never_again : (slots : List (Option ℕ)) (at : ℕ) → is_distinct slots ≡ true → is_met_again slots at ≡ false
unfolding stands is_distinct
never_again [] at e = refl
never_again (None ∷ slots) zero e = refl
never_again (Some k ∷ slots) zero e = refl
never_again (None ∷ slots) (suc at) e = never_again slots at e
never_again (Some k ∷ slots) (suc at) e =
    let parts = and_parts (not (stands k slots)) (is_distinct slots) e in
    later (slice_index_or slots at None) refl (not-true (stands k slots) parts.0) (never_again slots at parts.1)
  where
    later : (o : Option ℕ) → slice_index_or slots at None ≡ o → stands k slots ≡ false → is_met_again slots at ≡ false →
        option_map_or (λ i. (i == k) || stands i (take at slots)) (slice_index_or slots at None) false ≡ false
    later None is none again = ap (λ (o : Option ℕ). option_map_or (λ (i : ℕ). (i == k) || stands i (take at slots)) o false) is
    later (Some i) is none again =
        ap (λ (o : Option ℕ). option_map_or (λ (j : ℕ). (j == k) || stands j (take at slots)) o false) is
        ∙ ap₂ (λ (a b : Bool). a || b) (other_than k slots at i none is) (sym (ap (λ (o : Option ℕ). option_map_or (λ (j : ℕ). stands j (take at slots)) o false) is) ∙ again)

none_repeated : (slots : List (Option ℕ)) → is_distinct slots ≡ true → first_repeat slots ≡ None
none_repeated slots e =
    ap (option_and_then (λ at. slice_index_or slots at None)) (find_none (is_met_again slots) (range_with_len 0 (length slots)) (λ at. never_again slots at e))

-- what is known of a set of a plan
pub record IsSet (plan : Plan) (geo : Geometry) : Type 0 where
  pub head : is_valid_head geo.head ≡ true
  pub offset : geo.head.offset < 2 ^ 55
  pub long : length geo.slots.items ≡ geo.head.members
  pub images : AllImages (length plan.lengths.items) geo.slots.items
  pub fit : fits (length plan.lengths.items) plan.bounds geo.head geo.slots.items ≡ true

each_any : {A : Type 0} (P : A → Type 0) → ((x : A) → P x) → (xs : List A) → AllByRecursion P xs
each_any P h [] = tt
each_any P h (x ∷ xs) = (h x, each_any P h xs)

Near : Head → Type 0
Near head = head.offset < 2 ^ 55

-- each head has an offset of the plan
each_head : (plan : Plan) → IsPlan plan → AllByRecursion (λ head. Near head × (is_valid_head head ≡ true)) (heads plan.bounds)
unfolding Near
each_head plan is_plan =
    let bounds = plan.bounds in
    let P : Head → Type 0 = λ head. head.offset < 2 ^ 55 in
    let near : AllByRecursion (λ n. n < 2 ^ 55) plan.bounds.offsets.items = recursion_from_All (λ n. n < 2 ^ 55) bounds.offsets.items is_plan.bounds.near_offsets in
    each_kept P is_valid_head _
    (each_flat P (λ l. Unit {0}) _ bounds.levels.items (λ level t.
    each_flat P (λ l. Unit {0}) _ bounds.members.items (λ members t.
    each_flat P (λ l. Unit {0}) _ bounds.patterns.items (λ pattern t.
    each_flat P (λ l. Unit {0}) _ bounds.delays.items (λ delay t.
    each_flat P (λ l. Unit {0}) _ bounds.syndromes.items (λ syndrome t.
    each_flat P (λ l. Unit {0}) _ bounds.chunks.items (λ chunk t.
    each_map P _ bounds.offsets.items near)
    (each_any (λ l. Unit {0}) (λ l. tt) bounds.chunks.items))
    (each_any (λ l. Unit {0}) (λ l. tt) bounds.syndromes.items))
    (each_any (λ l. Unit {0}) (λ l. tt) bounds.delays.items))
    (each_any (λ l. Unit {0}) (λ l. tt) bounds.patterns.items))
    (each_any (λ l. Unit {0}) (λ l. tt) bounds.members.items))
    (each_any (λ l. Unit {0}) (λ l. tt) bounds.levels.items))

-- each head makes sense, and its offset is that of a sector
pub valid_heads : (plan : Plan) → IsPlan plan → AllByRecursion (λ head. (head.offset < 2 ^ 55) × (is_valid_head head ≡ true)) (heads plan.bounds)
unfolding Near
valid_heads plan is_plan = each_head plan is_plan

each_set : (plan : Plan) → IsPlan plan → AllByRecursion (IsSet plan) (sets_of plan)
unfolding sets_of Near
each_set plan is_plan =
    let n = length plan.lengths.items in
    let bounds = plan.bounds in
    each_flat (IsSet plan) (λ head. (head.offset < 2 ^ 55) × (is_valid_head head ≡ true)) (sets_of_head n bounds) (heads bounds)
    (λ head known. each_map (IsSet plan) (λ slots. record { head = head; slots = record { items = slots } }) (filter (fits n bounds head) (all_lists n head.members))
    (each_more (λ l. ((length l ≡ head.members) × AllImages n l) × (fits n bounds head l ≡ true)) (λ l. IsSet plan (record { head = head; slots = record { items = l } })) (filter (fits n bounds head) (all_lists n head.members))
    (λ l s. record { head = known.1; offset = known.0; long = s.0.0; images = s.0.1; fit = s.1 })
    (each_kept (λ l. (length l ≡ head.members) × AllImages n l) (fits n bounds head) (all_lists n head.members) (each_list n head.members))))
    (each_head plan is_plan)

pub set_at : (plan : Plan) (rank : ℕ) (geo : Geometry) → IsPlan plan → slice_get (sets_of plan) rank ≡ Some geo → IsSet plan geo
set_at plan rank geo is_plan e = each_get (IsSet plan) (sets_of plan) rank geo (each_set plan is_plan) e

no_rule : (m p s c : Bool) (o : Option GeoFault) (members pattern syndrome chunk : GeoFault) → m ≡ true → p ≡ true → s ≡ true → c ≡ true → o ≡ None →
    is_none (if not m then Some members else if not p then Some pattern else if not s then Some syndrome else if not c then Some chunk else o) ≡ true
no_rule true true true true None members pattern syndrome chunk hm hp hs hc ho = refl
no_rule true true true true (Some fault) members pattern syndrome chunk hm hp hs hc ho = absurd (search rules)
no_rule false p s c o members pattern syndrome chunk hm hp hs hc ho = absurd (search rules)
no_rule true false s c o members pattern syndrome chunk hm hp hs hc ho = absurd (search rules)
no_rule true true false c o members pattern syndrome chunk hm hp hs hc ho = absurd (search rules)
no_rule true true true false o members pattern syndrome chunk hm hp hs hc ho = absurd (search rules)

no_slots_fault : (level : Level) (images : ℕ) (slots : List (Option ℕ)) → first_absent images slots ≡ None → first_repeat slots ≡ None → empties slots ≤ redundancy level →
    slots_fault level images slots (first_absent images slots) (first_repeat slots) ≡ None
no_slots_fault level images slots absent repeated few =
    ap₂ (slots_fault level images slots) absent repeated
    ∙ ap (λ (b : Bool). if b then None else Some (Missing (empties slots))) (le-leb (empties slots) (redundancy level) few)

-- a set of a plan breaks no rule of shape
pub shaped_set : (plan : Plan) (geo : Geometry) → IsSet plan geo → is_shaped geo (length plan.lengths.items) ≡ true
shaped_set plan geo set =
    let n = length plan.lengths.items in
    let level = geo.head.level in
    let slots = geo.slots.items in
    let head = and_parts (has_members geo.head.level geo.head.members) (has_pattern geo.head.level geo.head.pattern && (has_syndrome geo.head.level geo.head.syndrome && (is_chunk geo.head.chunk && has_delay geo.head.pattern geo.head.delay))) set.head in
    let rest = and_parts (has_pattern geo.head.level geo.head.pattern) (has_syndrome geo.head.level geo.head.syndrome && (is_chunk geo.head.chunk && has_delay geo.head.pattern geo.head.delay)) head.1 in
    let last = and_parts (has_syndrome geo.head.level geo.head.syndrome) (is_chunk geo.head.chunk && has_delay geo.head.pattern geo.head.delay) rest.1 in
    let end = and_parts (is_chunk geo.head.chunk) (has_delay geo.head.pattern geo.head.delay) last.1 in
    let fit = and_parts (is_distinct geo.slots.items)
    (nat_le (empties geo.slots.items) (min plan.bounds.missing (redundancy geo.head.level)) && nat_le (length plan.lengths.items - (geo.head.members - empties geo.slots.items)) plan.bounds.foreign) set.fit in
    let few = leb-true (empties geo.slots.items) (min plan.bounds.missing (redundancy geo.head.level))
    (and_parts (nat_le (empties geo.slots.items) (min plan.bounds.missing (redundancy geo.head.level))) (nat_le (length plan.lengths.items - (geo.head.members - empties geo.slots.items)) plan.bounds.foreign) fit.1).0 in
    and_from (is_none (shape_fault geo (length plan.lengths.items))) (has_delay geo.head.pattern geo.head.delay)
    (no_rule (has_members geo.head.level (length geo.slots.items) && nat_eq geo.head.members (length geo.slots.items)) (has_pattern geo.head.level geo.head.pattern)
    (has_syndrome geo.head.level geo.head.syndrome) (is_chunk geo.head.chunk) (slots_fault level n slots (first_absent n slots) (first_repeat slots))
    (Members geo.head.members) (BadPattern geo.head.pattern) (BadSyndrome geo.head.syndrome) (Chunk geo.head.chunk)
    (and_from (has_members geo.head.level (length geo.slots.items)) (nat_eq geo.head.members (length geo.slots.items)) (ap (has_members geo.head.level) set.long ∙ head.0) (eq-eqb geo.head.members (length geo.slots.items) (sym set.long)))
    rest.0 last.0 end.0
    (no_slots_fault level n slots (none_absent n slots set.images) (none_repeated slots fit.0) (omega arith)))
    end.1
