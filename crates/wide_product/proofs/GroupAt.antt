-- The group in whose sets a rank of a plan lies.
use Rattle.std.proofs.Common.{rules, ℕ, suc, ◌≡◌, ◌<◌, ◌≤◌, ◌+◌, ◌-◌, ◌*◌, ◌==◌, nat_lt, Bool, true, cond, inl, inr, List, [], ◌∷◌, length, filter, refl, sym, ap, ap₂, ◌∙◌, subst, arith, Option, Some, None, slice_get, option_map, Contains}
use Rattle.std.proofs.Math.Nat.{mul_assoc, mul_comm}
use Rattle.std.proofs.lemmas.Bool.{cases_lt, le-ltb, lt-ltb}
use Rattle.std.proofs.lemmas.List.{map-id}
use Rattle.std.proofs.lemmas.Option.{slice_get_read}
use Rattle.std.specs.List.{position, AllByRecursion}
use Rattle.std.specs.List.Sorted.{IsStrictlyIncreasing}
use Rattle.raid_params.specs.Bases.{greatest_base}
use Rattle.raid_params.specs.Validity.{is_valid_head}
use Rattle.raid_params.specs.declared.types.Bounds.{Bounds}
use Rattle.raid_params.specs.declared.types.Head.{Head}
use Rattle.search_terms.specs.Product.{heads}
use Rattle.search_plan.specs.Plans.{IsPlan}
use Rattle.plan_sets.specs.Sets.{is_same_set, total_of}
use Rattle.search_plan.specs.declared.plan.Plan.{Plan}
use Rattle.slot_math.proofs.Listed.{each_flat, each_get, each_kept}
use Rattle.slot_math.proofs.Nested.{get-map}
use Rattle.slot_math.specs.Space.{lists_of}
use Rattle.set_product.proofs.HeadByHead.{all_counted}
use Rattle.set_product.proofs.Pairs.{pair_at}
use Rattle.set_product.proofs.Ranked.{keys_of_rising, ranked_keys}
use Rattle.set_product.specs.Heads.{count_in, end_of, heads_of, numbered, space_of}
use Rattle.set_product.specs.Pairs.{pairs}
use Rattle.set_product.specs.declared.heads.HeadSets.{HeadSets}
use Rattle.wide_product.proofs.Grouped.{ending_after, find, Found}
use Rattle.wide_product.proofs.Lists.{count_more}
use Rattle.wide_product.proofs.Spread.{based_set, heads_spread, lists, product_is, sets_are}
use Rattle.wide_product.specs.Bases.{base_lists, same_bases}
use Rattle.wide_product.specs.Groups.{bases_of, later_bases, with_first, IsGroup}
use Rattle.wide_product.specs.Sets.{is_same_based, starts, Based}

-- there are so many lists of bases for each of one image less
pub bases_count : (plan : Plan) → IsPlan plan → length (bases_of plan) ≡ length plan.bounds.offsets.items * length (later_bases plan)
bases_count plan is_plan =
    let some = is_plan.lengths.some in
    let offsets = plan.bounds.offsets.items in
    ap (λ (n : ℕ). length (base_lists offsets n)) (let e : length plan.lengths.items ≡ suc (length plan.lengths.items - 1) = omega arith in e)
    ∙ count_more offsets (length plan.lengths.items - 1)

pub some_offsets : (plan : Plan) → IsPlan plan → 1 ≤ length plan.bounds.offsets.items
some_offsets plan is_plan = is_plan.bounds.offsets.some

each_any : {A : Type 0} (P : A → Type 0) → ((x : A) → P x) → (xs : List A) → AllByRecursion P xs
each_any P h [] = tt
each_any P h (x ∷ xs) = (h x, each_any P h xs)

-- those of 0 alone
each_start : (bounds : Bounds) → AllByRecursion (λ head. (head.offset ≡ 0) × (is_valid_head head ≡ true)) (starts bounds)
each_start bounds =
    let P : Head → Type 0 = λ head. head.offset ≡ 0 in
    each_kept P is_valid_head _
    (each_flat P (λ l. Unit {0}) _ bounds.levels.items (λ level t.
    each_flat P (λ l. Unit {0}) _ bounds.members.items (λ members t.
    each_flat P (λ l. Unit {0}) _ bounds.patterns.items (λ pattern t.
    each_flat P (λ l. Unit {0}) _ bounds.delays.items (λ delay t.
    each_flat P (λ l. Unit {0}) _ bounds.syndromes.items (λ syndrome t.
    each_flat P (λ l. Unit {0}) (λ chunk. record { level = level; members = members; pattern = pattern; delay = delay; syndrome = syndrome; chunk = chunk; offset = 0 } ∷ []) bounds.chunks.items (λ chunk t. (refl, tt))
    (each_any (λ l. Unit {0}) (λ l. tt) bounds.chunks.items))
    (each_any (λ l. Unit {0}) (λ l. tt) bounds.syndromes.items))
    (each_any (λ l. Unit {0}) (λ l. tt) bounds.delays.items))
    (each_any (λ l. Unit {0}) (λ l. tt) bounds.patterns.items))
    (each_any (λ l. Unit {0}) (λ l. tt) bounds.members.items))
    (each_any (λ l. Unit {0}) (λ l. tt) bounds.levels.items))

start_is : (bounds : Bounds) (head : Head) → Contains (starts bounds) head → Contains (starts bounds) (record head { offset = 0 })
start_is bounds head held =
    let none : head.offset ≡ 0 = (each_get (λ h. (h.offset ≡ 0) × (is_valid_head h ≡ true)) (starts bounds) held.0 head (each_start bounds) (slice_get_read (starts bounds) (length (starts bounds)) held.0 head refl held.1 (sym held.2))).0 in
    subst (Contains (starts bounds)) (ap (λ (o : ℕ). let h : Head = record head { offset = o } in h) none) held

-- the place of an offset of the plan
pub offset_place : (plan : Plan) (place offset : ℕ) → IsPlan plan → slice_get plan.bounds.offsets.items place ≡ Some offset → position (λ other. offset == other) plan.bounds.offsets.items ≡ Some place
offset_place plan place offset is_plan at =
    ranked_keys (λ n. n) plan.bounds.offsets.items (keys_of_rising (λ n. n) plan.bounds.offsets.items (subst IsStrictlyIncreasing (sym (map-id plan.bounds.offsets.items)) is_plan.bounds.offsets.rising)) place offset at

pub found_at : (plan : Plan) (rank : ℕ) (sets : HeadSets) → IsPlan plan → rank < total_of plan → slice_get (filter (λ s. nat_lt rank (end_of s)) (heads_of plan)) 0 ≡ Some sets → Found plan (starts plan.bounds) 0 rank sets
unfolding total_of
found_at plan rank sets is_plan below is =
    let all = ap length (sets_are plan) in
    find plan (starts plan.bounds) 0 rank sets (some_offsets plan is_plan) (omega arith) (omega arith)
    (sym (ap (λ (hs : List Head). slice_get (ending_after rank (numbered plan 0 hs)) 0) (heads_spread plan.bounds)) ∙ is)

option_map_same : (f g : ℕ → ℕ) → ((e : ℕ) → f e ≡ g e) → (o : Option ℕ) → option_map f o ≡ option_map g o
option_map_same f g same None = refl
option_map_same f g same (Some e) = ap (λ (n : ℕ). Some n) (same e)

-- what is known of the first rank of a group
pub record Begins (plan : Plan) (rank : ℕ) (sets : HeadSets) (place : ℕ) : Type 0 where
  pub fits : place * sets.count ≤ sets.first
  pub low : sets.first ≤ rank
  pub group : IsGroup plan rank (record { head = sets.head; space = sets.space; first = sets.first - place * sets.count; count = sets.count })

some_number : (a b : ℕ) → (let l : Option ℕ = Some a in let r : Option ℕ = Some b in l ≡ r) → a ≡ b
some_number a b e = search rules

regroup : (k before m : ℕ) → k * before * m ≡ k * m * before
regroup k before m = mul_assoc k before m ∙ ap (λ (n : ℕ). k * n) (mul_comm before m) ∙ sym (mul_assoc k m before)

pub begins : (plan : Plan) (rank place : ℕ) (sets : HeadSets) → IsPlan plan → rank < total_of plan → slice_get (filter (λ s. nat_lt rank (end_of s)) (heads_of plan)) 0 ≡ Some sets →
    position (λ other. sets.head.offset == other) plan.bounds.offsets.items ≡ Some place → Begins plan rank sets place
begins plan rank place sets is_plan below is at =
    let found = found_at plan rank sets is_plan below is in
    let group = found.group in
    let before = found.before in
    let head = found.head in
    let same_place : found.group.place ≡ place = some_number group.place place (sym (offset_place plan group.place sets.head.offset is_plan group.offset) ∙ at) in
    let count : sets.count ≡ length (lists plan found.head) = group.count in
    let first : sets.first ≡ 0 + length plan.bounds.offsets.items * found.before + found.group.place * length (lists plan found.head) = group.begins in
    let own : place * sets.count ≡ found.group.place * length (lists plan found.head) = ap₂ (λ (a b : ℕ). a * b) (sym same_place) count in
    let start : sets.first - place * sets.count ≡ length plan.bounds.offsets.items * found.before = omega arith in
    let bases = bases_count plan is_plan in
    let at_bases : (sets.first - place * sets.count) * length (later_bases plan) ≡ length (bases_of plan) * found.before =
    ap (λ (n : ℕ). n * length (later_bases plan)) start ∙ regroup (length plan.bounds.offsets.items) before (length (later_bases plan)) ∙ ap (λ (n : ℕ). n * found.before) (sym bases) in
    let space : sets.space ≡ space_of plan sets.head.level sets.head.members = group.space ∙ sym (ap (λ (h : Head). space_of plan h.level h.members) group.head_is) in
    let lists_are : lists_of sets.space ≡ lists plan found.head = ap lists_of group.space in
    let all : length plan.bounds.offsets.items * sets.count ≡ length plan.bounds.offsets.items * length (lists plan found.head) = ap (λ (n : ℕ). length plan.bounds.offsets.items * n) count in
    let all_bases : length (bases_of plan) * sets.count ≡ length (bases_of plan) * length (lists plan found.head) = ap (λ (n : ℕ). length (bases_of plan) * n) count in
    let low = found.low in
    let high = found.high in
    let within = found.within in
    let whole = ap length (product_is plan) in
    let before_rank = group.low in
    record {
      fits = omega arith;
      low = before_rank;
      group = record {
        head = subst (Contains (starts plan.bounds)) (sym (ap (λ (h : Head). let o : Head = record h { offset = 0 } in o) group.head_is)) (start_is plan.bounds head found.among);
        space = space;
        count = count ∙ sym (ap length lists_are);
        low = omega arith;
        high = omega arith;
        stand = λ e k one slots at_one at_slots.
            ap₂ (λ (l : List Based) (n : ℕ). slice_get l n) (product_is plan) (ap₂ (λ (a b : ℕ). a + (b + k)) at_bases (ap (λ (n : ℕ). e * n) count))
            ∙ found.stand (e * length (lists plan found.head) + k) (based_set head (one, slots))
            (get-map (based_set head) (pairs (bases_of plan) (lists plan head)) (e * length (lists plan found.head) + k)
            ∙ ap (option_map (based_set head)) (pair_at (bases_of plan) (lists plan head) e k one slots at_one (sym (ap (λ (l : List (List (Option ℕ))). slice_get l k) lists_are) ∙ at_slots)))
            ∙ sym (ap (λ (h : Head). let b : Based = (record { head = record h { offset = greatest_base one }; slots = record { items = slots } }, one) in Some b) group.head_is);
        within = omega arith;
        ranked = λ set greatest ranked.
            ap (position (is_same_based set)) (product_is plan)
            ∙ found.ranked set greatest (sym (ap (position (is_same_set (with_first plan set.0))) (sets_are plan)) ∙ ranked ∙ ap (λ (n : ℕ). Some n) (let e : rank ≡ rank - 0 = omega arith in e))
            ∙ option_map_same (λ e. length (bases_of plan) * found.before + (e * length (lists plan found.head) + (rank - (0 + length plan.bounds.offsets.items * found.before))))
            (λ e. (sets.first - place * sets.count) * length (later_bases plan) + (e * sets.count + (rank - (sets.first - place * sets.count))))
            (λ e. let one : e * sets.count ≡ e * length (lists plan found.head) = ap (λ (n : ℕ). e * n) count in omega arith) (position (same_bases set.1) (bases_of plan));
      };
    }

-- the offset of a head is one of the plan's
pub some_place : (plan : Plan) (rank : ℕ) (sets : HeadSets) → IsPlan plan → rank < total_of plan → slice_get (filter (λ s. nat_lt rank (end_of s)) (heads_of plan)) 0 ≡ Some sets →
    (place : ℕ) × (position (λ other. sets.head.offset == other) plan.bounds.offsets.items ≡ Some place)
some_place plan rank sets is_plan below is =
    let found = found_at plan rank sets is_plan below is in
    (found.group.place, offset_place plan found.group.place sets.head.offset is_plan found.group.offset)

-- some head ends after a rank of the plan
some_after : (plan : Plan) (first rank : ℕ) (hs : List Head) → first ≤ rank → rank < first + count_in plan hs → (sets : HeadSets) × (rest : List HeadSets) × (ending_after rank (numbered plan first hs) ≡ sets ∷ rest)
unfolding numbered count_in
some_after plan first rank [] low below = absurd (omega arith)
some_after plan first rank (head ∷ hs) low below =
    let own : HeadSets = record { head = head; space = space_of plan head.level head.members; first = first; count = length (lists plan head) } in
    let tail = ending_after rank (numbered plan (first + length (lists plan head)) hs) in
    elim (cases_lt rank (first + length (lists plan head))) [
      | inl here ↦ (own, tail, ap (λ (b : Bool). cond b (own ∷ tail) tail) (lt-ltb rank (first + length (lists plan head)) here))
      | inr past ↦
          let later = some_after plan (first + length (lists plan head)) rank hs past (omega arith) in
          (later.0, later.1, ap (λ (b : Bool). cond b (own ∷ tail) tail) (le-ltb rank (first + length (lists plan head)) past) ∙ later.2)
    ]

pub some_ending : (plan : Plan) (rank : ℕ) → IsPlan plan → rank < total_of plan → (sets : HeadSets) × (rest : List HeadSets) × (filter (λ s. nat_lt rank (end_of s)) (heads_of plan) ≡ sets ∷ rest)
some_ending plan rank is_plan below =
    let all = all_counted plan in
    some_after plan 0 rank (heads plan.bounds) (omega arith) (omega arith)
