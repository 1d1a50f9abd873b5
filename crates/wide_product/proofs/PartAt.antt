-- The part of a plan in which a rank lies.
use Rattle.std.proofs.Common.{ℕ, zero, suc, ◌≡◌, ◌<◌, ◌≤◌, ◌+◌, ◌-◌, ◌*◌, ◌/◌, ◌^◌, min, Bool, true, cond, List, [], ◌∷◌, length, map, refl, sym, ap, ap₂, ◌∙◌, subst, arith, length-append, Some, slice_get, Contains, All}
use Rattle.std.proofs.Math.Nat.{add-mul, div-mul-le_self, lt-div-mul-add, mul-le-mul_right, mul_assoc, mul_comm, zero-mul}
use Rattle.std.proofs.lemmas.List.Elements.{All-cons, All-contains_itself, All-nil, recursion_from_All}
use Rattle.std.proofs.lemmas.Nat.{div_below, mul-le}
use Rattle.std.specs.List.{flat_map, AllByRecursion}
use Rattle.raid_params.specs.Bases.{greatest_base}
use Rattle.raid_params.specs.declared.types.Head.{Head}
use Rattle.search_plan.specs.Plans.{IsPlan}
use Rattle.plan_sets.specs.Sets.{sets_of, total_of}
use Rattle.search_plan.specs.declared.plan.Plan.{Plan}
use Rattle.slot_math.proofs.Listed.{each_flat, each_get, each_map, each_more}
use Rattle.slot_math.specs.Space.{lists_of}
use Rattle.slot_math.specs.declared.space.Space.{Space}
use Rattle.set_product.specs.Heads.{space_of}
use Rattle.set_product.proofs.Pairs.{row_within, second_some}
use Rattle.wide_product.proofs.GroupAt.{bases_count, some_offsets}
use Rattle.wide_product.proofs.Lists.{count_some}
use Rattle.wide_product.proofs.Spread.{based_count, based_in, lists, product_is, sets_are, common_count, common_in}
use Rattle.wide_product.specs.Bases.{base_lists}
use Rattle.wide_product.specs.Groups.{based_of, bases_of, later_bases, IsGroup}
use Rattle.wide_product.specs.Parts.{IsPartOf}
use Rattle.wide_product.specs.Sets.{based_product, starts, wide_sets, wide_total, Based}
use Rattle.wide_product.specs.declared.groups.Group.{Group}
use Rattle.wide_product.specs.declared.parts.Part.{Part}

pub wide_are : (plan : Plan) → plan.each ≡ true → wide_sets plan ≡ based_of plan
unfolding wide_sets
wide_are plan each = ap (λ (b : Bool). cond b (based_product (length plan.lengths.items) plan.bounds) (map (λ geo. (geo, [])) (sets_of plan))) each

-- there are so many sets with bases for each that has a common offset
all_based : (plan : Plan) (hs : List Head) → IsPlan plan → length (flat_map (based_in plan) hs) ≡ length (flat_map (common_in plan) hs) * length (later_bases plan)
all_based plan [] is_plan = sym (zero-mul (length (later_bases plan)))
all_based plan (head ∷ hs) is_plan =
    let rest = all_based plan hs is_plan in
    let count = based_count plan head in
    let common = common_count plan head in
    let bases = bases_count plan is_plan in
    let all = length-append (based_in plan head) (flat_map (based_in plan) hs) in
    let all_common = length-append (common_in plan head) (flat_map (common_in plan) hs) in
    let split : (length (common_in plan head) + length (flat_map (common_in plan) hs)) * length (later_bases plan) ≡ length (common_in plan head) * length (later_bases plan) + length (flat_map (common_in plan) hs) * length (later_bases plan) = add-mul (length (common_in plan head)) (length (flat_map (common_in plan) hs)) (length (later_bases plan)) in
    let own : length (based_in plan head) ≡ length (common_in plan head) * length (later_bases plan) =
    count
    ∙ ap (λ (n : ℕ). n * length (lists plan head)) bases
    ∙ mul_assoc (length plan.bounds.offsets.items) (length (later_bases plan)) (length (lists plan head))
    ∙ ap (λ (n : ℕ). length plan.bounds.offsets.items * n) (mul_comm (length (later_bases plan)) (length (lists plan head)))
    ∙ sym (mul_assoc (length plan.bounds.offsets.items) (length (lists plan head)) (length (later_bases plan)))
    ∙ ap (λ (n : ℕ). n * length (later_bases plan)) (sym common) in
    all ∙ ap₂ (λ (a b : ℕ). a + b) own rest ∙ sym split ∙ ap (λ (n : ℕ). n * length (later_bases plan)) (sym all_common)

pub total_is : (plan : Plan) → IsPlan plan → plan.each ≡ true → wide_total plan ≡ total_of plan * length (later_bases plan)
unfolding wide_total total_of
total_is plan is_plan each =
    ap length (wide_are plan each ∙ product_is plan)
    ∙ all_based plan (starts plan.bounds) is_plan
    ∙ ap (λ (n : ℕ). n * length (later_bases plan)) (sym (ap length (sets_are plan)))

pub some_later : (plan : Plan) → IsPlan plan → 1 ≤ length (later_bases plan)
some_later plan is_plan = count_some plan.bounds.offsets.items (length plan.lengths.items - 1) (some_offsets plan is_plan)

-- the sets that have a common offset are no more
pub fewer : (plan : Plan) → IsPlan plan → plan.each ≡ true → total_of plan ≤ wide_total plan
fewer plan is_plan each =
    let total = total_is plan is_plan each in
    let some = some_later plan is_plan in
    let more : total_of plan * 1 ≤ total_of plan * length (later_bases plan) = mul-le (total_of plan) 1 (total_of plan) (length (later_bases plan)) (omega arith) some in
    omega arith

-- each list of bases has an offset of the plan for each image
pub each_list : (offsets : List ℕ) (n : ℕ) → AllByRecursion (λ l. (length l ≡ n) × All (Contains offsets) l) (base_lists offsets n)
unfolding base_lists
each_list offsets zero = ((refl, All-nil (Contains offsets)), tt)
each_list offsets (suc n) =
    each_flat (λ l. (length l ≡ suc n) × All (Contains offsets) l) (Contains offsets) (λ base. map (λ bases. base ∷ bases) (base_lists offsets n)) offsets
    (λ base held. each_map (λ l. (length l ≡ suc n) × All (Contains offsets) l) (λ bases. base ∷ bases) (base_lists offsets n)
    (each_more (λ l. (length l ≡ n) × All (Contains offsets) l) (λ bases. (length (base ∷ bases) ≡ suc n) × All (Contains offsets) (base ∷ bases)) (base_lists offsets n)
    (λ bases known. (ap suc known.0, All-cons (Contains offsets) base bases held known.1)) (each_list offsets n)))
    (recursion_from_All (Contains offsets) offsets (All-contains_itself offsets))

pub bases_are : (plan : Plan) (rank : ℕ) (bases : List ℕ) → slice_get (bases_of plan) rank ≡ Some bases → (length bases ≡ length plan.lengths.items) × All (Contains plan.bounds.offsets.items) bases
bases_are plan rank bases at =
    each_get (λ l. (length l ≡ length plan.lengths.items) × All (Contains plan.bounds.offsets.items) l) (bases_of plan) rank bases (each_list plan.bounds.offsets.items (length plan.lengths.items)) at

-- what is known of a rank before its group is
pub record Splits (plan : Plan) (rank later : ℕ) : Type 0 where
  pub later_is : later ≡ length (later_bases plan)
  pub fits : later < 2 ^ 64
  pub some : 0 < later
  pub few : total_of plan < 2 ^ 64
  pub below : rank / later < total_of plan

pub splits : (plan : Plan) (rank later : ℕ) → IsPlan plan → plan.each ≡ true → wide_total plan < 2 ^ 64 → rank < wide_total plan → later ≡ min (length (later_bases plan)) (2 ^ 64) → Splits plan rank later
splits plan rank later is_plan each few below is =
    let total = total_is plan is_plan each in
    let some = some_later plan is_plan in
    let common = fewer plan is_plan each in
    let less : rank < total_of plan * length (later_bases plan) = omega arith in
    let any : 1 ≤ total_of plan = at_least (total_of plan) (length (later_bases plan)) less in
    let most : 1 * length (later_bases plan) ≤ total_of plan * length (later_bases plan) = mul-le-mul_right (length (later_bases plan)) any in
    let later_is : later ≡ length (later_bases plan) = omega arith in
    record {
      later_is = later_is;
      fits = omega arith;
      some = omega arith;
      few = omega arith;
      below = subst (λ n. rank / n < total_of plan) (sym later_is) (div_below rank (length (later_bases plan)) (total_of plan) some less);
    }
  where
    at_least : (a b : ℕ) {r : ℕ} → r < a * b → 1 ≤ a
    at_least zero b below = let none : zero * b ≡ 0 = zero-mul b in absurd (omega arith)
    at_least (suc a) b below = omega arith

-- what is known of a rank in its group
pub record Parts (plan : Plan) (rank later : ℕ) (group : Group) : Type 0 where
  pub low : group.first * later ≤ rank
  pub some : 0 < group.count
  pub few : length (bases_of plan) < 2 ^ 64
  pub list : (rank - group.first * later) / group.count < length (bases_of plan)
  pub ends : group.first * later + (rank - group.first * later) / group.count * group.count + group.count ≤ wide_total plan
  pub from : group.first * later + (rank - group.first * later) / group.count * group.count ≤ rank
  pub to : rank < group.first * later + (rank - group.first * later) / group.count * group.count + group.count

pub parts : (plan : Plan) (rank later : ℕ) (group : Group) → IsPlan plan → plan.each ≡ true → wide_total plan < 2 ^ 64 → Splits plan rank later → IsGroup plan (rank / later) group → Parts plan rank later group
unfolding wide_total
parts plan rank later group is_plan each few split is =
    let later_is = split.later_is in
    let some_later = split.some in
    let bases = bases_count plan is_plan in
    let group_low = is.low in
    let group_high = is.high in
    let group_within = is.within in
    let whole = ap length (wide_are plan each) in
    let below : group.first * later ≤ rank / later * later = mul-le-mul_right later group_low in
    let above : (rank / later + 1) * later ≤ (group.first + length plan.bounds.offsets.items * group.count) * later = mul-le-mul_right later (let e : rank / later + 1 ≤ group.first + length plan.bounds.offsets.items * group.count = omega arith in e) in
    let at_most : rank / later * later ≤ rank = div-mul-le_self rank later in
    let less : rank < rank / later * later + later = lt-div-mul-add some_later in
    let one : (rank / later + 1) * later ≡ rank / later * later + 1 * later = add-mul (rank / later) 1 later in
    let both : (group.first + length plan.bounds.offsets.items * group.count) * later ≡ group.first * later + length plan.bounds.offsets.items * group.count * later = add-mul group.first (length plan.bounds.offsets.items * group.count) later in
    let all : length plan.bounds.offsets.items * group.count * later ≡ length (bases_of plan) * group.count =
    mul_assoc (length plan.bounds.offsets.items) group.count later
    ∙ ap (λ (n : ℕ). length plan.bounds.offsets.items * n) (mul_comm group.count later)
    ∙ sym (mul_assoc (length plan.bounds.offsets.items) later group.count)
    ∙ ap (λ (n : ℕ). length plan.bounds.offsets.items * n * group.count) later_is
    ∙ ap (λ (n : ℕ). n * group.count) (sym bases) in
    let start : group.first * later ≡ group.first * length (later_bases plan) = ap (λ (n : ℕ). group.first * n) later_is in
    let inside : rank - group.first * later < length (bases_of plan) * group.count = omega arith in
    let some = second_some (rank - group.first * later) (length (bases_of plan)) group.count inside in
    let row = row_within (rank - group.first * later) (length (bases_of plan)) group.count inside in
    let next : ((rank - group.first * later) / group.count + 1) * group.count ≤ length (bases_of plan) * group.count = mul-le-mul_right group.count (let e : (rank - group.first * later) / group.count + 1 ≤ length (bases_of plan) = omega arith in e) in
    let step : ((rank - group.first * later) / group.count + 1) * group.count ≡ (rank - group.first * later) / group.count * group.count + 1 * group.count = add-mul ((rank - group.first * later) / group.count) 1 group.count in
    let down : (rank - group.first * later) / group.count * group.count ≤ rank - group.first * later = div-mul-le_self (rank - group.first * later) group.count in
    let up : rank - group.first * later < (rank - group.first * later) / group.count * group.count + group.count = lt-div-mul-add some in
    let most : length (bases_of plan) * 1 ≤ length (bases_of plan) * group.count = mul-le (length (bases_of plan)) 1 (length (bases_of plan)) group.count (omega arith) (omega arith) in
    record { low = omega arith; some = some; few = omega arith; list = row; ends = omega arith; from = omega arith; to = omega arith }

pub part_is : (plan : Plan) (rank later list : ℕ) (group : Group) (part : Part) → IsPlan plan → plan.each ≡ true → later ≡ length (later_bases plan) → IsGroup plan rank group →
    slice_get (bases_of plan) list ≡ Some part.bases.items → part.head ≡ record group.head { offset = greatest_base part.bases.items } → part.space ≡ group.space → part.count ≡ group.count →
    part.first ≡ group.first * later + list * group.count → part.first + part.count ≤ wide_total plan → IsPartOf plan part
part_is plan rank later list group part is_plan each later_is is at head space count first within =
    let bases = bases_are plan list part.bases.items at in
    record {
      head = subst (Contains (starts plan.bounds)) (sym (ap (λ (h : Head). let o : Head = record h { offset = 0 } in o) head)) is.head;
      offset = ap (λ (h : Head). h.offset) head;
      each = bases.0;
      bases = bases.1;
      space = space ∙ is.space ∙ sym (ap (λ (h : Head). space_of plan h.level h.members) head);
      count = count ∙ is.count ∙ sym (ap (λ (s : Space). length (lists_of s)) space);
      stand = λ k slots e.
          ap (λ (l : List Based). slice_get l (part.first + k)) (wide_are plan each)
          ∙ ap (slice_get (based_of plan)) (let start : group.first * later ≡ group.first * length (later_bases plan) = ap (λ (n : ℕ). group.first * n) later_is in let f : part.first + k ≡ group.first * length (later_bases plan) + (list * group.count + k) = omega arith in f)
          ∙ is.stand list k part.bases.items slots at (sym (ap (λ (s : Space). slice_get (lists_of s) k) space) ∙ e)
          ∙ sym (ap (λ (h : Head). let b : Based = (record { head = h; slots = record { items = slots } }, part.bases.items) in Some b) head);
      within = within;
    }
