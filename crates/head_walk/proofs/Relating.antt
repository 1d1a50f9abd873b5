-- Rows refuse no prefix of a set that passes.
use Rattle.std.proofs.Common.{rules, ℕ, zero, suc, ◌≡◌, ◌<◌, ◌≤◌, ◌-◌, min, true, ◌&&◌, nat_le, List, [], ◌∷◌, drop, length, take, refl, sym, ap, ◌∙◌, arith, Option, Some, None, IfSome, slice_get, subst}
use Rattle.std.specs.Option.{option_map}
use Rattle.std.proofs.lemmas.Bool.{and_parts, leb-true}
use Rattle.raid_params.specs.Size.{redundancy, rows}
use Rattle.raid_params.specs.Slots.{empties, is_distinct}
use Rattle.raid_params.specs.Validity.{is_shaped}
use Rattle.raid_params.specs.declared.types.Geometry.{Geometry}
use Rattle.raid_params.specs.declared.types.Head.{Head}
use Rattle.raid_terms.specs.Parity.{passes_parity}
use Rattle.landmark_rules.specs.Groups.{groups_hold}
use Rattle.plan_sets.specs.Sets.{passes, sets_of}
use Rattle.search_plan.specs.Plans.{IsPlan}
use Rattle.search_plan.specs.declared.plan.Plan.{Plan}
use Rattle.set_product.proofs.Shaped.{set_at, IsSet}
use Rattle.slot_math.specs.Ways.{AllImages}
use Rattle.relation_prefix.proofs.Begun.{passing_may_begin}
use Rattle.relation_prefix.proofs.Keeping.{rows_part}
use Rattle.relation_prefix.specs.Sampled.{all_tell, may_begin, Asked as AskedRows, KeptRows}
use Rattle.relation_prefix.specs.Ties.{AreThere}
use Rattle.relation_prefix.specs.declared.sampled.SampledRow.{SampledRow}
use Rattle.row_samples.specs.Rows.{AreImageRows}
use Rattle.head_walk.specs.Relations.{asked_of, first_asked, kept_rows, lets_begin, most_empty, rows_allow, rows_asked, test_of, AreRelationsOf}
use Rattle.head_walk.specs.Walk.{rows_admit, Asked}
use Rattle.head_walk.proofs.SetShapes.{set_shaped}

-- no set of a plan has more empty slots than a set of its members may have
few_empty : (plan : Plan) (geo : Geometry) → IsSet plan geo → empties geo.slots.items ≤ geo.head.members → empties geo.slots.items ≤ most_empty plan geo.head.members
few_empty plan geo set within =
    let fit = and_parts (is_distinct geo.slots.items)
    (nat_le (empties geo.slots.items) (min plan.bounds.missing (redundancy geo.head.level)) && nat_le (length plan.lengths.items - (geo.head.members - empties geo.slots.items)) plan.bounds.foreign) set.fit in
    let both = and_parts (nat_le (empties geo.slots.items) (min plan.bounds.missing (redundancy geo.head.level))) (nat_le (length plan.lengths.items - (geo.head.members - empties geo.slots.items)) plan.bounds.foreign) fit.1 in
    let few = leb-true (empties geo.slots.items) (min plan.bounds.missing (redundancy geo.head.level)) both.0 in
    let held = leb-true (length plan.lengths.items - (geo.head.members - empties geo.slots.items)) plan.bounds.foreign both.1 in
    omega arith

-- no more slots are empty than there are
empties_within : (slots : List (Option ℕ)) → empties slots ≤ length slots
unfolding empties
empties_within [] = omega arith
empties_within (None ∷ slots) = let rest = empties_within slots in omega arith
empties_within (Some i ∷ slots) = let rest = empties_within slots in omega arith

-- of a set that passes each prefix may begin a set, by any rows of the images
never_refused : (bytes : List (List ℕ)) (plan : Plan) (rank k : ℕ) (geo : Geometry) (list : List SampledRow) → IsPlan plan → slice_get (sets_of plan) rank ≡ Some geo → passes bytes plan geo ≡ true →
    AreImageRows bytes (length plan.lengths.items) geo.head.offset list → may_begin list (test_of plan geo.head) (take k geo.slots.items) ≡ true
never_refused bytes plan rank k geo list is_plan stands holds are =
    let parts = and_parts (nat_le 1 (rows geo.head plan.end)) (passes_parity bytes geo plan.end plan.limits.window plan.limits.badrows && groups_hold geo plan.end plan.tests plan.groups) holds in
    let tests = and_parts (passes_parity bytes geo plan.end plan.limits.window plan.limits.badrows) (groups_hold geo plan.end plan.tests plan.groups) parts.1 in
    let set = set_at plan rank geo is_plan stands in
    let most = is_plan.lengths.most in
    let long : length bytes ≡ length plan.lengths.items = are.count_is in
    let shaped : is_shaped geo (length bytes) ≡ true = ap (is_shaped geo) long ∙ set_shaped plan rank geo is_plan stands in
    let within = empties_within geo.slots.items in
    let all = set.long in
    passing_may_begin bytes geo plan.end plan.limits.window plan.limits.badrows (most_empty plan geo.head.members) k list (omega arith) shaped
    (few_empty plan geo set (omega arith)) are.are tests.0

-- so rows that are kept let each of them begin one
pub rows_admit_front : (bytes : List (List ℕ)) (plan : Plan) (head : Head) (rank k : ℕ) (slots : List (Option ℕ)) (asked : Asked) (list : Option (List SampledRow)) → IsPlan plan → asked.plan ≡ plan → asked.head ≡ head →
    slice_get (sets_of plan) rank ≡ Some (record { head = head; slots = record { items = slots } }) → passes bytes plan (record { head = head; slots = record { items = slots } }) ≡ true →
    IfSome list (AreImageRows bytes (length plan.lengths.items) head.offset) → rows_admit asked list (take k slots) ≡ true
rows_admit_front bytes plan head rank k slots asked None is_plan same_plan same_head stands holds are = refl
rows_admit_front bytes plan head rank k slots asked (Some list) is_plan same_plan same_head stands holds are =
    let n = rows_asked (all_tell list) plan.limits.badrows (length list) head.members (length (take k slots)) in
    let first = first_asked (length list) n (length (take k slots)) in
    ap (λ (p : Plan). lets_begin list (test_of p asked.head) (take k slots)) same_plan
    ∙ ap (λ (h : Head). lets_begin list (test_of plan h) (take k slots)) same_head
    ∙ never_refused bytes plan rank k (record { head = head; slots = record { items = slots } }) (take n (drop first list)) is_plan stands holds
    (record { count_is = are.count_is; are = rows_part bytes head.offset first n list are.are })

-- no rows are those of any images
pub none_lie : (told : Option (List (List ℕ))) (count offset : ℕ) → IfSome told (λ bytes. IfSome None (AreImageRows bytes count offset))
none_lie None count offset = tt
none_lie (Some bytes) count offset = tt

-- those that are kept of the offset, or none
pub lying_some : {X : Type 0} (f : X → KeptRows) (told : Option (List (List ℕ))) (count offset at : ℕ) (kept : KeptRows) (list : Option X) → IfSome list (λ r. f r ≡ kept) → at ≡ offset →
    IfSome told (λ bytes. AreImageRows bytes count at kept.list) → IfSome told (λ bytes. IfSome (option_map (λ r. (f r).list) list) (AreImageRows bytes count offset))
lying_some f None count offset at kept list is same are = tt
lying_some f (Some bytes) count offset at kept None is same are = tt
lying_some f (Some bytes) count offset at kept (Some r) is same are =
    let P : ℕ → KeptRows → Type 0 = λ n k. AreImageRows bytes count n k.list in
    subst (P offset) (sym is) (subst (λ (n : ℕ). P n kept) same are)

-- of all images
pub row_images_some : {X : Type 0} (f : X → KeptRows) (count : ℕ) (kept : KeptRows) (list : Option X) → IfSome list (λ r. f r ≡ kept) → kept.images ≡ count → IfSome list (λ r. (f r).images ≡ count)
row_images_some f count kept None is are = tt
row_images_some f count kept (Some r) is are = ap (λ (k : KeptRows). k.images) is ∙ are

-- the test that is made of rows of all images
pub relations_made : {X : Type 0} (f : X → KeptRows) (plan : Plan) (head : Head) (list : Option X) → IfSome list (λ r. (f r).images ≡ length plan.lengths.items) →
    IfSome (option_map (λ r. asked_of (f r) plan head) list) (AreRelationsOf plan head)
relations_made f plan head None are = tt
relations_made f plan head (Some r) are = record { test = refl; images = are }

-- and its rows
rows_made : {X : Type 0} (f : X → KeptRows) (plan : Plan) (head : Head) (list : Option X) → kept_rows (option_map (λ r. asked_of (f r) plan head) list) ≡ option_map (λ r. (f r).list) list
rows_made f plan head None = refl
rows_made f plan head (Some r) = refl

pub rows_kept : {X : Type 0} (f : X → KeptRows) (plan : Plan) (head : Head) (list : Option X) (relations : Option AskedRows) → relations ≡ option_map (λ r. asked_of (f r) plan head) list →
    kept_rows relations ≡ option_map (λ r. (f r).list) list
rows_kept f plan head list relations is = ap (λ (o : Option AskedRows). kept_rows o) is ∙ rows_made f plan head list

-- what they allow is what the family admits
pub allowed_by : (plan : Plan) (head : Head) (asked : Asked) (relations : Option AskedRows) (prefix : List (Option ℕ)) → asked.plan ≡ plan → asked.head ≡ head → IfSome relations (AreRelationsOf plan head) →
    rows_allow relations prefix ≡ rows_admit asked (kept_rows relations) prefix
allowed_by plan head asked None prefix same_plan same_head are = refl
allowed_by plan head asked (Some r) prefix same_plan same_head are =
    ap (λ t. lets_begin r.rows.list t prefix) are.test
    ∙ sym (ap (λ (p : Plan). lets_begin r.rows.list (test_of p asked.head) prefix) same_plan ∙ ap (λ (h : Head). lets_begin r.rows.list (test_of plan h) prefix) same_head)

-- the images of a prefix are there
there_images : (n : ℕ) (slots : List (Option ℕ)) → AllImages n slots → AreThere n slots
there_images n [] all slot image held = absurd (let low = held.0 in omega arith)
there_images n (None ∷ slots) all zero image held = absurd (let e = held.1 in search rules)
there_images n (Some i ∷ slots) all zero image held = let e = held.1 in let same : i ≡ image = search rules in let low : i < n = all.0 in omega arith
there_images n (None ∷ slots) all (suc slot) image held = there_images n slots all slot image ((let low = held.0 in omega arith), held.1)
there_images n (Some i ∷ slots) all (suc slot) image held = there_images n slots all.1 slot image ((let low = held.0 in omega arith), held.1)

pub relations_there : (plan : Plan) (head : Head) (relations : Option AskedRows) (prefix : List (Option ℕ)) → IfSome relations (AreRelationsOf plan head) → AllImages (length plan.lengths.items) prefix →
    IfSome relations (λ r. AreThere r.rows.images prefix)
relations_there plan head None prefix are all = tt
relations_there plan head (Some r) prefix are all = subst (λ (n : ℕ). AreThere n prefix) (sym are.images) (there_images (length plan.lengths.items) prefix all)

pub relations_short : (plan : Plan) (head : Head) (relations : Option AskedRows) (prefix : List (Option ℕ)) → IfSome relations (AreRelationsOf plan head) → length prefix ≤ head.members →
    IfSome relations (λ r. length prefix ≤ r.test.head.members)
relations_short plan head None prefix are short = tt
relations_short plan head (Some r) prefix are short = let P = length prefix in subst (λ t. P ≤ t.head.members) (sym are.test) short
