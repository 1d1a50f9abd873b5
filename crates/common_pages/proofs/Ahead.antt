-- The heads that a walk has before it.
use Rattle.std.proofs.Common.{◌≡◌, ℕ, ◌+◌, ◌-◌, ◌<◌, ◌≤◌, ◌^◌, Bool, true, nat_lt, cond, List, [], ◌∷◌, length, filter, refl, sym, ap, ◌∙◌, arith, subst, Option, Some, option_map, slice_get, inl, inr}
use Rattle.std.specs.List.{flat_map, AllByRecursion, Contains}
use Rattle.std.proofs.lemmas.Bool.{cases_lt, lt-ltb, le-ltb}
use Rattle.std.proofs.lemmas.Option.{slice_get_within}
use Rattle.raid_params.specs.Validity.{is_valid_head}
use Rattle.raid_params.specs.declared.types.Geometry.{Geometry}
use Rattle.raid_params.specs.declared.types.Head.{Head}
use Rattle.search_terms.specs.Product.{heads}
use Rattle.search_plan.specs.Plans.{IsPlan}
use Rattle.plan_sets.specs.Sets.{sets_of, total_of}
use Rattle.search_plan.specs.declared.plan.Plan.{Plan}
use Rattle.slot_math.proofs.Nested.{get_high, get_low, get-map, length-map}
use Rattle.slot_math.specs.Space.{lists_of}
use Rattle.set_product.specs.Heads.{count_in, end_of, heads_of, numbered, sets_in, space_of}
use Rattle.set_product.specs.declared.heads.HeadSets.{HeadSets}
use Rattle.set_product.proofs.HeadByHead.{all_counted, heads_make}
use Rattle.set_product.proofs.Shaped.{valid_heads}
use Rattle.set_product.proofs.Spaces.{space_images, space_members}
use Rattle.head_walk.specs.Walk.{IsAmong, IsHeadOf}
use Rattle.common_pages.proofs.Among.{among_heads, each_among}

-- the sets of the ranks from this one on are those of these heads
unfoldable pub Ahead : Plan → ℕ → List HeadSets → Type 0
Ahead plan at [] = total_of plan ≤ at
Ahead plan at (sets ∷ later) = (sets.first ≤ at) × (at ≤ sets.first + sets.count) × IsHeadOf plan sets × Ahead plan (sets.first + sets.count) later

-- at the end of the heads
pub at_end : (plan : Plan) (at : ℕ) → Ahead plan at [] → total_of plan ≤ at
unfolding Ahead
at_end plan at ahead = ahead

-- at the next head
pub at_head : (plan : Plan) (at : ℕ) (sets : HeadSets) (all later : List HeadSets) → all ≡ sets ∷ later → Ahead plan at all →
    (sets.first ≤ at) × (at ≤ sets.first + sets.count) × IsHeadOf plan sets × Ahead plan (sets.first + sets.count) later
unfolding Ahead
at_head plan at sets all later e ahead = let P : List HeadSets → Type 0 = λ l. Ahead plan at l in subst P e ahead

-- all heads of a plan
all_ahead : (plan : Plan) (first : ℕ) (hs : List Head) → AllByRecursion (λ head. (head.offset < 2 ^ 55) × (is_valid_head head ≡ true)) hs → AllByRecursion (IsAmong plan.bounds) hs → AllByRecursion (Contains (heads plan.bounds)) hs →
    ((n : ℕ) (geo : Geometry) → slice_get (flat_map sets_in (numbered plan first hs)) n ≡ Some geo → slice_get (sets_of plan) (first + n) ≡ Some geo) →
    first + count_in plan hs ≡ total_of plan → Ahead plan first (numbered plan first hs)
unfolding Ahead numbered count_in
all_ahead plan first [] valid among listed stand all = omega arith
all_ahead plan first (head ∷ hs) valid among listed stand all =
    let space = space_of plan head.level head.members in
    let count = length (lists_of (space_of plan head.level head.members)) in
    let own : HeadSets = record { head = head; space = space_of plan head.level head.members; first = first; count = length (lists_of (space_of plan head.level head.members)) } in
    let later = flat_map sets_in (numbered plan (first + length (lists_of (space_of plan head.level head.members))) hs) in
    let make : List (Option ℕ) → Geometry = λ slots. record { head = head; slots = record { items = slots } } in
    let long : length (sets_in own) ≡ length (lists_of (space_of plan head.level head.members)) = length-map make (lists_of space) in (
      (omega arith),
      (omega arith),
      record {
        head = valid.0.1;
        offset = valid.0.0;
        among = among.0;
        listed = listed.0;
        images = space_images plan head.level head.members;
        members = space_members plan head.level head.members;
        count = refl;
        stand = λ k slots e.
            stand k (make slots)
            (get_low (sets_in own) later k (let within = slice_get_within (lists_of (space_of plan head.level head.members)) k slots e in omega arith)
            ∙ get-map make (lists_of space) k
            ∙ ap (option_map make) e);
        within = omega arith;
      },
      all_ahead plan (first + count) hs valid.1 among.1 listed.1
          (λ n geo e.
          ap (slice_get (sets_of plan)) (let f : first + length (lists_of (space_of plan head.level head.members)) + n ≡ first + (length (lists_of (space_of plan head.level head.members)) + n) = omega arith in f)
          ∙ stand (count + n) geo
          (get_high (sets_in own) later (count + n) (omega arith)
          ∙ ap (slice_get later) (let d : length (lists_of (space_of plan head.level head.members)) + n - length (sets_in own) ≡ n = omega arith in d)
          ∙ e))
          (omega arith),
    )

-- heads that begin after a rank
keep_ahead : (plan : Plan) (at rank : ℕ) (items : List HeadSets) → Ahead plan at items → rank < at → Ahead plan at (filter (λ sets. nat_lt rank (end_of sets)) items)
unfolding Ahead
keep_ahead plan at rank [] ahead below = ahead
keep_ahead plan at rank (sets ∷ later) ahead below =
    let high : at ≤ sets.first + sets.count = ahead.1 in
    let count : sets.count ≡ length (lists_of sets.space) = ahead.2.count in
    let rest = filter (λ s. nat_lt rank (end_of s)) later in
    let P : Bool → Type 0 = λ b. Ahead plan at (cond b (sets ∷ rest) rest) in
    subst P (sym (lt-ltb rank (sets.first + length (lists_of sets.space)) (omega arith)))
    (ahead.0, ahead.1, ahead.2, keep_ahead plan (sets.first + sets.count) rank later ahead.3 (omega arith))

-- heads that end after a rank
skip_ahead : (plan : Plan) (at rank : ℕ) (items : List HeadSets) → Ahead plan at items → at ≤ rank → Ahead plan rank (filter (λ sets. nat_lt rank (end_of sets)) items)
unfolding Ahead
skip_ahead plan at rank [] ahead low = let e : total_of plan ≤ at = ahead in omega arith
skip_ahead plan at rank (sets ∷ later) ahead low =
    let first : sets.first ≤ at = ahead.0 in
    let count : sets.count ≡ length (lists_of sets.space) = ahead.2.count in
    let rest = filter (λ s. nat_lt rank (end_of s)) later in
    let P : Bool → Type 0 = λ b. Ahead plan rank (cond b (sets ∷ rest) rest) in
    elim (cases_lt rank (sets.first + length (lists_of sets.space))) [
      | inl below ↦ subst P (sym (lt-ltb rank (sets.first + length (lists_of sets.space)) below))
          ((omega arith), (omega arith), ahead.2, keep_ahead plan (sets.first + sets.count) rank later ahead.3 (omega arith))
      | inr past ↦ subst P (sym (le-ltb rank (sets.first + length (lists_of sets.space)) past)) (skip_ahead plan (sets.first + sets.count) rank later ahead.3 (omega arith))
    ]

-- from a rank on
pub ahead_from : (plan : Plan) (rank : ℕ) → IsPlan plan → Ahead plan rank (filter (λ sets. nat_lt rank (end_of sets)) (heads_of plan))
ahead_from plan rank is_plan =
    skip_ahead plan 0 rank (heads_of plan)
    (all_ahead plan 0 (heads plan.bounds) (valid_heads plan is_plan) (among_heads plan.bounds) (each_among (heads plan.bounds))
    (λ n geo e. ap (λ (k : ℕ). slice_get (sets_of plan) k) (let f : 0 + n ≡ n = omega arith in f) ∙ ap (λ (l : List Geometry). slice_get l n) (heads_make plan) ∙ e)
    (let all = all_counted plan in omega arith))
    (omega arith)
