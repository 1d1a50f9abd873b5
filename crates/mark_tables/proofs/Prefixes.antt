-- What the tables say of a prefix.
use Rattle.std.proofs.Common.{◌≡◌, ℕ, zero, suc, ◌+◌, ◌<◌, ◌≤◌, min, List, [], ◌∷◌, ◌++◌, length, map, replicate, take, get_or, set, arith, ap, ap₂, sym, refl, ◌∙◌, Bool, true, false, ◌==◌, ◌&&◌, ◌||◌, nat_le, if◌then◌else◌, IfSome, Option, Some, None, inl, inr, get_or-set_other, get_or-set_same}
use Rattle.std.proofs.lemmas.Bool.{cases_eq, cases_lt, eq-eqb, ne_eqb}
use Rattle.std.proofs.Math.Seq.{take-suc}
use Rattle.std.specs.List.{range_with_len, slice_index_or, sum_by}
use Rattle.std.specs.Option.{option_map_or}
use Rattle.raid_params.specs.Slots.{stands}
use Rattle.raid_params.specs.declared.limits.TheConstants.{MOST}
use Rattle.raid_params.specs.declared.types.Head.{Head}
use Rattle.landmark_rules.specs.Groups.{bounds_of, fits_asked}
use Rattle.landmark_rules.specs.declared.marks.Group.{Group}
use Rattle.slot_math.specs.Ways.{AllImages, IsPrefixOf}
use Rattle.search_plan.specs.Plans.{IsPlan}
use Rattle.search_plan.specs.declared.plan.Plan.{Plan}
use Rattle.slot_math.proofs.Held.{held_within, image_below}
use Rattle.mark_tables.specs.Marks.{counted_in, fits_at, may_hold_at, misfits_at, most_from, reserves}
use Rattle.mark_tables.specs.Tables.{AreStanding, count_at, image_count, IsOriginTable, nothing_counted}
use Rattle.mark_tables.specs.declared.counts.SlotCount.{SlotCount}
use Rattle.slot_math.proofs.Placed.{placed_alike, total_same, total_sum}
use Rattle.mark_tables.proofs.Placing.{counted_placed}
use Rattle.mark_tables.proofs.Reserves.{whole_reserves}

pub held_below : (n k : ℕ) (places : List (Option ℕ)) → AllImages n places → IfSome (slice_index_or places k None) (λ i. i < n)
held_below n k places all = by_case (slice_index_or places k None) refl
  where
    by_case : (o : Option ℕ) → slice_index_or places k None ≡ o → IfSome o (λ i. i < n)
    by_case None e = tt
    by_case (Some i) e = image_below n k i places all e

-- what an empty place counts
pub count_of : (row : List SlotCount) (held : Option ℕ) (f : SlotCount → ℕ) → f nothing_counted ≡ 0 → f (option_map_or (image_count row) held nothing_counted) ≡ option_map_or (λ image. f (image_count row image)) held 0
count_of row None f none = none
count_of row (Some image) f none = refl

-- the images that stand, one place more
stands_last : (image : ℕ) (xs : List (Option ℕ)) (held : Option ℕ) → stands image (xs ++ held ∷ []) ≡ (stands image xs || option_map_or (λ i. image == i) held false)
unfolding stands
stands_last image [] None = refl
stands_last image [] (Some i) = or_none (image == i)
  where
    or_none : (b : Bool) → (b || false) ≡ (false || b)
    or_none true = refl
    or_none false = refl
stands_last image (None ∷ xs) held = stands_last image xs held
stands_last image (Some k ∷ xs) held =
    ap (λ (b : Bool). (image == k) || b) (stands_last image xs held) ∙ regroup (image == k) (stands image xs) (option_map_or (λ i. image == i) held false)
  where
    regroup : (a b c : Bool) → (a || (b || c)) ≡ ((a || b) || c)
    regroup true b c = refl
    regroup false b c = refl

stands_more : (image k : ℕ) (xs : List (Option ℕ)) → k < length xs →
    stands image (take (k + 1) xs) ≡ (stands image (take k xs) || option_map_or (λ i. image == i) (get_or xs k None) false)
stands_more image k xs lt =
    let e : k + 1 ≡ suc k = omega arith in
    ap (λ (n : ℕ). stands image (take n xs)) e ∙ ap (stands image) (take-suc xs k None lt) ∙ stands_last image (take k xs) (get_or xs k None)

or_false : (b : Bool) → (b || false) ≡ b
or_false true = refl
or_false false = refl

or_true : (b : Bool) → (b || true) ≡ true
or_true true = refl
or_true false = refl

pub standing_skip : (places : List (Option ℕ)) (k : ℕ) (standing : List Bool) → k < length places → get_or places k None ≡ None → AreStanding (take k places) standing → AreStanding (take (k + 1) places) standing
standing_skip places k standing lt nothing are image below =
    are image below ∙ sym (stands_more image k places lt
    ∙ ap (λ (o : Option ℕ). stands image (take k places) || option_map_or (λ i. image == i) o false) nothing ∙ or_false (stands image (take k places)))

pub standing_add : (places : List (Option ℕ)) (k i : ℕ) (standing : List Bool) → k < length places → get_or places k None ≡ Some i → i < MOST → length standing ≡ MOST →
    AreStanding (take k places) standing → AreStanding (take (k + 1) places) (set standing i true)
standing_add places k i standing lt there few long are image below =
    let now = stands_more image k places lt ∙ ap (λ (o : Option ℕ). stands image (take k places) || option_map_or (λ j. image == j) o false) there in
    let within : i < length standing = omega arith in
    elim (cases_eq image i) [
      | inl e ↦
          let here : get_or (set standing i true) image false ≡ true = ap (λ (j : ℕ). get_or (set standing i true) j false) e ∙ get_or-set_same standing i true false within in
          here ∙ sym (now ∙ ap (λ (b : Bool). stands image (take k places) || b) (eq-eqb image i e) ∙ or_true (stands image (take k places)))
      | inr ne ↦
          let other : get_or (set standing i true) image false ≡ get_or standing image false = rw get_or-set_other refl in
          other ∙ are image below ∙ sym (now ∙ ap (λ (b : Bool). stands image (take k places) || b) (ne_eqb image i ne) ∙ or_false (stands image (take k places)))
    ]

-- sums that agree at each image that is held
counted_same : (f g : ℕ → ℕ → ℕ) (places : List (Option ℕ)) → ((k i : ℕ) → slice_index_or places k None ≡ Some i → f k i ≡ g k i) → counted_in f places ≡ counted_in g places
counted_same f g places same =
    counted_placed f places
    ∙ placed_alike ◌+◌ f g 0 places (λ k i e. let z : 0 + k ≡ k = omega arith in ap (λ (s : ℕ). f s i) z ∙ same k i e ∙ sym (ap (λ (s : ℕ). g s i) z))
    ∙ sym (counted_placed g places)

sum_same : (f g : ℕ → ℕ) (n : ℕ) → ((i : ℕ) → i < n → f i ≡ g i) → sum_by f (range_with_len 0 n) ≡ sum_by g (range_with_len 0 n)
sum_same f g n same =
    sym (total_sum f (range_with_len 0 n)) ∙ total_same ◌+◌ f g 0 n (λ i le lt. same i (omega arith)) ∙ total_sum g (range_with_len 0 n)

-- the answer from one origin
pub holds_from : (plan : Plan) (head : Head) (prefix : List (Option ℕ)) (group : Group) (origin : ℕ) (table : List (List SlotCount)) (standing : List Bool) (fits misfits reserve asked : ℕ) →
    IsPlan plan → IsPrefixOf (length plan.lengths.items) head.members prefix → IsOriginTable head plan.end group.marks origin table → AreStanding prefix standing →
    fits ≡ counted_in (λ slot image. (count_at table slot image).fits) prefix → misfits ≡ counted_in (λ slot image. (count_at table slot image).misfits) prefix →
    (length prefix < head.members → reserve ≡ sum_by (λ image. if get_or standing image false then 0 else (count_at table (length prefix) image).most) (range_with_len 0 (length plan.lengths.items))) →
    (head.members ≤ length prefix → reserve ≡ 0) → asked ≡ min (bounds_of plan.tests group).least (length group.marks) →
    (nat_le misfits (bounds_of plan.tests group).misfits && nat_le asked (fits + reserve)) ≡ may_hold_at plan head prefix group origin
holds_from plan head prefix group origin table standing fits misfits reserve asked is_plan is known stand fit misfit some none ask =
    let short = is.short in
    let most = is_plan.lengths.most in
    let inside : (k i : ℕ) → slice_index_or prefix k None ≡ Some i → (k < head.members) × (i < MOST)
    = λ k i e. let a = held_within k i prefix e in let b = image_below (length plan.lengths.items) k i prefix is.images e in (omega arith, omega arith) in
    let f : fits ≡ counted_in (fits_at head plan.end group.marks origin) prefix
    = fit ∙ counted_same (λ slot image. (count_at table slot image).fits) (fits_at head plan.end group.marks origin) prefix
    (λ k i e. let h = inside k i e in ((known k h.0).0 i nothing_counted h.1).0) in
    let m : misfits ≡ counted_in (misfits_at head plan.end group.marks origin) prefix
    = misfit ∙ counted_same (λ slot image. (count_at table slot image).misfits) (misfits_at head plan.end group.marks origin) prefix
    (λ k i e. let h = inside k i e in ((known k h.0).0 i nothing_counted h.1).1) in
    let r : reserve ≡ reserves (fits_at head plan.end group.marks origin) (length plan.lengths.items) head.members prefix
    = elim (cases_lt (length prefix) head.members) [
      | inl lt ↦
          some lt ∙ sum_same (λ image. if get_or standing image false then 0 else (count_at table (length prefix) image).most)
          (λ image. if stands image prefix then 0 else most_from (fits_at head plan.end group.marks origin) head.members (length prefix) image) (length plan.lengths.items)
          (λ image below. ap₂ (λ (b : Bool) (n : ℕ). if b then 0 else n) (stand image (omega arith)) ((known (length prefix) lt).1 image nothing_counted (omega arith)))
      | inr le ↦ none le ∙ sym (whole_reserves (fits_at head plan.end group.marks origin) (length plan.lengths.items) head.members prefix (omega arith))
    ] in
    ap₂ (λ (a b : ℕ). nat_le a (bounds_of plan.tests group).misfits && nat_le b (fits + reserve)) m ask
    ∙ ap₂ (λ (a b : ℕ). nat_le (counted_in (misfits_at head plan.end group.marks origin) prefix) (bounds_of plan.tests group).misfits && nat_le (fits_asked plan.tests group) (a + b)) f r

-- what stands in a list that was mapped
pub mapped_at : {A B : Type 0} (f : A → B) (xs : List A) (i : ℕ) (x : A) (d : B) → i < length xs → x ≡ get_or xs i x → get_or (map f xs) i d ≡ f x
mapped_at f [] i x d lt is = absurd (omega arith)
mapped_at f (y ∷ ys) zero x d lt is = ap f (sym is)
mapped_at f (y ∷ ys) (suc i) x d lt is = mapped_at f ys i x d (omega arith) is

-- none of n
pub none_stands : (places : List (Option ℕ)) (n : ℕ) → AreStanding [] (replicate n false)
unfolding stands
none_stands places n image below = all_false n image
  where
    all_false : (n i : ℕ) → get_or (replicate n false) i false ≡ false
    all_false zero i = refl
    all_false (suc n) zero = refl
    all_false (suc n) (suc i) = all_false n i
