-- The group of heads in whose sets a rank lies.
use Rattle.std.proofs.Common.{rules, ℕ, zero, suc, ◌≡◌, ◌<◌, ◌≤◌, ◌+◌, ◌-◌, ◌*◌, ◌⊎◌, inl, inr, Bool, true, false, ◌&&◌, ◌==◌, cond, nat_lt, List, [], ◌∷◌, ◌++◌, length, filter, refl, sym, ap, ap₂, ◌∙◌, subst, arith, length-append, Option, Some, None, slice_get, option_map, Contains}
use Rattle.std.proofs.Math.Nat.{mul-add, mul-le-mul_right, suc-mul, zero-mul, mul-zero}
use Rattle.std.proofs.lemmas.Bool.{cases_lt, eq-eqb, eqb-true, and_parts, le-ltb, lt-ltb}
use Rattle.std.proofs.lemmas.Option.{slice_get_within}
use Rattle.std.specs.List.{flat_map, position, slice_index}
use Rattle.raid_params.specs.Bases.{greatest_base}
use Rattle.raid_params.specs.declared.types.Geometry.{Geometry}
use Rattle.raid_params.specs.declared.types.Head.{Head}
use Rattle.search_plan.specs.Places.{level_place, pattern_place, syndrome_place}
use Rattle.plan_sets.specs.Sets.{is_same_set}
use Rattle.search_plan.specs.declared.plan.Plan.{Plan}
use Rattle.slot_math.proofs.Nested.{get_high, get_low}
use Rattle.slot_math.specs.Space.{same_slots}
use Rattle.set_product.proofs.Pairs.{or_later, place_within, position_append, position_map, position_never, position_pairs, position_same, position_step}
use Rattle.set_product.specs.Heads.{end_of, numbered, space_of}
use Rattle.set_product.specs.Pairs.{joined, pairs}
use Rattle.set_product.specs.declared.heads.HeadSets.{HeadSets}
use Rattle.wide_product.proofs.Spread.{based_count, based_in, based_set, lists, common_count, common_in, common_set, spread}
use Rattle.wide_product.proofs.Walks.{first_held, later_held}
use Rattle.wide_product.specs.Bases.{same_bases}
use Rattle.wide_product.specs.Groups.{bases_of, with_first}
use Rattle.wide_product.specs.Sets.{is_same_based, Based}

-- the heads that end after a rank
abbrev pub ending_after : ℕ → List HeadSets → List HeadSets
ending_after rank all = filter (λ sets. nat_lt rank (end_of sets)) all

abbrev numbered_one : Plan → ℕ → Head → HeadSets
numbered_one plan first head = record { head = head; space = space_of plan head.level head.members; first = first; count = length (lists plan head) }

-- the heads with sets after a rank, of those that differ in their offset alone: which is the first
pub record InGroup (plan : Plan) (head : Head) (offsets : List ℕ) (first rank : ℕ) (sets : HeadSets) : Type 0 where
  pub place : ℕ
  pub offset : slice_get offsets place ≡ Some sets.head.offset
  pub head_is : sets.head ≡ record head { offset = sets.head.offset }
  pub space : sets.space ≡ space_of plan head.level head.members
  pub count : sets.count ≡ length (lists plan head)
  pub begins : sets.first ≡ first + place * length (lists plan head)
  pub low : sets.first ≤ rank
  pub high : rank < sets.first + length (lists plan head)

some_same : {A : Type 0} (x y : A) → (let l : Option A = Some x in let r : Option A = Some y in l ≡ r) → x ≡ y
some_same {A} x y e = search rules

pub in_group : (plan : Plan) (head : Head) (offsets : List ℕ) (first rank : ℕ) (rest : List Head) (sets : HeadSets) → first ≤ rank → rank < first + length offsets * length (lists plan head) →
    slice_get (ending_after rank (numbered plan first (spread offsets head ++ rest))) 0 ≡ Some sets → InGroup plan head offsets first rank sets
unfolding numbered
in_group plan head [] first rank rest sets low high is = let none = zero-mul (length (lists plan head)) in absurd (omega arith)
in_group plan head (o ∷ offsets) first rank rest sets low high is = elim (cases_lt rank (first + length (lists plan head))) [
  | inl here ↦
      let own = numbered_one plan first (record head { offset = o }) in
      let tail = ending_after rank (numbered plan (first + length (lists plan head)) (spread offsets head ++ rest)) in
      let kept : slice_get (cond (nat_lt rank (first + length (lists plan head))) (numbered_one plan first (record head { offset = o }) ∷ tail) tail) 0 ≡ Some sets = is in
      let same : numbered_one plan first (record head { offset = o }) ≡ sets = some_same own sets (sym (ap (λ (b : Bool). slice_get (cond b (own ∷ tail) tail) 0) (lt-ltb rank (first + length (lists plan head)) here)) ∙ kept) in
      let P : HeadSets → Type 0 = λ s. InGroup plan head (o ∷ offsets) first rank s in
      let none = zero-mul (length (lists plan head)) in
      subst P same (record { place = 0; offset = refl; head_is = refl; space = refl; count = refl; begins = omega arith; low = low; high = here })
  | inr past ↦
      let own = numbered_one plan first (record head { offset = o }) in
      let tail = ending_after rank (numbered plan (first + length (lists plan head)) (spread offsets head ++ rest)) in
      let kept : slice_get (cond (nat_lt rank (first + length (lists plan head))) (numbered_one plan first (record head { offset = o }) ∷ tail) tail) 0 ≡ Some sets = is in
      let left : slice_get (ending_after rank (numbered plan (first + length (lists plan head)) (spread offsets head ++ rest))) 0 ≡ Some sets = sym (ap (λ (b : Bool). slice_get (cond b (own ∷ tail) tail) 0) (le-ltb rank (first + length (lists plan head)) past)) ∙ kept in
      let step = suc-mul (length offsets) (length (lists plan head)) in
      let found = in_group plan head offsets (first + length (lists plan head)) rank rest sets past (omega arith) left in
      let more = suc-mul found.place (length (lists plan head)) in
      let begins = found.begins in
      record { place = suc found.place; offset = found.offset; head_is = found.head_is; space = found.space; count = found.count; begins = omega arith; low = found.low; high = found.high }
]

past_group : (plan : Plan) (head : Head) (offsets : List ℕ) (first rank : ℕ) (rest : List Head) → first + length offsets * length (lists plan head) ≤ rank →
    ending_after rank (numbered plan first (spread offsets head ++ rest)) ≡ ending_after rank (numbered plan (first + length offsets * length (lists plan head)) rest)
unfolding numbered
past_group plan head [] first rank rest past = ap (λ (n : ℕ). ending_after rank (numbered plan n rest)) (let none = zero-mul (length (lists plan head)) in let e : first ≡ first + zero * length (lists plan head) = omega arith in e)
past_group plan head (o ∷ offsets) first rank rest past =
    let own = numbered_one plan first (record head { offset = o }) in
    let tail = ending_after rank (numbered plan (first + length (lists plan head)) (spread offsets head ++ rest)) in
    let step = suc-mul (length offsets) (length (lists plan head)) in
    ap (λ (b : Bool). cond b (own ∷ tail) tail) (le-ltb rank (first + length (lists plan head)) (omega arith))
    ∙ past_group plan head offsets (first + length (lists plan head)) rank rest (omega arith)
    ∙ ap (λ (n : ℕ). ending_after rank (numbered plan n rest)) (let e : first + length (lists plan head) + length offsets * length (lists plan head) ≡ first + suc (length offsets) * length (lists plan head) = omega arith in e)

-- two lists of bases that are the same are equal
pub same_are_equal : (a b : List ℕ) → same_bases a b ≡ true → a ≡ b
unfolding same_bases
same_are_equal [] [] e = refl
same_are_equal [] (y ∷ b) e = absurd (search rules)
same_are_equal (x ∷ a) [] e = absurd (search rules)
same_are_equal (x ∷ a) (y ∷ b) e =
    let parts = and_parts (x == y) (same_bases a b) e in
    ap₂ (λ (n : ℕ) (l : List ℕ). n ∷ l) (eqb-true x y parts.0) (same_are_equal a b parts.1)

-- a set has what the head has beside its offset
abbrev pub same_start : Geometry → Head → Bool
same_start geo head =
    (level_place geo.head.level == level_place head.level && geo.head.members == head.members)
    && (((pattern_place geo.head.pattern == pattern_place head.pattern && geo.head.delay == head.delay) && syndrome_place geo.head.syndrome == syndrome_place head.syndrome) && geo.head.chunk == head.chunk)

regroup : (a b c o s t : Bool) → (t ≡ true → o ≡ true) → (((a && (b && (c && o))) && s) && t) ≡ (((a && (b && c)) && t) && s)
regroup a b c o s true h = ap (λ (x : Bool). ((a && (b && (c && x))) && s) && true) (h refl) ∙ simple a b c s
  where
    simple : (a b c s : Bool) → (((a && (b && (c && true))) && s) && true) ≡ (((a && (b && c)) && true) && s)
    simple false b c s = refl
    simple true false c s = refl
    simple true true false s = refl
    simple true true true true = refl
    simple true true true false = refl
regroup a b c o s false h = none ((a && (b && (c && o))) && s) ∙ sym (ap (λ (x : Bool). x && s) (none (a && (b && c))))
  where
    none : (x : Bool) → (x && false) ≡ false
    none true = refl
    none false = refl

regroup_common : (a b c o s : Bool) → ((a && (b && (c && o))) && s) ≡ (((a && (b && c)) && o) && s)
regroup_common false b c o s = refl
regroup_common true false c o s = refl
regroup_common true true false o s = refl
regroup_common true true true o s = refl

-- the place of what begins with a choice that holds or not
chosen : {A : Type 0} (b : Bool) (p : A → Bool) (xs : List A) → position (λ x. b && p x) xs ≡ cond b (position p xs) None
chosen true p xs = refl
chosen {A} false p xs = position_never (λ (x : A). false) xs (λ x. refl)

-- the place of a set among those of a head with each list of bases
pub based_place : (plan : Plan) (head : Head) (set : Based) → set.0.head.offset ≡ greatest_base set.1 →
    position (is_same_based set) (based_in plan head) ≡ joined (length (lists plan head)) (cond (same_start set.0 head) (position (same_bases set.1) (bases_of plan)) None) (position (same_slots set.0.slots.items) (lists plan head))
based_place plan head set greatest =
    position_map (is_same_based set) (based_set head) (pairs (bases_of plan) (lists plan head))
    ∙ position_same (λ (p : List ℕ × List (Option ℕ)). is_same_based set (based_set head p)) (λ (p : List ℕ × List (Option ℕ)). (same_start set.0 head && same_bases set.1 p.0) && same_slots set.0.slots.items p.1) (pairs (bases_of plan) (lists plan head))
    (λ p. regroup (level_place set.0.head.level == level_place head.level && set.0.head.members == head.members)
    ((pattern_place set.0.head.pattern == pattern_place head.pattern && set.0.head.delay == head.delay) && syndrome_place set.0.head.syndrome == syndrome_place head.syndrome) (set.0.head.chunk == head.chunk)
    (set.0.head.offset == greatest_base p.0) (same_slots set.0.slots.items p.1) (same_bases set.1 p.0)
    (λ same. eq-eqb set.0.head.offset (greatest_base p.0) (greatest ∙ ap greatest_base (same_are_equal set.1 p.0 same))))
    ∙ position_pairs (λ (bases : List ℕ). same_start set.0 head && same_bases set.1 bases) (same_slots set.0.slots.items) (bases_of plan) (lists plan head)
    ∙ ap (λ (o : Option ℕ). joined (length (lists plan head)) o (position (same_slots set.0.slots.items) (lists plan head))) (chosen (same_start set.0 head) (same_bases set.1) (bases_of plan))

-- the place of a set with the first offset among those of a head with each offset
common_place : (plan : Plan) (head : Head) (geo : Geometry) → 1 ≤ length plan.bounds.offsets.items →
    position (is_same_set (with_first plan geo)) (common_in plan head) ≡ joined (length (lists plan head)) (cond (same_start geo head) (Some 0) None) (position (same_slots geo.slots.items) (lists plan head))
common_place plan head geo some =
    let first = with_first plan geo in
    position_map (is_same_set first) (common_set head) (pairs plan.bounds.offsets.items (lists plan head))
    ∙ position_same (λ (p : ℕ × List (Option ℕ)). is_same_set first (common_set head p)) (λ (p : ℕ × List (Option ℕ)). (same_start geo head && first.head.offset == p.0) && same_slots geo.slots.items p.1) (pairs plan.bounds.offsets.items (lists plan head))
    (λ p. regroup_common (level_place geo.head.level == level_place head.level && geo.head.members == head.members)
    ((pattern_place geo.head.pattern == pattern_place head.pattern && geo.head.delay == head.delay) && syndrome_place geo.head.syndrome == syndrome_place head.syndrome) (geo.head.chunk == head.chunk)
    (first.head.offset == p.0) (same_slots geo.slots.items p.1))
    ∙ position_pairs (λ (offset : ℕ). same_start geo head && first.head.offset == offset) (same_slots geo.slots.items) plan.bounds.offsets.items (lists plan head)
    ∙ ap (λ (o : Option ℕ). joined (length (lists plan head)) o (position (same_slots geo.slots.items) (lists plan head)))
    (chosen (same_start geo head) (λ (offset : ℕ). first.head.offset == offset) plan.bounds.offsets.items ∙ ap (λ (o : Option ℕ). cond (same_start geo head) o None) (at_first plan.bounds.offsets.items some))
  where
    at_first : (offsets : List ℕ) → 1 ≤ length offsets → position (λ offset. slice_index offsets 0 == offset) offsets ≡ Some 0
    at_first [] some = absurd (omega arith)
    at_first (o ∷ offsets) some = position_step (λ (offset : ℕ). o == offset) o offsets ∙ ap (λ (b : Bool). cond b (Some 0) (option_map (λ n. suc n) (position (λ offset. o == offset) offsets))) (eq-eqb o o refl)

-- where a list of bases is none of the plan's, no set has it
pub none_based : (plan : Plan) (set : Based) (hs : List Head) → set.0.head.offset ≡ greatest_base set.1 → position (same_bases set.1) (bases_of plan) ≡ None →
    position (is_same_based set) (flat_map (based_in plan) hs) ≡ None
none_based plan set [] greatest none = refl
none_based plan set (head ∷ hs) greatest none =
    position_append (is_same_based set) (based_in plan head) (flat_map (based_in plan) hs)
    ∙ ap₂ (λ (a b : Option ℕ). or_later a (length (based_in plan head)) b)
    (based_place plan head set greatest
    ∙ ap (λ (o : Option ℕ). joined (length (lists plan head)) (cond (same_start set.0 head) o None) (position (same_slots set.0.slots.items) (lists plan head))) none
    ∙ ap (λ (o : Option ℕ). joined (length (lists plan head)) o (position (same_slots set.0.slots.items) (lists plan head))) (no_choice (same_start set.0 head)))
    (none_based plan set hs greatest none)
  where
    no_choice : (b : Bool) → cond {A = Option ℕ} b None None ≡ None
    no_choice true = refl
    no_choice false = refl

-- the place among the sets with bases, by that among the sets that have the first offset in common
abbrev Place : ℕ → Bool → Option ℕ → Option ℕ → Option ℕ × Option ℕ
Place count start bases slots = (joined count (cond start (Some 0) None) slots, joined count (cond start bases None) slots)

-- both places, where the set has the head's start and one of its slot lists; or neither
both_or_none : (count : ℕ) (start : Bool) (bases slots : Option ℕ) → ((k : ℕ) → slots ≡ Some k → k < count) →
    ((k : ℕ) × (k < count) × (joined count (cond start (Some 0) None) slots ≡ Some k) × (joined count (cond start bases None) slots ≡ option_map (λ e. e * count + k) bases))
    ⊎ ((joined count (cond start (Some 0) None) slots ≡ None) × (joined count (cond start bases None) slots ≡ None))
both_or_none count true None (Some k) below = inl (k, below k refl, ap (λ (n : ℕ). Some n) (let z = zero-mul count in let e : 0 * count + k ≡ k = omega arith in e), refl)
both_or_none count true (Some b) (Some k) below = inl (k, below k refl, ap (λ (n : ℕ). Some n) (let z = zero-mul count in let e : 0 * count + k ≡ k = omega arith in e), refl)
both_or_none count true None None below = inr (refl, refl)
both_or_none count true (Some b) None below = inr (refl, refl)
both_or_none count false bases slots below = inr (refl, refl)

places : (plan : Plan) (head : Head) (set : Based) → 1 ≤ length plan.bounds.offsets.items → set.0.head.offset ≡ greatest_base set.1 →
    ((k : ℕ) × (k < length (lists plan head)) × (position (is_same_set (with_first plan set.0)) (common_in plan head) ≡ Some k)
    × (position (is_same_based set) (based_in plan head) ≡ option_map (λ e. e * length (lists plan head) + k) (position (same_bases set.1) (bases_of plan))))
    ⊎ ((position (is_same_set (with_first plan set.0)) (common_in plan head) ≡ None) × (position (is_same_based set) (based_in plan head) ≡ None))
places plan head set some greatest =
    let common = common_place plan head set.0 some in
    let based = based_place plan head set greatest in
    elim (both_or_none (length (lists plan head)) (same_start set.0 head) (position (same_bases set.1) (bases_of plan)) (position (same_slots set.0.slots.items) (lists plan head)) (λ k e. place_within (same_slots set.0.slots.items) (lists plan head) k e)) [
      | inl both ↦ inl (both.0, both.1, common ∙ both.2, based ∙ both.3)
      | inr none ↦ inr (common ∙ none.0, based ∙ none.1)
    ]

-- a set that is not among the sets that have a common offset, but for its bases, is not among those with bases
pub none_common : (plan : Plan) (set : Based) (hs : List Head) → 1 ≤ length plan.bounds.offsets.items → set.0.head.offset ≡ greatest_base set.1 →
    position (is_same_set (with_first plan set.0)) (flat_map (common_in plan) hs) ≡ None → position (is_same_based set) (flat_map (based_in plan) hs) ≡ None
none_common plan set [] some greatest none = refl
none_common plan set (head ∷ hs) some greatest none =
    let split : or_later (position (is_same_set (with_first plan set.0)) (common_in plan head)) (length (common_in plan head)) (position (is_same_set (with_first plan set.0)) (flat_map (common_in plan) hs)) ≡ None =
    sym (position_append (is_same_set (with_first plan set.0)) (common_in plan head) (flat_map (common_in plan) hs)) ∙ none in
    elim (places plan head set some greatest) [
      | inl both ↦ absurd (let there : Some both.0 ≡ None = sym (ap (λ (o : Option ℕ). or_later o (length (common_in plan head)) (position (is_same_set (with_first plan set.0)) (flat_map (common_in plan) hs))) both.2) ∙ split in search rules)
      | inr neither ↦
          position_append (is_same_based set) (based_in plan head) (flat_map (based_in plan) hs)
          ∙ ap₂ (λ (a b : Option ℕ). or_later a (length (based_in plan head)) b) neither.1
          (none_common plan set hs some greatest (both_none (length (common_in plan head)) (position (is_same_set (with_first plan set.0)) (flat_map (common_in plan) hs))
          (sym (ap (λ (o : Option ℕ). or_later o (length (common_in plan head)) (position (is_same_set (with_first plan set.0)) (flat_map (common_in plan) hs))) neither.0) ∙ split)))
    ]
  where
    both_none : (n : ℕ) (o : Option ℕ) → or_later None n o ≡ None → o ≡ None
    both_none n None e = refl
    both_none n (Some k) e = absurd (search rules)

-- the group of a rank: so many slot lists are before it, and its sets stand where these say
pub record Found (plan : Plan) (hs : List Head) (first rank : ℕ) (sets : HeadSets) : Type 0 where
  pub head : Head
  pub among : Contains hs head
  pub before : ℕ
  pub group : InGroup plan head plan.bounds.offsets.items (first + length plan.bounds.offsets.items * before) rank sets
  pub low : first + length plan.bounds.offsets.items * before ≤ rank
  pub high : rank < first + length plan.bounds.offsets.items * before + length plan.bounds.offsets.items * length (lists plan head)
  pub stand : (i : ℕ) (set : Based) → slice_get (based_in plan head) i ≡ Some set → slice_get (flat_map (based_in plan) hs) (length (bases_of plan) * before + i) ≡ Some set
  pub within : length (bases_of plan) * before + length (bases_of plan) * length (lists plan head) ≤ length (flat_map (based_in plan) hs)
  pub ranked : (set : Based) → set.0.head.offset ≡ greatest_base set.1 → position (is_same_set (with_first plan set.0)) (flat_map (common_in plan) hs) ≡ Some (rank - first) →
      position (is_same_based set) (flat_map (based_in plan) hs) ≡ option_map (λ e. length (bases_of plan) * before + (e * length (lists plan head) + (rank - (first + length plan.bounds.offsets.items * before)))) (position (same_bases set.1) (bases_of plan))

-- in the first group
found_here : (plan : Plan) (head : Head) (hs : List Head) (first rank : ℕ) (sets : HeadSets) → 1 ≤ length plan.bounds.offsets.items → first ≤ rank → rank < first + length plan.bounds.offsets.items * length (lists plan head) →
    slice_get (ending_after rank (numbered plan first (spread plan.bounds.offsets.items head ++ flat_map (spread plan.bounds.offsets.items) hs))) 0 ≡ Some sets → Found plan (head ∷ hs) first rank sets
found_here plan head hs first rank sets some low high is =
    let offsets = plan.bounds.offsets.items in
    let none : length plan.bounds.offsets.items * 0 ≡ 0 = mul-zero (length plan.bounds.offsets.items) in
    let based_none : length (bases_of plan) * 0 ≡ 0 = mul-zero (length (bases_of plan)) in
    let here : first ≡ first + length plan.bounds.offsets.items * 0 = omega arith in
    let P : ℕ → Type 0 = λ n. InGroup plan head plan.bounds.offsets.items n rank sets in
    let count = based_count plan head in
    let all = length-append (based_in plan head) (flat_map (based_in plan) hs) in
    record {
      head = head;
      among = first_held head hs;
      before = 0;
      group = subst P here (in_group plan head offsets first rank (flat_map (spread offsets) hs) sets low high is);
      low = omega arith;
      high = omega arith;
      stand = λ i set e.
          ap (slice_get (based_in plan head ++ flat_map (based_in plan) hs)) (let f : length (bases_of plan) * 0 + i ≡ i = omega arith in f)
          ∙ get_low (based_in plan head) (flat_map (based_in plan) hs) i (slice_get_within (based_in plan head) i set e)
          ∙ e;
      within = omega arith;
      ranked = λ set greatest at.
          (let split : or_later (position (is_same_set (with_first plan set.0)) (common_in plan head)) (length (common_in plan head)) (position (is_same_set (with_first plan set.0)) (flat_map (common_in plan) hs)) ≡ Some (rank - first) =
          sym (position_append (is_same_set (with_first plan set.0)) (common_in plan head) (flat_map (common_in plan) hs)) ∙ at in
          let bases = position (same_bases set.1) (bases_of plan) in
          elim (places plan head set some greatest) [
            | inl both ↦
                let place : both.0 ≡ rank - first = some_number both.0 (rank - first) (sym (ap (λ (o : Option ℕ). or_later o (length (common_in plan head)) (position (is_same_set (with_first plan set.0)) (flat_map (common_in plan) hs))) both.2) ∙ split) in
                position_append (is_same_based set) (based_in plan head) (flat_map (based_in plan) hs)
                ∙ ap (λ (o : Option ℕ). or_later o (length (based_in plan head)) (position (is_same_based set) (flat_map (based_in plan) hs))) both.3
                ∙ of_bases set both.0 (position (same_bases set.1) (bases_of plan)) refl place greatest
            | inr neither ↦
                let later : or_later None (length (common_in plan head)) (position (is_same_set (with_first plan set.0)) (flat_map (common_in plan) hs)) ≡ Some (rank - first) =
                sym (ap (λ (o : Option ℕ). or_later o (length (common_in plan head)) (position (is_same_set (with_first plan set.0)) (flat_map (common_in plan) hs))) neither.0) ∙ split in
                let past = later_place (length (common_in plan head)) (position (is_same_set (with_first plan set.0)) (flat_map (common_in plan) hs)) (rank - first) later in
                let long = common_count plan head in
                let at_least = past.1 in
                absurd (omega arith)
          ]);
    }
  where
    some_number : (a b : ℕ) → (let l : Option ℕ = Some a in let r : Option ℕ = Some b in l ≡ r) → a ≡ b
    some_number a b e = search rules

    of_bases : (set : Based) (k : ℕ) (bases : Option ℕ) → position (same_bases set.1) (bases_of plan) ≡ bases → k ≡ rank - first → set.0.head.offset ≡ greatest_base set.1 →
        or_later (option_map (λ e. e * length (lists plan head) + k) bases) (length (based_in plan head)) (position (is_same_based set) (flat_map (based_in plan) hs))
        ≡ option_map (λ e. length (bases_of plan) * 0 + (e * length (lists plan head) + (rank - (first + length plan.bounds.offsets.items * 0)))) bases
    of_bases set k None is place greatest = ap (or_later None (length (based_in plan head))) (none_based plan set hs greatest is)
    of_bases set k (Some e) is place greatest = ap (λ (n : ℕ). Some n) (let a = mul-zero (length (bases_of plan)) in let b = mul-zero (length plan.bounds.offsets.items) in let f : e * length (lists plan head) + k ≡ length (bases_of plan) * 0 + (e * length (lists plan head) + (rank - (first + length plan.bounds.offsets.items * 0))) = omega arith in f)

    later_place : (n : ℕ) (o : Option ℕ) (r : ℕ) → or_later None n o ≡ Some r → (o ≡ Some (r - n)) × (n ≤ r)
    later_place n None r e = absurd (search rules)
    later_place n (Some k) r e = let same : n + k ≡ r = some_number (n + k) r e in (ap (λ (m : ℕ). Some m) (let f : k ≡ r - n = omega arith in f), omega arith)

-- the group of a rank, of any heads
pub find : (plan : Plan) (hs : List Head) (first rank : ℕ) (sets : HeadSets) → 1 ≤ length plan.bounds.offsets.items → first ≤ rank → rank < first + length (flat_map (common_in plan) hs) →
    slice_get (ending_after rank (numbered plan first (flat_map (spread plan.bounds.offsets.items) hs))) 0 ≡ Some sets → Found plan hs first rank sets
find plan [] first rank sets some low high is = absurd (omega arith)
find plan (head ∷ hs) first rank sets some low high is = elim (cases_lt rank (first + length plan.bounds.offsets.items * length (lists plan head))) [
  | inl here ↦ found_here plan head hs first rank sets some low here is
  | inr past ↦
      let offsets = plan.bounds.offsets.items in
      let next = first + length plan.bounds.offsets.items * length (lists plan head) in
      let long = common_count plan head in
      let count = based_count plan head in
      let common_all = length-append (common_in plan head) (flat_map (common_in plan) hs) in
      let all = length-append (based_in plan head) (flat_map (based_in plan) hs) in
      let left : slice_get (ending_after rank (numbered plan (first + length plan.bounds.offsets.items * length (lists plan head)) (flat_map (spread plan.bounds.offsets.items) hs))) 0 ≡ Some sets =
      sym (ap (λ (l : List HeadSets). slice_get l 0) (past_group plan head offsets first rank (flat_map (spread offsets) hs) past)) ∙ is in
      let found = find plan hs (first + length plan.bounds.offsets.items * length (lists plan head)) rank sets some past (omega arith) left in
      let before = found.before in
      let common_more : length plan.bounds.offsets.items * (length (lists plan head) + found.before) ≡ length plan.bounds.offsets.items * length (lists plan head) + length plan.bounds.offsets.items * found.before = mul-add (length plan.bounds.offsets.items) (length (lists plan head)) before in
      let based_more : length (bases_of plan) * (length (lists plan head) + found.before) ≡ length (bases_of plan) * length (lists plan head) + length (bases_of plan) * found.before = mul-add (length (bases_of plan)) (length (lists plan head)) before in
      let here : first + length plan.bounds.offsets.items * length (lists plan head) + length plan.bounds.offsets.items * found.before ≡ first + length plan.bounds.offsets.items * (length (lists plan head) + found.before) = omega arith in
      let P : ℕ → Type 0 = λ n. InGroup plan found.head plan.bounds.offsets.items n rank sets in
      let found_low = found.low in
      let found_high = found.high in
      let found_within = found.within in
      record {
        head = found.head;
        among = later_held head found.head hs found.among;
        before = length (lists plan head) + found.before;
        group = subst P here found.group;
        low = omega arith;
        high = omega arith;
        stand = λ i set e.
            get_high (based_in plan head) (flat_map (based_in plan) hs) (length (bases_of plan) * (length (lists plan head) + found.before) + i) (omega arith)
            ∙ ap (slice_get (flat_map (based_in plan) hs)) (let f : length (bases_of plan) * (length (lists plan head) + found.before) + i - length (based_in plan head) ≡ length (bases_of plan) * found.before + i = omega arith in f)
            ∙ found.stand i set e;
        within = omega arith;
        ranked = λ set greatest at.
            (let split : or_later (position (is_same_set (with_first plan set.0)) (common_in plan head)) (length (common_in plan head)) (position (is_same_set (with_first plan set.0)) (flat_map (common_in plan) hs)) ≡ Some (rank - first) =
            sym (position_append (is_same_set (with_first plan set.0)) (common_in plan head) (flat_map (common_in plan) hs)) ∙ at in
            elim (places plan head set some greatest) [
              | inl both ↦
                  let place : both.0 ≡ rank - first = some_number both.0 (rank - first) (sym (ap (λ (o : Option ℕ). or_later o (length (common_in plan head)) (position (is_same_set (with_first plan set.0)) (flat_map (common_in plan) hs))) both.2) ∙ split) in
                  let below : both.0 < length (lists plan head) = both.1 in
                  let fewer : 1 * length (lists plan head) ≤ length plan.bounds.offsets.items * length (lists plan head) = mul-le-mul_right (length (lists plan head)) some in
                  absurd (omega arith)
              | inr neither ↦
                  let later : or_later None (length (common_in plan head)) (position (is_same_set (with_first plan set.0)) (flat_map (common_in plan) hs)) ≡ Some (rank - first) =
                  sym (ap (λ (o : Option ℕ). or_later o (length (common_in plan head)) (position (is_same_set (with_first plan set.0)) (flat_map (common_in plan) hs))) neither.0) ∙ split in
                  let tail : position (is_same_set (with_first plan set.0)) (flat_map (common_in plan) hs) ≡ Some (rank - (first + length plan.bounds.offsets.items * length (lists plan head))) =
                  later_place (length (common_in plan head)) (position (is_same_set (with_first plan set.0)) (flat_map (common_in plan) hs)) (rank - first) later
                  ∙ ap (λ (n : ℕ). Some n) (let f : rank - first - length (common_in plan head) ≡ rank - (first + length plan.bounds.offsets.items * length (lists plan head)) = omega arith in f) in
                  position_append (is_same_based set) (based_in plan head) (flat_map (based_in plan) hs)
                  ∙ ap₂ (λ (a b : Option ℕ). or_later a (length (based_in plan head)) b) neither.1 (found.ranked set greatest tail)
                  ∙ padded (length (based_in plan head)) (λ e. length (bases_of plan) * found.before + (e * length (lists plan found.head) + (rank - (first + length plan.bounds.offsets.items * length (lists plan head) + length plan.bounds.offsets.items * found.before))))
                  (λ e. length (bases_of plan) * (length (lists plan head) + found.before) + (e * length (lists plan found.head) + (rank - (first + length plan.bounds.offsets.items * (length (lists plan head) + found.before)))))
                  (λ e. omega arith) (position (same_bases set.1) (bases_of plan))
            ]);
      }
]
  where
    some_number : (a b : ℕ) → (let l : Option ℕ = Some a in let r : Option ℕ = Some b in l ≡ r) → a ≡ b
    some_number a b e = search rules

    later_place : (n : ℕ) (o : Option ℕ) (r : ℕ) → or_later None n o ≡ Some r → o ≡ Some (r - n)
    later_place n None r e = absurd (search rules)
    later_place n (Some k) r e = let same : n + k ≡ r = some_number (n + k) r e in ap (λ (m : ℕ). Some m) (let f : k ≡ r - n = omega arith in f)

    padded : (n : ℕ) (f g : ℕ → ℕ) → ((e : ℕ) → n + f e ≡ g e) → (o : Option ℕ) → or_later None n (option_map f o) ≡ option_map g o
    padded n f g same None = refl
    padded n f g same (Some e) = ap (λ (m : ℕ). Some m) (same e)
