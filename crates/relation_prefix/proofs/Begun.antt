-- A set that passes may begin with each prefix of its slots.
use Rattle.std.proofs.Common.{ℕ, ◌≡◌, ◌<◌, ◌≤◌, ◌+◌, ◌-◌, ◌/◌, ◌==◌, ◌&&◌, ◌||◌, nat_le, nat_lt, min, true, not, List, [], ◌∷◌, Option, None, Some, length, map, take, slice_index_or, refl, sym, ap, subst, ◌∙◌, arith, inl, inr}
use Rattle.std.specs.List.{count_by, list_all, list_any, range_with_len, AllByRecursion}
use Rattle.std.specs.Option.{is_none}
use Rattle.std.proofs.lemmas.Bool.{and_from, and_parts, cases_Bool, cases_eq, cases_lt, cond-false, cond-true, eq-eqb, false≢true, le-leb, le-ltb, leb-true, lt-ltb, ltb-true, not-true, not_from_false, or_left, or_right}
use Rattle.std.proofs.lemmas.List.{get_or-take, length-take}
use Rattle.std.proofs.lemmas.List.Elements.{recursion_from_All}
use Rattle.std.proofs.lemmas.List.FromFn.{get_or-map-range_with_len}
use Rattle.raid_layouts.proofs.Counts.{count_missing}
use Rattle.raid_layouts.proofs.Shapes.{shaped_images, shaped_slots}
use Rattle.raid_params.specs.Size.{redundancy}
use Rattle.raid_params.specs.Slots.{empties}
use Rattle.raid_params.specs.Validity.{is_shaped}
use Rattle.raid_params.specs.declared.types.Geometry.{Geometry}
use Rattle.raid_params.specs.declared.types.Head.{Head}
use Rattle.raid_params.specs.declared.types.Level.{Level}
use Rattle.raid_params.specs.declared.types.Level.TheVariants.{Raid0, Raid5, Raid6}
use Rattle.raid_terms.specs.Cells.{part_of}
use Rattle.raid_terms.specs.Parity.{is_sound_row, tested_rows, unsound_rows}
use Rattle.row_relations.specs.Tables.{IsTable}
use Rattle.relation_prefix.specs.declared.equation.Equation.{Equation}
use Rattle.relation_prefix.specs.declared.equation.Equation.TheVariants.{OfP, OfQ}
use Rattle.relation_prefix.specs.declared.sampled.PrefixTest.{PrefixTest}
use Rattle.relation_prefix.specs.declared.sampled.SampledRow.{SampledRow}
use Rattle.relation_prefix.specs.Equations.{left_without, slot_weight}
use Rattle.relation_prefix.specs.Laws.{prefix_test, AreRowsOf, IsRowOf, PassingSetsMayBegin}
use Rattle.relation_prefix.specs.Prefixes.{Allows, AllowsAll, Holds}
use Rattle.relation_prefix.specs.Sampled.{allows_by, equations_of, few_refuse, is_raid6, is_untested, may_be_lost, may_begin_with, may_lose, refuses, row_allows}
use Rattle.relation_prefix.specs.Ties.{AreSlots, AreWeightsOf}
use Rattle.relation_prefix.proofs.Bytes.{any_at}
use Rattle.relation_prefix.proofs.Columns.{IsOpen}
use Rattle.relation_prefix.proofs.Counting.{count_keys, rises_from, KeysPass}
use Rattle.relation_prefix.proofs.Lost.{IsOneLost, empties_front, empties_rest, one_lost}
use Rattle.relation_prefix.proofs.Pinned.{values_of}
use Rattle.relation_prefix.proofs.Sound.{in_slots, left_allowed, less_one, level_of_two, most_two, twice, untested, whole}
use Rattle.relation_prefix.proofs.Told.{told}

-- one slot alone is the lost one, in whichever row
same_lost : (head : Head) (row other a : ℕ) (slots : List (Option ℕ)) (m n : ℕ) → IsOneLost head row a slots m → IsOneLost head other a slots n → m ≡ n
same_lost head row other a slots m n one two = elim (cases_lt m n) [
  | inl less ↦ absurd (let none = two.before (m + 1) (omega arith) in let some = one.after (m + 1) (omega arith) in omega arith)
  | inr most ↦
      elim (cases_lt n m) [
        | inl more ↦ absurd (let none = one.before (n + 1) (omega arith) in let some = two.after (n + 1) (omega arith) in omega arith)
        | inr least ↦ omega arith
      ]
]

lost_there : (head : Head) (row other : ℕ) (slots : List (Option ℕ)) (m : ℕ) → empties slots ≡ 1 → IsOneLost head row 0 slots m → IsOneLost head other 0 slots m
lost_there head row other slots m e one =
    let two = one_lost head other 0 slots e in
    subst (λ (n : ℕ). IsOneLost head other 0 slots n) (sym (same_lost head row other 0 slots m two.0 one two.1)) two.1

-- the slots of a prefix of a set
front_slots : (images : ℕ) (geo : Geometry) (k : ℕ) → is_shaped geo images ≡ true → AreSlots images (take k geo.slots.items)
front_slots images geo k shaped =
    let slots = geo.slots.items in
    let here : (slot image : ℕ) → Holds (take k slots) slot image → slice_index_or slots slot None ≡ Some image
    = λ slot image held. sym (get_or-take k slots slot None (omega (arith, held.0, length-take k slots))) ∙ held.1 in
    record {
      there = λ slot image held.
          subst (λ (o : Option ℕ). Rattle.std.specs.Prelude.IfSome o (λ i. i < images)) (here slot image held)
          (shaped_images geo images shaped slot None (in_slots slots slot image (here slot image held)));
      once = λ slot other image held again. elim (cases_lt slot other) [
        | inl less ↦ absurd (twice geo images slot other image shaped less (here slot image held) (here other image again))
        | inr most ↦
            elim (cases_lt other slot) [
              | inl more ↦ absurd (twice geo images other slot image shaped more (here other image again) (here slot image held))
              | inr least ↦ omega arith
            ]
      ];
    }

-- an equation that the row's table allows, its ties allow
by_table : (images : List (List ℕ)) (geo : Geometry) (k : ℕ) (sampled : SampledRow) (equation : Equation) → is_shaped geo (length images) ≡ true → (is : IsRowOf images geo.head.offset sampled) →
    Allows (length images) is.table geo.head (sampled.row / geo.head.chunk) (take k geo.slots.items) equation →
    allows_by sampled.ties geo.head (sampled.row / geo.head.chunk) (take k geo.slots.items) equation ≡ true
by_table images geo k sampled equation shaped is allowed =
    let ties = sampled.ties in
    let row = sampled.row / geo.head.chunk in
    let slots = take k geo.slots.items in
    let n = length slots in
    let w = slot_weight geo.head row equation in
    let weights = map w (range_with_len 0 n) in
    let weigh : AreWeightsOf geo.head row equation n weights = λ slot lt. get_or-map-range_with_len w 0 n slot slot 0 lt (omega arith) in
    let count : length images ≡ ties.images = sym (is.of.images ∙ is.is.standings) in
    let few : n ≤ geo.head.members = omega (arith, length-take k geo.slots.items, shaped_slots geo (length images) shaped) in
    (told ties geo.head row slots equation weights few weigh).1
    (values_of is.sectors is.table ties geo.head row equation weights slots is.of (subst (λ (m : ℕ). IsTable m is.sectors is.table) count is.is)
    (subst (λ (m : ℕ). AreSlots m slots) count (front_slots (length images) geo k shaped)) weigh (subst (λ (m : ℕ). Allows m is.table geo.head row slots equation) count allowed))

level_allows : (images : List (List ℕ)) (geo : Geometry) (k : ℕ) (sampled : SampledRow) → is_shaped geo (length images) ≡ true → (is : IsRowOf images geo.head.offset sampled) → (level : Level) →
    AllowsAll (length images) is.table geo.head (sampled.row / geo.head.chunk) (take k geo.slots.items) level →
    list_all (allows_by sampled.ties geo.head (sampled.row / geo.head.chunk) (take k geo.slots.items)) (equations_of level) ≡ true
level_allows images geo k sampled shaped is Raid0 all = refl
level_allows images geo k sampled shaped is Raid5 all =
    let f = allows_by sampled.ties geo.head (sampled.row / geo.head.chunk) (take k geo.slots.items) in
    and_from (f OfP) true (by_table images geo k sampled OfP shaped is all) refl
level_allows images geo k sampled shaped is Raid6 all =
    let f = allows_by sampled.ties geo.head (sampled.row / geo.head.chunk) (take k geo.slots.items) in
    and_from (f OfP) (f OfQ && true) (by_table images geo k sampled OfP shaped is all.0) (and_from (f OfQ) true (by_table images geo k sampled OfQ shaped is all.1) refl)

module _ (images : List (List ℕ)) (geo : Geometry) (few : length images ≤ 64) (shaped : is_shaped geo (length images) ≡ true) (k : ℕ) where
  open_where : (row : ℕ) → empties geo.slots.items < redundancy geo.head.level → IsOpen geo row
  open_where row lt = λ e. (let count = count_missing geo.head row 0 geo.slots.items in omega arith)

  -- a sound row allows the prefix
  whole_row : (sampled : SampledRow) → IsRowOf images geo.head.offset sampled → empties geo.slots.items < redundancy geo.head.level → empties geo.slots.items ≡ 0 →
      is_sound_row images geo sampled.row ≡ true → row_allows sampled.ties geo.head (sampled.row / geo.head.chunk) (take k geo.slots.items) None ≡ true
  whole_row sampled is lt z sound =
      level_allows images geo k sampled shaped is geo.head.level
      (whole images geo sampled.row k is.sectors is.table few shaped is.bytes is.at is.is sound (open_where (sampled.row / geo.head.chunk) lt) z geo.head.level refl)

  left_row : (sampled : SampledRow) (m : ℕ) → IsRowOf images geo.head.offset sampled → empties geo.slots.items < redundancy geo.head.level → empties geo.slots.items ≡ 1 → IsOneLost geo.head 0 0 geo.slots.items m →
      is_sound_row images geo sampled.row ≡ true → row_allows sampled.ties geo.head (sampled.row / geo.head.chunk) (take k geo.slots.items) (Some m) ≡ true
  left_row sampled m is lt e lost sound =
      let row = sampled.row / geo.head.chunk in
      let equation = left_without (part_of geo.head row m) in
      and_from (allows_by sampled.ties geo.head row (take k geo.slots.items) equation) true
      (by_table images geo k sampled equation shaped is
      (left_allowed images geo sampled.row k is.sectors is.table few shaped is.bytes is.at is.is sound (open_where row lt) m (lost_there geo.head 0 row geo.slots.items m e lost)))
      refl

-- what refuses is unsound
keys_pass : (images : List (List ℕ)) (geo : Geometry) (test : PrefixTest) (slots : List (Option ℕ)) (lost : Option ℕ) (rows : List SampledRow) → test.head ≡ geo.head →
    AllByRecursion (IsRowOf images geo.head.offset) rows →
    ((sampled : SampledRow) → IsRowOf images geo.head.offset sampled → is_sound_row images geo sampled.row ≡ true → row_allows sampled.ties geo.head (sampled.row / geo.head.chunk) slots lost ≡ true) →
    KeysPass (λ sampled. sampled.row) (refuses test slots lost) (λ t. not (is_sound_row images geo t)) test.tested rows
keys_pass images geo test slots lost [] e are allow = tt
keys_pass images geo test slots lost (sampled ∷ rows) e are allow = (
  λ pass.
      (let allows = row_allows sampled.ties test.head (sampled.row / test.head.chunk) slots lost in
      let both = and_parts (nat_lt sampled.row test.tested) (not allows) pass in (
        ltb-true sampled.row test.tested both.0,
        elim (cases_Bool (is_sound_row images geo sampled.row)) [
          | inr unsound ↦ not_from_false (is_sound_row images geo sampled.row) unsound
          | inl sound ↦ absurd
              (false≢true (sym (not-true allows both.1) ∙ ap (λ (h : Head). row_allows sampled.ties h (sampled.row / h.chunk) slots lost) e ∙ allow sampled are.0 sound))
        ],
      )),
  keys_pass images geo test slots lost rows e are.1 allow,
)

few_then : (images : List (List ℕ)) (geo : Geometry) (test : PrefixTest) (slots : List (Option ℕ)) (lost : Option ℕ) (rows : List SampledRow) → test.head ≡ geo.head → AreRowsOf images geo.head.offset rows →
    ((sampled : SampledRow) → IsRowOf images geo.head.offset sampled → is_sound_row images geo sampled.row ≡ true → row_allows sampled.ties geo.head (sampled.row / geo.head.chunk) slots lost ≡ true) →
    unsound_rows images geo test.tested ≤ test.badrows → few_refuse rows test slots lost ≡ true
few_then images geo test slots lost rows e are allow less =
    let count = count_keys (λ (sampled : SampledRow). sampled.row) (refuses test slots lost) (λ t. not (is_sound_row images geo t)) 0 test.tested test.tested rows (omega arith)
    (rises_from 0 (map (λ sampled. sampled.row) rows) are.rising (λ some. omega arith))
    (keys_pass images geo test slots lost rows e (recursion_from_All (IsRowOf images geo.head.offset) rows are.each) allow) in
    le-leb (count_by (refuses test slots lost) rows) test.badrows (omega arith)

-- the lost slot of a set may be lost where its slots begin so
may_lose_one : (test : PrefixTest) (row k m : ℕ) (slots : List (Option ℕ)) → IsOneLost test.head row 0 slots m → 1 ≤ test.missing → may_be_lost test (take k slots) m ≡ true
may_lose_one test row k m slots lost some =
    let front = take k slots in
    let there = (empties front == 1) && is_none (slice_index_or front m None) in
    let later = (empties front == 0) && nat_le 1 test.missing in
    let long = length-take k slots in
    elim (cases_lt m k) [
      | inl here ↦
          cond-true (nat_lt m (length front)) there later (lt-ltb m (length front) (omega (arith, lost.within, long)))
          ∙ and_from (empties front == 1) (is_none (slice_index_or front m None)) (eq-eqb (empties front) 1 (lost.after k here))
          (ap (λ (o : Option ℕ). is_none o) (get_or-take k slots m None here ∙ lost.empty))
      | inr past ↦
          cond-false (nat_lt m (length front)) there later (le-ltb m (length front) (omega (arith, long)))
          ∙ and_from (empties front == 0) (nat_le 1 test.missing) (eq-eqb (empties front) 0 (lost.before k past)) (le-leb 1 test.missing some)
    ]

pub passing_may_begin : PassingSetsMayBegin
passing_may_begin images geo end window badrows missing k rows few shaped less are passes =
    let slots = geo.slots.items in
    let front = take k slots in
    let test = prefix_test geo.head (tested_rows geo end window) badrows missing in
    let none = may_begin_with rows test front None in
    let some = λ (slot : ℕ). may_begin_with rows test front (Some slot) in
    let one = list_any some (range_with_len 0 geo.head.members) in
    let unsound : unsound_rows images geo (tested_rows geo end window) ≤ badrows = leb-true (unsound_rows images geo (tested_rows geo end window)) badrows passes in
    let long = shaped_slots geo (length images) shaped in
    let rest = empties_rest k slots in
    let most = most_two geo.head.level in
    let nothing = is_untested test front in
    elim (cases_lt (empties slots) (redundancy geo.head.level)) [
      | inr many ↦
          or_left (nothing || none) one
          (or_left nothing none
          (le-leb (redundancy geo.head.level) (min missing (empties front + (geo.head.members - length front)))
          (untested (redundancy geo.head.level) missing (empties slots) (empties front) (geo.head.members - length front) many less (omega arith))))
      | inl lt ↦
          elim (cases_eq (empties slots) 0) [
            | inl z ↦
                or_left (nothing || none) one
                (or_right nothing none
                (and_from (may_lose test front None) (few_refuse rows test front None) (eq-eqb (empties front) 0 (let less_in_front = empties_front k slots in omega arith))
                (few_then images geo test front None rows refl are (λ sampled is sound. whole_row images geo few shaped k sampled is lt z sound) unsound)))
            | inr ne ↦
                (let e : empties slots ≡ 1 = omega arith in
                let six = level_of_two geo.head.level (omega arith) in
                let lost = one_lost geo.head 0 0 slots e in
                let m = lost.0 in
                or_right (nothing || none) one
                (any_at some 0 geo.head.members m (omega arith) (let within = lost.1.within in omega arith)
                (and_from (may_lose test front (Some m)) (few_refuse rows test front (Some m))
                (and_from (is_raid6 geo.head.level) (may_be_lost test front m) (ap is_raid6 six) (may_lose_one test 0 k m slots lost.1 (less_one missing (empties slots) less e)))
                (few_then images geo test front (Some m) rows refl are (λ sampled is sound. left_row images geo few shaped k sampled m is lt e lost.1 sound) unsound))))
          ]
    ]
