-- A sound row refuses no prefix.
use Rattle.std.proofs.Common.{ℕ, suc, ◌≡◌, ◌<◌, ◌≤◌, ◌+◌, ◌*◌, ◌-◌, ◌/◌, true, false, List, [], ◌∷◌, Option, None, Some, IfSome, length, map, take, slice_index_or, refl, sym, ap, subst, ◌∙◌, arith, inl, inr}
use Rattle.std.specs.List.{AllByRecursion}
use Rattle.std.proofs.lemmas.Bool.{cases_eq, cases_lt}
use Rattle.std.proofs.lemmas.List.{get_or-take, get_or_past, length-map, length-take, length-take-le, take_all}
use Rattle.raid_layouts.proofs.Counts.{cells_length, count_missing}
use Rattle.raid_layouts.proofs.Shapes.{shaped_images, shaped_once, shaped_slots}
use Rattle.raid_params.specs.Size.{redundancy}
use Rattle.raid_params.specs.Slots.{empties}
use Rattle.raid_params.specs.Validity.{is_shaped}
use Rattle.raid_params.specs.declared.types.Geometry.{Geometry}
use Rattle.raid_params.specs.declared.types.Level.{Level}
use Rattle.raid_params.specs.declared.types.Level.TheVariants.{Raid0, Raid5, Raid6}
use Rattle.raid_terms.specs.Cells.{part_of, row_cells}
use Rattle.raid_terms.specs.Parity.{is_sound_column, is_sound_row, member_byte, member_column}
use Rattle.row_relations.specs.Rows.{byte_of, AreBytes, IsRelation}
use Rattle.row_relations.specs.Tables.{Table, IsTable}
use Rattle.row_relations.proofs.FieldSums.{sum_same}
use Rattle.row_relations.proofs.Ties.{relations_are_ties}
use Rattle.relation_prefix.specs.declared.equation.Equation.{Equation}
use Rattle.relation_prefix.specs.declared.equation.Equation.TheVariants.{OfP, OfQ}
use Rattle.relation_prefix.specs.Equations.{left_without, slot_weight, weight_in}
use Rattle.relation_prefix.specs.Laws.{AreSectorsAt, SoundRowsRefuseNoPrefix}
use Rattle.relation_prefix.specs.Prefixes.{Allows, AllowsAll, AllowsOneLost, Holds, MayBeLost}
use Rattle.relation_prefix.proofs.Columns.{Cancels, IsOpen, each_column, left_cancels, p_cancels, q_cancels}
use Rattle.relation_prefix.proofs.Lost.{IsOneLost, empties_front, empties_rest, none_lost, one_lost}
use Rattle.relation_prefix.proofs.Sums.{cancels_by_slots, share, weight_fits}
use Rattle.relation_prefix.proofs.Told.{stands_held}
use Rattle.relation_prefix.proofs.Vectors.{weights, weights_bytes, weights_foreign, weights_held, weights_long, weights_sum}

pub in_slots : (slots : List (Option ℕ)) (k i : ℕ) → slice_index_or slots k None ≡ Some i → k < length slots
in_slots slots k i e = elim (cases_lt k (length slots)) [ inl lt ↦ lt | inr past ↦ absurd (let none = get_or_past slots k None past in cc) ]

-- no image stands in two slots
pub twice : (geo : Geometry) (images a b i : ℕ) → is_shaped geo images ≡ true → a < b → slice_index_or geo.slots.items a None ≡ Some i → slice_index_or geo.slots.items b None ≡ Some i → ⊥
twice geo images a b i shaped lt ea eb =
    let no = shaped_once geo images b i shaped (in_slots geo.slots.items b i eb) eb in
    let yes = stands_held (take b geo.slots.items) a i (get_or-take b geo.slots.items a None lt ∙ ea) in
    let clash : true ≡ false = sym yes ∙ no in
    cc

some_fits : (n : ℕ) (b : ℕ → ℕ) (held : Option ℕ) → ((i : ℕ) → i < n → b i < 256) → IfSome held (λ i. i < n) → IfSome held (λ i. b i < 256)
some_fits n b None h below = tt
some_fits n b (Some i) h below = h i below

column_fits : (b : ℕ → ℕ) (f : Option ℕ → ℕ) (slots : List (Option ℕ)) → f None ≡ 0 → ((i : ℕ) → f (Some i) ≡ b i) → ((s : ℕ) → s < length slots → IfSome (slice_index_or slots s None) (λ i. b i < 256)) →
    AllByRecursion (λ x. x < 256) (map f slots)
column_fits b f [] none e h = tt
column_fits b f (None ∷ slots) none e h = (rw none (omega arith), column_fits b f slots none e (λ s lt. h (suc s) (omega arith)))
column_fits b f (Some i ∷ slots) none e h = (rw (e i) (h 0 (omega arith)), column_fits b f slots none e (λ s lt. h (suc s) (omega arith)))

share_alike : (w v n : ℕ) (a b : ℕ → ℕ) (held : Option ℕ) → w ≡ v → ((i : ℕ) → i < n → a i ≡ b i) → IfSome held (λ i. i < n) → share w a held ≡ share v b held
share_alike w v n a b None e h below = refl
share_alike w v n a b (Some i) e h below = ap (λ (x : ℕ). Rattle.gf256.specs.Field.product x (a i)) e ∙ ap (Rattle.gf256.specs.Field.product v) (h i below)

module _ (images : List (List ℕ)) (geo : Geometry) (t k : ℕ) (sectors : List ℕ) (table : Table) (few : length images ≤ 64) (shaped : is_shaped geo (length images) ≡ true) (bytes : AreBytes sectors)
    (at : AreSectorsAt images (geo.head.offset + t) sectors) (is : IsTable (length images) sectors table) (sound : is_sound_row images geo t ≡ true) where
  there : (s : ℕ) → s < length geo.slots.items → IfSome (slice_index_or geo.slots.items s None) (λ i. i < length images)
  there s lt = shaped_images geo (length images) shaped s None lt

  same_byte : (c i : ℕ) → c < 512 → i < length images → byte_of sectors i c ≡ member_byte images geo.head.offset t c (Some i)
  same_byte c i inside lt = at i c lt inside

  member_fits : (c : ℕ) → c < 512 → (s : ℕ) → s < length geo.slots.items → IfSome (slice_index_or geo.slots.items s None) (λ i. member_byte images geo.head.offset t c (Some i) < 256)
  member_fits c inside s lt =
      some_fits (length images) (λ i. member_byte images geo.head.offset t c (Some i)) (slice_index_or geo.slots.items s None)
      (λ i below. subst (λ (x : ℕ). x < 256) (same_byte c i inside below) (bytes (512 * i + c))) (there s lt)

  column_long : (c : ℕ) → length (member_column images geo t c) ≡ length (row_cells geo (t / geo.head.chunk))
  column_long c = length-map geo.slots.items (member_byte images geo.head.offset t c) ∙ sym (cells_length geo.head (t / geo.head.chunk) 0 geo.slots.items)

  fits_column : (c : ℕ) → c < 512 → AllByRecursion (λ x. x < 256) (member_column images geo t c)
  fits_column c inside =
      column_fits (λ i. member_byte images geo.head.offset t c (Some i)) (member_byte images geo.head.offset t c) geo.slots.items refl (λ i. refl) (member_fits c inside)

  sound_at : (c : ℕ) → c < 512 → is_sound_column (row_cells geo (t / geo.head.chunk)) (member_column images geo t c) ≡ true
  sound_at c inside = each_column (row_cells geo (t / geo.head.chunk)) (member_column images geo t) sound c inside

  module _ (equation : Equation) (cancel : (c : ℕ) → c < 512 → Cancels equation (row_cells geo (t / geo.head.chunk)) (member_column images geo t c)) where
    -- the weights of an equation that cancels are a relation of the row
    relation_of : IsRelation (length images) sectors (weights (length images) (slot_weight geo.head (t / geo.head.chunk) equation) geo.slots.items)
    relation_of =
        let w = slot_weight geo.head (t / geo.head.chunk) equation in
        let slots = geo.slots.items in
        let fits : (s : ℕ) → w s < 256 = λ s. weight_fits equation (part_of geo.head (t / geo.head.chunk) s) in
        record {
          long = weights_long (length images) w slots fits;
          bytes = weights_bytes (length images) w slots fits;
          cancels = λ c inside.
              weights_sum (length images) w slots fits sectors c there
              ∙ sum_same (length slots) (λ s. share (w s) (λ i. byte_of sectors i c) (slice_index_or slots s None))
              (λ s. share (weight_in equation (part_of geo.head (t / geo.head.chunk) (0 + s))) (λ i. member_byte images geo.head.offset t c (Some i)) (slice_index_or slots s None))
              (λ s lt. share_alike (w s) (weight_in equation (part_of geo.head (t / geo.head.chunk) (0 + s))) (length images) (λ i. byte_of sectors i c) (λ i. member_byte images geo.head.offset t c (Some i))
              (slice_index_or slots s None) (let e : s ≡ 0 + s = omega arith in ap w e) (λ i below. same_byte c i inside below) (there s lt))
              ∙ cancels_by_slots equation geo.head (t / geo.head.chunk) slots (member_byte images geo.head.offset t c) (λ i. member_byte images geo.head.offset t c (Some i)) (λ i. refl) (member_fits c inside) (cancel c inside);
        }

    allowed : Allows (length images) table geo.head (t / geo.head.chunk) (take k geo.slots.items) equation
    allowed =
        let w = slot_weight geo.head (t / geo.head.chunk) equation in
        let slots = geo.slots.items in
        let fits : (s : ℕ) → w s < 256 = λ s. weight_fits equation (part_of geo.head (t / geo.head.chunk) s) in (
          weights (length images) w slots,
          record {
            relation = (relations_are_ties (length images) sectors table (weights (length images) w slots) few bytes is).0 relation_of;
            held = λ slot image held.
                (let before : slot < k = omega (arith, held.0, length-take k slots) in
                let here : slice_index_or slots slot None ≡ Some image = sym (get_or-take k slots slot None before) ∙ held.1 in
                let inside = in_slots slots slot image here in
                weights_held (length images) w slots fits slot image (subst (λ (o : Option ℕ). IfSome o (λ i. i < length images)) here (there slot inside)) inside here
                (λ other ne e. elim (cases_lt other slot) [
                  | inl less ↦ twice geo (length images) other slot image shaped less e here
                  | inr more ↦ twice geo (length images) slot other image shaped (omega arith) here e
                ]));
            foreign = λ whole image lt none.
                (let all : length slots ≤ k = elim (cases_lt k (length slots)) [
                  | inl short ↦ absurd (let front = length-take-le k slots (omega arith) in let long = shaped_slots geo (length images) shaped in omega arith)
                  | inr past ↦ past
                ] in
                weights_foreign (length images) w slots fits image lt
                (λ s in_all e. none s (subst (λ (l : List (Option ℕ)). Holds l s image) (sym (take_all k slots all)) (in_all, e))));
          },
        )

pub level_of_two : (level : Level) → 1 < redundancy level → level ≡ Raid6
level_of_two Raid0 h = absurd (omega arith)
level_of_two Raid5 h = absurd (omega arith)
level_of_two Raid6 h = refl

pub most_two : (level : Level) → redundancy level ≤ 2
most_two Raid0 = omega arith
most_two Raid5 = omega arith
most_two Raid6 = omega arith

pub untested : (r missing all front left : ℕ) → r ≤ all → all ≤ missing → all ≤ front + left → r ≤ Rattle.std.specs.Prelude.min missing (front + left)
untested r missing all front left a b c = omega arith

pub less_one : (missing count : ℕ) → count ≤ missing → count ≡ 1 → 1 ≤ missing
less_one missing count h e = omega arith

place : (geo : Geometry) (images k missing slot : ℕ) → is_shaped geo images ≡ true → 1 ≤ missing → (row : ℕ) → IsOneLost geo.head row 0 geo.slots.items slot → MayBeLost geo.head missing (take k geo.slots.items) slot
place geo images k missing slot shaped some row lost =
    let long = shaped_slots geo images shaped in
    let front = length-take k geo.slots.items in
    elim (cases_lt slot k) [
      | inl here ↦ inl (lost.after k here, (let within = lost.within in omega arith), get_or-take k geo.slots.items slot None here ∙ lost.empty)
      | inr later ↦ inr (lost.before k later, some, (let within = lost.within in omega arith), (let within = lost.within in omega arith))
    ]

-- what is left without a slot that alone is empty is allowed
pub left_allowed : (images : List (List ℕ)) (geo : Geometry) (t k : ℕ) (sectors : List ℕ) (table : Table) → length images ≤ 64 → is_shaped geo (length images) ≡ true → AreBytes sectors →
    AreSectorsAt images (geo.head.offset + t) sectors → IsTable (length images) sectors table → is_sound_row images geo t ≡ true → IsOpen geo (t / geo.head.chunk) → (slot : ℕ) →
    IsOneLost geo.head (t / geo.head.chunk) 0 geo.slots.items slot →
    Allows (length images) table geo.head (t / geo.head.chunk) (take k geo.slots.items) (left_without (part_of geo.head (t / geo.head.chunk) slot))
left_allowed images geo t k sectors table few shaped bytes at is sound open_row slot lost =
    let row = t / geo.head.chunk in
    let slots = geo.slots.items in
    let same : 0 + slot ≡ slot = omega arith in
    subst (λ (s : ℕ). Allows (length images) table geo.head row (take k slots) (left_without (part_of geo.head row s))) same
    (allowed images geo t k sectors table few shaped bytes at is sound (left_without (part_of geo.head row (0 + slot)))
    (λ c inside. left_cancels geo (length images) row shaped open_row (member_column images geo t c) (column_long images geo t k sectors table few shaped bytes at is sound c)
    (fits_column images geo t k sectors table few shaped bytes at is sound c inside) (sound_at images geo t k sectors table few shaped bytes at is sound c inside)
    (part_of geo.head row (0 + slot)) lost.first))

one : (images : List (List ℕ)) (geo : Geometry) (t missing k : ℕ) (sectors : List ℕ) (table : Table) → length images ≤ 64 → is_shaped geo (length images) ≡ true → AreBytes sectors →
    AreSectorsAt images (geo.head.offset + t) sectors → IsTable (length images) sectors table → is_sound_row images geo t ≡ true → IsOpen geo (t / geo.head.chunk) → empties geo.slots.items ≤ missing →
    empties geo.slots.items ≡ 1 → geo.head.level ≡ Raid6 → AllowsOneLost (length images) table geo.head (t / geo.head.chunk) missing (take k geo.slots.items)
one images geo t missing k sectors table few shaped bytes at is sound open_row less e six =
    let row = t / geo.head.chunk in
    let slots = geo.slots.items in
    let lost = one_lost geo.head row 0 slots e in (
      six,
      lost.0,
      place geo (length images) k missing lost.0 shaped (less_one missing (empties slots) less e) row lost.1,
      left_allowed images geo t k sectors table few shaped bytes at is sound open_row lost.0 lost.1,
    )

pub whole : (images : List (List ℕ)) (geo : Geometry) (t k : ℕ) (sectors : List ℕ) (table : Table) → length images ≤ 64 → is_shaped geo (length images) ≡ true → AreBytes sectors →
    AreSectorsAt images (geo.head.offset + t) sectors → IsTable (length images) sectors table → is_sound_row images geo t ≡ true → IsOpen geo (t / geo.head.chunk) → empties geo.slots.items ≡ 0 →
    (level : Level) → geo.head.level ≡ level → AllowsAll (length images) table geo.head (t / geo.head.chunk) (take k geo.slots.items) level
whole images geo t k sectors table few shaped bytes at is sound open_row z Raid0 e = tt
whole images geo t k sectors table few shaped bytes at is sound open_row z Raid5 e =
    allowed images geo t k sectors table few shaped bytes at is sound OfP
    (λ c inside. p_cancels geo (length images) (t / geo.head.chunk) shaped open_row (member_column images geo t c) (column_long images geo t k sectors table few shaped bytes at is sound c)
    (fits_column images geo t k sectors table few shaped bytes at is sound c inside) (sound_at images geo t k sectors table few shaped bytes at is sound c inside)
    (none_lost geo.head (t / geo.head.chunk) 0 geo.slots.items z))
whole images geo t k sectors table few shaped bytes at is sound open_row z Raid6 e = (
  allowed images geo t k sectors table few shaped bytes at is sound OfP
      (λ c inside. p_cancels geo (length images) (t / geo.head.chunk) shaped open_row (member_column images geo t c) (column_long images geo t k sectors table few shaped bytes at is sound c)
      (fits_column images geo t k sectors table few shaped bytes at is sound c inside) (sound_at images geo t k sectors table few shaped bytes at is sound c inside)
      (none_lost geo.head (t / geo.head.chunk) 0 geo.slots.items z)),
  allowed images geo t k sectors table few shaped bytes at is sound OfQ
      (λ c inside. q_cancels geo (length images) (t / geo.head.chunk) shaped open_row (member_column images geo t c) (column_long images geo t k sectors table few shaped bytes at is sound c)
      (fits_column images geo t k sectors table few shaped bytes at is sound c inside) (sound_at images geo t k sectors table few shaped bytes at is sound c inside)
      (none_lost geo.head (t / geo.head.chunk) 0 geo.slots.items z) e),
)

pub sound_refuses_none : SoundRowsRefuseNoPrefix
sound_refuses_none images geo t missing k sectors table few shaped less bytes at is sound =
    let slots = geo.slots.items in
    let row = t / geo.head.chunk in
    let n = length images in
    let long = shaped_slots geo n shaped in
    let rest = empties_rest k slots in
    elim (cases_lt (empties slots) (redundancy geo.head.level)) [
      | inr many ↦ inl (untested (redundancy geo.head.level) missing (empties slots) (empties (take k slots)) (geo.head.members - length (take k slots)) many less (omega arith))
      | inl lt ↦
          (let open_row : IsOpen geo row = λ e. (let count = count_missing geo.head row 0 slots in omega arith) in
          elim (cases_eq (empties slots) 0) [
            | inl z ↦ inr (inl ((let front = empties_front k slots in omega arith), whole images geo t k sectors table few shaped bytes at is sound open_row z geo.head.level refl))
            | inr some ↦ inr (inr (one images geo t missing k sectors table few shaped bytes at is sound open_row less
                (let most = most_two geo.head.level in omega arith) (level_of_two geo.head.level (omega arith))))
          ])
    ]
