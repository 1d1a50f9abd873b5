-- What reading a run of neighbours changes.
use Rattle.std.proofs.Common.{◌≡◌, ℕ, zero, suc, ◌+◌, ◌-◌, ◌*◌, ◌/◌, ◌<◌, ◌≤◌, List, Option, None, Some, Bool, true, false, ◌&&◌, cond, length, get_or, inl, inr, arith, refl, ap, sym, ◌∙◌}
use Rattle.std.specs.List.{range_with_len}
use Rattle.std.specs.Option.{is_none, is_some}
use Rattle.std.specs.Prelude.{count_by, if◌then◌else◌}
use Rattle.std.proofs.lemmas.Bool.{cases_lt, false≢true}
use Rattle.outside.proofs.Reading.{reads_join, reads_up}
use Rattle.outside.specs.Seen.{OnlyReads, Seen}
use borrow.Rule.Slice.PartMut.{put_mid}
use Rattle.pq_parity.specs.Needs.{needs}
use Rattle.row_parity.proofs.Regions.{mid_before, mid_inside, region_inside}
use Rattle.raid_params.specs.declared.types.Geometry.{Geometry}
use Rattle.raid_terms.specs.Cells.{part_of, row_cells}
use Rattle.raid_terms.specs.Parity.{member_byte}
use Rattle.raid_terms.specs.Volume.{byte_in}
use Rattle.lost_members.specs.Needs.{HoldNeededOf, is_needed, needed_of}
use Rattle.member_regions.proofs.Alike.{later_byte}
use Rattle.member_regions.proofs.Counting.{count_first, count_grows}
use Rattle.member_regions.proofs.Solved.{held_byte}

-- sectors of one chunk row are needed alike
pub row_alike : (geo : Geometry) (slot a b : ℕ) → a / geo.head.chunk ≡ b / geo.head.chunk → is_needed geo slot a ≡ is_needed geo slot b
unfolding is_needed
row_alike geo slot a b same =
    ap (λ (row : ℕ). is_some (get_or geo.slots.items slot None) && needs (row_cells geo row) (part_of geo.head row slot)) same

some_not : (o : Option ℕ) (b : Bool) → (is_some o && b) ≡ true → is_none o ≡ false
some_not None b e = absurd (false≢true e)
some_not (Some i) b e = refl

-- what is needed is there
pub needed_there : (geo : Geometry) (slot t : ℕ) → is_needed geo slot t ≡ true → is_none (get_or geo.slots.items slot None) ≡ false
unfolding is_needed
needed_there geo slot t e = some_not (get_or geo.slots.items slot None) (needs (row_cells geo (t / geo.head.chunk)) (part_of geo.head (t / geo.head.chunk) slot)) e

-- a range in two parts
pub count_parts : (p : ℕ → Bool) (a n m : ℕ) → count_by p (range_with_len a (n + m)) ≡ count_by p (range_with_len a n) + count_by p (range_with_len (a + n) m)
count_parts p a zero m =
    let at : a ≡ a + 0 = omega arith in
    let none : 0 + m ≡ m = omega arith in
    ap (λ (k : ℕ). count_by p (range_with_len a k)) none ∙ ap (λ (k : ℕ). count_by p (range_with_len k m)) at ∙ omega arith
count_parts p a (suc n) m =
    let next : suc n + m ≡ suc (n + m) = omega arith in
    let at : a + 1 + n ≡ a + suc n = omega arith in
    let rest : count_by p (range_with_len (a + 1 + n) m) ≡ count_by p (range_with_len (a + suc n) m) = ap (λ (k : ℕ). count_by p (range_with_len k m)) at in
    ap (λ (k : ℕ). count_by p (range_with_len a k)) next
    ∙ omega (arith, count_first p a (n + m), count_first p a n, count_parts p (a + 1) n m, rest)

-- all of a range
pub count_all : (p : ℕ → Bool) (a n : ℕ) → ((t : ℕ) → a ≤ t → t < a + n → p t ≡ true) → count_by p (range_with_len a n) ≡ n
count_all p a zero each = refl
count_all p a (suc n) each =
    let here : ◌≡◌ {A = ℕ} (cond (p a) 1 0) 1 = ap (λ (b : Bool). cond b 1 0) (each a (omega arith) (omega arith)) in
    omega (arith, count_first p a n, here, count_all p (a + 1) n (λ t low high. each t (omega arith) (omega arith)))

-- and none
pub count_none : (p : ℕ → Bool) (a n : ℕ) → ((t : ℕ) → a ≤ t → t < a + n → p t ≡ false) → count_by p (range_with_len a n) ≡ 0
count_none p a zero each = refl
count_none p a (suc n) each =
    let here : ◌≡◌ {A = ℕ} (cond (p a) 1 0) 0 = ap (λ (b : Bool). cond b 1 0) (each a (omega arith) (omega arith)) in
    omega (arith, count_first p a n, here, count_none p (a + 1) n (λ t low high. each t (omega arith) (omega arith)))

-- the needed sectors up to the end of a run
needed_up_to : (geo : Geometry) (first at next slot : ℕ) → first ≤ at → at ≤ next →
    needed_of geo first (next - first) slot ≡ needed_of geo first (at - first) slot + count_by (is_needed geo slot) (range_with_len at (next - at))
needed_up_to geo first at next slot from to =
    let both : next - first ≡ (at - first) + (next - at) = omega arith in
    let start : first + (at - first) ≡ at = omega arith in
    ap (λ (n : ℕ). needed_of geo first n slot) both ∙ count_parts (is_needed geo slot) first (at - first) (next - at)
    ∙ ap (λ (a : ℕ). needed_of geo first (at - first) slot + count_by (is_needed geo slot) (range_with_len a (next - at))) start

all_needed : (geo : Geometry) (first at next slot : ℕ) → first ≤ at → at ≤ next → ((t : ℕ) → at ≤ t → t < next → is_needed geo slot t ≡ true) →
    needed_of geo first (next - first) slot ≡ needed_of geo first (at - first) slot + (next - at)
all_needed geo first at next slot from to each =
    needed_up_to geo first at next slot from to
    ∙ ap (λ (n : ℕ). needed_of geo first (at - first) slot + n) (count_all (is_needed geo slot) at (next - at) (λ t low high. each t low (omega arith)))

none_needed : (geo : Geometry) (first at next slot : ℕ) → first ≤ at → at ≤ next → ((t : ℕ) → at ≤ t → t < next → is_needed geo slot t ≡ false) →
    needed_of geo first (next - first) slot ≡ needed_of geo first (at - first) slot
none_needed geo first at next slot from to each =
    needed_up_to geo first at next slot from to
    ∙ ap (λ (n : ℕ). needed_of geo first (at - first) slot + n) (count_none (is_needed geo slot) at (next - at) (λ t low high. each t low (omega arith))) ∙ omega arith

at_most_if : (b : Bool) (n m : ℕ) → n ≡ m → (if b then 0 else n) ≤ m
at_most_if true n m e = omega arith
at_most_if false n m e = omega arith

-- the readings up to the end of a needed run
pub reads_run : (old mid new : Seen) (geo : Geometry) (first at next slot sectors : ℕ) (held : Option ℕ) → first ≤ at → at ≤ next →
    ((t : ℕ) → at ≤ t → t < next → is_needed geo slot t ≡ true) → OnlyReads old mid (needed_of geo first (at - first) slot) →
    OnlyReads mid new (if is_none held then 0 else sectors) → sectors ≡ next - at → OnlyReads old new (needed_of geo first (next - first) slot)
reads_run old mid new geo first at next slot sectors held from to each before more are =
    reads_up old new (reads_join old mid new before more)
    (omega (arith, all_needed geo first at next slot from to each, at_most_if (is_none held) sectors (next - at) are))

-- and of one that is not
pub reads_past : (old new : Seen) (geo : Geometry) (first at next slot : ℕ) → first ≤ at → at ≤ next → ((t : ℕ) → at ≤ t → t < next → is_needed geo slot t ≡ false) →
    OnlyReads old new (needed_of geo first (at - first) slot) → OnlyReads old new (needed_of geo first (next - first) slot)
reads_past old new geo first at next slot from to each before = reads_up old new before (omega (arith, none_needed geo first at next slot from to each))

-- no more are read than up to a later sector
pub reads_before : (old new : Seen) (geo : Geometry) (first n count slot : ℕ) → n ≤ count → OnlyReads old new (needed_of geo first n slot) → OnlyReads old new (needed_of geo first count slot)
reads_before old new geo first n count slot le reads = reads_up old new reads (count_grows (is_needed geo slot) first n count le)

-- what was read up to the end of a run
pub hold_run : (images : List (List ℕ)) (geo : Geometry) (slot first at next k : ℕ) (to run : List ℕ) → first ≤ at → at ≤ next → length run ≡ 512 * (next - at) →
    512 * (at - first) ≤ length to → HoldNeededOf images geo slot first (at - first) to →
    ((y : ℕ) → y < length run → is_none (get_or geo.slots.items slot None) ≡ false → get_or run y 0 ≡ member_byte images geo.head.offset at y (get_or geo.slots.items slot None)) →
    HoldNeededOf images geo slot first (next - first) (put_mid (512 * (at - first)) k to run)
hold_run images geo slot first at next k to run from on long within hold here = λ j x below inside needed.
    elim (cases_lt j (at - first)) [
      | inl less ↦ mid_before (512 * (at - first)) k (512 * j + x) to run (omega arith) within ∙ hold j x less inside needed
      | inr more ↦
          (let i : ℕ = j - (at - first) in
          let there = needed_there geo slot (first + j) needed in
          let place : 512 * j + x ≡ 512 * (at - first) + (512 * i + x) = omega arith in
          let sector : at + i ≡ first + j = omega arith in
          mid_inside (512 * (at - first)) k (512 * j + x) (512 * i + x) to run place (omega arith) within
          ∙ here (512 * i + x) (omega arith) there
          ∙ later_byte images geo.head.offset at i x (get_or geo.slots.items slot None)
          ∙ ap (λ (t : ℕ). member_byte images geo.head.offset t x (get_or geo.slots.items slot None)) sector
          ∙ held_byte images geo (first + j) slot x (get_or geo.slots.items slot None) there)
    ]

pub hold_past : (images : List (List ℕ)) (geo : Geometry) (slot first at next : ℕ) (to : List ℕ) → first ≤ at → ((t : ℕ) → at ≤ t → t < next → is_needed geo slot t ≡ false) →
    HoldNeededOf images geo slot first (at - first) to → HoldNeededOf images geo slot first (next - first) to
hold_past images geo slot first at next to from each hold = λ j x below inside needed.
    elim (cases_lt j (at - first)) [
      | inl less ↦ hold j x less inside needed
      | inr more ↦ absurd (false≢true (sym (each (first + j) (omega arith) (omega arith)) ∙ needed))
    ]

-- what was read of one more slot
pub hold_slot : (images : List (List ℕ)) (geo : Geometry) (stride first count slot k : ℕ) (sectors to : List ℕ) → 512 * count ≤ stride → length to ≡ 512 * count →
    stride * slot ≤ length sectors →
    ((i j x : ℕ) → i < slot → j < count → x < 512 → is_needed geo i (first + j) ≡ true →
    get_or sectors (stride * i + (512 * j + x)) 0 ≡ byte_in images geo (first + j) i x (get_or geo.slots.items i None)) →
    HoldNeededOf images geo slot first count to →
    (i j x : ℕ) → i < slot + 1 → j < count → x < 512 → is_needed geo i (first + j) ≡ true →
    get_or (put_mid (stride * slot) k sectors to) (stride * i + (512 * j + x)) 0 ≡ byte_in images geo (first + j) i x (get_or geo.slots.items i None)
hold_slot images geo stride first count slot k sectors to fits long within hold here = λ i j x below short inside needed.
    elim (cases_lt i slot) [
      | inl less ↦
          (let lies = region_inside stride i slot less in
          mid_before (stride * slot) k (stride * i + (512 * j + x)) sectors to (omega arith) within ∙ hold i j x less short inside needed)
      | inr more ↦
          (let e : slot ≡ i = omega arith in
          let at : stride * i + (512 * j + x) ≡ stride * slot + (512 * j + x) = ap (λ (t : ℕ). stride * t + (512 * j + x)) (sym e) in
          mid_inside (stride * slot) k (stride * i + (512 * j + x)) (512 * j + x) sectors to at (omega arith) within
          ∙ here j x short inside (ap (λ (t : ℕ). is_needed geo t (first + j)) e ∙ needed)
          ∙ ap (λ (t : ℕ). byte_in images geo (first + j) t x (get_or geo.slots.items t None)) e)
    ]
