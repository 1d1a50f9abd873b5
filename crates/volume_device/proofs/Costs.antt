-- What ranges cost.
use Rattle.std.proofs.Common.{◌≡◌, ℕ, zero, suc, ◌+◌, ◌-◌, ◌*◌, ◌/◌, ◌%◌, ◌<◌, ◌≤◌, List, [], ◌∷◌, length, map, get_or, Option, None, Some, Bool, true, false, ◌||◌, ◌&&◌, inl, inr, refl, sym, ap, ◌∙◌, subst, arith}
use Rattle.std.specs.List.{list_all, range_with_len, sum}
use Rattle.std.specs.Option.{is_some}
use Rattle.std.specs.Prelude.{IsTrue, nat_le, if◌then◌else◌, slice_index_or}
use Rattle.std.proofs.lemmas.Bool.{cases_lt}
use Rattle.std.proofs.lemmas.Bool.Decides.{nat_tests}
use Rattle.std.proofs.lemmas.Nat.{div-add-mod', mod_below}
use Rattle.outside.specs.Seen.{Seen}
use Rattle.address_map.proofs.Heads.{some_data}
use Rattle.lost_members.proofs.NeededSums.{sum_first}
use Rattle.raid_layouts.proofs.Levels.{item_below}
use Rattle.raid_params.specs.Size.{data_blocks}
use Rattle.raid_params.specs.Validity.{is_valid_head}
use Rattle.raid_params.specs.declared.types.Geometry.{Geometry}
use Rattle.raid_params.specs.declared.types.Head.{Head}
use Rattle.raid_terms.specs.Address.{home_item, home_row, home_slot}
use Rattle.volume_device.specs.Cost.{IsStep, cost_of, is_row_asked, is_there, part_cost, range_cost, row_sectors, step_cost}
use Rattle.volume_device.specs.Kept.{HasRead}
use Rattle.volume_device.specs.declared.kept.Kept.{Kept}
use Rattle.virtual_volume.proofs.InChunk.{same_chunk}
use Rattle.volume_device.proofs.Chunks.{same_slot}
use Rattle.volume_device.proofs.Memory.{read_join, read_up}
use Rattle.volume_device.proofs.Rows.{of_le}

-- sums over ranges of numbers, in two parts
sum_parts : (f : ℕ → ℕ) (a n m k b : ℕ) → k ≡ n + m → b ≡ a + n →
    sum (map f (range_with_len a k)) ≡ sum (map f (range_with_len a n)) + sum (map f (range_with_len b m))
sum_parts f a zero m k b e g =
    let all : k ≡ m = omega arith in
    let from : a ≡ b = omega arith in
    let same : sum (map f (range_with_len a k)) ≡ sum (map f (range_with_len b m)) = ap (λ (t : ℕ). sum (map f (range_with_len a t))) all ∙ ap (λ (t : ℕ). sum (map f (range_with_len t m))) from in
    omega (arith, same)
sum_parts f a (suc n) m zero b e g = absurd (omega arith)
sum_parts f a (suc n) m (suc k) b e g = omega (arith, sum_first f a k, sum_first f a n, sum_parts f (a + 1) n m k b (omega arith) (omega arith))

-- of at least 1 each
sum_least : (f : ℕ → ℕ) (a n : ℕ) → ((v : ℕ) → 1 ≤ f v) → n ≤ sum (map f (range_with_len a n))
sum_least f a zero least = omega arith
sum_least f a (suc n) least = omega (arith, sum_first f a n, least a, sum_least f (a + 1) n least)

-- of numbers that agree
sum_same : (f g : ℕ → ℕ) (a n : ℕ) → ((v : ℕ) → a ≤ v → v < a + n → f v ≡ g v) → sum (map f (range_with_len a n)) ≡ sum (map g (range_with_len a n))
sum_same f g a zero same = refl
sum_same f g a (suc n) same =
    omega (arith, sum_first f a n, sum_first g a n, same a (omega arith) (omega arith), sum_same f g (a + 1) n (λ v low high. same v (omega arith) (omega arith)))

-- of one number
sum_of_one : (c a n : ℕ) → sum (map (λ v. c) (range_with_len a n)) ≡ c * n
sum_of_one c a zero = grind arith
sum_of_one c a (suc n) =
    let more : c * suc n ≡ c + c * n = grind arith in
    omega (arith, more, sum_first (λ v. c) a n, sum_of_one c (a + 1) n)

-- more sectors cost more
pub part_more : (geo : Geometry) (first n m : ℕ) → part_cost geo first (n + m) ≡ part_cost geo first n + part_cost geo (first + n) m
unfolding part_cost
part_more geo first n m = sum_parts (λ v. if is_there geo v then 1 else data_blocks geo.head) first n m (n + m) (first + n) refl refl

turned : (b : Bool) (d n : ℕ) → (if b then 1 else d) * n ≡ (if b then n else d * n)
turned true d n = grind arith
turned false d n = refl

-- sectors of one chunk cost alike
pub chunk_cost : (geo : Geometry) (v n : ℕ) → v % geo.head.chunk + n ≤ geo.head.chunk → part_cost geo v n ≡ (if is_there geo v then n else data_blocks geo.head * n)
unfolding part_cost
chunk_cost geo v n few =
    sum_same (λ u. if is_there geo u then 1 else data_blocks geo.head) (λ u. if is_there geo v then 1 else data_blocks geo.head) v n
    (λ u low high.
    let at : v + (u - v) ≡ u = omega arith in
    let slot : home_slot geo.head u ≡ home_slot geo.head v = ap (λ (t : ℕ). home_slot geo.head t) (sym at) ∙ same_slot geo.head v (u - v) (omega arith) in
    ap (λ (k : ℕ). if is_some (slice_index_or geo.slots.items k None) then 1 else data_blocks geo.head) slot)
    ∙ sum_of_one (if is_there geo v then 1 else data_blocks geo.head) v n ∙ turned (is_there geo v) (data_blocks geo.head) n

-- the readings of one more run of a part
pub reads_chunk : {old mid new : Seen} {before between after : Kept} (geo : Geometry) (first at next n : ℕ) → at ≤ next → n ≡ next - at → (first + at) % geo.head.chunk + n ≤ geo.head.chunk →
    HasRead geo (part_cost geo first at) old mid before between → HasRead geo (if is_there geo (first + at) then n else data_blocks geo.head * n) mid new between after →
    HasRead geo (part_cost geo first next) old new before after
reads_chunk geo first at next n le e few read more =
    let whole : part_cost geo first next ≡ part_cost geo first (at + n) = (let all : next ≡ at + n = omega arith in ap (λ (k : ℕ). part_cost geo first k) all) in
    read_up (read_join read more) (omega (arith, whole, part_more geo first at n, chunk_cost geo (first + at) n few))

-- no more than those of a longer part
pub reads_part : {old new : Seen} {before after : Kept} (geo : Geometry) (first next count : ℕ) → next ≤ count →
    HasRead geo (part_cost geo first next) old new before after → HasRead geo (part_cost geo first count) old new before after
reads_part geo first next count le read =
    let whole : part_cost geo first count ≡ part_cost geo first (next + (count - next)) = (let all : count ≡ next + (count - next) = omega arith in ap (λ (k : ℕ). part_cost geo first k) all) in
    read_up read (omega (arith, whole, part_more geo first next (count - next)))

-- each slot holds an image
slot_held : (slots : List (Option ℕ)) (k : ℕ) → list_all is_some slots ≡ true → k < length slots → is_some (get_or slots k None) ≡ true
slot_held [] k all below = absurd (omega arith)
slot_held (None ∷ slots) k all below = absurd (cc)
slot_held (Some i ∷ slots) zero all below = refl
slot_held (Some i ∷ slots) (suc k) all below = slot_held slots k all (omega arith)

-- where no member is missing each sector costs one
pub full_cost : (geo : Geometry) (first n : ℕ) → IsTrue (is_valid_head geo.head) → length geo.slots.items ≡ geo.head.members → list_all is_some geo.slots.items ≡ true → part_cost geo first n ≡ n
unfolding part_cost
full_cost geo first n valid slots all =
    sum_same (λ v. if is_there geo v then 1 else data_blocks geo.head) (λ v. 1) first n
    (λ v low high.
    let item : home_item geo.head v < data_blocks geo.head = mod_below (v / geo.head.chunk) (data_blocks geo.head) (some_data geo.head valid) in
    let slot : home_slot geo.head v < geo.head.members = item_below geo.head (home_row geo.head v) (home_item geo.head v) valid item in
    ap (λ (b : Bool). if b then 1 else data_blocks geo.head) (slot_held geo.slots.items (home_slot geo.head v) all (omega arith)))
    ∙ sum_of_one 1 first n ∙ omega arith

-- a sector costs at least one
cost_some : (b : Bool) (d : ℕ) → 0 < d → 1 ≤ (if b then 1 else d)
cost_some true d some = omega arith
cost_some false d some = some

not_le : (a b : ℕ) → b < a → nat_le a b ≡ false
not_le a b h = grind (arith, nat_tests)

or_none : (a b : Bool) → b ≡ false → (a || b) ≡ a
or_none true b e = refl
or_none false b e = e

and_first : (a b : Bool) → a ≡ false → (a && b) ≡ false
and_first true b e = absurd (cc)
and_first false b e = refl

and_second : (a b : Bool) → b ≡ false → (a && b) ≡ false
and_second true b e = e
and_second false b e = refl

-- the row of a sector in a part of a row is not asked for whole
not_whole : (head : Head) (first count s left n v : ℕ) → 0 < row_sectors head → s + left ≡ first + count → s % row_sectors head + n ≤ row_sectors head →
    (s % row_sectors head ≡ 0 → left < row_sectors head) → (0 < s % row_sectors head → s ≡ first) → s ≤ v → v < s + n → is_row_asked head first count v ≡ false
not_whole head first count s left n v some end part cut begun low high =
    let row : ℕ = row_sectors head in
    let at : s + (v - s) ≡ v = omega arith in
    let same : v / row_sectors head ≡ s / row_sectors head = ap (λ (t : ℕ). t / row_sectors head) (sym at) ∙ same_chunk (row_sectors head) s (v - s) (omega arith) in
    let split : s / row_sectors head * row_sectors head + s % row_sectors head ≡ s = div-add-mod' s (row_sectors head) in
    let start : v / row_sectors head * row_sectors head ≡ s / row_sectors head * row_sectors head = ap (λ (k : ℕ). k * row_sectors head) same in
    let stop : (v / row_sectors head + 1) * row_sectors head ≡ v / row_sectors head * row_sectors head + row_sectors head = grind arith in
    elim (cases_lt 0 (s % row_sectors head)) [
      | inl into ↦ (let e = begun into in
          and_first (nat_le first (v / row_sectors head * row_sectors head)) (nat_le ((v / row_sectors head + 1) * row_sectors head) (first + count))
          (not_le first (v / row_sectors head * row_sectors head) (omega arith)))
      | inr begins ↦ (let few = cut (omega arith) in
          and_second (nat_le first (v / row_sectors head * row_sectors head)) (nat_le ((v / row_sectors head + 1) * row_sectors head) (first + count))
          (not_le ((v / row_sectors head + 1) * row_sectors head) (first + count) (omega arith)))
    ]

-- a step costs as a part of a row, or one sector each
pub step_is_part : (geo : Geometry) (first n : ℕ) → n < row_sectors geo.head → step_cost geo first n ≡ part_cost geo first n
unfolding step_cost
step_is_part geo first n less = ap (λ (b : Bool). if b then n else part_cost geo first n) (not_le (row_sectors geo.head) n less)

pub step_is_rows : (geo : Geometry) (first n : ℕ) → row_sectors geo.head ≤ n → step_cost geo first n ≡ n
unfolding step_cost
step_is_rows geo first n more = ap (λ (b : Bool). if b then n else part_cost geo first n) (of_le (row_sectors geo.head) n more)

-- a part of a row costs what its sectors cost in the range
part_in : (geo : Geometry) (first count s left n : ℕ) → 0 < row_sectors geo.head → s + left ≡ first + count → s % row_sectors geo.head + n ≤ row_sectors geo.head →
    (s % row_sectors geo.head ≡ 0 → left < row_sectors geo.head) → (0 < s % row_sectors geo.head → s ≡ first) → part_cost geo s n ≡ sum (map (cost_of geo first count) (range_with_len s n))
unfolding part_cost
part_in geo first count s left n some end part cut begun =
    sum_same (λ v. if is_there geo v then 1 else data_blocks geo.head) (cost_of geo first count) s n
    (λ v low high.
    ap (λ (b : Bool). if b then 1 else data_blocks geo.head)
    (sym (or_none (is_there geo v) (is_row_asked geo.head first count v) (not_whole geo.head first count s left n v some end part cut begun low high))))

-- a step costs no more than its sectors in the range
step_least : (geo : Geometry) (first count s left n most : ℕ) → 0 < row_sectors geo.head → 0 < data_blocks geo.head → s + left ≡ first + count → IsStep (row_sectors geo.head) most s left n →
    (0 < s % row_sectors geo.head → s ≡ first) → step_cost geo s n ≤ sum (map (cost_of geo first count) (range_with_len s n))
step_least geo first count s left n most some least end step begun =
    elim (cases_lt n (row_sectors geo.head)) [
      | inl part ↦ omega (arith, step_is_part geo s n part, part_in geo first count s left n some end (step.part part) (step.cut part) begun)
      | inr rows ↦ omega (arith, step_is_rows geo s n rows, sum_least (cost_of geo first count) s n (λ v. cost_some (is_there geo v || is_row_asked geo.head first count v) (data_blocks geo.head) least))
    ]

-- what the first n sectors of a range cost
abbrev pub front_cost : Geometry → ℕ → ℕ → ℕ → ℕ
front_cost geo first count n = sum (map (cost_of geo first count) (range_with_len first n))

-- the readings of one more step of a range
pub reads_step : {old mid new : Seen} {before between after : Kept} (geo : Geometry) (first count at next n m row most : ℕ) → 0 < row_sectors geo.head → 0 < data_blocks geo.head → next ≡ at + n → m ≡ n → row ≡ row_sectors geo.head →
    at < count → IsStep row most (first + at) (count - at) n → (0 < at → at < count → (first + at) % row_sectors geo.head ≡ 0) →
    HasRead geo (front_cost geo first count at) old mid before between → HasRead geo (step_cost geo (first + at) m) mid new between after →
    HasRead geo (front_cost geo first count next) old new before after
reads_step geo first count at next n m row most some one e f is less step begun read more =
    let same : step_cost geo (first + at) m ≡ step_cost geo (first + at) n = ap (λ (k : ℕ). step_cost geo (first + at) k) f in
    let least = step_least geo first count (first + at) (count - at) n most some one (omega arith) (subst (λ (r : ℕ). IsStep r most (first + at) (count - at) n) is step)
    (λ into. elim (cases_lt 0 at) [
      | inl later ↦ (let none = begun later less in absurd (omega arith))
      | inr here ↦ omega arith
    ]) in
    read_up (read_join read more)
    (omega (arith, same, least, sum_parts (cost_of geo first count) first at n next (first + at) e refl))

-- the next step begins a row
pub begins_on : (first at n row r : ℕ) → row ≡ r → (first + at + n) % row ≡ 0 → (first + (at + n)) % r ≡ 0
begins_on first at n row r e h =
    let place : first + (at + n) ≡ first + at + n = omega arith in
    ap (λ (t : ℕ). t % r) place ∙ ap (λ (t : ℕ). (first + at + n) % t) (sym e) ∙ h

-- no more than those of the range
pub reads_range : {old new : Seen} {before after : Kept} (geo : Geometry) (first count next : ℕ) → next ≤ count →
    HasRead geo (front_cost geo first count next) old new before after → HasRead geo (range_cost geo first count) old new before after
unfolding range_cost
reads_range geo first count next le read =
    read_up read (omega (arith, sum_parts (cost_of geo first count) first next (count - next) count (first + next) (omega arith) refl))
