-- Every row of a generated array is sound.
use Rattle.std.proofs.Common.{◌≡◌, ℕ, zero, suc, ◌+◌, ◌*◌, ◌/◌, ◌<◌, ◌≤◌, Bool, true, false, cond, not, List, [], ◌∷◌, length, get_or, map, Option, None, Some, inl, refl, ap, ap₂, ◌∙◌, arith}
use Rattle.std.proofs.lemmas.Bool.{and_from}
use Rattle.std.specs.List.{count_by, flat_map, list_all, range_with_len}
use Rattle.std.specs.Option.{is_none}
use Rattle.std.specs.Prelude.{IsTrue}
use Rattle.member_regions.specs.Members.{held}
use Rattle.row_parity.proofs.Columns.{holds}
use Rattle.row_parity.proofs.Members.{In, In-flat_map, In-map, In-range, any_passes}
use Rattle.raid_layouts.proofs.Counts.{any_counted, count_cons, count_p, count_q, number as places}
use Rattle.raid_layouts.proofs.Shapes.{shaped_head, shaped_slots}
use Rattle.raid_params.proofs.Ruled.{ruled_shape}
use Rattle.raid_params.specs.Validity.{is_valid_head}
use Rattle.raid_params.specs.declared.types.Cell.{Cell}
use Rattle.raid_params.specs.declared.types.Head.{Head}
use Rattle.raid_terms.specs.Cells.{cells_from, row_cells}
use Rattle.raid_terms.specs.Parity.{equations_hold, filled, has_p, has_q, in_p, in_q, is_p, is_q, is_sound, is_sound_column, is_sound_row, member_byte, member_column, p_holds, q_holds, sum_of}
use Rattle.raid_terms.specs.Role.{p_of, q_of}
use Rattle.sample_arrays.proofs.Bytes.{sector_is}
use Rattle.sample_arrays.proofs.Found.{slot_read}
use Rattle.sample_arrays.proofs.RowSums.{IsVolume, column_from, p_total, q_total, slot_byte, slot_fits}
use Rattle.sample_arrays.specs.Arrays.{end_of, generated}
use Rattle.sample_arrays.specs.Laws.{NoGeneratedRowIsUnsound, RowsOfGeneratedArraysAreSound, sampled_bytes}

some_place : (o : Option ℕ) → 1 ≤ places o → (s : ℕ) × (o ≡ Some s)
some_place None h = absurd (omega arith)
some_place (Some s) h = (s, refl)

-- the equations hold in the column of all members' bytes
column_holds : (volume : ℕ → List ℕ) (head : Head) (t x : ℕ) (slots : List (Option ℕ)) → IsTrue (is_valid_head head) → IsVolume volume → x < 512 → length slots ≡ head.members →
    equations_hold (cells_from head (t / head.chunk) 0 slots) (column_from (slot_byte volume head t x) 0 slots) ≡ true
column_holds volume head t x slots valid is below long =
    let cells : List Cell = cells_from head (t / head.chunk) 0 slots in
    let column : List ℕ = column_from (slot_byte volume head t x) 0 slots in
    and_from (p_holds cells column) (q_holds cells column)
    (holds (has_p cells) (sum_of in_p cells column) (λ there.
    let some = any_counted (λ (c : Cell). is_p c.part) cells there in
    let count = count_p head (t / head.chunk) slots valid long in
    let at = some_place (p_of head (t / head.chunk)) (omega arith) in
    p_total volume head t x at.0 slots valid is below long at.1))
    (holds (has_q cells) (sum_of in_q cells column) (λ there.
    let some = any_counted (λ (c : Cell). is_q c.part) cells there in
    let count = count_q head (t / head.chunk) slots valid long in
    let at = some_place (q_of head (t / head.chunk)) (omega arith) in
    q_total volume head t x at.0 slots valid is below long at.1))

-- that column fills the empty slots of the one that is read
filled_step : (missing : Bool) (cells : List Cell) (bytes rest : List ℕ) (n byte b : ℕ) → n ≡ 256 → b < 256 → (missing ≡ false → byte ≡ b) → In (filled cells bytes) rest →
    In (flat_map (λ x. map (λ xs. x ∷ xs) (filled cells bytes)) (cond missing (range_with_len 0 n) (byte ∷ []))) (b ∷ rest)
filled_step true cells bytes rest n byte b all small same there =
    In-flat_map (λ x. map (λ xs. x ∷ xs) (filled cells bytes)) (range_with_len 0 n) b (b ∷ rest) (In-range 0 n b (omega arith) (omega arith))
    (In-map (λ xs. b ∷ xs) (filled cells bytes) rest there)
filled_step false cells bytes rest n byte b all small same there =
    In-flat_map (λ x. map (λ xs. x ∷ xs) (filled cells bytes)) (byte ∷ []) b (b ∷ rest) (inl (same refl))
    (In-map (λ xs. b ∷ xs) (filled cells bytes) rest there)

read_held : (read : Option ℕ → ℕ) (held : Option ℕ) (b : ℕ) → ((i : ℕ) → held ≡ Some i → read (Some i) ≡ b) → is_none held ≡ false → read held ≡ b
read_held read None b known some = (cc)
read_held read (Some i) b known some = known i refl

among : (head : Head) (row : ℕ) (byte : ℕ → ℕ) (read : Option ℕ → ℕ) (slot : ℕ) (slots : List (Option ℕ)) → ((s : ℕ) → byte s < 256) →
    ((k i : ℕ) → k < length slots → get_or slots k None ≡ Some i → read (Some i) ≡ byte (slot + k)) →
    In (filled (cells_from head row slot slots) (map read slots)) (column_from byte slot slots)
unfolding filled
among head row byte read slot [] fits known = inl refl
among head row byte read slot (held ∷ slots) fits known =
    filled_step (is_none held) (cells_from head row (slot + 1) slots) (map read slots) (column_from byte (slot + 1) slots) 256 (read held) (byte slot) refl (fits slot)
    (read_held read held (byte slot) (λ i at. let here : slot + 0 ≡ slot = omega arith in known 0 i (omega arith) at ∙ ap byte here))
    (among head row byte read (slot + 1) slots fits
    (λ k i inside at. let next : slot + suc k ≡ slot + 1 + k = omega arith in known (suc k) i (omega arith) at ∙ ap byte next))

all_of : (f : ℕ → Bool) (a n : ℕ) → ((x : ℕ) → x < a + n → f x ≡ true) → list_all f (range_with_len a n) ≡ true
all_of f a zero h = refl
all_of f a (suc n) h = and_from (f a) (list_all f (range_with_len (a + 1) n)) (h a (omega arith)) (all_of f (a + 1) n (λ x below. h x (omega arith)))

pub sound_rows : RowsOfGeneratedArraysAreSound
unfolding is_sound
sound_rows number geo rows xfs t kept inside =
    let shaped = ruled_shape geo (held geo.slots.items) (end_of geo.head rows) kept in
    let volume : ℕ → List ℕ = generated number geo.head rows xfs in
    let images : List (List ℕ) = sampled_bytes number geo rows xfs in
    let is : IsVolume volume = λ v. sector_is number _ v in
    all_of (λ x. is_sound_column (row_cells geo (t / geo.head.chunk)) (member_column images geo t x)) 0 512
    (λ x below.
    any_passes (equations_hold (row_cells geo (t / geo.head.chunk))) (filled (row_cells geo (t / geo.head.chunk)) (member_column images geo t x))
    (column_from (slot_byte volume geo.head t x) 0 geo.slots.items)
    (among geo.head (t / geo.head.chunk) (slot_byte volume geo.head t x) (member_byte images geo.head.offset t x) 0 geo.slots.items
    (λ s. slot_fits volume geo.head t x s is (omega arith))
    (λ k i there at. let same : k ≡ 0 + k = omega arith in
    slot_read number geo rows xfs t x k i shaped inside (omega arith) there at ∙ ap (λ (s : ℕ). slot_byte volume geo.head t x s) same))
    (column_holds volume geo.head t x geo.slots.items (shaped_head geo (held geo.slots.items) shaped) is (omega arith) (shaped_slots geo (held geo.slots.items) shaped)))

none_counted : (f : ℕ → Bool) (a n : ℕ) → ((x : ℕ) → x < a + n → f x ≡ false) → count_by f (range_with_len a n) ≡ 0
none_counted f a zero off = refl
none_counted f a (suc n) off =
    count_cons f a (range_with_len (a + 1) n)
    ∙ ap₂ (λ (b : Bool) (k : ℕ). cond b 1 0 + k) (off a (omega arith)) (none_counted f (a + 1) n (λ x below. off x (omega arith)))

pub none_unsound : NoGeneratedRowIsUnsound
none_unsound number geo rows xfs kept =
    none_counted (λ t. not (is_sound_row (sampled_bytes number geo rows xfs) geo t)) 0 (rows * geo.head.chunk)
    (λ t below. ap (λ (b : Bool). not b) (sound_rows number geo rows xfs t kept (omega arith)))
