-- P's and Q's equations hold in the generated columns.
use Rattle.std.proofs.Common.{◌≡◌, ◌≢◌, ℕ, zero, suc, ◌+◌, ◌/◌, ◌<◌, ◌^◌, Bool, true, false, cond, List, [], ◌∷◌, length, get_or, map, Option, Some, bit_xor, refl, sym, ap, ap₂, ◌∙◌, arith}
use Rattle.std.proofs.lemmas.Bool.{eq-eqb, ne_eqb}
use Rattle.std.proofs.lemmas.List.{get_or-map, get_or-replicate, length-map, length-replicate}
use Rattle.std.proofs.lemmas.Simd.{get_or-zip2, length-zip2}
use Rattle.std.specs.Prelude.{IsTrue}
use Rattle.gf256.proofs.Powers.{power_fits}
use Rattle.gf256.proofs.Products.{product_fits}
use Rattle.gf256.proofs.Sums.{sum_fits, sum_self, sum_zero}
use Rattle.gf256.specs.Field.{power_of, product}
use Rattle.raid_layouts.proofs.Levels.{each_slot, layout_of}
use Rattle.raid_layouts.proofs.Parts.{part_data, part_p, part_q}
use Rattle.raid_params.specs.Size.{data_blocks}
use Rattle.raid_params.specs.Validity.{is_valid_head}
use Rattle.raid_params.specs.declared.types.Head.{Head}
use Rattle.raid_params.specs.declared.types.Level.{Level}
use Rattle.raid_params.specs.declared.types.Part.{Part}
use Rattle.raid_terms.specs.Cells.{cells_from, part_of, stands_in, weight_at}
use Rattle.raid_terms.specs.Exponent.{exponent_of, item_in}
use Rattle.raid_terms.specs.Parity.{in_p, in_q, sum_of as cells_sum}
use Rattle.raid_terms.specs.Role.{HasRole, Item, P, Q, Role, item_of, p_of, q_of}
use Rattle.sample_arrays.proofs.Bytes.{IsSector}
use Rattle.sample_arrays.proofs.Roles.{level_of_q, on_item, on_p, on_q}
use Rattle.sample_arrays.proofs.Totals.{cancels, items_none, items_one, items_same, items_sum, on_slot, slots_sum, zero_sum}
use Rattle.sample_arrays.specs.Arrays.{member_sector, p_sector, q_sector, row_sector, sum_of, weight_of}

-- the sum of sectors has its sums in its columns
pub sum_long : (sector : ℕ → List ℕ) (n : ℕ) → ((i : ℕ) → length (sector i) ≡ 512) → length (sum_of sector n) ≡ 512
unfolding sum_of
sum_long sector zero long = length-replicate {A = ℕ} 512 0
sum_long sector (suc n) long =
    let a = sum_long sector n long in
    let b = long n in
    let c = length-zip2 bit_xor (sum_of sector n) (sector n) (omega arith) in
    omega arith

pub sum_byte : (sector : ℕ → List ℕ) (n x : ℕ) → ((i : ℕ) → length (sector i) ≡ 512) → x < 512 → get_or (sum_of sector n) x 0 ≡ items_sum (λ i. get_or (sector i) x 0) n
unfolding sum_of
sum_byte sector zero x long below = get_or-replicate {A = ℕ} 512 x 0 0 below
sum_byte sector (suc n) x long below =
    let a = sum_long sector n long in
    let b = long n in
    get_or-zip2 bit_xor (sum_of sector n) (sector n) x 0 0 0 (omega arith) (omega arith)
    ∙ ap (λ (y : ℕ). bit_xor y (get_or (sector n) x 0)) (sum_byte sector n x long below)

-- the byte of an item in column x
abbrev pub item_byte : (ℕ → List ℕ) → Head → ℕ → ℕ → ℕ → ℕ
item_byte volume head t x item = get_or (volume (row_sector head t item)) x 0

-- the byte of a slot
abbrev pub slot_byte : (ℕ → List ℕ) → Head → ℕ → ℕ → ℕ → ℕ
slot_byte volume head t x slot = get_or (member_sector volume head slot t) x 0

-- a volume of whole sectors
abbrev pub IsVolume : (ℕ → List ℕ) → Type 0
IsVolume volume = (v : ℕ) → IsSector (volume v)

weighed_long : (volume : ℕ → List ℕ) (head : Head) (t item : ℕ) → IsVolume volume → length (map (product (weight_of head (t / head.chunk) item)) (volume (row_sector head t item))) ≡ 512
weighed_long volume head t item is = length-map (volume (row_sector head t item)) (product (weight_of head (t / head.chunk) item)) ∙ (is (row_sector head t item)).long

pub p_byte : (volume : ℕ → List ℕ) (head : Head) (t x : ℕ) → IsVolume volume → x < 512 →
    get_or (p_sector volume head t) x 0 ≡ items_sum (item_byte volume head t x) (data_blocks head)
unfolding p_sector
p_byte volume head t x is below = sum_byte (λ item. volume (row_sector head t item)) (data_blocks head) x (λ i. (is (row_sector head t i)).long) below

pub q_byte : (volume : ℕ → List ℕ) (head : Head) (t x : ℕ) → IsVolume volume → x < 512 →
    get_or (q_sector volume head t) x 0 ≡ items_sum (λ i. product (weight_of head (t / head.chunk) i) (item_byte volume head t x i)) (data_blocks head)
unfolding q_sector
q_byte volume head t x is below =
    sum_byte (λ item. map (product (weight_of head (t / head.chunk) item)) (volume (row_sector head t item))) (data_blocks head) x (λ i. weighed_long volume head t i is) below
    ∙ items_same (λ i. get_or (map (product (weight_of head (t / head.chunk) i)) (volume (row_sector head t i))) x 0)
    (λ i. product (weight_of head (t / head.chunk) i) (item_byte volume head t x i)) (data_blocks head)
    (λ i lt. let long = (is (row_sector head t i)).long in
    get_or-map (product (weight_of head (t / head.chunk) i)) (volume (row_sector head t i)) x 0 0 (omega arith))

-- each member's sectors are whole
pub p_long : (volume : ℕ → List ℕ) (head : Head) (t : ℕ) → IsVolume volume → length (p_sector volume head t) ≡ 512
unfolding p_sector
p_long volume head t is = sum_long (λ item. volume (row_sector head t item)) (data_blocks head) (λ i. (is (row_sector head t i)).long)

pub q_long : (volume : ℕ → List ℕ) (head : Head) (t : ℕ) → IsVolume volume → length (q_sector volume head t) ≡ 512
unfolding q_sector
q_long volume head t is =
    sum_long (λ item. map (product (weight_of head (t / head.chunk) item)) (volume (row_sector head t item))) (data_blocks head) (λ i. weighed_long volume head t i is)

one_of : (R : List ℕ → Type 0) (a b : Bool) (x y z : List ℕ) → R x → R y → R z → R (cond a x (cond b y z))
one_of R true b x y z p q r = p
one_of R false true x y z p q r = q
one_of R false false x y z p q r = r

pub member_long : (volume : ℕ → List ℕ) (head : Head) (slot t : ℕ) → IsVolume volume → length (member_sector volume head slot t) ≡ 512
member_long volume head slot t is =
    one_of (λ xs. length xs ≡ 512) (stands_in slot (p_of head (t / head.chunk))) (stands_in slot (q_of head (t / head.chunk)))
    (p_sector volume head t) (q_sector volume head t) (volume (row_sector head t (item_in head (t / head.chunk) slot)))
    (p_long volume head t is) (q_long volume head t is) (is (row_sector head t (item_in head (t / head.chunk) slot))).long

items_fit : (f : ℕ → ℕ) (d : ℕ) → ((i : ℕ) → f i < 2 ^ 8) → items_sum f d < 2 ^ 8
items_fit f zero each = omega arith
items_fit f (suc d) each = sum_fits (items_sum f d) (f d) (items_fit f d each) (each d)

-- and their numbers are bytes
pub slot_fits : (volume : ℕ → List ℕ) (head : Head) (t x slot : ℕ) → IsVolume volume → x < 512 → slot_byte volume head t x slot < 256
slot_fits volume head t x slot is below =
    one_of (λ xs. get_or xs x 0 < 256) (stands_in slot (p_of head (t / head.chunk))) (stands_in slot (q_of head (t / head.chunk)))
    (p_sector volume head t) (q_sector volume head t) (volume (row_sector head t (item_in head (t / head.chunk) slot)))
    (let e = p_byte volume head t x is below in
    let h = items_fit (item_byte volume head t x) (data_blocks head) (λ i. (is (row_sector head t i)).bytes x) in omega arith)
    (let e = q_byte volume head t x is below in
    let h = items_fit (λ i. product (weight_of head (t / head.chunk) i) (item_byte volume head t x i)) (data_blocks head)
    (λ i. product_fits (weight_of head (t / head.chunk) i) (item_byte volume head t x i) (power_fits (exponent_of head (t / head.chunk) (item_of head (t / head.chunk) i)))) in omega arith)
    ((is (row_sector head t (item_in head (t / head.chunk) slot))).bytes x)

-- what a slot adds, where it is the place, an item's slot or neither
on_there : (place x s : ℕ) → place ≡ s → on_slot place x s ≡ x
on_there place x s e = ap (λ (b : Bool). cond b x 0) (eq-eqb place s e)

off_there : (place x s : ℕ) → place ≢ s → on_slot place x s ≡ 0
off_there place x s ne = ap (λ (b : Bool). cond b x 0) (ne_eqb place s ne)

no_items : (item value : ℕ → ℕ) (d s : ℕ) → ((i : ℕ) → i < d → item i ≢ s) → items_sum (λ i. on_slot (item i) (value i) s) d ≡ 0
no_items item value d s off = items_none (λ i. on_slot (item i) (value i) s) d (λ i lt. off_there (item i) (value i) s (off i lt))

at_place : (item value : ℕ → ℕ) (place x d s : ℕ) → place ≡ s → ((i : ℕ) → i < d → item i ≢ s) →
    bit_xor (on_slot place x s) (items_sum (λ i. on_slot (item i) (value i) s) d) ≡ x
at_place item value place x d s e off = ap₂ bit_xor (on_there place x s e) (no_items item value d s off) ∙ sum_zero x

at_none : (item value : ℕ → ℕ) (place x d s : ℕ) → place ≢ s → ((i : ℕ) → i < d → item i ≢ s) →
    bit_xor (on_slot place x s) (items_sum (λ i. on_slot (item i) (value i) s) d) ≡ 0
at_none item value place x d s ne off = ap₂ bit_xor (off_there place x s ne) (no_items item value d s off) ∙ sum_self 0

at_item : (item value : ℕ → ℕ) (place x d s i : ℕ) → place ≢ s → i < d → item i ≡ s → ((j : ℕ) → j < d → item j ≡ s → j ≡ i) →
    bit_xor (on_slot place x s) (items_sum (λ j. on_slot (item j) (value j) s) d) ≡ value i
at_item item value place x d s i ne below e once =
    ap₂ bit_xor (off_there place x s ne)
    (items_one (λ j. on_slot (item j) (value j) s) d i below (λ j lt other. off_there (item j) (value j) s (λ f. other (once j lt f)))
    ∙ on_there (item i) (value i) s e)
    ∙ zero_sum (value i)

same_slot : (o : Option ℕ) (a b : ℕ) → o ≡ Some a → o ≡ Some b → a ≡ b
same_slot o a b e f = let both : Some a ≡ Some b = sym e ∙ f in cc

-- what each slot adds to P's equation
p_parts : (volume : ℕ → List ℕ) (head : Head) (t x p s : ℕ) (role : Role) → IsTrue (is_valid_head head) → IsVolume volume → x < 512 → p_of head (t / head.chunk) ≡ Some p →
    HasRole head (t / head.chunk) s role →
    in_p (part_of head (t / head.chunk) s) (slot_byte volume head t x s)
    ≡ bit_xor (on_slot p (items_sum (item_byte volume head t x) (data_blocks head)) s)
    (items_sum (λ i. on_slot (item_of head (t / head.chunk) i) (item_byte volume head t x i) s) (data_blocks head))
p_parts volume head t x p s P valid is below at has =
    let l = layout_of head (t / head.chunk) valid in
    ap (λ (part : Part). in_p part (slot_byte volume head t x s)) (part_p head (t / head.chunk) s has)
    ∙ ap (λ (xs : List ℕ). get_or xs x 0) (sym (on_p volume head s t has))
    ∙ p_byte volume head t x is below
    ∙ sym (at_place (item_of head (t / head.chunk)) (item_byte volume head t x) p (items_sum (item_byte volume head t x) (data_blocks head)) (data_blocks head) s
    (same_slot (p_of head (t / head.chunk)) p s at has)
    (λ i lt e. l.not_p i lt (has ∙ ap (λ (k : ℕ). Some k) (sym e))))
p_parts volume head t x p s Q valid is below at has =
    let l = layout_of head (t / head.chunk) valid in
    ap (λ (part : Part). in_p part (slot_byte volume head t x s)) (part_q head (t / head.chunk) s valid has)
    ∙ sym (at_none (item_of head (t / head.chunk)) (item_byte volume head t x) p (items_sum (item_byte volume head t x) (data_blocks head)) (data_blocks head) s
    (λ e. l.p_not_q p at (has ∙ ap (λ (k : ℕ). Some k) (sym e)))
    (λ i lt e. l.not_q i lt (has ∙ ap (λ (k : ℕ). Some k) (sym e))))
p_parts volume head t x p s (Item i) valid is below at has =
    let l = layout_of head (t / head.chunk) valid in
    ap (λ (part : Part). in_p part (slot_byte volume head t x s)) (part_data head (t / head.chunk) s valid (i, has))
    ∙ ap (λ (xs : List ℕ). get_or xs x 0) (sym (on_item volume head s t i valid has))
    ∙ sym (at_item (item_of head (t / head.chunk)) (item_byte volume head t x) p (items_sum (item_byte volume head t x) (data_blocks head)) (data_blocks head) s i
    (λ e. l.not_p i has.0 (at ∙ ap (λ (k : ℕ). Some k) (e ∙ has.1)))
    has.0 (sym has.1) (λ j lt e. l.once j i lt has.0 (e ∙ has.1)))

-- and to Q's
q_parts : (volume : ℕ → List ℕ) (head : Head) (t x q s : ℕ) (role : Role) → IsTrue (is_valid_head head) → IsVolume volume → x < 512 → q_of head (t / head.chunk) ≡ Some q →
    HasRole head (t / head.chunk) s role →
    in_q (part_of head (t / head.chunk) s) (slot_byte volume head t x s)
    ≡ bit_xor (on_slot q (items_sum (λ i. product (weight_of head (t / head.chunk) i) (item_byte volume head t x i)) (data_blocks head)) s)
    (items_sum (λ i. on_slot (item_of head (t / head.chunk) i) (product (weight_of head (t / head.chunk) i) (item_byte volume head t x i)) s) (data_blocks head))
q_parts volume head t x q s P valid is below at has =
    let l = layout_of head (t / head.chunk) valid in
    let weighed : ℕ → ℕ = λ i. product (weight_of head (t / head.chunk) i) (item_byte volume head t x i) in
    ap (λ (part : Part). in_q part (slot_byte volume head t x s)) (part_p head (t / head.chunk) s has)
    ∙ sym (at_none (item_of head (t / head.chunk)) weighed q (items_sum weighed (data_blocks head)) (data_blocks head) s
    (λ e. l.p_not_q s has (at ∙ ap (λ (k : ℕ). Some k) e))
    (λ i lt e. l.not_p i lt (has ∙ ap (λ (k : ℕ). Some k) (sym e))))
q_parts volume head t x q s Q valid is below at has =
    let l = layout_of head (t / head.chunk) valid in
    let weighed : ℕ → ℕ = λ i. product (weight_of head (t / head.chunk) i) (item_byte volume head t x i) in
    ap (λ (part : Part). in_q part (slot_byte volume head t x s)) (part_q head (t / head.chunk) s valid has)
    ∙ ap (λ (xs : List ℕ). get_or xs x 0) (sym (on_q volume head s t valid has))
    ∙ q_byte volume head t x is below
    ∙ sym (at_place (item_of head (t / head.chunk)) weighed q (items_sum weighed (data_blocks head)) (data_blocks head) s
    (same_slot (q_of head (t / head.chunk)) q s at has)
    (λ i lt e. l.not_q i lt (has ∙ ap (λ (k : ℕ). Some k) (sym e))))
q_parts volume head t x q s (Item i) valid is below at has =
    let l = layout_of head (t / head.chunk) valid in
    let weighed : ℕ → ℕ = λ j. product (weight_of head (t / head.chunk) j) (item_byte volume head t x j) in
    ap (λ (part : Part). in_q part (slot_byte volume head t x s)) (part_data head (t / head.chunk) s valid (i, has))
    ∙ ap (λ (level : Level). product (power_of (weight_at level head (t / head.chunk) s)) (slot_byte volume head t x s)) (level_of_q head (t / head.chunk) q at)
    ∙ ap (λ (slot : ℕ). product (power_of (exponent_of head (t / head.chunk) slot)) (slot_byte volume head t x s)) has.1
    ∙ ap (λ (xs : List ℕ). product (weight_of head (t / head.chunk) i) (get_or xs x 0)) (sym (on_item volume head s t i valid has))
    ∙ sym (at_item (item_of head (t / head.chunk)) weighed q (items_sum weighed (data_blocks head)) (data_blocks head) s i
    (λ e. l.not_q i has.0 (at ∙ ap (λ (k : ℕ). Some k) (e ∙ has.1)))
    has.0 (sym has.1) (λ j lt e. l.once j i lt has.0 (e ∙ has.1)))

-- the column of a row, a byte for each slot from this one on
abbrev pub column_from : (ℕ → ℕ) → ℕ → List (Option ℕ) → List ℕ
column_from byte slot [] = []
column_from byte slot (held ∷ slots) = byte slot ∷ column_from byte (slot + 1) slots

over_slots : (adds : Part → ℕ → ℕ) (head : Head) (row : ℕ) (byte : ℕ → ℕ) (slot : ℕ) (slots : List (Option ℕ)) →
    cells_sum adds (cells_from head row slot slots) (column_from byte slot slots) ≡ slots_sum (λ s. adds (part_of head row s) (byte s)) slot (length slots)
unfolding cells_sum
over_slots adds head row byte slot [] = refl
over_slots adds head row byte slot (held ∷ slots) = ap (bit_xor (adds (part_of head row slot) (byte slot))) (over_slots adds head row byte (slot + 1) slots)

pub p_total : (volume : ℕ → List ℕ) (head : Head) (t x p : ℕ) (slots : List (Option ℕ)) → IsTrue (is_valid_head head) → IsVolume volume → x < 512 →
    length slots ≡ head.members → p_of head (t / head.chunk) ≡ Some p →
    cells_sum in_p (cells_from head (t / head.chunk) 0 slots) (column_from (slot_byte volume head t x) 0 slots) ≡ 0
p_total volume head t x p slots valid is below long at =
    let l = layout_of head (t / head.chunk) valid in
    over_slots in_p head (t / head.chunk) (slot_byte volume head t x) 0 slots
    ∙ ap (λ (n : ℕ). slots_sum (λ s. in_p (part_of head (t / head.chunk) s) (slot_byte volume head t x s)) 0 n) long
    ∙ cancels (λ s. in_p (part_of head (t / head.chunk) s) (slot_byte volume head t x s)) (item_of head (t / head.chunk)) (item_byte volume head t x) p head.members (data_blocks head)
    (l.p_in p at) (λ i lt. l.item_in i lt)
    (λ s lt. let r = each_slot head (t / head.chunk) s valid lt in p_parts volume head t x p s r.0 valid is below at r.2)

pub q_total : (volume : ℕ → List ℕ) (head : Head) (t x q : ℕ) (slots : List (Option ℕ)) → IsTrue (is_valid_head head) → IsVolume volume → x < 512 →
    length slots ≡ head.members → q_of head (t / head.chunk) ≡ Some q →
    cells_sum in_q (cells_from head (t / head.chunk) 0 slots) (column_from (slot_byte volume head t x) 0 slots) ≡ 0
q_total volume head t x q slots valid is below long at =
    let l = layout_of head (t / head.chunk) valid in
    let weighed : ℕ → ℕ = λ i. product (weight_of head (t / head.chunk) i) (item_byte volume head t x i) in
    over_slots in_q head (t / head.chunk) (slot_byte volume head t x) 0 slots
    ∙ ap (λ (n : ℕ). slots_sum (λ s. in_q (part_of head (t / head.chunk) s) (slot_byte volume head t x s)) 0 n) long
    ∙ cancels (λ s. in_q (part_of head (t / head.chunk) s) (slot_byte volume head t x s)) (item_of head (t / head.chunk)) weighed q head.members (data_blocks head)
    (l.q_in q at) (λ i lt. l.item_in i lt)
    (λ s lt. let r = each_slot head (t / head.chunk) s valid lt in q_parts volume head t x q s r.0 valid is below at r.2)
