-- What is found by what was read.
use Rattle.std.proofs.Common.{ℕ, inl, inr, ◌≡◌, ◌+◌, ◌*◌, ◌/◌, ◌%◌, ◌<◌, ◌≤◌, ◌&&◌, IsTrue, Bool, true, false, cond, nat_lt, List, length, get_or, map, replicate, refl, sym, ap, ◌∙◌, subst, arith, Option, Some, None, IfSome, OnOk, Result, Ok, Err}
use Rattle.std.specs.Option.{is_none, is_some}
use Rattle.std.proofs.Common.{take, drop, All}
use Rattle.outside.specs.Seen.{Image, OnlyReads, Seen}
use Rattle.member_regions.specs.Members.{held, Reaches}
use Rattle.member_regions.proofs.Sets.{reaches_less}
use Rattle.std.proofs.lemmas.List.{get_or-drop, get_or-map, get_or-replicate, get_or-take, length-map}
use Rattle.std.proofs.lemmas.List.FromFn.{get_or-map-range_with_len, length-map-range_with_len}
use Rattle.std.proofs.lemmas.Grind.{same_number_lists}
use Rattle.std.proofs.lemmas.Nat.{div-mul-add, mod_below}
use Rattle.address_map.proofs.Heads.{some_chunk}
use Rattle.raid_params.specs.Size.{redundancy}
use Rattle.raid_params.specs.Slots.{empties}
use Rattle.raid_params.specs.Validity.{is_valid_head}
use Rattle.raid_params.specs.declared.types.Cell.{Cell}
use Rattle.raid_params.specs.declared.types.Geometry.{Geometry}
use Rattle.row_parity.proofs.Regions.{map_same, mid_before, mid_inside}
use borrow.Rule.Slice.PartMut.{put_mid}
use Rattle.std.proofs.lemmas.Bool.{cases_lt}
use Rattle.std.proofs.lemmas.Bool.Decides.{nat_tests}
use Rattle.raid_params.specs.declared.types.Head.{Head}
use Rattle.raid_params.specs.declared.wide.Wide.{Wide}
use Rattle.raid_terms.specs.Address.{LiesAt, home_row, home_sector, home_slot}
use Rattle.raid_terms.specs.Cells.{row_cells}
use Rattle.raid_terms.specs.Parity.{column_of, member_byte, member_column}
use Rattle.raid_terms.specs.Solving.{lost_byte}
use Rattle.raid_terms.specs.Volume.{byte_in, member_sector, volume_sector}
use Rattle.virtual_volume.proofs.Blocks.{sector_long}
use Rattle.rescue_map.specs.Damaged.{damaged, damaged_at, is_beyond, is_lost, is_unknown}
use Rattle.rescue_map.specs.Salvaged.{column_at, filled_byte, reads_for, salvaged_sector, HoldCells}
use Rattle.rescue_map.proofs.Rows.{empties_home, held_home, row_head, row_level, row_slots, row_so}
use Rattle.rescue_text.specs.declared.section.Section.{Section}

-- ---- whether it is lost

pub some_not_none : (held : Option ℕ) → is_some held ≡ true → is_none held ≡ false
some_not_none None is = absurd (cc)
some_not_none (Some i) is = refl

not_some_none : (held : Option ℕ) → is_some held ≡ false → is_none held ≡ true
not_some_none None is = refl
not_some_none (Some i) is = absurd (cc)

both : (a b : Bool) → a ≡ true → b ≡ true → (a && b) ≡ true
both true b is also = also
both false b is also = absurd (cc)

not_first : (a b : Bool) → a ≡ false → (a && b) ≡ false
not_first true b is = absurd (cc)
not_first false b is = refl

not_second : (a b : Bool) → b ≡ false → (a && b) ≡ false
not_second true b is = is
not_second false b is = refl

pub known_home : (sections : List Section) (set : Wide) (v slot sector : ℕ) (row : Geometry) → row ≡ damaged sections set sector → LiesAt set.geo.head slot sector v →
    is_some (get_or row.slots.items slot None) ≡ true → is_unknown sections set v ≡ false
known_home sections set v slot sector row is lies some =
    ap is_none (sym (held_home sections set v slot sector row is lies)) ∙ some_not_none (get_or row.slots.items slot None) some

pub unknown_home : (sections : List Section) (set : Wide) (v slot sector : ℕ) (row : Geometry) → row ≡ damaged sections set sector → LiesAt set.geo.head slot sector v →
    is_some (get_or row.slots.items slot None) ≡ false → is_unknown sections set v ≡ true
unknown_home sections set v slot sector row is lies none =
    ap is_none (sym (held_home sections set v slot sector row is lies)) ∙ not_some_none (get_or row.slots.items slot None) none

none_not_some : (held : Option ℕ) → is_none held ≡ true → is_some held ≡ false
none_not_some None is = refl
none_not_some (Some i) is = absurd (cc)

-- the slot of a sector that is not known is empty in its row
pub unknown_slot : (sections : List Section) (set : Wide) (v slot sector : ℕ) (row : Geometry) → row ≡ damaged sections set sector → LiesAt set.geo.head slot sector v →
    is_unknown sections set v ≡ true → is_some (get_or row.slots.items slot None) ≡ false
unknown_slot sections set v slot sector row is lies gone =
    none_not_some (get_or row.slots.items slot None) (ap is_none (held_home sections set v slot sector row is lies) ∙ gone)

pub beyond_home : (sections : List Section) (set : Wide) (v slot sector : ℕ) (row : Geometry) (b : Bool) → row ≡ damaged sections set sector → LiesAt set.geo.head slot sector v →
    b ≡ nat_lt (redundancy row.head.level) (empties row.slots.items) → b ≡ is_beyond sections set v
beyond_home sections set v slot sector row b is lies e =
    e ∙ ap (λ (n : ℕ). nat_lt n (empties row.slots.items)) (row_level sections set sector row is)
    ∙ ap (λ (n : ℕ). nat_lt (redundancy set.geo.head.level) n) (empties_home sections set v slot sector row is lies)

pub lost_is : (sections : List Section) (set : Wide) (v : ℕ) → is_unknown sections set v ≡ true → is_beyond sections set v ≡ true → is_lost sections set v ≡ true
unfolding is_lost
lost_is sections set v gone beyond = both (is_unknown sections set v) (is_beyond sections set v) gone beyond

pub known_not_lost : (sections : List Section) (set : Wide) (v : ℕ) → is_unknown sections set v ≡ false → is_lost sections set v ≡ false
unfolding is_lost
known_not_lost sections set v known = not_first (is_unknown sections set v) (is_beyond sections set v) known

pub solved_not_lost : (sections : List Section) (set : Wide) (v : ℕ) → is_beyond sections set v ≡ false → is_lost sections set v ≡ false
unfolding is_lost
solved_not_lost sections set v few = not_second (is_unknown sections set v) (is_beyond sections set v) few

-- ---- what it is filled with

pub filled_lost : (sections : List Section) (set : Wide) (v byte : ℕ) (column : List ℕ) → is_lost sections set v ≡ true → filled_byte sections set v column byte ≡ 0
unfolding filled_byte
filled_lost sections set v byte column lost =
    ap (λ (b : Bool). cond b 0 (cond (is_unknown sections set v) (lost_byte (row_cells (damaged_at sections set v) (home_row set.geo.head v)) column (home_slot set.geo.head v)) byte)) lost

pub filled_copied : (sections : List Section) (set : Wide) (v byte : ℕ) (column : List ℕ) → is_unknown sections set v ≡ false → filled_byte sections set v column byte ≡ byte
unfolding filled_byte
filled_copied sections set v byte column known =
    ap (λ (b : Bool). cond b 0 (cond (is_unknown sections set v) (lost_byte (row_cells (damaged_at sections set v) (home_row set.geo.head v)) column (home_slot set.geo.head v)) byte)) (known_not_lost sections set v known)
    ∙ ap (λ (b : Bool). cond b (lost_byte (row_cells (damaged_at sections set v) (home_row set.geo.head v)) column (home_slot set.geo.head v)) byte) known

pub filled_solved : (sections : List Section) (set : Wide) (v byte : ℕ) (column : List ℕ) → is_unknown sections set v ≡ true → is_beyond sections set v ≡ false →
    filled_byte sections set v column byte ≡ lost_byte (row_cells (damaged_at sections set v) (home_row set.geo.head v)) column (home_slot set.geo.head v)
unfolding filled_byte
filled_solved sections set v byte column gone few =
    ap (λ (b : Bool). cond b 0 (cond (is_unknown sections set v) (lost_byte (row_cells (damaged_at sections set v) (home_row set.geo.head v)) column (home_slot set.geo.head v)) byte)) (solved_not_lost sections set v few)
    ∙ ap (λ (b : Bool). cond b (lost_byte (row_cells (damaged_at sections set v) (home_row set.geo.head v)) column (home_slot set.geo.head v)) byte) gone

-- ---- what it is

either_long : (b : Bool) (xs : List ℕ) → length xs ≡ 512 → length (cond b (replicate 512 0) xs) ≡ 512
either_long true xs long = refl
either_long false xs long = long

pub salvaged_long : (images : List (List ℕ)) (sections : List Section) (set : Wide) (v : ℕ) → length (salvaged_sector images sections set v) ≡ 512
unfolding salvaged_sector
salvaged_long images sections set v =
    let geo = damaged_at sections set v in
    either_long (is_lost sections set v) (volume_sector images (damaged_at sections set v) v) (sector_long images geo (home_slot geo.head v) (home_sector geo.head v))

salvaged_lost : (images : List (List ℕ)) (sections : List Section) (set : Wide) (v x : ℕ) → is_lost sections set v ≡ true → x < 512 → get_or (salvaged_sector images sections set v) x 0 ≡ 0
unfolding salvaged_sector
salvaged_lost images sections set v x lost inside =
    ap (λ (b : Bool). get_or (cond b (replicate 512 0) (volume_sector images (damaged_at sections set v) v)) x 0) lost ∙ get_or-replicate 512 x 0 0 inside

pub at_head : (sections : List Section) (set : Wide) (t : ℕ) → (damaged sections set t).head ≡ set.geo.head
unfolding damaged
at_head sections set t = refl

sector_byte : (images : List (List ℕ)) (geo : Geometry) (t slot x : ℕ) → x < 512 → get_or (member_sector images geo slot t) x 0 ≡ byte_in images geo t slot x (get_or geo.slots.items slot None)
unfolding member_sector
sector_byte images geo t slot x inside = get_or-map-range_with_len (λ y. byte_in images geo t slot y (get_or geo.slots.items slot None)) 0 512 x x 0 inside (omega arith)

salvaged_byte : (images : List (List ℕ)) (sections : List Section) (set : Wide) (v x : ℕ) → is_lost sections set v ≡ false → x < 512 →
    get_or (salvaged_sector images sections set v) x 0
    ≡ byte_in images (damaged_at sections set v) (home_sector set.geo.head v) (home_slot set.geo.head v) x (get_or (damaged_at sections set v).slots.items (home_slot set.geo.head v) None)
unfolding salvaged_sector
salvaged_byte images sections set v x kept inside =
    let geo = damaged_at sections set v in
    ap (λ (b : Bool). get_or (cond b (replicate 512 0) (volume_sector images (damaged_at sections set v) v)) x 0) kept
    ∙ ap (λ (h : Head). get_or (member_sector images (damaged_at sections set v) (home_slot h v) (home_sector h v)) x 0) (at_head sections set (home_sector set.geo.head v))
    ∙ sector_byte images geo (home_sector set.geo.head v) (home_slot set.geo.head v) x inside

held_byte : (images : List (List ℕ)) (geo : Geometry) (t slot x : ℕ) (held : Option ℕ) → is_some held ≡ true → member_byte images geo.head.offset t x held ≡ byte_in images geo t slot x held
held_byte images geo t slot x None some = absurd (cc)
held_byte images geo t slot x (Some i) some = refl

empty_byte : (images : List (List ℕ)) (geo : Geometry) (t slot x : ℕ) (held : Option ℕ) → is_some held ≡ false → byte_in images geo t slot x held ≡ lost_byte (row_cells geo (t / geo.head.chunk)) (member_column images geo t x) slot
empty_byte images geo t slot x None none = refl
empty_byte images geo t slot x (Some i) none = absurd (cc)

-- one that is lost
pub lost_found : (images : List (List ℕ)) (sections : List Section) (set : Wide) (v x byte : ℕ) (column : List ℕ) → is_lost sections set v ≡ true → x < 512 →
    filled_byte sections set v column byte ≡ get_or (salvaged_sector images sections set v) x 0
lost_found images sections set v x byte column lost inside = filled_lost sections set v byte column lost ∙ sym (salvaged_lost images sections set v x lost inside)

-- one that was read itself
pub copied_found : (images : List (List ℕ)) (sections : List Section) (set : Wide) (v x byte slot sector offset : ℕ) (column : List ℕ) (row : Geometry) (held : Option ℕ) → row ≡ damaged sections set sector → LiesAt set.geo.head slot sector v →
    held ≡ get_or row.slots.items slot None → is_some held ≡ true → offset ≡ row.head.offset → byte ≡ member_byte images offset sector x held → x < 512 →
    filled_byte sections set v column byte ≡ get_or (salvaged_sector images sections set v) x 0
copied_found images sections set v x byte slot sector offset column row held is lies here some at e inside =
    let head = set.geo.head in
    let geo = damaged_at sections set v in
    let known = known_home sections set v slot sector row is lies (ap is_some (sym here) ∙ some) in
    let there : held ≡ get_or geo.slots.items (home_slot head v) None = here ∙ held_home sections set v slot sector row is lies in
    let from : offset ≡ geo.head.offset = at ∙ ap (λ (h : Head). h.offset) (row_head sections set sector row is ∙ sym (at_head sections set (home_sector head v))) in
    filled_copied sections set v byte column known
    ∙ e
    ∙ ap (λ (o : ℕ). member_byte images o sector x held) from
    ∙ ap (λ (t : ℕ). member_byte images geo.head.offset t x held) lies.place
    ∙ held_byte images geo (home_sector head v) (home_slot head v) x held some
    ∙ ap (λ (o : Option ℕ). byte_in images geo (home_sector head v) (home_slot head v) x o) there
    ∙ sym (salvaged_byte images sections set v x (known_not_lost sections set v known) inside)

-- the column that was read is that of the members
column_is : (images : List (List ℕ)) (slots : List (Option ℕ)) (offset t x n : ℕ) (row : List ℕ) → n ≡ length slots → HoldCells images slots offset t (length slots) row → x < 512 →
    column_of n row x ≡ map (member_byte images offset t x) slots
column_is images slots offset t x n row many hold inside =
    let long : length (column_of n row x) ≡ n = length-map-range_with_len (λ i. get_or row (512 * i + x) 0) 0 n in
    let other : length (map (member_byte images offset t x) slots) ≡ length slots = length-map slots (member_byte images offset t x) in
    same_number_lists (column_of n row x) (map (member_byte images offset t x) slots) (omega arith)
    (λ i below. get_or-map-range_with_len (λ i. get_or row (512 * i + x) 0) 0 n i i 0 (omega arith) (omega arith)
    ∙ hold i x (omega arith) inside
    ∙ sym (get_or-map (member_byte images offset t x) slots i None 0 (omega arith)))

row_is_home : (head : Head) (v : ℕ) → IsTrue (is_valid_head head) → home_sector head v / head.chunk ≡ home_row head v
row_is_home head v valid = div-mul-add (home_row head v) head.chunk (v % head.chunk) (mod_below v head.chunk (some_chunk head valid))

-- one that is found by its row
pub solved_found : (images : List (List ℕ)) (sections : List Section) (set : Wide) (v x byte slot sector n : ℕ) (bytes : List ℕ) (row : Geometry) → IsTrue (is_valid_head set.geo.head) → row ≡ damaged sections set sector → LiesAt set.geo.head slot sector v →
    is_some (get_or row.slots.items slot None) ≡ false → is_beyond sections set v ≡ false → n ≡ length set.geo.slots.items →
    HoldCells images row.slots.items row.head.offset sector (length row.slots.items) bytes → x < 512 →
    filled_byte sections set v (column_of n bytes x) byte ≡ get_or (salvaged_sector images sections set v) x 0
solved_found images sections set v x byte slot sector n bytes row valid is lies none few many hold inside =
    let head = set.geo.head in
    let geo = damaged_at sections set v in
    let gone = unknown_home sections set v slot sector row is lies none in
    let empty : is_some (get_or geo.slots.items (home_slot head v) None) ≡ false = ap is_some (sym (held_home sections set v slot sector row is lies)) ∙ none in
    let lengths = row_slots sections set sector row is in
    let same : row ≡ geo = is ∙ ap (damaged sections set) lies.place in
    let chunk : geo.head.chunk ≡ head.chunk = ap (λ (h : Head). h.chunk) (at_head sections set (home_sector head v)) in
    let column : column_of n bytes x ≡ member_column images geo (home_sector head v) x =
    column_is images row.slots.items row.head.offset sector x n bytes (omega arith) hold inside
    ∙ ap (λ (g : Geometry). map (member_byte images g.head.offset sector x) g.slots.items) same
    ∙ ap (λ (t : ℕ). map (member_byte images geo.head.offset t x) geo.slots.items) lies.place in
    filled_solved sections set v byte (column_of n bytes x) gone few
    ∙ ap (λ (l : List ℕ). lost_byte (row_cells geo (home_row head v)) l (home_slot head v)) column
    ∙ ap (λ (r : ℕ). lost_byte (row_cells geo r) (member_column images geo (home_sector head v) x) (home_slot head v)) (sym (row_is_home head v valid) ∙ ap (λ (k : ℕ). home_sector head v / k) (sym chunk))
    ∙ sym (empty_byte images geo (home_sector head v) (home_slot head v) x (get_or geo.slots.items (home_slot head v) None) empty)
    ∙ sym (salvaged_byte images sections set v x (solved_not_lost sections set v few) inside)

pub ok_told : {A T E : Type 0} (result : Result T E) (told : Option A) (P Q : A → Type 0) → ((a : A) → P a → Q a) → OnOk result (IfSome told P) → OnOk result (IfSome told Q)
ok_told (Err e) told P Q step p = tt
ok_told (Ok r) None P Q step p = tt
ok_told (Ok r) (Some a) P Q step p = step a p

-- what the row's parity gives is what the sector is filled with
pub solved_fills : (sections : List Section) (set : Wide) (v slot sector at n byte value x : ℕ) (cells : List Cell) (bytes : List ℕ) (row : Geometry) → row ≡ damaged sections set sector → LiesAt set.geo.head slot sector v →
    at ≡ home_row set.geo.head v → cells ≡ row_cells row at → length cells ≡ n → is_unknown sections set v ≡ true → is_beyond sections set v ≡ false →
    value ≡ lost_byte cells (column_of (length cells) bytes x) slot → value ≡ filled_byte sections set v (column_of n bytes x) byte
solved_fills sections set v slot sector at n byte value x cells bytes row is lies here are many gone few e =
    let geo = damaged_at sections set v in
    let same : row ≡ geo = is ∙ ap (damaged sections set) lies.place in
    e
    ∙ ap (λ (m : ℕ). lost_byte cells (column_of m bytes x) slot) many
    ∙ ap (λ (cs : List Cell). lost_byte cs (column_of n bytes x) slot) are
    ∙ ap (λ (g : Geometry). lost_byte (row_cells g at) (column_of n bytes x) slot) same
    ∙ ap (λ (r : ℕ). lost_byte (row_cells geo r) (column_of n bytes x) slot) here
    ∙ ap (λ (s : ℕ). lost_byte (row_cells geo (home_row set.geo.head v)) (column_of n bytes x) s) lies.item.1
    ∙ sym (filled_solved sections set v byte (column_of n bytes x) gone few)

pub few_of : (a b : ℕ) → nat_lt a b ≡ false → b ≤ a
few_of a b is = grind (arith, nat_tests)

-- a column of a row that is a part of many
pub column_part : (n at x : ℕ) (rows part : List ℕ) → ((i : ℕ) → i < 512 * n → get_or part i 0 ≡ get_or rows (at + i) 0) → x < 512 → column_of n part x ≡ column_at n rows at x
column_part n at x rows part same inside =
    map_same (λ i. get_or part (512 * i + x) 0) (λ i. get_or rows (at + (512 * i + x)) 0) 0 n (λ i low high. same (512 * i + x) (omega arith))

-- ---- sector by sector

pub cells_more : (images : List (List ℕ)) (slots : List (Option ℕ)) (offset t k slot : ℕ) (row to : List ℕ) → length to ≡ 512 → 512 * slot ≤ length row →
    HoldCells images slots offset t slot row → ((x : ℕ) → x < 512 → get_or to x 0 ≡ member_byte images offset t x (get_or slots slot None)) →
    HoldCells images slots offset t (slot + 1) (put_mid (512 * slot) k row to)
cells_more images slots offset t k slot row to long within hold here = λ i x below inside.
    elim (cases_lt i slot) [
      | inl less ↦ (mid_before (512 * slot) k (512 * i + x) row to (omega arith) within ∙ hold i x less inside)
      | inr same ↦ (let e : slot ≡ i = omega arith in
          mid_inside (512 * slot) k (512 * i + x) x row to (omega arith) (omega arith) within
          ∙ here x inside
          ∙ ap (λ (s : ℕ). member_byte images offset t x (get_or slots s None)) e)
    ]

-- a byte of a part
pub part_byte : (a k i : ℕ) (xs : List ℕ) → i < k → get_or (take k (drop a xs)) i 0 ≡ get_or xs (a + i) 0
part_byte a k i xs below = get_or-take k (drop a xs) i 0 below ∙ get_or-drop a xs i 0

-- ---- what is read

pub reads_solved : (old new : Seen) (sections : List Section) (set : Wide) (v slot sector n : ℕ) (row : Geometry) → row ≡ damaged sections set sector → LiesAt set.geo.head slot sector v → n ≡ held row.slots.items →
    is_unknown sections set v ≡ true → is_beyond sections set v ≡ false → OnlyReads old new n → OnlyReads old new (reads_for sections set v)
reads_solved old new sections set v slot sector n row is lies many gone few reads =
    let same : row ≡ damaged_at sections set v = is ∙ ap (damaged sections set) lies.place in
    let all : reads_for sections set v ≡ held (damaged_at sections set v).slots.items =
    ap (λ (b : Bool). cond b 0 (cond (is_unknown sections set v) (held (damaged_at sections set v).slots.items) 1)) (solved_not_lost sections set v few)
    ∙ ap (λ (b : Bool). cond b (held (damaged_at sections set v).slots.items) 1) gone in
    subst (λ (n : ℕ). OnlyReads old new n) (many ∙ ap (λ (g : Geometry). held g.slots.items) same ∙ sym all) reads

-- the members of a row reach as far as those of the set
pub row_reaches : (attached : List Image) (sections : List Section) (set : Wide) (t end m : ℕ) (row : Geometry) → row ≡ damaged sections set t → m ≤ end → All (Reaches attached end) set.geo.slots.items → All (Reaches attached m) row.slots.items
row_reaches attached sections set t end m row is le all = reaches_less attached end m row.slots.items (row_so (Reaches attached end) sections set t row is tt all) le
