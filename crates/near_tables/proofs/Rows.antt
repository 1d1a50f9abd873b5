-- Which rows are tested, and in which copies lie.
use Rattle.std.proofs.Common.{ℕ, zero, suc, ◌≡◌, ◌+◌, ◌-◌, ◌*◌, ◌/◌, ◌%◌, ◌<◌, ◌≤◌, Bool, true, false, cond, nat_le, refl, sym, ap, ◌∙◌, subst, arith, inl, inr}
use Rattle.std.proofs.Math.Nat.{zero-mul, mul-zero}
use Rattle.std.proofs.lemmas.Bool.{cases_lt, le-leb, lt-leb}
use Rattle.std.proofs.lemmas.Nat.{div-add-mod', div-mul-add, le-div, mod-mul-add, mod_below, mul-le}
use Rattle.near_mirror.specs.Copies.{chunks_of, row_of, slot_of}
use Rattle.near_mirror.specs.declared.types.Copying.{Copying}
use Rattle.near_mirror.specs.declared.types.Copying.TheVariants.{Near, Far, Offset}
use Rattle.near_tables.specs.Tables.{group_rows, lane_gap, lane_of, lane_row}
use Rattle.near_tables.specs.Torn.{part_rows, rows_tested}

-- whole parts do not reach past what they are cut from
pub whole_below : (x n : ℕ) → x / n * n ≤ x
whole_below x n = let split : x / n * n + x % n ≡ x = div-add-mod' x n in omega arith

pub div_short : (x n : ℕ) → x / n ≤ x
div_short x zero = omega arith
div_short x (suc n) =
    let whole = whole_below x (suc n) in
    let more : x / suc n * 1 ≤ x / suc n * suc n = mul-le (x / suc n) 1 (x / suc n) (suc n) (omega arith) (omega arith) in
    omega arith

-- no more rows are tested than there are
pub tested_fewer : (copying : Copying) (members copies rows : ℕ) → rows_tested copying members copies rows ≤ rows
tested_fewer Near members copies rows = either (nat_le ((rows * members) % copies) 1)
  where
    either : (b : Bool) → cond b rows (rows - 1) ≤ rows
    either true = omega arith
    either false = omega arith
tested_fewer Far members copies rows = div_short rows copies
tested_fewer Offset members copies rows = whole_below rows copies

-- cells after those of whole rows
pub cells_on : (n q c : ℕ) → 0 < n → ((q * n + c) / n ≡ q + c / n) × ((q * n + c) % n ≡ c % n)
cells_on n q c some =
    let below = mod_below c n some in
    let split : c / n * n + c % n ≡ c = div-add-mod' c n in
    let same : q * n + c ≡ (q + c / n) * n + c % n = (let e : (q + c / n) * n ≡ q * n + c / n * n = grind arith in omega arith) in
    (ap (λ (k : ℕ). k / n) same ∙ div-mul-add (q + c / n) n (c % n) below, ap (λ (k : ℕ). k % n) same ∙ mod-mul-add (q + c / n) n (c % n) below)

-- the slots of a chunk are those of the chunk of its number in the first group
pub slot_on : (copying : Copying) (n copies copy q j : ℕ) → 0 < n → slot_of copying n copies copy (n * q + j) ≡ slot_of copying n copies copy j
slot_on Near n copies copy q j some =
    let same : copies * (n * q + j) + copy ≡ copies * q * n + (copies * j + copy) = grind arith in
    ap (λ (k : ℕ). k % n) same ∙ (cells_on n (copies * q) (copies * j + copy) some).1
slot_on Far n copies copy q j some =
    let same : n * q + j + copy ≡ q * n + (j + copy) = grind arith in
    ap (λ (k : ℕ). k % n) same ∙ (cells_on n q (j + copy) some).1
slot_on Offset n copies copy q j some =
    let same : n * q + j + copy ≡ q * n + (j + copy) = grind arith in
    ap (λ (k : ℕ). k % n) same ∙ (cells_on n q (j + copy) some).1

group_of : (n q j : ℕ) → j < n → (n * q + j) / n ≡ q
group_of n q j lt = let same : n * q + j ≡ q * n + j = grind arith in ap (λ (k : ℕ). k / n) same ∙ div-mul-add q n j lt

-- the rows of a chunk, by its group
pub row_on_group : (copying : Copying) (n copies rows copy q j : ℕ) → 0 < n → j < n →
    row_of copying n copies rows copy (n * q + j) ≡ group_rows copying copies * q + lane_row copying (lane_of copying n copies copy j) + copy * part_rows copying copies rows
row_on_group Near n copies rows copy q j some lt =
    let same : copies * (n * q + j) + copy ≡ copies * q * n + (copies * j + copy) = grind arith in
    let parts : (copies * (n * q + j) + copy) / n ≡ copies * q + (copies * j + copy) / n = ap (λ (k : ℕ). k / n) same ∙ (cells_on n (copies * q) (copies * j + copy) some).0 in
    let none : copy * 0 ≡ 0 = mul-zero copy in
    omega arith
row_on_group Far n copies rows copy q j some lt =
    let group : (n * q + j) / n ≡ q = group_of n q j lt in
    let one : 1 * q ≡ q = omega arith in
    omega arith
row_on_group Offset n copies rows copy q j some lt =
    let group : copies * ((n * q + j) / n) ≡ copies * q = ap (λ (k : ℕ). copies * k) (group_of n q j lt) in
    let none : copy * 0 ≡ 0 = mul-zero copy in
    omega arith

-- the part of a copy is that of its lane
pub start_same : (copying : Copying) (n copies rows copy j chunk : ℕ) → copy * (part_rows copying copies rows * chunk) ≡ lane_of copying n copies copy j * (part_rows copying copies rows * chunk)
start_same Near n copies rows copy j chunk =
    let none : 0 * chunk ≡ 0 = zero-mul chunk in
    ap (λ (k : ℕ). copy * k) none ∙ mul-zero copy ∙ sym (ap (λ (k : ℕ). (copies * j + copy) / n * k) none ∙ mul-zero ((copies * j + copy) / n))
start_same Far n copies rows copy j chunk = refl
start_same Offset n copies rows copy j chunk = refl

-- no later copy of a chunk that is past the last one lies in the rows that are tested
pub past_row : (copying : Copying) (n copies rows copy c : ℕ) → 2 ≤ copies → copies ≤ n → 1 ≤ copy → chunks_of copying n copies rows ≤ c →
    rows_tested copying n copies rows + copy * part_rows copying copies rows ≤ row_of copying n copies rows copy c
past_row Near n copies rows copy c some enough later past =
    let none : copy * 0 ≡ 0 = mul-zero copy in
    let split : (rows * n) / copies * copies + (rows * n) % copies ≡ rows * n = div-add-mod' (rows * n) copies in
    let below = mod_below (rows * n) copies (omega arith) in
    let times : (rows * n) / copies * copies ≤ c * copies = mul-le ((rows * n) / copies) copies c copies past (omega arith) in
    let turned : c * copies ≡ copies * c = grind arith in
    elim (cases_lt 1 ((rows * n) % copies)) [
      | inl more ↦
          let flag : nat_le ((rows * n) % copies) 1 ≡ false = lt-leb ((rows * n) % copies) 1 more in
          let least : (rows - 1) * n ≤ copies * c + copy = fewer rows n (copies * c + copy) (omega arith) in
          let row : rows - 1 ≤ (copies * c + copy) / n = le-div (rows - 1) (copies * c + copy) n (omega arith) least in
          subst (λ (b : Bool). cond b rows (rows - 1) + copy * 0 ≤ (copies * c + copy) / n) (sym flag) (omega arith)
      | inr few ↦
          let flag : nat_le ((rows * n) % copies) 1 ≡ true = le-leb ((rows * n) % copies) 1 few in
          let row : rows ≤ (copies * c + copy) / n = le-div rows (copies * c + copy) n (omega arith) (omega arith) in
          subst (λ (b : Bool). cond b rows (rows - 1) + copy * 0 ≤ (copies * c + copy) / n) (sym flag) (omega arith)
    ]
  where
    fewer : (r m x : ℕ) → r * m ≤ x + m → (r - 1) * m ≤ x
    fewer zero m x le = let z : (zero - 1) * m ≡ 0 = zero-mul m in omega arith
    fewer (suc r) m x le =
        let e : suc r - 1 ≡ r = omega arith in
        let f : (suc r - 1) * m ≡ r * m = ap (λ (k : ℕ). k * m) e in
        let g : suc r * m ≡ r * m + m = grind arith in
        omega arith
past_row Far n copies rows copy c some enough later past =
    let group : rows / copies ≤ c / n = le-div (rows / copies) c n (omega arith) past in
    omega arith
past_row Offset n copies rows copy c some enough later past =
    let group : rows / copies ≤ c / n = le-div (rows / copies) c n (omega arith) past in
    let none : copy * 0 ≡ 0 = mul-zero copy in
    let times : rows / copies * copies ≤ c / n * copies = mul-le (rows / copies) copies (c / n) copies group (omega arith) in
    let turned : c / n * copies ≡ copies * (c / n) = grind arith in
    omega arith

-- a group takes up a row at least
pub group_some : (copying : Copying) (copies : ℕ) → 1 ≤ copies → 1 ≤ group_rows copying copies
group_some Near copies some = some
group_some Far copies some = omega arith
group_some Offset copies some = some

-- the first lane is the first row of a group
pub first_lane : (copying : Copying) → lane_row copying 0 ≡ 0
first_lane Near = refl
first_lane Far = refl
first_lane Offset = refl

pub lane_low : (copying : Copying) (lane : ℕ) → lane_row copying lane ≤ lane
lane_low Near lane = omega arith
lane_low Far lane = omega arith
lane_low Offset lane = omega arith

-- later lanes are no earlier rows
pub lane_up : (copying : Copying) (lane next : ℕ) → lane ≤ next → lane_row copying lane ≤ lane_row copying next
lane_up Near lane next le = le
lane_up Far lane next le = omega arith
lane_up Offset lane next le = le

-- the lanes of two copies of a chunk
pub lanes_up : (copying : Copying) (n copies first second j : ℕ) → 0 < n → first < second → lane_of copying n copies first j + lane_gap copying ≤ lane_of copying n copies second j
lanes_up Near n copies first second j some lt =
    let whole = whole_below (copies * j + first) n in
    let up = le-div ((copies * j + first) / n) (copies * j + second) n some (omega arith) in
    omega arith
lanes_up Far n copies first second j some lt = omega arith
lanes_up Offset n copies first second j some lt = omega arith
