-- Whole rows, and what is kept of the members.
use Rattle.std.proofs.Common.{◌≡◌, ℕ, ◌+◌, ◌-◌, ◌*◌, ◌/◌, ◌%◌, ◌^◌, ◌<◌, ◌≤◌, inl, inr, Bool, true, false, refl, ap, subst, ◌∙◌, arith}
use Rattle.std.specs.Prelude.{IsTrue, nat_le, ◌&&◌, max}
use Rattle.std.proofs.lemmas.Bool.{cases_lt}
use Rattle.std.proofs.lemmas.Bool.Decides.{nat_tests}
use Rattle.std.proofs.lemmas.Nat.{div-add-mod', div-mul-add, div_below, le-div, mod-mul-add, mod_below, mul-le}
use Rattle.address_map.proofs.Heads.{few_data, short_chunk, some_chunk, some_data}
use Rattle.address_map.proofs.Sectors.{sector_below}
use Rattle.raid_params.specs.Size.{data_blocks, rows, volume_sectors}
use Rattle.raid_params.specs.Validity.{is_valid_head}
use Rattle.raid_params.specs.declared.types.Head.{Head}
use Rattle.volume_device.specs.Cost.{IsStep, row_sectors}
use Rattle.volume_device.specs.Kept.{LieAmong, is_among}

-- what is among, as a test and as bounds
both_of : (a b : Bool) → (a && b) ≡ true → (a ≡ true) × (b ≡ true)
both_of true true e = (refl, refl)
both_of true false e = absurd (cc)
both_of false b e = absurd (cc)

to_both : (a b : Bool) → a ≡ true → b ≡ true → (a && b) ≡ true
to_both true true e f = refl
to_both true false e f = absurd (cc)
to_both false b e f = absurd (cc)

le_of : (a b : ℕ) → nat_le a b ≡ true → a ≤ b
le_of a b e = grind (arith, nat_tests)

pub of_le : (a b : ℕ) → a ≤ b → nat_le a b ≡ true
of_le a b h = grind (arith, nat_tests)

pub among_bounds : (first count at n : ℕ) → is_among first count at n ≡ true → (first ≤ at) × (at + n ≤ first + count)
among_bounds first count at n e =
    let parts = both_of (nat_le first at) (nat_le (at + n) (first + count)) e in
    (le_of first at parts.0, le_of (at + n) (first + count) parts.1)

pub among_test : (first count at n : ℕ) → first ≤ at → at + n ≤ first + count → is_among first count at n ≡ true
among_test first count at n low high = to_both (nat_le first at) (nat_le (at + n) (first + count)) (of_le first at low) (of_le (at + n) (first + count) high)

-- the sectors of the volume in some rows lie on the member sectors of these
pub rows_among : (head : Head) (first n low count : ℕ) → 0 < head.chunk → 0 < data_blocks head → low ≤ first * head.chunk → first * head.chunk + n * head.chunk ≤ low + count →
    LieAmong head low count (first * row_sectors head) (n * row_sectors head)
rows_among head first n low count chunk some from to = λ v above below.
    let start : first * row_sectors head ≡ first * data_blocks head * head.chunk = grind arith in
    let stop : first * row_sectors head + n * row_sectors head ≡ (first + n) * head.chunk * data_blocks head = grind arith in
    let last : (first + n) * head.chunk ≡ first * head.chunk + n * head.chunk = grind arith in
    let chunks : first * data_blocks head ≤ v / head.chunk = le-div (first * data_blocks head) v head.chunk chunk (omega arith) in
    let row : first ≤ v / head.chunk / data_blocks head = le-div first (v / head.chunk) (data_blocks head) some chunks in
    let sector : first * head.chunk ≤ v / head.chunk / data_blocks head * head.chunk = mul-le first head.chunk (v / head.chunk / data_blocks head) head.chunk row (omega arith) in
    let end = sector_below v head.chunk (data_blocks head) (first + n) chunk some (omega arith) in
    (omega arith, omega arith)

-- rows of the volume lie in those of the members
pub rows_end : (head : Head) (end first n : ℕ) → 0 < head.chunk → 0 < data_blocks head → (first + n) * row_sectors head ≤ volume_sectors head end →
    first * head.chunk + n * head.chunk ≤ rows head end * head.chunk
rows_end head end first n chunk some inside =
    let whole : rows head end * head.chunk * data_blocks head ≡ rows head end * row_sectors head = grind arith in
    let row : 1 * 1 ≤ row_sectors head = mul-le 1 1 (data_blocks head) head.chunk some chunk in
    let few : first + n ≤ rows head end = no_more (first + n) (rows head end) (row_sectors head) (omega arith) (omega arith) in
    let most : (first + n) * head.chunk ≤ rows head end * head.chunk = mul-le (first + n) head.chunk (rows head end) head.chunk few (omega arith) in
    let parts : (first + n) * head.chunk ≡ first * head.chunk + n * head.chunk = grind arith in
    omega arith
  where
    no_more : (a b c : ℕ) → 0 < c → a * c ≤ b * c → a ≤ b
    no_more a b c some h = elim (cases_lt b a) [
      | inl more ↦ (let most : (b + 1) * c ≤ a * c = mul-le (b + 1) c a c (omega arith) (omega arith) in
          let next : (b + 1) * c ≡ b * c + c = grind arith in absurd (omega arith))
      | inr less ↦ less
    ]

-- whole rows
mod_of : (k row : ℕ) → 0 < row → k * row % row ≡ 0
mod_of k row some = let none : k * row ≡ k * row + 0 = omega arith in ap (λ (t : ℕ). t % row) none ∙ mod-mul-add k row 0 some

div_of : (k row : ℕ) → 0 < row → k * row / row ≡ k
div_of k row some = let none : k * row ≡ k * row + 0 = omega arith in ap (λ (t : ℕ). t / row) none ∙ div-mul-add k row 0 some

-- a step that is a part of a row
pub step_part : (row most sector left n : ℕ) → 0 < row → 1 ≤ most → (sector % row ≡ 0 → left < row) → n ≤ left → n ≤ row - sector % row → (n < left → n ≡ row - sector % row) → 1 ≤ n → IsStep row most sector left n
step_part row most sector left n some many cut within short all one =
    let place : sector % row < row = mod_below sector row some in
    let split : sector / row * row + sector % row ≡ sector = div-add-mod' sector row in
    let less : n < row = elim (cases_lt 0 (sector % row)) [
      | inl into ↦ omega arith
      | inr begins ↦ (let few = cut (omega arith) in omega arith)
    ] in
    record {
      some = one;
      within = within;
      begins = λ h. absurd (omega arith);
      rows = λ h. absurd (omega arith);
      few = (let none : n / row < 1 = div_below n row 1 some (omega arith) in omega arith);
      part = λ h. omega arith;
      cut = λ h e. cut e;
      ends = λ h.
          let full = all h in
          let next : (sector / row + 1) * row ≡ sector / row * row + row = grind arith in
          let at : sector + n ≡ (sector / row + 1) * row = omega arith in
          ap (λ (t : ℕ). t % row) at ∙ mod_of (sector / row + 1) row some;
    }

-- a step of whole rows
pub step_rows : (row most sector left k : ℕ) → 0 < row → sector % row ≡ 0 → 1 ≤ k → k ≤ most → k ≤ left / row → IsStep row most sector left (k * row)
step_rows row most sector left k some begins one few fits =
    let split : sector / row * row + sector % row ≡ sector = div-add-mod' sector row in
    let rest : left / row * row + left % row ≡ left = div-add-mod' left row in
    let wide : k * row ≤ left / row * row = mul-le k row (left / row) row fits (omega arith) in
    let least : 1 * row ≤ k * row = mul-le 1 row k row one (omega arith) in
    record {
      some = omega arith;
      within = omega arith;
      begins = λ h. begins;
      rows = λ h. mod_of k row some;
      few = (let is = div_of k row some in omega arith);
      part = λ h. absurd (omega arith);
      cut = λ h e. absurd (omega arith);
      ends = λ h.
          let both : (sector / row + k) * row ≡ sector / row * row + k * row = grind arith in
          let at : sector + k * row ≡ (sector / row + k) * row = omega arith in
          ap (λ (t : ℕ). t % row) at ∙ mod_of (sector / row + k) row some;
    }

-- a row has a sector
pub row_some : (head : Head) → IsTrue (is_valid_head head) → 0 < row_sectors head
row_some head valid = let one : 1 * 1 ≤ row_sectors head = mul-le 1 1 (data_blocks head) head.chunk (some_data head valid) (some_chunk head valid) in omega arith

-- the rows that are read at once: at least one, and no more sectors of a member than there is room for
pub most_some : (chunk most : ℕ) → 0 < chunk → most ≡ max chunk 256 / chunk → 1 ≤ most
most_some chunk most some e = let one : 1 ≤ max chunk 256 / chunk = le-div 1 (max chunk 256) chunk some (omega arith) in omega arith

pub most_short : (chunk most : ℕ) → most ≡ max chunk 256 / chunk → most * chunk ≤ max 256 chunk
most_short chunk most e =
    let split : max chunk 256 / chunk * chunk + max chunk 256 % chunk ≡ max chunk 256 = div-add-mod' (max chunk 256) chunk in
    let same : most * chunk ≡ max chunk 256 / chunk * chunk = ap (λ (n : ℕ). n * chunk) e in
    omega arith

pub most_fits : (head : Head) (most row : ℕ) → IsTrue (is_valid_head head) → row ≡ row_sectors head → most * head.chunk ≤ max 256 head.chunk → most * row < 2 ^ 64
most_fits head most row valid e short =
    let same : most * row ≡ most * row_sectors head = ap (λ (n : ℕ). most * n) e in
    let turned : most * row_sectors head ≡ data_blocks head * (most * head.chunk) = grind arith in
    let chunk = short_chunk head valid in
    let fits : data_blocks head * (most * head.chunk) ≤ 24 * 32768 = mul-le (data_blocks head) (most * head.chunk) 24 32768 (few_data head valid) (omega arith) in
    omega arith

-- the rows of a step are no more than are read at once
pub step_short : (n m row r most chunk : ℕ) → n ≡ m → row ≡ r → m / r ≤ most → most * chunk ≤ max 256 chunk → n / row * chunk ≤ max 256 chunk
step_short n m row r most chunk e f few short =
    let same : n / row ≡ m / r = ap (λ (t : ℕ). t / row) e ∙ ap (λ (t : ℕ). m / t) f in
    let most : n / row * chunk ≤ most * chunk = mul-le (n / row) chunk most chunk (omega arith) (omega arith) in
    omega arith

-- a step, by rows and a most that are told otherwise
pub step_same : (row r most m sector left n : ℕ) → r ≡ row → m ≡ most → IsStep r m sector left n → IsStep row most sector left n
step_same row r most m sector left n same also step =
    subst (λ (k : ℕ). IsStep k most sector left n) same (subst (λ (k : ℕ). IsStep r k sector left n) also step)
