-- A number of a volume sector, and the row, the item and the sector of the chunk that it is made of.
use Rattle.std.proofs.Common.{◌≡◌, ℕ, ◌+◌, ◌*◌, ◌%◌, ◌/◌, ◌<◌, ◌≤◌, inl, inr, sym, arith, ap, ◌∙◌}
use Rattle.std.proofs.lemmas.Nat.{mul-le, div-add-mod', mul-add-lt, div_below, div-mul-add, mod-mul-add, mod_below, same_from_place}
use Rattle.std.proofs.lemmas.Bool.{cases_lt}

-- the row of a sector of a volume of `rows` rows of chunks
pub row_below : (v c d rows : ℕ) → 0 < c → 0 < d → v < rows * c * d → v / c / d < rows
row_below v c d rows hc hd h =
    let turned : rows * c * d ≡ rows * d * c = grind arith in
    let chunks : v / c < rows * d = div_below v c (rows * d) hc (omega arith) in
    div_below (v / c) d rows hd chunks

-- its member sector lies in the rows
pub sector_below : (v c d rows : ℕ) → 0 < c → 0 < d → v < rows * c * d → v / c / d * c + v % c < rows * c
sector_below v c d rows hc hd h =
    let row : v / c / d < rows = row_below v c d rows hc hd h in
    let below : v / c / d * c + v % c < c * rows = mul-add-lt (v / c / d) c (v % c) rows row (mod_below v c hc) in
    let turned : c * rows ≡ rows * c = grind arith in
    omega arith

-- and back: a sector whose member sector lies in the rows is one of the volume
pub volume_below : (v c d rows : ℕ) → 0 < c → 0 < d → v / c / d * c + v % c < rows * c → v < rows * c * d
volume_below v c d rows hc hd h =
    let row : v / c / d < rows =
    elim (cases_lt (v / c / d) rows) [
      | inl lt ↦ lt
      | inr le ↦ let most : rows * c ≤ v / c / d * c = mul-le rows c (v / c / d) c le (omega arith) in absurd (omega arith)
    ] in
    let chunk : v / c / d * d + v / c % d < d * rows = mul-add-lt (v / c / d) d (v / c % d) rows row (mod_below (v / c) d hd) in
    let split : v / c / d * d + v / c % d ≡ v / c = div-add-mod' (v / c) d in
    let below : v / c * c + v % c < c * (d * rows) = mul-add-lt (v / c) c (v % c) (d * rows) (omega arith) (mod_below v c hc) in
    let whole : v / c * c + v % c ≡ v = div-add-mod' v c in
    let turned : c * (d * rows) ≡ rows * c * d = grind arith in
    omega arith

-- the member sector is no larger than the volume's
pub sector_small : (v c d : ℕ) → 0 < d → v / c / d * c + v % c ≤ v
sector_small v c d hd =
    let split : v / c / d * d + v / c % d ≡ v / c = div-add-mod' (v / c) d in
    let whole : v / c * c + v % c ≡ v = div-add-mod' v c in
    let more : v / c / d * 1 ≤ v / c / d * d = mul-le (v / c / d) 1 (v / c / d) d (omega arith) hd in
    let times : v / c / d * c ≤ v / c * c = mul-le (v / c / d) c (v / c) c (omega arith) (omega arith) in
    omega arith

-- a sector made of a row, an item and a sector of a chunk has these parts
pub made_chunk : (c d row item at : ℕ) → at < c → ((row * d + item) * c + at) / c ≡ row * d + item
made_chunk c d row item at h = div-mul-add (row * d + item) c at h

pub made_at : (c d row item at : ℕ) → at < c → ((row * d + item) * c + at) % c ≡ at
made_at c d row item at h = mod-mul-add (row * d + item) c at h

pub made_row : (c d row item at : ℕ) → at < c → item < d → ((row * d + item) * c + at) / c / d ≡ row
made_row c d row item at h k = ap (λ (x : ℕ). x / d) (made_chunk c d row item at h) ∙ div-mul-add row d item k

pub made_item : (c d row item at : ℕ) → at < c → item < d → ((row * d + item) * c + at) / c % d ≡ item
made_item c d row item at h k = ap (λ (x : ℕ). x % d) (made_chunk c d row item at h) ∙ mod-mul-add row d item k

-- two sectors of the same parts are one
pub same_parts : (v w c d : ℕ) → v / c / d ≡ w / c / d → v / c % d ≡ w / c % d → v % c ≡ w % c → v ≡ w
same_parts v w c d rows items ats =
    let a : v / c / d * d + v / c % d ≡ v / c = div-add-mod' (v / c) d in
    let b : w / c / d * d + w / c % d ≡ w / c = div-add-mod' (w / c) d in
    let chunk : v / c ≡ w / c = sym a ∙ ap (λ (x : ℕ). x * d + v / c % d) rows ∙ ap (λ (x : ℕ). w / c / d * d + x) items ∙ b in
    let x : v / c * c + v % c ≡ v = div-add-mod' v c in
    let y : w / c * c + w % c ≡ w = div-add-mod' w c in
    sym x ∙ ap (λ (t : ℕ). t * c + v % c) chunk ∙ ap (λ (t : ℕ). w / c * c + t) ats ∙ y

-- two member sectors that are one come from one row and one sector of its chunk
pub same_place : (v w c d : ℕ) → 0 < c → v / c / d * c + v % c ≡ w / c / d * c + w % c → (v / c / d ≡ w / c / d) × (v % c ≡ w % c)
same_place v w c d hc e = same_from_place (v / c / d) (v % c) (w / c / d) (w % c) c (mod_below v c hc) (mod_below w c hc) e
