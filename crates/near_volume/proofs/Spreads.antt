-- Chunks that are written to one column of rows.
use Rattle.std.proofs.Common.{◌≡◌, ◌≢◌, ℕ, ◌+◌, ◌*◌, ◌%◌, ◌<◌, ◌≤◌, List, length, get_or, sym, ap, ◌∙◌, arith, inl, inr}
use Rattle.std.proofs.lemmas.Bool.{cases_lt}
use Rattle.std.proofs.lemmas.Nat.{mod-mul-add, mul-add-lt, mul-le}

-- a cell lies in the rows
cell_below : (columns rows row column : ℕ) → row < rows → column < columns → row * columns + column + 1 ≤ rows * columns
cell_below columns rows row column below inside =
    let lt = mul-add-lt row columns column rows below inside in
    let turned : columns * rows ≡ rows * columns = grind arith in
    omega arith

pub cell_fits : (size columns rows row column : ℕ) → row < rows → column < columns → size * (row * columns + column) + size ≤ size * (rows * columns)
cell_fits size columns rows row column below inside =
    let all : size * (row * columns + column + 1) ≤ size * (rows * columns) = mul-le size (row * columns + column + 1) size (rows * columns) (omega arith) (cell_below columns rows row column below inside) in
    let next : size * (row * columns + column + 1) ≡ size * (row * columns + column) + size = grind arith in
    omega arith

-- and its number is no greater than that of the bytes
pub cell_short : (size columns rows row column : ℕ) → 1 ≤ size → row < rows → column < columns → row * columns + column + 1 ≤ size * (rows * columns)
cell_short size columns rows row column some below inside =
    let more : 1 * (rows * columns) ≤ size * (rows * columns) = mul-le 1 (rows * columns) size (rows * columns) some (omega arith) in
    let cell = cell_below columns rows row column below inside in
    omega arith

pub part_fits : (size rows row : ℕ) → row < rows → size * row + size ≤ size * rows
part_fits size rows row below =
    let all : size * (row + 1) ≤ size * rows = mul-le size (row + 1) size rows (omega arith) (omega arith) in
    let next : size * (row + 1) ≡ size * row + size = grind arith in
    omega arith

-- one cell lies before another
before : (size one other : ℕ) → one < other → size * one + size ≤ size * other
before size one other lt = part_fits size other one lt

-- cells of other columns are others
apart : (columns row column other one : ℕ) → column < columns → one < columns → one ≢ column → other * columns + one ≡ row * columns + column → ⊥
apart columns row column other one below above differ same =
    differ (sym (mod-mul-add other columns one above) ∙ ap (λ (x : ℕ). x % columns) same ∙ mod-mul-add row columns column below)

-- the column is written row by row
pub column_on : (size columns column row : ℕ) (old new part from : List ℕ) → column < columns → length part ≡ size →
    ((p : ℕ) → p < size * (row * columns + column) → get_or new p 0 ≡ get_or old p 0) →
    ((x : ℕ) → x < length part → get_or new (size * (row * columns + column) + x) 0 ≡ get_or part x 0) →
    ((x : ℕ) → x < size → get_or part x 0 ≡ get_or from (size * row + x) 0) →
    ((early x : ℕ) → early < row → x < size → get_or old (size * (early * columns + column) + x) 0 ≡ get_or from (size * early + x) 0) →
    (early x : ℕ) → early < row + 1 → x < size → get_or new (size * (early * columns + column) + x) 0 ≡ get_or from (size * early + x) 0
column_on size columns column row old new part from inside long kept here is done early x lt small = elim (cases_lt early row) [
  | inl less ↦
      let step : (early + 1) * columns ≤ row * columns = mul-le (early + 1) columns row columns (omega arith) (omega arith) in
      let next : (early + 1) * columns ≡ early * columns + columns = grind arith in
      let low = before size (early * columns + column) (row * columns + column) (omega arith) in
      kept (size * (early * columns + column) + x) (omega arith) ∙ done early x less small
  | inr more ↦
      let same : row ≡ early = omega arith in
      ap (λ (k : ℕ). get_or new (size * (k * columns + column) + x) 0) (sym same) ∙ here x (omega arith) ∙ is x small ∙ ap (λ (k : ℕ). get_or from (size * k + x) 0) same
]

-- the others are not
pub others_stay : (size columns column row : ℕ) (old new part : List ℕ) → column < columns → length part ≡ size →
    ((p : ℕ) → p < size * (row * columns + column) → get_or new p 0 ≡ get_or old p 0) →
    ((p : ℕ) → size * (row * columns + column) + length part ≤ p → get_or new p 0 ≡ get_or old p 0) →
    (early other x : ℕ) → other < columns → other ≢ column → x < size → get_or new (size * (early * columns + other) + x) 0 ≡ get_or old (size * (early * columns + other) + x) 0
others_stay size columns column row old new part inside long kept after early other x below differ small = elim (cases_lt (early * columns + other) (row * columns + column)) [
  | inl lower ↦ (let low = before size (early * columns + other) (row * columns + column) lower in kept (size * (early * columns + other) + x) (omega arith))
  | inr more ↦ elim (cases_lt (row * columns + column) (early * columns + other)) [
    | inl higher ↦ (let high = before size (row * columns + column) (early * columns + other) higher in after (size * (early * columns + other) + x) (omega arith))
    | inr less ↦ absurd (apart columns row column early other inside below differ (omega arith))
  ]
]
