-- One more row.
use Rattle.std.proofs.Common.{ℕ, zero, suc, refl, ◌≡◌, ◌<◌, ◌≤◌, ◌+◌, ◌/◌, Bool, cond, Option, List, [], ◌∷◌, ◌++◌, count_by, drop, length, map, take, get_or, slice_index_or, length-append, sym, ap, ◌∙◌, arith, subst, inl, inr}
use Rattle.std.proofs.lemmas.Bool.{cases_lt}
use Rattle.std.proofs.lemmas.List.{map-append, length-map, length-take, get_or-drop, get_or-map, get_or-take, get_or_append_left, get_or_default, get_or_push, length-drop, take-map}
use Rattle.std.proofs.lemmas.List.Elements.{All-drop, All-push, All-take}
use Rattle.std.proofs.lemmas.List.Sums.{sum_by-take-le}
use Rattle.std.specs.List.{All}
use Rattle.std.specs.List.Sorted.{IsStrictlyIncreasing}
use Rattle.raid_params.specs.declared.types.Head.{Head}
use Rattle.row_relations.specs.Rows.{AreBytes}
use Rattle.row_relations.specs.Tables.{Table, IsTable}
use Rattle.relation_prefix.specs.declared.row_ties.RowTies.{RowTies}
use Rattle.relation_prefix.specs.declared.sampled.SampledRow.{SampledRow}
use Rattle.relation_prefix.specs.declared.weights.RowWeights.{RowWeights}
use Rattle.relation_prefix.specs.Laws.{AreRowsOf, AreSectorsAt, IsRowOf}
use Rattle.relation_prefix.specs.Sampled.{AreAllWeights, AreBelow, AreKeptRows, AreRowWeights, CanTest}
use Rattle.relation_prefix.specs.Ties.{AreThere, AreTiesOf, FitTies}

rising_push : (xs : List ℕ) (y : ℕ) → IsStrictlyIncreasing xs → ((k : ℕ) → k < length xs → get_or xs k 0 < y) → IsStrictlyIncreasing (xs ++ y ∷ [])
rising_push xs y rising below = λ k lt.
    let long = length-append xs (y ∷ []) in
    elim (cases_lt (k + 1) (length xs)) [
      | inl inside ↦
          (let a = get_or_append_left xs (y ∷ []) 0 k (omega arith) in
          let b = get_or_append_left xs (y ∷ []) 0 (k + 1) inside in
          let less = rising k inside in
          omega arith)
      | inr end ↦
          (let a = get_or_append_left xs (y ∷ []) 0 k (omega arith) in
          let b : get_or (xs ++ y ∷ []) (k + 1) 0 ≡ y = get_or_push xs y 0 (k + 1) (omega arith) in
          let less = below k (omega arith) in
          omega arith)
    ]

-- no more are counted among the first
pub count_few : (f : SampledRow → Bool) (rows : List SampledRow) (n : ℕ) → count_by f (take n rows) ≤ count_by f rows
count_few f rows n = sum_by-take-le (λ s. cond (f s) 1 0) rows n

-- one more row of the images
pub rows_push : (images : List (List ℕ)) (offset : ℕ) (rows : List SampledRow) (sampled : SampledRow) → AreRowsOf images offset rows → AreBelow sampled.row rows → IsRowOf images offset sampled →
    AreRowsOf images offset (rows ++ sampled ∷ [])
rows_push images offset rows sampled are below is = record {
  each = All-push (IsRowOf images offset) rows sampled are.each is;
  rising = subst IsStrictlyIncreasing (sym (map-append (λ (s : SampledRow). s.row) rows (sampled ∷ [])))
      (rising_push (map (λ s. s.row) rows) sampled.row are.rising
      (λ k lt. let long = length-map rows (λ (s : SampledRow). s.row) in
      let at = get_or-map (λ (s : SampledRow). s.row) rows k sampled 0 (omega arith) in
      let less = below k sampled (omega arith) in
      omega arith));
}

pub kept_push : (images row : ℕ) (ties : RowTies) (rows : List SampledRow) → AreKeptRows images rows → FitTies ties → ties.images ≡ images → AreKeptRows images (rows ++ record { row = row; ties = ties } ∷ [])
kept_push images row ties rows are fit e = record {
  fit = All-push (λ s. FitTies s.ties) rows (record { row = row; ties = ties }) are.fit fit;
  images = All-push (λ s. s.ties.images ≡ images) rows (record { row = row; ties = ties }) are.images e;
}

pub below_push : (row : ℕ) (ties : RowTies) (rows : List SampledRow) → AreBelow row rows → AreBelow (row + 1) (rows ++ record { row = row; ties = ties } ∷ [])
below_push row ties rows below = All-push (λ s. s.row < row + 1) rows (record { row = row; ties = ties }) (λ k d lt. let less = below k d lt in omega arith) (omega arith)

pub below_more : (row : ℕ) (rows : List SampledRow) → AreBelow row rows → AreBelow (row + 1) rows
below_more row rows below = λ k d lt. let less = below k d lt in omega arith

-- the row of a table that was kept
pub kept_rows : (images : List (List ℕ)) (offset row : ℕ) (sectors : List ℕ) (table : Table) (ties : RowTies) (rows : List SampledRow) → AreBytes sectors → AreSectorsAt images (offset + row) sectors →
    IsTable (length images) sectors table → AreTiesOf table ties → AreBelow row rows → AreRowsOf images offset rows → AreRowsOf images offset (rows ++ record { row = row; ties = ties } ∷ [])
kept_rows images offset row sectors table ties rows bytes at is of below are =
    rows_push images offset rows (record { row = row; ties = ties }) are below (record { sectors = sectors; table = table; bytes = bytes; at = at; is = is; of = of })

-- the weights of one row more
pub weights_push : (head : Head) (rows : List SampledRow) (n : ℕ) (weights : List RowWeights) (own : RowWeights) (d : SampledRow) → length weights ≡ n → n < length rows → AreAllWeights head rows n weights →
    AreRowWeights head ((slice_index_or rows n d).row / head.chunk) own → AreAllWeights head rows (n + 1) (weights ++ own ∷ [])
weights_push head rows n weights own d long inside before here number none blank lt = elim (cases_lt number n) [
  | inl below ↦ subst (AreRowWeights head ((slice_index_or rows number none).row / head.chunk)) (sym (get_or_append_left weights (own ∷ []) blank number (omega arith))) (before number none blank below)
  | inr past ↦
      (let same : n ≡ number = omega arith in
      let at : get_or (weights ++ own ∷ []) number blank ≡ own = get_or_push weights own blank number (omega arith) in
      let is : slice_index_or rows n d ≡ slice_index_or rows number none = get_or_default rows n d none inside ∙ ap (λ (k : ℕ). slice_index_or rows k none) same in
      subst (AreRowWeights head ((slice_index_or rows number none).row / head.chunk)) (sym at) (subst (λ (s : SampledRow). AreRowWeights head (s.row / head.chunk) own) is here))
]

-- the images in slots are there in each row
pub there_each : (count : ℕ) (slots : List (Option ℕ)) (rows : List SampledRow) → All (λ s. s.ties.images ≡ count) rows → AreThere count slots → All (λ s. AreThere s.ties.images slots) rows
there_each count slots rows are there = λ k d lt. subst (λ (n : ℕ). AreThere n slots) (sym (are k d lt)) there

-- the first of some rows, with their weights
can_take : (head : Head) (rows : List SampledRow) (weights : List RowWeights) (n : ℕ) → CanTest head rows weights → CanTest head (take n rows) (take n weights)
can_take head rows weights n can =
    let rows_long = length-take n rows in
    let weights_long = length-take n weights in
    let same = can.long in
    record {
      valid = can.valid;
      fit = All-take (λ s. FitTies s.ties) n rows can.fit;
      long = omega arith;
      each = λ number none blank lt.
          let row : get_or (take n rows) number none ≡ get_or rows number none = get_or-take n rows number none (omega arith) in
          let own : get_or (take n weights) number blank ≡ get_or weights number blank = get_or-take n weights number blank (omega arith) in
          subst (λ (s : SampledRow). AreRowWeights head (s.row / head.chunk) (get_or (take n weights) number blank)) (sym row)
          (subst (AreRowWeights head ((get_or rows number none).row / head.chunk)) (sym own) (can.each number none blank (omega arith)));
    }

-- the rows from one on, with their weights
can_drop : (head : Head) (rows : List SampledRow) (weights : List RowWeights) (n : ℕ) → CanTest head rows weights → CanTest head (drop n rows) (drop n weights)
can_drop head rows weights n can =
    let rows_long = length-drop n rows in
    let weights_long = length-drop n weights in
    let same = can.long in
    record {
      valid = can.valid;
      fit = All-drop (λ s. FitTies s.ties) n rows can.fit;
      long = omega arith;
      each = λ number none blank lt.
          let row : get_or (drop n rows) number none ≡ get_or rows (n + number) none = get_or-drop n rows number none in
          let own : get_or (drop n weights) number blank ≡ get_or weights (n + number) blank = get_or-drop n weights number blank in
          subst (λ (s : SampledRow). AreRowWeights head (s.row / head.chunk) (get_or (drop n weights) number blank)) (sym row)
          (subst (AreRowWeights head ((get_or rows (n + number) none).row / head.chunk)) (sym own) (can.each (n + number) none blank (omega arith)));
    }

-- some of them
pub can_part : (head : Head) (rows : List SampledRow) (weights : List RowWeights) (first n : ℕ) → CanTest head rows weights → CanTest head (take n (drop first rows)) (take n (drop first weights))
can_part head rows weights first n can = can_take head (drop first rows) (drop first weights) n (can_drop head rows weights first can)

rising_take : (n : ℕ) (xs : List ℕ) → IsStrictlyIncreasing xs → IsStrictlyIncreasing (take n xs)
rising_take n xs rising = λ k lt.
    let long = length-take n xs in
    let here = get_or-take n xs k 0 (omega arith) in
    let next = get_or-take n xs (k + 1) 0 (omega arith) in
    let less = rising k (omega arith) in
    omega arith

rising_drop : (n : ℕ) (xs : List ℕ) → IsStrictlyIncreasing xs → IsStrictlyIncreasing (drop n xs)
rising_drop n xs rising = λ k lt.
    let long = length-drop n xs in
    let here = get_or-drop n xs k 0 in
    let next = get_or-drop n xs (k + 1) 0 in
    let same : n + (k + 1) ≡ n + k + 1 = omega arith in
    let there : get_or xs (n + (k + 1)) 0 ≡ get_or xs (n + k + 1) 0 = ap (λ (m : ℕ). get_or xs m 0) same in
    let less = rising (n + k) (omega arith) in
    omega arith

map_drop : (n : ℕ) (rows : List SampledRow) → drop n (map (λ s. s.row) rows) ≡ map (λ s. s.row) (drop n rows)
map_drop zero rows = refl
map_drop (suc n) [] = refl
map_drop (suc n) (r ∷ rows) = map_drop n rows

-- some of the rows of images are rows of them
pub rows_part : (images : List (List ℕ)) (offset first n : ℕ) (rows : List SampledRow) → AreRowsOf images offset rows → AreRowsOf images offset (take n (drop first rows))
rows_part images offset first n rows are = record {
  each = All-take (IsRowOf images offset) n (drop first rows) (All-drop (IsRowOf images offset) first rows are.each);
  rising = subst IsStrictlyIncreasing (take-map (λ (s : SampledRow). s.row) n (drop first rows))
      (rising_take n (map (λ s. s.row) (drop first rows)) (subst IsStrictlyIncreasing (map_drop first rows) (rising_drop first (map (λ s. s.row) rows) are.rising)));
}
