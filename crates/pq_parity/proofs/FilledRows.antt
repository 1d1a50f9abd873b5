-- Sums that are written into a region, row by row and strip by strip.
use Rattle.std.proofs.Common.{ℕ, ◌≡◌, ◌≢◌, ◌<◌, ◌≤◌, ◌+◌, ◌-◌, ◌*◌, ◌∙◌, true, false, List, length, slice_get, slice_index, inl, inr, arith, refl, ap, sym, subst}
use Rattle.std.proofs.lemmas.Bool.{cases_lt}
use Rattle.raid_params.specs.declared.types.Cell.{Cell}
use Rattle.raid_params.specs.declared.types.Part.{Part}
use Rattle.raid_params.specs.declared.types.Part.TheVariants.{Q}
use Rattle.raid_terms.specs.Parity.{in_p, in_q, IsRow}
use Rattle.raid_terms.specs.Solving.{lost_byte}
use Rattle.pq_parity.specs.Finding.{is_lost_at}
use Rattle.row_parity.specs.Known.{no_cell}
use Rattle.pq_parity.specs.Needs.{needs, HoldLostData, KeepAllBut}
use Rattle.row_parity.specs.Regions.{region_column, HoldSums, KeepOthers}
use Rattle.row_parity.specs.Syndromes.{known_sum, sum_at, AreColumns}
use Rattle.pq_parity.proofs.Finding.{found_by_p, lost_here, lost_inside, lost_missing, lost_part, no_other}
use Rattle.pq_parity.proofs.Needed.{some_case}
use Rattle.pq_parity.proofs.Pairs.{weighed_p}
use Rattle.row_parity.proofs.Regions.{map_same}
use Rattle.pq_parity.proofs.RowSteps.{columns_apart, columns_of, from_there, rows_apart}
use Rattle.row_parity.proofs.RowSums.{in_p_fits, known_sum_fits}

-- what a write to the sector number j of a region keeps
abbrev pub KeepSector : ℕ → ℕ → ℕ → List ℕ → List ℕ → Type 0
KeepSector stride j place old new = (p : ℕ) → ((x : ℕ) → x < 512 → p ≢ stride * place + (512 * j + x)) → slice_index new p ≡ slice_index old p

-- a column of the next row was kept
next_column : (stride from row place n x : ℕ) (old mid : List ℕ) → 512 * (from + row) + 512 ≤ stride → x < 512 → KeepOthers stride from row place old mid →
    region_column n stride mid (from + row) x ≡ region_column n stride old (from + row) x
next_column stride from row place n x old mid fits below kept =
    map_same (λ i. slice_index mid (stride * i + (512 * (from + row) + x))) (λ i. slice_index old (stride * i + (512 * (from + row) + x))) 0 n
    (λ i low high. kept (stride * i + (512 * (from + row) + x)) (λ j z over under short. rows_apart stride (from + row) j i place x z fits (omega arith) below short (λ e. absurd (omega arith))))

-- one more row
pub sums_more : (adds : Part → ℕ → ℕ) (cells : List Cell) (stride from row place : ℕ) (old mid new : List ℕ) → 512 * (from + row) + 512 ≤ stride →
    HoldSums adds cells stride from row place old mid → KeepOthers stride from row place old mid →
    ((x : ℕ) → x < 512 → slice_index new (stride * place + (512 * (from + row) + x)) ≡ sum_at adds cells (region_column (length cells) stride mid (from + row)) x) → KeepSector stride (from + row) place mid new →
    HoldSums adds cells stride from (row + 1) place old new
sums_more adds cells stride from row place old mid new fits held kept now others = λ j x low high below.
    elim (cases_lt j (from + row)) [
      | inl less ↦
          others (stride * place + (512 * j + x)) (λ z short. rows_apart stride j (from + row) place place x z (omega arith) fits below short (λ e. absurd (omega arith)))
          ∙ held j x low less below
      | inr more ↦
          (let e : from + row ≡ j = omega arith in
          subst (λ (k : ℕ). slice_index new (stride * place + (512 * k + x)) ≡ sum_at adds cells (region_column (length cells) stride old k) x) e
          (now x below ∙ ap (λ (column : List ℕ). known_sum adds cells column) (next_column stride from row place (length cells) x old mid fits below kept)))
    ]

pub others_more : (stride from row place : ℕ) (old mid new : List ℕ) → KeepOthers stride from row place old mid → KeepSector stride (from + row) place mid new → KeepOthers stride from (row + 1) place old new
others_more stride from row place old mid new kept others = λ p apart.
    others p (λ x below. apart (from + row) x (omega arith) (omega arith) below) ∙ kept p (λ j x low high below. apart j x low (omega arith) below)

-- no row yet
pub sums_none : (adds : Part → ℕ → ℕ) (cells : List Cell) (stride from place : ℕ) (old new : List ℕ) → HoldSums adds cells stride from 0 place old new
sums_none adds cells stride from place old new = λ j x low high below. absurd (omega arith)

-- what the strips so far keep
abbrev pub KeepStrips : ℕ → ℕ → ℕ → ℕ → List ℕ → List ℕ → Type 0
KeepStrips stride j place strip old new = (p : ℕ) → ((x : ℕ) → x < 64 * strip → p ≢ stride * place + (512 * j + x)) → slice_index new p ≡ slice_index old p

-- a column of the next strip was kept
pub strip_column : (stride j place strip n lane : ℕ) (old mid : List ℕ) → 512 * j + 512 ≤ stride → strip < 8 → lane < 64 → KeepStrips stride j place strip old mid →
    region_column n stride mid j (64 * strip + lane) ≡ region_column n stride old j (64 * strip + lane)
strip_column stride j place strip n lane old mid fits few below kept =
    map_same (λ i. slice_index mid (stride * i + (512 * j + (64 * strip + lane)))) (λ i. slice_index old (stride * i + (512 * j + (64 * strip + lane)))) 0 n
    (λ i low high. kept (stride * i + (512 * j + (64 * strip + lane)))
    (λ z short. columns_apart stride j i place (64 * strip + lane) z fits (omega arith) (omega arith) (λ e. absurd (omega arith))))

-- one more strip
pub strips_kept : (stride j place strip at : ℕ) (old mid new : List ℕ) → at ≡ stride * place + (512 * j + 64 * strip) → KeepStrips stride j place strip old mid →
    ((p : ℕ) → p < at → slice_index new p ≡ slice_index mid p) → ((p : ℕ) → at + 64 ≤ p → slice_index new p ≡ slice_index mid p) → KeepStrips stride j place (strip + 1) old new
strips_kept stride j place strip at old mid new is kept before after = λ p apart.
    elim (cases_lt p at) [
      | inl less ↦ before p less ∙ kept p (λ x below. apart x (omega arith))
      | inr more ↦ elim (cases_lt p (at + 64)) [
        | inl inside ↦ absurd (apart (p - (stride * place + 512 * j)) (omega arith) (omega arith))
        | inr past ↦ after p past ∙ kept p (λ x below. apart x (omega arith))
      ]
    ]

-- P's sums in the region of the one missing data cell are its bytes
pub lost_by_sums : (cells : List Cell) (stride from count place : ℕ) (old new : List ℕ) → IsRow cells → is_lost_at cells place ≡ true → needs cells Q ≡ false → ((j : ℕ) → AreColumns cells (columns_of cells stride old j)) →
    HoldSums in_p cells stride from count place old new → HoldLostData cells stride from count new (columns_of cells stride old)
lost_by_sums cells stride from count place old new row lost unneeded are sums = λ i.
    some_case cells (slice_get cells i) i _ refl
    (λ cell is m d j x low high below.
    let columns = are j x in
    let same : i ≡ place = no_other cells place lost unneeded i (lost_here cells i cell is m d) in
    subst (λ (k : ℕ). slice_index new (stride * k + (512 * j + x)) ≡ lost_byte cells (columns_of cells stride old j x) k) (sym same)
    (sums j x low high below
    ∙ sym (found_by_p cells place row lost unneeded (columns_of cells stride old j x) columns.0 columns.1
    ∙ weighed_p (known_sum in_p cells (columns_of cells stride old j x)) (known_sum in_q cells (columns_of cells stride old j x)) (known_sum_fits in_p in_p_fits cells (columns_of cells stride old j x) columns.1))))

pub kept_by_sums : (cells : List Cell) (stride from count place : ℕ) (old new : List ℕ) → is_lost_at cells place ≡ true → KeepOthers stride from count place old new → KeepAllBut cells stride from count old new
kept_by_sums cells stride from count place old new lost kept = λ p apart.
    kept p (λ j x low high below. from_there cells place no_cell (lost_inside cells place lost) _ (apart place) (lost_missing cells place lost) (lost_part cells place lost) j x low high below)
