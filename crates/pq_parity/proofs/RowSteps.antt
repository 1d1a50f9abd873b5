-- Sector rows that are done one after the other.
use Rattle.std.proofs.Common.{ℕ, ◌≡◌, ◌≢◌, ◌<◌, ◌≤◌, ◌+◌, ◌*◌, true, List, length, get_or, slice_get, slice_index, IfSome, inl, inr, arith, refl, sym, ap, ap₂, ◌∙◌, subst}
use Rattle.std.specs.declared.option.Option.{Option}
use Rattle.std.specs.declared.option.Option.TheVariants.{None, Some}
use Rattle.std.proofs.lemmas.Bool.{cases_lt}
use Rattle.std.proofs.lemmas.Option.{slice_get-get_or}
use Rattle.raid_params.specs.declared.types.Cell.{Cell}
use Rattle.raid_terms.specs.Parity.{in_p, in_q, is_data, IsRow}
use Rattle.raid_terms.specs.Solving.{lost_byte}
use Rattle.lane_kernels.specs.Formulas.{weighed_sum}
use Rattle.pq_parity.specs.Needs.{AgreeInRows, AreWhole, HoldLostData, KeepAllBut}
use Rattle.row_parity.specs.Regions.{region_column, HoldsLost}
use Rattle.pq_parity.specs.Finding.{is_lost_at, AreFinders, FindsAt, IsFinder, IsFor}
use Rattle.row_parity.specs.Known.{no_cell}
use Rattle.pq_parity.specs.declared.finders.Finder.{Finder}
use Rattle.row_parity.specs.Syndromes.{AreColumns, IsSyndrome}
use Rattle.pq_parity.proofs.Finding.{lost_here, lost_inside, lost_missing, lost_part}
use Rattle.pq_parity.proofs.Needed.{same_lost, some_case}
use Rattle.row_parity.proofs.Regions.{map_same, regions_apart}

-- the columns of regions
abbrev pub columns_of : List Cell → ℕ → List ℕ → ℕ → ℕ → List ℕ
columns_of cells stride sectors j x = region_column (length cells) stride sectors j x

-- sectors of different rows are apart
pub rows_apart : (stride i k place other x z : ℕ) → 512 * i + 512 ≤ stride → 512 * k + 512 ≤ stride → x < 512 → z < 512 → i ≢ k → stride * place + (512 * i + x) ≢ stride * other + (512 * k + z)
rows_apart stride i k place other x z fits also below short apart = λ e.
    elim (cases_lt place other) [
      | inl less ↦ regions_apart stride k place (512 * i + x) other z also (omega arith) short (λ same. absurd (omega arith)) e
      | inr more ↦ elim (cases_lt other place) [
        | inl less ↦ regions_apart stride k place (512 * i + x) other z also (omega arith) short (λ same. absurd (omega arith)) e
        | inr not_less ↦ (let same : place ≡ other = omega arith in
            let here : stride * place ≡ stride * other = ap (λ (s : ℕ). stride * s) same in
            apart (omega arith))
      ]
    ]

-- what holds of a missing data cell, by what holds of it twice
pub of_both : (o : Option Cell) (A B C : Cell → Type 0) → ((cell : Cell) → A cell → B cell → C cell) → IfSome o A → IfSome o B → IfSome o C
of_both None A B C step a b = tt
of_both (Some cell) A B C step a b = step cell a b

pub of_each : (o : Option Cell) (A : Cell → Type 0) → ((cell : Cell) → A cell) → IfSome o A
of_each None A each = tt
of_each (Some cell) A each = each cell

-- a byte of another row was kept
other_row : (cells : List Cell) (stride from count : ℕ) (old new : List ℕ) → 512 * (from + count) ≤ stride → KeepAllBut cells stride from count old new →
    (i place x : ℕ) → 512 * i + 512 ≤ stride → x < 512 → ((j : ℕ) → from ≤ j → j < from + count → i ≢ j) → slice_index new (stride * place + (512 * i + x)) ≡ slice_index old (stride * place + (512 * i + x))
other_row cells stride from count old new fits kept i place x inside below apart =
    kept (stride * place + (512 * i + x))
    (λ other. of_each (slice_get cells other) _ (λ cell m d j z low high short. rows_apart stride i j place other x z inside (omega arith) below short (apart j low high)))

column_kept : (cells : List Cell) (stride from count : ℕ) (old new : List ℕ) → 512 * (from + count) ≤ stride → KeepAllBut cells stride from count old new →
    (i x : ℕ) → 512 * i + 512 ≤ stride → x < 512 → ((j : ℕ) → from ≤ j → j < from + count → i ≢ j) → columns_of cells stride new i x ≡ columns_of cells stride old i x
column_kept cells stride from count old new fits kept i x inside below apart =
    map_same (λ place. slice_index new (stride * place + (512 * i + x))) (λ place. slice_index old (stride * place + (512 * i + x))) 0 (length cells)
    (λ place low high. other_row cells stride from count old new fits kept i place x inside below apart)

-- one more row
pub lost_row_more : (cells : List Cell) (stride from row : ℕ) (old mid new : List ℕ) → 512 * (from + row) + 512 ≤ stride →
    HoldLostData cells stride from row mid (columns_of cells stride old) → KeepAllBut cells stride from row old mid →
    HoldLostData cells stride (from + row) 1 new (columns_of cells stride mid) → KeepAllBut cells stride (from + row) 1 mid new →
    HoldLostData cells stride from (row + 1) new (columns_of cells stride old)
lost_row_more cells stride from row old mid new fits held kept here others = λ place.
    of_both (slice_get cells place) _ _ _
    (λ cell before now m d j x low high below. elim (cases_lt j (from + row)) [
      | inl less ↦ other_row cells stride (from + row) 1 mid new (omega arith) others j place x (omega arith) below (λ k above under. λ e. absurd (omega arith)) ∙ before m d j x low less below
      | inr more ↦ now m d j x (omega arith) (omega arith) below
          ∙ ap (λ (column : List ℕ). lost_byte cells column place) (column_kept cells stride from row old mid (omega arith) kept j x (omega arith) below (λ k above under. λ e. absurd (omega arith)))
    ])
    (held place) (here place)

pub kept_row_more : (cells : List Cell) (stride from row : ℕ) (old mid new : List ℕ) → KeepAllBut cells stride from row old mid → KeepAllBut cells stride (from + row) 1 mid new → KeepAllBut cells stride from (row + 1) old new
kept_row_more cells stride from row old mid new kept others = λ p apart.
    others p (λ place. narrowed (slice_get cells place) place p (from + row) 1 (λ j low high. (omega arith, omega arith)) (apart place))
    ∙ kept p (λ place. narrowed (slice_get cells place) place p from row (λ j low high. (low, omega arith)) (apart place))
  where
    narrowed : (o : Option Cell) (place p first count : ℕ) → ((j : ℕ) → first ≤ j → j < first + count → (from ≤ j) × (j < from + (row + 1))) →
        IfSome o (λ cell. cell.missing ≡ true → is_data cell.part ≡ true → (j x : ℕ) → from ≤ j → j < from + (row + 1) → x < 512 → p ≢ stride * place + (512 * j + x)) →
        IfSome o (λ cell. cell.missing ≡ true → is_data cell.part ≡ true → (j x : ℕ) → first ≤ j → j < first + count → x < 512 → p ≢ stride * place + (512 * j + x))
    narrowed None place p first count step apart = tt
    narrowed (Some cell) place p first count step apart = λ m d j x low high below. let h = step j low high in apart m d j x h.0 h.1 below

-- the lost data of the regions are those of every column that agrees with them in what is needed
pub by_needed : (cells : List Cell) (stride from count : ℕ) (old new : List ℕ) (column : ℕ → ℕ → List ℕ) → IsRow cells → ((j x : ℕ) → length (columns_of cells stride old j x) ≡ length cells) →
    AreWhole cells from count column → AgreeInRows cells stride from count old column →
    HoldLostData cells stride from count new (columns_of cells stride old) → HoldLostData cells stride from count new column
by_needed cells stride from count old new column row long whole agree held = λ place.
    of_both (slice_get cells place) _ _ _
    (λ cell is before m d j x low high below. before m d j x low high below
    ∙ same_lost cells (columns_of cells stride old j x) (column j x) place cell row (long j x) (whole j x low high below) (agree j x low high below) is m d)
    (some_case cells (slice_get cells place) place (λ cell. slice_get cells place ≡ Some cell) refl (λ cell is. is))
    (held place)

-- no row yet
pub lost_row_none : (cells : List Cell) (stride from : ℕ) (old new : List ℕ) → HoldLostData cells stride from 0 new (columns_of cells stride old)
lost_row_none cells stride from old new = λ place. of_each (slice_get cells place) _ (λ cell m d j x low high below. absurd (omega arith))

-- what is said of a place is said of its cell
pub from_there : (cells : List Cell) (place : ℕ) (d : Cell) → place < length cells → (A : Cell → Type 0) → IfSome (slice_get cells place) A → A (get_or cells place d)
from_there cells place d h A all = rw (slice_get-get_or cells place d h) at all

-- what a fill of one region keeps is kept
pub kept_by_fill : (cells : List Cell) (stride j place : ℕ) (old new : List ℕ) → is_lost_at cells place ≡ true →
    ((p : ℕ) → ((x : ℕ) → x < 512 → p ≢ stride * place + (512 * j + x)) → slice_index new p ≡ slice_index old p) → KeepAllBut cells stride j 1 old new
kept_by_fill cells stride j place old new lost kept = λ p apart.
    kept p (λ x inside. from_there cells place no_cell (lost_inside cells place lost) _ (apart place) (lost_missing cells place lost) (lost_part cells place lost) j x (omega arith) (omega arith) inside)

pub kept_by_both : (cells : List Cell) (stride j : ℕ) (old mid new : List ℕ) → KeepAllBut cells stride j 1 old mid → KeepAllBut cells stride j 1 mid new → KeepAllBut cells stride j 1 old new
kept_by_both cells stride j old mid new kept also = λ p apart. also p apart ∙ kept p apart

-- what is so of each missing data cell by its place
pub lost_by_place : (cells : List Cell) (stride j : ℕ) (old new : List ℕ) →
    ((place : ℕ) → is_lost_at cells place ≡ true → HoldsLost cells stride j old new place) → HoldLostData cells stride j 1 new (columns_of cells stride old)
lost_by_place cells stride j old new each = λ place.
    some_case cells (slice_get cells place) place _ refl
    (λ cell is m d k x low high inside.
    let e : j ≡ k = omega arith in
    subst (λ (i : ℕ). slice_index new (stride * place + (512 * i + x)) ≡ lost_byte cells (columns_of cells stride old i x) place) e (each place (lost_here cells place cell is m d) x inside))

-- a region that was filled before another
pub holds_still : (cells : List Cell) (stride j place other : ℕ) (old mid new : List ℕ) → 512 * j + 512 ≤ stride → place ≢ other → HoldsLost cells stride j old mid place →
    ((p : ℕ) → ((x : ℕ) → x < 512 → p ≢ stride * other + (512 * j + x)) → slice_index new p ≡ slice_index mid p) → HoldsLost cells stride j old new place
holds_still cells stride j place other old mid new fits apart held kept = λ x inside.
    kept (stride * place + (512 * j + x)) (λ z short. regions_apart stride j place (512 * j + x) other z fits (omega arith) short apart) ∙ held x inside

-- different columns of a row are apart
pub columns_apart : (stride j i place x z : ℕ) → 512 * j + 512 ≤ stride → x < 512 → z < 512 → x ≢ z → stride * i + (512 * j + x) ≢ stride * place + (512 * j + z)
columns_apart stride j i place x z fits inside short apart = λ e.
    elim (cases_lt i place) [
      | inl less ↦ regions_apart stride j i (512 * j + x) place z fits (omega arith) short (λ same. absurd (omega arith)) e
      | inr more ↦ elim (cases_lt place i) [
        | inl less ↦ regions_apart stride j i (512 * j + x) place z fits (omega arith) short (λ same. absurd (omega arith)) e
        | inr not_less ↦ (let same : i ≡ place = omega arith in
            let here : stride * i ≡ stride * place = ap (λ (s : ℕ). stride * s) same in
            apart (omega arith))
      ]
    ]

-- the weighed sums in the region of a missing data cell
pub cell_by_both : (cells : List Cell) (stride j place a b : ℕ) (old new p q : List ℕ) → FindsAt cells place a b → AreColumns cells (columns_of cells stride old j) →
    IsSyndrome in_p cells (columns_of cells stride old j) p → IsSyndrome in_q cells (columns_of cells stride old j) q →
    ((x : ℕ) → x < 512 → slice_index new (stride * place + (512 * j + x)) ≡ weighed_sum a b (slice_index p x) (slice_index q x)) → HoldsLost cells stride j old new place
cell_by_both cells stride j place a b old new p q finds columns by_p by_q bytes = λ x inside.
    bytes x inside ∙ ap₂ (weighed_sum a b) (by_p.bytes x inside) (by_q.bytes x inside) ∙ sym (finds (columns_of cells stride old j x) (columns x).0 (columns x).1)

-- what a fill writes
abbrev pub IsFill : ℕ → ℕ → Finder → List ℕ → List ℕ → List ℕ → Type 0
IsFill stride j finder p q new =
    (x : ℕ) → x < 512 → slice_index new (stride * finder.place + (512 * j + x)) ≡ weighed_sum finder.by_p.factor finder.by_q.factor (slice_index p x) (slice_index q x)

pub row_by_one : (cells : List Cell) (stride j : ℕ) (one : Finder) (other : Option Finder) (old new p q : List ℕ) → AreFinders cells one other → other ≡ None → AreColumns cells (columns_of cells stride old j) →
    IsSyndrome in_p cells (columns_of cells stride old j) p → IsSyndrome in_q cells (columns_of cells stride old j) q → IsFill stride j one p q new → HoldLostData cells stride j 1 new (columns_of cells stride old)
row_by_one cells stride j one other old new p q finders none columns by_p by_q bytes =
    lost_by_place cells stride j old new
    (λ i lost. elim (finders.all i lost) [
      | inl e ↦ subst (λ (k : ℕ). HoldsLost cells stride j old new k) (sym e)
          (cell_by_both cells stride j one.place one.by_p.factor one.by_q.factor old new p q finders.first.finds columns by_p by_q bytes)
      | inr second ↦ absurd (subst (λ (o : Option Finder). IsFor o i) none second)
    ])

pub row_by_two : (cells : List Cell) (stride j : ℕ) (one finder : Finder) (other : Option Finder) (old mid new p q : List ℕ) → 512 * j + 512 ≤ stride → AreFinders cells one other → other ≡ Some finder →
    AreColumns cells (columns_of cells stride old j) → IsSyndrome in_p cells (columns_of cells stride old j) p → IsSyndrome in_q cells (columns_of cells stride old j) q → IsFill stride j one p q mid →
    IsFill stride j finder p q new → ((k : ℕ) → ((x : ℕ) → x < 512 → k ≢ stride * finder.place + (512 * j + x)) → slice_index new k ≡ slice_index mid k) → HoldLostData cells stride j 1 new (columns_of cells stride old)
row_by_two cells stride j one finder other old mid new p q fits finders is columns by_p by_q bytes also kept =
    let second = subst (λ (o : Option Finder). IfSome o (IsFinder cells)) is finders.second in
    let apart = subst (λ (o : Option Finder). IfSome o (λ f. one.place ≢ f.place)) is finders.apart in
    lost_by_place cells stride j old new
    (λ i lost. elim (finders.all i lost) [
      | inl e ↦ subst (λ (k : ℕ). HoldsLost cells stride j old new k) (sym e)
          (holds_still cells stride j one.place finder.place old mid new fits apart
          (cell_by_both cells stride j one.place one.by_p.factor one.by_q.factor old mid p q finders.first.finds columns by_p by_q bytes) kept)
      | inr here ↦ subst (λ (k : ℕ). HoldsLost cells stride j old new k) (sym (subst (λ (o : Option Finder). IsFor o i) is here))
          (cell_by_both cells stride j finder.place finder.by_p.factor finder.by_q.factor old new p q second.finds columns by_p by_q also)
    ])

pub kept_by_two : (cells : List Cell) (stride j : ℕ) (one finder : Finder) (other : Option Finder) (old mid new : List ℕ) → AreFinders cells one other → other ≡ Some finder →
    ((k : ℕ) → ((x : ℕ) → x < 512 → k ≢ stride * one.place + (512 * j + x)) → slice_index mid k ≡ slice_index old k) →
    ((k : ℕ) → ((x : ℕ) → x < 512 → k ≢ stride * finder.place + (512 * j + x)) → slice_index new k ≡ slice_index mid k) → KeepAllBut cells stride j 1 old new
kept_by_two cells stride j one finder other old mid new finders is kept also =
    let second = subst (λ (o : Option Finder). IfSome o (IsFinder cells)) is finders.second in
    kept_by_both cells stride j old mid new (kept_by_fill cells stride j one.place old mid finders.first.lost kept) (kept_by_fill cells stride j finder.place mid new second.lost also)
