-- The table of a space, and the lists that it counts.
use Rattle.std.proofs.Common.{ℕ, suc, ◌≡◌, ◌<◌, ◌≤◌, ◌+◌, ◌-◌, ◌*◌, ◌/◌, ◌%◌, ◌^◌, List, [], ◌∷◌, ◌++◌, length, take, get_or, refl, sym, ap, ap₂, ◌∙◌, arith, false, Option, Some, None, subst, inl, inr, length-append}
use Rattle.raid_params.specs.declared.limits.TheConstants.{MOST}
use Rattle.std.specs.Prelude.{slice_index}
use Rattle.std.proofs.lemmas.Bool.{cases_lt}
use Rattle.std.proofs.Math.ListN.{get_or-append, set}
use Rattle.std.proofs.Math.Seq.{get_or-append_seam, take-suc-set}
use Rattle.std.proofs.lemmas.List.{get_or-take, length-take-le}
use Rattle.raid_params.specs.Slots.{stands, empties}
use Rattle.slot_math.specs.Ways.{ways, ends, IsStart}
use Rattle.slot_math.specs.declared.space.Space.{Space}
use Rattle.slot_math.proofs.Bound.{ways_fit, ways_next}
use Rattle.slot_math.proofs.Ends.{ends_are}
use Rattle.slot_math.proofs.Fronts.{room, unused_image, empty_place}
use Rattle.candidate_enum.specs.Counts.{ways_on, IsCell, AreCells, IsTable}

-- rows and columns
row_is : (k m e : ℕ) → k ≡ m * 25 + e → e < 25 → k / 25 ≡ m
row_is k m e h lt = omega arith

column_is : (k m e : ℕ) → k ≡ m * 25 + e → e < 25 → k % 25 ≡ e
column_is k m e h lt = omega arith

cell_at : (s : Space) (cells : List ℕ) (k m e : ℕ) → AreCells s cells → k ≡ m * 25 + e → e < 25 → k < length cells → m + e ≤ s.members → slice_index cells k ≡ ways_on s m e
cell_at s cells k m e a h lt within short =
    let row : k / 25 ≡ m = row_is k m e h lt in
    let column : k % 25 ≡ e = column_is k m e h lt in
    a.each k within (omega arith) ∙ ap₂ (ways_on s) row column

pub table_at : (s : Space) (cells : List ℕ) (left e : ℕ) → s.members ≤ MOST → IsTable s cells → left + e ≤ s.members → slice_index cells (left * 25 + e) ≡ ways_on s left e
table_at s cells left e few t short =
    let n = (s.members + 1) * 25 in
    let long : length (take n cells) ≡ n = length-take-le n cells t.long in
    sym (get_or-take n cells (left * 25 + e) 0 (omega arith))
    ∙ cell_at s (take n cells) (left * 25 + e) left e t.each refl (omega arith) (omega arith) short

-- the ways of a table are counted in 128 bits
ways_on_fit : (s : Space) (m e : ℕ) → s.images ≤ MOST → s.members ≤ MOST → m + e ≤ s.members → ways_on s m e ≤ (MOST + 1) ^ MOST
ways_on_fit s m e n few short = ways_fit s.low s.high (s.images + e + m - s.members) m e (omega arith) (omega arith)

-- a cell with no place to come
pub first_cell : (s : Space) (k count : ℕ) → ((u : ℕ) → count ≡ ways s.low s.high u 0 (k % 25)) → k / 25 ≡ 0 → IsCell s k count
first_cell s k count h e short =
    h (s.images + k % 25 + k / 25 - s.members) ∙ ap (λ (m : ℕ). ways s.low s.high (s.images + k % 25 + k / 25 - s.members) m (k % 25)) (sym e)

pub far_cell : (s : Space) (k count : ℕ) → s.members < k / 25 + k % 25 → IsCell s k count
far_cell s k count h short = absurd (omega arith)

-- the cells of which the next one is made
pub record IsBelow (s : Space) (k x y : ℕ) : Type 0 where
  pub unused : s.images + k % 25 + k / 25 - s.members ≤ MOST
  pub image : x ≤ (MOST + 1) ^ MOST
  pub empty : y ≤ (MOST + 1) ^ MOST
  pub next : IsCell s k ((s.images + k % 25 + k / 25 - s.members) * x + y)

pub below : (s : Space) (cells : List ℕ) (k : ℕ) → s.images ≤ MOST → s.members ≤ MOST → AreCells s cells → k ≡ length cells → 0 < k / 25 → k / 25 + k % 25 ≤ s.members →
    IsBelow s k (slice_index cells (k - 25)) (slice_index cells (k - 25 + 1))
below s cells k n few a long some short = from (k / 25 - 1) (k % 25) (omega arith) (omega arith)
  where
    from : (m e : ℕ) → k / 25 ≡ m + 1 → k % 25 ≡ e → IsBelow s k (slice_index cells (k - 25)) (slice_index cells (k - 25 + 1))
    from m e row column =
        let x : slice_index cells (k - 25) ≡ ways_on s m e = cell_at s cells (k - 25) m e a (omega arith) (omega arith) (omega arith) (omega arith) in
        let y : slice_index cells (k - 25 + 1) ≡ ways_on s m (e + 1) = cell_at s cells (k - 25 + 1) m (e + 1) a (omega arith) (omega arith) (omega arith) (omega arith) in
        let xf : ways_on s m e ≤ (MOST + 1) ^ MOST = ways_on_fit s m e n few (omega arith) in
        let yf : ways_on s m (e + 1) ≤ (MOST + 1) ^ MOST = ways_on_fit s m (e + 1) n few (omega arith) in
        let zero_more : 0 + e ≡ e = omega arith in
        let one_more : 0 + (e + 1) ≡ e + 1 = omega arith in
        let step : (s.images + e + m + 1 - s.members) * slice_index cells (k - 25) + slice_index cells (k - 25 + 1) ≡ ways s.low s.high (s.images + e + (m + 1) - s.members) (m + 1) (0 + e)
        = ways_next s.low s.high s.images s.members e m 0 (slice_index cells (k - 25)) (slice_index cells (k - 25 + 1)) (omega arith)
        (x ∙ ap (ways s.low s.high (s.images + e + m - s.members) m) (sym zero_more))
        (y ∙ ap (ways s.low s.high (s.images + (e + 1) + m - s.members) m) (sym one_more)) in
        let u : s.images + k % 25 + k / 25 - s.members ≡ s.images + e + m + 1 - s.members = omega arith in
        record {
          unused = omega arith;
          image = omega arith;
          empty = omega arith;
          next = λ _. ap (λ (v : ℕ). v * slice_index cells (k - 25) + slice_index cells (k - 25 + 1)) u ∙ step
              ∙ ap (ways s.low s.high (s.images + e + (m + 1) - s.members) (m + 1)) zero_more
              ∙ ap₂ (ways_on s) (sym row) (sym column);
        }

-- one cell more
pub no_cells : (s : Space) (cells : List ℕ) → AreCells s (take 0 cells)
no_cells s cells = record { each = λ k lt. absurd (omega arith) }

more_cells : (s : Space) (cells : List ℕ) (count : ℕ) → AreCells s cells → IsCell s (length cells) count → AreCells s (cells ++ count ∷ [])
more_cells s cells count a c = record { each = λ k lt. here k lt }
  where
    here : (k : ℕ) → k < length (cells ++ count ∷ []) → IsCell s k (slice_index (cells ++ count ∷ []) k)
    here k lt = elim (cases_lt k (length cells)) [
      | inl low ↦ subst (λ (n : ℕ). IsCell s k n) (sym (get_or-append cells (count ∷ []) 0 k low)) (a.each k low)
      | inr high ↦ (let long : length (cells ++ count ∷ []) ≡ length cells + 1 = length-append cells (count ∷ []) in
          let last : k ≡ length cells = omega arith in
          subst (λ (n : ℕ). IsCell s k n) (sym (ap (λ (i : ℕ). get_or (cells ++ count ∷ []) i 0) last ∙ get_or-append_seam cells count [] 0))
          (subst (λ (i : ℕ). IsCell s i count) (sym last) c))
    ]

pub cells_more : (s : Space) (cells : List ℕ) (at count : ℕ) → at < length cells → AreCells s (take at cells) → IsCell s (length (take at cells)) count → AreCells s (take (at + 1) (set cells at count))
cells_more s cells at count lt a c =
    let P : List ℕ → Type 0 = λ t. AreCells s t in
    subst P (sym (ap (λ (n : ℕ). take n (set cells at count)) (let e : at + 1 ≡ suc at = omega arith in e) ∙ take-suc-set cells at count lt)) (more_cells s (take at cells) count a c)

-- how many lists go on from a prefix
pub start_counted : (s : Space) (p : List (Option ℕ)) → IsStart s p → length p ≤ s.members → ways_on s (s.members - length p) (empties p) ≡ length (ends s p)
start_counted s p h short =
    let r : empties p ≤ length p = room p in
    ap (λ (u : ℕ). ways s.low s.high u (s.members - length p) (empties p)) (let e : s.images + empties p + (s.members - length p) - s.members ≡ s.images - (length p - empties p) = omega arith in e)
    ∙ sym (ends_are s p h.0 h.1)

pub image_counted : (s : Space) (p : List (Option ℕ)) (i : ℕ) → IsStart s p → length p < s.members → i < s.images → stands i p ≡ false →
    ways_on s (s.members - length p - 1) (empties p) ≡ length (ends s (p ++ Some i ∷ []))
image_counted s p i h short ok new =
    let r : empties p ≤ length p = room p in
    ap₂ (λ (u m : ℕ). ways s.low s.high u m (empties p))
    (let e : s.images + empties p + (s.members - length p - 1) - s.members ≡ s.images - (length p + 1 - empties p) = omega arith in e)
    (let e : s.members - length p - 1 ≡ s.members - (length p + 1) = omega arith in e)
    ∙ unused_image s p i h ok new

pub empty_counted : (s : Space) (p : List (Option ℕ)) → IsStart s p → length p < s.members →
    ways_on s (s.members - length p - 1) (empties p + 1) ≡ length (ends s (p ++ None ∷ []))
empty_counted s p h short =
    let r : empties p ≤ length p = room p in
    ap₂ (λ (u m : ℕ). ways s.low s.high u m (empties p + 1))
    (let e : s.images + (empties p + 1) + (s.members - length p - 1) - s.members ≡ s.images - (length p - empties p) = omega arith in e)
    (let e : s.members - length p - 1 ≡ s.members - (length p + 1) = omega arith in e)
    ∙ empty_place s p h
