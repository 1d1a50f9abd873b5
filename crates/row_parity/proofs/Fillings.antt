-- The ways to fill a column, by the bytes that they put at its missing cells.
use Rattle.std.proofs.Common.{ℕ, ◌≡◌, ◌<◌, inl, inr, Bool, true, false, cond, List, [], ◌∷◌, map, length, get_or, drop, refl, sym, ap, ap₂, ◌∙◌, arith}
use Rattle.std.specs.List.{flat_map, range_with_len}
use Rattle.raid_params.specs.declared.types.Cell.{Cell}
use Rattle.raid_params.specs.declared.types.Part.{Part}
use Rattle.raid_terms.specs.Parity.{filled}
use Rattle.row_parity.proofs.Members.{In, In-map, from-map, In-flat_map, from-flat_map, In-range, from-range}

-- the parts of the missing cells, in order
abbrev pub lost : List Cell → List Part
lost [] = []
lost (cell ∷ cells) = cond cell.missing (cell.part ∷ lost cells) (lost cells)

-- a column with these bytes at its missing cells
abbrev pub put : List Cell → List ℕ → List ℕ → List ℕ
put [] bytes xs = []
put (cell ∷ cells) [] xs = []
put (cell ∷ cells) (byte ∷ bytes) xs = cond cell.missing (get_or xs 0 0 ∷ put cells bytes (drop 1 xs)) (byte ∷ put cells bytes xs)

-- a byte for each part
abbrev pub AreBytes : List Part → List ℕ → Type 0
AreBytes [] [] = Unit {0}
AreBytes [] (x ∷ xs) = ⊥
AreBytes (part ∷ parts) [] = ⊥
AreBytes (part ∷ parts) (x ∷ xs) = (x < 256) × AreBytes parts xs

chosen : (t : Bool) (part : Part) (cells : List Cell) (bytes : List ℕ) (n byte b : ℕ) (rest xs column : List ℕ) → n ≡ 256 →
    In (cond t (range_with_len 0 n) (byte ∷ [])) b → AreBytes (lost cells) xs → rest ≡ put cells bytes xs → b ∷ rest ≡ column →
    (ys : List ℕ) × AreBytes (cond t (part ∷ lost cells) (lost cells)) ys × (column ≡ cond t (get_or ys 0 0 ∷ put cells bytes (drop 1 ys)) (byte ∷ put cells bytes ys))
chosen true part cells bytes n byte b rest xs column e i fit same whole = (b ∷ xs, (let h = from-range 0 n b i in omega arith, fit), sym whole ∙ ap (λ r. b ∷ r) same)
chosen false part cells bytes n byte b rest xs column e (inl is) fit same whole = (xs, fit, sym whole ∙ ap₂ (λ h r. h ∷ r) (sym is) same)
chosen false part cells bytes n byte b rest xs column e (inr none) fit same whole = absurd none

from_cell : (t : Bool) (part : Part) (cells : List Cell) (bytes : List ℕ) (n byte : ℕ) (column : List ℕ) → n ≡ 256 →
    ((rest : List ℕ) → In (filled cells bytes) rest → (xs : List ℕ) × AreBytes (lost cells) xs × (rest ≡ put cells bytes xs)) →
    In (flat_map (λ b. map (λ rest. b ∷ rest) (filled cells bytes)) (cond t (range_with_len 0 n) (byte ∷ []))) column →
    (ys : List ℕ) × AreBytes (cond t (part ∷ lost cells) (lost cells)) ys × (column ≡ cond t (get_or ys 0 0 ∷ put cells bytes (drop 1 ys)) (byte ∷ put cells bytes ys))
from_cell t part cells bytes n byte column e next i =
    let f = from-flat_map (λ b. map (λ rest. b ∷ rest) (filled cells bytes)) (cond t (range_with_len 0 n) (byte ∷ [])) column i in
    let m = from-map (λ rest. f.0 ∷ rest) (filled cells bytes) column f.2 in
    let r = next m.0 m.1 in
    chosen t part cells bytes n byte f.0 m.0 r.0 column e f.1 r.1 r.2 m.2

-- a filled column has bytes at its missing cells
pub from_filled : (cells : List Cell) (bytes column : List ℕ) → length bytes ≡ length cells → In (filled cells bytes) column →
    (xs : List ℕ) × AreBytes (lost cells) xs × (column ≡ put cells bytes xs)
unfolding filled
from_filled [] bytes column e (inl is) = ([], tt, sym is)
from_filled [] bytes column e (inr none) = absurd none
from_filled (cell ∷ cells) [] column e i = absurd i
from_filled (cell ∷ cells) (byte ∷ bytes) column e i =
    from_cell cell.missing cell.part cells bytes 256 byte column refl (λ rest j. from_filled cells bytes rest (omega arith) j) i

put_step : (t : Bool) (part : Part) (cells : List Cell) (bytes xs : List ℕ) (n byte : ℕ) → n ≡ 256 → AreBytes (cond t (part ∷ lost cells) (lost cells)) xs →
    ((ys : List ℕ) → AreBytes (lost cells) ys → In (filled cells bytes) (put cells bytes ys)) →
    In (flat_map (λ b. map (λ rest. b ∷ rest) (filled cells bytes)) (cond t (range_with_len 0 n) (byte ∷ []))) (cond t (get_or xs 0 0 ∷ put cells bytes (drop 1 xs)) (byte ∷ put cells bytes xs))
put_step true part cells bytes [] n byte e fit next = absurd fit
put_step true part cells bytes (x ∷ xs) n byte e fit next =
    In-flat_map (λ b. map (λ rest. b ∷ rest) (filled cells bytes)) (range_with_len 0 n) x (x ∷ put cells bytes xs)
    (In-range 0 n x (omega arith) (let h = fit.0 in omega arith)) (In-map (λ rest. x ∷ rest) (filled cells bytes) (put cells bytes xs) (next xs fit.1))
put_step false part cells bytes xs n byte e fit next =
    In-flat_map (λ b. map (λ rest. b ∷ rest) (filled cells bytes)) (byte ∷ []) byte (byte ∷ put cells bytes xs)
    (inl refl) (In-map (λ rest. byte ∷ rest) (filled cells bytes) (put cells bytes xs) (next xs fit))

-- and every such column is among the filled
pub put_in_filled : (cells : List Cell) (bytes xs : List ℕ) → length bytes ≡ length cells → AreBytes (lost cells) xs → In (filled cells bytes) (put cells bytes xs)
unfolding filled
put_in_filled [] bytes xs e fit = inl refl
put_in_filled (cell ∷ cells) [] xs e fit = absurd (omega arith)
put_in_filled (cell ∷ cells) (byte ∷ bytes) xs e fit =
    put_step cell.missing cell.part cells bytes xs 256 byte refl fit (λ ys. put_in_filled cells bytes ys (omega arith))
