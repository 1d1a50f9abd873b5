-- Rows that are sound whatever their bytes.
use Rattle.std.specs.Prelude.{ℕ, ◌≡◌, false, true, not, List, length, count_by}
use Rattle.raid_params.specs.declared.types.Cell.{Cell}
use Rattle.raid_terms.specs.Parity.{has_p, has_q, is_data, is_sound, IsRow}
use Rattle.row_parity.specs.Syndromes.{AreColumns}

-- a row that has no parity block is sound
abbrev pub NoParityIsSound : Type 0
NoParityIsSound = (cells : List Cell) (column : ℕ → List ℕ) → has_p cells ≡ false → has_q cells ≡ false →
    ((x : ℕ) → length (column x) ≡ length cells) → is_sound cells column ≡ true

-- a row is sound where as many of its cells are missing as hold parity
abbrev pub FullRowIsSound : Type 0
FullRowIsSound = (cells : List Cell) (column : ℕ → List ℕ) → IsRow cells → AreColumns cells column →
    count_by (λ c. c.missing) cells ≡ count_by (λ c. not (is_data c.part)) cells → is_sound cells column ≡ true
