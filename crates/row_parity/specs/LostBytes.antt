-- What the equations say of the bytes of missing cells.
use Rattle.std.specs.Prelude.{ℕ, ◌≡◌, ◌≢◌, ◌<◌, ◌≤◌, Bool, true, not, ◌||◌, bit_xor, List, length, count_by, All}
use Rattle.std.specs.List.{find, Contains}
use Rattle.std.specs.Option.{option_map}
use Rattle.std.specs.declared.option.Option.{Option}
use Rattle.std.specs.declared.option.Option.TheVariants.{None, Some}
use Rattle.lane_kernels.specs.Formulas.{weighed_sum}
use Rattle.raid_params.specs.declared.types.Cell.{Cell}
use Rattle.raid_params.specs.declared.types.Part.{Part}
use Rattle.raid_params.specs.declared.types.Part.TheVariants.{Block, P, Q}
use Rattle.raid_terms.specs.Parity.{filled, in_p, in_q, IsRow}
use Rattle.raid_terms.specs.Solving.{is_one_lost, is_q_lost, solves}

-- the part of the first missing cell
abbrev pub first_missing : List Cell → Option Part
first_missing cells = option_map (λ c. c.part) (find (λ c. c.missing) cells)

-- the missing cells are found by Q's equation too: all but one alone that is not Q
abbrev pub asks_q : List Cell → Bool
asks_q cells = not (is_one_lost cells) || is_q_lost cells

-- parts that may be missing together, if there is a second one
abbrev pub Apart : Part → Option Part → Type 0
Apart part None = Unit {0}
Apart P (Some P) = ⊥
Apart P (Some Q) = Unit {0}
Apart P (Some (Block k)) = Unit {0}
Apart Q (Some P) = Unit {0}
Apart Q (Some Q) = ⊥
Apart Q (Some (Block k)) = Unit {0}
Apart (Block k) (Some P) = Unit {0}
Apart (Block k) (Some Q) = Unit {0}
Apart (Block i) (Some (Block j)) = (i < 255) × (j < 255) × (i ≢ j)

-- byte x of one missing part, and y of another if there is one, are those by which the equations hold, where p and q
-- are the sums of what is known
abbrev pub Found : Part → Option Part → ℕ → ℕ → ℕ → ℕ → Type 0
Found P None x y p q = bit_xor p x ≡ 0
Found Q None x y p q = bit_xor q x ≡ 0
Found (Block k) None x y p q = bit_xor p x ≡ 0
Found part (Some other) x y p q = (bit_xor p (bit_xor (in_p part x) (in_p other y)) ≡ 0) × (bit_xor q (bit_xor (in_q part x) (in_q other y)) ≡ 0)

-- with these weights the sums of what is known give the byte
abbrev pub Finds : Part → Option Part → ℕ → ℕ → Type 0
Finds part other a b = (x y p q : ℕ) → x < 256 → y < 256 → p < 256 → q < 256 → Found part other x y p q → x ≡ weighed_sum a b p q

-- where cells are missing there is one way to fill the column by which the equations hold, and no other
abbrev pub EachLostColumnHasOneSolution : Type 0
EachLostColumnHasOneSolution = (cells : List Cell) (bytes : List ℕ) → IsRow cells → 1 ≤ count_by (λ c. c.missing) cells →
    length bytes ≡ length cells → All (λ b. b < 256) bytes →
    (column : List ℕ) × Contains (filled cells bytes) column × (solves cells column ≡ true)
    × ((other : List ℕ) → Contains (filled cells bytes) other → solves cells other ≡ true → other ≡ column)
