-- What the cells that are there add up to, and when that cancels.
use Rattle.std.specs.Prelude.{ℕ, ◌≡◌, ◌<◌, true, if◌then◌else◌, List, [], ◌∷◌, length, bit_xor, slice_index}
use Rattle.std.specs.List.{AllByRecursion}
use Rattle.gf256.specs.Field.{product, power_of}
use Rattle.raid_params.specs.declared.types.Cell.{Cell}
use Rattle.raid_params.specs.declared.types.Part.{Part}
use Rattle.raid_terms.specs.Parity.{has_q, in_p, in_q}

-- what a byte adds: nothing where its member is missing
abbrev pub known_in : (Part → ℕ → ℕ) → Cell → ℕ → ℕ
known_in adds cell byte = if cell.missing then 0 else adds cell.part byte

-- the sum of what the bytes of a column add at the cells that are there
unfoldable pub known_sum : (Part → ℕ → ℕ) → List Cell → List ℕ → ℕ
known_sum adds [] bytes = 0
known_sum adds (cell ∷ cells) [] = 0
known_sum adds (cell ∷ cells) (byte ∷ bytes) = bit_xor (known_in adds cell byte) (known_sum adds cells bytes)

-- columns of bytes, with one for each cell
abbrev pub AreColumns : List Cell → (ℕ → List ℕ) → Type 0
AreColumns cells column = (x : ℕ) → (length (column x) ≡ length cells) × AllByRecursion (λ b. b < 256) (column x)

-- the sum of column x
abbrev pub sum_at : (Part → ℕ → ℕ) → List Cell → (ℕ → List ℕ) → ℕ → ℕ
sum_at adds cells column x = known_sum adds cells (column x)

-- the sums of the 512 columns
pub record IsSyndrome (adds : Part → ℕ → ℕ) (cells : List Cell) (column : ℕ → List ℕ) (sums : List ℕ) : Type 0 where
  pub long : length sums ≡ 512
  pub bytes : (x : ℕ) → x < 512 → slice_index sums x ≡ sum_at adds cells column x

-- each column cancels
abbrev pub Cancel : (Part → ℕ → ℕ) → List Cell → (ℕ → List ℕ) → Type 0
Cancel adds cells column = (x : ℕ) → x < 512 → sum_at adds cells column x ≡ 0

-- each column cancels, by P's equation and by Q's where there is a Q
abbrev pub AllCancel : List Cell → (ℕ → List ℕ) → Type 0
AllCancel cells column = Cancel in_p cells column × (has_q cells ≡ true → Cancel in_q cells column)

-- each column cancels once the one lost data block, of this exponent, is what P's equation gives
abbrev pub CancelByP : ℕ → List Cell → (ℕ → List ℕ) → Type 0
CancelByP k cells column = (x : ℕ) → x < 512 → bit_xor (sum_at in_q cells column x) (product (power_of k) (sum_at in_p cells column x)) ≡ 0
