-- Where the cells of a row stand that are there: each data cell by its exponent, P and Q.
use Rattle.std.specs.Prelude.{ℕ, ◌≡◌, ◌≢◌, ◌<◌, ◌≤◌, Bool, true, false, not, ◌&&◌, ◌==◌, ◌-◌, zero, suc, bit_xor, IfSome, List, slice_index_or}
use Rattle.std.specs.declared.option.Option.{Option}
use Rattle.std.specs.declared.option.Option.TheVariants.{None, Some}
use Rattle.raid_params.specs.declared.types.Cell.{Cell}
use Rattle.raid_params.specs.declared.types.Part.{Part}
use Rattle.raid_params.specs.declared.types.Part.TheVariants.{Block, P, Q}
use Rattle.raid_terms.specs.Parity.{is_p, is_q}
use Rattle.row_parity.specs.declared.known.Known.{Known}

abbrev pub is_block : ℕ → Part → Bool
is_block k (Block e) = e == k
is_block k P = false
is_block k Q = false

-- the cell is there, and is data of this exponent, P or Q
abbrev pub known_block : ℕ → Cell → Bool
known_block k cell = not cell.missing && is_block k cell.part

abbrev pub known_p : Cell → Bool
known_p cell = not cell.missing && is_p cell.part

abbrev pub known_q : Cell → Bool
known_q cell = not cell.missing && is_q cell.part

-- what stands where there is no cell
abbrev pub no_cell : Cell
no_cell = record { part = Block 0; missing = false }

-- of the first n cells the one at this place alone passes the test, or none does
abbrev pub IsPlaceOf : (Cell → Bool) → List Cell → ℕ → Option ℕ → Type 0
IsPlaceOf test cells n None = (i : ℕ) → i < n → test (slice_index_or cells i no_cell) ≡ false
IsPlaceOf test cells n (Some place) = (place < n) × (test (slice_index_or cells place no_cell) ≡ true)
    × ((i : ℕ) → i < n → i ≢ place → test (slice_index_or cells i no_cell) ≡ false)

-- so it is for each part, and no exponent reaches to the end
pub record ArePlaces (cells : List Cell) (n : ℕ) (known : Known) : Type 0 where
  pub data_at : (k : ℕ) → k < 256 → IsPlaceOf (known_block k) cells n (slice_index_or known.data_places k None)
  pub above : (k : ℕ) → known.end ≤ k → k < 256 → slice_index_or known.data_places k None ≡ None
  pub end_at : known.end ≤ 256
  pub p_at : IsPlaceOf known_p cells n known.p
  pub q_at : IsPlaceOf known_q cells n known.q

-- the places are below `members`
pub record ArePlaced (members : ℕ) (known : Known) : Type 0 where
  pub data_at : (k : ℕ) → k < 256 → IfSome (slice_index_or known.data_places k None) (λ place. place < members)
  pub end_at : known.end ≤ 256
  pub p_at : IfSome known.p (λ place. place < members)
  pub q_at : IfSome known.q (λ place. place < members)

-- the byte of a place, and 0 where there is none
abbrev pub byte_of : Option ℕ → (ℕ → ℕ) → ℕ
byte_of None f = 0
byte_of (Some place) f = f place

abbrev pub same : ℕ → ℕ
same b = b

-- a sum in falling order of exponents, of which m were met: a step d, and the byte of the next lower exponent
unfoldable pub falling : (ℕ → ℕ) → List (Option ℕ) → ℕ → ℕ → (ℕ → ℕ) → ℕ
falling d places end zero f = 0
falling d places end (suc m) f = bit_xor (d (falling d places end m f)) (byte_of (slice_index_or places (end - suc m) None) f)
