-- How the table of a row comes to be: what is kept of the images that were looked at.
use Rattle.std.specs.Prelude.{ℕ, ◌≡◌, ◌≢◌, ◌<◌, List, All, bit_xor, length, slice_index, slice_index_or, slice_set}
use Rattle.row_relations.specs.declared.combination.Combination.{Combination}
use Rattle.row_relations.specs.declared.standing.Standing.{Standing}
use Rattle.row_relations.specs.declared.standing.Standing.TheVariants.{Independent}
use Rattle.row_relations.specs.Rows.{byte_of, combined, weighed_byte}
use Rattle.row_relations.specs.Tables.{Table, standing_of, Stands, WeighBefore}

-- weights of independent images among the first n, and of no others
pub record Over (table : Table) (n : ℕ) (weight : ℕ → ℕ) : Type 0 where
  pub bytes : (j : ℕ) → weight j < 256
  pub below : (j : ℕ) → weight j ≢ 0 → j < n
  pub independent : (j : ℕ) → weight j ≢ 0 → standing_of table j ≡ Independent

-- a combination is the sum of independent images among the first n with its weights, and its byte at its pivot is 1
pub record IsKept (sectors : List ℕ) (table : Table) (n : ℕ) (x : Combination) : Type 0 where
  pub weigh : WeighBefore table n x.weights
  pub sum : (c : ℕ) → c < 512 → slice_index x.sector c ≡ weighed_byte n x.weights sectors c
  pub pivot : x.pivot < 512
  pub one : slice_index x.sector x.pivot ≡ 1

-- a combination is the sector of image n plus the sum of independent images before it with its weights
pub record IsRest (sectors : List ℕ) (table : Table) (n : ℕ) (x : Combination) : Type 0 where
  pub weigh : WeighBefore table n x.weights
  pub sum : (c : ℕ) → c < 512 → slice_index x.sector c ≡ bit_xor (byte_of sectors n c) (weighed_byte n x.weights sectors c)

-- a list of bytes is 0 at the pivots of what is kept
abbrev pub VanishAt : List Combination → (ℕ → ℕ) → Type 0
VanishAt kept f = All (λ (x : Combination). f x.pivot ≡ 0) kept

-- each that is kept is 0 at the pivots of those before it
abbrev pub AreCleared : List Combination → Type 0
AreCleared kept = (j k : ℕ) (d : Combination) → j < k → k < length kept → slice_index (slice_index_or kept k d).sector (slice_index_or kept j d).pivot ≡ 0

-- the first n images stand as the table says, and what is kept tells which sums of them are zeros: weights of independent ones
-- whose sum vanishes at each pivot are 0
pub record IsStage (sectors : List ℕ) (table : Table) (n : ℕ) (kept : List Combination) : Type 0 where
  pub each : (j : ℕ) → j < n → Stands sectors table j (standing_of table j)
  pub combinations : All (IsKept sectors table n) kept
  pub cleared : AreCleared kept
  pub apart : (w : ℕ → ℕ) → Over table n w → VanishAt kept (combined n w sectors) → (j : ℕ) → w j ≡ 0

-- the table with image n standing so
abbrev pub with_image : Table → ℕ → Standing → List ℕ → Table
with_image table n standing weights = record { standings = slice_set table.standings n standing; weights = slice_set table.weights n weights }
