-- The table of a row: how the sector of each image depends on those of the images before it.
use Rattle.std.specs.Prelude.{ℕ, ◌≡◌, ◌≢◌, ◌<◌, Bool, true, false, List, [], length, slice_index, slice_index_or, replicate}
use Rattle.row_relations.specs.declared.standing.Standing.{Standing}
use Rattle.row_relations.specs.declared.standing.Standing.TheVariants.{Zero, Independent, Dependent}
use Rattle.row_relations.specs.declared.standing.TheConstants.{MOST_IMAGES}
use Rattle.row_relations.specs.Rows.{byte_of, weighed_byte, AreBytes, IsZeros}

-- a table as contracts see it: of each image how it stands, and the weights of the independent images whose sum it is, a byte
-- for each of 64 images. They are 0 unless it is dependent
pub record Table : Type 0 where
  pub standings : List Standing
  pub weights : List (List ℕ)

-- how image i stands
abbrev pub standing_of : Table → ℕ → Standing
standing_of table i = slice_index_or table.standings i Zero

abbrev pub weights_of : Table → ℕ → List ℕ
weights_of table i = slice_index_or table.weights i []

-- the weight of image j in the sum that image i is
abbrev pub weight_of : Table → ℕ → ℕ → ℕ
weight_of table i j = slice_index (weights_of table i) j

-- no weights: 64 bytes that are 0
unfoldable pub no_weights : List ℕ
no_weights = replicate MOST_IMAGES 0

-- weights of independent images before image i, and of no others
pub record WeighBefore (table : Table) (i : ℕ) (weights : List ℕ) : Type 0 where
  pub long : length weights ≡ MOST_IMAGES
  pub bytes : AreBytes weights
  pub before : (j : ℕ) → slice_index weights j ≢ 0 → j < i
  pub independent : (j : ℕ) → slice_index weights j ≢ 0 → standing_of table j ≡ Independent

-- the sector of image i is the sum of those before it, with these weights
abbrev pub IsSum : List ℕ → ℕ → List ℕ → Type 0
IsSum sectors i weights = (c : ℕ) → c < 512 → byte_of sectors i c ≡ weighed_byte i weights sectors c

-- image i stands so: its sector is zeros; or it is no sum of the independent images before it; or it is not zeros and is their
-- sum, with its weights
abbrev pub Stands : List ℕ → Table → ℕ → Standing → Type 0
Stands sectors table i Zero = IsZeros sectors i × (weights_of table i ≡ no_weights)
Stands sectors table i Independent =
    ((weights : List ℕ) → WeighBefore table i weights → IsSum sectors i weights → ⊥) × (weights_of table i ≡ no_weights)
Stands sectors table i Dependent =
    (IsZeros sectors i → ⊥) × WeighBefore table i (weights_of table i) × IsSum sectors i (weights_of table i)

-- the table of a row
pub record IsTable (images : ℕ) (sectors : List ℕ) (table : Table) : Type 0 where
  pub standings : length table.standings ≡ images
  pub weights : length table.weights ≡ images
  pub each : (i : ℕ) → i < images → Stands sectors table i (standing_of table i)

abbrev pub is_independent : Standing → Bool
is_independent Zero = false
is_independent Independent = true
is_independent Dependent = false
