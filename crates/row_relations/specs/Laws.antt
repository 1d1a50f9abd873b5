-- Laws of tables.
use Rattle.std.specs.Prelude.{ℕ, ◌≡◌, ◌<◌, ◌≤◌, ◌↔◌, List, length, slice_index}
use Rattle.gf256.specs.Field.{product}
use Rattle.row_relations.specs.declared.standing.Standing.TheVariants.{Independent}
use Rattle.row_relations.specs.declared.standing.TheConstants.{MOST_IMAGES}
use Rattle.row_relations.specs.Rows.{field_sum, AreBytes, IsRelation}
use Rattle.row_relations.specs.Tables.{Table, standing_of, weight_of, IsTable}

-- The tie of a dependent image d is the relation that has 1 at d and the weights of d at the independent images. What is here is
-- the weight of an image i in the sum of the ties of the first n images, each times its weight v d.
abbrev pub tied_weight : Table → ℕ → List ℕ → ℕ → ℕ
tied_weight table n v i = field_sum n (λ d. product (slice_index v d) (weight_of table d i))

-- a list of a byte for each image has at each independent image the weight that the sum of the ties has, each times the weight of
-- its dependent image. At zero images it may have any weight
pub record IsSumOfTies (images : ℕ) (table : Table) (v : List ℕ) : Type 0 where
  pub long : length v ≡ images
  pub bytes : AreBytes v
  pub independent : (i : ℕ) → i < images → standing_of table i ≡ Independent → slice_index v i ≡ tied_weight table images v i

-- the relations of a row are the sums of multiples of the ties of its table
abbrev pub RelationsAreSumsOfTies : Type 0
RelationsAreSumsOfTies = (images : ℕ) (sectors : List ℕ) (table : Table) (v : List ℕ) → images ≤ MOST_IMAGES → AreBytes sectors →
    IsTable images sectors table → (IsRelation images sectors v ↔ IsSumOfTies images table v)

-- a row has one table
abbrev pub RowsHaveOneTable : Type 0
RowsHaveOneTable = (images : ℕ) (sectors : List ℕ) (table other : Table) → images ≤ MOST_IMAGES → AreBytes sectors →
    IsTable images sectors table → IsTable images sectors other → table ≡ other
