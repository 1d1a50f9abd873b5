-- The ties of a row by numbers of their own.
use Rattle.std.specs.Prelude.{ℕ, zero, suc, ◌≡◌, ◌≢◌, ◌<◌, ◌≤◌, ◌*◌, ◌==◌, nat_lt, Bool, true, false, not, if◌then◌else◌, List, [], ◌∷◌, ◌++◌, count_by, length, slice_index, slice_index_or, take}
use Rattle.std.specs.List.{list_all}
use Rattle.std.specs.declared.option.Option.{Option}
use Rattle.std.specs.declared.option.Option.TheVariants.{None, Some}
use Rattle.raid_params.specs.declared.types.Head.{Head}
use Rattle.row_relations.specs.declared.standing.TheConstants.{MOST_IMAGES}
use Rattle.row_relations.specs.declared.standing.Standing.{Standing}
use Rattle.row_relations.specs.declared.standing.Standing.TheVariants.{Zero, Independent, Dependent}
use Rattle.row_relations.specs.Laws.{IsSumOfTies}
use Rattle.row_relations.specs.Rows.{AreBytes}
use Rattle.row_relations.specs.Tables.{Table, standing_of, weight_of, IsTable}
use Rattle.relation_prefix.specs.declared.condition.TheConstants.{MOST_TIES}
use Rattle.relation_prefix.specs.declared.row_ties.RowTies.{RowTies}
use Rattle.relation_prefix.specs.declared.equation.Equation.{Equation}
use Rattle.relation_prefix.specs.Equations.{slot_weight}
use Rattle.relation_prefix.specs.Prefixes.{Holds, IsForeign}
use Rattle.relation_prefix.specs.Systems.{sum_at, AreValues}

abbrev pub is_zero : Standing → Bool
is_zero Zero = true
is_zero Independent = false
is_zero Dependent = false

abbrev pub is_dependent : Standing → Bool
is_dependent Zero = false
is_dependent Independent = false
is_dependent Dependent = true

-- the dependent images among the first n, in order
unfoldable pub dependents : Table → ℕ → List ℕ
dependents table zero = []
dependents table (suc n) = dependents table n ++ (if is_dependent (standing_of table n) then n ∷ [] else [])

-- the weight of an image in the tie of a dependent one: that of another dependent image is 0
abbrev pub coefficient : Table → ℕ → ℕ → ℕ
coefficient table dependent i = if dependent == i then 1 else if is_dependent (standing_of table i) then 0 else weight_of table dependent i

-- the coefficients of an image
abbrev pub coefficients_of : RowTies → ℕ → List ℕ
coefficients_of ties i = slice_index_or ties.coefficients i []

-- the weights of the images that are not zero are the sums of the weights x of the ties
abbrev pub FollowTies : RowTies → ℕ → List ℕ → (ℕ → ℕ) → Type 0
FollowTies ties images v x = (i : ℕ) → i < images → slice_index_or ties.zeros i false ≡ false → slice_index v i ≡ sum_at (coefficients_of ties i) x

-- the coefficients of an image are those in the ties of these dependent images
pub record HasCoefficients (table : Table) (list coefficients : List ℕ) (i : ℕ) : Type 0 where
  pub at : (t : ℕ) → t < length list → slice_index coefficients t ≡ coefficient table (slice_index list t) i
  pub past : (t : ℕ) → length list ≤ t → slice_index coefficients t ≡ 0
  pub bytes : AreBytes coefficients

-- ties of a table, by which the relations of its row are told
pub record AreTiesOf (table : Table) (ties : RowTies) : Type 0 where
  pub images : ties.images ≡ length table.standings
  pub bytes : (i : ℕ) → i < ties.images → AreBytes (coefficients_of ties i)
  pub gives : (sectors v : List ℕ) → IsTable ties.images sectors table → IsSumOfTies ties.images table v → (x : ℕ → ℕ) × AreValues x × FollowTies ties ties.images v x
  pub takes : (sectors v : List ℕ) (x : ℕ → ℕ) → IsTable ties.images sectors table → length v ≡ ties.images → AreBytes v → AreValues x → FollowTies ties ties.images v x → IsSumOfTies ties.images table v

-- the ties have values with which an image has a weight: an image of zeros has any
abbrev pub HasWeight : RowTies → (ℕ → ℕ) → ℕ → ℕ → Type 0
HasWeight ties x image weight = slice_index_or ties.zeros image false ≡ false → sum_at (coefficients_of ties image) x ≡ weight

-- each image in the first slots has the weight of its slot
abbrev pub HaveWeights : RowTies → (ℕ → ℕ) → List ℕ → List (Option ℕ) → ℕ → Type 0
HaveWeights ties x weights slots n = (slot image : ℕ) → slot < n → slice_index_or slots slot None ≡ Some image → HasWeight ties x image (slice_index weights slot)

-- each of the first images that is in no slot has the weight 0
abbrev pub ForeignHaveNone : RowTies → (ℕ → ℕ) → List (Option ℕ) → ℕ → Type 0
ForeignHaveNone ties x slots n = (image : ℕ) → image < n → IsForeign slots image → HasWeight ties x image 0

-- the dependent image of a tie is not zeros, and in no other tie
pub record IsOwnDependent (ties : RowTies) (t image : ℕ) : Type 0 where
  pub there : image < ties.images
  pub some : slice_index_or ties.zeros image false ≡ false
  pub own : slice_index (coefficients_of ties image) t ≡ 1
  pub others : (u : ℕ) → u ≢ t → slice_index (coefficients_of ties image) u ≡ 0

-- the row has more independent images than ties
abbrev pub tells_much : RowTies → Bool
tells_much ties = nat_lt (2 * ties.count) (count_by not (take ties.images ties.zeros))

-- it is zeros
abbrev pub is_blank : RowTies → Bool
is_blank ties = list_all (λ zero. zero) (take ties.images ties.zeros)

-- ties over up to 64 images with coefficients that are bytes, each with a dependent image of its own
pub record FitTies (ties : RowTies) : Type 0 where
  pub count : ties.count ≤ MOST_TIES
  pub dependents : (t : ℕ) → t < ties.count → IsOwnDependent ties t (slice_index ties.dependents t)
  pub past : (i t : ℕ) → i < ties.images → ties.count ≤ t → slice_index (coefficients_of ties i) t ≡ 0
  pub few : ties.images ≤ MOST_IMAGES
  pub zeros : length ties.zeros ≡ MOST_IMAGES
  pub coefficients : length ties.coefficients ≡ MOST_IMAGES
  pub bytes : (i : ℕ) → i < ties.images → AreBytes (coefficients_of ties i)

-- each slot holds an image that is there, or none, and no image is in two
pub record AreSlots (images : ℕ) (slots : List (Option ℕ)) : Type 0 where
  pub there : (slot image : ℕ) → Holds slots slot image → image < images
  pub once : (slot other image : ℕ) → Holds slots slot image → Holds slots other image → slot ≡ other

-- the weights of the first n slots in an equation of a row of chunks
abbrev pub AreWeightsOf : Head → ℕ → Equation → ℕ → List ℕ → Type 0
AreWeightsOf head row equation n weights = (slot : ℕ) → slot < n → slice_index weights slot ≡ slot_weight head row equation slot

-- the image that a slot holds is there
abbrev pub AreThere : ℕ → List (Option ℕ) → Type 0
AreThere images slots = (slot image : ℕ) → Holds slots slot image → image < images

-- with these values of the ties each image in a slot has the weight of its slot, and once there are all slots each other image 0
pub record HaveAll (ties : RowTies) (weights : List ℕ) (members : ℕ) (slots : List (Option ℕ)) (x : ℕ → ℕ) : Type 0 where
  pub bytes : AreValues x
  pub held : HaveWeights ties x weights slots (length slots)
  pub foreign : length slots ≡ members → ForeignHaveNone ties x slots ties.images

-- the ties have such values
abbrev pub CanHaveAll : RowTies → List ℕ → ℕ → List (Option ℕ) → Type 0
CanHaveAll ties weights members slots = (x : ℕ → ℕ) × HaveAll ties weights members slots x
