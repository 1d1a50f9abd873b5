-- Sets of images, and into which sets the ties of a row connect its images.
use Rattle.std.specs.Prelude.{ℕ, zero, suc, ◌-◌, ◌^◌, ◌==◌, ◌||◌, Bool, true, false, not, List, [], ◌∷◌, ◌++◌, bit_and, bit_or, if◌then◌else◌, length}
use Rattle.std.specs.List.{filter, fold}
use Rattle.row_relations.specs.Tables.{Table, standing_of, weight_of}
use Rattle.row_relations.specs.declared.standing.Standing.{Standing}
use Rattle.row_relations.specs.declared.standing.Standing.TheVariants.{Zero, Independent, Dependent}

-- a set of images is a number: image i is its bit 2^(63 - i). So of two sets that is the greater one which has the first image
-- that is in one of them alone
abbrev pub image_bit : ℕ → ℕ
image_bit image = 2 ^ (63 - image)

abbrev pub is_in : ℕ → ℕ → Bool
is_in set image = not (bit_and set (image_bit image) == 0)

-- those of the first n images that a test holds of
abbrev pub images_below : (ℕ → Bool) → ℕ → List ℕ
images_below test zero = []
images_below test (suc n) = if test n then images_below test n ++ n ∷ [] else images_below test n

-- the images of a set
unfoldable pub images_in : ℕ → List ℕ
images_in set = images_below (is_in set) 64

-- the same as a set
abbrev pub set_where : ℕ → (ℕ → Bool) → ℕ
set_where zero test = 0
set_where (suc n) test = if test n then bit_or (set_where n test) (image_bit n) else set_where n test

abbrev pub is_zero : Standing → Bool
is_zero Zero = true
is_zero Independent = false
is_zero Dependent = false

abbrev pub is_dependent : Standing → Bool
is_dependent Zero = false
is_dependent Independent = false
is_dependent Dependent = true

-- an image, and those whose sum it is
abbrev pub tie_of : Table → ℕ → ℕ
tie_of table image = set_where (length table.standings) (λ other. (other == image) || not (weight_of table image other == 0))

-- all parts that a tie meets, and the tie, become one part
abbrev pub join : List ℕ → ℕ → List ℕ
join parts tie = filter (λ part. bit_and part tie == 0) parts ++ fold bit_or tie (filter (λ part. not (bit_and part tie == 0)) parts) ∷ []

-- the parts into which the ties of the first n images connect the images of a row
abbrev pub parts_below : Table → ℕ → List ℕ
parts_below table zero = []
parts_below table (suc n) = if is_dependent (standing_of table n) then join (parts_below table n) (tie_of table n) else parts_below table n

abbrev pub parts_of : Table → List ℕ
parts_of table = parts_below table (length table.standings)
