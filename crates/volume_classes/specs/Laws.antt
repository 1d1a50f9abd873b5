-- What holds of the coefficients of all sets.
use Rattle.std.specs.Prelude.{ℕ, ◌≡◌, ◌≢◌, ◌+◌, ◌*◌, ◌<◌, ◌%◌, ◌↔◌, true, IsTrue, List, [], slice_index, slice_index_or}
use Rattle.std.specs.declared.option.Option.TheVariants.{None}
use Rattle.gf256.specs.Field.{product}
use Rattle.raid_params.specs.Size.{data_blocks, volume_sectors}
use Rattle.raid_params.specs.Validity.{first_fault, is_shaped, is_valid_head}
use Rattle.raid_params.specs.declared.types.Geometry.{Geometry}
use Rattle.raid_params.specs.declared.types.Head.{Head}
use Rattle.raid_terms.specs.Address.{home_item, home_row, home_sector}
use Rattle.raid_terms.specs.Exponent.{exponent_of}
use Rattle.raid_terms.specs.Role.{item_of, p_of, q_of}
use Rattle.raid_terms.specs.Volume.{volume}
use Rattle.volume_classes.specs.Alike.{AreAlike, AreImages}
use Rattle.volume_classes.specs.Coefficients.{HaveEqualCoefficients, coefficient, field_sum, period}

-- two rows have the same roles and exponents
pub record AreSameRows (head : Head) (row other : ℕ) : Type 0 where
  pub p : p_of head row ≡ p_of head other
  pub q : q_of head row ≡ q_of head other
  pub items : (item : ℕ) → item_of head row item ≡ item_of head other item
  pub exponents : (slot : ℕ) → exponent_of head row slot ≡ exponent_of head other slot

-- the roles and exponents of a row are those of its number modulo the period
abbrev pub RowsRepeat : Type 0
RowsRepeat = (head : Head) (row : ℕ) → IsTrue (is_valid_head head) → AreSameRows head row (row % period head)

-- a byte of the volume is the sum, over the images, of the coefficient of its item times the image's byte in the column
abbrev pub VolumesAreSums : Type 0
VolumesAreSums = (geo : Geometry) (images end : ℕ) (bytes : List (List ℕ)) (v x : ℕ) → first_fault geo images end ≡ None → AreImages images end bytes →
    v < volume_sectors geo.head end → x < 512 →
    slice_index (volume bytes geo end) (512 * v + x) ≡
    field_sum (λ image. product (coefficient geo (home_row geo.head v) (home_item geo.head v) image)
    (slice_index (slice_index_or bytes image []) (512 * (geo.head.offset + home_sector geo.head v) + x))) images

-- each item of a row has a coefficient that is not 0
abbrev pub EachItemIsWeighed : Type 0
EachItemIsWeighed = (geo : Geometry) (images row item : ℕ) → is_shaped geo images ≡ true → item < data_blocks geo.head →
    (image : ℕ) × (image < images) × (coefficient geo row item image ≢ 0)

-- sets that break no rule are alike exactly where they have equal coefficients
abbrev pub CoefficientsTell : Type 0
CoefficientsTell = (one other : Geometry) (images end : ℕ) → first_fault one images end ≡ None → first_fault other images end ≡ None →
    AreAlike one other images end ↔ HaveEqualCoefficients one other images end
