-- The one equation that decides a row, where there is one: the bytes of the images add up to 0, each by the factor of its image.
use Rattle.std.specs.Prelude.{ℕ, zero, suc, ◌≡◌, ◌<◌, ◌+◌, ◌*◌, bit_xor, List, length, slice_index, slice_index_or, IfSome}
use Rattle.std.specs.Bool.{Decides}
use Rattle.std.specs.declared.option.Option.{Option}
use Rattle.std.specs.declared.option.Option.TheVariants.{None, Some}
use Rattle.gf256.specs.Field.{product}
use Rattle.raid_params.specs.declared.limits.TheConstants.{MOST}
use Rattle.raid_params.specs.declared.types.Cell.{Cell}
use Rattle.raid_terms.specs.Parity.{in_p, in_q, is_sound}
use Rattle.row_parity.specs.Syndromes.{AreColumns, known_sum}
use Rattle.member_regions.specs.ImageSums.{room_byte}
use Rattle.member_regions.specs.Regions.{Room}
use Rattle.parity_scan.specs.ImageSums.{slots_column}
use Rattle.parity_scan.specs.declared.equations.Mix.{Mix}
use Rattle.parity_scan.specs.declared.known_rows.KnownRows.{KnownRows}

-- what the first n images give, each by its factor, adds up to this
unfoldable pub factor_sum : (ℕ → ℕ) → List ℕ → ℕ → ℕ
factor_sum f factors zero = 0
factor_sum f factors (suc n) = bit_xor (factor_sum f factors n) (product (slice_index factors n) (f n))

-- the sums of both equations over a column, each by its factor, add up to this
abbrev pub mixed_sum : Mix → List Cell → List ℕ → ℕ
mixed_sum mix cells bytes = bit_xor (product mix.p (known_sum in_p cells bytes)) (product mix.q (known_sum in_q cells bytes))

-- a row of these cells is sound just where that is 0 in each column
pub record MixDecides (cells : List Cell) (mix : Mix) : Type 0 where
  pub p : mix.p < 256
  pub q : mix.q < 256
  pub columns : (column : ℕ → List ℕ) → AreColumns cells column → Decides (is_sound cells column) ((x : ℕ) → x < 512 → mixed_sum mix cells (column x) ≡ 0)

-- the sectors number `place` of the images meet the equation with these factors
abbrev pub IsMet : Room → ℕ → List ℕ → Type 0
IsMet room place factors = (x : ℕ) → x < 512 → factor_sum (room_byte room (512 * place + x)) factors MOST ≡ 0

-- those of the images in the slots are bytes
abbrev pub AreBytesAt : Room → List (Option ℕ) → ℕ → Type 0
AreBytesAt room slots place =
    (slot image x : ℕ) → slot < length slots → slice_index_or slots slot None ≡ Some image → x < 512 → room_byte room (512 * place + x) image < 256

-- a row of these cells over these slots is sound just where the sectors meet the equation
abbrev pub DecideRow : List Cell → List (Option ℕ) → List ℕ → Type 0
DecideRow cells slots factors = (room : Room) (place : ℕ) → AreBytesAt room slots place → Decides (is_sound cells (slots_column room slots place)) (IsMet room place factors)

-- of each equation that is kept it is said whether the sectors of its place meet it
abbrev pub AreKnown : Room → KnownRows → Type 0
AreKnown room known = (place : ℕ) → IfSome (slice_index_or known.rows place None) (λ row. Decides row.is_sound (IsMet room place row.factors))
