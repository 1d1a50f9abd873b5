-- P's test of the rows of a run, by the exclusive or of the sectors of all images.
use Rattle.std.specs.Prelude.{ℕ, zero, suc, ◌≡◌, ◌<◌, ◌≤◌, ◌+◌, ◌*◌, Bool, true, false, bit_xor, if◌then◌else◌, List, map, slice_index_or, IsSomeAnd, All}
use Rattle.std.specs.declared.option.Option.{Option}
use Rattle.std.specs.declared.option.Option.TheVariants.{None, Some}
use Rattle.member_regions.specs.declared.regions.TheConstants.{BLOCK}
use Rattle.raid_params.specs.declared.limits.TheConstants.{MOST}
use Rattle.raid_params.specs.declared.types.Cell.{Cell}
use Rattle.raid_terms.specs.Parity.{has_p, in_p}
use Rattle.row_parity.specs.LostBytes.{first_missing}
use Rattle.row_parity.specs.Syndromes.{known_sum}
use Rattle.member_regions.specs.ImageSums.{all_sum, room_byte, SumImages}
use Rattle.member_regions.specs.Regions.{Room}
use Rattle.parity_scan.specs.declared.image_sums.ImageSums.{ImageSums}
use Rattle.parity_scan.specs.declared.left_out.LeftOut.{LeftOut}
use Rattle.parity_scan.specs.declared.left_out.LeftOut.TheVariants.{Nobody, One}

-- the exclusive or of what those of the first n images give that are marked
unfoldable pub marked_sum : (ℕ → ℕ) → List Bool → ℕ → ℕ
marked_sum f marks zero = 0
marked_sum f marks (suc n) = bit_xor (marked_sum f marks n) (if slice_index_or marks n false then f n else 0)

-- what a slot gives: what its image does
abbrev pub held_byte : (ℕ → ℕ) → Option ℕ → ℕ
held_byte f None = 0
held_byte f (Some image) = f image

-- column x of the sectors number `place` of the images in the slots
abbrev pub slots_column : Room → List (Option ℕ) → ℕ → ℕ → List ℕ
slots_column room slots place x = map (held_byte (room_byte room (512 * place + x))) slots

-- at the first `places` places it is known what the exclusive or of the first `images` images is
pub record AreImageSums (room : Room) (known : ImageSums) : Type 0 where
  pub few : known.images ≤ MOST
  pub short : known.places ≤ BLOCK
  pub each : SumImages room known.images known.places known.sums

-- P's equation adds up the images that are left where this one is left out, or none
abbrev pub AddsAllBut : List Cell → List (Option ℕ) → ℕ → LeftOut → Type 0
AddsAllBut cells slots n Nobody = (f : ℕ → ℕ) → known_sum in_p cells (map (held_byte f) slots) ≡ all_sum f n
AddsAllBut cells slots n (One image) = (image < n) × ((f : ℕ → ℕ) → known_sum in_p cells (map (held_byte f) slots) ≡ bit_xor (all_sum f n) (f image))

-- the images that are marked, of the first n, are all but this one, or all
abbrev pub IsUnmarked : List Bool → ℕ → LeftOut → Type 0
IsUnmarked marks n Nobody = (f : ℕ → ℕ) → marked_sum f marks n ≡ all_sum f n
IsUnmarked marks n (One image) = (image < n) × ((f : ℕ → ℕ) → marked_sum f marks n ≡ bit_xor (all_sum f n) (f image))

-- a row with P, in which no cell is missing, over images of which there are n
pub record IsWhole (cells : List Cell) (slots : List (Option ℕ)) (n : ℕ) : Type 0 where
  pub p : has_p cells ≡ true
  pub there : first_missing cells ≡ None
  pub held : All (λ slot. IsSomeAnd slot (λ image. image < n)) slots
