-- What the exclusive or of the sectors of all images at a place is, where each image has a region.
use Rattle.std.specs.Prelude.{ℕ, ◌≡◌, ◌<◌, ◌+◌, ◌*◌, false, bit_xor, List, [], ◌∷◌, map, slice_index, slice_index_or}
use Rattle.std.specs.Bool.{Decides}
use Rattle.std.specs.List.{range_with_len}
use Rattle.member_regions.specs.Regions.{Room}
use Rattle.member_regions.specs.declared.image_sums.ImageSum.{ImageSum}

-- the exclusive or of numbers
unfoldable pub xor_all : List ℕ → ℕ
xor_all [] = 0
xor_all (x ∷ xs) = bit_xor x (xor_all xs)

-- that of what the first n images give
abbrev pub all_sum : (ℕ → ℕ) → ℕ → ℕ
all_sum f n = xor_all (map f (range_with_len 0 n))

-- byte y of the region of an image
abbrev pub room_byte : Room → ℕ → ℕ → ℕ
room_byte room y image = slice_index room.bytes (room.stride * image + y)

-- the exclusive or of the sectors number `place` of the first n regions, byte x
abbrev pub sum_byte : Room → ℕ → ℕ → ℕ → ℕ
sum_byte room n place x = all_sum (room_byte room (512 * place + x)) n

-- the sectors number `place` of the first n regions are zeros
abbrev pub IsBlankAt : Room → ℕ → ℕ → Type 0
IsBlankAt room n place = (image x : ℕ) → image < n → x < 512 → room_byte room (512 * place + x) image ≡ 0

-- these sectors are bytes, and it is said of them just where it is so: that their exclusive or is zeros, that all of
-- them are, and that it is the sector of an image
pub record IsImageSum (room : Room) (n place : ℕ) (sum : ImageSum) : Type 0 where
  pub bytes : (image x : ℕ) → image < n → x < 512 → room_byte room (512 * place + x) image < 256
  pub zero : Decides sum.is_zero ((x : ℕ) → x < 512 → sum_byte room n place x ≡ 0)
  pub blank : Decides sum.is_blank (IsBlankAt room n place)
  pub image : (image : ℕ) → image < n → Decides (slice_index_or sum.is_image image false) ((x : ℕ) → x < 512 → sum_byte room n place x ≡ room_byte room (512 * place + x) image)

-- so it is at each of the first places
abbrev pub SumImages : Room → ℕ → ℕ → List ImageSum → Type 0
SumImages room n places sums = (place : ℕ) (d : ImageSum) → place < places → IsImageSum room n place (slice_index_or sums place d)
