-- A row is one sector of each of its images, one after the other, and what its columns add up to in the field of 256 elements.
use Rattle.std.specs.Prelude.{ℕ, zero, suc, ◌≡◌, ◌+◌, ◌*◌, ◌<◌, List, bit_xor, length, slice_index}
use Rattle.gf256.specs.Field.{product}

-- byte c of the sector of image i
abbrev pub byte_of : List ℕ → ℕ → ℕ → ℕ
byte_of sectors i c = slice_index sectors (512 * i + c)

-- the sector of image i is zeros
abbrev pub IsZeros : List ℕ → ℕ → Type 0
IsZeros sectors i = (c : ℕ) → c < 512 → byte_of sectors i c ≡ 0

-- the sum of f 0 to f (n - 1)
unfoldable pub field_sum : ℕ → (ℕ → ℕ) → ℕ
field_sum zero f = 0
field_sum (suc n) f = bit_xor (field_sum n f) (f n)

-- byte c of the sum of the sectors of the first n images, each times its weight
abbrev pub combined : ℕ → (ℕ → ℕ) → List ℕ → ℕ → ℕ
combined n weight sectors c = field_sum n (λ i. product (weight i) (byte_of sectors i c))

-- the same, where a list has the weights
abbrev pub weighed_byte : ℕ → List ℕ → List ℕ → ℕ → ℕ
weighed_byte n weights sectors c = combined n (slice_index weights) sectors c

abbrev pub AreBytes : List ℕ → Type 0
AreBytes bytes = (i : ℕ) → slice_index bytes i < 256

-- a list of a byte for each of the images is a relation of the row: with these weights each of the 512 columns adds up to 0
pub record IsRelation (images : ℕ) (sectors weights : List ℕ) : Type 0 where
  pub long : length weights ≡ images
  pub bytes : AreBytes weights
  pub cancels : (c : ℕ) → c < 512 → weighed_byte images weights sectors c ≡ 0
