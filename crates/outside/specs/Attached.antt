-- Images attached one after the other, by a list of names.
use Rattle.std.specs.Prelude.{ℕ, ◌≡◌, ◌*◌, ◌≤◌, List, [], ◌∷◌, ◌++◌, length, All, IfSome, option_and_then}
use Rattle.std.specs.declared.option.Option.{Option}
use Rattle.std.specs.declared.option.Option.TheVariants.{Some}
use Rattle.std.specs.Option.{option_map}
use Rattle.outside.specs.Seen.{Image, World, Seen, IsImageOf}

-- the bytes of all images, where those of each are known
abbrev pub told_all : List Image → Option (List (List ℕ))
told_all [] = Some []
told_all (image ∷ images) = option_and_then (λ bytes. option_map (λ others. bytes ∷ others) (told_all images)) image.bytes

-- the known bytes of an image are 512 for each of its sectors
abbrev pub IsWhole : Image → Type 0
IsWhole image = IfSome image.bytes (λ bytes. length bytes ≡ 512 * image.sectors)

-- the known bytes of each image are 512 for each of its sectors
abbrev pub AreWhole : List Image → Type 0
AreWhole images = All IsWhole images

-- the images are those of a prefix of the names, in order
abbrev pub AreImagesOf : World → List (List ℕ) → List Image → Type 0
AreImagesOf world names [] = Unit {0}
AreImagesOf world [] (image ∷ images) = ⊥
AreImagesOf world (name ∷ names) (image ∷ images) = IsImageOf world name image × AreImagesOf world names images

-- the images of a prefix of the names were attached, nothing was read, and the count of faults did not
-- fall
pub record AttachesSome (old new : Seen) (names : List (List ℕ)) : Type 0 where
  pub world : new.world ≡ old.world
  pub unread : new.sectors_read ≡ old.sectors_read
  pub attached : (images : List Image) × AreImagesOf old.world names images × (new.attached ≡ old.attached ++ images)
  pub faults : old.faults ≤ new.faults
