-- Images whose data begin at different sectors, moved so that all data begin at the greatest of these.
use Rattle.std.specs.Prelude.{ℕ, ◌+◌, ◌-◌, ◌*◌, ◌^◌, ◌<◌, ◌≤◌, get_or, List, [], ◌∷◌, ◌++◌, length, replicate, All}
use Rattle.std.specs.Borrow.{MutBor}
use Rattle.std.specs.Option.{option_map}
use Rattle.outside.specs.Seen.{Image, Seen}
pub use Rattle.raid_params.specs.Bases.{greatest_base}

-- the image with `sectors` sectors of zero before it
abbrev pub padded : ℕ → Image → Image
padded sectors image = record {
  sectors = sectors + image.sectors;
  bytes = option_map (λ bytes. replicate (512 * sectors) 0 ++ bytes) image.bytes;
}

-- each image that has a base begins later by what the base lacks of `greatest`; those after them are as they were
abbrev pub padded_to : ℕ → List ℕ → List Image → List Image
padded_to greatest [] images = images
padded_to greatest (base ∷ bases) [] = []
padded_to greatest (base ∷ bases) (image ∷ images) = padded (greatest - base) image ∷ padded_to greatest bases images

-- the images, each moved so that its base comes to lie at the greatest base
abbrev pub padded_images : List ℕ → List Image → List Image
padded_images bases images = padded_to (greatest_base bases) bases images

-- sectors of zero before the image of a number: none before one that has no base
abbrev pub padding : List ℕ → ℕ → ℕ
padding bases image = greatest_base bases - get_or bases image (greatest_base bases)

-- what images mean once they are padded: padding is not counted, and in the fixed part stand first the bases, then
-- the number by which proofs know the reference to the images, then the fixed part of the images
abbrev pub seen_padded : ℕ → List ℕ → Seen → Seen
seen_padded reference bases seen = record seen {
  world = record seen.world { fixed = bases ∷ (reference ∷ []) ∷ seen.world.fixed };
  attached = padded_images bases seen.attached;
}

-- what the images behind a reference mean once they are padded
abbrev pub seen_behind : {I : Type 0} → (I → Seen) → MutBor I → List ℕ → Seen
seen_behind seen images bases = seen_padded images.ghost_name bases (seen images.now)

-- each base is that of an attached image, and each padded image has fewer than 2^55 sectors
pub record ArePadded (bases : List ℕ) (images : List Image) : Type 0 where
  pub each : length bases ≤ length images
  pub small : All (λ image. image.sectors < 2 ^ 55) (padded_images bases images)
