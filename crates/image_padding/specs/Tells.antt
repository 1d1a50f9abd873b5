-- The known bytes of padded images are numbers below 256.
use Rattle.std.proofs.Common.{ℕ, ◌-◌, ◌*◌, ◌<◌, List, [], ◌∷◌, ◌++◌, All, IfSome, Some, None, refl, replicate}
use Rattle.std.proofs.lemmas.Bool.{ltb-true}
use Rattle.std.proofs.lemmas.List.Elements.{All-nil, All-cons, All-head, All-tail, All-append, All-replicate}
use Rattle.std.specs.Option.{option_map}
use Rattle.std.specs.declared.option.Option.{Option}
use Rattle.outside.specs.Seen.{Image, TellsBytes}
use Rattle.image_padding.specs.Padded.{padded, padded_to, padded_images, greatest_base}

-- zeros are bytes
padded_tells : (sectors : ℕ) (image : Image) → TellsBytes image → TellsBytes (padded sectors image)
padded_tells sectors image tells = of_bytes image.bytes tells
  where
    of_bytes : (bytes : Option (List ℕ)) → IfSome bytes (λ bs. All (λ byte. byte < 256) bs) → IfSome (option_map (λ bs. replicate (512 * sectors) 0 ++ bs) bytes) (λ bs. All (λ byte. byte < 256) bs)
    of_bytes None tells = tells
    of_bytes (Some bytes) tells = All-append (λ byte. byte < 256) (replicate (512 * sectors) 0) bytes (All-replicate (λ byte. byte < 256) (512 * sectors) 0 (ltb-true 0 256 refl)) tells

padded_to_tells : (greatest : ℕ) (bases : List ℕ) (images : List Image) → All TellsBytes images → All TellsBytes (padded_to greatest bases images)
padded_to_tells greatest [] images tells = tells
padded_to_tells greatest (base ∷ bases) [] tells = All-nil TellsBytes
padded_to_tells greatest (base ∷ bases) (image ∷ images) tells =
    All-cons TellsBytes (padded (greatest - base) image) (padded_to greatest bases images)
    (padded_tells (greatest - base) image (All-head TellsBytes image images tells))
    (padded_to_tells greatest bases images (All-tail TellsBytes image images tells))

-- for padded images
pub images_tell : (bases : List ℕ) (images : List Image) → All TellsBytes images → All TellsBytes (padded_images bases images)
images_tell bases images tells = padded_to_tells (greatest_base bases) bases images tells
