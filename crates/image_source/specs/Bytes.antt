-- The known bytes of attached images are numbers below 256.
use Rattle.std.proofs.Common.{◌≡◌, ℕ, ◌<◌, Bool, true, false, cond, nat_lt, List, All, IfSome, Some, None, refl}
use Rattle.std.proofs.lemmas.Bool.{ltb-true}
use Rattle.std.proofs.lemmas.List.Elements.{All-map, All-take, All-weaker}
use Rattle.std.proofs.lemmas.List.Sums.{AllPass-from_list_all}
use Rattle.std.specs.List.{list_all}
use Rattle.std.specs.Option.{option_map}
use Rattle.image_source.specs.Files.{OpenFiles, seen_of_files, untold_image}
use Rattle.image_source.specs.Memory.{Shelf, bytes_of, image_of, seen_of}
use Rattle.outside.specs.Seen.{TellsBytes, whole_sectors}

-- for a list in memory
pub image_tells : (list : List ℕ) → TellsBytes (image_of list)
image_tells list = by_case (list_all (λ byte. nat_lt byte 256) list) refl
  where
    by_case : (b : Bool) → list_all (λ byte. nat_lt byte 256) list ≡ b → IfSome (option_map whole_sectors (cond b (Some list) None)) (λ bytes. All (λ byte. byte < 256) bytes)
    by_case true all = All-take (λ byte. byte < 256) _ list
        (All-weaker (λ byte. nat_lt byte 256 ≡ true) (λ byte. byte < 256) (λ byte below. ltb-true byte 256 below) list (AllPass-from_list_all (λ byte. nat_lt byte 256) list all))
    by_case false all = tt

-- for the images in memory
pub shelf_tells : (s : Shelf) → All TellsBytes (seen_of s).attached
shelf_tells s = All-map TellsBytes (λ k. image_of (bytes_of s.files k)) s.attached (λ k d below. image_tells (bytes_of s.files _))

-- for files, of which no byte is known
pub files_tell : (s : OpenFiles) → All TellsBytes (seen_of_files s).attached
files_tell s = All-map TellsBytes untold_image s.lengths (λ k d below. tt)
