-- Lists of bases: an offset for each image.
use Rattle.std.specs.Prelude.{ℕ, zero, suc, Bool, true, false, ◌&&◌, ◌==◌, List, [], ◌∷◌, map}
use Rattle.std.specs.List.{flat_map}

-- all lists of an offset for each of so many images, in lexicographic order
unfoldable pub base_lists : List ℕ → ℕ → List (List ℕ)
base_lists offsets zero = [] ∷ []
base_lists offsets (suc images) = flat_map (λ base. map (λ bases. base ∷ bases) (base_lists offsets images)) offsets

-- two lists of bases are the same, image by image
unfoldable pub same_bases : List ℕ → List ℕ → Bool
same_bases [] [] = true
same_bases [] (b ∷ others) = false
same_bases (a ∷ bases) [] = false
same_bases (a ∷ bases) (b ∷ others) = a == b && same_bases bases others
