-- Images that have the lengths of a plan.
use Rattle.std.proofs.Common.{ℕ, suc, ◌≡◌, ◌<◌, List, [], ◌∷◌, length, map, get_or, refl, ap, ◌∙◌, arith, Option, Some, None}
use Rattle.std.specs.List.{slice_get}
use Rattle.std.specs.Option.{option_map}
use Rattle.outside.specs.Seen.{Image}

-- images that have these lengths one by one, and no more, have these lengths
pub have_lengths : (attached : List Image) (lengths : List ℕ) → ((i : ℕ) → i < length lengths → option_map (λ image. image.sectors) (slice_get attached i) ≡ Some (get_or lengths i 0)) →
    option_map (λ image. image.sectors) (slice_get attached (length lengths)) ≡ None → map (λ image. image.sectors) attached ≡ lengths
have_lengths [] [] each over = refl
have_lengths [] (n ∷ lengths) each over = let bad : None ≡ Some n = each 0 (omega arith) in (cc)
have_lengths (image ∷ attached) [] each over = let bad : Some image.sectors ≡ None = over in (cc)
have_lengths (image ∷ attached) (n ∷ lengths) each over =
    let here : Some image.sectors ≡ Some n = each 0 (omega arith) in
    let same : image.sectors ≡ n = (cc) in
    let rest = have_lengths attached lengths (λ i lt. each (suc i) (omega arith)) over in
    ap (λ (k : ℕ). k ∷ map (λ (one : Image). one.sectors) attached) same ∙ ap (λ (l : List ℕ). n ∷ l) rest
