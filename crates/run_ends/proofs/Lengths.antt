-- Lengths of images, and the shortest of them.
use Rattle.std.proofs.Common.{◌≡◌, ℕ, zero, suc, ◌+◌, ◌<◌, ◌≤◌, min, List, [], ◌∷◌, ◌++◌, length, take, slice_index, refl, sym, ap, ◌∙◌, arith, Some, None, fold, unwrap_or, slice_get, All, IfSome, Option, ◌^◌}
use Rattle.std.specs.Option.{option_map}
use Rattle.std.proofs.lemmas.List.{take_more}
use Rattle.std.proofs.lemmas.List.Sums.{fold-append}
use Rattle.std.proofs.lemmas.List.Elements.{All-head, All-tail}
use Rattle.outside.specs.Seen.{Image, lengths_of}
use Rattle.run_ends.specs.Agreement.{end_of, shortest}

-- the length of an image, 0 where there is none
pub sectors_at : (images : List Image) (i : ℕ) → unwrap_or (option_map (λ image. image.sectors) (slice_get images i)) 0 ≡ slice_index (lengths_of images) i
sectors_at [] i = refl
sectors_at (image ∷ images) zero = refl
sectors_at (image ∷ images) (suc i) = sectors_at images i

-- the shortest of one
pub shortest_first : (ns : List ℕ) → shortest (take 1 ns) ≡ slice_index ns 0
shortest_first [] = refl
shortest_first (n ∷ ns) = refl

-- and of one more
pub shortest_more : (ns : List ℕ) (i least : ℕ) → 1 ≤ i → i < length ns → least ≡ shortest (take i ns) → min least (slice_index ns i) ≡ shortest (take (i + 1) ns)
shortest_more [] i least some lt e = absurd (omega arith)
shortest_more (n ∷ ns) zero least some lt e = absurd (omega arith)
shortest_more (n ∷ ns) (suc i) least some lt e =
    let k : suc i + 1 ≡ suc (i + 1) = omega arith in
    let more : take (i + 1) ns ≡ take i ns ++ slice_index ns i ∷ [] = take_more ns i 0 (omega arith) in
    rw e (sym (ap (λ (m : ℕ). shortest (take m (n ∷ ns))) k ∙ ap (fold min n) more ∙ fold-append min n (take i ns) (slice_index ns i ∷ [])))

near_more : (images : List Image) (n : ℕ) → n < 2 ^ 55 → All (λ image. image.sectors < 2 ^ 55) images → fold min n (lengths_of images) < 2 ^ 55
near_more [] n lt all = lt
near_more (image ∷ images) n lt all =
    let first = All-head (λ (image : Image). image.sectors < 2 ^ 55) image images all in
    near_more images (min n image.sectors) (omega arith) (All-tail (λ (image : Image). image.sectors < 2 ^ 55) image images all)

near : (images : List Image) → All (λ image. image.sectors < 2 ^ 55) images → shortest (lengths_of images) < 2 ^ 55
near [] all = omega arith
near (image ∷ images) all =
    near_more images image.sectors (All-head (λ (image : Image). image.sectors < 2 ^ 55) image images all) (All-tail (λ (image : Image). image.sectors < 2 ^ 55) image images all)

-- members end where sectors end
pub end_near : (end : Option ℕ) (images : List Image) → All (λ image. image.sectors < 2 ^ 55) images → IfSome end (λ sector. sector < 2 ^ 55) → end_of end images < 2 ^ 55
end_near None images all given = near images all
end_near (Some sector) images all given = given
