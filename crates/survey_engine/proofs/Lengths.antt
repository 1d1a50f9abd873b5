-- The lengths of images.
use Rattle.std.proofs.Common.{◌≡◌, ℕ, zero, suc, ◌+◌, ◌^◌, ◌<◌, ◌≤◌, List, [], ◌∷◌, ◌++◌, length, take, refl, ap, arith, All, Some, None, slice_get}
use Rattle.std.specs.Option.{option_map}
use Rattle.std.proofs.lemmas.List.{length-map, take_all}
use Rattle.std.proofs.lemmas.List.Elements.{All-map}
use Rattle.outside.specs.Seen.{Image, lengths_of}
use Rattle.search_plan.specs.Plans.{AreLengths}
use Rattle.raid_params.specs.declared.limits.TheConstants.{MOST}

-- one more length
pub lengths_more : (attached : List Image) (i n : ℕ) → option_map (λ a. a.sectors) (slice_get attached i) ≡ Some n → take (i + 1) (lengths_of attached) ≡ take i (lengths_of attached) ++ n ∷ []
lengths_more attached i n is = let at : i + 1 ≡ suc i = omega arith in rw at (more attached i n is)
  where
    more : (attached : List Image) (i n : ℕ) → option_map (λ a. a.sectors) (slice_get attached i) ≡ Some n → take (suc i) (lengths_of attached) ≡ take i (lengths_of attached) ++ n ∷ []
    more [] i n is = absurd (cc)
    more (a ∷ attached) zero n is = let same : a.sectors ≡ n = cc in ap (λ (k : ℕ). k ∷ []) same
    more (a ∷ attached) (suc i) n is = ap (λ (l : List ℕ). a.sectors ∷ l) (more attached i n is)

-- or none
pub lengths_same : (attached : List Image) (i : ℕ) → option_map (λ a. a.sectors) (slice_get attached i) ≡ None → take (i + 1) (lengths_of attached) ≡ take i (lengths_of attached)
lengths_same attached i is = let at : i + 1 ≡ suc i = omega arith in rw at (same attached i is)
  where
    same : (attached : List Image) (i : ℕ) → option_map (λ a. a.sectors) (slice_get attached i) ≡ None → take (suc i) (lengths_of attached) ≡ take i (lengths_of attached)
    same [] zero is = refl
    same [] (suc i) is = refl
    same (a ∷ attached) zero is = absurd (cc)
    same (a ∷ attached) (suc i) is = ap (λ (l : List ℕ). a.sectors ∷ l) (same attached i is)

pub lengths_all : (attached : List Image) (n : ℕ) → length attached ≤ n → take n (lengths_of attached) ≡ lengths_of attached
lengths_all attached n all = take_all n (lengths_of attached) (omega (arith, length-map attached (λ (image : Image). image.sectors)))

-- they are short
pub are_short : (attached : List Image) → All (λ image. image.sectors < 2 ^ 55) attached → All (λ n. n < 2 ^ 55) (lengths_of attached)
are_short attached short = All-map (λ n. n < 2 ^ 55) (λ image. image.sectors) attached short

pub reach_end : (attached : List Image) (end : ℕ) → All (λ image. end ≤ image.sectors) attached → All (λ n. end ≤ n) (lengths_of attached)
reach_end attached end long = All-map (λ n. end ≤ n) (λ image. image.sectors) attached long

pub are_lengths : (attached : List Image) → 1 ≤ length attached → length attached ≤ MOST → All (λ image. image.sectors < 2 ^ 55) attached → AreLengths (lengths_of attached)
are_lengths attached some most short = record {
  some = omega (arith, length-map attached (λ (image : Image). image.sectors));
  most = omega (arith, length-map attached (λ (image : Image). image.sectors));
  short = are_short attached short;
}
