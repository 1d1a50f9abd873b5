-- The lengths of padded images.
use Rattle.std.proofs.Common.{◌≡◌, ℕ, zero, suc, ◌+◌, ◌-◌, ◌≤◌, ◌<◌, List, [], ◌∷◌, ◌++◌, length, take, get_or, slice_get, All, Some, None, refl, sym, ap, subst, ◌∙◌, arith}
use Rattle.std.proofs.lemmas.List.{take_all, take_more}
use Rattle.std.proofs.lemmas.List.Elements.{All-nil, All-cons, All-head, All-tail}
use Rattle.std.specs.Option.{option_map}
use Rattle.std.specs.declared.option.Option.{Option}
use Rattle.outside.specs.Seen.{Image, lengths_of}
use Rattle.image_padding.specs.Padded.{greatest_base, padded_images, padded_to}
use Rattle.padded_images.specs.Plans.{lengths_to}

-- there are as many as before
pub as_many : (greatest : ℕ) (bases lengths : List ℕ) → length (lengths_to greatest bases lengths) ≡ length lengths
as_many greatest [] lengths = refl
as_many greatest (base ∷ bases) [] = refl
as_many greatest (base ∷ bases) (n ∷ lengths) = ap suc (as_many greatest bases lengths)

-- the length of an image
pub length_at : (greatest : ℕ) (bases lengths : List ℕ) (i d : ℕ) → i < length lengths → get_or (lengths_to greatest bases lengths) i d ≡ greatest - get_or bases i greatest + get_or lengths i d
length_at greatest [] lengths i d h = let none : greatest - greatest ≡ 0 = omega arith in omega (arith, none)
length_at greatest (base ∷ bases) [] i d h = absurd (omega (arith, h))
length_at greatest (base ∷ bases) (n ∷ lengths) zero d h = refl
length_at greatest (base ∷ bases) (n ∷ lengths) (suc i) d h = length_at greatest bases lengths i d (omega (arith, h))

-- padded images agree with them where the images agree with the lengths
lengths_agree : (greatest : ℕ) (bases : List ℕ) (images : List Image) → lengths_of (padded_to greatest bases images) ≡ lengths_to greatest bases (lengths_of images)
lengths_agree greatest [] images = refl
lengths_agree greatest (base ∷ bases) [] = refl
lengths_agree greatest (base ∷ bases) (image ∷ images) = ap (λ (rest : List ℕ). (greatest - base + image.sectors) ∷ rest) (lengths_agree greatest bases images)

pub agree : (bases : List ℕ) (images : List Image) (lengths : List ℕ) → lengths_of images ≡ lengths → lengths_of (padded_images bases images) ≡ lengths_to (greatest_base bases) bases lengths
agree bases images lengths same = lengths_agree (greatest_base bases) bases images ∙ ap (lengths_to (greatest_base bases) bases) same

-- no length shrinks, and none grows by more than the greatest base
pub grown : (P Q : ℕ → Type 0) (greatest : ℕ) (bases lengths : List ℕ) → ((more n : ℕ) → more ≤ greatest → P n → Q (more + n)) → All P lengths → All Q (lengths_to greatest bases lengths)
grown P Q greatest [] [] each all = All-nil Q
grown P Q greatest [] (n ∷ lengths) each all = All-cons Q n lengths (subst Q (omega arith) (each 0 n (omega arith) (All-head P n lengths all))) (grown P Q greatest [] lengths each (All-tail P n lengths all))
grown P Q greatest (base ∷ bases) [] each all = All-nil Q
grown P Q greatest (base ∷ bases) (n ∷ lengths) each all =
    All-cons Q (greatest - base + n) (lengths_to greatest bases lengths) (each (greatest - base) n (omega arith) (All-head P n lengths all)) (grown P Q greatest bases lengths each (All-tail P n lengths all))

-- the length of an image that is there
pub there : (greatest : ℕ) (bases lengths : List ℕ) (i : ℕ) → slice_get (lengths_to greatest bases lengths) i ≡ option_map (λ n. greatest - get_or bases i greatest + n) (slice_get lengths i)
there greatest [] lengths i =
    let none : greatest - greatest ≡ 0 = omega arith in
    rw none (same (slice_get lengths i))
  where
    same : (n : Option ℕ) → n ≡ option_map (λ n. 0 + n) n
    same None = refl
    same (Some n) = let e : 0 + n ≡ n = omega arith in rw e refl
there greatest (base ∷ bases) [] i = refl
there greatest (base ∷ bases) (n ∷ lengths) zero = refl
there greatest (base ∷ bases) (n ∷ lengths) (suc i) = there greatest bases lengths i

-- one length more
pub lengths_more : (greatest : ℕ) (bases lengths padded : List ℕ) (i : ℕ) → i < length lengths → padded ≡ take i (lengths_to greatest bases lengths) → padded ++ (greatest - get_or bases i greatest + get_or lengths i 0) ∷ [] ≡ take (i + 1) (lengths_to greatest bases lengths)
lengths_more greatest bases lengths padded i h so_far =
    let many = as_many greatest bases lengths in
    let here = length_at greatest bases lengths i 0 h in
    rw (so_far, sym here) (sym (take_more (lengths_to greatest bases lengths) i 0 (omega (arith, many, h))))

-- all of them
pub lengths_whole : (greatest : ℕ) (bases lengths padded : List ℕ) (i : ℕ) → length lengths ≤ i → padded ≡ take i (lengths_to greatest bases lengths) → padded ≡ lengths_to greatest bases lengths
lengths_whole greatest bases lengths padded i h so_far =
    let many = as_many greatest bases lengths in
    so_far ∙ take_all i (lengths_to greatest bases lengths) (omega (arith, many, h))
