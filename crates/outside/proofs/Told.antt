-- The known bytes of attached images, for the crates above.
use Rattle.std.proofs.Common.{◌≡◌, ℕ, zero, suc, ◌<◌, All, IfSome, get_or, inl, inr, List, [], ◌∷◌, length, None, Some, refl, sym, ap, ◌∙◌, arith, slice_get}
use Rattle.std.proofs.lemmas.List.Elements.{All-nil, All-cons, All-head, All-tail}
use Rattle.std.proofs.lemmas.Bool.{cases_lt}
use Rattle.std.proofs.Math.ListN.{get_or-eq_default}
use Rattle.std.specs.Prelude.{option_and_then}
use Rattle.std.specs.Option.{option_map}
use Rattle.std.specs.declared.option.Option.{Option}
use Rattle.outside.specs.Seen.{Image, TellsBytes, World}
use Rattle.outside.specs.Attached.{told_all, IsWhole, AreWhole, AreImagesOf}

-- where all bytes are known, those of the first image are known, and those of the others
told_first : (first : Option (List ℕ)) (others : Option (List (List ℕ))) (all : List (List ℕ)) → option_and_then (λ bytes. option_map (λ rest. bytes ∷ rest) others) first ≡ Some all → (bytes : List ℕ) × (rest : List (List ℕ)) × (first ≡ Some bytes) × (others ≡ Some rest) × (all ≡ bytes ∷ rest)
told_first None others all e = absurd cc
told_first (Some bytes) None all e = absurd cc
told_first (Some bytes) (Some rest) all e = (bytes, rest, refl, refl, cc)

-- where all bytes are known, there is a list of bytes for each image
pub told_all_length : (images : List Image) (all : List (List ℕ)) → told_all images ≡ Some all → length all ≡ length images
told_all_length [] all e = let none : all ≡ [] = cc in ap length none
told_all_length (image ∷ images) all e =
    let t = told_first image.bytes (told_all images) all e in
    omega (arith, ap length t.4, told_all_length images t.1 t.3)

-- where all bytes are known, those of an image are the ones of its number
pub told_all_at : (images : List Image) (all : List (List ℕ)) (i : ℕ) → told_all images ≡ Some all → option_and_then (λ image. image.bytes) (slice_get images i) ≡ slice_get all i
told_all_at [] all i e = let none : all ≡ [] = cc in rw none refl
told_all_at (image ∷ images) all zero e = let t = told_first image.bytes (told_all images) all e in t.2 ∙ sym (ap (λ xs. slice_get xs 0) t.4)
told_all_at (image ∷ images) all (suc i) e =
    let t = told_first image.bytes (told_all images) all e in
    told_all_at images t.1 i t.3 ∙ sym (ap (λ xs. slice_get xs (suc i)) t.4)

byte_below : (bytes : List ℕ) (k : ℕ) → All (λ byte. byte < 256) bytes → get_or bytes k 0 < 256
byte_below bytes k all = elim (cases_lt k (length bytes)) [
  | inl below ↦ all k 0 below
  | inr past ↦ rw (get_or-eq_default bytes 0 past) (omega arith)
]

-- where all bytes are known, each is below 256, and 0 stands past the last one
pub told_below : (images : List Image) (all : List (List ℕ)) (i k : ℕ) → All TellsBytes images → told_all images ≡ Some all → get_or (get_or all i []) k 0 < 256
told_below [] all i k tells e = let none : all ≡ [] = cc in rw none (omega arith)
told_below (image ∷ images) all i k tells e =
    let t = told_first image.bytes (told_all images) all e in
    let here : IfSome image.bytes (λ bytes. All (λ byte. byte < 256) bytes) = All-head TellsBytes image images tells in
    rw t.4 (by_number t.0 t.1 (rw t.2 at here) (λ j. told_below images t.1 j k (All-tail TellsBytes image images tells) t.3) i)
  where
    by_number : (first : List ℕ) (rest : List (List ℕ)) → All (λ byte. byte < 256) first → ((j : ℕ) → get_or (get_or rest j []) k 0 < 256) → (j : ℕ) → get_or (get_or (first ∷ rest) j []) k 0 < 256
    by_number first rest here others zero = byte_below first k here
    by_number first rest here others (suc j) = others j

-- images of names are whole
pub whole_images : (world : World) (names : List (List ℕ)) (images : List Image) → AreImagesOf world names images → AreWhole images
whole_images world names [] are = All-nil IsWhole
whole_images world [] (image ∷ images) are = absurd are
whole_images world (name ∷ names) (image ∷ images) are = All-cons IsWhole image images are.0.sectors (whole_images world names images are.1)
