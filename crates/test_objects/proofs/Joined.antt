-- An image that is added may be attached by its name, and what holds of each image by its number holds of all.
use Rattle.std.proofs.Common.{ℕ, zero, suc, ◌≡◌, ◌<◌, ◌≤◌, nat_lt, not, true, Bool, cond, Option, Some, None, List, [], ◌∷◌, ◌++◌, IsTrue, refl, ap, length, slice_get, All, IsSomeAnd, arith}
use Rattle.std.specs.List.{position_or_len}
use Rattle.std.specs.Option.{is_some, option_map}
use Rattle.std.specs.Str.{bytes_eq}
use Rattle.std.proofs.lemmas.Bool.Decides.{nat_tests}
use Rattle.std.proofs.lemmas.Grind.{common_steps}
use Rattle.std.proofs.lemmas.List.Elements.{All-cons, All-nil}
use Rattle.std.proofs.lemmas.List.Folds.{position_or_len_push}
use Rattle.std.proofs.lemmas.List.Sums.{prefix_len-le-length}
use Rattle.std.proofs.lemmas.Slice.Eq.{bytes_eq-Decides}
use Rattle.image_source.specs.Memory.{number_of}
use Rattle.outside.specs.Seen.{Image}

below_known : (a b : ℕ) → a < b → is_some (cond (nat_lt a b) (Some a) None) ≡ true
below_known a b h = grind (arith, nat_tests)

-- what passes the test is found once it is appended
found_last : {X : Type 0} (p : X → Bool) (xs : List X) (x : X) → p x ≡ true → position_or_len p (xs ++ x ∷ []) < length (xs ++ x ∷ [])
found_last p xs x h = grind (arith, common_steps, nat_tests, position_or_len_push p xs x, prefix_len-le-length (λ y. not (p y)) xs)

-- the name of the last file is there
pub joined : (files : List (List ℕ × List ℕ)) (name bytes : List ℕ) → IsTrue (is_some (number_of (files ++ (name, bytes) ∷ []) name))
joined files name bytes =
    let p : List ℕ × List ℕ → Bool = λ f. bytes_eq f.0 name in
    let same : p (name, bytes) ≡ true = (bytes_eq-Decides name name).1 refl in
    below_known _ _ (found_last p files (name, bytes) same)

-- an image whose length is not known is not there
pub absent : (image : Option Image) (sectors : Option ℕ) (none : Bool) → sectors ≡ option_map (λ a. a.sectors) image → is_some sectors ≡ not none → none ≡ true → image ≡ None
absent None sectors none is some e = refl
absent (Some image) sectors none is some e = absurd (cc (ap (λ (b : Bool). not b) e))

past : {X : Type 0} (xs : List X) (n : ℕ) → slice_get xs n ≡ None → length xs ≤ n
past [] n none = omega arith
past (x ∷ xs) zero none = absurd (cc)
past (x ∷ xs) (suc n) none = let rest : length xs ≤ n = past xs n none in omega (arith, rest)

-- where no image has the number 64, one more may be attached
pub few : (attached : List Image) (sectors : Option ℕ) (none : Bool) → sectors ≡ option_map (λ a. a.sectors) (slice_get attached 64) → is_some sectors ≡ not none → none ≡ true → length attached < 65536
few attached sectors none is some e = let most : length attached ≤ 64 = past attached 64 (absent (slice_get attached 64) sectors none is some e) in omega (arith, most)

-- n images are attached, and each is such
pub all_such : (P : Image → Type 0) (attached : List Image) (n : ℕ) → ((k : ℕ) → k < n → IsSomeAnd (slice_get attached k) P) → slice_get attached n ≡ None → (length attached ≡ n) × All P attached
all_such P [] zero each none = (refl, All-nil P)
all_such P [] (suc n) each none = absurd (each 0 (omega arith))
all_such P (x ∷ xs) zero each none = absurd (cc)
all_such P (x ∷ xs) (suc n) each none =
    let rest : (length xs ≡ n) × All P xs = all_such P xs n (λ k h. each (suc k) (omega arith)) none in
    (omega (arith, rest.0), All-cons P x xs (each 0 (omega arith)) rest.1)

-- and each reaches to the end
pub all_long : (attached : List Image) (end n : ℕ) → ((k : ℕ) → k < n → IsSomeAnd (slice_get attached k) (λ image. end ≤ image.sectors)) → slice_get attached n ≡ None → (length attached ≡ n) × All (λ image. end ≤ image.sectors) attached
all_long attached end n each none = all_such (λ image. end ≤ image.sectors) attached n each none

-- and each is short enough
pub all_below : (attached : List Image) (most n : ℕ) → ((k : ℕ) → k < n → IsSomeAnd (slice_get attached k) (λ image. image.sectors < most)) → slice_get attached n ≡ None → (length attached ≡ n) × All (λ image. image.sectors < most) attached
all_below attached most n each none = all_such (λ image. image.sectors < most) attached n each none
