-- Which names may be attached.
use Rattle.std.proofs.Common.{ℕ, ◌≡◌, ◌<◌, nat_lt, not, true, Bool, cond, Some, None, List, [], ◌∷◌, ◌++◌, IsTrue, refl, length, arith}
use Rattle.std.specs.List.{position_or_len}
use Rattle.std.specs.Option.{is_some}
use Rattle.std.specs.Str.{bytes_eq}
use Rattle.std.proofs.lemmas.Bool.Decides.{nat_tests}
use Rattle.std.proofs.lemmas.Grind.{common_steps}
use Rattle.std.proofs.lemmas.List.Folds.{position_or_len_push}
use Rattle.std.proofs.lemmas.List.Sums.{prefix_len-le-length}
use Rattle.std.proofs.lemmas.Slice.Eq.{bytes_eq-Decides}
use Rattle.image_source.specs.Memory.{number_of}

below_known : (a b : ℕ) → a < b → is_some (cond (nat_lt a b) (Some a) None) ≡ true
below_known a b h = grind (arith, nat_tests)

-- what passes the test is found once it is appended
found_last : {X : Type 0} (p : X → Bool) (xs : List X) (x : X) → p x ≡ true → position_or_len p (xs ++ x ∷ []) < length (xs ++ x ∷ [])
found_last p xs x h = grind (arith, common_steps, nat_tests, position_or_len_push p xs x, prefix_len-le-length (λ y. not (p y)) xs)

-- a name may be attached once a file is added under it
pub added : (files : List (List ℕ × List ℕ)) (name bytes : List ℕ) → IsTrue (is_some (number_of (files ++ (name, bytes) ∷ []) name))
added files name bytes =
    let p : List ℕ × List ℕ → Bool = λ f. bytes_eq f.0 name in
    let same : p (name, bytes) ≡ true = (bytes_eq-Decides name name).1 refl in
    below_known _ _ (found_last p files (name, bytes) same)
