-- Lists that are kept element by element, where what was kept before decides.
use Rattle.std.specs.Prelude.{ℕ, Bool, List, [], ◌∷◌, ◌++◌, if◌then◌else◌, fold, ◌==◌, nat_lt}

-- what is kept once one more element came
abbrev pub kept_with : {A : Type 0} → (List A → A → Bool) → List A → A → List A
kept_with admits before x = if admits before x then before ++ x ∷ [] else before

-- the elements of a list that the test admits beside those kept before them
abbrev pub kept : {A : Type 0} → (List A → A → Bool) → List A → List A
kept admits xs = fold (kept_with admits) [] xs

-- a rising list with a number put in its place, or as it is where it has the number already
unfoldable pub with_number : List ℕ → ℕ → List ℕ
with_number [] n = n ∷ []
with_number (m ∷ rest) n = if nat_lt n m then n ∷ m ∷ rest else if n == m then m ∷ rest else m ∷ with_number rest n
