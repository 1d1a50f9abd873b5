-- How many rows have each set of images as a part.
use Rattle.std.specs.Prelude.{ℕ, ◌+◌, ◌*◌, ◌^◌, ◌==◌, nat_le, List, [], ◌∷◌, if◌then◌else◌, reverse}

-- numbers in rising order
abbrev pub placed : ℕ → List ℕ → List ℕ
placed n [] = n ∷ []
placed n (m ∷ ms) = if nat_le n m then n ∷ m ∷ ms else m ∷ placed n ms

abbrev pub ordered : List ℕ → List ℕ
ordered [] = []
ordered (n ∷ ns) = placed n (ordered ns)

-- a set with the number of its rows, as one number: so those with more rows are the greater ones, and of as many that with the greater set
abbrev pub share : ℕ → ℕ → ℕ
share rows set = rows * 2 ^ 64 + set

-- of sets in order each one once, with how often it stands there
abbrev pub counted_from : ℕ → ℕ → List ℕ → List ℕ
counted_from rows set [] = share rows set ∷ []
counted_from rows set (other ∷ sets) = if set == other then counted_from (rows + 1) set sets else share rows set ∷ counted_from 1 other sets

abbrev pub counted : List ℕ → List ℕ
counted [] = []
counted (set ∷ sets) = counted_from 1 set sets

-- the shares of sets, those with most rows first
abbrev pub shares_of : List ℕ → List ℕ
shares_of sets = reverse (ordered (counted (ordered sets)))
