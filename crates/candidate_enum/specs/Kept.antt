-- What a walk keeps of a prefix, and of its beginnings.
use Rattle.std.specs.Prelude.{ℕ, ◌≡◌, ◌<◌, ◌++◌, ◌∷◌, [], if◌then◌else◌, List, length, take, slice_index_or}
use Rattle.std.specs.Int.{bit_at}
use Rattle.std.specs.declared.option.Option.{Option}
use Rattle.raid_params.specs.Slots.{stands, empties}

-- a bit for each image that is not in the prefix, and how many of its places are empty
pub record IsKept (p : List (Option ℕ)) (free empty : ℕ) : Type 0 where
  pub images : (i : ℕ) → i < 32 → bit_at free i ≡ (if stands i p then 0 else 1)
  pub places : empty ≡ empties p

-- in the place of the empty prefix, and of each proper beginning of p, stands what a family may keep of it
pub record AreKept {A : Type 0} (keeps : List (Option ℕ) → A → Type 0) (p : List (Option ℕ)) (stack : List A) : Type 0 where
  pub first : (none : A) → keeps [] (slice_index_or stack 0 none)
  pub parents : (d : ℕ) (none : A) → d < length p → keeps (take d p) (slice_index_or stack d none)

-- the proper beginnings of q are beginnings of p with fewer than n places
abbrev pub SharesBelow : List (Option ℕ) → ℕ → List (Option ℕ) → Type 0
SharesBelow p n q = (d : ℕ) → d < length q → (d < n) × (take d q ≡ take d p)

-- q is p with one place more
abbrev pub IsLonger : List (Option ℕ) → List (Option ℕ) → Type 0
IsLonger p q = (x : Option ℕ) × (q ≡ p ++ x ∷ [])
