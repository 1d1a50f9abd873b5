-- Tables for a look-up in 32 lanes.
use Rattle.std.specs.Prelude.{ℕ, ◌≡◌, ◌<◌, ◌*◌, ◌%◌, List, slice_index}
use Rattle.gf256.specs.Field.{product}

-- the products of a factor with 0 to 15 times the unit, twice
abbrev pub IsTable : ℕ → ℕ → List ℕ → Type 0
IsTable factor unit table = (j : ℕ) → j < 32 → slice_index table j ≡ product factor (unit * (j % 16))
