-- What an answer says of a count of faults.
use Rattle.std.specs.Prelude.{ℕ, ◌≡◌, ◌≤◌, Result, IsErrOf}
use Rattle.outside.specs.Causes.{Rose}

-- the count rose where the answer is this fault, and at every other answer it is as it was
pub record Raises {T E : Type 0} (fault : E) (before after : ℕ) (result : Result T E) : Type 0 where
  pub rose : IsErrOf result fault → Rose before after
  pub stays : (IsErrOf result fault → ⊥) → after ≡ before
  pub later : before ≤ after
