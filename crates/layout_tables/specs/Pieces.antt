-- Pieces of a text with a separator between them.
use Rattle.std.specs.Prelude.{ℕ, ◌≡◌, ◌≢◌, List, All}

-- names of values with a separator between them: each value has a name of its own, and no name has the separator
pub record IsPieceName {A : Type 0} (separator : ℕ) (name : A → List ℕ) (IsPiece : A → Type 0) : Type 0 where
  pub one_value : (x y : A) → IsPiece x → IsPiece y → name x ≡ name y → x ≡ y
  pub has_none : (x : A) → IsPiece x → All (λ byte. byte ≢ separator) (name x)
