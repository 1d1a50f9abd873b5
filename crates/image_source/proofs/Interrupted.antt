-- Reads that were interrupted, and one that was not.
use Rattle.std.proofs.Common.{ℕ, List, None, Some, Ok, Err, Result}
use Rattle.std.proofs.KnownBytes.{Keeps-refl, Keeps-trans}
use Rattle.std.specs.declared.option.Option.{Option}
use Rattle.std.specs.Io.KnownBytes.{Keeps, ReadConsumes}

-- nothing was read yet
pub kept_at_first : (a : Option (List ℕ)) → Keeps a a
kept_at_first a = Keeps-refl a

-- one more read gave nothing
pub kept_once_more : {E : Type 0} (a b c : Option (List ℕ)) (e : E) (buffer : List ℕ) → Keeps a b → ReadConsumes {E = E} b c (Err e) buffer → Keeps a c
kept_once_more a b c e buffer kept none = Keeps-trans a b c kept none

-- what a read gave after others that gave nothing
pub read_at_last : {E : Type 0} (a b c : Option (List ℕ)) (result : Result ℕ E) (buffer : List ℕ) → Keeps a b → ReadConsumes b c result buffer → ReadConsumes a c result buffer
read_at_last None b c (Ok n) buffer kept gave = (tt, λ zero room. gave.1 zero room)
read_at_last (Some xs) None c (Ok n) buffer kept gave = absurd kept
read_at_last (Some xs) (Some ys) c (Ok n) buffer kept gave = rw (← kept) gave
read_at_last a b c (Err e) buffer kept gave = Keeps-trans a b c kept gave
