-- Bytes that wait to be put.
use Rattle.std.specs.Prelude.{ℕ, ◌≡◌, ◌%◌, List, ◌++◌, length, Result, MatchResult}
use Rattle.std.specs.declared.option.Option.{Option}
use Rattle.std.specs.Io.KnownBytes.{Appends}
use Rattle.outside.specs.Streams.{AppendsFront}

-- of the bytes that waited and of the new ones a sink gained a front of whole sectors, and the rest waits
pub record Passes (old new : Option (List ℕ)) (before after bytes : List ℕ) : Type 0 where
  pub front : List ℕ
  pub gained : Appends old new front
  pub sectors : length front % 512 ≡ 0
  pub whole : before ++ bytes ≡ front ++ after

-- so it is at Ok, and at Err the sink gained a front of them
abbrev pub Passed : {T E : Type 0} → Option (List ℕ) → Option (List ℕ) → List ℕ → List ℕ → Result T E → List ℕ → Type 0
Passed old new before after result bytes = MatchResult result (λ _. Passes old new before after bytes) (λ _. AppendsFront old new (before ++ bytes))
