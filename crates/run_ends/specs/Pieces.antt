-- What a front of an output is made of that was put while images were read.
use Rattle.std.specs.Prelude.{ℕ, ◌≡◌, ◌≤◌, ◌⊎◌, List, [], ◌∷◌, ◌++◌, length, take}
use Rattle.std.specs.declared.option.Option.{Option}
use Rattle.std.specs.Io.KnownBytes.{Appends}
use Rattle.outside.specs.Streams.{AppendsSectors}

-- a text of whole lines: it is empty, or ends with a line feed
abbrev pub AreLines : List ℕ → Type 0
AreLines text = (text ≡ []) ⊎ ((before : List ℕ) × (text ≡ before ++ 10 ∷ []))

-- known bytes grow by the first lines of bs
abbrev pub AppendsLines : Option (List ℕ) → Option (List ℕ) → List ℕ → Type 0
AppendsLines old new bs = (n : ℕ) × (n ≤ length bs) × AreLines (take n bs) × Appends old new (take n bs)

-- an output is a volume of sectors, or a text of lines
pub data Pieces : Type 0 where
  Sectors : Pieces
  Lines : Pieces

-- known bytes grow by the first pieces of bs
abbrev pub AppendsPieces : Pieces → Option (List ℕ) → Option (List ℕ) → List ℕ → Type 0
AppendsPieces Sectors old new bs = AppendsSectors old new bs
AppendsPieces Lines old new bs = AppendsLines old new bs
