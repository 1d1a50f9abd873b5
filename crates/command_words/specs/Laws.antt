-- What holds of all lists of words.
use Rattle.std.specs.Prelude.{ℕ, ◌≡◌, List, Result}
use Rattle.command_words.specs.Commands.{Reads}
use Rattle.command_words.specs.declared.command.Command.{Command}

-- a list of words has one reading: one command, or one refused word
abbrev pub WordsHaveOneReading : Type 0
WordsHaveOneReading = (words : List (List ℕ)) (one other : Result Command ℕ) → Reads words one → Reads words other → one ≡ other
