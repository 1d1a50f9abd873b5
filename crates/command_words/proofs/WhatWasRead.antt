-- What was read is within its limits, and ends in its names.
use Rattle.std.proofs.Common.{ℕ, List, IfOk, Result, Ok, Err}
use Rattle.command_words.specs.Commands.{EndsInNames, IsWithin, Reads}
use Rattle.command_words.specs.declared.command.Command.{Command}
use Rattle.command_words.proofs.Limits.{line_within}
use Rattle.command_words.proofs.Said.{line_names}

pub all_within : (words : List (List ℕ)) (r : Result Command ℕ) → Reads words r → IfOk r IsWithin
all_within words (Ok command) reads = line_within words command reads
all_within words (Err n) reads = tt

pub all_names : (words : List (List ℕ)) (r : Result Command ℕ) → Reads words r → IfOk r (EndsInNames words)
all_names words (Ok command) reads = line_names words command reads
all_names words (Err n) reads = tt
