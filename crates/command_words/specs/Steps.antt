-- What a reading of words knows on its way, once it has read some operands.
use Rattle.std.specs.Prelude.{ℕ, ◌*◌, ◌≡◌, ◌&&◌, Bool, true, IsTrue, nat_le, List, ◌∷◌, ◌++◌, map, codes}
use Rattle.std.specs.declared.option.Option.{Option}
use Rattle.std.specs.declared.option.Option.TheVariants.{Some}
use Rattle.command_words.specs.Commands.{can_move, number_in}
use Rattle.command_words.specs.Operands.{AreOperands, operand_word, value_of}
use Rattle.command_words.specs.declared.command.Verb.{Verb}
use Rattle.command_words.specs.declared.operands.Operand.{Operand}
use Rattle.command_words.specs.declared.table.Name.TheVariants.{Foreign as ForeignName, Mode as ModeName, Offsets as OffsetsName, Size as SizeName, Pages as PagesName}

-- a listing may still be short enough: while one of its size and its pages was not given, that one may be 1
abbrev pub lines_fit : Option ℕ → Option ℕ → Bool
lines_fit (Some size) (Some pages) = nat_le (size * pages) 4000000
lines_fit _ _ = true

-- these operands may still be those of a command: a listing may be short enough, and images may have offsets of
-- their own where they are to. What is not given for that has a value with which they may
abbrev pub can_go_on : List Operand → Bool
can_go_on operands =
    lines_fit (number_in (value_of SizeName operands)) (number_in (value_of PagesName operands))
    && can_move (value_of ModeName operands) (value_of ForeignName operands) (value_of OffsetsName operands)

-- the words after the command are these operands, `--` and names, and the operands alone begin a list
pub record StandBefore (verb : Verb) (operands : List Operand) (words : List (List ℕ)) : Type 0 where
  pub names : List (List ℕ)
  pub at : words ≡ map operand_word operands ++ codes "--" ∷ names
  pub are : AreOperands verb operands
  pub going : IsTrue (can_go_on operands)
