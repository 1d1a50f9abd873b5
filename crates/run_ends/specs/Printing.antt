-- Lines that several answers have.
use Rattle.std.specs.Prelude.{ℕ, List, ◌++◌, codes, decimal}
use Rattle.std.specs.declared.option.Option.{Option}
use Rattle.value_text.specs.Spelling.{line, slot_name}

-- NAME N of M, where the name ends with a space
unfoldable pub share_line : List ℕ → ℕ → ℕ → List ℕ
share_line name part whole = line (name ++ decimal part ++ codes " of " ++ decimal whole)

-- a number, or a dash where there is none
abbrev pub or_dash : Option ℕ → List ℕ
or_dash number = slot_name number
