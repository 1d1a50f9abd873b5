-- What is asked of the images of a table of rows, and why it is not built.
use Rattle.std.specs.Prelude.{◌≡◌}
use Rattle.outside.specs.Causes.{Rose}
use Rattle.outside.specs.Seen.{Seen}
use Rattle.xor_tables.specs.declared.xor_table.TableFault.{TableFault}
use Rattle.xor_tables.specs.declared.xor_table.TableFault.TheVariants.{ReadFault, Memory}

-- the images failed, or memory ran out and nothing was read
abbrev pub EndsTable : Seen → Seen → TableFault → Type 0
EndsTable old new ReadFault = Rose old.faults new.faults
EndsTable old new Memory = new ≡ old
