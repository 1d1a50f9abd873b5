-- Why a walk ends before its range does.
use Rattle.std.specs.Prelude.{◌≡◌}
use Rattle.outside.specs.Causes.{Rose}
use Rattle.outside.specs.Seen.{Seen}
use Rattle.row_samples.specs.declared.reading.SampleFault.{SampleFault}
use Rattle.row_samples.specs.declared.reading.SampleFault.TheVariants.{ReadFault as SampleReadFault, Memory as SampleMemory}
use Rattle.parity_scan.specs.declared.one_set.ScanFault.{ScanFault}
use Rattle.parity_scan.specs.declared.one_set.ScanFault.TheVariants.{ReadFault as ScanReadFault, Memory as ScanMemory}
use Rattle.xor_tables.specs.declared.xor_table.TableFault.{TableFault}
use Rattle.xor_tables.specs.declared.xor_table.TableFault.TheVariants.{ReadFault as TableReadFault, Memory as TableMemory}
use Rattle.head_walk.specs.declared.parts.WalkFault.{WalkFault}
use Rattle.head_walk.specs.declared.parts.WalkFault.TheVariants.{ReadFault, Memory}

-- the images failed, or memory ran out, and no fault was counted
abbrev pub EndsTest : Seen → Seen → WalkFault → Type 0
EndsTest old new ReadFault = Rose old.faults new.faults
EndsTest old new Memory = new.faults ≡ old.faults

-- where a scan ended so
abbrev pub scan_ended : ScanFault → WalkFault
scan_ended ScanReadFault = ReadFault
scan_ended ScanMemory = Memory

-- where the making of tables ended so
abbrev pub table_ended : TableFault → WalkFault
table_ended TableReadFault = ReadFault
table_ended TableMemory = Memory

-- where the reading of samples ended so
abbrev pub samples_ended : SampleFault → WalkFault
samples_ended SampleReadFault = ReadFault
samples_ended SampleMemory = Memory
