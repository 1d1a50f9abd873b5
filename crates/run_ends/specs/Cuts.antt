-- Why work over the images has no answer.
use Rattle.std.specs.Prelude.{◌≡◌}
use Rattle.outside.specs.Causes.{Rose}
use Rattle.outside.specs.Seen.{Seen}
use Rattle.run_ends.specs.declared.stop.Stop.{Stop}
use Rattle.run_ends.specs.declared.stop.Stop.TheVariants.{ImageFault, OutOfMemory}

-- the work was cut short: the images failed, and their count of faults rose, or memory ran out, and it stayed
abbrev pub CutsShort : Seen → Seen → Stop → Type 0
CutsShort old new ImageFault = Rose old.faults new.faults
CutsShort old new OutOfMemory = new.faults ≡ old.faults
CutsShort old new _ = ⊥
