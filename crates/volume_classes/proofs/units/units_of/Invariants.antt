use Rattle.volume_classes.specs.declared.units.TheConstants.{UNIT_BYTES}
use Rattle.volume_classes.proofs.SlotSectors.{AreUnitsTo}
use Rattle.volume_classes.proofs.units.units_of.Given as goal

abbrev pub invariant-loop-place : goal.invariant-loop-place
invariant-loop-place l = AreUnitsTo l.slots UNIT_BYTES l.place l.sectors
