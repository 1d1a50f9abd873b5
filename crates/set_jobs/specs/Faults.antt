-- Why writing ends, by the fault of the engine.
use Rattle.run_ends.specs.declared.stop.Stop.{Stop}
use Rattle.run_ends.specs.declared.stop.Stop.TheVariants.{ImageFault, OutFault, OutOfMemory}
use Rattle.virtual_volume.specs.declared.volume.VolumeFault.{VolumeFault}
use Rattle.virtual_volume.specs.declared.volume.VolumeFault.TheVariants.{ReadFault, WriteFault, Memory}

-- where a volume or a member could not be written
abbrev pub stop_of_volume : VolumeFault → Stop
stop_of_volume ReadFault = ImageFault
stop_of_volume WriteFault = OutFault
stop_of_volume Memory = OutOfMemory
