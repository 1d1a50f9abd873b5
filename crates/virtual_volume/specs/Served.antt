-- What is asked of a set whose volume or member is written, and why it ends.
use Rattle.std.specs.Prelude.{ℕ, ◌≡◌, ◌≤◌, ◌<◌, ◌^◌, List, length, All, Result, Ok, Err}
use Rattle.std.specs.declared.option.Option.TheVariants.{None}
use Rattle.outside.specs.Causes.{Rose}
use Rattle.outside.specs.Seen.{Image}
use Rattle.raid_params.specs.Validity.{first_fault}
use Rattle.raid_params.specs.declared.types.Geometry.{Geometry}
use Rattle.virtual_volume.specs.declared.volume.VolumeFault.{VolumeFault}
use Rattle.virtual_volume.specs.declared.volume.VolumeFault.TheVariants.{ReadFault, WriteFault, Memory}

-- a set that breaks no rule over the attached images, which all reach to the end
pub record IsServed (geo : Geometry) (end : ℕ) (attached : List Image) : Type 0 where
  pub ruled : first_fault geo (length attached) end ≡ None
  pub offset : geo.head.offset < 2 ^ 55
  pub near : end < 2 ^ 55
  pub long : All (λ image. end ≤ image.sectors) attached

-- the counts of faults of the images and of the sink: each rises where the answer is its object's fault, and else stays
abbrev pub Faults : {T : Type 0} → ℕ → ℕ → ℕ → ℕ → Result T VolumeFault → Type 0
Faults images_old images_new sink_old sink_new (Ok value) = (images_new ≡ images_old) × (sink_new ≡ sink_old)
Faults images_old images_new sink_old sink_new (Err ReadFault) = Rose images_old images_new × (sink_new ≡ sink_old)
Faults images_old images_new sink_old sink_new (Err WriteFault) = (images_new ≡ images_old) × Rose sink_old sink_new
Faults images_old images_new sink_old sink_new (Err Memory) = (images_new ≡ images_old) × (sink_new ≡ sink_old)

-- once memory is taken, only a fault of the images or of the sink ends the work
abbrev pub IsFault : VolumeFault → Type 0
IsFault ReadFault = Unit {0}
IsFault WriteFault = Unit {0}
IsFault Memory = ⊥
