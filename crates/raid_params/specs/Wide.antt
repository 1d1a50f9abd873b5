-- The first rule that a parameter set with bases breaks.
use Rattle.std.specs.Prelude.{ℕ, Bool, ◌==◌, ◌||◌, ◌&&◌, not, if◌then◌else◌, List, length}
use Rattle.std.specs.declared.option.Option.{Option}
use Rattle.std.specs.declared.option.Option.TheVariants.{None, Some}
use Rattle.raid_params.specs.Bases.{leaves_out}
use Rattle.raid_params.specs.Validity.{early_fault, has_delay}
use Rattle.raid_params.specs.declared.types.GeoFault.{GeoFault}
use Rattle.raid_params.specs.declared.types.GeoFault.TheVariants.{Delay}
use Rattle.raid_params.specs.declared.wide.Wide.{Wide}
use Rattle.raid_params.specs.declared.wide.WideFault.{WideFault}
use Rattle.raid_params.specs.declared.wide.WideFault.TheVariants.{Geo, Bases}

-- the bases suit the images and the slots: there are none, or one for each image, and each image is in a slot
abbrev pub has_bases : ℕ → List (Option ℕ) → List ℕ → Bool
has_bases images slots bases = length bases == 0 || (length bases == images && not (leaves_out images slots))

-- after the rules on the geometry but for the delay: the bases suit the images and the slots
abbrev pub bases_fault : Wide → ℕ → Option GeoFault → Option WideFault
bases_fault wide images (Some fault) = Some (Geo fault)
bases_fault wide images None = if has_bases images wide.geo.slots.items wide.bases.items then None else Some (Bases (length wide.bases.items))

-- after all others: the delay suits the pattern
abbrev pub late_fault : Wide → Option WideFault → Option WideFault
late_fault wide (Some fault) = Some fault
late_fault wide None = if has_delay wide.geo.head.pattern wide.geo.head.delay then None else Some (Geo (Delay wide.geo.head.delay))

-- the first broken rule
abbrev pub wide_fault : Wide → ℕ → ℕ → Option WideFault
wide_fault wide images end = late_fault wide (bases_fault wide images (early_fault wide.geo images end))
