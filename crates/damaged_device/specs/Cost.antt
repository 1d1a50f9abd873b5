-- What a read of a damaged volume costs.
use Rattle.std.proofs.Common.{ℕ, Bool, true, false, if◌then◌else◌, List, ap}
use Rattle.std.specs.declared.option.Option.{Option}
use Rattle.std.specs.declared.option.Option.TheVariants.{None, Some}
use Rattle.block_device.specs.Reading.{Answers, Asked, Counts, FailsFor, is_any_lost}
use Rattle.raid_params.specs.declared.wide.Wide.{Wide}
use Rattle.rescue_map.specs.Damaged.{is_lost}
use Rattle.rescue_map.specs.Salvaged.{reads_for_all}
use Rattle.rescue_text.specs.declared.section.Section.{Section}

-- so many sectors of the images at most for sectors of the volume: what their writing reads; none where one of them is lost, and the read fails
abbrev pub damaged_cost : List Section → Wide → Asked → Option ℕ
damaged_cost sections set asked = if is_any_lost (is_lost sections set) asked then None else Some (reads_for_all sections set asked.first asked.count)

-- so a read fails where a sector is lost, and else just where a fault rose
pub fails_by : (lost : Bool) (cost : ℕ) (failed : Bool) (before after : Counts) → Answers (if lost then None else Some cost) failed before after → FailsFor lost failed before.faults after.faults
fails_by true cost failed before after read = (read.0, ap (λ (c : Counts). c.faults) read.1)
fails_by false cost failed before after read = read.faults
