-- What `mirrorwrite` refuses and prints.
use Rattle.std.specs.Prelude.{ℕ, true, List, [], ◌∷◌}
use Rattle.std.specs.Option.{option_map}
use Rattle.std.specs.declared.option.Option.{Option}
use Rattle.outside.specs.Attached.{told_all}
use Rattle.outside.specs.Seen.{Image}
use Rattle.near_mirror.specs.Copies.{near_sectors}
use Rattle.near_mirror.specs.Validity.{first_fault}
use Rattle.near_mirror.specs.declared.types.NearSet.{NearSet}
use Rattle.near_volume.specs.Sectors.{near_volume}
use Rattle.run_ends.specs.Agreement.{end_of, limits_fault}
use Rattle.run_ends.specs.Jobs.{Job, textless}
use Rattle.run_ends.specs.Stops.{first_of}
use Rattle.run_ends.specs.declared.stop.Refusal.{Refusal}
use Rattle.run_ends.specs.declared.stop.Refusal.TheVariants.{Images, Near}

-- the refusals of `mirrorwrite`: the images, then the set
unfoldable pub mirror_refusal : NearSet → Option ℕ → ℕ → List Image → Option Refusal
mirror_refusal set end names attached =
    first_of (option_map (λ fault. Images fault) (limits_fault end names attached)
    ∷ option_map (λ rule. Near rule) (first_fault set names (end_of end attached))
    ∷ [])

-- what it prints: the volume, over the bytes of the images where they are known
abbrev pub mirror_output : NearSet → Option ℕ → List Image → Option (List (List ℕ)) → Option (List ℕ)
mirror_output set end attached told = option_map (λ bytes. near_volume bytes set (end_of end attached)) told

-- the most sectors that it reads: as many as the volume has
abbrev pub mirror_reads : NearSet → Option ℕ → List Image → ℕ
mirror_reads set end attached = near_sectors set.head (end_of end attached)

-- `mirrorwrite`: it puts as it reads
abbrev pub mirrorwrite_job : NearSet → Option ℕ → Job
mirrorwrite_job set end =
    textless true (λ given. mirror_refusal set end given.names given.attached) (λ given. mirror_output set end given.attached (told_all given.attached)) (λ given. mirror_reads set end given.attached)
