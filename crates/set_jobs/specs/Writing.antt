-- What `write` and `rebuild` refuse and print.
use Rattle.std.specs.Prelude.{ℕ, true, ◌≡◌, ◌≤◌, ◌<◌, ◌^◌, ◌&&◌, All, Result, OnOk, IfErr, IfSome, IsErrOf, length, nat_lt, if◌then◌else◌, List, [], ◌∷◌, slice_index_or}
use Rattle.std.specs.Option.{is_none, option_map}
use Rattle.std.specs.declared.option.Option.{Option}
use Rattle.std.specs.declared.option.Option.TheVariants.{None, Some}
use Rattle.outside.specs.Seen.{Image, OnlyReads, Seen}
use Rattle.outside.specs.Streams.{AppendsFront, AppendsSectors, Stream}
use Rattle.std.specs.Io.KnownBytes.{Appends}
use Rattle.raid_params.specs.declared.limits.TheConstants.{MOST}
use Rattle.raid_params.specs.declared.types.Geometry.{Geometry}
use Rattle.raid_params.specs.declared.wide.Wide.{Wide}
use Rattle.raid_params.specs.Size.{volume_sectors}
use Rattle.raid_terms.specs.Volume.{member, volume}
use Rattle.outside.specs.Attached.{told_all}
use Rattle.image_padding.specs.Padded.{padded_images}
use Rattle.virtual_volume.specs.Served.{Faults, IsServed}
use Rattle.virtual_volume.specs.declared.volume.VolumeFault.{VolumeFault}
use Rattle.virtual_volume.specs.declared.volume.VolumeFault.TheVariants.{ReadFault, Memory}
use Rattle.run_ends.specs.Agreement.{end_of}
use Rattle.run_ends.specs.Jobs.{Job, textless}
use Rattle.set_jobs.specs.Mapping.{geo_refusal, late_refusal, set_refusal}
use Rattle.run_ends.specs.Stops.{first_of}
use Rattle.run_ends.specs.declared.stop.Refusal.{Refusal}
use Rattle.run_ends.specs.declared.stop.Refusal.TheVariants.{Slot}

-- the bytes of the images, padded where the set has bases, where they are known
abbrev pub told_for : Wide → List Image → Option (List (List ℕ))
told_for set attached = told_all (padded_images set.bases.items attached)

-- what `write` prints: the volume, over the bytes of the images where they are known
abbrev pub write_output : Wide → Option ℕ → List Image → Option (List (List ℕ)) → Option (List ℕ)
write_output set end attached told = option_map (λ images. volume images set.geo (end_of end attached)) told

-- images may be padded by the bases of the set: there are none, or one for each image, and all sectors are below 2^54
pub record MayPad (set : Wide) (attached : List Image) : Type 0 where
  pub each : 0 < length set.bases.items → length set.bases.items ≡ length attached
  pub most : length set.bases.items ≤ MOST
  pub near : All (λ base. base < 2 ^ 54) set.bases.items
  pub short : 0 < length set.bases.items → All (λ image. image.sectors < 2 ^ 54) attached

-- the volume of the set can be written over the images
pub record IsServedBy (set : Wide) (end : ℕ) (attached : List Image) : Type 0 where
  pub padded : MayPad set attached
  pub served : IsServed set.geo end (padded_images set.bases.items attached)

-- what writing a content does, over the bytes of images where they are known: at Ok it is put, and at an error a front
-- of it, of whole sectors where the images failed; where memory was wanting nothing was done; at most `most` sectors are read
pub record Writes (most : ℕ) (content : List (List ℕ) → List ℕ) (told : Option (List (List ℕ))) (old new : Seen) (out put : Stream) (result : Result (Unit {0}) VolumeFault) : Type 0 where
  pub written : OnOk result (IfSome told (λ bytes. Appends out.known put.known (content bytes)))
  pub front : IfErr result (λ _. IfSome told (λ bytes. AppendsFront out.known put.known (content bytes)))
  pub whole : IsErrOf result ReadFault → IfSome told (λ bytes. AppendsSectors out.known put.known (content bytes))
  pub memory : IsErrOf result Memory → (put.known ≡ out.known) × (new ≡ old)
  pub faults : Faults old.faults new.faults out.faults put.faults result
  pub reads : OnlyReads old new most
  pub later : out.faults ≤ put.faults

-- the slot is none of the set's, or it holds an image
abbrev pub slot_refusal : Geometry → ℕ → Option Refusal
slot_refusal set slot = if nat_lt slot set.head.members && is_none (slice_index_or set.slots.items slot None) then None else Some (Slot slot)

-- the first refusal of `rebuild`
unfoldable pub rebuild_refusal : Wide → Option ℕ → ℕ → ℕ → List Image → Option Refusal
rebuild_refusal set end slot names attached = first_of (geo_refusal set end names attached ∷ slot_refusal set.geo slot ∷ late_refusal set names ∷ [])

-- what `rebuild` prints: the member of the slot
abbrev pub rebuild_output : Wide → Option ℕ → ℕ → List Image → Option (List (List ℕ)) → Option (List ℕ)
rebuild_output set end slot attached told = option_map (λ images. member images set.geo (end_of end attached) slot) told

-- the most sectors that `write` reads, and `rebuild` too: as many as the volume has
abbrev pub volume_reads_to : Wide → ℕ → ℕ
volume_reads_to set end = volume_sectors set.geo.head end

abbrev pub volume_reads : Wide → Option ℕ → List Image → ℕ
volume_reads set end attached = volume_reads_to set (end_of end attached)

-- `write` and `rebuild`: they put as they read
abbrev pub write_job : Wide → Option ℕ → Job
write_job set end =
    textless true (λ given. set_refusal set end given.names given.attached) (λ given. write_output set end given.attached (told_for set given.attached)) (λ given. volume_reads set end given.attached)

abbrev pub rebuild_job : Wide → Option ℕ → ℕ → Job
rebuild_job set end slot =
    textless true (λ given. rebuild_refusal set end slot given.names given.attached) (λ given. rebuild_output set end slot given.attached (told_for set given.attached))
    (λ given. volume_reads set end given.attached)
