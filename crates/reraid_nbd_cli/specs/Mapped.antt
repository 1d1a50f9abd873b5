-- What a run over damaged images does, by the text of their maps.
use Rattle.std.specs.Prelude.{ℕ, ◌≡◌, ◌⊎◌, false, List, [], ◌∷◌, IfSome, IsErrOf, Result, Ok, Err}
use Rattle.std.specs.Option.{option_map}
use Rattle.std.specs.declared.option.Option.{Option}
use Rattle.std.specs.declared.option.Option.TheVariants.{None, Some}
use Rattle.block_device.specs.Reading.{Asked}
use Rattle.command_words.specs.declared.command.Command.{Command}
use Rattle.command_words.specs.declared.command.Command.TheVariants.{Write, MirrorWrite}
use Rattle.damaged_device.specs.Cost.{damaged_cost}
use Rattle.damaged_mirror.specs.Damaged.{mended_cost}
use Rattle.damaged_mirror.specs.Lengths.{mended_told}
use Rattle.near_jobs.specs.MirrorWriting.{mirror_reads, mirror_refusal}
use Rattle.near_mirror.specs.declared.types.NearSet.{NearSet}
use Rattle.near_volume.specs.Mirrored.{IsMirrored}
use Rattle.nbd_server.specs.declared.stop.NbdStop.TheVariants.{OutOfMemory}
use Rattle.outside.specs.Attached.{told_all}
use Rattle.outside.specs.Causes.{Rose}
use Rattle.outside.specs.Seen.{Image}
use Rattle.outside.specs.Streams.{Stream}
use Rattle.raid_params.specs.declared.wide.Wide.{Wide}
use Rattle.rescue_text.specs.RescueText.{rescue_sections}
use Rattle.rescue_text.specs.declared.fault.RescueFault.{RescueFault}
use Rattle.rescue_text.specs.declared.section.Section.{Section}
use Rattle.run_ends.specs.Agreement.{end_of, limits_fault}
use Rattle.run_ends.specs.Counts.{Raises}
use Rattle.run_ends.specs.Jobs.{Named}
use Rattle.run_ends.specs.Source.{TakesFew}
use Rattle.run_ends.specs.Stops.{first_of}
use Rattle.run_ends.specs.declared.stop.Refusal.{Refusal}
use Rattle.run_ends.specs.declared.stop.Refusal.TheVariants.{Images, Word}
use Rattle.run_ends.specs.declared.stop.Stop.{Stop}
use Rattle.salvage_job.specs.Salvaging.{CannotBegin as CannotBeginBy, salvage_output, salvage_refusal, text_refusal}
use Rattle.salvage_job.specs.declared.salvaging.Ready.{Ready}
use Rattle.set_jobs.specs.Mapping.{images_refusal}
use Rattle.set_jobs.specs.Writing.{volume_reads}
use Rattle.reraid_nbd_cli.specs.Runs.{Ends, HasImages, IsUntouched, Leaves, Place, Runs, Tells, wire_of}
use Rattle.reraid_nbd_cli.specs.Words.{Asks, AsksDamaged, alone_in, maps_at}
use Rattle.reraid_nbd_cli.specs.declared.ends.NbdEnd.{NbdEnd}
use Rattle.reraid_nbd_cli.specs.declared.ends.NbdEnd.TheVariants.{Refused, ImageFault, MapsFault, Stopped}
use Rattle.reraid_nbd_cli.specs.declared.telling.Alone.{Alone}

-- A damaged volume: what refuses its images before the text of their maps is read, and what refuses it by that text; its sectors; by the text, its
-- bytes where the images are known, and how many sectors of the images may be read for sectors of it, none where one of these is lost.
pub record DamagedVolume : Type 0 where
  pub early : Option Refusal
  pub refused : List ℕ → Option Refusal
  pub size : ℕ
  pub volume : List ℕ → Option (List ℕ)
  pub cost : List ℕ → Asked → Option ℕ

-- what sectors cost by the sections of the maps, where the text has them
abbrev pub mapped_cost : (List Section → Asked → Option ℕ) → Result (List Section) RescueFault → Asked → Option ℕ
mapped_cost cost (Ok sections) = cost sections
mapped_cost cost (Err fault) = λ asked. None

-- that of a set: what `salvage` refuses, and what it puts for this text
abbrev pub damaged_set : Wide → Option ℕ → Named → DamagedVolume
damaged_set set end given = record {
  early = images_refusal set end given.names given.attached;
  refused = λ text. salvage_refusal set end text given.names given.attached;
  size = volume_reads set end given.attached;
  volume = λ text. salvage_output set false end given.attached (rescue_sections given.names text);
  cost = λ text. mapped_cost (λ sections. damaged_cost sections set) (rescue_sections given.names text);
}

-- the images of a mirror are none, too many or too short
abbrev pub limits_refusal : Option ℕ → Named → Option Refusal
limits_refusal end given = option_map (λ fault. Images fault) (limits_fault end given.names given.attached)

-- the first refusal of a damaged mirror: the images, the text, then what `mirrorwrite` refuses
unfoldable pub mended_refusal : NearSet → Option ℕ → Named → List ℕ → Option Refusal
mended_refusal set end given text = first_of (limits_refusal end given ∷ text_refusal given.names text ∷ mirror_refusal set end given.names given.attached ∷ [])

-- its bytes, by the sections of the maps: of each sector the first copy that is good
abbrev pub mended_output : NearSet → Option ℕ → List Image → Result (List Section) RescueFault → Option (List ℕ)
mended_output set end attached (Ok sections) = mended_told (told_all attached) sections set (end_of end attached)
mended_output set end attached (Err fault) = None

-- that of a mirror
abbrev pub damaged_mirror : NearSet → Option ℕ → Named → DamagedVolume
damaged_mirror set end given = record {
  early = limits_refusal end given;
  refused = mended_refusal set end given;
  size = mirror_reads set end given.attached;
  volume = λ text. mended_output set end given.attached (rescue_sections given.names text);
  cost = λ text. mapped_cost (λ sections. mended_cost sections set (end_of end given.attached)) (rescue_sections given.names text);
}

-- why the work for a damaged volume does not begin, where the maps have so much left
abbrev pub CannotBegin : DamagedVolume → Option (List ℕ) → Stop → Type 0
CannotBegin damaged = CannotBeginBy damaged.refused

-- nothing of a mirror is refused: the end of the members, and what was read of the images
pub record IsMendable (set : NearSet) (end : Option ℕ) (given : Named) (left : Option (List ℕ)) (ready : Ready) : Type 0 where
  pub end_is : ready.end ≡ end_of end given.attached
  pub allowed : IfSome left (λ text. mended_refusal set end given text ≡ None)
  pub sections : IfSome left (λ text. rescue_sections given.names text ≡ Ok ready.rescue)
  pub mirrored : IsMirrored set ready.end given.attached

-- a run by the text of the maps: it refuses what is refused, or serves the volume, in which what is lost cannot be read
abbrev pub EndsByText : DamagedVolume → Place → Place → Result (Unit {0}) NbdEnd → List ℕ → Type 0
EndsByText damaged old new result text = Ends (damaged.refused text) damaged.size (damaged.volume text) (damaged.cost text) old new result

-- How a run ends, where the maps have so much left. An image that could not be attached comes before them, and so do images that are refused.
-- Where memory was wanting nothing was taken of the source, put or read, also where the text is refused.
abbrev pub EndsMapped : DamagedVolume → Option (List ℕ) → Place → Place → Result (Unit {0}) NbdEnd → Type 0
EndsMapped damaged left old new (Err ImageFault) = IsUntouched old new × Rose old.images.faults new.images.faults
EndsMapped damaged left old new (Err MapsFault) = (damaged.early ≡ None) × IsUntouched old new × (new.images.faults ≡ old.images.faults)
EndsMapped damaged left old new (Err (Stopped OutOfMemory)) = IfSome left (λ text.
    IfSome (damaged.refused text) (λ refusal. IsUntouched old new) × IfSome (damaged.volume text) (λ bytes. wire_of new ≡ wire_of old))
EndsMapped damaged left old new result = IfSome left (EndsByText damaged old new result)

-- what was taken of the maps: nothing where the images are refused, and else 4,194,304 bytes and one more at most; their count of faults rose
-- where they are why the run ended
pub record TakesMaps (refused : Option Refusal) (left gone : Stream) (result : Result (Unit {0}) NbdEnd) : Type 0 where
  pub early : (refusal : Refusal) → refused ≡ Some refusal → (result ≡ Err (Refused refusal)) × (gone ≡ left)
  pub takes : TakesFew 4194304 left.known gone.known
  pub faults : Raises MapsFault left.faults gone.faults result

-- a damaged volume is shown over images that are attached, and stay so
pub record ShowsMapped (damaged : DamagedVolume) (old new : Place) (left gone : Stream) (result : Result (Unit {0}) NbdEnd) : Type 0 where
  pub ends : EndsMapped damaged left.known old new result
  pub attaches : IsErrOf result ImageFault → ⊥
  pub leaves : Leaves old new result
  pub attached : new.images.attached ≡ old.images.attached
  pub maps : TakesMaps damaged.early left gone result

-- a run for a damaged volume. The maps are left alone where an image could not be attached
pub record RunsDamaged (damaged : DamagedVolume) (given : Named) (old new : Place) (left gone : Stream) (result : Result (Unit {0}) NbdEnd) : Type 0 where
  pub ends : EndsMapped damaged left.known old new result
  pub leaves : Leaves old new result
  pub images : HasImages given result
  pub maps : (IsErrOf result ImageFault → ⊥) → TakesMaps damaged.early left gone result
  pub alone : IsErrOf result ImageFault → gone ≡ left

-- the damaged volume of a command
abbrev pub damaged_of : Command → Named → DamagedVolume
damaged_of (Write set end names) given = damaged_set set end given
damaged_of (MirrorWrite set end names) given = damaged_mirror set end given
damaged_of _ given = record { early = None; refused = λ text. None; size = 0; volume = λ text. None; cost = λ text asked. None }

-- a run that is asked for this; where the words are refused nothing is touched
abbrev pub RunsMapped : Result Command ℕ → Named → Place → Place → Stream → Stream → Result (Unit {0}) NbdEnd → Type 0
RunsMapped (Ok command) given old new left gone result = RunsDamaged (damaged_of command given) given old new left gone result
RunsMapped (Err number) given old new left gone result = (result ≡ Err (Refused (Word number))) × (new ≡ old) × (gone ≡ left)

-- memory ran out before the words without that of the maps were read, and nothing was touched
abbrev pub IsUnasked : Place → Place → Stream → Stream → Result (Unit {0}) NbdEnd → Type 0
IsUnasked old new left gone result = (result ≡ Err (Stopped OutOfMemory)) × (new ≡ old) × (gone ≡ left)

-- A run by its words: what one word asks for alone; the damaged volume that they ask for beside the word of the maps, which stands at a place; or
-- the volume that they ask for. Only for the second anything is taken of the maps.
abbrev pub RunsBy : Option Alone → Option ℕ → List (List ℕ) → Named → Place → Place → Stream → Stream → Result (Unit {0}) NbdEnd → Type 0
RunsBy (Some alone) maps words given old new left gone result = Tells alone old new result × (gone ≡ left)
RunsBy None (Some at) words given old new left gone result =
    IsUnasked old new left gone result ⊎ ((asked : Result Command ℕ) × AsksDamaged at words asked × RunsMapped asked given old new left gone result)
RunsBy None None words given old new left gone result = (asked : Result Command ℕ) × Asks words asked × Runs asked given old new result × (gone ≡ left)

abbrev pub RunsWords : List (List ℕ) → Named → Place → Place → Stream → Stream → Result (Unit {0}) NbdEnd → Type 0
RunsWords words given old new left gone result = RunsBy (alone_in words) (maps_at words) words given old new left gone result
