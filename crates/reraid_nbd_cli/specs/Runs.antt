-- What a run does.
use Rattle.std.specs.Prelude.{ℕ, ◌≡◌, ◌<◌, ◌≤◌, ◌^◌, min, Bool, List, length, All, IfSome, IfOk, IfErr, IsErrOf, MatchResult, Result, Ok, Err}
use Rattle.std.specs.declared.option.Option.{Option}
use Rattle.std.specs.declared.option.Option.TheVariants.{None, Some}
use Rattle.std.specs.Io.KnownBytes.{Appends}
use Rattle.block_device.specs.Reading.{Answers, Asked, Counts, counts_of}
use Rattle.command_words.specs.declared.command.Command.{Command}
use Rattle.command_words.specs.declared.command.Command.TheVariants.{Write, MirrorWrite}
use Rattle.near_jobs.specs.MirrorWriting.{mirror_output, mirror_reads, mirror_refusal}
use Rattle.nbd_server.specs.Served.{Serves}
use Rattle.nbd_server.specs.Turns.{Wire, wire}
use Rattle.nbd_server.specs.declared.stop.NbdStop.{NbdStop}
use Rattle.nbd_server.specs.declared.stop.NbdStop.TheVariants.{SourceFault, OutFault}
use Rattle.nbd_text.specs.Dialogue.{dialogue}
use Rattle.outside.specs.Attached.{told_all}
use Rattle.outside.specs.Causes.{Rose}
use Rattle.outside.specs.Seen.{Image, Seen}
use Rattle.outside.specs.Streams.{AppendsFront, Stream}
use Rattle.program_texts.specs.Texts.{nbd_help_text, nbd_version_text}
use Rattle.raid_params.specs.declared.types.Geometry.{Geometry}
use Rattle.run_ends.specs.Counts.{Raises}
use Rattle.run_ends.specs.Jobs.{Named, stream}
use Rattle.run_ends.specs.declared.stop.Refusal.{Refusal}
use Rattle.run_ends.specs.declared.stop.Refusal.TheVariants.{Word}
use Rattle.set_jobs.specs.Mapping.{set_refusal}
use Rattle.set_jobs.specs.Writing.{told_for, volume_reads, write_output}
use Rattle.volume_device.specs.Cost.{range_cost}
use Rattle.reraid_nbd_cli.specs.declared.ends.NbdEnd.{NbdEnd}
use Rattle.reraid_nbd_cli.specs.declared.ends.NbdEnd.TheVariants.{Refused, ImageFault, MapsFault, Long, Stopped}
use Rattle.reraid_nbd_cli.specs.declared.telling.Alone.{Alone}
use Rattle.reraid_nbd_cli.specs.declared.telling.Alone.TheVariants.{Help, Version}

-- what a run stands between: the images, the source and the sink
pub record Place : Type 0 where
  pub images : Seen
  pub source : Stream
  pub out : Stream

abbrev pub place : Seen → Stream → Stream → Place
place images source out = record { images = images; source = source; out = out }

-- of objects, by what is seen of the images, by the bytes left in the source and the bytes that the sink gained, each with its count of faults
abbrev pub place_of : {I S K : Type 0} → (I → Seen) → (S → Option (List ℕ)) → (S → ℕ) → (K → Option (List ℕ)) → (K → ℕ) → I → S → K → Place
place_of seen left taken gained put images source out = place (seen images) (stream (left source) (taken source)) (stream (gained out) (put out))

-- as the server sees it: of the images their counts
abbrev pub wire_of : Place → Wire Counts
wire_of place = wire place.source.known place.out.known (counts_of place.images)

-- what a reading of sectors does to the counts of the images, where these sectors cost so many of the images', or one of them is lost: then it
-- fails, and nothing is read
abbrev pub costing : (Asked → Option ℕ) → Counts → Asked → Bool → Counts → Type 0
costing cost before asked failed after = Answers (cost asked) failed before after

-- the first refusal: the word, or what the command refuses
abbrev pub refusal : Result Command ℕ → Named → Option Refusal
refusal (Err number) given = Some (Word number)
refusal (Ok (Write set end names)) given = set_refusal set end given.names given.attached
refusal (Ok (MirrorWrite set end names)) given = mirror_refusal set end given.names given.attached
refusal (Ok _) given = None

-- the volume that is served, where the images are known: what the command puts
abbrev pub volume : Result Command ℕ → Named → Option (List ℕ)
volume (Ok (Write set end names)) given = write_output set end given.attached (told_for set given.attached)
volume (Ok (MirrorWrite set end names)) given = mirror_output set end given.attached (told_all given.attached)
volume _ given = None

-- its sectors
abbrev pub sectors : Result Command ℕ → Named → ℕ
sectors (Ok (Write set end names)) given = volume_reads set end given.attached
sectors (Ok (MirrorWrite set end names)) given = mirror_reads set end given.attached
sectors _ given = 0

-- how many sectors of the images may be read for sectors of it
abbrev pub costs_of : Geometry → Asked → Option ℕ
costs_of geo asked = Some (range_cost geo asked.first asked.count)

abbrev pub mirror_cost : Asked → Option ℕ
mirror_cost asked = Some asked.count

abbrev pub cost : Result Command ℕ → Asked → Option ℕ
cost (Ok (Write set end names)) = costs_of set.geo
cost (Ok (MirrorWrite set end names)) = mirror_cost
cost _ = λ asked. Some 0

-- nothing was taken, put or read
pub record IsUntouched (old new : Place) : Type 0 where
  pub source : new.source ≡ old.source
  pub out : new.out ≡ old.out
  pub unread : new.images.sectors_read ≡ old.images.sectors_read

-- nothing is refused, the length of the volume can be told, what was put is what the dialogue over its bytes says for what was taken, and
-- images were read for the requests alone, no more of them than these cost
pub record IsServed (refused : Option Refusal) (size : ℕ) (content : Option (List ℕ)) (cost : Asked → Option ℕ) (old new : Place) (result : Result (Unit {0}) NbdStop) : Type 0 where
  pub allowed : refused ≡ None
  pub short : size < 2 ^ 54
  pub serves : IfSome content (λ bytes. Serves (costing cost) (dialogue bytes) (wire_of old) (wire_of new) result)

-- how a run ends, by its first refusal, and by the sectors and the bytes of the volume, and what its sectors cost
abbrev pub Ends : Option Refusal → ℕ → Option (List ℕ) → (Asked → Option ℕ) → Place → Place → Result (Unit {0}) NbdEnd → Type 0
Ends refused size content cost old new (Ok done) = IsServed refused size content cost old new (Ok done)
Ends refused size content cost old new (Err (Stopped stop)) = IsServed refused size content cost old new (Err stop)
Ends refused size content cost old new (Err (Long n)) = (refused ≡ None) × (n ≡ size) × (2 ^ 54 ≤ size) × IsUntouched old new × (new.images.faults ≡ old.images.faults)
Ends refused size content cost old new (Err (Refused refusal)) = (refused ≡ Some refusal) × IsUntouched old new × (new.images.faults ≡ old.images.faults)
Ends refused size content cost old new (Err ImageFault) = IsUntouched old new × Rose old.images.faults new.images.faults
Ends refused size content cost old new (Err MapsFault) = ⊥

-- each count of faults rose where that fault is the end, and stayed elsewhere; that of the images may rise while they are read. Nothing outside is changed
pub record Leaves (old new : Place) (result : Result (Unit {0}) NbdEnd) : Type 0 where
  pub source : Raises (Stopped SourceFault) old.source.faults new.source.faults result
  pub out : Raises (Stopped OutFault) old.out.faults new.out.faults result
  pub later : old.images.faults ≤ new.images.faults
  pub world : new.images.world ≡ old.images.world

-- there are as many images as names, or 65,536 where there are more names, and each is shorter than 2^55 sectors
pub record AreImages (names : ℕ) (images : List Image) : Type 0 where
  pub many : length images ≡ min names 65536
  pub small : All (λ image. image.sectors < 2 ^ 55) images

-- the volume is shown over images that are attached, and stay so
pub record Shows (refused : Option Refusal) (size : ℕ) (content : Option (List ℕ)) (cost : Asked → Option ℕ) (old new : Place) (result : Result (Unit {0}) NbdEnd) : Type 0 where
  pub ends : Ends refused size content cost old new result
  pub attaches : IsErrOf result ImageFault → ⊥
  pub leaves : Leaves old new result
  pub attached : new.images.attached ≡ old.images.attached

-- all images of the names are attached, or the first 65,536 of them, but where one cannot be
abbrev pub HasImages : Named → Result (Unit {0}) NbdEnd → Type 0
HasImages given (Err ImageFault) = length given.attached < min given.names 65536
HasImages given _ = length given.attached ≡ min given.names 65536

-- a run that is asked for this, over the images that the words name
pub record Runs (asked : Result Command ℕ) (given : Named) (old new : Place) (result : Result (Unit {0}) NbdEnd) : Type 0 where
  pub ends : Ends (refusal asked given) (sectors asked given) (volume asked given) (cost asked) old new result
  pub leaves : Leaves old new result
  pub images : IfOk asked (λ command. HasImages given result)
  pub none : IfErr asked (λ number. new.images ≡ old.images)

-- the text that a word asks for alone
abbrev pub alone_text : Alone → List ℕ
alone_text Help = nbd_help_text
alone_text Version = nbd_version_text

-- the text was put whole, or a front of it where the output failed
abbrev pub PutsText : List ℕ → Stream → Stream → Result (Unit {0}) NbdEnd → Type 0
PutsText text old new result =
    MatchResult result
    (λ done. Appends old.known new.known text × (new.faults ≡ old.faults))
    (λ end. (end ≡ Stopped OutFault) × AppendsFront old.known new.known text × Rose old.faults new.faults)

-- a word asks for this alone: its text is put, and the source and the images are left alone
pub record Tells (alone : Alone) (old new : Place) (result : Result (Unit {0}) NbdEnd) : Type 0 where
  pub puts : PutsText (alone_text alone) old.out new.out result
  pub source : new.source ≡ old.source
  pub images : new.images ≡ old.images
