-- What a run answers.
use Rattle.std.specs.Prelude.{ℕ, ◌≡◌, ◌≢◌, ◌||◌, ◌==◌, Bool, List, [], length, Result}
use Rattle.std.specs.declared.option.Option.{Option}
use Rattle.std.specs.declared.option.Option.TheVariants.{None, Some}
use Rattle.std.specs.Io.KnownBytes.{Appends, IsAtEnd, Keeps}
use Rattle.outside.specs.Seen.{Image}
use Rattle.outside.specs.Streams.{AppendsFront, Stream}
use Rattle.command_words.specs.Commands.{Reads, names_after}
use Rattle.command_words.specs.declared.command.Command.{Command}
use Rattle.run_ends.specs.Jobs.{Named, named}
use Rattle.run_ends.specs.Source.{TakesFew}
use Rattle.run_ends.specs.Stops.{note_of, status_of}
use Rattle.run_ends.specs.declared.stop.Refusal.{Refusal}
use Rattle.run_ends.specs.declared.stop.Stop.TheVariants.{Refused}
use Rattle.reraid_cli.specs.Table.{job_of}

-- what a run is asked: the command that the words say, or the refused word; and what the text that the source had left
-- says to its job
pub record Reading (words : List (List ℕ)) (left : Option (List ℕ)) : Type 0 where
  pub command : Result Command ℕ
  pub reads : Reads words command
  pub said : (job_of command).Said
  pub says : (job_of command).Says left said

-- the images that the words name, of which these are attached
abbrev pub named_by : List (List ℕ) → List Image → Named
named_by words attached = named (length (names_after words)) attached

-- the first refusal of a run, in the order of work
abbrev pub refusal : {words : List (List ℕ)} → {left : Option (List ℕ)} → Reading words left → List Image → Option Refusal
refusal {words} reading attached = (job_of reading.command).refused reading.said (named_by words attached)

-- what a run prints, where what it depends on is known
abbrev pub output : {words : List (List ℕ)} → {left : Option (List ℕ)} → Reading words left → List Image → Option (List ℕ)
output {words} reading attached = (job_of reading.command).printed reading.said (named_by words attached)

-- what a run may read of the images, by the counts of sectors before and after, where its work was cut short or not
abbrev pub MayRead : {words : List (List ℕ)} → {left : Option (List ℕ)} → Reading words left → List Image → Bool → ℕ → ℕ → Type 0
MayRead {words} reading attached cut before after = (job_of reading.command).MayRead reading.said (named_by words attached) cut before after

-- the status where nothing outside is the cause
abbrev pub status_by : Option Refusal → ℕ
status_by None = 0
status_by (Some refused) = status_of (Refused refused)

-- the line where there is one
abbrev pub note_by : Option Refusal → List ℕ
note_by None = []
note_by (Some refused) = note_of (Refused refused)

-- the work was cut short at this status: the images failed, or memory ran out
abbrev pub is_cut_status : ℕ → Bool
is_cut_status status = (status == 10) || (status == 20)

-- what is taken of the source by this status: nothing, or few bytes, and at status 0 all of them
abbrev pub TakesBy : Option ℕ → Stream → Stream → ℕ → Type 0
TakesBy None old new status = new ≡ old
TakesBy (Some most) old new status = TakesFew most old.known new.known × (status ≡ 0 → IsAtEnd new.known)

-- the cause of this status is neither the outside nor memory
pub record IsExact (status : ℕ) : Type 0 where
  pub no_image_fault : status ≢ 10
  pub no_source_fault : status ≢ 11
  pub no_out_fault : status ≢ 12
  pub no_want : status ≢ 20

-- the notes gained the line, or a front of it where they failed
pub record IsNoted (faults : ℕ) (old new : Option (List ℕ)) (noted : List ℕ) : Type 0 where
  pub front : AppendsFront old new noted
  pub whole : faults ≡ 0 → Appends old new noted

-- nothing was read or put, and the status is not that of a fault of the images or of the output
pub record IsOrdered (before after : ℕ) (old new : Option (List ℕ)) (status : ℕ) : Type 0 where
  pub unread : after ≡ before
  pub unput : Keeps old new
  pub no_image_fault : status ≢ 10
  pub no_out_fault : status ≢ 12
