-- What a job is, and that a run of it does what the job is.
use Rattle.std.specs.Prelude.{ℕ, ◌+◌, ◌≡◌, ◌≤◌, Bool, true, false, min, length, List, Result, Ok, Err, MatchResult, OnOk, IfOk, IfErr, IsErrOf, IfSome}
use Rattle.std.specs.declared.option.Option.{Option}
use Rattle.std.specs.declared.option.Option.TheVariants.{None, Some}
use Rattle.std.specs.Io.KnownBytes.{Appends, IsAtEnd, Keeps}
use Rattle.outside.specs.Causes.{Rose}
use Rattle.outside.specs.Seen.{Image, Seen}
use Rattle.outside.specs.Streams.{AppendsFront, Stream}
use Rattle.run_ends.specs.Counts.{Raises}
use Rattle.run_ends.specs.Pieces.{AppendsPieces, Pieces}
use Rattle.run_ends.specs.Pieces.Pieces.{Sectors}
use Rattle.run_ends.specs.Source.{TakesFew}
use Rattle.run_ends.specs.Stops.{EndsBy}
use Rattle.run_ends.specs.declared.stop.Refusal.{Refusal}
use Rattle.run_ends.specs.declared.stop.Stop.{Stop}
use Rattle.run_ends.specs.declared.stop.Stop.TheVariants.{Refused, ImageFault, SourceFault, OutFault, OutOfMemory}

-- what the words name: how many images, and those of them that are attached
pub record Named : Type 0 where
  pub names : ℕ
  pub attached : List Image

abbrev pub named : ℕ → List Image → Named
named names attached = record { names = names; attached = attached }

-- what stands around a job: the images, and the source of its text
pub record Around : Type 0 where
  pub images : Seen
  pub source : Stream

abbrev pub around : Seen → Stream → Around
around images source = record { images = images; source = source }

abbrev pub stream : Option (List ℕ) → ℕ → Stream
stream known faults = record { known = known; faults = faults }

-- a job: what the text of its source says to it, and the most bytes of that text, if it takes one, and what it refuses before it does;
-- whether it puts as it reads, and in which pieces, and whether it leaves the images alone; its first refusal; its output, where what
-- that depends on is known; and what it may read, by the counts of sectors before and after, also where its work was cut short
pub record Job : Type 1 where
  pub Said : Type 0
  pub Says : Option (List ℕ) → Said → Type 0
  pub most : Option ℕ
  pub early : Named → Option Refusal
  pub streams : Bool
  pub pieces : Pieces
  pub apart : Bool
  pub refused : Said → Named → Option Refusal
  pub printed : Said → Named → Option (List ℕ)
  pub MayRead : Said → Named → Bool → ℕ → ℕ → Type 0

-- a job that takes no text, by whether it puts as it reads, its refusal, its output, and the most sectors that it reads
abbrev pub textless : Bool → (Named → Option Refusal) → (Named → Option (List ℕ)) → (Named → ℕ) → Job
textless streams refused printed most = record {
  Said = Unit {0};
  Says = λ left said. Unit {0};
  most = None;
  early = λ given. None;
  streams = streams;
  pieces = Sectors;
  apart = false;
  refused = λ said given. refused given;
  printed = λ said given. printed given;
  MayRead = λ said given cut before after. after ≤ before + most given;
}

-- a job that takes no text and leaves the images alone
abbrev pub imageless : Option Refusal → Option (List ℕ) → Job
imageless refused printed = record {
  Said = Unit {0};
  Says = λ left said. Unit {0};
  most = None;
  early = λ given. None;
  streams = false;
  pieces = Sectors;
  apart = true;
  refused = λ said given. refused;
  printed = λ said given. printed;
  MayRead = λ said given cut before after. after ≤ before;
}

-- the answer is the refusal, or has another cause; at Ok nothing is refused
pub record Refuses {T : Type 0} (refused : Option Refusal) (result : Result T Stop) : Type 0 where
  pub ends : IfErr result (EndsBy refused)
  pub passes : OnOk result (refused ≡ None)

-- how a job ends that puts in such pieces and has this first refusal, and this output where it is known: at Ok it was put, at an
-- error a front of it, of whole pieces where the images failed
pub record Ends {T : Type 0} (pieces : Pieces) (refused : Option Refusal) (printed : Option (List ℕ)) (old new : Option (List ℕ)) (result : Result T Stop) : Type 0 where
  pub refuses : Refuses refused result
  pub puts : OnOk result (IfSome printed (λ text. Appends old new text))
  pub front : IfErr result (λ stop. IfSome printed (λ text. AppendsFront old new text))
  pub whole : IsErrOf result ImageFault → IfSome printed (λ text. AppendsPieces pieces old new text)

-- at this stop a job may have put a front of its output: where the output failed, and, for a job that puts as it
-- reads, where the images failed
abbrev pub MayHavePut : Bool → Stop → Type 0
MayHavePut streams OutFault = Unit {0}
MayHavePut streams ImageFault = streams ≡ true
MayHavePut streams _ = ⊥

-- at this stop a job may have read sectors; a job that puts as it reads takes its memory before it reads
abbrev pub MayHaveRead : Bool → Stop → Type 0
MayHaveRead streams ImageFault = Unit {0}
MayHaveRead streams OutFault = Unit {0}
MayHaveRead streams OutOfMemory = streams ≡ false
MayHaveRead streams _ = ⊥

-- nothing was read or put, and the answer is no fault of the images or of the output
pub record IsUnreached {T : Type 0} (before after : ℕ) (old new : Option (List ℕ)) (result : Result T Stop) : Type 0 where
  pub unread : after ≡ before
  pub unput : Keeps old new
  pub no_image_fault : IsErrOf result ImageFault → ⊥
  pub no_out_fault : IsErrOf result OutFault → ⊥

-- what is refused comes before the job itself
abbrev pub Orders : {T : Type 0} → Option Refusal → ℕ → ℕ → Option (List ℕ) → Option (List ℕ) → Result T Stop → Type 0
Orders refused before after old new result = (refusal : Refusal) → refused ≡ Some refusal → IsUnreached before after old new result

-- the work was cut short: the images failed, or memory ran out
abbrev pub is_cut : {T : Type 0} → Result T Stop → Bool
is_cut (Err ImageFault) = true
is_cut (Err OutOfMemory) = true
is_cut _ = false

-- what is taken of the source: nothing, or few bytes, and at Ok all of them
abbrev pub Takes : {T : Type 0} → Option ℕ → Stream → Stream → Result T Stop → Type 0
Takes None old new result = new ≡ old
Takes (Some most) old new result = TakesFew most old.known new.known × OnOk result (IsAtEnd new.known)

-- this refusal comes before anything is taken of the source, and whatever that would say or do
abbrev pub EndsEarly : {T : Type 0} → Option Refusal → Stream → Stream → Result T Stop → Type 0
EndsEarly refused old new result = (refusal : Refusal) → refused ≡ Some refusal → (result ≡ Err (Refused refusal)) × (new ≡ old)

-- the cause of the answer is neither the outside nor memory
abbrev pub IsOwn : {T : Type 0} → Result T Stop → Type 0
IsOwn (Ok x) = Unit {0}
IsOwn (Err (Refused refusal)) = Unit {0}
IsOwn (Err _) = ⊥

-- the text says something to the job, where it is known
abbrev pub IsSaid : Job → Option (List ℕ) → Type 0
IsSaid job left = IfSome left (λ text. (said : job.Said) × job.Says (Some text) said)

-- what a job makes of its text, if it takes one: what it refuses early, once all images are attached, it refuses before it takes of it; and
-- the text says something to it, unless the outside or memory is the cause of its answer
abbrev pub Heeds : {T : Type 0} → Job → Option ℕ → Named → Stream → Stream → Result T Stop → Type 0
Heeds job None given old new result = Unit {0}
Heeds job (Some most) given old new result =
    (length given.attached ≡ min given.names 65536 → EndsEarly (job.early given) old new result) × (IsOwn result → IsSaid job old.known)

-- what a job leaves: each count of faults rose where that fault is the answer, and is as it was elsewhere; nothing is put but at Ok and where
-- it may be, and nothing is read but at Ok and where it may be
pub record Leaves {T : Type 0} (streams : Bool) (before after : Around) (old new : Stream) (result : Result T Stop) : Type 0 where
  pub images : Raises ImageFault before.images.faults after.images.faults result
  pub source : Raises SourceFault before.source.faults after.source.faults result
  pub out : Raises OutFault old.faults new.faults result
  pub unput : IfErr result (λ stop. (MayHavePut streams stop → ⊥) → Keeps old.known new.known)
  pub unread : IfErr result (λ stop. (MayHaveRead streams stop → ⊥) → after.images.sectors_read ≡ before.images.sectors_read)

-- a job is done: it ends by its refusal, its output or a fault, in its order, and reads, takes and leaves what it may
pub record Does {T : Type 0} (job : Job) (given : Named) (before after : Around) (old new : Stream) (result : Result T Stop) : Type 0 where
  pub ends : (said : job.Said) → job.Says before.source.known said → Ends job.pieces (job.refused said given) (job.printed said given) old.known new.known result
  pub order : (said : job.Said) → job.Says before.source.known said → length given.attached ≡ min given.names 65536 →
      Orders (job.refused said given) before.images.sectors_read after.images.sectors_read old.known new.known result
  pub reads : (said : job.Said) → job.Says before.source.known said → job.MayRead said given (is_cut result) before.images.sectors_read after.images.sectors_read
  pub takes : Takes job.most before.source after.source result
  pub heeds : Heeds job job.most given before.source after.source result
  pub leaves : Leaves job.streams before after old new result
  pub apart : job.apart ≡ true → after.images ≡ before.images
  pub world : after.images.world ≡ before.images.world

-- the causes of an answer that is found before anything is put
pub record HasCauses {T : Type 0} (before after : Around) (answer : Result T Stop) : Type 0 where
  pub images : Raises ImageFault before.images.faults after.images.faults answer
  pub source : Raises SourceFault before.source.faults after.source.faults answer
  pub unput : IsErrOf answer OutFault → ⊥
  pub unread : IfErr answer (λ stop. (MayHaveRead false stop → ⊥) → after.images.sectors_read ≡ before.images.sectors_read)

-- the answer of a job is found, which has yet to be put
pub record Answers (job : Job) (given : Named) (before after : Around) (answer : Result (List ℕ) Stop) : Type 0 where
  pub refuses : (said : job.Said) → job.Says before.source.known said → Refuses (job.refused said given) answer
  pub text : (said : job.Said) → job.Says before.source.known said → IfOk answer (λ text. IfSome (job.printed said given) (λ printed. text ≡ printed))
  pub order : (said : job.Said) → job.Says before.source.known said → Orders (job.refused said given) before.images.sectors_read after.images.sectors_read None None answer
  pub reads : (said : job.Said) → job.Says before.source.known said → job.MayRead said given (is_cut answer) before.images.sectors_read after.images.sectors_read
  pub takes : Takes job.most before.source after.source answer
  pub heeds : Heeds job job.most given before.source after.source answer
  pub causes : HasCauses before after answer
  pub apart : job.apart ≡ true → after.images ≡ before.images
  pub world : after.images.world ≡ before.images.world

-- an answer is put whole, or a front of it where the output fails; without an answer nothing is put
abbrev pub IsPrinted : {T : Type 0} → Stream → Stream → Result (List ℕ) Stop → Result T Stop → Type 0
IsPrinted old new (Err stop) result = (result ≡ Err stop) × (new ≡ old)
IsPrinted old new (Ok text) result =
    MatchResult result
    (λ _. Appends old.known new.known text × (new.faults ≡ old.faults))
    (λ stop. (stop ≡ OutFault) × AppendsFront old.known new.known text × Rose old.faults new.faults × (old.faults ≤ new.faults))
