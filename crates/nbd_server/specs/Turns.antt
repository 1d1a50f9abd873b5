-- What one turn of a dialogue does.
use Rattle.std.specs.Prelude.{ℕ, ◌≡◌, ◌≢◌, ◌<◌, Bool, List, [], ◌∷◌, length, Result, Ok, Err}
use Rattle.std.specs.Io.KnownBytes.{Appends, Consumes, IsAtEnd}
use Rattle.std.specs.declared.option.Option.{Option}
use Rattle.std.specs.declared.option.Option.TheVariants.{None, Some}
use Rattle.block_device.specs.Reading.{Asked, asked_for}
use Rattle.outside.specs.Streams.{AppendsFront, Puts}
use Rattle.nbd_text.specs.Dialogue.{message_length, turn_of}
use Rattle.nbd_text.specs.Options.{Turn}
use Rattle.nbd_text.specs.Requests.{Reading, readings_of, reply_of}
use Rattle.nbd_text.specs.declared.heads.Request.{Request}
use Rattle.nbd_text.specs.declared.phase.Phase.{Phase}
use Rattle.nbd_server.specs.declared.stop.NbdStop.{NbdStop}
use Rattle.nbd_server.specs.declared.stop.NbdStop.TheVariants.{SourceFault, OutFault, Malformed, OutOfMemory}

-- what a server stands between: the bytes that the source has left and that the sink holds, where they are known, and the device
pub record Wire (D : Type 0) : Type 0 where
  pub left : Option (List ℕ)
  pub gained : Option (List ℕ)
  pub device : D

-- the wire as the three see it
abbrev pub wire : {D : Type 0} → Option (List ℕ) → Option (List ℕ) → D → Wire D
wire left gained device = record { left = left; gained = gained; device = device }

-- The device after these readings, one after the other. It was asked for the sectors of each request and for no others; `reads` says what
-- a reading may do.
abbrev pub ReadInTurn : {D : Type 0} → (D → Asked → Bool → D → Type 0) → D → List Reading → D → Type 0
ReadInTurn reads before [] after = after ≡ before
ReadInTurn {D = D} reads before (reading ∷ others) after =
    (mid : D) × reads before (asked_for reading.request.offset reading.request.length) reading.failed mid × ReadInTurn reads mid others after

-- nothing was put, and the device was not read
abbrev pub IsQuiet : {D : Type 0} → Wire D → Wire D → Type 0
IsQuiet old new = Appends old.gained new.gained [] × (new.device ≡ old.device)

-- the request is answered of a device that holds `content`: it was read for the request, or not, and the reply was put, or a front of it
abbrev pub Replies : {D T E : Type 0} → (D → Asked → Bool → D → Type 0) → List ℕ → Request → Wire D → Wire D → Result T E → Type 0
Replies reads content request old new result =
    (failed : Bool) × ReadInTurn reads old.device (readings_of (length content) failed request) new.device × Puts old.gained new.gained result (reply_of content failed request)

-- the message is whole, and its turn leads there
abbrev pub Leads : {D : Type 0} → (D → Asked → Bool → D → Type 0) → List ℕ → Phase → Wire D → Wire D → List ℕ → (Turn → Type 0) → Type 0
Leads reads content phase old new message P =
    (length message ≡ message_length phase message)
    × ((failed : Bool) × ReadInTurn reads old.device (turn_of content phase failed message).readings new.device × P (turn_of content phase failed message))

-- What came of the bytes that were taken in a phase: a whole message had its turn; the input ended before a message; it ended inside
-- one; the source failed before or inside one; or the sink failed, which may have taken a front of the reply.
abbrev pub Comes : {D : Type 0} → (D → Asked → Bool → D → Type 0) → List ℕ → Phase → Wire D → Wire D → List ℕ → Result (Option Phase) NbdStop → Type 0
Comes reads content phase old new message (Ok (Some next)) = Leads reads content phase old new message (λ turn. (turn.phase ≡ next) × Appends old.gained new.gained turn.reply)
Comes reads content phase old new message (Ok None) = (message ≡ []) × IsAtEnd new.left × IsQuiet old new
Comes reads content phase old new message (Err Malformed) = (message ≢ []) × (length message < message_length phase message) × IsAtEnd new.left × IsQuiet old new
Comes reads content phase old new message (Err SourceFault) = (length message < message_length phase message) × IsQuiet old new
Comes reads content phase old new message (Err OutFault) = Leads reads content phase old new message (λ turn. AppendsFront old.gained new.gained turn.reply)
Comes reads content phase old new message (Err OutOfMemory) = ⊥

-- one turn in a phase
abbrev pub Turns : {D : Type 0} → (D → Asked → Bool → D → Type 0) → List ℕ → Phase → Wire D → Wire D → Result (Option Phase) NbdStop → Type 0
Turns reads content phase old new result = (message : List ℕ) × Consumes old.left new.left message × Comes reads content phase old new message result
