-- What serving a device does, over any source and any sink.
use Rattle.std.specs.Prelude.{ℕ, ◌≡◌, ◌≢◌, ◌≤◌, ◌-◌, ◌^◌, ◌⊎◌, Bool, List, [], ◌∷◌, ◌++◌, length, take, true, Result, Ok, Err}
use Rattle.std.specs.Io.KnownBytes.{Appends, Consumes, IsAtEnd}
use Rattle.std.specs.List.{concat}
use Rattle.std.specs.declared.option.Option.{Option}
use Rattle.block_device.specs.Reading.{Asked}
use Rattle.nbd_text.specs.Dialogue.{Said, is_open}
use Rattle.nbd_text.specs.declared.phase.Phase.{Phase}
use Rattle.nbd_text.specs.declared.phase.Phase.TheVariants.{Closed, Malformed as MalformedPhase}
use Rattle.nbd_server.specs.Turns.{ReadInTurn, Wire}
use Rattle.nbd_server.specs.declared.stop.NbdStop.{NbdStop}
use Rattle.nbd_server.specs.declared.stop.NbdStop.TheVariants.{SourceFault, OutFault, Malformed, OutOfMemory}

-- no byte was taken behind the last message, and the client ended the dialogue, or the input ended; or 2^64 - 1 bytes or more were taken
abbrev pub IsDone : Said → Option (List ℕ) → List ℕ → Type 0
IsDone said left taken = (said.rest ≡ []) × ((said.phase ≡ Closed) ⊎ ((is_open said.phase ≡ true) × (IsAtEnd left ⊎ (2 ^ 64 - 1 ≤ length taken))))

-- the client sent what is not allowed, and no byte was taken behind it; or the input ended inside a message
abbrev pub IsBroken : Said → Option (List ℕ) → Type 0
IsBroken said left = ((said.phase ≡ MalformedPhase) × (said.rest ≡ [])) ⊎ ((is_open said.phase ≡ true) × (said.rest ≢ []) × IsAtEnd left)

-- known bytes grow by all replies but the last, and by a front of that
pub record AppendsCut (old new : Option (List ℕ)) (replies : List (List ℕ)) : Type 0 where
  pub whole : List (List ℕ)
  pub last : List ℕ
  pub parts : replies ≡ whole ++ last ∷ []
  pub count : ℕ
  pub few : count ≤ length last
  pub appends : Appends old new (concat whole ++ take count last)

-- What was said for the bytes taken was put, and how the dialogue stands is how the run ends. Where the source fails, each whole message
-- was answered, and more was wanted. Where the sink fails, no byte was taken behind the last message, and all those before it were answered
-- whole: so no reply waits for what follows its message.
abbrev pub EndsBy : {D : Type 0} → Said → Wire D → Wire D → List ℕ → Result (Unit {0}) NbdStop → Type 0
EndsBy said old new taken (Ok done) = Appends old.gained new.gained (concat said.replies) × IsDone said new.left taken
EndsBy said old new taken (Err Malformed) = Appends old.gained new.gained (concat said.replies) × IsBroken said new.left
EndsBy said old new taken (Err SourceFault) = Appends old.gained new.gained (concat said.replies) × (is_open said.phase ≡ true)
EndsBy said old new taken (Err OutFault) = AppendsCut old.gained new.gained said.replies × (said.rest ≡ [])
EndsBy said old new taken (Err OutOfMemory) = ⊥

-- how a run ends in a phase that is over
abbrev pub end_of : Phase → Result (Unit {0}) NbdStop
end_of MalformedPhase = Err Malformed
end_of _ = Ok tt

-- A run that had its memory, where `say` tells what is said for bytes taken, if these readings of the device fail: some bytes were taken, some readings
-- failed, the device was read for the requests among the bytes and for nothing else, and what was put and how the run ended are as is said.
pub record Talks {D : Type 0} (reads : D → Asked → Bool → D → Type 0) (say : List Bool → List ℕ → Said) (old new : Wire D) (result : Result (Unit {0}) NbdStop) : Type 0 where
  pub taken : List ℕ
  pub failed : List Bool
  pub consumed : Consumes old.left new.left taken
  pub read : ReadInTurn reads old.device (say failed taken).readings new.device
  pub ends : EndsBy (say failed taken) old new taken result

-- a run: where memory is wanting nothing is done
abbrev pub Serves : {D : Type 0} → (D → Asked → Bool → D → Type 0) → (List Bool → List ℕ → Said) → Wire D → Wire D → Result (Unit {0}) NbdStop → Type 0
Serves reads say old new (Ok done) = Talks reads say old new (Ok done)
Serves reads say old new (Err Malformed) = Talks reads say old new (Err Malformed)
Serves reads say old new (Err SourceFault) = Talks reads say old new (Err SourceFault)
Serves reads say old new (Err OutFault) = Talks reads say old new (Err OutFault)
Serves reads say old new (Err OutOfMemory) = new ≡ old
