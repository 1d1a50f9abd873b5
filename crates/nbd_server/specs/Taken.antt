-- What was taken of a source, where a number of bytes was asked for.
use Rattle.std.specs.Prelude.{ℕ, true, false, Bool, ◌≡◌, ◌≢◌, ◌<◌, ◌≤◌, List, [], length, take, Result, Ok, Err, IsErrOf}
use Rattle.std.specs.Io.KnownBytes.{Consumes, IsAtEnd}
use Rattle.std.specs.declared.option.Option.{Option}
use Rattle.outside.specs.Causes.{Rose}
use Rattle.nbd_server.specs.declared.stop.NbdStop.{NbdStop}
use Rattle.nbd_server.specs.declared.stop.NbdStop.TheVariants.{SourceFault, OutFault, Malformed, OutOfMemory}

-- fewer bytes than asked for were taken
abbrev pub TakesFewer : ℕ → Option (List ℕ) → Option (List ℕ) → Type 0
TakesFewer asked old new = (part : List ℕ) × Consumes old new part × (length part < asked)

-- these bytes were taken of those that were asked for: fewer only at the end
abbrev pub TakesFront : ℕ → Option (List ℕ) → Option (List ℕ) → List ℕ → Type 0
TakesFront asked old new part = Consumes old new part × (length part ≤ asked) × (length part < asked → IsAtEnd new)

-- so many bytes were taken into the buffer
abbrev pub Fills : {E : Type 0} → Option (List ℕ) → Option (List ℕ) → List ℕ → Result ℕ E → Type 0
Fills old new buffer (Ok count) = (count ≤ length buffer) × TakesFront (length buffer) old new (take count buffer)
Fills old new buffer (Err e) = TakesFewer (length buffer) old new

-- so many bytes were taken and let go
abbrev pub Skips : {E : Type 0} → ℕ → Option (List ℕ) → Option (List ℕ) → Result ℕ E → Type 0
Skips asked old new (Ok count) = (part : List ℕ) × TakesFront asked old new part × (length part ≡ count)
Skips asked old new (Err e) = TakesFewer asked old new

-- some bytes were taken, fewer than asked for, and no more are left
abbrev pub IsCutShort : ℕ → Option (List ℕ) → Option (List ℕ) → Type 0
IsCutShort asked old new = (part : List ℕ) × Consumes old new part × (length part < asked) × IsAtEnd new

-- why not all bytes that were asked for were taken
abbrev pub Wants : ℕ → Option (List ℕ) → Option (List ℕ) → NbdStop → Type 0
Wants asked old new SourceFault = TakesFewer asked old new
Wants asked old new Malformed = IsCutShort asked old new
Wants asked old new OutFault = ⊥
Wants asked old new OutOfMemory = ⊥

-- all bytes that were asked for were taken, or it is said why not
abbrev pub TakesOr : {T : Type 0} → ℕ → Option (List ℕ) → Option (List ℕ) → (T → List ℕ → Type 0) → Result T NbdStop → Type 0
TakesOr asked old new P (Ok x) = (part : List ℕ) × Consumes old new part × (length part ≡ asked) × P x part
TakesOr asked old new P (Err stop) = Wants asked old new stop

-- the head of a message was taken, or the source had ended
abbrev pub TakesHead : Option (List ℕ) → Option (List ℕ) → List ℕ → Result Bool NbdStop → Type 0
TakesHead old new head (Ok true) = Consumes old new head
TakesHead old new head (Ok false) = Consumes old new [] × IsAtEnd new
TakesHead old new head (Err SourceFault) = TakesFewer (length head) old new
TakesHead old new head (Err Malformed) = (part : List ℕ) × Consumes old new part × (length part < length head) × (part ≢ []) × IsAtEnd new
TakesHead old new head (Err OutFault) = ⊥
TakesHead old new head (Err OutOfMemory) = ⊥

-- the count rose where the answer is this fault, and at every other answer it is as it was
pub record Raises {T E : Type 0} (fault : E) (before after : ℕ) (result : Result T E) : Type 0 where
  pub rose : IsErrOf result fault → Rose before after
  pub stays : (IsErrOf result fault → ⊥) → after ≡ before
  pub later : before ≤ after
