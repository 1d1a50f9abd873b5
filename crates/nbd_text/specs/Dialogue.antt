-- A whole dialogue: what is put for the bytes that are taken.
use Rattle.std.specs.Prelude.{ℕ, zero, suc, ◌+◌, Bool, true, false, nat_le, ◌==◌, ◌&&◌, if◌then◌else◌, List, [], ◌∷◌, ◌++◌, length, drop, take}
use Rattle.std.specs.declared.option.Option.{Option}
use Rattle.std.specs.declared.option.Option.TheVariants.{None, Some}
use Rattle.nbd_text.specs.Fields.{u32_at, u64_at}
use Rattle.nbd_text.specs.Options.{Turn, answered, greeting, flags_phase, export_answer, option_answer}
use Rattle.nbd_text.specs.Requests.{Reading, readings_of, reply_of, request_of}
use Rattle.nbd_text.specs.declared.heads.Request.{Request}
use Rattle.nbd_text.specs.declared.numbers.TheConstants.{IHAVEOPT, FLAGS_HEAD, OPTION_HEAD, OPT_EXPORT_NAME, REQUEST_HEAD, CMD_WRITE, CMD_DISC}
use Rattle.nbd_text.specs.declared.phase.Phase.{Phase}
use Rattle.nbd_text.specs.declared.phase.Phase.TheVariants.{Flags, Options, Requests, Closed, Malformed}

-- the bytes of data behind the head of an option: none are looked for behind a wrong magic number or NBD_OPT_EXPORT_NAME
unfoldable pub option_data : List ℕ → ℕ
option_data bytes =
    if u64_at 0 bytes == IHAVEOPT
    then (if u32_at 8 bytes == OPT_EXPORT_NAME then 0 else u32_at 12 bytes)
    else 0

-- the bytes of data behind a request: those of a write
abbrev pub data_length : Option Request → ℕ
data_length None = 0
data_length (Some request) = if request.command == CMD_WRITE then request.length else 0

-- the bytes of the message that comes next, as far as its head is there; 0 where the dialogue is over
abbrev pub message_length : Phase → List ℕ → ℕ
message_length Flags bytes = FLAGS_HEAD
message_length (Options plain) bytes = OPTION_HEAD + option_data bytes
message_length Requests bytes = REQUEST_HEAD + data_length (request_of bytes)
message_length Closed bytes = 0
message_length Malformed bytes = 0

-- a whole option: a wrong magic number is malformed
unfoldable pub option_turn : ℕ → Bool → List ℕ → Turn
option_turn size plain bytes =
    if u64_at 0 bytes == IHAVEOPT
    then (
    if u32_at 8 bytes == OPT_EXPORT_NAME
    then export_answer size plain (u32_at 12 bytes)
    else option_answer size plain (u32_at 8 bytes) (drop OPTION_HEAD bytes)
    )
    else answered [] Malformed

-- a whole request: NBD_CMD_DISC is not answered, and a wrong magic number is malformed
abbrev pub request_turn : List ℕ → Bool → Option Request → Turn
request_turn content failed None = answered [] Malformed
request_turn content failed (Some request) =
    if request.command == CMD_DISC then answered [] Closed
    else record { reply = reply_of content failed request; phase = Requests; readings = readings_of (length content) failed request }

-- a whole message; `failed` says that the device failed, where it was read
abbrev pub turn_of : List ℕ → Phase → Bool → List ℕ → Turn
turn_of content Flags failed bytes = answered [] (flags_phase (u32_at 0 bytes))
turn_of content (Options plain) failed bytes = option_turn (length content) plain bytes
turn_of content Requests failed bytes = request_turn content failed (request_of bytes)
turn_of content Closed failed bytes = answered [] Closed
turn_of content Malformed failed bytes = answered [] Malformed

-- the dialogue goes on
abbrev pub is_open : Phase → Bool
is_open Flags = true
is_open (Options plain) = true
is_open Requests = true
is_open Closed = false
is_open Malformed = false

-- what came of bytes: the reply to each message in order, some of them empty; where the dialogue stands, the bytes of the next message
-- as far as they came, and the readings of the device
pub record Said : Type 0 where
  pub replies : List (List ℕ)
  pub phase : Phase
  pub rest : List ℕ
  pub readings : List Reading

-- nothing more is said
abbrev pub silent : Phase → List ℕ → Said
silent phase rest = record { replies = []; phase = phase; rest = rest; readings = [] }

-- one turn, and what came after it
abbrev pub joined : Turn → Said → Said
joined turn after = record after { replies = turn.reply ∷ after.replies; readings = turn.readings ++ after.readings }

-- whether the next reading of the device failed
abbrev pub first_of : List Bool → Bool
first_of [] = false
first_of (failed ∷ others) = failed

-- The first `messages` whole messages of the bytes, one after the other, or as many as there are, from a phase on. `failed` says of
-- each reading of the device, in order, whether it failed.
unfoldable pub said : ℕ → List ℕ → Phase → List Bool → List ℕ → Said
said zero content phase failed bytes = silent phase bytes
said (suc messages) content phase failed bytes =
    let size = message_length phase bytes in
    if is_open phase && nat_le size (length bytes)
    then (
    let turn = turn_of content phase (first_of failed) (take size bytes) in
    joined turn (said messages content turn.phase (drop (length turn.readings) failed) (drop size bytes))
    )
    else silent phase bytes

-- What follows the greeting, over a device that holds `content`: a turn for each whole message of the bytes that were taken. Each
-- message has a byte, so there are no more than bytes.
abbrev pub after_greeting : List ℕ → List Bool → List ℕ → Said
after_greeting content failed taken = said (length taken) content Flags failed taken

-- the dialogue: the greeting comes before the replies
abbrev pub dialogue : List ℕ → List Bool → List ℕ → Said
dialogue content failed taken = let after = after_greeting content failed taken in record after { replies = greeting ∷ after.replies }
