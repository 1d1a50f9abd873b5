-- "Fixed newstyle negotiation" and "Option haggling": what is said first, and what each option is answered.
use Rattle.std.specs.Prelude.{ℕ, ◌+◌, ◌*◌, Bool, nat_lt, ◌==◌, ◌&&◌, ◌||◌, if◌then◌else◌, List, [], ◌++◌, length, replicate}
use Rattle.nbd_text.specs.Fields.{u16_at, u32_at, u16_bytes, u32_bytes, u64_bytes}
use Rattle.nbd_text.specs.Requests.{Reading}
use Rattle.nbd_text.specs.declared.numbers.TheConstants.{NBDMAGIC, IHAVEOPT, HANDSHAKE_FLAGS, CLIENT_FLAGS, OPT_ABORT, OPT_LIST, OPT_INFO, OPT_GO, OPTION_MOST, OPTION_REPLY_MAGIC, REP_ACK, REP_SERVER, REP_INFO, REP_ERR_UNSUP, REP_ERR_INVALID, REP_ERR_UNKNOWN, REP_ERR_TOO_BIG, INFO_EXPORT, INFO_BLOCK_SIZE, EXPORT_ZEROS, LEAST_BLOCK, BEST_BLOCK, MOST_BLOCK, TRANSMISSION_FLAGS}
use Rattle.nbd_text.specs.declared.phase.Phase.{Phase}
use Rattle.nbd_text.specs.declared.phase.Phase.TheVariants.{Options, Requests, Closed, Malformed}

-- what the server says first
abbrev pub greeting : List ℕ
greeting = u64_bytes NBDMAGIC ++ u64_bytes IHAVEOPT ++ u16_bytes HANDSHAKE_FLAGS

-- after the client's flags: only those are allowed that were offered. From 2 on they have NBD_FLAG_C_NO_ZEROES
unfoldable pub flags_phase : ℕ → Phase
flags_phase flags = if nat_lt flags CLIENT_FLAGS then Options (nat_lt 1 flags) else Malformed

-- a reply to an option
abbrev pub option_reply : ℕ → ℕ → List ℕ → List ℕ
option_reply option kind text = u64_bytes OPTION_REPLY_MAGIC ++ u32_bytes option ++ u32_bytes kind ++ u32_bytes (length text) ++ text

-- the size in bytes and the transmission flags, as each way to an export says them
abbrev pub size_and_flags : ℕ → List ℕ
size_and_flags size = u64_bytes size ++ u16_bytes TRANSMISSION_FLAGS

-- NBD_OPT_EXPORT_NAME: the size and the flags, and zeros where the client does not want them left out
unfoldable pub export_reply : ℕ → Bool → List ℕ
export_reply size plain = size_and_flags size ++ (if plain then [] else replicate EXPORT_ZEROS 0)

-- NBD_OPT_INFO and NBD_OPT_GO: NBD_INFO_EXPORT, NBD_INFO_BLOCK_SIZE, and the acknowledgement
abbrev pub export_info : ℕ → List ℕ
export_info size = u16_bytes INFO_EXPORT ++ size_and_flags size

abbrev pub block_info : List ℕ
block_info = u16_bytes INFO_BLOCK_SIZE ++ u32_bytes LEAST_BLOCK ++ u32_bytes BEST_BLOCK ++ u32_bytes MOST_BLOCK

unfoldable pub info_reply : ℕ → ℕ → List ℕ
info_reply option size = option_reply option REP_INFO (export_info size) ++ option_reply option REP_INFO block_info ++ option_reply option REP_ACK []

-- NBD_OPT_LIST: one export, whose name is empty, and the acknowledgement
unfoldable pub list_reply : List ℕ
list_reply = option_reply OPT_LIST REP_SERVER (u32_bytes 0) ++ option_reply OPT_LIST REP_ACK []

-- the data of NBD_OPT_INFO and NBD_OPT_GO are well formed: the length of a name, the name, a count, and two bytes for each
-- thing counted
unfoldable pub is_well_formed : List ℕ → Bool
is_well_formed text =
    let name = u32_at 0 text in
    nat_lt (name + 5) (length text) && (length text == name + 6 + 2 * u16_at (name + 4) text)

-- what one message does: what is put for it, where the dialogue stands then, and the readings of the device for it, one or none
pub record Turn : Type 0 where
  pub reply : List ℕ
  pub phase : Phase
  pub readings : List Reading

-- something is put, and nothing read
abbrev pub answered : List ℕ → Phase → Turn
answered reply phase = record { reply = reply; phase = phase; readings = [] }

-- an option is refused, and another may come
abbrev pub refused : Bool → ℕ → ℕ → Turn
refused plain option kind = answered (option_reply option kind []) (Options plain)

-- NBD_OPT_INFO and NBD_OPT_GO by their data: what is told, or why it is not
abbrev pub info_answer : ℕ → Bool → ℕ → List ℕ → Turn
info_answer size plain option text =
    if nat_lt OPTION_MOST (length text) then refused plain option REP_ERR_TOO_BIG
    else if is_well_formed text
    then (
    if u32_at 0 text == 0
    then answered (info_reply option size) (if option == OPT_GO then Requests else Options plain)
    else refused plain option REP_ERR_UNKNOWN
    )
    else refused plain option REP_ERR_INVALID

-- NBD_OPT_EXPORT_NAME by the length of the name: one that is not empty cannot be refused in a reply, so it ends the dialogue
abbrev pub export_answer : ℕ → Bool → ℕ → Turn
export_answer size plain name = if name == 0 then answered (export_reply size plain) Requests else answered [] Malformed

-- NBD_OPT_LIST and NBD_OPT_ABORT have no data
abbrev pub bare_answer : Bool → ℕ → List ℕ → List ℕ → Phase → Turn
bare_answer plain option text reply phase = if length text == 0 then answered reply phase else refused plain option REP_ERR_INVALID

-- each other option by its number and its data, of a device of `size` bytes
unfoldable pub option_answer : ℕ → Bool → ℕ → List ℕ → Turn
option_answer size plain option text =
    if (option == OPT_INFO) || (option == OPT_GO) then info_answer size plain option text
    else if option == OPT_LIST then bare_answer plain option text list_reply (Options plain)
    else if option == OPT_ABORT then bare_answer plain option text (option_reply option REP_ACK []) Closed
    else refused plain option REP_ERR_UNSUP
