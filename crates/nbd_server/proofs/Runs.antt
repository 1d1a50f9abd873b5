-- What was said so far, and how a run ends.
use Rattle.std.proofs.Common.{◌≡◌, ℕ, zero, suc, ◌+◌, ◌&&◌, nat_le, Bool, true, false, List, [], ◌∷◌, ◌++◌, length, map, None, Some, drop, slice_range, refl, ap, arith, length-append, ◌∙◌, if◌then◌else◌, ◌==◌}
use Rattle.std.proofs.lemmas.List.{take_at, drop_at}
use Rattle.std.proofs.lemmas.Bool.{le-leb}
use Rattle.std.specs.declared.option.Option.{Option}
use Rattle.nbd_text.specs.Dialogue.{first_of, is_open, joined, message_length, request_turn, said, silent, turn_of, data_length}
use Rattle.nbd_text.specs.Options.{Turn, answered}
use Rattle.nbd_text.specs.Requests.{Reading, error_of, is_read, request_of, simple_reply}
use Rattle.nbd_text.specs.declared.heads.Request.{Request}
use Rattle.nbd_text.specs.declared.numbers.TheConstants.{OPTION_HEAD, REQUEST_HEAD, CMD_DISC, EIO}
use Rattle.nbd_text.specs.declared.phase.Phase.{Phase}
use Rattle.nbd_text.specs.declared.phase.Phase.TheVariants.{Flags, Options, Requests, Closed, Malformed as MalformedPhase}
use Rattle.nbd_text.proofs.Fronts.{data_front, request_front}

-- A message has its length whatever follows it.
pub whole_length : (phase : Phase) (message more : List ℕ) → length message ≡ message_length phase message → message_length phase (message ++ more) ≡ message_length phase message
whole_length Flags message more whole = refl
whole_length (Options plain) message more whole = ap (λ (n : ℕ). OPTION_HEAD + n) (data_front message more (omega arith))
whole_length Requests message more whole = ap (λ (r : Option Request). REQUEST_HEAD + data_length r) (request_front message more (omega arith))
whole_length Closed message more whole = refl
whole_length MalformedPhase message more whole = refl

-- Whether the device fails matters only where it is read.
by_tests : (disc read : Bool) (a b c : List ℕ) (one other : Reading) → (if disc then answered [] Closed else record { reply = (if read then a else c); phase = Requests; readings = (if read then one ∷ [] else []) }).readings ≡ [] →
    (if disc then answered [] Closed else record { reply = (if read then b else c); phase = Requests; readings = (if read then other ∷ [] else []) }) ≡ (if disc then answered [] Closed else record { reply = (if read then a else c); phase = Requests; readings = (if read then one ∷ [] else []) })
by_tests true read a b c one other quiet = refl
by_tests false true a b c one other quiet = absurd (cc)
by_tests false false a b c one other quiet = refl

either_request : (content : List ℕ) (one other : Bool) (r : Option Request) → (request_turn content one r).readings ≡ [] → request_turn content other r ≡ request_turn content one r
either_request content one other None quiet = refl
either_request content one other (Some request) quiet =
    by_tests (request.command == CMD_DISC) (is_read (length content) request) (if one then simple_reply EIO request.handle else simple_reply 0 request.handle ++ slice_range content request.offset (request.offset + request.length))
    (if other then simple_reply EIO request.handle else simple_reply 0 request.handle ++ slice_range content request.offset (request.offset + request.length)) (simple_reply (error_of (length content) request) request.handle)
    (record { request = request; failed = one }) (record { request = request; failed = other }) quiet

pub either : (content : List ℕ) (phase : Phase) (one other : Bool) (message : List ℕ) → (turn_of content phase one message).readings ≡ [] → turn_of content phase other message ≡ turn_of content phase one message
either content Flags one other message quiet = refl
either content (Options plain) one other message quiet = refl
either content Requests one other message quiet = either_request content one other (request_of message) quiet
either content Closed one other message quiet = refl
either content MalformedPhase one other message quiet = refl

-- whether each reading of a turn failed
abbrev pub flags : Turn → Bool → List Bool
flags turn failed = map (λ reading. failed) turn.readings

same_turn : (content : List ℕ) (phase : Phase) (f : Bool) (failed : List Bool) (message : List ℕ) (t : Turn) (readings : List Reading) → turn_of content phase f message ≡ t → t.readings ≡ readings →
    turn_of content phase (first_of (map (λ reading. f) readings ++ failed)) message ≡ t
same_turn content phase f failed message t (one ∷ others) is reads = is
same_turn content phase f failed message t [] is reads = either content phase f (first_of failed) message (ap (λ (u : Turn). u.readings) is ∙ reads) ∙ is

left_over : (readings : List Reading) (f : Bool) (failed : List Bool) → drop (length readings) (map (λ reading. f) readings ++ failed) ≡ failed
left_over [] f failed = refl
left_over (one ∷ others) f failed = left_over others f failed

-- a whole message in front: its turn, and then the rest
pub one_more : (messages : ℕ) (content : List ℕ) (phase : Phase) (f : Bool) (failed : List Bool) (message more : List ℕ) (t : Turn) → is_open phase ≡ true → length message ≡ message_length phase message → turn_of content phase f message ≡ t →
    said (suc messages) content phase (flags t f ++ failed) (message ++ more) ≡ joined t (said messages content t.phase failed more)
unfolding said
one_more messages content phase f failed message more t goes whole is =
    let size = whole_length phase message more whole in
    let fits : nat_le (message_length phase message) (length (message ++ more)) ≡ true = le-leb (message_length phase message) (length (message ++ more)) (omega (arith, whole, length-append message more)) in
    rw (size, goes, fits, ← whole, take_at message more (length message) refl, drop_at message more (length message) refl, same_turn content phase f failed message t t.readings is refl, left_over t.readings f failed) refl

-- no whole message is left
pub stands : (messages : ℕ) (content : List ℕ) (phase : Phase) (failed : List Bool) (more : List ℕ) → (is_open phase && nat_le (message_length phase more) (length more)) ≡ false → said messages content phase failed more ≡ silent phase more
unfolding said
stands zero content phase failed more still = refl
stands (suc messages) content phase failed more still = rw still refl
