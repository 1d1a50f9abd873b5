-- What came of a message: all of it, or less.
use Rattle.std.proofs.Common.{◌≡◌, ℕ, ◌+◌, ◌<◌, Bool, true, false, List, [], ◌++◌, length, None, Some, IfSome, IsErrOf, OnOk, Result, Ok, Err, refl, sym, ap, arith, length-append, append-nil, slice_range, ◌∙◌, if◌then◌else◌, ◌==◌}
use Rattle.std.specs.declared.option.Option.{Option}
use Rattle.std.specs.Io.KnownBytes.{Appends, Consumes}
use Rattle.block_device.specs.Reading.{Asked, asked_for}
use Rattle.outside.specs.Streams.{Puts}
use Rattle.std.proofs.lemmas.Bool.{ne_eqb}
use Rattle.nbd_text.specs.Fields.{u32_at, u64_at}
use Rattle.nbd_text.specs.Dialogue.{data_length, message_length, request_turn, turn_of}
use Rattle.nbd_text.specs.Options.{Turn, answered, export_answer, option_answer}
use Rattle.nbd_text.specs.Requests.{is_read, readings_of, reply_of, request_of, simple_reply}
use Rattle.nbd_text.specs.declared.heads.Request.{Request}
use Rattle.nbd_text.specs.declared.numbers.TheConstants.{IHAVEOPT, OPTION_HEAD, OPT_EXPORT_NAME, REQUEST_HEAD, CMD_DISC}
use Rattle.nbd_text.specs.declared.phase.Phase.{Phase}
use Rattle.nbd_text.specs.declared.phase.Phase.TheVariants.{Options, Requests, Closed, Malformed as MalformedPhase}
use Rattle.nbd_text.proofs.Fronts.{data_front, request_front, right_data, right_turn, wrong_data, wrong_turn}
use Rattle.nbd_server.specs.Taken.{Wants}
use Rattle.nbd_server.specs.Turns.{ReadInTurn, Leads, Replies, Turns, Wire, wire}
use Rattle.nbd_server.specs.declared.stop.NbdStop.{NbdStop}
use Rattle.nbd_server.specs.declared.stop.NbdStop.TheVariants.{SourceFault, OutFault, Malformed, OutOfMemory}
use Rattle.nbd_server.proofs.Pieces.{consumes_more}

pub append_nothing : (known : Option (List ℕ)) → Appends known known []
append_nothing None = tt
append_nothing (Some xs) = sym (append-nil xs)

-- a whole message whose turn does not read the device
pub leads : {D : Type 0} (reads : D → Asked → Bool → D → Type 0) (content : List ℕ) (phase : Phase) (old new : Wire D) (message : List ℕ) (turn : Turn) (P : Turn → Type 0) →
    length message ≡ message_length phase message → turn_of content phase false message ≡ turn → turn.readings ≡ [] → new.device ≡ old.device → P turn → Leads reads content phase old new message P
leads reads content phase old new message turn P whole is quiet same p = (whole, (false, rw (is, quiet) same, rw is p))

longer : (head part : List ℕ) → 0 < length head → head ++ part ≡ [] → ⊥
longer head part some none = absurd (omega (arith, length-append head part, ap length none))

-- the data behind a head were wanting
pub cut_short : {D : Type 0} (reads : D → Asked → Bool → D → Type 0) (content : List ℕ) (phase : Phase) (first second third gained : Option (List ℕ)) (device : D) (head : List ℕ) (asked : ℕ) (stop : NbdStop) →
    0 < length head → ((part : List ℕ) → message_length phase (head ++ part) ≡ length head + asked) → Consumes first second head → Wants asked second third stop →
    Turns reads content phase (wire first gained device) (wire third gained device) (Err stop)
cut_short reads content phase first second third gained device head asked SourceFault some size before takes =
    let part = takes.0 in
    (head ++ part, consumes_more first second third head part before takes.1, (omega (arith, size part, length-append head part, takes.2), (append_nothing gained, refl)))
cut_short reads content phase first second third gained device head asked Malformed some size before takes =
    let part = takes.0 in
    (head ++ part, consumes_more first second third head part before takes.1, (longer head part some, omega (arith, size part, length-append head part, takes.2), takes.3, (append_nothing gained, refl)))
cut_short reads content phase first second third gained device head asked OutFault some size before takes = absurd takes
cut_short reads content phase first second third gained device head asked OutOfMemory some size before takes = absurd takes

-- An option, after its head.
pub wrong_option : {D : Type 0} (reads : D → Asked → Bool → D → Type 0) (content : List ℕ) (plain : Bool) (first second gained : Option (List ℕ)) (device : D) (head : List ℕ) → length head ≡ OPTION_HEAD → Consumes first second head →
    (u64_at 0 head ≡ IHAVEOPT → ⊥) → Turns reads content (Options plain) (wire first gained device) (wire second gained device) (Ok (Some MalformedPhase))
wrong_option reads content plain first second gained device head size before wrong = (
  head,
  before,
  leads reads content (Options plain) (wire first gained device) (wire second gained device) head (answered [] MalformedPhase) (λ turn. (turn.phase ≡ MalformedPhase) × Appends gained gained turn.reply)
      (omega (arith, wrong_data head wrong)) (wrong_turn (length content) plain head wrong) refl refl (refl, append_nothing gained),
)

pub cut_option : {D : Type 0} (reads : D → Asked → Bool → D → Type 0) (content : List ℕ) (plain : Bool) (first second third gained : Option (List ℕ)) (device : D) (head : List ℕ) (asked : ℕ) (stop : NbdStop) →
    length head ≡ OPTION_HEAD → u64_at 0 head ≡ IHAVEOPT → asked ≡ (if u32_at 8 head == OPT_EXPORT_NAME then 0 else u32_at 12 head) → Consumes first second head → Wants asked second third stop → Turns reads content (Options plain) (wire first gained device) (wire third gained device) (Err stop)
cut_option reads content plain first second third gained device head asked stop size right is before takes =
    cut_short reads content (Options plain) first second third gained device head asked stop (omega arith)
    (λ part. omega (arith, data_front head part (omega arith), right_data head right)) before takes

pub whole_option : {D : Type 0} (reads : D → Asked → Bool → D → Type 0) (content : List ℕ) (plain : Bool) (old new : Wire D) (head text reply : List ℕ) (phase : Phase) (P : Turn → Type 0) →
    length head ≡ OPTION_HEAD → u64_at 0 head ≡ IHAVEOPT → new.device ≡ old.device → length text ≡ (if u32_at 8 head == OPT_EXPORT_NAME then 0 else u32_at 12 head) →
    answered reply phase ≡ (if u32_at 8 head == OPT_EXPORT_NAME then export_answer (length content) plain (u32_at 12 head) else option_answer (length content) plain (u32_at 8 head) text) →
    P (answered reply phase) → Leads reads content (Options plain) old new (head ++ text) P
whole_option reads content plain old new head text reply phase P size right same whole answer p =
    leads reads content (Options plain) old new (head ++ text) (answered reply phase) P (omega (arith, length-append head text, data_front head text (omega arith), right_data head right))
    (right_turn (length content) plain head text size right ∙ sym answer) refl same p

-- A request, after its head.
same_length : (head text : List ℕ) (request : Request) → length head ≡ REQUEST_HEAD → request_of head ≡ Some request → message_length Requests (head ++ text) ≡ REQUEST_HEAD + data_length (Some request)
same_length head text request size is = ap (λ (r : Option Request). REQUEST_HEAD + data_length r) (request_front head text (omega arith) ∙ is)

pub cut_request : {D : Type 0} (reads : D → Asked → Bool → D → Type 0) (content : List ℕ) (first second third gained : Option (List ℕ)) (device : D) (head : List ℕ) (request : Request) (stop : NbdStop) →
    length head ≡ REQUEST_HEAD → request_of head ≡ Some request → Consumes first second head → Wants (data_length (Some request)) second third stop → Turns reads content Requests (wire first gained device) (wire third gained device) (Err stop)
cut_request reads content first second third gained device head request stop size is before takes =
    cut_short reads content Requests first second third gained device head (data_length (Some request)) stop (omega arith) (λ part. omega (arith, same_length head part request size is)) before takes

whole_request : (content : List ℕ) (failed : Bool) (head text : List ℕ) (request : Request) → length head ≡ REQUEST_HEAD → request_of head ≡ Some request → turn_of content Requests failed (head ++ text) ≡ request_turn content failed (Some request)
whole_request content failed head text request size is = ap (request_turn content failed) (request_front head text (omega arith) ∙ is)

pub closed_request : {D : Type 0} (reads : D → Asked → Bool → D → Type 0) (content : List ℕ) (first second third gained : Option (List ℕ)) (device : D) (head text : List ℕ) (request : Request) →
    length head ≡ REQUEST_HEAD → request_of head ≡ Some request → Consumes first second head → Consumes second third text → length text ≡ data_length (Some request) → request.command ≡ CMD_DISC →
    Turns reads content Requests (wire first gained device) (wire third gained device) (Ok (Some Closed))
closed_request reads content first second third gained device head text request size is before after whole disc = (
  head ++ text,
  consumes_more first second third head text before after,
  leads reads content Requests (wire first gained device) (wire third gained device) (head ++ text) (answered [] Closed) (λ turn. (turn.phase ≡ Closed) × Appends gained gained turn.reply)
      (omega (arith, same_length head text request size is, length-append head text)) (whole_request content false head text request size is ∙ rw disc refl) refl refl (refl, append_nothing gained),
)

pub replied : {D : Type 0} (reads : D → Asked → Bool → D → Type 0) (content : List ℕ) (old mid new : Wire D) (head text : List ℕ) (request : Request) (r : Result (Unit {0}) NbdStop) (P : Turn → Type 0) →
    length head ≡ REQUEST_HEAD → request_of head ≡ Some request → length text ≡ data_length (Some request) → (request.command ≡ CMD_DISC → ⊥) → mid.device ≡ old.device → mid.gained ≡ old.gained → Replies reads content request mid new r →
    ((failed : Bool) → Puts mid.gained new.gained r (reply_of content failed request) → P (record { reply = reply_of content failed request; phase = Requests; readings = readings_of (length content) failed request })) →
    Leads reads content Requests old new (head ++ text) P
replied reads content old mid new head text request r P size is whole other same kept replies follows =
    let failed = replies.0 in
    let turn : turn_of content Requests failed (head ++ text) ≡ record { reply = reply_of content failed request; phase = Requests; readings = readings_of (length content) failed request } =
    whole_request content failed head text request size is ∙ rw (ne_eqb request.command CMD_DISC other) refl
    in
    (omega (arith, same_length head text request size is, length-append head text), (failed, rw (turn, ← same) replies.1, rw turn (follows failed replies.2)))

-- what holds of any known value
pub if_known : {T : Type 0} {P : T → Type 0} (known : Option T) → ((x : T) → P x) → IfSome known P
if_known None all = tt
if_known (Some x) all = all x

pub if_both : {T : Type 0} {P Q R : T → Type 0} (known : Option T) → IfSome known P → IfSome known Q → ((x : T) → P x → Q x → R x) → IfSome known R
if_both None p q all = tt
if_both (Some x) p q all = all x p q

-- the same at Ok alone
pub if_ok_both : {T A E : Type 0} {P Q : T → Type 0} (r : Result A E) (known : Option T) → OnOk r (IfSome known P) → ((x : T) → P x → Q x) → OnOk r (IfSome known Q)
if_ok_both (Ok a) known p all = if_both known p p (λ x q again. all x q)
if_ok_both (Err e) known p all = tt

-- a reply with the data that were read
pub good_reply : {D : Type 0} (reads : D → Asked → Bool → D → Type 0) (content : List ℕ) (size : ℕ) (request : Request) (old new : Wire D) (r : Result (Unit {0}) NbdStop) (bytes : List ℕ) → length content ≡ size → is_read size request ≡ true →
    reads old.device (asked_for request.offset request.length) false new.device → bytes ≡ simple_reply 0 request.handle ++ slice_range content request.offset (request.offset + request.length) → Puts old.gained new.gained r bytes →
    Replies reads content request old new r
good_reply reads content size request old new r bytes same is read told puts =
    let is_asked : is_read (length content) request ≡ true = ap (λ (n : ℕ). is_read n request) same ∙ is in
    let one : ReadInTurn reads old.device (readings_of (length content) false request) new.device = rw is_asked (new.device, read, refl) in
    (false, one, rw (is_asked, ← told) puts)

pub no_err : {T E : Type 0} (x : T) (stop : E) → IsErrOf (Ok x) stop → ⊥
no_err x stop e = cc
