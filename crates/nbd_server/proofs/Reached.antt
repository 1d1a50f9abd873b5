-- How far a run has come.
use Rattle.std.proofs.Common.{◌≡◌, ℕ, suc, ◌+◌, ◌-◌, ◌<◌, ◌≤◌, ◌&&◌, nat_le, Bool, true, false, List, [], ◌∷◌, ◌++◌, length, None, Some, Ok, IfSome, refl, sym, ap, subst, arith, append_assoc, length-append, append-nil, ◌∙◌}
use Rattle.std.proofs.lemmas.List.Folds.{concat-append}
use Rattle.std.specs.declared.option.Option.{Option}
use Rattle.std.specs.Io.KnownBytes.{Appends, Consumes}
use Rattle.std.specs.List.{concat}
use Rattle.block_device.specs.Content.{Fixed}
use Rattle.block_device.specs.Reading.{Asked}
use Rattle.nbd_text.specs.Dialogue.{Said, after_greeting, is_open, message_length, said, turn_of}
use Rattle.nbd_text.specs.Options.{Turn}
use Rattle.nbd_text.specs.Requests.{Reading}
use Rattle.nbd_text.specs.declared.phase.Phase.{Phase}
use Rattle.nbd_text.specs.declared.phase.Phase.TheVariants.{Flags, Options, Requests, Closed, Malformed as MalformedPhase}
use Rattle.nbd_server.specs.Turns.{ReadInTurn, Turns, Wire}
use Rattle.nbd_server.proofs.Pieces.{consumes_more, consumes_none}
use Rattle.nbd_server.proofs.Messages.{append_nothing}
use Rattle.nbd_server.proofs.Runs.{flags, one_more, stands}

-- what was said so far comes before what is said after it
abbrev pub before : List (List ℕ) → List Reading → Said → Said
before replies readings after = record after { replies = replies ++ after.replies; readings = readings ++ after.readings }

-- a run that has come to a phase, by so many turns
pub record Reached {D : Type 0} (reads : D → Asked → Bool → D → Type 0) (content : List ℕ) (old now : Wire D) (phase : Phase) (turns : ℕ) : Type 0 where
  pub taken : List ℕ
  pub failed : List Bool
  pub replies : List (List ℕ)
  pub readings : List Reading
  pub consumed : Consumes old.left now.left taken
  pub gained : Appends old.gained now.gained (concat replies)
  pub read : ReadInTurn reads old.device readings now.device
  pub some : turns ≤ length taken
  pub follows : (messages : ℕ) (others : List Bool) (more : List ℕ) → said (turns + messages) content Flags (failed ++ others) (taken ++ more) ≡ before replies readings (said messages content phase others more)

pub starts : {D : Type 0} (reads : D → Asked → Bool → D → Type 0) (content : List ℕ) (old : Wire D) → Reached reads content old old Flags 0
starts reads content old = record {
  taken = [];
  failed = [];
  replies = [];
  readings = [];
  consumed = consumes_none old.left;
  gained = append_nothing old.gained;
  read = refl;
  some = omega arith;
  follows = λ messages others more. let same : 0 + messages ≡ messages = omega arith in rw same refl;
}

pub appends_more : (old mid new : Option (List ℕ)) (xs ys : List ℕ) → Appends old mid xs → Appends mid new ys → Appends old new (xs ++ ys)
appends_more None mid new xs ys a b = tt
appends_more (Some x) None new xs ys a b = absurd a
appends_more (Some x) (Some y) None xs ys a b = absurd b
appends_more (Some x) (Some y) (Some z) xs ys a b = b ∙ ap (λ (w : List ℕ). w ++ ys) a ∙ append_assoc x xs ys

-- the bytes of replies, and of one more
pub one_reply : (replies : List (List ℕ)) (reply : List ℕ) → concat (replies ++ reply ∷ []) ≡ concat replies ++ reply
one_reply replies reply = concat-append replies (reply ∷ []) ∙ ap (λ (xs : List ℕ). concat replies ++ xs) (append-nil reply)

pub replies_more : (old mid new : Option (List ℕ)) (replies : List (List ℕ)) (reply : List ℕ) → Appends old mid (concat replies) → Appends mid new reply → Appends old new (concat (replies ++ reply ∷ []))
replies_more old mid new replies reply a b = rw (one_reply replies reply) (appends_more old mid new (concat replies) reply a b)

pub reads_more : {D : Type 0} (reads : D → Asked → Bool → D → Type 0) (xs ys : List Reading) (a b c : D) → ReadInTurn reads a xs b → ReadInTurn reads b ys c → ReadInTurn reads a (xs ++ ys) c
reads_more {D = D} reads [] ys a b c first second = subst (λ (d : D). ReadInTurn reads d ys c) first second
reads_more reads (x ∷ xs) ys a b c first second = (first.0, first.1, reads_more reads xs ys first.0 b c first.2 second)

-- one turn more
pub some_bytes : (phase : Phase) (bytes : List ℕ) → is_open phase ≡ true → 0 < message_length phase bytes
some_bytes Flags bytes goes = omega arith
some_bytes (Options plain) bytes goes = omega arith
some_bytes Requests bytes goes = omega arith
some_bytes Closed bytes goes = absurd (cc)
some_bytes MalformedPhase bytes goes = absurd (cc)

two_before : (replies : List (List ℕ)) (readings : List Reading) (reply : List ℕ) (one : List Reading) (after : Said) →
    before replies readings (record after { replies = reply ∷ after.replies; readings = one ++ after.readings }) ≡ before (replies ++ reply ∷ []) (readings ++ one) after
two_before replies readings reply one after = rw (append_assoc replies (reply ∷ []) after.replies, append_assoc readings one after.readings) refl

pub one_turn : {D : Type 0} (reads : D → Asked → Bool → D → Type 0) (content : List ℕ) (old mid : Wire D) (phase : Phase) (turns : ℕ) (message : List ℕ) (f : Bool) (t : Turn) → is_open phase ≡ true → (reached : Reached reads content old mid phase turns) →
    length message ≡ message_length phase message → turn_of content phase f message ≡ t → (messages : ℕ) (others : List Bool) (more : List ℕ) →
    said (turns + 1 + messages) content Flags (reached.failed ++ flags t f ++ others) (reached.taken ++ message ++ more) ≡ before (reached.replies ++ t.reply ∷ []) (reached.readings ++ t.readings) (said messages content t.phase others more)
one_turn reads content old mid phase turns message f t goes reached whole is messages others more =
    let count : turns + 1 + messages ≡ turns + suc messages = omega arith in
    rw (count, append_assoc reached.failed (flags t f) others, append_assoc reached.taken message more) (
    reached.follows (suc messages) (flags t f ++ others) (message ++ more)
    ∙ ap (before reached.replies reached.readings) (one_more messages content phase f others message more t goes whole is)
    ∙ two_before reached.replies reached.readings t.reply t.readings (said messages content t.phase others more)
    )

unfoldable pub goes_on_at : {D : Type 0} (reads : D → Asked → Bool → D → Type 0) (content : List ℕ) (old mid new : Wire D) (phase next : Phase) (turns : ℕ) (message : List ℕ) (f : Bool) (t : Turn) → is_open phase ≡ true → Reached reads content old mid phase turns →
    Consumes mid.left new.left message → length message ≡ message_length phase message → turn_of content phase f message ≡ t → ReadInTurn reads mid.device t.readings new.device → t.phase ≡ next → Appends mid.gained new.gained t.reply →
    Reached reads content old new next (turns + 1)
goes_on_at reads content old mid new phase next turns message f t goes reached took whole is read leads puts = record {
  taken = reached.taken ++ message;
  failed = reached.failed ++ flags t f;
  replies = reached.replies ++ t.reply ∷ [];
  readings = reached.readings ++ t.readings;
  consumed = consumes_more old.left mid.left new.left reached.taken message reached.consumed took;
  gained = replies_more old.gained mid.gained new.gained reached.replies t.reply reached.gained puts;
  read = reads_more reads reached.readings t.readings old.device mid.device new.device reached.read read;
  some = omega (arith, length-append reached.taken message, some_bytes phase message goes, whole, reached.some);
  follows = λ messages others more. rw (← leads) (one_turn reads content old mid phase turns message f t goes reached whole is messages others more);
}

pub goes_on : {D : Type 0} (reads : D → Asked → Bool → D → Type 0) (content : List ℕ) (old mid new : Wire D) (phase next : Phase) (turns : ℕ) → is_open phase ≡ true → Reached reads content old mid phase turns → Turns reads content phase mid new (Ok (Some next)) →
    Reached reads content old new next (turns + 1)
goes_on reads content old mid new phase next turns goes reached does =
    let message = does.0 in
    let leads = does.2 in
    let f = leads.1.0 in
    goes_on_at reads content old mid new phase next turns message f (turn_of content phase f message) goes reached does.1 leads.0 refl leads.1.1 leads.1.2.0 leads.1.2.1

-- what is said in all, where no whole message is left
pub in_all : {D : Type 0} (reads : D → Asked → Bool → D → Type 0) (content : List ℕ) (old now : Wire D) (phase : Phase) (turns : ℕ) (more : List ℕ) → (reached : Reached reads content old now phase turns) →
    (is_open phase && nat_le (message_length phase more) (length more)) ≡ false →
    after_greeting content reached.failed (reached.taken ++ more) ≡ record { replies = reached.replies; phase = phase; rest = more; readings = reached.readings }
in_all reads content old now phase turns more reached still =
    let left = length (reached.taken ++ more) - turns in
    let count : length (reached.taken ++ more) ≡ turns + left = omega (arith, length-append reached.taken more, reached.some) in
    ap (λ (n : ℕ). said n content Flags reached.failed (reached.taken ++ more)) count
    ∙ ap (λ (fs : List Bool). said (turns + left) content Flags fs (reached.taken ++ more)) (sym (append-nil reached.failed))
    ∙ reached.follows left [] more
    ∙ ap (before reached.replies reached.readings) (stands left content phase [] more still)
    ∙ rw (append-nil reached.replies, append-nil reached.readings) refl

-- what holds before each turn: how far the run has come where the device's bytes are known, and what has not changed
pub record Going {D : Type 0} (reads : D → Asked → Bool → D → Type 0) (first known : Option (List ℕ)) (long size : ℕ) (base fixed : Fixed) (old now : Wire D) (device_old device_new source_old source_new sink_old sink_new : ℕ) (phase : Phase) (turns : ℕ) : Type 0 where
  pub reached : IfSome first (λ content. Reached reads content old now phase turns)
  pub goes : is_open phase ≡ true
  pub same_content : known ≡ first
  pub same_size : size ≡ long
  pub same_fixed : fixed ≡ base
  pub later : device_old ≤ device_new
  pub source : source_new ≡ source_old
  pub sink : sink_new ≡ sink_old
