-- How a run ends.
use Rattle.std.proofs.Common.{◌≡◌, ℕ, ◌+◌, ◌-◌, ◌^◌, ◌<◌, ◌≤◌, ◌&&◌, nat_le, Bool, true, false, List, [], ◌∷◌, ◌++◌, length, take, None, Some, Result, Ok, Err, inl, inr, refl, subst, sym, ap, arith, append_assoc, length-append, append-nil}
use Rattle.std.proofs.lemmas.Bool.{lt-leb}
use Rattle.std.specs.declared.option.Option.{Option}
use Rattle.std.specs.Io.KnownBytes.{Appends, Consumes, append_known}
use Rattle.std.specs.List.{concat}
use Rattle.block_device.specs.Reading.{Asked}
use Rattle.outside.specs.Streams.{AppendsFront}
use Rattle.nbd_text.specs.Dialogue.{Said, after_greeting, dialogue, is_open, message_length, turn_of}
use Rattle.nbd_text.specs.Options.{greeting}
use Rattle.nbd_text.specs.declared.phase.Phase.{Phase}
use Rattle.nbd_text.specs.declared.phase.Phase.TheVariants.{Flags, Options, Requests, Closed, Malformed as MalformedPhase}
use Rattle.nbd_server.specs.Served.{AppendsCut, EndsBy, Serves, Talks, end_of}
use Rattle.nbd_server.specs.Turns.{ReadInTurn, Turns, Wire, wire}
use Rattle.nbd_server.specs.declared.stop.NbdStop.{NbdStop}
use Rattle.nbd_server.specs.declared.stop.NbdStop.TheVariants.{SourceFault, OutFault, Malformed, OutOfMemory}
use Rattle.nbd_server.proofs.Pieces.{consumes_more, consumes_none}
use Rattle.nbd_server.proofs.Runs.{stands}
use Rattle.nbd_server.proofs.Reached.{Reached, appends_more, goes_on, goes_on_at, in_all, some_bytes}

-- Nothing goes on where the next message is not whole.
no_more : (b : Bool) (least most : ℕ) → most < least → (b && nat_le least most) ≡ false
no_more true least most short = lt-leb least most short
no_more false least most short = refl

short_still : (phase : Phase) (more : List ℕ) → length more < message_length phase more → (is_open phase && nat_le (message_length phase more) (length more)) ≡ false
short_still phase more short = no_more (is_open phase) (message_length phase more) (length more) short

empty_still : (phase : Phase) → (is_open phase && nat_le (message_length phase []) 0) ≡ false
empty_still Flags = short_still Flags [] (some_bytes Flags [] refl)
empty_still (Options plain) = short_still (Options plain) [] (some_bytes (Options plain) [] refl)
empty_still Requests = short_still Requests [] (some_bytes Requests [] refl)
empty_still Closed = refl
empty_still MalformedPhase = refl

-- the end of a run, by what was said in all
serves_at : {D : Type 0} (reads : D → Asked → Bool → D → Type 0) (content : List ℕ) (old now new : Wire D) (phase : Phase) (turns : ℕ) (more : List ℕ) (result : Result (Unit {0}) NbdStop) → (reached : Reached reads content old now phase turns) →
    (is_open phase && nat_le (message_length phase more) (length more)) ≡ false → Consumes now.left new.left more → new.device ≡ now.device →
    EndsBy (record { replies = reached.replies; phase = phase; rest = more; readings = reached.readings }) old new (reached.taken ++ more) result → Talks reads (after_greeting content) old new result
serves_at reads content old now new phase turns more result reached still took quiet ends =
    let all = in_all reads content old now phase turns more reached still in
    record {
      taken = reached.taken ++ more;
      failed = reached.failed;
      consumed = consumes_more old.left now.left new.left reached.taken more reached.consumed took;
      read = rw quiet (subst (λ (s : Said). ReadInTurn reads old.device s.readings now.device) (sym all) reached.read);
      ends = subst (λ (s : Said). EndsBy s old new (reached.taken ++ more) result) (sym all) ends;
    }

pub ends_over : {D : Type 0} (reads : D → Asked → Bool → D → Type 0) (content : List ℕ) (old mid new : Wire D) (phase next : Phase) (turns : ℕ) → is_open phase ≡ true → Reached reads content old mid phase turns → Turns reads content phase mid new (Ok (Some next)) →
    is_open next ≡ false → Talks reads (after_greeting content) old new (end_of next)
ends_over reads content old mid new phase Flags turns goes reached does over = absurd (cc)
ends_over reads content old mid new phase (Options plain) turns goes reached does over = absurd (cc)
ends_over reads content old mid new phase Requests turns goes reached does over = absurd (cc)
ends_over reads content old mid new phase Closed turns goes reached does over =
    let r = goes_on reads content old mid new phase Closed turns goes reached does in
    serves_at reads content old new new Closed (turns + 1) [] (Ok tt) r refl (consumes_none new.left) refl (r.gained, (refl, inl refl))
ends_over reads content old mid new phase MalformedPhase turns goes reached does over =
    let r = goes_on reads content old mid new phase MalformedPhase turns goes reached does in
    serves_at reads content old new new MalformedPhase (turns + 1) [] (Err Malformed) r refl (consumes_none new.left) refl (r.gained, inl (refl, refl))

appends_same : (old mid new : Option (List ℕ)) (put : List ℕ) → Appends old mid put → Appends mid new [] → Appends old new put
appends_same old mid new put a b = subst (λ (xs : List ℕ). Appends old new xs) (append-nil put) (appends_more old mid new put [] a b)

pub ends_input : {D : Type 0} (reads : D → Asked → Bool → D → Type 0) (content : List ℕ) (old mid new : Wire D) (phase : Phase) (turns : ℕ) → is_open phase ≡ true → Reached reads content old mid phase turns → Turns reads content phase mid new (Ok None) →
    Talks reads (after_greeting content) old new (Ok tt)
ends_input reads content old mid new phase turns goes reached does =
    let took = rw does.2.0 at does.1 in
    serves_at reads content old mid new phase turns [] (Ok tt) reached (empty_still phase) took does.2.2.1
    (appends_same old.gained mid.gained new.gained (concat reached.replies) reached.gained does.2.2.0, (refl, inr (goes, inl does.2.1)))

pub ends_full : {D : Type 0} (reads : D → Asked → Bool → D → Type 0) (content : List ℕ) (old now : Wire D) (phase : Phase) (turns : ℕ) → is_open phase ≡ true → Reached reads content old now phase turns → 2 ^ 64 - 1 ≤ turns →
    Talks reads (after_greeting content) old now (Ok tt)
ends_full reads content old now phase turns goes reached full =
    serves_at reads content old now now phase turns [] (Ok tt) reached (empty_still phase) (consumes_none now.left) refl
    (reached.gained, (refl, inr (goes, inr (omega (arith, length-append reached.taken [], reached.some, full)))))

-- the sink as it were if it had taken a reply whole
whole_put : (known : Option (List ℕ)) (reply : List ℕ) → Appends known (append_known known reply) reply
whole_put None reply = tt
whole_put (Some xs) reply = refl

-- all replies, and a front of one more
cut_last : (old mid new : Option (List ℕ)) (replies : List (List ℕ)) (reply : List ℕ) → Appends old mid (concat replies) → AppendsFront mid new reply → AppendsCut old new (replies ++ reply ∷ [])
cut_last old mid new replies reply whole front = record {
  whole = replies;
  last = reply;
  parts = refl;
  count = front.0;
  few = front.1;
  appends = appends_more old mid new (concat replies) (take front.0 reply) whole front.2;
}

pub ends_err : {D : Type 0} (reads : D → Asked → Bool → D → Type 0) (content : List ℕ) (old mid new : Wire D) (phase : Phase) (turns : ℕ) (stop : NbdStop) → is_open phase ≡ true → Reached reads content old mid phase turns → Turns reads content phase mid new (Err stop) →
    Talks reads (after_greeting content) old new (Err stop)
unfolding goes_on_at
ends_err reads content old mid new phase turns Malformed goes reached does =
    serves_at reads content old mid new phase turns does.0 (Err Malformed) reached (short_still phase does.0 does.2.1) does.1 does.2.3.1
    (appends_same old.gained mid.gained new.gained (concat reached.replies) reached.gained does.2.3.0, inr (goes, does.2.0, does.2.2))
ends_err reads content old mid new phase turns SourceFault goes reached does =
    serves_at reads content old mid new phase turns does.0 (Err SourceFault) reached (short_still phase does.0 does.2.0) does.1 does.2.1.1
    (appends_same old.gained mid.gained new.gained (concat reached.replies) reached.gained does.2.1.0, goes)
ends_err reads content old mid new phase turns OutFault goes reached does =
    let message = does.0 in
    let leads = does.2 in
    let f = leads.1.0 in
    let t = turn_of content phase f message in
    let taken = record new { gained = append_known mid.gained t.reply } in
    let r = goes_on_at reads content old mid taken phase t.phase turns message f t goes reached does.1 leads.0 refl leads.1.1 refl (whole_put mid.gained t.reply) in
    serves_at reads content old taken new t.phase (turns + 1) [] (Err OutFault) r (empty_still t.phase) (consumes_none new.left) refl
    (cut_last old.gained mid.gained new.gained reached.replies t.reply reached.gained leads.1.2, refl)
ends_err reads content old mid new phase turns OutOfMemory goes reached does = absurd does.2

-- the greeting came before
before_all : (first second new : Option (List ℕ)) (replies : List (List ℕ)) → Appends first second greeting → AppendsCut second new replies → AppendsCut first new (greeting ∷ replies)
before_all first second new replies put cut = record {
  whole = greeting ∷ cut.whole;
  last = cut.last;
  parts = ap (λ (rs : List (List ℕ)). greeting ∷ rs) cut.parts;
  count = cut.count;
  few = cut.few;
  appends = rw (append_assoc greeting (concat cut.whole) (take cut.count cut.last)) (appends_more first second new greeting (concat cut.whole ++ take cut.count cut.last) put cut.appends);
}

ends_greeted : {D : Type 0} (reads : D → Asked → Bool → D → Type 0) (content : List ℕ) (left first second : Option (List ℕ)) (device : D) (new : Wire D) (result : Result (Unit {0}) NbdStop) → Appends first second greeting →
    Talks reads (after_greeting content) (wire left second device) new result → ((said : Said) (taken : List ℕ) → EndsBy said (wire left second device) new taken result → EndsBy (record said { replies = greeting ∷ said.replies }) (wire left first device) new taken result) →
    Talks reads (dialogue content) (wire left first device) new result
ends_greeted reads content left first second device new result put talks ends = record {
  taken = talks.taken;
  failed = talks.failed;
  consumed = talks.consumed;
  read = talks.read;
  ends = ends (after_greeting content talks.failed talks.taken) talks.taken talks.ends;
}

pub greeted : {D : Type 0} (reads : D → Asked → Bool → D → Type 0) (content : List ℕ) (left first second : Option (List ℕ)) (device : D) (new : Wire D) (result : Result (Unit {0}) NbdStop) → Appends first second greeting →
    Talks reads (after_greeting content) (wire left second device) new result → Serves reads (dialogue content) (wire left first device) new result
greeted reads content left first second device new (Ok done) put talks =
    ends_greeted reads content left first second device new (Ok done) put talks (λ said taken ends. (appends_more first second new.gained greeting (concat said.replies) put ends.0, ends.1))
greeted reads content left first second device new (Err Malformed) put talks =
    ends_greeted reads content left first second device new (Err Malformed) put talks (λ said taken ends. (appends_more first second new.gained greeting (concat said.replies) put ends.0, ends.1))
greeted reads content left first second device new (Err SourceFault) put talks =
    ends_greeted reads content left first second device new (Err SourceFault) put talks (λ said taken ends. (appends_more first second new.gained greeting (concat said.replies) put ends.0, ends.1))
greeted reads content left first second device new (Err OutFault) put talks =
    ends_greeted reads content left first second device new (Err OutFault) put talks (λ said taken ends. (before_all first second new.gained said.replies put ends.0, ends.1))
greeted reads content left first second device new (Err OutOfMemory) put talks = absurd talks.ends

-- the greeting was not taken whole
pub ungreeted : {D : Type 0} (reads : D → Asked → Bool → D → Type 0) (content : List ℕ) (left first second : Option (List ℕ)) (device : D) → AppendsFront first second greeting →
    Serves reads (dialogue content) (wire left first device) (wire left second device) (Err OutFault)
ungreeted reads content left first second device front =
    let none = stands 0 content Flags [] [] (empty_still Flags) in
    record {
      taken = [];
      failed = [];
      consumed = consumes_none left;
      read = subst (λ (s : Said). ReadInTurn reads device s.readings device) (sym none) refl;
      ends =
          subst (λ (s : Said). EndsBy (record s { replies = greeting ∷ s.replies }) (wire left first device) (wire left second device) [] (Err OutFault)) (sym none)
          (record { whole = []; last = greeting; parts = refl; count = front.0; few = front.1; appends = front.2 }, refl);
    }
