-- How a job ends that finds its answer, and then puts it.
use Rattle.std.proofs.Common.{◌≡◌, ℕ, ◌≤◌, List, None, Some, Option, Result, Ok, Err, IfSome, IsErrOf, inl, refl, sym, ap, subst, arith, Bool, false}
use Rattle.std.specs.Io.KnownBytes.{Appends, Keeps}
use Rattle.std.proofs.lemmas.List.{append-nil}
use Rattle.outside.specs.Causes.{Rose}
use Rattle.outside.specs.Streams.{AppendsFront, AppendsSectors, Stream}
use Rattle.run_ends.specs.Pieces.{AppendsLines, AppendsPieces, Pieces}
use Rattle.run_ends.specs.Pieces.Pieces.{Sectors, Lines}
use Rattle.run_ends.specs.Counts.{Raises}
use Rattle.run_ends.specs.Jobs.{Answers, Around, Does, Ends, Heeds, IsOwn, IsPrinted, Job, MayHaveRead, Named, Orders, Takes, is_cut}
use Rattle.run_ends.specs.Stops.{EndsBy}
use Rattle.run_ends.specs.declared.stop.Refusal.{Refusal}
use Rattle.run_ends.specs.declared.stop.Stop.{Stop}
use Rattle.run_ends.specs.declared.stop.Stop.TheVariants.{Refused, ImageFault, SourceFault, OutFault, OutOfMemory}

-- bytes that stay as they are have gained a front of any text
pub front_of_nothing : (old : Option (List ℕ)) (text : List ℕ) → AppendsFront old old text
front_of_nothing None text = (0, (omega arith), tt)
front_of_nothing (Some xs) text = (0, (omega arith), sym (append-nil xs))

pub front_if : (printed old : Option (List ℕ)) → IfSome printed (λ text. AppendsFront old old text)
front_if None old = tt
front_if (Some text) old = front_of_nothing old text

pub keeps_itself : (old : Option (List ℕ)) → Keeps old old
keeps_itself None = tt
keeps_itself (Some xs) = refl

-- and of no sectors of it
sectors_of_nothing : (old : Option (List ℕ)) (text : List ℕ) → AppendsSectors old old text
sectors_of_nothing None text = (0, (omega arith), tt)
sectors_of_nothing (Some xs) text = (0, (omega arith), sym (append-nil xs))

-- and of no lines of it
lines_of_nothing : (old : Option (List ℕ)) (text : List ℕ) → AppendsLines old old text
lines_of_nothing None text = (0, (omega arith), inl refl, tt)
lines_of_nothing (Some xs) text = (0, (omega arith), inl refl, sym (append-nil xs))

pub pieces_of_nothing : (pieces : Pieces) (old : Option (List ℕ)) (text : List ℕ) → AppendsPieces pieces old old text
pieces_of_nothing Sectors old text = sectors_of_nothing old text
pieces_of_nothing Lines old text = lines_of_nothing old text

pub pieces_if : (pieces : Pieces) (printed old : Option (List ℕ)) → IfSome printed (λ text. AppendsPieces pieces old old text)
pieces_if pieces None old = tt
pieces_if pieces (Some text) old = pieces_of_nothing pieces old text

appends_if : (printed old new : Option (List ℕ)) (text : List ℕ) → IfSome printed (λ p. text ≡ p) → Appends old new text → IfSome printed (λ p. Appends old new p)
appends_if None old new text is h = tt
appends_if (Some p) old new text is h = subst (λ t. Appends old new t) is h

fronts_if : (printed old new : Option (List ℕ)) (text : List ℕ) → IfSome printed (λ p. text ≡ p) → AppendsFront old new text → IfSome printed (λ p. AppendsFront old new p)
fronts_if None old new text is h = tt
fronts_if (Some p) old new text is h = subst (λ t. AppendsFront old new t) is h

-- nothing was put, whatever the cause
pub ends_unput : {T : Type 0} (pieces : Pieces) (refused : Option Refusal) (printed old : Option (List ℕ)) (stop : Stop) → EndsBy refused stop → Ends {T = T} pieces refused printed old old (Err stop)
ends_unput pieces refused printed old stop by =
    record { refuses = record { ends = by; passes = tt }; puts = tt; front = front_if printed old; whole = λ e. pieces_if pieces printed old }

-- an error is the same error, whatever the value would have been
same_fault : {T U : Type 0} (stop fault : Stop) → IsErrOf {T = T} (Err stop) fault → IsErrOf {T = U} (Err stop) fault
same_fault stop fault e = let f = e in let g : stop ≡ fault = cc in ap (λ (s : Stop). Err s) g

pub raises_same : {T U : Type 0} (fault stop : Stop) (before after : ℕ) → Raises {T = T} fault before after (Err stop) → Raises {T = U} fault before after (Err stop)
raises_same fault stop before after raises = record { rose = λ e. raises.rose (same_fault stop fault e); stays = λ none. raises.stays (λ e. none (same_fault stop fault e)); later = raises.later }

-- a count that rose, and one that is as it was
pub rises : {T : Type 0} (fault : Stop) (before after : ℕ) → Rose before after → before ≤ after → Raises {T = T} fault before after (Err fault)
rises fault before after rose later = record { rose = λ e. rose; stays = λ none. absurd (none refl); later = later }

pub stays : {T : Type 0} (fault : Stop) (before after : ℕ) (r : Result T Stop) → after ≡ before → (IsErrOf r fault → ⊥) → Raises fault before after r
stays fault before after r same none = record { rose = λ e. absurd (none e); stays = λ other. same; later = omega arith }

-- an answer raises no count but that of its fault
pub no_raise : {T : Type 0} (fault : Stop) (count : ℕ) (r : Result T Stop) → (IsErrOf r fault → ⊥) → Raises fault count count r
no_raise fault count r none = record { rose = λ e. absurd (none e); stays = λ other. refl; later = omega arith }

takes_same : (T U : Type 0) (most : Option ℕ) (old new : Stream) (stop : Stop) → Takes {T = T} most old new (Err stop) → Takes {T = U} most old new (Err stop)
takes_same T U None old new stop takes = takes
takes_same T U (Some most) old new stop takes = (takes.0, tt)

takes_put : {T U : Type 0} (most : Option ℕ) (old new : Stream) (x : T) (y : U) → Takes most old new (Ok x) → Takes most old new (Ok y)
takes_put None old new x y takes = takes
takes_put (Some most) old new x y takes = takes

takes_unput : (T U : Type 0) (most : Option ℕ) (old new : Stream) (x : T) (stop : Stop) → Takes most old new (Ok x) → Takes {T = U} most old new (Err stop)
takes_unput T U None old new x stop takes = takes
takes_unput T U (Some most) old new x stop takes = (takes.0, tt)

own_same : (T U : Type 0) (stop : Stop) → IsOwn {T = U} (Err stop) → IsOwn {T = T} (Err stop)
own_same T U (Refused refusal) own = tt
own_same T U ImageFault own = absurd own
own_same T U SourceFault own = absurd own
own_same T U OutFault own = absurd own
own_same T U OutOfMemory own = absurd own

heeds_same : (T U : Type 0) (job : Job) (most : Option ℕ) (given : Named) (old new : Stream) (stop : Stop) → Heeds {T = T} job most given old new (Err stop) → Heeds {T = U} job most given old new (Err stop)
heeds_same T U job None given old new stop heeds = tt
heeds_same T U job (Some most) given old new stop heeds =
    (λ all refusal is. let early = heeds.0 all refusal is in (same_fault stop (Refused refusal) early.0, early.1), λ own. heeds.1 (own_same T U stop own))

heeds_put : {T U : Type 0} (job : Job) (most : Option ℕ) (given : Named) (old new : Stream) (x : T) (y : U) → Heeds job most given old new (Ok x) → Heeds job most given old new (Ok y)
heeds_put job None given old new x y heeds = tt
heeds_put job (Some most) given old new x y heeds = (λ all refusal is. absurd (let early = (heeds.0 all refusal is).0 in cc), λ own. heeds.1 tt)

heeds_unput : (T U : Type 0) (job : Job) (most : Option ℕ) (given : Named) (old new : Stream) (x : T) → Heeds job most given old new (Ok x) → Heeds {T = U} job most given old new (Err OutFault)
heeds_unput T U job None given old new x heeds = tt
heeds_unput T U job (Some most) given old new x heeds = (λ all refusal is. absurd (let early = (heeds.0 all refusal is).0 in cc), λ own. absurd own)

cut_same : (T U : Type 0) (stop : Stop) → is_cut {T = T} (Err stop) ≡ is_cut {T = U} (Err stop)
cut_same T U (Refused refusal) = refl
cut_same T U ImageFault = refl
cut_same T U SourceFault = refl
cut_same T U OutFault = refl
cut_same T U OutOfMemory = refl

-- there is no answer: nothing is put
stopped : {T : Type 0} (job : Job) (given : Named) (before after : Around) (out : Stream) (stop : Stop) → job.streams ≡ false → Answers job given before after (Err stop) → Does {T = T} job given before after out out (Err stop)
stopped {T} job given before after out stop still answers = record {
  ends = λ said says. ends_unput job.pieces (job.refused said given) (job.printed said given) out.known stop (answers.refuses said says).ends;
  order = λ said says all refusal is.
      let first = answers.order said says refusal is in
      record {
        unread = first.unread;
        unput = keeps_itself out.known;
        no_image_fault = λ e. first.no_image_fault (same_fault stop ImageFault e);
        no_out_fault = λ e. first.no_out_fault (same_fault stop OutFault e);
      };
  reads = λ said says. subst (λ (cut : Bool). job.MayRead said given cut before.images.sectors_read after.images.sectors_read) (cut_same (List ℕ) T stop) (answers.reads said says);
  takes = takes_same (List ℕ) T job.most before.source after.source stop answers.takes;
  heeds = heeds_same (List ℕ) T job job.most given before.source after.source stop answers.heeds;
  leaves = record {
    images = raises_same ImageFault stop before.images.faults after.images.faults answers.causes.images;
    source = raises_same SourceFault stop before.source.faults after.source.faults answers.causes.source;
    out = no_raise OutFault out.faults (Err stop) (λ e. answers.causes.unput (same_fault stop OutFault e));
    unput = λ h. keeps_itself out.known;
    unread = subst (λ (b : Bool). (MayHaveRead b stop → ⊥) → after.images.sectors_read ≡ before.images.sectors_read) (sym still) answers.causes.unread;
  };
  apart = answers.apart;
  world = answers.world;
}

-- the answer is put
put_whole : {T : Type 0} (job : Job) (given : Named) (before after : Around) (old new : Stream) (text : List ℕ) (x : T) → Answers job given before after (Ok text) → Appends old.known new.known text → new.faults ≡ old.faults →
    Does job given before after old new (Ok x)
put_whole job given before after old new text x answers put same = record {
  ends = λ said says. record {
    refuses = record { ends = tt; passes = (answers.refuses said says).passes };
    puts = appends_if (job.printed said given) old.known new.known text (answers.text said says) put;
    front = tt;
    whole = λ e. absurd (cc);
  };
  order = λ said says all refusal is. absurd (let none : job.refused said given ≡ None = (answers.refuses said says).passes in cc);
  reads = answers.reads;
  takes = takes_put job.most before.source after.source text x answers.takes;
  heeds = heeds_put job job.most given before.source after.source text x answers.heeds;
  leaves = record {
    images = stays ImageFault before.images.faults after.images.faults (Ok x) (answers.causes.images.stays (λ e. absurd (cc))) (λ e. absurd (cc));
    source = stays SourceFault before.source.faults after.source.faults (Ok x) (answers.causes.source.stays (λ e. absurd (cc))) (λ e. absurd (cc));
    out = stays OutFault old.faults new.faults (Ok x) same (λ e. absurd (cc));
    unput = tt;
    unread = tt;
  };
  apart = answers.apart;
  world = answers.world;
}

-- the output fails
put_front : {T : Type 0} (job : Job) (given : Named) (before after : Around) (old new : Stream) (text : List ℕ) → Answers job given before after (Ok text) → AppendsFront old.known new.known text → Rose old.faults new.faults → old.faults ≤ new.faults →
    Does {T = T} job given before after old new (Err OutFault)
put_front {T} job given before after old new text answers put rose later = record {
  ends = λ said says. record {
    refuses = record { ends = tt; passes = tt };
    puts = tt;
    front = fronts_if (job.printed said given) old.known new.known text (answers.text said says) put;
    whole = λ e. absurd (cc);
  };
  order = λ said says all refusal is. absurd (let none : job.refused said given ≡ None = (answers.refuses said says).passes in cc);
  reads = answers.reads;
  takes = takes_unput (List ℕ) T job.most before.source after.source text OutFault answers.takes;
  heeds = heeds_unput (List ℕ) T job job.most given before.source after.source text answers.heeds;
  leaves = record {
    images = stays ImageFault before.images.faults after.images.faults (Err OutFault) (answers.causes.images.stays (λ e. absurd (cc))) (λ e. absurd (cc));
    source = stays SourceFault before.source.faults after.source.faults (Err OutFault) (answers.causes.source.stays (λ e. absurd (cc))) (λ e. absurd (cc));
    out = rises OutFault old.faults new.faults rose later;
    unput = λ h. absurd (h tt);
    unread = λ h. absurd (h tt);
  };
  apart = answers.apart;
  world = answers.world;
}

put_any : {T : Type 0} (job : Job) (given : Named) (before after : Around) (old new : Stream) (text : List ℕ) (result : Result T Stop) → Answers job given before after (Ok text) → IsPrinted old new (Ok text) result → Does job given before after old new result
put_any job given before after old new text (Ok x) answers is = put_whole job given before after old new text x answers is.0 is.1
put_any {T} job given before after old new text (Err stop) answers is =
    subst (λ (s : Stop). Does {T = T} job given before after old new (Err s)) (sym is.0) (put_front job given before after old new text answers is.1 is.2 is.3)

-- a job that finds its answer, and then puts it
pub does_printed : {T : Type 0} (job : Job) (given : Named) (before after : Around) (old new : Stream) (answer : Result (List ℕ) Stop) (result : Result T Stop) → job.streams ≡ false → Answers job given before after answer → IsPrinted old new answer result →
    Does job given before after old new result
does_printed job given before after old new (Ok text) result still answers is = put_any job given before after old new text result answers is
does_printed {T} job given before after old new (Err stop) result still answers is =
    subst (λ (r : Result T Stop). Does job given before after old new r) (sym is.0)
    (subst (λ (s : Stream). Does {T = T} job given before after old s (Err stop)) (sym is.1) (stopped job given before after old stop still answers))

-- what is not refused has no order to keep
pub order_allowed : {T : Type 0} (refused : Option Refusal) (read now : ℕ) (old new : Option (List ℕ)) (r : Result T Stop) → refused ≡ None → Orders refused read now old new r
order_allowed refused read now old new r none refusal e = absurd (cc)
