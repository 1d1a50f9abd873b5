-- The answer of the job: what the text of its source says.
use Rattle.std.proofs.Common.{◌≡◌, ℕ, ◌≤◌, ◌<◌, Bool, cond, List, length, None, Some, Option, Result, Ok, Err, IfSome, IsErrOf, MatchResult, refl, sym, ap, ◌∙◌, subst, arith}
use Rattle.std.specs.Io.KnownBytes.{IsAtEnd}
use Rattle.std.proofs.lemmas.Bool.{lt-ltb, le-ltb}
use Rattle.outside.specs.Seen.{Seen}
use Rattle.outside.specs.Streams.{Stream}
use Rattle.run_ends.proofs.Printed.{no_raise, raises_same}
use Rattle.run_ends.specs.Counts.{Raises}
use Rattle.run_ends.specs.Jobs.{Answers, IsOwn, IsSaid, Named, around}
use Rattle.run_ends.specs.Source.{TakesFew}
use Rattle.run_ends.specs.Stops.{EndsBy, IsTextless}
use Rattle.run_ends.specs.declared.stop.Refusal.{Refusal}
use Rattle.run_ends.specs.declared.stop.Refusal.TheVariants.{SetLine, SetsAreLong}
use Rattle.run_ends.specs.declared.stop.Stop.{Stop}
use Rattle.run_ends.specs.declared.stop.Stop.TheVariants.{Refused, ImageFault, SourceFault, OutFault, OutOfMemory}
use Rattle.volume_classes.specs.Classes.{IsClassed}
use Rattle.class_job.proofs.OneReading.{one_reading}
use Rattle.class_job.specs.Classing.{Classed, classes_of, IsListless, IsListOf, ListReading, ListSaid, NoList, SaysList, classes_job, line_refusal, list_refusal}

short_refusal : (said : ListSaid) → length said.text ≤ 4194304 → list_refusal said ≡ line_refusal said.list
unfolding list_refusal
short_refusal said short = ap (λ (b : Bool). cond b (Some SetsAreLong) (line_refusal said.list)) (le-ltb 4194304 (length said.text) short)

long_refusal : (said : ListSaid) → 4194304 < length said.text → list_refusal said ≡ Some SetsAreLong
unfolding list_refusal
long_refusal said long = ap (λ (b : Bool). cond b (Some SetsAreLong) (line_refusal said.list)) (lt-ltb 4194304 (length said.text) long)

-- the text that was read is that of the source
text_said : (left : Option (List ℕ)) (text said : List ℕ) → IfSome left (λ bytes. text ≡ bytes) → left ≡ Some said → text ≡ said
text_said left text said is says = let P : Option (List ℕ) → Type 0 = λ l. IfSome l (λ bytes. text ≡ bytes) in subst P says is

-- a text that is too long says what it will, and one that was read what was read of it
says_long : (images end : ℕ) (left : Option (List ℕ)) → IfSome left (λ text. 4194304 < length text) → IsSaid (classes_job images end) left
says_long images end None long = tt
says_long images end (Some text) long = (record { text = text; list = NoList 0 }, (refl, λ short. absurd (omega arith)))

says_read : (images end : ℕ) (left : Option (List ℕ)) (text : List ℕ) (list : ListReading) → IfSome left (λ bytes. text ≡ bytes) → IsListOf images end text list → IsSaid (classes_job images end) left
says_read images end None text list same is = tt
says_read images end (Some bytes) text list same is = (record { text = bytes; list = list }, (refl, λ short. subst (λ (xs : List ℕ). IsListOf images end xs list) same is))

-- nothing was read, and what was left is wanting
pub textless : {T : Type 0} (images end : ℕ) (seen : Seen) (given : Named) (old new : Stream) (stop : Stop) → IsTextless 4194304 SetsAreLong old.known stop → TakesFew 4194304 old.known new.known → Raises {T = T} SourceFault old.faults new.faults (Err stop) →
    Answers (classes_job images end) given (around seen old) (around seen new) (Err stop)
textless {T} images end seen given old new stop ends takes faults = record {
  refuses = λ said says. record { ends = by stop ends said says.0; passes = tt };
  text = λ said says. tt;
  order = λ said says refusal is. record { unread = refl; unput = tt; no_image_fault = λ e. none stop ends ImageFault (λ h. h) e; no_out_fault = λ e. none stop ends OutFault (λ h. h) e };
  reads = λ said says. omega arith;
  takes = (takes, tt);
  heeds = (λ all refusal early. absurd (cc), heard stop ends);
  causes = record {
    images = no_raise ImageFault seen.faults (Err stop) (none stop ends ImageFault (λ h. h));
    source = raises_same SourceFault stop old.faults new.faults faults;
    unput = none stop ends OutFault (λ h. h);
    unread = λ h. refl;
  };
  apart = λ e. refl;
  world = refl;
}
  where
    by : (stop : Stop) → IsTextless 4194304 SetsAreLong old.known stop → (said : ListSaid) → old.known ≡ Some said.text → EndsBy (list_refusal said) stop
    by (Refused refusal) ends said is =
        let P : Option (List ℕ) → Type 0 = λ l. IfSome l (λ text. 4194304 < length text) in
        long_refusal said (subst P is ends.1) ∙ ap (λ (r : Refusal). Some r) (sym ends.0)
    by ImageFault ends said is = absurd ends
    by SourceFault ends said is = tt
    by OutFault ends said is = absurd ends
    by OutOfMemory ends said is = tt

    heard : (stop : Stop) → IsTextless 4194304 SetsAreLong old.known stop → IsOwn {T = List ℕ} (Err stop) → IsSaid (classes_job images end) old.known
    heard (Refused refusal) ends own = says_long images end old.known ends.1
    heard ImageFault ends own = absurd own
    heard SourceFault ends own = absurd own
    heard OutFault ends own = absurd own
    heard OutOfMemory ends own = absurd own

    none : (stop : Stop) → IsTextless 4194304 SetsAreLong old.known stop → (fault : Stop) → (IsTextless 4194304 SetsAreLong old.known fault → ⊥) → IsErrOf {T = List ℕ} (Err stop) fault → ⊥
    none stop ends fault other e =
        let f = e in let g : stop ≡ fault = cc in
        let P : Stop → Type 0 = λ s. IsTextless 4194304 SetsAreLong old.known s in other (subst P g ends)

-- what is known once the text was read
pub record IsRead (text : List ℕ) (old new : Stream) : Type 0 where
  pub text_is : IfSome old.known (λ bytes. text ≡ bytes)
  pub short : length text ≤ 4194304
  pub takes : TakesFew 4194304 old.known new.known
  pub end : IsAtEnd new.known
  pub faults : new.faults ≡ old.faults

-- what the source says is what was read
said_is : (images end : ℕ) (old new : Stream) (text : List ℕ) (r : ListReading) (said : ListSaid) → IsRead text old new → IsListOf images end text r → (old.known ≡ Some said.text) × SaysList images end said.text said.list →
    (list_refusal said ≡ line_refusal r) × (said.list ≡ r)
said_is images end old new text r said read is says =
    let same = text_said old.known text said.text read.text_is says.0 in
    let short : length said.text ≤ 4194304 = omega (arith, read.short, ap length same) in
    let list = one_reading images end said.text said.list r (says.1 short) (subst (λ xs. IsListOf images end xs r) same is) in
    (short_refusal said short ∙ ap line_refusal list, list)

-- the source stays as it is but for what was taken
no_source_fault : {T : Type 0} (old new : Stream) (r : Result T Stop) → new.faults ≡ old.faults → (IsErrOf r SourceFault → ⊥) → Raises SourceFault old.faults new.faults r
no_source_fault old new r same none = record { rose = λ e. absurd (none e); stays = λ other. same; later = omega arith }

-- the text of its classes is the answer
classed : (images end : ℕ) (seen : Seen) (given : Named) (old new : Stream) (text answer : List ℕ) → IsRead text old new → IsListOf images end text (Classed answer) → Answers (classes_job images end) given (around seen old) (around seen new) (Ok answer)
classed images end seen given old new text answer read is = record {
  refuses = λ said says. record { ends = tt; passes = (said_is images end old new text (Classed answer) said read is says).0 };
  text = λ said says. subst (λ r. IfSome (classes_of r) (λ printed. answer ≡ printed)) (sym (said_is images end old new text (Classed answer) said read is says).1) refl;
  order = λ said says refusal some. absurd (let none = (said_is images end old new text (Classed answer) said read is says).0 in cc);
  reads = λ said says. omega arith;
  takes = (read.takes, read.end);
  heeds = (λ all refusal early. absurd (cc), λ own. says_read images end old.known text (Classed answer) read.text_is is);
  causes = record {
    images = no_raise ImageFault seen.faults (Ok answer) (λ e. absurd (cc));
    source = no_source_fault old new (Ok answer) read.faults (λ e. absurd (cc));
    unput = λ e. absurd (cc);
    unread = tt;
  };
  apart = λ e. refl;
  world = refl;
}

-- a stop after the text was read, which is no fault
stopped : (images end : ℕ) (seen : Seen) (given : Named) (old new : Stream) (text : List ℕ) (stop : Stop) → IsRead text old new → (IsErrOf {T = List ℕ} (Err stop) ImageFault → ⊥) → (IsErrOf {T = List ℕ} (Err stop) SourceFault → ⊥) → (IsErrOf {T = List ℕ} (Err stop) OutFault → ⊥) →
    ((said : ListSaid) → (old.known ≡ Some said.text) × SaysList images end said.text said.list → EndsBy (list_refusal said) stop) → (IsOwn {T = List ℕ} (Err stop) → IsSaid (classes_job images end) old.known) →
    Answers (classes_job images end) given (around seen old) (around seen new) (Err stop)
stopped images end seen given old new text stop read no_image no_source no_out by heard = record {
  refuses = λ said says. record { ends = by said says; passes = tt };
  text = λ said says. tt;
  order = λ said says refusal some. record { unread = refl; unput = tt; no_image_fault = no_image; no_out_fault = no_out };
  reads = λ said says. omega arith;
  takes = (read.takes, tt);
  heeds = (λ all refusal early. absurd (cc), heard);
  causes = record {
    images = no_raise ImageFault seen.faults (Err stop) no_image;
    source = no_source_fault old new (Err stop) read.faults no_source;
    unput = no_out;
    unread = λ h. refl;
  };
  apart = λ e. refl;
  world = refl;
}

-- the refused line is the answer
refused : (images end : ℕ) (seen : Seen) (given : Named) (old new : Stream) (text : List ℕ) (number : ℕ) → IsRead text old new → IsListOf images end text (NoList number) →
    Answers (classes_job images end) given (around seen old) (around seen new) (Err (Refused (SetLine number)))
refused images end seen given old new text number read is =
    stopped images end seen given old new text (Refused (SetLine number)) read (λ e. absurd (cc)) (λ e. absurd (cc)) (λ e. absurd (cc))
    (λ said says. (said_is images end old new text (NoList number) said read is says).0) (λ own. says_read images end old.known text (NoList number) read.text_is is)

-- memory ran out
wanting : (images end : ℕ) (seen : Seen) (given : Named) (old new : Stream) (text : List ℕ) → IsRead text old new → Answers (classes_job images end) given (around seen old) (around seen new) (Err OutOfMemory)
wanting images end seen given old new text read = stopped images end seen given old new text OutOfMemory read (λ e. absurd (cc)) (λ e. absurd (cc)) (λ e. absurd (cc)) (λ said says. tt) (λ own. absurd own)

-- the text gives no classes
listless : (images end : ℕ) (seen : Seen) (given : Named) (old new : Stream) (text : List ℕ) (stop : Stop) → IsRead text old new → IsListless images end text stop → Answers (classes_job images end) given (around seen old) (around seen new) (Err stop)
listless images end seen given old new text (Refused refusal) read is =
    subst (λ (r : Refusal). Answers (classes_job images end) given (around seen old) (around seen new) (Err (Refused r))) (sym is.1) (refused images end seen given old new text is.0 read is.2)
listless images end seen given old new text ImageFault read is = absurd is
listless images end seen given old new text SourceFault read is = absurd is
listless images end seen given old new text OutFault read is = absurd is
listless images end seen given old new text OutOfMemory read is = wanting images end seen given old new text read

-- the answer over a text that was read
pub answers : (images end : ℕ) (seen : Seen) (given : Named) (old new : Stream) (text : List ℕ) (answer : Result (List ℕ) Stop) → IsRead text old new → MatchResult answer (IsClassed images end text) (IsListless images end text) →
    Answers (classes_job images end) given (around seen old) (around seen new) answer
answers images end seen given old new text (Ok answer) read is = classed images end seen given old new text answer read is
answers images end seen given old new text (Err stop) read is = listless images end seen given old new text stop read is
