-- What is done where nothing is refused.
use Rattle.std.proofs.Common.{◌≡◌, ℕ, ◌*◌, List, length, None, Some, Option, Result, Ok, Err, OnOk, IfErr, IfSome, true, refl, sym, ap, ◌∙◌, subst}
use Rattle.std.specs.Io.KnownBytes.{Appends, Keeps}
use Rattle.std.specs.Option.{option_map}
use Rattle.outside.specs.Attached.{told_all}
use Rattle.outside.specs.Seen.{Image, OnlyReads, Seen}
use Rattle.outside.specs.Streams.{AppendsFront, Stream}
use Rattle.command_words.specs.declared.command.RelationWords.{RelationWords}
use Rattle.relation_lines.specs.declared.style.Style.{Style}
use Rattle.run_ends.proofs.Printed.{ends_unput, keeps_itself, no_raise}
use Rattle.run_ends.specs.Counts.{Raises}
use Rattle.run_ends.specs.Jobs.{Does, Ends, Leaves, around, named}
use Rattle.run_ends.specs.Pieces.{AppendsLines}
use Rattle.run_ends.specs.Pieces.Pieces.{Lines}
use Rattle.run_ends.specs.declared.agreement.Disagreement.{Disagreement}
use Rattle.run_ends.specs.declared.stop.Refusal.{Refusal}
use Rattle.run_ends.specs.declared.stop.Refusal.TheVariants.{Images}
use Rattle.run_ends.specs.declared.stop.Stop.{Stop}
use Rattle.run_ends.specs.declared.stop.Stop.TheVariants.{Refused, ImageFault, SourceFault, OutFault, OutOfMemory}
use Rattle.relation_job.specs.Looking.{EndsReport}
use Rattle.relation_job.specs.Relating.{relations_fault, relations_job, relations_refusal, report_text, style_of}
use Rattle.relation_job.specs.Sampling.{sampling_for}
use Rattle.relation_job.specs.declared.sampling.Sampling.{Sampling}

-- the images are refused, or not
pub images_refused : (asked : RelationWords) (names : ℕ) (attached : List Image) (fault : Disagreement) → relations_fault asked names attached ≡ Some fault → relations_refusal asked names attached ≡ Some (Images fault)
unfolding relations_refusal
images_refused asked names attached fault e = ap (option_map (λ (f : Disagreement). Images f)) e

images_allowed : (asked : RelationWords) (names : ℕ) (attached : List Image) → relations_fault asked names attached ≡ None → relations_refusal asked names attached ≡ None
unfolding relations_refusal
images_allowed asked names attached e = ap (option_map (λ (f : Disagreement). Images f)) e

told_map : (told : Option (List (List ℕ))) (content : List (List ℕ) → List ℕ) (P : List ℕ → Type 0) → IfSome told (λ bytes. P (content bytes)) → IfSome (option_map content told) P
told_map None content P h = tt
told_map (Some bytes) content P h = h

-- what a report does, by its cases
pub record ReportDone (offsets : List ℕ) (sampling : Sampling) (style : Style) (old new : Seen) (before now : Stream) (result : Result (Unit {0}) Stop) : Type 0 where
  pub put : OnOk result (IfSome (told_all old.attached) (λ bytes. Appends before.known now.known (report_text bytes offsets sampling style)))
  pub ends : IfErr result (EndsReport (told_all old.attached) offsets sampling style old new before now)
  pub reads : OnlyReads old new (sampling.rows * length old.attached)
  pub images : Raises ImageFault old.faults new.faults result
  pub out : Raises OutFault before.faults now.faults result

module _ (offsets : List ℕ) (sampling : Sampling) (style : Style) (refused : Option Refusal) (old new : Seen) (out put : Stream) (none : refused ≡ None) where
  abbrev content : List (List ℕ) → List ℕ
  content images = report_text images offsets sampling style

  ended : (stop : Stop) → EndsReport (told_all old.attached) offsets sampling style old new out put stop → Ends {T = Unit {0}} Lines refused (option_map content (told_all old.attached)) out.known put.known (Err stop)
  ended (Refused refusal) ends = absurd ends
  ended ImageFault ends = record {
    refuses = record { ends = tt; passes = tt };
    puts = tt;
    front = told_map (told_all old.attached) content (λ text. AppendsFront out.known put.known text) (fronts (told_all old.attached) ends);
    whole = λ e. told_map (told_all old.attached) content (λ text. AppendsLines out.known put.known text) ends;
  }
    where
      fronts : (told : Option (List (List ℕ))) → IfSome told (λ images. AppendsLines out.known put.known (content images)) → IfSome told (λ images. AppendsFront out.known put.known (content images))
      fronts None h = tt
      fronts (Some images) h = (h.0, h.1, h.3)
  ended SourceFault ends = absurd ends
  ended OutFault ends = record {
    refuses = record { ends = tt; passes = tt };
    puts = tt;
    front = told_map (told_all old.attached) content (λ text. AppendsFront out.known put.known text) ends;
    whole = λ e. absurd (cc);
  }
  ended OutOfMemory ends =
      subst (λ (s : Stream). Ends {T = Unit {0}} Lines refused (option_map content (told_all old.attached)) out.known s.known (Err OutOfMemory)) (sym ends.0)
      (ends_unput {T = Unit {0}} Lines refused (option_map content (told_all old.attached)) out.known OutOfMemory tt)

leaves_err : (offsets : List ℕ) (sampling : Sampling) (style : Style) (old new : Seen) (source out put : Stream) (stop : Stop) → EndsReport (told_all old.attached) offsets sampling style old new out put stop →
    Raises {T = Unit {0}} ImageFault old.faults new.faults (Err stop) → Raises {T = Unit {0}} OutFault out.faults put.faults (Err stop) → Leaves {T = Unit {0}} true (around old source) (around new source) out put (Err stop)
leaves_err offsets sampling style old new source out put (Refused refusal) ends images outs = absurd ends
leaves_err offsets sampling style old new source out put ImageFault ends images outs = record {
  images = images;
  source = no_raise SourceFault source.faults (Err ImageFault) (λ e. absurd (cc));
  out = outs;
  unput = λ h. absurd (h refl);
  unread = λ h. absurd (h tt);
}
leaves_err offsets sampling style old new source out put SourceFault ends images outs = absurd ends
leaves_err offsets sampling style old new source out put OutFault ends images outs = record {
  images = images;
  source = no_raise SourceFault source.faults (Err OutFault) (λ e. absurd (cc));
  out = outs;
  unput = λ h. absurd (h tt);
  unread = λ h. absurd (h tt);
}
leaves_err offsets sampling style old new source out put OutOfMemory ends images outs = record {
  images = images;
  source = no_raise SourceFault source.faults (Err OutOfMemory) (λ e. absurd (cc));
  out = outs;
  unput = λ h. subst (λ (s : Stream). Keeps out.known s.known) (sym ends.0) (keeps_itself out.known);
  unread = λ h. ap (λ (s : Seen). s.sectors_read) ends.1;
}

no_refusal : (refusal : Refusal) → None ≡ Some refusal → ⊥
no_refusal refusal e = absurd (cc)

-- the report is that of what is asked for
pub does_report : (asked : RelationWords) (names : ℕ) (offsets : List ℕ) (sampling : Sampling) (style : Style) (old new : Seen) (source out put : Stream) (result : Result (Unit {0}) Stop) → relations_fault asked names old.attached ≡ None →
    offsets ≡ asked.offsets.items → sampling ≡ sampling_for asked old.attached → style ≡ style_of asked.form → ReportDone offsets sampling style old new out put result →
    Does (relations_job asked) (named names old.attached) (around old source) (around new source) out put result
does_report asked names offsets sampling style old new source out put result none alike same kind done =
    by_result result
    (subst (λ (o : List ℕ). ReportDone o (sampling_for asked old.attached) (style_of asked.form) old new out put result) alike
    (subst (λ (s : Sampling). ReportDone offsets s (style_of asked.form) old new out put result) same (subst (λ (k : Style). ReportDone offsets sampling k old new out put result) kind done)))
  where
    allowed : relations_refusal asked names old.attached ≡ None
    allowed = images_allowed asked names old.attached none

    by_result : (r : Result (Unit {0}) Stop) → ReportDone asked.offsets.items (sampling_for asked old.attached) (style_of asked.form) old new out put r → Does (relations_job asked) (named names old.attached) (around old source) (around new source) out put r
    by_result (Ok x) is = record {
      ends = λ said says. record {
        refuses = record { ends = tt; passes = allowed };
        puts = told_map (told_all old.attached) (λ images. report_text images asked.offsets.items (sampling_for asked old.attached) (style_of asked.form)) (λ text. Appends out.known put.known text) is.put;
        front = tt;
        whole = λ e. absurd (cc);
      };
      order = λ said says all refusal e. absurd (no_refusal refusal (sym allowed ∙ e));
      reads = λ said says. is.reads.sectors_read;
      takes = refl;
      heeds = tt;
      leaves = record {
        images = is.images;
        source = no_raise SourceFault source.faults (Ok x) (λ e. absurd (cc));
        out = is.out;
        unput = tt;
        unread = tt;
      };
      apart = λ e. absurd (cc);
      world = is.reads.world;
    }
    by_result (Err stop) is = record {
      ends = λ said says. ended asked.offsets.items (sampling_for asked old.attached) (style_of asked.form) (relations_refusal asked names old.attached) old new out put allowed stop is.ends;
      order = λ said says all refusal e. absurd (no_refusal refusal (sym allowed ∙ e));
      reads = λ said says. is.reads.sectors_read;
      takes = refl;
      heeds = tt;
      leaves = leaves_err asked.offsets.items (sampling_for asked old.attached) (style_of asked.form) old new source out put stop is.ends is.images is.out;
      apart = λ e. absurd (cc);
      world = is.reads.world;
    }
