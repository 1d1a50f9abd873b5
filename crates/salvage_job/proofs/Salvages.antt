-- How `salvage` ends.
use Rattle.std.proofs.Common.{◌≡◌, ◌≤◌, ◌+◌, ℕ, Bool, true, false, List, None, Some, Option, Result, Ok, Err, IfSome, MatchResult, refl, sym, ap, ◌∙◌, subst, arith}
use Rattle.std.specs.Io.KnownBytes.{IsAtEnd}
use Rattle.std.specs.Option.{option_map}
use Rattle.outside.specs.Seen.{Image, Seen}
use Rattle.outside.specs.Streams.{Stream}
use Rattle.raid_params.specs.Size.{volume_sectors}
use Rattle.raid_params.specs.declared.wide.Wide.{Wide}
use Rattle.rescue_map.proofs.Padding.{salvaged_testable}
use Rattle.rescue_map.proofs.Passed.{damage_of}
use Rattle.rescue_map.specs.Damaged.{IsDamaged}
use Rattle.rescue_map.specs.LostText.{lost_text}
use Rattle.rescue_map.specs.Salvaged.{reads_for_all, salvaged}
use Rattle.rescue_text.specs.RescueText.{rescue_sections}
use Rattle.rescue_text.specs.declared.fault.RescueFault.{RescueFault}
use Rattle.rescue_text.specs.declared.section.Section.{Section}
use Rattle.run_ends.proofs.Printed.{no_raise, stays}
use Rattle.run_ends.specs.Counts.{Raises}
use Rattle.run_ends.specs.Jobs.{Answers, Does, Ends, Heeds, IsSaid, Job, Takes, around, named}
use Rattle.run_ends.specs.Pieces.Pieces.{Sectors}
use Rattle.run_ends.specs.Source.{TakesFew}
use Rattle.run_ends.specs.declared.stop.Refusal.{Refusal}
use Rattle.run_ends.specs.declared.stop.Stop.{Stop}
use Rattle.run_ends.specs.declared.stop.Stop.TheVariants.{ImageFault, SourceFault, OutOfMemory}
use Rattle.salvage_job.specs.Salvaging.{IsReady, salvage_job, salvage_output, salvage_reads, salvage_refusal}
use Rattle.salvage_job.specs.declared.salvaging.Ready.{Ready}
use Rattle.set_jobs.proofs.Written.{writing_job}
use Rattle.set_jobs.specs.Writing.{told_for}

-- what is known of the text that the source has left
told : (P : List ℕ → Type 0) (left : Option (List ℕ)) (said : List ℕ) → IfSome left P → left ≡ Some said → P said
told P left said h says = subst (λ (l : Option (List ℕ)). IfSome l P) says h

-- a set whose work begins may be damaged
pub ready_damaged : (set : Wide) (end : Option ℕ) (names : ℕ) (attached : List Image) (left : Option (List ℕ)) (ready : Ready) → IsReady set end names attached left ready → IsDamaged set ready.end
ready_damaged set end names attached left ready is = damage_of set ready.end (salvaged_testable set ready.end attached is.salvaged) is.salvaged.near

-- what is left of the source once the work begins
pub record IsTaken (old new : Stream) : Type 0 where
  pub takes : TakesFew 4194304 old.known new.known
  pub end : IsAtEnd new.known
  pub faults : new.faults ≡ old.faults

ready_allowed : (set : Wide) (end : Option ℕ) (names : ℕ) (attached : List Image) (left : Option (List ℕ)) (ready : Ready) (said : List ℕ) → IsReady set end names attached left ready → left ≡ Some said → salvage_refusal set end said names attached ≡ None
ready_allowed set end names attached left ready said is says = told (λ text. salvage_refusal set end text names attached ≡ None) left said is.allowed says

ready_sections : (set : Wide) (end : Option ℕ) (names : ℕ) (attached : List Image) (left : Option (List ℕ)) (ready : Ready) (said : List ℕ) → IsReady set end names attached left ready → left ≡ Some said → rescue_sections names said ≡ Ok ready.rescue
ready_sections set end names attached left ready said is says = told (λ text. rescue_sections names text ≡ Ok ready.rescue) left said is.sections says

-- any text says itself
says_itself : (set : Wide) (lost : Bool) (end : Option ℕ) (left : Option (List ℕ)) → IsSaid (salvage_job set lost end) left
says_itself set lost end None = tt
says_itself set lost end (Some text) = (text, refl)

-- the images are not refused once the work begins
ready_heeds : {T : Type 0} (set : Wide) (lost : Bool) (end : Option ℕ) (names : ℕ) (attached : List Image) (old new : Stream) (ready : Ready) (result : Result T Stop) → IsReady set end names attached old.known ready →
    Heeds (salvage_job set lost end) (Some 4194304) (named names attached) old new result
ready_heeds set lost end names attached old new ready result is = (λ all refusal some. absurd (let none = is.images in cc), λ own. says_itself set lost end old.known)

-- the text of what is lost is made
lost_made : (set : Wide) (end : Option ℕ) (names : ℕ) (seen : Seen) (old new : Stream) (ready : Ready) (text : List ℕ) → IsReady set end names seen.attached old.known ready → IsTaken old new → text ≡ lost_text ready.rescue set ready.end →
    Answers (salvage_job set true end) (named names seen.attached) (around seen old) (around seen new) (Ok text)
lost_made set end names seen old new ready text is taken made = record {
  refuses = λ said says. record { ends = tt; passes = ready_allowed set end names seen.attached old.known ready said is says };
  text = λ said says.
      subst (λ (r : Result (List Section) RescueFault). IfSome (salvage_output set true end seen.attached r) (λ printed. text ≡ printed)) (sym (ready_sections set end names seen.attached old.known ready said is says))
      (made ∙ ap (lost_text ready.rescue set) is.end_is);
  order = λ said says refusal some. absurd (let none = ready_allowed set end names seen.attached old.known ready said is says in cc);
  reads = λ said says. omega arith;
  takes = (taken.takes, taken.end);
  heeds = ready_heeds set true end names seen.attached old new ready (Ok text) is;
  causes = record {
    images = no_raise ImageFault seen.faults (Ok text) (λ e. absurd (cc));
    source = stays SourceFault old.faults new.faults (Ok text) taken.faults (λ e. absurd (cc));
    unput = λ e. absurd (cc);
    unread = tt;
  };
  apart = λ e. refl;
  world = refl;
}

-- memory ran out for it
lost_wanting : (set : Wide) (end : Option ℕ) (names : ℕ) (seen : Seen) (old new : Stream) (ready : Ready) → IsReady set end names seen.attached old.known ready → IsTaken old new →
    Answers (salvage_job set true end) (named names seen.attached) (around seen old) (around seen new) (Err OutOfMemory)
lost_wanting set end names seen old new ready is taken = record {
  refuses = λ said says. record { ends = tt; passes = tt };
  text = λ said says. tt;
  order = λ said says refusal some. absurd (let none = ready_allowed set end names seen.attached old.known ready said is says in cc);
  reads = λ said says. omega arith;
  takes = (taken.takes, tt);
  heeds = ready_heeds set true end names seen.attached old new ready (Err OutOfMemory) is;
  causes = record {
    images = no_raise ImageFault seen.faults (Err OutOfMemory) (λ e. absurd (cc));
    source = stays SourceFault old.faults new.faults (Err OutOfMemory) taken.faults (λ e. absurd (cc));
    unput = λ e. absurd (cc);
    unread = λ h. refl;
  };
  apart = λ e. refl;
  world = refl;
}

pub lost_answers : (set : Wide) (end : Option ℕ) (names : ℕ) (seen : Seen) (old new : Stream) (ready : Ready) (answer : Result (List ℕ) Stop) → IsReady set end names seen.attached old.known ready → IsTaken old new →
    MatchResult answer (λ text. text ≡ lost_text ready.rescue set ready.end) (λ stop. stop ≡ OutOfMemory) → Answers (salvage_job set true end) (named names seen.attached) (around seen old) (around seen new) answer
lost_answers set end names seen old new ready (Ok text) is taken made = lost_made set end names seen old new ready text is taken made
lost_answers set end names seen old new ready (Err stop) is taken made =
    subst (λ (s : Stop). Answers (salvage_job set true end) (named names seen.attached) (around seen old) (around seen new) (Err s)) (sym made) (lost_wanting set end names seen old new ready is taken)

-- writing the volume, once the work begins
abbrev pub volume_job : Wide → Ready → Job
volume_job set ready =
    writing_job (λ given. told_for set given.attached) (λ given. None) (λ given images. salvaged images ready.rescue set ready.end) (λ given. reads_for_all ready.rescue set 0 (volume_sectors set.geo.head ready.end))

output_is : (set : Wide) (end : Option ℕ) (names : ℕ) (attached : List Image) (left : Option (List ℕ)) (ready : Ready) (said : List ℕ) → IsReady set end names attached left ready → left ≡ Some said →
    option_map (λ images. salvaged images ready.rescue set ready.end) (told_for set attached) ≡ salvage_output set false end attached (rescue_sections names said)
output_is set end names attached left ready said is says =
    ap (λ (n : ℕ). option_map (λ images. salvaged images ready.rescue set n) (told_for set attached)) is.end_is
    ∙ sym (ap (salvage_output set false end attached) (ready_sections set end names attached left ready said is says))

reads_are : (set : Wide) (end : Option ℕ) (names : ℕ) (attached : List Image) (left : Option (List ℕ)) (ready : Ready) (said : List ℕ) → IsReady set end names attached left ready → left ≡ Some said →
    reads_for_all ready.rescue set 0 (volume_sectors set.geo.head ready.end) ≡ salvage_reads set false end attached (rescue_sections names said)
reads_are set end names attached left ready said is says =
    ap (λ (n : ℕ). reads_for_all ready.rescue set 0 (volume_sectors set.geo.head n)) is.end_is
    ∙ sym (ap (salvage_reads set false end attached) (ready_sections set end names attached left ready said is says))

takes_by : (most : ℕ) (old new : Stream) (r : Result (Unit {0}) Stop) → TakesFew most old.known new.known → IsAtEnd new.known → Takes (Some most) old new r
takes_by most old new (Ok x) takes end = (takes, end)
takes_by most old new (Err stop) takes end = (takes, tt)

pub does_salvage : (set : Wide) (end : Option ℕ) (names : ℕ) (seen left : Seen) (old new out put : Stream) (ready : Ready) (result : Result (Unit {0}) Stop) → IsReady set end names seen.attached old.known ready → IsTaken old new →
    Does (volume_job set ready) (named names seen.attached) (around seen old) (around left old) out put result → Does (salvage_job set false end) (named names seen.attached) (around seen old) (around left new) out put result
does_salvage set end names seen left old new out put ready result is taken d = record {
  ends = λ said says.
      subst (λ (r : Option Refusal). Ends Sectors r (salvage_output set false end seen.attached (rescue_sections names said)) out.known put.known result) (sym (ready_allowed set end names seen.attached old.known ready said is says))
      (subst (λ (p : Option (List ℕ)). Ends Sectors None p out.known put.known result) (output_is set end names seen.attached old.known ready said is says) (d.ends tt tt));
  order = λ said says all refusal some. absurd (let none = ready_allowed set end names seen.attached old.known ready said is says in cc);
  reads = λ said says. subst (λ (n : ℕ). left.sectors_read ≤ seen.sectors_read + n) (reads_are set end names seen.attached old.known ready said is says) (d.reads tt tt);
  takes = takes_by 4194304 old new result taken.takes taken.end;
  heeds = ready_heeds set false end names seen.attached old new ready result is;
  leaves = record {
    images = d.leaves.images;
    source = subst (λ (n : ℕ). Raises SourceFault old.faults n result) (sym taken.faults) d.leaves.source;
    out = d.leaves.out;
    unput = d.leaves.unput;
    unread = d.leaves.unread;
  };
  apart = λ e. absurd (cc);
  world = d.world;
}
