-- A run, as its job says it.
use Rattle.std.proofs.Common.{◌≡◌, ◌≢◌, ℕ, ◌≤◌, ◌+◌, ◌<◌, ◌^◌, min, List, [], ◌∷◌, None, Some, Option, Result, Ok, Err, All, IfErr, IfSome, refl, sym, ◌∙◌, subst, arith, Bool, length, true}
use Rattle.outside.specs.Attached.{AreImagesOf, told_all}
use Rattle.outside.specs.Causes.{Rose}
use Rattle.outside.specs.Seen.{Image, Seen, World}
use Rattle.outside.specs.Streams.{Stream}
use Rattle.outside.specs.declared.TheConstants.{MOST_ATTACHED}
use Rattle.std.proofs.lemmas.List.Elements.{All-cons, All-nil}
use Rattle.command_words.specs.declared.command.Command.{Command}
use Rattle.command_words.specs.Commands.{EndsInNames, Reads, names_after}
use Rattle.command_words.specs.declared.command.Command.TheVariants.{Survey, Sample, List as ListCommand, Check, Map, Write, Rebuild, Classes, Mirrors, MirrorWrite, Salvage, Relations, Help, Version}
use Rattle.command_words.proofs.OneReading.{one_reading as readings_agree}
use Rattle.plan_jobs.proofs.PagesRead.{none_read}
use Rattle.plan_jobs.proofs.Prepared.{if_plan}
use Rattle.plan_jobs.specs.Checking.{check_reads}
use Rattle.plan_jobs.specs.Listing.{ListReads}
use Rattle.run_ends.proofs.Printed.{ends_unput, keeps_itself, no_raise, rises}
use Rattle.run_ends.proofs.Taking.{nothing_read}
use Rattle.run_ends.specs.Counts.{Raises}
use Rattle.run_ends.specs.Jobs.{Around, Does, Heeds, IsOwn, IsSaid, Job, MayHaveRead, Named, Takes, around, is_cut}
use Rattle.run_ends.specs.declared.stop.Refusal.{Refusal}
use Rattle.run_ends.specs.declared.stop.Stop.{Stop}
use Rattle.run_ends.specs.declared.stop.Stop.TheVariants.{Refused, ImageFault, SourceFault, OutFault}
use Rattle.reraid_cli.specs.Answers.{Reading, TakesBy}
use Rattle.reraid_cli.specs.Table.{job_of}

-- words have one reading
pub one_reading : (words : List (List ℕ)) (one other : Result Command ℕ) → Reads words one → Reads words other → other ≡ one
one_reading words one other a b = sym (readings_agree words one other a b)

-- what is done by one reading of the words is done by each
pub read_does : {T : Type 0} {given : Named} {before after : Around} {old new : Stream} {result : Result T Stop} (words : List (List ℕ)) (read other : Result Command ℕ) → Reads words read → Reads words other →
    Does (job_of read) given before after old new result → Does (job_of other) given before after old new result
read_does {T} {given} {before} {after} {old} {new} {result} words read other one two does =
    subst (λ (r : Result Command ℕ). Does (job_of r) given before after old new result) (sym (one_reading words read other one two)) does

pub reading_does : {T : Type 0} {given : Named} {before after : Around} {old new : Stream} {result : Result T Stop} (words : List (List ℕ)) (left : Option (List ℕ)) (read : Result Command ℕ) → Reads words read →
    Does (job_of read) given before after old new result → (reading : Reading words left) → Does (job_of reading.command) given before after old new result
reading_does words left read reads does reading = read_does words read reading.command reads reading.reads does

-- what is taken of the source by the status
pub takes_ok : (most : Option ℕ) (old new : Stream) (x : Unit {0}) (status : ℕ) → Takes {T = Unit {0}} most old new (Ok x) → TakesBy most old new status
takes_ok None old new x status takes = takes
takes_ok (Some most) old new x status takes = (takes.0, λ e. takes.1)

pub takes_by : (most : Option ℕ) (old new : Stream) (stop : Stop) (status : ℕ) → Takes {T = Unit {0}} most old new (Err stop) → status ≢ 0 → TakesBy most old new status
takes_by None old new stop status takes some = takes
takes_by (Some most) old new stop status takes some = (takes.0, λ e. absurd (some e))

-- a command may read nothing
pub none_read_by : (read : Result Command ℕ) (given : Named) (cut : Bool) (n : ℕ) (said : (job_of read).Said) → (job_of read).MayRead said given cut n n
none_read_by (Err number) given cut n said = omega arith
none_read_by (Ok (Survey asked)) given cut n said = omega arith
none_read_by (Ok (ListCommand from size span pages form names)) given cut n said =
    if_plan said.plan (λ plan. ListReads (told_all given.attached) (record { from = from; size = size; span = span; pages = pages; form = form }) plan cut n n)
    (λ plan. none_read (told_all given.attached) (record { from = from; size = size; span = span; pages = pages; form = form }) plan cut n)
none_read_by (Ok (Check set names)) given cut n said = if_plan said.plan (λ plan. n ≤ n + check_reads set given.attached plan) (λ plan. omega arith)
none_read_by (Ok (Map set sector end names)) given cut n said = omega arith
none_read_by (Ok (Write set end names)) given cut n said = omega arith
none_read_by (Ok (Rebuild set slot end names)) given cut n said = omega arith
none_read_by (Ok (Sample number set rows xfs)) given cut n said = omega arith
none_read_by (Ok (Classes images end)) given cut n said = omega arith
none_read_by (Ok (Mirrors layouts members chunks offsets missing foreign badrows window end from size span names)) given cut n said = omega arith
none_read_by (Ok (MirrorWrite set end names)) given cut n said = omega arith
none_read_by (Ok (Salvage set lost end names)) given cut n said = omega arith
none_read_by (Ok (Relations asked)) given cut n said = omega arith
none_read_by (Ok Help) given cut n said = omega arith
none_read_by (Ok Version) given cut n said = omega arith

-- no refusal is the first, and one is
pub some_none : (refused : Refusal) → Some refused ≡ None → ⊥
some_none refused e = absurd (cc)

-- a command that leaves the images alone names none
pub apart_names : (words : List (List ℕ)) (command : Command) → EndsInNames words command → (job_of (Ok command)).apart ≡ true → names_after words ≡ []
apart_names words (Sample number set rows xfs) ends apart = ends
apart_names words (Classes images end) ends apart = ends
apart_names words (Survey asked) ends apart = absurd (cc)
apart_names words (ListCommand from size span pages form names) ends apart = absurd (cc)
apart_names words (Check set names) ends apart = absurd (cc)
apart_names words (Map set sector end names) ends apart = absurd (cc)
apart_names words (Write set end names) ends apart = absurd (cc)
apart_names words (Rebuild set slot end names) ends apart = absurd (cc)
apart_names words (Mirrors layouts members chunks offsets missing foreign badrows window end from size span names) ends apart = absurd (cc)
apart_names words (MirrorWrite set end names) ends apart = absurd (cc)
apart_names words (Salvage set lost end names) ends apart = absurd (cc)
apart_names words (Relations asked) ends apart = absurd (cc)
apart_names words Help ends apart = ends
apart_names words Version ends apart = ends

takes_none : (most : Option ℕ) (source : Stream) (stop : Stop) → Takes {T = Unit {0}} most source source (Err stop)
takes_none None source stop = refl
takes_none (Some most) source stop = (([], omega arith, nothing_read source.known), tt)

heeds_none : (job : Job) (most : Option ℕ) (given : Named) (source : Stream) → length given.attached < min given.names MOST_ATTACHED → Heeds {T = Unit {0}} job most given source source (Err ImageFault)
heeds_none job None given source fewer = tt
heeds_none job (Some most) given source fewer = (λ all. absurd (omega arith), λ own. absurd own)

not_all : (read : Result Command ℕ) (given : Named) (n : ℕ) → length given.attached < min given.names n → length given.attached ≡ min given.names n → ⊥
not_all read given n fewer all = omega arith

-- an image could not be attached
pub unattached : (read : Result Command ℕ) (given : Named) (old new : Seen) (source out : Stream) → length given.attached < min given.names MOST_ATTACHED → (given.names ≡ 0 → ⊥) → ((job_of read).apart ≡ true → given.names ≡ 0) →
    Rose old.faults new.faults → old.faults ≤ new.faults → new.sectors_read ≡ old.sectors_read → new.world ≡ old.world → Does {T = Unit {0}} (job_of read) given (around old source) (around new source) out out (Err ImageFault)
unattached read given old new source out fewer some none rose later unread world = record {
  ends = λ said says. ends_unput (job_of read).pieces ((job_of read).refused said given) ((job_of read).printed said given) out.known ImageFault tt;
  order = λ said says all refusal is. absurd (not_all read given MOST_ATTACHED fewer all);
  reads = λ said says. subst (λ (n : ℕ). (job_of read).MayRead said given true old.sectors_read n) (sym unread) (none_read_by read given true old.sectors_read said);
  takes = takes_none (job_of read).most source ImageFault;
  heeds = heeds_none (job_of read) (job_of read).most given source fewer;
  leaves = record {
    images = rises ImageFault old.faults new.faults rose later;
    source = no_raise SourceFault source.faults (Err ImageFault) (λ e. absurd (cc));
    out = no_raise OutFault out.faults (Err ImageFault) (λ e. absurd (cc));
    unput = λ h. keeps_itself out.known;
    unread = λ h. unread;
  };
  apart = λ e. absurd (some (none e));
  world = world;
}

-- attaching comes before the job, and reads nothing
pub attached_before : {T : Type 0} (job : Job) (given : Named) (seen : Seen) (mid after : Around) (old new : Stream) (result : Result T Stop) → mid.images.faults ≡ seen.faults → mid.images.sectors_read ≡ seen.sectors_read → mid.images.world ≡ seen.world →
    (job.apart ≡ true → mid.images ≡ seen) → Does job given mid after old new result → Does job given (around seen mid.source) after old new result
attached_before job given seen mid after old new result faults read world same does = record {
  ends = does.ends;
  order = λ said says all refusal is.
      let first = does.order said says all refusal is in
      record { unread = first.unread ∙ read; unput = first.unput; no_image_fault = first.no_image_fault; no_out_fault = first.no_out_fault };
  reads = λ said says. subst (λ (n : ℕ). job.MayRead said given (is_cut result) n after.images.sectors_read) read (does.reads said says);
  takes = does.takes;
  heeds = does.heeds;
  leaves = record {
    images = subst (λ (n : ℕ). Raises ImageFault n after.images.faults result) faults does.leaves.images;
    source = does.leaves.source;
    out = does.leaves.out;
    unput = does.leaves.unput;
    unread = subst (λ (n : ℕ). IfErr result (λ stop. (MayHaveRead job.streams stop → ⊥) → after.images.sectors_read ≡ n)) read does.leaves.unread;
  };
  apart = λ e. does.apart e ∙ same e;
  world = does.world ∙ world;
}

-- images that were attached are below 2^55 sectors
pub images_small : (world : World) (names : List (List ℕ)) (images : List Image) → AreImagesOf world names images → All (λ image. image.sectors < 2 ^ 55) images
images_small world names [] are = All-nil (λ (image : Image). image.sectors < 2 ^ 55)
images_small world [] (image ∷ images) are = absurd are
images_small world (name ∷ names) (image ∷ images) are =
    All-cons (λ (one : Image). one.sectors < 2 ^ 55) image images are.0.small (images_small world names images are.1)

-- a job that takes no text hears the same whatever that is
nothing_said : (left : Option (List ℕ)) → IfSome left (λ text. (said : Unit {0}) × Unit {0})
nothing_said None = tt
nothing_said (Some text) = (tt, tt)

said_none : (read : Result Command ℕ) (left : Option (List ℕ)) → (job_of read).most ≡ None → IsSaid (job_of read) left
said_none (Err number) left none = nothing_said left
said_none (Ok (Survey asked)) left none = nothing_said left
said_none (Ok (ListCommand from size span pages form names)) left none = absurd (cc)
said_none (Ok (Check set names)) left none = absurd (cc)
said_none (Ok (Map set sector end names)) left none = nothing_said left
said_none (Ok (Write set end names)) left none = nothing_said left
said_none (Ok (Rebuild set slot end names)) left none = nothing_said left
said_none (Ok (Sample number set rows xfs)) left none = nothing_said left
said_none (Ok (Classes images end)) left none = absurd (cc)
said_none (Ok (Mirrors layouts members chunks offsets missing foreign badrows window end from size span names)) left none = nothing_said left
said_none (Ok (MirrorWrite set end names)) left none = nothing_said left
said_none (Ok (Salvage set lost end names)) left none = absurd (cc)
said_none (Ok (Relations asked)) left none = nothing_said left
said_none (Ok Help) left none = nothing_said left
said_none (Ok Version) left none = nothing_said left

-- words and a text have a reading, unless the outside or memory is the cause of the answer
pub has_reading : (words : List (List ℕ)) (read : Result Command ℕ) (given : Named) (old new : Stream) (result : Result (Unit {0}) Stop) → Reads words read → Heeds (job_of read) (job_of read).most given old new result → IsOwn result →
    IfSome old.known (λ text. Reading words (Some text))
has_reading words read given old new result reads heeds own = said_reading old.known (by (job_of read).most refl heeds)
  where
    by : (most : Option ℕ) → (job_of read).most ≡ most → Heeds (job_of read) most given old new result → IsSaid (job_of read) old.known
    by None none heeds = said_none read old.known none
    by (Some most) some heeds = heeds.1 own

    said_reading : (left : Option (List ℕ)) → IsSaid (job_of read) left → IfSome left (λ text. Reading words (Some text))
    said_reading None said = tt
    said_reading (Some text) said = record { command = read; reads = reads; said = said.0; says = said.1 }

-- what is refused early is refused by a job that takes a text
early_text : (read : Result Command ℕ) (given : Named) (refused : Refusal) → (job_of read).early given ≡ Some refused → (job_of read).most ≡ None → ⊥
early_text (Err number) given refused early none = absurd (cc)
early_text (Ok (Survey asked)) given refused early none = absurd (cc)
early_text (Ok (ListCommand from size span pages form names)) given refused early none = absurd (cc)
early_text (Ok (Check set names)) given refused early none = absurd (cc)
early_text (Ok (Map set sector end names)) given refused early none = absurd (cc)
early_text (Ok (Write set end names)) given refused early none = absurd (cc)
early_text (Ok (Rebuild set slot end names)) given refused early none = absurd (cc)
early_text (Ok (Sample number set rows xfs)) given refused early none = absurd (cc)
early_text (Ok (Classes images end)) given refused early none = absurd (cc)
early_text (Ok (Mirrors layouts members chunks offsets missing foreign badrows window end from size span names)) given refused early none = absurd (cc)
early_text (Ok (MirrorWrite set end names)) given refused early none = absurd (cc)
early_text (Ok (Salvage set lost end names)) given refused early none = absurd (cc)
early_text (Ok (Relations asked)) given refused early none = absurd (cc)
early_text (Ok Help) given refused early none = absurd (cc)
early_text (Ok Version) given refused early none = absurd (cc)

-- it is refused before the source is touched
pub early_first : (words : List (List ℕ)) (read other : Result Command ℕ) (given : Named) (old new : Stream) (result : Result (Unit {0}) Stop) (refused : Refusal) → Reads words read → Reads words other → Heeds (job_of read) (job_of read).most given old new result →
    length given.attached ≡ min given.names MOST_ATTACHED → (job_of other).early given ≡ Some refused → (result ≡ Err (Refused refused)) × (new ≡ old)
early_first words read other given old new result refused one two heeds all early =
    let here : (job_of read).early given ≡ Some refused = subst (λ (r : Result Command ℕ). (job_of r).early given ≡ Some refused) (one_reading words read other one two) early in
    by (job_of read).most (early_text read given refused here) heeds here
  where
    by : (most : Option ℕ) → (most ≡ None → ⊥) → Heeds (job_of read) most given old new result → (job_of read).early given ≡ Some refused → (result ≡ Err (Refused refused)) × (new ≡ old)
    by None some heeds early = absurd (some refl)
    by (Some most) some heeds early = heeds.0 all refused early
