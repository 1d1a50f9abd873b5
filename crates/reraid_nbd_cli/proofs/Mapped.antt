-- How a damaged volume is shown: by what was read of its maps, and over the images once they are attached.
use Rattle.std.proofs.Common.{◌≡◌, ℕ, ◌≤◌, ◌<◌, min, false, List, length, Option, None, Some, Result, Ok, Err, IfSome, IsErrOf, refl, sym, ap, ◌∙◌, subst, arith}
use Rattle.std.proofs.lemmas.Option.{IfSome_then}
use Rattle.block_device.specs.Reading.{Asked, Counts}
use Rattle.damaged_device.specs.Cost.{damaged_cost}
use Rattle.damaged_device.specs.Lengths.{salvaged_told}
use Rattle.nbd_server.specs.Turns.{wire}
use Rattle.nbd_server.specs.declared.stop.NbdStop.TheVariants.{SourceFault, OutFault, Malformed, OutOfMemory}
use Rattle.outside.specs.Causes.{Rose}
use Rattle.outside.specs.Seen.{Image, Seen}
use Rattle.outside.specs.Streams.{Stream}
use Rattle.raid_params.specs.Size.{volume_sectors}
use Rattle.raid_params.specs.declared.wide.Wide.{Wide}
use Rattle.rescue_text.specs.RescueText.{rescue_sections}
use Rattle.rescue_text.specs.declared.fault.RescueFault.{RescueFault}
use Rattle.rescue_text.specs.declared.section.Section.{Section}
use Rattle.run_ends.specs.Agreement.{end_of}
use Rattle.run_ends.specs.Counts.{Raises}
use Rattle.run_ends.specs.Jobs.{EndsEarly, Named, named}
use Rattle.run_ends.specs.Source.{TakesFew}
use Rattle.run_ends.specs.declared.stop.Refusal.{Refusal}
use Rattle.run_ends.specs.declared.stop.Stop.{Stop}
use Rattle.run_ends.specs.declared.stop.Stop.TheVariants.{Refused as RefusedStop, ImageFault as ImageStop, SourceFault as SourceStop, OutFault as OutStop, OutOfMemory as MemoryStop}
use Rattle.salvage_job.specs.Salvaging.{IsReady, salvage_output, salvage_refusal}
use Rattle.salvage_job.specs.declared.salvaging.Ready.{Ready}
use Rattle.set_jobs.specs.Writing.{told_for, volume_reads}
use Rattle.reraid_nbd_cli.specs.Ends.{end_of_stop}
use Rattle.reraid_nbd_cli.specs.Mapped.{CannotBegin, DamagedVolume, EndsByText, EndsMapped, RunsDamaged, ShowsMapped, TakesMaps, damaged_set, mapped_cost}
use Rattle.reraid_nbd_cli.specs.Runs.{Ends, IsUntouched, Place, Shows, place}
use Rattle.reraid_nbd_cli.specs.declared.ends.NbdEnd.{NbdEnd}
use Rattle.reraid_nbd_cli.specs.declared.ends.NbdEnd.TheVariants.{Refused, ImageFault, MapsFault, Long, Stopped}
use Rattle.reraid_nbd_cli.proofs.Ran.{ends_before, has_images, same_counts}
use Rattle.reraid_nbd_cli.proofs.Shown.{still, untouched}

-- what holds of any text
always : {T : Type 0} {P : T → Type 0} (known : Option T) → ((x : T) → P x) → IfSome known P
always None all = tt
always (Some x) all = all x

-- ---- the maps were read

-- what the text says of a set
ends_by : (set : Wide) (end : Option ℕ) (names : ℕ) (attached : List Image) (text : List ℕ) (ready : Ready) (old new : Place) (r : Result (Unit {0}) NbdEnd) →
    ready.end ≡ end_of end attached → salvage_refusal set end text names attached ≡ None → rescue_sections names text ≡ Ok ready.rescue →
    Ends None (volume_sectors set.geo.head ready.end) (salvaged_told (told_for set attached) ready.rescue set ready.end) (damaged_cost ready.rescue set) old new r →
    EndsByText (damaged_set set end (named names attached)) old new r text
ends_by set end names attached text ready old new r is allowed sections ends =
    subst (λ (f : Option Refusal). Ends f (volume_reads set end attached) (salvage_output set false end attached (rescue_sections names text)) (mapped_cost (λ rescue. damaged_cost rescue set) (rescue_sections names text)) old new r) (sym allowed)
    (subst (λ (s : Result (List Section) RescueFault). Ends None (volume_reads set end attached) (salvage_output set false end attached s) (mapped_cost (λ rescue. damaged_cost rescue set) s) old new r) (sym sections)
    (subst (λ (e : ℕ). Ends None (volume_sectors set.geo.head e) (salvaged_told (told_for set attached) ready.rescue set e) (damaged_cost ready.rescue set) old new r) is ends))

pub by_set : (set : Wide) (end : Option ℕ) (names : ℕ) (attached : List Image) (left : Option (List ℕ)) (ready : Ready) (old new : Place) (r : Result (Unit {0}) NbdEnd) → IsReady set end names attached left ready →
    Ends None (volume_sectors set.geo.head ready.end) (salvaged_told (told_for set attached) ready.rescue set ready.end) (damaged_cost ready.rescue set) old new r →
    IfSome left (EndsByText (damaged_set set end (named names attached)) old new r)
by_set set end names attached None ready old new r is ends = tt
by_set set end names attached (Some text) ready old new r is ends = ends_by set end names attached text ready old new r is.end_is is.allowed is.sections ends

unrefused : (old new : Place) (o : Option Refusal) → o ≡ None → IfSome o (λ refusal. IsUntouched old new)
unrefused old new None e = tt
unrefused old new (Some refusal) e = absurd (cc)

ready_ends : (damaged : DamagedVolume) (left : Option (List ℕ)) (old new : Place) (r : Result (Unit {0}) NbdEnd) →
    (IsErrOf r ImageFault → ⊥) → (IsErrOf r MapsFault → ⊥) → IfSome left (EndsByText damaged old new r) → EndsMapped damaged left old new r
ready_ends damaged left old new (Ok done) none quiet ends = ends
ready_ends damaged left old new (Err (Refused why)) none quiet ends = ends
ready_ends damaged left old new (Err (Long n)) none quiet ends = ends
ready_ends damaged left old new (Err (Stopped SourceFault)) none quiet ends = ends
ready_ends damaged left old new (Err (Stopped OutFault)) none quiet ends = ends
ready_ends damaged left old new (Err (Stopped Malformed)) none quiet ends = ends
ready_ends damaged left old new (Err (Stopped OutOfMemory)) none quiet ends = IfSome_then left ends (λ text served. (unrefused old new (damaged.refused text) served.allowed, served.serves))
ready_ends damaged left old new (Err ImageFault) none quiet ends = absurd (none refl)
ready_ends damaged left old new (Err MapsFault) none quiet ends = absurd (quiet refl)

no_fault : (refused : Option Refusal) (size : ℕ) (content : Option (List ℕ)) (cost : Asked → Option ℕ) (old new : Place) (r : Result (Unit {0}) NbdEnd) → Ends refused size content cost old new r → IsErrOf r MapsFault → ⊥
no_fault refused size content cost old new (Ok done) ends e = absurd (cc)
no_fault refused size content cost old new (Err (Refused why)) ends e = absurd (cc)
no_fault refused size content cost old new (Err (Long n)) ends e = absurd (cc)
no_fault refused size content cost old new (Err (Stopped stop)) ends e = absurd (cc)
no_fault refused size content cost old new (Err ImageFault) ends e = absurd (cc)
no_fault refused size content cost old new (Err MapsFault) ends e = ends

pub ready_shown : (damaged : DamagedVolume) (size : ℕ) (content : Option (List ℕ)) (cost : Asked → Option ℕ) (old new : Place) (left gone : Stream) (ready : Ready) (r : Result (Unit {0}) NbdEnd) →
    EndsEarly {T = Ready} damaged.early left gone (Ok ready) → TakesFew 4194304 left.known gone.known → Raises {T = Ready} SourceStop left.faults gone.faults (Ok ready) →
    Shows None size content cost old new r → IfSome left.known (EndsByText damaged old new r) → ShowsMapped damaged old new left gone r
ready_shown damaged size content cost old new left gone ready r early takes raises shows ends =
    let stays : gone.faults ≡ left.faults = raises.stays (λ e. absurd (cc)) in
    let quiet = no_fault None size content cost old new r shows.ends in
    record {
      ends = ready_ends damaged left.known old new r shows.attaches quiet ends;
      attaches = shows.attaches;
      leaves = shows.leaves;
      attached = shows.attached;
      maps = record {
        early = λ refusal why. absurd (let e = (early refusal why).0 in cc);
        takes = takes;
        faults = record {
          rose = λ e. absurd (quiet e);
          stays = λ none. stays;
          later = raises.later;
        };
      };
    }

-- ---- they were not

none_of : (o : Option Refusal) → ((refusal : Refusal) → o ≡ Some refusal → ⊥) → o ≡ None
none_of None none = refl
none_of (Some refusal) none = absurd (none refusal refl)

same_refusal : (why refusal : Refusal) → ◌≡◌ {A = Result Ready Stop} (Err (RefusedStop why)) (Err (RefusedStop refusal)) → ◌≡◌ {A = Result (Unit {0}) NbdEnd} (Err (Refused why)) (Err (Refused refusal))
same_refusal why refusal e = let same : why ≡ refusal = cc in ap (λ (w : Refusal). Err (Refused w)) same

pub unready_shown : (damaged : DamagedVolume) (old : Place) (left gone : Stream) (stop : Stop) → CannotBegin damaged left.known stop →
    EndsEarly {T = Ready} damaged.early left gone (Err stop) → TakesFew 4194304 left.known gone.known → Raises {T = Ready} SourceStop left.faults gone.faults (Err stop) →
    ShowsMapped damaged old old left gone (Err (end_of_stop stop))
unready_shown damaged old left gone (RefusedStop why) is early takes raises = record {
  ends = IfSome_then left.known is (λ text refused. (refused, untouched old, refl));
  attaches = λ e. absurd (cc);
  leaves = still old (Refused why) (λ e. absurd (cc)) (λ e. absurd (cc));
  attached = refl;
  maps = record {
    early = λ refusal e. (same_refusal why refusal (early refusal e).0, (early refusal e).1);
    takes = takes;
    faults = record { rose = λ e. absurd (cc); stays = λ none. raises.stays (λ e. absurd (cc)); later = raises.later };
  };
}
unready_shown damaged old left gone SourceStop is early takes raises = record {
  ends = (none_of damaged.early (λ refusal e. let early_one = (early refusal e).0 in absurd (cc)), untouched old, refl);
  attaches = λ e. absurd (cc);
  leaves = still old MapsFault (λ e. absurd (cc)) (λ e. absurd (cc));
  attached = refl;
  maps = record {
    early = λ refusal e. absurd (let early_one = (early refusal e).0 in cc);
    takes = takes;
    faults = record { rose = λ e. raises.rose refl; stays = λ none. absurd (none refl); later = raises.later };
  };
}
unready_shown damaged old left gone MemoryStop is early takes raises = record {
  ends = always left.known (λ text. (always (damaged.refused text) (λ refusal. untouched old), always (damaged.volume text) (λ bytes. refl)));
  attaches = λ e. absurd (cc);
  leaves = still old (Stopped OutOfMemory) (λ e. absurd (cc)) (λ e. absurd (cc));
  attached = refl;
  maps = record {
    early = λ refusal e. absurd (let early_one = (early refusal e).0 in cc);
    takes = takes;
    faults = record { rose = λ e. absurd (cc); stays = λ none. raises.stays (λ e. absurd (cc)); later = raises.later };
  };
}
unready_shown damaged old left gone ImageStop is early takes raises = absurd is
unready_shown damaged old left gone OutStop is early takes raises = absurd is

-- ---- once the images are attached

text_before : (damaged : DamagedVolume) (left : Option (List ℕ)) (seen mid new : Seen) (source taken out put : Stream) (r : Result (Unit {0}) NbdEnd) → mid.faults ≡ seen.faults → mid.sectors_read ≡ seen.sectors_read →
    IfSome left (EndsByText damaged (place mid source out) (place new taken put) r) → IfSome left (EndsByText damaged (place seen source out) (place new taken put) r)
text_before damaged left seen mid new source taken out put r faults read ends =
    IfSome_then left ends (λ text one. ends_before (damaged.refused text) damaged.size (damaged.volume text) (damaged.cost text)
    seen mid new source taken out put r faults read one)

mapped_before : (damaged : DamagedVolume) (left : Option (List ℕ)) (seen mid new : Seen) (source taken out put : Stream) (r : Result (Unit {0}) NbdEnd) → mid.faults ≡ seen.faults → mid.sectors_read ≡ seen.sectors_read →
    EndsMapped damaged left (place mid source out) (place new taken put) r → EndsMapped damaged left (place seen source out) (place new taken put) r
mapped_before damaged left seen mid new source taken out put (Ok done) faults read ends = text_before damaged left seen mid new source taken out put (Ok done) faults read ends
mapped_before damaged left seen mid new source taken out put (Err (Refused why)) faults read ends = text_before damaged left seen mid new source taken out put (Err (Refused why)) faults read ends
mapped_before damaged left seen mid new source taken out put (Err (Long n)) faults read ends = text_before damaged left seen mid new source taken out put (Err (Long n)) faults read ends
mapped_before damaged left seen mid new source taken out put (Err (Stopped SourceFault)) faults read ends = text_before damaged left seen mid new source taken out put (Err (Stopped SourceFault)) faults read ends
mapped_before damaged left seen mid new source taken out put (Err (Stopped OutFault)) faults read ends = text_before damaged left seen mid new source taken out put (Err (Stopped OutFault)) faults read ends
mapped_before damaged left seen mid new source taken out put (Err (Stopped Malformed)) faults read ends = text_before damaged left seen mid new source taken out put (Err (Stopped Malformed)) faults read ends
mapped_before damaged left seen mid new source taken out put (Err (Stopped OutOfMemory)) faults read ends =
    IfSome_then left ends (λ text one. (
      IfSome_then (damaged.refused text) one.0 (λ refusal still_there. record { source = still_there.source; out = still_there.out; unread = still_there.unread ∙ read }),
      IfSome_then (damaged.volume text) one.1 (λ bytes same. same ∙ ap (λ (c : Counts). wire source.known out.known c) (same_counts mid seen faults read)),
    ))
mapped_before damaged left seen mid new source taken out put (Err ImageFault) faults read ends =
    (record { source = ends.0.source; out = ends.0.out; unread = ends.0.unread ∙ read }, subst (λ (n : ℕ). Rose n new.faults) faults ends.1)
mapped_before damaged left seen mid new source taken out put (Err MapsFault) faults read ends =
    (ends.0, record { source = ends.1.source; out = ends.1.out; unread = ends.1.unread ∙ read }, ends.2 ∙ faults)

pub ran_mapped : (damaged : Named → DamagedVolume) (names : ℕ) (seen mid new : Seen) (source taken out put left gone : Stream) (r : Result (Unit {0}) NbdEnd) →
    mid.faults ≡ seen.faults → mid.sectors_read ≡ seen.sectors_read → mid.world ≡ seen.world → length mid.attached ≡ min names 65536 →
    ShowsMapped (damaged (named names mid.attached)) (place mid source out) (place new taken put) left gone r → RunsDamaged (damaged (named names new.attached)) (named names new.attached) (place seen source out) (place new taken put) left gone r
ran_mapped damaged names seen mid new source taken out put left gone r faults read world all shows =
    let P : List Image → Type 0 = λ attached. EndsMapped (damaged (named names attached)) left.known (place seen source out) (place new taken put) r in
    let Q : List Image → Type 0 = λ attached. TakesMaps (damaged (named names attached)).early left gone r in
    record {
      ends = subst P (sym shows.attached) (mapped_before (damaged (named names mid.attached)) left.known seen mid new source taken out put r faults read shows.ends);
      leaves = record { source = shows.leaves.source; out = shows.leaves.out; later = subst (λ (n : ℕ). n ≤ new.faults) faults shows.leaves.later; world = shows.leaves.world ∙ world };
      images = has_images names new.attached r shows.attaches (ap (λ (images : List Image). length images) shows.attached ∙ all);
      maps = λ other. subst Q (sym shows.attached) shows.maps;
      alone = λ e. absurd (shows.attaches e);
    }

-- an image could not be attached
pub cut_mapped : (damaged : Named → DamagedVolume) (names : ℕ) (seen new : Seen) (source out left : Stream) → length new.attached < min names 65536 → Rose seen.faults new.faults → seen.faults ≤ new.faults → new.sectors_read ≡ seen.sectors_read → new.world ≡ seen.world →
    RunsDamaged (damaged (named names new.attached)) (named names new.attached) (place seen source out) (place new source out) left left (Err ImageFault)
cut_mapped damaged names seen new source out left fewer rose later unread world = record {
  ends = (record { source = refl; out = refl; unread = unread }, rose);
  leaves = record {
    source = record { rose = λ e. absurd (cc); stays = λ none. refl; later = omega arith };
    out = record { rose = λ e. absurd (cc); stays = λ none. refl; later = omega arith };
    later = later;
    world = world;
  };
  images = fewer;
  maps = λ other. absurd (other refl);
  alone = λ e. refl;
}
