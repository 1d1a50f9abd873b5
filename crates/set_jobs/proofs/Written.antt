-- How `write` and `rebuild` end, by what writing a volume or a member says.
use Rattle.std.proofs.Common.{◌≡◌, ℕ, ◌<◌, ◌≤◌, ◌-◌, ◌^◌, min, Result, Bool, true, false, ◌&&◌, cond, nat_lt, List, [], ◌∷◌, length, None, Some, Option, Ok, Err, All, IfSome, IsErrOf, refl, sym, ap, ◌∙◌, subst, arith, slice_index_or, is_none}
use Rattle.std.specs.Option.{option_map}
use Rattle.std.specs.Io.KnownBytes.{Appends, Keeps}
use Rattle.std.proofs.lemmas.List.Elements.{All-cons, All-head, All-nil, All-tail}
use Rattle.outside.specs.Seen.{Image, Seen, World, lengths_of}
use Rattle.outside.specs.Streams.{AppendsFront, AppendsSectors, Stream}
use Rattle.raid_params.specs.declared.wide.Wide.{Wide}
use Rattle.image_padding.specs.Padded.{greatest_base, padded, padded_images, padded_to, seen_padded}
use Rattle.image_padding.proofs.Images.{padded_length}
use Rattle.image_padding.proofs.Within.{reads_within}
use Rattle.raid_params.specs.Validity.{first_fault}
use Rattle.value_text.specs.SetText.{HasWord}
use Rattle.virtual_volume.specs.Served.{Faults}
use Rattle.virtual_volume.specs.declared.volume.VolumeFault.{VolumeFault}
use Rattle.virtual_volume.specs.declared.volume.VolumeFault.TheVariants.{ReadFault as VolumeRead, WriteFault as VolumeWrite, Memory as VolumeMemory}
use Rattle.run_ends.specs.Agreement.{end_of, shortest}
use Rattle.run_ends.specs.Jobs.{Does, Job, Leaves, Named, around, named, textless}
use Rattle.set_jobs.specs.Mapping.{bases_refusal, geo_refusal, late_refusal}
use Rattle.run_ends.specs.Stops.{EndsBy, first_of}
use Rattle.set_jobs.specs.Faults.{stop_of_volume}
use Rattle.set_jobs.specs.Writing.{IsServedBy, Writes, rebuild_refusal, slot_refusal}
use Rattle.set_jobs.proofs.Bases.{may_pad, near_offset}
use Rattle.set_jobs.proofs.SetRefusals.{first_alone, images_kept, none_refused}
use Rattle.run_ends.specs.declared.stop.Refusal.{Refusal}
use Rattle.run_ends.specs.declared.stop.Refusal.TheVariants.{Slot}
use Rattle.run_ends.specs.declared.stop.Stop.TheVariants.{ImageFault, SourceFault, OutFault, OutOfMemory}
use Rattle.run_ends.proofs.Lengths.{end_near}
use Rattle.run_ends.proofs.Limits.{all_reach, no_limits}
use Rattle.run_ends.proofs.Printed.{keeps_itself, no_raise, rises, stays}

reach_padded : (greatest end : ℕ) (bases : List ℕ) (images : List Image) → All (λ image. end ≤ image.sectors) images → All (λ image. end ≤ image.sectors) (padded_to greatest bases images)
reach_padded greatest end [] images all = all
reach_padded greatest end (base ∷ bases) [] all = All-nil (λ (image : Image). end ≤ image.sectors)
reach_padded greatest end (base ∷ bases) (image ∷ images) all =
    let long = All-head (λ (one : Image). end ≤ one.sectors) image images all in
    All-cons (λ (one : Image). end ≤ one.sectors) (padded (greatest - base) image) (padded_to greatest bases images) (omega arith) (reach_padded greatest end bases images (All-tail (λ (one : Image). end ≤ one.sectors) image images all))

-- a set that is not refused can be served
pub served : (set : Wide) (end : Option ℕ) (names last : ℕ) (attached : List Image) → geo_refusal set end names attached ≡ None → bases_refusal set names ≡ None → HasWord set → All (λ image. image.sectors < 2 ^ 55) attached → IfSome end (λ sector. sector < 2 ^ 55) →
    length attached ≡ min names 65536 → last ≡ end_of end attached → first_fault set.geo names last ≡ None → IsServedBy set last attached
served set end names last attached none suits word small near long is ruled =
    let parts = images_kept set end names attached (none_refused set end names attached none) in
    let allowed = no_limits end names attached parts.0 in
    let few = allowed.few in
    let count : names ≡ length attached = omega arith in
    let bases = set.bases.items in
    let many : names ≡ length (padded_images bases attached) = count ∙ sym (padded_length (greatest_base bases) bases attached) in
    record {
      padded = may_pad set names attached word count parts.1 suits;
      served = record {
        ruled = subst (λ (n : ℕ). first_fault set.geo n last ≡ None) many ruled;
        offset = near_offset set word;
        near = subst (λ (e : ℕ). e < 2 ^ 55) (sym is) (end_near end attached small near);
        long = reach_padded (greatest_base bases) last bases attached (all_reach attached last (subst (λ (e : ℕ). e ≤ shortest (lengths_of attached)) (sym is) allowed.reaches));
      };
    }

-- `rebuild` ends by the refusal of its set, by that of its slot, or by that of its bases or its delay
pub set_refused : (set : Wide) (end : Option ℕ) (slot names : ℕ) (attached : List Image) (refusal : Refusal) → geo_refusal set end names attached ≡ Some refusal → rebuild_refusal set end slot names attached ≡ Some refusal
unfolding rebuild_refusal
set_refused set end slot names attached refusal e = ap (λ r. first_of (r ∷ slot_refusal set.geo slot ∷ late_refusal set names ∷ [])) e

pub slot_refused : (set : Wide) (end : Option ℕ) (slot names : ℕ) (attached : List Image) → geo_refusal set end names attached ≡ None → (nat_lt slot set.geo.head.members && is_none (slice_index_or set.geo.slots.items slot None)) ≡ false →
    rebuild_refusal set end slot names attached ≡ Some (Slot slot)
unfolding rebuild_refusal
slot_refused set end slot names attached none e =
    ap (λ r. first_of (r ∷ slot_refusal set.geo slot ∷ late_refusal set names ∷ [])) none ∙ ap (λ (b : Bool). first_of (cond b None (Some (Slot slot)) ∷ late_refusal set names ∷ [])) e

pub slot_allowed : (set : Wide) (end : Option ℕ) (slot names : ℕ) (attached : List Image) (last : Option Refusal) → geo_refusal set end names attached ≡ None → (nat_lt slot set.geo.head.members && is_none (slice_index_or set.geo.slots.items slot None)) ≡ true →
    late_refusal set names ≡ last → rebuild_refusal set end slot names attached ≡ last
unfolding rebuild_refusal
slot_allowed set end slot names attached last none e is =
    ap (λ r. first_of (r ∷ slot_refusal set.geo slot ∷ late_refusal set names ∷ [])) none ∙ ap (λ (b : Bool). first_of (cond b None (Some (Slot slot)) ∷ late_refusal set names ∷ [])) e
    ∙ first_alone (late_refusal set names) ∙ is

-- what was written, over the bytes of the images
told_map : (told : Option (List (List ℕ))) (content : List (List ℕ) → List ℕ) (P : List ℕ → Type 0) → IfSome told (λ bytes. P (content bytes)) → IfSome (option_map content told) P
told_map None content P h = tt
told_map (Some bytes) content P h = h

-- a job that puts as it reads, by what it writes over the bytes of the images
abbrev pub writing_job : (Named → Option (List (List ℕ))) → (Named → Option Refusal) → (Named → List (List ℕ) → List ℕ) → (Named → ℕ) → Job
writing_job told refused content most = textless true refused (λ given. option_map (content given) (told given)) most

-- all was written
pub written : (told : Named → Option (List (List ℕ))) (refused : Named → Option Refusal) (content : Named → List (List ℕ) → List ℕ) (most : Named → ℕ) (names : ℕ) (old new : Seen) (source out put : Stream) → refused (named names old.attached) ≡ None →
    Writes (most (named names old.attached)) (content (named names old.attached)) (told (named names old.attached)) old new out put (Ok tt) →
    Does {T = Unit {0}} (writing_job told refused content most) (named names old.attached) (around old source) (around new source) out put (Ok tt)
written told refused content most names old new source out put none writes = record {
  ends = λ said says. record {
    refuses = record { ends = tt; passes = none };
    puts = told_map (told (named names old.attached)) (content (named names old.attached)) (λ text. Appends out.known put.known text) writes.written;
    front = tt;
    whole = λ e. absurd (cc);
  };
  order = λ said says all refusal e. absurd (cc);
  reads = λ said says. writes.reads.sectors_read;
  takes = refl;
  heeds = tt;
  leaves = record {
    images = stays {T = Unit {0}} ImageFault old.faults new.faults (Ok tt) writes.faults.0 (λ e. absurd (cc));
    source = no_raise {T = Unit {0}} SourceFault source.faults (Ok tt) (λ e. absurd (cc));
    out = stays {T = Unit {0}} OutFault out.faults put.faults (Ok tt) writes.faults.1 (λ e. absurd (cc));
    unput = tt;
    unread = tt;
  };
  apart = λ e. absurd (cc);
  world = writes.reads.world;
}

fault_is_excused : (refused : Option Refusal) (fault : VolumeFault) → EndsBy refused (stop_of_volume fault)
fault_is_excused refused VolumeRead = tt
fault_is_excused refused VolumeWrite = tt
fault_is_excused refused VolumeMemory = tt

fault_whole : (told : Option (List (List ℕ))) (content : List (List ℕ) → List ℕ) (old new : Option (List ℕ)) (fault : VolumeFault) →
    (IsErrOf {T = Unit {0}} (Err fault) VolumeRead → IfSome told (λ bytes. AppendsSectors old new (content bytes))) →
    IsErrOf {T = Unit {0}} (Err (stop_of_volume fault)) ImageFault → IfSome (option_map content told) (λ text. AppendsSectors old new text)
fault_whole told content old new VolumeRead h e = told_map told content (λ text. AppendsSectors old new text) (h refl)
fault_whole told content old new VolumeWrite h e = absurd (cc)
fault_whole told content old new VolumeMemory h e = absurd (cc)

fault_leaves : (old new : Seen) (source out put : Stream) (fault : VolumeFault) → Faults {T = Unit {0}} old.faults new.faults out.faults put.faults (Err fault) → old.faults ≤ new.faults → out.faults ≤ put.faults →
    (IsErrOf {T = Unit {0}} (Err fault) VolumeMemory → (put.known ≡ out.known) × (new ≡ old)) → Leaves {T = Unit {0}} true (around old source) (around new source) out put (Err (stop_of_volume fault))
fault_leaves old new source out put VolumeRead faults earlier later memory = record {
  images = rises ImageFault old.faults new.faults faults.0 earlier;
  source = no_raise SourceFault source.faults (Err ImageFault) (λ e. absurd (cc));
  out = stays OutFault out.faults put.faults (Err ImageFault) faults.1 (λ e. absurd (cc));
  unput = λ h. absurd (h refl);
  unread = λ h. absurd (h tt);
}
fault_leaves old new source out put VolumeWrite faults earlier later memory = record {
  images = stays ImageFault old.faults new.faults (Err OutFault) faults.0 (λ e. absurd (cc));
  source = no_raise SourceFault source.faults (Err OutFault) (λ e. absurd (cc));
  out = rises OutFault out.faults put.faults faults.1 later;
  unput = λ h. absurd (h tt);
  unread = λ h. absurd (h tt);
}
fault_leaves old new source out put VolumeMemory faults earlier later memory = record {
  images = stays ImageFault old.faults new.faults (Err OutOfMemory) faults.0 (λ e. absurd (cc));
  source = no_raise SourceFault source.faults (Err OutOfMemory) (λ e. absurd (cc));
  out = stays OutFault out.faults put.faults (Err OutOfMemory) faults.1 (λ e. absurd (cc));
  unput = λ h. subst (λ (g : Option (List ℕ)). Keeps out.known g) (sym (memory refl).0) (keeps_itself out.known);
  unread = λ h. ap (λ (s : Seen). s.sectors_read) (memory refl).1;
}

-- it was cut short
pub cut_short : (told : Named → Option (List (List ℕ))) (refused : Named → Option Refusal) (content : Named → List (List ℕ) → List ℕ) (most : Named → ℕ) (names : ℕ) (old new : Seen) (source out put : Stream) (fault : VolumeFault) → refused (named names old.attached) ≡ None →
    Writes (most (named names old.attached)) (content (named names old.attached)) (told (named names old.attached)) old new out put (Err fault) →
    Does {T = Unit {0}} (writing_job told refused content most) (named names old.attached) (around old source) (around new source) out put (Err (stop_of_volume fault))
cut_short told refused content most names old new source out put fault none writes = record {
  ends = λ said says. record {
    refuses = record { ends = fault_is_excused (refused (named names old.attached)) fault; passes = tt };
    puts = tt;
    front = told_map (told (named names old.attached)) (content (named names old.attached)) (λ text. AppendsFront out.known put.known text) writes.front;
    whole = fault_whole (told (named names old.attached)) (content (named names old.attached)) out.known put.known fault writes.whole;
  };
  order = λ said says all refusal e. absurd (cc);
  reads = λ said says. writes.reads.sectors_read;
  takes = refl;
  heeds = tt;
  leaves = fault_leaves old new source out put fault writes.faults writes.reads.faults writes.later writes.memory;
  apart = λ e. absurd (cc);
  world = writes.reads.world;
}

seen_with : World → List Image → ℕ → ℕ → Seen
seen_with world attached faults sectors_read = record { world = world; attached = attached; faults = faults; sectors_read = sectors_read }

same_seen : (a b : Seen) → b.world ≡ a.world → b.attached ≡ a.attached → b.faults ≡ a.faults → b.sectors_read ≡ a.sectors_read → b ≡ a
unfolding seen_with
same_seen a b e f g h = let same : seen_with b.world b.attached b.faults b.sectors_read ≡ seen_with a.world a.attached a.faults a.sectors_read = cc in same

-- what was written over padded images was written over those within
pub writes_within : (reference other : ℕ) (bases others : List ℕ) (most : ℕ) (content : List (List ℕ) → List ℕ) (told : Option (List (List ℕ))) (old new : Seen) (out put : Stream) (result : Result (Unit {0}) VolumeFault) →
    Writes most content told (seen_padded reference bases old) (seen_padded other others new) out put result → (other ≡ reference) × Writes most content told old new out put result
writes_within reference other bases others most content told old new out put result writes =
    let within = reads_within reference other bases others old new most writes.reads in (
      within.0,
      record {
        written = writes.written;
        front = writes.front;
        whole = writes.whole;
        memory = λ e. let kept = writes.memory e in (kept.0, same_seen old new within.1.world within.1.attached (ap (λ (s : Seen). s.faults) kept.1) (ap (λ (s : Seen). s.sectors_read) kept.1));
        faults = writes.faults;
        reads = within.1;
        later = writes.later;
      },
    )
