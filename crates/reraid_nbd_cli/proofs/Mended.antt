-- What is refused of a damaged mirror, and how it is shown once nothing is.
use Rattle.std.proofs.Common.{◌≡◌, ℕ, List, [], ◌∷◌, Option, None, Some, Result, Ok, IfSome, sym, ap, ap₂, ◌∙◌, subst}
use Rattle.std.proofs.lemmas.Option.{IfSome_then}
use Rattle.std.specs.Option.{option_map}
use Rattle.block_device.specs.Reading.{Asked}
use Rattle.damaged_mirror.specs.Damaged.{mended_cost}
use Rattle.damaged_mirror.specs.Lengths.{mended_told}
use Rattle.near_jobs.specs.MirrorWriting.{mirror_refusal}
use Rattle.near_mirror.specs.Copies.{near_sectors}
use Rattle.near_mirror.specs.declared.types.NearSet.{NearSet}
use Rattle.near_volume.specs.Mirrored.{IsMirrored}
use Rattle.outside.specs.Attached.{told_all}
use Rattle.rescue_text.specs.RescueText.{rescue_sections}
use Rattle.rescue_text.specs.declared.fault.RescueFault.{RescueFault}
use Rattle.rescue_text.specs.declared.section.Section.{Section}
use Rattle.run_ends.specs.Agreement.{end_of, limits_fault}
use Rattle.run_ends.specs.Jobs.{Named}
use Rattle.run_ends.specs.Stops.{first_of}
use Rattle.run_ends.specs.declared.agreement.Disagreement.{Disagreement}
use Rattle.run_ends.specs.declared.stop.Refusal.{Refusal}
use Rattle.run_ends.specs.declared.stop.Refusal.TheVariants.{Images}
use Rattle.run_ends.specs.declared.stop.Stop.{Stop}
use Rattle.run_ends.specs.declared.stop.Stop.TheVariants.{Refused as RefusedStop}
use Rattle.salvage_job.proofs.Readied.{Reads, later_refused, read_text}
use Rattle.salvage_job.specs.Salvaging.{IsUnrescued, text_refusal}
use Rattle.salvage_job.specs.declared.salvaging.Ready.{Ready}
use Rattle.set_jobs.proofs.SetRefusals.{first_alone}
use Rattle.reraid_nbd_cli.specs.Mapped.{CannotBegin, EndsByText, IsMendable, damaged_mirror, limits_refusal, mapped_cost, mended_output, mended_refusal}
use Rattle.reraid_nbd_cli.specs.Runs.{Ends, Place}
use Rattle.reraid_nbd_cli.specs.declared.ends.NbdEnd.{NbdEnd}

-- the images are within their limits, or not
pub limits_are : (end : Option ℕ) (given : Named) (fault : Option Disagreement) → limits_fault end given.names given.attached ≡ fault → limits_refusal end given ≡ option_map (λ (f : Disagreement). Images f) fault
limits_are end given fault e = ap (λ r. option_map (λ (f : Disagreement). Images f) r) e

-- so each refusal comes, where those before it do not
by_limits : (set : NearSet) (end : Option ℕ) (given : Named) (text : List ℕ) (refusal : Refusal) → limits_refusal end given ≡ Some refusal → mended_refusal set end given text ≡ Some refusal
unfolding mended_refusal
by_limits set end given text refusal e = ap (λ r. first_of (r ∷ text_refusal given.names text ∷ mirror_refusal set end given.names given.attached ∷ [])) e

by_text : (set : NearSet) (end : Option ℕ) (given : Named) (text : List ℕ) (refusal : Refusal) → limits_refusal end given ≡ None → text_refusal given.names text ≡ Some refusal → mended_refusal set end given text ≡ Some refusal
unfolding mended_refusal
by_text set end given text refusal none e = ap₂ (λ r s. first_of (r ∷ s ∷ mirror_refusal set end given.names given.attached ∷ [])) none e

by_mirror : (set : NearSet) (end : Option ℕ) (given : Named) (text : List ℕ) (refused : Option Refusal) → limits_refusal end given ≡ None → text_refusal given.names text ≡ None → mirror_refusal set end given.names given.attached ≡ refused → mended_refusal set end given text ≡ refused
unfolding mended_refusal
by_mirror set end given text refused none read e =
    ap₂ (λ r s. first_of (r ∷ s ∷ mirror_refusal set end given.names given.attached ∷ [])) none read ∙ first_alone (mirror_refusal set end given.names given.attached) ∙ e

-- the work does not begin
pub unready_limits : (set : NearSet) (end : Option ℕ) (given : Named) (left : Option (List ℕ)) (refusal : Refusal) → limits_refusal end given ≡ Some refusal → CannotBegin (damaged_mirror set end given) left (RefusedStop refusal)
unready_limits set end given None refusal e = tt
unready_limits set end given (Some text) refusal e = by_limits set end given text refusal e

pub unready_text : (set : NearSet) (end : Option ℕ) (given : Named) (left : Option (List ℕ)) (stop : Stop) → limits_refusal end given ≡ None → IsUnrescued given.names left stop → CannotBegin (damaged_mirror set end given) left stop
unready_text set end given left stop none is = later_refused (text_refusal given.names) (mended_refusal set end given) left stop (λ text refusal e. by_text set end given text refusal none e) is

pub unready_mirror : (set : NearSet) (end : Option ℕ) (given : Named) (left : Option (List ℕ)) (rescue : List Section) (refused : Option Refusal) → limits_refusal end given ≡ None → IfSome left (Reads given.names rescue) →
    mirror_refusal set end given.names given.attached ≡ refused → IfSome left (λ text. mended_refusal set end given text ≡ refused)
unready_mirror set end given left rescue refused none read e = IfSome_then left read (λ text r. by_mirror set end given text refused none (read_text given.names rescue text r) e)

-- it begins
pub is_mendable : (set : NearSet) (end : Option ℕ) (given : Named) (left : Option (List ℕ)) (ready : Ready) → limits_refusal end given ≡ None → IfSome left (Reads given.names ready.rescue) →
    mirror_refusal set end given.names given.attached ≡ None → ready.end ≡ end_of end given.attached → IsMirrored set ready.end given.attached → IsMendable set end given left ready
is_mendable set end given left ready none read allowed is mirrored = record {
  end_is = is;
  allowed = unready_mirror set end given left ready.rescue None none read allowed;
  sections = IfSome_then left read (λ text r. r.1);
  mirrored = mirrored;
}

-- what the text says of a mirror
ends_by : (set : NearSet) (end : Option ℕ) (given : Named) (text : List ℕ) (ready : Ready) (old new : Place) (r : Result (Unit {0}) NbdEnd) →
    ready.end ≡ end_of end given.attached → mended_refusal set end given text ≡ None → rescue_sections given.names text ≡ Ok ready.rescue →
    Ends None (near_sectors set.head ready.end) (mended_told (told_all given.attached) ready.rescue set ready.end) (mended_cost ready.rescue set ready.end) old new r →
    EndsByText (damaged_mirror set end given) old new r text
ends_by set end given text ready old new r is allowed sections ends =
    let last = end_of end given.attached in
    let cost : List Section → Asked → Option ℕ = λ rescue. mended_cost rescue set last in
    subst (λ (f : Option Refusal). Ends f (near_sectors set.head last) (mended_output set end given.attached (rescue_sections given.names text)) (mapped_cost cost (rescue_sections given.names text)) old new r) (sym allowed)
    (subst (λ (s : Result (List Section) RescueFault). Ends None (near_sectors set.head last) (mended_output set end given.attached s) (mapped_cost cost s) old new r) (sym sections)
    (subst (λ (e : ℕ). Ends None (near_sectors set.head e) (mended_told (told_all given.attached) ready.rescue set e) (mended_cost ready.rescue set e) old new r) is ends))

pub by_copies : (set : NearSet) (end : Option ℕ) (given : Named) (left : Option (List ℕ)) (ready : Ready) (old new : Place) (r : Result (Unit {0}) NbdEnd) → IsMendable set end given left ready →
    Ends None (near_sectors set.head ready.end) (mended_told (told_all given.attached) ready.rescue set ready.end) (mended_cost ready.rescue set ready.end) old new r →
    IfSome left (EndsByText (damaged_mirror set end given) old new r)
by_copies set end given None ready old new r is ends = tt
by_copies set end given (Some text) ready old new r is ends = ends_by set end given text ready old new r is.end_is is.allowed is.sections ends
