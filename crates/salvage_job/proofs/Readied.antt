-- When the work does not begin, and what is known once it does.
use Rattle.std.proofs.Common.{◌≡◌, ◌≤◌, ◌<◌, ◌^◌, ℕ, Bool, cond, List, [], ◌∷◌, All, None, Some, Option, Result, Ok, Err, IfSome, IfErr, MatchResult, length, min, sym, ap, ap₂, ◌∙◌, subst, arith}
use Rattle.std.specs.Option.{option_map}
use Rattle.std.proofs.lemmas.Bool.{lt-ltb, le-ltb}
use Rattle.std.proofs.lemmas.Option.{IfSome_then}
use Rattle.outside.specs.Seen.{Image, lengths_of}
use Rattle.raid_params.specs.Wide.{wide_fault}
use Rattle.raid_params.specs.declared.wide.Wide.{Wide}
use Rattle.raid_params.specs.declared.wide.WideFault.{WideFault}
use Rattle.rescue_text.specs.RescueText.{rescue_sections}
use Rattle.rescue_text.specs.declared.section.Section.{Section}
use Rattle.run_ends.proofs.Lengths.{end_near}
use Rattle.run_ends.proofs.Limits.{all_reach, no_limits}
use Rattle.run_ends.specs.Agreement.{end_of, shortest}
use Rattle.run_ends.specs.Stops.{IsTextless, first_of}
use Rattle.run_ends.specs.declared.stop.Refusal.{Refusal}
use Rattle.run_ends.specs.declared.stop.Refusal.TheVariants.{RescueIsLong}
use Rattle.run_ends.specs.declared.stop.Stop.{Stop}
use Rattle.run_ends.specs.declared.stop.Stop.TheVariants.{Refused, ImageFault, SourceFault, OutFault, OutOfMemory}
use Rattle.salvage_job.specs.Salvaging.{CannotBegin, IsReady, IsUnreadable, IsUnready, IsUnrescued, line_refusal, rule_refusal, salvage_refusal, text_refusal}
use Rattle.salvage_job.specs.declared.salvaging.Ready.{Ready}
use Rattle.set_jobs.proofs.Bases.{short_for}
use Rattle.set_jobs.proofs.SetRefusals.{first_alone, images_kept}
use Rattle.set_jobs.specs.Mapping.{images_refusal}

-- the images are refused, whatever the text says
by_images : (set : Wide) (end : Option ℕ) (text : List ℕ) (names : ℕ) (attached : List Image) (refusal : Refusal) → images_refusal set end names attached ≡ Some refusal → salvage_refusal set end text names attached ≡ Some refusal
unfolding salvage_refusal
by_images set end text names attached refusal e = ap (λ r. first_of (r ∷ text_refusal names text ∷ option_map rule_refusal (wide_fault set names (end_of end attached)) ∷ [])) e

-- the text is
by_text : (set : Wide) (end : Option ℕ) (text : List ℕ) (names : ℕ) (attached : List Image) (refusal : Refusal) → images_refusal set end names attached ≡ None → text_refusal names text ≡ Some refusal → salvage_refusal set end text names attached ≡ Some refusal
unfolding salvage_refusal
by_text set end text names attached refusal none e = ap₂ (λ r s. first_of (r ∷ s ∷ option_map rule_refusal (wide_fault set names (end_of end attached)) ∷ [])) none e

-- or the set, if it breaks a rule
by_rule : (set : Wide) (end : Option ℕ) (text : List ℕ) (names last : ℕ) (attached : List Image) (fault : Option WideFault) → images_refusal set end names attached ≡ None → text_refusal names text ≡ None → last ≡ end_of end attached → wide_fault set names last ≡ fault →
    salvage_refusal set end text names attached ≡ option_map rule_refusal fault
unfolding salvage_refusal
by_rule set end text names last attached fault none read is e =
    ap₂ (λ r s. first_of (r ∷ s ∷ option_map rule_refusal (wide_fault set names (end_of end attached)) ∷ [])) none read
    ∙ ap (λ (r : Option WideFault). first_of (option_map rule_refusal r ∷ [])) (ap (wide_fault set names) (sym is) ∙ e) ∙ first_alone (option_map rule_refusal fault)

all_left : (Q : List ℕ → Type 0) (left : Option (List ℕ)) → ((text : List ℕ) → Q text) → IfSome left Q
all_left Q None h = tt
all_left Q (Some text) h = h text

-- what a text is refused for
long_text : (names : ℕ) (text : List ℕ) → 4194304 < length text → text_refusal names text ≡ Some RescueIsLong
unfolding text_refusal
long_text names text long = ap (λ (b : Bool). cond b (Some RescueIsLong) (line_refusal (rescue_sections names text))) (lt-ltb 4194304 (length text) long)

short_text : (names : ℕ) (text : List ℕ) → length text ≤ 4194304 → text_refusal names text ≡ line_refusal (rescue_sections names text)
unfolding text_refusal
short_text names text short = ap (λ (b : Bool). cond b (Some RescueIsLong) (line_refusal (rescue_sections names text))) (le-ltb 4194304 (length text) short)

-- what was read of the images
abbrev pub Reads : ℕ → List Section → List ℕ → Type 0
Reads names rescue text = (length text ≤ 4194304) × (rescue_sections names text ≡ Ok rescue)

pub read_text : (names : ℕ) (rescue : List Section) (text : List ℕ) → Reads names rescue text → text_refusal names text ≡ None
read_text names rescue text read = short_text names text read.0 ∙ ap line_refusal read.1

-- the source gives no text
pub untold : (names : ℕ) (left : Option (List ℕ)) (stop : Stop) → IsTextless 4194304 RescueIsLong left stop → IsUnrescued names left stop
untold names left (Refused refusal) is =
    IfSome_then left is.1 (λ text long. long_text names text long ∙ ap (λ (r : Refusal). Some r) (sym is.0))
untold names left ImageFault is = absurd is
untold names left SourceFault is = tt
untold names left OutFault is = absurd is
untold names left OutOfMemory is = tt

unreadable : (names : ℕ) (left : Option (List ℕ)) (text : List ℕ) (stop : Stop) → IfSome left (λ bytes. text ≡ bytes) → length text ≤ 4194304 → IsUnreadable names text stop → IsUnrescued names left stop
unreadable names left text (Refused refusal) is short un =
    IfSome_then left is (λ bytes e. subst (λ (xs : List ℕ). text_refusal names xs ≡ Some refusal) e (short_text names text short ∙ un))
unreadable names left text ImageFault is short un = absurd un
unreadable names left text SourceFault is short un = absurd un
unreadable names left text OutFault is short un = absurd un
unreadable names left text OutOfMemory is short un = tt

-- or a text that is none
pub unrescued : (names : ℕ) (left : Option (List ℕ)) (text : List ℕ) (result : Result (List Section) Stop) → IfSome left (λ bytes. text ≡ bytes) → length text ≤ 4194304 → MatchResult result (λ rescue. rescue_sections names text ≡ Ok rescue) (IsUnreadable names text) →
    IfErr result (IsUnrescued names left)
unrescued names left text (Ok rescue) is short match = tt
unrescued names left text (Err stop) is short match = unreadable names left text stop is short match

-- the work does not begin
pub unready_images : (set : Wide) (end : Option ℕ) (names : ℕ) (attached : List Image) (left : Option (List ℕ)) (refusal : Refusal) → images_refusal set end names attached ≡ Some refusal → IfSome left (λ text. salvage_refusal set end text names attached ≡ Some refusal)
unready_images set end names attached left refusal e = all_left (λ text. salvage_refusal set end text names attached ≡ Some refusal) left (λ text. by_images set end text names attached refusal e)

-- what refuses a text first refuses it
pub later_refused : (first refused : List ℕ → Option Refusal) (left : Option (List ℕ)) (stop : Stop) → ((text : List ℕ) (refusal : Refusal) → first text ≡ Some refusal → refused text ≡ Some refusal) → CannotBegin first left stop → CannotBegin refused left stop
later_refused first refused left (Refused refusal) later is = IfSome_then left is (λ text e. later text refusal e)
later_refused first refused left ImageFault later is = absurd is
later_refused first refused left SourceFault later is = tt
later_refused first refused left OutFault later is = absurd is
later_refused first refused left OutOfMemory later is = tt

pub unready_text : (set : Wide) (end : Option ℕ) (names : ℕ) (attached : List Image) (left : Option (List ℕ)) (stop : Stop) → images_refusal set end names attached ≡ None → IsUnrescued names left stop → IsUnready set end names attached left stop
unready_text set end names attached left stop none is =
    later_refused (text_refusal names) (λ text. salvage_refusal set end text names attached) left stop (λ text refusal e. by_text set end text names attached refusal none e) is

pub unready_set : (set : Wide) (end : Option ℕ) (names last : ℕ) (attached : List Image) (left : Option (List ℕ)) (rescue : List Section) (fault : Option WideFault) → images_refusal set end names attached ≡ None → IfSome left (Reads names rescue) → last ≡ end_of end attached → wide_fault set names last ≡ fault →
    IfSome left (λ text. salvage_refusal set end text names attached ≡ option_map rule_refusal fault)
unready_set set end names last attached left rescue fault none read is e =
    IfSome_then left read (λ text r. by_rule set end text names last attached fault none (read_text names rescue text r) is e)

-- it begins
pub is_ready : (set : Wide) (end : Option ℕ) (names : ℕ) (attached : List Image) (left : Option (List ℕ)) (ready : Ready) → length attached ≡ min names 65536 → All (λ image. image.sectors < 2 ^ 55) attached → IfSome end (λ sector. sector < 2 ^ 55) →
    images_refusal set end names attached ≡ None → IfSome left (Reads names ready.rescue) → ready.end ≡ end_of end attached → wide_fault set names ready.end ≡ None → IsReady set end names attached left ready
is_ready set end names attached left ready count small near none read is ruled =
    let parts = images_kept set end names attached none in
    let allowed = no_limits end names attached parts.0 in
    let few = allowed.few in
    let many : names ≡ length attached = omega arith in
    record {
      end_is = is;
      images = none;
      allowed = unready_set set end names ready.end attached left ready.rescue None none read is ruled;
      sections = IfSome_then left read (λ text r. r.1);
      salvaged = record {
        ruled = subst (λ (n : ℕ). wide_fault set n ready.end ≡ None) many ruled;
        near = subst (λ (e : ℕ). e < 2 ^ 55) (sym is) (end_near end attached small near);
        long = all_reach attached ready.end (subst (λ (e : ℕ). e ≤ shortest (lengths_of attached)) (sym is) allowed.reaches);
        short = short_for set attached parts.1;
      };
    }
