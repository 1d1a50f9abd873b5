-- What `mirrorwrite` refuses, and what it may go on with.
use Rattle.std.proofs.Common.{◌≡◌, ℕ, ◌<◌, ◌≤◌, ◌^◌, min, List, [], ◌∷◌, length, None, Some, Option, All, IfSome, sym, ap, ◌∙◌, subst, arith}
use Rattle.std.specs.Option.{option_map}
use Rattle.outside.specs.Seen.{Image}
use Rattle.near_mirror.specs.Validity.{first_fault}
use Rattle.near_mirror.specs.declared.types.NearRule.{NearRule}
use Rattle.near_mirror.specs.declared.types.NearSet.{NearSet}
use Rattle.near_volume.specs.Mirrored.{IsMirrored}
use Rattle.run_ends.proofs.Lengths.{end_near}
use Rattle.run_ends.proofs.Limits.{all_reach, no_limits}
use Rattle.run_ends.specs.Agreement.{end_of, limits_fault}
use Rattle.run_ends.specs.Stops.{first_of}
use Rattle.run_ends.specs.declared.agreement.Disagreement.{Disagreement}
use Rattle.run_ends.specs.declared.stop.Refusal.TheVariants.{Images, Near}
use Rattle.near_jobs.specs.MirrorWriting.{mirror_refusal}

-- the images disagree
pub images_refused : (set : NearSet) (end : Option ℕ) (names : ℕ) (attached : List Image) (fault : Disagreement) → limits_fault end names attached ≡ Some fault → mirror_refusal set end names attached ≡ Some (Images fault)
unfolding mirror_refusal
images_refused set end names attached fault e =
    ap (λ r. first_of (option_map (λ (f : Disagreement). Images f) r ∷ option_map (λ (f : NearRule). Near f) (first_fault set names (end_of end attached)) ∷ [])) e

-- the set breaks a rule
pub rule_refused : (set : NearSet) (end : Option ℕ) (names : ℕ) (attached : List Image) (rule : NearRule) → limits_fault end names attached ≡ None → first_fault set names (end_of end attached) ≡ Some rule →
    mirror_refusal set end names attached ≡ Some (Near rule)
unfolding mirror_refusal
rule_refused set end names attached rule none e =
    ap (λ r. first_of (option_map (λ (f : Disagreement). Images f) r ∷ option_map (λ (f : NearRule). Near f) (first_fault set names (end_of end attached)) ∷ [])) none
    ∙ ap (λ r. first_of (option_map (λ (f : NearRule). Near f) r ∷ [])) e

-- neither
pub mirror_allowed : (set : NearSet) (end : Option ℕ) (names : ℕ) (attached : List Image) → limits_fault end names attached ≡ None → first_fault set names (end_of end attached) ≡ None → mirror_refusal set end names attached ≡ None
unfolding mirror_refusal
mirror_allowed set end names attached none e =
    ap (λ r. first_of (option_map (λ (f : Disagreement). Images f) r ∷ option_map (λ (f : NearRule). Near f) (first_fault set names (end_of end attached)) ∷ [])) none
    ∙ ap (λ r. first_of (option_map (λ (f : NearRule). Near f) r ∷ [])) e

-- then its volume can be written
pub mirrored : (set : NearSet) (end : Option ℕ) (names last : ℕ) (attached : List Image) → limits_fault end names attached ≡ None → first_fault set names last ≡ None → last ≡ end_of end attached →
    All (λ image. image.sectors < 2 ^ 55) attached → IfSome end (λ sector. sector < 2 ^ 55) → length attached ≡ min names 65536 → IsMirrored set last attached
mirrored set end names last attached none ruled is small short count =
    let allowed = no_limits end names attached none in
    let few = allowed.few in
    let all : names ≡ length attached = omega arith in
    let P : ℕ → Type 0 = λ n. All (λ (image : Image). n ≤ image.sectors) attached in
    record {
      ruled = ap (λ (n : ℕ). first_fault set n last) (sym all) ∙ ruled;
      near = (let near = end_near end attached small short in omega arith);
      long = subst P (sym is) (all_reach attached (end_of end attached) allowed.reaches);
    }
