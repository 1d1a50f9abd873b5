-- A set that is tested against a plan: its rows can be tested, and how the command ends.
use Rattle.std.proofs.Common.{◌≡◌, ℕ, ◌≤◌, ◌<◌, ◌-◌, ◌^◌, min, Bool, false, cond, nat_le, List, [], ◌∷◌, length, None, Some, Option, Result, Err, All, refl, sym, ap, ◌∙◌, subst, arith}
use Rattle.std.proofs.lemmas.Bool.{le-leb}
use Rattle.std.proofs.lemmas.Bool.Decides.{nat_tests}
use Rattle.std.proofs.lemmas.List.Elements.{All-cons, All-head, All-nil, All-tail}
use Rattle.std.specs.Option.{option_map}
use Rattle.outside.specs.Attached.{told_all}
use Rattle.outside.specs.Seen.{Image, Seen, lengths_of}
use Rattle.head_walk.proofs.SetTests.{all_reach, end_near}
use Rattle.image_padding.specs.Padded.{greatest_base, padded, padded_images, padded_to}
use Rattle.image_padding.proofs.Images.{padded_length}
use Rattle.search_plan.specs.Plans.{IsPlan}
use Rattle.value_text.specs.SetText.{HasWord}
use Rattle.search_plan.specs.declared.plan.Plan.{Plan}
use Rattle.raid_params.specs.declared.wide.Wide.{Wide}
use Rattle.raid_params.specs.declared.wide.WideFault.{WideFault}
use Rattle.raid_params.specs.Wide.{wide_fault}
use Rattle.raid_params.specs.Validity.{is_shaped}
use Rattle.plan_jobs.proofs.Bases.{may_pad, near_offset, ruled}
use Rattle.plan_jobs.proofs.Prepared.{images_agree, names_agree}
use Rattle.run_ends.proofs.CutShort.{cut_ends, cut_images, cut_other, cut_read}
use Rattle.run_ends.proofs.Printed.{no_raise, order_allowed}
use Rattle.raid_params.proofs.Ruled.{ruled_shape}
use Rattle.run_ends.specs.Agreement.{plan_fault}
use Rattle.plan_jobs.specs.Checking.{check_over, check_reads, check_refusals, check_text, long_refusal, refusal_of, rule_refusal}
use Rattle.plan_jobs.specs.Plans.{AnswersOver, many_refusal}
use Rattle.plan_jobs.specs.Testing.{IsTestedBy, Tests}
use Rattle.run_ends.specs.Stops.{first_of}
use Rattle.run_ends.specs.declared.stop.Refusal.{Refusal}
use Rattle.run_ends.specs.declared.stop.Refusal.TheVariants.{Many}
use Rattle.run_ends.specs.declared.stop.Stop.{Stop}
use Rattle.run_ends.specs.declared.stop.Stop.TheVariants.{Refused, ImageFault, SourceFault, OutFault}
use Rattle.wide_product.specs.Sets.{wide_total}

reach_padded : (greatest end : ℕ) (bases : List ℕ) (images : List Image) → All (λ image. end ≤ image.sectors) images → All (λ image. end ≤ image.sectors) (padded_to greatest bases images)
reach_padded greatest end [] images all = all
reach_padded greatest end (base ∷ bases) [] all = All-nil (λ (image : Image). end ≤ image.sectors)
reach_padded greatest end (base ∷ bases) (image ∷ images) all =
    let long = All-head (λ (one : Image). end ≤ one.sectors) image images all in
    All-cons (λ (one : Image). end ≤ one.sectors) (padded (greatest - base) image) (padded_to greatest bases images) (omega arith) (reach_padded greatest end bases images (All-tail (λ (one : Image). end ≤ one.sectors) image images all))

-- a set that is not refused can be tested
pub tested : (plan : Plan) (set : Wide) (names : ℕ) (attached : List Image) → IsPlan plan → HasWord set → length attached ≡ min names 65536 → plan_fault plan.lengths.items names attached ≡ None → long_refusal set attached ≡ None → wide_fault set names plan.end ≡ None →
    IsTestedBy set plan attached
tested plan set names attached is word long none short rules =
    let agrees : lengths_of attached ≡ plan.lengths.items = images_agree plan names attached is long none in
    let most = is.lengths.most in
    let e : names ≡ length plan.lengths.items = names_agree plan names attached none in
    let count : names ≡ length attached = omega arith in
    let bases = set.bases.items in
    let many : names ≡ length (padded_images bases attached) = count ∙ sym (padded_length (greatest_base bases) bases attached) in
    let parts = ruled set names plan.end rules in
    let P : List ℕ → Type 0 = λ ns. All (λ k. plan.end ≤ k) ns in
    record {
      agree = agrees;
      padded = may_pad set names attached word count short parts.1;
      scannable = record {
        shaped = ap (is_shaped set.geo) (sym many) ∙ ruled_shape set.geo names plan.end parts.0;
        offset = near_offset set word;
        near = end_near plan.lengths.items plan.end is.lengths.some is.lengths.short is.ends;
        long = reach_padded (greatest_base bases) plan.end bases attached (all_reach attached plan.end (subst P (sym agrees) is.ends));
      };
    }

refusals : Option Refusal → Option Refusal → Option Refusal → Option Refusal
refusals long many rule = first_of (long ∷ many ∷ rule ∷ [])

refusals_are : (set : Wide) (names : ℕ) (attached : List Image) (plan : Plan) → first_of (check_refusals set names attached plan) ≡ refusals (long_refusal set attached) (many_refusal plan) (rule_refusal set names plan)
unfolding refusals
refusals_are set names attached plan = refl

first_refusal : (refusal : Refusal) (many rule : Option Refusal) → refusals (Some refusal) many rule ≡ Some refusal
unfolding refusals
first_refusal refusal many rule = refl

second_refusal : (refusal : Refusal) (rule : Option Refusal) → refusals None (Some refusal) rule ≡ Some refusal
unfolding refusals
second_refusal refusal rule = refl

third_refusal : (rule : Option Refusal) → refusals None None rule ≡ rule
unfolding refusals
third_refusal None = refl
third_refusal (Some refusal) = refl

-- an image is too long
pub long_refused : (set : Wide) (names : ℕ) (attached : List Image) (plan : Plan) (refusal : Refusal) → long_refusal set attached ≡ Some refusal → first_of (check_refusals set names attached plan) ≡ Some refusal
long_refused set names attached plan refusal e =
    refusals_are set names attached plan ∙ ap (λ r. refusals r (many_refusal plan) (rule_refusal set names plan)) e ∙ first_refusal refusal (many_refusal plan) (rule_refusal set names plan)

-- the product has too many sets
pub many_refused : (set : Wide) (names : ℕ) (attached : List Image) (plan : Plan) → long_refusal set attached ≡ None → 2 ^ 64 ≤ wide_total plan → first_of (check_refusals set names attached plan) ≡ Some Many
many_refused set names attached plan none many =
    refusals_are set names attached plan ∙ ap (λ r. refusals r (many_refusal plan) (rule_refusal set names plan)) none
    ∙ ap (λ (b : Bool). refusals None (cond b (Some Many) None) (rule_refusal set names plan)) (le-leb (2 ^ 64) (wide_total plan) many) ∙ second_refusal Many (rule_refusal set names plan)

not_many : (n : ℕ) → n < 2 ^ 64 → nat_le (2 ^ 64) n ≡ false
not_many n few = grind (arith, nat_tests)

-- the set breaks a rule, or none
pub rule_refused : (set : Wide) (names : ℕ) (attached : List Image) (plan : Plan) (fault : Option WideFault) → long_refusal set attached ≡ None → wide_total plan < 2 ^ 64 → wide_fault set names plan.end ≡ fault →
    first_of (check_refusals set names attached plan) ≡ option_map refusal_of fault
rule_refused set names attached plan fault none few is =
    refusals_are set names attached plan ∙ ap (λ r. refusals r (many_refusal plan) (rule_refusal set names plan)) none
    ∙ ap (λ (b : Bool). refusals None (cond b (Some Many) None) (rule_refusal set names plan)) (not_many (wide_total plan) few) ∙ third_refusal (rule_refusal set names plan)
    ∙ ap (λ (f : Option WideFault). option_map refusal_of f) is

-- what is refused is not tested
pub check_refused : (set : Wide) (names : ℕ) (plan : Plan) (seen : Seen) (refusal : Refusal) → first_of (check_refusals set names seen.attached plan) ≡ Some refusal → AnswersOver (check_over set) names plan seen seen (Err (Refused refusal))
check_refused set names plan seen refusal is = record {
  refuses = record { ends = is; passes = tt };
  text = tt;
  order = λ other e. record { unread = refl; unput = tt; no_image_fault = λ f. absurd (cc); no_out_fault = λ f. absurd (cc) };
  reads = omega arith;
  faults = no_raise ImageFault seen.faults (Err (Refused refusal)) (λ e. absurd (cc));
  untaken = λ f. absurd (cc);
  unput = λ f. absurd (cc);
  unread = λ h. refl;
  world = refl;
  attached = refl;
}

-- the tests of a set that is not refused
pub check_tests : (set : Wide) (names : ℕ) (plan : Plan) (old new : Seen) (answer : Result (List ℕ) Stop) → first_of (check_refusals set names old.attached plan) ≡ None →
    Tests (check_reads set old.attached plan) (λ bytes. check_text bytes plan set) (told_all old.attached) old new answer → AnswersOver (check_over set) names plan old new answer
check_tests set names plan old new answer none tests = record {
  refuses = cut_ends old new answer (first_of (check_refusals set names old.attached plan)) none tests.ends;
  text = tests.text;
  order = order_allowed (first_of (check_refusals set names old.attached plan)) old.sectors_read new.sectors_read None None answer none;
  reads = tests.reads.sectors_read;
  faults = cut_images old new (check_reads set old.attached plan) answer tests.reads tests.quiet tests.ends;
  untaken = cut_other old new answer SourceFault tests.ends (λ h. h);
  unput = cut_other old new answer OutFault tests.ends (λ h. h);
  unread = cut_read old new answer tests.ends;
  world = tests.reads.world;
  attached = tests.reads.attached;
}
