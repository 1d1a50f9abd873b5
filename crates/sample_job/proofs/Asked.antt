-- What the survey of a generated array is asked for.
use Rattle.std.proofs.Common.{◌≡◌, ℕ, ◌+◌, ◌*◌, ◌<◌, ◌≤◌, ◌^◌, Bool, cond, true, false, List, [], ◌∷◌, length, All, None, Some, Option, refl, sym, ap, subst, arith, lit≤, inl, inr, IsTrue}
use Rattle.std.proofs.lemmas.List.Elements.{All-cons, All-nil, All-weaker}
use Rattle.std.proofs.lemmas.List.Sums.{sum_by-cons}
use Rattle.std.specs.Option.{is_some}
use Rattle.command_words.proofs.Limits.{plain_asked}
use Rattle.command_words.specs.Commands.{plain_survey}
use Rattle.plan_text.specs.Parts.{AreMembers}
use Rattle.outside.specs.Seen.{Image}
use Rattle.member_regions.specs.Members.{held}
use Rattle.raid_layouts.proofs.Levels.{at_most, enough, some_delay}
use Rattle.raid_layouts.proofs.Shapes.{shaped_head, shaped_missing, shaped_slots}
use Rattle.raid_params.specs.Size.{redundancy}
use Rattle.raid_params.specs.Slots.{empties}
use Rattle.raid_params.specs.Validity.{fewest, first_fault, has_delay, has_members, has_pattern, has_syndrome, is_chunk, is_shaped, is_valid_head, moves}
use Rattle.raid_params.specs.declared.limits.TheConstants.{LONGEST_DELAY}
use Rattle.raid_params.specs.declared.types.Head.{Head}
use Rattle.std.proofs.lemmas.Bool.{and_parts, eqb-true, leb-true, or_cases}
use Rattle.raid_params.specs.declared.types.Pattern.{Pattern}
use Rattle.std.specs.Prelude.{nat_eq, nat_le, ◌&&◌}
use Rattle.raid_params.specs.declared.types.Geometry.{Geometry}
use Rattle.raid_params.specs.declared.types.Level.{Level}
use Rattle.raid_params.specs.declared.types.Level.TheVariants.{Raid0, Raid5, Raid6}
use Rattle.raid_params.proofs.Ruled.{ruled_shape}
use Rattle.sample_arrays.proofs.Sampled.{near_end}
use Rattle.sample_arrays.specs.Arrays.{end_of, sampled, IsFile}
use Rattle.search_plan.specs.Places.{level_place}
use Rattle.search_plan.specs.Plans.{AreBounds, AreRising}
use Rattle.survey_engine.specs.Surveys.{IsAsk, IsSurveyable}
use Rattle.asked_values.proofs.Asked.{window_is}
use Rattle.sample_job.proofs.Attached.{all_long, image_count}
use Rattle.sample_job.specs.Sampling.{sample_ask, sample_plan, sampled_images}

-- a list of one number rises
one_rises : (n : ℕ) → AreRising (n ∷ [])
one_rises n = record { some = omega arith; rising = λ k lt. absurd (omega arith) }

-- an array keeps at most as many members empty as may be missing, and some are filled
few_lost : (level : Level) → redundancy level ≤ 2
few_lost Raid0 = omega arith
few_lost Raid5 = omega arith
few_lost Raid6 = omega arith

pub all_places : (slots : List (Option ℕ)) → held slots + empties slots ≡ length slots
unfolding held empties
all_places [] = refl
all_places (None ∷ slots) = omega (arith, sum_by-cons (λ (s : Option ℕ). cond (is_some s) 1 0) None slots, all_places slots)
all_places (Some i ∷ slots) = omega (arith, sum_by-cons (λ (s : Option ℕ). cond (is_some s) 1 0) (Some i) slots, all_places slots)

two_at_least : (level : Level) → 2 + redundancy level ≤ fewest level
two_at_least level = omega arith

-- a set that keeps the rules has from 2 to 24 members that are there
pub some_held : (set : Geometry) (images : ℕ) → is_shaped set images ≡ true → 1 ≤ held set.slots.items
some_held set images shaped =
    let places = all_places set.slots.items in
    let lost = shaped_missing set images shaped in
    let many = enough set.head (shaped_head set images shaped) in
    let slots = shaped_slots set images shaped in
    let two = two_at_least set.head.level in
    omega arith

pub few_held : (set : Geometry) (images : ℕ) → is_shaped set images ≡ true → held set.slots.items ≤ 24
few_held set images shaped =
    let places = all_places set.slots.items in
    let slots = shaped_slots set images shaped in
    let few = at_most set.head (shaped_head set images shaped) in
    omega arith

-- parity stays for a number of rows that a plan may have
short_delay : (head : Head) → IsTrue (is_valid_head head) → head.delay ≤ LONGEST_DELAY
short_delay head h =
    let members = and_parts (has_members head.level head.members) _ h in
    let pattern = and_parts (has_pattern head.level head.pattern) _ members.1 in
    let syndrome = and_parts (has_syndrome head.level head.syndrome) _ pattern.1 in
    let chunk = and_parts (is_chunk head.chunk) _ syndrome.1 in
    told head.pattern head.delay chunk.1
  where
    told : (pattern : Pattern) (delay : ℕ) → has_delay pattern delay ≡ true → delay ≤ LONGEST_DELAY
    told pattern delay suits = elim (or_cases (nat_eq delay 1) (moves pattern && (nat_le 1 delay && nat_le delay LONGEST_DELAY)) suits) [
      | inl one ↦ (let is : delay ≡ 1 = eqb-true delay 1 one in omega arith)
      | inr more ↦ leb-true delay LONGEST_DELAY (and_parts (nat_le 1 delay) (nat_le delay LONGEST_DELAY) (and_parts (moves pattern) _ more).1).1
    ]

-- the parameters to try
bounds_are : (asked : AreBounds (record plain_survey.bounds { members = record { items = 2 ∷ [] } })) (level : Level) (members delay missing : ℕ) → 2 ≤ members → members ≤ 24 → 1 ≤ delay → delay ≤ LONGEST_DELAY → missing ≤ 2 →
    AreBounds (record plain_survey.bounds { levels = record { items = level ∷ [] }; members = record { items = members ∷ [] }; delays = record { items = delay ∷ [] }; missing = missing })
bounds_are asked level members delay missing some most moves stays few = record {
  levels = one_rises (level_place level);
  members = one_rises members;
  few_members = All-cons (λ n. (2 ≤ n) × (n ≤ 24)) members [] (some, most) (All-nil (λ n. (2 ≤ n) × (n ≤ 24)));
  patterns = asked.patterns;
  delays = one_rises delay;
  few_delays = lit≤ tt;
  short_delays = All-cons (λ n. (1 ≤ n) × (n ≤ LONGEST_DELAY)) delay [] (moves, stays) (All-nil (λ n. (1 ≤ n) × (n ≤ LONGEST_DELAY)));
  syndromes = asked.syndromes;
  chunks = asked.chunks;
  powers = asked.powers;
  offsets = asked.offsets;
  few_offsets = asked.few_offsets;
  near_offsets = asked.near_offsets;
  missing = few;
  foreign = asked.foreign;
}

two_are : AreMembers (2 ∷ [])
two_are = (one_rises 2, All-cons (λ n. (2 ≤ n) × (n ≤ 24)) 2 [] (omega arith, omega arith) (All-nil (λ n. (2 ≤ n) × (n ≤ 24))))

-- the images have a common offset
plain_common : plain_survey.each ≡ false
unfolding plain_survey
plain_common = refl

pub sample_common : (number : ℕ) (set : Geometry) (rows : ℕ) (xfs : Bool) → (sample_plan number set rows xfs).each ≡ false
unfolding sample_plan sample_ask
sample_common number set rows xfs = plain_common

-- it can be asked of the images
ask_is : (set : Geometry) (end : ℕ) → is_shaped set (held set.slots.items) ≡ true → end < 2 ^ 55 → IsAsk (sample_ask set end)
unfolding sample_ask
ask_is set end shaped near =
    let lost = shaped_missing set (held set.slots.items) shaped in
    let few = few_lost set.head.level in
    let head = shaped_head set (held set.slots.items) shaped in
    let some = enough set.head head in
    let two = two_at_least set.head.level in
    let most = at_most set.head head in
    let window = window_is plain_survey.window end near plain_asked.window in
    record {
      bounds = bounds_are (plain_asked.bounds (record { items = 2 ∷ [] }) two_are) set.head.level set.head.members set.head.delay (empties set.slots.items) (omega arith) most (some_delay set.head head) (short_delay set.head head) (omega arith);
      limits = record { badrows = plain_asked.badrows; some_window = window.0; window = window.1 };
      tests = plain_asked.tests;
      unit = plain_asked.unit;
    }

pub surveyable : (number : ℕ) (set : Geometry) (rows : ℕ) (xfs : Bool) (end : ℕ) (attached : List Image) → first_fault set (held set.slots.items) (end_of set.head rows) ≡ None →
    set.head.members * end_of set.head rows ≤ 2097152 → All (IsFile (end_of set.head rows)) (sampled number set rows xfs) →
    end ≡ end_of set.head rows → attached ≡ sampled_images number set rows xfs → IsSurveyable (sample_ask set end) attached
unfolding sample_ask
surveyable number set rows xfs end attached kept size long is there =
    let shaped = ruled_shape set (held set.slots.items) (end_of set.head rows) kept in
    let near = near_end set rows kept size in
    let count = image_count number set rows xfs in
    let same = ap (λ (images : List Image). length images) there in
    let some = some_held set (held set.slots.items) shaped in
    let few = few_held set (held set.slots.items) shaped in
    let all = subst (λ (images : List Image). All (λ image. image.sectors ≡ end_of set.head rows) images) (sym there) (all_long number set rows xfs long) in
    record {
      ask_is = ask_is set end shaped (omega arith);
      some = omega arith;
      most = omega arith;
      short = All-weaker (λ (image : Image). image.sectors ≡ end_of set.head rows) (λ (image : Image). image.sectors < 2 ^ 55) (λ image e. omega arith) attached all;
      long = All-weaker (λ (image : Image). image.sectors ≡ end_of set.head rows) (λ (image : Image). end ≤ image.sectors) (λ image e. omega arith) attached all;
      each = λ e. absurd (let common = plain_common in cc);
    }
