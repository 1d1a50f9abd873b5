-- Plans of the tests: a test of each rule, and images of their lengths.
use Rattle.std.proofs.Common.{ℕ, zero, suc, ◌≡◌, ◌<◌, ◌≤◌, ◌+◌, ◌^◌, Bool, true, not, ◌&&◌, nat_le, nat_lt, List, [], ◌∷◌, length, map, refl, sym, arith, All, IsTrue, subst, get_or, None, Some, ap, ◌∙◌}
use Rattle.std.specs.List.{slice_get}
use Rattle.std.specs.Option.{option_map}
use Rattle.outside.specs.Seen.{Image}
use Rattle.std.specs.List.{slice_index}
use Rattle.std.specs.List.Sorted.{IsStrictlyIncreasing}
use Rattle.std.proofs.lemmas.Bool.{and_parts, false≢true, leb-true, ltb-true}
use Rattle.std.proofs.lemmas.List.Elements.{All-cons, All-nil}
use Rattle.std.proofs.lemmas.List.Sorted.{IsNonDecreasingBy-short}
use Rattle.landmark_rules.specs.Groups.{AreGroups, AreMarkBounds, IsMark, group_place, kind_place, mark_place, marks_in, most_groups}
use Rattle.landmark_rules.specs.declared.marks.Group.{Group}
use Rattle.mark_kinds.specs.declared.table.GroupKind.{GroupKind}
use Rattle.mark_kinds.specs.declared.table.GroupKind.TheVariants.{Gpt as GptGroup, Ntfs, Xfs, Btrfs, Lvm, Ext, Extinode, Xfs5, Btrfstree, Mft}
use Rattle.mark_kinds.specs.declared.table.Kind.{Kind}
use Rattle.mark_kinds.specs.declared.table.Kind.TheVariants.{Gpt, Boot, FileRecord, Super, Agf, Agi, Btrfs as BtrfsMark, Lvm as LvmMark, Ext as ExtMark, Extinode as ExtinodeMark, Xfs5 as Xfs5Mark, Btrfstree as BtrfstreeMark, Mft as MftMark}
use Rattle.std.specs.Prelude.{◌==◌, IfSome, IsSomeAnd, count_by}
use Rattle.landmark_rules.specs.declared.limits.TheConstants.{MOST_MARKS, MOST_ORIGINS}
use Rattle.raid_params.specs.declared.limits.TheConstants.{LONGEST_DELAY, MOST, MOST_DELAYS, MOST_MISSING, MOST_OFFSETS}
use Rattle.raid_params.specs.Validity.{is_chunk}
use Rattle.search_plan.specs.Plans.{AreRising, IsPlan}
use Rattle.search_plan.specs.Places.{level_place, pattern_place, syndrome_place}
use Rattle.search_plan.specs.declared.plan.Plan.{Plan}
use Rattle.search_rows.specs.SmallPlans.{a_header, headers}
use Rattle.arrayvec.specs.ArrayVec.{ArrayVec}

abbrev every : (ℕ → Bool) → List ℕ → Bool
every p [] = true
every p (x ∷ xs) = p x && every p xs

abbrev rises : List ℕ → Bool
rises [] = true
rises (x ∷ []) = true
rises (x ∷ y ∷ ys) = nat_lt x y && rises (y ∷ ys)

all_of : (p : ℕ → Bool) (P : ℕ → Type 0) (xs : List ℕ) → ((x : ℕ) → p x ≡ true → P x) → every p xs ≡ true → All P xs
all_of p P [] h e = All-nil P
all_of p P (x ∷ xs) h e = let parts = and_parts (p x) (every p xs) e in All-cons P x xs (h x parts.0) (all_of p P xs h parts.1)

rising : (xs : List ℕ) → rises xs ≡ true → IsStrictlyIncreasing xs
rising [] e k lt = absurd (omega arith)
rising (x ∷ []) e k lt = absurd (omega arith)
rising (x ∷ y ∷ ys) e zero lt = ltb-true x y (and_parts (nat_lt x y) (rises (y ∷ ys)) e).0
rising (x ∷ y ∷ ys) e (suc k) lt =
    let next : suc (k + 1) ≡ suc k + 1 = omega arith in
    let P : ℕ → Type 0 = λ n. slice_index (y ∷ ys) k < slice_index (x ∷ y ∷ ys) n in
    subst P next (rising (y ∷ ys) (and_parts (nat_lt x y) (rises (y ∷ ys)) e).1 k (omega arith))

abbrev are_rising : List ℕ → Bool
are_rising xs = nat_le 1 (length xs) && rises xs

rising_list : (xs : List ℕ) → are_rising xs ≡ true → AreRising xs
rising_list xs e = let parts = and_parts (nat_le 1 (length xs)) (rises xs) e in record { some = leb-true 1 (length xs) parts.0; rising = rising xs parts.1 }

abbrev all_true : List Bool → Bool
all_true [] = true
all_true (b ∷ bs) = b && all_true bs

each_true : (bs : List Bool) → all_true bs ≡ true → (k : ℕ) → get_or bs k true ≡ true
each_true [] e k = refl
each_true (b ∷ bs) e zero = (and_parts b (all_true bs) e).0
each_true (b ∷ bs) e (suc k) = each_true bs (and_parts b (all_true bs) e).1 k

-- the rules of a plan but for its groups, as tests
abbrev rules_of : Plan → List Bool
rules_of plan =
    nat_le 1 (length plan.lengths.items)
    ∷ nat_le (length plan.lengths.items) MOST
    ∷ every (λ n. nat_lt n (2 ^ 55)) plan.lengths.items
    ∷ every (λ n. nat_le plan.end n) plan.lengths.items
    ∷ are_rising (map level_place plan.bounds.levels.items)
    ∷ are_rising plan.bounds.members.items
    ∷ every (λ n. nat_le 2 n && nat_le n MOST) plan.bounds.members.items
    ∷ are_rising (map pattern_place plan.bounds.patterns.items)
    ∷ are_rising (map syndrome_place plan.bounds.syndromes.items)
    ∷ are_rising plan.bounds.chunks.items
    ∷ every is_chunk plan.bounds.chunks.items
    ∷ are_rising plan.bounds.offsets.items
    ∷ nat_le (length plan.bounds.offsets.items) MOST_OFFSETS
    ∷ every (λ n. nat_lt n (2 ^ 55)) plan.bounds.offsets.items
    ∷ nat_le plan.bounds.missing MOST_MISSING
    ∷ nat_le plan.bounds.foreign MOST
    ∷ nat_lt plan.limits.badrows (2 ^ 55)
    ∷ nat_le 1 plan.limits.window
    ∷ nat_lt plan.limits.window (2 ^ 55)
    ∷ are_rising plan.tests.origins.items
    ∷ nat_le (length plan.tests.origins.items) MOST_ORIGINS
    ∷ every (λ n. nat_lt n (2 ^ 55)) plan.tests.origins.items
    ∷ nat_lt plan.tests.misfits (2 ^ 55)
    ∷ nat_lt plan.tests.least (2 ^ 55)
    ∷ not plan.each
    ∷ are_rising plan.bounds.delays.items
    ∷ nat_le (length plan.bounds.delays.items) MOST_DELAYS
    ∷ every (λ n. nat_le 1 n && nat_le n LONGEST_DELAY) plan.bounds.delays.items
    ∷ []

unfoldable pub keeps_rules : Plan → Bool
keeps_rules plan = all_true (rules_of plan)

pub no_groups : (lengths : List ℕ) → AreGroups lengths []
no_groups lengths = record {
  order = IsNonDecreasingBy-short (λ x. x) (map (λ (group : Group). group_place group.kind) []) (omega arith);
  few = λ kind. omega arith;
  marks = All-nil (λ group. All (IsMark lengths group.kind) group.marks);
  rising = All-nil (λ group. IsStrictlyIncreasing (map mark_place group.marks));
  bounds = All-nil (λ group. IfSome group.bounds AreMarkBounds);
  few_marks = λ kind. omega arith;
}

from_rules : (plan : Plan) → AreGroups plan.lengths.items plan.groups → ((k : ℕ) → get_or (rules_of plan) k true ≡ true) → IsPlan plan
from_rules plan are t = record {
  lengths = record {
    some = leb-true 1 (length plan.lengths.items) (t 0);
    most = leb-true (length plan.lengths.items) MOST (t 1);
    short = all_of (λ n. nat_lt n (2 ^ 55)) (λ n. n < 2 ^ 55) plan.lengths.items (λ n e. ltb-true n (2 ^ 55) e) (t 2);
  };
  ends = all_of (λ n. nat_le plan.end n) (λ n. plan.end ≤ n) plan.lengths.items (λ n e. leb-true plan.end n e) (t 3);
  bounds = record {
    levels = rising_list (map level_place plan.bounds.levels.items) (t 4);
    members = rising_list plan.bounds.members.items (t 5);
    few_members = all_of (λ n. nat_le 2 n && nat_le n MOST) (λ n. (2 ≤ n) × (n ≤ MOST)) plan.bounds.members.items
        (λ n e. let parts = and_parts (nat_le 2 n) (nat_le n MOST) e in (leb-true 2 n parts.0, leb-true n MOST parts.1)) (t 6);
    patterns = rising_list (map pattern_place plan.bounds.patterns.items) (t 7);
    delays = rising_list plan.bounds.delays.items (t 25);
    few_delays = leb-true (length plan.bounds.delays.items) MOST_DELAYS (t 26);
    short_delays = all_of (λ n. nat_le 1 n && nat_le n LONGEST_DELAY) (λ n. (1 ≤ n) × (n ≤ LONGEST_DELAY)) plan.bounds.delays.items
        (λ n e. let parts = and_parts (nat_le 1 n) (nat_le n LONGEST_DELAY) e in (leb-true 1 n parts.0, leb-true n LONGEST_DELAY parts.1)) (t 27);
    syndromes = rising_list (map syndrome_place plan.bounds.syndromes.items) (t 8);
    chunks = rising_list plan.bounds.chunks.items (t 9);
    powers = all_of is_chunk (λ n. IsTrue (is_chunk n)) plan.bounds.chunks.items (λ n e. e) (t 10);
    offsets = rising_list plan.bounds.offsets.items (t 11);
    few_offsets = leb-true (length plan.bounds.offsets.items) MOST_OFFSETS (t 12);
    near_offsets = all_of (λ n. nat_lt n (2 ^ 55)) (λ n. n < 2 ^ 55) plan.bounds.offsets.items (λ n e. ltb-true n (2 ^ 55) e) (t 13);
    missing = leb-true plan.bounds.missing MOST_MISSING (t 14);
    foreign = leb-true plan.bounds.foreign MOST (t 15);
  };
  limits = record {
    badrows = ltb-true plan.limits.badrows (2 ^ 55) (t 16);
    some_window = leb-true 1 plan.limits.window (t 17);
    window = ltb-true plan.limits.window (2 ^ 55) (t 18);
  };
  tests = record {
    origins = rising_list plan.tests.origins.items (t 19);
    few_origins = leb-true (length plan.tests.origins.items) MOST_ORIGINS (t 20);
    near_origins = all_of (λ n. nat_lt n (2 ^ 55)) (λ n. n < 2 ^ 55) plan.tests.origins.items (λ n e. ltb-true n (2 ^ 55) e) (t 21);
    misfits = ltb-true plan.tests.misfits (2 ^ 55) (t 22);
    least = ltb-true plan.tests.least (2 ^ 55) (t 23);
  };
  groups = are;
  each = λ e. absurd (false≢true (sym (ap not e) ∙ t 24));
}

header_is : (lengths : List ℕ) (image : ℕ) → image < MOST → IsSomeAnd (slice_get lengths image) (λ n. 0 < n) → IsMark lengths GptGroup (a_header image)
header_is lengths image few there = record { kind_of = refl; image = few; sector = there; rule = omega arith }

pub headers_are : (lengths : List ℕ) → IsSomeAnd (slice_get lengths 1) (λ n. 0 < n) → IsSomeAnd (slice_get lengths 2) (λ n. 0 < n) → AreGroups lengths headers
headers_are lengths second third = record {
  order = IsNonDecreasingBy-short (λ x. x) (map (λ (group : Group). group_place group.kind) headers) (omega arith);
  few = few;
  marks = All-cons (λ group. All (IsMark lengths group.kind) group.marks) (record { kind = GptGroup; marks = a_header 1 ∷ a_header 2 ∷ []; bounds = None }) []
      (All-cons (IsMark lengths GptGroup) (a_header 1) (a_header 2 ∷ []) (header_is lengths 1 (omega arith) second)
      (All-cons (IsMark lengths GptGroup) (a_header 2) [] (header_is lengths 2 (omega arith) third) (All-nil (IsMark lengths GptGroup))))
      (All-nil (λ group. All (IsMark lengths group.kind) group.marks));
  rising = All-cons (λ group. IsStrictlyIncreasing (map mark_place group.marks)) (record { kind = GptGroup; marks = a_header 1 ∷ a_header 2 ∷ []; bounds = None }) []
      (rising (map mark_place (a_header 1 ∷ a_header 2 ∷ [])) refl) (All-nil (λ group. IsStrictlyIncreasing (map mark_place group.marks)));
  bounds = All-cons (λ group. IfSome group.bounds AreMarkBounds) (record { kind = GptGroup; marks = a_header 1 ∷ a_header 2 ∷ []; bounds = None }) [] tt (All-nil (λ group. IfSome group.bounds AreMarkBounds));
  few_marks = few_marks;
}
  where
    few : (kind : GroupKind) → count_by (λ group. group_place group.kind == group_place kind) headers ≤ most_groups kind
    few GptGroup = omega arith
    few Ntfs = omega arith
    few Xfs = omega arith
    few Btrfs = omega arith
    few Lvm = omega arith
    few Ext = omega arith
    few Extinode = omega arith
    few Xfs5 = omega arith
    few Btrfstree = omega arith
    few Mft = omega arith

    few_marks : (kind : Kind) → count_by (λ mark. kind_place mark.kind == kind_place kind) (marks_in headers) ≤ MOST_MARKS
    few_marks Gpt = omega arith
    few_marks Boot = omega arith
    few_marks FileRecord = omega arith
    few_marks Super = omega arith
    few_marks Agf = omega arith
    few_marks Agi = omega arith
    few_marks BtrfsMark = omega arith
    few_marks LvmMark = omega arith
    few_marks ExtMark = omega arith
    few_marks ExtinodeMark = omega arith
    few_marks Xfs5Mark = omega arith
    few_marks BtrfstreeMark = omega arith
    few_marks MftMark = omega arith

-- a plan without groups that keeps the rules
pub plan_is : (plan : Plan) → plan.groups ≡ [] → keeps_rules plan ≡ true → IsPlan plan
unfolding keeps_rules
plan_is plan none kept = from_rules plan (subst (AreGroups plan.lengths.items) (sym none) (no_groups plan.lengths.items)) (each_true (rules_of plan) kept)

-- one with two headers
pub headers_plan_is : (plan : Plan) → plan.groups ≡ headers → IsSomeAnd (slice_get plan.lengths.items 1) (λ n. 0 < n) → IsSomeAnd (slice_get plan.lengths.items 2) (λ n. 0 < n) → keeps_rules plan ≡ true → IsPlan plan
unfolding keeps_rules
headers_plan_is plan two second third kept = from_rules plan (subst (AreGroups plan.lengths.items) (sym two) (headers_are plan.lengths.items second third)) (each_true (rules_of plan) kept)

-- a list is what its elements are
pub of_items : {A : Type 0} {xs : ArrayVec A} {items : List A} → xs.items ≡ items → xs ≡ record { items = items }
of_items {A} e = ap (λ (l : List A). let v : ArrayVec A = record { items = l } in v) e

-- more or fewer rows may be unsound
pub with_badrows : (plan : Plan) (badrows : ℕ) → badrows < 2 ^ 55 → IsPlan plan → IsPlan (record plan { limits = record { badrows = badrows; window = plan.limits.window } })
with_badrows plan badrows few is = record {
  lengths = is.lengths;
  ends = is.ends;
  bounds = is.bounds;
  limits = record { badrows = few; some_window = is.limits.some_window; window = is.limits.window };
  tests = is.tests;
  groups = is.groups;
  each = is.each;
}

-- images that have these lengths one by one, and no more, have these lengths
pub have_lengths : (attached : List Image) (lengths : List ℕ) → ((i : ℕ) → i < length lengths → option_map (λ image. image.sectors) (slice_get attached i) ≡ Some (get_or lengths i 0)) →
    option_map (λ image. image.sectors) (slice_get attached (length lengths)) ≡ None → map (λ image. image.sectors) attached ≡ lengths
have_lengths [] [] each over = refl
have_lengths [] (n ∷ lengths) each over = let bad : None ≡ Some n = each 0 (omega arith) in (cc)
have_lengths (image ∷ attached) [] each over = let bad : Some image.sectors ≡ None = over in (cc)
have_lengths (image ∷ attached) (n ∷ lengths) each over =
    let here : Some image.sectors ≡ Some n = each 0 (omega arith) in
    let same : image.sectors ≡ n = (cc) in
    let rest = have_lengths attached lengths (λ i lt. each (suc i) (omega arith)) over in
    ap (λ (k : ℕ). k ∷ map (λ (one : Image). one.sectors) attached) same ∙ ap (λ (l : List ℕ). n ∷ l) rest
