-- How long the text of a plan is at most.
use Rattle.std.proofs.Common.{◌≡◌, ℕ, zero, suc, ◌+◌, ◌*◌, ◌^◌, ◌<◌, ◌≤◌, List, [], ◌∷◌, ◌++◌, Bool, true, false, cond, length, map, codes, decimal, refl, ap, subst, sym, ◌∙◌, arith, All, IfSome, IsSomeAnd, Option, None, Some, slice_get, inl, inr, lit≤, lit<}
use Rattle.std.specs.Prelude.{count_by, ◌==◌}
use Rattle.std.specs.List.{AllByRecursion, flat_map, join_with_byte}
use Rattle.std.proofs.Math.Nat.{mul-le-mul}
use Rattle.std.proofs.lemmas.Bool.{cases_lt}
use Rattle.std.proofs.lemmas.Fmt.{length-decimal-le}
use Rattle.std.proofs.lemmas.List.{length-append, length-map}
use Rattle.std.proofs.lemmas.List.Concat.{flat_map-append}
use Rattle.std.proofs.lemmas.List.Elements.{All-from_recursion, All-head, All-map, All-tail, All-weaker}
use Rattle.std.proofs.lemmas.List.Sums.{sum_by-append, sum_by-cons}
use Rattle.std.proofs.lemmas.Nat.{pow-add}
use Rattle.raid_params.specs.declared.types.Level.{Level}
use Rattle.raid_params.specs.declared.types.Level.TheVariants.{Raid0, Raid5, Raid6}
use Rattle.raid_params.specs.declared.types.Pattern.{Pattern}
use Rattle.raid_params.specs.declared.types.Pattern.TheVariants.{Plain, La, Ra, Ls, Rs, ParityFirst, ParityLast, NRestart, NContinue, La6, Ra6, Ls6, Rs6, ParityFirst6}
use Rattle.raid_params.specs.declared.types.Syndrome.{Syndrome}
use Rattle.raid_params.specs.declared.types.Syndrome.TheVariants.{NoQ, AfterQ, ByData, BySlot}
use Rattle.raid_params.specs.declared.types.Bounds.{Bounds}
use Rattle.mark_kinds.specs.declared.table.GroupKind.{GroupKind}
use Rattle.mark_kinds.specs.declared.table.GroupKind.TheVariants.{Gpt as GptGroup, Ntfs as NtfsGroup, Xfs as XfsGroup, Btrfs as BtrfsGroup, Lvm as LvmGroup, Ext as ExtGroup, Extinode as ExtinodeGroup, Xfs5 as Xfs5Group, Btrfstree as BtrfstreeGroup, Mft as MftGroup}
use Rattle.mark_kinds.specs.declared.table.Kind.{Kind}
use Rattle.mark_kinds.specs.declared.table.Kind.TheVariants.{Gpt, Boot, FileRecord, Super, Agf, Agi, Btrfs, Lvm, Ext, Extinode, Xfs5, Btrfstree, Mft}
use Rattle.mark_kinds.proofs.Counts.{few_in_all}
use Rattle.landmark_rules.specs.Groups.{group_place, kind_place, marks_in, AreGroups, AreMarkBounds, IsMark}
use Rattle.landmark_rules.specs.Rules.{IsRule}
use Rattle.landmark_rules.specs.declared.marks.Group.{Group}
use Rattle.landmark_rules.specs.declared.marks.Mark.{Mark}
use Rattle.landmark_rules.specs.declared.marks.MarkBounds.{MarkBounds}
use Rattle.landmark_rules.specs.declared.marks.MarkTests.{MarkTests}
use Rattle.landmark_rules.specs.declared.marks.Rule.{Rule}
use Rattle.landmark_rules.specs.declared.marks.Rule.TheVariants.{At, Either, Every}
use Rattle.search_plan.specs.Plans.{AreBounds, AreLengths, AreLimits, AreTests}
use Rattle.search_scope.specs.declared.scope.Limits.{Limits}
use Rattle.value_text.specs.Spelling.{level_name, pattern_name, syndrome_name, commas, named, line}
use Rattle.landmark_text.specs.Names.{group_name, kind_name}
use Rattle.value_text.proofs.Fits.{chunks_are_short, chunks_fit, levels_fit, members_fit, patterns_fit, syndromes_fit}
use Rattle.plan_text.specs.PlanText.{bounds_line, bounds_lines, counts_lines, delays_line, delays_lines, group_lines, groups_lines, image_lines, mark_line, mode_line, mode_lines, rule_text, says_more, search_lines, sizes_lines, some_delays, syndromes_line, version_lines, version_number}
use Rattle.survey_job.specs.Laws.{NoPlanIsTooLong}

-- ---- numbers and names

abbrev IsShort : List ℕ → Type 0
IsShort text = length text ≤ 20

short_number : (n : ℕ) → n < 2 ^ 64 → IsShort (decimal n)
short_number n below = length-decimal-le 20 n (lit< tt) (omega (arith, below)) below

-- a number of sectors has 17 digits at most
sectors_short : (n : ℕ) → n < 2 ^ 55 → length (decimal n) ≤ 17
sectors_short n below = length-decimal-le 17 n (lit< tt) (omega (arith, below)) (omega (arith, below))

image_short : (n : ℕ) → n < 24 → length (decimal n) ≤ 2
image_short n below = length-decimal-le 2 n (lit< tt) (omega (arith, below)) (omega (arith, below))

level_short : (x : Level) → IsShort (level_name x)
level_short Raid0 = lit≤ tt
level_short Raid5 = lit≤ tt
level_short Raid6 = lit≤ tt

pattern_short : (x : Pattern) → IsShort (pattern_name x)
pattern_short Plain = lit≤ tt
pattern_short La = lit≤ tt
pattern_short Ra = lit≤ tt
pattern_short Ls = lit≤ tt
pattern_short Rs = lit≤ tt
pattern_short ParityFirst = lit≤ tt
pattern_short ParityLast = lit≤ tt
pattern_short NRestart = lit≤ tt
pattern_short NContinue = lit≤ tt
pattern_short La6 = lit≤ tt
pattern_short Ra6 = lit≤ tt
pattern_short Ls6 = lit≤ tt
pattern_short Rs6 = lit≤ tt
pattern_short ParityFirst6 = lit≤ tt

syndrome_short : (x : Syndrome) → IsShort (syndrome_name x)
syndrome_short NoQ = lit≤ tt
syndrome_short AfterQ = lit≤ tt
syndrome_short ByData = lit≤ tt
syndrome_short BySlot = lit≤ tt

-- a name has 6 bytes at most, and two of them 3 more
abbrev is_kind : ℕ → Kind → ℕ
is_kind place kind = cond (kind_place kind == place) 1 0

kind_short : (kind : Kind) → length (kind_name kind) ≤ 6 + 3 * (is_kind 9 kind + is_kind 11 kind)
kind_short Gpt = lit≤ tt
kind_short Boot = lit≤ tt
kind_short FileRecord = lit≤ tt
kind_short Super = lit≤ tt
kind_short Agf = lit≤ tt
kind_short Agi = lit≤ tt
kind_short Btrfs = lit≤ tt
kind_short Lvm = lit≤ tt
kind_short Ext = lit≤ tt
kind_short Extinode = lit≤ tt
kind_short Xfs5 = lit≤ tt
kind_short Btrfstree = lit≤ tt
kind_short Mft = lit≤ tt

group_short : (kind : GroupKind) → length (group_name kind) ≤ 9
group_short GptGroup = lit≤ tt
group_short NtfsGroup = lit≤ tt
group_short XfsGroup = lit≤ tt
group_short BtrfsGroup = lit≤ tt
group_short LvmGroup = lit≤ tt
group_short ExtGroup = lit≤ tt
group_short ExtinodeGroup = lit≤ tt
group_short Xfs5Group = lit≤ tt
group_short BtrfstreeGroup = lit≤ tt
group_short MftGroup = lit≤ tt

-- ---- lines

abbrev IsShortLine : List ℕ → Type 0
IsShortLine text = length text ≤ 1400

-- pieces and what stands between them
joined : (c : ℕ) (pieces : List (List ℕ)) → All IsShort pieces → length (join_with_byte c pieces) ≤ length pieces * 21
joined c [] all = omega arith
joined c (x ∷ []) all = omega (arith, All-head IsShort x [] all)
joined c (x ∷ y ∷ pieces) all =
    omega (arith, length-append x (c ∷ join_with_byte c (y ∷ pieces)), All-head IsShort x (y ∷ pieces) all, joined c (y ∷ pieces) (All-tail IsShort x (y ∷ pieces) all))

list_line : (name : List ℕ) (pieces : List (List ℕ)) → length name ≤ 10 → length pieces ≤ 64 → All IsShort pieces → IsShortLine (named name (commas pieces))
list_line name pieces short few all = omega (arith, short, few, length-append name (32 ∷ commas pieces), joined 44 pieces all)

number_line : (name : List ℕ) (n : ℕ) → length name ≤ 10 → n < 2 ^ 64 → length (named name (decimal n)) ≤ 31
number_line name n short below = omega (arith, short, length-append name (32 ∷ decimal n), short_number n below)

short_line : (name : List ℕ) (n : ℕ) → length name ≤ 10 → n < 2 ^ 64 → IsShortLine (named name (decimal n))
short_line name n short below = omega (arith, number_line name n short below)

-- a list of values with short names
names_line : {A : Type 0} (name : List ℕ) (spell : A → List ℕ) (xs : List A) → length name ≤ 10 → length xs ≤ 64 → ((x : A) → IsShort (spell x)) → IsShortLine (named name (commas (map spell xs)))
names_line name spell xs short few each =
    list_line name (map spell xs) short (omega (arith, few, length-map xs spell)) (All-map IsShort spell xs (λ k d below. each _))

numbers_line : (name : List ℕ) (ns : List ℕ) → length name ≤ 10 → length ns ≤ 64 → All (λ n. n < 2 ^ 64) ns → IsShortLine (named name (commas (map decimal ns)))
numbers_line name ns short few all =
    list_line name (map decimal ns) short (omega (arith, few, length-map ns decimal)) (All-map IsShort decimal ns (All-weaker (λ n. n < 2 ^ 64) (λ n. IsShort (decimal n)) short_number ns all))

-- lines together
line_long : (text : List ℕ) → length (line text) ≡ length text + 1
line_long text = length-append text (10 ∷ [])

size : List (List ℕ) → ℕ
size lines = length (flat_map line lines)

size_cons : (text : List ℕ) (lines : List (List ℕ)) → size (text ∷ lines) ≡ length text + 1 + size lines
unfolding size
size_cons text lines = omega (arith, length-append (line text) (flat_map line lines), line_long text)

size_append : (some more : List (List ℕ)) → size (some ++ more) ≡ size some + size more
unfolding size
size_append some more = ap length (flat_map-append line some more) ∙ length-append (flat_map line some) (flat_map line more)

size_none : size [] ≡ 0
unfolding size
size_none = refl

size_short : (lines : List (List ℕ)) → All IsShortLine lines → size lines ≤ length lines * 1401
size_short [] all = omega (arith, size_none)
size_short (text ∷ lines) all = omega (arith, size_cons text lines, All-head IsShortLine text lines all, size_short lines (All-tail IsShortLine text lines all))

-- ---- the search

far : (n : ℕ) → n < 2 ^ 55 → n < 2 ^ 64
far n below = omega (arith, below)

all_far : (ns : List ℕ) → All (λ n. n < 2 ^ 55) ns → All (λ n. n < 2 ^ 64) ns
all_far ns all = All-weaker (λ n. n < 2 ^ 55) (λ n. n < 2 ^ 64) far ns all

lengths_short : (lengths : List ℕ) → All (λ n. n < 2 ^ 64) lengths → size (map (λ n. named (codes "length") (decimal n)) lengths) ≤ length lengths * 32
lengths_short [] all = omega (arith, size_none)
lengths_short (n ∷ lengths) all =
    omega (
      arith,
      size_cons (named (codes "length") (decimal n)) (map (λ n. named (codes "length") (decimal n)) lengths),
      number_line (codes "length") n (lit≤ tt) (All-head (λ n. n < 2 ^ 64) n lengths all),
      lengths_short lengths (All-tail (λ n. n < 2 ^ 64) n lengths all),
    )

images_short : (lengths : List ℕ) → AreLengths lengths → size (image_lines lengths) ≤ 800
images_short lengths are =
    let most = are.most in
    omega (
      arith,
      size_cons (named (codes "images") (decimal (length lengths))) (map (λ n. named (codes "length") (decimal n)) lengths),
      number_line (codes "images") (length lengths) (lit≤ tt) (omega arith),
      lengths_short lengths (all_far lengths are.short),
      most,
    )

members_short : (ns : List ℕ) → All (λ n. (2 ≤ n) × (n ≤ 24)) ns → All (λ n. n < 2 ^ 64) ns
members_short ns all = All-weaker (λ n. (2 ≤ n) × (n ≤ 24)) (λ n. n < 2 ^ 64) (λ n is. let top = is.1 in omega arith) ns all

-- with a line of delays and without
abbrev orders_by : Bool → List ℕ → List Syndrome → List (List ℕ)
orders_by b delays syndromes = delays_lines b delays ++ syndromes_line syndromes ∷ []

orders_short : (b : Bool) (delays : List ℕ) (syndromes : List Syndrome) (rest : List (List ℕ)) → IsShortLine (delays_line delays) → AllByRecursion IsShortLine (syndromes_line syndromes ∷ rest) → AllByRecursion IsShortLine (orders_by b delays syndromes ++ rest)
orders_short true delays syndromes rest line all = (line, all)
orders_short false delays syndromes rest line all = all

few_orders : (b : Bool) (delays : List ℕ) (syndromes : List Syndrome) (rest : List (List ℕ)) → length (orders_by b delays syndromes ++ rest) ≤ length rest + 2
few_orders true delays syndromes rest = omega arith
few_orders false delays syndromes rest = omega arith

delays_near : (ns : List ℕ) → All (λ n. (1 ≤ n) × (n ≤ 1024)) ns → All (λ n. n < 2 ^ 64) ns
delays_near ns all = All-weaker (λ n. (1 ≤ n) × (n ≤ 1024)) (λ n. n < 2 ^ 64) (λ n is. let top = is.1 in omega arith) ns all

search_short : (end : ℕ) (bounds : Bounds) (limits : Limits) (tests : MarkTests) → end < 2 ^ 55 → AreBounds bounds → AreLimits limits → AreTests tests → size (search_lines end bounds limits tests) ≤ 15 * 1401
search_short end bounds limits tests near are_bounds are_limits are_tests =
    let levels = levels_fit bounds.levels.items are_bounds.levels in
    let members = members_fit bounds.members.items are_bounds.members are_bounds.few_members in
    let patterns = patterns_fit bounds.patterns.items are_bounds.patterns in
    let syndromes = syndromes_fit bounds.syndromes.items are_bounds.syndromes in
    let chunks = chunks_fit bounds.chunks.items are_bounds.chunks are_bounds.powers in
    let missing = are_bounds.missing in
    let foreign = are_bounds.foreign in
    let few_delays = are_bounds.few_delays in
    let rest = sizes_lines bounds tests ++ counts_lines bounds limits tests in
    let few = few_orders (some_delays bounds.delays.items) bounds.delays.items bounds.syndromes.items rest in
    let short = size_short (search_lines end bounds limits tests)
    (All-from_recursion IsShortLine (search_lines end bounds limits tests) (
      short_line (codes "end") end (lit≤ tt) (far end near),
      (
        names_line (codes "levels") level_name bounds.levels.items (lit≤ tt) (omega arith) level_short,
        (
          numbers_line (codes "members") bounds.members.items (lit≤ tt) (omega arith) (members_short bounds.members.items are_bounds.few_members),
          (
            names_line (codes "patterns") pattern_name bounds.patterns.items (lit≤ tt) (omega arith) pattern_short,
            orders_short (some_delays bounds.delays.items) bounds.delays.items bounds.syndromes.items rest
                (numbers_line (codes "delays") bounds.delays.items (lit≤ tt) (omega arith) (delays_near bounds.delays.items are_bounds.short_delays)) (
                  names_line (codes "syndromes") syndrome_name bounds.syndromes.items (lit≤ tt) (omega arith) syndrome_short,
                  (
                    numbers_line (codes "chunks") bounds.chunks.items (lit≤ tt) (omega arith) (chunks_are_short bounds.chunks.items are_bounds.powers),
                    (
                      numbers_line (codes "offsets") bounds.offsets.items (lit≤ tt) are_bounds.few_offsets (all_far bounds.offsets.items are_bounds.near_offsets),
                      (
                        numbers_line (codes "origins") tests.origins.items (lit≤ tt) are_tests.few_origins (all_far tests.origins.items are_tests.near_origins),
                        (
                          short_line (codes "missing") bounds.missing (lit≤ tt) (omega arith),
                          (
                            short_line (codes "foreign") bounds.foreign (lit≤ tt) (omega arith),
                            (
                              short_line (codes "badrows") limits.badrows (lit≤ tt) (far limits.badrows are_limits.badrows),
                              (
                                short_line (codes "window") limits.window (lit≤ tt) (far limits.window are_limits.window),
                                (
                                  short_line (codes "misfits") tests.misfits (lit≤ tt) (far tests.misfits are_tests.misfits),
                                  (
                                    short_line (codes "least") tests.least (lit≤ tt) (far tests.least are_tests.least),
                                    tt,
                                  ),
                                ),
                              ),
                            ),
                          ),
                        ),
                      ),
                    ),
                  ),
                ),
          ),
        ),
      ),
    )) in
    omega (arith, short, few)

-- ---- marks

-- a factor of such a product, beside one that is not small
beside : (some step count bound : ℕ) → some ≤ step → step * count < 2 ^ 55 → 2 ^ 55 ≤ some * bound → count < bound
beside some step count bound large product most = elim (cases_lt count bound) [
  | inl below ↦ below
  | inr above ↦ (let least : some * bound ≤ step * count = mul-le-mul large above in absurd (omega (arith, least, product, most)))
]

-- where the one of two numbers of such a product has so many digits, the other has as many as are left: together they have 18 at most
digits_below : (k m step count : ℕ) → k + m ≡ 17 → 1 ≤ m → step < 10 ^ (k + 1) → step < 2 ^ 55 → count < 2 ^ 55 → step * count < 2 ^ 55 → length (decimal step) + length (decimal count) ≤ 18
digits_below zero m step count sum some small s c product =
    omega (arith, sum, length-decimal-le 1 step (omega arith) small (far step s), sectors_short count c)
digits_below (suc k) m step count sum some small s c product = elim (cases_lt step (10 ^ (k + 1))) [
  | inl less ↦ digits_below k (m + 1) step count (omega (arith, sum)) (omega arith) less s c product
  | inr more ↦ (let all : (k + 1) + m ≡ 17 = omega (arith, sum) in
      let power : 10 ^ 17 ≡ 10 ^ (k + 1) * 10 ^ m = ap (λ (n : ℕ). 10 ^ n) (sym all) ∙ pow-add 10 (k + 1) m in
      let wide : 2 ^ 55 ≤ 10 ^ (k + 1) * 10 ^ m = subst (λ (n : ℕ). 2 ^ 55 ≤ n) power (lit≤ tt) in
      let other : count < 10 ^ m = beside (10 ^ (k + 1)) step count (10 ^ m) more product wide in
      omega (arith, sum, length-decimal-le (suc k + 1) step (omega arith) small (far step s), length-decimal-le m count (omega (arith, some)) other (far count c)))
]

factors_short : (step count : ℕ) → step < 2 ^ 55 → count < 2 ^ 55 → step * count < 2 ^ 55 → length (decimal step) + length (decimal count) ≤ 18
factors_short step count s c product = digits_below 16 1 step count refl (omega arith) (omega (arith, s)) s c product

rule_short : (rule : Rule) → IsRule rule → length (rule_text rule) ≤ 43
rule_short (At d) is = omega (arith, length-append (codes "at") (58 ∷ decimal d), sectors_short d is)
rule_short (Either d e) is =
    omega (arith, length-append (codes "either") (58 ∷ (decimal d ++ 58 ∷ decimal e)), length-append (decimal d) (58 ∷ decimal e), sectors_short d is.0, sectors_short e is.1)
rule_short (Every step count plus) is =
    omega (
      arith,
      length-append (codes "every") (58 ∷ (decimal step ++ 58 ∷ (decimal count ++ 58 ∷ decimal plus))),
      length-append (decimal step) (58 ∷ (decimal count ++ 58 ∷ decimal plus)),
      length-append (decimal count) (58 ∷ decimal plus),
      factors_short step count is.0 is.1 (omega (arith, is.3)),
      sectors_short plus is.2,
    )

-- a sector of an image
sector_near : (lengths : List ℕ) (i sector : ℕ) → All (λ n. n < 2 ^ 55) lengths → IsSomeAnd (slice_get lengths i) (λ n. sector < n) → sector < 2 ^ 55
sector_near [] i sector all is = absurd is
sector_near (n ∷ lengths) zero sector all is = omega (arith, All-head (λ n. n < 2 ^ 55) n lengths all, is)
sector_near (n ∷ lengths) (suc i) sector all is = sector_near lengths i sector (All-tail (λ n. n < 2 ^ 55) n lengths all) is

mark_short : (lengths : List ℕ) (kind : GroupKind) (mark : Mark) → All (λ n. n < 2 ^ 55) lengths → IsMark lengths kind mark → length (mark_line mark) ≤ 76 + 3 * (is_kind 9 mark.kind + is_kind 11 mark.kind)
mark_short lengths kind mark all is =
    let image = decimal mark.image in
    let sector = decimal mark.sector in
    let rule = rule_text mark.rule in
    omega (
      arith,
      length-append (codes "mark") (32 ∷ (kind_name mark.kind ++ 32 ∷ (image ++ 32 ∷ (sector ++ 32 ∷ rule)))),
      length-append (kind_name mark.kind) (32 ∷ (image ++ 32 ∷ (sector ++ 32 ∷ rule))),
      length-append image (32 ∷ (sector ++ 32 ∷ rule)),
      length-append sector (32 ∷ rule),
      kind_short mark.kind,
      image_short mark.image is.image,
      sectors_short mark.sector (sector_near lengths mark.image mark.sector all is.sector),
      rule_short mark.rule is.rule,
    )

-- the most bytes of the lines of marks: 77 of each, and 3 more where its name is long
marks_size : List Mark → ℕ
marks_size marks = length marks * 77 + 3 * (count_by (λ (m : Mark). kind_place m.kind == 9) marks + count_by (λ (m : Mark). kind_place m.kind == 11) marks)

marks_join : (some more : List Mark) → marks_size (some ++ more) ≡ marks_size some + marks_size more
unfolding marks_size
marks_join some more = omega (arith, length-append some more, sum_by-append (λ (m : Mark). is_kind 9 m.kind) some more, sum_by-append (λ (m : Mark). is_kind 11 m.kind) some more)

marks_short : (lengths : List ℕ) (kind : GroupKind) (marks : List Mark) → All (λ n. n < 2 ^ 55) lengths → All (IsMark lengths kind) marks → size (map mark_line marks) ≤ marks_size marks
unfolding marks_size
marks_short lengths kind [] all are = omega (arith, size_none)
marks_short lengths kind (mark ∷ marks) all are =
    omega (
      arith,
      size_cons (mark_line mark) (map mark_line marks),
      sum_by-cons (λ (m : Mark). is_kind 9 m.kind) mark marks,
      sum_by-cons (λ (m : Mark). is_kind 11 m.kind) mark marks,
      mark_short lengths kind mark all (All-head (IsMark lengths kind) mark marks are),
      marks_short lengths kind marks all (All-tail (IsMark lengths kind) mark marks are),
    )

-- ---- groups

abbrev HasMarks : List ℕ → Group → Type 0
HasMarks lengths group = All (IsMark lengths group.kind) group.marks

abbrev HasBounds : Group → Type 0
HasBounds group = IfSome group.bounds AreMarkBounds

bounds_size : (bounds : Option MarkBounds) → IfSome bounds AreMarkBounds → size (bounds_lines bounds) ≤ 43
bounds_size None are = omega (arith, size_none)
bounds_size (Some bounds) are =
    omega (
      arith,
      size_cons (bounds_line bounds) [],
      size_none,
      length-append (codes "bounds") (32 ∷ (decimal bounds.misfits ++ 32 ∷ decimal bounds.least)),
      length-append (decimal bounds.misfits) (32 ∷ decimal bounds.least),
      sectors_short bounds.misfits are.misfits,
      sectors_short bounds.least are.least,
    )

group_size : (lengths : List ℕ) (group : Group) → All (λ n. n < 2 ^ 55) lengths → HasMarks lengths group → HasBounds group → size (group_lines group) ≤ 66 + marks_size group.marks
group_size lengths group all are bound =
    omega (
      arith,
      size_cons (named (codes "group") (group_name group.kind)) (bounds_lines group.bounds ++ map mark_line group.marks),
      size_append (bounds_lines group.bounds) (map mark_line group.marks),
      length-append (codes "group") (32 ∷ group_name group.kind),
      group_short group.kind,
      bounds_size group.bounds bound,
      marks_short lengths group.kind group.marks all are,
    )

no_marks : 0 ≤ marks_size []
no_marks = omega arith

groups_size : (lengths : List ℕ) (groups : List Group) → All (λ n. n < 2 ^ 55) lengths → All (HasMarks lengths) groups → All HasBounds groups → size (flat_map group_lines groups) ≤ length groups * 66 + marks_size (marks_in groups)
groups_size lengths [] all are bound = omega (arith, size_none, no_marks)
groups_size lengths (group ∷ groups) all are bound =
    omega (
      arith,
      size_append (group_lines group) (flat_map group_lines groups),
      marks_join group.marks (marks_in groups),
      group_size lengths group all (All-head (HasMarks lengths) group groups are) (All-head HasBounds group groups bound),
      groups_size lengths groups all (All-tail (HasMarks lengths) group groups are) (All-tail HasBounds group groups bound),
    )

abbrev is_at : ℕ → Group → Bool
is_at n group = group_place group.kind == n

one_of : (kind : GroupKind) →
    1 ≤ cond (group_place kind == 0) 1 0 + cond (group_place kind == 1) 1 0 + cond (group_place kind == 2) 1 0 + cond (group_place kind == 3) 1 0 + cond (group_place kind == 4) 1 0 + cond (group_place kind == 5) 1 0 + cond (group_place kind == 6) 1 0 + cond (group_place kind == 7) 1 0 + cond (group_place kind == 8) 1 0 + cond (group_place kind == 9) 1 0
one_of GptGroup = lit≤ tt
one_of NtfsGroup = lit≤ tt
one_of XfsGroup = lit≤ tt
one_of BtrfsGroup = lit≤ tt
one_of LvmGroup = lit≤ tt
one_of ExtGroup = lit≤ tt
one_of ExtinodeGroup = lit≤ tt
one_of Xfs5Group = lit≤ tt
one_of BtrfstreeGroup = lit≤ tt
one_of MftGroup = lit≤ tt

-- each group is at the place of its kind
in_all : (groups : List Group) →
    length groups ≤ count_by (is_at 0) groups + count_by (is_at 1) groups + count_by (is_at 2) groups + count_by (is_at 3) groups + count_by (is_at 4) groups + count_by (is_at 5) groups + count_by (is_at 6) groups + count_by (is_at 7) groups + count_by (is_at 8) groups + count_by (is_at 9) groups
in_all [] = omega arith
in_all (group ∷ groups) =
    omega (
      arith,
      sum_by-cons (λ g. cond (is_at 0 g) 1 0) group groups,
      sum_by-cons (λ g. cond (is_at 1 g) 1 0) group groups,
      sum_by-cons (λ g. cond (is_at 2 g) 1 0) group groups,
      sum_by-cons (λ g. cond (is_at 3 g) 1 0) group groups,
      sum_by-cons (λ g. cond (is_at 4 g) 1 0) group groups,
      sum_by-cons (λ g. cond (is_at 5 g) 1 0) group groups,
      sum_by-cons (λ g. cond (is_at 6 g) 1 0) group groups,
      sum_by-cons (λ g. cond (is_at 7 g) 1 0) group groups,
      sum_by-cons (λ g. cond (is_at 8 g) 1 0) group groups,
      sum_by-cons (λ g. cond (is_at 9 g) 1 0) group groups,
      one_of group.kind,
      in_all groups,
    )

few_groups : (lengths : List ℕ) (groups : List Group) → AreGroups lengths groups → length groups ≤ 320
few_groups lengths groups are =
    omega (arith, in_all groups, are.few GptGroup, are.few NtfsGroup, are.few XfsGroup, are.few BtrfsGroup, are.few LvmGroup, are.few ExtGroup, are.few ExtinodeGroup, are.few Xfs5Group, are.few BtrfstreeGroup, are.few MftGroup)

few_marks : (lengths : List ℕ) (groups : List Group) → AreGroups lengths groups → length (marks_in groups) ≤ 13 * 4096
few_marks lengths groups are = few_in_all (λ (mark : Mark). mark.kind) 4096 (marks_in groups) are.few_marks

groups_short : (lengths : List ℕ) (groups : List Group) → All (λ n. n < 2 ^ 55) lengths → AreGroups lengths groups → size (groups_lines groups) ≤ 320 * 66 + 13 * 4096 * 77 + 3 * (2 * 4096) + 5
unfolding marks_size
groups_short lengths groups all are =
    omega (
      arith,
      size_append (flat_map group_lines groups) (codes "done" ∷ []),
      size_cons (codes "done") [],
      size_none,
      groups_size lengths groups all are.marks are.bounds,
      few_groups lengths groups are,
      few_marks lengths groups are,
      are.few_marks Extinode,
      are.few_marks Btrfstree,
    )

-- ---- the plan

version_small : (each third : Bool) → version_number each third < 2 ^ 64
version_small each true = lit< tt
version_small true false = lit< tt
version_small false false = lit< tt

mode_short : (each : Bool) → length (mode_line each) ≤ 11
mode_short true = lit≤ tt
mode_short false = lit≤ tt

mode_size : (each third : Bool) → size (mode_lines each third) ≤ 12
mode_size each true = omega (arith, size_cons (mode_line each) [], size_none, mode_short each)
mode_size each false = omega (arith, size_none)

version_size : (each third : Bool) → size (version_lines each third) ≤ 53
version_size each third =
    omega (
      arith,
      size_cons (named (codes "reraid-plan") (decimal (version_number each third))) (mode_lines each third),
      length-append (codes "reraid-plan") (32 ∷ decimal (version_number each third)),
      short_number (version_number each third) (version_small each third),
      mode_size each third,
    )

end_near : (lengths : List ℕ) (end : ℕ) → AreLengths lengths → All (λ n. end ≤ n) lengths → end < 2 ^ 55
end_near [] end are all = let some = are.some in absurd (omega arith)
end_near (n ∷ lengths) end are all = omega (arith, All-head (λ n. n < 2 ^ 55) n lengths are.short, All-head (λ n. end ≤ n) n lengths all)

pub no_plan_is_too_long : NoPlanIsTooLong
unfolding size
no_plan_is_too_long plan is =
    let images = image_lines plan.lengths.items in
    let search = search_lines plan.end plan.bounds plan.limits plan.tests in
    let groups = groups_lines plan.groups in
    let third = says_more (some_delays plan.bounds.delays.items) plan.groups in
    omega (
      arith,
      size_append (version_lines plan.each third) (images ++ (search ++ groups)),
      size_append images (search ++ groups),
      size_append search groups,
      version_size plan.each third,
      images_short plan.lengths.items is.lengths,
      search_short plan.end plan.bounds plan.limits plan.tests (end_near plan.lengths.items plan.end is.lengths is.ends) is.bounds is.limits is.tests,
      groups_short plan.lengths.items plan.groups is.lengths.short is.groups,
    )
