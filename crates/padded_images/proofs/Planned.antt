-- The plan of padded images is a plan.
use Rattle.std.proofs.Common.{◌≡◌, ℕ, ◌+◌, ◌^◌, ◌≤◌, ◌<◌, ◌==◌, List, [], ◌∷◌, map, slice_get, All, IfSome, IsSomeAnd, Some, None, refl, sym, ap, subst, cond, arith}
use Rattle.std.proofs.lemmas.List.Elements.{All-nil, All-cons, All-head, All-tail, All-weaker, All-map}
use Rattle.std.proofs.lemmas.List.Sorted.{All-permutation, sum_by-IsPermutation}
use Rattle.std.proofs.lemmas.List.Sums.{sum_by-cons, sum_by-append}
use Rattle.std.specs.List.{sum_by}
use Rattle.std.specs.List.Sorted.{IsNonDecreasing, IsStrictlyIncreasing}
use Rattle.std.specs.Option.{option_map}
use Rattle.std.specs.declared.option.Option.{Option}
use Rattle.landmark_rules.specs.Groups.{AreGroups, AreMarkBounds, IsMark, group_place, kind_place, mark_place, marks_in}
use Rattle.landmark_rules.specs.declared.marks.Group.{Group}
use Rattle.landmark_rules.specs.declared.marks.Mark.{Mark}
use Rattle.image_padding.specs.Padded.{greatest_base, padding}
use Rattle.padded_images.specs.Plans.{in_order, lengths_to, padded_group, padded_mark, padded_marks, padded_plan}
use Rattle.image_padding.proofs.Images.{fold_below}
use Rattle.padded_images.proofs.Lengths.{as_many, grown, there}
use Rattle.padded_images.proofs.Marks.{few_images}
use Rattle.padded_images.proofs.Order.{order_permutes, order_rises, rising_from}
use Rattle.raid_params.specs.declared.limits.TheConstants.{MOST}
use Rattle.search_plan.specs.Plans.{IsPlan}
use Rattle.search_plan.specs.declared.plan.Plan.{Plan}

sum_map : {X : Type 0} (f : X → ℕ) (g : X → X) → ((x : X) → f (g x) ≡ f x) → (xs : List X) → sum_by f (map g xs) ≡ sum_by f xs
sum_map f g same [] = refl
sum_map f g same (x ∷ xs) =
    let one = sum_by-cons f (g x) (map g xs) in
    let other = sum_by-cons f x xs in
    let here = same x in
    let rest = sum_map f g same xs in
    omega (arith, one, other, here, rest)

sum_marks : (f : Mark → ℕ) (bases : List ℕ) → ((m : Mark) → f (padded_mark bases m) ≡ f m) → (groups : List Group) → sum_by f (marks_in (map (padded_group bases) groups)) ≡ sum_by f (marks_in groups)
sum_marks f bases same [] = refl
sum_marks f bases same (g ∷ groups) =
    let unsorted = map (padded_mark bases) g.marks in
    let one = sum_by-append f (in_order unsorted) (marks_in (map (padded_group bases) groups)) in
    let other = sum_by-append f g.marks (marks_in groups) in
    let ordered = sum_by-IsPermutation f unsorted (in_order unsorted) (order_permutes unsorted) in
    let here = sum_map f (padded_mark bases) same g.marks in
    let rest = sum_marks f bases same groups in
    omega (arith, one, other, ordered, here, rest)

kinds_same : (bases : List ℕ) (groups : List Group) → map (λ group. group_place group.kind) (map (padded_group bases) groups) ≡ map (λ (group : Group). group_place group.kind) groups
kinds_same bases [] = refl
kinds_same bases (g ∷ groups) = ap (λ (rest : List ℕ). group_place g.kind ∷ rest) (kinds_same bases groups)

raised : (more sector : ℕ) (length : Option ℕ) → IsSomeAnd length (λ n. sector < n) → IsSomeAnd (option_map (λ n. more + n) length) (λ n. more + sector < n)
raised more sector None is = is
raised more sector (Some n) is = omega (arith, is)

group_marks : (bases lengths : List ℕ) (g : Group) → All (IsMark lengths g.kind) g.marks → All (IsMark (lengths_to (greatest_base bases) bases lengths) g.kind) (padded_marks bases g.marks)
group_marks bases lengths g all =
    let grown_lengths = lengths_to (greatest_base bases) bases lengths in
    let unsorted = map (padded_mark bases) g.marks in
    All-permutation (IsMark grown_lengths g.kind) unsorted (in_order unsorted) (order_permutes unsorted)
    (All-map (IsMark grown_lengths g.kind) (padded_mark bases) g.marks
    (All-weaker (IsMark lengths g.kind) (λ m. IsMark grown_lengths g.kind (padded_mark bases m)) (λ m is. record {
      kind_of = is.kind_of;
      image = is.image;
      sector = subst (λ (n : Option ℕ). IsSomeAnd n (λ k. padding bases m.image + m.sector < k)) (sym (there (greatest_base bases) bases lengths m.image)) (raised (padding bases m.image) m.sector (slice_get lengths m.image) is.sector);
      rule = is.rule;
    }) g.marks all))

groups_rise : (bases : List ℕ) (groups : List Group) → All (λ group. IsStrictlyIncreasing (map mark_place group.marks)) groups → All (λ group. All (λ mark. mark.image < MOST) group.marks) groups → All (λ group. IsStrictlyIncreasing (map mark_place group.marks)) (map (padded_group bases) groups)
groups_rise bases [] rising few = All-nil (λ (group : Group). IsStrictlyIncreasing (map mark_place group.marks))
groups_rise bases (g ∷ groups) rising few =
    let Rising : Group → Type 0 = λ group. IsStrictlyIncreasing (map mark_place group.marks) in
    let Few : Group → Type 0 = λ group. All (λ mark. mark.image < MOST) group.marks in
    All-cons Rising (padded_group bases g) (map (padded_group bases) groups)
    (rising_from (padded_marks bases g.marks) (order_rises bases g.marks (All-head Rising g groups rising) (All-head Few g groups few)))
    (groups_rise bases groups (All-tail Rising g groups rising) (All-tail Few g groups few))

are_groups : (bases lengths : List ℕ) (groups : List Group) → AreGroups lengths groups → AreGroups (lengths_to (greatest_base bases) bases lengths) (map (padded_group bases) groups)
are_groups bases lengths groups are = record {
  order = subst IsNonDecreasing (sym (kinds_same bases groups)) are.order;
  few = λ kind. let same = sum_map (λ (g : Group). cond (group_place g.kind == group_place kind) 1 0) (padded_group bases) (λ g. refl) groups in let few = are.few kind in omega (arith, same, few);
  marks = All-map (λ g. All (IsMark (lengths_to (greatest_base bases) bases lengths) g.kind) g.marks) (padded_group bases) groups
      (All-weaker (λ (g : Group). All (IsMark lengths g.kind) g.marks) (λ g. All (IsMark (lengths_to (greatest_base bases) bases lengths) g.kind) (padded_marks bases g.marks)) (λ g all. group_marks bases lengths g all) groups are.marks);
  rising = groups_rise bases groups are.rising (few_images lengths groups are.marks);
  bounds = All-map (λ (g : Group). IfSome g.bounds AreMarkBounds) (padded_group bases) groups are.bounds;
  few_marks = λ kind. let same = sum_marks (λ (m : Mark). cond (kind_place m.kind == kind_place kind) 1 0) bases (λ m. refl) groups in let few = are.few_marks kind in omega (arith, same, few);
}

pub is_plan : (bases : List ℕ) (plan padded : Plan) → padded ≡ padded_plan bases plan → IsPlan plan → All (λ base. base < 2 ^ 54) bases → All (λ n. n < 2 ^ 54) plan.lengths.items → IsPlan padded
is_plan bases plan padded same is near short =
    let greatest = greatest_base bases in
    let small = fold_below (2 ^ 54) 0 bases (omega arith) near in
    let lengths = plan.lengths.items in
    let many = as_many greatest bases lengths in
    let some = is.lengths.some in
    let most = is.lengths.most in
    subst IsPlan (sym same) (record {
      lengths = record {
        some = omega (arith, many, some);
        most = omega (arith, many, most);
        short = grown (λ n. n < 2 ^ 54) (λ n. n < 2 ^ 55) greatest bases lengths (λ more n le h. omega (arith, le, h, small)) short;
      };
      ends = grown (λ n. plan.end ≤ n) (λ n. plan.end ≤ n) greatest bases lengths (λ more n le h. omega (arith, h)) is.ends;
      bounds = is.bounds;
      limits = is.limits;
      tests = is.tests;
      groups = are_groups bases lengths plan.groups is.groups;
      each = λ own. cc;
    })
