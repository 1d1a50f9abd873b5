-- The lines of plans: those before the groups are of one plan alone, and none has a line feed.
use Rattle.std.proofs.Common.{◌≡◌, ◌<◌, ◌≤◌, ◌^◌, ℕ, Bool, List, [], ◌∷◌, ◌++◌, All, drop, get_or, length, map, codes, decimal, refl, sym, ap, subst, ◌∙◌, ◌||◌, arith, append_assoc, append-nil, inl, inr, min, true, false, lit<, Some}
use Rattle.std.specs.List.{flat_map}
use Rattle.std.proofs.lemmas.List.{append_cancel_left}
use Rattle.std.proofs.lemmas.List.Elements.{All-head, All-tail, All-nil, All-cons}
use Rattle.landmark_rules.specs.declared.marks.Group.{Group}
use Rattle.landmark_rules.specs.Groups.{AreGroups}
use Rattle.mark_kinds.specs.declared.table.GroupKind.TheVariants.{Gpt as GptGroup}
use Rattle.search_plan.specs.declared.plan.Plan.{Plan}
use Rattle.search_plan.specs.Plans.{AreLengths, IsPlan}
use Rattle.plan_text.specs.declared.parts.Search.{Search}
use Rattle.value_text.specs.NameLaws.{number_law}
use Rattle.plan_text.specs.Parts.{AreImages, IsSearch, lines_of_search, sectors_end}
use Rattle.plan_text.specs.PlanText.{group_lines, groups_lines, image_lines, plan_lines, says_more, some_bounds, some_delays, version_lines}
use Rattle.plan_text.specs.declared.version.Version.{Version}
use Rattle.plan_text.specs.Drafts.{AreGroupsWith}
use Rattle.plan_text.proofs.DelayLines.{once_of}
use Rattle.plan_text.proofs.GroupSteps.{are_no_bounds, are_spelled, no_bounds, or_true}
use Rattle.plan_text.proofs.GroupRules.{no_groups, one_group}
use Rattle.plan_text.proofs.Grouping.{AreSpelled, goes, group_with}
use Rattle.plan_text.proofs.ImageLines.{Lengths, are_images as images_of, images_line, length_line, same_count}
use Rattle.plan_text.proofs.Refusals.{StandsIn}
use Rattle.plan_text.proofs.SearchLines.{delayed_in, is_search_of_none, same_search, search_of_none}
use Rattle.plan_text.proofs.Versions.{lines_of_version, movable, near_offsets, own_images, same_version, short_lengths, some_sectors, version_with}

abbrev Same : ℕ → ℕ → Type 0
Same m n = m ≡ n

abbrev IsShort : ℕ → Type 0
IsShort n = n < 2 ^ 55

-- as many lengths have the same lines only where they are the same
same_lengths : (ls ms : List ℕ) (x y : List (List ℕ)) → All IsShort ls → All IsShort ms → length ls ≡ length ms → map length_line ls ++ x ≡ map length_line ms ++ y → (ls ≡ ms) × (x ≡ y)
same_lengths [] [] x y p q many e = (refl, e)
same_lengths [] (m ∷ ms) x y p q many e = absurd (omega arith)
same_lengths (l ∷ ls) [] x y p q many e = absurd (omega arith)
same_lengths (l ∷ ls) (m ∷ ms) x y p q many e =
    let first : length_line l ≡ length_line m = ap (λ (xs : List (List ℕ)). get_or xs 0 []) e in
    let others : map length_line ls ++ x ≡ map length_line ms ++ y = ap (λ (xs : List (List ℕ)). drop 1 xs) e in
    let small_l = All-head IsShort l ls p in
    let small_m = All-head IsShort m ms q in
    let same : l ≡ m = number_law.one_value l m (omega arith) (omega arith) (append_cancel_left (codes "length ") (decimal l) (decimal m) first) in
    let more = same_lengths ls ms x y (All-tail IsShort l ls p) (All-tail IsShort m ms q) (omega arith) others in
    let tail : ls ≡ ms = more.0 in
    (cc, more.1)

pub same_images : (ls ms : List ℕ) (x y : List (List ℕ)) → AreLengths ls → AreLengths ms → image_lines ls ++ x ≡ image_lines ms ++ y → (ls ≡ ms) × (x ≡ y)
same_images ls ms x y p q e =
    let count : images_line (length ls) ≡ images_line (length ms) = ap (λ (xs : List (List ℕ)). get_or xs 0 []) e in
    same_lengths ls ms x y p.short q.short (same_count (length ls) (length ms) p.most q.most count) (ap (λ (xs : List (List ℕ)). drop 1 xs) e)

-- a plan of parts, and the parts of a plan
abbrev pub plan_of : Bool → Lengths → Search → List Group → Plan
plan_of each lengths search groups = record {
  lengths = lengths;
  end = search.end;
  bounds = search.bounds;
  limits = search.limits;
  tests = search.tests;
  groups = groups;
  each = each;
}

abbrev pub search_of : Plan → Search
search_of plan = record { end = plan.end; bounds = plan.bounds; limits = plan.limits; tests = plan.tests }

-- a number is at most the shortest of lengths
abbrev pub IsShortest : List ℕ → ℕ → Type 0
IsShortest lengths shortest = (n : ℕ) → (n ≤ shortest → All (λ m. n ≤ m) lengths) × (All (λ m. n ≤ m) lengths → n ≤ shortest)

pub is_plan : (each third : Bool) (lengths : Lengths) (shortest : ℕ) (search : Search) (groups : List Group) → AreImages each lengths.items → IsShortest lengths.items shortest → IsSearch shortest each third search → AreGroups lengths.items groups → IsPlan (plan_of each lengths search groups)
is_plan each third lengths shortest search groups p least q r = record {
  lengths = p.0;
  ends = (least search.end).0 q.ends;
  bounds = q.bounds;
  limits = q.limits;
  tests = q.tests;
  groups = r;
  each = movable each lengths.items search.bounds p.1 q.foreign q.near;
}

-- a plan has more to say than versions 1 and 2 can
abbrev pub third_of : Plan → Bool
third_of plan = says_more (some_delays plan.bounds.delays.items) plan.groups

pub is_search : (shortest : ℕ) (third : Bool) (plan : Plan) → third_of plan ≡ third → IsShortest plan.lengths.items shortest → IsPlan plan → IsSearch shortest plan.each third (search_of plan)
is_search shortest third plan version least is = record {
  ends = (least plan.end).1 is.ends;
  bounds = is.bounds;
  limits = is.limits;
  tests = is.tests;
  once = once_of (some_delays plan.bounds.delays.items) (some_bounds plan.groups) third version;
  foreign = own_images plan.each plan.lengths.items plan.bounds is.bounds is.each;
  near = near_offsets plan.each plan.lengths.items plan.bounds is.bounds is.each;
}

pub are_images : (plan : Plan) → IsPlan plan → AreImages plan.each plan.lengths.items
are_images plan is = (is.lengths, short_lengths plan.each plan.lengths.items plan.bounds is.lengths is.each)

-- groups of which one has bounds of its own, and none
pub example : Bool → List Group
example false = []
example true = group_with GptGroup (Some no_bounds) [] ∷ []

pub are_example : (third delayed : Bool) (lengths : List ℕ) → (third ≡ false → delayed ≡ false) → AreGroupsWith third delayed lengths (example third)
unfolding example
are_example false delayed lengths once = (no_groups lengths, ap (λ (b : Bool). b || false) (once refl))
are_example true delayed lengths once = (one_group lengths GptGroup (Some no_bounds) are_no_bounds (lit< tt), or_true delayed)

least_of : (ls : List ℕ) → 1 ≤ length ls → (n : ℕ) × IsShortest ls n
least_of [] some = absurd (omega arith)
least_of (l ∷ []) some = (l, λ n. (λ le. All-cons (λ m. n ≤ m) l [] le (All-nil (λ m. n ≤ m)), λ all. All-head (λ m. n ≤ m) l [] all))
least_of (l ∷ m ∷ ms) some =
    let more = least_of (m ∷ ms) (omega arith) in (
      min l more.0,
      λ n. (
        λ le. All-cons (λ k. n ≤ k) l (m ∷ ms) (omega arith) ((more.1 n).0 (omega arith)),
        λ all. (let a = All-head (λ k. n ≤ k) l (m ∷ ms) all in let b = (more.1 n).1 (All-tail (λ k. n ≤ k) l (m ∷ ms) all) in omega arith),
      ),
    )

-- groups go on after no last line
pub one_end : (x y : List Group) (m : List ℕ) (more : List (List ℕ)) → All AreSpelled x → All AreSpelled y → groups_lines x ≡ groups_lines y ++ m ∷ more → ⊥
one_end x y m more p q e =
    elim (goes y x (codes "done" ∷ m ∷ more) q p (e ∙ append_assoc (flat_map group_lines y) (codes "done" ∷ []) (m ∷ more))) [
      | inl h ↦ (let many = ap length h.1 in absurd (omega arith))
      | inr h ↦ elim h [
        | inl g ↦ (let first : Same 100 103 = ap (λ (ls : List (List ℕ)). get_or (get_or ls 0 []) 0 0) g.6 in absurd (omega arith))
        | inr g ↦ elim g [
          | inl b ↦ (let first : Same 100 98 = ap (λ (ls : List (List ℕ)). get_or (get_or ls 0 []) 0 0) b.8 in absurd (omega arith))
          | inr m ↦ (let first : Same 100 109 = ap (λ (ls : List (List ℕ)). get_or (get_or ls 0 []) 0 0) m.8 in absurd (omega arith))
        ]
      ]
    ]

-- and have one spelling
pub same_groups : (x y : List Group) → All AreSpelled x → All AreSpelled y → groups_lines x ≡ groups_lines y → x ≡ y
same_groups x y p q e =
    elim (goes y x (codes "done" ∷ []) q p e) [
      | inl h ↦ h.0
      | inr h ↦ elim h [
        | inl g ↦ (let first : Same 100 103 = ap (λ (ls : List (List ℕ)). get_or (get_or ls 0 []) 0 0) g.6 in absurd (omega arith))
        | inr g ↦ elim g [
          | inl b ↦ (let first : Same 100 98 = ap (λ (ls : List (List ℕ)). get_or (get_or ls 0 []) 0 0) b.8 in absurd (omega arith))
          | inr m ↦ (let first : Same 100 109 = ap (λ (ls : List (List ℕ)). get_or (get_or ls 0 []) 0 0) m.8 in absurd (omega arith))
        ]
      ]
    ]

one_image : (each : Bool) → AreImages each (0 ∷ [])
one_image each = images_of each (0 ∷ []) 1 refl (omega arith) (omega arith) (All-cons (λ n. n < sectors_end each) 0 [] (some_sectors each) (All-nil (λ n. n < sectors_end each)))

-- the lines of a plan of parts
pub lines_of_parts : (each third : Bool) (lengths : Lengths) (search : Search) (groups : List Group) → says_more (delayed_in search) groups ≡ third →
    plan_lines (plan_of each lengths search groups) ≡ version_lines each third ++ (image_lines lengths.items ++ (lines_of_search search ++ groups_lines groups))
lines_of_parts each third lengths search groups is =
    ap (λ (b : Bool). version_lines each b ++ (image_lines lengths.items ++ (lines_of_search search ++ groups_lines groups))) is

-- the parts of a plan's text, each refused in the plan
pub stands_images : (each third : Bool) → StandsIn {X = Lengths} (λ xs. AreImages each xs.items) (λ xs. image_lines xs.items) IsPlan plan_lines (version_lines each third)
stands_images each third = record {
  made = λ x p.
      let least = least_of x.items p.0.some in
      let search = is_search_of_none least.0 each third in
      let groups = are_example third (delayed_in search_of_none) x.items search.once in (
        plan_of each x search_of_none (example third),
        lines_of_search search_of_none ++ groups_lines (example third),
        is_plan each third x least.0 search_of_none (example third) p least.1 search groups.0,
        lines_of_parts each third x search_of_none (example third) groups.1,
      );
  shape = λ w tail is e.
      let same = same_version w.each (third_of w) each third _ tail e in
      (w.lengths, _, subst (λ (b : Bool). AreImages b w.lengths.items) same.0 (are_images w is), sym same.2);
  apart = λ x y m more p q e. let same = (same_images x.items y.items [] (m ∷ more) p.0 q.0 (append-nil (image_lines x.items) ∙ e)).1 in let many = ap length same in absurd (omega arith);
}

pub stands_version : StandsIn (λ (version : Version). Unit {0}) lines_of_version IsPlan plan_lines []
stands_version = record {
  made = λ version p. let made = (stands_images version.each version.third).made (record { items = 0 ∷ [] }) (one_image version.each) in (made.0, image_lines (0 ∷ []) ++ made.1, made.2, made.3);
  shape = λ w tail is e. (version_with w.each (third_of w), _, tt, sym e);
  apart = λ x y m more p q e. (
      let same = same_version x.each x.third y.each y.third [] (m ∷ more) (append-nil (lines_of_version x) ∙ e) in
      let many = ap length same.2 in
      absurd (omega arith)
      );
}

pub stands_search : (each third : Bool) (lengths : Lengths) (shortest : ℕ) → AreImages each lengths.items → IsShortest lengths.items shortest → StandsIn (IsSearch shortest each third) lines_of_search IsPlan plan_lines (version_lines each third ++ image_lines lengths.items)
stands_search each third lengths shortest p least = record {
  made = λ x q.
      let groups = are_example third (delayed_in x) lengths.items q.once in (
        plan_of each lengths x (example third),
        groups_lines (example third),
        is_plan each third lengths shortest x (example third) p least q groups.0,
        lines_of_parts each third lengths x (example third) groups.1 ∙ sym (append_assoc (version_lines each third) (image_lines lengths.items) (lines_of_search x ++ groups_lines (example third))),
      );
  shape = λ w tail is e.
      let same = same_version w.each (third_of w) each third _ (image_lines lengths.items ++ tail) (e ∙ append_assoc (version_lines each third) (image_lines lengths.items) tail) in
      let both = same_images w.lengths.items lengths.items (lines_of_search (search_of w) ++ groups_lines w.groups) tail is.lengths p.0 same.2 in
      let least_w : IsShortest w.lengths.items shortest = subst (λ (ls : List ℕ). IsShortest ls shortest) (sym both.0) least in
      (search_of w, groups_lines w.groups, subst (λ (b : Bool). IsSearch shortest b third (search_of w)) same.0 (is_search shortest third w same.1 least_w is), sym both.1);
  apart = λ x y m more p q e.
      let same = (same_search x y [] (m ∷ more) (append-nil (lines_of_search x) ∙ e)).2 in
      let none = ap length same in
      absurd (omega arith);
}

all_lines : (each third : Bool) (lengths : Lengths) (search : Search) (rest : List (List ℕ)) → version_lines each third ++ (image_lines lengths.items ++ (lines_of_search search ++ rest)) ≡ (version_lines each third ++ (image_lines lengths.items ++ lines_of_search search)) ++ rest
all_lines each third lengths search rest =
    ap (λ (ls : List (List ℕ)). version_lines each third ++ ls) (sym (append_assoc (image_lines lengths.items) (lines_of_search search) rest))
    ∙ sym (append_assoc (version_lines each third) (image_lines lengths.items ++ lines_of_search search) rest)

pub stands_groups : (each third : Bool) (lengths : Lengths) (shortest : ℕ) (search : Search) → AreImages each lengths.items → IsShortest lengths.items shortest → IsSearch shortest each third search →
    StandsIn (AreGroupsWith third (delayed_in search) lengths.items) groups_lines IsPlan plan_lines (version_lines each third ++ (image_lines lengths.items ++ lines_of_search search))
stands_groups each third lengths shortest search p least q = record {
  made = λ x r. (
    plan_of each lengths search x,
    [],
    is_plan each third lengths shortest search x p least q r.0,
    lines_of_parts each third lengths search x r.1 ∙ all_lines each third lengths search (groups_lines x) ∙ ap (λ (ls : List (List ℕ)). (version_lines each third ++ (image_lines lengths.items ++ lines_of_search search)) ++ ls) (sym (append-nil (groups_lines x))),
  );
  shape = λ w tail is e.
      let same = same_version w.each (third_of w) each third _ (image_lines lengths.items ++ (lines_of_search search ++ tail)) (e ∙ sym (all_lines each third lengths search tail)) in
      let both = same_images w.lengths.items lengths.items (lines_of_search (search_of w) ++ groups_lines w.groups) (lines_of_search search ++ tail) is.lengths p.0 same.2 in
      let rest = same_search (search_of w) search (groups_lines w.groups) tail both.1 in
      let says : says_more (delayed_in search) w.groups ≡ third = ap (λ (b : Bool). says_more b w.groups) (sym rest.0) ∙ same.1 in
      (w.groups, [], (subst (λ (ls : List ℕ). AreGroups ls w.groups) both.0 is.groups, says), sym rest.2 ∙ sym (append-nil (groups_lines w.groups)));
  apart = λ x y m more r s e. one_end x y m more (are_spelled lengths.items x p.0 r.0) (are_spelled lengths.items y p.0 s.0) e;
}
