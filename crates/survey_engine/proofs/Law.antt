-- The groups of sightings are those of a plan.
use Rattle.std.proofs.Common.{◌≡◌, ℕ, zero, suc, ◌+◌, ◌≤◌, List, [], ◌∷◌, ◌++◌, Bool, true, false, cond, eqb, length, map, refl, sym, ap, subst, ◌<◌, ◌∙◌, arith, All, IfSome}
use Rattle.std.specs.Prelude.{count_by, ◌==◌}
use Rattle.std.specs.List.{filter_map, flat_map}
use Rattle.std.specs.List.Sorted.{IsNonDecreasing, IsStrictlyIncreasing}
use Rattle.std.proofs.lemmas.Bool.{eq-eqb, eqb-true, false≢true}
use Rattle.std.proofs.lemmas.Bool.Decides.{nat_tests}
use Rattle.std.proofs.lemmas.List.{length-map}
use Rattle.std.proofs.lemmas.List.Concat.{flat_map-append}
use Rattle.std.proofs.lemmas.List.Elements.{All-append, All-head, All-map, All-nil, All-tail, All-weaker}
use Rattle.std.proofs.lemmas.List.Sums.{sum_by-append, sum_by-cons}
use Rattle.landmark_rules.specs.Groups.{mark_place, marks_in, AreGroups, AreMarkBounds, IsMark}
use Rattle.mark_kinds.specs.Table.{all_groups, group_of, group_place, is_group_asked, kind_place, most_groups}
use Rattle.mark_kinds.specs.declared.table.Kinds.{Kinds}
use Rattle.mark_kinds.proofs.Places.{same_group, same_kind}
use Rattle.landmark_rules.specs.declared.marks.Group.{Group}
use Rattle.mark_kinds.specs.declared.table.GroupKind.{GroupKind}
use Rattle.mark_kinds.specs.declared.table.Kind.{Kind}
use Rattle.landmark_rules.specs.declared.marks.Mark.{Mark}
use Rattle.survey_engine.specs.Landmarks.{IsSound}
use Rattle.survey_engine.specs.Owners.{group_for, group_kind, groups_asked, groups_in, groups_of, mark_in, owners_of, IsSoundOwner}
use Rattle.survey_engine.specs.Sightings.{AreSightings, IsInImages}
use Rattle.survey_engine.specs.declared.sighting.Sighting.{Sighting}
use Rattle.survey_engine.proofs.Marks.{are_marks, are_rising}
use Rattle.survey_engine.proofs.Owners.{few_marks}
use Rattle.survey_engine.proofs.Owners.{owners_few, owners_kind, owners_sound}

abbrev pub place_of : Group → ℕ
place_of group = group_place group.kind

abbrev pub is_of : Kind → Mark → Bool
is_of kind mark = kind_place mark.kind == kind_place kind

-- ---- what holds of the groups of one kind

pub record AreOf (lengths : List ℕ) (at : ℕ) (most : ℕ) (groups : List Group) : Type 0 where
  pub place : All (λ g. place_of g ≡ at) groups
  pub few : length groups ≤ most
  pub marks : All (λ g. All (IsMark lengths g.kind) g.marks) groups
  pub rising : All (λ g. IsStrictlyIncreasing (map mark_place g.marks)) groups
  pub bounds : All (λ g. IfSome g.bounds AreMarkBounds) groups
  pub few_marks_in : (kind : Kind) → count_by (is_of kind) (marks_in groups) ≤ 4096

flat_of_map : {X Y Z : Type 0} (f : X → Y) (g : Y → List Z) (xs : List X) → flat_map g (map f xs) ≡ flat_map (λ x. g (f x)) xs
flat_of_map f g [] = refl
flat_of_map {X} {Y} {Z} f g (x ∷ xs) = ap (λ (l : List Z). g (f x) ++ l) (flat_of_map f g xs)

all_any : {X : Type 0} (P : X → Type 0) → ((x : X) → P x) → (xs : List X) → All P xs
all_any P each xs = λ k d h. each _

of_kind : (lengths : List ℕ) (found : List Sighting) (kind : GroupKind) → AreSightings lengths found → AreOf lengths (group_place kind) (most_groups kind) (groups_in found kind)
unfolding groups_in
of_kind lengths found kind are =
    let alone = length (owners_of kind found) == 1 in
    let owners = owners_of kind found in
    let sound = owners_sound kind found (All-weaker (IsInImages lengths) (λ s. IsSound s.landmark) (λ s is. is.sound) found are.each) in
    record {
      place = All-map (λ g. place_of g ≡ group_place kind) (group_for found alone) owners (owners_kind kind found);
      few = omega (arith, length-map owners (group_for found alone), owners_few kind found);
      marks = All-map (λ g. All (IsMark lengths g.kind) g.marks) (group_for found alone) owners
          (All-weaker IsSoundOwner (λ o. All (IsMark lengths (group_kind o)) (filter_map (mark_in o alone) found)) (λ o so. are_marks lengths o alone found so are.each) owners sound);
      rising = All-map (λ g. IsStrictlyIncreasing (map mark_place g.marks)) (group_for found alone) owners
          (all_any (λ o. IsStrictlyIncreasing (map mark_place (filter_map (mark_in o alone) found))) (λ o. are_rising o alone found are.rising) owners);
      bounds = All-map (λ g. IfSome g.bounds AreMarkBounds) (group_for found alone) owners (all_any (λ o. IfSome (group_for found alone o).bounds AreMarkBounds) (λ o. tt) owners);
      few_marks_in = λ k. omega (arith, ap (count_by (is_of k)) (flat_of_map (group_for found alone) (λ g. g.marks) owners), few_marks k kind found, are.few k);
    }

none_of_kind : (lengths : List ℕ) (at most : ℕ) → AreOf lengths at most []
none_of_kind lengths at most = record {
  place = All-nil (λ g. place_of g ≡ at);
  few = omega arith;
  marks = All-nil (λ g. All (IsMark lengths g.kind) g.marks);
  rising = All-nil (λ g. IsStrictlyIncreasing (map mark_place g.marks));
  bounds = All-nil (λ g. IfSome g.bounds AreMarkBounds);
  few_marks_in = λ kind. omega arith;
}

of_asked : (lengths : List ℕ) (at most : ℕ) (groups : List Group) (b : Bool) → AreOf lengths at most groups → AreOf lengths at most (cond b groups [])
of_asked lengths at most groups true are = are
of_asked lengths at most groups false are = none_of_kind lengths at most

pub asked_of : (lengths : List ℕ) (asked : Kinds) (found : List Sighting) (kind : GroupKind) → AreSightings lengths found → AreOf lengths (group_place kind) (most_groups kind) (groups_asked asked found kind)
unfolding groups_asked
asked_of lengths asked found kind are =
    of_asked lengths (group_place kind) (most_groups kind) (groups_in found kind) (is_group_asked asked kind) (of_kind lengths found kind are)

-- ---- their order

pub Level : List Group → Type 0
Level [] = Unit {0}
Level (g ∷ groups) = All (λ h. place_of g ≤ place_of h) groups × Level groups

level_append : (n : ℕ) (some more : List Group) → All (λ g. place_of g ≡ n) some → All (λ g. n ≤ place_of g) more → Level more → Level (some ++ more)
unfolding Level
level_append n [] more here above level = level
level_append n (g ∷ some) more here above level =
    let at : place_of g ≡ n = All-head (λ h. place_of h ≡ n) g some here in
    let rest = All-tail (λ h. place_of h ≡ n) g some here in (
      All-append (λ h. place_of g ≤ place_of h) some more (All-weaker (λ h. place_of h ≡ n) (λ h. place_of g ≤ place_of h) (λ h e. omega (arith, e)) some rest) (All-weaker (λ h. n ≤ place_of h) (λ h. place_of g ≤ place_of h) (λ h le. omega (arith, le)) more above),
      level_append n some more rest above level,
    )

pub never_falls : (groups : List Group) → Level groups → IsNonDecreasing (map place_of groups)
unfolding Level
never_falls [] level i j d le below = absurd (omega arith)
never_falls (g ∷ groups) level zero zero d le below = omega arith
never_falls (g ∷ groups) level zero (suc j) d le below = All-map (λ k. place_of g ≤ k) place_of groups level.0 j d (omega arith)
never_falls (g ∷ groups) level (suc i) zero d le below = absurd (omega arith)
never_falls (g ∷ groups) level (suc i) (suc j) d le below = never_falls groups level.1 i j d (omega arith) (omega arith)

from_place : (n m : ℕ) (groups : List Group) → n ≤ m → All (λ g. place_of g ≡ m) groups → All (λ g. n ≤ place_of g) groups
from_place n m groups le at = All-weaker (λ g. place_of g ≡ m) (λ g. n ≤ place_of g) (λ g e. omega (arith, e)) groups at

-- ---- how many there are of a kind

counted_at : (n m : ℕ) (b : Bool) (groups : List Group) → eqb n m ≡ b → All (λ g. place_of g ≡ n) groups → count_by (λ g. place_of g == m) groups ≤ cond b (length groups) 0
counted_at n m true [] e at = omega arith
counted_at n m false [] e at = omega arith
counted_at n m true (g ∷ groups) e at =
    let here : place_of g ≡ n = All-head (λ h. place_of h ≡ n) g groups at in
    let one : ◌≡◌ {A = ℕ} (cond (place_of g == m) 1 0) 1 = ap (λ (k : ℕ). cond (eqb k m) 1 0) here ∙ ap (λ (t : Bool). cond t 1 0) e in
    omega (arith, sum_by-cons (λ g. cond (place_of g == m) 1 0) g groups, one, counted_at n m true groups e (All-tail (λ h. place_of h ≡ n) g groups at))
counted_at n m false (g ∷ groups) e at =
    let here : place_of g ≡ n = All-head (λ h. place_of h ≡ n) g groups at in
    let none : ◌≡◌ {A = ℕ} (cond (place_of g == m) 1 0) 0 = ap (λ (k : ℕ). cond (eqb k m) 1 0) here ∙ ap (λ (t : Bool). cond t 1 0) e in
    omega (arith, sum_by-cons (λ g. cond (place_of g == m) 1 0) g groups, none, counted_at n m false groups e (All-tail (λ h. place_of h ≡ n) g groups at))

other_place : (n m k : ℕ) → n ≤ k → m < n → eqb k m ≡ false
other_place n m k le lt = grind (arith, nat_tests)

-- none before the places at which they begin
none_before : (n m : ℕ) (groups : List Group) → m < n → All (λ g. n ≤ place_of g) groups → count_by (λ g. place_of g == m) groups ≡ 0
none_before n m [] lt above = refl
none_before n m (g ∷ groups) lt above =
    let none : ◌≡◌ {A = ℕ} (cond (place_of g == m) 1 0) 0 = ap (λ (t : Bool). cond t 1 0) (other_place n m (place_of g) (All-head (λ h. n ≤ place_of h) g groups above) lt) in
    omega (arith, sum_by-cons (λ g. cond (place_of g == m) 1 0) g groups, none, none_before n m groups lt (All-tail (λ h. n ≤ place_of h) g groups above))

-- ---- and of marks

abbrev owned : Mark → ℕ
owned m = group_place (group_of m.kind)

other_kind : (kind : Kind) (n : ℕ) (m : Mark) (b : Bool) → is_of kind m ≡ b → owned m ≡ n → eqb n (group_place (group_of kind)) ≡ false → b ≡ false
other_kind kind n m false e at other = refl
other_kind kind n m true e at other =
    let same : owned m ≡ group_place (group_of kind) = ap (λ (k : Kind). group_place (group_of k)) (same_kind m.kind kind (eqb-true (kind_place m.kind) (kind_place kind) e)) in
    absurd (false≢true (sym other ∙ eq-eqb n (group_place (group_of kind)) (sym at ∙ same)))

none_of : (kind : Kind) (marks : List Mark) → All (λ m. eqb (owned m) (group_place (group_of kind)) ≡ false) marks → count_by (is_of kind) marks ≡ 0
none_of kind [] other = refl
none_of kind (m ∷ marks) other =
    let here = All-head (λ m. eqb (owned m) (group_place (group_of kind)) ≡ false) m marks other in
    let none : ◌≡◌ {A = ℕ} (cond (is_of kind m) 1 0) 0 = ap (λ (t : Bool). cond t 1 0) (other_kind kind (owned m) m (is_of kind m) refl refl here) in
    omega (arith, sum_by-cons (λ m. cond (is_of kind m) 1 0) m marks, none, none_of kind marks (All-tail (λ m. eqb (owned m) (group_place (group_of kind)) ≡ false) m marks other))

-- what holds of the places of groups holds of those of their marks
marks_at : (lengths : List ℕ) (P : ℕ → Type 0) (groups : List Group) → All (λ g. P (place_of g)) groups → All (λ g. All (IsMark lengths g.kind) g.marks) groups → All (λ m. P (owned m)) (marks_in groups)
marks_at lengths P [] at marks = All-nil (λ m. P (owned m))
marks_at lengths P (g ∷ groups) at marks =
    let here : P (place_of g) = All-head (λ h. P (place_of h)) g groups at in
    All-append (λ m. P (owned m)) g.marks (marks_in groups)
    (All-weaker (IsMark lengths g.kind) (λ m. P (owned m)) (λ m is. subst P (sym (ap group_place is.kind_of)) here) g.marks (All-head (λ h. All (IsMark lengths h.kind) h.marks) g groups marks))
    (marks_at lengths P groups (All-tail (λ h. P (place_of h)) g groups at) (All-tail (λ h. All (IsMark lengths h.kind) h.marks) g groups marks))

-- ---- kind after kind

-- what holds of the groups of kinds that begin at a place
pub record AreFrom (lengths : List ℕ) (n : ℕ) (groups : List Group) : Type 0 where
  pub above : All (λ g. n ≤ place_of g) groups
  pub level : Level groups
  pub few : (kind : GroupKind) → count_by (λ g. place_of g == group_place kind) groups ≤ most_groups kind
  pub marks : All (λ g. All (IsMark lengths g.kind) g.marks) groups
  pub rising : All (λ g. IsStrictlyIncreasing (map mark_place g.marks)) groups
  pub bounds : All (λ g. IfSome g.bounds AreMarkBounds) groups
  pub few_marks : (kind : Kind) → count_by (is_of kind) (marks_in groups) ≤ 4096

pub none_from : (lengths : List ℕ) (n : ℕ) → AreFrom lengths n []
unfolding Level
none_from lengths n = record {
  above = All-nil (λ g. n ≤ place_of g);
  level = tt;
  few = λ kind. omega arith;
  marks = All-nil (λ g. All (IsMark lengths g.kind) g.marks);
  rising = All-nil (λ g. IsStrictlyIncreasing (map mark_place g.marks));
  bounds = All-nil (λ g. IfSome g.bounds AreMarkBounds);
  few_marks = λ kind. omega arith;
}

few_groups : (lengths : List ℕ) (kind : GroupKind) (a rest : List Group) → AreOf lengths (group_place kind) (most_groups kind) a → AreFrom lengths (group_place kind + 1) rest → (other : GroupKind) (b : Bool) → eqb (group_place kind) (group_place other) ≡ b →
    count_by (λ g. place_of g == group_place other) (a ++ rest) ≤ most_groups other
few_groups lengths kind a rest are from other true e =
    let same : kind ≡ other = same_group kind other (eqb-true (group_place kind) (group_place other) e) in
    let most : most_groups kind ≡ most_groups other = ap most_groups same in
    let at : group_place kind ≡ group_place other = ap group_place same in
    omega (
      arith,
      sum_by-append (λ g. cond (place_of g == group_place other) 1 0) a rest,
      counted_at (group_place kind) (group_place other) true a e are.place,
      none_before (group_place kind + 1) (group_place other) rest (omega (arith, at)) from.above,
      are.few,
      most,
    )
few_groups lengths kind a rest are from other false e =
    omega (
      arith,
      sum_by-append (λ g. cond (place_of g == group_place other) 1 0) a rest,
      counted_at (group_place kind) (group_place other) false a e are.place,
      from.few other,
    )

few_of : (lengths : List ℕ) (kind : GroupKind) (a rest : List Group) → AreOf lengths (group_place kind) (most_groups kind) a → AreFrom lengths (group_place kind + 1) rest → (of : Kind) (b : Bool) → eqb (group_place kind) (group_place (group_of of)) ≡ b →
    count_by (is_of of) (marks_in (a ++ rest)) ≤ 4096
few_of lengths kind a rest are from of true e =
    let at : group_place kind ≡ group_place (group_of of) = eqb-true (group_place kind) (group_place (group_of of)) e in
    let others : All (λ m. eqb (owned m) (group_place (group_of of)) ≡ false) (marks_in rest) =
    marks_at lengths (λ n. eqb n (group_place (group_of of)) ≡ false) rest
    (All-weaker (λ g. group_place kind + 1 ≤ place_of g) (λ g. eqb (place_of g) (group_place (group_of of)) ≡ false) (λ g le. other_place (group_place kind + 1) (group_place (group_of of)) (place_of g) le (omega (arith, at))) rest from.above) from.marks in
    omega (
      arith,
      ap (count_by (is_of of)) (flat_map-append (λ g. g.marks) a rest),
      sum_by-append (λ m. cond (is_of of m) 1 0) (marks_in a) (marks_in rest),
      are.few_marks_in of,
      none_of of (marks_in rest) others,
    )
few_of lengths kind a rest are from of false e =
    let others : All (λ m. eqb (owned m) (group_place (group_of of)) ≡ false) (marks_in a) =
    marks_at lengths (λ n. eqb n (group_place (group_of of)) ≡ false) a
    (All-weaker (λ g. place_of g ≡ group_place kind) (λ g. eqb (place_of g) (group_place (group_of of)) ≡ false) (λ g at. ap (λ (n : ℕ). eqb n (group_place (group_of of))) at ∙ e) a are.place) are.marks in
    omega (
      arith,
      ap (count_by (is_of of)) (flat_map-append (λ g. g.marks) a rest),
      sum_by-append (λ m. cond (is_of of m) 1 0) (marks_in a) (marks_in rest),
      none_of of (marks_in a) others,
      from.few_marks of,
    )

-- the groups of a kind before those of kinds that come later
pub joined : (lengths : List ℕ) (n : ℕ) (kind : GroupKind) (a rest : List Group) → n ≤ group_place kind → AreOf lengths (group_place kind) (most_groups kind) a → AreFrom lengths (group_place kind + 1) rest → AreFrom lengths n (a ++ rest)
joined lengths n kind a rest le are from = record {
  above = All-append (λ g. n ≤ place_of g) a rest (from_place n (group_place kind) a le are.place) (All-weaker (λ g. group_place kind + 1 ≤ place_of g) (λ g. n ≤ place_of g) (λ g later. omega (arith, later, le)) rest from.above);
  level = level_append (group_place kind) a rest are.place (All-weaker (λ g. group_place kind + 1 ≤ place_of g) (λ g. group_place kind ≤ place_of g) (λ g later. omega (arith, later)) rest from.above) from.level;
  few = λ other. few_groups lengths kind a rest are from other (eqb (group_place kind) (group_place other)) refl;
  marks = All-append (λ g. All (IsMark lengths g.kind) g.marks) a rest are.marks from.marks;
  rising = All-append (λ g. IsStrictlyIncreasing (map mark_place g.marks)) a rest are.rising from.rising;
  bounds = All-append (λ g. IfSome g.bounds AreMarkBounds) a rest are.bounds from.bounds;
  few_marks = λ of. few_of lengths kind a rest are from of (eqb (group_place kind) (group_place (group_of of))) refl;
}

-- kinds whose places rise, from one on
unfoldable pub Rise : ℕ → List GroupKind → Type 0
Rise n [] = Unit {0}
Rise n (kind ∷ kinds) = (n ≤ group_place kind) × Rise (group_place kind + 1) kinds

are_from : (lengths : List ℕ) (asked : Kinds) (found : List Sighting) → AreSightings lengths found → (n : ℕ) (kinds : List GroupKind) → Rise n kinds → AreFrom lengths n (flat_map (groups_asked asked found) kinds)
unfolding Rise
are_from lengths asked found are n [] rise = none_from lengths n
are_from lengths asked found are n (kind ∷ kinds) rise =
    joined lengths n kind (groups_asked asked found kind) (flat_map (groups_asked asked found) kinds) rise.0 (asked_of lengths asked found kind are) (are_from lengths asked found are (group_place kind + 1) kinds rise.1)

all_rise : Rise 0 all_groups
unfolding Rise
all_rise = (omega arith, (omega arith, (omega arith, (omega arith, (omega arith, (omega arith, (omega arith, (omega arith, (omega arith, (omega arith, tt))))))))))

pub are_groups : (lengths : List ℕ) (asked : Kinds) (found : List Sighting) → AreSightings lengths found → AreGroups lengths (groups_of asked found)
are_groups lengths asked found are =
    let from = are_from lengths asked found are 0 all_groups all_rise in
    record { order = never_falls (groups_of asked found) from.level; few = from.few; marks = from.marks; rising = from.rising; bounds = from.bounds; few_marks = from.few_marks }
