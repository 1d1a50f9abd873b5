-- When groups of a plan go on with a group or a mark.
use Rattle.std.proofs.Common.{◌≡◌, ◌≢◌, ◌<◌, ◌≤◌, ◌+◌, ◌-◌, ◌==◌, ℕ, Bool, true, false, cond, List, [], ◌∷◌, ◌++◌, All, get_or, set, length, map, count_by, refl, sym, ap, subst, ◌∙◌, arith, append_assoc, append-nil, length-append, Option, None, Some, IfSome, inl, inr}
use Rattle.std.specs.List.Sorted.{IsNonDecreasing, IsStrictlyIncreasing}
use Rattle.std.proofs.lemmas.Bool.{cases_Bool, cases_lt, eqb-true}
use Rattle.std.proofs.lemmas.Bool.Decides.{nat_tests}
use Rattle.std.proofs.lemmas.List.{get_or_append_left, get_or-set_other, length-set, get_or-map, get_or_default, map-append, length-map}
use Rattle.std.proofs.lemmas.Grind.{get_or-set_at}
use Rattle.std.proofs.lemmas.List.Concat.{flat_map-append}
use Rattle.std.proofs.lemmas.List.Elements.{All-head, All-tail, All-nil, All-cons, All-push}
use Rattle.std.proofs.lemmas.List.Sorted.{IsNonDecreasingBy-push}
use Rattle.std.proofs.lemmas.List.Sums.{sum_by-append}
use Rattle.std.proofs.Math.Seq.{get_or-append_seam}
use Rattle.raid_params.specs.declared.limits.TheConstants.{MOST}
use Rattle.landmark_rules.specs.declared.marks.Group.{Group}
use Rattle.mark_kinds.specs.declared.table.GroupKind.{GroupKind}
use Rattle.landmark_rules.specs.declared.marks.Mark.{Mark}
use Rattle.landmark_rules.specs.declared.marks.MarkBounds.{MarkBounds}
use Rattle.mark_kinds.proofs.Places.{same_group, group_below, kind_below}
use Rattle.landmark_rules.specs.Groups.{AreGroups, AreMarkBounds, IsMark, group_place, kind_place, mark_place, marks_in, most_groups}
use Rattle.plan_text.specs.declared.draft.Draft.{Draft}
use Rattle.plan_text.specs.Drafts.{IsBefore, IsDraft, MayAddTo, MayBegin, empty_group, with_bounds, with_mark, with_open}
use Rattle.plan_text.proofs.Grouping.{group_with}

-- numbers in order
nd_front : (xs ys : List ℕ) → IsNonDecreasing (xs ++ ys) → IsNonDecreasing xs
nd_front xs ys h i j d le lt =
    let more = length-append xs ys in
    let a = get_or_append_left xs ys d i (omega arith) in
    let b = get_or_append_left xs ys d j lt in
    let order = h i j d le (omega arith) in
    omega (arith, a, b, order)

nd_last : (xs : List ℕ) (y : ℕ) → IsNonDecreasing (xs ++ y ∷ []) → 0 < length xs → get_or xs (length xs - 1) 0 ≤ y
nd_last xs y h some =
    let more = length-append xs (y ∷ []) in
    let a = get_or_append_left xs (y ∷ []) 0 (length xs - 1) (omega arith) in
    let b = get_or-append_seam xs y [] 0 in
    let order = h (length xs - 1) (length xs) 0 (omega arith) (omega arith) in
    omega (arith, a, b, order)

si_front : (xs ys : List ℕ) → IsStrictlyIncreasing (xs ++ ys) → IsStrictlyIncreasing xs
si_front xs ys h k lt =
    let more = length-append xs ys in
    let a = get_or_append_left xs ys 0 k (omega arith) in
    let b = get_or_append_left xs ys 0 (k + 1) lt in
    let order = h k (omega arith) in
    omega (arith, a, b, order)

si_last : (xs : List ℕ) (y : ℕ) → IsStrictlyIncreasing (xs ++ y ∷ []) → 0 < length xs → get_or xs (length xs - 1) 0 < y
si_last xs y h some =
    let more = length-append xs (y ∷ []) in
    let at : length xs - 1 + 1 ≡ length xs = omega arith in
    let a = get_or_append_left xs (y ∷ []) 0 (length xs - 1) (omega arith) in
    let b = get_or-append_seam xs y [] 0 in
    let c : get_or (xs ++ y ∷ []) (length xs - 1 + 1) 0 ≡ get_or (xs ++ y ∷ []) (length xs) 0 = ap (λ (k : ℕ). get_or (xs ++ y ∷ []) k 0) at in
    let order = h (length xs - 1) (omega arith) in
    omega (arith, a, b, c, order)

si_push : (xs : List ℕ) (y : ℕ) → IsStrictlyIncreasing xs → (0 < length xs → get_or xs (length xs - 1) 0 < y) → IsStrictlyIncreasing (xs ++ y ∷ [])
si_push xs y h last k lt =
    let more = length-append xs (y ∷ []) in
    let a = get_or_append_left xs (y ∷ []) 0 k (omega arith) in
    elim (cases_lt (k + 1) (length xs)) [
      | inl below ↦ (let b = get_or_append_left xs (y ∷ []) 0 (k + 1) below in let order = h k below in omega (arith, a, b, order))
      | inr above ↦ (
          let end : k + 1 ≡ length xs = omega arith in
          let at : k ≡ length xs - 1 = omega arith in
          let b : get_or (xs ++ y ∷ []) (k + 1) 0 ≡ y = ap (λ (i : ℕ). get_or (xs ++ y ∷ []) i 0) end ∙ get_or-append_seam xs y [] 0 in
          let c : get_or xs k 0 ≡ get_or xs (length xs - 1) 0 = ap (λ (i : ℕ). get_or xs i 0) at in
          let order = last (omega arith) in
          omega (arith, a, b, c, order)
          )
    ]

-- a prefix of a list of which all is so, and what follows it
all_front : {A : Type 0} (P : A → Type 0) (xs ys : List A) → All P (xs ++ ys) → All P xs
all_front P [] ys h = All-nil P
all_front P (x ∷ xs) ys h = All-cons P x xs (All-head P x (xs ++ ys) h) (all_front P xs ys (All-tail P x (xs ++ ys) h))

all_rest : {A : Type 0} (P : A → Type 0) (xs ys : List A) → All P (xs ++ ys) → All P ys
all_rest P [] ys h = h
all_rest P (x ∷ xs) ys h = all_rest P xs ys (All-tail P x (xs ++ ys) h)

all_at : {A : Type 0} (P : A → Type 0) (xs : List A) (y : A) (ys : List A) → All P (xs ++ y ∷ ys) → P y
all_at P xs y ys h = All-head P y ys (all_rest P xs (y ∷ ys) h)

bit : {A : Type 0} → (A → Bool) → A → ℕ
bit p x = cond (p x) 1 0

count_more : {A : Type 0} (p : A → Bool) (xs : List A) (y : A) (ys : List A) → count_by p (xs ++ y ∷ ys) ≡ count_by p xs + (bit p y + count_by p ys)
unfolding bit
count_more p xs y ys =
    let a = sum_by-append (λ x. cond (p x) 1 0) xs (y ∷ ys) in
    let b = sum_by-append (λ x. cond (p x) 1 0) (y ∷ []) ys in
    omega (arith, a, b)

count_push : {A : Type 0} (p : A → Bool) (xs : List A) (y : A) → count_by p (xs ++ y ∷ []) ≡ count_by p xs + bit p y
count_push p xs y = let more = count_more p xs y [] in omega (arith, more)

count_append : {A : Type 0} (p : A → Bool) (xs ys : List A) → count_by p (xs ++ ys) ≡ count_by p xs + count_by p ys
count_append p xs ys = sum_by-append (λ x. cond (p x) 1 0) xs ys

bit_yes : {A : Type 0} (p : A → Bool) (x : A) → p x ≡ true → bit p x ≡ 1
unfolding bit
bit_yes p x e = ap (λ (b : Bool). cond b 1 0) e

bit_no : {A : Type 0} (p : A → Bool) (x : A) → p x ≡ false → bit p x ≡ 0
unfolding bit
bit_no p x e = ap (λ (b : Bool). cond b 1 0) e

abbrev is_of : ℕ → Group → Bool
is_of place group = group_place group.kind == place

abbrev is_at : ℕ → Mark → Bool
is_at place mark = kind_place mark.kind == place

abbrev place_of : Group → ℕ
place_of group = group_place group.kind

abbrev AreOf : List ℕ → Group → Type 0
AreOf lengths group = All (IsMark lengths group.kind) group.marks

abbrev AreBound : Group → Type 0
AreBound group = IfSome group.bounds AreMarkBounds

abbrev Rise : Group → Type 0
Rise group = IsStrictlyIncreasing (map mark_place group.marks)

bits : (kind : GroupKind) (place : ℕ) (b d : Option MarkBounds) (ms ns : List Mark) → bit (is_of place) (group_with kind b ms) ≡ bit (is_of place) (group_with kind d ns)
unfolding bit
bits kind place b d ms ns = refl

-- marks in groups
marks_more : (gs : List Group) (g : Group) (hs : List Group) → marks_in (gs ++ g ∷ hs) ≡ marks_in gs ++ (g.marks ++ marks_in hs)
marks_more gs g hs = flat_map-append (λ (group : Group). group.marks) gs (g ∷ hs)

marks_push : (p : Mark → Bool) (gs : List Group) (g : Group) → count_by p (marks_in (gs ++ g ∷ [])) ≡ count_by p (marks_in gs) + count_by p g.marks
marks_push p gs g =
    ap (λ (ms : List Mark). count_by p ms) (marks_more gs g [])
    ∙ count_append p (marks_in gs) (g.marks ++ [])
    ∙ ap (λ (ms : List Mark). count_by p (marks_in gs) + count_by p ms) (append-nil g.marks)

-- a prefix of the groups of a plan, with a prefix of the marks of its last group, and with these bounds
pub front : (lengths : List ℕ) (closed : List Group) (kind : GroupKind) (from to : Option MarkBounds) (marks more : List Mark) (rest : List Group) → IfSome to AreMarkBounds → AreGroups lengths (closed ++ group_with kind from (marks ++ more) ∷ rest) →
    AreGroups lengths (closed ++ group_with kind to marks ∷ [])
front lengths closed kind from to marks more rest bound are = record {
  order =
      let whole : map place_of (closed ++ group_with kind from (marks ++ more) ∷ rest) ≡ map place_of (closed ++ group_with kind to marks ∷ []) ++ map place_of rest =
      map-append place_of closed (group_with kind from (marks ++ more) ∷ rest) ∙ sym (append_assoc (map place_of closed) (group_place kind ∷ []) (map place_of rest)) ∙ ap (λ (ns : List ℕ). ns ++ map place_of rest) (sym (map-append place_of closed (group_with kind to marks ∷ []))) in
      nd_front (map place_of (closed ++ group_with kind to marks ∷ [])) (map place_of rest) (subst IsNonDecreasing whole are.order);
  few = λ k.
      let a = count_more (is_of (group_place k)) closed (group_with kind from (marks ++ more)) rest in
      let b = count_push (is_of (group_place k)) closed (group_with kind to marks) in
      let same : bit (is_of (group_place k)) (group_with kind from (marks ++ more)) ≡ bit (is_of (group_place k)) (group_with kind to marks) = bits kind (group_place k) from to (marks ++ more) marks in
      let most = are.few k in
      omega (arith, a, b, same, most);
  marks = All-push (AreOf lengths) closed (group_with kind to marks) (all_front (AreOf lengths) closed (group_with kind from (marks ++ more) ∷ rest) are.marks) (all_front (IsMark lengths kind) marks more (all_at (AreOf lengths) closed (group_with kind from (marks ++ more)) rest are.marks));
  rising = All-push Rise closed (group_with kind to marks) (all_front Rise closed (group_with kind from (marks ++ more) ∷ rest) are.rising)
      (si_front (map mark_place marks) (map mark_place more) (subst IsStrictlyIncreasing (map-append mark_place marks more) (all_at Rise closed (group_with kind from (marks ++ more)) rest are.rising)));
  bounds = All-push AreBound closed (group_with kind to marks) (all_front AreBound closed (group_with kind from (marks ++ more) ∷ rest) are.bounds) bound;
  few_marks = λ k.
      let p = is_at (kind_place k) in
      let a : count_by p (marks_in (closed ++ group_with kind from (marks ++ more) ∷ rest)) ≡ count_by p (marks_in closed) + (count_by p marks + count_by p more + count_by p (marks_in rest)) =
      ap (λ (ms : List Mark). count_by p ms) (marks_more closed (group_with kind from (marks ++ more)) rest) ∙ count_append p (marks_in closed) ((marks ++ more) ++ marks_in rest)
      ∙ ap (λ (n : ℕ). count_by p (marks_in closed) + n) (count_append p (marks ++ more) (marks_in rest) ∙ ap (λ (n : ℕ). n + count_by p (marks_in rest)) (count_append p marks more)) in
      let b = marks_push p closed (group_with kind to marks) in
      let most = are.few_marks k in
      omega (arith, a, b, most);
}

get_or_any : (xs : List ℕ) (k d e : ℕ) → k < length xs → get_or xs k d ≡ get_or xs k e
get_or_any xs k d e lt = get_or_default xs k d e lt

no_place : (m n : ℕ) → m == n ≡ false → m ≢ n
no_place m n h e = grind (arith, nat_tests)

eqb-refl : (n : ℕ) → n == n ≡ true
eqb-refl n = grind (arith, nat_tests)

-- the last of groups by its place
last_place : (closed : List Group) (g : Group) → get_or (map place_of (closed ++ g ∷ [])) (length (map place_of (closed ++ g ∷ [])) - 1) 0 ≡ group_place g.kind
last_place closed g =
    let whole = map-append place_of closed (g ∷ []) in
    let many : length (map place_of (closed ++ g ∷ [])) ≡ length closed + 1 = length-map (closed ++ g ∷ []) place_of ∙ length-append closed (g ∷ []) in
    let at : length (map place_of (closed ++ g ∷ [])) - 1 ≡ length (map place_of closed) = (let same = length-map closed place_of in omega (arith, many, same)) in
    ap (λ (k : ℕ). get_or (map place_of (closed ++ g ∷ [])) k 0) at ∙ ap (λ (ns : List ℕ). get_or ns (length (map place_of closed)) 0) whole ∙ get_or-append_seam (map place_of closed) (group_place g.kind) [] 0

-- a group of no marks after others
started : (lengths : List ℕ) (gs : List Group) (kind : GroupKind) (bounds : Option MarkBounds) → IfSome bounds AreMarkBounds → AreGroups lengths gs → (0 < length (map place_of gs) → get_or (map place_of gs) (length (map place_of gs) - 1) 0 ≤ group_place kind) →
    count_by (is_of (group_place kind)) gs < most_groups kind → AreGroups lengths (gs ++ group_with kind bounds [] ∷ [])
started lengths gs kind bounds bound are order few = record {
  order = subst IsNonDecreasing (sym (map-append place_of gs (group_with kind bounds [] ∷ []))) (IsNonDecreasingBy-push (λ (n : ℕ). n) (map place_of gs) (group_place kind) are.order (λ d some. let a = get_or_any (map place_of gs) (length (map place_of gs) - 1) d 0 (omega arith) in let b = order some in omega (arith, a, b)));
  few = λ k.
      let a = count_push (is_of (group_place k)) gs (group_with kind bounds []) in
      elim (cases_Bool (group_place kind == group_place k)) [
        | inl equal ↦ (
            let same : kind ≡ k = same_group kind k (eqb-true (group_place kind) (group_place k) equal) in
            let one = bit_yes (is_of (group_place k)) (group_with kind bounds []) equal in
            let below : count_by (is_of (group_place k)) gs < most_groups k = subst (λ (l : GroupKind). count_by (is_of (group_place l)) gs < most_groups l) same few in
            omega (arith, a, one, below)
            )
        | inr other ↦ (let none = bit_no (is_of (group_place k)) (group_with kind bounds []) other in let most = are.few k in omega (arith, a, none, most))
      ];
  marks = All-push (AreOf lengths) gs (group_with kind bounds []) are.marks (All-nil (IsMark lengths kind));
  rising = All-push Rise gs (group_with kind bounds []) are.rising (λ k lt. absurd (omega arith));
  bounds = All-push AreBound gs (group_with kind bounds []) are.bounds bound;
  few_marks = λ k. let a = marks_push (is_at (kind_place k)) gs (group_with kind bounds []) in let most = are.few_marks k in omega (arith, a, most);
}

pub no_groups : (lengths : List ℕ) → AreGroups lengths []
no_groups lengths = record {
  order = λ i j d le lt. absurd (omega arith);
  few = λ k. omega arith;
  marks = λ k d lt. absurd (omega arith);
  rising = λ k d lt. absurd (omega arith);
  bounds = λ k d lt. absurd (omega arith);
  few_marks = λ k. omega arith;
}

pub one_group : (lengths : List ℕ) (kind : GroupKind) (bounds : Option MarkBounds) → IfSome bounds AreMarkBounds → 0 < most_groups kind → AreGroups lengths (group_with kind bounds [] ∷ [])
one_group lengths kind bounds bound few = started lengths [] kind bounds bound (no_groups lengths) (λ some. absurd (omega arith)) few

-- a draft, by its parts
abbrev pub draft_with : List Group → Option Group → List ℕ → List ℕ → Draft
draft_with closed last groups marks = record { closed = closed; last = last; groups = groups; marks = marks }

pub may_begin : (lengths : List ℕ) (closed : List Group) (last : Option Group) (groups marks : List ℕ) (kind : GroupKind) (bounds : Option MarkBounds) → IfSome bounds AreMarkBounds →
    IsDraft (draft_with closed last groups marks) → AreGroups lengths (with_open closed last) → MayBegin (draft_with closed last groups marks) kind → AreGroups lengths (with_open closed last ++ group_with kind bounds [] ∷ [])
may_begin lengths closed None groups marks kind bounds bound draft are may =
    let none : closed ≡ [] = draft.none refl in
    let count = draft.groups (group_place kind) (group_below kind) in
    let few = may.few in
    started lengths closed kind bounds bound are (λ some. let empty = ap (λ (gs : List Group). length (map place_of gs)) none in absurd (omega (arith, some, empty))) (omega (arith, count, few))
may_begin lengths closed (Some g) groups marks kind bounds bound draft are may =
    let count = draft.groups (group_place kind) (group_below kind) in
    let few = may.few in
    let order = may.order in
    let at = last_place closed g in
    started lengths (closed ++ g ∷ []) kind bounds bound are (λ some. omega (arith, at, order)) (omega (arith, count, few))

begun : (lengths : List ℕ) (gs : List Group) (kind : GroupKind) → AreGroups lengths (gs ++ empty_group kind ∷ []) → (0 < length (map place_of gs) → get_or (map place_of gs) (length (map place_of gs) - 1) 0 ≤ group_place kind) × (count_by (is_of (group_place kind)) gs < most_groups kind)
begun lengths gs kind are = (
  nd_last (map place_of gs) (group_place kind) (subst IsNonDecreasing (map-append place_of gs (empty_group kind ∷ [])) are.order),
  (
      let a = count_push (is_of (group_place kind)) gs (empty_group kind) in
      let one = bit_yes (is_of (group_place kind)) (empty_group kind) (eqb-refl (group_place kind)) in
      let most = are.few kind in
      omega (arith, a, one, most)
      ),
)

pub had_begun : (lengths : List ℕ) (closed : List Group) (last : Option Group) (groups marks : List ℕ) (kind : GroupKind) → IsDraft (draft_with closed last groups marks) → AreGroups lengths (with_open closed last ++ empty_group kind ∷ []) → MayBegin (draft_with closed last groups marks) kind
had_begun lengths closed None groups marks kind draft are =
    let both = begun lengths closed kind are in
    let count = draft.groups (group_place kind) (group_below kind) in
    record { order = tt; few = omega (arith, count, both.1) }
had_begun lengths closed (Some g) groups marks kind draft are =
    let both = begun lengths (closed ++ g ∷ []) kind are in
    let count = draft.groups (group_place kind) (group_below kind) in
    let at = last_place closed g in
    let many : length (map place_of (closed ++ g ∷ [])) ≡ length closed + 1 = length-map (closed ++ g ∷ []) place_of ∙ length-append closed (g ∷ []) in
    let order = both.0 (omega (arith, many)) in
    record { order = omega (arith, at, order); few = omega (arith, count, both.1) }

-- the same, where the last group of the draft went on with marks
pub had_gone_on : (lengths : List ℕ) (closed : List Group) (g : Group) (ms : List Mark) (groups marks : List ℕ) (kind : GroupKind) → IsDraft (draft_with closed (Some g) groups marks) → AreGroups lengths ((closed ++ group_with g.kind g.bounds ms ∷ []) ++ empty_group kind ∷ []) →
    MayBegin (draft_with closed (Some g) groups marks) kind
had_gone_on lengths closed g ms groups marks kind draft are =
    let other = group_with g.kind g.bounds ms in
    let both = begun lengths (closed ++ other ∷ []) kind are in
    let count = draft.groups (group_place kind) (group_below kind) in
    let a = count_push (is_of (group_place kind)) closed g in
    let b = count_push (is_of (group_place kind)) closed other in
    let same : bit (is_of (group_place kind)) g ≡ bit (is_of (group_place kind)) other = bits g.kind (group_place kind) g.bounds g.bounds g.marks ms in
    let at = last_place closed other in
    let many : length (map place_of (closed ++ other ∷ [])) ≡ length closed + 1 = length-map (closed ++ other ∷ []) place_of ∙ length-append closed (other ∷ []) in
    let order = both.0 (omega (arith, many)) in
    record { order = omega (arith, at, order); few = omega (arith, count, both.1, a, b, same) }

-- marks in order, by their places
last_mark : (ms : List Mark) (d : Mark) → 0 < length ms → get_or (map mark_place ms) (length (map mark_place ms) - 1) 0 ≡ mark_place (get_or ms (length ms - 1) d)
last_mark ms d some =
    let many = length-map ms mark_place in
    let at : length (map mark_place ms) - 1 ≡ length ms - 1 = omega (arith, many) in
    ap (λ (k : ℕ). get_or (map mark_place ms) k 0) at ∙ get_or-map mark_place ms (length ms - 1) d 0 (omega arith)

place_before : (m n : Mark) → m.image < MOST → n.image < MOST → IsBefore m n → mark_place m < mark_place n
place_before m n p q (inl h) = omega (arith, p, q, h)
place_before m n p q (inr h) = let same = h.0 in let less = h.1 in omega (arith, p, q, same, less)

before_place : (m n : Mark) → m.image < MOST → n.image < MOST → mark_place m < mark_place n → IsBefore m n
before_place m n p q h = elim (cases_lt m.sector n.sector) [ inl less ↦ inl less | inr not ↦ inr (omega (arith, p, q, h, not), omega (arith, p, q, h, not)) ]

pub may_add : (lengths : List ℕ) (closed : List Group) (g : Group) (groups marks : List ℕ) (m : Mark) → IsDraft (draft_with closed (Some g) groups marks) → AreGroups lengths (closed ++ g ∷ []) → MayAddTo lengths (draft_with closed (Some g) groups marks) g m →
    AreGroups lengths (closed ++ with_mark g m ∷ [])
may_add lengths closed g groups marks m draft are may = record {
  order = subst IsNonDecreasing (map-append place_of closed (g ∷ []) ∙ sym (map-append place_of closed (with_mark g m ∷ []))) are.order;
  few = λ k.
      let a = count_push (is_of (group_place k)) closed g in
      let b = count_push (is_of (group_place k)) closed (with_mark g m) in
      let same : bit (is_of (group_place k)) g ≡ bit (is_of (group_place k)) (with_mark g m) = bits g.kind (group_place k) g.bounds g.bounds g.marks (g.marks ++ m ∷ []) in
      let most = are.few k in
      omega (arith, a, b, same, most);
  marks = All-push (AreOf lengths) closed (with_mark g m) (all_front (AreOf lengths) closed (g ∷ []) are.marks) (All-push (IsMark lengths g.kind) g.marks m (all_at (AreOf lengths) closed g [] are.marks) may.is_mark);
  rising = All-push Rise closed (with_mark g m) (all_front Rise closed (g ∷ []) are.rising)
      (subst IsStrictlyIncreasing (sym (map-append mark_place g.marks (m ∷ []))) (si_push (map mark_place g.marks) (mark_place m) (all_at Rise closed g [] are.rising) (λ some.
      let many = length-map g.marks mark_place in
      let some_marks : 0 < length g.marks = omega (arith, some, many) in
      let last = get_or g.marks (length g.marks - 1) m in
      let at = last_mark g.marks m some_marks in
      let is = all_at (AreOf lengths) closed g [] are.marks (length g.marks - 1) m (omega arith) in
      let less = place_before last m is.image may.is_mark.image (may.rises some_marks) in
      omega (arith, at, less))));
  bounds = All-push AreBound closed (with_mark g m) (all_front AreBound closed (g ∷ []) are.bounds) (all_at AreBound closed g [] are.bounds);
  few_marks = λ k.
      let p = is_at (kind_place k) in
      let a = marks_push p closed g in
      let b = marks_push p closed (with_mark g m) in
      let c = count_push p g.marks m in
      elim (cases_Bool (kind_place m.kind == kind_place k)) [
        | inl equal ↦ (
            let one = bit_yes p m equal in
            let count = draft.marks (kind_place k) (kind_below k) in
            let same : kind_place m.kind ≡ kind_place k = eqb-true (kind_place m.kind) (kind_place k) equal in
            let at : get_or marks (kind_place m.kind) 0 ≡ get_or marks (kind_place k) 0 = ap (λ (i : ℕ). get_or marks i 0) same in
            let few = may.few in
            omega (arith, a, b, c, one, count, at, few)
            )
        | inr other ↦ (let none = bit_no p m other in let most = are.few_marks k in omega (arith, a, b, c, none, most))
      ];
}

-- the last group, with bounds of its own
pub may_bound : (lengths : List ℕ) (closed : List Group) (g : Group) (bounds : MarkBounds) → AreMarkBounds bounds → AreGroups lengths (closed ++ g ∷ []) → AreGroups lengths (closed ++ with_bounds g bounds ∷ [])
may_bound lengths closed g bounds bound are = record {
  order = subst IsNonDecreasing (map-append place_of closed (g ∷ []) ∙ sym (map-append place_of closed (with_bounds g bounds ∷ []))) are.order;
  few = λ k.
      let a = count_push (is_of (group_place k)) closed g in
      let b = count_push (is_of (group_place k)) closed (with_bounds g bounds) in
      let same : bit (is_of (group_place k)) g ≡ bit (is_of (group_place k)) (with_bounds g bounds) = bits g.kind (group_place k) g.bounds (Some bounds) g.marks g.marks in
      let most = are.few k in
      omega (arith, a, b, same, most);
  marks = All-push (AreOf lengths) closed (with_bounds g bounds) (all_front (AreOf lengths) closed (g ∷ []) are.marks) (all_at (AreOf lengths) closed g [] are.marks);
  rising = All-push Rise closed (with_bounds g bounds) (all_front Rise closed (g ∷ []) are.rising) (all_at Rise closed g [] are.rising);
  bounds = All-push AreBound closed (with_bounds g bounds) (all_front AreBound closed (g ∷ []) are.bounds) bound;
  few_marks = λ k.
      let p = is_at (kind_place k) in
      let a = marks_push p closed g in
      let b = marks_push p closed (with_bounds g bounds) in
      let most = are.few_marks k in
      omega (arith, a, b, most);
}

pub draft_bound : (closed : List Group) (g : Group) (groups marks : List ℕ) (bounds : MarkBounds) → IsDraft (draft_with closed (Some g) groups marks) → IsDraft (draft_with closed (Some (with_bounds g bounds)) groups marks)
draft_bound closed g groups marks bounds draft = record {
  none = λ e. absurd (let no : ⊥ = cc in no);
  kinds = draft.kinds;
  groups = λ place lt.
      let before = draft.groups place lt in
      let a = count_push (is_of place) closed g in
      let b = count_push (is_of place) closed (with_bounds g bounds) in
      let same : bit (is_of place) g ≡ bit (is_of place) (with_bounds g bounds) = bits g.kind place g.bounds (Some bounds) g.marks g.marks in
      omega (arith, before, a, b, same);
  marks = λ place lt.
      let before = draft.marks place lt in
      let a = marks_push (is_at place) closed g in
      let b = marks_push (is_at place) closed (with_bounds g bounds) in
      omega (arith, before, a, b);
}

pub had_added : (lengths : List ℕ) (closed : List Group) (g : Group) (groups marks : List ℕ) (m : Mark) → IsDraft (draft_with closed (Some g) groups marks) → AreGroups lengths (closed ++ with_mark g m ∷ []) → MayAddTo lengths (draft_with closed (Some g) groups marks) g m
had_added lengths closed g groups marks m draft are =
    let all = all_at (AreOf lengths) closed (with_mark g m) [] are.marks in
    let is_mark = all_at (IsMark lengths g.kind) g.marks m [] all in
    record {
      is_mark = is_mark;
      rises = λ some.
          let many = length-map g.marks mark_place in
          let up : IsStrictlyIncreasing (map mark_place g.marks ++ mark_place m ∷ []) = subst IsStrictlyIncreasing (map-append mark_place g.marks (m ∷ [])) (all_at Rise closed (with_mark g m) [] are.rising) in
          let less = si_last (map mark_place g.marks) (mark_place m) up (omega (arith, some, many)) in
          let at = last_mark g.marks m some in
          let last = get_or g.marks (length g.marks - 1) m in
          let is = all_front (IsMark lengths g.kind) g.marks (m ∷ []) all (length g.marks - 1) m (omega arith) in
          before_place last m is.image is_mark.image (omega (arith, at, less));
      few =
          let p = is_at (kind_place m.kind) in
          let a = marks_push p closed g in
          let b = marks_push p closed (with_mark g m) in
          let c = count_push p g.marks m in
          let one = bit_yes p m (eqb-refl (kind_place m.kind)) in
          let count = draft.marks (kind_place m.kind) (kind_below m.kind) in
          let most = are.few_marks m.kind in
          omega (arith, a, b, c, one, count, most);
    }

-- what a draft counts, with one more mark
groups_added : (place : ℕ) (closed : List Group) (g : Group) (m : Mark) → count_by (is_of place) (closed ++ with_mark g m ∷ []) ≡ count_by (is_of place) (closed ++ g ∷ [])
groups_added place closed g m =
    let a = count_push (is_of place) closed g in
    let b = count_push (is_of place) closed (with_mark g m) in
    let same : bit (is_of place) g ≡ bit (is_of place) (with_mark g m) = bits g.kind place g.bounds g.bounds g.marks (g.marks ++ m ∷ []) in
    omega (arith, a, b, same)

marks_added : (place : ℕ) (closed : List Group) (g : Group) (m : Mark) → count_by (is_at place) (marks_in (closed ++ with_mark g m ∷ [])) ≡ count_by (is_at place) (marks_in (closed ++ g ∷ [])) + bit (is_at place) m
marks_added place closed g m =
    let a = marks_push (is_at place) closed g in
    let b = marks_push (is_at place) closed (with_mark g m) in
    let c = count_push (is_at place) g.marks m in
    omega (arith, a, b, c)

pub draft_added : (closed : List Group) (g : Group) (groups marks : List ℕ) (m : Mark) (p : ℕ) → p ≡ kind_place m.kind → IsDraft (draft_with closed (Some g) groups marks) →
    IsDraft (draft_with closed (Some (with_mark g m)) groups (set marks p (get_or marks p 0 + 1)))
draft_added closed g groups marks m p is draft = record {
  none = λ e. absurd (let no : ⊥ = cc in no);
  kinds = length-set marks p (get_or marks p 0 + 1) ∙ draft.kinds;
  groups = λ place lt. draft.groups place lt ∙ sym (groups_added place closed g m);
  marks = λ place lt.
      let before = draft.marks place lt in
      let after = marks_added place closed g m in
      let many = draft.kinds in
      elim (cases_Bool (kind_place m.kind == place)) [
        | inl equal ↦ (
            let at : kind_place m.kind ≡ place = eqb-true (kind_place m.kind) place equal in
            let here : place ≡ p = sym at ∙ sym is in
            let one = bit_yes (is_at place) m equal in
            let now : get_or (set marks p (get_or marks p 0 + 1)) place 0 ≡ get_or marks p 0 + 1 = get_or-set_at marks p place (get_or marks p 0 + 1) 0 here (omega arith) in
            let same : get_or marks p 0 ≡ get_or marks place 0 = ap (λ (i : ℕ). get_or marks i 0) (sym here) in
            omega (arith, before, after, one, now, same)
            )
        | inr other ↦ (
            let none = bit_no (is_at place) m other in
            let apart : place ≢ p = λ e. no_place (kind_place m.kind) place other (sym is ∙ sym e) in
            let now = get_or-set_other marks p place (get_or marks p 0 + 1) 0 apart in
            omega (arith, before, after, none, now)
            )
      ];
}
