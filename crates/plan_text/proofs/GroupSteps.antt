-- The lines of groups, one after the other.
use Rattle.std.proofs.Common.{◌≡◌, ◌<◌, ◌^◌, ◌+◌, ℕ, zero, suc, Bool, true, false, ◌||◌, lit<, ap₂, set, IfSome, List, [], ◌∷◌, ◌++◌, All, get_or, length, map, slice_get, codes, refl, sym, ap, subst, ◌∙◌, arith, append_assoc, append-nil, length-append, Option, None, Some, MatchOption, IsSomeAnd, inl, inr}
use Rattle.std.specs.List.{flat_map}
use Rattle.std.proofs.lemmas.List.{map-append}
use Rattle.std.proofs.lemmas.List.Elements.{All-head, All-tail}
use Rattle.std.proofs.lemmas.List.Concat.{flat_map-append}
use Rattle.std.proofs.lemmas.List.Folds.{list_any-append}
use Rattle.std.specs.Option.{is_some}
use Rattle.landmark_rules.specs.declared.marks.Group.{Group}
use Rattle.mark_kinds.specs.declared.table.GroupKind.{GroupKind}
use Rattle.landmark_rules.specs.declared.marks.Mark.{Mark}
use Rattle.landmark_rules.specs.declared.marks.MarkBounds.{MarkBounds}
use Rattle.landmark_rules.specs.Groups.{AreGroups, AreMarkBounds, IsMark, kind_place}
use Rattle.search_plan.specs.Plans.{AreLengths}
use Rattle.plan_text.specs.declared.draft.Draft.{Draft}
use Rattle.plan_text.specs.declared.entry.Entry.{Entry}
use Rattle.plan_text.specs.declared.entry.Entry.TheVariants.{Bounds as BoundsEntry, Done, Group as GroupEntry, Mark as MarkEntry}
use Rattle.plan_text.specs.Drafts.{AreGroupsWith, IsDraft, IsEntry, IsFresh, IsSpelledMark, MayAddTo, MayBegin, MayEnd, MayFollow, empty_group, entry_line, with_bounds, with_mark, with_open}
use Rattle.plan_text.specs.PlanText.{bounds_line, bounds_lines, group_lines, groups_lines, mark_line, says_more, some_bounds}
use Rattle.plan_text.proofs.Grouping.{AreSpelled, HasBounds, HasGroup, HasMark, goes, group_line, group_with}
use Rattle.plan_text.proofs.GroupRules.{front, draft_added, draft_with, may_begin, may_bound, had_begun, had_gone_on, may_add, had_added}
use Rattle.plan_text.proofs.Refusals.{StandsIn, one_line}

-- a group that may be given bounds has nothing but its kind
fresh_is : (g : Group) → IsFresh g → g ≡ empty_group g.kind
fresh_is g fresh = let same : group_with g.kind g.bounds g.marks ≡ group_with g.kind None [] = ap₂ (λ (b : Option MarkBounds) (ms : List Mark). group_with g.kind b ms) fresh.bare fresh.empty in same

-- which lists of groups have bounds
pub bounds_after : (xs ys : List Group) → some_bounds (xs ++ ys) ≡ (some_bounds xs || some_bounds ys)
bounds_after xs ys = list_any-append (λ (group : Group). is_some group.bounds) xs ys

pub or_true : (b : Bool) → (b || true) ≡ true
or_true true = refl
or_true false = refl

pub bounds_last : (gs : List Group) (kind : GroupKind) (bounds : MarkBounds) (marks : List Mark) (rest : List Group) → some_bounds (gs ++ group_with kind (Some bounds) marks ∷ rest) ≡ true
bounds_last gs kind bounds marks rest = bounds_after gs (group_with kind (Some bounds) marks ∷ rest) ∙ or_true (some_bounds gs)

-- a group whose bounds are another's stands for it
pub bounds_alike : (closed : List Group) (g h : Group) → g.bounds ≡ h.bounds → some_bounds (closed ++ g ∷ []) ≡ some_bounds (closed ++ h ∷ [])
bounds_alike closed g h same =
    bounds_after closed (g ∷ []) ∙ ap (λ (b : Option MarkBounds). some_bounds closed || (is_some b || false)) same ∙ sym (bounds_after closed (h ∷ []))

or_false : (b : Bool) → (b || false) ≡ b
or_false true = refl
or_false false = refl

-- a plan with such a group says more
pub says_last : (delayed : Bool) (gs : List Group) (kind : GroupKind) (bounds : MarkBounds) (marks : List Mark) (rest : List Group) → says_more delayed (gs ++ group_with kind (Some bounds) marks ∷ rest) ≡ true
says_last delayed gs kind bounds marks rest = ap (λ (b : Bool). delayed || b) (bounds_last gs kind bounds marks rest) ∙ or_true delayed

-- and one with a group of no bounds says what it said
pub says_alike : (delayed : Bool) (closed : List Group) (g h : Group) → g.bounds ≡ h.bounds → says_more delayed (closed ++ g ∷ []) ≡ says_more delayed (closed ++ h ∷ [])
says_alike delayed closed g h same = ap (λ (b : Bool). delayed || b) (bounds_alike closed g h same)

pub bounds_begun : (gs : List Group) (kind : GroupKind) → some_bounds (gs ++ empty_group kind ∷ []) ≡ some_bounds gs
bounds_begun gs kind = bounds_after gs (empty_group kind ∷ []) ∙ or_false (some_bounds gs)

pub says_begun : (delayed : Bool) (gs : List Group) (kind : GroupKind) → says_more delayed (gs ++ empty_group kind ∷ []) ≡ says_more delayed gs
says_begun delayed gs kind = ap (λ (b : Bool). delayed || b) (bounds_begun gs kind)

pub no_bounds : MarkBounds
no_bounds = record { misfits = 0; least = 0 }

pub are_no_bounds : AreMarkBounds no_bounds
unfolding no_bounds
are_no_bounds = record { misfits = lit< tt; least = lit< tt }

abbrev IsShort : ℕ → Type 0
IsShort n = n < 2 ^ 55

short_within : (sector : ℕ) (ls : List ℕ) (i : ℕ) → All (λ n. n < 2 ^ 55) ls → IsSomeAnd (slice_get ls i) (λ n. sector < n) → sector < 2 ^ 55
short_within sector [] i short h = absurd h
short_within sector (l ∷ ls) zero short h = let first = All-head IsShort l ls short in omega (arith, first, h)
short_within sector (l ∷ ls) (suc i) short h = short_within sector ls i (All-tail IsShort l ls short) h

pub is_spelled : (lengths : List ℕ) (kind : GroupKind) (mark : Mark) → AreLengths lengths → IsMark lengths kind mark → IsSpelledMark mark
is_spelled lengths kind mark are is = record {
  image = (let small = is.image in omega arith);
  sector = (let small = short_within mark.sector lengths mark.image are.short is.sector in omega arith);
  rule = is.rule;
}

pub are_spelled : (lengths : List ℕ) (gs : List Group) → AreLengths lengths → AreGroups lengths gs → All AreSpelled gs
are_spelled lengths gs lens are i d lt = (λ j e below. is_spelled lengths (get_or gs i d).kind (get_or (get_or gs i d).marks j e) lens (are.marks i d lt j e below), are.bounds i d lt)

-- the lines of groups with one more group, with bounds of the last group, and with one more mark
pub more_groups : (gs : List Group) (kind : GroupKind) → flat_map group_lines (gs ++ empty_group kind ∷ []) ≡ flat_map group_lines gs ++ group_line kind ∷ []
more_groups gs kind = flat_map-append group_lines gs (empty_group kind ∷ [])

more_bounded : (gs : List Group) (kind : GroupKind) (bounds : MarkBounds) → flat_map group_lines (gs ++ group_with kind (Some bounds) [] ∷ []) ≡ flat_map group_lines gs ++ group_line kind ∷ bounds_line bounds ∷ []
more_bounded gs kind bounds = flat_map-append group_lines gs (group_with kind (Some bounds) [] ∷ [])

pub more_bounds : (closed : List Group) (g : Group) (bounds : MarkBounds) → IsFresh g → flat_map group_lines (closed ++ with_bounds g bounds ∷ []) ≡ flat_map group_lines (closed ++ g ∷ []) ++ bounds_line bounds ∷ []
more_bounds closed g bounds fresh =
    let was : g ≡ empty_group g.kind = fresh_is g fresh in
    let now : with_bounds g bounds ≡ group_with g.kind (Some bounds) [] = ap (λ (ms : List Mark). group_with g.kind (Some bounds) ms) fresh.empty in
    ap (λ (x : Group). flat_map group_lines (closed ++ x ∷ [])) now
    ∙ more_bounded closed g.kind bounds
    ∙ sym (append_assoc (flat_map group_lines closed) (group_line g.kind ∷ []) (bounds_line bounds ∷ []))
    ∙ ap (λ (ls : List (List ℕ)). ls ++ bounds_line bounds ∷ []) (sym (more_groups closed g.kind))
    ∙ ap (λ (x : Group). flat_map group_lines (closed ++ x ∷ []) ++ bounds_line bounds ∷ []) (sym was)

pub more_marks : (closed : List Group) (g : Group) (m : Mark) → flat_map group_lines (closed ++ with_mark g m ∷ []) ≡ flat_map group_lines (closed ++ g ∷ []) ++ mark_line m ∷ []
more_marks closed g m =
    let marked : group_lines (with_mark g m) ≡ group_lines g ++ mark_line m ∷ [] =
    ap (λ (ls : List (List ℕ)). group_line g.kind ∷ (bounds_lines g.bounds ++ ls)) (map-append mark_line g.marks (m ∷ []))
    ∙ ap (λ (ls : List (List ℕ)). group_line g.kind ∷ ls) (sym (append_assoc (bounds_lines g.bounds) (map mark_line g.marks) (mark_line m ∷ []))) in
    flat_map-append group_lines closed (with_mark g m ∷ [])
    ∙ ap (λ (ls : List (List ℕ)). flat_map group_lines closed ++ ls) (append-nil (group_lines (with_mark g m)) ∙ marked ∙ ap (λ (ls : List (List ℕ)). ls ++ mark_line m ∷ []) (sym (append-nil (group_lines g))))
    ∙ sym (append_assoc (flat_map group_lines closed) (flat_map group_lines (g ∷ [])) (mark_line m ∷ []))
    ∙ ap (λ (ls : List (List ℕ)). ls ++ mark_line m ∷ []) (sym (flat_map-append group_lines closed (g ∷ [])))

-- lists with the same last element
same_push : {A : Type 0} (xs ys : List A) (x y : A) → xs ++ x ∷ [] ≡ ys ++ y ∷ [] → (xs ≡ ys) × (x ≡ y)
same_push [] [] x y e = (refl, cc)
same_push [] (z ∷ ys) x y e = let same = ap length e in let more = length-append ys (y ∷ []) in absurd (omega arith)
same_push (z ∷ xs) [] x y e = let same = ap length e in let more = length-append xs (x ∷ []) in absurd (omega arith)
same_push (w ∷ xs) (z ∷ ys) x y e =
    let head : w ≡ z = cc in
    let tail : xs ++ x ∷ [] ≡ ys ++ y ∷ [] = cc in
    let both = same_push xs ys x y tail in
    let same : xs ≡ ys = both.0 in
    (cc, both.1)

pub held : {A : Type 0} (P : A → Type 0) (last : Option A) → MatchOption last ⊥ P → (g : A) × (last ≡ Some g) × P g
held P None h = absurd h
held P (Some g) h = (g, refl, h)

Follows : Bool → Bool → List ℕ → Draft → List (List ℕ) → Type 0
Follows third delayed lengths draft tail = (e : Entry) × (r : List (List ℕ)) × (IsEntry e × MayFollow third delayed lengths draft e) × (tail ≡ (entry_line e ∷ []) ++ r)

after_group : (third delayed : Bool) (lengths : List ℕ) (closed : List Group) (last : Option Group) (groups marks : List ℕ) (qs : List Group) (tail : List (List ℕ)) → IsDraft (draft_with closed last groups marks) → AreGroups lengths qs → HasGroup (with_open closed last) qs tail →
    Follows third delayed lengths (draft_with closed last groups marks) tail
unfolding Follows
after_group third delayed lengths closed last groups marks qs tail draft are h =
    let whole : AreGroups lengths (with_open closed last ++ group_with h.0 h.1 h.2 ∷ h.3) = subst (AreGroups lengths) h.5 are in
    let first = front lengths (with_open closed last) h.0 h.1 None [] h.2 h.3 tt whole in
    (GroupEntry h.0, h.4, (tt, had_begun lengths closed last groups marks h.0 draft first), h.6)

-- the bounds of a group of a plan
bounds_at : (lengths : List ℕ) (closed : List Group) (g : Group) (rest : List Group) → AreGroups lengths (closed ++ g ∷ rest) → IfSome g.bounds AreMarkBounds
bounds_at lengths [] g rest are = All-head (λ (x : Group). IfSome x.bounds AreMarkBounds) g rest are.bounds
bounds_at lengths (h ∷ closed) g rest are = within closed (All-tail (λ (x : Group). IfSome x.bounds AreMarkBounds) h (closed ++ g ∷ rest) are.bounds)
  where
    within : (xs : List Group) → All (λ (x : Group). IfSome x.bounds AreMarkBounds) (xs ++ g ∷ rest) → IfSome g.bounds AreMarkBounds
    within [] all = All-head (λ (x : Group). IfSome x.bounds AreMarkBounds) g rest all
    within (x ∷ xs) all = within xs (All-tail (λ (x : Group). IfSome x.bounds AreMarkBounds) x (xs ++ g ∷ rest) all)

after_bounds : (third delayed : Bool) (lengths : List ℕ) (closed : List Group) (last : Option Group) (groups marks : List ℕ) (qs : List Group) (tail : List (List ℕ)) → IsDraft (draft_with closed last groups marks) → AreGroupsWith third delayed lengths qs → HasBounds (with_open closed last) qs tail →
    Follows third delayed lengths (draft_with closed last groups marks) tail
unfolding Follows
after_bounds third delayed lengths closed None groups marks qs tail draft are h =
    let none : closed ≡ [] = draft.none refl in
    let same = ap length (sym none ∙ h.6) in
    let more = length-append h.0 (group_with h.1 None [] ∷ []) in
    absurd (omega arith)
after_bounds third delayed lengths closed (Some g) groups marks qs tail draft are h =
    let both = same_push closed h.0 g (group_with h.1 None []) h.6 in
    let fresh : IsFresh g = record { bare = ap (λ (x : Group). x.bounds) both.1; empty = ap (λ (x : Group). x.marks) both.1 } in
    let whole : AreGroups lengths (h.0 ++ group_with h.1 (Some h.2) h.3 ∷ h.4) = subst (AreGroups lengths) h.7 are.0 in
    let is : third ≡ true = sym are.1 ∙ ap (says_more delayed) h.7 ∙ says_last delayed h.0 h.1 h.2 h.3 h.4 in
    (BoundsEntry h.2, h.5, (bounds_at lengths h.0 (group_with h.1 (Some h.2) h.3) h.4 whole, (is, fresh)), h.8)

-- groups that have bounds after the last group of a draft, where none of the draft has: one more group may begin
later_bounds : (third delayed : Bool) (lengths : List ℕ) (closed : List Group) (g : Group) (groups marks : List ℕ) (ms : List Mark) (rest : List Group) → IsDraft (draft_with closed (Some g) groups marks) → AreGroups lengths (closed ++ group_with g.kind g.bounds ms ∷ rest) →
    says_more delayed (closed ++ group_with g.kind g.bounds ms ∷ rest) ≡ third → MayEnd third delayed (draft_with closed (Some g) groups marks)
later_bounds third delayed lengths closed g groups marks ms [] draft are some is = inl (says_alike delayed closed g (group_with g.kind g.bounds ms) refl ∙ some ∙ is)
later_bounds third delayed lengths closed g groups marks ms (r ∷ rest) draft are some is =
    let apart : AreGroups lengths ((closed ++ group_with g.kind g.bounds ms ∷ []) ++ group_with r.kind r.bounds r.marks ∷ rest) = subst (AreGroups lengths) (sym (append_assoc closed (group_with g.kind g.bounds ms ∷ []) (r ∷ rest))) are in
    let first = front lengths (closed ++ group_with g.kind g.bounds ms ∷ []) r.kind r.bounds None [] r.marks rest tt apart in
    inr (r.kind, had_gone_on lengths closed g ms groups marks r.kind draft first)

after_mark : (third delayed : Bool) (lengths : List ℕ) (closed : List Group) (last : Option Group) (groups marks : List ℕ) (qs : List Group) (tail : List (List ℕ)) → AreLengths lengths → IsDraft (draft_with closed last groups marks) → AreGroupsWith third delayed lengths qs → HasMark (with_open closed last) qs tail →
    Follows third delayed lengths (draft_with closed last groups marks) tail
unfolding Follows
after_mark third delayed lengths closed None groups marks qs tail lens draft are h =
    let none : closed ≡ [] = draft.none refl in
    let same = ap length (sym none ∙ h.6) in
    let more = length-append h.0 (h.1 ∷ []) in
    absurd (omega arith)
after_mark third delayed lengths closed (Some g) groups marks qs tail lens draft are h =
    let both = same_push closed h.0 g h.1 h.6 in
    let at_closed : h.0 ≡ closed = sym both.0 in
    let at_last : h.1 ≡ g = sym both.1 in
    let m = h.2 in
    let is : qs ≡ closed ++ group_with g.kind g.bounds (g.marks ++ m ∷ h.3) ∷ h.4 =
    h.7 ∙ ap (λ (xs : List Group). xs ++ group_with h.1.kind h.1.bounds (h.1.marks ++ m ∷ h.3) ∷ h.4) at_closed ∙ ap (λ (x : Group). closed ++ group_with x.kind x.bounds (x.marks ++ m ∷ h.3) ∷ h.4) at_last in
    let there : AreGroups lengths (closed ++ group_with g.kind g.bounds (g.marks ++ m ∷ h.3) ∷ h.4) = subst (AreGroups lengths) is are.0 in
    let apart : AreGroups lengths (closed ++ group_with g.kind g.bounds ((g.marks ++ m ∷ []) ++ h.3) ∷ h.4) = subst (λ (ms : List Mark). AreGroups lengths (closed ++ group_with g.kind g.bounds ms ∷ h.4)) (sym (append_assoc g.marks (m ∷ []) h.3)) there in
    let bound = bounds_at lengths closed (group_with g.kind g.bounds (g.marks ++ m ∷ h.3)) h.4 there in
    let first = front lengths closed g.kind g.bounds g.bounds (g.marks ++ m ∷ []) h.3 h.4 bound apart in
    let may = had_added lengths closed g groups marks m draft first in
    let ends = later_bounds third delayed lengths closed g groups marks (g.marks ++ m ∷ h.3) h.4 draft there (ap (says_more delayed) (sym is) ∙ are.1) in
    (MarkEntry m, h.5, (is_spelled lengths g.kind m lens may.is_mark, (may, ends)), h.8)

-- a group of a kind may begin after a mark where it might before
pub still_begins : (closed : List Group) (g : Group) (m : Mark) (groups marks more : List ℕ) (kind : GroupKind) → MayBegin (draft_with closed (Some g) groups marks) kind → MayBegin (draft_with closed (Some (with_mark g m)) groups more) kind
still_begins closed g m groups marks more kind may = record { order = may.order; few = may.few }

-- some plan goes on with an entry that may follow
Whole : Bool → Bool → List ℕ → List Group → Entry → Type 0
Whole third delayed lengths gs e = (w : List Group) × (r : List (List ℕ)) × AreGroupsWith third delayed lengths w × (groups_lines w ≡ flat_map group_lines gs ++ ((entry_line e ∷ []) ++ r))

-- the groups of this list are such a plan's, whose lines begin so
ended : (third delayed : Bool) (lengths : List ℕ) (gs : List Group) (e : Entry) (w : List Group) (more : List (List ℕ)) → AreGroups lengths w → says_more delayed w ≡ third → flat_map group_lines w ≡ flat_map group_lines gs ++ entry_line e ∷ more → Whole third delayed lengths gs e
unfolding Whole
ended third delayed lengths gs e w more are some lines = (
  w,
  more ++ codes "done" ∷ [],
  (are, some),
  ap (λ (ls : List (List ℕ)). ls ++ codes "done" ∷ []) lines ∙ append_assoc (flat_map group_lines gs) (entry_line e ∷ more) (codes "done" ∷ []),
)

goes_on : (third delayed : Bool) (lengths : List ℕ) (closed : List Group) (last : Option Group) (groups marks : List ℕ) (kind : GroupKind) → IsDraft (draft_with closed last groups marks) → AreGroups lengths (with_open closed last) → (third ≡ false → says_more delayed (with_open closed last) ≡ false) →
    MayBegin (draft_with closed last groups marks) kind → Whole third delayed lengths (with_open closed last) (GroupEntry kind)
goes_on false delayed lengths closed last groups marks kind draft are bare may =
    ended false delayed lengths (with_open closed last) (GroupEntry kind) (with_open closed last ++ empty_group kind ∷ []) [] (may_begin lengths closed last groups marks kind None tt draft are may) (says_begun delayed (with_open closed last) kind ∙ bare refl) (more_groups (with_open closed last) kind)
goes_on true delayed lengths closed last groups marks kind draft are bare may =
    ended true delayed lengths (with_open closed last) (GroupEntry kind) (with_open closed last ++ group_with kind (Some no_bounds) [] ∷ []) (bounds_line no_bounds ∷ []) (may_begin lengths closed last groups marks kind (Some no_bounds) are_no_bounds draft are may)
    (says_last delayed (with_open closed last) kind no_bounds [] []) (more_bounded (with_open closed last) kind no_bounds)

marked_whole : (third delayed : Bool) (lengths : List ℕ) (closed : List Group) (g : Group) (m : Mark) → AreGroups lengths (closed ++ with_mark g m ∷ []) → says_more delayed (closed ++ g ∷ []) ≡ third → Whole third delayed lengths (closed ++ g ∷ []) (MarkEntry m)
marked_whole third delayed lengths closed g m are some = ended third delayed lengths (closed ++ g ∷ []) (MarkEntry m) (closed ++ with_mark g m ∷ []) [] are (says_alike delayed closed (with_mark g m) g refl ∙ some) (more_marks closed g m)

goes_on_marked : (third delayed : Bool) (lengths : List ℕ) (closed : List Group) (g : Group) (groups marks : List ℕ) (m : Mark) → IsDraft (draft_with closed (Some g) groups marks) → AreGroups lengths (closed ++ g ∷ []) → (third ≡ false → says_more delayed (closed ++ g ∷ []) ≡ false) →
    MayAddTo lengths (draft_with closed (Some g) groups marks) g m → MayEnd third delayed (draft_with closed (Some g) groups marks) → Whole third delayed lengths (closed ++ g ∷ []) (MarkEntry m)
goes_on_marked false delayed lengths closed g groups marks m draft are bare may ends = marked_whole false delayed lengths closed g m (may_add lengths closed g groups marks m draft are may) (bare refl)
goes_on_marked true delayed lengths closed g groups marks m draft are bare may ends =
    let marked = may_add lengths closed g groups marks m draft are may in
    elim (ends refl) [
      | inl some ↦ marked_whole true delayed lengths closed g m marked some
      | inr later ↦ (
          let p = kind_place m.kind in
          let more = set marks p (get_or marks p 0 + 1) in
          let after = draft_added closed g groups marks m p refl draft in
          let begins = still_begins closed g m groups marks more later.0 later.1 in
          let both = may_begin lengths closed (Some (with_mark g m)) groups more later.0 (Some no_bounds) are_no_bounds after marked begins in
          ended true delayed lengths (closed ++ g ∷ []) (MarkEntry m) ((closed ++ with_mark g m ∷ []) ++ group_with later.0 (Some no_bounds) [] ∷ []) (group_line later.0 ∷ bounds_line no_bounds ∷ []) both (says_last delayed (closed ++ with_mark g m ∷ []) later.0 no_bounds [] [])
          (more_bounded (closed ++ with_mark g m ∷ []) later.0 no_bounds ∙ ap (λ (ls : List (List ℕ)). ls ++ group_line later.0 ∷ bounds_line no_bounds ∷ []) (more_marks closed g m)
          ∙ append_assoc (flat_map group_lines (closed ++ g ∷ [])) (mark_line m ∷ []) (group_line later.0 ∷ bounds_line no_bounds ∷ []))
          )
    ]

pub stands_entry : (third delayed : Bool) (lengths : List ℕ) (closed : List Group) (last : Option Group) (groups marks : List ℕ) → AreLengths lengths → IsDraft (draft_with closed last groups marks) → AreGroups lengths (with_open closed last) → (third ≡ false → says_more delayed (with_open closed last) ≡ false) →
    StandsIn (λ (e : Entry). IsEntry e × MayFollow third delayed lengths (draft_with closed last groups marks) e) (λ e. entry_line e ∷ []) (AreGroupsWith third delayed lengths) groups_lines (flat_map group_lines (with_open closed last))
unfolding Follows Whole
stands_entry third delayed lengths closed last groups marks lens draft are bare = record {
  made = λ e p. wholes e last draft are bare p;
  shape = λ w tail is e. elim (goes (with_open closed last) w tail (are_spelled lengths (with_open closed last) lens are) (are_spelled lengths w lens is.0) e) [
    | inl h ↦ (Done, [], (tt, ap (says_more delayed) (sym h.0) ∙ is.1), h.1)
    | inr h ↦ elim h [
      | inl g ↦ after_group third delayed lengths closed last groups marks w tail draft is.0 g
      | inr g ↦ elim g [ inl b ↦ after_bounds third delayed lengths closed last groups marks w tail draft is b | inr m ↦ after_mark third delayed lengths closed last groups marks w tail lens draft is m ]
    ]
  ];
  apart = λ x y m more p q e. one_line entry_line x y m more e;
}
  where
    wholes : (e : Entry) (last : Option Group) → IsDraft (draft_with closed last groups marks) → AreGroups lengths (with_open closed last) → (third ≡ false → says_more delayed (with_open closed last) ≡ false) → IsEntry e × MayFollow third delayed lengths (draft_with closed last groups marks) e →
        Whole third delayed lengths (with_open closed last) e
    wholes Done last draft are bare p = (with_open closed last, [], (are, p.1), refl)
    wholes (GroupEntry kind) last draft are bare p = goes_on third delayed lengths closed last groups marks kind draft are bare p.1
    wholes (BoundsEntry b) None draft are bare p = absurd p.1.1
    wholes (BoundsEntry b) (Some g) draft are bare p =
        ended third delayed lengths (closed ++ g ∷ []) (BoundsEntry b) (closed ++ with_bounds g b ∷ []) [] (may_bound lengths closed g b p.0 are) (says_last delayed closed g.kind b g.marks [] ∙ sym p.1.0) (more_bounds closed g b p.1.1)
    wholes (MarkEntry m) None draft are bare p = absurd p.1.0
    wholes (MarkEntry m) (Some g) draft are bare p = goes_on_marked third delayed lengths closed g groups marks m draft are bare p.1.0 p.1.1
