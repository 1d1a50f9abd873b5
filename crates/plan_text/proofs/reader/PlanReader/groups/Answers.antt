use Rattle.std.proofs.Common.{◌≡◌, ◌≤◌, ◌<◌, ◌==◌, ◌||◌, ◌∷◌, ◌++◌, [], Bool, true, false, List, ℕ, count_by, get_or, length, ap, sym, refl, subst, ◌∙◌, arith, length-append, Option, None, Some, MatchOption, IfSome, inl, inr}
use Rattle.std.specs.List.{flat_map}
use Rattle.std.specs.Option.{option_map}
use Rattle.std.proofs.lemmas.Result.{err_from_is_err_and}
use Rattle.landmark_rules.specs.declared.marks.Group.{Group}
use Rattle.landmark_rules.specs.declared.marks.Mark.{Mark}
use Rattle.landmark_rules.specs.Groups.{AreGroups, group_place, most_groups}
use Rattle.mark_kinds.specs.declared.table.GroupKind.{GroupKind}
use Rattle.mark_kinds.specs.declared.table.GroupKind.TheVariants.{Gpt as GptGroup}
use Rattle.mark_kinds.proofs.Places.{group_below}
use Rattle.plan_text.specs.declared.draft.Draft.{Draft}
use Rattle.plan_text.specs.declared.entry.Entry.{Entry}
use Rattle.plan_text.specs.declared.entry.Entry.TheVariants.{Bounds as BoundsEntry, Done, Group as GroupEntry, Mark as MarkEntry}
use Rattle.plan_text.specs.Drafts.{AreGroupsWith, IsDraft, IsEntry, IsFresh, MayAddTo, MayBegin, MayEnd, MayFollow, drafted, empty_group, entry_line, with_bounds, with_mark, with_open}
use Rattle.plan_text.specs.PlanText.{group_lines, groups_lines, says_more, some_bounds}
use Rattle.plan_text.proofs.GroupRules.{draft_with, may_add, may_begin, may_bound, no_groups}
use Rattle.plan_text.proofs.GroupSteps.{are_no_bounds, bounds_alike, bounds_begun, bounds_last, held, more_bounds, more_groups, more_marks, no_bounds, or_true, says_begun, stands_entry}
use Rattle.plan_text.proofs.Refusals.{Went, is_read, nowhere, refused, went, went_on}
use Rattle.plan_text.proofs.reader.PlanReader.groups.Goals as goal

-- a mark that is added to the last group of a draft
added : (lengths : List ℕ) (d : Draft) (mark : Mark) (g : Group) → d.last ≡ Some g → IsDraft d → AreGroups lengths (drafted d) → MayAddTo lengths d g mark → AreGroups lengths (d.closed ++ with_mark g mark ∷ [])
added lengths d mark g last draft are may =
    let is : IsDraft (draft_with d.closed (Some g) d.groups d.marks) = subst (λ (x : Option Group). IsDraft (draft_with d.closed x d.groups d.marks)) last draft in
    let all : AreGroups lengths (d.closed ++ g ∷ []) = subst (λ (x : Option Group). AreGroups lengths (with_open d.closed x)) last are in
    may_add lengths d.closed g d.groups d.marks mark is all record { is_mark = may.is_mark; rises = may.rises; few = may.few }

-- an entry that may follow a group that has just begun
after_begun : (third delayed : Bool) (lengths : List ℕ) (new : Draft) (gs : List Group) (kind : GroupKind) → new.last ≡ Some (empty_group kind) → drafted new ≡ gs ++ empty_group kind ∷ [] → (third ≡ false → says_more delayed gs ≡ false) →
    (entry : Entry) × (IsEntry entry × MayFollow third delayed lengths new entry)
after_begun false delayed lengths new gs kind last all bare = (Done, (tt, ap (says_more delayed) all ∙ says_begun delayed gs kind ∙ bare refl))
after_begun true delayed lengths new gs kind last all bare =
    (BoundsEntry no_bounds, (are_no_bounds, (refl, subst (λ (x : Option Group). MatchOption x ⊥ IsFresh) (sym last) record { bare = refl; empty = refl })))

-- and after a mark
after_marked : (third delayed : Bool) (lengths : List ℕ) (d new : Draft) (g : Group) (mark : Mark) → d.last ≡ Some g → new.last ≡ Some (with_mark g mark) → new.groups ≡ d.groups → says_more delayed (drafted new) ≡ says_more delayed (drafted d) →
    (third ≡ false → says_more delayed (drafted d) ≡ false) → MayEnd third delayed d → (entry : Entry) × (IsEntry entry × MayFollow third delayed lengths new entry)
after_marked false delayed lengths d new g mark was last groups same bare ends = (Done, (tt, same ∙ bare refl))
after_marked true delayed lengths d new g mark was last groups same bare ends = elim (ends refl) [
  | inl some ↦ (Done, (tt, same ∙ some))
  | inr later ↦ (
      let kind = later.0 in
      let order : IfSome (Some g) (λ group. group_place group.kind ≤ group_place kind) = subst (λ (x : Option Group). IfSome x (λ group. group_place group.kind ≤ group_place kind)) was later.1.order in
      let may : MayBegin new kind = record {
        order = subst (λ (x : Option Group). IfSome x (λ group. group_place group.kind ≤ group_place kind)) (sym last) order;
        few = subst (λ (ns : List ℕ). get_or ns (group_place kind) 0 < most_groups kind) (sym groups) later.1.few;
      } in
      (GroupEntry kind, (tt, may))
      )
]

-- before the first
at_first : (third delayed : Bool) (lengths : List ℕ) (draft : Draft) → (third ≡ false → delayed ≡ false) → IsDraft draft → drafted draft ≡ [] → draft.last ≡ None → (entry : Entry) × (IsEntry entry × MayFollow third delayed lengths draft entry)
at_first false delayed lengths draft once is none last = (Done, (tt, ap (says_more delayed) none ∙ ap (λ (b : Bool). b || false) (once refl)))
at_first true delayed lengths draft once is none last =
    let count = is.groups (group_place GptGroup) (group_below GptGroup) in
    let empty : count_by (λ group. group_place group.kind == group_place GptGroup) (drafted draft) ≡ 0 = ap (λ (gs : List Group). count_by (λ group. group_place group.kind == group_place GptGroup) gs) none in
    let may : MayBegin draft GptGroup = record {
      order = subst (λ (x : Option Group). IfSome x (λ group. group_place group.kind ≤ group_place GptGroup)) (sym last) tt;
      few = omega (arith, count, empty);
    } in
    (GroupEntry GptGroup, (tt, may))

last_of_none : (draft : Draft) → drafted draft ≡ [] → draft.last ≡ None
last_of_none draft none = known draft.closed draft.last none
  where
    known : (closed : List Group) (last : Option Group) → with_open closed last ≡ [] → last ≡ None
    known closed None e = refl
    known closed (Some g) e = let many = length-append closed (g ∷ []) in let same = ap length e in absurd (omega arith)

pub returns-in_err-entry : goal.returns-in_err-entry
returns-in_err-entry c =
    let d = c.loop-draft.draft in
    let p = err_from_is_err_and c.from_residual.result c.from_residual.ensures.1 in
    rw (p.1, p.2) (refused (λ (e : Entry). IsEntry e × MayFollow c.args.third c.args.delayed c.args.lengths.now d e) (λ e. entry_line e ∷ []) (AreGroupsWith c.args.third c.args.delayed c.args.lengths.now) groups_lines (flat_map group_lines (drafted d)) c.args.self.now c.loop-draft.self c.in_err-entry.field-0.0
    (stands_entry c.args.third c.args.delayed c.args.lengths.now d.closed d.last d.groups d.marks c.requires.lengths c.loop-draft.invariant.draft c.loop-draft.invariant.groups c.loop-draft.invariant.bare) c.loop-draft.invariant.went c.in_err-entry.ensures)

pub returns-in-Done : goal.returns-in-Done
returns-in-Done c =
    let gs = drafted c.loop-draft.draft in
    let some : MayFollow c.args.third c.args.delayed c.args.lengths.now c.loop-draft.draft Done = subst (MayFollow c.args.third c.args.delayed c.args.lengths.now c.loop-draft.draft) c.in-Done.is c.in_ok-entry.ensures.is_value.1 in
    rw c.in_ok-finish-in-Done.ensures (is_read (AreGroupsWith c.args.third c.args.delayed c.args.lengths.now) groups_lines gs (c.loop-draft.invariant.groups, some)
    (subst (λ (e : Entry). Went c.args.self.now c.entry.new.self (flat_map group_lines gs ++ entry_line e ∷ [])) c.in-Done.is (went_on c.loop-draft.invariant.went (went c.in_ok-entry.ensures))))

pub loop-draft-preserved-in_ok-begin-in-Group : goal.loop-draft-preserved-in_ok-begin-in-Group
loop-draft-preserved-in_ok-begin-in-Group c =
    let d = c.loop-draft.draft in
    let new = c.begin.new.draft in
    let gs = drafted d in
    let kind = c.in-Group.kind in
    let all : drafted new ≡ gs ++ empty_group kind ∷ [] = ap (λ (xs : List Group). with_open xs new.last) c.in_ok-begin-in-Group.ensures.closed ∙ ap (λ (x : Option Group). with_open gs x) c.in_ok-begin-in-Group.ensures.last in
    let may : MayFollow c.args.third c.args.delayed c.args.lengths.now d (GroupEntry kind) = subst (MayFollow c.args.third c.args.delayed c.args.lengths.now d) c.in-Group.is c.in_ok-entry.ensures.is_value.1 in
    let over = subst (λ (e : Entry). Went c.args.self.now c.entry.new.self (flat_map group_lines gs ++ entry_line e ∷ [])) c.in-Group.is (went_on c.loop-draft.invariant.went (went c.in_ok-entry.ensures)) in
    record {
      draft = c.in_ok-begin-in-Group.ensures.draft;
      groups = subst (AreGroups c.args.lengths.now) (sym all) (may_begin c.args.lengths.now d.closed d.last d.groups d.marks kind None tt c.loop-draft.invariant.draft c.loop-draft.invariant.groups may);
      some = c.loop-draft.invariant.some ∙ sym (bounds_begun gs kind) ∙ ap some_bounds (sym all);
      bare = λ e. ap (says_more c.args.delayed) all ∙ says_begun c.args.delayed gs kind ∙ c.loop-draft.invariant.bare e;
      one = after_begun c.args.third c.args.delayed c.args.lengths.now new gs kind c.in_ok-begin-in-Group.ensures.last all c.loop-draft.invariant.bare;
      went = subst (λ (xs : List Group). Went c.args.self.now c.entry.new.self (flat_map group_lines xs)) (sym all) (subst (λ (ls : List (List ℕ)). Went c.args.self.now c.entry.new.self ls) (sym (more_groups gs kind)) over);
    }

pub loop-draft-preserved : goal.loop-draft-preserved
loop-draft-preserved c =
    let d = c.loop-draft.draft in
    let new = c.add.new.draft in
    let mark = c.in-Mark.mark in
    let may : MayFollow c.args.third c.args.delayed c.args.lengths.now d (MarkEntry mark) = subst (MayFollow c.args.third c.args.delayed c.args.lengths.now d) c.in-Mark.is c.in_ok-entry.ensures.is_value.1 in
    let at = held (λ (g : Group). MayAddTo c.args.lengths.now d g mark) d.last may.0 in
    let g = at.0 in
    let was : drafted d ≡ d.closed ++ g ∷ [] = ap (λ (x : Option Group). with_open d.closed x) at.1 in
    let all : drafted new ≡ d.closed ++ with_mark g mark ∷ [] =
    ap (λ (xs : List Group). with_open xs new.last) c.in_ok-add-in-Mark.ensures.closed
    ∙ ap (λ (x : Option Group). with_open d.closed x) (c.in_ok-add-in-Mark.ensures.last ∙ ap (λ (x : Option Group). option_map (λ group. with_mark group mark) x) at.1) in
    let over = subst (λ (e : Entry). Went c.args.self.now c.entry.new.self (flat_map group_lines (drafted d) ++ entry_line e ∷ [])) c.in-Mark.is (went_on c.loop-draft.invariant.went (went c.in_ok-entry.ensures)) in
    let last : new.last ≡ Some (with_mark g mark) = c.in_ok-add-in-Mark.ensures.last ∙ ap (λ (x : Option Group). option_map (λ group. with_mark group mark) x) at.1 in
    let same : some_bounds (drafted new) ≡ some_bounds (drafted d) = ap some_bounds all ∙ bounds_alike d.closed (with_mark g mark) g refl ∙ ap some_bounds (sym was) in
    let more : says_more c.args.delayed (drafted new) ≡ says_more c.args.delayed (drafted d) = ap (λ (b : Bool). c.args.delayed || b) same in
    record {
      draft = c.in_ok-add-in-Mark.ensures.draft;
      groups = subst (AreGroups c.args.lengths.now) (sym all) (added c.args.lengths.now d mark g at.1 c.loop-draft.invariant.draft c.loop-draft.invariant.groups at.2);
      some = c.loop-draft.invariant.some ∙ sym same;
      bare = λ e. more ∙ c.loop-draft.invariant.bare e;
      one = after_marked c.args.third c.args.delayed c.args.lengths.now d new g mark at.1 last c.in_ok-add-in-Mark.ensures.groups more c.loop-draft.invariant.bare may.1;
      went = subst (λ (xs : List Group). Went c.args.self.now c.entry.new.self (flat_map group_lines xs)) (sym all)
          (subst (λ (ls : List (List ℕ)). Went c.args.self.now c.entry.new.self ls) (sym (more_marks d.closed g mark)) (subst (λ (xs : List Group). Went c.args.self.now c.entry.new.self (flat_map group_lines xs ++ entry_line (MarkEntry mark) ∷ [])) was over));
    }

pub loop-draft-init : goal.loop-draft-init
loop-draft-init c =
    let d = c.no_groups-draft.result in
    let none = c.no_groups-draft.ensures.none in
    record {
      draft = c.no_groups-draft.ensures.draft;
      groups = subst (AreGroups c.args.lengths.now) (sym none) (no_groups c.args.lengths.now);
      some = ap some_bounds (sym none);
      bare = λ e. ap (says_more c.args.delayed) none ∙ ap (λ (b : Bool). b || false) (c.requires.delayed e);
      one = at_first c.args.third c.args.delayed c.args.lengths.now d c.requires.delayed c.no_groups-draft.ensures.draft none (last_of_none d none);
      went = subst (λ (xs : List Group). Went c.args.self.now c.args.self.now (flat_map group_lines xs)) (sym none) (nowhere c.args.self.now);
    }

pub loop-draft-preserved-in-Bounds : goal.loop-draft-preserved-in-Bounds
loop-draft-preserved-in-Bounds c =
    let d = c.loop-draft.draft in
    let new = c.bound.new.draft in
    let bounds = c.in-Bounds.bounds in
    let entry : IsEntry (BoundsEntry bounds) = subst IsEntry c.in-Bounds.is c.in_ok-entry.ensures.is_value.0 in
    let may : MayFollow c.args.third c.args.delayed c.args.lengths.now d (BoundsEntry bounds) = subst (MayFollow c.args.third c.args.delayed c.args.lengths.now d) c.in-Bounds.is c.in_ok-entry.ensures.is_value.1 in
    let at = held IsFresh d.last may.1 in
    let g = at.0 in
    let was : drafted d ≡ d.closed ++ g ∷ [] = ap (λ (x : Option Group). with_open d.closed x) at.1 in
    let all : drafted new ≡ d.closed ++ with_bounds g bounds ∷ [] =
    ap (λ (xs : List Group). with_open xs new.last) c.bound.ensures.closed
    ∙ ap (λ (x : Option Group). with_open d.closed x) (c.bound.ensures.last ∙ ap (λ (x : Option Group). option_map (λ group. with_bounds group bounds) x) at.1) in
    let some : some_bounds (drafted new) ≡ true = ap some_bounds all ∙ bounds_last d.closed g.kind bounds g.marks [] in
    let over = subst (λ (e : Entry). Went c.args.self.now c.entry.new.self (flat_map group_lines (drafted d) ++ entry_line e ∷ [])) c.in-Bounds.is (went_on c.loop-draft.invariant.went (went c.in_ok-entry.ensures)) in
    record {
      draft = c.bound.ensures.draft;
      groups = subst (AreGroups c.args.lengths.now) (sym all) (may_bound c.args.lengths.now d.closed g bounds entry (subst (AreGroups c.args.lengths.now) was c.loop-draft.invariant.groups));
      some = sym some;
      bare = λ e. absurd (let no : true ≡ false = sym may.0 ∙ e in let never : ⊥ = cc in never);
      one = (Done, (tt, ap (λ (b : Bool). c.args.delayed || b) some ∙ or_true c.args.delayed ∙ sym may.0));
      went = subst (λ (xs : List Group). Went c.args.self.now c.entry.new.self (flat_map group_lines xs)) (sym all)
          (subst (λ (ls : List (List ℕ)). Went c.args.self.now c.entry.new.self ls) (sym (more_bounds d.closed g bounds at.2)) (subst (λ (xs : List Group). Went c.args.self.now c.entry.new.self (flat_map group_lines xs ++ entry_line (BoundsEntry bounds) ∷ [])) was over));
    }
