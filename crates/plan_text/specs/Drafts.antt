-- Groups as they are read, and which line may come next.
use Rattle.std.specs.Prelude.{ℕ, Bool, true, ◌≡◌, ◌^◌, ◌<◌, ◌≤◌, ◌-◌, ◌⊎◌, ◌==◌, List, [], ◌∷◌, ◌++◌, codes, count_by, length, slice_index, slice_index_or, IfSome, MatchOption}
use Rattle.std.specs.declared.option.Option.{Option}
use Rattle.std.specs.declared.option.Option.TheVariants.{None, Some}
use Rattle.landmark_rules.specs.declared.marks.Group.{Group}
use Rattle.mark_kinds.specs.declared.table.GroupKind.{GroupKind}
use Rattle.landmark_rules.specs.declared.marks.Mark.{Mark}
use Rattle.landmark_rules.specs.declared.marks.MarkBounds.{MarkBounds}
use Rattle.landmark_rules.specs.Groups.{AreGroups, AreMarkBounds, IsMark, group_place, kind_place, marks_in, most_groups}
use Rattle.landmark_rules.specs.Rules.{IsRule}
use Rattle.mark_kinds.specs.declared.table.TheConstants.{GROUP_COUNT}
use Rattle.mark_kinds.specs.declared.table.TheConstants.{KIND_COUNT}
use Rattle.plan_text.specs.declared.draft.Draft.{Draft}
use Rattle.plan_text.specs.declared.entry.Entry.{Entry}
use Rattle.plan_text.specs.declared.entry.Entry.TheVariants.{Bounds as BoundsEntry, Done, Group as GroupEntry, Mark as MarkEntry}
use Rattle.plan_text.specs.PlanText.{bounds_line, mark_line, says_more}
use Rattle.value_text.specs.Spelling.{named}
use Rattle.landmark_text.specs.Names.{group_name}

-- groups over images of these lengths, of a plan of version 3 or of an earlier one, which has other delays than one or not
abbrev pub AreGroupsWith : Bool → Bool → List ℕ → List Group → Type 0
AreGroupsWith third delayed lengths groups = AreGroups lengths groups × (says_more delayed groups ≡ third)

-- a group of no marks
abbrev pub empty_group : GroupKind → Group
empty_group kind = record { kind = kind; marks = []; bounds = None }

-- a group with one more mark, and with bounds of its own
abbrev pub with_mark : Group → Mark → Group
with_mark group mark = record { kind = group.kind; marks = group.marks ++ mark ∷ []; bounds = group.bounds }

abbrev pub with_bounds : Group → MarkBounds → Group
with_bounds group bounds = record { kind = group.kind; marks = group.marks; bounds = Some bounds }

-- groups, and one that is open
abbrev pub with_open : List Group → Option Group → List Group
with_open groups None = groups
with_open groups (Some group) = groups ++ group ∷ []

-- all groups of a draft
abbrev pub drafted : Draft → List Group
drafted draft = with_open draft.closed draft.last

-- what a draft counts: groups and marks, by the place of their kind. Without an open group there is none
pub record IsDraft (draft : Draft) : Type 0 where
  pub none : draft.last ≡ None → draft.closed ≡ []
  pub kinds : length draft.marks ≡ KIND_COUNT
  pub groups : (place : ℕ) → place < GROUP_COUNT → slice_index draft.groups place ≡ count_by (λ group. group_place group.kind == place) (drafted draft)
  pub marks : (place : ℕ) → place < KIND_COUNT → slice_index draft.marks place ≡ count_by (λ mark. kind_place mark.kind == place) (marks_in (drafted draft))

-- the numbers of a mark have a spelling
pub record IsSpelledMark (mark : Mark) : Type 0 where
  pub image : mark.image < 2 ^ 8
  pub sector : mark.sector < 2 ^ 64
  pub rule : IsRule mark.rule

abbrev pub IsEntry : Entry → Type 0
IsEntry Done = Unit {0}
IsEntry (GroupEntry kind) = Unit {0}
IsEntry (BoundsEntry bounds) = AreMarkBounds bounds
IsEntry (MarkEntry mark) = IsSpelledMark mark

-- the line of an entry
abbrev pub entry_line : Entry → List ℕ
entry_line Done = codes "done"
entry_line (GroupEntry kind) = named (codes "group") (group_name kind)
entry_line (BoundsEntry bounds) = bounds_line bounds
entry_line (MarkEntry mark) = mark_line mark

-- a group of this kind may begin: kinds come in order, and each has a limit
pub record MayBegin (draft : Draft) (kind : GroupKind) : Type 0 where
  pub order : IfSome draft.last (λ group. group_place group.kind ≤ group_place kind)
  pub few : slice_index draft.groups (group_place kind) < most_groups kind

-- a mark comes before another of its group: by sector, and on one sector by image
abbrev pub IsBefore : Mark → Mark → Type 0
IsBefore mark other = (mark.sector < other.sector) ⊎ ((mark.sector ≡ other.sector) × (mark.image < other.image))

-- a mark may be added to the open group of a plan over images of these lengths
pub record MayAddTo (lengths : List ℕ) (draft : Draft) (group : Group) (mark : Mark) : Type 0 where
  pub is_mark : IsMark lengths group.kind mark
  pub rises : 0 < length group.marks → IsBefore (slice_index_or group.marks (length group.marks - 1) mark) mark
  pub few : slice_index draft.marks (kind_place mark.kind) < 4096

abbrev pub MayAdd : List ℕ → Draft → Mark → Type 0
MayAdd lengths draft mark = MatchOption draft.last ⊥ (λ group. MayAddTo lengths draft group mark)

-- bounds may be given to the open group: it has neither bounds nor marks yet
pub record IsFresh (group : Group) : Type 0 where
  pub bare : group.bounds ≡ None
  pub empty : group.marks ≡ []

abbrev pub MayBound : Draft → Type 0
MayBound draft = MatchOption draft.last ⊥ IsFresh

-- a group of some kind may begin
abbrev pub MayGoOn : Draft → Type 0
MayGoOn draft = (kind : GroupKind) × MayBegin draft kind

-- where version 3 has more to say than was read, a group may still begin
abbrev pub MayEnd : Bool → Bool → Draft → Type 0
MayEnd third delayed draft = third ≡ true → (says_more delayed (drafted draft) ≡ true) ⊎ MayGoOn draft

-- an entry may follow the groups of a draft: bounds stand in version 3 alone, and it ends where it has said more
abbrev pub MayFollow : Bool → Bool → List ℕ → Draft → Entry → Type 0
MayFollow third delayed lengths draft Done = says_more delayed (drafted draft) ≡ third
MayFollow third delayed lengths draft (GroupEntry kind) = MayBegin draft kind
MayFollow third delayed lengths draft (BoundsEntry bounds) = (third ≡ true) × MayBound draft
MayFollow third delayed lengths draft (MarkEntry mark) = MayAdd lengths draft mark × MayEnd third delayed draft
