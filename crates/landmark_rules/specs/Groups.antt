-- Groups of marks, the landmark test of a parameter set, and which groups a plan may have.
use Rattle.std.specs.Prelude.{ℕ, ◌≡◌, ◌+◌, ◌*◌, ◌≤◌, ◌<◌, ◌^◌, min, Bool, false, not, nat_le, ◌==◌, ◌&&◌, List, [], ◌∷◌, length, map, find, count_by, slice_get, All, IfSome, IsSomeAnd}
use Rattle.std.specs.List.{flat_map, list_all}
use Rattle.std.specs.List.Sorted.{IsNonDecreasing, IsStrictlyIncreasing}
use Rattle.std.specs.Option.{is_some, option_map_or}
use Rattle.std.specs.declared.option.Option.{Option}
use Rattle.raid_params.specs.declared.limits.TheConstants.{MOST}
use Rattle.raid_params.specs.declared.types.Geometry.{Geometry}
use Rattle.landmark_rules.specs.Marks.{sector_of}
use Rattle.landmark_rules.specs.Rules.{is_fit, IsRule}
use Rattle.landmark_rules.specs.declared.marks.Group.{Group}
use Rattle.landmark_rules.specs.declared.marks.Mark.{Mark}
use Rattle.landmark_rules.specs.declared.marks.MarkBounds.{MarkBounds}
use Rattle.landmark_rules.specs.declared.marks.MarkTests.{MarkTests}
use Rattle.mark_kinds.specs.declared.table.Begin.{Begin}
use Rattle.mark_kinds.specs.declared.table.Begin.TheVariants.{WithVolume, AtOrigins}
use Rattle.mark_kinds.specs.declared.table.GroupKind.{GroupKind}
use Rattle.mark_kinds.specs.declared.table.Kind.{Kind}
use Rattle.mark_kinds.specs.Table.{group_row}
pub use Rattle.mark_kinds.specs.Table.{group_of, group_place, kind_place, most_groups}

-- a mark lies where its rule lets it, from this origin; or it lies elsewhere. A mark that lies at no
-- volume sector does neither
abbrev pub mark_fits : Geometry → ℕ → ℕ → Mark → Bool
mark_fits geo end origin mark = option_map_or (λ v. is_fit mark.rule origin v) (sector_of geo end mark) false

abbrev pub mark_misfits : Geometry → ℕ → ℕ → Mark → Bool
mark_misfits geo end origin mark = option_map_or (λ v. not (is_fit mark.rule origin v)) (sector_of geo end mark) false

-- how many marks fit, and how many misfit
abbrev pub fits_of : Geometry → ℕ → List Mark → ℕ → ℕ
fits_of geo end marks origin = count_by (mark_fits geo end origin) marks

abbrev pub misfits_of : Geometry → ℕ → List Mark → ℕ → ℕ
misfits_of geo end marks origin = count_by (mark_misfits geo end origin) marks

-- the bounds that are asked of groups without bounds of their own
abbrev pub common_bounds : MarkTests → MarkBounds
common_bounds tests = record { misfits = tests.misfits; least = tests.least }

-- the bounds of a group: its own, or the common ones
abbrev pub bounds_of : MarkTests → Group → MarkBounds
bounds_of tests group = option_map_or (λ own. own) group.bounds (common_bounds tests)

-- how many fits are asked of a group: the least of its bounds, and all its marks where it has fewer
abbrev pub fits_asked : MarkTests → Group → ℕ
fits_asked tests group = min (bounds_of tests group).least (length group.marks)

-- a group holds at an origin
abbrev pub holds_at : Geometry → ℕ → MarkTests → Group → ℕ → Bool
holds_at geo end tests group origin =
    nat_le (misfits_of geo end group.marks origin) (bounds_of tests group).misfits && nat_le (fits_asked tests group) (fits_of geo end group.marks origin)

-- the origins at which a group is tried, by where groups of its kind begin
abbrev pub origins_from : MarkTests → Begin → List ℕ
origins_from tests WithVolume = 0 ∷ []
origins_from tests AtOrigins = tests.origins.items

abbrev pub origins_for : MarkTests → GroupKind → List ℕ
origins_for tests kind = origins_from tests (group_row kind).begin

-- the first of them at which it holds
unfoldable pub held_origin : Geometry → ℕ → MarkTests → Group → Option ℕ
held_origin geo end tests group = find (holds_at geo end tests group) (origins_for tests group.kind)

-- the landmark test: each group holds at one of its origins
unfoldable pub groups_hold : Geometry → ℕ → MarkTests → List Group → Bool
groups_hold geo end tests groups = list_all (λ group. is_some (held_origin geo end tests group)) groups

-- a mark of a group of a plan over images of these lengths
pub record IsMark (lengths : List ℕ) (kind : GroupKind) (mark : Mark) : Type 0 where
  pub kind_of : group_of mark.kind ≡ kind
  pub image : mark.image < MOST
  pub sector : IsSomeAnd (slice_get lengths mark.image) (λ n. mark.sector < n)
  pub rule : IsRule mark.rule

-- the place of a mark in its group: by its sector, and on one sector by its image, which is below MOST
abbrev pub mark_place : Mark → ℕ
mark_place mark = mark.sector * MOST + mark.image

-- the marks of all groups
abbrev pub marks_in : List Group → List Mark
marks_in groups = flat_map (λ group. group.marks) groups

-- bounds of a plan: numbers below 2^55
pub record AreMarkBounds (bounds : MarkBounds) : Type 0 where
  pub misfits : bounds.misfits < 2 ^ 55
  pub least : bounds.least < 2 ^ 55

-- groups of a plan over images of these lengths: in the order of their kinds, as many of each as there may be, and at
-- most 4,096 marks of each kind of landmark sector
pub record AreGroups (lengths : List ℕ) (groups : List Group) : Type 0 where
  pub order : IsNonDecreasing (map (λ group. group_place group.kind) groups)
  pub few : (kind : GroupKind) → count_by (λ group. group_place group.kind == group_place kind) groups ≤ most_groups kind
  pub marks : All (λ group. All (IsMark lengths group.kind) group.marks) groups
  pub rising : All (λ group. IsStrictlyIncreasing (map mark_place group.marks)) groups
  pub bounds : All (λ group. IfSome group.bounds AreMarkBounds) groups
  pub few_marks : (kind : Kind) → count_by (λ mark. kind_place mark.kind == kind_place kind) (marks_in groups) ≤ 4096
