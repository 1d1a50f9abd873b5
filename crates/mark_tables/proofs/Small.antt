-- The groups of a plan are small.
use Rattle.std.proofs.Common.{ℕ, zero, suc, ◌^◌, ◌<◌, ◌≤◌, List, [], ◌∷◌, length, get_or, cond, arith, Bool, ◌==◌}
use Rattle.std.proofs.lemmas.List.Sums.{sum_by-append}
use Rattle.std.specs.List.{All, count_by}
use Rattle.mark_kinds.proofs.Counts.{few_in_all}
use Rattle.raid_params.specs.declared.limits.TheConstants.{MOST}
use Rattle.landmark_rules.specs.Groups.{AreGroups, kind_place, marks_in}
use Rattle.landmark_rules.specs.declared.marks.Group.{Group}
use Rattle.mark_kinds.specs.declared.table.Kind.{Kind}
use Rattle.landmark_rules.specs.declared.marks.Mark.{Mark}

-- the marks of a group are among all
within_all : (p : Mark → Bool) (groups : List Group) (g : ℕ) (d : Group) → g < length groups → count_by p (get_or groups g d).marks ≤ count_by p (marks_in groups)
within_all p [] g d lt = absurd (omega arith)
within_all p (group ∷ groups) zero d lt =
    let split = sum_by-append (λ (m : Mark). cond (p m) 1 0) group.marks (marks_in groups) in omega arith
within_all p (group ∷ groups) (suc g) d lt =
    let split = sum_by-append (λ (m : Mark). cond (p m) 1 0) group.marks (marks_in groups) in
    let rest = within_all p groups g d (omega arith) in
    omega arith

pub group_few : (lengths : List ℕ) (groups : List Group) (g : ℕ) (d : Group) → AreGroups lengths groups → g < length groups → length (get_or groups g d).marks < 2 ^ 16
group_few lengths groups g d are lt =
    let few : (kind : Kind) → count_by (λ mark. kind_place mark.kind == kind_place kind) (get_or groups g d).marks ≤ 4096 =
    λ kind. let a = within_all (λ mark. kind_place mark.kind == kind_place kind) groups g d lt in let b = are.few_marks kind in omega arith in
    omega (arith, few_in_all (λ (mark : Mark). mark.kind) 4096 (get_or groups g d).marks few)

pub group_images : (lengths : List ℕ) (groups : List Group) (g : ℕ) (d : Group) → AreGroups lengths groups → g < length groups → All (λ mark. mark.image < MOST) (get_or groups g d).marks
group_images lengths groups g d are lt = λ k e below. (are.marks g d lt k e below).image
