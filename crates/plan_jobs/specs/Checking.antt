-- What `check` refuses and prints.
use Rattle.std.specs.Prelude.{ℕ, ◌+◌, ◌*◌, ◌≤◌, ◌==◌, Bool, ◌&&◌, nat_le, if◌then◌else◌, List, [], ◌∷◌, ◌++◌, codes, decimal, length}
use Rattle.std.specs.Option.{option_map}
use Rattle.std.specs.declared.option.Option.{Option}
use Rattle.std.specs.declared.option.Option.TheVariants.{None, Some}
use Rattle.outside.specs.Seen.{Image}
use Rattle.raid_params.specs.declared.types.Geometry.{Geometry}
use Rattle.raid_params.specs.declared.wide.Wide.{Wide}
use Rattle.raid_params.specs.declared.wide.WideFault.{WideFault}
use Rattle.raid_params.specs.declared.wide.WideFault.TheVariants.{Geo, Bases as WideBases}
use Rattle.raid_params.specs.Wide.{wide_fault}
use Rattle.raid_terms.specs.Parity.{tested_rows, unsound_rows}
use Rattle.landmark_rules.specs.Groups.{fits_of, groups_hold, held_origin, misfits_of}
use Rattle.landmark_rules.specs.declared.marks.Group.{Group}
use Rattle.padded_images.specs.Plans.{padded_plan}
use Rattle.search_plan.specs.declared.plan.Plan.{Plan}
use Rattle.plan_text.specs.Spelling.{line}
use Rattle.plan_text.specs.Names.{group_name}
use Rattle.parity_scan.specs.Scan.{read_rows}
use Rattle.wide_product.specs.Sets.{based, padded_bytes, wide_rank}
use Rattle.plan_jobs.specs.Plans.{OverPlan, many_refusal, plan_job}
use Rattle.run_ends.specs.Agreement.{long_fault}
use Rattle.run_ends.specs.Jobs.{Job}
use Rattle.run_ends.specs.Printing.{or_dash, share_line}
use Rattle.run_ends.specs.declared.stop.Refusal.{Refusal}
use Rattle.run_ends.specs.declared.stop.Refusal.TheVariants.{Images, Set, Bases}

-- an image is too long for the bases of the set
abbrev pub long_refusal : Wide → List Image → Option Refusal
long_refusal set attached = if length set.bases.items == 0 then None else option_map (λ fault. Images fault) (long_fault attached)

-- what is refused of a set that breaks a rule
abbrev pub refusal_of : WideFault → Refusal
refusal_of (Geo fault) = Set fault
refusal_of (WideBases count) = Bases count

-- the set breaks a rule, over `names` images and the plan's end; that on its delay is the last one
abbrev pub rule_refusal : Wide → ℕ → Plan → Option Refusal
rule_refusal set names plan = option_map refusal_of (wide_fault set names plan.end)

-- what is refused where the images agree with the plan, in its order
abbrev pub check_refusals : Wide → ℕ → List Image → Plan → List (Option Refusal)
check_refusals set names attached plan = long_refusal set attached ∷ many_refusal plan ∷ rule_refusal set names plan ∷ []

-- the most sectors that testing a set reads: its tested rows on each image, and none where nothing can break a row
abbrev pub tested_reads : Geometry → List Image → Plan → ℕ
tested_reads geo attached plan = length attached * read_rows geo plan.end plan.limits.window

-- the most sectors that `check` reads over a plan. Padding is not read
abbrev pub check_reads : Wide → List Image → Plan → ℕ
check_reads set attached plan = tested_reads set.geo attached plan

-- the line of the rank, or of a dash where the set is not in the product
unfoldable pub rank_line : Option ℕ → List ℕ
rank_line rank = line (codes "rank " ++ or_dash rank)

-- how many of the tested rows are unsound
abbrev pub unsound_line : ℕ → ℕ → List ℕ
unsound_line unsound tested = share_line (codes "unsound ") unsound tested

-- from where a group holds, with how many of its marks lie where they may, and how many elsewhere; or that
-- it holds nowhere
abbrev pub held_text : Plan → Geometry → Group → Option ℕ → List ℕ
held_text plan set group (Some origin) =
    codes " origin " ++ decimal origin ++ codes " fits " ++ decimal (fits_of set plan.end group.marks origin)
    ++ codes " misfits " ++ decimal (misfits_of set plan.end group.marks origin)
held_text plan set group None = codes " none"

-- the line of a group, by its number in the plan
unfoldable pub group_line : Plan → Geometry → ℕ → Group → List ℕ
group_line plan set number group =
    line (codes "group " ++ decimal number ++ codes " " ++ group_name group.kind ++ held_text plan set group (held_origin set plan.end plan.tests group))

-- the lines of groups, the first of which has this number
unfoldable pub group_lines : Plan → Geometry → ℕ → List Group → List ℕ
group_lines plan set number [] = []
group_lines plan set number (group ∷ groups) = group_line plan set number group ++ group_lines plan set (number + 1) groups

-- whether the parity test and the landmark test hold
unfoldable pub verdict_line : Bool → List ℕ
verdict_line holds = line (if holds then codes "pass" else codes "fail")

-- no more rows are unsound than may be, and each group holds
abbrev pub tests_hold : Plan → Geometry → ℕ → Bool
tests_hold plan set unsound = nat_le unsound plan.limits.badrows && groups_hold set plan.end plan.tests plan.groups

-- what `check` prints of a set with this rank, of which `unsound` rows are unsound
unfoldable pub report : Option ℕ → Plan → Geometry → ℕ → List ℕ
report rank plan set unsound =
    rank_line rank ++ unsound_line unsound (tested_rows set plan.end plan.limits.window)
    ++ group_lines plan set 0 plan.groups ++ verdict_line (tests_hold plan set unsound)

-- the same, over the bytes of the images
abbrev pub tests_text : Option ℕ → List (List ℕ) → Plan → Geometry → List ℕ
tests_text rank images plan set = report rank plan set (unsound_rows images set (tested_rows set plan.end plan.limits.window))

-- the plan over which a set with these bases is tested: where there are bases, that of the padded images
abbrev pub plan_with : List ℕ → Plan → Plan
plan_with [] plan = plan
plan_with (base ∷ bases) plan = padded_plan (base ∷ bases) plan

-- what `check` prints: the rank of the set in the plan's product, and the tests of its geometry, over padded images and the
-- padded plan where it has bases
abbrev pub check_text : List (List ℕ) → Plan → Wide → List ℕ
check_text images plan set = tests_text (wide_rank plan (based set)) (padded_bytes set.bases.items images) (plan_with set.bases.items plan) set.geo

-- what `check` does over a plan
abbrev pub check_over : Wide → OverPlan
check_over set = record {
  further = λ names attached plan. check_refusals set names attached plan;
  text = λ images plan. check_text images plan set;
  MayRead = λ attached plan cut before after. after ≤ before + check_reads set attached plan;
}

-- `check`
abbrev pub check_job : Wide → Job
check_job set = plan_job (check_over set)
