-- The one text of a plan, and the line at which a text that is no plan's is refused.
use Rattle.std.specs.Prelude.{ℕ, Bool, true, false, not, ◌==◌, ◌||◌, ◌≡◌, ◌≢◌, ◌+◌, List, [], ◌∷◌, ◌++◌, length, map, All, codes, decimal, Result, IfOk, IfErr}
use Rattle.std.specs.List.{flat_map, list_any}
use Rattle.std.specs.Option.{is_some}
use Rattle.std.specs.declared.option.Option.{Option}
use Rattle.std.specs.declared.option.Option.TheVariants.{None, Some}
use Rattle.raid_params.specs.declared.types.Bounds.{Bounds}
use Rattle.raid_params.specs.declared.types.Syndrome.{Syndrome}
use Rattle.landmark_rules.specs.declared.marks.Group.{Group}
use Rattle.landmark_rules.specs.declared.marks.Mark.{Mark}
use Rattle.landmark_rules.specs.declared.marks.MarkBounds.{MarkBounds}
use Rattle.landmark_rules.specs.declared.marks.MarkTests.{MarkTests}
use Rattle.landmark_rules.specs.declared.marks.Rule.{Rule}
use Rattle.landmark_rules.specs.declared.marks.Rule.TheVariants.{At, Either, Every}
use Rattle.search_scope.specs.declared.scope.Limits.{Limits}
use Rattle.search_plan.specs.declared.plan.Plan.{Plan}
use Rattle.search_plan.specs.Plans.{IsPlan}
use Rattle.plan_text.specs.declared.fault.PlanFault.{PlanFault}
use Rattle.plan_text.specs.declared.fault.PlanFault.TheVariants.{Line, Memory}
use Rattle.value_text.specs.Spelling.{level_name, pattern_name, syndrome_name, commas, colons, spaces, named, line}
use Rattle.landmark_text.specs.Names.{group_name, kind_name}

-- some group has bounds of its own
abbrev pub some_bounds : List Group → Bool
some_bounds groups = list_any (λ group. is_some group.bounds) groups

-- parity may stay for other numbers of rows than one
abbrev pub some_delays : List ℕ → Bool
some_delays [] = true
some_delays (delay ∷ []) = not (delay == 1)
some_delays (delay ∷ other ∷ delays) = true

-- what versions 1 and 2 cannot say: other delays than one, or a group with bounds of its own
abbrev pub says_more : Bool → List Group → Bool
says_more delayed groups = delayed || some_bounds groups

-- the version of the text: 2 where each image has an offset of its own, and 1 where all share one
abbrev pub older_number : Bool → ℕ
older_number false = 1
older_number true = 2

-- but 3 where there is more to say
abbrev pub version_number : Bool → Bool → ℕ
version_number each true = 3
version_number each false = older_number each

abbrev pub mode_name : Bool → List ℕ
mode_name false = codes "common"
mode_name true = codes "each"

abbrev pub mode_line : Bool → List ℕ
mode_line each = named (codes "mode") (mode_name each)

-- in version 3 a line of its own says whether each image has an offset of its own
abbrev pub mode_lines : Bool → Bool → List (List ℕ)
mode_lines each true = mode_line each ∷ []
mode_lines each false = []

abbrev pub version_lines : Bool → Bool → List (List ℕ)
version_lines each third = named (codes "reraid-plan") (decimal (version_number each third)) ∷ mode_lines each third

-- the number of images, and the length of each
abbrev pub image_lines : List ℕ → List (List ℕ)
image_lines lengths =
    named (codes "images") (decimal (length lengths))
    ∷ map (λ n. named (codes "length") (decimal n)) lengths

-- other delays than one stand on a line of their own
abbrev pub delays_line : List ℕ → List ℕ
delays_line delays = named (codes "delays") (commas (map decimal delays))

abbrev pub delays_lines : Bool → List ℕ → List (List ℕ)
delays_lines true delays = delays_line delays ∷ []
delays_lines false delays = []

abbrev pub syndromes_line : List Syndrome → List ℕ
syndromes_line syndromes = named (codes "syndromes") (commas (map syndrome_name syndromes))

-- the arrays to try
abbrev pub arrays_lines : Bounds → List (List ℕ)
arrays_lines bounds =
    named (codes "levels") (commas (map level_name bounds.levels.items))
    ∷ named (codes "members") (commas (map decimal bounds.members.items))
    ∷ named (codes "patterns") (commas (map pattern_name bounds.patterns.items))
    ∷ (delays_lines (some_delays bounds.delays.items) bounds.delays.items ++ syndromes_line bounds.syndromes.items ∷ [])

-- their chunks, and where data and file systems may begin
abbrev pub sizes_lines : Bounds → MarkTests → List (List ℕ)
sizes_lines bounds tests =
    named (codes "chunks") (commas (map decimal bounds.chunks.items))
    ∷ named (codes "offsets") (commas (map decimal bounds.offsets.items))
    ∷ named (codes "origins") (commas (map decimal tests.origins.items))
    ∷ []

-- what may be missing, foreign or wrong, and how much is tested
abbrev pub counts_lines : Bounds → Limits → MarkTests → List (List ℕ)
counts_lines bounds limits tests =
    named (codes "missing") (decimal bounds.missing)
    ∷ named (codes "foreign") (decimal bounds.foreign)
    ∷ named (codes "badrows") (decimal limits.badrows)
    ∷ named (codes "window") (decimal limits.window)
    ∷ named (codes "misfits") (decimal tests.misfits)
    ∷ named (codes "least") (decimal tests.least)
    ∷ []

-- what is searched in the images, and how it is tested
abbrev pub search_lines : ℕ → Bounds → Limits → MarkTests → List (List ℕ)
search_lines end bounds limits tests =
    named (codes "end") (decimal end) ∷ (arrays_lines bounds ++ (sizes_lines bounds tests ++ counts_lines bounds limits tests))

-- the rule of a mark
abbrev pub rule_text : Rule → List ℕ
rule_text (At d) = colons (codes "at" ∷ decimal d ∷ [])
rule_text (Either d e) = colons (codes "either" ∷ decimal d ∷ decimal e ∷ [])
rule_text (Every step count plus) = colons (codes "every" ∷ decimal step ∷ decimal count ∷ decimal plus ∷ [])

-- KIND IMAGE SECTOR RULE
abbrev pub mark_text : Mark → List ℕ
mark_text mark = spaces (kind_name mark.kind ∷ decimal mark.image ∷ decimal mark.sector ∷ rule_text mark.rule ∷ [])

abbrev pub mark_line : Mark → List ℕ
mark_line mark = named (codes "mark") (mark_text mark)

-- the bounds of a group, where it has its own
abbrev pub bounds_text : MarkBounds → List ℕ
bounds_text bounds = spaces (decimal bounds.misfits ∷ decimal bounds.least ∷ [])

abbrev pub bounds_line : MarkBounds → List ℕ
bounds_line bounds = named (codes "bounds") (bounds_text bounds)

abbrev pub bounds_lines : Option MarkBounds → List (List ℕ)
bounds_lines None = []
bounds_lines (Some bounds) = bounds_line bounds ∷ []

-- a group, its bounds and its marks
abbrev pub group_lines : Group → List (List ℕ)
group_lines group = named (codes "group") (group_name group.kind) ∷ (bounds_lines group.bounds ++ map mark_line group.marks)

-- groups, and the last line
abbrev pub groups_lines : List Group → List (List ℕ)
groups_lines groups = flat_map group_lines groups ++ codes "done" ∷ []

-- the lines of a plan
abbrev pub plan_lines : Plan → List (List ℕ)
plan_lines plan =
    version_lines plan.each (says_more (some_delays plan.bounds.delays.items) plan.groups) ++ (image_lines plan.lengths.items ++ (search_lines plan.end plan.bounds plan.limits plan.tests ++ groups_lines plan.groups))

-- the text of a plan: its lines, each ended by a line feed
abbrev pub plan_text : Plan → List ℕ
plan_text plan = flat_map line (plan_lines plan)

-- bytes of a line: none is a line feed
abbrev pub IsLine : List ℕ → Type 0
IsLine bytes = All (λ byte. byte ≢ 10) bytes

-- a text begins with these lines, each ended by a line feed
pub record Begins (text : List ℕ) (lines : List (List ℕ)) : Type 0 where
  pub plain : All IsLine lines
  pub rest : List ℕ
  pub text_is : text ≡ flat_map line lines ++ rest

-- the text of some plan does
abbrev pub BeginsPlan : List (List ℕ) → Type 0
BeginsPlan lines = (plan : Plan) × IsPlan plan × Begins (plan_text plan) lines

-- the number, from 1, of the line at which a text that is no plan's is refused: the lines before it begin some
-- plan, and together with it they begin none, or the text has no such line that a line feed ends
pub record IsRefusedLine (text : List ℕ) (n : ℕ) : Type 0 where
  pub no_plan : (plan : Plan) → IsPlan plan → text ≢ plan_text plan
  pub lines : List (List ℕ)
  pub number : length lines + 1 ≡ n
  pub before : Begins text lines
  pub begins : BeginsPlan lines
  pub not_with : (more : List (List ℕ)) → length more ≡ n → Begins text more → BeginsPlan more → ⊥

-- a fault is a refused line, or memory ran out
abbrev pub IsFault : List ℕ → PlanFault → Type 0
IsFault text (Line n) = IsRefusedLine text n
IsFault text Memory = Unit {0}

-- what reading a text answers: the plan whose text it is, or the refused line, unless memory runs out
pub record ReadsPlan (text : List ℕ) (answer : Result Plan PlanFault) : Type 0 where
  pub plan : IfOk answer (λ plan. IsPlan plan × (text ≡ plan_text plan))
  pub fault : IfErr answer (IsFault text)
