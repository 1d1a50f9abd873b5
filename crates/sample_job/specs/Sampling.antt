-- What `sample` refuses and prints.
use Rattle.std.specs.Prelude.{ℕ, ◌*◌, ◌-◌, ◌^◌, Bool, false, ◌==◌, nat_eq, nat_le, nat_lt, ◌&&◌, if◌then◌else◌, List, [], ◌∷◌, ◌++◌, codes, decimal, length, map, sum_by}
use Rattle.std.specs.List.{list_any}
use Rattle.std.specs.Option.{option_map, option_map_or}
use Rattle.std.specs.declared.option.Option.{Option}
use Rattle.std.specs.declared.option.Option.TheVariants.{None, Some}
use Rattle.image_source.specs.Memory.{image_of}
use Rattle.outside.specs.Seen.{Image}
use Rattle.member_regions.specs.Members.{held}
use Rattle.raid_params.specs.Size.{volume_sectors}
use Rattle.raid_params.specs.Slots.{empties}
use Rattle.raid_params.specs.Validity.{early_fault}
use Rattle.raid_params.specs.declared.types.Geometry.{Geometry}
use Rattle.raid_params.specs.declared.wide.Wide.{Wide}
use Rattle.search_terms.specs.Page.{page_next, page_ranks}
use Rattle.plan_sets.specs.Sets.{passes_at, rank_of, total_of}
use Rattle.search_plan.specs.declared.plan.Plan.{Plan}
use Rattle.plan_text.specs.Spelling.{line}
use Rattle.common_pages.specs.declared.page_parts.ListPage.{ListPage}
use Rattle.command_words.specs.Commands.{plain_survey}
use Rattle.survey_engine.specs.declared.ask.Ask.{Ask}
use Rattle.survey_job.specs.Surveying.{ask_of, survey_plan}
use Rattle.sample_arrays.specs.Arrays.{end_of, sampled}
use Rattle.sample_arrays.specs.Laws.{sampled_bytes}
use Rattle.run_ends.specs.Jobs.{Job, imageless}
use Rattle.run_ends.specs.Printing.{share_line}
use Rattle.run_ends.specs.Stops.{delay_refusal, first_of}
use Rattle.run_ends.specs.declared.stop.Refusal.{Refusal}
use Rattle.run_ends.specs.declared.stop.Refusal.TheVariants.{Set, Many, ArraySectors, VolumeSectors, Bases}

-- the images of the array as they are attached
unfoldable pub sampled_images : ℕ → Geometry → ℕ → Bool → List Image
sampled_images number set rows xfs = map (λ file. image_of file.1) (sampled number set rows xfs)

-- what the survey is asked for: what `survey` asks for without operands, but for the level, the number of members,
-- the delay and the number of members that are missing
unfoldable pub sample_ask : Geometry → ℕ → Ask
sample_ask set end =
    ask_of (record plain_survey {
      bounds = record plain_survey.bounds {
        levels = record { items = set.head.level ∷ [] };
        members = record { items = set.head.members ∷ [] };
        delays = record { items = set.head.delay ∷ [] };
        missing = empties set.slots.items;
      };
    }) (held set.slots.items) end

-- the plan of the survey
unfoldable pub sample_plan : ℕ → Geometry → ℕ → Bool → Plan
sample_plan number set rows xfs =
    survey_plan (sample_ask set (end_of set.head rows)) (sampled_images number set rows xfs) (sampled_bytes number set rows xfs)

-- the product has more sets than ranks
abbrev pub many_refusal : Plan → Option Refusal
many_refusal plan = if nat_le (2 ^ 64) (total_of plan) then Some Many else None

-- the members are too large together: above 1 GiB
abbrev pub array_refusal : Geometry → ℕ → Option Refusal
array_refusal set rows =
    if nat_lt 2097152 (set.head.members * end_of set.head rows) then Some (ArraySectors (set.head.members * end_of set.head rows)) else None

-- the volume is too small for an XFS
abbrev pub volume_refusal : Geometry → ℕ → Bool → Option Refusal
volume_refusal set rows xfs =
    if xfs && nat_lt (volume_sectors set.head (end_of set.head rows)) 512 then Some (VolumeSectors (volume_sectors set.head (end_of set.head rows))) else None

-- the images of a generated array share an offset: a set with bases is refused
abbrev pub bases_refusal : List ℕ → Option Refusal
bases_refusal bases = if length bases == 0 then None else Some (Bases (length bases))

-- the refusals before the array is made: the rules of a set but for the delay, over as many images as it has filled slots, the two of a
-- generated array, that of bases, and that of the delay
unfoldable pub array_refusals : Wide → ℕ → Bool → Option Refusal
array_refusals set rows xfs =
    first_of (option_map (λ fault. Set fault) (early_fault set.geo (held set.geo.slots.items) (end_of set.geo.head rows))
    ∷ array_refusal set.geo rows
    ∷ volume_refusal set.geo rows xfs
    ∷ bases_refusal set.bases.items
    ∷ delay_refusal set.geo.head
    ∷ [])

-- the first refusal of `sample`
unfoldable pub sample_refusal : ℕ → Wide → ℕ → Bool → Option Refusal
sample_refusal number set rows xfs = first_of (array_refusals set rows xfs ∷ many_refusal (sample_plan number set.geo rows xfs) ∷ [])

-- the ranks on the first page, which has at most 1,000 sets, and where it goes on
abbrev pub page_of : List (List ℕ) → Plan → List ℕ
page_of images plan = page_ranks (passes_at images plan) (total_of plan) 0 1000 (2 ^ 64 - 1)

abbrev pub next_of : List (List ℕ) → Plan → ℕ
next_of images plan = page_next (passes_at images plan) (total_of plan) 0 1000 (2 ^ 64 - 1)

-- the set is among these ranks of the plan
abbrev pub is_among : Plan → Geometry → List ℕ → Bool
is_among plan set ranks = option_map_or (λ rank. list_any (λ other. nat_eq other rank) ranks) (rank_of plan set) false

-- how many marks a plan has
abbrev pub marks_in : Plan → ℕ
marks_in plan = sum_by (λ group. length group.marks) plan.groups

-- NAME N, where the name ends with a space
unfoldable pub number_line : List ℕ → ℕ → List ℕ
number_line name number = line (name ++ decimal number)

-- whether the set is found
unfoldable pub found_line : Bool → List ℕ
found_line found = if found then codes "found yes\n" else codes "found no\n"

-- the six lines
unfoldable pub sample_text : Geometry → ℕ → List (List ℕ) → Plan → List ℕ
sample_text set end images plan =
    number_line (codes "images ") (held set.slots.items)
    ++ number_line (codes "sectors ") end
    ++ number_line (codes "marks ") (marks_in plan)
    ++ number_line (codes "total ") (total_of plan)
    ++ found_line (is_among plan set (page_of images plan))
    ++ share_line (codes "next ") (next_of images plan) (total_of plan)

-- the six lines by a page that was found
unfoldable pub found_text : Geometry → ℕ → Plan → ListPage → List ℕ
found_text set end plan page =
    number_line (codes "images ") (held set.slots.items)
    ++ number_line (codes "sectors ") end
    ++ number_line (codes "marks ") (marks_in plan)
    ++ number_line (codes "total ") page.total
    ++ found_line (is_among plan set (map (λ held. held.rank) page.lines))
    ++ share_line (codes "next ") page.next page.total

-- what `sample` prints
unfoldable pub sample_output : ℕ → Geometry → ℕ → Bool → List ℕ
sample_output number set rows xfs =
    sample_text set (end_of set.head rows) (sampled_bytes number set rows xfs) (sample_plan number set rows xfs)

-- `sample`: it works on images of its own
abbrev pub sample_job : ℕ → Wide → ℕ → Bool → Job
sample_job number set rows xfs = imageless (sample_refusal number set rows xfs) (Some (sample_output number set.geo rows xfs))
