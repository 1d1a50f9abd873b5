-- What `relations` refuses and prints.
use Rattle.std.specs.Prelude.{ℕ, ◌+◌, ◌*◌, ◌≤◌, ◌&&◌, true, false, nat_eq, nat_lt, not, if◌then◌else◌, List, [], length, map, slice_index, slice_index_or, slice_range}
use Rattle.std.specs.List.{flat_map, range_with_len}
use Rattle.std.specs.Option.{option_map, option_or}
use Rattle.std.specs.declared.option.Option.{Option}
use Rattle.std.specs.declared.option.Option.TheVariants.{None, Some}
use Rattle.outside.specs.Attached.{told_all}
use Rattle.outside.specs.Seen.{Image}
use Rattle.command_words.specs.declared.command.Form.{Form}
use Rattle.command_words.specs.declared.command.Form.TheVariants.{Text as TextForm, Json as JsonForm}
use Rattle.command_words.specs.declared.command.RelationWords.{RelationWords}
use Rattle.command_words.specs.declared.command.TheConstants.{MOST_RELATED}
use Rattle.relation_lines.specs.Reports.{report_of}
use Rattle.relation_lines.specs.Runs.{Row}
use Rattle.relation_lines.specs.Tables.{table_of}
use Rattle.relation_lines.specs.Text.{text_of}
use Rattle.relation_lines.specs.declared.report.TheConstants.{MOST_ROWS}
use Rattle.relation_lines.specs.declared.style.Style.{Style}
use Rattle.relation_lines.specs.declared.style.Style.TheVariants.{Text, Json}
use Rattle.run_ends.specs.Agreement.{count_fault}
use Rattle.run_ends.specs.Jobs.{Job}
use Rattle.run_ends.specs.Pieces.Pieces.{Lines}
use Rattle.run_ends.specs.declared.agreement.Disagreement.{Disagreement}
use Rattle.run_ends.specs.declared.agreement.Kind.TheVariants.{End, Offsets, Rows}
use Rattle.run_ends.specs.declared.stop.Refusal.{Refusal}
use Rattle.run_ends.specs.declared.stop.Refusal.TheVariants.{Images}
use Rattle.relation_job.specs.Sampling.{common_rows, end_for, row_number, rows_for, sampling_for}
use Rattle.relation_job.specs.declared.sampling.Sampling.{Sampling}

-- there are fewer than two images or more than 64, or offsets that are not one for each image
abbrev pub names_fault : ℕ → ℕ → Option Disagreement
names_fault offsets names =
    if nat_lt names 2 then Some (count_fault names 2)
    else if nat_lt MOST_RELATED names then Some (count_fault names MOST_RELATED)
    else if not (nat_eq offsets 0) && not (nat_eq offsets names) then Some (record { kind = Offsets; given = offsets; planned = names })
    else None

-- the end that is asked for is past the rows that all images have, or the rows are too many
abbrev pub rows_fault : RelationWords → List Image → Option Disagreement
rows_fault asked attached =
    if nat_lt (common_rows asked.offsets.items attached) (end_for asked attached) then Some (record { kind = End; given = end_for asked attached; planned = common_rows asked.offsets.items attached })
    else if nat_lt MOST_ROWS (rows_for asked attached) then Some (record { kind = Rows; given = rows_for asked attached; planned = MOST_ROWS })
    else None

-- how the images of `names` names disagree with what `relations` takes
abbrev pub relations_fault : RelationWords → ℕ → List Image → Option Disagreement
relations_fault asked names attached = option_or (names_fault (length asked.offsets.items) names) (rows_fault asked attached)

-- the first refusal
unfoldable pub relations_refusal : RelationWords → ℕ → List Image → Option Refusal
relations_refusal asked names attached = option_map (λ fault. Images fault) (relations_fault asked names attached)

-- a sector of the bytes of an image
abbrev pub sector_of : List ℕ → ℕ → List ℕ
sector_of bytes sector = slice_range bytes (512 * sector) (512 * sector + 512)

-- the sector of an image in a row
abbrev pub row_sector : List (List ℕ) → List ℕ → ℕ → ℕ → List ℕ
row_sector images offsets row image = sector_of (slice_index_or images image []) (row + slice_index offsets image)

-- the sectors of a row, one after the other
abbrev pub row_bytes : List (List ℕ) → List ℕ → ℕ → List ℕ
row_bytes images offsets row = flat_map (row_sector images offsets row) (range_with_len 0 (length images))

-- a row with its table
abbrev pub row_at : List (List ℕ) → List ℕ → ℕ → Row
row_at images offsets row = record { sector = row; table = table_of (length images) (row_bytes images offsets row) }

-- the first rows that are looked at
abbrev pub first_rows : List (List ℕ) → List ℕ → Sampling → ℕ → List Row
first_rows images offsets sampling count = map (λ k. row_at images offsets (row_number sampling k)) (range_with_len 0 count)

-- how lines are written in this form
abbrev pub style_of : Form → Style
style_of TextForm = Text
style_of JsonForm = Json

-- the report of the rows, as it is written
unfoldable pub report_text : List (List ℕ) → List ℕ → Sampling → Style → List ℕ
report_text images offsets sampling style = text_of style (report_of (length images) (first_rows images offsets sampling sampling.rows))

-- what `relations` prints, where the bytes of the images are known
abbrev pub relations_output : RelationWords → List Image → Option (List (List ℕ)) → Option (List ℕ)
relations_output asked attached told = option_map (λ images. report_text images asked.offsets.items (sampling_for asked attached) (style_of asked.form)) told

-- the most sectors that are read: one of each image for each row
abbrev pub relations_reads : RelationWords → List Image → ℕ
relations_reads asked attached = rows_for asked attached * length attached

-- `relations`: it puts its lines as it reads, each as soon as its run has ended
abbrev pub relations_job : RelationWords → Job
relations_job asked = record {
  Said = Unit {0};
  Says = λ left said. Unit {0};
  most = None;
  early = λ given. None;
  streams = true;
  pieces = Lines;
  apart = false;
  refused = λ said given. relations_refusal asked given.names given.attached;
  printed = λ said given. relations_output asked given.attached (told_all given.attached);
  MayRead = λ said given cut before after. after ≤ before + relations_reads asked given.attached;
}
