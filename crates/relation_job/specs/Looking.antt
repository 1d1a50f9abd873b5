-- What it means to look at a part of the rows, and then at all of them.
use Rattle.std.specs.Prelude.{ℕ, ◌≡◌, ◌+◌, ◌<◌, ◌≤◌, List, length, slice_index, IfSome}
use Rattle.std.specs.declared.option.Option.{Option}
use Rattle.std.specs.Io.KnownBytes.{Appends}
use Rattle.outside.specs.Seen.{Seen}
use Rattle.outside.specs.Streams.{AppendsFront, Stream}
use Rattle.relation_lines.specs.Reports.{State, after_all, said_by}
use Rattle.relation_lines.specs.Runs.{Row}
use Rattle.relation_lines.specs.Text.{text_of}
use Rattle.relation_lines.specs.declared.style.Style.{Style}
use Rattle.run_ends.specs.Pieces.{AppendsLines}
use Rattle.run_ends.specs.declared.stop.Stop.{Stop}
use Rattle.run_ends.specs.declared.stop.Stop.TheVariants.{ImageFault, OutFault, OutOfMemory}
use Rattle.relation_job.specs.Blocks.{part_rows}
use Rattle.relation_job.specs.Relating.{first_rows, report_text}
use Rattle.relation_job.specs.Sampling.{row_number}
use Rattle.relation_job.specs.declared.sampling.Part.{Part}
use Rattle.relation_job.specs.declared.sampling.Sampling.{Sampling}

-- the images of these lengths have the row
abbrev pub HasRow : List ℕ → List ℕ → ℕ → Type 0
HasRow offsets lengths row = (image : ℕ) → image < length lengths → row + slice_index offsets image < slice_index lengths image

-- they have each row that is looked at
abbrev pub HasRows : List ℕ → List ℕ → Sampling → Type 0
HasRows offsets lengths sampling = (k : ℕ) → k < sampling.rows → HasRow offsets lengths (row_number sampling k)

-- the rows of a part were taken, and their lines put: they are as they are where the bytes of the images are known
pub record AddsPart (told : Option (List (List ℕ))) (offsets : List ℕ) (part : Part) (old new : State) (before after : Option (List ℕ)) : Type 0 where
  pub rows : List Row
  pub count : length rows ≡ part.rows
  pub are : IfSome told (λ images. rows ≡ part_rows images offsets part)
  pub state : new ≡ after_all old rows
  pub put : Appends before after (text_of old.style (said_by old rows))

-- why they were not all taken, and what was put then: the images failed, and nothing; the output failed, and a front of their lines
abbrev pub StopsInPart : Option (List (List ℕ)) → List ℕ → Part → State → Option (List ℕ) → Option (List ℕ) → Stop → Type 0
StopsInPart told offsets part old before now ImageFault = now ≡ before
StopsInPart told offsets part old before now OutFault =
    (rows : List Row) × (length rows ≡ part.rows) × IfSome told (λ images. rows ≡ part_rows images offsets part) × AppendsFront before now (text_of old.style (said_by old rows))
StopsInPart told offsets part old before now _ = ⊥

-- some first rows of those that are looked at, as they are where the bytes of the images are known
pub record AreFirst (told : Option (List (List ℕ))) (offsets : List ℕ) (sampling : Sampling) (rows : List Row) : Type 0 where
  pub few : length rows ≤ sampling.rows
  pub are : IfSome told (λ images. rows ≡ first_rows images offsets sampling (length rows))

-- so many first rows were taken, and their lines put
pub record AddsRows (told : Option (List (List ℕ))) (offsets : List ℕ) (sampling : Sampling) (number : ℕ) (old new : State) (before after : Option (List ℕ)) : Type 0 where
  pub rows : List Row
  pub first : AreFirst told offsets sampling rows
  pub count : length rows ≡ number
  pub state : new ≡ after_all old rows
  pub put : Appends before after (text_of old.style (said_by old rows))

-- why not all rows were taken, and what was put then: the images failed, and the lines of some first rows; the output failed, and a
-- front of such lines
abbrev pub StopsInRows : Option (List (List ℕ)) → List ℕ → Sampling → State → Option (List ℕ) → Option (List ℕ) → Stop → Type 0
StopsInRows told offsets sampling old before now ImageFault = (rows : List Row) × AreFirst told offsets sampling rows × Appends before now (text_of old.style (said_by old rows))
StopsInRows told offsets sampling old before now OutFault = (rows : List Row) × AreFirst told offsets sampling rows × AppendsFront before now (text_of old.style (said_by old rows))
StopsInRows told offsets sampling old before now _ = ⊥

-- why there is no report, and what was put then: the images failed, and first lines of it; the output failed, and a front of it; memory
-- ran out, and nothing was done
abbrev pub EndsReport : Option (List (List ℕ)) → List ℕ → Sampling → Style → Seen → Seen → Stream → Stream → Stop → Type 0
EndsReport told offsets sampling style old new before now ImageFault = IfSome told (λ images. AppendsLines before.known now.known (report_text images offsets sampling style))
EndsReport told offsets sampling style old new before now OutFault = IfSome told (λ images. AppendsFront before.known now.known (report_text images offsets sampling style))
EndsReport told offsets sampling style old new before now OutOfMemory = (now ≡ before) × (new ≡ old)
EndsReport told offsets sampling style old new before now _ = ⊥
