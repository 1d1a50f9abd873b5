-- Rows that are kept.
use Rattle.std.specs.Prelude.{ℕ, ◌≡◌, ◌<◌, ◌+◌, ◌*◌, min, List, [], length, slice_index, slice_index_or}
use Rattle.member_regions.specs.ImageSums.{room_byte}
use Rattle.member_regions.specs.Regions.{Room}
use Rattle.outside.specs.Causes.{Rose}
use Rattle.outside.specs.Seen.{Seen}
use Rattle.relation_prefix.specs.declared.sampled.SampledRow.{SampledRow}
use Rattle.relation_prefix.specs.Laws.{AreRowsOf}
use Rattle.row_samples.specs.declared.reading.SampleFault.{SampleFault}
use Rattle.row_samples.specs.declared.reading.SampleFault.TheVariants.{ReadFault, Memory}

-- how many are kept where so many may be unsound: 64 more, and 4,096 at most
abbrev pub most_kept : ℕ → ℕ
most_kept badrows = min badrows 4032 + 64

-- they are rows of `count` images, counted from an offset on
pub record AreImageRows (images : List (List ℕ)) (count offset : ℕ) (rows : List SampledRow) : Type 0 where
  pub count_is : length images ≡ count
  pub are : AreRowsOf images offset rows

-- the sectors number `place` of the first `count` regions are those of the images at this sector
abbrev pub HoldSector : List (List ℕ) → ℕ → ℕ → ℕ → Room → Type 0
HoldSector images count sector place room =
    (image x : ℕ) → image < count → x < 512 → room_byte room (512 * place + x) image ≡ slice_index (slice_index_or images image []) (512 * sector + x)

-- the images failed, or memory ran out and nothing was read
abbrev pub EndsSamples : Seen → Seen → SampleFault → Type 0
EndsSamples old new ReadFault = Rose old.faults new.faults
EndsSamples old new Memory = new ≡ old
