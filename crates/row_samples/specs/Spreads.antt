-- Rows that are kept of an offset, spread over it. They serve all chunks and delays, and so go by no turn: a turn is as many rows of
-- chunks as the delay says, in which parity stays. The parts lie side by side, so that long turns have rows among those that are
-- wanted, and the place within a part differs from part to part, so that short ones do.
use Rattle.std.specs.Prelude.{ℕ, ◌≡◌, ◌+◌, ◌*◌, ◌/◌, ◌%◌, ◌⊎◌, ◌<◌, ◌≤◌, max, Bool, true, false, not, ◌&&◌, ◌||◌, nat_le, nat_lt, if◌then◌else◌, List, [], length}
use Rattle.member_regions.specs.Regions.{Room}
use Rattle.member_regions.specs.ImageSums.{room_byte}
use Rattle.relation_prefix.specs.Sampled.{with_row, AreBelow, KeptRows}
use Rattle.relation_prefix.specs.Ties.{dependents, is_blank, tells_much, AreTiesOf}
use Rattle.relation_prefix.specs.declared.condition.TheConstants.{MOST_TIES}
use Rattle.relation_prefix.specs.declared.row_ties.RowTies.{RowTies}
use Rattle.row_relations.specs.Rows.{byte_of, AreBytes}
use Rattle.row_relations.specs.Tables.{IsTable, Table}
use Rattle.row_samples.specs.declared.spread.Spread.{Spread}
use Rattle.row_samples.specs.Rows.{most_kept, AreImageRows}

-- none is kept yet, of at most so many in as many equal parts of so many rows
abbrev pub first_spread : ℕ → ℕ → ℕ → Spread
first_spread images rows most = record { kept = record { images = images; most = most; list = [] }; part = max (rows / max most 1) 1; wanted = 0 }

-- a row is wanted: it is none before the first one that is, and there is room
abbrev pub wants : Spread → ℕ → Bool
wants spread row = nat_le spread.wanted row && not (nat_le spread.kept.most (length spread.kept.list))

-- the first row that is wanted after one that was kept: one of the next part, at a place that differs from part to part
abbrev pub next_part : ℕ → ℕ → ℕ
next_part row part = (row / part + 1) * part + (row / part + 1) % 4096 * 7919 % part

-- a row was kept
abbrev pub kept_row : Spread → ℕ → RowTies → Spread
kept_row spread row ties = record { kept = with_row spread.kept row ties; part = spread.part; wanted = next_part row spread.part }

-- one that was wanted was not kept: the next is wanted a bit further on
abbrev pub passed_row : Spread → ℕ → Spread
passed_row spread row = record { kept = spread.kept; part = spread.part; wanted = row + spread.part / 16 + 1 }

abbrev pub passed : Spread → ℕ → Spread
passed spread row = if wants spread row then passed_row spread row else spread

-- a row of these ties was offered: it is kept if it is wanted and worth it
abbrev pub offered : Spread → ℕ → RowTies → Bool → Spread
offered spread row ties worth = if worth then (if wants spread row then kept_row spread row ties else spread) else passed spread row

-- the rows that tell much, and those that are not zeros; so many rows may be unsound
pub record Sampling : Type 0 where
  pub telling : Spread
  pub others : Spread
  pub badrows : ℕ

abbrev pub first_sampling : ℕ → ℕ → ℕ → Sampling
first_sampling images rows badrows =
    record { telling = first_spread images rows (most_kept badrows); others = first_spread images rows (most_kept badrows); badrows = badrows }

-- a row is wanted for one of both
abbrev pub is_wanted : Sampling → ℕ → Bool
is_wanted sampling row = wants sampling.telling row || wants sampling.others row

-- a row of these ties was offered to both
abbrev pub taken : Sampling → ℕ → RowTies → Sampling
taken sampling row ties =
    record { telling = offered sampling.telling row ties (tells_much ties); others = offered sampling.others row ties (not (is_blank ties)); badrows = sampling.badrows }

-- neither took it
abbrev pub left_out : Sampling → ℕ → Sampling
left_out sampling row = record { telling = passed sampling.telling row; others = passed sampling.others row; badrows = sampling.badrows }

-- a row of this table was offered: one of too many ties is kept by neither
abbrev pub TakesTable : Table → ℕ → Sampling → Sampling → Type 0
TakesTable table row old new =
    ((MOST_TIES < length (dependents table (length table.standings))) × (new ≡ left_out old row))
    ⊎ ((ties : RowTies) × AreTiesOf table ties × (new ≡ taken old row ties))

-- the sectors number `place` of the first regions, one after the other
abbrev pub AreSectorsOf : Room → ℕ → ℕ → List ℕ → Type 0
AreSectorsOf room images place sectors = (i x : ℕ) → i < images → x < 512 → byte_of sectors i x ≡ room_byte room (512 * place + x) i

-- the row whose sectors these are was offered
pub record OffersTable (room : Room) (images place row : ℕ) (old new : Sampling) : Type 0 where
  pub sectors : List ℕ
  pub table : Table
  pub of : AreSectorsOf room images place sectors
  pub bytes : AreBytes sectors
  pub is : IsTable images sectors table
  pub takes : TakesTable table row old new

-- so it was if it was wanted
pub record OffersRow (room : Room) (place row : ℕ) (old new : Sampling) : Type 0 where
  pub unwanted : is_wanted old row ≡ false → new ≡ old
  pub wanted : is_wanted old row ≡ true → OffersTable room old.telling.kept.images place row old new

-- those that tell much, where they are more than may be unsound, and else all
abbrev pub chosen : Sampling → KeptRows
chosen sampling = if nat_lt sampling.badrows (length sampling.telling.kept.list) then sampling.telling.kept else sampling.others.kept

-- none is kept yet, of so many images
pub record HasNone (images : ℕ) (sampling : Sampling) : Type 0 where
  pub telling_images : sampling.telling.kept.images ≡ images
  pub telling : sampling.telling.kept.list ≡ []
  pub others_images : sampling.others.kept.images ≡ images
  pub others : sampling.others.kept.list ≡ []

-- there is room for so many rows, and no more are kept
pub record HasFew (most : ℕ) (spread : Spread) : Type 0 where
  pub room : spread.kept.most ≡ most
  pub few : length spread.kept.list ≤ most

-- so it is with both since this sampling
pub record HaveFew (begun sampling : Sampling) : Type 0 where
  pub telling : HasFew begun.telling.kept.most sampling.telling
  pub others : HasFew begun.others.kept.most sampling.others

-- all are rows of `count` images, counted from an offset on
pub record AreSampled (images : List (List ℕ)) (count offset : ℕ) (sampling : Sampling) : Type 0 where
  pub telling : AreImageRows images count offset sampling.telling.kept.list
  pub others : AreImageRows images count offset sampling.others.kept.list

-- all lie before a row
pub record LieBelow (row : ℕ) (sampling : Sampling) : Type 0 where
  pub telling : AreBelow row sampling.telling.kept.list
  pub others : AreBelow row sampling.others.kept.list
