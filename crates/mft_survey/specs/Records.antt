-- Which file records on images are whole, and the tables that records 0 among them tell.
use Rattle.std.specs.Prelude.{ℕ, ◌+◌, ◌*◌, ◌/◌, ◌<◌, ◌^◌, ◌≡◌, ◌⊎◌, Bool, true, false, not, ◌&&◌, ◌==◌, nat_le, nat_lt, All, IsSomeAnd, IsTrue, List, [], ◌∷◌, ◌++◌, length, fold, Option, Some, None, if◌then◌else◌, slice_get, slice_index, slice_index_or, slice_range}
use Rattle.std.specs.List.{filter_map, flat_map, list_all, list_any, range_with_len}
use Rattle.mft.specs.Boot.{is_record_size}
use Rattle.mft.specs.Places.{table_of}
use Rattle.mft.specs.Start.{is_whole}
use Rattle.mft.specs.declared.boot.MftBoot.{MftBoot}
use Rattle.mft.specs.declared.places.MftTable.{MftTable}
use Rattle.mft.specs.declared.runs.Run.{Run}
use Rattle.outside.specs.Causes.{Rose}
use Rattle.outside.specs.Seen.{Seen}
use Rattle.mft_survey.specs.declared.records.ReadFault.{ReadFault}
use Rattle.mft_survey.specs.declared.records.ReadFault.TheVariants.{Images, Memory}
use Rattle.mft_survey.specs.declared.records.RecordSeen.{RecordSeen}

-- the image has all sectors of a record, in images of these lengths
unfoldable pub has_record : List ℕ → RecordSeen → Bool
has_record lengths r = nat_le (r.sector + r.start.bytes / 512) (slice_index lengths r.image)

-- the bytes of the record
abbrev pub record_bytes : List (List ℕ) → RecordSeen → List ℕ
record_bytes images r = slice_range (slice_index_or images r.image []) (512 * r.sector) (512 * r.sector + r.start.bytes)

-- the record is whole on its image
unfoldable pub is_whole_in : List ℕ → List (List ℕ) → RecordSeen → Bool
is_whole_in lengths images r = has_record lengths r && is_whole (record_bytes images r)

-- the record itself, if it is whole
abbrev pub whole_at : List ℕ → List (List ℕ) → RecordSeen → Option RecordSeen
whole_at lengths images r = if is_whole_in lengths images r then Some r else None

-- those that are whole, in their order
abbrev pub whole_records : List ℕ → List (List ℕ) → List RecordSeen → List RecordSeen
whole_records lengths images seen = filter_map (whole_at lengths images) seen

-- the tables of the volumes of these boot sectors that believe a record 0 with these bytes
abbrev pub tables_by : List MftBoot → List ℕ → List MftTable
tables_by boots file = filter_map (λ boot. table_of boot file) boots

-- those that a record tells: a whole record 0 alone tells
unfoldable pub tables_at : List ℕ → List (List ℕ) → List MftBoot → RecordSeen → List MftTable
tables_at lengths images boots r =
    if is_whole_in lengths images r && (r.start.number == 0) then tables_by boots (record_bytes images r) else []

-- two tables are one, field by field and run by run
abbrev pub is_same_boot : MftBoot → MftBoot → Bool
is_same_boot a b = (a.cluster == b.cluster && a.mft == b.mft) && (a.mirror == b.mirror && a.bytes == b.bytes)

abbrev pub run_at : List Run → ℕ → Run
run_at runs at = slice_index_or runs at (record { first = 0; count = 0 })

abbrev pub is_same_run : List Run → List Run → ℕ → Bool
is_same_run a b at = (run_at a at).first == (run_at b at).first && (run_at a at).count == (run_at b at).count

unfoldable pub are_same_runs : List Run → List Run → Bool
are_same_runs a b = (length a == length b) && list_all (is_same_run a b) (range_with_len 0 (length a))

abbrev pub is_same_table : MftTable → MftTable → Bool
is_same_table a b = is_same_boot a.boot b.boot && are_same_runs a.runs.items b.runs.items

-- a table that is new, where there is room for one more: at most 32
abbrev pub is_new : List MftTable → MftTable → Bool
is_new before table = nat_lt (length before) 32 && not (list_any (is_same_table table) before)

-- what is kept once one more came
abbrev pub kept_with : List MftTable → MftTable → List MftTable
kept_with before table = if is_new before table then before ++ table ∷ [] else before

-- the first distinct tables that records tell, in the order of the records, and of one record in that of the boot sectors
abbrev pub tables_in : List ℕ → List (List ℕ) → List MftBoot → List RecordSeen → List MftTable
tables_in lengths images boots seen = fold kept_with [] (flat_map (tables_at lengths images boots) seen)

-- some of these records, in their order
abbrev pub IsPart : List RecordSeen → List RecordSeen → Type 0
IsPart all [] = Unit {0}
IsPart [] (r ∷ some) = ⊥
IsPart (s ∷ all) (r ∷ some) = IsPart all (r ∷ some) ⊎ ((s ≡ r) × IsPart all some)

-- a record that may begin in a sector of an image
pub record IsSeen (lengths : List ℕ) (r : RecordSeen) : Type 0 where
  pub sector : IsSomeAnd (slice_get lengths r.image) (λ n. r.sector < n)
  pub size : IsTrue (is_record_size r.start.bytes)

-- reading ends without records where the images failed, and their count of faults rose, or where memory ran out, and it stayed
abbrev pub EndsReading : Seen → Seen → ReadFault → Type 0
EndsReading old new Images = Rose old.faults new.faults
EndsReading old new Memory = new.faults ≡ old.faults
