-- Where whole file records lie by tables.
use Rattle.std.specs.Prelude.{ℕ, ◌/◌, ◌^◌, ◌<◌, ◌==◌, ◌&&◌, ◌++◌, ◌∷◌, nat_lt, List, [], length, map, take, IfSome, Option, None, Some, if◌then◌else◌}
use Rattle.std.specs.List.{filter_map}
use Rattle.std.specs.Option.{option_map}
use Rattle.mft.specs.Places.{place_of}
use Rattle.mft.specs.declared.places.MftTable.{MftTable}
use Rattle.mft_survey.specs.declared.marks.RecordMark.{RecordMark}
use Rattle.mft_survey.specs.declared.records.RecordSeen.{RecordSeen}

-- where a record lies by a table, if it has the size of the table's records and the table has its number. Record 0 is none: unused
-- records of a new volume may have this number too
unfoldable pub mark_by : MftTable → RecordSeen → Option RecordMark
mark_by table r =
    if r.start.bytes == table.boot.bytes && nat_lt 0 r.start.number
    then option_map (λ place. record { image = r.image; sector = r.sector; place = place }) (place_of table r.start.number)
    else None

-- marks with one more, where there is room for it among so many
abbrev pub with_mark : ℕ → List RecordMark → RecordMark → List RecordMark
with_mark most before mark = if nat_lt (length before) most then before ++ mark ∷ [] else before

-- the same, if there is one
abbrev pub with_some : ℕ → List RecordMark → Option RecordMark → List RecordMark
with_some most before None = before
with_some most before (Some mark) = with_mark most before mark

-- the first so many marks of a table. Records do not say to which volume they belong, so each is a mark of each table that has its
-- number
unfoldable pub marks_by : ℕ → List RecordSeen → MftTable → List RecordMark
marks_by most whole table = take most (filter_map (mark_by table) whole)

-- the marks of each table: together at most 4,096, and of each table as many
unfoldable pub marks_of : List RecordSeen → List MftTable → List (List RecordMark)
marks_of whole tables = map (marks_by (4096 / length tables) whole) tables

-- both places are below 2^55
pub record IsNearMark (mark : RecordMark) : Type 0 where
  pub first : mark.place.first < 2 ^ 55
  pub second : IfSome mark.place.second (λ n. n < 2 ^ 55)
