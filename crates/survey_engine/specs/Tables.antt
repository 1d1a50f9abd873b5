-- The groups of file records of NTFS: which sightings tell of them, and the marks of each table.
use Rattle.std.specs.Prelude.{ℕ, ◌+◌, ◌*◌, ◌/◌, ◌<◌, ◌≤◌, Bool, not, ◌&&◌, nat_lt, All, IsSomeAnd, List, [], ◌∷◌, length, map, Option, Some, None, if◌then◌else◌, slice_get}
use Rattle.std.specs.List.{filter_map, list_any}
use Rattle.std.specs.Option.{option_map}
use Rattle.mft.specs.Boot.{is_near, is_record_size}
use Rattle.mft.specs.Places.{IsTable}
use Rattle.mft.specs.declared.boot.MftBoot.{MftBoot}
use Rattle.mft.specs.declared.places.MftPlace.{MftPlace}
use Rattle.mft.specs.declared.places.MftTable.{MftTable}
use Rattle.mft.specs.declared.start.RecordStart.{RecordStart}
use Rattle.mft_survey.specs.Marks.{marks_by}
use Rattle.mft_survey.specs.Records.{is_same_boot, tables_in, whole_records}
use Rattle.mft_survey.specs.declared.marks.RecordMark.{RecordMark}
use Rattle.mft_survey.specs.declared.records.RecordSeen.{RecordSeen}
use Rattle.mft_survey.specs.declared.records.Records.{Records}
use Rattle.mark_kinds.specs.declared.table.GroupKind.TheVariants.{Mft as MftGroup}
use Rattle.mark_kinds.specs.declared.table.Kind.TheVariants.{Mft as MftKind}
use Rattle.landmark_rules.specs.declared.marks.Group.{Group}
use Rattle.landmark_rules.specs.declared.marks.Mark.{Mark}
use Rattle.landmark_rules.specs.declared.marks.Rule.{Rule}
use Rattle.landmark_rules.specs.declared.marks.Rule.TheVariants.{At, Either}
use Rattle.ntfs_marks.specs.declared.boot.NtfsBoot.{NtfsBoot}
use Rattle.ntfs_marks.specs.declared.file_record.NtfsRecord.{NtfsRecord}
use Rattle.raid_params.specs.declared.limits.TheConstants.{MOST}
use Rattle.survey_engine.specs.Kept.{kept}
use Rattle.survey_engine.specs.declared.landmark.Landmark.{Landmark}
use Rattle.survey_engine.specs.declared.landmark.Landmark.TheVariants.{Boot, FileRecord, Record, Volume}
use Rattle.survey_engine.specs.declared.sighting.Sighting.{Sighting}

-- ---- file records

-- a record that counts as a landmark of the kind `record`, if it has one of the two sizes
unfoldable pub first_record : NtfsRecord → Option RecordStart
first_record r = if is_record_size r.bytes then Some (record { number = r.number; bytes = r.bytes }) else None

-- the file record that begins in a sector: one of the first sixteen, or one of `mft`
abbrev pub start_by : Landmark → Option RecordStart
start_by (FileRecord r) = first_record r
start_by (Record r) = Some r
start_by landmark = None

abbrev pub record_by : Sighting → Option RecordSeen
record_by s = option_map (λ start. record { image = s.image; sector = s.sector; start = start }) (start_by s.landmark)

-- the records that were seen, where they are looked for
abbrev pub records_of : Bool → List Sighting → List RecordSeen
records_of asked found = if asked then filter_map record_by found else []

-- ---- boot sectors

-- what a boot sector that counts as a landmark of the kind `boot` says of the table, if that is within limits
unfoldable pub boot_of : NtfsBoot → MftBoot
boot_of b = record { cluster = b.cluster; mft = b.mft; mirror = b.mirror; bytes = b.record_bytes }

unfoldable pub near_boot : MftBoot → Option MftBoot
near_boot b = if is_near b then Some b else None

-- what a landmark says of a table
abbrev pub boot_by : Landmark → Option MftBoot
boot_by (Boot b) = near_boot (boot_of b)
boot_by (Volume b) = Some b
boot_by landmark = None

-- what another boot sector did not say, where there is room for one more
abbrev pub is_new_boot : List MftBoot → MftBoot → Bool
is_new_boot before b = nat_lt (length before) 32 && not (list_any (is_same_boot b) before)

-- the first distinct ones, in the order of the sightings
unfoldable pub boots_of : List Sighting → List MftBoot
boots_of found = kept is_new_boot (filter_map (λ s. boot_by s.landmark) found)

-- ---- groups

-- where a record may lie: in the table, or there and in the mirror
abbrev pub rule_with : ℕ → Option ℕ → Rule
rule_with first None = At first
rule_with first (Some second) = Either first second

abbrev pub place_rule : MftPlace → Rule
place_rule place = rule_with place.first place.second

abbrev pub record_mark : RecordMark → Mark
record_mark m = record { kind = MftKind; image = m.image; sector = m.sector; rule = place_rule m.place }

-- the group of a table: none of a table without marks
abbrev pub group_with : List Mark → Option Group
group_with [] = None
group_with (mark ∷ marks) = Some (record { kind = MftGroup; marks = mark ∷ marks; bounds = None })

unfoldable pub group_by : ℕ → List RecordSeen → MftTable → Option Group
group_by most whole table = group_with (map record_mark (marks_by most whole table))

-- the groups of tables, by the records that are whole: of all tables together at most 4,096 marks, and of each as many
unfoldable pub groups_by : List RecordSeen → List MftTable → List Group
groups_by whole tables = filter_map (group_by (4096 / length tables) whole) tables

-- the groups of what was found, by the bytes of the images
unfoldable pub table_groups : Bool → List ℕ → List (List ℕ) → List Sighting → List Group
table_groups asked lengths images found =
    groups_by (whole_records lengths images (records_of asked found)) (tables_in lengths images (boots_of found) (records_of asked found))

-- ---- what holds whether the bytes are known or not

abbrev pub record_place : RecordSeen → ℕ
record_place r = r.sector * MOST + r.image

-- the records rise strictly by these
abbrev pub AreClimbing : List RecordSeen → Type 0
AreClimbing [] = Unit {0}
AreClimbing (r ∷ whole) = All (λ later. record_place r < record_place later) whole × AreClimbing whole

-- a record lies in an image
pub record IsThere (lengths : List ℕ) (r : RecordSeen) : Type 0 where
  pub image : r.image < MOST
  pub sector : IsSomeAnd (slice_get lengths r.image) (λ n. r.sector < n)

-- records of these images, which rise, and at most 32 tables
pub record AreRecords (lengths : List ℕ) (records : Records) : Type 0 where
  pub there : All (IsThere lengths) records.whole
  pub climbing : AreClimbing records.whole
  pub sound : All IsTable records.tables
  pub few : length records.tables ≤ 32
