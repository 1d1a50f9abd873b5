-- The groups of file records of NTFS, one sighting, record and table after the other.
use Rattle.std.proofs.Common.{◌≡◌, ℕ, ◌+◌, ◌/◌, ◌<◌, ◌≤◌, List, [], ◌∷◌, ◌++◌, length, map, take, get_or, refl, sym, ap, ◌∙◌, arith, All, Option, Some, None}
use Rattle.std.specs.List.{filter_map, cons_option}
use Rattle.std.proofs.lemmas.List.{append-nil, append_assoc, take_all, map_more}
use Rattle.std.proofs.lemmas.List.Elements.{All-get_or}
use Rattle.std.proofs.lemmas.List.Sums.{fold-append}
use Rattle.mft.specs.Places.{IsTable}
use Rattle.mft.specs.declared.boot.MftBoot.{MftBoot}
use Rattle.mft.specs.declared.places.MftTable.{MftTable}
use Rattle.mft_survey.specs.Marks.{marks_by}
use Rattle.mft_survey.specs.declared.marks.RecordMark.{RecordMark}
use Rattle.mft_survey.specs.declared.records.RecordSeen.{RecordSeen}
use Rattle.mft_survey.proofs.Marked.{same_at}
use Rattle.mark_kinds.specs.declared.table.GroupKind.TheVariants.{Mft as MftGroup}
use Rattle.landmark_rules.specs.declared.marks.Group.{Group}
use Rattle.landmark_rules.specs.declared.marks.Mark.{Mark}
use Rattle.survey_engine.specs.Kept.{kept, kept_with}
use Rattle.survey_engine.specs.Tables.{boot_by, boots_of, group_by, group_with, groups_by, is_new_boot, record_by, record_mark}
use Rattle.survey_engine.specs.declared.sighting.Sighting.{Sighting}
use Rattle.survey_engine.proofs.Kept.{maps_more}

-- ---- records

pub records_to : List Sighting → ℕ → List RecordSeen
records_to found n = filter_map record_by (take n found)

pub records_none : (found : List Sighting) → records_to found 0 ≡ []
unfolding records_to
records_none found = refl

pub records_some : (found : List Sighting) (i : ℕ) (s : Sighting) (r : RecordSeen) → i < length found → s ≡ get_or found i s → record_by s ≡ Some r → records_to found (i + 1) ≡ records_to found i ++ r ∷ []
unfolding records_to
records_some found i s r below is at = maps_more record_by found i s (Some r) below is at

pub records_same : (found : List Sighting) (i : ℕ) (s : Sighting) → i < length found → s ≡ get_or found i s → record_by s ≡ None → records_to found (i + 1) ≡ records_to found i
unfolding records_to
records_same found i s below is at = maps_more record_by found i s None below is at ∙ append-nil (filter_map record_by (take i found))

pub records_all : (found : List Sighting) (n : ℕ) → length found ≤ n → records_to found n ≡ filter_map record_by found
unfolding records_to
records_all found n all = ap (filter_map record_by) (take_all n found all)

-- ---- boot sectors

abbrev boot_at : Sighting → Option MftBoot
boot_at s = boot_by s.landmark

pub boots_to : List Sighting → ℕ → List MftBoot
boots_to found n = kept is_new_boot (filter_map boot_at (take n found))

pub boots_none : (found : List Sighting) → boots_to found 0 ≡ []
unfolding boots_to
boots_none found = refl

pub boots_some : (found : List Sighting) (i : ℕ) (s : Sighting) (b : MftBoot) → i < length found → s ≡ get_or found i s → boot_by s.landmark ≡ Some b → boots_to found (i + 1) ≡ kept_with is_new_boot (boots_to found i) b
unfolding boots_to
boots_some found i s b below is at =
    ap (kept is_new_boot) (maps_more boot_at found i s (Some b) below is at) ∙ fold-append (kept_with is_new_boot) [] (filter_map boot_at (take i found)) (b ∷ [])

pub boots_same : (found : List Sighting) (i : ℕ) (s : Sighting) → i < length found → s ≡ get_or found i s → boot_by s.landmark ≡ None → boots_to found (i + 1) ≡ boots_to found i
unfolding boots_to
boots_same found i s below is at =
    ap (kept is_new_boot) (maps_more boot_at found i s None below is at ∙ append-nil (filter_map boot_at (take i found)))

pub boots_all : (found : List Sighting) (n : ℕ) → length found ≤ n → boots_to found n ≡ boots_of found
unfolding boots_to boots_of
boots_all found n all = ap (λ (l : List Sighting). kept is_new_boot (filter_map boot_at l)) (take_all n found all)

-- ---- marks

pub marks_to : List RecordMark → ℕ → List Mark
marks_to records n = map record_mark (take n records)

pub marks_none : (records : List RecordMark) → marks_to records 0 ≡ []
unfolding marks_to
marks_none records = refl

pub marks_more : (records : List RecordMark) (i : ℕ) (m : RecordMark) → i < length records → m ≡ get_or records i m → marks_to records (i + 1) ≡ marks_to records i ++ record_mark m ∷ []
unfolding marks_to
marks_more records i m below is = map_more record_mark records i m below ∙ ap (λ (x : RecordMark). map record_mark (take i records) ++ record_mark x ∷ []) (sym is)

pub marks_all : (records : List RecordMark) (n : ℕ) → length records ≤ n → marks_to records n ≡ map record_mark records
unfolding marks_to
marks_all records n all = ap (map record_mark) (take_all n records all)

pub marks_step : (records : List RecordMark) (i : ℕ) (d : RecordMark) (old new : List Mark) (m : Mark) → i < length records → old ≡ marks_to records i → m ≡ record_mark (get_or records i d) → new ≡ old ++ m ∷ [] → new ≡ marks_to records (i + 1)
marks_step records i d old new m below so is adds =
    adds ∙ ap (λ (l : List Mark). l ++ m ∷ []) so ∙ ap (λ (x : Mark). marks_to records i ++ x ∷ []) is
    ∙ sym (marks_more records i (get_or records i d) below (same_at records i d (get_or records i d) below))

-- ---- groups

pub no_group : (most : ℕ) (whole : List RecordSeen) (table : MftTable) (marks : List Mark) (old : List Group) → marks ≡ map record_mark (marks_by most whole table) → length marks ≡ 0 → old ≡ old ++ cons_option (group_by most whole table) []
unfolding group_by
no_group most whole table [] old is none = let e : map record_mark (marks_by most whole table) ≡ [] = sym is in rw e (sym (append-nil old))
no_group most whole table (mark ∷ marks) old is none = absurd (omega (arith, none))

pub one_group : (most : ℕ) (whole : List RecordSeen) (table : MftTable) (marks : List Mark) → marks ≡ map record_mark (marks_by most whole table) → 1 ≤ length marks →
    group_by most whole table ≡ Some (record { kind = MftGroup; marks = marks; bounds = None })
unfolding group_by
one_group most whole table [] is some = absurd (omega (arith, some))
one_group most whole table (mark ∷ marks) is some = ap group_with (sym is)

pub tables_to : ℕ → List RecordSeen → List MftTable → List Group → ℕ → List Group
tables_to most whole tables old n = old ++ filter_map (group_by most whole) (take n tables)

pub tables_none : (most : ℕ) (whole : List RecordSeen) (tables : List MftTable) (old : List Group) → tables_to most whole tables old 0 ≡ old
unfolding tables_to
tables_none most whole tables old = append-nil old

pub tables_more : (most : ℕ) (whole : List RecordSeen) (tables : List MftTable) (old : List Group) (i : ℕ) (t : MftTable) → i < length tables → t ≡ get_or tables i t →
    tables_to most whole tables old (i + 1) ≡ tables_to most whole tables old i ++ cons_option (group_by most whole t) []
unfolding tables_to
tables_more most whole tables old i t below is =
    ap (λ (l : List Group). old ++ l) (maps_more (group_by most whole) tables i t (group_by most whole t) below is refl)
    ∙ sym (append_assoc old (filter_map (group_by most whole) (take i tables)) (cons_option (group_by most whole t) []))

pub tables_all : (whole : List RecordSeen) (tables : List MftTable) (old : List Group) (most n : ℕ) → most ≡ 4096 / length tables → length tables ≤ n → tables_to most whole tables old n ≡ old ++ groups_by whole tables
unfolding tables_to groups_by
tables_all whole tables old most n is all =
    ap (λ (k : ℕ). old ++ filter_map (group_by k whole) (take n tables)) is ∙ ap (λ (l : List MftTable). old ++ filter_map (group_by (4096 / length tables) whole) l) (take_all n tables all)

pub no_tables : (whole : List RecordSeen) (tables : List MftTable) (old : List Group) → length tables ≡ 0 → old ≡ old ++ groups_by whole tables
unfolding groups_by
no_tables whole [] old none = sym (append-nil old)
no_tables whole (t ∷ tables) old none = absurd (omega (arith, none))

pub table_at : (tables : List MftTable) (i : ℕ) (t : MftTable) → All IsTable tables → i < length tables → t ≡ get_or tables i t → IsTable t
table_at tables i t all below is = rw is (All-get_or IsTable tables i t below all)
