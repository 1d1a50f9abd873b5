-- The groups of file records of NTFS are those of a plan, behind the others.
use Rattle.std.proofs.Common.{◌≡◌, ℕ, zero, suc, ◌+◌, ◌*◌, ◌/◌, ◌^◌, ◌<◌, ◌≤◌, List, [], ◌∷◌, ◌++◌, Bool, true, false, cond, length, map, take, refl, sym, ap, subst, ◌∙◌, arith, All, IfSome, IsTrue, OnOk, Option, Some, None, Result, Ok, Err, inl, inr}
use Rattle.std.specs.Prelude.{count_by, nat_le, nat_lt, option_and_then, ◌==◌, ◌&&◌}
use Rattle.std.specs.List.{cons_option, filter_map, flat_map}
use Rattle.std.specs.List.Sorted.{IsStrictlyIncreasing}
use Rattle.std.specs.Option.{is_some, option_map}
use Rattle.std.proofs.lemmas.Bool.{and_parts, leb-true}
use Rattle.std.proofs.lemmas.List.{append-nil, append_assoc, length-append, length-map, length-take}
use Rattle.std.proofs.lemmas.List.Concat.{flat_map-append}
use Rattle.std.proofs.lemmas.List.Elements.{All-cons, All-head, All-map, All-nil, All-tail, All-take}
use Rattle.std.proofs.lemmas.List.Sums.{count_by-le-length, sum_by-cons}
use Rattle.mft.specs.Boot.{is_record_size}
use Rattle.mft.specs.Places.{place_of, IsTable}
use Rattle.mft.specs.declared.places.MftPlace.{MftPlace}
use Rattle.mft.specs.declared.places.MftTable.{MftTable}
use Rattle.mft.specs.declared.start.RecordStart.{RecordStart}
use Rattle.mft.proofs.Tables.{place_near}
use Rattle.mft_survey.specs.Marks.{mark_by, marks_by}
use Rattle.mft_survey.specs.Records.{tables_in, whole_records, IsPart, IsSeen}
use Rattle.mft_survey.specs.declared.marks.RecordMark.{RecordMark}
use Rattle.mft_survey.specs.declared.records.RecordSeen.{RecordSeen}
use Rattle.mft_survey.specs.declared.records.Records.{Records}
use Rattle.ntfs_marks.specs.declared.file_record.NtfsRecord.{NtfsRecord}
use Rattle.landmark_rules.specs.Groups.{mark_place, marks_in, AreGroups, AreMarkBounds, IsMark}
use Rattle.landmark_rules.specs.Rules.{IsRule}
use Rattle.landmark_rules.specs.declared.marks.Group.{Group}
use Rattle.landmark_rules.specs.declared.marks.Mark.{Mark}
use Rattle.mark_kinds.specs.Table.{all_groups, group_place, is_group_asked, is_same_group, most_groups}
use Rattle.mark_kinds.specs.declared.table.GroupKind.{GroupKind}
use Rattle.mark_kinds.specs.declared.table.GroupKind.TheVariants.{Mft as MftGroup}
use Rattle.mark_kinds.specs.declared.table.Kinds.{Kinds}
use Rattle.mark_kinds.specs.declared.table.Kind.{Kind}
use Rattle.survey_engine.specs.Kept.{kept}
use Rattle.survey_engine.specs.Landmarks.{IsSound}
use Rattle.survey_engine.specs.Owners.{group_kind, groups_asked, groups_in, groups_of, owner_among, owner_in, owners_of}
use Rattle.survey_engine.specs.Sightings.{sighted_at, sighting_place, AreRising, AreSightings, IsInImages}
use Rattle.outside.specs.Seen.{Image, lengths_of}
use Rattle.search_plan.specs.declared.plan.Plan.{Plan}
use Rattle.survey_engine.specs.Origins.{headers_of, origins_of}
use Rattle.survey_engine.specs.Sizing.{all_sized}
use Rattle.survey_engine.specs.Surveys.{found_in, Adds}
use Rattle.survey_engine.specs.Systems.{systems_of}
use Rattle.survey_engine.specs.Telling.{told}
use Rattle.xfs5.specs.declared.places.XfsInodes.{XfsInodes}
use Rattle.survey_engine.specs.declared.ask.Ask.{Ask}
use Rattle.survey_engine.specs.Tables.{boots_of, table_groups, first_record, group_by, group_with, groups_by, place_rule, record_by, record_mark, record_place, records_of, start_by, AreClimbing, AreRecords, IsThere}
use Rattle.survey_engine.specs.declared.landmark.Landmark.{Landmark}
use Rattle.survey_engine.specs.declared.landmark.Landmark.TheVariants.{FileRecord, Record}
use Rattle.survey_engine.specs.declared.owner.Owner.{Owner}
use Rattle.survey_engine.specs.declared.owner.Owner.TheVariants.{Table, Ntfs, Xfs, Btrfs, Label, Ext, Xfs5, Trees, Extinode}
use Rattle.survey_engine.specs.declared.sighting.Sighting.{Sighting}
use Rattle.survey_engine.proofs.Law.{asked_of, is_of, joined, never_falls, none_from, place_of as place_in_order, AreFrom, AreOf, Rise}
use Rattle.survey_engine.proofs.Numbers.{rising_from, Rises}
use Rattle.survey_engine.proofs.Kept.{mapped_each}

-- ---- records that were seen

abbrev no_start : Option RecordStart
no_start = None

sized : (b : Bool) (start : RecordStart) → is_record_size start.bytes ≡ b → IfSome (cond b (Some start) no_start) (λ (r : RecordStart). IsTrue (is_record_size r.bytes))
sized true start e = e
sized false start e = tt

start_sized : (l : Landmark) → IsSound l → IfSome (start_by l) (λ (r : RecordStart). IsTrue (is_record_size r.bytes))
unfolding first_record
start_sized (FileRecord r) is = sized (is_record_size r.bytes) (record { number = r.number; bytes = r.bytes }) refl
start_sized (Record r) is = is
start_sized l is = tt

seen_of : (lengths : List ℕ) (s : Sighting) (start : Option RecordStart) → IsInImages lengths s → IfSome start (λ (r : RecordStart). IsTrue (is_record_size r.bytes)) →
    IfSome (option_map (λ (r : RecordStart). record { image = s.image; sector = s.sector; start = r }) start) (λ (r : RecordSeen). IsSeen lengths r × IsThere lengths r)
seen_of lengths s None is size = tt
seen_of lengths s (Some r) is size = (record { sector = is.sector; size = size }, record { image = is.image; sector = is.sector })

all_seen : (lengths : List ℕ) (found : List Sighting) → All (IsInImages lengths) found → All (λ (r : RecordSeen). IsSeen lengths r × IsThere lengths r) (filter_map record_by found)
all_seen lengths found each = mapped_each (IsInImages lengths) (λ (r : RecordSeen). IsSeen lengths r × IsThere lengths r) record_by (λ s is. seen_of lengths s (start_by s.landmark) is (start_sized s.landmark is.sound)) found each

asked_seen : (lengths : List ℕ) (asked : Bool) (found : List Sighting) → All (IsInImages lengths) found → All (λ (r : RecordSeen). IsSeen lengths r × IsThere lengths r) (records_of asked found)
asked_seen lengths true found each = all_seen lengths found each
asked_seen lengths false found each = All-nil (λ (r : RecordSeen). IsSeen lengths r × IsThere lengths r)

pub are_seen : (lengths : List ℕ) (asked : Bool) (found : List Sighting) → All (IsInImages lengths) found → All (IsSeen lengths) (records_of asked found)
are_seen lengths asked found each k d below = (asked_seen lengths asked found each k d below).0

are_there : (lengths : List ℕ) (asked : Bool) (found : List Sighting) → All (IsInImages lengths) found → All (IsThere lengths) (records_of asked found)
are_there lengths asked found each k d below = (asked_seen lengths asked found each k d below).1

placed : (s : Sighting) (start : Option RecordStart) → IfSome (option_map (λ (r : RecordStart). record { image = s.image; sector = s.sector; start = r }) start) (λ (r : RecordSeen). record_place r ≡ sighting_place s)
placed s None = tt
placed s (Some r) = refl

later_one : (n : ℕ) (s : Sighting) (one : Option RecordSeen) (rest : List RecordSeen) → IfSome one (λ (r : RecordSeen). record_place r ≡ sighting_place s) → n < sighting_place s → All (λ (r : RecordSeen). n < record_place r) rest → All (λ (r : RecordSeen). n < record_place r) (cons_option one rest)
later_one n s None rest at less all = all
later_one n s (Some r) rest at less all = All-cons (λ (r : RecordSeen). n < record_place r) r rest (omega (arith, at, less)) all

later_all : (n : ℕ) (found : List Sighting) → All (λ t. n < sighting_place t) found → All (λ (r : RecordSeen). n < record_place r) (filter_map record_by found)
later_all n [] all = All-nil (λ (r : RecordSeen). n < record_place r)
later_all n (s ∷ found) all =
    later_one n s (record_by s) (filter_map record_by found) (placed s (start_by s.landmark)) (All-head (λ t. n < sighting_place t) s found all) (later_all n found (All-tail (λ t. n < sighting_place t) s found all))

climb_one : (s : Sighting) (one : Option RecordSeen) (rest : List RecordSeen) → IfSome one (λ (r : RecordSeen). record_place r ≡ sighting_place s) → All (λ (r : RecordSeen). sighting_place s < record_place r) rest → AreClimbing rest → AreClimbing (cons_option one rest)
climb_one s None rest at all climbing = climbing
climb_one s (Some r) rest at all climbing = (subst (λ (n : ℕ). All (λ (later : RecordSeen). n < record_place later) rest) (sym at) all, climbing)

all_climb : (found : List Sighting) → AreRising found → AreClimbing (filter_map record_by found)
all_climb [] rising = tt
all_climb (s ∷ found) rising = climb_one s (record_by s) (filter_map record_by found) (placed s (start_by s.landmark)) (later_all (sighting_place s) found rising.0) (all_climb found rising.1)

asked_climb : (asked : Bool) (found : List Sighting) → AreRising found → AreClimbing (records_of asked found)
asked_climb true found rising = all_climb found rising
asked_climb false found rising = tt

-- ---- some of them

part_each : (P : RecordSeen → Type 0) (all some : List RecordSeen) → IsPart all some → All P all → All P some
part_each P all [] part each = All-nil P
part_each P [] (r ∷ some) part each = absurd part
part_each P (s ∷ all) (r ∷ some) part each = elim part [
  | inl later ↦ part_each P all (r ∷ some) later (All-tail P s all each)
  | inr here ↦ All-cons P r some (subst P here.0 (All-head P s all each)) (part_each P all some here.1 (All-tail P s all each))
]

part_climb : (all some : List RecordSeen) → IsPart all some → AreClimbing all → AreClimbing some
part_climb all [] part climbing = tt
part_climb [] (r ∷ some) part climbing = absurd part
part_climb (s ∷ all) (r ∷ some) part climbing = elim part [
  | inl later ↦ part_climb all (r ∷ some) later climbing.1
  | inr here ↦ (part_each (λ (later : RecordSeen). record_place r < record_place later) all some here.1 (subst (λ (t : RecordSeen). All (λ (later : RecordSeen). record_place t < record_place later) all) here.0 climbing.0), part_climb all some here.1 climbing.1)
]

pub are_records : (lengths : List ℕ) (asked : Bool) (found : List Sighting) (records : Records) → AreSightings lengths found → IsPart (records_of asked found) records.whole → All IsTable records.tables → length records.tables ≤ 32 → AreRecords lengths records
are_records lengths asked found records are part sound few = record {
  there = part_each (IsThere lengths) (records_of asked found) records.whole part (are_there lengths asked found are.each);
  climbing = part_climb (records_of asked found) records.whole part (asked_climb asked found are.rising);
  sound = sound;
  few = few;
}

-- ---- marks of a table

abbrev IsPlaced : List ℕ → RecordMark → Type 0
IsPlaced lengths m = IsMark lengths MftGroup (record_mark m)

rule_near : (place : MftPlace) → (place.first < 2 ^ 55) × IfSome place.second (λ n. n < 2 ^ 55) → IsRule (place_rule place)
rule_near place near = by_second place.first place.second near
  where
    by_second : (first : ℕ) (second : Option ℕ) → (first < 2 ^ 55) × IfSome second (λ n. n < 2 ^ 55) → IsRule (place_rule (record { first = first; second = second }))
    by_second first None near = near.0
    by_second first (Some n) near = near

marked : (lengths : List ℕ) (r : RecordSeen) (place : Option MftPlace) → IsThere lengths r → IfSome place (λ (p : MftPlace). (p.first < 2 ^ 55) × IfSome p.second (λ n. n < 2 ^ 55)) →
    IfSome (option_map (λ (p : MftPlace). record { image = r.image; sector = r.sector; place = p }) place) (IsPlaced lengths)
marked lengths r None there near = tt
marked lengths r (Some p) there near = record { kind_of = refl; image = there.image; sector = there.sector; rule = rule_near p near }

if_marked : (lengths : List ℕ) (b : Bool) (one : Option RecordMark) → IfSome one (IsPlaced lengths) → IfSome (cond b one None) (IsPlaced lengths)
if_marked lengths true one is = is
if_marked lengths false one is = tt

mark_is : (lengths : List ℕ) (table : MftTable) (r : RecordSeen) → IsTable table → IsThere lengths r → IfSome (mark_by table r) (IsPlaced lengths)
unfolding mark_by
mark_is lengths table r is there = if_marked lengths (r.start.bytes == table.boot.bytes && nat_lt 0 r.start.number) (option_map (λ (p : MftPlace). record { image = r.image; sector = r.sector; place = p }) (place_of table r.start.number)) (marked lengths r (place_of table r.start.number) there (place_near table r.start.number is))

are_placed : (lengths : List ℕ) (most : ℕ) (whole : List RecordSeen) (table : MftTable) → IsTable table → All (IsThere lengths) whole → All (IsMark lengths MftGroup) (map record_mark (marks_by most whole table))
unfolding marks_by
are_placed lengths most whole table is there =
    All-map (IsMark lengths MftGroup) record_mark (take most (filter_map (mark_by table) whole))
    (All-take (IsPlaced lengths) most (filter_map (mark_by table) whole) (mapped_each (IsThere lengths) (IsPlaced lengths) (mark_by table) (λ r here. mark_is lengths table r is here) whole there))

-- ---- they rise

abbrev at : RecordMark → ℕ
at m = mark_place (record_mark m)

there_at : (r : RecordSeen) (b : Bool) (place : Option MftPlace) → IfSome (cond b (option_map (λ (p : MftPlace). record { image = r.image; sector = r.sector; place = p }) place) None) (λ (m : RecordMark). at m ≡ record_place r)
there_at r true None = tt
there_at r true (Some p) = refl
there_at r false place = tt

mark_at : (table : MftTable) (r : RecordSeen) → IfSome (mark_by table r) (λ (m : RecordMark). at m ≡ record_place r)
unfolding mark_by
mark_at table r = there_at r (r.start.bytes == table.boot.bytes && nat_lt 0 r.start.number) (place_of table r.start.number)

above_one : (n : ℕ) (r : RecordSeen) (one : Option RecordMark) (rest : List RecordMark) → IfSome one (λ (m : RecordMark). at m ≡ record_place r) → n < record_place r → All (λ (m : RecordMark). n < at m) rest → All (λ (m : RecordMark). n < at m) (cons_option one rest)
above_one n r None rest is less all = all
above_one n r (Some m) rest is less all = All-cons (λ (m : RecordMark). n < at m) m rest (omega (arith, is, less)) all

above : (n : ℕ) (table : MftTable) (whole : List RecordSeen) → All (λ (r : RecordSeen). n < record_place r) whole → All (λ (m : RecordMark). n < at m) (filter_map (mark_by table) whole)
above n table [] all = All-nil (λ (m : RecordMark). n < at m)
above n table (r ∷ whole) all =
    above_one n r (mark_by table r) (filter_map (mark_by table) whole) (mark_at table r) (All-head (λ (r : RecordSeen). n < record_place r) r whole all) (above n table whole (All-tail (λ (r : RecordSeen). n < record_place r) r whole all))

Climb : List RecordMark → Type 0
Climb [] = Unit {0}
Climb (m ∷ marks) = All (λ (later : RecordMark). at m < at later) marks × Climb marks

mark_climb_one : (r : RecordSeen) (one : Option RecordMark) (rest : List RecordMark) → IfSome one (λ (m : RecordMark). at m ≡ record_place r) → All (λ (m : RecordMark). record_place r < at m) rest → Climb rest → Climb (cons_option one rest)
unfolding Climb
mark_climb_one r None rest is all climbing = climbing
mark_climb_one r (Some m) rest is all climbing = (subst (λ (n : ℕ). All (λ (later : RecordMark). n < at later) rest) (sym is) all, climbing)

marks_climb : (table : MftTable) (whole : List RecordSeen) → AreClimbing whole → Climb (filter_map (mark_by table) whole)
unfolding Climb
marks_climb table [] climbing = tt
marks_climb table (r ∷ whole) climbing = mark_climb_one r (mark_by table r) (filter_map (mark_by table) whole) (mark_at table r) (above (record_place r) table whole climbing.0) (marks_climb table whole climbing.1)

taken_climb : (n : ℕ) (marks : List RecordMark) → Climb marks → Climb (take n marks)
unfolding Climb
taken_climb zero marks climbing = tt
taken_climb (suc n) [] climbing = tt
taken_climb (suc n) (m ∷ marks) climbing = (All-take (λ (later : RecordMark). at m < at later) n marks climbing.0, taken_climb n marks climbing.1)

rises_of : (marks : List RecordMark) → Climb marks → Rises (map mark_place (map record_mark marks))
unfolding Climb Rises
rises_of [] climbing = tt
rises_of (m ∷ marks) climbing = (All-map (λ (k : ℕ). at m < k) mark_place (map record_mark marks) (All-map (λ (k : Mark). at m < mark_place k) record_mark marks climbing.0), rises_of marks climbing.1)

are_rising : (most : ℕ) (whole : List RecordSeen) (table : MftTable) → AreClimbing whole → IsStrictlyIncreasing (map mark_place (map record_mark (marks_by most whole table)))
unfolding marks_by
are_rising most whole table climbing =
    rising_from (map mark_place (map record_mark (take most (filter_map (mark_by table) whole)))) (rises_of (take most (filter_map (mark_by table) whole)) (taken_climb most (filter_map (mark_by table) whole) (marks_climb table whole climbing)))

-- ---- groups

of_group : (P : Group → Type 0) (marks : List Mark) → P (record { kind = MftGroup; marks = marks; bounds = None }) → IfSome (group_with marks) P
of_group P [] is = tt
of_group P (m ∷ marks) is = is

each_group : (P : Group → Type 0) (most : ℕ) (whole : List RecordSeen) (tables : List MftTable) → ((t : MftTable) → IsTable t → P (record { kind = MftGroup; marks = map record_mark (marks_by most whole t); bounds = None })) → All IsTable tables →
    All P (filter_map (group_by most whole) tables)
unfolding group_by
each_group P most whole tables is sound = mapped_each IsTable P (group_by most whole) (λ t so. of_group P (map record_mark (marks_by most whole t)) (is t so)) tables sound

one_more : {Y : Type 0} (one : Option Y) (rest : List Y) → length (cons_option one rest) ≤ length rest + 1
one_more None rest = omega arith
one_more (Some y) rest = omega arith

no_more : (most : ℕ) (whole : List RecordSeen) (tables : List MftTable) → length (filter_map (group_by most whole) tables) ≤ length tables
no_more most whole [] = omega arith
no_more most whole (t ∷ tables) = omega (arith, one_more (group_by most whole t) (filter_map (group_by most whole) tables), no_more most whole tables)

few_with : (marks : List Mark) (rest : List Group) → length (marks_in (cons_option (group_with marks) rest)) ≤ length marks + length (marks_in rest)
few_with [] rest = omega arith
few_with (m ∷ marks) rest = omega (arith, length-append (m ∷ marks) (marks_in rest))

few_by : (most : ℕ) (whole : List RecordSeen) (t : MftTable) → length (map record_mark (marks_by most whole t)) ≤ most
unfolding marks_by
few_by most whole t = omega (arith, length-map (take most (filter_map (mark_by t) whole)) record_mark, length-take most (filter_map (mark_by t) whole))

few_in_all : (most : ℕ) (whole : List RecordSeen) (tables : List MftTable) → length (marks_in (filter_map (group_by most whole) tables)) ≤ most * length tables
unfolding group_by
few_in_all most whole [] = omega arith
few_in_all most whole (t ∷ tables) =
    omega (arith, few_with (map record_mark (marks_by most whole t)) (filter_map (group_by most whole) tables), few_by most whole t, few_in_all most whole tables)

of_tables : (lengths : List ℕ) (records : Records) → AreRecords lengths records → AreOf lengths (group_place MftGroup) 32 (groups_by records.whole records.tables)
unfolding groups_by
of_tables lengths records are =
    let whole = records.whole in
    let tables = records.tables in
    let most = 4096 / length tables in
    let few : most * length tables ≤ 4096 = omega arith in
    record {
      place = each_group (λ g. place_in_order g ≡ group_place MftGroup) most whole tables (λ t so. refl) are.sound;
      few = omega (arith, no_more most whole tables, are.few);
      marks = each_group (λ g. All (IsMark lengths g.kind) g.marks) most whole tables (λ t so. are_placed lengths most whole t so are.there) are.sound;
      rising = each_group (λ g. IsStrictlyIncreasing (map mark_place g.marks)) most whole tables (λ t so. are_rising most whole t are.climbing) are.sound;
      bounds = each_group (λ g. IfSome g.bounds AreMarkBounds) most whole tables (λ t so. tt) are.sound;
      few_marks_in = λ kind. omega (arith, count_by-le-length (is_of kind) (marks_in (filter_map (group_by most whole) tables)), few_in_all most whole tables, few);
    }

-- ---- behind the others

no_owner : (o : Owner) → is_same_group (group_kind o) MftGroup ≡ false
no_owner Table = refl
no_owner o = refl

abbrev none_named : Option Owner
none_named = None

no_one : (one : Option Owner) → option_and_then (λ (o : Owner). cond (is_same_group (group_kind o) MftGroup) (Some o) none_named) one ≡ None
no_one None = refl
no_one (Some o) = ap (λ (b : Bool). cond b (Some o) none_named) (no_owner o)

no_owners : (systems : List XfsInodes) (found : List Sighting) → filter_map (owner_among MftGroup systems) found ≡ []
no_owners systems [] = refl
no_owners systems (s ∷ found) =
    ap (λ (one : Option Owner). cons_option one (filter_map (owner_among MftGroup systems) found)) (no_one (owner_in systems (sighted_at s) s.landmark)) ∙ no_owners systems found

no_groups : (asked : Kinds) (found : List Sighting) → groups_asked asked found MftGroup ≡ []
unfolding groups_asked groups_in owners_of
no_groups asked found = by_asked asked.mft
  where
    by_asked : (b : Bool) → cond b (groups_in found MftGroup) [] ≡ []
    by_asked true = rw (no_owners (systems_of found) found) refl
    by_asked false = refl

-- mft is the last kind
others : List GroupKind
others = take (group_place MftGroup) all_groups

but_for : (asked : Kinds) (found : List Sighting) → groups_of asked found ≡ flat_map (groups_asked asked found) others
unfolding others
but_for asked found =
    flat_map-append (groups_asked asked found) (take (group_place MftGroup) all_groups) (MftGroup ∷ [])
    ∙ ap (λ (l : List Group). flat_map (groups_asked asked found) others ++ (l ++ [])) (no_groups asked found) ∙ append-nil (flat_map (groups_asked asked found) others)

end_of : ℕ → List GroupKind → ℕ
end_of n [] = n
end_of n (kind ∷ kinds) = end_of (group_place kind + 1) kinds

then_from : (lengths : List ℕ) (asked : Kinds) (found : List Sighting) (rest : List Group) → AreSightings lengths found → (n : ℕ) (kinds : List GroupKind) → Rise n kinds → AreFrom lengths (end_of n kinds) rest → AreFrom lengths n (flat_map (groups_asked asked found) kinds ++ rest)
unfolding Rise end_of
then_from lengths asked found rest are n [] rise from = from
then_from lengths asked found rest are n (kind ∷ kinds) rise from =
    subst (AreFrom lengths n) (sym (append_assoc (groups_asked asked found kind) (flat_map (groups_asked asked found) kinds) rest))
    (joined lengths n kind (groups_asked asked found kind) (flat_map (groups_asked asked found) kinds ++ rest) rise.0 (asked_of lengths asked found kind are) (then_from lengths asked found rest are (group_place kind + 1) kinds rise.1 from))

rises : ℕ → List GroupKind → Bool
rises n [] = true
rises n (kind ∷ kinds) = nat_le n (group_place kind) && rises (group_place kind + 1) kinds

rise_of : (n : ℕ) (kinds : List GroupKind) → rises n kinds ≡ true → Rise n kinds
unfolding Rise rises
rise_of n [] are = tt
rise_of n (kind ∷ kinds) are =
    let parts = and_parts (nat_le n (group_place kind)) (rises (group_place kind + 1) kinds) are in
    (leb-true n (group_place kind) parts.0, rise_of (group_place kind + 1) kinds parts.1)

others_rise : Rise 0 others
unfolding others rises
others_rise = rise_of 0 others refl

tables_from : (lengths : List ℕ) (records : Records) → AreRecords lengths records → AreFrom lengths (group_place MftGroup) (groups_by records.whole records.tables)
tables_from lengths records are =
    subst (AreFrom lengths (group_place MftGroup)) (append-nil (groups_by records.whole records.tables)) (joined lengths (group_place MftGroup) MftGroup (groups_by records.whole records.tables) [] (omega arith) (of_tables lengths records are) (none_from lengths (group_place MftGroup + 1)))

pub are_all : (lengths : List ℕ) (asked : Kinds) (found : List Sighting) (records : Records) → AreSightings lengths found → AreRecords lengths records → AreGroups lengths (groups_of asked found ++ groups_by records.whole records.tables)
unfolding end_of others
are_all lengths asked found records are records_are =
    let added = groups_by records.whole records.tables in
    let from : AreFrom lengths 0 (flat_map (groups_asked asked found) others ++ added) = then_from lengths asked found added are 0 others others_rise (tables_from lengths records records_are) in
    let all : AreFrom lengths 0 (groups_of asked found ++ added) = subst (λ (l : List Group). AreFrom lengths 0 (l ++ added)) (sym (but_for asked found)) from in
    record { order = never_falls (groups_of asked found ++ added) all.level; few = all.few; marks = all.marks; rising = all.rising; bounds = all.bounds; few_marks = all.few_marks }

-- ---- what a plan adds

pub adds_all : (bytes : Option (List (List ℕ))) (ask : Ask) (attached : List Image) (lengths : List ℕ) (found sized after : List Sighting) (records : Records) (plan : Plan) →
    plan.groups ≡ groups_of ask.kinds after ++ groups_by records.whole records.tables → lengths ≡ lengths_of attached → IfSome bytes (λ images. found ≡ found_in ask attached images) →
    IfSome bytes (λ images. records.whole ≡ whole_records lengths images (records_of ask.kinds.mft found)) → IfSome bytes (λ images. records.tables ≡ tables_in lengths images (boots_of found) (records_of ask.kinds.mft found)) →
    IfSome bytes (λ images. sized ≡ all_sized ask.kinds.xfs5 lengths images found) → IfSome bytes (λ images. after ≡ told ask.kinds lengths images sized) →
    IfSome bytes (λ images. plan.tests.origins.items ≡ origins_of ask.tests.origins.items lengths images (headers_of ask.kinds.gpt found)) → IfSome bytes (λ images. Adds ask attached images plan)
unfolding table_groups
adds_all None ask attached lengths found sized after records plan groups are is whole tables size tells origins = tt
adds_all (Some images) ask attached lengths found sized after records plan groups are is whole tables size tells origins =
    let all = λ (ns : List ℕ) (l : List Sighting). groups_of ask.kinds (told ask.kinds ns images (all_sized ask.kinds.xfs5 ns images l)) ++ table_groups ask.kinds.mft ns images l in
    let here : groups_of ask.kinds after ++ groups_by records.whole records.tables ≡ all lengths found =
    ap (λ (l : List Sighting). groups_of ask.kinds l ++ groups_by records.whole records.tables) (tells ∙ ap (told ask.kinds lengths images) size)
    ∙ ap (λ (w : List RecordSeen). groups_of ask.kinds (told ask.kinds lengths images (all_sized ask.kinds.xfs5 lengths images found)) ++ groups_by w records.tables) whole
    ∙ ap (λ (t : List MftTable). groups_of ask.kinds (told ask.kinds lengths images (all_sized ask.kinds.xfs5 lengths images found)) ++ groups_by (whole_records lengths images (records_of ask.kinds.mft found)) t) tables in
    record {
      groups = groups ∙ here ∙ ap (λ (ns : List ℕ). all ns found) are ∙ ap (all (lengths_of attached)) is;
      origins =
          origins ∙ ap (λ (ns : List ℕ). origins_of ask.tests.origins.items ns images (headers_of ask.kinds.gpt found)) are
          ∙ ap (λ (l : List Sighting). origins_of ask.tests.origins.items (lengths_of attached) images (headers_of ask.kinds.gpt l)) is;
    }

-- what holds where a call succeeds
pub on_ok : {A E : Type 0} (P : Type 0) (result : Result A E) (value : A) → result ≡ Ok value → OnOk result P → P
on_ok P (Ok other) value is holds = holds
on_ok P (Err fault) value is holds = absurd (cc)
