-- What sightings tell of others, one after the other, and what is read for it.
use Rattle.std.proofs.Common.{◌≡◌, ℕ, ◌+◌, ◌-◌, ◌*◌, ◌<◌, ◌≤◌, List, [], ◌∷◌, Bool, true, false, cond, length, map, take, get_or, slice_index, fold, refl, sym, ap, ap₂, ◌∙◌, arith, IfSome, Option, Some, None}
use Rattle.std.specs.Prelude.{count_by, nat_le, not, ◌&&◌, ◌==◌}
use Rattle.std.specs.List.{cons_option, filter_map}
use Rattle.std.specs.Option.{is_some, option_map}
use Rattle.std.proofs.lemmas.List.{take_all}
use Rattle.std.proofs.lemmas.List.Sums.{count_by-le-length, fold_more, sum_by-cons, sum_by-le-sum_by, sum_by-take-le, sum_by_more}
use Rattle.mark_kinds.specs.Table.{kind_place}
use Rattle.mark_kinds.specs.declared.table.Kinds.{Kinds}
use Rattle.mark_kinds.specs.declared.table.Kind.{Kind}
use Rattle.mark_kinds.specs.declared.table.Kind.TheVariants.{Btrfstree as BtrfstreeKind, Ext as ExtKind, Gpt as GptKind, Xfs5 as Xfs5Kind, FileRecord as FileRecordKind, Mft as MftKind}
use Rattle.outside.specs.Attached.{told_all}
use Rattle.outside.specs.Seen.{Image, OnlyReads, Seen, lengths_of}
use Rattle.outside.proofs.Reading.{reads_join, reads_none, reads_up}
use Rattle.survey_engine.specs.declared.ask.Ask.{Ask}
use Rattle.survey_engine.specs.Landmarks.{kind_of}
use Rattle.survey_engine.specs.Origins.{headers_of, is_followed}
use Rattle.survey_engine.specs.Sightings.{is_same_kind}
use Rattle.survey_engine.specs.Sizing.{has_run, is_unsized}
use Rattle.survey_engine.specs.Surveys.{copies_read, found_in, inodes_read, leaves_read, records_read, survey_reads}
use Rattle.mft.specs.declared.start.RecordStart.{RecordStart}
use Rattle.mft_survey.specs.Records.{has_record}
use Rattle.mft_survey.specs.declared.records.RecordSeen.{RecordSeen}
use Rattle.survey_engine.specs.Tables.{first_record, record_by, records_of, start_by}
use Rattle.survey_engine.specs.Telling.{bare, begins_copy, begins_leaf, has_copy, is_leaf, sectors_by, told, told_by, told_by_copy, told_by_leaf}
use Rattle.survey_engine.specs.declared.landmark.Landmark.{Landmark}
use Rattle.survey_engine.specs.declared.landmark.Landmark.TheVariants.{Ext, FileRecord, Inode, Record, Tree}
use Rattle.survey_engine.specs.declared.sighting.Sighting.{Sighting}
use Rattle.survey_engine.proofs.Descriptors.{bare_copy, same_by_copy, same_copy}
use Rattle.survey_engine.proofs.Firsts.{entries_of}
use Rattle.survey_engine.proofs.Leaves.{bare_leaf, same_by_leaf, same_leaf}

-- ---- what one tells is that of what it is

same_by : (asked : Kinds) (lengths : List ℕ) (images : List (List ℕ)) (s a b : Sighting) → bare a ≡ bare b → told_by asked lengths images s a ≡ told_by asked lengths images s b
unfolding told_by
same_by asked lengths images s a b same =
    ap (λ (t : Sighting). told_by_copy asked.extinode lengths images t a) (same_by_leaf asked.btrfstree lengths images s a b same)
    ∙ same_by_copy asked.extinode lengths images (told_by_leaf asked.btrfstree lengths images s b) a b same

-- as a leaf, and then as a copy
twice : (asked : Kinds) (lengths : List ℕ) (images : List (List ℕ)) (by : Sighting) (found : List Sighting) → map (λ s. told_by_copy asked.extinode lengths images s by) (map (λ s. told_by_leaf asked.btrfstree lengths images s by) found) ≡ map (λ s. told_by asked lengths images s by) found
unfolding told_by
twice asked lengths images by [] = refl
twice asked lengths images by (s ∷ found) = ap (λ (l : List Sighting). told_by_copy asked.extinode lengths images (told_by_leaf asked.btrfstree lengths images s by) by ∷ l) (twice asked lengths images by found)

pub told_twice : (bytes : Option (List (List ℕ))) (asked : Kinds) (lengths : List ℕ) (by : Sighting) (found one new : List Sighting) →
    IfSome bytes (λ images. one ≡ map (λ s. told_by_leaf asked.btrfstree lengths images s by) found) → IfSome bytes (λ images. new ≡ map (λ s. told_by_copy asked.extinode lengths images s by) one) →
    IfSome bytes (λ images. new ≡ map (λ s. told_by asked lengths images s by) found)
told_twice None asked lengths by found one new first second = tt
told_twice (Some images) asked lengths by found one new first second = second ∙ ap (map (λ s. told_by_copy asked.extinode lengths images s by)) first ∙ twice asked lengths images by found

pub both_read : (a b c : Seen) (asked : Kinds) (lengths : List ℕ) (by : Sighting) → OnlyReads a b (cond (is_leaf asked.btrfstree lengths by) 32 0) → OnlyReads b c (cond (has_copy asked.extinode lengths by) 256 0) → OnlyReads a c (sectors_by asked lengths by)
unfolding sectors_by
both_read a b c asked lengths by ab bc = reads_join a b c ab bc

pub leaf_alone : (a b : Seen) (asked : Kinds) (lengths : List ℕ) (by : Sighting) → OnlyReads a b (cond (is_leaf asked.btrfstree lengths by) 32 0) → OnlyReads a b (sectors_by asked lengths by)
unfolding sectors_by
leaf_alone a b asked lengths by ab = reads_up a b ab (omega arith)

-- ---- of what was read so far

pub told_to : Kinds → List ℕ → List (List ℕ) → List Sighting → ℕ → List Sighting
told_to asked lengths images found n = map (λ s. fold (told_by asked lengths images) s (take n found)) found

told_start : (asked : Kinds) (lengths : List ℕ) (images : List (List ℕ)) (found : List Sighting) → map (λ s. s) found ≡ found
told_start asked lengths images [] = refl
told_start asked lengths images (s ∷ found) = ap (λ (l : List Sighting). s ∷ l) (told_start asked lengths images found)

one_more : (asked : Kinds) (lengths : List ℕ) (images : List (List ℕ)) (found : List Sighting) (i : ℕ) (by : Sighting) → i < length found → bare by ≡ bare (get_or found i by) → (some : List Sighting) →
    map (λ s. told_by asked lengths images s by) (map (λ s. fold (told_by asked lengths images) s (take i found)) some) ≡ map (λ s. fold (told_by asked lengths images) s (take (i + 1) found)) some
one_more asked lengths images found i by below same [] = refl
one_more asked lengths images found i by below same (s ∷ some) =
    ap₂ (λ (t : Sighting) (l : List Sighting). t ∷ l)
    (same_by asked lengths images (fold (told_by asked lengths images) s (take i found)) by (get_or found i by) same ∙ sym (fold_more (told_by asked lengths images) s found i by below))
    (one_more asked lengths images found i by below same some)

-- ---- and of what is known of images

pub ToldTo : Option (List (List ℕ)) → Kinds → List ℕ → List Sighting → ℕ → List Sighting → Type 0
ToldTo bytes asked lengths found n new = IfSome bytes (λ images. new ≡ told_to asked lengths images found n)

pub told_none : (bytes : Option (List (List ℕ))) (asked : Kinds) (lengths : List ℕ) (found : List Sighting) → ToldTo bytes asked lengths found 0 found
unfolding ToldTo told_to
told_none None asked lengths found = tt
told_none (Some images) asked lengths found = sym (told_start asked lengths images found)

pub told_more : (bytes : Option (List (List ℕ))) (asked : Kinds) (lengths : List ℕ) (found old new : List Sighting) (i : ℕ) (by : Sighting) → i < length found → bare by ≡ bare (get_or found i by) →
    ToldTo bytes asked lengths found i old → IfSome bytes (λ images. new ≡ map (λ s. told_by asked lengths images s by) old) → ToldTo bytes asked lengths found (i + 1) new
unfolding ToldTo told_to
told_more None asked lengths found old new i by below same was adds = tt
told_more (Some images) asked lengths found old new i by below same was adds =
    adds ∙ ap (map (λ s. told_by asked lengths images s by)) was ∙ one_more asked lengths images found i by below same found

pub told_all_of : (bytes : Option (List (List ℕ))) (asked : Kinds) (lengths : List ℕ) (found new : List Sighting) (n : ℕ) → length found ≤ n → ToldTo bytes asked lengths found n new → IfSome bytes (λ images. new ≡ told asked lengths images found)
unfolding ToldTo told_to told
told_all_of None asked lengths found new n all is = tt
told_all_of (Some images) asked lengths found new n all is = is ∙ ap (λ (l : List Sighting). map (λ s. fold (told_by asked lengths images) s l) found) (take_all n found all)

-- ---- what is read for it

-- for the leaves and copies among the first sightings
pub sectors_to : Kinds → List ℕ → List Sighting → ℕ
sectors_to asked lengths found = 32 * count_by (is_leaf asked.btrfstree lengths) found + 256 * count_by (has_copy asked.extinode lengths) found

weight : (b : Bool) → ◌≡◌ {A = ℕ} (cond b 32 0) (32 * cond b 1 0)
weight true = refl
weight false = refl

copy_weight : (b : Bool) → ◌≡◌ {A = ℕ} (cond b 256 0) (256 * cond b 1 0)
copy_weight true = refl
copy_weight false = refl

pub one_read : (a b c : Seen) (asked : Kinds) (lengths : List ℕ) (found : List Sighting) (i : ℕ) (by : Sighting) → i < length found → bare by ≡ bare (get_or found i by) → OnlyReads a b (sectors_to asked lengths (take i found)) → OnlyReads b c (sectors_by asked lengths by) →
    OnlyReads a c (sectors_to asked lengths (take (i + 1) found))
unfolding sectors_to sectors_by
one_read a b c asked lengths found i by below same ab bc =
    let leaf : ◌≡◌ {A = ℕ} (cond (is_leaf asked.btrfstree lengths by) 32 0) (32 * cond (is_leaf asked.btrfstree lengths (get_or found i by)) 1 0) = ap (λ (t : Bool). cond t 32 0) (same_leaf asked.btrfstree lengths by (get_or found i by) same) ∙ weight (is_leaf asked.btrfstree lengths (get_or found i by)) in
    let copy : ◌≡◌ {A = ℕ} (cond (has_copy asked.extinode lengths by) 256 0) (256 * cond (has_copy asked.extinode lengths (get_or found i by)) 1 0) = ap (λ (t : Bool). cond t 256 0) (same_copy asked.extinode lengths by (get_or found i by) same) ∙ copy_weight (has_copy asked.extinode lengths (get_or found i by)) in
    reads_up a c (reads_join a b c ab bc) (omega (arith, sum_by_more (λ (t : Sighting). cond (is_leaf asked.btrfstree lengths t) 1 0) found i by below, sum_by_more (λ (t : Sighting). cond (has_copy asked.extinode lengths t) 1 0) found i by below, leaf, copy))

pub none_to : (a : Seen) (asked : Kinds) (lengths : List ℕ) (found : List Sighting) → OnlyReads a a (sectors_to asked lengths (take 0 found))
unfolding sectors_to
none_to a asked lengths found = reads_up a a (reads_none a) (omega arith)

pub reads_some : (a b : Seen) (asked : Kinds) (lengths : List ℕ) (found : List Sighting) (n : ℕ) → OnlyReads a b (sectors_to asked lengths (take n found)) →
    OnlyReads a b (32 * count_by (is_leaf asked.btrfstree lengths) found + 256 * count_by (has_copy asked.extinode lengths) found)
unfolding sectors_to
reads_some a b asked lengths found n ab =
    reads_up a b ab (omega (arith, sum_by-take-le (λ (t : Sighting). cond (is_leaf asked.btrfstree lengths t) 1 0) found n, sum_by-take-le (λ (t : Sighting). cond (has_copy asked.extinode lengths t) 1 0) found n))

-- how many leaves there are
both_one : (a b : Bool) → cond (a && b) 1 0 ≤ 1
both_one true true = omega arith
both_one true false = omega arith
both_one false b = omega arith

leaf_few : (landmark : Landmark) (b : Bool) → cond (begins_leaf landmark && b) 1 0 ≤ cond (kind_place (kind_of landmark) == 11) 1 0
leaf_few (Tree tree) b = both_one tree.block.is_chunk_leaf b
leaf_few landmark b = omega arith

leaves_are_few : (lengths : List ℕ) (found : List Sighting) → count_by (is_leaf true lengths) found ≤ count_by (is_same_kind BtrfstreeKind) found
unfolding is_leaf
leaves_are_few lengths found =
    sum_by-le-sum_by (λ (s : Sighting). cond (is_leaf true lengths s) 1 0) (λ (s : Sighting). cond (is_same_kind BtrfstreeKind s) 1 0) found (λ s. leaf_few s.landmark (nat_le (s.sector + 32) (slice_index lengths s.image)))

no_leaves : (lengths : List ℕ) (found : List Sighting) → count_by (is_leaf false lengths) found ≡ 0
unfolding is_leaf
no_leaves lengths [] = refl
no_leaves lengths (s ∷ found) = omega (arith, sum_by-cons (λ (t : Sighting). cond (is_leaf false lengths t) 1 0) s found, no_leaves lengths found)

leaves_most : (asked : Bool) (lengths : List ℕ) (found : List Sighting) → count_by (is_same_kind BtrfstreeKind) found ≤ 4096 → 32 * count_by (is_leaf asked lengths) found ≤ cond asked (32 * 4096) 0
leaves_most true lengths found few = omega (arith, leaves_are_few lengths found, few)
leaves_most false lengths found few = omega (arith, no_leaves lengths found)

leaves_of : (bytes : Option (List (List ℕ))) (ask : Ask) (attached : List Image) (lengths : List ℕ) (found : List Sighting) → lengths ≡ lengths_of attached → IfSome bytes (λ images. found ≡ found_in ask attached images) →
    count_by (is_same_kind BtrfstreeKind) found ≤ 4096 → 32 * count_by (is_leaf ask.kinds.btrfstree lengths) found ≤ leaves_read bytes ask attached
leaves_of None ask attached lengths found are is few = leaves_most ask.kinds.btrfstree lengths found few
leaves_of (Some images) ask attached lengths found are is few =
    let same : count_by (is_leaf ask.kinds.btrfstree lengths) found ≡ count_by (is_leaf ask.kinds.btrfstree (lengths_of attached)) (found_in ask attached images) =
    ap (λ (ns : List ℕ). count_by (is_leaf ask.kinds.btrfstree ns) found) are ∙ ap (λ (l : List Sighting). count_by (is_leaf ask.kinds.btrfstree (lengths_of attached)) l) is in
    omega (arith, same)

-- and how many copies
copy_few : (landmark : Landmark) (b : Bool) → cond (begins_copy landmark && b) 1 0 ≤ cond (kind_place (kind_of landmark) == 8) 1 0
copy_few (Ext x) b = both_one true b
copy_few landmark b = omega arith

copies_are_few : (lengths : List ℕ) (found : List Sighting) → count_by (has_copy true lengths) found ≤ count_by (is_same_kind ExtKind) found
unfolding has_copy
copies_are_few lengths found =
    sum_by-le-sum_by (λ (s : Sighting). cond (has_copy true lengths s) 1 0) (λ (s : Sighting). cond (is_same_kind ExtKind s) 1 0) found (λ s. copy_few s.landmark (nat_le (s.sector + 256) (slice_index lengths s.image)))

none_asked : (lengths : List ℕ) (found : List Sighting) → count_by (has_copy false lengths) found ≡ 0
unfolding has_copy
none_asked lengths [] = refl
none_asked lengths (s ∷ found) = omega (arith, sum_by-cons (λ (t : Sighting). cond (has_copy false lengths t) 1 0) s found, none_asked lengths found)

copies_most : (asked : Bool) (lengths : List ℕ) (found : List Sighting) → count_by (is_same_kind ExtKind) found ≤ 4096 → 256 * count_by (has_copy asked lengths) found ≤ cond asked (256 * 4096) 0
copies_most true lengths found few = omega (arith, copies_are_few lengths found, few)
copies_most false lengths found few = omega (arith, none_asked lengths found)

copies_of : (bytes : Option (List (List ℕ))) (ask : Ask) (attached : List Image) (lengths : List ℕ) (found : List Sighting) → lengths ≡ lengths_of attached → IfSome bytes (λ images. found ≡ found_in ask attached images) →
    count_by (is_same_kind ExtKind) found ≤ 4096 → 256 * count_by (has_copy ask.kinds.extinode lengths) found ≤ copies_read bytes ask attached
copies_of None ask attached lengths found are is few = copies_most ask.kinds.extinode lengths found few
copies_of (Some images) ask attached lengths found are is few =
    let same : count_by (has_copy ask.kinds.extinode lengths) found ≡ count_by (has_copy ask.kinds.extinode (lengths_of attached)) (found_in ask attached images) =
    ap (λ (ns : List ℕ). count_by (has_copy ask.kinds.extinode ns) found) are ∙ ap (λ (l : List Sighting). count_by (has_copy ask.kinds.extinode (lengths_of attached)) l) is in
    omega (arith, same)

-- and how many inodes of more than one sector
run_few : (landmark : Landmark) (b : Bool) → cond (is_unsized landmark && b) 1 0 ≤ cond (kind_place (kind_of landmark) == 10) 1 0
run_few (Inode i) b = both_one (not (is_some i.bytes)) b
run_few landmark b = omega arith

runs_are_few : (lengths : List ℕ) (found : List Sighting) → count_by (has_run true lengths) found ≤ count_by (is_same_kind Xfs5Kind) found
unfolding has_run
runs_are_few lengths found =
    sum_by-le-sum_by (λ (s : Sighting). cond (has_run true lengths s) 1 0) (λ (s : Sighting). cond (is_same_kind Xfs5Kind s) 1 0) found (λ s. run_few s.landmark (nat_le (s.sector + 4) (slice_index lengths s.image)))

no_runs : (lengths : List ℕ) (found : List Sighting) → count_by (has_run false lengths) found ≤ 0
unfolding has_run
no_runs lengths [] = omega arith
no_runs lengths (s ∷ found) = omega (arith, sum_by-cons (λ (t : Sighting). cond (has_run false lengths t) 1 0) s found, no_runs lengths found)

runs_most : (asked : Bool) (lengths : List ℕ) (found : List Sighting) → count_by (is_same_kind Xfs5Kind) found ≤ 4096 → 4 * count_by (has_run asked lengths) found ≤ cond asked (4 * 4096) 0
runs_most true lengths found few = omega (arith, runs_are_few lengths found, few)
runs_most false lengths found few = omega (arith, no_runs lengths found)

runs_of : (bytes : Option (List (List ℕ))) (ask : Ask) (attached : List Image) (lengths : List ℕ) (found : List Sighting) → lengths ≡ lengths_of attached → IfSome bytes (λ images. found ≡ found_in ask attached images) →
    count_by (is_same_kind Xfs5Kind) found ≤ 4096 → 4 * count_by (has_run ask.kinds.xfs5 lengths) found ≤ inodes_read bytes ask attached
runs_of None ask attached lengths found are is few = runs_most ask.kinds.xfs5 lengths found few
runs_of (Some images) ask attached lengths found are is few =
    let same : count_by (has_run ask.kinds.xfs5 lengths) found ≡ count_by (has_run ask.kinds.xfs5 (lengths_of attached)) (found_in ask attached images) =
    ap (λ (ns : List ℕ). count_by (has_run ask.kinds.xfs5 ns) found) are ∙ ap (λ (l : List Sighting). count_by (has_run ask.kinds.xfs5 (lengths_of attached)) l) is in
    omega (arith, same)

-- and how many file records of NTFS
one_at_most : {A : Type 0} (one : Option A) → cond (is_some one) 1 0 ≤ 1
one_at_most None = omega arith
one_at_most (Some a) = omega arith

record_few : (l : Landmark) → cond (is_some (start_by l)) 1 0 ≤ cond (kind_place (kind_of l) == 2) 1 0 + cond (kind_place (kind_of l) == 12) 1 0
record_few (FileRecord r) = omega (arith, one_at_most (first_record r))
record_few (Record r) = omega arith
record_few l = omega arith

with_start : (s : Sighting) (one : Option RecordStart) (rest : List RecordSeen) → length (cons_option (option_map (λ (r : RecordStart). record { image = s.image; sector = s.sector; start = r }) one) rest) ≡ length rest + cond (is_some one) 1 0
with_start s None rest = omega arith
with_start s (Some r) rest = omega arith

records_are_few : (found : List Sighting) → length (filter_map record_by found) ≤ count_by (is_same_kind FileRecordKind) found + count_by (is_same_kind MftKind) found
records_are_few [] = omega arith
records_are_few (s ∷ found) =
    omega (
      arith,
      with_start s (start_by s.landmark) (filter_map record_by found),
      record_few s.landmark,
      sum_by-cons (λ (t : Sighting). cond (is_same_kind FileRecordKind t) 1 0) s found,
      sum_by-cons (λ (t : Sighting). cond (is_same_kind MftKind t) 1 0) s found,
      records_are_few found,
    )

records_most : (asked : Bool) (lengths : List ℕ) (found : List Sighting) → count_by (is_same_kind FileRecordKind) found ≤ 4096 → count_by (is_same_kind MftKind) found ≤ 4096 →
    8 * count_by (has_record lengths) (records_of asked found) ≤ cond asked (8 * (2 * 4096)) 0
records_most true lengths found first few = omega (arith, count_by-le-length (has_record lengths) (filter_map record_by found), records_are_few found, first, few)
records_most false lengths found first few = omega arith

records_read_of : (bytes : Option (List (List ℕ))) (ask : Ask) (attached : List Image) (lengths : List ℕ) (found : List Sighting) → lengths ≡ lengths_of attached → IfSome bytes (λ images. found ≡ found_in ask attached images) →
    count_by (is_same_kind FileRecordKind) found ≤ 4096 → count_by (is_same_kind MftKind) found ≤ 4096 → 8 * count_by (has_record lengths) (records_of ask.kinds.mft found) ≤ records_read bytes ask attached
records_read_of None ask attached lengths found are is first few = records_most ask.kinds.mft lengths found first few
records_read_of (Some images) ask attached lengths found are is first few =
    let same : count_by (has_record lengths) (records_of ask.kinds.mft found) ≡ count_by (has_record (lengths_of attached)) (records_of ask.kinds.mft (found_in ask attached images)) =
    ap (λ (ns : List ℕ). count_by (has_record ns) (records_of ask.kinds.mft found)) are ∙ ap (λ (l : List Sighting). count_by (has_record (lengths_of attached)) (records_of ask.kinds.mft l)) is in
    omega (arith, same)

-- leaves and copies are those that they were before inodes were looked at
bare_count : (f : Sighting → Bool) → ((s : Sighting) → f (bare s) ≡ f s) → (found : List Sighting) → count_by f (map bare found) ≡ count_by f found
bare_count f same [] = refl
bare_count f same (s ∷ found) =
    let here : ◌≡◌ {A = ℕ} (cond (f (bare s)) 1 0) (cond (f s) 1 0) = ap (λ (b : Bool). cond b 1 0) (same s) in
    omega (arith, here, sum_by-cons (λ t. cond (f t) 1 0) (bare s) (map bare found), sum_by-cons (λ t. cond (f t) 1 0) s found, bare_count f same found)

alike_count : (f : Sighting → Bool) → ((s : Sighting) → f (bare s) ≡ f s) → (found new : List Sighting) → map bare new ≡ map bare found → count_by f new ≡ count_by f found
alike_count f same found new alike = sym (bare_count f same new) ∙ ap (count_by f) alike ∙ bare_count f same found

-- what was read in all
pub sweep_read : (a b : Seen) (ask : Ask) → OnlyReads a b (length a.attached * (ask.end - slice_index ask.bounds.offsets.items 0)) → OnlyReads a b (survey_reads ask a.attached)
unfolding survey_reads
sweep_read a b ask ab = reads_up a b ab (omega arith)

pub survey_read : (a b c r d e : Seen) (ask : Ask) (lengths : List ℕ) (found new : List Sighting) → lengths ≡ lengths_of a.attached → IfSome (told_all a.attached) (λ bytes. found ≡ found_in ask a.attached bytes) →
    ((kind : Kind) → count_by (is_same_kind kind) found ≤ 4096) → map bare new ≡ map bare found → OnlyReads a b (length a.attached * (ask.end - slice_index ask.bounds.offsets.items 0)) → OnlyReads b c (count_by (is_followed lengths) (headers_of ask.kinds.gpt found)) →
    OnlyReads c r (8 * count_by (has_record lengths) (records_of ask.kinds.mft found)) → OnlyReads r d (4 * count_by (has_run ask.kinds.xfs5 lengths) found) → OnlyReads d e (32 * count_by (is_leaf ask.kinds.btrfstree lengths) new + 256 * count_by (has_copy ask.kinds.extinode lengths) new) → OnlyReads a e (survey_reads ask a.attached)
unfolding survey_reads
survey_read a b c r d e ask lengths found new are is few alike ab bc cr rd de =
    reads_up a e (reads_join a d e (reads_join a r d (reads_join a c r (reads_join a b c ab bc) cr) rd) de)
    (omega (
      arith,
      entries_of (told_all a.attached) ask a.attached lengths found are is (few GptKind),
      records_read_of (told_all a.attached) ask a.attached lengths found are is (few FileRecordKind) (few MftKind),
      runs_of (told_all a.attached) ask a.attached lengths found are is (few Xfs5Kind),
      alike_count (is_leaf ask.kinds.btrfstree lengths) (bare_leaf ask.kinds.btrfstree lengths) found new alike,
      leaves_of (told_all a.attached) ask a.attached lengths found are is (few BtrfstreeKind),
      alike_count (has_copy ask.kinds.extinode lengths) (bare_copy ask.kinds.extinode lengths) found new alike,
      copies_of (told_all a.attached) ask a.attached lengths found are is (few ExtKind),
    ))

-- nothing, yet
pub none_read : (a : Seen) (asked : Kinds) (lengths : List ℕ) (found : List Sighting) → OnlyReads a a (32 * count_by (is_leaf asked.btrfstree lengths) found + 256 * count_by (has_copy asked.extinode lengths) found)
none_read a asked lengths found = reads_up a a (reads_none a) (omega arith)

pub none_sized : (a : Seen) (asked : Bool) (lengths : List ℕ) (found : List Sighting) → OnlyReads a a (4 * count_by (has_run asked lengths) found)
none_sized a asked lengths found = reads_up a a (reads_none a) (omega arith)

pub none_of_records : (a : Seen) (asked : Bool) (lengths : List ℕ) (found : List Sighting) → OnlyReads a a (8 * count_by (has_record lengths) (records_of asked found))
none_of_records a asked lengths found = reads_up a a (reads_none a) (omega arith)
