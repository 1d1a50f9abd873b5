-- Records and tables, one record after the other.
use Rattle.std.proofs.Common.{◌≡◌, ℕ, zero, suc, ◌+◌, ◌*◌, ◌/◌, ◌%◌, ◌<◌, ◌≤◌, List, [], ◌∷◌, ◌++◌, Bool, true, false, cond, length, take, get_or, slice_get, slice_index, slice_range, map, fold, refl, sym, ap, subst, ◌∙◌, arith, All, IfSome, IsSomeAnd, IsTrue, Option, Some, None, ◌⊎◌, inl, inr}
use Rattle.std.specs.Prelude.{count_by, nat_le, ◌&&◌, ◌==◌, option_and_then}
use Rattle.std.specs.List.{cons_option, filter_map, flat_map}
use Rattle.std.proofs.lemmas.Bool.Decides.{nat_tests}
use Rattle.std.proofs.lemmas.List.{append-nil, length-map, take_all, take_more}
use Rattle.std.proofs.lemmas.List.Concat.{flat_map-append}
use Rattle.std.proofs.lemmas.List.Elements.{All-get_or, All-nil}
use Rattle.std.proofs.lemmas.List.Sums.{fold-append, sum_by-take-le, sum_by_more}
use Rattle.std.proofs.lemmas.Option.{slice_get-get_or}
use Rattle.mft.specs.Boot.{is_near, is_record_size}
use Rattle.mft.specs.Places.{table_of, IsTable}
use Rattle.mft.specs.Start.{is_whole}
use Rattle.mft.specs.declared.boot.MftBoot.{MftBoot}
use Rattle.mft.specs.declared.places.MftTable.{MftTable}
use Rattle.outside.specs.Attached.{told_all}
use Rattle.outside.specs.Seen.{AreTold, AreWithin, Image, OnlyReads, Seen, lengths_of}
use Rattle.outside.proofs.Reading.{reads_join, reads_none, reads_up}
use Rattle.outside.proofs.Told.{told_all_at, told_all_length}
use Rattle.mft_survey.specs.Records.{has_record, is_whole_in, kept_with, record_bytes, tables_at, tables_by, tables_in, whole_at, whole_records, IsPart, IsSeen}
use Rattle.mft_survey.specs.declared.records.RecordSeen.{RecordSeen}
use Rattle.mft_survey.proofs.Marked.{maps_more, same_at}

-- ---- tables that a record 0 tells

pub heard_to : List ℕ → List MftBoot → List MftTable → ℕ → List MftTable
heard_to file boots old n = fold kept_with old (filter_map (λ boot. table_of boot file) (take n boots))

pub heard_none : (file : List ℕ) (boots : List MftBoot) (old : List MftTable) → heard_to file boots old 0 ≡ old
unfolding heard_to
heard_none file boots old = refl

pub heard_more : (file : List ℕ) (boots : List MftBoot) (old : List MftTable) (i : ℕ) (boot : MftBoot) → i < length boots → boot ≡ get_or boots i boot →
    heard_to file boots old (i + 1) ≡ fold kept_with (heard_to file boots old i) (cons_option (table_of boot file) [])
unfolding heard_to
heard_more file boots old i boot below is =
    ap (fold kept_with old) (maps_more (λ boot. table_of boot file) boots i boot (table_of boot file) below is refl)
    ∙ fold-append kept_with old (filter_map (λ boot. table_of boot file) (take i boots)) (cons_option (table_of boot file) [])

pub boot_at : (boots : List MftBoot) (i : ℕ) (boot : MftBoot) → All (λ boot. IsTrue (is_near boot)) boots → i < length boots → boot ≡ get_or boots i boot → IsTrue (is_near boot)
boot_at boots i boot all below is = rw is (All-get_or (λ boot. IsTrue (is_near boot)) boots i boot below all)

pub heard_all : (file : List ℕ) (boots : List MftBoot) (old : List MftTable) (n : ℕ) → length boots ≤ n → heard_to file boots old n ≡ fold kept_with old (tables_by boots file)
unfolding heard_to
heard_all file boots old n all = ap (λ (l : List MftBoot). fold kept_with old (filter_map (λ boot. table_of boot file) l)) (take_all n boots all)

-- ---- once the first records were looked at

pub WholeTo : Option (List (List ℕ)) → List ℕ → List RecordSeen → ℕ → List RecordSeen → Type 0
WholeTo bytes lengths seen n whole = IfSome bytes (λ images. whole ≡ filter_map (whole_at lengths images) (take n seen))

pub whole_none : (bytes : Option (List (List ℕ))) (lengths : List ℕ) (seen whole : List RecordSeen) → whole ≡ [] → WholeTo bytes lengths seen 0 whole
unfolding WholeTo
whole_none None lengths seen whole none = tt
whole_none (Some images) lengths seen whole none = none

pub whole_more : (bytes : Option (List (List ℕ))) (lengths : List ℕ) (seen : List RecordSeen) (i : ℕ) (one : RecordSeen) (old new : List RecordSeen) → i < length seen → one ≡ get_or seen i one → WholeTo bytes lengths seen i old →
    IfSome bytes (λ images. new ≡ old ++ cons_option (whole_at lengths images one) []) → WholeTo bytes lengths seen (i + 1) new
unfolding WholeTo
whole_more None lengths seen i one old new below is so adds = tt
whole_more (Some images) lengths seen i one old new below is so adds =
    adds ∙ ap (λ (l : List RecordSeen). l ++ cons_option (whole_at lengths images one) []) so
    ∙ sym (maps_more (whole_at lengths images) seen i one (whole_at lengths images one) below is refl)

pub whole_all : (bytes : Option (List (List ℕ))) (lengths : List ℕ) (seen whole : List RecordSeen) (n : ℕ) → length seen ≤ n → WholeTo bytes lengths seen n whole → IfSome bytes (λ images. whole ≡ whole_records lengths images seen)
unfolding WholeTo
whole_all None lengths seen whole n all so = tt
whole_all (Some images) lengths seen whole n all so = so ∙ ap (filter_map (whole_at lengths images)) (take_all n seen all)

pub TablesTo : Option (List (List ℕ)) → List ℕ → List MftBoot → List RecordSeen → ℕ → List MftTable → Type 0
TablesTo bytes lengths boots seen n tables = IfSome bytes (λ images. tables ≡ tables_in lengths images boots (take n seen))

pub tables_none : (bytes : Option (List (List ℕ))) (lengths : List ℕ) (boots : List MftBoot) (seen : List RecordSeen) (tables : List MftTable) → tables ≡ [] → TablesTo bytes lengths boots seen 0 tables
unfolding TablesTo
tables_none None lengths boots seen tables none = tt
tables_none (Some images) lengths boots seen tables none = none

pub sound_none : (tables : List MftTable) → tables ≡ [] → All IsTable tables
sound_none tables none = rw none (All-nil IsTable)

pub few_none : (tables : List MftTable) → tables ≡ [] → length tables ≤ 32
few_none tables none = rw none (omega arith)

pub tables_more : (bytes : Option (List (List ℕ))) (lengths : List ℕ) (boots : List MftBoot) (seen : List RecordSeen) (i : ℕ) (one : RecordSeen) (old new : List MftTable) → i < length seen → one ≡ get_or seen i one → TablesTo bytes lengths boots seen i old →
    IfSome bytes (λ images. new ≡ fold kept_with old (tables_at lengths images boots one)) → TablesTo bytes lengths boots seen (i + 1) new
unfolding TablesTo
tables_more None lengths boots seen i one old new below is so adds = tt
tables_more (Some images) lengths boots seen i one old new below is so adds =
    let f = tables_at lengths images boots in
    let next : flat_map f (take (i + 1) seen) ≡ flat_map f (take i seen) ++ f one =
    ap (flat_map f) (take_more seen i one below) ∙ flat_map-append f (take i seen) (get_or seen i one ∷ [])
    ∙ ap (λ (l : List MftTable). flat_map f (take i seen) ++ l) (append-nil (f (get_or seen i one)))
    ∙ ap (λ (r : RecordSeen). flat_map f (take i seen) ++ f r) (sym is) in
    adds ∙ ap (λ (l : List MftTable). fold kept_with l (f one)) so ∙ sym (ap (fold kept_with []) next ∙ fold-append kept_with [] (flat_map f (take i seen)) (f one))

pub tables_all : (bytes : Option (List (List ℕ))) (lengths : List ℕ) (boots : List MftBoot) (seen : List RecordSeen) (tables : List MftTable) (n : ℕ) → length seen ≤ n → TablesTo bytes lengths boots seen n tables → IfSome bytes (λ images. tables ≡ tables_in lengths images boots seen)
unfolding TablesTo
tables_all None lengths boots seen tables n all so = tt
tables_all (Some images) lengths boots seen tables n all so = so ∙ ap (tables_in lengths images boots) (take_all n seen all)

-- ---- those that are whole are some of them

pub part_none : (all some : List RecordSeen) → some ≡ [] → IsPart all some
part_none all some none = rw none tt

none_of_none : (some : List RecordSeen) → IsPart [] some → some ≡ []
none_of_none [] part = refl
none_of_none (r ∷ some) part = absurd part

part_more : (all some : List RecordSeen) (r : RecordSeen) → IsPart all some → IsPart (all ++ r ∷ []) some
part_more all [] r part = tt
part_more [] (s ∷ some) r part = absurd part
part_more (t ∷ all) (s ∷ some) r part = elim part [
  | inl later ↦ inl (part_more all (s ∷ some) r later)
  | inr here ↦ inr (here.0, part_more all some r here.1)
]

part_with : (all some : List RecordSeen) (r : RecordSeen) → IsPart all some → IsPart (all ++ r ∷ []) (some ++ r ∷ [])
part_with [] [] r part = inr (refl, tt)
part_with [] (s ∷ some) r part = absurd part
part_with (t ∷ all) [] r part = inl (part_with all [] r tt)
part_with (t ∷ all) (s ∷ some) r part = elim part [
  | inl later ↦ inl (part_with all (s ∷ some) r later)
  | inr here ↦ inr (here.0, part_with all some r here.1)
]

part_one : (all some : List RecordSeen) (r : RecordSeen) (b : Bool) → IsPart all some → IsPart (all ++ r ∷ []) (some ++ cond b (r ∷ []) [])
part_one all some r true part = part_with all some r part
part_one all some r false part = subst (IsPart (all ++ r ∷ [])) (sym (append-nil some)) (part_more all some r part)

pub part_step : (seen : List RecordSeen) (i : ℕ) (d : RecordSeen) (old new : List RecordSeen) (b : Bool) → i < length seen → IsPart (take i seen) old → new ≡ old ++ cond b (get_or seen i d ∷ []) [] → IsPart (take (i + 1) seen) new
part_step seen i d old new b below part grows =
    let next : take (i + 1) seen ≡ take i seen ++ get_or seen i d ∷ [] = take_more seen i d below in
    rw grows (rw next (part_one (take i seen) old (get_or seen i d) b part))

pub part_all : (seen some : List RecordSeen) (n : ℕ) → length seen ≤ n → IsPart (take n seen) some → IsPart seen some
part_all seen some n all part = subst (λ (l : List RecordSeen). IsPart l some) (take_all n seen all) part

-- ---- what is read

weight : (b : Bool) → ◌≡◌ {A = ℕ} (cond b 8 0) (8 * cond b 1 0)
weight true = refl
weight false = refl

pub none_looked : (a : Seen) (lengths : List ℕ) (seen : List RecordSeen) → OnlyReads a a (8 * count_by (has_record lengths) (take 0 seen))
none_looked a lengths seen = reads_up a a (reads_none a) (omega arith)

pub one_looked : (a b c : Seen) (lengths : List ℕ) (seen : List RecordSeen) (i : ℕ) (one : RecordSeen) → i < length seen → one ≡ get_or seen i one → OnlyReads a b (8 * count_by (has_record lengths) (take i seen)) → OnlyReads b c (cond (has_record lengths one) 8 0) →
    OnlyReads a c (8 * count_by (has_record lengths) (take (i + 1) seen))
one_looked a b c lengths seen i one below is ab bc =
    let run : ◌≡◌ {A = ℕ} (cond (has_record lengths one) 8 0) (8 * cond (has_record lengths (get_or seen i one)) 1 0) = ap (λ (t : RecordSeen). cond (has_record lengths t) 8 0) is ∙ weight (has_record lengths (get_or seen i one)) in
    reads_up a c (reads_join a b c ab bc) (omega (arith, sum_by_more (λ (t : RecordSeen). cond (has_record lengths t) 1 0) seen i one below, run))

pub some_looked : (a b : Seen) (lengths : List ℕ) (seen : List RecordSeen) (n : ℕ) → OnlyReads a b (8 * count_by (has_record lengths) (take n seen)) → OnlyReads a b (8 * count_by (has_record lengths) seen)
some_looked a b lengths seen n ab = reads_up a b ab (omega (arith, sum_by-take-le (λ (t : RecordSeen). cond (has_record lengths t) 1 0) seen n))

pub seen_at : (lengths : List ℕ) (seen : List RecordSeen) (i : ℕ) (one : RecordSeen) → All (IsSeen lengths) seen → i < length seen → one ≡ get_or seen i one → IsSeen lengths one
seen_at lengths seen i one all below is = rw is (All-get_or (IsSeen lengths) seen i one below all)

-- ---- of one of them

pub bytes_other : (lengths : List ℕ) (one : RecordSeen) → IsSeen lengths one → (one.start.bytes == 1024) ≡ false → 4096 ≡ one.start.bytes
unfolding is_record_size
bytes_other lengths one in_it other = let size : is_record_size one.start.bytes ≡ true = in_it.size in grind (arith, nat_tests)

pub bytes_few : (lengths : List ℕ) (one : RecordSeen) → IsSeen lengths one → one.start.bytes ≤ 4096
unfolding is_record_size
bytes_few lengths one in_it = let size : is_record_size one.start.bytes ≡ true = in_it.size in grind (arith, nat_tests)

bytes_whole : (one : ℕ) → is_record_size one ≡ true → (one % 512 ≡ 0) × (0 < one)
unfolding is_record_size
bytes_whole one is = (grind (arith, nat_tests), grind (arith, nat_tests))

inside_of : (lengths : List ℕ) (i sector : ℕ) → IsSomeAnd (slice_get lengths i) (λ n. sector < n) → i < length lengths
inside_of [] i sector in_it = absurd in_it
inside_of (n ∷ lengths) zero sector in_it = omega arith
inside_of (n ∷ lengths) (suc i) sector in_it = let rest = inside_of lengths i sector in_it in omega arith

image_there : (attached : List Image) (lengths : List ℕ) (i sector : ℕ) → lengths ≡ lengths_of attached → IsSomeAnd (slice_get lengths i) (λ n. sector < n) → i < length attached
image_there attached lengths i sector are in_it = omega (arith, inside_of lengths i sector in_it, ap length are ∙ length-map attached (λ image. image.sectors))

reaches : (attached : List Image) (i end : ℕ) → i < length attached → end ≤ get_or (lengths_of attached) i 0 → IsSomeAnd (slice_get attached i) (λ a. end ≤ a.sectors)
reaches [] i end below more = absurd (omega arith)
reaches (a ∷ attached) zero end below more = more
reaches (a ∷ attached) (suc i) end below more = reaches attached i end (omega arith) more

fits : (lengths : List ℕ) (one : RecordSeen) → has_record lengths one ≡ true → one.sector + one.start.bytes / 512 ≤ slice_index lengths one.image
unfolding has_record
fits lengths one is = grind (arith, nat_tests)

within : (attached : List Image) (lengths : List ℕ) (one : RecordSeen) → lengths ≡ lengths_of attached → IsSeen lengths one → has_record lengths one ≡ true → AreWithin attached one.image one.sector one.start.bytes
within attached lengths one are in_it is =
    let size = bytes_whole one.start.bytes in_it.size in
    record {
      whole = size.0;
      some = size.1;
      inside = reaches attached one.image (one.sector + one.start.bytes / 512) (image_there attached lengths one.image one.sector are in_it.sector)
          (subst (λ (l : List ℕ). one.sector + one.start.bytes / 512 ≤ get_or l one.image 0) are (fits lengths one is));
    }

pub record_within : (attached : List Image) (lengths : List ℕ) (one : RecordSeen) (n : ℕ) → n ≡ one.start.bytes → lengths ≡ lengths_of attached → IsSeen lengths one → has_record lengths one ≡ true → AreWithin attached one.image one.sector n
record_within attached lengths one n long are in_it is = subst (λ (k : ℕ). AreWithin attached one.image one.sector k) (sym long) (within attached lengths one are in_it is)

told_bytes : (attached : List Image) (all : List (List ℕ)) (i sector : ℕ) (to : List ℕ) → told_all attached ≡ Some all → i < length attached →
    AreTold attached i sector to → to ≡ slice_range (get_or all i []) (512 * sector) (512 * sector + length to)
told_bytes attached all i sector to e below told =
    let within : i < length all = omega (arith, told_all_length attached all e) in
    let bytes : option_and_then (λ image. image.bytes) (slice_get attached i) ≡ Some (get_or all i []) = told_all_at attached all i e ∙ slice_get-get_or all i [] within in
    rw bytes at told

known : (attached : List Image) (bytes : Option (List (List ℕ))) (one : RecordSeen) (file : List ℕ) → told_all attached ≡ bytes → one.image < length attached → AreTold attached one.image one.sector file → length file ≡ one.start.bytes →
    IfSome bytes (λ images. file ≡ record_bytes images one)
known attached None one file e below are long = tt
known attached (Some images) one file e below are long =
    told_bytes attached images one.image one.sector file e below are ∙ ap (λ (n : ℕ). slice_range (get_or images one.image []) (512 * one.sector) (512 * one.sector + n)) long

pub file_known : (attached : List Image) (lengths : List ℕ) (one : RecordSeen) (file : List ℕ) → lengths ≡ lengths_of attached → IsSeen lengths one → AreTold attached one.image one.sector file → length file ≡ one.start.bytes →
    IfSome (told_all attached) (λ images. file ≡ record_bytes images one)
file_known attached lengths one file lengths_are in_it are long =
    known attached (told_all attached) one file refl (image_there attached lengths one.image one.sector lengths_are in_it.sector) are long

pub not_there : (bytes : Option (List (List ℕ))) (lengths : List ℕ) (one : RecordSeen) → has_record lengths one ≡ false → IfSome bytes (λ images. false ≡ is_whole_in lengths images one)
unfolding is_whole_in
not_there None lengths one none = tt
not_there (Some images) lengths one none = rw none refl

pub whole_known : (bytes : Option (List (List ℕ))) (lengths : List ℕ) (one : RecordSeen) (file : List ℕ) (b : Bool) → has_record lengths one ≡ true → b ≡ is_whole file → IfSome bytes (λ images. file ≡ record_bytes images one) →
    IfSome bytes (λ images. b ≡ is_whole_in lengths images one)
unfolding is_whole_in
whole_known None lengths one file b there is read = tt
whole_known (Some images) lengths one file b there is read = is ∙ ap is_whole read ∙ rw there refl

pub reads_eight : (a b : Seen) (lengths : List ℕ) (one : RecordSeen) (n : ℕ) → n ≡ one.start.bytes → IsSeen lengths one → has_record lengths one ≡ true → OnlyReads a b (n / 512) → OnlyReads a b (cond (has_record lengths one) 8 0)
reads_eight a b lengths one n long in_it there ab = rw there (reads_up a b ab (omega (arith, long, bytes_few lengths one in_it)))

-- ---- what one of them tells

pub some_told : (bytes : Option (List (List ℕ))) (lengths : List ℕ) (boots : List MftBoot) (one : RecordSeen) (file : List ℕ) (b : Bool) (old new : List MftTable) → b ≡ true → IfSome bytes (λ images. b ≡ is_whole_in lengths images one) →
    IfSome bytes (λ images. file ≡ record_bytes images one) → new ≡ fold kept_with old (cond (one.start.number == 0) (tables_by boots file) []) →
    IfSome bytes (λ images. new ≡ fold kept_with old (tables_at lengths images boots one))
unfolding tables_at
some_told None lengths boots one file b old new is whole read so = tt
some_told (Some images) lengths boots one file b old new is whole read so =
    let here : is_whole_in lengths images one ≡ true = sym whole ∙ is in
    so ∙ ap (λ (l : List ℕ). fold kept_with old (cond (one.start.number == 0) (tables_by boots l) [])) read ∙ rw here refl

pub none_told : (bytes : Option (List (List ℕ))) (lengths : List ℕ) (boots : List MftBoot) (one : RecordSeen) (b : Bool) (old : List MftTable) → b ≡ false → IfSome bytes (λ images. b ≡ is_whole_in lengths images one) →
    IfSome bytes (λ images. old ≡ fold kept_with old (tables_at lengths images boots one))
unfolding tables_at
none_told None lengths boots one b old is whole = tt
none_told (Some images) lengths boots one b old is whole = let here : is_whole_in lengths images one ≡ false = sym whole ∙ is in rw here refl

-- ---- one step of a loop

pub heard_step : (file : List ℕ) (boots : List MftBoot) (start : List MftTable) (i : ℕ) (d : MftBoot) (old new : List MftTable) → i < length boots → old ≡ heard_to file boots start i →
    new ≡ fold kept_with old (cons_option (table_of (get_or boots i d) file) []) → new ≡ heard_to file boots start (i + 1)
heard_step file boots start i d old new below so adds =
    adds ∙ ap (λ (l : List MftTable). fold kept_with l (cons_option (table_of (get_or boots i d) file) [])) so
    ∙ sym (heard_more file boots start i (get_or boots i d) below (same_at boots i d (get_or boots i d) below))

pub whole_step : (before now : Seen) (lengths : List ℕ) (seen : List RecordSeen) (i : ℕ) (d : RecordSeen) (old new : List RecordSeen) → now.attached ≡ before.attached → i < length seen → WholeTo (told_all before.attached) lengths seen i old →
    IfSome (told_all now.attached) (λ images. new ≡ old ++ cons_option (whole_at lengths images (get_or seen i d)) []) → WholeTo (told_all before.attached) lengths seen (i + 1) new
whole_step before now lengths seen i d old new same below so adds =
    whole_more (told_all before.attached) lengths seen i (get_or seen i d) old new below (same_at seen i d (get_or seen i d) below) so
    (subst (λ (l : List Image). IfSome (told_all l) (λ images. new ≡ old ++ cons_option (whole_at lengths images (get_or seen i d)) [])) same adds)

pub tables_step : (before now : Seen) (lengths : List ℕ) (boots : List MftBoot) (seen : List RecordSeen) (i : ℕ) (d : RecordSeen) (old new : List MftTable) → now.attached ≡ before.attached → i < length seen → TablesTo (told_all before.attached) lengths boots seen i old →
    IfSome (told_all now.attached) (λ images. new ≡ fold kept_with old (tables_at lengths images boots (get_or seen i d))) → TablesTo (told_all before.attached) lengths boots seen (i + 1) new
tables_step before now lengths boots seen i d old new same below so adds =
    tables_more (told_all before.attached) lengths boots seen i (get_or seen i d) old new below (same_at seen i d (get_or seen i d) below) so
    (subst (λ (l : List Image). IfSome (told_all l) (λ images. new ≡ fold kept_with old (tables_at lengths images boots (get_or seen i d)))) same adds)

pub looked_step : (a b c : Seen) (lengths : List ℕ) (seen : List RecordSeen) (i : ℕ) (d : RecordSeen) → i < length seen → OnlyReads a b (8 * count_by (has_record lengths) (take i seen)) → OnlyReads b c (cond (has_record lengths (get_or seen i d)) 8 0) →
    OnlyReads a c (8 * count_by (has_record lengths) (take (i + 1) seen))
looked_step a b c lengths seen i d below ab bc = one_looked a b c lengths seen i (get_or seen i d) below (same_at seen i d (get_or seen i d) below) ab bc
