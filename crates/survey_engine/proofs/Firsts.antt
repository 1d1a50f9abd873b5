-- Hints, one after the other.
use Rattle.std.proofs.Common.{◌≡◌, ℕ, zero, suc, ◌+◌, ◌*◌, ◌^◌, ◌==◌, ◌<◌, ◌≤◌, List, [], ◌∷◌, ◌++◌, length, map, take, get_or, slice_index, slice_get, slice_range, Bool, true, false, cond, refl, sym, ap, subst, IsSomeAnd, ◌∙◌, arith, All, IfSome, Option, Some, None}
use Rattle.std.specs.List.{filter_map, flat_map, cons_option}
use Rattle.std.proofs.lemmas.List.{append-nil, length-map, take_all, take_more}
use Rattle.std.proofs.lemmas.List.Concat.{flat_map-append}
use Rattle.std.proofs.lemmas.List.Elements.{All-get_or, filter_map-append}
use Rattle.std.proofs.lemmas.Bool.Decides.{nat_tests}
use Rattle.outside.specs.Attached.{told_all}
use Rattle.outside.specs.Seen.{Image, AreTold, AreWithin, OnlyReads, Seen, lengths_of}
use Rattle.outside.proofs.Reading.{reads_join, reads_up}
use Rattle.mark_kinds.specs.declared.table.Kind.TheVariants.{Gpt as GptKind}
use Rattle.std.specs.Prelude.{count_by}
use Rattle.std.proofs.lemmas.List.Sums.{sum_by-le-sum_by, sum_by_more, sum_by-take-le}
use Rattle.survey_engine.proofs.Reading.{told_bytes}
use Rattle.gpt_marks.specs.Entry.{first_lbas}
use Rattle.landmark_rules.specs.declared.limits.TheConstants.{MOST_MARKS, MOST_ORIGINS}
use Rattle.survey_engine.specs.Kept.{with_number}
use Rattle.survey_engine.specs.Origins.{first_sector, has_entries, headers_of, is_followed, entries_follow, hints_at, hints_by, origins_of, with_numbers}
use Rattle.survey_engine.specs.Sightings.{is_same_kind, sector_of, AreSightings}
use Rattle.survey_engine.specs.Surveys.{entries_read, found_in}
use Rattle.survey_engine.specs.declared.ask.Ask.{Ask}
use Rattle.survey_engine.specs.declared.landmark.GptTable.{GptTable}
use Rattle.survey_engine.proofs.Marks.{followed_few, not_gpt}
use Rattle.survey_engine.specs.declared.landmark.Landmark.{Landmark}
use Rattle.survey_engine.specs.declared.landmark.Landmark.TheVariants.{Gpt}
use Rattle.survey_engine.specs.declared.sighting.Sighting.{Sighting}
use Rattle.survey_engine.proofs.Numbers.{with_more, with_none}

-- ---- of one sector

pub firsts_to : List ℕ → List (Option ℕ) → ℕ → List ℕ
firsts_to old firsts n = with_numbers old (filter_map (λ first. first) (take n firsts))

pub firsts_none : (old : List ℕ) (firsts : List (Option ℕ)) → length old ≤ MOST_ORIGINS → firsts_to old firsts 0 ≡ old
unfolding firsts_to
firsts_none old firsts few = with_none old few

next_first : (firsts : List (Option ℕ)) (i : ℕ) (o : Option ℕ) → i < length firsts → get_or firsts i None ≡ o → filter_map (λ first. first) (take (i + 1) firsts) ≡ filter_map (λ first. first) (take i firsts) ++ cons_option o []
next_first firsts i o below is =
    ap (filter_map (λ first. first)) (take_more firsts i None below) ∙ filter_map-append (λ first. first) (take i firsts) (get_or firsts i None ∷ [])
    ∙ ap (λ (x : Option ℕ). filter_map (λ first. first) (take i firsts) ++ cons_option x []) is

pub firsts_some : (old : List ℕ) (firsts : List (Option ℕ)) (i n : ℕ) → i < length firsts → get_or firsts i None ≡ Some n → firsts_to old firsts (i + 1) ≡ take MOST_ORIGINS (with_number (firsts_to old firsts i) n)
unfolding firsts_to
firsts_some old firsts i n below some =
    ap (with_numbers old) (next_first firsts i (Some n) below some) ∙ sym (with_more old (filter_map (λ first. first) (take i firsts)) (n ∷ []))

pub firsts_same : (old : List ℕ) (firsts : List (Option ℕ)) (i : ℕ) → i < length firsts → get_or firsts i None ≡ None → firsts_to old firsts (i + 1) ≡ firsts_to old firsts i
unfolding firsts_to
firsts_same old firsts i below none =
    ap (with_numbers old) (next_first firsts i None below none ∙ append-nil (filter_map (λ first. first) (take i firsts)))

pub firsts_all : (old : List ℕ) (firsts : List (Option ℕ)) (n : ℕ) → length firsts ≤ n → firsts_to old firsts n ≡ with_numbers old (filter_map (λ first. first) firsts)
unfolding firsts_to
firsts_all old firsts n all = ap (λ (l : List (Option ℕ)). with_numbers old (filter_map (λ first. first) l)) (take_all n firsts all)

pub near_at : (firsts : List (Option ℕ)) (i n : ℕ) → All (λ o. IfSome o (λ first. first < 2 ^ 55)) firsts → i < length firsts → get_or firsts i None ≡ Some n → n < 2 ^ 55
near_at firsts i n all below some =
    let here = All-get_or (λ o. IfSome o (λ first. first < 2 ^ 55)) firsts i None below all in
    rw some at here

-- ---- of a sighting

-- none but a header has hints
pub no_header : (lengths : List ℕ) (images : List (List ℕ)) (s : Sighting) → ((h : GptTable) → s.landmark ≡ Gpt h → ⊥) → hints_at lengths images s ≡ []
unfolding hints_at
no_header lengths images s never = not_gpt s.landmark s.sector (slice_index lengths s.image) (get_or images s.image []) never

-- nor one without entries after it
pub no_entries : (lengths : List ℕ) (images : List (List ℕ)) (s : Sighting) (h : GptTable) → s.landmark ≡ Gpt h → has_entries h s.sector (slice_index lengths s.image) ≡ false → hints_at lengths images s ≡ []
unfolding hints_at
no_entries lengths images s h is without =
    ap (λ (l : Landmark). hints_by l s.sector (slice_index lengths s.image) (get_or images s.image [])) is
    ∙ ap (λ (b : Bool). cond b (filter_map (λ first. first) (map (first_sector h.unit) (first_lbas (sector_of (get_or images s.image []) (s.sector + h.unit)) h.header.alternate))) []) without

with_entries : (lengths : List ℕ) (images : List (List ℕ)) (s : Sighting) (h : GptTable) → s.landmark ≡ Gpt h → has_entries h s.sector (slice_index lengths s.image) ≡ true →
    hints_at lengths images s ≡ filter_map (λ first. first) (map (first_sector h.unit) (first_lbas (sector_of (get_or images s.image []) (s.sector + h.unit)) h.header.alternate))
unfolding hints_at
with_entries lengths images s h is entries =
    ap (λ (l : Landmark). hints_by l s.sector (slice_index lengths s.image) (get_or images s.image [])) is
    ∙ ap (λ (b : Bool). cond b (filter_map (λ first. first) (map (first_sector h.unit) (first_lbas (sector_of (get_or images s.image []) (s.sector + h.unit)) h.header.alternate))) []) entries

-- where a sighting has no hints
pub told_none : (told : Option (List (List ℕ))) (lengths old : List ℕ) (s : Sighting) → length old ≤ MOST_ORIGINS → ((images : List (List ℕ)) → hints_at lengths images s ≡ []) →
    IfSome told (λ images. old ≡ with_numbers old (hints_at lengths images s))
told_none None lengths old s few none = tt
told_none (Some images) lengths old s few none = sym (ap (with_numbers old) (none images) ∙ with_none old few)

read_of : (attached : List Image) (told : Option (List (List ℕ))) (lengths old new to : List ℕ) (firsts : List (Option ℕ)) (s : Sighting) (h : GptTable) → told_all attached ≡ told → s.image < length attached →
    AreTold attached s.image (s.sector + h.unit) to → length to ≡ 512 → firsts ≡ map (first_sector h.unit) (first_lbas to h.header.alternate) → new ≡ with_numbers old (filter_map (λ first. first) firsts) →
    s.landmark ≡ Gpt h → has_entries h s.sector (slice_index lengths s.image) ≡ true → IfSome told (λ images. new ≡ with_numbers old (hints_at lengths images s))
read_of attached None lengths old new to firsts s h e below are long read added is entries = tt
read_of attached (Some images) lengths old new to firsts s h e below are long read added is entries =
    let bytes : to ≡ sector_of (get_or images s.image []) (s.sector + h.unit) = told_bytes attached images s.image (s.sector + h.unit) to e below are ∙ ap (λ (n : ℕ). slice_range (get_or images s.image []) (512 * (s.sector + h.unit)) (512 * (s.sector + h.unit) + n)) long in
    added ∙ ap (λ (l : List (Option ℕ)). with_numbers old (filter_map (λ first. first) l)) (read ∙ ap (λ (b : List ℕ). map (first_sector h.unit) (first_lbas b h.header.alternate)) bytes)
    ∙ sym (ap (with_numbers old) (with_entries lengths images s h is entries))

-- where the sector of entries was read
pub told_read : (attached : List Image) (lengths old new to : List ℕ) (firsts : List (Option ℕ)) (s : Sighting) (h : GptTable) → s.image < length attached →
    AreTold attached s.image (s.sector + h.unit) to → length to ≡ 512 → firsts ≡ map (first_sector h.unit) (first_lbas to h.header.alternate) → new ≡ with_numbers old (filter_map (λ first. first) firsts) →
    s.landmark ≡ Gpt h → has_entries h s.sector (slice_index lengths s.image) ≡ true → IfSome (told_all attached) (λ images. new ≡ with_numbers old (hints_at lengths images s))
told_read attached lengths old new to firsts s h below are long read added is entries = read_of attached (told_all attached) lengths old new to firsts s h refl below are long read added is entries

-- that sector lies in the image
entries_inside : (h : GptTable) (sector long : ℕ) → has_entries h sector long ≡ true → sector + h.unit < long
entries_inside h sector long entries = grind (arith, nat_tests)

reaches : (attached : List Image) (i sector : ℕ) → i < length attached → sector < get_or (lengths_of attached) i 0 → IsSomeAnd (slice_get attached i) (λ a. sector + 1 ≤ a.sectors)
reaches [] i sector below more = absurd (omega arith)
reaches (a ∷ attached) zero sector below more = omega arith
reaches (a ∷ attached) (suc i) sector below more = reaches attached i sector (omega arith) more

inside_of : (lengths : List ℕ) (i sector : ℕ) → IsSomeAnd (slice_get lengths i) (λ n. sector < n) → i < length lengths
inside_of [] i sector in_it = absurd in_it
inside_of (n ∷ lengths) zero sector in_it = omega arith
inside_of (n ∷ lengths) (suc i) sector in_it = let rest = inside_of lengths i sector in_it in omega arith

pub image_there : (attached : List Image) (lengths : List ℕ) (i sector : ℕ) → lengths ≡ lengths_of attached → IsSomeAnd (slice_get lengths i) (λ n. sector < n) → i < length attached
image_there attached lengths i sector are in_it = omega (arith, inside_of lengths i sector in_it, ap length are ∙ length-map attached (λ image. image.sectors))

pub next_within : (attached : List Image) (lengths : List ℕ) (h : GptTable) (i sector : ℕ) → lengths ≡ lengths_of attached → IsSomeAnd (slice_get lengths i) (λ n. sector < n) → has_entries h sector (slice_index lengths i) ≡ true →
    AreWithin attached i (sector + h.unit) 512
next_within attached lengths h i sector are in_it entries = record {
  whole = refl;
  some = omega arith;
  inside = reaches attached i (sector + h.unit) (image_there attached lengths i sector are in_it) (subst (λ (l : List ℕ). sector + h.unit < get_or l i 0) are (entries_inside h sector (slice_index lengths i) entries));
}

-- ---- of the sightings so far

pub Hinted : List Image → List ℕ → List ℕ → List Sighting → ℕ → List ℕ → Type 0
Hinted attached asked lengths found n items = IfSome (told_all attached) (λ images. items ≡ with_numbers asked (flat_map (hints_at lengths images) (take n found)))

start : (told : Option (List (List ℕ))) (asked lengths : List ℕ) (found : List Sighting) → length asked ≤ MOST_ORIGINS → IfSome told (λ images. asked ≡ with_numbers asked (flat_map (hints_at lengths images) (take 0 found)))
start None asked lengths found few = tt
start (Some images) asked lengths found few = sym (with_none asked few)

pub hinted_none : (attached : List Image) (asked lengths : List ℕ) (found : List Sighting) (items : List ℕ) → length asked ≤ MOST_ORIGINS → items ≡ asked → Hinted attached asked lengths found 0 items
unfolding Hinted
hinted_none attached asked lengths found items few same = rw same (start (told_all attached) asked lengths found few)

more_hints : (told : Option (List (List ℕ))) (asked lengths : List ℕ) (found : List Sighting) (i : ℕ) (s : Sighting) (old new : List ℕ) → i < length found → s ≡ get_or found i s →
    IfSome told (λ images. old ≡ with_numbers asked (flat_map (hints_at lengths images) (take i found))) → IfSome told (λ images. new ≡ with_numbers old (hints_at lengths images s)) →
    IfSome told (λ images. new ≡ with_numbers asked (flat_map (hints_at lengths images) (take (i + 1) found)))
more_hints None asked lengths found i s old new below is was adds = tt
more_hints (Some images) asked lengths found i s old new below is was adds =
    adds ∙ ap (λ (l : List ℕ). with_numbers l (hints_at lengths images s)) was
    ∙ with_more asked (flat_map (hints_at lengths images) (take i found)) (hints_at lengths images s)
    ∙ sym (ap (with_numbers asked)
    (ap (flat_map (hints_at lengths images)) (take_more found i s below)
    ∙ flat_map-append (hints_at lengths images) (take i found) (get_or found i s ∷ [])
    ∙ ap (λ (l : List ℕ). flat_map (hints_at lengths images) (take i found) ++ l) (append-nil (hints_at lengths images (get_or found i s)) ∙ ap (hints_at lengths images) (sym is))))

pub hinted_more : (attached : List Image) (asked lengths : List ℕ) (found : List Sighting) (i : ℕ) (s : Sighting) (old new : List ℕ) → i < length found → s ≡ get_or found i s →
    Hinted attached asked lengths found i old → IfSome (told_all attached) (λ images. new ≡ with_numbers old (hints_at lengths images s)) → Hinted attached asked lengths found (i + 1) new
unfolding Hinted
hinted_more attached asked lengths found i s old new below is was adds = more_hints (told_all attached) asked lengths found i s old new below is was adds

all_hints : (told : Option (List (List ℕ))) (asked lengths : List ℕ) (found : List Sighting) (n : ℕ) (items : List ℕ) → length found ≤ n →
    IfSome told (λ images. items ≡ with_numbers asked (flat_map (hints_at lengths images) (take n found))) → IfSome told (λ images. items ≡ origins_of asked lengths images found)
unfolding origins_of
all_hints None asked lengths found n items all is = tt
all_hints (Some images) asked lengths found n items all is = is ∙ ap (λ (l : List Sighting). with_numbers asked (flat_map (hints_at lengths images) l)) (take_all n found all)

pub hinted_all : (attached : List Image) (asked lengths : List ℕ) (found : List Sighting) (n : ℕ) (items : List ℕ) → length found ≤ n → Hinted attached asked lengths found n items →
    IfSome (told_all attached) (λ images. items ≡ origins_of asked lengths images found)
unfolding Hinted
hinted_all attached asked lengths found n items all is = all_hints (told_all attached) asked lengths found n items all is

-- ---- what is read for them

pub one_more_read : (a b c : Seen) (lengths : List ℕ) (found : List Sighting) (i : ℕ) (s : Sighting) → i < length found → s ≡ get_or found i s → OnlyReads a b (count_by (is_followed lengths) (take i found)) → OnlyReads b c (cond (is_followed lengths s) 1 0) →
    OnlyReads a c (count_by (is_followed lengths) (take (i + 1) found))
one_more_read a b c lengths found i s below is ab bc =
    let one : ◌≡◌ {A = ℕ} (cond (is_followed lengths s) 1 0) (cond (is_followed lengths (get_or found i s)) 1 0) = ap (λ (t : Sighting). cond (is_followed lengths t) 1 0) is in
    reads_up a c (reads_join a b c ab bc) (omega (arith, sum_by_more (λ (t : Sighting). cond (is_followed lengths t) 1 0) found i s below, one))

pub reads_some : (a b : Seen) (lengths : List ℕ) (found : List Sighting) (n : ℕ) → OnlyReads a b (count_by (is_followed lengths) (take n found)) → OnlyReads a b (count_by (is_followed lengths) found)
reads_some a b lengths found n ab = reads_up a b ab (omega (arith, sum_by-take-le (λ (t : Sighting). cond (is_followed lengths t) 1 0) found n))

-- the sector after a header that entries follow is read
pub one_read : (a b : Seen) (lengths : List ℕ) (s : Sighting) (h : GptTable) → s.landmark ≡ Gpt h → has_entries h s.sector (slice_index lengths s.image) ≡ true → OnlyReads a b 1 → OnlyReads a b (cond (is_followed lengths s) 1 0)
unfolding is_followed
one_read a b lengths s h is entries ab =
    let follow : entries_follow s.landmark s.sector (slice_index lengths s.image) ≡ true = ap (λ (l : Landmark). entries_follow l s.sector (slice_index lengths s.image)) is ∙ entries in
    subst (λ (k : Bool). OnlyReads a b (cond k 1 0)) (sym follow) ab

-- ---- how many those are

followed_are_few : (lengths : List ℕ) (found : List Sighting) → count_by (is_followed lengths) found ≤ count_by (is_same_kind GptKind) found
unfolding is_followed
followed_are_few lengths found =
    sum_by-le-sum_by (λ (s : Sighting). cond (is_followed lengths s) 1 0) (λ (s : Sighting). cond (is_same_kind GptKind s) 1 0) found (λ s. followed_few s.landmark s.sector (slice_index lengths s.image))

headers_few : (asked : Bool) (lengths : List ℕ) (found : List Sighting) → count_by (is_followed lengths) found ≤ 4096 → count_by (is_followed lengths) (headers_of asked found) ≤ cond asked 4096 0
headers_few true lengths found few = few
headers_few false lengths found few = omega arith

-- those whose entries are read are sightings of these images, too
pub headers_are : (asked : Bool) (lengths : List ℕ) (found : List Sighting) → AreSightings lengths found → AreSightings lengths (headers_of asked found)
headers_are true lengths found are = are
headers_are false lengths found are = record { each = λ i d lt. absurd (omega (arith, lt)); rising = tt; few = λ kind. omega arith }

-- where the bytes are known the sightings are those of the images
pub entries_of : (told : Option (List (List ℕ))) (ask : Ask) (attached : List Image) (lengths : List ℕ) (found : List Sighting) → lengths ≡ lengths_of attached → IfSome told (λ bytes. found ≡ found_in ask attached bytes) →
    count_by (is_same_kind GptKind) found ≤ MOST_MARKS → count_by (is_followed lengths) (headers_of ask.kinds.gpt found) ≤ entries_read told ask attached
entries_of None ask attached lengths found are is few = headers_few ask.kinds.gpt lengths found (omega (arith, followed_are_few lengths found, few))
entries_of (Some bytes) ask attached lengths found are is few =
    let same : count_by (is_followed lengths) (headers_of ask.kinds.gpt found) ≡ count_by (is_followed (lengths_of attached)) (headers_of ask.kinds.gpt (found_in ask attached bytes)) =
    ap (λ (ns : List ℕ). count_by (is_followed ns) (headers_of ask.kinds.gpt found)) are
    ∙ ap (λ (l : List Sighting). count_by (is_followed (lengths_of attached)) (headers_of ask.kinds.gpt l)) is in
    omega (arith, same)
