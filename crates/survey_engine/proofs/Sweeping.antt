-- The sightings below a sector, as a sweep comes to them.
use Rattle.std.proofs.Common.{◌≡◌, ℕ, zero, suc, ◌+◌, ◌-◌, ◌*◌, ◌^◌, ◌<◌, ◌≤◌, List, [], ◌∷◌, ◌++◌, Bool, true, false, cond, eqb, length, map, fold, take, drop, replicate, get_or, refl, sym, ap, subst, ◌∙◌, arith, All, Option, Some, None, IfSome, slice_index}
use Rattle.std.specs.Prelude.{count_by, option_and_then, nat_le, ◌&&◌}
use Rattle.std.specs.List.{filter_map, flat_map, range_with_len, cons_option}
use Rattle.std.proofs.lemmas.Bool.{eqb-true}
use Rattle.std.proofs.lemmas.Bool.Decides.{nat_tests}
use borrow.Author.Tests.{ltb-true}
use Rattle.std.proofs.lemmas.List.{drop-drop, drop-take, get_or-map, take-take, length-map, length-replicate}
use Rattle.std.proofs.lemmas.List.Concat.{flat_map-append}
use Rattle.std.proofs.lemmas.List.Elements.{filter_map-append, All-head, All-map, All-same, All-weaker}
use Rattle.std.proofs.lemmas.List.Sums.{fold-append, sum_by_push}
use Rattle.outside.specs.Attached.{told_all}
use Rattle.outside.specs.Seen.{Image, OnlyReads, Seen, lengths_of}
use Rattle.outside.proofs.Reading.{reads_join, reads_up}
use Rattle.std.proofs.lemmas.Nat.{mul-le}
use Rattle.outside.proofs.Told.{told_all_length}
use Rattle.survey_engine.specs.Surveys.{found_in}
use Rattle.survey_engine.specs.Sweep.{next_of, sectors_of, Swept}
use Rattle.mark_kinds.specs.declared.table.Kind.{Kind}
use Rattle.landmark_rules.specs.Groups.{kind_place}
use Rattle.landmark_rules.specs.declared.limits.TheConstants.{MOST_MARKS}
use Rattle.survey_engine.specs.Blocks.{found_at, found_in_block, found_in_row}
use Rattle.survey_engine.specs.Kept.{kept_with}
use Rattle.survey_engine.specs.Landmarks.{kind_of, landmark_in}
use Rattle.survey_engine.specs.Sightings.{counted, is_early, is_same_kind, is_sighting, sector_of, sighting_at, sighting_in, sightings, Place}
use Rattle.survey_engine.specs.declared.ask.Ask.{Ask}
use Rattle.survey_engine.specs.declared.landmark.Landmark.{Landmark}
use Rattle.survey_engine.specs.declared.sighting.Sighting.{Sighting}

-- ---- lists

same_maps : {Y : Type 0} (f g : ℕ → Option Y) (a n : ℕ) → ((i : ℕ) → a ≤ i → i < a + n → f i ≡ g i) → filter_map f (range_with_len a n) ≡ filter_map g (range_with_len a n)
same_maps {Y} f g a zero same = refl
same_maps {Y} f g a (suc n) same =
    ap (λ (o : Option Y). cons_option o (filter_map f (range_with_len (a + 1) n))) (same a (omega arith) (omega arith))
    ∙ ap (cons_option (g a)) (same_maps f g (a + 1) n (λ i low high. same i (omega arith) (omega arith)))

same_flat : {Y : Type 0} (f g : ℕ → List Y) (a n : ℕ) → ((i : ℕ) → a ≤ i → i < a + n → f i ≡ g i) → flat_map f (range_with_len a n) ≡ flat_map g (range_with_len a n)
same_flat {Y} f g a zero same = refl
same_flat {Y} f g a (suc n) same =
    ap (λ (l : List Y). l ++ flat_map f (range_with_len (a + 1) n)) (same a (omega arith) (omega arith))
    ∙ ap (λ (l : List Y). g a ++ l) (same_flat f g (a + 1) n (λ i low high. same i (omega arith) (omega arith)))

shifted : {Y : Type 0} (f : ℕ → List Y) (first a n : ℕ) → flat_map f (range_with_len (first + a) n) ≡ flat_map (λ p. f (first + p)) (range_with_len a n)
shifted {Y} f first a zero = refl
shifted {Y} f first a (suc n) =
    let next : first + a + 1 ≡ first + (a + 1) = omega arith in
    ap (λ (k : ℕ). f (first + a) ++ flat_map f (range_with_len k n)) next ∙ ap (λ (l : List Y). f (first + a) ++ l) (shifted f first (a + 1) n)

range_split : (a m n : ℕ) → range_with_len a (m + n) ≡ range_with_len a m ++ range_with_len (a + m) n
range_split a zero n = let here : a ≡ a + 0 = omega arith in let all : 0 + n ≡ n = omega arith in ap (range_with_len a) all ∙ ap (λ (k : ℕ). range_with_len k n) here
range_split a (suc m) n =
    let all : suc m + n ≡ suc (m + n) = omega arith in
    let on : a + 1 + m ≡ a + suc m = omega arith in
    ap (range_with_len a) all ∙ ap (λ (l : List ℕ). a ∷ l) (range_split (a + 1) m n) ∙ ap (λ (k : ℕ). a ∷ range_with_len (a + 1) m ++ range_with_len k n) on

filter_flat : {X Y Z : Type 0} (h : Y → Option Z) (f : X → List Y) (xs : List X) → filter_map h (flat_map f xs) ≡ flat_map (λ x. filter_map h (f x)) xs
filter_flat h f [] = refl
filter_flat {X} {Y} {Z} h f (x ∷ xs) = filter_map-append h (f x) (flat_map f xs) ∙ ap (λ (l : List Z). filter_map h (f x) ++ l) (filter_flat h f xs)

filter_of_map : {X Y Z : Type 0} (h : Y → Option Z) (f : X → Y) (xs : List X) → filter_map h (map f xs) ≡ filter_map (λ x. h (f x)) xs
filter_of_map h f [] = refl
filter_of_map h f (x ∷ xs) = ap (cons_option (h (f x))) (filter_of_map h f xs)

none_kept : {Y : Type 0} (f : ℕ → Option Y) (a n : ℕ) → ((i : ℕ) → f i ≡ None) → filter_map f (range_with_len a n) ≡ []
none_kept f a zero none = refl
none_kept {Y} f a (suc n) none = ap (λ (o : Option Y). cons_option o (filter_map f (range_with_len (a + 1) n))) (none a) ∙ none_kept f (a + 1) n none

all_empty : {Y : Type 0} (f : ℕ → List Y) (a n : ℕ) → ((i : ℕ) → i < a + n → f i ≡ []) → flat_map f (range_with_len a n) ≡ []
all_empty f a zero none = refl
all_empty {Y} f a (suc n) none = ap (λ (l : List Y). l ++ flat_map f (range_with_len (a + 1) n)) (none a (omega arith)) ∙ all_empty f (a + 1) n (λ i below. none i (omega arith))

-- ---- below a sector

row_of : Ask → List ℕ → List (List ℕ) → ℕ → ℕ → List Sighting
row_of ask lengths images number sector = filter_map (λ image. sighting_at ask lengths images (record { sector = sector; image = image })) (range_with_len 0 number)

pub found_below : Ask → List ℕ → List (List ℕ) → ℕ → ℕ → List Sighting
found_below ask lengths images number sector = flat_map (row_of ask lengths images number) (range_with_len 0 sector)

-- to the end it is all sightings
pub all_below : (ask : Ask) (lengths : List ℕ) (images : List (List ℕ)) (number : ℕ) → found_below ask lengths images number ask.end ≡ sightings ask lengths images number
unfolding found_below row_of sightings
all_below ask lengths images number =
    same_flat (row_of ask lengths images number) (λ sector. filter_map (sighting_at ask lengths images) (map (λ image. record { sector = sector; image = image }) (range_with_len 0 number))) 0 ask.end
    (λ sector low high. sym (filter_of_map (sighting_at ask lengths images) (λ image. record { sector = sector; image = image }) (range_with_len 0 number)))
    ∙ sym (filter_flat (sighting_at ask lengths images) (λ sector. map (λ image. record { sector = sector; image = image }) (range_with_len 0 number)) (range_with_len 0 ask.end))

refused : (asked : Bool) (rest : Bool) (low : Bool) → low ≡ false → (asked && low && rest) ≡ false
refused true rest low e = rw e refl
refused false rest low e = refl

abbrev nothing : Option Sighting
nothing = None

passed_over : (ask : Ask) (long : ℕ) (at : Place) (found : Option Landmark) → ((l : Landmark) → is_sighting ask long at l ≡ false) →
    option_and_then (λ landmark. cond (is_sighting ask long at landmark) (Some (record { image = at.image; sector = at.sector; landmark = landmark })) nothing) found ≡ None
passed_over ask long at None never = refl
passed_over ask long at (Some l) never = ap (λ (b : Bool). cond b (Some (record { image = at.image; sector = at.sector; landmark = l })) nothing) (never l)

-- no sector before the smallest offset is a sighting
too_early : (ask : Ask) (long : ℕ) (at : Place) (bytes : List ℕ) → at.sector < slice_index ask.bounds.offsets.items 0 → sighting_in ask long at bytes ≡ None
unfolding sighting_in
too_early ask long at bytes early =
    passed_over ask long at (landmark_in ask.unit bytes)
    (λ l. let no : nat_le (slice_index ask.bounds.offsets.items 0) at.sector ≡ false = grind (arith, nat_tests) in grind arith)

pub none_below : (ask : Ask) (lengths : List ℕ) (images : List (List ℕ)) (number sector : ℕ) → sector ≤ slice_index ask.bounds.offsets.items 0 → found_below ask lengths images number sector ≡ []
unfolding found_below row_of
none_below ask lengths images number sector early =
    all_empty (row_of ask lengths images number) 0 sector
    (λ s below. none_kept (λ image. sighting_at ask lengths images (record { sector = s; image = image })) 0 number
    (λ image. too_early ask (slice_index lengths image) (record { sector = s; image = image }) (sector_of (get_or images image []) s) (omega arith)))

-- a sector of a block is one of its image
same_sector : (bytes : List ℕ) (first count place : ℕ) → place < count → sector_of (sectors_of first count bytes) place ≡ sector_of bytes (first + place)
same_sector bytes first count place below =
    let rest = 512 * count - 512 * place in
    let size : 512 * (first + count) - 512 * first ≡ 512 * place + rest = omega arith in
    let at : 512 * first + 512 * place ≡ 512 * (first + place) = omega arith in
    let one : 512 * place + 512 - 512 * place ≡ 512 * (first + place) + 512 - 512 * (first + place) = omega arith in
    let fits : 512 * place + 512 - 512 * place ≤ rest = omega arith in
    ap (λ (n : ℕ). take (512 * place + 512 - 512 * place) (drop (512 * place) (take n (drop (512 * first) bytes)))) size
    ∙ ap (take (512 * place + 512 - 512 * place)) (drop-take (512 * place) rest (drop (512 * first) bytes))
    ∙ take-take (512 * place + 512 - 512 * place) rest (drop (512 * place) (drop (512 * first) bytes)) fits
    ∙ ap (take (512 * place + 512 - 512 * place)) (drop-drop (512 * place) (512 * first) bytes ∙ ap (λ (n : ℕ). drop n bytes) at)
    ∙ ap (λ (n : ℕ). take n (drop (512 * (first + place)) bytes)) one

same_found : (ask : Ask) (lengths : List ℕ) (images : List (List ℕ)) (sweep : Swept) (place image : ℕ) → sweep.blocks ≡ map (sectors_of sweep.first sweep.count) images → place < sweep.count → image < length images →
    sighting_at ask lengths images (record { sector = sweep.first + place; image = image }) ≡ found_at ask lengths sweep place image
same_found ask lengths images sweep place image blocks below within =
    let here : get_or sweep.blocks image [] ≡ sectors_of sweep.first sweep.count (get_or images image []) = ap (λ (l : List (List ℕ)). get_or l image []) blocks ∙ get_or-map (sectors_of sweep.first sweep.count) images image [] [] within in
    ap (sighting_in ask (slice_index lengths image) (record { sector = sweep.first + place; image = image }))
    (sym (same_sector (get_or images image []) sweep.first sweep.count place below) ∙ ap (λ (b : List ℕ). sector_of b place) (sym here))

-- what a block adds
block_adds : (ask : Ask) (lengths : List ℕ) (images : List (List ℕ)) (sweep : Swept) → sweep.blocks ≡ map (sectors_of sweep.first sweep.count) images → length images ≡ length lengths →
    found_below ask lengths images (length lengths) (sweep.first + sweep.count) ≡ found_below ask lengths images (length lengths) sweep.first ++ found_in_block ask lengths sweep sweep.count
unfolding found_below row_of
block_adds ask lengths images sweep blocks long =
    let row = row_of ask lengths images (length lengths) in
    let on : 0 + sweep.first ≡ sweep.first + 0 = omega arith in
    ap (flat_map row) (range_split 0 sweep.first sweep.count)
    ∙ flat_map-append row (range_with_len 0 sweep.first) (range_with_len (0 + sweep.first) sweep.count)
    ∙ ap (λ (l : List Sighting). flat_map row (range_with_len 0 sweep.first) ++ l)
    (ap (λ (k : ℕ). flat_map row (range_with_len k sweep.count)) on
    ∙ shifted row sweep.first 0 sweep.count
    ∙ same_flat (λ p. row (sweep.first + p)) (found_in_row ask lengths sweep (length lengths)) 0 sweep.count
    (λ place low high. same_maps (λ image. sighting_at ask lengths images (record { sector = sweep.first + place; image = image })) (found_at ask lengths sweep place) 0 (length lengths)
    (λ image from to. same_found ask lengths images sweep place image blocks (omega arith) (omega arith))))

-- ---- those of them that count

-- of no kind more count than may
pub Few : List Sighting → Type 0
Few found = (kind : Kind) → count_by (is_same_kind kind) found ≤ MOST_MARKS

few_case : (kind : Kind) (found : List Sighting) (s : Sighting) → count_by (is_same_kind kind) found ≤ MOST_MARKS → (early : Bool) → is_early found s ≡ early → (same : Bool) → is_same_kind kind s ≡ same →
    count_by (is_same_kind kind) (cond early (found ++ s ∷ []) found) ≤ MOST_MARKS
few_case kind found s few false e same k = few
few_case kind found s few true e false k =
    let none : ◌≡◌ {A = ℕ} (cond (is_same_kind kind s) 1 0) 0 = ap (λ (b : Bool). cond b 1 0) k in
    omega (arith, sum_by_push (λ t. cond (is_same_kind kind t) 1 0) found s, none)
few_case kind found s few true e true k =
    let place : kind_place (kind_of s.landmark) ≡ kind_place kind = eqb-true (kind_place (kind_of s.landmark)) (kind_place kind) k in
    let one : ◌≡◌ {A = ℕ} (cond (is_same_kind kind s) 1 0) 1 = ap (λ (b : Bool). cond b 1 0) k in
    let those : count_by (is_same_kind (kind_of s.landmark)) found ≡ count_by (is_same_kind kind) found = ap (λ (n : ℕ). count_by (λ (t : Sighting). eqb (kind_place (kind_of t.landmark)) n) found) place in
    let short : count_by (is_same_kind (kind_of s.landmark)) found < MOST_MARKS = ltb-true (count_by (is_same_kind (kind_of s.landmark)) found) MOST_MARKS e in
    omega (arith, sum_by_push (λ t. cond (is_same_kind kind t) 1 0) found s, one, those, short)

few_with : (kind : Kind) (found : List Sighting) (s : Sighting) → count_by (is_same_kind kind) found ≤ MOST_MARKS → count_by (is_same_kind kind) (kept_with is_early found s) ≤ MOST_MARKS
few_with kind found s few = few_case kind found s few (is_early found s) refl (is_same_kind kind s) refl

pub few_fold : (found more : List Sighting) → Few found → Few (fold (kept_with is_early) found more)
unfolding Few
few_fold found [] few = few
few_fold found (s ∷ more) few = few_fold (kept_with is_early found s) more (λ kind. few_with kind found s (few kind))

pub few_none : Few []
unfolding Few
few_none = λ kind. omega arith

pub few_is : (found : List Sighting) → Few found → (kind : Kind) → count_by (is_same_kind kind) found ≤ MOST_MARKS
unfolding Few
few_is found few = few

-- ---- where all bytes are known

-- the list has the sightings below a sector that count
pub Told : List Image → Ask → List ℕ → ℕ → List Sighting → Type 0
Told attached ask lengths next found = IfSome (told_all attached) (λ bytes. found ≡ fold (kept_with is_early) [] (found_below ask lengths bytes (length lengths) next))

start : (told : Option (List (List ℕ))) (ask : Ask) (lengths : List ℕ) (first : ℕ) → first ≤ slice_index ask.bounds.offsets.items 0 →
    IfSome told (λ bytes. [] ≡ fold (kept_with is_early) [] (found_below ask lengths bytes (length lengths) first))
start None ask lengths first early = tt
start (Some bytes) ask lengths first early = sym (ap (fold (kept_with is_early) []) (none_below ask lengths bytes (length lengths) first early))

pub told_start : (attached : List Image) (ask : Ask) (lengths : List ℕ) (first : ℕ) → first ≤ slice_index ask.bounds.offsets.items 0 → Told attached ask lengths first []
unfolding Told
told_start attached ask lengths first early = start (told_all attached) ask lengths first early

block : (attached : List Image) (told : Option (List (List ℕ))) (ask : Ask) (lengths : List ℕ) (sweep : Swept) (old new : List Sighting) → told_all attached ≡ told → length attached ≡ length lengths →
    IfSome told (λ bytes. old ≡ fold (kept_with is_early) [] (found_below ask lengths bytes (length lengths) sweep.first)) →
    IfSome told (λ bytes. sweep.blocks ≡ map (sectors_of sweep.first sweep.count) bytes) →
    new ≡ fold (kept_with is_early) old (found_in_block ask lengths sweep sweep.count) →
    IfSome told (λ bytes. new ≡ fold (kept_with is_early) [] (found_below ask lengths bytes (length lengths) (sweep.first + sweep.count)))
block attached None ask lengths sweep old new e long was blocks is = tt
block attached (Some bytes) ask lengths sweep old new e long was blocks is =
    let all : length bytes ≡ length lengths = omega (arith, told_all_length attached bytes e) in
    is ∙ ap (λ (l : List Sighting). fold (kept_with is_early) l (found_in_block ask lengths sweep sweep.count)) was
    ∙ sym (fold-append (kept_with is_early) [] (found_below ask lengths bytes (length lengths) sweep.first) (found_in_block ask lengths sweep sweep.count))
    ∙ sym (ap (fold (kept_with is_early) []) (block_adds ask lengths bytes sweep blocks all))

pub told_block : (attached : List Image) (ask : Ask) (lengths : List ℕ) (sweep : Swept) (next : ℕ) (old new : List Sighting) → length attached ≡ length lengths → next ≡ sweep.first →
    Told attached ask lengths next old → IfSome (told_all attached) (λ bytes. sweep.blocks ≡ map (sectors_of sweep.first sweep.count) bytes) →
    new ≡ fold (kept_with is_early) old (found_in_block ask lengths sweep sweep.count) → Told attached ask lengths (sweep.first + sweep.count) new
unfolding Told
told_block attached ask lengths sweep next old new long at was blocks is =
    block attached (told_all attached) ask lengths sweep old new refl long (subst (λ (n : ℕ). IfSome (told_all attached) (λ bytes. old ≡ fold (kept_with is_early) [] (found_below ask lengths bytes (length lengths) n))) at was) blocks is

ended : (told : Option (List (List ℕ))) (ask : Ask) (attached : List Image) (found : List Sighting) →
    IfSome told (λ bytes. found ≡ fold (kept_with is_early) [] (found_below ask (lengths_of attached) bytes (length (lengths_of attached)) ask.end)) → IfSome told (λ bytes. found ≡ found_in ask attached bytes)
unfolding counted
ended None ask attached found is = tt
ended (Some bytes) ask attached found is =
    is ∙ ap (λ (n : ℕ). fold (kept_with is_early) [] (found_below ask (lengths_of attached) bytes n ask.end)) (length-map attached (λ image. image.sectors))
    ∙ ap (fold (kept_with is_early) []) (all_below ask (lengths_of attached) bytes (length attached))

pub told_end : (attached : List Image) (ask : Ask) (lengths : List ℕ) (next : ℕ) (found : List Sighting) → next ≡ ask.end → lengths ≡ lengths_of attached → Told attached ask lengths next found →
    IfSome (told_all attached) (λ bytes. found ≡ found_in ask attached bytes)
unfolding Told
told_end attached ask lengths next found at are is =
    ended (told_all attached) ask attached found
    (subst (λ (n : ℕ). IfSome (told_all attached) (λ bytes. found ≡ fold (kept_with is_early) [] (found_below ask (lengths_of attached) bytes (length (lengths_of attached)) n))) at
    (subst (λ (l : List ℕ). IfSome (told_all attached) (λ bytes. found ≡ fold (kept_with is_early) [] (found_below ask l bytes (length l) next))) are is))

-- the images reach to the next sector
pub long_lengths : (attached : List Image) (lengths : List ℕ) (end next : ℕ) → lengths ≡ lengths_of attached → next ≤ end → All (λ image. end ≤ image.sectors) attached → All (λ n. next ≤ n) lengths
long_lengths attached lengths end next are le long =
    All-same (λ n. next ≤ n) lengths (lengths_of attached) are (All-map (λ n. next ≤ n) (λ image. image.sectors) attached (All-weaker (λ image. end ≤ image.sectors) (λ image. next ≤ image.sectors) (λ image h. omega (arith, h)) attached long))

-- ---- what is read

sum_is : (n m next count : ℕ) → m ≡ n → n * next + m * count ≡ n * (next + count)
sum_is n m next count same = rw same (grind arith)

pub reads_next : (a b c : Seen) (n m next count on : ℕ) → OnlyReads a b (n * next) → OnlyReads b c (m * count) → m ≡ n → on ≡ next + count → OnlyReads a c (n * on)
reads_next a b c n m next count on ab bc same at = reads_up a c (reads_join a b c ab bc) (omega (arith, sum_is n m next count same, ap (λ (k : ℕ). n * k) at))

pub reads_to : (a b c : Seen) (n m next count end : ℕ) → OnlyReads a b (n * next) → OnlyReads b c (m * count) → m ≡ n → next + count ≤ end → OnlyReads a c (n * end)
reads_to a b c n m next count end ab bc same le =
    let most : n * (next + count) ≤ n * end = mul-le n (next + count) n end (omega arith) le in
    reads_up a c (reads_join a b c ab bc) (omega (arith, sum_is n m next count same, most))

pub reads_of : (a b : Seen) (n m some all : ℕ) → n ≡ m → some ≡ all → OnlyReads a b (n * some) → OnlyReads a b (m * all)
reads_of a b n m some all same as_many reads = subst (λ (k : ℕ). OnlyReads a b (k * all)) same (subst (λ (k : ℕ). OnlyReads a b (n * k)) as_many reads)

-- the end is below 2^55
pub end_near : (attached : List Image) (end : ℕ) → 1 ≤ length attached → All (λ image. image.sectors < 2 ^ 55) attached → All (λ image. end ≤ image.sectors) attached → end < 2 ^ 55
end_near [] end some short long = absurd (omega arith)
end_near (image ∷ attached) end some short long = omega (arith, All-head (λ i. i.sectors < 2 ^ 55) image attached short, All-head (λ i. end ≤ i.sectors) image attached long)

-- a sweep as it starts
pub starts : (sweep : Swept) (first images end : ℕ) → sweep ≡ record { first = first; count = 0; end = end; blocks = replicate images [] } → first ≤ end →
    (next_of sweep ≡ first) × (sweep.end ≡ end) × (length sweep.blocks ≡ images) × (next_of sweep ≤ end)
starts sweep first images end is le =
    let at : sweep.first ≡ first = ap (λ (s : Swept). s.first) is in
    let none : sweep.count ≡ 0 = ap (λ (s : Swept). s.count) is in
    (omega arith, ap (λ (s : Swept). s.end) is, ap (λ (s : Swept). length s.blocks) is ∙ length-replicate images [], omega arith)
