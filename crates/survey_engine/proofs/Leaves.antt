-- What a leaf tells.
use Rattle.std.proofs.Common.{◌≡◌, ℕ, zero, suc, ◌+◌, ◌-◌, ◌*◌, ◌<◌, ◌≤◌, List, [], ◌∷◌, ◌++◌, Bool, true, false, cond, length, map, take, drop, get_or, slice_get, slice_set, slice_index, slice_range, refl, sym, ap, ap₂, subst, ◌∙◌, arith, All, IfSome, IsSomeAnd, Option, Some, None}
use Rattle.std.specs.Prelude.{count_by, nat_le, ◌&&◌, ◌==◌}
use Rattle.std.specs.List.{cons_option, filter_map, range_with_len}
use Rattle.std.specs.Option.{option_map_or}
use Rattle.std.specs.Str.{bytes_eq}
use Rattle.std.proofs.Math.ListN.{get_or-map}
use Rattle.std.proofs.lemmas.List.{append-nil, drop_all, length-map, take_all}
use Rattle.std.proofs.lemmas.List.Edits.{map_over_more}
use Rattle.std.proofs.lemmas.List.Elements.{All-cons, All-get_or, All-head, All-nil, All-tail}
use Rattle.std.proofs.lemmas.List.Sums.{sum_by-cons}
use Rattle.btrfstree.specs.declared.header.TreeBlock.{TreeBlock}
use Rattle.btrfstree.specs.Whole.{is_whole}
use Rattle.mark_kinds.specs.Table.{kind_place}
use Rattle.mark_kinds.specs.declared.table.Kind.{Kind}
use Rattle.outside.specs.Attached.{told_all}
use Rattle.outside.specs.Seen.{AreTold, AreWithin, Image, lengths_of}
use Rattle.survey_engine.proofs.Firsts.{image_there}
use Rattle.survey_engine.proofs.Reading.{told_bytes}
use Rattle.std.proofs.lemmas.Bool.{false≢true}
use Rattle.std.proofs.lemmas.Bool.Decides.{nat_tests}
use Rattle.survey_engine.specs.Landmarks.{kind_of, IsSound}
use Rattle.survey_engine.specs.Sightings.{is_same_kind, sighting_place, AreRising, AreSightings, IsInImages}
use Rattle.survey_engine.specs.Telling.{bare, bare_landmark, begins_leaf, is_leaf, is_newer, is_other, is_same_number, landmark_with, leaf_of, sighting_with, spot_at, spot_of, told_by_leaf, with_leaf, with_spot}
use Rattle.survey_engine.specs.declared.landmark.Landmark.{Landmark}
use Rattle.survey_engine.specs.declared.landmark.Landmark.TheVariants.{Placed, Tree}
use Rattle.survey_engine.specs.declared.landmark.TreeSeen.{TreeSeen}
use Rattle.survey_engine.specs.declared.sighting.Sighting.{Sighting}
use Rattle.survey_engine.specs.declared.telling.Spot.{Spot}

-- ---- the items of a leaf

-- where its items from a number on tell that an address lies
pub spots_from : List ℕ → ℕ → ℕ → List Spot
spots_from leaf address i = filter_map (spot_at leaf address) (range_with_len i (155 - i))

spots_more : (leaf : List ℕ) (address i : ℕ) (one : Option Spot) → i < 155 → spot_at leaf address i ≡ one → spots_from leaf address i ≡ cons_option one (spots_from leaf address (i + 1))
unfolding spots_from
spots_more leaf address i one below is =
    let next : 155 - i ≡ suc (155 - (i + 1)) = omega arith in
    ap (λ (n : ℕ). filter_map (spot_at leaf address) (range_with_len i n)) next
    ∙ ap (λ (o : Option Spot). cons_option o (filter_map (spot_at leaf address) (range_with_len (i + 1) (155 - (i + 1))))) is

pub spot_start : (leaf : List ℕ) (address : ℕ) → spot_of leaf address ≡ slice_get (spots_from leaf address 0) 0
unfolding spots_from spot_of
spot_start leaf address = refl

pub spot_found : (leaf : List ℕ) (address i : ℕ) (spot : Spot) → i < 155 → spot_of leaf address ≡ slice_get (spots_from leaf address i) 0 → spot_at leaf address i ≡ Some spot → spot_of leaf address ≡ Some spot
spot_found leaf address i spot below so is = so ∙ ap (λ (l : List Spot). slice_get l 0) (spots_more leaf address i (Some spot) below is)

pub spot_passed : (leaf : List ℕ) (address i : ℕ) → i < 155 → spot_of leaf address ≡ slice_get (spots_from leaf address i) 0 → spot_at leaf address i ≡ None → spot_of leaf address ≡ slice_get (spots_from leaf address (i + 1)) 0
spot_passed leaf address i below so is = so ∙ ap (λ (l : List Spot). slice_get l 0) (spots_more leaf address i None below is)

pub spot_none : (leaf : List ℕ) (address i : ℕ) → 155 ≤ i → spot_of leaf address ≡ slice_get (spots_from leaf address i) 0 → spot_of leaf address ≡ None
unfolding spots_from
spot_none leaf address i all so =
    let none : 155 - i ≡ 0 = omega arith in
    so ∙ ap (λ (n : ℕ). slice_get (filter_map (spot_at leaf address) (range_with_len i n)) 0) none

-- ---- what one leaf tells of all

-- once it told of the first sightings
pub heard_to : List ℕ → Landmark → List Sighting → ℕ → List Sighting
heard_to leaf by found n = map (sighting_with leaf by) (take n found) ++ drop n found

pub heard_none : (leaf : List ℕ) (by : Landmark) (found : List Sighting) → heard_to leaf by found 0 ≡ found
unfolding heard_to
heard_none leaf by found = refl

pub heard_more : (leaf : List ℕ) (by : Landmark) (found ys : List Sighting) (i : ℕ) (s : Sighting) → i < length found → ys ≡ heard_to leaf by found i → s ≡ get_or ys i s → slice_set ys i (sighting_with leaf by s) ≡ heard_to leaf by found (i + 1)
unfolding heard_to
heard_more leaf by found ys i s below so is = map_over_more (sighting_with leaf by) found ys i s below so is

pub heard_all : (leaf : List ℕ) (by : Landmark) (found : List Sighting) (n : ℕ) → length found ≤ n → heard_to leaf by found n ≡ map (sighting_with leaf by) found
unfolding heard_to
heard_all leaf by found n all = ap₂ (λ (a b : List Sighting). map (sighting_with leaf by) a ++ b) (take_all n found all) (drop_all n found all) ∙ append-nil (map (sighting_with leaf by) found)

-- ---- sightings stay what they are but for what is told of them

with_passed : (b : Bool) (one other tree : TreeSeen) → one.block ≡ tree.block → other.block ≡ tree.block → (cond b one other).block ≡ tree.block
with_passed true one other tree is or = is
with_passed false one other tree is or = or

spot_keeps : (generation : ℕ) (tree : TreeSeen) (spot : Spot) → (with_spot generation tree spot).block ≡ tree.block
unfolding with_spot
spot_keeps generation tree spot =
    with_passed (is_newer generation tree.told) _ _ tree refl (with_passed (is_same_number tree.told (Some generation) && is_other tree spot) _ tree tree refl refl)

either_keeps : (generation : ℕ) (tree : TreeSeen) (spot : Option Spot) → (option_map_or (with_spot generation tree) spot tree).block ≡ tree.block
either_keeps generation tree None = refl
either_keeps generation tree (Some spot) = spot_keeps generation tree spot

leaf_keeps : (leaf : List ℕ) (by : TreeBlock) (tree : TreeSeen) → (with_leaf leaf by tree).block ≡ tree.block
unfolding with_leaf
leaf_keeps leaf by tree = with_passed (bytes_eq by.identifier tree.block.identifier) _ tree tree (either_keeps by.generation tree (spot_of leaf tree.block.address)) refl

landmark_keeps : (leaf : List ℕ) (by landmark : Landmark) → bare_landmark (landmark_with leaf by landmark) ≡ bare_landmark landmark
landmark_keeps leaf (Tree by) (Tree tree) = ap (λ (b : TreeBlock). Tree (record { block = b; told = None; first = None; second = None })) (leaf_keeps leaf by.block tree)
landmark_keeps leaf by landmark = refl

sighting_keeps : (leaf : List ℕ) (by : Landmark) (s : Sighting) → bare (sighting_with leaf by s) ≡ bare s
sighting_keeps leaf by s = ap (λ (l : Landmark). record { image = s.image; sector = s.sector; landmark = l }) (landmark_keeps leaf by s.landmark)

pub heard_alike : (leaf : List ℕ) (by : Landmark) (found : List Sighting) → map bare (map (sighting_with leaf by) found) ≡ map bare found
heard_alike leaf by [] = refl
heard_alike leaf by (s ∷ found) = ap₂ (λ (t : Sighting) (l : List Sighting). t ∷ l) (sighting_keeps leaf by s) (heard_alike leaf by found)

-- what they tell is that of what they are
bare_begins : (landmark : Landmark) → begins_leaf (bare_landmark landmark) ≡ begins_leaf landmark
bare_begins (Tree tree) = refl
bare_begins (Placed pair place) = refl
bare_begins landmark = refl

bare_with : (leaf : List ℕ) (by landmark : Landmark) → landmark_with leaf (bare_landmark by) landmark ≡ landmark_with leaf by landmark
bare_with leaf (Tree by) (Tree tree) = refl
bare_with leaf (Tree by) landmark = refl
bare_with leaf (Placed pair place) landmark = refl
bare_with leaf by landmark = refl

pub bare_leaf : (asked : Bool) (lengths : List ℕ) (s : Sighting) → is_leaf asked lengths (bare s) ≡ is_leaf asked lengths s
unfolding is_leaf
bare_leaf asked lengths s = ap (λ (b : Bool). asked && b && nat_le (s.sector + 32) (slice_index lengths s.image)) (bare_begins s.landmark)

pub same_leaf : (asked : Bool) (lengths : List ℕ) (a b : Sighting) → bare a ≡ bare b → is_leaf asked lengths a ≡ is_leaf asked lengths b
same_leaf asked lengths a b same = sym (bare_leaf asked lengths a) ∙ ap (is_leaf asked lengths) same ∙ bare_leaf asked lengths b

bare_by : (asked : Bool) (lengths : List ℕ) (images : List (List ℕ)) (s by : Sighting) → told_by_leaf asked lengths images s (bare by) ≡ told_by_leaf asked lengths images s by
unfolding told_by_leaf
bare_by asked lengths images s by =
    ap₂ (λ (b : Bool) (l : Landmark). cond (b && is_whole (leaf_of images by)) (record { image = s.image; sector = s.sector; landmark = l }) s) (bare_leaf asked lengths by) (bare_with (leaf_of images by) by.landmark s.landmark)

pub same_by_leaf : (asked : Bool) (lengths : List ℕ) (images : List (List ℕ)) (s a b : Sighting) → bare a ≡ bare b → told_by_leaf asked lengths images s a ≡ told_by_leaf asked lengths images s b
same_by_leaf asked lengths images s a b same = sym (bare_by asked lengths images s a) ∙ ap (told_by_leaf asked lengths images s) same ∙ bare_by asked lengths images s b

-- ---- and so they are those of a survey

bare_kind : (landmark : Landmark) → kind_of (bare_landmark landmark) ≡ kind_of landmark
bare_kind (Tree tree) = refl
bare_kind (Placed pair place) = refl
bare_kind landmark = refl

to_sound : (landmark : Landmark) → IsSound landmark → IsSound (bare_landmark landmark)
to_sound (Tree tree) is = tt
to_sound (Placed pair place) is = tt
to_sound landmark is = is

of_sound : (landmark : Landmark) → IsSound (bare_landmark landmark) → IsSound landmark
of_sound (Tree tree) is = tt
of_sound (Placed pair place) is = tt
of_sound landmark is = is

to_each : (lengths : List ℕ) (found : List Sighting) → All (IsInImages lengths) found → All (IsInImages lengths) (map bare found)
to_each lengths [] each = All-nil (IsInImages lengths)
to_each lengths (s ∷ found) each =
    let here = All-head (IsInImages lengths) s found each in
    All-cons (IsInImages lengths) (bare s) (map bare found) (record { image = here.image; sector = here.sector; sound = to_sound s.landmark here.sound }) (to_each lengths found (All-tail (IsInImages lengths) s found each))

of_each : (lengths : List ℕ) (found : List Sighting) → All (IsInImages lengths) (map bare found) → All (IsInImages lengths) found
of_each lengths [] each = All-nil (IsInImages lengths)
of_each lengths (s ∷ found) each =
    let here = All-head (IsInImages lengths) (bare s) (map bare found) each in
    All-cons (IsInImages lengths) s found (record { image = here.image; sector = here.sector; sound = of_sound s.landmark here.sound }) (of_each lengths found (All-tail (IsInImages lengths) (bare s) (map bare found) each))

to_later : (n : ℕ) (found : List Sighting) → All (λ later. n < sighting_place later) found → All (λ later. n < sighting_place later) (map bare found)
to_later n [] all = All-nil (λ later. n < sighting_place later)
to_later n (s ∷ found) all =
    All-cons (λ later. n < sighting_place later) (bare s) (map bare found) (All-head (λ later. n < sighting_place later) s found all) (to_later n found (All-tail (λ later. n < sighting_place later) s found all))

of_later : (n : ℕ) (found : List Sighting) → All (λ later. n < sighting_place later) (map bare found) → All (λ later. n < sighting_place later) found
of_later n [] all = All-nil (λ later. n < sighting_place later)
of_later n (s ∷ found) all =
    All-cons (λ later. n < sighting_place later) s found (All-head (λ later. n < sighting_place later) (bare s) (map bare found) all) (of_later n found (All-tail (λ later. n < sighting_place later) (bare s) (map bare found) all))

to_rising : (found : List Sighting) → AreRising found → AreRising (map bare found)
to_rising [] rising = tt
to_rising (s ∷ found) rising = (to_later (sighting_place s) found rising.0, to_rising found rising.1)

of_rising : (found : List Sighting) → AreRising (map bare found) → AreRising found
of_rising [] rising = tt
of_rising (s ∷ found) rising = (of_later (sighting_place s) found rising.0, of_rising found rising.1)

bare_count : (kind : Kind) (found : List Sighting) → count_by (is_same_kind kind) (map bare found) ≡ count_by (is_same_kind kind) found
bare_count kind [] = refl
bare_count kind (s ∷ found) =
    let same : ◌≡◌ {A = ℕ} (cond (is_same_kind kind (bare s)) 1 0) (cond (is_same_kind kind s) 1 0) = ap (λ (k : Kind). cond (kind_place k == kind_place kind) 1 0) (bare_kind s.landmark) in
    omega (arith, same, sum_by-cons (λ t. cond (is_same_kind kind t) 1 0) (bare s) (map bare found), sum_by-cons (λ t. cond (is_same_kind kind t) 1 0) s found, bare_count kind found)

pub are_alike : (lengths : List ℕ) (found new : List Sighting) → map bare new ≡ map bare found → AreSightings lengths found → AreSightings lengths new
are_alike lengths found new alike are = record {
  each = of_each lengths new (rw alike (to_each lengths found are.each));
  rising = of_rising new (rw alike (to_rising found are.rising));
  few = λ kind. omega (arith, bare_count kind new, ap (count_by (is_same_kind kind)) alike, bare_count kind found, are.few kind);
}

-- those at one place
pub alike_at : (found new : List Sighting) (i : ℕ) (s : Sighting) → map bare new ≡ map bare found → s ≡ get_or new i s → bare s ≡ bare (get_or found i s)
alike_at found new i s alike is = ap bare is ∙ sym (get_or-map bare new i s) ∙ ap (λ (l : List Sighting). get_or l i (bare s)) alike ∙ get_or-map bare found i s

-- ---- of one of them

pub in_images_at : (lengths : List ℕ) (found : List Sighting) (i : ℕ) (s : Sighting) → AreSightings lengths found → i < length found → s ≡ get_or found i s → IsInImages lengths s
in_images_at lengths found i s are below is = rw is (All-get_or (IsInImages lengths) found i s below are.each)

pub alike_long : (found new : List Sighting) → map bare new ≡ map bare found → length new ≡ length found
alike_long found new alike = sym (length-map new bare) ∙ ap length alike ∙ length-map found bare

-- the image has it
fits : (asked : Bool) (lengths : List ℕ) (s : Sighting) → is_leaf asked lengths s ≡ true → s.sector + 32 ≤ slice_index lengths s.image
unfolding is_leaf
fits asked lengths s is = grind (arith, nat_tests)

pub reaches : (attached : List Image) (i end : ℕ) → i < length attached → end ≤ get_or (lengths_of attached) i 0 → IsSomeAnd (slice_get attached i) (λ a. end ≤ a.sectors)
reaches [] i end below more = absurd (omega arith)
reaches (a ∷ attached) zero end below more = more
reaches (a ∷ attached) (suc i) end below more = reaches attached i end (omega arith) more

pub leaf_within : (asked : Bool) (attached : List Image) (lengths : List ℕ) (s : Sighting) → lengths ≡ lengths_of attached → IsInImages lengths s → is_leaf asked lengths s ≡ true → AreWithin attached s.image s.sector 16384
leaf_within asked attached lengths s are in_it is = record {
  whole = refl;
  some = omega arith;
  inside = reaches attached s.image (s.sector + 32) (image_there attached lengths s.image s.sector are in_it.sector) (subst (λ (l : List ℕ). s.sector + 32 ≤ get_or l s.image 0) are (fits asked lengths s is));
}

leaf_read : (attached : List Image) (bytes : Option (List (List ℕ))) (s : Sighting) (leaf : List ℕ) → told_all attached ≡ bytes → s.image < length attached → AreTold attached s.image s.sector leaf → length leaf ≡ 16384 → IfSome bytes (λ images. leaf ≡ leaf_of images s)
leaf_read attached None s leaf e below are long = tt
leaf_read attached (Some images) s leaf e below are long = told_bytes attached images s.image s.sector leaf e below are ∙ ap (λ (n : ℕ). slice_range (get_or images s.image []) (512 * s.sector) (512 * s.sector + n)) long

pub leaf_told : (attached : List Image) (lengths : List ℕ) (s : Sighting) (leaf : List ℕ) → lengths ≡ lengths_of attached → IsInImages lengths s → AreTold attached s.image s.sector leaf → length leaf ≡ 16384 → IfSome (told_all attached) (λ images. leaf ≡ leaf_of images s)
leaf_told attached lengths s leaf lengths_are in_it are long = leaf_read attached (told_all attached) s leaf refl (image_there attached lengths s.image s.sector lengths_are in_it.sector) are long

-- where it tells nothing
silent : (asked : Bool) (lengths : List ℕ) (images : List (List ℕ)) (by : Sighting) (found : List Sighting) → (is_leaf asked lengths by && is_whole (leaf_of images by)) ≡ false → found ≡ map (λ s. told_by_leaf asked lengths images s by) found
unfolding told_by_leaf
silent asked lengths images by [] fails = refl
silent asked lengths images by (s ∷ found) fails = ap₂ (λ (t : Sighting) (l : List Sighting). t ∷ l) (rw fails refl) (silent asked lengths images by found fails)

neither : (a b : Bool) → a ≡ false → (a && b) ≡ false
neither false b fails = refl
neither true b fails = absurd (false≢true (sym fails))

not_other : (a b : Bool) → b ≡ false → (a && b) ≡ false
not_other false b fails = refl
not_other true b fails = fails

pub no_leaf : (bytes : Option (List (List ℕ))) (asked : Bool) (lengths : List ℕ) (by : Sighting) (found : List Sighting) → is_leaf asked lengths by ≡ false → IfSome bytes (λ images. found ≡ map (λ s. told_by_leaf asked lengths images s by) found)
no_leaf None asked lengths by found fails = tt
no_leaf (Some images) asked lengths by found fails = silent asked lengths images by found (neither (is_leaf asked lengths by) (is_whole (leaf_of images by)) fails)

pub not_whole : (bytes : Option (List (List ℕ))) (asked : Bool) (lengths leaf : List ℕ) (by : Sighting) (found : List Sighting) → IfSome bytes (λ images. leaf ≡ leaf_of images by) → is_whole leaf ≡ false → IfSome bytes (λ images. found ≡ map (λ s. told_by_leaf asked lengths images s by) found)
not_whole None asked lengths leaf by found read fails = tt
not_whole (Some images) asked lengths leaf by found read fails = silent asked lengths images by found (not_other (is_leaf asked lengths by) (is_whole (leaf_of images by)) (ap is_whole (sym read) ∙ fails))

-- and where it tells
speaks : (asked : Bool) (lengths : List ℕ) (images : List (List ℕ)) (by : Sighting) (found : List Sighting) → is_leaf asked lengths by ≡ true → is_whole (leaf_of images by) ≡ true → map (sighting_with (leaf_of images by) by.landmark) found ≡ map (λ s. told_by_leaf asked lengths images s by) found
unfolding told_by_leaf
speaks asked lengths images by [] is whole = refl
speaks asked lengths images by (s ∷ found) is whole = ap₂ (λ (t : Sighting) (l : List Sighting). t ∷ l) (rw (is, whole) refl) (speaks asked lengths images by found is whole)

pub whole_leaf : (bytes : Option (List (List ℕ))) (asked : Bool) (lengths leaf : List ℕ) (by : Sighting) (found new : List Sighting) → new ≡ map (sighting_with leaf by.landmark) found → is_leaf asked lengths by ≡ true → IfSome bytes (λ images. leaf ≡ leaf_of images by) → is_whole leaf ≡ true →
    IfSome bytes (λ images. new ≡ map (λ s. told_by_leaf asked lengths images s by) found)
whole_leaf None asked lengths leaf by found new heard is read whole = tt
whole_leaf (Some images) asked lengths leaf by found new heard is read whole =
    heard ∙ ap (λ (l : List ℕ). map (sighting_with l by.landmark) found) read ∙ speaks asked lengths images by found is (ap is_whole (sym read) ∙ whole)
