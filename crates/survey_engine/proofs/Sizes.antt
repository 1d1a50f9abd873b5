-- How many bytes inodes of XFS have.
use Rattle.std.proofs.Common.{◌≡◌, ℕ, ◌+◌, ◌*◌, ◌<◌, ◌≤◌, List, [], ◌++◌, Bool, true, false, cond, length, map, take, drop, get_or, slice_set, slice_index, slice_range, refl, sym, ap, ap₂, subst, ◌∙◌, arith, IfSome, Option, Some, None}
use Rattle.std.specs.Prelude.{count_by}
use Rattle.std.proofs.Math.Seq.{map-set_same}
use Rattle.std.proofs.lemmas.Bool.Decides.{nat_tests}
use Rattle.std.proofs.lemmas.List.{append-nil, drop-drop, drop-set-lt, drop_all, get_or-drop, take_all}
use Rattle.std.proofs.lemmas.List.Edits.{map_over_more}
use Rattle.std.proofs.lemmas.List.Sums.{sum_by-take-le, sum_by_more}
use Rattle.outside.specs.Attached.{told_all}
use Rattle.outside.specs.Seen.{AreTold, AreWithin, Image, OnlyReads, Seen, lengths_of}
use Rattle.outside.proofs.Reading.{reads_join, reads_none, reads_up}
use Rattle.survey_engine.proofs.Firsts.{image_there}
use Rattle.survey_engine.proofs.Leaves.{reaches}
use Rattle.survey_engine.proofs.Reading.{told_bytes}
use Rattle.survey_engine.specs.Sightings.{IsInImages}
use Rattle.survey_engine.specs.Sizing.{all_sized, has_run, landmark_by_run, run_of, sized}
use Rattle.survey_engine.specs.Telling.{bare, bare_landmark}
use Rattle.survey_engine.specs.declared.landmark.Landmark.{Landmark}
use Rattle.survey_engine.specs.declared.landmark.Landmark.TheVariants.{Inode}
use Rattle.survey_engine.specs.declared.sighting.Sighting.{Sighting}

-- ---- once the first sightings were looked at

pub sized_to : Bool → List ℕ → List (List ℕ) → List Sighting → ℕ → List Sighting
sized_to asked lengths images found n = map (sized asked lengths images) (take n found) ++ drop n found

pub SizedTo : Option (List (List ℕ)) → Bool → List ℕ → List Sighting → ℕ → List Sighting → Type 0
SizedTo bytes asked lengths found n new = IfSome bytes (λ images. new ≡ sized_to asked lengths images found n)

pub sized_none : (bytes : Option (List (List ℕ))) (asked : Bool) (lengths : List ℕ) (found : List Sighting) → SizedTo bytes asked lengths found 0 found
unfolding SizedTo sized_to
sized_none None asked lengths found = tt
sized_none (Some images) asked lengths found = refl

pub sized_more : (bytes : Option (List (List ℕ))) (asked : Bool) (lengths : List ℕ) (found ys : List Sighting) (i : ℕ) (s new : Sighting) → i < length found → SizedTo bytes asked lengths found i ys → s ≡ get_or ys i s →
    IfSome bytes (λ images. new ≡ sized asked lengths images s) → SizedTo bytes asked lengths found (i + 1) (slice_set ys i new)
unfolding SizedTo sized_to
sized_more None asked lengths found ys i s new below so is adds = tt
sized_more (Some images) asked lengths found ys i s new below so is adds = ap (slice_set ys i) adds ∙ map_over_more (sized asked lengths images) found ys i s below so is

pub sized_all : (bytes : Option (List (List ℕ))) (asked : Bool) (lengths : List ℕ) (found new : List Sighting) (n : ℕ) → length found ≤ n → SizedTo bytes asked lengths found n new → IfSome bytes (λ images. new ≡ all_sized asked lengths images found)
unfolding SizedTo sized_to
sized_all None asked lengths found new n all so = tt
sized_all (Some images) asked lengths found new n all so =
    so ∙ ap₂ (λ (a b : List Sighting). map (sized asked lengths images) a ++ b) (take_all n found all) (drop_all n found all) ∙ append-nil (map (sized asked lengths images) found)

-- ---- sightings stay what they are but for that

landmark_keeps : (run : List ℕ) (landmark : Landmark) → bare_landmark (landmark_by_run run landmark) ≡ bare_landmark landmark
landmark_keeps run (Inode i) = refl
landmark_keeps run landmark = refl

pub run_alike : (run : List ℕ) (s : Sighting) (landmark : Landmark) → landmark ≡ landmark_by_run run s.landmark → ◌≡◌ {A = Sighting} (bare (record { image = s.image; sector = s.sector; landmark = landmark })) (bare s)
run_alike run s landmark is = ap (λ (l : Landmark). record { image = s.image; sector = s.sector; landmark = l }) (ap bare_landmark is ∙ landmark_keeps run s.landmark)

pub alike_more : (found ys : List Sighting) (i : ℕ) (s new : Sighting) → map bare ys ≡ map bare found → s ≡ get_or ys i s → bare new ≡ bare s → map bare (slice_set ys i new) ≡ map bare found
alike_more found ys i s new alike is same = map-set_same bare ys i new s (same ∙ ap bare is) ∙ alike

-- those that were not looked at are as they were
pub later_more : (found ys : List Sighting) (i : ℕ) (new : Sighting) → drop i ys ≡ drop i found → drop (i + 1) (slice_set ys i new) ≡ drop (i + 1) found
later_more found ys i new later =
    drop-set-lt (i + 1) ys i new (omega arith) ∙ sym (drop-drop 1 i ys) ∙ ap (drop 1) later ∙ drop-drop 1 i found

pub later_at : (found ys : List Sighting) (i : ℕ) (s : Sighting) → drop i ys ≡ drop i found → s ≡ get_or ys i s → s ≡ get_or found i s
later_at found ys i s later is =
    let zero : i + 0 ≡ i = omega arith in
    is ∙ sym (get_or-drop i ys 0 s ∙ ap (λ (n : ℕ). get_or ys n s) zero) ∙ ap (λ (l : List Sighting). get_or l 0 s) later ∙ get_or-drop i found 0 s ∙ ap (λ (n : ℕ). get_or found n s) zero

-- ---- what is read for it

weight : (b : Bool) → ◌≡◌ {A = ℕ} (cond b 4 0) (4 * cond b 1 0)
weight true = refl
weight false = refl

pub one_sized : (a b c : Seen) (asked : Bool) (lengths : List ℕ) (found : List Sighting) (i : ℕ) (s : Sighting) → i < length found → s ≡ get_or found i s → OnlyReads a b (4 * count_by (has_run asked lengths) (take i found)) → OnlyReads b c (cond (has_run asked lengths s) 4 0) →
    OnlyReads a c (4 * count_by (has_run asked lengths) (take (i + 1) found))
one_sized a b c asked lengths found i s below is ab bc =
    let run : ◌≡◌ {A = ℕ} (cond (has_run asked lengths s) 4 0) (4 * cond (has_run asked lengths (get_or found i s)) 1 0) = ap (λ (t : Sighting). cond (has_run asked lengths t) 4 0) is ∙ weight (has_run asked lengths (get_or found i s)) in
    reads_up a c (reads_join a b c ab bc) (omega (arith, sum_by_more (λ (t : Sighting). cond (has_run asked lengths t) 1 0) found i s below, run))

pub none_sized : (a : Seen) (asked : Bool) (lengths : List ℕ) (found : List Sighting) → OnlyReads a a (4 * count_by (has_run asked lengths) (take 0 found))
none_sized a asked lengths found = reads_up a a (reads_none a) (omega arith)

pub some_sized : (a b : Seen) (asked : Bool) (lengths : List ℕ) (found : List Sighting) (n : ℕ) → OnlyReads a b (4 * count_by (has_run asked lengths) (take n found)) → OnlyReads a b (4 * count_by (has_run asked lengths) found)
some_sized a b asked lengths found n ab = reads_up a b ab (omega (arith, sum_by-take-le (λ (t : Sighting). cond (has_run asked lengths t) 1 0) found n))

-- ---- of one of them

-- the image has it
fits : (asked : Bool) (lengths : List ℕ) (s : Sighting) → has_run asked lengths s ≡ true → s.sector + 4 ≤ slice_index lengths s.image
unfolding has_run
fits asked lengths s is = grind (arith, nat_tests)

pub run_within : (attached : List Image) (asked : Bool) (lengths : List ℕ) (s : Sighting) → lengths ≡ lengths_of attached → IsInImages lengths s → has_run asked lengths s ≡ true → AreWithin attached s.image s.sector 2048
run_within attached asked lengths s are in_it is = record {
  whole = refl;
  some = omega arith;
  inside = reaches attached s.image (s.sector + 4) (image_there attached lengths s.image s.sector are in_it.sector) (subst (λ (l : List ℕ). s.sector + 4 ≤ get_or l s.image 0) are (fits asked lengths s is));
}

run_read : (attached : List Image) (bytes : Option (List (List ℕ))) (s : Sighting) (run : List ℕ) → told_all attached ≡ bytes → s.image < length attached → AreTold attached s.image s.sector run → length run ≡ 2048 → IfSome bytes (λ images. run ≡ run_of images s)
run_read attached None s run e below are long = tt
run_read attached (Some images) s run e below are long = told_bytes attached images s.image s.sector run e below are ∙ ap (λ (n : ℕ). slice_range (get_or images s.image []) (512 * s.sector) (512 * s.sector + n)) long

pub run_told : (attached : List Image) (lengths : List ℕ) (s : Sighting) (run : List ℕ) → lengths ≡ lengths_of attached → IsInImages lengths s → AreTold attached s.image s.sector run → length run ≡ 2048 → IfSome (told_all attached) (λ images. run ≡ run_of images s)
run_told attached lengths s run lengths_are in_it are long = run_read attached (told_all attached) s run refl (image_there attached lengths s.image s.sector lengths_are in_it.sector) are long

-- where nothing is read it stays
pub no_run : (bytes : Option (List (List ℕ))) (asked : Bool) (lengths : List ℕ) (s : Sighting) → has_run asked lengths s ≡ false → IfSome bytes (λ images. s ≡ sized asked lengths images s)
unfolding sized
no_run None asked lengths s fails = tt
no_run (Some images) asked lengths s fails = rw fails refl

pub by_run : (bytes : Option (List (List ℕ))) (asked : Bool) (lengths : List ℕ) (s : Sighting) (run : List ℕ) (landmark : Landmark) → has_run asked lengths s ≡ true → IfSome bytes (λ images. run ≡ run_of images s) → landmark ≡ landmark_by_run run s.landmark →
    IfSome bytes (λ images. ◌≡◌ {A = Sighting} (record { image = s.image; sector = s.sector; landmark = landmark }) (sized asked lengths images s))
unfolding sized
by_run None asked lengths s run landmark is read so = tt
by_run (Some images) asked lengths s run landmark is read so =
    ap (λ (l : Landmark). record { image = s.image; sector = s.sector; landmark = l }) (so ∙ ap (λ (l : List ℕ). landmark_by_run l s.landmark) read) ∙ rw is refl
