-- What a copy of a superblock of ext tells.
use Rattle.std.proofs.Common.{◌≡◌, ℕ, ◌+◌, ◌*◌, ◌<◌, ◌≤◌, List, [], ◌∷◌, ◌++◌, Bool, true, false, cond, length, map, take, drop, get_or, slice_set, slice_index, slice_range, refl, sym, ap, ap₂, subst, ◌∙◌, arith, IfSome, Option, Some, None}
use Rattle.std.specs.Prelude.{nat_le, ◌&&◌}
use Rattle.std.specs.Option.{option_map_or}
use Rattle.std.proofs.lemmas.Bool.Decides.{nat_tests}
use Rattle.std.proofs.lemmas.List.{append-nil, drop_all, take_all}
use Rattle.std.proofs.lemmas.List.Edits.{map_over_more}
use Rattle.inode_marks.specs.Tables.{copied_tables}
use Rattle.inode_marks.specs.declared.inode.InodePair.{InodePair}
use Rattle.inode_marks.specs.declared.tables.InodeTables.{InodeTables}
use Rattle.outside.specs.Attached.{told_all}
use Rattle.outside.specs.Seen.{AreTold, AreWithin, Image, lengths_of}
use Rattle.survey_engine.proofs.Firsts.{image_there}
use Rattle.survey_engine.proofs.Leaves.{reaches}
use Rattle.survey_engine.proofs.Reading.{told_bytes}
use Rattle.survey_engine.specs.Sightings.{IsInImages}
use Rattle.survey_engine.specs.Telling.{bare, bare_landmark, begins_copy, copy_of, has_copy, landmark_by_copy, place_by, placed, sighting_by_copy, told_by_copy}
use Rattle.survey_engine.specs.declared.landmark.InodePlace.{InodePlace}
use Rattle.survey_engine.specs.declared.landmark.Landmark.{Landmark}
use Rattle.survey_engine.specs.declared.landmark.Landmark.TheVariants.{Inodes, Placed, Tree}
use Rattle.survey_engine.specs.declared.sighting.Sighting.{Sighting}

-- once it told of the first sightings
pub placed_to : List ℕ → InodeTables → List Sighting → ℕ → List Sighting
placed_to copy tables found n = map (sighting_by_copy copy tables) (take n found) ++ drop n found

pub placed_none : (copy : List ℕ) (tables : InodeTables) (found : List Sighting) → placed_to copy tables found 0 ≡ found
unfolding placed_to
placed_none copy tables found = refl

pub placed_more : (copy : List ℕ) (tables : InodeTables) (found ys : List Sighting) (i : ℕ) (s : Sighting) → i < length found → ys ≡ placed_to copy tables found i → s ≡ get_or ys i s → slice_set ys i (sighting_by_copy copy tables s) ≡ placed_to copy tables found (i + 1)
unfolding placed_to
placed_more copy tables found ys i s below so is = map_over_more (sighting_by_copy copy tables) found ys i s below so is

pub placed_all : (copy : List ℕ) (tables : InodeTables) (found : List Sighting) (n : ℕ) → length found ≤ n → placed_to copy tables found n ≡ map (sighting_by_copy copy tables) found
unfolding placed_to
placed_all copy tables found n all = ap₂ (λ (a b : List Sighting). map (sighting_by_copy copy tables) a ++ b) (take_all n found all) (drop_all n found all) ∙ append-nil (map (sighting_by_copy copy tables) found)

-- ---- sightings stay what they are but for what is told of them

either_keeps : (pair : InodePair) (place : Option InodePlace) → bare_landmark (placed pair place) ≡ Inodes pair
either_keeps pair None = refl
either_keeps pair (Some place) = refl

landmark_keeps : (copy : List ℕ) (tables : InodeTables) (landmark : Landmark) → bare_landmark (landmark_by_copy copy tables landmark) ≡ bare_landmark landmark
landmark_keeps copy tables (Inodes pair) = either_keeps pair (place_by copy tables pair)
landmark_keeps copy tables landmark = refl

sighting_keeps : (copy : List ℕ) (tables : InodeTables) (s : Sighting) → bare (sighting_by_copy copy tables s) ≡ bare s
sighting_keeps copy tables s = ap (λ (l : Landmark). record { image = s.image; sector = s.sector; landmark = l }) (landmark_keeps copy tables s.landmark)

pub placed_alike : (copy : List ℕ) (tables : InodeTables) (found : List Sighting) → map bare (map (sighting_by_copy copy tables) found) ≡ map bare found
placed_alike copy tables [] = refl
placed_alike copy tables (s ∷ found) = ap₂ (λ (t : Sighting) (l : List Sighting). t ∷ l) (sighting_keeps copy tables s) (placed_alike copy tables found)

-- what a copy tells is that of what it is
bare_begins : (landmark : Landmark) → begins_copy (bare_landmark landmark) ≡ begins_copy landmark
bare_begins (Tree tree) = refl
bare_begins (Placed pair place) = refl
bare_begins landmark = refl

pub bare_copy : (asked : Bool) (lengths : List ℕ) (s : Sighting) → has_copy asked lengths (bare s) ≡ has_copy asked lengths s
unfolding has_copy
bare_copy asked lengths s = ap (λ (b : Bool). asked && b && nat_le (s.sector + 256) (slice_index lengths s.image)) (bare_begins s.landmark)

pub same_copy : (asked : Bool) (lengths : List ℕ) (a b : Sighting) → bare a ≡ bare b → has_copy asked lengths a ≡ has_copy asked lengths b
same_copy asked lengths a b same = sym (bare_copy asked lengths a) ∙ ap (has_copy asked lengths) same ∙ bare_copy asked lengths b

bare_by : (asked : Bool) (lengths : List ℕ) (images : List (List ℕ)) (s by : Sighting) → told_by_copy asked lengths images s (bare by) ≡ told_by_copy asked lengths images s by
unfolding told_by_copy
bare_by asked lengths images s by =
    ap (λ (b : Bool). cond b (option_map_or (λ tables. sighting_by_copy (copy_of images by) tables s) (copied_tables (copy_of images by)) s) s) (bare_copy asked lengths by)

pub same_by_copy : (asked : Bool) (lengths : List ℕ) (images : List (List ℕ)) (s a b : Sighting) → bare a ≡ bare b → told_by_copy asked lengths images s a ≡ told_by_copy asked lengths images s b
same_by_copy asked lengths images s a b same = sym (bare_by asked lengths images s a) ∙ ap (told_by_copy asked lengths images s) same ∙ bare_by asked lengths images s b

-- ---- the image has it

fits : (asked : Bool) (lengths : List ℕ) (s : Sighting) → has_copy asked lengths s ≡ true → s.sector + 256 ≤ slice_index lengths s.image
unfolding has_copy
fits asked lengths s is = grind (arith, nat_tests)

pub copy_within : (asked : Bool) (attached : List Image) (lengths : List ℕ) (s : Sighting) → lengths ≡ lengths_of attached → IsInImages lengths s → has_copy asked lengths s ≡ true → AreWithin attached s.image s.sector 131072
copy_within asked attached lengths s are in_it is = record {
  whole = refl;
  some = omega arith;
  inside = reaches attached s.image (s.sector + 256) (image_there attached lengths s.image s.sector are in_it.sector) (subst (λ (l : List ℕ). s.sector + 256 ≤ get_or l s.image 0) are (fits asked lengths s is));
}

copy_read : (attached : List Image) (bytes : Option (List (List ℕ))) (s : Sighting) (copy : List ℕ) → told_all attached ≡ bytes → s.image < length attached → AreTold attached s.image s.sector copy → length copy ≡ 131072 → IfSome bytes (λ images. copy ≡ copy_of images s)
copy_read attached None s copy e below are long = tt
copy_read attached (Some images) s copy e below are long = told_bytes attached images s.image s.sector copy e below are ∙ ap (λ (n : ℕ). slice_range (get_or images s.image []) (512 * s.sector) (512 * s.sector + n)) long

pub copy_told : (attached : List Image) (lengths : List ℕ) (s : Sighting) (copy : List ℕ) → lengths ≡ lengths_of attached → IsInImages lengths s → AreTold attached s.image s.sector copy → length copy ≡ 131072 → IfSome (told_all attached) (λ images. copy ≡ copy_of images s)
copy_told attached lengths s copy lengths_are in_it are long = copy_read attached (told_all attached) s copy refl (image_there attached lengths s.image s.sector lengths_are in_it.sector) are long

-- where it tells nothing
silent : (asked : Bool) (lengths : List ℕ) (images : List (List ℕ)) (by : Sighting) (found : List Sighting) → has_copy asked lengths by ≡ false → found ≡ map (λ s. told_by_copy asked lengths images s by) found
unfolding told_by_copy
silent asked lengths images by [] fails = refl
silent asked lengths images by (s ∷ found) fails = ap₂ (λ (t : Sighting) (l : List Sighting). t ∷ l) (rw fails refl) (silent asked lengths images by found fails)

pub no_copy : (bytes : Option (List (List ℕ))) (asked : Bool) (lengths : List ℕ) (by : Sighting) (found : List Sighting) → has_copy asked lengths by ≡ false → IfSome bytes (λ images. found ≡ map (λ s. told_by_copy asked lengths images s by) found)
no_copy None asked lengths by found fails = tt
no_copy (Some images) asked lengths by found fails = silent asked lengths images by found fails

unsaid : (asked : Bool) (lengths : List ℕ) (images : List (List ℕ)) (by : Sighting) (found : List Sighting) → has_copy asked lengths by ≡ true → copied_tables (copy_of images by) ≡ None → found ≡ map (λ s. told_by_copy asked lengths images s by) found
unfolding told_by_copy
unsaid asked lengths images by [] is none = refl
unsaid asked lengths images by (s ∷ found) is none = ap₂ (λ (t : Sighting) (l : List Sighting). t ∷ l) (rw (is, none) refl) (unsaid asked lengths images by found is none)

pub no_tables : (bytes : Option (List (List ℕ))) (asked : Bool) (lengths copy : List ℕ) (by : Sighting) (found : List Sighting) → has_copy asked lengths by ≡ true → IfSome bytes (λ images. copy ≡ copy_of images by) → copied_tables copy ≡ None → IfSome bytes (λ images. found ≡ map (λ s. told_by_copy asked lengths images s by) found)
no_tables None asked lengths copy by found is read none = tt
no_tables (Some images) asked lengths copy by found is read none = unsaid asked lengths images by found is (ap copied_tables (sym read) ∙ none)

-- and where it tells
speaks : (asked : Bool) (lengths : List ℕ) (images : List (List ℕ)) (by : Sighting) (tables : InodeTables) (found : List Sighting) → has_copy asked lengths by ≡ true → copied_tables (copy_of images by) ≡ Some tables → map (sighting_by_copy (copy_of images by) tables) found ≡ map (λ s. told_by_copy asked lengths images s by) found
unfolding told_by_copy
speaks asked lengths images by tables [] is some = refl
speaks asked lengths images by tables (s ∷ found) is some = ap₂ (λ (t : Sighting) (l : List Sighting). t ∷ l) (rw (is, some) refl) (speaks asked lengths images by tables found is some)

pub some_tables : (bytes : Option (List (List ℕ))) (asked : Bool) (lengths copy : List ℕ) (by : Sighting) (tables : InodeTables) (found new : List Sighting) → new ≡ map (sighting_by_copy copy tables) found → has_copy asked lengths by ≡ true → IfSome bytes (λ images. copy ≡ copy_of images by) → copied_tables copy ≡ Some tables →
    IfSome bytes (λ images. new ≡ map (λ s. told_by_copy asked lengths images s by) found)
some_tables None asked lengths copy by tables found new placed is read some = tt
some_tables (Some images) asked lengths copy by tables found new placed is read some =
    placed ∙ ap (λ (l : List ℕ). map (sighting_by_copy l tables) found) read ∙ speaks asked lengths images by tables found is (ap copied_tables (sym read) ∙ some)
