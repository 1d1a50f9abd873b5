-- How many bytes an inode of XFS has of which there is more than its first sector: what lies past that tells.
use Rattle.std.specs.Prelude.{ℕ, ◌+◌, ◌*◌, Bool, false, not, ◌&&◌, nat_le, List, [], map, if◌then◌else◌, slice_index, slice_index_or, slice_range}
use Rattle.std.specs.Option.{is_some}
use Rattle.xfs5.specs.Inode.{larger_inode}
use Rattle.survey_engine.specs.declared.landmark.Landmark.{Landmark}
use Rattle.survey_engine.specs.declared.landmark.Landmark.TheVariants.{Inode}
use Rattle.survey_engine.specs.declared.sighting.Sighting.{Sighting}

-- a landmark is the first sector of an inode of which it is not known how many bytes it has
abbrev pub is_unsized : Landmark → Bool
is_unsized (Inode i) = not (is_some i.bytes)
is_unsized landmark = false

-- inodes of XFS are looked for, and a sighting is one of which the image has the four sectors of the largest inode, in images of these
-- lengths
unfoldable pub has_run : Bool → List ℕ → Sighting → Bool
has_run asked lengths s = asked && is_unsized s.landmark && nat_le (s.sector + 4) (slice_index lengths s.image)

-- the bytes of these
abbrev pub run_of : List (List ℕ) → Sighting → List ℕ
run_of images s = slice_range (slice_index_or images s.image []) (512 * s.sector) (512 * s.sector + 2048)

-- a landmark with how many bytes the inode has that these are the first of
abbrev pub landmark_by_run : List ℕ → Landmark → Landmark
landmark_by_run run (Inode i) = Inode (record { inode = i.inode; bytes = larger_inode run })
landmark_by_run run landmark = landmark

-- a sighting, once they were read
unfoldable pub sized : Bool → List ℕ → List (List ℕ) → Sighting → Sighting
sized asked lengths images s =
    if has_run asked lengths s then record { image = s.image; sector = s.sector; landmark = landmark_by_run (run_of images s) s.landmark } else s

-- all sightings, each of them
abbrev pub all_sized : Bool → List ℕ → List (List ℕ) → List Sighting → List Sighting
all_sized asked lengths images found = map (sized asked lengths images) found
