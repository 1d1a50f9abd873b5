-- Where leaves of the tree of chunks tell that tree blocks of btrfs lie, and copies of superblocks of ext that inodes of ext4 do.
use Rattle.std.specs.Prelude.{ℕ, ◌+◌, ◌*◌, Bool, false, true, not, ◌&&◌, ◌==◌, nat_le, nat_lt, List, [], map, fold, Option, Some, None, option_and_then, if◌then◌else◌, slice_get, slice_index, slice_index_or, slice_range}
use Rattle.std.specs.List.{filter_map, range_with_len}
use Rattle.std.specs.Option.{option_map, option_map_or}
use Rattle.std.specs.Str.{bytes_eq}
use Rattle.inode_marks.specs.Inode.{pair_number}
use Rattle.inode_marks.specs.Tables.{copied_place, copied_tables}
use Rattle.inode_marks.specs.declared.inode.InodePair.{InodePair}
use Rattle.inode_marks.specs.declared.tables.InodeTables.{InodeTables}
use Rattle.btrfstree.specs.Chunks.{first_place, leaf_chunk, second_place}
use Rattle.btrfstree.specs.Whole.{is_whole}
use Rattle.btrfstree.specs.declared.header.TreeBlock.{TreeBlock}
use Rattle.btrfstree.specs.declared.chunks.Chunk.{Chunk}
use Rattle.mark_kinds.specs.declared.table.Kinds.{Kinds}
use Rattle.survey_engine.specs.declared.landmark.InodePlace.{InodePlace}
use Rattle.survey_engine.specs.declared.landmark.Landmark.{Landmark}
use Rattle.survey_engine.specs.declared.landmark.Landmark.TheVariants.{Ext, Inode, Inodes, Placed, Tree}
use Rattle.survey_engine.specs.declared.landmark.TreeSeen.{TreeSeen}
use Rattle.survey_engine.specs.declared.sighting.Sighting.{Sighting}
use Rattle.survey_engine.specs.declared.telling.Spot.{Spot}

-- where a chunk has an address, in bytes of its device: once, or twice
abbrev pub spot_in : ℕ → Chunk → Option Spot
spot_in address chunk = option_map (λ first. record { first = first; second = second_place chunk address }) (first_place chunk address)

-- where a leaf tells that an address of device 1 lies: of its chunk items the first that has it. A leaf of 16,384 bytes has at most 155
unfoldable pub spot_at : List ℕ → ℕ → ℕ → Option Spot
spot_at leaf address index = option_and_then (spot_in address) (leaf_chunk 1 leaf index)

unfoldable pub spot_of : List ℕ → ℕ → Option Spot
spot_of leaf address = slice_get (filter_map (spot_at leaf address) (range_with_len 0 155)) 0

-- a leaf of a generation is newer than what told before
abbrev pub is_newer : ℕ → Option ℕ → Bool
is_newer generation None = true
is_newer generation (Some before) = nat_lt before generation

abbrev pub is_same_number : Option ℕ → Option ℕ → Bool
is_same_number None None = true
is_same_number (Some a) (Some b) = a == b
is_same_number a b = false

-- a spot is another than what is known
abbrev pub is_other : TreeSeen → Spot → Bool
is_other tree spot = not (is_same_number tree.first (Some spot.first) && is_same_number tree.second spot.second)

-- what is known of a tree block once a leaf of a generation told where it lies: the newest leaf counts, and where two of that
-- generation tell of different places, nothing is known
unfoldable pub with_spot : ℕ → TreeSeen → Spot → TreeSeen
with_spot generation tree spot =
    if is_newer generation tree.told then record { block = tree.block; told = Some generation; first = Some spot.first; second = spot.second }
    else if is_same_number tree.told (Some generation) && is_other tree spot then record { block = tree.block; told = tree.told; first = None; second = None }
    else tree

-- what is known once a leaf, of its file system, was read
unfoldable pub with_leaf : List ℕ → TreeBlock → TreeSeen → TreeSeen
with_leaf leaf by tree =
    if bytes_eq by.identifier tree.block.identifier then option_map_or (with_spot by.generation tree) (spot_of leaf tree.block.address) tree else tree

-- the same of a landmark, of which another is the leaf
abbrev pub landmark_with : List ℕ → Landmark → Landmark → Landmark
landmark_with leaf (Tree by) (Tree tree) = Tree (with_leaf leaf by.block tree)
landmark_with leaf by landmark = landmark

abbrev pub sighting_with : List ℕ → Landmark → Sighting → Sighting
sighting_with leaf by s = record { image = s.image; sector = s.sector; landmark = landmark_with leaf by s.landmark }

-- a landmark is the first sector of a leaf of the tree of chunks
abbrev pub begins_leaf : Landmark → Bool
begins_leaf (Tree tree) = tree.block.is_chunk_leaf
begins_leaf landmark = false

-- tree blocks of btrfs are looked for, and a sighting is such a leaf of which the image has all 32 sectors, in images of these lengths
unfoldable pub is_leaf : Bool → List ℕ → Sighting → Bool
is_leaf asked lengths s = asked && begins_leaf s.landmark && nat_le (s.sector + 32) (slice_index lengths s.image)

-- a landmark without what was told of where it lies, or of how many bytes it has, and a sighting of it
abbrev pub bare_landmark : Landmark → Landmark
bare_landmark (Inode i) = Inode (record { inode = i.inode; bytes = None })
bare_landmark (Tree tree) = Tree (record { block = tree.block; told = None; first = None; second = None })
bare_landmark (Placed pair place) = Inodes pair
bare_landmark landmark = landmark

abbrev pub bare : Sighting → Sighting
bare s = record { image = s.image; sector = s.sector; landmark = bare_landmark s.landmark }

-- the bytes of that leaf
abbrev pub leaf_of : List (List ℕ) → Sighting → List ℕ
leaf_of images s = slice_range (slice_index_or images s.image []) (512 * s.sector) (512 * s.sector + 16384)

-- a sighting, once another that may be a leaf was read: one that is not whole tells nothing
unfoldable pub told_by_leaf : Bool → List ℕ → List (List ℕ) → Sighting → Sighting → Sighting
told_by_leaf asked lengths images s by = if is_leaf asked lengths by && is_whole (leaf_of images by) then sighting_with (leaf_of images by) by.landmark s else s

-- ---- copies of superblocks of ext

-- where two inodes lie by a copy and the descriptors behind it, if they are two of its file system
unfoldable pub place_by : List ℕ → InodeTables → InodePair → Option InodePlace
place_by copy tables pair =
    option_and_then (λ number. option_map (λ sector. record { identifier = tables.uuid; sector = sector }) (copied_place tables copy number))
    (pair_number tables.seed tables.inodes pair)

-- two inodes, with their place if that is told
abbrev pub placed : InodePair → Option InodePlace → Landmark
placed pair None = Inodes pair
placed pair (Some place) = Placed pair place

-- a landmark once a copy was read: the first that tells counts; and a sighting of it
abbrev pub landmark_by_copy : List ℕ → InodeTables → Landmark → Landmark
landmark_by_copy copy tables (Inodes pair) = placed pair (place_by copy tables pair)
landmark_by_copy copy tables landmark = landmark

abbrev pub sighting_by_copy : List ℕ → InodeTables → Sighting → Sighting
sighting_by_copy copy tables s = record { image = s.image; sector = s.sector; landmark = landmark_by_copy copy tables s.landmark }

abbrev pub begins_copy : Landmark → Bool
begins_copy (Ext x) = true
begins_copy landmark = false

-- inodes of ext4 are looked for, and a sighting is a copy of which the image has all 256 sectors from it on
unfoldable pub has_copy : Bool → List ℕ → Sighting → Bool
has_copy asked lengths s = asked && begins_copy s.landmark && nat_le (s.sector + 256) (slice_index lengths s.image)

-- the bytes of these
abbrev pub copy_of : List (List ℕ) → Sighting → List ℕ
copy_of images s = slice_range (slice_index_or images s.image []) (512 * s.sector) (512 * s.sector + 131072)

-- a sighting, once another that may be such a copy was read: one that is not whole, or whose file system has no such inodes, tells nothing
unfoldable pub told_by_copy : Bool → List ℕ → List (List ℕ) → Sighting → Sighting → Sighting
told_by_copy asked lengths images s by =
    if has_copy asked lengths by then option_map_or (λ tables. sighting_by_copy (copy_of images by) tables s) (copied_tables (copy_of images by)) s else s

-- ---- both

-- a sighting, with what another tells of it: a leaf where tree blocks of btrfs are looked for, a copy where inodes of ext4 are
unfoldable pub told_by : Kinds → List ℕ → List (List ℕ) → Sighting → Sighting → Sighting
told_by asked lengths images s by = told_by_copy asked.extinode lengths images (told_by_leaf asked.btrfstree lengths images s by) by

-- the sightings, each with what all of them tell of it
unfoldable pub told : Kinds → List ℕ → List (List ℕ) → List Sighting → List Sighting
told asked lengths images found = map (λ s. fold (told_by asked lengths images) s found) found

-- the most sectors that are read for what a sighting tells
unfoldable pub sectors_by : Kinds → List ℕ → Sighting → ℕ
sectors_by asked lengths s = (if is_leaf asked.btrfstree lengths s then 32 else 0) + (if has_copy asked.extinode lengths s then 256 else 0)
