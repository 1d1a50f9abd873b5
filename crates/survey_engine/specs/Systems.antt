-- The file systems of XFS of version 5, by what their superblocks state of where inodes lie. Superblocks of one file system may differ, as
-- where one is damaged or of an earlier one with the same identifier: what most of them state decides.
use Rattle.std.specs.Prelude.{ℕ, Bool, not, ◌&&◌, ◌==◌, nat_lt, List, map, fold, count_by, Option, Some, None, if◌then◌else◌}
use Rattle.std.specs.List.{filter_map, find, list_any}
use Rattle.std.specs.Str.{bytes_eq}
use Rattle.xfs5.specs.declared.places.XfsInodes.{XfsInodes}
use Rattle.survey_engine.specs.Kept.{kept}
use Rattle.survey_engine.specs.declared.landmark.Landmark.{Landmark}
use Rattle.survey_engine.specs.declared.landmark.Landmark.TheVariants.{Super5}
use Rattle.survey_engine.specs.declared.sighting.Sighting.{Sighting}

-- what a landmark states of where inodes lie, if it is such a superblock
abbrev pub places_in : Landmark → Option XfsInodes
places_in (Super5 x places) = Some places
places_in landmark = None

abbrev pub stated_by : Sighting → Option XfsInodes
stated_by s = places_in s.landmark

-- what the superblocks among sightings state, in their order
abbrev pub stated : List Sighting → List XfsInodes
stated found = filter_map stated_by found

-- two of them state the same, field by field
abbrev pub is_same_geometry : XfsInodes → XfsInodes → Bool
is_same_geometry a b =
    (a.block == b.block && a.ag_blocks == b.ag_blocks && a.ag_count == b.ag_count)
    && (a.inode == b.inode && a.inode_bits == b.inode_bits && a.block_bits == b.block_bits)
    && bytes_eq a.uuid b.uuid

-- how many of all state what one does
abbrev pub votes : List XfsInodes → XfsInodes → ℕ
votes all one = count_by (is_same_geometry one) all

-- what decides once one more was looked at: another of the same file system, if more superblocks state it than the one before
abbrev pub stronger : List XfsInodes → XfsInodes → XfsInodes → XfsInodes
stronger all best next = if bytes_eq best.uuid next.uuid && nat_lt (votes all best) (votes all next) then next else best

-- what decides of the file system of which this is the first that is stated: what most superblocks state, of equals the first
unfoldable pub deciding : List XfsInodes → XfsInodes → XfsInodes
deciding all first = fold (stronger all) first all

-- none before is of the same file system
abbrev pub is_new_system : List XfsInodes → XfsInodes → Bool
is_new_system before next = not (list_any (λ one. bytes_eq one.uuid next.uuid) before)

-- the file systems, in the order of their first superblocks, each with what decides
unfoldable pub systems_of : List Sighting → List XfsInodes
systems_of found = map (deciding (stated found)) (kept is_new_system (stated found))

-- the file system whose inodes have an identifier
abbrev pub system_with : List XfsInodes → List ℕ → Option XfsInodes
system_with systems uuid = find (λ one. bytes_eq one.uuid uuid) systems
