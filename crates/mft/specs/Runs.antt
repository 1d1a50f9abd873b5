-- The runs of clusters of $DATA of a file record (Linux-NTFS documentation, File Record, Data Runs). The fields of a header begin at a byte
-- of the record, and its bytes are those with the update sequence put back.
use Rattle.std.specs.Prelude.{ℕ, zero, suc, ◌+◌, ◌-◌, ◌*◌, ◌/◌, ◌%◌, ◌^◌, List, [], ◌∷◌, ◌++◌, Bool, not, ◌&&◌, ◌==◌, nat_le, nat_lt, length, Option, Some, None, option_and_then, if◌then◌else◌}
use Rattle.mft.specs.Fields.{byte_at, number_at}
use Rattle.mft.specs.declared.runs.Run.{Run}

-- the bytes of the attribute whose header begins at a byte
abbrev pub attribute_bytes : List ℕ → ℕ → ℕ
attribute_bytes file at = number_at file (at + 4) 4  -- length: u32 at 4

-- the attribute at a byte is $DATA without a name, outside the record, neither compressed nor sparse, from its first cluster on, and
-- ends within the record
unfoldable pub is_data : List ℕ → ℕ → Bool
is_data file at =
    (number_at file at 4 == 0x80)  -- type: u32 at 0
    && nat_le (at + attribute_bytes file at) (length file)
    && (byte_at file (at + 8) == 1) && (byte_at file (at + 9) == 0)  -- non-resident: u8 at 8; characters of its name: u8 at 9
    && (number_at file (at + 12) 2 == 0) && (number_at file (at + 16) 8 == 0)  -- flags: u16 at 12; lowest cluster: u64 at 16

-- an attribute may follow it: it is not the end of the list, and ends within the record
unfoldable pub has_next : List ℕ → ℕ → Bool
has_next file at =
    not (number_at file at 4 == 0xFFFFFFFF) && nat_le 24 (attribute_bytes file at) && nat_le (at + attribute_bytes file at) (length file)

-- where $DATA begins, among so many attributes from a byte on
unfoldable pub data_from : List ℕ → ℕ → ℕ → Option ℕ
data_from file zero at = None
data_from file (suc left) at =
    if is_data file at then Some at else if has_next file at then data_from file left (at + attribute_bytes file at) else None

-- a run: the lower half of its first byte says how many bytes the number of its clusters has, and the upper half how many the distance
-- from the run before has
abbrev pub count_bytes : List ℕ → ℕ → ℕ
count_bytes file at = byte_at file at % 16

abbrev pub distance_bytes : List ℕ → ℕ → ℕ
distance_bytes file at = byte_at file at / 16

abbrev pub next_run : List ℕ → ℕ → ℕ
next_run file at = at + 1 + count_bytes file at + distance_bytes file at

abbrev pub clusters_at : List ℕ → ℕ → ℕ
clusters_at file at = number_at file (at + 1) (count_bytes file at)

-- a cluster and a distance of so many bytes, which is negative where its highest bit is set
unfoldable pub moved : ℕ → ℕ → ℕ → Option ℕ
moved from distance bytes =
    if nat_lt (2 * distance) (256 ^ bytes) then Some (from + distance)
    else if nat_le (256 ^ bytes) (from + distance) then Some (from + distance - 256 ^ bytes)
    else None

-- there is a run within the attribute, which ends at byte `end`: both numbers have 1 to 8 bytes, so that it is not sparse, and it has
-- clusters
unfoldable pub has_run : List ℕ → ℕ → ℕ → Bool
has_run file end at =
    nat_le 1 (count_bytes file at) && nat_le (count_bytes file at) 8 && nat_le 1 (distance_bytes file at) && nat_le (distance_bytes file at) 8
    && nat_le (next_run file at) end && nat_lt 0 (clusters_at file at)

-- a run ends below sector 2^55, in clusters of so many sectors
unfoldable pub is_near_run : ℕ → Run → Bool
is_near_run cluster run = nat_lt ((run.first + run.count) * cluster) (2 ^ 55)

unfoldable pub near_run : ℕ → Run → Option Run
near_run cluster run = if is_near_run cluster run then Some run else None

-- the run at a byte, behind one that begins at a cluster
unfoldable pub run_at : ℕ → List ℕ → ℕ → ℕ → ℕ → Option Run
run_at cluster file end at from =
    if has_run file end at
    then option_and_then (λ first. near_run cluster (record { first = first; count = clusters_at file at }))
    (moved from (number_at file (at + 1 + count_bytes file at) (distance_bytes file at)) (distance_bytes file at))
    else None

-- the runs up to the byte 0 that ends them, behind those before: at most so many more. None where a run is none, or the attribute ends
-- before
unfoldable pub runs_from : ℕ → List ℕ → ℕ → ℕ → ℕ → ℕ → List Run → Option (List Run)
runs_from cluster file end zero at from runs = if nat_lt at end && (byte_at file at == 0) then Some runs else None
runs_from cluster file end (suc left) at from runs =
    if nat_lt at end && (byte_at file at == 0) then Some runs
    else option_and_then (λ run. runs_from cluster file end left (next_run file at) run.first (runs ++ run ∷ [])) (run_at cluster file end at from)

-- those of $DATA at a byte: at most 256
unfoldable pub runs_at : ℕ → List ℕ → ℕ → Option (List Run)
runs_at cluster file at =
    runs_from cluster file (at + attribute_bytes file at) 256 (at + number_at file (at + 32) 2) 0 []  -- offset of the runs: u16 at 32

-- those of $DATA of a file record, which is among its first 64 attributes
unfoldable pub runs_of : ℕ → List ℕ → Option (List Run)
runs_of cluster file = option_and_then (runs_at cluster file) (data_from file 64 (number_at file 20 2))  -- offset of the first attribute: u16 at 20
