-- The volume of damaged members, and what is read for it.
use Rattle.std.specs.Prelude.{ℕ, ◌≡◌, ◌+◌, ◌-◌, ◌*◌, ◌/◌, ◌<◌, ◌≤◌, ◌^◌, ◌%◌, Result, if◌then◌else◌, List, length, map, replicate, false, slice_index, slice_index_or, min, All, IfSome, IsSomeAnd}
use Rattle.std.specs.List.{flat_map, range_with_len, sum}
use Rattle.std.specs.declared.option.Option.{Option}
use Rattle.std.specs.declared.option.Option.TheVariants.{None}
use Rattle.std.specs.Result.{IsErrOf}
use Rattle.outside.specs.Causes.{HasCause}
use Rattle.outside.specs.Seen.{Image, OnlyReads, Seen}
use Rattle.outside.specs.Streams.{AppendsSectors, Puts}
use Rattle.member_regions.specs.Members.{held}
use Rattle.member_regions.specs.declared.regions.TheConstants.{BLOCK}
use Rattle.raid_params.specs.Size.{volume_sectors}
use Rattle.raid_params.specs.Wide.{wide_fault}
use Rattle.raid_params.specs.declared.wide.Wide.{Wide}
use Rattle.raid_terms.specs.Address.{home_row, home_slot}
use Rattle.raid_terms.specs.Cells.{row_cells}
use Rattle.raid_terms.specs.Parity.{member_byte}
use Rattle.raid_terms.specs.Solving.{lost_byte}
use Rattle.raid_terms.specs.Volume.{volume_sector}
use Rattle.virtual_volume.specs.Served.{Faults}
use Rattle.virtual_volume.specs.declared.volume.VolumeFault.{VolumeFault}
use Rattle.virtual_volume.specs.declared.volume.VolumeFault.TheVariants.{Memory, ReadFault}
use Rattle.rescue_map.specs.Damaged.{damaged_at, is_lost, is_unknown}
use Rattle.rescue_text.specs.declared.section.Section.{Section}

-- volume sector v: that of the set whose unknown slots are empty, or zeros where it is lost
unfoldable pub salvaged_sector : List (List ℕ) → List Section → Wide → ℕ → List ℕ
salvaged_sector images sections set v = if is_lost sections set v then replicate 512 0 else volume_sector images (damaged_at sections set v) v

-- n sectors of it from a sector on
unfoldable pub salvaged_sectors : List (List ℕ) → List Section → Wide → ℕ → ℕ → List ℕ
salvaged_sectors images sections set first n = flat_map (salvaged_sector images sections set) (range_with_len first n)

-- the volume, over the bytes of the images. Where they have bases of their own, these are the images once they are padded
abbrev pub salvaged : List (List ℕ) → List Section → Wide → ℕ → List ℕ
salvaged images sections set end = salvaged_sectors images sections set 0 (volume_sectors set.geo.head end)

-- what is read for a volume sector: itself where its home is known, the known cells of its row where it is found by these, and
-- nothing where it is lost
abbrev pub reads_for : List Section → Wide → ℕ → ℕ
reads_for sections set v =
    if is_lost sections set v then 0
    else if is_unknown sections set v then held (damaged_at sections set v).slots.items
    else 1

-- for n volume sectors from a sector on
unfoldable pub reads_for_all : List Section → Wide → ℕ → ℕ → ℕ
reads_for_all sections set first n = sum (map (reads_for sections set) (range_with_len first n))

-- no more sectors were read than those for what the sink is known to have gained, and for one block more: of a volume of so many
-- sectors, counted from `from` to `to`
abbrev pub IsReadAhead : List Section → Wide → ℕ → ℕ → ℕ → Option (List ℕ) → Option (List ℕ) → Type 0
IsReadAhead sections set sectors from to old new =
    IfSome old (λ before. IsSomeAnd new (λ after. to ≤ from + reads_for_all sections set 0 (min sectors ((length after - length before) / 512 + BLOCK))))

-- a byte of volume sector v, by what was read for it: the byte that it was itself, or the known bytes of its column
unfoldable pub filled_byte : List Section → Wide → ℕ → List ℕ → ℕ → ℕ
filled_byte sections set v column byte =
    if is_lost sections set v then 0
    else if is_unknown sections set v then lost_byte (row_cells (damaged_at sections set v) (home_row set.geo.head v)) column (home_slot set.geo.head v)
    else byte

-- column x of the row of sectors, one a member, that begins at a byte
abbrev pub column_at : ℕ → List ℕ → ℕ → ℕ → List ℕ
column_at members rows at x = map (λ i. slice_index rows (at + (512 * i + x))) (range_with_len 0 members)

-- what was read for sector number j of those from `first` on gives the sector: rows of sectors stand in one list, sectors in another
abbrev pub IsRead : List (List ℕ) → List Section → Wide → ℕ → List ℕ → List ℕ → ℕ → Type 0
IsRead images sections set first rows block j =
    (x : ℕ) → x < 512 → filled_byte sections set (first + j) (column_at (length set.geo.slots.items) rows (512 * length set.geo.slots.items * j) x) (slice_index block (512 * j + x))
    ≡ slice_index (salvaged_sector images sections set (first + j)) x

-- sector number j of a piece was filled by what was read for it: the piece begins with number `start` of the sectors from `first` on, and
-- the rows with that of `first`
abbrev pub IsFilled : List Section → Wide → ℕ → ℕ → List ℕ → List ℕ → List ℕ → ℕ → Type 0
IsFilled sections set first start rows old new j =
    (x : ℕ) → x < 512 → slice_index new (512 * j + x)
    ≡ filled_byte sections set (first + (start + j)) (column_at (length set.geo.slots.items) rows (512 * length set.geo.slots.items * (start + j)) x) (slice_index old (512 * j + x))

-- the first n sectors of a list of bytes are those of it from a sector on
abbrev pub AreSalvaged : List (List ℕ) → List Section → Wide → ℕ → ℕ → List ℕ → Type 0
AreSalvaged images sections set first n bytes =
    (i x : ℕ) → i < n → x < 512 → slice_index bytes (512 * i + x) ≡ slice_index (salvaged_sector images sections set (first + i)) x

-- a piece of a block was filled: each of its sectors by what was read for it, and it is as long as before
pub record FillsPiece (sections : List Section) (set : Wide) (first start : ℕ) (rows old new : List ℕ) : Type 0 where
  pub long : length new ≡ length old
  pub filled : (j : ℕ) → j < length old / 512 → IsFilled sections set first start rows old new j

-- a piece of a block and rows for it: whole sectors of the volume, from number `start` on of those from `first` on, and a sector of each
-- member for all of these up to the last of the piece. The whole block is the piece that begins with number 0
pub record IsPiece (set : Wide) (end first start : ℕ) (piece rows : List ℕ) : Type 0 where
  pub whole : length piece % 512 ≡ 0
  pub within : first + (start + length piece / 512) ≤ volume_sectors set.geo.head end
  pub room : 512 * length set.geo.slots.items * (start + length piece / 512) ≤ length rows

-- n sectors of the volume from number `first` on, with room for them in a block and for the row of each, a sector a member
pub record HasRoom (set : Wide) (end first n : ℕ) (block rows : List ℕ) : Type 0 where
  pub within : first + n ≤ volume_sectors set.geo.head end
  pub sectors : 512 * n ≤ length block
  pub room : 512 * length set.geo.slots.items * n ≤ length rows

-- a row of sectors holds member sector t of the first n slots, and zeros where a slot is empty
abbrev pub HoldCells : List (List ℕ) → List (Option ℕ) → ℕ → ℕ → ℕ → List ℕ → Type 0
HoldCells images slots offset t n row =
    (i x : ℕ) → i < n → x < 512 → slice_index row (512 * i + x) ≡ member_byte images offset t x (slice_index_or slots i None)

-- a set that breaks no rule over the attached images, which all reach to the end. Where it has bases, they are short enough to be padded
pub record IsSalvaged (set : Wide) (end : ℕ) (attached : List Image) : Type 0 where
  pub ruled : wide_fault set (length attached) end ≡ None
  pub near : end < 2 ^ 55
  pub long : All (λ image. end ≤ image.sectors) attached
  pub short : 0 < length set.bases.items → All (λ image. image.sectors < 2 ^ 54) attached

-- the homes of n volume sectors from a sector on are known
abbrev pub AreKnown : List Section → Wide → ℕ → ℕ → Type 0
AreKnown sections set first n = (i : ℕ) → i < n → is_unknown sections set (first + i) ≡ false

-- a call read so many sectors at the most and changed nothing else of the images but their count of faults: it rose where the call failed,
-- and else stayed
pub record ReadsUpTo {T E : Type 0} (old new : Seen) (sectors : ℕ) (result : Result T E) : Type 0 where
  pub only : OnlyReads old new sectors
  pub cause : HasCause old.faults new.faults result

-- a block and its rows are as long as before
pub record KeepLengths (block_old block_new rows_old rows_new : List ℕ) : Type 0 where
  pub block : length block_new ≡ length block_old
  pub rows : length rows_new ≡ length rows_old

-- the writing of the first `sectors` sectors of the salvaged volume, each of them as it was read, found by the known cells of its row, or
-- zeros where it is lost: what became of the images, whose bytes are `told` where they are known, of what the sink is known to hold, and
-- of its count of faults
pub record Salvages {T : Type 0} (told : Option (List (List ℕ))) (sections : List Section) (set : Wide) (sectors : ℕ) (old new : Seen) (sink_old sink_new : Option (List ℕ)) (faults_old faults_new : ℕ) (result : Result T VolumeFault) : Type 0 where
  -- the sink gained them all, and a prefix of them where the work failed
  pub put : IfSome told (λ bytes. Puts sink_old sink_new result (salvaged_sectors bytes sections set 0 sectors))
  -- the prefix is of whole sectors where the images failed
  pub whole : IsErrOf result ReadFault → IfSome told (λ bytes. AppendsSectors sink_old sink_new (salvaged_sectors bytes sections set 0 sectors))
  -- where memory ran out, nothing was read or put
  pub memory : IsErrOf result Memory → (sink_new ≡ sink_old) × (new ≡ old)
  -- no more was read than is needed for them all
  pub reads : OnlyReads old new (reads_for_all sections set 0 sectors)
  -- nor than for what the sink gained, and for one block more, also where the work failed
  pub ahead : IfSome told (λ bytes. IsReadAhead sections set sectors old.sectors_read new.sectors_read sink_old sink_new)
  -- the sink's count of faults did not fall, and of both counts the one rose whose object failed
  pub later : faults_old ≤ faults_new
  pub faults : Faults old.faults new.faults faults_old faults_new result
