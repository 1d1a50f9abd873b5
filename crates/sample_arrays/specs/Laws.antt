-- Laws of generated arrays.
use Rattle.std.specs.Prelude.{ℕ, ◌≡◌, ◌≤◌, ◌<◌, ◌*◌, ◌/◌, ◌%◌, Bool, true, List, map, IsTrue}
use Rattle.std.specs.declared.option.Option.TheVariants.{None}
use Rattle.member_regions.specs.Members.{held}
use Rattle.raid_params.specs.Size.{data_blocks}
use Rattle.raid_params.specs.Validity.{first_fault, is_valid_head}
use Rattle.raid_params.specs.declared.types.Geometry.{Geometry}
use Rattle.raid_params.specs.declared.types.Head.{Head}
use Rattle.raid_terms.specs.Address.{LiesAt}
use Rattle.raid_terms.specs.Parity.{is_sound_row, unsound_rows}
use Rattle.raid_terms.specs.Role.{item_of}
use Rattle.sample_arrays.specs.Arrays.{end_of, row_sector, sampled}
use Rattle.sample_arrays.specs.Marks.{group_blocks}

-- an item at a member sector has the volume sector that lies there by the address map
abbrev pub DataLieWhereTheMapSays : Type 0
DataLieWhereTheMapSays = (head : Head) (t item : ℕ) → IsTrue (is_valid_head head) → item < data_blocks head →
    LiesAt head (item_of head (t / head.chunk) item) t (row_sector head t item)

-- the blocks of a group are the greatest number of its kind, and 64 groups stand in the volume
pub record IsGroupSize (sectors items : ℕ) : Type 0 where
  pub few : 64 * (8 * group_blocks sectors items) ≤ sectors
  pub leaves : group_blocks sectors items % items ≡ 1
  pub greatest : (other : ℕ) → other ≤ sectors / 512 → other % items ≡ 1 → other ≤ group_blocks sectors items

abbrev pub GroupsAreAsLargeAsMayBe : Type 0
GroupsAreAsLargeAsMayBe = (sectors items : ℕ) → 512 ≤ sectors → 2 ≤ items → IsGroupSize sectors items

-- the bytes of the generated images, by their numbers
abbrev pub sampled_bytes : ℕ → Geometry → ℕ → Bool → List (List ℕ)
sampled_bytes number geo rows xfs = map (λ file. file.1) (sampled number geo rows xfs)

-- what is generated is an array: where the set breaks no rule, every sector row of the images is sound
abbrev pub RowsOfGeneratedArraysAreSound : Type 0
RowsOfGeneratedArraysAreSound = (number : ℕ) (geo : Geometry) (rows : ℕ) (xfs : Bool) (t : ℕ) →
    first_fault geo (held geo.slots.items) (end_of geo.head rows) ≡ None → t < rows * geo.head.chunk →
    is_sound_row (sampled_bytes number geo rows xfs) geo t ≡ true

-- so none of the rows counts as unsound
abbrev pub NoGeneratedRowIsUnsound : Type 0
NoGeneratedRowIsUnsound = (number : ℕ) (geo : Geometry) (rows : ℕ) (xfs : Bool) →
    first_fault geo (held geo.slots.items) (end_of geo.head rows) ≡ None →
    unsound_rows (sampled_bytes number geo rows xfs) geo (rows * geo.head.chunk) ≡ 0
