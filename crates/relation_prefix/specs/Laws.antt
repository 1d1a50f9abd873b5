-- What the tests never refuse.
use Rattle.std.specs.Prelude.{ℕ, ◌≡◌, ◌+◌, ◌*◌, ◌/◌, ◌<◌, ◌≤◌, true, All, List, [], length, map, slice_index, slice_index_or, take}
use Rattle.std.specs.List.Sorted.{IsStrictlyIncreasing}
use Rattle.raid_params.specs.Slots.{empties}
use Rattle.raid_params.specs.Validity.{is_shaped}
use Rattle.raid_params.specs.declared.types.Geometry.{Geometry}
use Rattle.raid_params.specs.declared.types.Head.{Head}
use Rattle.raid_terms.specs.Parity.{is_sound_row, passes_parity, tested_rows}
use Rattle.row_relations.specs.declared.standing.TheConstants.{MOST_IMAGES}
use Rattle.row_relations.specs.Rows.{byte_of, AreBytes}
use Rattle.row_relations.specs.Tables.{Table, IsTable}
use Rattle.relation_prefix.specs.declared.sampled.PrefixTest.{PrefixTest}
use Rattle.relation_prefix.specs.declared.sampled.SampledRow.{SampledRow}
use Rattle.relation_prefix.specs.Prefixes.{IsAdmitted}
use Rattle.relation_prefix.specs.Sampled.{may_begin}
use Rattle.relation_prefix.specs.Ties.{AreTiesOf}

-- the sectors of a row are those of the images at one place
abbrev pub AreSectorsAt : List (List ℕ) → ℕ → List ℕ → Type 0
AreSectorsAt images sector sectors =
    (i c : ℕ) → i < length images → c < 512 → byte_of sectors i c ≡ slice_index (slice_index_or images i []) (512 * sector + c)

-- where a row is sound under a set of at most `missing` empty slots, no prefix of the set's slots is refused by the row's table
abbrev pub SoundRowsRefuseNoPrefix : Type 0
SoundRowsRefuseNoPrefix = (images : List (List ℕ)) (geo : Geometry) (t missing k : ℕ) (sectors : List ℕ) (table : Table) →
    length images ≤ MOST_IMAGES → is_shaped geo (length images) ≡ true → empties geo.slots.items ≤ missing →
    AreBytes sectors → AreSectorsAt images (geo.head.offset + t) sectors → IsTable (length images) sectors table → is_sound_row images geo t ≡ true →
    IsAdmitted (length images) table geo.head (t / geo.head.chunk) missing (take k geo.slots.items)

-- a row, counted from an offset on, is that of the images there, and its ties are those of its table
pub record IsRowOf (images : List (List ℕ)) (offset : ℕ) (sampled : SampledRow) : Type 0 where
  pub sectors : List ℕ
  pub table : Table
  pub bytes : AreBytes sectors
  pub at : AreSectorsAt images (offset + sampled.row) sectors
  pub is : IsTable (length images) sectors table
  pub of : AreTiesOf table sampled.ties

-- each is, and they rise: none comes twice
pub record AreRowsOf (images : List (List ℕ)) (offset : ℕ) (rows : List SampledRow) : Type 0 where
  pub each : All (IsRowOf images offset) rows
  pub rising : IsStrictlyIncreasing (map (λ sampled. sampled.row) rows)

-- the test of prefixes for a head
abbrev pub prefix_test : Head → ℕ → ℕ → ℕ → PrefixTest
prefix_test head tested badrows missing = record { head = head; tested = tested; badrows = badrows; missing = missing }

-- where a set of at most `missing` empty slots passes the parity test, by any rows of its images each prefix of its slots may begin
-- a set
abbrev pub PassingSetsMayBegin : Type 0
PassingSetsMayBegin = (images : List (List ℕ)) (geo : Geometry) (end window badrows missing k : ℕ) (rows : List SampledRow) →
    length images ≤ MOST_IMAGES → is_shaped geo (length images) ≡ true → empties geo.slots.items ≤ missing → AreRowsOf images geo.head.offset rows →
    passes_parity images geo end window badrows ≡ true →
    may_begin rows (prefix_test geo.head (tested_rows geo end window) badrows missing) (take k geo.slots.items) ≡ true
