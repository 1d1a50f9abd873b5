-- Laws of what is torn.
use Rattle.std.specs.Prelude.{ℕ, ◌≡◌, ◌≤◌, IsTrue, List, take}
use Rattle.std.specs.declared.option.Option.{Option}
use Rattle.slot_math.specs.Ways.{AllImages}
use Rattle.near_mirror.specs.Heads.{is_valid_near}
use Rattle.near_mirror.specs.declared.types.NearHead.{NearHead}
use Rattle.near_tables.specs.Tables.{IsTornTable, TornCounts, table_torn}
use Rattle.near_tables.specs.Torn.{tested_below, torn, with_slots}

-- the whole table of a head over the bytes of the images tells how many sectors are torn where slots begin so
abbrev pub TablesTellWhatIsTorn : Type 0
TablesTellWhatIsTorn = (bytes : List (List ℕ)) (images end window : ℕ) (head : NearHead) (table : TornCounts) (slots : List (Option ℕ)) →
    IsTrue (is_valid_near head) → AllImages images slots → IsTornTable bytes images head end (tested_below head end window) table →
    table_torn table head slots ≡ torn bytes end window (with_slots head slots)

-- no more sectors are torn in the beginning of a slot list than in the list
abbrev pub PrefixesAreTornLess : Type 0
PrefixesAreTornLess = (bytes : List (List ℕ)) (end window k : ℕ) (head : NearHead) (slots : List (Option ℕ)) →
    torn bytes end window (with_slots head (take k slots)) ≤ torn bytes end window (with_slots head slots)
