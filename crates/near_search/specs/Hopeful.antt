-- Which beginnings of slot lists are hopeful, and what a family of slot lists admits.
use Rattle.std.specs.Prelude.{ℕ, ◌≡◌, ◌≤◌, Bool, false, not, ◌&&◌, nat_le, List}
use Rattle.std.specs.declared.option.Option.{Option}
use Rattle.std.specs.declared.option.Option.TheVariants.{None, Some}
use Rattle.slot_math.specs.Ways.{AllImages}
use Rattle.slot_math.specs.declared.space.Space.{Space}
use Rattle.near_mirror.specs.Copies.{near_chunks}
use Rattle.near_mirror.specs.declared.types.NearHead.{NearHead}
use Rattle.near_tables.specs.Tables.{IsTornTable, table_torn, TornCounts}
use Rattle.near_tables.specs.Torn.{has_lost, lost_among, tested_below, torn, with_slots}
use Rattle.near_search.specs.declared.ask.NearAsk.{NearAsk}

-- a prefix is hopeful for a head, over the bytes of the images: the head has a chunk, none is lost of which all slots are in the
-- prefix, and of the tested copies whose slots are in the prefix and hold images no more are torn than may be
abbrev pub is_near_hopeful : List (List ℕ) → NearAsk → NearHead → List (Option ℕ) → Bool
is_near_hopeful bytes ask head prefix =
    nat_le 1 (near_chunks head ask.end) && (not (has_lost ask.end (with_slots head prefix)) && nat_le (torn bytes ask.end ask.window (with_slots head prefix)) ask.badrows)

-- what is asked of a walk over the slot lists of a head: the lists, the head, how many of its first chunks are looked at (all others
-- stand on the slots of these), the table of torn sectors, which is there where the head has a chunk, and how many may be torn
pub record NearAsked : Type 0 where
  pub space : Space
  pub head : NearHead
  pub chunks : ℕ
  pub table : Option TornCounts
  pub most : ℕ

-- no more of the sectors of these slots are torn than may be, by the table; without one there is no chunk
abbrev pub is_little_torn : Option TornCounts → NearHead → ℕ → List (Option ℕ) → Bool
is_little_torn None head most prefix = false
is_little_torn (Some table) head most prefix = nat_le (table_torn table head prefix) most

-- a prefix is admitted
abbrev pub is_near_admitted : NearAsked → List (Option ℕ) → Bool
is_near_admitted asked prefix = not (lost_among asked.chunks (with_slots asked.head prefix)) && is_little_torn asked.table asked.head asked.most prefix

-- just the prefixes are admitted that are hopeful for a head, of lists over so many images
abbrev pub AdmitsHopeful : List (List ℕ) → ℕ → NearAsk → NearHead → NearAsked → Type 0
AdmitsHopeful bytes images ask head asked = (prefix : List (Option ℕ)) → AllImages images prefix → is_near_admitted asked prefix ≡ is_near_hopeful bytes ask head prefix

-- the whole table of a head that has a chunk, and none of one that has none
abbrev pub IsHeadTable : List (List ℕ) → ℕ → NearAsk → NearHead → Option TornCounts → Type 0
IsHeadTable bytes images ask head None = near_chunks head ask.end ≡ 0
IsHeadTable bytes images ask head (Some table) = (1 ≤ near_chunks head ask.end) × IsTornTable bytes images head ask.end (tested_below head ask.end ask.window) table
