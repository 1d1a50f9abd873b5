-- A walk over the slot lists of a head that are admitted, and the page that it makes.
use Rattle.std.specs.Prelude.{ℕ, Result, Ok, Err, ◌≡◌, ◌+◌, ◌-◌, ◌*◌, ◌<◌, ◌≤◌, ◌^◌, ◌==◌, ◌⊎◌, Bool, true, false, ◌&&◌, ◌||◌, if◌then◌else◌, IfSome, MatchOption, List, [], ◌∷◌, ◌++◌, length, map, slice_get, sum_by, All, Contains}
use Rattle.std.specs.List.{list_any, slice_index, slice_index_or}
use Rattle.std.specs.Option.{is_some, option_map_or}
use Rattle.std.specs.declared.option.Option.{Option}
use Rattle.std.specs.declared.option.Option.TheVariants.{None, Some}
use Rattle.raid_params.specs.Size.{rows}
use Rattle.raid_params.specs.Validity.{is_valid_head}
use Rattle.raid_params.specs.declared.types.Bounds.{Bounds}
use Rattle.raid_params.specs.declared.types.Geometry.{Geometry}
use Rattle.raid_params.specs.declared.types.Head.{Head}
use Rattle.search_terms.specs.Page.{passing}
use Rattle.search_terms.specs.Product.{heads}
use Rattle.landmark_rules.specs.Groups.{groups_hold}
use Rattle.plan_sets.specs.Sets.{passes_at, sets_of, total_of}
use Rattle.search_plan.specs.declared.plan.Plan.{Plan}
use Rattle.set_product.specs.declared.heads.HeadSets.{HeadSets}
use Rattle.search_plan.specs.Plans.{AgreeWith, IsPlan, scope_of}
use Rattle.slot_math.specs.declared.space.Space.{Space}
use Rattle.slot_math.specs.Space.{lists_of}
use Rattle.candidate_enum.specs.Survivors.{all_admitted}
use Rattle.outside.specs.Seen.{Image, OnlyReads, Seen}
use Rattle.head_walk.specs.Counts.{asks_tables, hopeful_ranks, is_decided, is_hopeful_at, most_scanned, offset_reads, open_ranks}
use Rattle.prune_filters.specs.Early.{AreEarlyTables}
use Rattle.prune_filters.specs.Hopeful.{is_hopeful_by}
use Rattle.prune_filters.specs.Paces.{paces_of}
use Rattle.prune_filters.specs.Rows.{needs_samples, needs_table}
use Rattle.prune_filters.specs.Xors.{RowTable}
use Rattle.relation_prefix.specs.declared.sampled.SampledRow.{SampledRow}
use Rattle.row_samples.specs.Rows.{AreImageRows}
use Rattle.head_walk.specs.Relations.{lets_begin, test_of}
use Rattle.parity_scan.specs.Tallies.{has_passed}
use Rattle.parity_scan.specs.Verdicts.{verdicts_of}
use Rattle.parity_scan.specs.declared.tally.Tally.{Tally}
use Rattle.parity_scan.specs.declared.tally.Tally.TheVariants.{Left, Passes}
use Rattle.head_walk.specs.declared.gathering.Gathered.{Gathered}
use Rattle.head_walk.specs.declared.waiting.Waiting.{Waiting}
use Rattle.head_walk.specs.declared.parts.Line.{Line}
use Rattle.head_walk.specs.declared.row_tables.OffsetTables.{OffsetTables}
use Rattle.head_walk.specs.declared.parts.WalkFault.{WalkFault}

-- a set with its rank
pub record Ranked : Type 0 where
  pub rank : ℕ
  pub geo : Geometry

-- the line of a set, over images with a common offset
pub record IsLineOf (set : Ranked) (line : Line) : Type 0 where
  pub rank : line.rank ≡ set.rank
  pub geo : line.geo.geo ≡ set.geo
  pub bases : line.geo.bases.items ≡ []

-- the line holds the set of its rank, and no bases
abbrev pub HoldsSet : Plan → Line → Type 0
HoldsSet plan held = (slice_get (sets_of plan) held.rank ≡ Some held.geo.geo) × (held.geo.bases.items ≡ [])

-- pages of the sets of a plan can be made over these images: the plan makes sense, its ranks are numbers of 64 bits, a page has
-- a line at least, and the images have the lengths of the plan
pub record CanPage (plan : Plan) (size : ℕ) (attached : List Image) : Type 0 where
  pub is_plan : IsPlan plan
  pub few : total_of plan < 2 ^ 64
  pub some : 1 ≤ size
  pub agrees : AgreeWith plan attached

-- the values of a head on which its tables depend are among those of a search
pub record IsAmong (bounds : Bounds) (head : Head) : Type 0 where
  pub level : Contains bounds.levels.items head.level
  pub delay : Contains bounds.delays.items head.delay
  pub chunk : Contains bounds.chunks.items head.chunk
  pub offset : Contains bounds.offsets.items head.offset

-- a head of the plan, whose sets stand at the ranks from its first on
pub record IsHeadOf (plan : Plan) (sets : HeadSets) : Type 0 where
  pub head : is_valid_head sets.head ≡ true
  pub offset : sets.head.offset < 2 ^ 55
  pub among : IsAmong plan.bounds sets.head
  pub listed : Contains (heads plan.bounds) sets.head
  pub images : sets.space.images ≡ length plan.lengths.items
  pub members : sets.space.members ≡ sets.head.members
  pub count : sets.count ≡ length (lists_of sets.space)
  pub stand : (k : ℕ) (slots : List (Option ℕ)) → slice_get (lists_of sets.space) k ≡ Some slots →
      slice_get (sets_of plan) (sets.first + k) ≡ Some (record { head = sets.head; slots = record { items = slots } })
  pub within : sets.first + sets.count ≤ total_of plan

-- what is asked of a walk over the slot lists of a head
pub record Asked : Type 0 where
  pub plan : Plan
  pub head : Head
  pub space : Space
  pub xors : Option RowTable

-- and of one that asks rows too, where some are kept
pub record Sifted : Type 0 where
  pub asked : Asked
  pub rows : Option (List SampledRow)

-- rows, where some are kept, let the slots of a set of the head begin so
abbrev pub rows_admit : Asked → Option (List SampledRow) → List (Option ℕ) → Bool
rows_admit asked rows prefix = option_map_or (λ list. lets_begin list (test_of asked.plan asked.head) prefix) rows true

-- a prefix is admitted: it is hopeful by the tables, and rows let the slots of a set begin so
abbrev pub is_admitted : Sifted → List (Option ℕ) → Bool
is_admitted s prefix = is_hopeful_by s.asked.xors s.asked.plan s.asked.head prefix && rows_admit s.asked s.rows prefix

-- they are those of a head that makes sense
pub record IsAsked (plan : Plan) (head : Head) (space : Space) : Type 0 where
  pub is_plan : IsPlan plan
  pub valid : is_valid_head head ≡ true
  pub images : space.images ≡ length plan.lengths.items
  pub members : space.members ≡ head.members
  pub level : Contains plan.bounds.levels.items head.level

-- where some head needs a table, there is one for each delay of each chunk of the plan
abbrev pub HasTables : Plan → OffsetTables → Type 0
HasTables plan kept = asks_tables plan ≡ true → length kept.tables.items ≡ length (paces_of plan)

-- what is kept of an offset, over the bytes of the images where they are known: a table of rows for each delay of each
-- chunk of the plan, where some head needs one, and rows with their ties
pub record IsKept (told : Option (List (List ℕ))) (plan : Plan) (kept : OffsetTables) : Type 0 where
  pub long : HasTables plan kept
  pub tables : asks_tables plan ≡ true → IfSome told (λ bytes. AreEarlyTables bytes plan (paces_of plan) kept.offset kept.tables.items)
  pub row_images : kept.rows.images ≡ length plan.lengths.items
  pub rows : IfSome told (λ bytes. AreImageRows bytes (length plan.lengths.items) kept.offset kept.rows.list)

-- a head needs what is kept of an offset: a table, or rows
abbrev pub needs_entry : Plan → Head → Bool
needs_entry plan head = needs_table plan head || needs_samples plan head

-- something is kept of an offset
abbrev pub has_entry : ℕ → List OffsetTables → Bool
has_entry offset kept = list_any (λ one. one.offset == offset) kept

-- the most sectors that are read yet for tables and samples: for those of the offsets of which nothing is kept so far
unfoldable pub left_reads : Plan → List OffsetTables → ℕ
left_reads plan kept = sum_by (λ offset. if list_any (λ one. one.offset == offset) kept then 0 else offset_reads plan offset) plan.bounds.offsets.items

-- the same after a call, and nothing where it failed
abbrev pub left_after : {A E : Type 0} → Plan → List OffsetTables → Result A E → ℕ
left_after plan kept (Ok a) = left_reads plan kept
left_after plan kept (Err fault) = 0

-- nothing but the counts changed, and no more was read than `sectors` and what is no longer left to read
pub record Spends (before after : ℕ) (old new : Seen) (sectors : ℕ) : Type 0 where
  pub fewer : after ≤ before
  pub reads : OnlyReads old new (before - after + sectors)

-- a set that passes where it meets the parity test: there is a whole row, and the landmark test is met; and it is hopeful
pub record IsCandidate (told : Option (List (List ℕ))) (plan : Plan) (line : Ranked) : Type 0 where
  pub set : slice_get (sets_of plan) line.rank ≡ Some line.geo
  pub among : IsAmong plan.bounds line.geo.head
  pub row : 1 ≤ rows line.geo.head plan.end
  pub groups : groups_hold line.geo plan.end plan.tests plan.groups ≡ true
  pub hopeful : is_hopeful_at told plan line.rank ≡ true

-- of a head's sets that pass, each prefix of the slots is admitted, over the bytes of the images where they are known
abbrev pub LeavesOutNone : Option (List (List ℕ)) → Plan → Head → (List (Option ℕ) → Bool) → Type 0
LeavesOutNone told plan head admits = IfSome told (λ bytes. (rank : ℕ) (slots : List (Option ℕ)) →
    slice_get (sets_of plan) rank ≡ Some (record { head = head; slots = record { items = slots } }) → passes_at bytes plan rank ≡ true → all_admitted admits slots ≡ true)

-- so it is, and each slot list that is admitted is that of a hopeful set that meets the landmark test
pub record AdmitsHopeful (told : Option (List (List ℕ))) (plan : Plan) (head : Head) (admits : List (Option ℕ) → Bool) : Type 0 where
  pub leaves_out_none : LeavesOutNone told plan head admits
  pub hopeful : (rank : ℕ) (slots : List (Option ℕ)) → slice_get (sets_of plan) rank ≡ Some (record { head = head; slots = record { items = slots } }) →
      all_admitted admits slots ≡ true → IsCandidate told plan (record { rank = rank; geo = record { head = head; slots = record { items = slots } } })

-- no set of the ranks from one up to another passes
abbrev pub NonePass : Option (List (List ℕ)) → Plan → ℕ → ℕ → Type 0
NonePass told plan from to = IfSome told (λ bytes. (rank : ℕ) → from ≤ rank → rank < to → passes_at bytes plan rank ≡ false)

-- of the ranks from one up to another these candidates wait, in their order, and no other set passes
unfoldable pub Wait : Option (List (List ℕ)) → Plan → ℕ → ℕ → List Ranked → Type 0
Wait told plan from to [] = (from ≤ to) × NonePass told plan from to
Wait told plan from to (line ∷ lines) = (from ≤ line.rank) × NonePass told plan from line.rank × IsCandidate told plan line × Wait told plan (line.rank + 1) to lines

-- sets with their ranks
unfoldable pub ranked_sets : List ℕ → List Geometry → List Ranked
ranked_sets (rank ∷ ranks) (geo ∷ sets) = record { rank = rank; geo = geo } ∷ ranked_sets ranks sets
ranked_sets ranks sets = []

-- the tally with which the test of a set begins
abbrev pub first_tally : Plan → Geometry → Tally
first_tally plan geo = if is_decided plan geo then Passes else Left plan.limits.badrows

-- how many of the sets are known to pass, before the first one of which rows have to be tested
unfoldable pub known_first : Plan → List Geometry → ℕ
known_first plan [] = 0
known_first plan (geo ∷ sets) = if is_decided plan geo then 1 + known_first plan sets else 0

-- what is kept of the sets that wait
pub record AreWaiting (plan : Plan) (waiting : Waiting) : Type 0 where
  pub ranks : length waiting.ranks ≡ length waiting.sets
  pub tallies : waiting.tallies.items ≡ map (first_tally plan) waiting.sets
  pub known : waiting.known ≡ known_first plan waiting.sets

-- a page in the making, at a rank: it is not full with the sets that are known to pass before any other, and of the ranks
-- before this one each set that may pass is among its lines or waits
pub record StandsAt (told : Option (List (List ℕ))) (plan : Plan) (size at : ℕ) (page : Gathered) : Type 0 where
  pub are : AreWaiting plan page.waiting
  pub wait : Wait told plan page.tested at (ranked_sets page.waiting.ranks page.waiting.sets)
  pub few : length page.lines + page.waiting.known < size
  pub room : length page.waiting.sets < 4096

-- the sets that pass of the ranks from one up to another were appended
pub record AddsRange (told : Option (List (List ℕ))) (plan : Plan) (from to : ℕ) (old new : List Line) : Type 0 where
  pub lines : IfSome told (λ bytes. map (λ held. held.rank) new ≡ map (λ held. held.rank) old ++ passing (passes_at bytes plan) from to)
  pub sets : All (HoldsSet plan) old → All (HoldsSet plan) new

-- they were appended up to the end of the range, and the page is not full
pub record AddsAll (told : Option (List (List ℕ))) (plan : Plan) (from to size : ℕ) (old new : List Line) : Type 0 where
  pub adds : AddsRange told plan from to old new
  pub few : length new < size

-- they were appended up to this rank, and with the last of them the page is full
pub record FillsPage (told : Option (List (List ℕ))) (plan : Plan) (from to size next : ℕ) (old new : List Line) : Type 0 where
  pub forward : from < next
  pub within : next ≤ to
  pub adds : AddsRange told plan from next old new
  pub last : IfSome told (λ bytes. passes_at bytes plan (next - 1) ≡ true)
  pub many : length new ≡ size

-- a page has come to a rank: what was tested was appended, and it is not full
pub record GoesOn (told : Option (List (List ℕ))) (plan : Plan) (size to : ℕ) (old new : Gathered) : Type 0 where
  pub stands : StandsAt told plan size to new
  pub forward : old.tested ≤ new.tested
  pub adds : AddsRange told plan old.tested new.tested old.lines new.lines

-- a page was gathered up to a rank, or it was full before
abbrev pub Gathers : Option (List (List ℕ)) → Plan → ℕ → ℕ → Gathered → Gathered → Option ℕ → Type 0
Gathers told plan size to old new full = MatchOption full (GoesOn told plan size to old new) (λ next. FillsPage told plan old.tested to size next old.lines new.lines)

-- a page is whole: it was full before this rank, or each set before it is tested
abbrev pub Finishes : Option (List (List ℕ)) → Plan → ℕ → ℕ → Gathered → Gathered → ℕ → Type 0
Finishes told plan size stop old new next =
    ((next ≡ stop) × AddsAll told plan old.tested stop size old.lines new.lines) ⊎ FillsPage told plan old.tested stop size next old.lines new.lines

-- of those that wait, the sets that pass were appended: up to a rank, or to the last one of the page
abbrev pub AddsWaiting : Option (List (List ℕ)) → Plan → ℕ → ℕ → ℕ → List Line → List Line → Option ℕ → Type 0
AddsWaiting told plan from at size old new full = MatchOption full
    (AddsAll told plan from at size old new)
    (λ next. FillsPage told plan from at size next old new)

-- the first of some sets have passed
abbrev pub HavePassed : ℕ → List Tally → Type 0
HavePassed known tallies = (i : ℕ) (d : Tally) → i < known → has_passed (slice_index_or tallies i d) ≡ true

-- a page that was full after `known` sets of those that waited
pub record IsPast (ranks : List ℕ) (known next : ℕ) : Type 0 where
  pub place : ℕ
  pub there : place < length ranks
  pub last : next ≡ slice_index ranks place + 1
  pub later : known ≤ place

-- of the sets that waited those that have passed were appended, as long as the page was not full: so it is full where the
-- first of them, which have all passed, fill it; and it is full no earlier than `known` of them could fill it
pub record AddsPassed (size : ℕ) (waiting : Waiting) (old new : List Line) (full : Option ℕ) : Type 0 where
  pub added : (told : Option (List (List ℕ))) (plan : Plan) (from at : ℕ) → Wait told plan from at (ranked_sets waiting.ranks waiting.sets) →
      IfSome told (λ bytes. map has_passed waiting.tallies.items ≡ verdicts_of bytes (scope_of plan) waiting.sets) → AddsWaiting told plan from at size old new full
  pub fills : (known : ℕ) → known ≤ length waiting.sets → HavePassed known waiting.tallies.items → size ≤ length old + known → is_some full ≡ true
  pub past : IfSome full (λ next. (known : ℕ) → length old + known < size → IsPast waiting.ranks known next)

-- `count` scans are no more than there are sets of the ranks from one up to another of which rows have to be tested, nor
-- than there are 4,096 hopeful ones, where `spare` more are counted
pub record AreScans (told : Option (List (List ℕ))) (plan : Plan) (from to spare count : ℕ) : Type 0 where
  pub needed : count ≤ open_ranks told plan from to
  pub many : count * 4096 ≤ hopeful_ranks told plan from to + spare

-- the rank up to which sets were tested, and what may be spared there: only full scans are made before the end
abbrev pub tested_by : ℕ → Gathered → Result (Option ℕ) WalkFault → ℕ
tested_by to new (Ok None) = new.tested
tested_by to new (Ok (Some next)) = next
tested_by to new (Err fault) = to

-- what may be spared at the rank up to which sets were tested: only full scans are made before the end
abbrev pub spared_by : Result (Option ℕ) WalkFault → ℕ
spared_by (Ok None) = 0
spared_by (Ok (Some next)) = 4095
spared_by (Err fault) = 4095

-- the same of a page that is whole
abbrev pub ended_at : ℕ → Result ℕ WalkFault → ℕ
ended_at stop (Ok next) = next
ended_at stop (Err fault) = stop

-- nothing but the counts changed, and no more was read than for the tables that are made now, and for scans of the ranks
-- from one up to another
pub record ReadsRange (told : Option (List (List ℕ))) (plan : Plan) (from to spare before after : ℕ) (old new : Seen) : Type 0 where
  pub count : ℕ
  pub few : AreScans told plan from to spare count
  pub spends : Spends before after old new (count * most_scanned plan)

-- a range of the ranks of a head
pub record IsPart (sets : HeadSets) (from stop : ℕ) : Type 0 where
  pub begins : sets.first ≤ from
  pub ordered : from ≤ stop
  pub ends : stop ≤ sets.first + sets.count
