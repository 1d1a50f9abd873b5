-- Pages of the mirrors that pass.
use Rattle.std.specs.Prelude.{ℕ, ◌≡◌, ◌+◌, ◌≤◌, ◌<◌, ◌^◌, ◌⊎◌, Result, Ok, Err, List, length, map}
use Rattle.outside.specs.Causes.{Rose}
use Rattle.outside.specs.Seen.{Seen}
use Rattle.search_terms.specs.Page.{IsPage}
use Rattle.near_search.specs.Asks.{HasImages, IsNearAsk}
use Rattle.near_search.specs.Product.{near_total, passes_at}
use Rattle.near_search.specs.Walk.{count_at, first_at}
use Rattle.near_search.specs.declared.ask.NearAsk.{NearAsk}
use Rattle.near_search.specs.declared.parts.NearFault.{NearFault}
use Rattle.near_search.specs.declared.parts.NearFault.TheVariants.{Cursor, Many, Memory, ReadFault}
use Rattle.near_search.specs.declared.parts.NearLine.{NearLine}
use Rattle.near_search.specs.declared.parts.NearPage.{NearPage}
use Rattle.near_search.specs.declared.walk.NearWalk.{NearWalk}

-- the page from a rank on: its ranks, and where the next one begins, over the bytes of the images
abbrev pub IsNearPage : List (List ℕ) → ℕ → NearAsk → ℕ → ℕ → ℕ → NearPage → Type 0
IsNearPage bytes images ask from size span page =
    IsPage (passes_at bytes images ask) (near_total images ask) from size span (map (λ line. line.rank) page.lines) page.next

-- why there is no page: there are too many sets, or the first rank is past the total, and nothing was touched; the images failed;
-- or memory ran out, and no fault was counted
abbrev pub EndsNear : ℕ → NearAsk → ℕ → Seen → Seen → NearFault → Type 0
EndsNear images ask from old new Many = (2 ^ 64 ≤ near_total images ask) × (new ≡ old)
EndsNear images ask from old new (Cursor first total) = (near_total images ask < from) × (first ≡ from) × (total ≡ near_total images ask) × (new ≡ old)
EndsNear images ask from old new ReadFault = Rose old.faults new.faults
EndsNear images ask from old new Memory = new.faults ≡ old.faults

-- the rank up to which sets are tested: where the next page begins, or, where there is no page, the end of the range
abbrev pub tested_to : ℕ → Result NearPage NearFault → ℕ
tested_to stop (Ok page) = page.next
tested_to stop (Err fault) = stop

-- pages can be made with a walk over these images
pub record CanNear (walk : NearWalk) (seen : Seen) : Type 0 where
  pub ask : IsNearAsk walk.ask.now
  pub images : HasImages walk.ask.now seen.attached
  pub many : walk.many ≡ length seen.attached
  pub total : walk.total ≡ near_total walk.many walk.ask.now
  pub small : walk.total < 2 ^ 64
  pub some : 1 ≤ walk.size

-- a page in the making has come to a rank: the sets before `tested` are gathered, and it is not full. Where that is not the rank, the
-- head that stands there has ranks before it and after
pub record StandsNear (walk : NearWalk) (seen : Seen) (page : List NearLine) (rank : ℕ) : Type 0 where
  pub can : CanNear walk seen
  pub stands : walk.at ≡ rank
  pub tested : walk.tested ≤ rank
  pub within : rank ≤ walk.total
  pub few : length page < walk.size
  pub first : walk.first ≡ first_at walk.many walk.ask.now walk.place
  pub low : walk.first ≤ walk.tested
  pub cut : (walk.tested ≡ rank) ⊎ (rank < walk.first + count_at walk.many walk.ask.now walk.place)

-- what a walk is over stayed
pub record SameNear (old new : NearWalk) : Type 0 where
  pub ask : new.ask.now ≡ old.ask.now
  pub many : new.many ≡ old.many
