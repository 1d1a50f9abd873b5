-- The page of a part: a range of the ranks of the part's plan over padded images.
use Rattle.std.specs.Prelude.{ℕ, false, ◌≡◌, ◌<◌, ◌≤◌, ◌⊎◌, Result, Ok, Err, Some, IfSome, List, length, All}
use Rattle.std.specs.declared.option.Option.{Option}
use Rattle.outside.specs.Causes.{Rose}
use Rattle.outside.specs.Seen.{Seen}
use Rattle.common_pages.specs.declared.page_parts.PageFault.{PageFault}
use Rattle.common_pages.specs.declared.page_parts.PageFault.TheVariants.{Many, Cursor, ReadFault, Memory}
use Rattle.page_loop.specs.Parts.{Whole}
use Rattle.search_plan.specs.declared.plan.Plan.{Plan}
use Rattle.wide_product.specs.Sets.{wide_passes_at}
use Rattle.common_pages.specs.Pages.{HoldsBased, ranks_of}
use Rattle.head_walk.specs.declared.parts.Line.{Line}

-- the lines of a part's ranks from one up to a stop were appended, up to where the page is full if it is
pub record GathersPart (told : Option (List (List ℕ))) (plan : Plan) (size from stop : ℕ) (old new : List Line) (next : ℕ) : Type 0 where
  pub whole : IfSome told (λ bytes. Whole (Some (wide_passes_at bytes plan)) size from (ranks_of old) (ranks_of new) stop next)
  pub sets : All (HoldsBased plan) old → All (HoldsBased plan) new
  pub ended : (next ≡ stop) ⊎ (from < next)
  pub within : next ≤ stop
  pub most : length new ≤ size

-- why the lines of a part are not known: the images failed; or memory ran out, and no fault was counted
abbrev pub EndsPart : Seen → Seen → PageFault → Type 0
EndsPart old new Many = ⊥
EndsPart old new (Cursor fault) = ⊥
EndsPart old new ReadFault = Rose old.faults new.faults
EndsPart old new Memory = new.faults ≡ old.faults

-- the rank up to which sets are tested: the one that is answered, or, where there is none, the end of the range
abbrev pub reached : ℕ → Result ℕ PageFault → ℕ
reached stop (Ok next) = next
reached stop (Err fault) = stop

-- no set of the ranks from one up to another passes, whatever bytes the images hold
abbrev pub NonePass : Plan → ℕ → ℕ → Type 0
NonePass plan from stop = (images : List (List ℕ)) (rank : ℕ) → from ≤ rank → rank < stop → wide_passes_at images plan rank ≡ false
