-- Why a command over a plan ends, by the fault of the engine.
use Rattle.run_ends.specs.declared.stop.Refusal.TheVariants.{Many, Cursor}
use Rattle.run_ends.specs.declared.stop.Stop.{Stop}
use Rattle.run_ends.specs.declared.stop.Stop.TheVariants.{Refused, ImageFault, OutOfMemory}
use Rattle.common_pages.specs.declared.page_parts.PageFault.{PageFault}
use Rattle.common_pages.specs.declared.page_parts.PageFault.TheVariants.{Many as PageMany, Cursor as PageCursor, ReadFault, Memory}

-- where a page could not be made
abbrev pub stop_of_page : PageFault → Stop
stop_of_page PageMany = Refused Many
stop_of_page (PageCursor fault) = Refused (Cursor (record { from = fault.from; total = fault.total }))
stop_of_page ReadFault = ImageFault
stop_of_page Memory = OutOfMemory
