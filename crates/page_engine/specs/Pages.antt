-- Pages of the parameter sets of a plan that pass, also where each image has an offset of its own.
use Rattle.std.specs.Prelude.{ℕ, ◌≡◌, ◌<◌, ◌≤◌, ◌^◌, Result, IfOk, IfErr, IsErrOf, List}
use Rattle.std.specs.Result.{is_err}
use Rattle.outside.specs.Attached.{told_all}
use Rattle.outside.specs.Seen.{Image, OnlyReads, Seen}
use Rattle.search_terms.specs.Page.{stop_of}
use Rattle.common_pages.specs.Pages.{ArePagesFrom, EndsPage, IsPageFrom, tested_to}
use Rattle.common_pages.specs.declared.page_parts.ListPage.{ListPage}
use Rattle.common_pages.specs.declared.page_parts.PageFault.{PageFault}
use Rattle.common_pages.specs.declared.page_parts.PageFault.TheVariants.{Many, Cursor}
use Rattle.search_plan.specs.Plans.{AgreeWith, IsPlan}
use Rattle.search_plan.specs.declared.plan.Plan.{Plan}
use Rattle.wide_product.specs.Sets.{wide_total}
use Rattle.page_engine.specs.Reads.{ReadsWide, wide_reads}

-- pages of a plan can be asked for over these images: the plan makes sense, the images have its lengths, and a page has a line at least
pub record CanPageWide (asked : Plan) (most : ℕ) (attached : List Image) : Type 0 where
  pub plan : IsPlan asked
  pub lengths : AgreeWith asked attached
  pub size : 1 ≤ most

-- what comes of a call for the page from a rank on, where this was seen of the images before it and after it: the page, with no fault
-- counted, or why there is none. Where the sets are 2^64 or more, or the rank is past their total, the answer says so. No more is read
-- than may be for the ranks that are tested
pub record GivesPage (plan : Plan) (from size span : ℕ) (old new : Seen) (result : Result ListPage PageFault) : Type 0 where
  pub page : IfOk result (IsPageFrom (told_all old.attached) plan from size span)
  pub many : 2 ^ 64 ≤ wide_total plan → IsErrOf result Many
  pub cursor : wide_total plan < 2 ^ 64 → wide_total plan < from → IsErrOf result (Cursor (record { from = from; total = wide_total plan }))
  pub quiet : IfOk result (λ made. new.faults ≡ old.faults)
  pub ends : IfErr result (EndsPage plan from old new)
  pub reads : OnlyReads old new (wide_reads (told_all old.attached) plan from (tested_to (stop_of (wide_total plan) from span) result))

-- what comes of a call for `count` pages from a rank on, where this was seen of the images before it and after it: the pages, with no
-- fault counted, or why there are none. Where the sets are 2^64 or more, or the rank is past their total, the answer says so. No more
-- is read than may be for pages that end where these do
pub record GivesPages (plan : Plan) (size span count from : ℕ) (old new : Seen) (result : Result (List ListPage) PageFault) : Type 0 where
  pub pages : IfOk result (ArePagesFrom (told_all old.attached) plan size span count from)
  pub many : 2 ^ 64 ≤ wide_total plan → IsErrOf result Many
  pub cursor : wide_total plan < 2 ^ 64 → wide_total plan < from → IsErrOf result (Cursor (record { from = from; total = wide_total plan }))
  pub quiet : IfOk result (λ made. new.faults ≡ old.faults)
  pub ends : IfErr result (EndsPage plan from old new)
  pub reads : ReadsWide (told_all old.attached) plan size span (is_err result) count from old new
