use Rattle.std.proofs.Common.{◌≤◌, List, All, sym, subst}
use Rattle.outside.specs.Attached.{told_all}
use Rattle.std.proofs.lemmas.List.Elements.{All-nil}
use Rattle.search_terms.specs.Page.{stop_of}
use Rattle.wide_product.specs.Sets.{wide_total}
use Rattle.common_pages.specs.Pages.{table_reads, tested_to}
use Rattle.head_walk.specs.Walk.{left_after, left_reads, IsKept}
use Rattle.head_walk.specs.declared.row_tables.OffsetTables.{OffsetTables}
use Rattle.common_pages.proofs.PageReads.{left_all, page_scans}
use Rattle.common_pages.proofs.paging.page.Goals as goal

pub next_page-requires-clause-kept : goal.next_page-requires-clause-kept
next_page-requires-clause-kept g c κs within =
    let P : List OffsetTables → Type 0 = λ kept. All (IsKept (told_all (g.I.Images.seen c.args.images.now).attached) c.args.plan.now) kept in
    subst P (sym c.new-kept.ensures) (All-nil (IsKept (told_all (g.I.Images.seen c.args.images.now).attached) c.args.plan.now))

pub returns-clause-reads : goal.returns-clause-reads
returns-clause-reads g c =
    page_scans (told_all (g.I.Images.seen c.args.images.now).attached) c.args.plan.now c.args.from (tested_to (stop_of (wide_total c.args.plan.now) c.args.from c.args.span) c.next_page.result)
    (left_reads c.args.plan.now c.new-kept.result) (left_after c.args.plan.now c.next_page.new.kept c.next_page.result) (g.I.Images.seen c.args.images.now) (g.I.Images.seen c.next_page.new.images)
    (subst (λ (kept : List OffsetTables). left_reads c.args.plan.now kept ≤ table_reads c.args.plan.now) (sym c.new-kept.ensures) (left_all c.args.plan.now))
    c.next_page.ensures.reads
