use Rattle.std.proofs.Common.{ℕ, sym, subst}
use Rattle.outside.specs.Attached.{told_all}
use Rattle.outside.specs.Seen.{OnlyReads}
use Rattle.common_pages.specs.Pages.{tested_to}
use Rattle.search_terms.specs.Page.{stop_of}
use Rattle.wide_product.specs.Sets.{wide_total}
use Rattle.page_engine.proofs.RangeReads.{wide_common}
use Rattle.page_engine.proofs.paging.page.Goals as goal

pub returns-then-not-plan : goal.returns-then-not-plan
returns-then-not-plan g c =
    let to = tested_to (stop_of (wide_total c.args.plan.now) c.args.from c.args.span) c.page.result in
    let P : ℕ → Type 0 = λ n. OnlyReads (g.I.Images.seen c.args.images.now) (g.I.Images.seen c.page.new.images) n in
    record {
      page = c.page.ensures.page;
      many = c.page.ensures.many;
      cursor = c.page.ensures.cursor;
      quiet = c.page.ensures.quiet;
      ends = c.page.ensures.ends;
      reads = subst P (sym (wide_common (told_all (g.I.Images.seen c.args.images.now).attached) c.args.plan.now c.args.from to c.if-not-plan.true)) c.page.ensures.reads;
    }
