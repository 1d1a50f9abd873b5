use Rattle.std.specs.Result.{is_err}
use Rattle.outside.specs.Attached.{told_all}
use Rattle.page_engine.proofs.PageByPage.{wide_pages}
use Rattle.page_engine.proofs.paging.pages.Goals as goal

pub returns-then-not-plan : goal.returns-then-not-plan
returns-then-not-plan g c = record {
  pages = c.pages.ensures.pages;
  many = c.pages.ensures.many;
  cursor = c.pages.ensures.cursor;
  quiet = c.pages.ensures.quiet;
  ends = c.pages.ensures.ends;
  reads = wide_pages (told_all (g.I.Images.seen c.args.images.now).attached) c.args.plan.now c.args.size c.args.span (is_err c.pages.result) c.args.count c.args.from (g.I.Images.seen c.args.images.now) (g.I.Images.seen c.pages.new.images) c.if-not-plan.true c.pages.ensures.reads;
}
