use Rattle.std.proofs.Common.{length}
use Rattle.outside.specs.Attached.{told_all}
use Rattle.near_jobs.specs.Mirroring.{page_reads}
use Rattle.near_jobs.proofs.Paged.{cut_read, page_read, page_told, range_read}
use Rattle.near_jobs.proofs.mirroring.page_lines.Goals as goal

pub returns-in_err-page_text-in-Ok-clause-reads : goal.returns-in_err-page_text-in-Ok-clause-reads
returns-in_err-page_text-in-Ok-clause-reads g c =
    let old = g.I.Images.seen c.args.images.now in
    cut_read old (g.I.Images.seen c.near_page.new.images) (page_reads (told_all old.attached) (length old.attached) c.args.ask.now c.args.from c.args.size c.args.span) c.from_residual.result c.from_residual.ensures.1
    (range_read old (g.I.Images.seen c.near_page.new.images) (length old.attached) c.args.ask.now c.args.from c.args.span c.near_page.result c.in-Ok.page c.in-Ok.is c.in-Ok.ensures.within c.near_page.ensures.reads)

pub returns-in_ok-page_text-in-Ok-clause-reads : goal.returns-in_ok-page_text-in-Ok-clause-reads
returns-in_ok-page_text-in-Ok-clause-reads g c =
    let old = g.I.Images.seen c.args.images.now in
    page_read (told_all old.attached) old (g.I.Images.seen c.near_page.new.images) (length old.attached) c.args.ask.now c.args.from c.args.size c.args.span c.near_page.result c.in-Ok.page c.in-Ok.is c.in-Ok.ensures.page c.in-Ok.ensures.within c.near_page.ensures.reads

pub returns-in_ok-page_text-in-Ok-clause-text : goal.returns-in_ok-page_text-in-Ok-clause-text
returns-in_ok-page_text-in-Ok-clause-text g c =
    let old = g.I.Images.seen c.args.images.now in
    page_told (told_all old.attached) (length old.attached) c.args.ask.now c.args.from c.args.size c.args.span c.in-Ok.page c.in_ok-page_text-in-Ok.field-0 c.in-Ok.ensures.page c.in-Ok.ensures.sets c.in-Ok.ensures.total c.in_ok-page_text-in-Ok.ensures
