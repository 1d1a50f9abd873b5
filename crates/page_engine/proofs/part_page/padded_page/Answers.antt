use Rattle.std.proofs.Common.{rules, ◌≡◌, ℕ, List, subst}
use Rattle.outside.specs.Attached.{told_all}
use Rattle.outside.specs.Seen.{OnlyReads}
use Rattle.image_padding.proofs.Within.{reads_within}
use Rattle.image_padding.specs.Padded.{padded_images}
use Rattle.common_pages.specs.Pages.{page_reads, tested_to}
use Rattle.wide_product.specs.Sets.{wide_total}
use Rattle.search_terms.specs.Page.{stop_of}
use Rattle.page_engine.proofs.part_page.padded_page.Goals as goal

pub returns-clause-reads : goal.returns-clause-reads
returns-clause-reads g c =
    let to = tested_to (stop_of (wide_total c.args.plan.now) c.args.from c.args.span) c.page.result in
    let reads = reads_within c.new-padded.result.images.ghost_name c.page.new.images.images.ghost_name c.new-padded.result.bases.items c.page.new.images.bases.items (g.I.Images.seen c.new-padded.result.images.now) (g.I.Images.seen c.page.new.images.images.now)
    (page_reads (told_all (padded_images c.new-padded.result.bases.items (g.I.Images.seen c.new-padded.result.images.now).attached)) c.args.plan.now c.args.from (tested_to (stop_of (wide_total c.args.plan.now) c.args.from c.args.span) c.page.result)) c.page.ensures.reads in
    let kept : c.page.new.images.images.ghost_name ≡ c.new-padded.result.images.ghost_name = reads.0 in
    let own = subst (λ v. OnlyReads (g.I.Images.seen v) (g.I.Images.seen c.page.new.images.images.now) (page_reads (told_all (padded_images c.new-padded.result.bases.items (g.I.Images.seen v).attached)) c.args.plan.now c.args.from (tested_to (stop_of (wide_total c.args.plan.now) c.args.from c.args.span) c.page.result))) c.new-padded.ensures.within reads.1 in
    let read : OnlyReads (g.I.Images.seen c.args.images.now) (g.I.Images.seen c.page.new.images.images.now) (page_reads (told_all (padded_images c.args.bases.now (g.I.Images.seen c.args.images.now).attached)) c.args.plan.now c.args.from (tested_to (stop_of (wide_total c.args.plan.now) c.args.from c.args.span) c.page.result)) =
    subst (λ (bs : List ℕ). OnlyReads (g.I.Images.seen c.args.images.now) (g.I.Images.seen c.page.new.images.images.now) (page_reads (told_all (padded_images bs (g.I.Images.seen c.args.images.now).attached)) c.args.plan.now c.args.from (tested_to (stop_of (wide_total c.args.plan.now) c.args.from c.args.span) c.page.result))) c.new-padded.ensures.bases own in
    search rules
