use Rattle.std.proofs.Common.{rules, ◌≡◌}
use Rattle.search_terms.specs.Page.{stop_of}
use Rattle.page_loop.proofs.Appended.{whole_page}
use Rattle.page_loop.proofs.paging.next_page.Goals as goal

pub returns-in-Ok-clause-page : goal.returns-in-Ok-clause-page
returns-in-Ok-clause-page g c =
    let total = c.total-total.ensures in
    let stop : c.min-stop.result ≡ stop_of (g.W.PageWalk.total_of c.args.walk.now) c.args.from c.args.span = search rules in
    let same = c.begin-page.ensures.same in
    whole_page (g.W.PageWalk.passes c.args.walk.now (g.I.Images.seen c.args.images.now)) (g.W.PageWalk.passes c.begin-page.new.self (g.I.Images.seen c.args.images.now)) (g.W.PageWalk.total_of c.args.walk.now) (g.W.PageWalk.size_of c.args.walk.now) (g.W.PageWalk.size_of c.begin-page.new.self) c.args.from (g.W.PageWalk.tested c.begin-page.new.self c.begin-page.result) c.min-stop.result c.args.span c.in-Ok.next
    (g.W.PageWalk.ranks_of c.begin-page.new.self c.begin-page.result) (g.W.PageWalk.ranks_of c.make_whole.new.walk c.make_whole.new.page) same.passes same.size c.begin-page.ensures.tested c.begin-page.ensures.none stop c.in-Ok.ensures.whole
