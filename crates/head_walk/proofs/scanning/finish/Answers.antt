use Rattle.std.proofs.Common.{rules, ℕ, ◌≡◌, length, refl, sym, subst}
use Rattle.outside.specs.Attached.{told_all}
use Rattle.head_walk.specs.Walk.{ReadsRange}
use Rattle.head_walk.proofs.Candidates.{end_scan, ended_err, finishes_empty, past_scan}
use Rattle.head_walk.proofs.scanning.finish.Goals as goal

pub returns-then-is_empty-clause-finishes : goal.returns-then-is_empty-clause-finishes
returns-then-is_empty-clause-finishes g c =
    let none : length c.args.page.now.waiting.sets ≡ 0 = search rules in
    finishes_empty (told_all (g.I.Images.seen c.args.images.now).attached) c.args.paging.now.plan.now c.args.paging.now.size c.args.stop c.args.page.now c.args.page.now c.requires.stands none refl

pub returns-in_err-next-clause-reads : goal.returns-in_err-next-clause-reads
returns-in_err-next-clause-reads g c =
    let Q : ℕ → Type 0 = λ n. ReadsRange (told_all (g.I.Images.seen c.args.images.now).attached) c.args.paging.now.plan.now c.args.page.now.tested n 4095 0 0 (g.I.Images.seen c.args.images.now) (g.I.Images.seen c.scan_waiting.new.images) in
    subst Q (sym (ended_err c.args.stop c.from_residual.result c.from_residual.ensures.0))
    (end_scan (told_all (g.I.Images.seen c.args.images.now).attached) c.args.paging.now.plan.now c.args.page.now.tested c.args.stop c.args.page.now.waiting (g.I.Images.seen c.args.images.now) (g.I.Images.seen c.scan_waiting.new.images) c.requires.stands.are c.requires.stands.wait c.scan_waiting.ensures.reads c.scan_waiting.ensures.unread)

pub returns-in-Some-clause-reads : goal.returns-in-Some-clause-reads
returns-in-Some-clause-reads g c =
    past_scan (told_all (g.I.Images.seen c.args.images.now).attached) c.args.paging.now.plan.now c.args.page.now.tested c.args.stop c.in-Some.next c.args.page.now.waiting (g.I.Images.seen c.args.images.now) (g.I.Images.seen c.scan_waiting.new.images) c.requires.stands.are c.requires.stands.wait
    (λ less. search rules) c.scan_waiting.ensures.reads c.scan_waiting.ensures.unread

pub returns-in-None-clause-reads : goal.returns-in-None-clause-reads
returns-in-None-clause-reads g c =
    end_scan (told_all (g.I.Images.seen c.args.images.now).attached) c.args.paging.now.plan.now c.args.page.now.tested c.args.stop c.args.page.now.waiting (g.I.Images.seen c.args.images.now) (g.I.Images.seen c.scan_waiting.new.images) c.requires.stands.are c.requires.stands.wait c.scan_waiting.ensures.reads c.scan_waiting.ensures.unread
