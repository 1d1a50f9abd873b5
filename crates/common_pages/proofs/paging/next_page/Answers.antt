use Rattle.std.proofs.Common.{List, rules, ◌≡◌, ◌≤◌, ◌<◌, ◌^◌, ◌∙◌, ℕ, Ok, length, ap, refl, sym, subst, arith}
use Rattle.plan_sets.specs.Sets.{total_of}
use Rattle.wide_product.proofs.Products.{common_total}
use Rattle.wide_product.specs.Sets.{wide_total}
use Rattle.common_pages.specs.Pages.{EndsOrFull}
use Rattle.search_terms.specs.Page.{stop_of}
use Rattle.outside.specs.Attached.{told_all}
use Rattle.outside.specs.Seen.{Image, Seen}
use Rattle.search_plan.specs.Plans.{AgreeWith}
use Rattle.head_walk.specs.Walk.{left_reads, ReadsRange}
use Rattle.head_walk.specs.declared.gathering.Gathered.{Gathered}
use Rattle.head_walk.proofs.Kept.{none_left}
use Rattle.head_walk.proofs.OneHead.{reads_full, stands_first}
use Rattle.common_pages.proofs.HeadByHead.{IsWhole, page_from, reads_tested, reads_untested, tested_err, whole_full, whole_tested}
use Rattle.common_pages.proofs.paging.next_page.Goals.{in-Some, in-None+in_ok-next-in-None}
use Rattle.common_pages.proofs.paging.next_page.Goals as goal

pub gather_range-requires-clause-stands : goal.gather_range-requires-clause-stands
gather_range-requires-clause-stands g c κs within =
    stands_first (told_all (g.I.Images.seen c.args.images.now).attached) c.args.paging.now.plan.now c.args.paging.now.size c.args.from (record { lines = c.new.result; tested = c.args.from; waiting = c.none.result }) c.requires.size c.new.ensures (record { ranks = c.none.ensures.ranks; sets = c.none.ensures.sets; tallies = c.none.ensures.tallies; known = c.none.ensures.known }) refl

pub returns-in_err-next-in-None-clause-reads : goal.returns-in_err-next-in-None-clause-reads
returns-in_err-next-in-None-clause-reads g c =
    let total : c.in_ok-total.total ≡ wide_total c.args.paging.now.plan.now = search rules in
    let low : c.args.from ≤ c.in_ok-total.total = search rules in
    let stop : c.min-stop.result ≡ stop_of (wide_total c.args.paging.now.plan.now) c.args.from c.args.span = omega arith in
    let P : ℕ → Type 0 = λ n. ReadsRange (told_all (g.I.Images.seen c.args.images.now).attached) c.args.paging.now.plan.now c.args.from n 4095 (left_reads c.args.paging.now.plan.now c.args.kept.now) 0 (g.I.Images.seen c.args.images.now) (g.I.Images.seen c.finish.new.images) in
    rw (tested_err (stop_of (wide_total c.args.paging.now.plan.now) c.args.from c.args.span) c.from_residual-in_err-next-in-None.result c.from_residual-in_err-next-in-None.ensures.0, none_left c.args.paging.now.plan.now c.gather_range.new.kept c.from_residual-in_err-next-in-None.result c.from_residual-in_err-next-in-None.ensures.0)
    (subst P stop
    (reads_untested (g.I.Images.seen c.args.images.now).attached (g.I.Images.seen c.gather_range.new.images).attached c.args.paging.now.plan.now c.args.paging.now.size c.min-stop.result (left_reads c.args.paging.now.plan.now c.args.kept.now) c.gather_range.new.kept (g.I.Images.seen c.args.images.now) (g.I.Images.seen c.gather_range.new.images) (g.I.Images.seen c.finish.new.images) (record { lines = c.new.result; tested = c.args.from; waiting = c.none.result }) c.gather_range.new.page c.finish.new.page c.in_ok-next.field-0 c.finish.result c.in_ok-next.ensures.reads.spends.reads.attached c.in-None.is (search rules)
    c.in_ok-next.ensures.gathers c.in_ok-next.ensures.reads c.finish.ensures.finishes c.finish.ensures.reads))

pub returns-clause-page : goal.returns-clause-page
returns-clause-page g c =
    let same = common_total c.args.paging.now.plan.now c.requires.common in
    let wide : c.in_ok-total.total ≡ wide_total c.args.paging.now.plan.now = search rules in
    let total : c.in_ok-total.total ≡ total_of c.args.paging.now.plan.now = wide ∙ same in
    let low : c.args.from ≤ c.in_ok-total.total = search rules in
    let P : Gathered → ℕ → Type 0 = λ page next. IsWhole (told_all (g.I.Images.seen c.args.images.now).attached) c.args.paging.now.plan.now c.args.from c.args.paging.now.size c.args.span page.lines next in
    let whole : P c.match-branch-3.page c.match-branch-3.next = elim c.match-branch-3.branch [
      | in-Some w ↦ subst (P c.match-branch-3.page) (sym w.next-is) (subst (λ (page : Gathered). P page w.in-Some.next) (sym w.page-is) (whole_full (g.I.Images.seen c.args.images.now).attached c.args.paging.now.plan.now c.args.from c.min-stop.result c.args.paging.now.size c.args.span w.in-Some.next (record { lines = c.new.result; tested = c.args.from; waiting = c.none.result }) c.gather_range.new.page c.in_ok-next.field-0 c.new.ensures refl (omega arith) (omega arith) w.in-Some.is c.in_ok-next.ensures.gathers))
      | in-None+in_ok-next-in-None w ↦ subst (P c.match-branch-3.page) (sym w.next-is) (subst (λ (page : Gathered). P page w.in_ok-next-in-None.next) (sym w.page-is) (whole_tested (g.I.Images.seen c.args.images.now).attached (g.I.Images.seen c.gather_range.new.images).attached c.args.paging.now.plan.now c.args.from c.min-stop.result c.args.paging.now.size c.args.span w.in_ok-next-in-None.next (record { lines = c.new.result; tested = c.args.from; waiting = c.none.result }) c.gather_range.new.page w.finish.new.page c.in_ok-next.field-0 c.in_ok-next.ensures.reads.spends.reads.attached c.new.ensures refl (omega arith) (omega arith) w.in-None.is c.in_ok-next.ensures.gathers w.in_ok-next-in-None.ensures.finishes))
    ] in
    page_from (told_all (g.I.Images.seen c.args.images.now).attached) c.args.paging.now.plan.now c.args.from c.args.paging.now.size c.args.span _ c.requires.common whole wide

pub returns-clause-ended : goal.returns-clause-ended
returns-clause-ended g c =
    let same = common_total c.args.paging.now.plan.now c.requires.common in
    let wide : c.in_ok-total.total ≡ wide_total c.args.paging.now.plan.now = search rules in
    let total : c.in_ok-total.total ≡ total_of c.args.paging.now.plan.now = wide ∙ same in
    let low : c.args.from ≤ c.in_ok-total.total = search rules in
    let P : Gathered → ℕ → Type 0 = λ page next. IsWhole (told_all (g.I.Images.seen c.args.images.now).attached) c.args.paging.now.plan.now c.args.from c.args.paging.now.size c.args.span page.lines next in
    let whole : P c.match-branch-3.page c.match-branch-3.next = elim c.match-branch-3.branch [
      | in-Some w ↦ subst (P c.match-branch-3.page) (sym w.next-is) (subst (λ (page : Gathered). P page w.in-Some.next) (sym w.page-is) (whole_full (g.I.Images.seen c.args.images.now).attached c.args.paging.now.plan.now c.args.from c.min-stop.result c.args.paging.now.size c.args.span w.in-Some.next (record { lines = c.new.result; tested = c.args.from; waiting = c.none.result }) c.gather_range.new.page c.in_ok-next.field-0 c.new.ensures refl (omega arith) (omega arith) w.in-Some.is c.in_ok-next.ensures.gathers))
      | in-None+in_ok-next-in-None w ↦ subst (P c.match-branch-3.page) (sym w.next-is) (subst (λ (page : Gathered). P page w.in_ok-next-in-None.next) (sym w.page-is) (whole_tested (g.I.Images.seen c.args.images.now).attached (g.I.Images.seen c.gather_range.new.images).attached c.args.paging.now.plan.now c.args.from c.min-stop.result c.args.paging.now.size c.args.span w.in_ok-next-in-None.next (record { lines = c.new.result; tested = c.args.from; waiting = c.none.result }) c.gather_range.new.page w.finish.new.page c.in_ok-next.field-0 c.in_ok-next.ensures.reads.spends.reads.attached c.new.ensures refl (omega arith) (omega arith) w.in-None.is c.in_ok-next.ensures.gathers w.in_ok-next-in-None.ensures.finishes))
    ] in
    let Q : ℕ → Type 0 = λ t. EndsOrFull c.args.paging.now.size c.args.from (stop_of t c.args.from c.args.span) (length c.match-branch-3.page.lines) c.match-branch-3.next in
    subst Q (sym same) whole.ended

pub returns-clause-reads : goal.returns-clause-reads
returns-clause-reads g c =
    let P : ℕ → Seen → Type 0 = λ next s. ReadsRange (told_all (g.I.Images.seen c.args.images.now).attached) c.args.paging.now.plan.now c.args.from next 4095 (left_reads c.args.paging.now.plan.now c.args.kept.now) (left_reads c.args.paging.now.plan.now c.gather_range.new.kept) (g.I.Images.seen c.args.images.now) s in
    elim c.match-branch-3.branch [
      | in-Some w ↦ subst (λ (n : ℕ). P n (g.I.Images.seen c.match-branch-3.images)) (sym w.next-is) (subst (P w.in-Some.next) (ap g.I.Images.seen (sym w.images-is))
          (reads_full (g.I.Images.seen c.args.images.now).attached (g.I.Images.seen c.args.images.now).attached c.args.paging.now.plan.now c.args.from c.min-stop.result w.in-Some.next (left_reads c.args.paging.now.plan.now c.args.kept.now) (left_reads c.args.paging.now.plan.now c.gather_range.new.kept) c.gather_range.new.page c.in_ok-next.field-0 (g.I.Images.seen c.args.images.now) (g.I.Images.seen c.gather_range.new.images) refl w.in-Some.is c.in_ok-next.ensures.reads))
      | in-None+in_ok-next-in-None w ↦ (let ok : w.finish.result ≡ Ok w.in_ok-next-in-None.next = search rules in
          subst (λ (n : ℕ). P n (g.I.Images.seen c.match-branch-3.images)) (sym w.next-is) (subst (P w.in_ok-next-in-None.next) (ap g.I.Images.seen (sym w.images-is))
          (reads_tested (g.I.Images.seen c.args.images.now).attached (g.I.Images.seen c.gather_range.new.images).attached c.args.paging.now.plan.now c.args.paging.now.size c.min-stop.result w.in_ok-next-in-None.next (left_reads c.args.paging.now.plan.now c.args.kept.now) c.gather_range.new.kept (g.I.Images.seen c.args.images.now) (g.I.Images.seen c.gather_range.new.images) (g.I.Images.seen w.finish.new.images) (record { lines = c.new.result; tested = c.args.from; waiting = c.none.result }) c.gather_range.new.page w.finish.new.page c.in_ok-next.field-0 w.finish.result c.in_ok-next.ensures.reads.spends.reads.attached w.in-None.is ok
          c.in_ok-next.ensures.gathers c.in_ok-next.ensures.reads w.finish.ensures.finishes w.finish.ensures.reads)))
    ]

pub gather_range-requires-clause-can : goal.gather_range-requires-clause-can
gather_range-requires-clause-can g c κs within = record { is_plan = c.requires.plan; few = (let same = common_total c.args.paging.now.plan.now c.requires.common in let few : wide_total c.args.paging.now.plan.now < 2 ^ 64 = search rules in omega arith); some = c.requires.size; agrees = c.requires.lengths }

pub finish-requires-clause-can : goal.finish-requires-clause-can
finish-requires-clause-can g c κs within =
    let P : List Image → Type 0 = λ attached. AgreeWith c.args.paging.now.plan.now attached in
    record { is_plan = c.requires.plan; few = (let same = common_total c.args.paging.now.plan.now c.requires.common in let few : wide_total c.args.paging.now.plan.now < 2 ^ 64 = search rules in omega arith); some = c.requires.size; agrees = subst P (sym c.in_ok-next.ensures.reads.spends.reads.attached) c.requires.lengths }

pub gather_range-requires-clause-stop : goal.gather_range-requires-clause-stop
gather_range-requires-clause-stop g c κs within =
    let same = common_total c.args.paging.now.plan.now c.requires.common in
    let wide : c.in_ok-total.total ≡ wide_total c.args.paging.now.plan.now = search rules in
    omega arith
