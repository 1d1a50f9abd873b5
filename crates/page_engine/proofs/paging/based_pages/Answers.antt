use Rattle.std.proofs.Common.{rules, false, ◌≡◌, ◌+◌, ◌++◌, ◌∷◌, [], inl, inr, ℕ, List, length, length-append, refl, sym, ap, ◌∙◌, subst, arith}
use Rattle.std.specs.Result.{is_err}
use Rattle.outside.specs.Attached.{told_all}
use Rattle.outside.specs.Seen.{Image, OnlyReads}
use Rattle.search_terms.specs.Page.{stop_of}
use Rattle.wide_product.specs.Sets.{wide_total}
use Rattle.common_pages.specs.declared.page_parts.PageFault.TheVariants.{Memory}
use Rattle.common_pages.specs.Pages.{ArePagesFrom}
use Rattle.common_pages.specs.declared.page_parts.ListPage.{ListPage}
use Rattle.common_pages.proofs.PageByPage.{all_made, below_total, ends_of, ends_with, Going, none_made, one_more, the_last}
use Rattle.page_engine.specs.Pages.{CanPageWide}
use Rattle.page_engine.specs.Reads.{based_to}
use Rattle.page_engine.proofs.PageByPage.{comes_on, gives_fault, gives_made, gives_short, reads_first, reads_more, wide_ended, wide_made, wide_more}
use Rattle.page_engine.proofs.paging.based_pages.Goals as goal

pub loop-init : goal.loop-init
loop-init g c = record {
  going = (let P : List ListPage → Type 0 = λ made. Going (told_all (g.I.Images.seen c.args.images.now).attached) c.args.paging.now.plan.now c.args.paging.now.size c.args.span c.args.from c.args.from made in
      subst P (sym c.new-made.ensures) (none_made (told_all (g.I.Images.seen c.args.images.now).attached) c.args.paging.now.plan.now c.args.paging.now.size c.args.span c.args.from));
  made = ap length c.new-made.ensures;
  quiet = refl;
  forward = omega arith;
  begun = inl (refl, refl, refl);
  reads = (let Q : List ListPage → Type 0 = λ made. OnlyReads (g.I.Images.seen c.args.images.now) (g.I.Images.seen c.args.images.now) (based_to (told_all (g.I.Images.seen c.args.images.now).attached) c.args.paging.now.plan.now c.args.from (ends_of made)) in
      subst Q (sym c.new-made.ensures) (reads_first (told_all (g.I.Images.seen c.args.images.now).attached) c.args.paging.now.plan.now c.args.from (g.I.Images.seen c.args.images.now)));
}

pub based_page-requires-clause-can : goal.based_page-requires-clause-can
based_page-requires-clause-can g c κs within =
    let P : List Image → Type 0 = λ attached. CanPageWide c.args.paging.now.plan.now c.args.paging.now.size attached in
    subst P (sym c.loop.invariant.reads.attached) c.requires.can

pub returns-then-next-total : goal.returns-then-next-total
returns-then-next-total g c =
    let far = c.loop.invariant in
    let pushed : c.push.new.self ≡ c.loop.made ++ c.in_ok-found.found ∷ [] = search rules in
    let here = comes_on c.args.paging.now.plan.now c.args.paging.now.size c.args.span c.args.from c.loop.at (g.I.Images.seen c.args.images.now) (g.I.Images.seen c.loop.images) (g.I.Images.seen c.based_page.new.images) c.in_ok-found.found far.reads.attached far.quiet far.forward c.in_ok-found.ensures in
    let P : List ListPage → Type 0 = λ made. ArePagesFrom (told_all (g.I.Images.seen c.args.images.now).attached) c.args.paging.now.plan.now c.args.paging.now.size c.args.span c.args.count c.args.from made in
    let are =
    subst P (sym pushed)
    (the_last (told_all (g.I.Images.seen c.args.images.now).attached) c.args.paging.now.plan.now c.args.paging.now.size c.args.span c.args.count c.args.from c.loop.at c.loop.made c.in_ok-found.found far.going here.is_page (c.if-next-total.true ∙ here.is_page.total) (let made = far.made in omega arith)) in
    let reads =
    wide_more (told_all (g.I.Images.seen c.args.images.now).attached) c.args.paging.now.plan.now c.args.paging.now.size c.args.span false c.args.count c.args.from c.loop.at c.loop.made c.in_ok-found.found (g.I.Images.seen c.args.images.now) (g.I.Images.seen c.based_page.new.images) c.requires.own far.going (let made = far.made in omega arith) here.is_page
    (reads_more (g.I.Images.seen c.args.images.now).attached (g.I.Images.seen c.loop.images).attached c.args.paging.now.plan.now c.args.paging.now.size c.args.span c.args.from c.loop.at c.in_ok-found.found.next c.loop.made (g.I.Images.seen c.args.images.now) (g.I.Images.seen c.loop.images) (g.I.Images.seen c.based_page.new.images) c.requires.own far.reads.attached far.going far.reads c.in_ok-found.ensures.reads) in
    gives_made c.args.paging.now.plan.now c.args.paging.now.size c.args.span c.args.count c.args.from c.push.new.self (g.I.Images.seen c.args.images.now) (g.I.Images.seen c.based_page.new.images) here.few (let low = here.low in let within = here.within in omega arith) here.quiet are reads

pub returns-in_err-found : goal.returns-in_err-found
returns-in_err-found g c =
    let far = c.loop.invariant in
    let stop = stop_of (wide_total c.args.paging.now.plan.now) c.loop.at c.args.span in
    let reads =
    wide_ended (told_all (g.I.Images.seen c.args.images.now).attached) c.args.paging.now.plan.now c.args.paging.now.size c.args.span (is_err c.from_residual.result) c.args.count c.args.from c.loop.at c.loop.made (g.I.Images.seen c.args.images.now) (g.I.Images.seen c.based_page.new.images) c.requires.own far.going (let made = far.made in omega arith) c.from_residual.ensures.0
    (reads_more (g.I.Images.seen c.args.images.now).attached (g.I.Images.seen c.loop.images).attached c.args.paging.now.plan.now c.args.paging.now.size c.args.span c.args.from c.loop.at stop c.loop.made (g.I.Images.seen c.args.images.now) (g.I.Images.seen c.loop.images) (g.I.Images.seen c.based_page.new.images) c.requires.own far.reads.attached far.going far.reads c.in_err-found.ensures.reads) in
    gives_fault c.args.paging.now.plan.now c.args.paging.now.size c.args.span c.args.count c.args.from c.loop.at c.loop.counter (g.I.Images.seen c.args.images.now) (g.I.Images.seen c.loop.images) (g.I.Images.seen c.based_page.new.images) c.in_err-found.field-0.0 c.from_residual.result c.from_residual.ensures.1 far.forward far.quiet far.begun c.in_err-found.ensures reads

pub returns-in_err-map_err : goal.returns-in_err-map_err
returns-in_err-map_err g c =
    let far = c.loop.invariant in
    let here = comes_on c.args.paging.now.plan.now c.args.paging.now.size c.args.span c.args.from c.loop.at (g.I.Images.seen c.args.images.now) (g.I.Images.seen c.loop.images) (g.I.Images.seen c.based_page.new.images) c.in_ok-found.found far.reads.attached far.quiet far.forward c.in_ok-found.ensures in
    let reads =
    wide_more (told_all (g.I.Images.seen c.args.images.now).attached) c.args.paging.now.plan.now c.args.paging.now.size c.args.span (is_err c.from_residual-in_err-map_err.result) c.args.count c.args.from c.loop.at c.loop.made c.in_ok-found.found (g.I.Images.seen c.args.images.now) (g.I.Images.seen c.based_page.new.images) c.requires.own far.going (let made = far.made in omega arith) here.is_page
    (reads_more (g.I.Images.seen c.args.images.now).attached (g.I.Images.seen c.loop.images).attached c.args.paging.now.plan.now c.args.paging.now.size c.args.span c.args.from c.loop.at c.in_ok-found.found.next c.loop.made (g.I.Images.seen c.args.images.now) (g.I.Images.seen c.loop.images) (g.I.Images.seen c.based_page.new.images) c.requires.own far.reads.attached far.going far.reads c.in_ok-found.ensures.reads) in
    let memory : c.in_err-map_err.field-0.0 ≡ Memory = search rules in
    gives_short c.args.paging.now.plan.now c.args.paging.now.size c.args.span c.args.count c.args.from (g.I.Images.seen c.args.images.now) (g.I.Images.seen c.based_page.new.images) c.in_err-map_err.field-0.0 c.from_residual-in_err-map_err.result c.from_residual-in_err-map_err.ensures.1 memory here.few (let low = here.low in let within = here.within in omega arith) here.quiet reads

pub loop-preserved : goal.loop-preserved
loop-preserved g c =
    let far = c.loop.invariant in
    let pushed : c.push.new.self ≡ c.loop.made ++ c.in_ok-found.found ∷ [] = search rules in
    let here = comes_on c.args.paging.now.plan.now c.args.paging.now.size c.args.span c.args.from c.loop.at (g.I.Images.seen c.args.images.now) (g.I.Images.seen c.loop.images) (g.I.Images.seen c.based_page.new.images) c.in_ok-found.found far.reads.attached far.quiet far.forward c.in_ok-found.ensures in
    let total = here.is_page.total in
    let forward = here.is_page.forward in
    let within = here.is_page.within in
    let few = here.few in
    record {
      going = (let P : List ListPage → Type 0 = λ made. Going (told_all (g.I.Images.seen c.args.images.now).attached) c.args.paging.now.plan.now c.args.paging.now.size c.args.span c.args.from c.in_ok-found.found.next made in
          subst P (sym pushed) (one_more (told_all (g.I.Images.seen c.args.images.now).attached) c.args.paging.now.plan.now c.args.paging.now.size c.args.span c.args.from c.loop.at c.loop.made c.in_ok-found.found far.going here.is_page
          (below_total c.in_ok-found.found.next c.in_ok-found.found.total (wide_total c.args.paging.now.plan.now) c.args.span c.loop.at c.if-next-total.false total within)));
      made = ap length pushed ∙ length-append c.loop.made (c.in_ok-found.found ∷ []) ∙ ap (λ (n : ℕ). n + 1) far.made;
      quiet = here.quiet;
      forward = here.low;
      begun = inr ((omega arith), here.within, few);
      reads = (let P : List ℕ → Type 0 = λ ends. OnlyReads (g.I.Images.seen c.args.images.now) (g.I.Images.seen c.based_page.new.images) (based_to (told_all (g.I.Images.seen c.args.images.now).attached) c.args.paging.now.plan.now c.args.from ends) in
          subst P (sym (ap ends_of pushed ∙ ends_with c.loop.made c.in_ok-found.found)) (reads_more (g.I.Images.seen c.args.images.now).attached (g.I.Images.seen c.loop.images).attached c.args.paging.now.plan.now c.args.paging.now.size c.args.span c.args.from c.loop.at c.in_ok-found.found.next c.loop.made (g.I.Images.seen c.args.images.now) (g.I.Images.seen c.loop.images) (g.I.Images.seen c.based_page.new.images) c.requires.own far.reads.attached far.going far.reads c.in_ok-found.ensures.reads));
    }

pub returns : goal.returns
returns g c =
    let far = c.loop.invariant in
    let are =
    all_made (told_all (g.I.Images.seen c.args.images.now).attached) c.args.paging.now.plan.now c.args.paging.now.size c.args.span c.args.count c.args.from c.loop.at c.loop.made far.going
    (let made = far.made in let end = c.loop-test.false in let most = c.loop.auto.counter-end in omega arith) in
    let reads =
    wide_made (told_all (g.I.Images.seen c.args.images.now).attached) c.args.paging.now.plan.now c.args.paging.now.size c.args.span false c.args.count c.args.from c.loop.at c.loop.made (g.I.Images.seen c.args.images.now) (g.I.Images.seen c.loop.images) c.requires.own far.going
    (let made = far.made in let most = c.loop.auto.counter-end in omega arith) far.reads in
    elim far.begun [
      | inl none ↦ absurd (let first = none.0 in let end = c.loop-test.false in let some = c.requires.count in omega arith)
      | inr some ↦
          (let low = far.forward in
          let within = some.1 in
          gives_made c.args.paging.now.plan.now c.args.paging.now.size c.args.span c.args.count c.args.from c.loop.made (g.I.Images.seen c.args.images.now) (g.I.Images.seen c.loop.images) some.2 (omega arith) far.quiet are reads)
    ]
