use Rattle.std.proofs.Common.{rules, ◌≡◌, ◌<◌, ◌+◌, ◌*◌, ◌^◌, false, ◌++◌, ◌∷◌, [], inl, inr, ℕ, List, All, length, length-append, refl, sym, ap, ◌∙◌, subst, arith}
use Rattle.std.specs.Result.{is_err}
use Rattle.std.proofs.lemmas.Bool.{cases_lt}
use Rattle.std.proofs.lemmas.List.Elements.{All-nil}
use Rattle.outside.specs.Attached.{told_all}
use Rattle.outside.specs.Seen.{Image}
use Rattle.search_terms.specs.Page.{stop_of}
use Rattle.wide_product.specs.Sets.{wide_total}
use Rattle.common_pages.specs.Pages.{ArePagesFrom, IsPageFrom, scans_to}
use Rattle.head_walk.specs.Counts.{most_scanned}
use Rattle.head_walk.specs.Walk.{left_reads, IsKept, Spends}
use Rattle.head_walk.specs.declared.row_tables.OffsetTables.{OffsetTables}
use Rattle.common_pages.specs.declared.page_parts.ListPage.{ListPage}
use Rattle.common_pages.specs.declared.page_parts.PageFault.TheVariants.{Many}
use Rattle.head_walk.proofs.OneHead.{scans_told}
use Rattle.common_pages.proofs.PageReads.{left_all}
use Rattle.common_pages.proofs.PageByPage.{all_made, below_total, ends_of, ends_with, Going, none_made, not_an_error, one_more, reads_ended, reads_made, reads_more, spends_first, spends_more, the_last}
use Rattle.common_pages.proofs.paging.pages.Goals as goal

pub loop-init : goal.loop-init
loop-init g c = record {
  going = (let P : List ListPage → Type 0 = λ made. Going (told_all (g.I.Images.seen c.args.images.now).attached) c.args.plan.now c.args.size c.args.span c.args.from c.args.from made in
      subst P (sym c.new-made.ensures) (none_made (told_all (g.I.Images.seen c.args.images.now).attached) c.args.plan.now c.args.size c.args.span c.args.from));
  made = ap length c.new-made.ensures;
  quiet = refl;
  forward = omega arith;
  begun = inl (refl, refl, refl);
  reads = (let P : List OffsetTables → Type 0 = λ kept. Spends (left_reads c.args.plan.now []) (left_reads c.args.plan.now kept) (g.I.Images.seen c.args.images.now) (g.I.Images.seen c.args.images.now) (scans_to (told_all (g.I.Images.seen c.args.images.now).attached) c.args.plan.now c.args.from (ends_of []) * most_scanned c.args.plan.now) in
      let Q : List ListPage → Type 0 = λ made. Spends (left_reads c.args.plan.now []) (left_reads c.args.plan.now c.new-kept.result) (g.I.Images.seen c.args.images.now) (g.I.Images.seen c.args.images.now) (scans_to (told_all (g.I.Images.seen c.args.images.now).attached) c.args.plan.now c.args.from (ends_of made) * most_scanned c.args.plan.now) in
      subst Q (sym c.new-made.ensures) (subst P (sym c.new-kept.ensures) (spends_first (told_all (g.I.Images.seen c.args.images.now).attached) c.args.plan.now c.args.from (left_reads c.args.plan.now []) (g.I.Images.seen c.args.images.now))));
  kept = (let P : List OffsetTables → Type 0 = λ kept. All (IsKept (told_all (g.I.Images.seen c.args.images.now).attached) c.args.plan.now) kept in
      subst P (sym c.new-kept.ensures) (All-nil (IsKept (told_all (g.I.Images.seen c.args.images.now).attached) c.args.plan.now)));
}

pub returns-in_err-found-clause-reads : goal.returns-in_err-found-clause-reads
returns-in_err-found-clause-reads g c =
    let far = c.loop.invariant in
    reads_ended (told_all (g.I.Images.seen c.args.images.now).attached) c.args.plan.now c.args.size c.args.span (is_err c.from_residual.result) c.args.count c.args.from c.loop.at (left_reads c.args.plan.now []) (left_reads c.args.plan.now c.loop.kept) 0 c.loop.made (g.I.Images.seen c.args.images.now) (g.I.Images.seen c.loop.images) (g.I.Images.seen c.next_page.new.images) (left_all c.args.plan.now) far.going (let made = far.made in omega arith) c.from_residual.ensures.0 far.reads
    (scans_told (g.I.Images.seen c.args.images.now).attached (g.I.Images.seen c.loop.images).attached c.args.plan.now c.loop.at (stop_of (wide_total c.args.plan.now) c.loop.at c.args.span) 4095 (left_reads c.args.plan.now c.loop.kept) 0 (g.I.Images.seen c.loop.images) (g.I.Images.seen c.next_page.new.images) far.reads.reads.attached c.in_err-found.ensures.reads)

pub returns-in_err-map_err-clause-reads : goal.returns-in_err-map_err-clause-reads
returns-in_err-map_err-clause-reads g c =
    let far = c.loop.invariant in
    let Q : List Image → Type 0 = λ attached. IsPageFrom (told_all attached) c.args.plan.now c.loop.at c.args.size c.args.span c.in_ok-found.found in
    let is_page = subst Q far.reads.reads.attached c.in_ok-found.ensures.page in
    reads_more (told_all (g.I.Images.seen c.args.images.now).attached) c.args.plan.now c.args.size c.args.span (is_err c.from_residual-in_err-map_err.result) c.args.count c.args.from c.loop.at (left_reads c.args.plan.now []) (left_reads c.args.plan.now c.loop.kept) (left_reads c.args.plan.now c.next_page.new.kept) c.loop.made c.in_ok-found.found (g.I.Images.seen c.args.images.now) (g.I.Images.seen c.loop.images) (g.I.Images.seen c.next_page.new.images) (left_all c.args.plan.now) far.going (let made = far.made in omega arith) is_page far.reads
    (scans_told (g.I.Images.seen c.args.images.now).attached (g.I.Images.seen c.loop.images).attached c.args.plan.now c.loop.at c.in_ok-found.found.next 4095 (left_reads c.args.plan.now c.loop.kept) (left_reads c.args.plan.now c.next_page.new.kept) (g.I.Images.seen c.loop.images) (g.I.Images.seen c.next_page.new.images) far.reads.reads.attached c.in_ok-found.ensures.reads)

pub returns-then-next-total-clause-pages : goal.returns-then-next-total-clause-pages
returns-then-next-total-clause-pages g c =
    let far = c.loop.invariant in
    let pushed : c.push.new.self ≡ c.loop.made ++ c.in_ok-found.found ∷ [] = search rules in
    let P : List ListPage → Type 0 = λ made. ArePagesFrom (told_all (g.I.Images.seen c.args.images.now).attached) c.args.plan.now c.args.size c.args.span c.args.count c.args.from made in
    let Q : List Image → Type 0 = λ attached. IsPageFrom (told_all attached) c.args.plan.now c.loop.at c.args.size c.args.span c.in_ok-found.found in
    let is_page = subst Q far.reads.reads.attached c.in_ok-found.ensures.page in
    subst P (sym pushed)
    (the_last (told_all (g.I.Images.seen c.args.images.now).attached) c.args.plan.now c.args.size c.args.span c.args.count c.args.from c.loop.at c.loop.made c.in_ok-found.found far.going is_page (c.if-next-total.true ∙ c.in_ok-found.ensures.page.total) (let made = far.made in omega arith))

pub returns-then-next-total-clause-reads : goal.returns-then-next-total-clause-reads
returns-then-next-total-clause-reads g c =
    let far = c.loop.invariant in
    let Q : List Image → Type 0 = λ attached. IsPageFrom (told_all attached) c.args.plan.now c.loop.at c.args.size c.args.span c.in_ok-found.found in
    let is_page = subst Q far.reads.reads.attached c.in_ok-found.ensures.page in
    reads_more (told_all (g.I.Images.seen c.args.images.now).attached) c.args.plan.now c.args.size c.args.span false c.args.count c.args.from c.loop.at (left_reads c.args.plan.now []) (left_reads c.args.plan.now c.loop.kept) (left_reads c.args.plan.now c.next_page.new.kept) c.loop.made c.in_ok-found.found (g.I.Images.seen c.args.images.now) (g.I.Images.seen c.loop.images) (g.I.Images.seen c.next_page.new.images) (left_all c.args.plan.now) far.going (let made = far.made in omega arith) is_page far.reads
    (scans_told (g.I.Images.seen c.args.images.now).attached (g.I.Images.seen c.loop.images).attached c.args.plan.now c.loop.at c.in_ok-found.found.next 4095 (left_reads c.args.plan.now c.loop.kept) (left_reads c.args.plan.now c.next_page.new.kept) (g.I.Images.seen c.loop.images) (g.I.Images.seen c.next_page.new.images) far.reads.reads.attached c.in_ok-found.ensures.reads)

pub loop-preserved : goal.loop-preserved
loop-preserved g c =
    let far = c.loop.invariant in
    let pushed : c.push.new.self ≡ c.loop.made ++ c.in_ok-found.found ∷ [] = search rules in
    let Q : List Image → Type 0 = λ attached. IsPageFrom (told_all attached) c.args.plan.now c.loop.at c.args.size c.args.span c.in_ok-found.found in
    let is_page = subst Q far.reads.reads.attached c.in_ok-found.ensures.page in
    let within = c.in_ok-found.ensures.page.within in
    let total = c.in_ok-found.ensures.page.total in
    let small : wide_total c.args.plan.now < 2 ^ 64 =
    (elim (cases_lt (wide_total c.args.plan.now) (2 ^ 64)) [
      | inl few ↦ few
      | inr many ↦ absurd (not_an_error c.in_ok-found.found Many (c.in_ok-found.ensures.many many))
    ]) in
    record {
      going = (let P : List ListPage → Type 0 = λ made. Going (told_all (g.I.Images.seen c.args.images.now).attached) c.args.plan.now c.args.size c.args.span c.args.from c.in_ok-found.found.next made in
          subst P (sym pushed) (one_more (told_all (g.I.Images.seen c.args.images.now).attached) c.args.plan.now c.args.size c.args.span c.args.from c.loop.at c.loop.made c.in_ok-found.found far.going is_page
          (below_total c.in_ok-found.found.next c.in_ok-found.found.total (wide_total c.args.plan.now) c.args.span c.loop.at c.if-next-total.false total within)));
      made = ap length pushed ∙ length-append c.loop.made (c.in_ok-found.found ∷ []) ∙ ap (λ (n : ℕ). n + 1) far.made;
      quiet = search rules;
      forward = (let low = far.forward in let up = c.in_ok-found.ensures.page.forward in omega arith);
      begun = inr ((omega arith), (omega arith), small);
      reads = (let P : List ℕ → Type 0 = λ ends. Spends (left_reads c.args.plan.now []) (left_reads c.args.plan.now c.next_page.new.kept) (g.I.Images.seen c.args.images.now) (g.I.Images.seen c.next_page.new.images) (scans_to (told_all (g.I.Images.seen c.args.images.now).attached) c.args.plan.now c.args.from ends * most_scanned c.args.plan.now) in
          subst P (sym (ap ends_of pushed ∙ ends_with c.loop.made c.in_ok-found.found))
          (spends_more (told_all (g.I.Images.seen c.args.images.now).attached) c.args.plan.now c.args.size c.args.span c.args.from c.loop.at c.in_ok-found.found.next (left_reads c.args.plan.now []) (left_reads c.args.plan.now c.loop.kept) (left_reads c.args.plan.now c.next_page.new.kept) c.loop.made (g.I.Images.seen c.args.images.now) (g.I.Images.seen c.loop.images) (g.I.Images.seen c.next_page.new.images) far.going far.reads
          (scans_told (g.I.Images.seen c.args.images.now).attached (g.I.Images.seen c.loop.images).attached c.args.plan.now c.loop.at c.in_ok-found.found.next 4095 (left_reads c.args.plan.now c.loop.kept) (left_reads c.args.plan.now c.next_page.new.kept) (g.I.Images.seen c.loop.images) (g.I.Images.seen c.next_page.new.images) far.reads.reads.attached c.in_ok-found.ensures.reads)));
      kept = (let P : List Image → Type 0 = λ attached. All (IsKept (told_all attached) c.args.plan.now) c.next_page.new.kept in subst P far.reads.reads.attached c.next_page.ensures.kept);
    }

pub returns-clause-pages : goal.returns-clause-pages
returns-clause-pages g c =
    let far = c.loop.invariant in
    all_made (told_all (g.I.Images.seen c.args.images.now).attached) c.args.plan.now c.args.size c.args.span c.args.count c.args.from c.loop.at c.loop.made far.going
    (let made = far.made in let end = c.loop-test.false in let most = c.loop.auto.counter-end in omega arith)

pub returns-clause-reads : goal.returns-clause-reads
returns-clause-reads g c =
    let far = c.loop.invariant in
    reads_made (told_all (g.I.Images.seen c.args.images.now).attached) c.args.plan.now c.args.size c.args.span false c.args.count c.args.from c.loop.at (left_reads c.args.plan.now []) (left_reads c.args.plan.now c.loop.kept) c.loop.made (g.I.Images.seen c.args.images.now) (g.I.Images.seen c.loop.images) (left_all c.args.plan.now) far.going
    (let made = far.made in let most = c.loop.auto.counter-end in omega arith) far.reads
