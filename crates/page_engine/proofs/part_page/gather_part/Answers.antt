use Rattle.std.proofs.Common.{rules, ◌≡◌, ◌+◌, ◌-◌, ◌<◌, ◌^◌, ℕ, List, All, IsErr, Option, ◌∙◌, length, refl, sym, ap, subst, arith}
use Rattle.outside.proofs.Reading.{reads_up}
use Rattle.outside.specs.Attached.{told_all}
use Rattle.outside.specs.Seen.{OnlyReads}
use Rattle.search_terms.specs.Page.{stop_of}
use Rattle.image_padding.specs.Padded.{padded_images}
use Rattle.common_pages.proofs.PageReads.{page_reads_up}
use Rattle.common_pages.specs.Pages.{IsPageFrom, tested_to}
use Rattle.wide_product.proofs.PartPlan.{near_bases}
use Rattle.wide_product.proofs.Products.{common_total}
use Rattle.wide_product.specs.PaddedParts.{IsPaddedPart}
use Rattle.wide_product.specs.Sets.{wide_total}
use Rattle.common_pages.proofs.HeadByHead.{tested_err}
use Rattle.page_engine.specs.Lines.{AddsPadded}
use Rattle.head_walk.specs.declared.parts.Line.{Line}
use Rattle.page_engine.proofs.PartPage.{gathers, told_padded}
use Rattle.page_engine.proofs.PartReads.{agrees, next_inside, reads_on, short_images, unread}
use Rattle.page_engine.proofs.RuledOut.{gathers_none}
use Rattle.page_engine.proofs.RangeReads.{reached_err}
use Rattle.page_engine.proofs.Shifted.{common_part, part_within}
use Rattle.page_engine.specs.Parts.{reached}
use Rattle.page_engine.specs.Reads.{based_reads}
use Rattle.page_engine.proofs.part_page.gather_part.Goals as goal

pub returns-clause-gathers : goal.returns-clause-gathers
returns-clause-gathers g c =
    let attached = (g.I.Images.seen c.args.images.now).attached in
    let is_padded : IsPaddedPart c.args.paging.now.plan.now c.args.part.now c.in_ok-padded.padded = c.in_ok-padded.ensures.padded in
    let adds : AddsPadded c.args.part.now c.in_ok-padded.padded.first c.in_ok-found.found.lines c.args.lines.now c.add_found.new.lines = c.in_ok-add_found.ensures.adds in
    let missing = c.args.paging.now.size - length c.as_slice.result.now in
    let from = c.in_ok-padded.padded.first + (c.args.from - c.args.part.now.first) in
    let P : List ℕ → Type 0 = λ bs. IsPageFrom (told_all (padded_images bs (g.I.Images.seen c.args.images.now).attached)) c.in_ok-padded.padded.plan (c.in_ok-padded.padded.first + (c.args.from - c.args.part.now.first)) (c.args.paging.now.size - length c.as_slice.result.now) (c.args.stop - c.args.from) c.in_ok-found.found in
    let Q : Option (List (List ℕ)) → Type 0 = λ o. IsPageFrom o c.in_ok-padded.padded.plan (c.in_ok-padded.padded.first + (c.args.from - c.args.part.now.first)) (c.args.paging.now.size - length c.as_slice.result.now) (c.args.stop - c.args.from) c.in_ok-found.found in
    gathers (told_all attached) c.args.paging.now.plan.now c.args.part.now c.in_ok-padded.padded c.in_ok-found.found c.args.paging.now.size missing c.args.from c.args.stop (c.args.part.now.first + (c.in_ok-found.found.next - c.in_ok-padded.padded.first)) c.args.lines.now c.add_found.new.lines
    c.requires.part is_padded c.requires.from c.requires.range c.requires.stop c.requires.room (ap (λ (l : List Line). c.args.paging.now.size - length l) c.as_slice.ensures)
    (subst Q (told_padded c.args.part.now.bases.items attached) (subst P c.deref.ensures.0 c.in_ok-found.ensures.page)) c.in_ok-found.ensures.ended adds refl

pub returns-in_err-padded-clause-reads : goal.returns-in_err-padded-clause-reads
returns-in_err-padded-clause-reads g c = unread (told_all (g.I.Images.seen c.args.images.now).attached) c.args.paging.now.plan.now c.args.from (reached c.args.stop c.from_residual.result) (g.I.Images.seen c.args.images.now)

pub padded_page-requires-clause-lengths : goal.padded_page-requires-clause-lengths
padded_page-requires-clause-lengths g c κs within =
    let is_padded : IsPaddedPart c.args.paging.now.plan.now c.args.part.now c.in_ok-padded.padded = c.in_ok-padded.ensures.padded in
    agrees c.args.paging.now.plan.now c.args.part.now c.in_ok-padded.padded.plan c.deref.result.now (g.I.Images.seen c.args.images.now).attached is_padded.is c.deref.ensures.0 c.requires.lengths

pub padded_page-requires-clause-near : goal.padded_page-requires-clause-near
padded_page-requires-clause-near g c κs within =
    let P : List ℕ → Type 0 = λ l. All (λ base. base < 2 ^ 54) l in
    subst P (sym c.deref.ensures.0) (near_bases c.args.paging.now.plan.now c.args.part.now c.requires.plan c.requires.own c.requires.part)

pub padded_page-requires-clause-short : goal.padded_page-requires-clause-short
padded_page-requires-clause-short g c κs within = short_images c.args.paging.now.plan.now (g.I.Images.seen c.args.images.now).attached c.requires.plan c.requires.own c.requires.lengths

pub returns-in_err-found-clause-reads : goal.returns-in_err-found-clause-reads
returns-in_err-found-clause-reads g c =
    let is_padded : IsPaddedPart c.args.paging.now.plan.now c.args.part.now c.in_ok-padded.padded = c.in_ok-padded.ensures.padded in
    let within = part_within c.args.paging.now.plan.now c.args.part.now c.in_ok-padded.padded is_padded in
    let low = c.requires.from in
    let range = c.requires.range in
    let high = c.requires.stop in
    let all = stop_of (wide_total c.in_ok-padded.padded.plan) (c.in_ok-padded.padded.first + (c.args.from - c.args.part.now.first)) (c.args.stop - c.args.from) in
    let err : IsErr c.padded_page.result = search rules in
    let failed : IsErr c.from_residual-in_err-found.result = search rules in
    let stops : stop_of (wide_total c.in_ok-padded.padded.plan) (c.in_ok-padded.padded.first + (c.args.from - c.args.part.now.first)) (c.args.stop - c.args.from) ≡ c.in_ok-padded.padded.first + (c.args.stop - c.args.part.now.first) = omega arith in
    let P : ℕ → Type 0 = λ n. OnlyReads (g.I.Images.seen c.args.images.now) (g.I.Images.seen c.padded_page.new.images) (based_reads (told_all (g.I.Images.seen c.args.images.now).attached) c.args.paging.now.plan.now c.args.from n) in
    subst P (sym (reached_err c.args.stop c.from_residual-in_err-found.result failed))
    (reads_on (g.I.Images.seen c.args.images.now).attached c.args.paging.now.plan.now c.args.part.now c.in_ok-padded.padded c.deref.result.now c.args.from c.args.stop (tested_to all c.padded_page.result) (g.I.Images.seen c.args.images.now) (g.I.Images.seen c.padded_page.new.images) c.requires.plan c.requires.own c.requires.part is_padded c.deref.ensures.0 c.padded_page.ensures.reads (tested_err all c.padded_page.result err ∙ stops) low range high)

pub returns-in_err-add_found-clause-reads : goal.returns-in_err-add_found-clause-reads
returns-in_err-add_found-clause-reads g c =
    let is_padded : IsPaddedPart c.args.paging.now.plan.now c.args.part.now c.in_ok-padded.padded = c.in_ok-padded.ensures.padded in
    let within = part_within c.args.paging.now.plan.now c.args.part.now c.in_ok-padded.padded is_padded in
    let low = c.requires.from in
    let range = c.requires.range in
    let high = c.requires.stop in
    let next = c.in_ok-found.found.next in
    let ended = next_inside c.args.paging.now.plan.now c.args.part.now c.in_ok-padded.padded c.in_ok-found.found (c.args.paging.now.size - length c.as_slice.result.now) c.args.from c.args.stop is_padded c.requires.from c.requires.range c.requires.stop c.in_ok-found.ensures.ended c.in_ok-found.ensures.page.within in
    let same = ended.0 in
    let most = ended.1 in
    let on = ended.2 in
    let failed : IsErr c.from_residual-in_err-add_found.result = search rules in
    let more = page_reads_up (told_all (padded_images c.deref.result.now (g.I.Images.seen c.args.images.now).attached)) c.in_ok-padded.padded.plan (c.in_ok-padded.padded.first + (c.args.from - c.args.part.now.first)) c.in_ok-found.found.next (c.in_ok-padded.padded.first + (c.args.stop - c.args.part.now.first)) (omega arith) (omega arith) in
    let P : ℕ → Type 0 = λ n. OnlyReads (g.I.Images.seen c.args.images.now) (g.I.Images.seen c.padded_page.new.images) (based_reads (told_all (g.I.Images.seen c.args.images.now).attached) c.args.paging.now.plan.now c.args.from n) in
    subst P (sym (reached_err c.args.stop c.from_residual-in_err-add_found.result failed))
    (reads_on (g.I.Images.seen c.args.images.now).attached c.args.paging.now.plan.now c.args.part.now c.in_ok-padded.padded c.deref.result.now c.args.from c.args.stop (c.in_ok-padded.padded.first + (c.args.stop - c.args.part.now.first)) (g.I.Images.seen c.args.images.now) (g.I.Images.seen c.padded_page.new.images) c.requires.plan c.requires.own c.requires.part is_padded c.deref.ensures.0
    (reads_up (g.I.Images.seen c.args.images.now) (g.I.Images.seen c.padded_page.new.images) c.in_ok-found.ensures.reads more) refl low range high)

pub returns-clause-reads : goal.returns-clause-reads
returns-clause-reads g c =
    let is_padded : IsPaddedPart c.args.paging.now.plan.now c.args.part.now c.in_ok-padded.padded = c.in_ok-padded.ensures.padded in
    let next = c.in_ok-found.found.next in
    let high = c.requires.stop in
    let ended = next_inside c.args.paging.now.plan.now c.args.part.now c.in_ok-padded.padded c.in_ok-found.found (c.args.paging.now.size - length c.as_slice.result.now) c.args.from c.args.stop is_padded c.requires.from c.requires.range c.requires.stop c.in_ok-found.ensures.ended c.in_ok-found.ensures.page.within in
    let most = ended.1 in
    reads_on (g.I.Images.seen c.args.images.now).attached c.args.paging.now.plan.now c.args.part.now c.in_ok-padded.padded c.deref.result.now c.args.from (c.args.part.now.first + (next - c.in_ok-padded.padded.first)) next (g.I.Images.seen c.args.images.now) (g.I.Images.seen c.padded_page.new.images) c.requires.plan c.requires.own c.requires.part is_padded c.deref.ensures.0 c.in_ok-found.ensures.reads ended.0 c.requires.from ended.2 (omega arith)

pub returns-then-branch-clause-gathers : goal.returns-then-branch-clause-gathers
returns-then-branch-clause-gathers g c =
    gathers_none (told_all (g.I.Images.seen c.args.images.now).attached) c.args.paging.now.plan.now c.args.paging.now.size c.args.from c.args.stop c.args.lines.now (c.in_ok-is_ruled_out.ensures.out c.if-branch.true) c.requires.range c.requires.room

pub padded_page-requires-clause-few : goal.padded_page-requires-clause-few
padded_page-requires-clause-few g c κs within =
    let is_padded : IsPaddedPart c.args.paging.now.plan.now c.args.part.now c.in_ok-padded.padded = c.in_ok-padded.ensures.padded in
    let same = common_total c.in_ok-padded.padded.plan (common_part c.args.paging.now.plan.now c.args.part.now c.in_ok-padded.padded is_padded) in
    let few = is_padded.few in
    omega arith

pub padded_page-requires-clause-from : goal.padded_page-requires-clause-from
padded_page-requires-clause-from g c κs within =
    let is_padded : IsPaddedPart c.args.paging.now.plan.now c.args.part.now c.in_ok-padded.padded = c.in_ok-padded.ensures.padded in
    let end = part_within c.args.paging.now.plan.now c.args.part.now c.in_ok-padded.padded is_padded in
    let range = c.requires.range in
    let high = c.requires.stop in
    omega arith
