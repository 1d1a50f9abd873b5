use Rattle.std.proofs.Common.{rules, ℕ, ◌≡◌, ◌<◌, ◌≤◌, ◌^◌, [], List, Option, Some, None, IfSome, refl, sym, subst, arith}
use Rattle.outside.specs.Attached.{told_all}
use Rattle.outside.specs.Seen.{OnlyReads}
use Rattle.page_loop.proofs.Appended.{whole_page}
use Rattle.page_loop.specs.Parts.{Whole}
use Rattle.search_terms.specs.Page.{stop_of, IsPage}
use Rattle.wide_product.specs.Sets.{wide_passes_at, wide_total}
use Rattle.common_pages.specs.Pages.{ranks_of}
use Rattle.page_engine.specs.Reads.{based_reads}
use Rattle.page_engine.proofs.PageByPage.{gives_cut}
use Rattle.page_engine.proofs.RangeReads.{wide_based}
use Rattle.page_engine.proofs.based_page.based_page.Goals as goal

pub returns-in_err-next : goal.returns-in_err-next
returns-in_err-next g c =
    let total : c.in_ok-total.total ≡ wide_total c.args.paging.now.plan.now = search rules in
    let low : c.args.from ≤ c.in_ok-total.total = search rules in
    let stop : c.min-stop.result ≡ stop_of (wide_total c.args.paging.now.plan.now) c.args.from c.args.span = omega arith in
    let few : wide_total c.args.paging.now.plan.now < 2 ^ 64 = omega arith in
    let P : ℕ → Type 0 = λ n. OnlyReads (g.I.Images.seen c.args.images.now) (g.I.Images.seen c.gather_parts.new.images) (based_reads (told_all (g.I.Images.seen c.args.images.now).attached) c.args.paging.now.plan.now c.args.from n) in
    gives_cut c.args.paging.now.plan.now c.args.paging.now.size c.args.span c.args.from (g.I.Images.seen c.args.images.now) (g.I.Images.seen c.gather_parts.new.images) c.in_err-next.field-0.0 c.from_residual-in_err-next.result c.from_residual-in_err-next.ensures.1 c.requires.own few (omega arith)
    c.in_err-next.ensures.ends (subst P stop c.in_err-next.ensures.reads)

pub returns : goal.returns
returns g c =
    let total : c.in_ok-total.total ≡ wide_total c.args.paging.now.plan.now = search rules in
    let low : c.args.from ≤ c.in_ok-total.total = search rules in
    let stop : c.min-stop.result ≡ stop_of (wide_total c.args.paging.now.plan.now) c.args.from c.args.span = omega arith in
    let P : ℕ → Type 0 = λ n. OnlyReads (g.I.Images.seen c.args.images.now) (g.I.Images.seen c.gather_parts.new.images) n in
    record {
      page = record {
        page = of_told (told_all (g.I.Images.seen c.args.images.now).attached) stop c.in_ok-next.ensures.whole;
        sets = c.in_ok-next.ensures.sets;
        total = total;
        forward = c.in_ok-next.ensures.forward;
        within = (let within = c.in_ok-next.ensures.within in omega arith);
      };
      many = λ high. absurd (omega arith);
      cursor = λ few past. absurd (omega arith);
      quiet = c.in_ok-next.ensures.quiet;
      ends = tt;
      reads = subst P (sym (wide_based (told_all (g.I.Images.seen c.args.images.now).attached) c.args.paging.now.plan.now c.args.from c.in_ok-next.next c.requires.own)) c.in_ok-next.ensures.reads;
    }
  where
    of_told : (known : Option (List (List ℕ))) → c.min-stop.result ≡ stop_of (wide_total c.args.paging.now.plan.now) c.args.from c.args.span →
        IfSome known (λ bytes. Whole (Some (wide_passes_at bytes c.args.paging.now.plan.now)) c.args.paging.now.size c.args.from [] (ranks_of c.gather_parts.new.lines) c.min-stop.result c.in_ok-next.next) →
        IfSome known (λ bytes. IsPage (wide_passes_at bytes c.args.paging.now.plan.now) (wide_total c.args.paging.now.plan.now) c.args.from c.args.paging.now.size c.args.span (ranks_of c.gather_parts.new.lines) c.in_ok-next.next)
    of_told None stop whole = tt
    of_told (Some bytes) stop whole =
        let p = wide_passes_at bytes c.args.paging.now.plan.now in
        let size = c.args.paging.now.size in
        whole_page (Some p) (Some p) (wide_total c.args.paging.now.plan.now) size size c.args.from c.args.from c.min-stop.result c.args.span c.in_ok-next.next [] (ranks_of c.gather_parts.new.lines) refl refl refl refl stop whole
