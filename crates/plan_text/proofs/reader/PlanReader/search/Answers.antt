use Rattle.std.proofs.lemmas.Result.{err_from_is_err_and}
use Rattle.plan_text.specs.Parts.{IsSearch, lines_of_search}
use Rattle.plan_text.proofs.SearchLines.{is_search, stands_end, stands_arrays, stands_sizes, stands_counts}
use Rattle.plan_text.proofs.Refusals.{went, went_on, nowhere, is_read, refused}
use Rattle.plan_text.proofs.reader.PlanReader.search.Goals as goal

pub returns-in_err-end : goal.returns-in_err-end
returns-in_err-end c =
    let p = err_from_is_err_and c.from_residual.result c.from_residual.ensures.1 in
    rw (p.1, p.2) (refused _ _ (IsSearch c.args.shortest c.args.version.each c.args.version.third) lines_of_search _ c.args.self.now c.args.self.now c.in_err-end.field-0.0 (stands_end c.args.shortest c.args.version.each c.args.version.third) (nowhere _) c.in_err-end.ensures)

pub returns-in_err-arrays : goal.returns-in_err-arrays
returns-in_err-arrays c =
    let p = err_from_is_err_and c.from_residual-in_err-arrays.result c.from_residual-in_err-arrays.ensures.1 in
    rw (p.1, p.2) (refused _ _ (IsSearch c.args.shortest c.args.version.each c.args.version.third) lines_of_search _ c.args.self.now c.number.new.self c.in_err-arrays.field-0.0 (stands_arrays c.args.shortest c.args.version.each c.args.version.third c.in_ok-end.end c.in_ok-end.ensures.is_value.1) (went c.in_ok-end.ensures) c.in_err-arrays.ensures)

pub returns-in_err-sizes : goal.returns-in_err-sizes
returns-in_err-sizes c =
    let p = err_from_is_err_and c.from_residual-in_err-sizes.result c.from_residual-in_err-sizes.ensures.1 in
    rw (p.1, p.2) (refused _ _ (IsSearch c.args.shortest c.args.version.each c.args.version.third) lines_of_search _ c.args.self.now c.arrays.new.self c.in_err-sizes.field-0.0
    (stands_sizes c.args.shortest c.args.version.each c.args.version.third c.in_ok-end.end c.in_ok-arrays.arrays c.in_ok-end.ensures.is_value.1 c.in_ok-arrays.ensures.is_value) (went_on (went c.in_ok-end.ensures) (went c.in_ok-arrays.ensures)) c.in_err-sizes.ensures)

pub returns-in_err-counts : goal.returns-in_err-counts
returns-in_err-counts c =
    let p = err_from_is_err_and c.from_residual-in_err-counts.result c.from_residual-in_err-counts.ensures.1 in
    rw (p.1, p.2) (refused _ _ (IsSearch c.args.shortest c.args.version.each c.args.version.third) lines_of_search _ c.args.self.now c.sizes.new.self c.in_err-counts.field-0.0
    (stands_counts c.args.shortest c.args.version.each c.args.version.third c.in_ok-end.end c.in_ok-arrays.arrays c.in_ok-sizes.sizes c.in_ok-end.ensures.is_value.1 c.in_ok-arrays.ensures.is_value c.in_ok-sizes.ensures.is_value)
    (went_on (went c.in_ok-end.ensures) (went_on (went c.in_ok-arrays.ensures) (went c.in_ok-sizes.ensures))) c.in_err-counts.ensures)

pub returns : goal.returns
returns c =
    is_read (IsSearch c.args.shortest c.args.version.each c.args.version.third) lines_of_search _
    (is_search c.args.shortest c.args.version.each c.args.version.third c.in_ok-end.end c.in_ok-arrays.arrays c.in_ok-sizes.sizes c.in_ok-counts.counts c.in_ok-end.ensures.is_value.1 c.in_ok-arrays.ensures.is_value c.in_ok-sizes.ensures.is_value c.in_ok-counts.ensures.is_value)
    (went_on (went c.in_ok-end.ensures) (went_on (went c.in_ok-arrays.ensures) (went_on (went c.in_ok-sizes.ensures) (went c.in_ok-counts.ensures))))
