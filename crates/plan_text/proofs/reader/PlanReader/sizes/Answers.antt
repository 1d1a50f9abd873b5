use Rattle.std.proofs.lemmas.Result.{err_from_is_err_and}
use Rattle.plan_text.specs.Parts.{AreSizes, lines_of_sizes}
use Rattle.plan_text.proofs.SectionLines.{stands_chunks, stands_offsets, stands_origins, are_sizes}
use Rattle.plan_text.proofs.Refusals.{went, went_on, nowhere, is_read, refused}
use Rattle.plan_text.proofs.reader.PlanReader.sizes.Goals as goal

pub returns-in_err-chunks : goal.returns-in_err-chunks
returns-in_err-chunks c =
    let p = err_from_is_err_and c.from_residual.result c.from_residual.ensures.1 in
    rw (p.1, p.2) (refused _ _ (AreSizes c.args.each) lines_of_sizes _ c.args.self.now c.args.self.now c.in_err-chunks.field-0.0 (stands_chunks c.args.each) (nowhere _) c.in_err-chunks.ensures)

pub returns-in_err-offsets : goal.returns-in_err-offsets
returns-in_err-offsets c =
    let p = err_from_is_err_and c.from_residual-in_err-offsets.result c.from_residual-in_err-offsets.ensures.1 in
    rw (p.1, p.2) (refused _ _ (AreSizes c.args.each) lines_of_sizes _ c.args.self.now c.chunks.new.self c.in_err-offsets.field-0.0 (stands_offsets c.args.each c.in_ok-chunks.chunks c.in_ok-chunks.ensures.is_value) (went c.in_ok-chunks.ensures) (rw c.sectors_end.ensures at c.in_err-offsets.ensures))

pub returns-in_err-origins : goal.returns-in_err-origins
returns-in_err-origins c =
    let p = err_from_is_err_and c.from_residual-in_err-origins.result c.from_residual-in_err-origins.ensures.1 in
    rw (p.1, p.2) (refused _ _ (AreSizes c.args.each) lines_of_sizes _ c.args.self.now c.sectors.new.self c.in_err-origins.field-0.0 (stands_origins c.args.each c.in_ok-chunks.chunks c.in_ok-offsets.offsets c.in_ok-chunks.ensures.is_value (rw c.sectors_end.ensures at c.in_ok-offsets.ensures.is_value)) (went_on (went c.in_ok-chunks.ensures) (went c.in_ok-offsets.ensures)) c.in_err-origins.ensures)

pub returns : goal.returns
returns c = is_read (AreSizes c.args.each) lines_of_sizes _ (are_sizes c.args.each c.in_ok-chunks.chunks c.in_ok-offsets.offsets c.in_ok-origins.origins c.in_ok-chunks.ensures.is_value (rw c.sectors_end.ensures at c.in_ok-offsets.ensures.is_value) c.in_ok-origins.ensures.is_value) (went_on (went_on (went c.in_ok-chunks.ensures) (went c.in_ok-offsets.ensures)) (went c.in_ok-origins.ensures))
