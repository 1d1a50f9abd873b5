use Rattle.std.proofs.Common.{◌<◌, ◌^◌, ◌++◌, ◌∙◌, [], ◌∷◌, ap, map, codes, decimal, refl}
use Rattle.std.specs.Option.{ok_or}
use Rattle.std.proofs.lemmas.Result.{err_from_is_err_and}
use Rattle.value_text.specs.NameLaws.{number_law}
use Rattle.value_text.specs.Bounded.{AreChunks}
use Rattle.value_text.specs.Spelling.{commas}
use Rattle.value_text.proofs.Fits.{chunks_are_short}
use Rattle.value_text.proofs.Lists.{word_line}
use Rattle.plan_text.proofs.OneLine.{a_line, no_line, line_answer}
use Rattle.plan_text.proofs.SectionLines.{of_items, are_chunks}
use Rattle.plan_text.proofs.reader.PlanReader.chunks.Goals as goal

pub returns-in_err-line : goal.returns-in_err-line
returns-in_err-line c =
    let p = err_from_is_err_and c.from_residual.result c.from_residual.ensures.1 in
    rw (p.1, p.2) (no_line (λ xs. AreChunks xs.items) (λ xs. codes "chunks " ++ commas (map decimal xs.items)) record { items = 1 ∷ [] } are_chunks c.args.self.now _ c.in_err-line.ensures)

pub returns : goal.returns
returns c =
    line_answer (λ xs. AreChunks xs.items) (λ xs. codes "chunks " ++ commas (map decimal xs.items)) record { items = 1 ∷ [] } are_chunks
    (λ xs is. word_line decimal (λ n. n < 2 ^ 64) number_law (codes "chunks ") (a_line (codes "chunks ") refl) xs.items (chunks_are_short xs.items is.1))
    c.args.self.now c.next_line.new.self c.in_ok-line.line.now c.chunks_after.result c.ok_or.result c.in_ok-line.ensures
    (of_items (λ xs. xs.items) (λ xs. AreChunks xs) (λ xs. codes "chunks " ++ commas (map decimal xs)) c.in_ok-line.line.now c.chunks_after.result c.chunks_after.ensures)
    (c.ok_or.ensures.value ∙ ap (λ fault. ok_or c.chunks_after.result fault) c.refusal.ensures)
