use Rattle.relation_lines.specs.Reports.{lines_at}
use Rattle.relation_lines.specs.Spans.{run_of}
use Rattle.relation_lines.specs.Text.{text_of}
use Rattle.relation_lines.proofs.Puts.{puts_err}
use Rattle.relation_lines.proofs.report.take_row.Goals as goal

pub returns-in_err-goes_on-clause-put : goal.returns-in_err-goes_on-clause-put
returns-in_err-goes_on-clause-put g c =
    puts_err (g.K.Sink.gained c.args.sink.now) (g.K.Sink.gained c.put_ended.new.sink) (text_of c.args.style (lines_at (run_of c.args.span.now c.args.kept.now) (record { sector = c.args.row; table = c.args.next.now })))
    c.from_residual.result c.from_residual.ensures.0 (c.in_err-goes_on.ensures.put c.args.row)
