use Rattle.std.proofs.Common.{ℕ, List, sym, ap, ◌∙◌, ◌++◌}
use Rattle.std.specs.Io.KnownBytes.{Appends}
use Rattle.outside.specs.Streams.{Puts}
use Rattle.relation_lines.specs.Reports.Line.{Rows}
use Rattle.relation_lines.specs.Text.{line_text}
use Rattle.relation_lines.proofs.Ended.{goes, run_with, says_nothing, says_run, stops}
use Rattle.relation_lines.proofs.Puts.{puts_err}
use Rattle.relation_lines.proofs.Tables.{same_is}
use Rattle.relation_lines.proofs.report.put_ended.Goals as goal

pub returns-in_err-put-in-Some-2-clause-put : goal.returns-in_err-put-in-Some-2-clause-put
returns-in_err-put-in-Some-2-clause-put g c row =
    let kept = c.args.kept.now in
    let other = sym (same_is kept c.args.next.now c.is_same.result c.is_same.ensures) ∙ c.if-is_same.false in
    let bytes = c.as_slice.ensures ∙ c.say_rows.ensures ∙ ap (λ (l : List ℕ). l ++ line_text c.args.style (Rows (run_with c.in-Some-2.span kept))) c.clear.ensures in
    let old = g.K.Sink.gained c.args.sink.now in
    let new = g.K.Sink.gained c.put.new.self in
    rw c.in-Some-2.is
    (says_run (λ (l : List ℕ). Puts old new c.from_residual.result l) c.args.style c.in-Some-2.span kept (record { sector = row; table = c.args.next.now }) other
    (puts_err old new (line_text c.args.style (Rows (run_with c.in-Some-2.span kept))) c.from_residual.result c.from_residual.ensures.0 (rw bytes at c.in_err-put-in-Some-2.ensures.bytes)))

pub returns-in-Some-clause-first : goal.returns-in-Some-clause-first
returns-in-Some-clause-first g c row =
    let same = sym (same_is c.args.kept.now c.args.next.now c.is_same.result c.is_same.ensures) ∙ c.if-is_same.true in
    rw c.in-Some.is (goes c.in-Some.span c.args.kept.now (record { sector = row; table = c.args.next.now }) same)

pub returns-in-Some-clause-put : goal.returns-in-Some-clause-put
returns-in-Some-clause-put g c row =
    let same = sym (same_is c.args.kept.now c.args.next.now c.is_same.result c.is_same.ensures) ∙ c.if-is_same.true in
    rw c.in-Some.is (says_nothing c.args.style c.in-Some.span c.args.kept.now (record { sector = row; table = c.args.next.now }) (g.K.Sink.gained c.args.sink.now) same)

pub returns-in_ok-put-in-Some-2-clause-first : goal.returns-in_ok-put-in-Some-2-clause-first
returns-in_ok-put-in-Some-2-clause-first g c row =
    let other = sym (same_is c.args.kept.now c.args.next.now c.is_same.result c.is_same.ensures) ∙ c.if-is_same.false in
    rw c.in-Some-2.is (stops c.in-Some-2.span c.args.kept.now (record { sector = row; table = c.args.next.now }) other)

pub returns-in_ok-put-in-Some-2-clause-put : goal.returns-in_ok-put-in-Some-2-clause-put
returns-in_ok-put-in-Some-2-clause-put g c row =
    let kept = c.args.kept.now in
    let other = sym (same_is kept c.args.next.now c.is_same.result c.is_same.ensures) ∙ c.if-is_same.false in
    let bytes = c.as_slice.ensures ∙ c.say_rows.ensures ∙ ap (λ (l : List ℕ). l ++ line_text c.args.style (Rows (run_with c.in-Some-2.span kept))) c.clear.ensures in
    rw c.in-Some-2.is
    (says_run (λ (l : List ℕ). Appends (g.K.Sink.gained c.args.sink.now) (g.K.Sink.gained c.put.new.self) l) c.args.style c.in-Some-2.span kept (record { sector = row; table = c.args.next.now }) other
    (rw bytes at c.in_ok-put-in-Some-2.ensures.bytes))
