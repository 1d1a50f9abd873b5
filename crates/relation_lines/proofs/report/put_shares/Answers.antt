use Rattle.std.proofs.Common.{◌≡◌, ℕ, List, ◌++◌, ◌∙◌, ap, rules, slice_index}
use Rattle.relation_lines.specs.Reports.{together}
use Rattle.relation_lines.specs.Text.{line_text}
use Rattle.relation_lines.proofs.Ended.{shares_cut, shares_more, shares_text}
use Rattle.relation_lines.proofs.Puts.{puts_err}
use Rattle.relation_lines.proofs.report.put_shares.Goals as goal

pub returns-in_err-put-clause-put : goal.returns-in_err-put-clause-put
returns-in_err-put-clause-put g c =
    let x = slice_index c.args.shares.now c.loop-share.share-index in
    let bytes = c.as_slice.ensures ∙ c.say_together.ensures ∙ ap (λ (l : List ℕ). l ++ line_text c.args.style (together x)) c.clear.ensures in
    puts_err (g.K.Sink.gained c.args.sink.now) (g.K.Sink.gained c.put.new.self) (shares_text c.args.style c.args.shares.now) c.from_residual.result c.from_residual.ensures.0
    (shares_cut c.args.style c.args.shares.now c.loop-share.share-index x (g.K.Sink.gained c.args.sink.now) (g.K.Sink.gained c.loop-share.sink) (g.K.Sink.gained c.put.new.self) c.loop-share-test.true (search rules) c.loop-share.invariant.0 (rw bytes at c.in_err-put.ensures.bytes))

pub loop-share-preserved : goal.loop-share-preserved
loop-share-preserved g c =
    let x = slice_index c.args.shares.now c.loop-share.share-index in
    let bytes = c.as_slice.ensures ∙ c.say_together.ensures ∙ ap (λ (l : List ℕ). l ++ line_text c.args.style (together x)) c.clear.ensures in
    let still : g.K.Sink.faults c.put.new.self ≡ g.K.Sink.faults c.loop-share.sink = search rules in (
      shares_more c.args.style c.args.shares.now c.loop-share.share-index x (g.K.Sink.gained c.args.sink.now) (g.K.Sink.gained c.loop-share.sink) (g.K.Sink.gained c.put.new.self) c.loop-share-test.true (search rules) c.loop-share.invariant.0 (rw bytes at c.in_ok-put.ensures.bytes),
      still ∙ c.loop-share.invariant.1,
    )
