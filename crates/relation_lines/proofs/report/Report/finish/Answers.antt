use Rattle.std.proofs.Common.{ℕ, ◌≡◌, ◌-◌, List, [], ◌∷◌, ◌++◌, length, map, take, not, ap, ◌∙◌, subst, rules}
use Rattle.std.specs.List.{fold}
use Rattle.std.specs.Prelude.{bit_or}
use Rattle.outside.specs.Streams.{Puts}
use Rattle.relation_lines.specs.Reports.{State, last_line, lines_end, most_sets, others, summary_of, together}
use Rattle.relation_lines.specs.Reports.Line.{Alone, Free}
use Rattle.relation_lines.specs.Sets.{is_in, set_where}
use Rattle.relation_lines.specs.Shared.{shares_of}
use Rattle.relation_lines.specs.Spans.{run_of}
use Rattle.relation_lines.specs.Text.{text_of}
use Rattle.relation_lines.proofs.Finished.{last_fails, rest_put, shares_fail}
use Rattle.relation_lines.proofs.Puts.{fails_before, puts_err}
use Rattle.relation_lines.proofs.report.Report.finish.Goals as goal

pub returns-in_err-put_last-clause-put : goal.returns-in_err-put_last-clause-put
returns-in_err-put_last-clause-put g c =
    let i = c.self.inside in
    let a = g.K.Sink.gained c.args.sink.now in
    let b = g.K.Sink.gained c.put_last.new.sink in
    let last = last_line (run_of i.span i.kept) in
    let more = summary_of (length i.kept.standings) i.sets.items i.free i.rows in
    subst (λ (s : State). Puts a b c.from_residual.result (text_of s.style (lines_end s))) c.self.view_is
    (puts_err a b (text_of i.style (last ++ more)) c.from_residual.result c.from_residual.ensures.0
    (last_fails i.style last more a b c.in_err-put_last.ensures.put (fails_before a b (text_of i.style last) (text_of i.style more) c.in_err-put_last.ensures.put)))

pub returns-in_err-put_shares-clause-put : goal.returns-in_err-put_shares-clause-put
returns-in_err-put_shares-clause-put g c =
    let i = c.self.inside in
    let a = g.K.Sink.gained c.args.sink.now in
    let b = g.K.Sink.gained c.put_last.new.sink in
    let d = g.K.Sink.gained c.put_shares.new.sink in
    let sets = i.sets.items in
    let shares = map together (take most_sets (shares_of sets)) in
    let more = others (length (shares_of sets) - most_sets) in
    let rest = Alone (set_where (length i.kept.standings) (λ image. not (is_in (fold bit_or 0 sets) image))) ∷ Free i.free i.rows ∷ [] in
    let said = c.deref-2.ensures.value ∙ c.truncate.ensures.items ∙ ap (take most_sets) c.add_shares.ensures in
    subst (λ (s : State). Puts a d c.from_residual-in_err-put_shares.result (text_of s.style (lines_end s))) c.self.view_is
    (puts_err a d (text_of i.style (last_line (run_of i.span i.kept) ++ ((shares ++ more) ++ rest))) c.from_residual-in_err-put_shares.result c.from_residual-in_err-put_shares.ensures.0
    (shares_fail i.style (last_line (run_of i.span i.kept)) shares more rest a b d c.in_ok-put_last.ensures.put (rw said at c.in_err-put_shares.ensures.put)))

pub returns-clause-put : goal.returns-clause-put
returns-clause-put g c =
    let i = c.self.inside in
    let a = g.K.Sink.gained c.args.sink.now in
    let b = g.K.Sink.gained c.put_last.new.sink in
    let d = g.K.Sink.gained c.put_shares.new.sink in
    let e = g.K.Sink.gained c.put_rest.new.sink in
    let sets = i.sets.items in
    let shares = map together (take most_sets (shares_of sets)) in
    let said = c.deref-2.ensures.value ∙ c.truncate.ensures.items ∙ ap (take most_sets) c.add_shares.ensures in
    let tied : c.union_of-tied.result ≡ fold bit_or 0 sets = c.union_of-tied.ensures ∙ ap (fold bit_or 0) c.deref.ensures.value in
    let alone : c.untied.result ≡ set_where (length i.kept.standings) (λ image. not (is_in (fold bit_or 0 sets) image)) = rw (← tied, ← c.images.ensures.images) c.untied.ensures in
    let count : length c.add_shares.new.shares.items ≡ length (shares_of sets) = ap (λ (l : List ℕ). length l) c.add_shares.ensures in
    subst (λ (s : State). Puts a e c.put_rest.result (text_of s.style (lines_end s))) c.self.view_is
    (rest_put i.style (last_line (run_of i.span i.kept)) shares _ (length (shares_of sets) - most_sets) _ (set_where (length i.kept.standings) (λ image. not (is_in (fold bit_or 0 sets) image))) i.free i.rows a b d e c.put_rest.result
    (search rules) alone c.in_ok-put_last.ensures.put (rw said at c.in_ok-put_shares.ensures.put) c.put_rest.ensures.put)
