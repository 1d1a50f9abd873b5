use Rattle.std.proofs.Common.{ℕ, List, MatchResult, subst}
use Rattle.volume_classes.specs.Classes.{IsClassed}
use Rattle.class_job.specs.Classing.{IsListless}
use Rattle.run_ends.specs.Jobs.{stream}
use Rattle.class_job.proofs.Classed.{answers, textless}
use Rattle.class_job.proofs.classing.answer.Goals as goal

pub returns-in-Ok : goal.returns-in-Ok
returns-in-Ok g c seen given =
    answers c.args.images c.args.end seen given (stream (g.S.Source.left c.args.source.now) (g.S.Source.faults c.args.source.now)) (stream (g.S.Source.left c.text_left.new.source) (g.S.Source.faults c.text_left.new.source))
    c.in-Ok.text.items c.classes_in.result
    (record { text_is = c.in-Ok.ensures.text; short = c.in-Ok.ensures.short; takes = c.text_left.ensures.takes; end = c.in-Ok.ensures.end; faults = c.in-Ok.ensures.faults.stays (λ e. absurd (cc)) })
    (subst (λ (xs : List ℕ). MatchResult c.classes_in.result (IsClassed c.args.images c.args.end xs) (IsListless c.args.images c.args.end xs)) c.deref.ensures.value c.classes_in.ensures)

pub returns-in-Err : goal.returns-in-Err
returns-in-Err g c seen given =
    textless c.args.images c.args.end seen given (stream (g.S.Source.left c.args.source.now) (g.S.Source.faults c.args.source.now)) (stream (g.S.Source.left c.text_left.new.source) (g.S.Source.faults c.text_left.new.source))
    c.in-Err.stop c.in-Err.ensures.ends c.text_left.ensures.takes c.in-Err.ensures.faults
