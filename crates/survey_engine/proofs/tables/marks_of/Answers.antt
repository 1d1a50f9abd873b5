use Rattle.std.proofs.Common.{◌≡◌, ◌++◌, ◌∷◌, ◌+◌, ◌<◌, [], length, arith, rules}
use Rattle.survey_engine.proofs.Recorded.{marks_step}
use Rattle.survey_engine.proofs.tables.marks_of.Goals as goal

pub loop-one-preserved : goal.loop-one-preserved
loop-one-preserved c =
    let below : c.loop-one.one-index < length c.args.records.now = omega arith in
    let adds : c.push.new.self ≡ c.loop-one.marks ++ c.record_mark.result ∷ [] = search rules in
    marks_step c.args.records.now c.loop-one.one-index _ c.loop-one.marks c.push.new.self c.record_mark.result below c.loop-one.invariant c.record_mark.ensures adds
