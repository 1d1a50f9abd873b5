use Rattle.std.proofs.Common.{◌≡◌, ◌∙◌, true, sym, arith, rules}
use Rattle.outside.specs.Attached.{told_all}
use Rattle.outside.specs.Seen.{AreTold}
use Rattle.survey_engine.specs.Sizing.{has_run}
use Rattle.survey_engine.proofs.Sizes.{by_run, no_run, run_alike, run_told, run_within}
use Rattle.survey_engine.proofs.sizing.sized.Goals as goal

pub returns-then-not-has_run-clause-sized : goal.returns-then-not-has_run-clause-sized
returns-then-not-has_run-clause-sized g c = no_run (told_all (g.I.Images.seen c.args.images.now).attached) c.args.asked c.args.lengths.now c.args.sighting.now (search rules)

pub read-requires : goal.read-requires
read-requires g c = run_within (g.I.Images.seen c.args.images.now).attached c.args.asked c.args.lengths.now c.args.sighting.now c.requires.lengths c.requires.sighting (search rules)

pub returns-clause-sized : goal.returns-clause-sized
returns-clause-sized g c =
    let attached = (g.I.Images.seen c.args.images.now).attached in
    let are : AreTold attached c.args.sighting.now.image c.args.sighting.now.sector c.read.new.to = search rules in
    let is : has_run c.args.asked c.args.lengths.now c.args.sighting.now ≡ true = sym c.has_run.ensures ∙ c.if-not-has_run.false in
    by_run (told_all attached) c.args.asked c.args.lengths.now c.args.sighting.now c.read.new.to c.landmark_by_run.result is
    (run_told attached c.args.lengths.now c.args.sighting.now c.read.new.to c.requires.lengths c.requires.sighting are (omega arith)) c.landmark_by_run.ensures

pub returns-clause-alike : goal.returns-clause-alike
returns-clause-alike g c = run_alike c.read.new.to c.args.sighting.now c.landmark_by_run.result c.landmark_by_run.ensures
