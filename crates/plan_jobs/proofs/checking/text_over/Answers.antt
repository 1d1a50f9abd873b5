use Rattle.std.proofs.Common.{sym}
use Rattle.plan_jobs.proofs.Checks.{check_refused, check_tests, tested}
use Rattle.plan_jobs.proofs.checking.text_over.Goals as goal

pub tests-requires-clause-set : goal.tests-requires-clause-set
tests-requires-clause-set g c =
    tested c.args.plan.now c.args.set.now c.args.names (g.I.Images.seen c.args.images.now).attached c.requires.plan c.requires.set c.requires.attached c.requires.agrees c.in-None.ensures.short c.in-None.ensures.ruled

pub returns-in-None : goal.returns-in-None
returns-in-None g c =
    check_tests c.args.set.now c.args.names c.args.plan.now (g.I.Images.seen c.args.images.now) (g.I.Images.seen c.tests.new.images) c.tests.result (sym c.in-None.ensures.first) c.tests.ensures

pub returns-in-Some : goal.returns-in-Some
returns-in-Some g c =
    check_refused c.args.set.now c.args.names c.args.plan.now (g.I.Images.seen c.args.images.now) c.in-Some.refusal (sym c.in-Some.ensures.first)
