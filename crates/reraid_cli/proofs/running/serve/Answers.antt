use Rattle.run_ends.specs.Jobs.{around, named, stream}
use Rattle.reraid_cli.proofs.running.serve.Goals as goal

pub returns-in-Survey-clause-does : goal.returns-in-Survey-clause-does
returns-in-Survey-clause-does g c =
    rw c.in-Survey.is (c.survey.ensures.does (stream (g.S.Source.left c.args.plan.now) (g.S.Source.faults c.args.plan.now)))

pub returns-in-List-clause-does : goal.returns-in-List-clause-does
returns-in-List-clause-does g c = rw c.in-List.is c.list.ensures.does

pub returns-in-Check-clause-does : goal.returns-in-Check-clause-does
returns-in-Check-clause-does g c = rw c.in-Check.is c.check.ensures.does

pub returns-in-Map-clause-does : goal.returns-in-Map-clause-does
returns-in-Map-clause-does g c =
    rw c.in-Map.is (c.map.ensures (stream (g.S.Source.left c.args.plan.now) (g.S.Source.faults c.args.plan.now)))

pub returns-in-Write-clause-does : goal.returns-in-Write-clause-does
returns-in-Write-clause-does g c =
    rw c.in-Write.is (c.write.ensures.does (stream (g.S.Source.left c.args.plan.now) (g.S.Source.faults c.args.plan.now)))

pub returns-in-Rebuild-clause-does : goal.returns-in-Rebuild-clause-does
returns-in-Rebuild-clause-does g c =
    rw c.in-Rebuild.is (c.rebuild.ensures.does (stream (g.S.Source.left c.args.plan.now) (g.S.Source.faults c.args.plan.now)))

pub returns-in-Sample-clause-does : goal.returns-in-Sample-clause-does
returns-in-Sample-clause-does g c =
    let seen = g.I.Images.seen c.args.images.now in
    rw c.in-Sample.is (c.sample.ensures (named c.args.names seen.attached) seen (stream (g.S.Source.left c.args.plan.now) (g.S.Source.faults c.args.plan.now)))

pub returns-in-Classes-clause-does : goal.returns-in-Classes-clause-does
returns-in-Classes-clause-does g c =
    let seen = g.I.Images.seen c.args.images.now in
    rw c.in-Classes.is (c.classes.ensures seen (named c.args.names seen.attached))

pub returns-in-Mirrors-clause-does : goal.returns-in-Mirrors-clause-does
returns-in-Mirrors-clause-does g c =
    rw c.in-Mirrors.is (c.mirrors.ensures.does (stream (g.S.Source.left c.args.plan.now) (g.S.Source.faults c.args.plan.now)))

pub returns-in-MirrorWrite-clause-does : goal.returns-in-MirrorWrite-clause-does
returns-in-MirrorWrite-clause-does g c =
    rw c.in-MirrorWrite.is (c.mirrorwrite.ensures.does (stream (g.S.Source.left c.args.plan.now) (g.S.Source.faults c.args.plan.now)))

pub returns-in-Salvage-clause-does : goal.returns-in-Salvage-clause-does
returns-in-Salvage-clause-does g c = rw c.in-Salvage.is c.salvage.ensures.does

pub returns-in-Relations-clause-does : goal.returns-in-Relations-clause-does
returns-in-Relations-clause-does g c =
    rw c.in-Relations.is (c.relations.ensures.does (stream (g.S.Source.left c.args.plan.now) (g.S.Source.faults c.args.plan.now)))

pub returns-in-Help-clause-does : goal.returns-in-Help-clause-does
returns-in-Help-clause-does g c =
    let seen = g.I.Images.seen c.args.images.now in
    rw c.in-Help.is (c.help.ensures (named c.args.names seen.attached) (around seen (stream (g.S.Source.left c.args.plan.now) (g.S.Source.faults c.args.plan.now))))

pub returns-in-Version-clause-does : goal.returns-in-Version-clause-does
returns-in-Version-clause-does g c =
    let seen = g.I.Images.seen c.args.images.now in
    rw c.in-Version.is (c.version.ensures (named c.args.names seen.attached) (around seen (stream (g.S.Source.left c.args.plan.now) (g.S.Source.faults c.args.plan.now))))
