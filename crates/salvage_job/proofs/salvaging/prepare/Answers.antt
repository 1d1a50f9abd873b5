use Rattle.std.proofs.Common.{Some}
use Rattle.salvage_job.proofs.Readied.{is_ready, unready_images, unready_set, unready_text}
use Rattle.salvage_job.proofs.salvaging.prepare.Goals as goal

pub returns-in-Ok-validate-clause-ready : goal.returns-in-Ok-validate-clause-ready
returns-in-Ok-validate-clause-ready g c =
    is_ready c.args.set.now c.args.end c.args.names (g.I.Images.seen c.args.images.now).attached (g.S.Source.left c.args.source.now) (record { end = c.in-Ok.end; rescue = c.in-Ok-rescue_left.rescue })
    c.requires.attached c.requires.small c.requires.end c.in-Ok.ensures.allowed c.in-Ok-rescue_left.ensures.read c.in-Ok.ensures.end c.in-Ok-validate.ensures

pub returns-in-Err-validate-clause-unready : goal.returns-in-Err-validate-clause-unready
returns-in-Err-validate-clause-unready g c = rw c.refusal_of.ensures
    (unready_set c.args.set.now c.args.end c.args.names c.in-Ok.end (g.I.Images.seen c.args.images.now).attached (g.S.Source.left c.args.source.now) c.in-Ok-rescue_left.rescue (Some c.in-Err-validate.fault)
    c.in-Ok.ensures.allowed c.in-Ok-rescue_left.ensures.read c.in-Ok.ensures.end c.in-Err-validate.ensures)

pub returns-in-Err-rescue_left-clause-unready : goal.returns-in-Err-rescue_left-clause-unready
returns-in-Err-rescue_left-clause-unready g c =
    unready_text c.args.set.now c.args.end c.args.names (g.I.Images.seen c.args.images.now).attached (g.S.Source.left c.args.source.now) c.in-Err-rescue_left.stop c.in-Ok.ensures.allowed c.in-Err-rescue_left.ensures.unread

pub returns-in-Err-clause-unready : goal.returns-in-Err-clause-unready
returns-in-Err-clause-unready g c = unready_images c.args.set.now c.args.end c.args.names (g.I.Images.seen c.args.images.now).attached (g.S.Source.left c.args.source.now) c.in-Err.refusal c.in-Err.ensures.refused
