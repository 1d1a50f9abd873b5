use Rattle.std.proofs.Common.{refl}
use Rattle.std.proofs.lemmas.Result.{err_from_is_err_and}
use Rattle.nbd_server.specs.Turns.{wire}
use Rattle.nbd_server.proofs.Messages.{if_both, if_known}
use Rattle.nbd_server.proofs.Ends.{greeted, ungreeted}
use Rattle.nbd_server.proofs.serving.serve.Goals as goal

pub returns-in_err-room-clause-serves : goal.returns-in_err-room-clause-serves
returns-in_err-room-clause-serves g c =
    let p = err_from_is_err_and c.from_residual.result c.from_residual.ensures.1 in
    rw (p.1, p.2) (if_known (g.D.BlockDevice.content c.args.device.now) (λ content. refl))

pub returns-in_err-put-clause-serves : goal.returns-in_err-put-clause-serves
returns-in_err-put-clause-serves g c =
    let p = err_from_is_err_and c.from_residual-in_err-put.result c.from_residual-in_err-put.ensures.1 in
    let front = rw (c.deref.ensures.0, c.greeting.ensures) at c.in_err-put.ensures.puts in
    rw (p.1, p.2, c.in_err-put.ensures.only) (if_known (g.D.BlockDevice.content c.args.device.now) (λ content.
    ungreeted g.D.BlockDevice.reads content (g.S.Source.left c.args.source.now) (g.K.Sink.gained c.args.out.now) (g.K.Sink.gained c.put.new.out) c.args.device.now front))

pub returns-clause-serves : goal.returns-clause-serves
returns-clause-serves g c =
    let put = rw (c.deref.ensures.0, c.greeting.ensures) at c.in_ok-put.ensures.puts in
    if_both (g.D.BlockDevice.content c.args.device.now) c.talk.ensures.talks c.talk.ensures.talks (λ content talks again.
    greeted g.D.BlockDevice.reads content (g.S.Source.left c.args.source.now) (g.K.Sink.gained c.args.out.now) (g.K.Sink.gained c.put.new.out) c.args.device.now
    (wire (g.S.Source.left c.talk.new.source) (g.K.Sink.gained c.talk.new.out) c.talk.new.device) c.talk.result put talks)
